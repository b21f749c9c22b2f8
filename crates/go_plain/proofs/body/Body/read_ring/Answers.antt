-- What `read_ring` gives.
use Rattle.std.proofs.Common.{◌≡◌, ◌-◌, ◌≤◌, ◌++◌, List, drop, length, map, take, sym, ap, subst, ◌∙◌}
use Rattle.go_word.specs.declared.edge.Edge.{Edge}
use Rattle.go_plain.specs.Past.{log_of}
use Rattle.go_plain.specs.Plain.{PlainState}
use Rattle.go_plain.proofs.ReadingLemmas.{ring_range}
use Rattle.go_plain.proofs.body.Body.read_ring.Goals as goal

pub returns : goal.returns
returns g c =
    let log : List Edge = log_of c.self.inside.found.value.items (map (λ one. one.value) c.self.inside.past.items) c.self.inside.ring in
    let from = subst (λ (s : PlainState _). s.moved ≤ c.args.from) (sym c.self.view_is) c.requires.from in
    let entries = c.entries-entries.ensures.exact ∙ c.self.invariant.1.arranged.pending.entries in
    let range = ring_range c.self.inside.moved c.args.from c.args.to log c.entries-entries.result.now from c.requires.order entries in
    record {
      adds = c.in_ok-extend_from_slice.ensures.items ∙ ap (λ (l : List Edge). c.args.out.now.items ++ l) (range
          ∙ ap (λ (s : PlainState _). drop c.args.from (take c.args.to s.log)) c.self.view_is);
    }
