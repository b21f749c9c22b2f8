-- What `flush` keeps and leads to.
use Rattle.std.proofs.Common.{◌-◌, List, length, take, drop, refl, sym, ap, subst, ◌∙◌}
use Rattle.go_word.specs.declared.edge.Edge.{Edge}
use Rattle.go_durable.specs.Journal.{KeepsOn}
use Rattle.go_plain.specs.Plain.{PlainState}
use Rattle.go_durable.specs.declared.journal.Journal.{Journal}
use Rattle.go_plain.proofs.StoreLemmas.{plain_flushed, flush_is, lacks_next}
use Rattle.go_plain.proofs.StandingLemmas.{stays_store}
use Rattle.go_plain.proofs.PastLemmas.{journal_there, rest_is}
use Rattle.go_plain.proofs.body.Body.flush.Goals as goal

pub invariant_of-self : goal.invariant_of-self
invariant_of-self g c =
    let opened = c.self.inside.opened.value.disk in
    let journal = journal_there opened c.self.inside.journal c.in-Some.journal (sym c.take.ensures.value ∙ c.in-Some.is) in
    let new = c.flush-journal.result.journal in
    let kept = journal_there opened c.replace.new.self new c.replace.ensures.after in
    let lacking = c.front.result - c.self.inside.moved in
    let edges : List Edge = take (length c.entries.result.now - lacking) (drop lacking c.entries.result.now) in
    let on = subst (λ (j : Journal _). KeepsOn g.D.Disk.device edges j new) (sym journal) c.flush-journal.ensures.keeps in
    let are = rest_is lacking c.entries.result.now ∙ rw (journal, c.front.ensures, c.entries.ensures.exact) refl in (
      rw c.replace.ensures.after refl,
      rw kept (plain_flushed g.D.Disk.device _ c.self.inside.ring c.self.inside.shards.items c.self.invariant.1 edges new
          (lacks_next g.D.Disk.device _ c.self.inside.ring c.self.inside.shards.items c.self.invariant.1 edges are) on),
      c.self.invariant.2,
    )

pub returns-clause-only : goal.returns-clause-only
returns-clause-only g c =
    let opened = c.self.inside.opened.value.disk in
    let journal = journal_there opened c.self.inside.journal c.in-Some.journal (sym c.take.ensures.value ∙ c.in-Some.is) in
    let new = c.flush-journal.result.journal in
    let kept = journal_there opened c.replace.new.self new c.replace.ensures.after in
    let was = ap (λ (s : PlainState _). s.journal) (sym c.self.view_is) ∙ journal in
    record {
      same = flush_is _ c.args.self.now _ c.self.view_is;
      no_less = rw (was, kept) c.flush-journal.ensures.keeps.no_less;
      met_stays = rw (was, kept) c.flush-journal.ensures.keeps.met_stays;
    }

pub returns-clause-stays : goal.returns-clause-stays
returns-clause-stays g c =
    stays_store g.D.Disk.device c.args.self.now _ c.self.inside.ring c.self.inside.shards.items (ap (λ (s : PlainState _). length s.seats) c.self.view_is)
    (invariant_of-self g c).1
