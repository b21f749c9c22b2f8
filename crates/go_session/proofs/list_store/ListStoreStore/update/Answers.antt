-- What comes of a stream of the list.
use Rattle.std.proofs.Common.{◌≡◌, ◌+◌, ◌-◌, ◌++◌, [], List, length, take, drop, slice_set, arith, sym, subst, ap, ◌∙◌}
use Rattle.go_word.specs.declared.edge.Edge.{Edge}
use Rattle.go_api.specs.Calls.{CanStream, IsUpdated}
use Rattle.go_api.specs.Standing.{Standing}
use Rattle.go_api.specs.declared.place.Place.TheVariants.{Stream}
use Rattle.go_session.specs.Listed.{listed, listed_terms}
use Rattle.go_session.proofs.ListedLemmas.{listed_updated}
use Rattle.go_session.proofs.list_store.ListStoreStore.update.Goals as goal

pub returns-in-Ok-clause-updates : goal.returns-in-Ok-clause-updates
returns-in-Ok-clause-updates c =
    let terms = listed_terms c.self.inside.vertices c.self.inside.ring in
    let now = listed terms c.self.inside.log.items c.self.inside.quota (slice_set c.self.inside.places c.args.place (Stream c.min-to.result)) in
    let can = subst (λ (s : Standing). CanStream c.args.place c.args.most s) (sym c.self.view_is) c.requires in
    subst (λ (s : Standing). IsUpdated c.args.place c.args.most c.extend_from_slice.new.self.items
    (record { from = c.in-Stream.from; to = c.min-to.result }) s now) c.self.view_is
    (listed_updated c.self.inside.vertices c.self.inside.ring c.self.inside.log.items c.self.inside.quota c.self.inside.places c.args.place c.args.most
    c.in-Stream.from c.min-to.result c.extend_from_slice.new.self.items c.self.invariant can c.in-Stream.is
    (omega (arith, c.min-to.ensures, c.from.ensures, c.len.ensures, c.self.inside.log.ok.0))
    (c.in-Ok.ensures.items ∙ ap (λ (l : List Edge). l ++ take (c.min-to.result - c.in-Stream.from) (drop c.in-Stream.from c.deref.result.now))
    c.clear.ensures.items
    ∙ ap (λ (l : List Edge). take (c.min-to.result - c.in-Stream.from) (drop c.in-Stream.from l)) c.deref.ensures.value))
