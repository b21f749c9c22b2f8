-- What puts make of the list.
use Rattle.std.proofs.Common.{◌≡◌, ◌-◌, ◌+◌, ◌<◌, length, Some, None, sym, subst, ap, ◌∙◌, arith}
use Rattle.go_api.specs.Calls.{MayPut, PutsAll, PutsSome}
use Rattle.go_api.specs.Standing.{Standing, IsSound}
use Rattle.go_api.specs.declared.stop.Stop.TheVariants.{Memory}
use Rattle.go_session.specs.Listed.{listed, listed_terms}
use Rattle.go_session.proofs.BrokenLemmas.{memory_tells}
use Rattle.go_session.proofs.ListedLemmas.{listed_more, listed_put_all, puts_no_more, some_there}
use Rattle.go_session.proofs.list_store.ListStoreStore.put_entries.Goals as goal

pub returns-then-is_empty-clause-sound : goal.returns-then-is_empty-clause-sound
returns-then-is_empty-clause-sound c = subst (λ (s : Standing). IsSound s) c.self.view_is c.self.invariant.sound

pub invariant_of-self : goal.invariant_of-self
invariant_of-self c =
    listed_more c.self.inside.vertices c.self.inside.ring c.self.inside.log.items c.args.edges.now c.extend_from_slice.new.self.items c.self.inside.quota
    c.self.inside.places c.self.invariant (subst (λ (s : Standing). MayPut c.args.edges.now s) (sym c.self.view_is) c.requires) c.in-Ok.ensures.items

pub returns-in-Ok-clause-puts : goal.returns-in-Ok-clause-puts
returns-in-Ok-clause-puts c =
    let some = some_there (length c.args.edges.now) c.if-is_empty.ensures in
    let terms = listed_terms c.self.inside.vertices c.self.inside.ring in
    let may = subst (λ (s : Standing). MayPut c.args.edges.now s) (sym c.self.view_is) c.requires in
    subst (λ (s : Standing). PutsAll c.args.edges.now (Some (c.len.result - 1)) s
    (listed terms c.extend_from_slice.new.self.items (c.self.inside.quota - length c.args.edges.now) c.self.inside.places)) c.self.view_is
    (listed_put_all terms c.self.inside.log.items c.args.edges.now c.extend_from_slice.new.self.items c.self.inside.quota (c.len.result - 1)
    c.self.inside.places c.in-Ok.ensures.items may.quota
    some (omega (arith, some, c.len.ensures, c.in-Ok.ensures.len, c.extend_from_slice.new.self.ok.0)))

pub returns-in-Ok-clause-sound : goal.returns-in-Ok-clause-sound
returns-in-Ok-clause-sound c = (invariant_of-self c).sound

pub returns-in-Err-clause-puts : goal.returns-in-Err-clause-puts
returns-in-Err-clause-puts c =
    let terms = listed_terms c.self.inside.vertices c.self.inside.ring in
    let here = listed terms c.self.inside.log.items c.self.inside.quota c.self.inside.places in
    rw c.in-Err.ensures.items (subst (λ (s : Standing). PutsSome c.args.edges.now Memory s here) c.self.view_is
    (puts_no_more c.args.edges.now Memory here (some_there (length c.args.edges.now) c.if-is_empty.ensures) (memory_tells here)))
