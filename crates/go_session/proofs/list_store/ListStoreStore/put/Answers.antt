-- What a put makes of the list.
use Rattle.std.proofs.Common.{◌≡◌, ◌-◌, ◌∷◌, [], length, sym, subst, ap, ◌∙◌, arith}
use Rattle.go_api.specs.Calls.{MayPut, IsPut}
use Rattle.go_api.specs.Standing.{Standing, IsSound}
use Rattle.go_session.specs.Listed.{listed, listed_terms}
use Rattle.go_session.proofs.ListedLemmas.{listed_more, listed_put_one}
use Rattle.go_session.proofs.list_store.ListStoreStore.put.Goals as goal

pub invariant_of-self : goal.invariant_of-self
invariant_of-self c =
    listed_more c.self.inside.vertices c.self.inside.ring c.self.inside.log.items (c.args.edge ∷ []) c.push.new.self.items c.self.inside.quota
    c.self.inside.places c.self.invariant (subst (λ (s : Standing). MayPut (c.args.edge ∷ []) s) (sym c.self.view_is) c.requires) c.in-Ok.ensures.items

pub returns-in-Ok-clause-puts : goal.returns-in-Ok-clause-puts
returns-in-Ok-clause-puts c =
    let terms = listed_terms c.self.inside.vertices c.self.inside.ring in
    let may = subst (λ (s : Standing). MayPut (c.args.edge ∷ []) s) (sym c.self.view_is) c.requires in
    let there : c.front-position.result ≡ length c.self.inside.log.items =
    c.front-position.ensures ∙ sym (ap (λ (s : Standing). s.log.known) c.self.view_is) in
    subst (λ (s : Standing). IsPut c.args.edge c.front-position.result s
    (listed terms c.push.new.self.items (c.self.inside.quota - 1) c.self.inside.places)) c.self.view_is
    (listed_put_one terms c.self.inside.log.items c.push.new.self.items c.self.inside.quota c.front-position.result c.self.inside.places c.args.edge
    c.in-Ok.ensures.items may.quota there)

pub returns-in-Ok-clause-sound : goal.returns-in-Ok-clause-sound
returns-in-Ok-clause-sound c = (invariant_of-self c).sound
