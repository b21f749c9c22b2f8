-- `opened`: the parts are as a ring wants them.
use Rattle.std.proofs.Common.{◌≡◌, [], ◌∷◌, ◌++◌, List, ap, ◌∙◌, refl}
use Rattle.std.specs.Prelude.{Some, Option as Maybe}
use Rattle.go_core.specs.declared.part.PartState.{PartState}
use Rattle.go_rule.proofs.Samples.{empty_part, sample_opens}
use Rattle.go_rule.proofs.tests.opened.Goals as goal

pub open-requires-clause-parts : goal.open-requires-clause-parts
open-requires-clause-parts c =
    let one : c.push.new.self.items ≡ Some empty_part ∷ [] =
    c.in_ok-push.ensures.items ∙ ap (λ (xs : List (Maybe PartState)). xs ++ Some c.part.result ∷ []) c.new-slots.ensures.items
    ∙ ap (λ (p : PartState). Some p ∷ []) c.part.ensures
    in
    let all : c.push-2.new.self.items ≡ Some empty_part ∷ Some empty_part ∷ [] =
    c.in_ok-push-2.ensures.items ∙ ap (λ (xs : List (Maybe PartState)). xs ++ Some c.part-file.result ∷ []) one
    ∙ ap (λ (p : PartState). Some empty_part ∷ Some p ∷ []) c.part-file.ensures
    in
    sample_opens _ c.push-2.new.self.items 1 refl refl (ap (λ v. v.items) c.of.ensures ∙ c.new.ensures.items) c.requires (c.of-2.ensures
    ∙ c.part-file.ensures) all
