-- `opened`: the parts are as a ring wants them.
use Rattle.std.proofs.Common.{◌≡◌, [], ◌∷◌, ◌++◌, List, ap, ◌∙◌, refl, arith}
use Rattle.std.specs.Prelude.{Some, Option as Maybe}
use Rattle.go_core.specs.declared.part.PartState.{PartState}
use Rattle.go_rule.proofs.Samples.{empty_part, sample_opens}
use Rattle.go_rule.proofs.turn_tests.opened.Goals as goal

pub open-requires-clause-parts : goal.open-requires-clause-parts
open-requires-clause-parts c =
    let one : c.push.new.self.items ≡ Some empty_part ∷ [] =
    c.in_ok-push.ensures.items ∙ ap (λ (xs : List (Maybe PartState)). xs ++ Some c.part.result ∷ []) c.new-slots.ensures.items
    ∙ ap (λ (p : PartState). Some p ∷ []) c.part.ensures
    in
    let two : c.push-2.new.self.items ≡ Some empty_part ∷ Some empty_part ∷ [] =
    c.in_ok-push-2.ensures.items ∙ ap (λ (xs : List (Maybe PartState)). xs ++ Some c.part-2.result ∷ []) one
    ∙ ap (λ (p : PartState). Some empty_part ∷ Some p ∷ []) c.part-2.ensures
    in
    let three : c.push-3.new.self.items ≡ Some empty_part ∷ Some empty_part ∷ Some empty_part ∷ [] =
    c.in_ok-push-3.ensures.items ∙ ap (λ (xs : List (Maybe PartState)). xs ++ Some c.part-3.result ∷ []) two
    ∙ ap (λ (p : PartState). Some empty_part ∷ Some empty_part ∷ Some p ∷ []) c.part-3.ensures
    in
    let all : c.push-4.new.self.items ≡ Some empty_part ∷ Some empty_part ∷ Some empty_part ∷ Some empty_part ∷ [] =
    c.in_ok-push-4.ensures.items ∙ ap (λ (xs : List (Maybe PartState)). xs ++ Some c.part-file.result ∷ []) three
    ∙ ap (λ (p : PartState). Some empty_part ∷ Some empty_part ∷ Some empty_part ∷ Some p ∷ []) c.part-file.ensures
    in
    sample_opens _ c.push-4.new.self.items 3 refl refl (ap (λ v. v.items) c.of.ensures ∙ c.new.ensures.items) (omega arith) (c.of-2.ensures
    ∙ c.part-file.ensures) all
