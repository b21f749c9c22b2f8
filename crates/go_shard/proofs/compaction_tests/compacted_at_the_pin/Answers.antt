-- The compaction goes up to the pin at most.
use Rattle.std.proofs.Common.{◌≡◌, ◌≤◌, ℕ, List, [], ◌∷◌, All, ap, subst, arith, ◌∙◌}
use Rattle.go_word.specs.declared.pin.Pin.{Pin}
use Rattle.go_shard.specs.ShardState.{ShardState}
use Rattle.go_shard.proofs.compaction_tests.compacted_at_the_pin.Goals as goal

-- what is below each pin is below the one that there is
low : (settled : ℕ) (pins : List Pin) → pins ≡ record { id = 9; front = 3 } ∷ [] → All (λ pin. settled ≤ pin.front) pins → settled ≤ 3
low settled pins are all = subst (All (λ pin. settled ≤ pin.front)) are all 0 (record { id = 9; front = 3 }) (omega arith)

pub returns-clause-pinned : goal.returns-clause-pinned
returns-clause-pinned c =
    let pins = ap (λ (s : ShardState). s.pins) c.in_ok-append.ensures.grown.same ∙ c.requires.pins in
    c.in_ok-compact.ensures.forgotten.keeps 3 (low c.settled-settled.result _ pins c.settled-settled.ensures.pinned)
    (c.in_ok-append.ensures.grown.keeps 3 c.requires.pinned)

pub returns-clause-uncut : goal.returns-clause-uncut
returns-clause-uncut c =
    let pins = ap (λ (s : ShardState). s.pins) c.in_ok-append.ensures.grown.same ∙ c.requires.pins in
    let cut = ap (λ (s : ShardState). s.cut) c.in_ok-compact.ensures.forgotten.same in
    omega (arith, cut, low c.settled-settled.result _ pins c.settled-settled.ensures.pinned)
