-- `are_named`: the next name stands once too.
use Rattle.std.proofs.Common.{◌≡◌, ◌<◌, ◌≤◌, ⊎_elim, arith, rules, length, get_or, ap, ◌∙◌}
use Rattle.std.specs.Prelude.{count_by}
use Rattle.std.proofs.lemmas.Bool.{cases_lt}
use Rattle.std.proofs.lemmas.List.{get_or_default}
use Rattle.go_word.specs.declared.pin.Pin.{Pin}
use Rattle.go_word.specs.Pins.{is_named}
use Rattle.go_core.proofs.successor.are_named.Goals as goal

pub loop-pin-preserved : goal.loop-pin-preserved
loop-pin-preserved c =
    let i = c.loop-pin.pin-index in
    let pins = c.args.pins.now in
    λ k d less.
    ⊎_elim (λ (before : k < i). c.loop-pin.invariant k d before)
    (λ (here : i ≤ k).
    let is : k ≡ i = omega arith in
    let within : i < length pins = c.loop-pin-test.true in
    let same : get_or pins k d ≡ get_or pins i (record { id = 0; front = 0 }) = ap (λ n. get_or pins n d) is
    ∙ get_or_default pins i d (record { id = 0; front = 0 }) within in
    ap (λ (pin : Pin). count_by (is_named pin.id) c.args.among.now) same ∙ c.if-not-stands_once.ensures.0 (search rules)) (cases_lt k i)
