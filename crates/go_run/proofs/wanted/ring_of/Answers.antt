-- The number of slots.
use Rattle.std.proofs.Common.{◌≡◌, List, ℕ, Some, option_copied, refl, sym, ap, subst, ◌∙◌}
use Rattle.std.specs.Borrow.{Bor}
use Rattle.go_run.proofs.SetupLemmas.{no_ring}
use Rattle.go_run.proofs.wanted.ring_of.Goals as goal

pub returns-in_default-number : goal.returns-in_default-number
returns-in_default-number c =
    let value : option_copied c.args.value ≡ Some c.as_bytes.result.now =
    ap option_copied c.in-Some.is ∙ ap (λ (v : List ℕ). Some v) (sym c.as_bytes.ensures.value) in
    let next = c.next_power_of_two.ensures in
    record {
      one = no_ring (option_copied c.args.value) c.as_bytes.result.now c.in-Ok.slots c.next_power_of_two.result value
          (sym c.in-Ok.is ∙ c.number.ensures) (next.power, next.lower_bound, next.upper_bound) c.if-next_power_of_two-slots.false;
      within = tt;
      double = tt;
    }

pub returns-in_default-clause-double : goal.returns-in_default-clause-double
returns-in_default-clause-double c = (16, refl)
