-- The numbers of the stores that are made here are within their limits.
use Rattle.std.proofs.Common.{◌≡◌, ◌≢◌, ◌⊎◌, ℕ, ◌+◌, ◌*◌, ◌^◌, ◌<◌, ◌≤◌, List, Option}
use Rattle.std.proofs.Common.{Some, None, Ok, option_to_list, refl, sym, subst, arith, ◌∙◌, inl, inr, lit≤}
use native.Mathlib.Numerals.{unary_clauses}
use Rattle.std.proofs.Math.Pow.{pow_mono}
use Rattle.std.proofs.lemmas.Bool.{cases_lt}
use Rattle.std.proofs.lemmas.Nat.{pow_pos}
use Rattle.std.specs.Int.{IsPowerOfTwo, IsNextPowerOfTwo}
use Rattle.go_text.specs.Number.{number_of}
use Rattle.go_api.specs.declared.limits.TheConstants.{SLOT_LIMIT}
use Rattle.go_run.specs.Words.{IsChosen, IsRing}
use Rattle.go_run.specs.Found.{IsOneNumber}
use Rattle.go_run.specs.declared.limits.TheConstants.{RING}
use Rattle.go_api.specs.Limits.{IsSetup}

-- where nothing else is asked for
pub usual_setup : IsSetup (record { vertices = 65536; ring = 65536; shards = 8 })
usual_setup = record {
  some_vertices = lit≤ tt;
  few_vertices = lit≤ tt;
  enough_slots = lit≤ tt;
  few_slots = lit≤ tt;
  slots_double = (16, refl);
  some_shards = lit≤ tt;
  few_shards = lit≤ tt;
}

-- of the small stores of tests
pub small_setup : IsSetup (record { vertices = 8; ring = 128; shards = 2 })
small_setup = record {
  some_vertices = lit≤ tt;
  few_vertices = lit≤ tt;
  enough_slots = lit≤ tt;
  few_slots = lit≤ tt;
  slots_double = (7, refl);
  some_shards = lit≤ tt;
  few_shards = lit≤ tt;
}

-- no power of two lies between one and its double
between : (a b : ℕ) → 2 ^ a < 2 ^ (b + 1) → 2 ^ b ≤ 2 ^ a → 2 ^ a ≡ 2 ^ b
between a b below above =
    elim (cases_lt b a) [
      | inl many ↦ absurd (let high : 2 ^ (b + 1) ≤ 2 ^ a = pow_mono {i = b + 1} {j = a} (omega (arith, many)) in omega (arith, high, below))
      | inr few ↦ (let low : 2 ^ a ≤ 2 ^ b = pow_mono {i = a} {j = b} few in omega (arith, low, above))
    ]

twice : (b : ℕ) → 2 ^ (b + 1) ≡ 2 * 2 ^ b
twice b = simp unary_clauses (omega arith)

-- the least power of two that is a number or above it is the number, where that is a power of two
pub least_power : (n p : ℕ) → IsPowerOfTwo n → IsNextPowerOfTwo n p → p ≡ n
least_power n p (b, is) ((a, power), above, below) =
    let some = pow_pos b in
    power ∙ between a b (omega (arith, is, power, below, twice b, some)) (omega (arith, is, power, above)) ∙ sym is

-- a number of slots that isn't the least power of two at or above it is no number of a ring's slots
pub no_ring : (value : Option (List ℕ)) (text : List ℕ) (slots p : ℕ) → value ≡ Some text → Ok slots ≡ number_of SLOT_LIMIT text →
    IsNextPowerOfTwo slots p → p ≢ slots → IsOneNumber IsRing RING value None
no_ring value text slots p is reads next other_than = record {
  some = tt;
  alone = λ other chosen.
      let meant = subst (λ (v : Option (List ℕ)). IsChosen IsRing RING (option_to_list v) other) is chosen in
      let same : slots ≡ other = (let h : Ok slots ≡ Ok other = reads ∙ meant.0.0 in cc) in
      absurd (other_than (least_power slots p (subst (λ (n : ℕ). IsPowerOfTwo n) (sym same) meant.1) next));
}
