-- Positions less than a lap apart have slots of their own.
use Rattle.std.proofs.Common.{◌≡◌, ℕ, ◌+◌, ◌*◌, ◌/◌, ◌%◌, ◌<◌, ◌≤◌, ◌≢◌, sym, ⊎_elim, arith}
use Rattle.std.proofs.lemmas.Bool.{cases_lt}
use Rattle.std.proofs.Math.Nat.{div-add-mod, mul-le-mul_left}
use Rattle.go_core.specs.Frame.{Frame, place}

-- the greater of two positions with one remainder is a lap away or the same
same_lap : (p q n : ℕ) → p ≤ q → q < p + n → p % n ≡ q % n → p ≡ q
same_lap p q n order near same =
    let parts_p : n * (p / n) + p % n ≡ p = div-add-mod p n in
    let parts_q : n * (q / n) + q % n ≡ q = div-add-mod q n in
    ⊎_elim
    (λ (less : p / n < q / n).
    let step : n * (p / n + 1) ≤ n * (q / n) = mul-le-mul_left n (less_suc (p / n) (q / n) less) in
    far p q n (p / n) (q / n) (p % n) (q % n) parts_p parts_q same step near)
    (λ (over : q / n ≤ p / n).
    let step : n * (q / n) ≤ n * (p / n) = mul-le-mul_left n over in
    close p q (n * (p / n)) (n * (q / n)) (p % n) (q % n) parts_p parts_q same step order)
    (cases_lt (p / n) (q / n))
  where
    less_suc : (a b : ℕ) → a < b → a + 1 ≤ b
    less_suc a b less = omega arith

    far : (p q n a b r s : ℕ) → n * a + r ≡ p → n * b + s ≡ q → r ≡ s → n * (a + 1) ≤ n * b → q < p + n → p ≡ q
    far p q n a b r s one two same step near = omega arith

    close : (p q a b r s : ℕ) → a + r ≡ p → b + s ≡ q → r ≡ s → b ≤ a → p ≤ q → p ≡ q
    close p q a b r s one two same step order = omega arith

-- two positions of one window have two places
pub place-apart : (f : Frame) (from p q : ℕ) → from ≤ p → p < from + f.slots → from ≤ q → q < from + f.slots → p ≢ q → place f p ≢ place f q
place-apart f from p q p_from p_to q_from q_to ne same =
    let rest : p % f.slots ≡ q % f.slots = omega arith in
    ⊎_elim (λ (less : p < q). ne (same_lap p q f.slots (omega arith) (omega arith) rest))
    (λ (over : q ≤ p). ne (sym (same_lap q p f.slots over (omega arith) (sym rest)))) (cases_lt p q)
