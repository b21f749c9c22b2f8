-- Lemmas on the seats of sessions: one of them is another one, and what that leaves of the others and of all views.
use Rattle.std.proofs.Common.{◌≡◌, ◌≢◌, ◌⊎◌, ℕ, zero, suc, ◌+◌, ◌-◌, ◌<◌, ◌≤◌, List, [], ◌∷◌}
use Rattle.std.proofs.Common.{◌++◌, length, set, get_or, refl, ap, arith, sym, subst, ◌∙◌, inl, inr}
use Rattle.std.specs.Prelude.{All, Contains, sum_by}
use Rattle.std.proofs.Math.ListN.{length-set}
use Rattle.std.proofs.lemmas.List.{get_or-set_same, get_or-set_other}
use Rattle.std.proofs.lemmas.List.Elements.{All-set, Contains-append_left, Contains-append_right, Contains-append_cases}
use Rattle.std.proofs.lemmas.List.Sums.{sum_by-set}
use Rattle.go_plain.specs.Owners.{IsSession}
use Rattle.go_plain.specs.Seats.{no_seat, seat_at, seats_with, total_quota, all_views, IsSeated}
use Rattle.go_plain.specs.Views.{views_of}
use Rattle.go_plain.specs.Plain.{KeepsOthers}
use Rattle.go_plain.specs.declared.seat.Seat.{Seat}

-- the seat that a session was given
pub seat_given : (seats : List Seat) (number : ℕ) (seat : Seat) → IsSession (length seats) number → seat_at (seats_with seats number seat) number ≡ seat
seat_given seats number seat is = get_or-set_same seats (number - 1) seat no_seat (omega (arith, is.from, is.to))

-- the others keep theirs
pub others_kept : (seats : List Seat) (number : ℕ) (seat : Seat) → IsSession (length seats) number → KeepsOthers number seats (seats_with seats number seat)
others_kept seats number seat is = record {
  count = length-set seats (number - 1) seat;
  each = λ other some apart.
      get_or-set_other seats (number - 1) (other - 1) seat no_seat (λ same. apart (omega (arith, some, is.from, same)));
}

-- a session that is seated in a log is seated in a longer one
seated_longer : (first short long : ℕ) (seat : Seat) → short ≤ long → IsSeated first short seat → IsSeated first long seat
seated_longer first short long seat longer is = record { from = is.from; to = omega (arith, is.to, longer); count = is.count; shown = is.shown }

pub all_seated_longer : (first short long : ℕ) (seats : List Seat) → short ≤ long → All (IsSeated first short) seats → All (IsSeated first long) seats
all_seated_longer first short long seats longer all = λ k d below. seated_longer first short long _ longer (all k d below)

-- one of them is seated otherwise
pub all_seated : (first head : ℕ) (seats : List Seat) (number : ℕ) (seat : Seat) → IsSeated first head seat → All (IsSeated first head) seats →
    All (IsSeated first head) (seats_with seats number seat)
all_seated first head seats number seat is all = All-set (IsSeated first head) seats (number - 1) seat is all

-- the seat of a session is one of them
pub is_seated : (first head : ℕ) (seats : List Seat) (number : ℕ) → IsSession (length seats) number → All (IsSeated first head) seats →
    IsSeated first head (seat_at seats number)
is_seated first head seats number is all = all (number - 1) no_seat (omega (arith, is.from, is.to))

-- with another seat the sessions may put as many as before, less what it had and more what it has
pub quota_given : (seats : List Seat) (number : ℕ) (seat : Seat) → IsSession (length seats) number →
    total_quota (seats_with seats number seat) + (seat_at seats number).quota ≡ total_quota seats + seat.quota
quota_given seats number seat is = sum_by-set (λ (s : Seat). s.quota) seats (number - 1) seat no_seat (omega (arith, is.from, is.to))

-- what a session views is viewed
all_views_there : (seats : List Seat) (k n : ℕ) → k < length seats → Contains (views_of (get_or seats k no_seat).places) n → Contains (all_views seats) n
all_views_there [] k n within there = absurd (omega (arith, within))
all_views_there (s ∷ seats) zero n within there = Contains-append_left (views_of s.places) (all_views seats) n there
all_views_there (s ∷ seats) (suc k) n within there =
    Contains-append_right (views_of s.places) (all_views seats) n (all_views_there seats k n (omega (arith, within)) there)

pub view_among : (seats : List Seat) (number n : ℕ) → IsSession (length seats) number → Contains (views_of (seat_at seats number).places) n →
    Contains (all_views seats) n
view_among seats number n is there = all_views_there seats (number - 1) n (omega (arith, is.from, is.to)) there

-- with another seat what is viewed is what that has, or was viewed before
all_views_set : (seats : List Seat) (k n : ℕ) (seat : Seat) → Contains (all_views (set seats k seat)) n →
    Contains (views_of seat.places) n ⊎ Contains (all_views seats) n
all_views_set [] k n seat there = inr there
all_views_set (s ∷ seats) zero n seat there =
    elim (Contains-append_cases (views_of seat.places) (all_views seats) n there) as
    (λ _. Contains (views_of seat.places) n ⊎ Contains (all_views (s ∷ seats)) n) [
      | inl own ↦ inl own
      | inr later ↦ inr (Contains-append_right (views_of s.places) (all_views seats) n later)
    ]
all_views_set (s ∷ seats) (suc k) n seat there =
    elim (Contains-append_cases (views_of s.places) (all_views (set seats k seat)) n there) as (λ _. Contains (views_of seat.places) n
    ⊎ Contains (all_views (s ∷ seats)) n) [
      | inl first ↦ inr (Contains-append_left (views_of s.places) (all_views seats) n first)
      | inr later ↦ elim (all_views_set seats k n seat later) as (λ _. Contains (views_of seat.places) n ⊎ Contains (all_views (s ∷ seats)) n) [
        | inl own ↦ inl own
        | inr before ↦ inr (Contains-append_right (views_of s.places) (all_views seats) n before)
      ]
    ]

-- with a seat that views the whole log or what was viewed there, so do all
pub views_given : (seats : List Seat) (number head : ℕ) (seat : Seat) → IsSession (length seats) number →
    ((n : ℕ) → Contains (views_of seat.places) n → (head ≡ n) ⊎ Contains (views_of (seat_at seats number).places) n) →
    (n : ℕ) → Contains (all_views (seats_with seats number seat)) n → (head ≡ n) ⊎ Contains (all_views seats) n
views_given seats number head seat is among n there =
    elim (all_views_set seats (number - 1) n seat there) as (λ _. (head ≡ n) ⊎ Contains (all_views seats) n) [
      | inl own ↦ elim (among n own) as (λ _. (head ≡ n) ⊎ Contains (all_views seats) n) [
        | inl whole ↦ inl whole
        | inr before ↦ inr (view_among seats number n is before)
      ]
      | inr before ↦ inr before
    ]

-- there are as many seats as before
pub seats_long : (seats : List Seat) (number : ℕ) (seat : Seat) → length (seats_with seats number seat) ≡ length seats
seats_long seats number seat = length-set seats (number - 1) seat
