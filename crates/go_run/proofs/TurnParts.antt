-- What turns of sessions change, and how many own positions they have together.
use Rattle.std.proofs.Common.{◌≡◌, ◌≢◌, ◌⊎◌, ℕ, zero, suc, ◌+◌, ◌-◌, ◌<◌, ◌≤◌, ◌==◌, if◌then◌else◌}
use Rattle.std.proofs.Common.{List, [], ◌∷◌, length, take, drop, map, set}
use Rattle.std.proofs.Common.{slice_get, get_or, Some, None, sum_by, refl, ap, arith, sym, subst, ◌∙◌, inl, inr}
use Rattle.std.specs.Prelude.{All}
use Rattle.std.proofs.lemmas.Bool.Decides.{eqb_tells}
use Rattle.std.proofs.lemmas.List.{append-nil, take-take, take_all, drop_all, length-map}
use Rattle.std.proofs.lemmas.List.Sums.{sum_by-cons}
use Rattle.std.proofs.lemmas.Option.{slice_get-get_or}
use Rattle.go_word.specs.declared.edge.Edge.{Edge}
use Rattle.go_api.specs.Alone.{positions}
use Rattle.go_api.specs.Standing.{Standing}
use Rattle.go_api.specs.declared.stop.Stop.{Stop}
use Rattle.go_plain.specs.Owners.{owned, IsSession}
use Rattle.go_plain.specs.Plain.{PlainState}
use Rattle.go_script.specs.Until.{Counted, AsksTooMuch}
use Rattle.go_report.specs.declared.reply.Reply.{Reply}
use Rattle.go_script.specs.declared.command.Command.{Command}
use Rattle.go_session.specs.Asked.{asked_with, lists_of, put_by_answered}
use Rattle.go_session.specs.Session.{SessionState, CanGoOn, IsAt, IsHalted, Stepped, put_in, walk_of}
use Rattle.go_session.specs.declared.session.Step.{Step}
use Rattle.go_session.specs.declared.session.Step.TheVariants.{Did, Waits, Ended, Stopped}
use Rattle.go_run.specs.Driving.{GoOnOver}
use Rattle.go_run.specs.Reading.{counted_in, WaitsForCertain}
use Rattle.go_run.specs.Turns.{Aim, aim_of}

-- what waits for what is the same where the aims are
abbrev counted_as : List (List Edge) → Aim → Counted
counted_as loads aim = record { commands = aim.commands; files = map length (lists_of loads aim.lists) }

counted_map : (loads : List (List Edge)) (sessions : List SessionState) → map (counted_in loads) sessions ≡ map (counted_as loads) (map aim_of sessions)
counted_map loads [] = refl
counted_map loads (session ∷ sessions) = ap (λ (l : List Counted). counted_in loads session ∷ l) (counted_map loads sessions)

pub waits_on : (loads : List (List Edge)) (olds news : List SessionState) → map aim_of news ≡ map aim_of olds → WaitsForCertain loads olds →
    WaitsForCertain loads news
waits_on loads olds news same waits = λ i n too.
    waits i n (subst (λ (l : List Counted). AsksTooMuch l i n)
    (counted_map loads news ∙ ap (λ (l : List Aim). map (counted_as loads) l) same ∙ sym (counted_map loads olds)) too)

-- sessions go on over a store: without a turn, and over turns one after another
pub go_same : {D : Type 0} (sessions : List SessionState) (store : PlainState D) → GoOnOver sessions sessions store store
go_same sessions store = record {
  aims = refl;
  origin = refl;
  room = refl;
  begins = take_all (length store.log) store.log (omega arith);
  longer = omega arith;
  no_less = omega arith;
}

pub go_further : {D : Type 0} (one two three : List SessionState) (first second third : PlainState D) → GoOnOver one two first second →
    GoOnOver two three second third → GoOnOver one three first third
go_further one two three first second third early late = record {
  aims = late.aims ∙ early.aims;
  origin = late.origin ∙ early.origin;
  room = late.room ∙ early.room;
  begins = sym (take-take (length first.log) (length second.log) third.log early.longer)
      ∙ ap (λ (l : List Edge). take (length first.log) l) late.begins ∙ early.begins;
  longer = omega (arith, early.longer, late.longer);
  no_less = omega (arith, early.no_less, late.no_less);
}

-- the element of a list in which one was set
pub get_set : {X : Type 0} (xs : List X) (i j : ℕ) (v x : X) → slice_get (set xs i v) j ≡ Some x →
    ((j ≡ i) × (x ≡ v)) ⊎ ((j ≢ i) × (slice_get xs j ≡ Some x))
get_set [] i j v x here = absurd (let h : None ≡ Some x = here in cc)
get_set (y ∷ xs) zero zero v x here = inl (refl, (let h : Some v ≡ Some x = here in cc))
get_set (y ∷ xs) zero (suc j) v x here = inr ((λ e. absurd (omega (arith, e))), here)
get_set (y ∷ xs) (suc i) zero v x here = inr ((λ e. absurd (omega (arith, e))), here)
get_set (y ∷ xs) (suc i) (suc j) v x here = elim (get_set xs i j v x here) [
  | inl h ↦ inl (ap (λ (n : ℕ). suc n) h.0, h.1)
  | inr h ↦ inr ((λ e. h.0 (omega (arith, e))), h.1)
]

-- what is asked of sessions stays where one of them took its turn
pub set_aims : (sessions : List SessionState) (i : ℕ) (old new : SessionState) → slice_get sessions i ≡ Some old → aim_of new ≡ aim_of old →
    map aim_of (set sessions i new) ≡ map aim_of sessions
set_aims [] i old new here same = refl
set_aims (session ∷ sessions) zero old new here same =
    let is : session ≡ old = (let h : Some session ≡ Some old = here in cc) in
    ap (λ (a : Aim). a ∷ map aim_of sessions) (same ∙ ap aim_of (sym is))
set_aims (session ∷ sessions) (suc i) old new here same = ap (λ (l : List Aim). aim_of session ∷ l) (set_aims sessions i old new here same)

-- a step changes nothing of it
pub aim_kept : (loads : List (List Edge)) (step : Step) (old new : SessionState) (before after : Standing) → Stepped loads step old new before after →
    aim_of new ≡ aim_of old
aim_kept loads Did old new before after stepped = ap aim_of stepped.replied
aim_kept loads (Waits seen) old new before after stepped = ap aim_of stepped.same
aim_kept loads Ended old new before after stepped = ap aim_of stepped.same
aim_kept loads (Stopped why) old new before after stepped = ap aim_of stepped.same

-- whether the session can go on after a step
abbrev pub IsGoing : Step → Type 0
IsGoing Did = Unit {0}
IsGoing (Waits seen) = Unit {0}
IsGoing Ended = Unit {0}
IsGoing (Stopped why) = ⊥

-- whether the session answered nothing, and can go on
abbrev pub IsResting : Step → Type 0
IsResting Did = ⊥
IsResting (Waits seen) = Unit {0}
IsResting Ended = Unit {0}
IsResting (Stopped why) = ⊥

-- equal sessions have the same replies, commands and lists
pub same_parts : (new old : SessionState) → new ≡ old → (new.replies ≡ old.replies) × (new.commands ≡ old.commands) × (new.lists ≡ old.lists)
same_parts new old same =
    (ap (λ (s : SessionState). s.replies) same, ap (λ (s : SessionState). s.commands) same, ap (λ (s : SessionState). s.lists) same)

-- what was put is the same where replies, commands and lists are
pub put_same : (loads : List (List Edge)) (new old : SessionState) → new.replies ≡ old.replies → new.commands ≡ old.commands → new.lists ≡ old.lists →
    put_in loads new ≡ put_in loads old
put_same loads new old replies commands lists =
    ap (λ (l : List Reply). put_by_answered (asked_with new.commands (lists_of loads new.lists)) l) replies
    ∙ ap (λ (l : List Command). put_by_answered (asked_with l (lists_of loads new.lists)) old.replies) commands
    ∙ ap (λ (l : List ℕ). put_by_answered (asked_with old.commands (lists_of loads l)) old.replies) lists

pub can_after : (loads : List (List Edge)) (step : Step) (old new : SessionState) (before after : Standing) → Stepped loads step old new before after →
    CanGoOn loads old before → IsGoing step → CanGoOn loads new after
can_after loads Did old new before after stepped can going = stepped.goes_on
can_after loads (Waits seen) old new before after stepped can going = stepped.goes_on
can_after loads Ended old new before after stepped can going =
    subst (λ (s : SessionState). CanGoOn loads s after) (sym stepped.same) (subst (λ (t : Standing). CanGoOn loads old t) (sym stepped.untouched) can)
can_after loads (Stopped why) old new before after stepped can going = absurd going

-- a session that can go on stands as one that was stopped may
pub can_halt : (loads : List (List Edge)) (session : SessionState) (s : Standing) → IsAt loads session s → IsHalted loads session s
can_halt loads session s at =
    let none : drop (walk_of s session).used s.own ≡ [] = drop_all (walk_of s session).used s.own (omega (arith, at.used)) in
    record {
      allowed = at.allowed;
      count = 0;
      fewer = omega arith;
      used = omega (arith, at.used);
      put = at.put ∙ sym (append-nil (put_in loads session));
      behind_seen = subst (λ (l : List ℕ). All (λ p. (walk_of s session).seen ≤ p) l) (sym none) (λ k d within. absurd (omega (arith, within)));
      behind_low = subst (λ (l : List ℕ). All (λ p. (walk_of s session).low ≤ p) l) (sym none) (λ k d within. absurd (omega (arith, within)));
    }

-- how many own positions the sessions of a store have together
sum_zero : (numbers : List ℕ) → sum_by (λ n. 0) numbers ≡ 0
sum_zero [] = refl
sum_zero (n ∷ numbers) = omega (arith, sum_by-cons (λ (m : ℕ). 0) n numbers, sum_zero numbers)

sum_both : (f g : ℕ → ℕ) (h : ℕ → ℕ) (numbers : List ℕ) → ((n : ℕ) → h n ≡ f n + g n) → sum_by h numbers ≡ sum_by f numbers + sum_by g numbers
sum_both f g h [] each = refl
sum_both f g h (n ∷ numbers) each =
    omega (arith, sum_by-cons h n numbers, sum_by-cons f n numbers, sum_by-cons g n numbers, each n, sum_both f g h numbers each)

-- a number is one of so many once
abbrev is_of : ℕ → ℕ → ℕ
is_of owner number = if owner == number then 1 else 0

of_none : (owner first count : ℕ) → owner < first → sum_by (is_of owner) (positions first count) ≡ 0
of_none owner first zero before = refl
of_none owner first (suc count) before = elim (eqb_tells owner first) [
  | inl h ↦ absurd (omega (arith, before, h.1))
  | inr h ↦
      let this : is_of owner first ≡ 0 = rw (h.0) refl in
      omega (arith, sum_by-cons (is_of owner) first (positions (first + 1) count), this, of_none owner (first + 1) count (omega (arith, before)))
]

of_once : (owner first count : ℕ) → first ≤ owner → owner < first + count → sum_by (is_of owner) (positions first count) ≡ 1
of_once owner first zero from to = absurd (omega (arith, from, to))
of_once owner first (suc count) from to = elim (eqb_tells owner first) [
  | inl h ↦
      let this : is_of owner first ≡ 1 = rw (h.0) refl in
      omega (arith, sum_by-cons (is_of owner) first (positions (first + 1) count), this, of_none owner (first + 1) count (omega (arith, h.1)))
  | inr h ↦
      let this : is_of owner first ≡ 0 = rw (h.0) refl in
      let apart : first + 1 ≤ owner = omega (arith, from, h.1) in
      omega (arith, sum_by-cons (is_of owner) first (positions (first + 1) count), this, of_once owner (first + 1) count apart (omega (arith, to)))
]

owned_next : (first number owner : ℕ) (owners : List ℕ) →
    length (owned first number (owner ∷ owners)) ≡ is_of owner number + length (owned (first + 1) number owners)
owned_next first number owner owners = elim (eqb_tells owner number) [
  | inl h ↦ rw (h.0) (omega arith)
  | inr h ↦ rw (h.0) (omega arith)
]

pub all_owned : (count first : ℕ) (owners : List ℕ) → All (IsSession count) owners →
    sum_by (λ number. length (owned first number owners)) (positions 1 count) ≡ length owners
all_owned count first [] each = sum_zero (positions 1 count)
all_owned count first (owner ∷ owners) each =
    let this = each 0 owner (omega arith) in
    let rest = all_owned count (first + 1) owners (λ k d within. each (suc k) d (omega (arith, within))) in
    omega (
      arith,
      sum_both (is_of owner) (λ number. length (owned (first + 1) number owners)) (λ number. length (owned first number (owner ∷ owners))) (positions 1 count)
          (λ number. owned_next first number owner owners),
      of_once owner 1 count this.from (omega (arith, this.to)),
      rest,
    )

pub sum_numbered : (f : SessionState → ℕ) (g : ℕ → ℕ) (sessions : List SessionState) (from : ℕ) →
    ((i : ℕ) (session : SessionState) (number : ℕ) → slice_get sessions i ≡ Some session → number ≡ from + i → f session ≡ g number) →
    sum_by f sessions ≡ sum_by g (positions from (length sessions))
sum_numbered f g [] from each = refl
sum_numbered f g (session ∷ sessions) from each =
    omega (
      arith,
      sum_by-cons f session sessions,
      sum_by-cons g from (positions (from + 1) (length sessions)),
      each 0 session from refl (omega arith),
      sum_numbered f g sessions (from + 1) (λ i s number here is. each (suc i) s number here (omega (arith, is))),
    )

-- so many sessions as before
pub aims_long : (news olds : List SessionState) → map aim_of news ≡ map aim_of olds → length news ≡ length olds
aims_long news olds same = sym (length-map news aim_of) ∙ ap (λ (l : List Aim). length l) same ∙ length-map olds aim_of

-- the steps after which a session rests
pub rests : (step : Step) → ((seen : ℕ) × (step ≡ Waits seen)) ⊎ (step ≡ Ended) → IsResting step
rests step is = elim is [
  | inl waits ↦ subst (λ (s : Step). IsResting s) (sym waits.1) tt
  | inr ended ↦ subst (λ (s : Step). IsResting s) (sym ended) tt
]

-- what holds at each place holds of all
pub all_there : {X : Type 0} (P : X → Type 0) (xs : List X) → ((i : ℕ) (x : X) → slice_get xs i ≡ Some x → P x) → All P xs
all_there P xs each = λ k d within. each k (get_or xs k d) (slice_get-get_or xs k d within)
