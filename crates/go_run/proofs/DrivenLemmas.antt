-- What sessions come to over the log that their store has as they come to their ends, or one was stopped.
use Rattle.std.proofs.Common.{◌≡◌, ℕ, zero, suc, ◌+◌, ◌-◌, ◌<◌, ◌≤◌, ◌==◌, if◌then◌else◌, true, false, List, [], ◌∷◌, ◌++◌, length, take, drop, map, filter}
use Rattle.std.proofs.Common.{slice_get, Some, None, Option, refl, ap, arith, sym, subst, ◌∙◌, inl, inr}
use Rattle.std.specs.Prelude.{All, nat_lt}
use Rattle.std.specs.List.{flat_map}
use Rattle.std.proofs.lemmas.Bool.Decides.{eqb_tells, leb_tells}
use Rattle.std.proofs.lemmas.List.{append-nil, append_assoc, take-append-drop, take_all, take-append-le, length-drop}
use Rattle.std.proofs.lemmas.List.Concat.{flat_map-cons}
use Rattle.go_word.specs.declared.edge.Edge.{Edge}
use Rattle.go_api.specs.Alone.{positions}
use Rattle.go_api.specs.Laid.{HasPuts, HasAllPuts, Laid, IsWhole}
use Rattle.go_api.specs.Standing.{Terms}
use Rattle.go_api.specs.declared.stop.Stop.{Stop}
use Rattle.go_disk.specs.Device.{Device}
use Rattle.go_durable.specs.declared.finished.Finished.{Finished}
use Rattle.go_plain.specs.Owners.{owned, put_by, HasOwners}
use Rattle.go_plain.specs.Plain.{Origin, PlainState, standing_of, HasEnded}
use Rattle.go_plain.proofs.LaidLemmas.{laid_part, laid_whole}
use Rattle.go_session.specs.Asked.{Asked, may_put}
use Rattle.go_session.specs.Drives.{AllAllowed, AllPut, HoldOver, NoneHeldBack, BrokenOff, Complete, Drives, owns_below, cut_at, over}
use Rattle.go_session.specs.Session.{SessionState, IsHalted, asked_left, put_in, next_entries}
use Rattle.go_session.proofs.DriveLemmas.{IsOver, HasSeen, halted_over, over_cut, over_keeps, over_puts, all_puts}
use Rattle.go_run.specs.Driving.{CanAllTurn, AreHalted, IsSharedBy, GoOnOver, HaveEnded, HaveStopped, Comes, CanDrive, terms_of, IsTold, HasDriven}
use Rattle.go_run.specs.Turns.{HasDone}
use Rattle.go_run.proofs.TurnParts.{can_halt, all_there, aims_long}

-- first entries of a log are its first ones
take_own : (k : ℕ) (log : List Edge) → take (length (take k log)) log ≡ take k log
take_own zero log = refl
take_own (suc k) [] = refl
take_own (suc k) (e ∷ log) = ap (λ (l : List Edge). e ∷ l) (take_own k log)

-- the positions of a session below a front are those of the owners up to there
none_below : (n first number : ℕ) (owners : List ℕ) → n ≤ first → filter (λ p. nat_lt p n) (owned first number owners) ≡ []
none_below n first number [] above = refl
none_below n first number (owner ∷ owners) above =
    let rest = none_below n (first + 1) number owners (omega (arith, above)) in
    elim (eqb_tells owner number) [
      | inl h ↦ rw (h.0) (elim (leb_tells (suc first) n) [
        | inl l ↦ absurd (omega (arith, l.1, above))
        | inr l ↦ rw (l.0) rest
      ])
      | inr h ↦ rw (h.0) rest
    ]

owned_to : (n first number j : ℕ) (owners : List ℕ) → n ≡ first + j →
    filter (λ p. nat_lt p n) (owned first number owners) ≡ owned first number (take j owners)
owned_to n first number zero owners is = none_below n first number owners (omega (arith, is))
owned_to n first number (suc j) [] is = refl
owned_to n first number (suc j) (owner ∷ owners) is =
    let rest = owned_to n (first + 1) number j owners (omega (arith, is)) in
    elim (eqb_tells owner number) [
      | inl h ↦ rw (h.0) (elim (leb_tells (suc first) n) [
        | inl l ↦ rw (l.0) (ap (λ (l : List ℕ). first ∷ l) rest)
        | inr l ↦ absurd (omega (arith, l.1, is))
      ])
      | inr h ↦ rw (h.0) rest
    ]

owns_to : (n first j : ℕ) (owners numbers : List ℕ) → n ≡ first + j →
    owns_below n (map (λ number. owned first number owners) numbers) ≡ map (λ number. owned first number (take j owners)) numbers
owns_to n first j owners [] is = refl
owns_to n first j owners (number ∷ numbers) is =
    ap (λ (l : List ℕ). l ∷ owns_below n (map (λ k. owned first k owners) numbers)) (owned_to n first number j owners is)
    ∙ ap (λ (l : List (List ℕ)). owned first number (take j owners) ∷ l) (owns_to n first j owners numbers is)

-- a log has the first puts of a session where it has all of them
HasPuts_more : (log : List Edge) (own : List ℕ) (puts more : List Edge) → HasPuts log own puts → HasPuts log own (puts ++ more)
HasPuts_more log [] puts more has = tt
HasPuts_more log (p ∷ own) [] more has = absurd has
HasPuts_more log (p ∷ own) (e ∷ puts) more has = (has.0, HasPuts_more log own puts more has.1)

-- what a session put, or would have put, begins with what it put
puts_begin : (put next rest left edges : List Edge) (count : ℕ) → left ≡ next ++ rest → edges ≡ put ++ take count next →
    (more : List Edge) × (put ++ left ≡ edges ++ more)
puts_begin put next rest left edges count is has = (
  drop count next ++ rest,
  ap (λ (l : List Edge). put ++ l)
      (is ∙ ap (λ (l : List Edge). l ++ rest) (sym (take-append-drop count next)) ∙ append_assoc (take count next) (drop count next) rest)
      ∙ sym (append_assoc put (take count next) (drop count next ++ rest)) ∙ ap (λ (l : List Edge). l ++ (drop count next ++ rest)) (sym has),
)

left_begins : (asked : List Asked) → (rest : List Edge) × (may_put asked ≡ next_entries asked ++ rest)
left_begins [] = ([], refl)
left_begins (a ∷ asked) = (may_put asked, flat_map-cons (λ (b : Asked). b.entries) a asked)

-- how a session of this number lies in a log: it is over it, what it put is first of what it would have put, and it was told how long the old log was
record IsPlaced (terms : Terms) (loads : List (List Edge)) (log : List Edge) (owners : List ℕ) (number : ℕ) (session : SessionState) : Type 0 where
  is_over : IsOver terms loads log (owned terms.first number owners) session
  more : List Edge
  puts : all_puts loads session ≡ put_by number owners (drop terms.first log) ++ more
  told : IsTold terms.first session

-- the same of several sessions, numbered from one on
abbrev ArePlaced : Terms → List (List Edge) → List Edge → List ℕ → ℕ → List SessionState → Type 0
ArePlaced terms loads log owners number [] = Unit {0}
ArePlaced terms loads log owners number (session ∷ sessions) =
    IsPlaced terms loads log owners number session × ArePlaced terms loads log owners (number + 1) sessions

module _ (terms : Terms) (loads : List (List Edge)) (log : List Edge) (owners : List ℕ) where
  are_placed : (number : ℕ) (sessions : List SessionState) →
      ((i : ℕ) (session : SessionState) (k : ℕ) → slice_get sessions i ≡ Some session → k ≡ number + i → IsPlaced terms loads log owners k session) →
      ArePlaced terms loads log owners number sessions
  are_placed number [] each = tt
  are_placed number (session ∷ sessions) each = (
    each 0 session number refl (omega arith),
    are_placed (number + 1) sessions (λ i s k here is. each (suc i) s k here (omega (arith, is))),
  )

  abbrev owns_from : ℕ → List SessionState → List (List ℕ)
  owns_from number sessions = map (λ k. owned terms.first k owners) (positions number (length sessions))

  abbrev puts_from : ℕ → List SessionState → List (List Edge)
  puts_from number sessions = map (λ k. put_by k owners (drop terms.first log)) (positions number (length sessions))

  -- over a part of the log that has what is durable, the cut replies of all are allowed
  cut_allowed : (d n number : ℕ) (sessions : List SessionState) → ArePlaced terms loads log owners number sessions → terms.first ≤ n → d ≤ n → n ≤ length log →
      AllAllowed terms loads (take n log) (owns_below n (owns_from number sessions)) (map (cut_at d terms.first) sessions)
  cut_allowed d n number [] are old order there = tt
  cut_allowed d n number (session ∷ sessions) are old order there = (
    over_cut d n terms loads log (owned terms.first number owners) session are.0.is_over old order there,
    cut_allowed d n (number + 1) sessions are.1 old order there,
  )

  -- none that is durable is held back
  none_held : (d number : ℕ) (sessions : List SessionState) → ArePlaced terms loads log owners number sessions → terms.first ≤ d → d ≤ length log →
      NoneHeldBack terms.first loads (owns_below d (owns_from number sessions)) (map (cut_at d terms.first) sessions)
  none_held d number [] are old there = tt
  none_held d number (session ∷ sessions) are old there = (
    over_keeps d terms loads log (owned terms.first number owners) session are.0.is_over old there,
    none_held d (number + 1) sessions are.1 old there,
  )

  -- all put the same in all as if they weren't cut
  all_put : (d number : ℕ) (sessions : List SessionState) → ArePlaced terms loads log owners number sessions →
      AllPut loads (map (cut_at d terms.first) sessions) (map (all_puts loads) sessions)
  all_put d number [] are = tt
  all_put d number (session ∷ sessions) are = (
    over_puts d terms loads log (owned terms.first number owners) session are.0.is_over,
    all_put d (number + 1) sessions are.1,
  )

  -- a log that has what each put has the first of what it would have put
  puts_more : (part : List Edge) (n number : ℕ) (sessions : List SessionState) → ArePlaced terms loads log owners number sessions →
      HasAllPuts part (owns_below n (owns_from number sessions)) (puts_from number sessions) →
      HasAllPuts part (owns_below n (owns_from number sessions)) (map (all_puts loads) sessions)
  puts_more part n number [] are has = tt
  puts_more part n number (session ∷ sessions) are has = (
    subst (λ (l : List Edge). HasPuts part (filter (λ p. nat_lt p n) (owned terms.first number owners)) l) (sym are.0.puts)
        (HasPuts_more part (filter (λ p. nat_lt p n) (owned terms.first number owners)) (put_by number owners (drop terms.first log)) are.0.more has.0),
    puts_more part n (number + 1) sessions are.1 has.1,
  )

  told_all : (number : ℕ) (sessions : List SessionState) → ArePlaced terms loads log owners number sessions →
      (i : ℕ) (session : SessionState) → slice_get sessions i ≡ Some session → IsTold terms.first session
  told_all number [] are i session here = absurd (let h : None ≡ Some session = here in cc)
  told_all number (s ∷ sessions) are zero session here =
      subst (λ (x : SessionState). IsTold terms.first x) (let same : s ≡ session = (let h : Some s ≡ Some session = here in cc) in same) are.0.told
  told_all number (s ∷ sessions) are (suc i) session here = told_all (number + 1) sessions are.1 i session here

  -- so they broke off there
  broke_off : (d : ℕ) (sessions : List SessionState) → ArePlaced terms loads log owners 1 sessions → HasOwners (length sessions) terms.first log owners →
      terms.first ≤ d → d ≤ length log → BrokenOff terms loads (take terms.first log) log d sessions
  broke_off d sessions are has least most = record {
    owns = owns_from 1 sessions;
    holds = λ n from to.
        let laid = laid_part (length sessions) terms.first log owners n has (omega (arith, least, from)) to in
        let same = owns_to n terms.first (n - terms.first) owners (positions 1 (length sessions)) (omega (arith, least, from)) in
        let here : Laid (take terms.first log) (take n log) (owns_below n (owns_from 1 sessions)) (puts_from 1 sessions) =
        subst (λ (l : List (List ℕ)). Laid (take terms.first log) (take n log) l (puts_from 1 sessions)) (sym same) laid in
        record {
          puts = map (all_puts loads) sessions;
          may = all_put d 1 sessions are;
          laid = record {
            begins = here.begins;
            rising = here.rising;
            once = here.once;
            placed = puts_more (take n log) n 1 sessions are here.placed;
          };
          allowed = cut_allowed d n 1 sessions are (omega (arith, least, from)) from to;
        };
    none_held_back = none_held d 1 sessions are least most;
  }

  -- where each put just what its replies tell, all is laid
  puts_same : (number : ℕ) (sessions : List SessionState) →
      ((i : ℕ) (session : SessionState) (k : ℕ) → slice_get sessions i ≡ Some session → k ≡ number + i →
      put_by k owners (drop terms.first log) ≡ put_in loads session) →
      puts_from number sessions ≡ map (put_in loads) sessions
  puts_same number [] each = refl
  puts_same number (session ∷ sessions) each =
      ap (λ (l : List Edge). l ∷ puts_from (number + 1) sessions) (each 0 session number refl (omega arith))
      ∙ ap (λ (l : List (List Edge)). put_in loads session ∷ l) (puts_same (number + 1) sessions (λ i s k here is. each (suc i) s k here (omega (arith, is))))

  all_allowed : (number : ℕ) (sessions : List SessionState) → ArePlaced terms loads log owners number sessions →
      AllAllowed terms loads log (owns_from number sessions) sessions
  all_allowed number [] are = tt
  all_allowed number (session ∷ sessions) are = (are.0.is_over.allowed, all_allowed (number + 1) sessions are.1)

  completed : (sessions : List SessionState) → ArePlaced terms loads log owners 1 sessions → HasOwners (length sessions) terms.first log owners →
      puts_from 1 sessions ≡ map (put_in loads) sessions → All HasDone sessions → Complete terms loads (take terms.first log) log sessions
  completed sessions are has same done =
      let laid = laid_whole (length sessions) terms.first log owners has in
      record {
        owns = owns_from 1 sessions;
        laid = subst (λ (l : List (List Edge)). Laid (take terms.first log) log (owns_from 1 sessions) l) same laid.0;
        whole = subst (λ (l : List (List Edge)). IsWhole (owns_from 1 sessions) l) same laid.1;
        ended = done;
        allowed = all_allowed 1 sessions are;
      }

-- a session that stands over a store lies in its log
placed_there : {D : Type 0} (device : Device D) (loads : List (List Edge)) (store : PlainState D) (number : ℕ) (session : SessionState) →
    IsHalted loads session (standing_of device store number) → IsPlaced (terms_of device store) loads store.log store.owners number session
placed_there device loads store number session halted =
    let asked = asked_left loads session in
    let begins = left_begins asked in
    let puts = puts_begin (put_in loads session) (next_entries asked) begins.0 (may_put asked) (put_by number store.owners (drop store.origin.first store.log))
    halted.count begins.1 halted.put in
    record {
      is_over = halted_over loads session (standing_of device store number) store.log halted (record { seen = take_own _ store.log; known = omega arith });
      more = puts.0;
      puts = puts.1;
      told = halted.allowed.told_first;
    }

-- sessions that stand over a store may be said to have broken off there, whatever is durable of what is behind the old log
pub halted_breaks : {D : Type 0} (device : Device D) (loads : List (List Edge)) (sessions : List SessionState) (store : PlainState D) (d : ℕ) →
    AreHalted device loads sessions store → store.origin.first ≤ d → d ≤ length store.log →
    BrokenOff (terms_of device store) loads (take store.origin.first store.log) store.log d sessions × All (IsTold store.origin.first) sessions
halted_breaks device loads sessions store d halted least most =
    let first = store.origin.first in
    let are = are_placed (terms_of device store) loads store.log store.owners 1 sessions
    (λ i session k here is. subst (λ (n : ℕ). IsPlaced (terms_of device store) loads store.log store.owners n session)
    (let e : i + 1 ≡ k = omega (arith, is) in e) (placed_there device loads store (i + 1) session (halted.each i session here))) in
    let has : HasOwners (length sessions) first store.log store.owners =
    subst (λ (n : ℕ). HasOwners n first store.log store.owners) halted.shared.count halted.shared.owners in (
      broke_off (terms_of device store) loads store.log store.owners d sessions are has least most,
      all_there (IsTold first) sessions (told_all (terms_of device store) loads store.log store.owners 1 sessions are),
    )

-- and so may those that can all take their turns
pub can_halt_all : {D : Type 0} (device : Device D) (loads : List (List Edge)) (sessions : List SessionState) (store : PlainState D) →
    CanAllTurn device loads sessions store → AreHalted device loads sessions store
can_halt_all device loads sessions store can = record {
  shared = can.shared;
  each = λ i session here. can_halt loads session _ (can.each i session here).can.at;
}

module _ {D : Type 0} (device : Device D) (loads : List (List Edge)) (olds news : List SessionState) (begun store : PlainState D) (finished : Finished D)
    (can : CanDrive device loads olds begun) (ended : HasEnded device store finished) where
  -- what holds of sessions that stand over a store as it ended
  from_halted : (stop : Option Stop) → AreHalted device loads news store → GoOnOver olds news begun store →
      (BrokenOff (terms_of device store) loads begun.log store.log finished.durable news →
      Drives (terms_of device store) loads begun.log store.log finished.durable news stop) →
      HasDriven device loads olds begun news stop finished
  from_halted stop halted onward drives =
      let first = store.origin.first in
      let same : first ≡ length begun.log = ap (λ (o : Origin D). o.first) onward.origin ∙ can.new in
      let old : take first store.log ≡ begun.log = ap (λ (n : ℕ). take n store.log) same ∙ onward.begins in
      let both = halted_breaks device loads news store finished.durable halted (omega (arith, same, can.durable, onward.no_less, ended.no_less)) ended.most in
      let broken = subst (λ (l : List Edge). BrokenOff (terms_of device store) loads l store.log finished.durable news) old both.0 in
      record {
        store = store;
        onward = onward;
        told = both.1;
        drives = drives broken;
        broken = broken;
        ended = ended;
      }

  pub driven : (stop : Option Stop) → Comes device loads stop olds news begun store → HasDriven device loads olds begun news stop finished
  driven (Some why) came = from_halted (Some why) came.halted came.onward (λ broken. broken)
  driven None came = from_halted None halted came.onward (λ broken. complete) where
    halted : AreHalted device loads news store
    halted = can_halt_all device loads news store came.can

    complete : Complete (terms_of device store) loads begun.log store.log news
    complete =
        let first = store.origin.first in
        let same : first ≡ length begun.log = ap (λ (o : Origin D). o.first) came.onward.origin ∙ can.new in
        let old : take first store.log ≡ begun.log = ap (λ (n : ℕ). take n store.log) same ∙ came.onward.begins in
        let are = are_placed (terms_of device store) loads store.log store.owners 1 news
        (λ i session k here is. subst (λ (n : ℕ). IsPlaced (terms_of device store) loads store.log store.owners n session)
        (let e : i + 1 ≡ k = omega (arith, is) in e) (placed_there device loads store (i + 1) session (halted.each i session here))) in
        let has : HasOwners (length news) first store.log store.owners =
        subst (λ (n : ℕ). HasOwners n first store.log store.owners) came.can.shared.count came.can.shared.owners in
        let puts = puts_same (terms_of device store) loads store.log store.owners 1 news
        (λ i session k here is. subst (λ (n : ℕ). put_by n store.owners (drop first store.log) ≡ put_in loads session)
        (let e : i + 1 ≡ k = omega (arith, is) in e) (came.can.each i session here).can.at.put) in
        subst (λ (l : List Edge). Complete (terms_of device store) loads l store.log news) old
        (completed (terms_of device store) loads store.log store.owners news are has puts came.all)

-- as many sessions came as were driven
came_long : {D : Type 0} (device : Device D) (loads : List (List Edge)) (stop : Option Stop) (olds news : List SessionState) (begun store : PlainState D) →
    Comes device loads stop olds news begun store → length news ≡ length olds
came_long device loads None olds news begun store came = aims_long news olds came.onward.aims
came_long device loads (Some why) olds news begun store came = aims_long news olds came.onward.aims

-- the same of sessions that were lent as a slice of all of them
pub driven_slice : {D : Type 0} (device : Device D) (loads : List (List Edge)) (items lent news : List SessionState) (len : ℕ) (begun store : PlainState D)
    (stop : Option Stop) (finished : Finished D) → lent ≡ items → len ≡ length items → CanDrive device loads items begun →
    Comes device loads stop lent news begun store → HasEnded device store finished →
    HasDriven device loads items begun (take len (news ++ drop (length news) items)) stop finished
driven_slice device loads items lent news len begun store stop finished same is can comes ended =
    let came = subst (λ (l : List SessionState). Comes device loads stop l news begun store) same comes in
    let long = came_long device loads stop items news begun store came in
    let all : take len (news ++ drop (length news) items) ≡ news =
    ap (λ (n : ℕ). take n (news ++ drop (length news) items)) (let e : len ≡ length news = omega (arith, is, long) in e)
    ∙ take-append-le (length news) news (drop (length news) items) (omega arith) ∙ take_all (length news) news (omega arith) in
    subst (λ (l : List SessionState). HasDriven device loads items begun l stop finished) (sym all)
    (driven device loads items news begun store finished can ended stop came)
