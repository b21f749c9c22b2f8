-- Replies that are cut at a front are allowed over each prefix of the log that has so many entries.
use Rattle.std.proofs.Common.{◌≡◌, ℕ, zero, suc, ◌+◌, ◌-◌, ◌<◌, ◌≤◌, List, [], ◌∷◌, length, take, drop, map, filter, slice_get}
use Rattle.std.proofs.Common.{Option, Some, None, refl, sym, subst, ap, ◌∙◌, arith, ◌⊎◌, ⊎_elim, inl, inr}
use Rattle.std.specs.Prelude.{All, min, nat_lt}
use Rattle.std.proofs.Math.Nat.{min-le_left, min-le_right, min-eq_left, min-eq_right, le-min, max-le}
use Rattle.std.proofs.lemmas.Bool.{cases_lt}
use Rattle.std.proofs.lemmas.Bool.Decides.{leb_tells}
use Rattle.std.proofs.lemmas.List.{take-take, length-take, drop-take, take_all}
use Rattle.std.proofs.lemmas.List.Elements.{All-take, All-nil, All-cons}
use Rattle.std.proofs.lemmas.Option.{slice_get_within}
use Rattle.go_word.specs.declared.edge.Edge.{Edge}
use Rattle.go_api.specs.Calls.{last_of}
use Rattle.go_api.specs.Laid.{Rises}
use Rattle.go_api.specs.declared.place.Place.{Place}
use Rattle.go_script.specs.declared.command.Command.{Command}
use Rattle.go_report.specs.declared.reply.Reply.{Reply}
use Rattle.go_report.specs.declared.reply.Reply.TheVariants as tells
use Rattle.go_session.specs.Asked.{Asked, asked_with, lists_after}
use Rattle.go_script.specs.Commands.{put_by}
use Rattle.go_session.specs.Value.{IsValue}
use Rattle.go_session.specs.Walk.{World, Walk, Row, row_of, start, after, Effect, effect_of}
use Rattle.go_session.specs.Walk.{uses, IsEntry, IsBusy, IsFresh, IsLoaded, IsUpdated, IsRow, Replies}
use Rattle.go_session.specs.Walk.Row.{entry, offered, loaded, viewed, value, streamed, updated, reached, synced, word}
use Rattle.go_session.specs.Cut.{rest_of, cut_from, shown_at}
use Rattle.go_session.proofs.RowLemmas.{IsKind, ShowsEntry, IsInside, row_kind, value_quiet, offered_entry, frees, start_inside, after_inside}
use Rattle.go_session.proofs.CutPositions.{below_first, below_get, get_taken, get_dropped, last_get, KeepsLast, last_there}

-- a world of which only the first entries are there, and the own positions among them
abbrev pub below : ℕ → World → World
below n world = record world { own = filter (λ p. nat_lt p n) world.own; log = take n world.log; known = n }

-- a walk over a world of which so many entries are kept has seen no more; own positions rise
pub record IsCut (n : ℕ) (world : World) (walk : Walk) : Type 0 where
  pub inside : IsInside world walk
  pub rises : Rises world.first world.own
  pub there : n ≤ length world.log
  pub seen : walk.seen ≤ n

-- one of two numbers is no greater
cases_le : (a b : ℕ) → (a ≤ b) ⊎ (b < a)
cases_le a b = ⊎_elim (λ less. inr less) (λ most. inl most) (cases_lt b a)

-- what holds of the own positions that were used holds of those that are left of them
used_below : (n : ℕ) (world : World) (walk : Walk) (P : ℕ → Type 0) → IsCut n world walk → All P (take walk.used world.own) →
    All P (take walk.used (below n world).own)
used_below n world walk P cut all =
    let own = world.own in
    let count : ℕ = length (filter (λ p. nat_lt p n) own) in
    let first : (below n world).own ≡ take count own = below_first n world.first own cut.rises in
    ⊎_elim
    (λ few. subst (λ (l : List ℕ). All P l) (sym (ap (λ (l : List ℕ). take walk.used l) first ∙ take-take walk.used count own few)) all)
    (λ many.
    let whole : take walk.used (take count own) ≡ take count own = take_all walk.used (take count own)
    (let l = length-take count own in let m = min-le_left count (length own) in omega arith) in
    let part : take count (take walk.used own) ≡ take count own = take-take count walk.used own (omega arith) in
    subst (λ (l : List ℕ). All P l) (sym (ap (λ (l : List ℕ). take walk.used l) first ∙ whole ∙ sym part)) (All-take P count (take walk.used own) all))
    (cases_le walk.used count)

-- a front within what is kept is fresh there too
fresh_below : (n : ℕ) (world : World) (walk : Walk) (front : ℕ) → IsCut n world walk → IsFresh world walk front → front ≤ n → IsFresh (below n world) walk front
fresh_below n world walk front cut is within = record {
  not_older = is.not_older;
  within = let long = length-take n world.log in let all = min-eq_left cut.there in omega arith;
  above_own = used_below n world walk (λ p. p < front) cut is.above_own;
}

-- a reply that shows an entry which is kept
entry_below : (n : ℕ) (world : World) (walk : Walk) (show : ℕ → Reply) (row : Row) (reply : Reply) → ShowsEntry show → IsCut n world walk →
    IsEntry world walk show reply → rest_of walk row reply ≤ n → IsEntry (below n world) walk show reply
entry_below n world walk show row reply shows cut is rests =
    let rest : is.0 + 1 ≤ n = subst (λ (r : ℕ). r ≤ n) (ap (λ (r : Reply). rest_of walk row r) is.1 ∙ shows.rest walk row is.0) rests in
    (is.0, is.1, below_get n world.first world.own walk.used is.0 cut.rises is.2 (omega arith), is.3, is.4)

-- one that a ring was full at a head which is kept
busy_below : (n : ℕ) (world : World) (walk : Walk) (row : Row) (reply : Reply) → IsCut n world walk → IsBusy world walk reply →
    rest_of walk row reply ≤ n → IsBusy (below n world) walk reply
busy_below n world walk row reply cut is rests = record {
  head = is.head;
  released = is.released;
  is = is.is;
  full = is.full;
  old_released = is.old_released;
  known = subst (λ (r : Reply). rest_of walk row r ≤ n) is.is rests;
  above_own = used_below n world walk (λ p. p < is.head) cut is.above_own;
}

-- where the last of some own positions behind those that were used is kept, all of them are
taken_below : (n : ℕ) (world : World) (walk : Walk) (positions : List ℕ) (count : ℕ) (last : Option ℕ) → IsCut n world walk →
    take count (drop walk.used world.own) ≡ positions → length positions ≡ count → last_of positions ≡ last → KeepsLast n last →
    take count (drop walk.used (below n world).own) ≡ positions
taken_below n world walk [] count last cut next so_many last_is keeps =
    ap (λ (c : ℕ). take c (drop walk.used (below n world).own)) (sym so_many)
taken_below n world walk (p ∷ more) count None cut next so_many last_is keeps = absurd (last_there p more last_is)
taken_below n world walk (p ∷ more) count (Some last) cut next so_many last_is keeps =
    let own = world.own in
    let kept = (below n world).own in
    let m : ℕ = length kept in
    let index : ℕ = length (p ∷ more) - 1 in
    let at : slice_get own (walk.used + index) ≡ Some last = get_dropped walk.used index last own
    (get_taken count index last (drop walk.used own)
    (subst (λ (l : List ℕ). slice_get l index ≡ Some last) (sym next) (last_get (p ∷ more) last index (omega arith) last_is))) in
    let room = slice_get_within kept (walk.used + index) last (below_get n world.first own (walk.used + index) last cut.rises at keeps) in
    let enough : walk.used + count ≤ m = omega arith in
    let behind : ℕ = m - walk.used in
    let whole : walk.used + behind ≡ m = omega arith in
    let first : kept ≡ take (walk.used + behind) own = below_first n world.first own cut.rises ∙ ap (λ (k : ℕ). take k own) (sym whole) in
    ap (λ (l : List ℕ). take count (drop walk.used l)) first ∙ ap (λ (l : List ℕ). take count l) (drop-take walk.used behind own)
    ∙ take-take count behind (drop walk.used own) (omega arith) ∙ next

-- a load that rests on what is kept has its last entry there
load_keeps : (walk : Walk) (row : Row) (name : List ℕ) (count n : ℕ) (last : Option ℕ) → rest_of walk row (tells.Loaded name count last) ≤ n → KeepsLast n last
load_keeps walk row name count n None rests = tt
load_keeps walk row name count n (Some last) rests = let told : last + 1 ≤ n = rests in omega arith

-- a load whose last entry is kept
loaded_below : (n : ℕ) (world : World) (walk : Walk) (name : List ℕ) (entries : List Edge) (row : Row) (reply : Reply) → IsCut n world walk →
    IsLoaded world walk name entries reply → rest_of walk row reply ≤ n → IsLoaded (below n world) walk name entries reply
loaded_below n world walk name entries row reply cut is rests =
    let told : rest_of walk row (tells.Loaded name (length entries) (last_of is.positions)) ≤ n =
    subst (λ (r : Reply). rest_of walk row r ≤ n) is.is rests in
    record {
      positions = is.positions;
      next = taken_below n world walk is.positions (length entries) (last_of is.positions) cut is.next is.so_many refl
          (load_keeps walk row name (length entries) n (last_of is.positions) told);
      so_many = is.so_many;
      rises = is.rises;
      not_low = is.not_low;
      is = is.is;
    }

-- a stream that came to less than a front came to all that was asked for
ends_below : (whole front to n : ℕ) → to ≡ min whole front → to ≤ n → n < front → whole ≤ front
ends_below whole front to n ends kept many = ⊎_elim
    (λ less. omega arith)
    (λ more. absurd (let e = min-eq_right {n = front} {m = whole} more in omega arith))
    (cases_lt whole front)

ends_within : (whole front to n : ℕ) → to ≡ min whole front → to ≤ n → n < front → whole ≤ n
ends_within whole front to n ends kept many =
    let e = min-eq_left {n = whole} {m = front} (ends_below whole front to n ends kept many) in omega arith

-- each of the positions below a number is below it
all_below : (n : ℕ) (own : List ℕ) → All (λ p. p < n) (filter (λ p. nat_lt p n) own)
all_below n [] = All-nil (λ p. p < n)
all_below n (x ∷ own) =
    elim (leb_tells (suc x) n) [
      | inl h ↦ rw h.0 (All-cons (λ p. p < n) x (filter (λ p. nat_lt p n) own) h.1 (all_below n own))
      | inr h ↦ rw h.0 (all_below n own)
    ]

-- where as much is kept as a stream came to, it came so far up to a front that is kept
ends_kept : (from most front to n : ℕ) → to ≡ min (from + most) front → to ≤ n → to ≡ min (from + most) (min front n)
ends_kept from most front to n ends kept = ⊎_elim
    (λ few. ends ∙ ap (λ (f : ℕ). min (from + most) f) (sym (min-eq_left few)))
    (λ many.
    let whole : min (from + most) n ≡ from + most = min-eq_left (ends_within (from + most) front to n ends kept many) in
    ends ∙ min-eq_left (ends_below (from + most) front to n ends kept many) ∙ sym whole
    ∙ ap (λ (f : ℕ). min (from + most) f) (sym (min-eq_right (omega arith))))
    (cases_le front n)

-- own positions that are kept are below a front that is cut, where they are below the front
above_both : (n : ℕ) (world : World) (walk : Walk) (front : ℕ) → IsCut n world walk → All (λ p. p < front) (take walk.used world.own) →
    All (λ p. p < min front n) (take walk.used (below n world).own)
above_both n world walk front cut above = ⊎_elim
    (λ few. subst (λ (f : ℕ). All (λ p. p < f) (take walk.used (below n world).own)) (sym (min-eq_left few))
    (used_below n world walk (λ p. p < front) cut above))
    (λ many. subst (λ (f : ℕ). All (λ p. p < f) (take walk.used (below n world).own)) (sym (min-eq_right (omega arith)))
    (All-take (λ p. p < n) walk.used (below n world).own (all_below n world.own)))
    (cases_le front n)

-- what a stream gave that is kept: up to a front that is kept
updated_below : (n : ℕ) (world : World) (walk : Walk) (place most : ℕ) (row : Row) (reply : Reply) → IsCut n world walk →
    IsUpdated world walk place most reply → rest_of walk row reply ≤ n → IsUpdated (below n world) walk place most reply
updated_below n world walk place most row reply cut is rests =
    let kept : is.to ≤ n = subst (λ (r : Reply). rest_of walk row r ≤ n) is.is rests in
    record {
      front = min is.front n;
      from = is.from;
      to = is.to;
      list = is.list;
      from_cursor = is.from_cursor;
      fresh = record {
        not_older = le-min is.fresh.not_older cut.seen;
        within = let least = min-le_right is.front n in let long = length-take n world.log in let all = min-eq_left cut.there in omega arith;
        above_own = above_both n world walk is.front cut is.fresh.above_own;
      };
      stretch = record {
        ends = ends_kept is.from most is.front is.to n is.stretch.ends kept;
        so_many = is.stretch.so_many;
        shown = λ told. is.stretch.shown told ∙ ap (λ (l : List Edge). drop is.from l) (sym (take-take is.to n world.log kept));
      };
      is = is.is;
    }

-- a reply that rests on what is kept is allowed there too
pub row_below : (n : ℕ) (world : World) (walk : Walk) (entries : List Edge) (row : Row) (reply : Reply) → IsKind row → IsCut n world walk →
    IsRow world walk entries row reply → rest_of walk row reply ≤ n → IsRow (below n world) walk entries row reply
row_below n world walk entries (entry show) reply kind cut is rests = entry_below n world walk show (entry show) reply kind cut is rests
row_below n world walk entries offered reply kind cut is rests = ⊎_elim
    (λ at. inl (entry_below n world walk tells.Offered offered reply offered_entry cut at rests))
    (λ busy. inr (busy_below n world walk offered reply cut busy rests))
    is
row_below n world walk entries (loaded name) reply kind cut is rests = loaded_below n world walk name entries (loaded name) reply cut is rests
row_below n world walk entries (viewed place) reply kind cut is rests =
    (is.0, is.1, fresh_below n world walk is.0 cut is.2 (subst (λ (r : Reply). rest_of walk (viewed place) r ≤ n) is.1 rests))
row_below n world walk entries (value place command) reply kind cut is rests =
    let front : ℕ = is.0 in
    let quiet = value_quiet world.vertices (take front world.log) command reply is.2 in
    let shown : shown_at (walk.place_at place) ≡ front = ap (λ (p : Place). shown_at p) is.1 in
    let kept : front ≤ n = let rest = quiet.rest walk place command in omega arith in
    (front, is.1, subst (λ (l : List Edge). IsValue world.vertices l command reply) (sym (take-take front n world.log kept)) is.2)
row_below n world walk entries (streamed place) reply kind cut is rests =
    (is.0, is.1, fresh_below n world walk is.0 cut is.2 (subst (λ (r : Reply). rest_of walk (streamed place) r ≤ n) is.1 rests))
row_below n world walk entries (updated place most) reply kind cut is rests = updated_below n world walk place most (updated place most) reply cut is rests
row_below n world walk entries (reached asked) reply kind cut is rests =
    let kept : walk.first + asked ≤ n = subst (λ (r : Reply). rest_of walk (reached asked) r ≤ n) is.0 rests in
    (is.0, let long = length-take n world.log in let all = min-eq_left cut.there in omega arith)
row_below n world walk entries synced reply kind cut is rests =
    (is.0, is.1, fresh_below n world walk is.0 cut is.2 (subst (λ (r : Reply). rest_of walk synced r ≤ n) is.1 rests))
row_below n world walk entries (word told) reply kind cut is rests = is

-- a reply that only uses positions sees nothing
none_seen : (walk : Walk) (row : Row) (reply : Reply) (count : ℕ) → effect_of walk.first reply ≡ uses count →
    (effect_of walk.first reply).seen ≤ rest_of walk row reply
none_seen walk row reply count is = subst (λ (e : Effect). e.seen ≤ rest_of walk row reply) (sym is) (omega arith)

-- nor does one that frees a place
frees_none : (place : Option ℕ) (n : ℕ) → (frees place).seen ≤ n
frees_none None n = omega arith
frees_none (Some place) n = omega arith

-- a reply sees no more than it rests on
pub row_sees : (world : World) (walk : Walk) (entries : List Edge) (row : Row) (reply : Reply) → IsKind row → IsRow world walk entries row reply →
    (effect_of walk.first reply).seen ≤ rest_of walk row reply
row_sees world walk entries (entry show) reply kind is = none_seen walk (entry show) reply 1
    (ap (λ (r : Reply). effect_of walk.first r) is.1 ∙ kind.effect walk.first is.0)
row_sees world walk entries offered reply kind is = ⊎_elim
    (λ at. none_seen walk offered reply 1 (ap (λ (r : Reply). effect_of walk.first r) at.1))
    (λ busy. subst (λ (r : Reply). (effect_of walk.first r).seen ≤ rest_of walk offered r) (sym busy.is) (omega arith))
    is
row_sees world walk entries (loaded name) reply kind is =
    none_seen walk (loaded name) reply (length entries) (ap (λ (r : Reply). effect_of walk.first r) is.is)
row_sees world walk entries (viewed place) reply kind is =
    subst (λ (r : Reply). (effect_of walk.first r).seen ≤ rest_of walk (viewed place) r) (sym is.1) (omega arith)
row_sees world walk entries (value place command) reply kind is =
    none_seen walk (value place command) reply 0 ((value_quiet world.vertices (take is.0 world.log) command reply is.2).effect walk.first)
row_sees world walk entries (streamed place) reply kind is =
    subst (λ (r : Reply). (effect_of walk.first r).seen ≤ rest_of walk (streamed place) r) (sym is.1) (omega arith)
row_sees world walk entries (updated place most) reply kind is =
    subst (λ (r : Reply). (effect_of walk.first r).seen ≤ rest_of walk (updated place most) r) (sym is.is) (omega arith)
row_sees world walk entries (reached asked) reply kind is =
    subst (λ (r : Reply). (effect_of walk.first r).seen ≤ rest_of walk (reached asked) r) (sym is.0) (omega arith)
row_sees world walk entries synced reply kind is =
    subst (λ (r : Reply). (effect_of walk.first r).seen ≤ rest_of walk synced r) (sym is.1) (omega arith)
row_sees world walk entries (word told) reply kind is =
    let e : effect_of walk.first reply ≡ frees kind.place = ap (λ (r : Reply). effect_of walk.first r) is ∙ kind.effect walk.first in
    subst (λ (x : Effect). x.seen ≤ rest_of walk (word told) reply) (sym e) (frees_none kind.place (rest_of walk (word told) reply))

-- after a reply that rests on what is kept a walk has seen no more
pub cut_after : (n : ℕ) (world : World) (walk : Walk) (entries : List Edge) (command : Command) (reply : Reply) → IsCut n world walk →
    IsRow world walk entries (row_of command) reply → rest_of walk (row_of command) reply ≤ n → IsCut n world (after walk reply)
cut_after n world walk entries command reply cut is rests = record {
  inside = after_inside world walk entries command reply cut.inside is;
  rises = cut.rises;
  there = cut.there;
  seen = max-le cut.seen (let sees = row_sees world walk entries (row_of command) reply (row_kind command) is in omega arith);
}

-- the commands that are asked for
abbrev pub asked_commands : List Asked → List Command
asked_commands asked = map (λ a. a.command) asked

-- replies that are cut at a front are allowed over what is kept, as much as that front or more
cut_from_holds : (d n : ℕ) (world : World) (walk : Walk) (asked : List Asked) (replies : List Reply) → d ≤ n → IsCut n world walk →
    Replies world walk asked replies → Replies (below n world) walk asked (cut_from d walk (asked_commands asked) replies)
cut_from_holds d n world walk asked [] order cut allowed = tt
cut_from_holds d n world walk [] (reply ∷ replies) order cut allowed = absurd allowed
cut_from_holds d n world walk (a ∷ asked) (reply ∷ replies) order cut allowed =
    elim (leb_tells (rest_of walk (row_of a.command) reply) d) [
      | inl h ↦
          let kept : rest_of walk (row_of a.command) reply ≤ n = let rests = h.1 in omega arith in
          rw h.0 (
            row_below n world walk a.entries (row_of a.command) reply (row_kind a.command) cut allowed.0 kept,
            cut_from_holds d n world (after walk reply) asked replies order (cut_after n world walk a.entries a.command reply cut allowed.0 kept) allowed.1,
          )
      | inr h ↦ rw h.0 tt
    ]

-- from the beginning
pub cut_holds : (d n : ℕ) (world : World) (asked : List Asked) (replies : List Reply) → world.first ≤ n → d ≤ n → n ≤ length world.log →
    Rises world.first world.own → Replies world (start world.first) asked replies →
    Replies (below n world) (start world.first) asked (cut_from d (start world.first) (asked_commands asked) replies)
cut_holds d n world asked replies old order there rises allowed =
    cut_from_holds d n world (start world.first) asked replies order
    (record { inside = start_inside world (omega arith); rises = rises; there = there; seen = old }) allowed

-- commands with what they put are those commands
pub commands_asked : (commands : List Command) (lists : List (List Edge)) → asked_commands (asked_with commands lists) ≡ commands
commands_asked [] lists = refl
commands_asked (command ∷ commands) lists = ap (λ (l : List Command). command ∷ l) (commands_asked commands (lists_after (put_by command) lists))
