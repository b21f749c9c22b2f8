-- Replies that are allowed over a world stay so over each world that goes on from it.
use Rattle.std.proofs.Common.{◌≡◌, ℕ, ◌+◌, ◌<◌, ◌≤◌, List, [], ◌∷◌, ◌++◌, length, take, drop}
use Rattle.std.proofs.Common.{fold, slice_get, Some, sym, subst, ap, ◌∙◌, arith, ⊎_elim, inl, inr, length-append}
use Rattle.std.specs.Prelude.{All}
use Rattle.std.proofs.Math.Nat.{min-le_right}
use Rattle.std.proofs.lemmas.List.{take-append-le, drop-append-le, length-drop}
use Rattle.go_word.specs.declared.edge.Edge.{Edge}
use Rattle.go_api.specs.declared.place.Place.{Place}
use Rattle.go_report.specs.declared.reply.Reply.{Reply}
use Rattle.go_report.specs.declared.reply.Reply.TheVariants as tells
use Rattle.go_session.specs.Asked.{Asked}
use Rattle.go_session.specs.Value.{IsValue}
use Rattle.go_session.specs.Walk.{World, Walk, Row, row_of, start, after, IsEntry, IsBusy, IsFresh, IsLoaded, IsUpdated, IsRow, Replies}
use Rattle.go_session.specs.Walk.Row.{entry, offered, loaded, viewed, value, streamed, updated, reached, synced, word}
use Rattle.go_session.specs.Cut.{shown_at}
use Rattle.go_session.proofs.ListLemmas.{slice_get_longer}
use Rattle.go_session.proofs.RowLemmas.{IsInside, start_inside, after_inside, taken_within}

-- two worlds are of one store and one old log
pub record IsOfSame (one two : World) : Type 0 where
  pub first : two.first ≡ one.first
  pub vertices : two.vertices ≡ one.vertices
  pub ring : two.ring ≡ one.ring
  pub told : two.told ≡ one.told

-- a world goes on from another one: own positions and entries came behind those that were there
pub record Grows (small large : World) : Type 0 where
  pub same : IsOfSame small large
  pub more_own : List ℕ
  pub more_log : List Edge
  pub own : large.own ≡ small.own ++ more_own
  pub log : large.log ≡ small.log ++ more_log
  pub known : small.known ≤ large.known

-- first entries that were there are the same
pub same_first : (small large : World) (n : ℕ) → Grows small large → n ≤ length small.log → take n large.log ≡ take n small.log
same_first small large n grows within =
    ap (λ (l : List Edge). take n l) grows.log ∙ take-append-le n small.log grows.more_log within

longer : (small large : World) → Grows small large → length small.log ≤ length large.log
longer small large grows =
    let e = ap (λ (l : List Edge). length l) grows.log in let more = length-append small.log grows.more_log in omega arith

-- the same own positions were used
same_used : (small large : World) (used : ℕ) → Grows small large → used ≤ length small.own → take used large.own ≡ take used small.own
same_used small large used grows within =
    ap (λ (l : List ℕ). take used l) grows.own ∙ take-append-le used small.own grows.more_own within

-- a front that is fresh
fresh_grows : (small large : World) (walk : Walk) (front : ℕ) → Grows small large → IsInside small walk → IsFresh small walk front → IsFresh large walk front
fresh_grows small large walk front grows inside is = record {
  not_older = is.not_older;
  within = let within = is.within in let more = longer small large grows in omega arith;
  above_own = subst (λ (l : List ℕ). All (λ p. p < front) l) (sym (same_used small large walk.used grows inside.used)) is.above_own;
}

-- a reply that shows an entry
entry_grows : (small large : World) (walk : Walk) (show : ℕ → Reply) (reply : Reply) → Grows small large → IsEntry small walk show reply →
    IsEntry large walk show reply
entry_grows small large walk show reply grows is = (
  is.0,
  is.1,
  subst (λ (l : List ℕ). slice_get l walk.used ≡ Some is.0) (sym grows.own) (slice_get_longer small.own grows.more_own walk.used is.0 is.2),
  is.3,
  is.4,
)

-- one that a ring was full
busy_grows : (small large : World) (walk : Walk) (reply : Reply) → Grows small large → IsInside small walk → IsBusy small walk reply → IsBusy large walk reply
busy_grows small large walk reply grows inside is = record {
  head = is.head;
  released = is.released;
  is = is.is;
  full = let full = is.full in let same = grows.same.ring in omega arith;
  old_released = let old = is.old_released in let same = grows.same.first in omega arith;
  known = let known = is.known in let more = grows.known in omega arith;
  above_own = subst (λ (l : List ℕ). All (λ p. p < is.head) l) (sym (same_used small large walk.used grows inside.used)) is.above_own;
}

-- the first of some positions behind so many, where more came
taken_grows : (own more positions : List ℕ) (used count : ℕ) → used ≤ length own → take count (drop used own) ≡ positions → length positions ≡ count →
    take count (drop used (own ++ more)) ≡ positions
taken_grows own more positions used count within next so_many =
    let room = taken_within own positions used count within next so_many in
    let left = length-drop used own in
    ap (λ (l : List ℕ). take count l) (drop-append-le used own more within) ∙ take-append-le count (drop used own) more (omega arith) ∙ next

-- one to a load
loaded_grows : (small large : World) (walk : Walk) (name : List ℕ) (entries : List Edge) (reply : Reply) → Grows small large → IsInside small walk →
    IsLoaded small walk name entries reply → IsLoaded large walk name entries reply
loaded_grows small large walk name entries reply grows inside is = record {
  positions = is.positions;
  next = ap (λ (l : List ℕ). take (length entries) (drop walk.used l)) grows.own
      ∙ taken_grows small.own grows.more_own is.positions walk.used (length entries) inside.used is.next is.so_many;
  so_many = is.so_many;
  rises = is.rises;
  not_low = is.not_low;
  is = is.is;
}

-- one of a stream
updated_grows : (small large : World) (walk : Walk) (place most : ℕ) (reply : Reply) → Grows small large → IsInside small walk →
    IsUpdated small walk place most reply → IsUpdated large walk place most reply
updated_grows small large walk place most reply grows inside is = record {
  front = is.front;
  from = is.from;
  to = is.to;
  list = is.list;
  from_cursor = is.from_cursor;
  fresh = fresh_grows small large walk is.front grows inside is.fresh;
  stretch = record {
    ends = is.stretch.ends;
    so_many = is.stretch.so_many;
    shown = λ told.
        let within : is.to ≤ length small.log =
        let most_is = min-le_right (is.from + most) is.front in let ends = is.stretch.ends in let end = is.fresh.within in omega arith in
        is.stretch.shown (sym grows.same.told ∙ told) ∙ ap (λ (l : List Edge). drop is.from l) (sym (same_first small large is.to grows within));
  };
  is = is.is;
}

-- each reply that is allowed stays so
pub row_grows : (small large : World) (walk : Walk) (entries : List Edge) (row : Row) (reply : Reply) → Grows small large → IsInside small walk →
    IsRow small walk entries row reply → IsRow large walk entries row reply
row_grows small large walk entries (entry show) reply grows inside is = entry_grows small large walk show reply grows is
row_grows small large walk entries offered reply grows inside is = ⊎_elim
    (λ at. inl (entry_grows small large walk tells.Offered reply grows at))
    (λ busy. inr (busy_grows small large walk reply grows inside busy))
    is
row_grows small large walk entries (loaded name) reply grows inside is = loaded_grows small large walk name entries reply grows inside is
row_grows small large walk entries (viewed place) reply grows inside is = (is.0, is.1, fresh_grows small large walk is.0 grows inside is.2)
row_grows small large walk entries (value place command) reply grows inside is =
    let n : ℕ = is.0 in
    let shown : shown_at (walk.place_at place) ≡ n = ap (λ (p : Place). shown_at p) is.1 in
    let within : n ≤ length small.log = let seen = inside.seen in let at = inside.places place in omega arith in (
      n,
      is.1,
      subst (λ (v : ℕ). IsValue v (take n large.log) command reply) (sym grows.same.vertices)
          (subst (λ (l : List Edge). IsValue small.vertices l command reply) (sym (same_first small large n grows within)) is.2),
    )
row_grows small large walk entries (streamed place) reply grows inside is = (is.0, is.1, fresh_grows small large walk is.0 grows inside is.2)
row_grows small large walk entries (updated place most) reply grows inside is = updated_grows small large walk place most reply grows inside is
row_grows small large walk entries (reached asked) reply grows inside is =
    (is.0, let reached = is.1 in let more = longer small large grows in omega arith)
row_grows small large walk entries synced reply grows inside is = (is.0, is.1, fresh_grows small large walk is.0 grows inside is.2)
row_grows small large walk entries (word told) reply grows inside is = is

-- all replies that are allowed stay so
pub replies_grow_from : (small large : World) (walk : Walk) (asked : List Asked) (replies : List Reply) → Grows small large → IsInside small walk →
    Replies small walk asked replies → Replies large walk asked replies
replies_grow_from small large walk asked [] grows inside allowed = tt
replies_grow_from small large walk [] (reply ∷ replies) grows inside allowed = absurd allowed
replies_grow_from small large walk (a ∷ asked) (reply ∷ replies) grows inside allowed = (
  row_grows small large walk a.entries (row_of a.command) reply grows inside allowed.0,
  replies_grow_from small large (after walk reply) asked replies grows (after_inside small walk a.entries a.command reply inside allowed.0) allowed.1,
)

-- from the beginning, where the old log is there
pub replies_grow : (small large : World) (asked : List Asked) (replies : List Reply) → Grows small large → small.first ≤ length small.log →
    Replies small (start small.first) asked replies → Replies large (start small.first) asked replies
replies_grow small large asked replies grows old allowed =
    replies_grow_from small large (start small.first) asked replies grows (start_inside small old) allowed

-- after allowed replies a walk speaks of no more than its world has
pub walked_inside : (world : World) (walk : Walk) (asked : List Asked) (replies : List Reply) → IsInside world walk → Replies world walk asked replies →
    IsInside world (fold after walk replies)
walked_inside world walk asked [] inside allowed = inside
walked_inside world walk [] (reply ∷ replies) inside allowed = absurd allowed
walked_inside world walk (a ∷ asked) (reply ∷ replies) inside allowed =
    walked_inside world (after walk reply) asked replies (after_inside world walk a.entries a.command reply inside allowed.0) allowed.1
