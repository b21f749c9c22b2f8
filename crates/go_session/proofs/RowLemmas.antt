-- What each kind of reply makes of a walk, and on how much of the log it rests: ten kinds in place of all commands.
use Rattle.std.proofs.Common.{◌≡◌, ℕ, ◌+◌, ◌≤◌, ◌==◌, if◌then◌else◌, true, false, List, length, take, drop, refl, sym, subst, ap, ◌∙◌, arith, ⊎_elim}
use Rattle.std.specs.Prelude.{max, Option, Some, None}
use Rattle.std.proofs.Math.Nat.{min-le_right, le-max_left, le-max_right, max-le}
use Rattle.std.proofs.lemmas.List.{length-take, length-drop}
use Rattle.std.proofs.lemmas.Option.{slice_get_within}
use Rattle.go_word.specs.declared.edge.Edge.{Edge}
use Rattle.go_api.specs.declared.place.Place.{Place}
use Rattle.go_api.specs.declared.place.Place.TheVariants as held
use Rattle.go_script.specs.declared.command.Command.{Command}
use Rattle.go_script.specs.declared.command.Command.TheVariants as asks
use Rattle.go_report.specs.declared.reply.Reply.{Reply}
use Rattle.go_report.specs.declared.reply.Reply.TheVariants as tells
use Rattle.go_session.specs.Value.{IsValue}
use Rattle.go_session.specs.Walk.{World, Walk, Row, row_of, Effect, Placed, effect_of, led_by, after, uses, leaves, places_with, start}
use Rattle.go_session.specs.Walk.{IsEntry, IsRow}
use Rattle.go_session.specs.Walk.Row.{entry, offered, loaded, viewed, value, streamed, updated, reached, synced, word}
use Rattle.go_session.specs.Cut.{rest_of, shown_at}

-- a reply of this kind shows the position of one entry, and rests on it
pub record ShowsEntry (show : ℕ → Reply) : Type 0 where
  pub effect : (first p : ℕ) → effect_of first (show p) ≡ uses 1
  pub rest : (walk : Walk) (row : Row) (p : ℕ) → rest_of walk row (show p) ≡ p + 1

-- what comes of a mere word: at most a place is free
abbrev pub frees : Option ℕ → Effect
frees None = uses 0
frees (Some place) = leaves place held.Free 0

-- a reply is a mere word, and rests on what was seen
pub record IsWord (told : Reply) : Type 0 where
  pub place : Option ℕ
  pub effect : (first : ℕ) → effect_of first told ≡ frees place
  pub rest : (walk : Walk) (row : Row) → rest_of walk row told ≡ walk.seen

-- a row is one that a command asks for
abbrev pub IsKind : Row → Type 0
IsKind (entry show) = ShowsEntry show
IsKind offered = Unit {0}
IsKind (loaded name) = Unit {0}
IsKind (viewed place) = Unit {0}
IsKind (value place command) = Unit {0}
IsKind (streamed place) = Unit {0}
IsKind (updated place most) = Unit {0}
IsKind (reached asked) = Unit {0}
IsKind synced = Unit {0}
IsKind (word told) = IsWord told

-- the row of each command is
pub row_kind : (command : Command) → IsKind (row_of command)
row_kind (asks.Add src dst) = record { effect = λ first p. refl; rest = λ walk row p. refl }
row_kind (asks.Del src dst) = record { effect = λ first p. refl; rest = λ walk row p. refl }
row_kind (asks.Offer src dst) = tt
row_kind (asks.Load name) = tt
row_kind (asks.View place) = tt
row_kind (asks.Drop place) = record { place = Some place; effect = λ first. refl; rest = λ walk row. refl }
row_kind (asks.Degree place vertex) = tt
row_kind (asks.Neigh place vertex) = tt
row_kind (asks.Hop place vertex) = tt
row_kind (asks.Level place root vertex) = tt
row_kind (asks.Bfs place root) = tt
row_kind (asks.Rank place count) = tt
row_kind (asks.Stream place) = tt
row_kind (asks.Close place) = record { place = Some place; effect = λ first. refl; rest = λ walk row. refl }
row_kind (asks.Update place most) = tt
row_kind (asks.Until asked) = tt
row_kind asks.Sync = tt
row_kind asks.Compact = record { place = None; effect = λ first. refl; rest = λ walk row. refl }

-- an offer that was taken is told as an entry
pub offered_entry : ShowsEntry tells.Offered
offered_entry = record { effect = λ first p. refl; rest = λ walk row p. refl }

-- a reply with a value changes nothing, and rests on what the view shows that it was asked of
pub record IsQuiet (reply : Reply) : Type 0 where
  pub effect : (first : ℕ) → effect_of first reply ≡ uses 0
  pub rest : (walk : Walk) (place : ℕ) (command : Command) → rest_of walk (value place command) reply ≡ shown_at (walk.place_at place)

pub value_quiet : (size : ℕ) (log : List Edge) (command : Command) (reply : Reply) → IsValue size log command reply → IsQuiet reply
value_quiet size log (asks.Degree place vertex) reply is =
    subst (λ (r : Reply). IsQuiet r) (sym is) (record { effect = λ first. refl; rest = λ walk k c. refl })
value_quiet size log (asks.Neigh place vertex) reply is =
    subst (λ (r : Reply). IsQuiet r) (sym is) (record { effect = λ first. refl; rest = λ walk k c. refl })
value_quiet size log (asks.Hop place vertex) reply is =
    subst (λ (r : Reply). IsQuiet r) (sym is.1) (record { effect = λ first. refl; rest = λ walk k c. refl })
value_quiet size log (asks.Level place root vertex) reply is =
    subst (λ (r : Reply). IsQuiet r) (sym is.1) (record { effect = λ first. refl; rest = λ walk k c. refl })
value_quiet size log (asks.Bfs place root) reply is =
    subst (λ (r : Reply). IsQuiet r) (sym is.2) (record { effect = λ first. refl; rest = λ walk k c. refl })
value_quiet size log (asks.Rank place count) reply is =
    subst (λ (r : Reply). IsQuiet r) (sym is.1) (record { effect = λ first. refl; rest = λ walk k c. refl })
value_quiet size log (asks.Add src dst) reply is = absurd is
value_quiet size log (asks.Del src dst) reply is = absurd is
value_quiet size log (asks.Offer src dst) reply is = absurd is
value_quiet size log (asks.Load name) reply is = absurd is
value_quiet size log (asks.View place) reply is = absurd is
value_quiet size log (asks.Drop place) reply is = absurd is
value_quiet size log (asks.Stream place) reply is = absurd is
value_quiet size log (asks.Close place) reply is = absurd is
value_quiet size log (asks.Update place most) reply is = absurd is
value_quiet size log (asks.Until asked) reply is = absurd is
value_quiet size log asks.Sync reply is = absurd is
value_quiet size log asks.Compact reply is = absurd is

-- a walk speaks of no more than its world has, and what stands at its places was seen
pub record IsInside (world : World) (walk : Walk) : Type 0 where
  pub used : walk.used ≤ length world.own
  pub seen : walk.seen ≤ length world.log
  pub places : (k : ℕ) → shown_at (walk.place_at k) ≤ walk.seen

-- at the beginning it does
pub start_inside : (world : World) → world.first ≤ length world.log → IsInside world (start world.first)
start_inside world long = record { used = omega arith; seen = long; places = λ k. omega arith }

-- what is left at a place, if anything, goes no further than a front
abbrev pub LeavesUpTo : Option Placed → ℕ → Type 0
LeavesUpTo None seen = Unit {0}
LeavesUpTo (Some now) seen = shown_at now.holds ≤ seen

-- an effect speaks of no more than the world has
pub record IsWithin (world : World) (walk : Walk) (effect : Effect) : Type 0 where
  pub used : walk.used + effect.used ≤ length world.own
  pub seen : effect.seen ≤ length world.log
  pub placed : LeavesUpTo effect.placed effect.seen

-- what stands at the places after an effect was seen by then
places_seen : (placed : Option Placed) (place_at : ℕ → Place) (seen more k : ℕ) → ((j : ℕ) → shown_at (place_at j) ≤ seen) → LeavesUpTo placed more →
    shown_at (places_with placed place_at k) ≤ max seen more
places_seen None place_at seen more k were leaves = let was = were k in let least = le-max_left seen more in omega arith
places_seen (Some now) place_at seen more k were leaves =
    elim (k == now.place) as (λ b. shown_at (if b then now.holds else place_at k) ≤ max seen more) [
      | true ↦ let now_is : shown_at now.holds ≤ more = leaves in let most = le-max_right seen more in omega arith
      | false ↦ let was = were k in let least = le-max_left seen more in omega arith
    ]

-- after such an effect a walk still speaks of no more
pub led_inside : (world : World) (walk : Walk) (effect : Effect) → IsInside world walk → IsWithin world walk effect → IsInside world (led_by walk effect)
led_inside world walk effect inside within = record {
  used = within.used;
  seen = max-le inside.seen within.seen;
  places = λ k. places_seen effect.placed walk.place_at walk.seen effect.seen k inside.places within.placed;
}

-- nothing but positions that are there
pub uses_within : (world : World) (walk : Walk) (count : ℕ) → walk.used + count ≤ length world.own → IsWithin world walk (uses count)
uses_within world walk count room = record { used = room; seen = omega arith; placed = tt }

-- a place that holds something up to a front that is there
pub leaves_within : (world : World) (walk : Walk) (place : ℕ) (holds : Place) (front : ℕ) → IsInside world walk → front ≤ length world.log →
    shown_at holds ≤ front → IsWithin world walk (leaves place holds front)
leaves_within world walk place holds front inside within shown = record {
  used = let used = inside.used in omega arith;
  seen = within;
  placed = shown;
}

-- a place that is free
frees_within : (world : World) (walk : Walk) (place : Option ℕ) → IsInside world walk → IsWithin world walk (frees place)
frees_within world walk None inside = uses_within world walk 0 (let used = inside.used in omega arith)
frees_within world walk (Some place) inside = leaves_within world walk place held.Free 0 inside (omega arith) (omega arith)

-- the same of what an entry makes
entry_within : (world : World) (walk : Walk) (show : ℕ → Reply) (reply : Reply) → ShowsEntry show → IsEntry world walk show reply →
    IsWithin world walk (effect_of walk.first reply)
entry_within world walk show reply shows is =
    subst (λ (e : Effect). IsWithin world walk e) (sym (ap (λ (r : Reply). effect_of walk.first r) is.1 ∙ shows.effect walk.first is.0))
    (uses_within world walk 1 (let here = slice_get_within world.own walk.used is.0 is.2 in omega arith))

-- the first of some positions behind so many are there
pub taken_within : (own positions : List ℕ) (used count : ℕ) → used ≤ length own → take count (drop used own) ≡ positions → length positions ≡ count →
    used + count ≤ length own
taken_within own positions used count within next so_many =
    let taken = length-take count (drop used own) in
    let left = length-drop used own in
    let same = ap (λ (l : List ℕ). length l) next in
    let least = min-le_right count (length (drop used own)) in
    omega arith

-- the effect of each row speaks of no more than the world has
pub row_within : (world : World) (walk : Walk) (entries : List Edge) (row : Row) (reply : Reply) → IsKind row → IsInside world walk →
    IsRow world walk entries row reply → IsWithin world walk (effect_of walk.first reply)
row_within world walk entries (entry show) reply kind inside is = entry_within world walk show reply kind is
row_within world walk entries offered reply kind inside is = ⊎_elim
    (λ at. entry_within world walk tells.Offered reply offered_entry at)
    (λ busy. subst (λ (r : Reply). IsWithin world walk (effect_of walk.first r)) (sym busy.is)
    (record { used = let used = inside.used in omega arith; seen = omega arith; placed = tt }))
    is
row_within world walk entries (loaded name) reply kind inside is =
    subst (λ (r : Reply). IsWithin world walk (effect_of walk.first r)) (sym is.is)
    (uses_within world walk (length entries) (taken_within world.own is.positions walk.used (length entries) inside.used is.next is.so_many))
row_within world walk entries (viewed place) reply kind inside is =
    subst (λ (r : Reply). IsWithin world walk (effect_of walk.first r)) (sym is.1)
    (leaves_within world walk place (held.View is.0) is.0 inside is.2.within (omega arith))
row_within world walk entries (value place command) reply kind inside is =
    let quiet = value_quiet world.vertices (take is.0 world.log) command reply is.2 in
    subst (λ (e : Effect). IsWithin world walk e) (sym (quiet.effect walk.first)) (uses_within world walk 0 (let used = inside.used in omega arith))
row_within world walk entries (streamed place) reply kind inside is =
    subst (λ (r : Reply). IsWithin world walk (effect_of walk.first r)) (sym is.1)
    (leaves_within world walk place (held.Stream is.0) is.0 inside is.2.within (omega arith))
row_within world walk entries (updated place most) reply kind inside is =
    subst (λ (r : Reply). IsWithin world walk (effect_of walk.first r)) (sym is.is)
    (leaves_within world walk place (held.Stream is.to) is.to inside
    (let most = min-le_right (is.from + most) is.front in let ends = is.stretch.ends in let within = is.fresh.within in omega arith) (omega arith))
row_within world walk entries (reached asked) reply kind inside is =
    subst (λ (r : Reply). IsWithin world walk (effect_of walk.first r)) (sym is.0)
    (record { used = let used = inside.used in omega arith; seen = is.1; placed = tt })
row_within world walk entries synced reply kind inside is =
    subst (λ (r : Reply). IsWithin world walk (effect_of walk.first r)) (sym is.1)
    (record { used = let used = inside.used in omega arith; seen = is.2.within; placed = tt })
row_within world walk entries (word told) reply kind inside is =
    subst (λ (e : Effect). IsWithin world walk e) (sym (ap (λ (r : Reply). effect_of walk.first r) is ∙ kind.effect walk.first))
    (frees_within world walk kind.place inside)

-- after each reply that a command may have, a walk speaks of no more than its world has
pub after_inside : (world : World) (walk : Walk) (entries : List Edge) (command : Command) (reply : Reply) → IsInside world walk →
    IsRow world walk entries (row_of command) reply → IsInside world (after walk reply)
after_inside world walk entries command reply inside is =
    led_inside world walk (effect_of walk.first reply) inside (row_within world walk entries (row_of command) reply (row_kind command) inside is)
