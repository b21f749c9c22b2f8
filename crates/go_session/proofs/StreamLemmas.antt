-- The updates of one stream, one after another.
use Rattle.std.proofs.Common.{◌≡◌, ℕ, ◌+◌, ◌-◌, ◌≤◌, ◌==◌, true, false, List, [], ◌∷◌, ◌++◌, length, take, drop, fold, refl, sym}
use Rattle.std.proofs.Common.{ap, subst, ◌∙◌, arith, ⊎_elim, take-append-drop}
use Rattle.std.proofs.Math.Nat.{min-le_left}
use Rattle.std.proofs.lemmas.Bool.Decides.{nat_tests}
use Rattle.std.proofs.lemmas.List.{drop-take, drop_all, length-take, take-take}
use Rattle.go_word.specs.declared.edge.Edge.{Edge}
use Rattle.go_api.specs.declared.place.Place.TheVariants as held
use Rattle.go_script.specs.Commands.{use_of}
use Rattle.go_script.specs.declared.command.Command.{Command}
use Rattle.go_script.specs.declared.command.Command.TheVariants as asks
use Rattle.go_report.specs.declared.reply.Reply.{Reply}
use Rattle.go_session.specs.Asked.{Asked}
use Rattle.go_session.specs.Laws.{IsElsewhere, IsUpdateAt, UpdateAlone, given_at, streamed_at}
use Rattle.go_session.specs.Value.{IsValue}
use Rattle.go_session.specs.Walk.{World, Walk, IsRow, Replies, row_of, after}
use Rattle.go_session.proofs.AskedLemmas.{drop_on}
use Rattle.go_session.proofs.LawLemmas.{place_stays}

-- a value gives nothing of a stream
value_none : (k size : ℕ) (log : List Edge) (command : Command) (reply : Reply) → IsValue size log command reply → given_at k reply ≡ []
value_none k size log (asks.Degree place vertex) reply is = ap (given_at k) is
value_none k size log (asks.Neigh place vertex) reply is = ap (given_at k) is
value_none k size log (asks.Hop place vertex) reply is = ap (given_at k) is.1
value_none k size log (asks.Level place root vertex) reply is = ap (given_at k) is.1
value_none k size log (asks.Bfs place root) reply is = ap (given_at k) is.2
value_none k size log (asks.Rank place count) reply is = ap (given_at k) is.1
value_none k size log (asks.Add src dst) reply is = absurd is
value_none k size log (asks.Del src dst) reply is = absurd is
value_none k size log (asks.Offer src dst) reply is = absurd is
value_none k size log (asks.Load name) reply is = absurd is
value_none k size log (asks.View place) reply is = absurd is
value_none k size log (asks.Drop place) reply is = absurd is
value_none k size log (asks.Stream place) reply is = absurd is
value_none k size log (asks.Close place) reply is = absurd is
value_none k size log (asks.Update place most) reply is = absurd is
value_none k size log (asks.Until asked) reply is = absurd is
value_none k size log asks.Sync reply is = absurd is
value_none k size log asks.Compact reply is = absurd is

-- a command that leaves a place alone gives nothing of a stream there
none_given : (world : World) (walk : Walk) (k : ℕ) (command : Command) (entries : List Edge) (reply : Reply) → IsElsewhere k (use_of command) →
    IsRow world walk entries (row_of command) reply → given_at k reply ≡ []
none_given world walk k (asks.Add src dst) entries reply other is = ap (given_at k) is.1
none_given world walk k (asks.Del src dst) entries reply other is = ap (given_at k) is.1
none_given world walk k (asks.Offer src dst) entries reply other is = ⊎_elim (λ put. ap (given_at k) put.1) (λ busy. ap (given_at k) busy.is) is
none_given world walk k (asks.Load name) entries reply other is = ap (given_at k) is.is
none_given world walk k (asks.View place) entries reply other is = ap (given_at k) is.1
none_given world walk k (asks.Drop place) entries reply other is = ap (given_at k) is
none_given world walk k (asks.Degree place vertex) entries reply other is =
    value_none k world.vertices (take is.0 world.log) (asks.Degree place vertex) reply is.2
none_given world walk k (asks.Neigh place vertex) entries reply other is =
    value_none k world.vertices (take is.0 world.log) (asks.Neigh place vertex) reply is.2
none_given world walk k (asks.Hop place vertex) entries reply other is =
    value_none k world.vertices (take is.0 world.log) (asks.Hop place vertex) reply is.2
none_given world walk k (asks.Level place root vertex) entries reply other is =
    value_none k world.vertices (take is.0 world.log) (asks.Level place root vertex) reply is.2
none_given world walk k (asks.Bfs place root) entries reply other is =
    value_none k world.vertices (take is.0 world.log) (asks.Bfs place root) reply is.2
none_given world walk k (asks.Rank place count) entries reply other is =
    value_none k world.vertices (take is.0 world.log) (asks.Rank place count) reply is.2
none_given world walk k (asks.Stream place) entries reply other is = ap (given_at k) is.1
none_given world walk k (asks.Close place) entries reply other is = ap (given_at k) is
none_given world walk k (asks.Update place most) entries reply other is =
    let apart : place == k ≡ false = grind (arith, nat_tests, other) in
    ap (given_at k) is.is ∙ rw apart refl
none_given world walk k (asks.Until asked) entries reply other is = ap (given_at k) is.0
none_given world walk k asks.Sync entries reply other is = ap (given_at k) is.1
none_given world walk k asks.Compact entries reply other is = ap (given_at k) is

-- a stretch, and the next one behind it
stretches : (log : List Edge) (from middle to : ℕ) → from ≤ middle → middle ≤ to →
    drop from (take middle log) ++ drop middle (take to log) ≡ drop from (take to log)
stretches log from middle to first later =
    let m : ℕ = middle - from in
    let up : from + m ≡ middle = omega arith in
    let xs = take to log in
    let short : take middle log ≡ take (from + m) xs = sym (take-take middle to log later) ∙ ap (λ (n : ℕ). take n xs) (sym up) in
    let one : drop from (take middle log) ≡ take m (drop from xs) = ap (λ (l : List Edge). drop from l) short ∙ drop-take from m xs in
    let two : drop middle xs ≡ drop m (drop from xs) = ap (λ (n : ℕ). drop n xs) (sym up) ∙ sym (drop_on m from xs) in
    rw (one, two) (take-append-drop m (drop from xs))

-- what an update gives of a stream, and where the stream comes
record Gives (world : World) (walk : Walk) (k from : ℕ) (reply : Reply) : Type 0 where
  to : ℕ
  given : given_at k reply ≡ drop from (take to world.log)
  stands : (after walk reply).place_at k ≡ held.Stream to
  up : from ≤ to

update_gives : (world : World) (walk : Walk) (k from : ℕ) (command : Command) (entries : List Edge) (reply : Reply) → world.told ≡ true →
    walk.place_at k ≡ held.Stream from → IsUpdateAt k command → IsRow world walk entries (row_of command) reply → Gives world walk k from reply
update_gives world walk k from (asks.Update place most) entries reply told at update is =
    let stood : held.Stream is.from ≡ held.Stream from = sym is.from_cursor ∙ ap walk.place_at update ∙ at in
    let starts : is.from ≡ from = cc in
    let here : place == k ≡ true = grind (arith, nat_tests, update) in
    let there : k == place ≡ true = grind (arith, nat_tests, update) in
    record {
      to = is.to;
      given = ap (given_at k) is.is ∙ rw here (is.stretch.shown told ∙ ap (λ (n : ℕ). drop n (take is.to world.log)) starts);
      stands = subst (λ (r : Reply). (after walk r).place_at k ≡ held.Stream is.to) (sym is.is) (rw there refl);
      up = omega (arith, starts, is.stretch.so_many);
    }
update_gives world walk k from (asks.Add src dst) entries reply told at update is = absurd update
update_gives world walk k from (asks.Del src dst) entries reply told at update is = absurd update
update_gives world walk k from (asks.Offer src dst) entries reply told at update is = absurd update
update_gives world walk k from (asks.Load name) entries reply told at update is = absurd update
update_gives world walk k from (asks.View place) entries reply told at update is = absurd update
update_gives world walk k from (asks.Drop place) entries reply told at update is = absurd update
update_gives world walk k from (asks.Degree place vertex) entries reply told at update is = absurd update
update_gives world walk k from (asks.Neigh place vertex) entries reply told at update is = absurd update
update_gives world walk k from (asks.Hop place vertex) entries reply told at update is = absurd update
update_gives world walk k from (asks.Level place root vertex) entries reply told at update is = absurd update
update_gives world walk k from (asks.Bfs place root) entries reply told at update is = absurd update
update_gives world walk k from (asks.Rank place count) entries reply told at update is = absurd update
update_gives world walk k from (asks.Stream place) entries reply told at update is = absurd update
update_gives world walk k from (asks.Close place) entries reply told at update is = absurd update
update_gives world walk k from (asks.Until asked) entries reply told at update is = absurd update
update_gives world walk k from asks.Sync entries reply told at update is = absurd update
update_gives world walk k from asks.Compact entries reply told at update is = absurd update

-- the stream comes no less far, and what came is the log between
pub streamed_on : (world : World) (walk : Walk) (asked : List Asked) (replies : List Reply) (k from to : ℕ) → world.told ≡ true →
    walk.place_at k ≡ held.Stream from → UpdateAlone k asked → Replies world walk asked replies →
    (fold after walk replies).place_at k ≡ held.Stream to →
    (streamed_at k replies ≡ drop from (take to world.log)) × (from ≤ to)
streamed_on world walk asked [] k from to told at alone allowed last =
    let same : held.Stream from ≡ held.Stream to = sym at ∙ last in
    let ends : from ≡ to = cc in
    let taken = length-take to world.log in
    let least = min-le_left to (length world.log) in
    (sym (drop_all from (take to world.log) (omega (arith, taken, ends, least))), omega (arith, ends))
streamed_on world walk [] (reply ∷ replies) k from to told at alone allowed last = absurd allowed
streamed_on world walk (a ∷ asked) (reply ∷ replies) k from to told at alone allowed last = ⊎_elim
    (λ update.
    let gives = update_gives world walk k from a.command a.entries reply told at update allowed.0 in
    let rest = streamed_on world (after walk reply) asked replies k gives.to to told gives.stands alone.1 allowed.1 last in (
      ap (λ (l : List Edge). l ++ streamed_at k replies) gives.given
          ∙ ap (λ (l : List Edge). drop from (take gives.to world.log) ++ l) rest.0
          ∙ stretches world.log from gives.to to gives.up rest.1,
      let first = gives.up in let more = rest.1 in omega (arith, first, more),
    ))
    (λ other.
    let rest = streamed_on world (after walk reply) asked replies k from to told
    (place_stays world walk k a.command a.entries reply other allowed.0 ∙ at) alone.1 allowed.1 last in
    (ap (λ (l : List Edge). l ++ streamed_at k replies) (none_given world walk k a.command a.entries reply other allowed.0) ∙ rest.0, rest.1))
    alone.0

-- where a stream comes from one front to another, its updates are the log between
pub streamed : (world : World) (walk : Walk) (asked : List Asked) (replies : List Reply) (k from to : ℕ) → world.told ≡ true →
    walk.place_at k ≡ held.Stream from → UpdateAlone k asked → Replies world walk asked replies →
    (fold after walk replies).place_at k ≡ held.Stream to → streamed_at k replies ≡ drop from (take to world.log)
streamed world walk asked replies k from to told at alone allowed last = (streamed_on world walk asked replies k from to told at alone allowed last).0
