-- The laws of walks.
use Rattle.std.proofs.Common.{◌≡◌, ℕ, zero, suc, ◌+◌, ◌<◌, ◌≤◌, ◌==◌, false, List, [], ◌∷◌, length, take, slice_get, Some, None, refl, sym, ap}
use Rattle.std.proofs.Common.{subst, ◌∙◌, arith, ⊎_elim}
use Rattle.std.specs.Prelude.{All}
use Rattle.std.proofs.lemmas.List.{take_all}
use Rattle.std.proofs.lemmas.List.Elements.{All-get_or}
use Rattle.std.proofs.lemmas.Option.{get_or_from_slice_get}
use Rattle.go_word.specs.declared.edge.Edge.{Edge}
use Rattle.go_api.specs.Alone.{positions}
use Rattle.go_api.specs.declared.place.Place.{Place}
use Rattle.go_api.specs.declared.place.Place.TheVariants as held
use Rattle.go_api.proofs.AloneLemmas.{length-positions, slice_get-positions}
use Rattle.go_script.specs.Commands.{use_of}
use Rattle.go_script.specs.declared.command.Command.{Command}
use Rattle.go_script.specs.declared.command.Command.TheVariants as asks
use Rattle.go_report.specs.declared.reply.Reply.{Reply}
use Rattle.go_session.specs.Asked.{Asked}
use Rattle.go_session.specs.Laws.{IsElsewhere, LeaveAlone}
use Rattle.go_session.specs.Value.{IsValue}
use Rattle.go_session.specs.Walk.{World, Walk, Row, Effect, Placed, IsFresh, IsRow, IsReply, Replies, row_of, after, effect_of, places_with}
use Rattle.go_session.specs.Walk.Row.{value}
use Rattle.go_session.proofs.RowLemmas.{value_quiet}

-- where one session alone writes, a fresh front is the log's length
pub fresh_alone : (world : World) (walk : Walk) (count front : ℕ) → world.own ≡ positions world.first count → length world.log ≡ world.first + count →
    walk.used ≡ count → world.first ≤ walk.seen → IsFresh world walk front → front ≡ length world.log
fresh_alone world walk zero front own long used old is =
    omega (arith, long, old, is.not_older, is.within)
fresh_alone world walk (suc count) front own long used old is =
    let many : length world.own ≡ suc count = ap (λ (l : List ℕ). length l) own ∙ length-positions world.first (suc count) in
    let all : take walk.used world.own ≡ world.own = take_all walk.used world.own (omega (arith, used, many)) in
    let above : All (λ p. p < front) world.own = subst (λ (l : List ℕ). All (λ p. p < front) l) all is.above_own in
    let last : slice_get world.own count ≡ Some (world.first + count) =
    ap (λ (l : List ℕ). slice_get l count) own ∙ slice_get-positions world.first (suc count) count (omega arith) in
    let below = subst (λ (p : ℕ). p < front) (get_or_from_slice_get world.own count (world.first + count) 0 last)
    (All-get_or (λ p. p < front) world.own count 0 (omega (arith, many)) above) in
    omega (arith, below, long, is.within)

-- another place holds what it held
elsewhere : (place_at : ℕ → Place) (now : Placed) (k : ℕ) → k == now.place ≡ false → places_with (Some now) place_at k ≡ place_at k
elsewhere place_at now k other = rw other refl

-- what a reply to such a command leaves at a place
abbrev pub Stays : Walk → ℕ → Reply → Type 0
Stays walk k reply = places_with (effect_of walk.first reply).placed walk.place_at k ≡ walk.place_at k

-- a question leaves all places as they are
value_stays : (world : World) (walk : Walk) (k place : ℕ) (command : Command) (reply : Reply) (entries : List Edge) →
    IsRow world walk entries (value place command) reply → Stays walk k reply
value_stays world walk k place command reply entries is =
    let quiet = value_quiet world.vertices (take is.0 world.log) command reply is.2 in
    subst (λ (e : Effect). places_with e.placed walk.place_at k ≡ walk.place_at k) (sym (quiet.effect walk.first)) refl

-- a command that leaves a place alone leaves there what was there
pub place_stays : (world : World) (walk : Walk) (k : ℕ) (command : Command) (entries : List Edge) (reply : Reply) → IsElsewhere k (use_of command) →
    IsRow world walk entries (row_of command) reply → Stays walk k reply
place_stays world walk k (asks.Add src dst) entries reply other is = subst (λ (r : Reply). Stays walk k r) (sym is.1) refl
place_stays world walk k (asks.Del src dst) entries reply other is = subst (λ (r : Reply). Stays walk k r) (sym is.1) refl
place_stays world walk k (asks.Offer src dst) entries reply other is = ⊎_elim
    (λ put. subst (λ (r : Reply). Stays walk k r) (sym put.1) refl)
    (λ busy. subst (λ (r : Reply). Stays walk k r) (sym busy.is) refl)
    is
place_stays world walk k (asks.Load name) entries reply other is = subst (λ (r : Reply). Stays walk k r) (sym is.is) refl
place_stays world walk k (asks.View place) entries reply other is =
    subst (λ (r : Reply). Stays walk k r) (sym is.1)
    (elsewhere walk.place_at (record { place = place; holds = held.View is.0 }) k other)
place_stays world walk k (asks.Drop place) entries reply other is =
    subst (λ (r : Reply). Stays walk k r) (sym is) (elsewhere walk.place_at (record { place = place; holds = held.Free }) k other)
place_stays world walk k (asks.Degree place vertex) entries reply other is =
    value_stays world walk k place (asks.Degree place vertex) reply entries is
place_stays world walk k (asks.Neigh place vertex) entries reply other is =
    value_stays world walk k place (asks.Neigh place vertex) reply entries is
place_stays world walk k (asks.Hop place vertex) entries reply other is =
    value_stays world walk k place (asks.Hop place vertex) reply entries is
place_stays world walk k (asks.Level place root vertex) entries reply other is =
    value_stays world walk k place (asks.Level place root vertex) reply entries is
place_stays world walk k (asks.Bfs place root) entries reply other is =
    value_stays world walk k place (asks.Bfs place root) reply entries is
place_stays world walk k (asks.Rank place count) entries reply other is =
    value_stays world walk k place (asks.Rank place count) reply entries is
place_stays world walk k (asks.Stream place) entries reply other is =
    subst (λ (r : Reply). Stays walk k r) (sym is.1) (elsewhere walk.place_at (record { place = place; holds = held.Stream is.0 }) k other)
place_stays world walk k (asks.Close place) entries reply other is =
    subst (λ (r : Reply). Stays walk k r) (sym is) (elsewhere walk.place_at (record { place = place; holds = held.Free }) k other)
place_stays world walk k (asks.Update place most) entries reply other is =
    subst (λ (r : Reply). Stays walk k r) (sym is.is) (elsewhere walk.place_at (record { place = place; holds = held.Stream is.to }) k other)
place_stays world walk k (asks.Until asked) entries reply other is = subst (λ (r : Reply). Stays walk k r) (sym is.0) refl
place_stays world walk k asks.Sync entries reply other is = subst (λ (r : Reply). Stays walk k r) (sym is.1) refl
place_stays world walk k asks.Compact entries reply other is = subst (λ (r : Reply). Stays walk k r) (sym is) refl

-- what is asked of a view is asked of the entries that it shows
value_at : (world : World) (walk : Walk) (entries : List Edge) (row : Row) (place front : ℕ) (command : Command) (reply : Reply) →
    walk.place_at place ≡ held.View front → row ≡ value place command → IsRow world walk entries row reply →
    IsValue world.vertices (take front world.log) command reply
value_at world walk entries row place front command reply at is allowed =
    let read = subst (λ (r : Row). IsRow world walk entries r reply) is allowed in
    let same : held.View read.0 ≡ held.View front = sym read.1 ∙ at in
    let fronts : read.0 ≡ front = cc in
    subst (λ (n : ℕ). IsValue world.vertices (take n world.log) command reply) fronts read.2

-- and so it is until the view is given up
pub one_prefix : (world : World) (walk : Walk) (asked : List Asked) (replies : List Reply) (place front i : ℕ) (a : Asked)
    (reply : Reply) → walk.place_at place ≡ held.View front → LeaveAlone place asked → Replies world walk asked replies →
    slice_get asked i ≡ Some a → row_of a.command ≡ value place a.command → slice_get replies i ≡ Some reply →
    IsValue world.vertices (take front world.log) a.command reply
one_prefix world walk [] replies place front i a reply at alone allowed here is there = absurd (let h : None ≡ Some a = here in cc)
one_prefix world walk (b ∷ asked) [] place front i a reply at alone allowed here is there = absurd (let h : None ≡ Some reply = there in cc)
one_prefix world walk (b ∷ asked) (r ∷ replies) place front zero a reply at alone allowed here is there =
    let same : b ≡ a = (let h : Some b ≡ Some a = here in cc) in
    let told : r ≡ reply = (let h : Some r ≡ Some reply = there in cc) in
    value_at world walk b.entries (row_of b.command) place front a.command reply at (ap (λ (x : Asked). row_of x.command) same ∙ is)
    (subst (λ (x : Reply). IsReply world walk b x) told allowed.0)
one_prefix world walk (b ∷ asked) (r ∷ replies) place front (suc i) a reply at alone allowed here is there =
    one_prefix world (after walk r) asked replies place front i a reply
    (place_stays world walk place b.command b.entries r alone.0 allowed.0 ∙ at) alone.1 allowed.1 here is there
