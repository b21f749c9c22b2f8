-- A cut of replies holds none back that rests on the log's first entries.
use Rattle.std.proofs.Common.{◌≡◌, ℕ, zero, suc, ◌+◌, ◌-◌, ◌<◌, ◌≤◌, List, [], ◌∷◌, length, take, drop, filter, fold, get_or, slice_get}
use Rattle.std.proofs.Common.{Option, Some, None, refl, sym, subst, ap, ◌∙◌, arith, ⊎_elim, inl, inr}
use Rattle.std.specs.Prelude.{All, nat_lt}
use Rattle.std.proofs.Math.Nat.{le-max_left, le-max_right}
use Rattle.std.proofs.lemmas.Bool.{cases_lt}
use Rattle.std.proofs.lemmas.Bool.Decides.{leb_tells}
use Rattle.std.proofs.lemmas.List.Elements.{All-get_or, All-from_get_or}
use Rattle.std.proofs.lemmas.Option.{slice_get_within, get_or_from_slice_get}
use Rattle.go_word.specs.declared.edge.Edge.{Edge}
use Rattle.go_api.specs.Calls.{last_of}
use Rattle.go_api.specs.Laid.{Rises}
use Rattle.go_report.specs.declared.reply.Reply.{Reply}
use Rattle.go_report.specs.declared.reply.Reply.TheVariants as tells
use Rattle.go_session.specs.Asked.{Asked}
use Rattle.go_session.specs.Session.{next_entries}
use Rattle.go_session.specs.Walk.{World, Walk, Row, row_of, start, after, Effect, effect_of, led_by, uses, raises, IsEntry, IsBusy, IsLoaded, IsRow, Replies}
use Rattle.go_session.specs.Walk.Row.{entry, offered, loaded, viewed, value, streamed, updated, reached, synced, word}
use Rattle.go_session.specs.Cut.{rest_of, cut_from}
use Rattle.go_session.proofs.RowLemmas.{IsKind, ShowsEntry, row_kind, value_quiet, offered_entry, frees, start_inside}
use Rattle.go_session.proofs.CutWalks.{IsCut, asked_commands, cut_after}
use Rattle.go_session.proofs.CutPositions.{rises_from, rises_order, get_taken, get_dropped, last_get}

-- each own position that wasn't used is at or above what was seen, and not below what no later one is
pub record IsBehind (world : World) (walk : Walk) : Type 0 where
  pub seen : (k p : ℕ) → walk.used ≤ k → slice_get world.own k ≡ Some p → walk.seen ≤ p
  pub low : (k p : ℕ) → walk.used ≤ k → slice_get world.own k ≡ Some p → walk.low ≤ p

-- where the first of the positions that an effect uses isn't below a number, nor is one used later
pub bound_before : (world : World) (walk : Walk) (effect : Effect) (bound : ℕ) →
    ((k p : ℕ) → walk.used ≤ k → k < walk.used + effect.used → slice_get world.own k ≡ Some p → bound ≤ p)
    → ((k p : ℕ) → walk.used + effect.used ≤ k → slice_get world.own k ≡ Some p → bound ≤ p)
    → (k p : ℕ) → walk.used ≤ k → slice_get world.own k ≡ Some p → bound ≤ p
bound_before world walk effect bound now later k p used here = ⊎_elim
    (λ less. now k p used less here)
    (λ more. later k p more here)
    (cases_lt k (walk.used + effect.used))

-- an element of those behind some
pub get_behind : (used k p : ℕ) (own : List ℕ) → slice_get own (used + k) ≡ Some p → slice_get (drop used own) k ≡ Some p
get_behind zero k p own here = let e : zero + k ≡ k = omega arith in subst (λ (i : ℕ). slice_get own i ≡ Some p) e here
get_behind (suc used) k p [] here = absurd (omega (arith, slice_get_within [] (suc used + k) p here))
get_behind (suc used) k p (x ∷ own) here =
    let e : suc used + k ≡ suc (used + k) = omega arith in
    get_behind used k p own (subst (λ (i : ℕ). slice_get (x ∷ own) i ≡ Some p) e here)

-- and of the first of them
get_first : (count k p : ℕ) (own : List ℕ) → k < count → slice_get own k ≡ Some p → slice_get (take count own) k ≡ Some p
get_first zero k p own within here = absurd (omega arith)
get_first (suc count) k p [] within here = here
get_first (suc count) zero p (x ∷ own) within here = here
get_first (suc count) (suc k) p (x ∷ own) within here = get_first count k p own (omega arith) here

-- what holds of each of some positions holds of each of the own ones that they are
taken_all : (P : ℕ → Type 0) (own positions : List ℕ) (used count k p : ℕ) → take count (drop used own) ≡ positions → All P positions → used ≤ k →
    k < used + count → slice_get own k ≡ Some p → P p
taken_all P own positions used count k p next all behind within here =
    let index : ℕ = k - used in
    let e : k ≡ used + index = omega arith in
    let there : slice_get positions index ≡ Some p = subst (λ (l : List ℕ). slice_get l index ≡ Some p) next
    (get_first count index p (drop used own) (omega arith) (get_behind used index p own (subst (λ (i : ℕ). slice_get own i ≡ Some p) e here))) in
    subst P (get_or_from_slice_get positions index p 0 there) (All-get_or P positions index 0 (slice_get_within positions index p there) all)

-- an element is there
get_there : (positions : List ℕ) (k : ℕ) → k < length positions → slice_get positions k ≡ Some (get_or positions k 0)
get_there [] k within = absurd (omega arith)
get_there (x ∷ positions) zero within = refl
get_there (x ∷ positions) (suc k) within = get_there positions k (omega arith)

-- rising positions are all at or above where they begin
pub rises_all : (first : ℕ) (positions : List ℕ) → Rises first positions → All (λ p. first ≤ p) positions
rises_all first positions rises = All-from_get_or (λ p. first ≤ p) positions 0 (λ i within.
    rises_from first positions i (get_or positions i 0) rises (get_there positions i within))

-- the own positions behind an entry's that was shown
entry_behind : (world : World) (walk : Walk) (show : ℕ → Reply) (reply : Reply) → ShowsEntry show → Rises world.first world.own →
    IsEntry world walk show reply → IsBehind world walk
entry_behind world walk show reply shows rises is = record {
  seen = λ k p used here. let order = rises_order world.first world.own walk.used k is.0 p rises used is.2 here in let seen = is.3 in omega arith;
  low = λ k p used here. let order = rises_order world.first world.own walk.used k is.0 p rises used is.2 here in let low = is.4 in omega arith;
}

-- where those behind a reply that uses no position are, so are those behind the walk
led_behind : (world : World) (walk : Walk) (effect : Effect) → effect.used ≡ 0 → IsBehind world (led_by walk effect) → IsBehind world walk
led_behind world walk effect none behind = record {
  seen = λ k p used here. let later = behind.seen k p (omega arith) here in let least = le-max_left walk.seen effect.seen in omega arith;
  low = λ k p used here. let later = behind.low k p (omega arith) here in let least = le-max_left walk.low effect.low in omega arith;
}

-- the same by what its effect is
told_behind : (world : World) (walk : Walk) (reply : Reply) (effect : Effect) → effect_of walk.first reply ≡ effect → effect.used ≡ 0 →
    IsBehind world (after walk reply) → IsBehind world walk
told_behind world walk reply effect is none behind =
    led_behind world walk effect none (subst (λ (e : Effect). IsBehind world (led_by walk e)) is behind)

-- and behind those of a load
loaded_behind : (world : World) (walk : Walk) (name : List ℕ) (entries : List Edge) (reply : Reply) → IsLoaded world walk name entries reply →
    IsBehind world (after walk reply) → IsBehind world walk
loaded_behind world walk name entries reply is behind =
    let effect : Effect = uses (length entries) in
    let later : IsBehind world (led_by walk effect) = subst (λ (r : Reply). IsBehind world (led_by walk (effect_of walk.first r))) is.is behind in
    record {
      seen = bound_before world walk effect walk.seen
          (λ k p used within here. taken_all (λ q. walk.seen ≤ q) world.own is.positions walk.used (length entries) k p is.next
          (rises_all walk.seen is.positions is.rises) used within here)
          (λ k p used here. let l = later.seen k p used here in let least = le-max_left walk.seen 0 in omega arith);
      low = bound_before world walk effect walk.low
          (λ k p used within here. taken_all (λ q. walk.low ≤ q) world.own is.positions walk.used (length entries) k p is.next is.not_low used within here)
          (λ k p used here. let l = later.low k p used here in let least = le-max_left walk.low 0 in omega arith);
    }

-- that a place is free uses no position
frees_used : (place : Option ℕ) → (frees place).used ≡ 0
frees_used None = refl
frees_used (Some place) = refl

-- where the own positions are behind a walk after a reply, they are behind it before
row_behind : (world : World) (walk : Walk) (entries : List Edge) (row : Row) (reply : Reply) → IsKind row → Rises world.first world.own →
    IsRow world walk entries row reply → IsBehind world (after walk reply) → IsBehind world walk
row_behind world walk entries (entry show) reply kind rises is behind = entry_behind world walk show reply kind rises is
row_behind world walk entries offered reply kind rises is behind = ⊎_elim
    (λ at. entry_behind world walk tells.Offered reply offered_entry rises at)
    (λ busy. told_behind world walk reply _ (ap (λ (r : Reply). effect_of walk.first r) busy.is) refl behind)
    is
row_behind world walk entries (loaded name) reply kind rises is behind = loaded_behind world walk name entries reply is behind
row_behind world walk entries (viewed place) reply kind rises is behind =
    told_behind world walk reply _ (ap (λ (r : Reply). effect_of walk.first r) is.1) refl behind
row_behind world walk entries (value place command) reply kind rises is behind =
    told_behind world walk reply (uses 0) ((value_quiet world.vertices (take is.0 world.log) command reply is.2).effect walk.first) refl behind
row_behind world walk entries (streamed place) reply kind rises is behind =
    told_behind world walk reply _ (ap (λ (r : Reply). effect_of walk.first r) is.1) refl behind
row_behind world walk entries (updated place most) reply kind rises is behind =
    told_behind world walk reply _ (ap (λ (r : Reply). effect_of walk.first r) is.is) refl behind
row_behind world walk entries (reached asked) reply kind rises is behind =
    told_behind world walk reply _ (ap (λ (r : Reply). effect_of walk.first r) is.0) refl behind
row_behind world walk entries synced reply kind rises is behind =
    told_behind world walk reply _ (ap (λ (r : Reply). effect_of walk.first r) is.1) refl behind
row_behind world walk entries (word told) reply kind rises is behind =
    told_behind world walk reply (frees kind.place) (ap (λ (r : Reply). effect_of walk.first r) is ∙ kind.effect walk.first) (frees_used kind.place) behind

-- from the end of the replies back to where they begin
all_behind : (world : World) (walk : Walk) (asked : List Asked) (replies : List Reply) → Rises world.first world.own → Replies world walk asked replies →
    IsBehind world (fold after walk replies) → IsBehind world walk
all_behind world walk asked [] rises allowed behind = behind
all_behind world walk [] (reply ∷ replies) rises allowed behind = absurd allowed
all_behind world walk (a ∷ asked) (reply ∷ replies) rises allowed behind =
    row_behind world walk a.entries (row_of a.command) reply (row_kind a.command) rises allowed.0
    (all_behind world (after walk reply) asked replies rises allowed.1 behind)

-- a reply that rests on more than so many entries, since it saw that many: no own position used later is among these
seen_above : (d : ℕ) (world : World) (walk : Walk) (reply : Reply) (effect : Effect) (k p : ℕ) → effect_of walk.first reply ≡ effect → effect.used ≡ 0 →
    d < effect.seen → IsBehind world (after walk reply) → walk.used ≤ k → slice_get world.own k ≡ Some p → d ≤ p
seen_above d world walk reply effect k p is none more behind used here =
    let later : IsBehind world (led_by walk effect) = subst (λ (e : Effect). IsBehind world (led_by walk e)) is behind in
    let above = later.seen k p (omega arith) here in
    let most = le-max_right walk.seen effect.seen in
    omega arith

-- the same of an entry that was shown
entry_above : (d : ℕ) (world : World) (walk : Walk) (show : ℕ → Reply) (row : Row) (reply : Reply) (k p : ℕ) → ShowsEntry show →
    Rises world.first world.own → IsEntry world walk show reply → d < rest_of walk row reply → walk.used ≤ k → slice_get world.own k ≡ Some p → d ≤ p
entry_above d world walk show row reply k p shows rises is more used here =
    let rest : rest_of walk row reply ≡ is.0 + 1 = ap (λ (r : Reply). rest_of walk row r) is.1 ∙ shows.rest walk row is.0 in
    let order = rises_order world.first world.own walk.used k is.0 p rises used is.2 here in
    omega arith

-- of a full ring
busy_above : (d : ℕ) (world : World) (walk : Walk) (row : Row) (reply : Reply) (k p : ℕ) → IsBusy world walk reply → IsBehind world (after walk reply) →
    d < rest_of walk row reply → walk.used ≤ k → slice_get world.own k ≡ Some p → d ≤ p
busy_above d world walk row reply k p is behind more used here =
    let head : d < is.head = subst (λ (r : Reply). d < rest_of walk row r) is.is more in
    let later : IsBehind world (led_by walk (raises is.head)) =
    subst (λ (r : Reply). IsBehind world (led_by walk (effect_of walk.first r))) is.is behind in
    let above = later.low k p (omega arith) here in
    let most = le-max_right walk.low is.head in
    omega arith

-- of some positions one is the last
last_of_cons : (p : ℕ) (more : List ℕ) → (last : ℕ) × (last_of (p ∷ more) ≡ Some last)
last_of_cons p [] = (p, refl)
last_of_cons p (q ∷ more) = last_of_cons q more

-- of the last of some positions that are own ones
last_above : (d : ℕ) (world : World) (walk : Walk) (row : Row) (name : List ℕ) (positions : List ℕ) (k p : ℕ) → IsCut d world walk →
    take (length positions) (drop walk.used world.own) ≡ positions → d < rest_of walk row (tells.Loaded name (length positions) (last_of positions)) →
    walk.used + (length positions - 1) ≤ k → slice_get world.own k ≡ Some p → d ≤ p
last_above d world walk row name [] k p cut next more used here = absurd (let seen = cut.seen in let rest : d < walk.seen = more in omega arith)
last_above d world walk row name (q ∷ positions) k p cut next more used here =
    let own = world.own in
    let count : ℕ = length (q ∷ positions) in
    let index : ℕ = count - 1 in
    let last = last_of_cons q positions in
    let is : last_of (q ∷ positions) ≡ Some last.0 = last.1 in
    let rest : d < last.0 + 1 = subst (λ (o : Option ℕ). d < rest_of walk row (tells.Loaded name count o)) is more in
    let at : slice_get own (walk.used + index) ≡ Some last.0 = get_dropped walk.used index last.0 own
    (get_taken count index last.0 (drop walk.used own)
    (subst (λ (l : List ℕ). slice_get l index ≡ Some last.0) (sym next) (last_get (q ∷ positions) last.0 index (omega arith) is))) in
    let order = rises_order world.first own (walk.used + index) k last.0 p cut.rises used at here in
    omega arith

-- and of a load: its last entry isn't among these, nor is any used later
loaded_above : (d : ℕ) (world : World) (walk : Walk) (name : List ℕ) (entries : List Edge) (row : Row) (reply : Reply) (k p : ℕ) → IsCut d world walk →
    IsLoaded world walk name entries reply → d < rest_of walk row reply → walk.used + (length entries - 1) ≤ k → slice_get world.own k ≡ Some p → d ≤ p
loaded_above d world walk name entries row reply k p cut is more used here =
    let told : d < rest_of walk row (tells.Loaded name (length entries) (last_of is.positions)) = subst (λ (r : Reply). d < rest_of walk row r) is.is more in
    let count = is.so_many in
    last_above d world walk row name is.positions k p cut
    (subst (λ (c : ℕ). take c (drop walk.used world.own) ≡ is.positions) (sym count) is.next)
    (subst (λ (c : ℕ). d < rest_of walk row (tells.Loaded name c (last_of is.positions))) (sym count) told)
    (omega arith) here

-- a reply that rests on more than so many entries: of the own positions at or behind that of its last entry none is among these
row_above : (d : ℕ) (world : World) (walk : Walk) (entries : List Edge) (row : Row) (reply : Reply) (k p : ℕ) → IsKind row → IsCut d world walk →
    IsRow world walk entries row reply → IsBehind world (after walk reply) → d < rest_of walk row reply → walk.used + (length entries - 1) ≤ k →
    slice_get world.own k ≡ Some p → d ≤ p
row_above d world walk entries (entry show) reply k p kind cut is behind more used here =
    entry_above d world walk show (entry show) reply k p kind cut.rises is more (omega arith) here
row_above d world walk entries offered reply k p kind cut is behind more used here = ⊎_elim
    (λ at. entry_above d world walk tells.Offered offered reply k p offered_entry cut.rises at more (omega arith) here)
    (λ busy. busy_above d world walk offered reply k p busy behind more (omega arith) here)
    is
row_above d world walk entries (loaded name) reply k p kind cut is behind more used here =
    loaded_above d world walk name entries (loaded name) reply k p cut is more used here
row_above d world walk entries (viewed place) reply k p kind cut is behind more used here =
    seen_above d world walk reply _ k p (ap (λ (r : Reply). effect_of walk.first r) is.1) refl
    (subst (λ (r : Reply). d < rest_of walk (viewed place) r) is.1 more) behind (omega arith) here
row_above d world walk entries (value place command) reply k p kind cut is behind more used here =
    absurd (let rest = (value_quiet world.vertices (take is.0 world.log) command reply is.2).rest walk place command in
    let shown = cut.inside.places place in let seen = cut.seen in omega arith)
row_above d world walk entries (streamed place) reply k p kind cut is behind more used here =
    seen_above d world walk reply _ k p (ap (λ (r : Reply). effect_of walk.first r) is.1) refl
    (subst (λ (r : Reply). d < rest_of walk (streamed place) r) is.1 more) behind (omega arith) here
row_above d world walk entries (updated place most) reply k p kind cut is behind more used here =
    seen_above d world walk reply _ k p (ap (λ (r : Reply). effect_of walk.first r) is.is) refl
    (subst (λ (r : Reply). d < rest_of walk (updated place most) r) is.is more) behind (omega arith) here
row_above d world walk entries (reached asked) reply k p kind cut is behind more used here =
    seen_above d world walk reply _ k p (ap (λ (r : Reply). effect_of walk.first r) is.0) refl
    (subst (λ (r : Reply). d < rest_of walk (reached asked) r) is.0 more) behind (omega arith) here
row_above d world walk entries synced reply k p kind cut is behind more used here =
    seen_above d world walk reply _ k p (ap (λ (r : Reply). effect_of walk.first r) is.1) refl
    (subst (λ (r : Reply). d < rest_of walk synced r) is.1 more) behind (omega arith) here
row_above d world walk entries (word told) reply k p kind cut is behind more used here =
    absurd (let rest : rest_of walk (word told) reply ≡ walk.seen = ap (λ (r : Reply). rest_of walk (word told) r) is ∙ kind.rest walk (word told) in
    let seen = cut.seen in omega arith)

-- where replies end: besides the own positions that they used there are at most some first ones of the next command's, and not all
abbrev pub EndsAt : World → Walk → List Asked → List Reply → Type 0
EndsAt world walk asked replies = length world.own ≤ (fold after walk replies).used + (length (next_entries (drop (length replies) asked)) - 1)

-- what a cut keeps, from any walk on
keeps_from : (d : ℕ) (world : World) (walk : Walk) (asked : List Asked) (replies : List Reply) (k p : ℕ) → IsCut d world walk →
    Replies world walk asked replies → IsBehind world (fold after walk replies) → EndsAt world walk asked replies →
    let cut = cut_from d walk (asked_commands asked) replies in
    (fold after walk cut).used + (length (next_entries (drop (length cut) asked)) - 1) ≤ k → slice_get world.own k ≡ Some p → d ≤ p
keeps_from d world walk asked [] k p is allowed behind ends used here =
    absurd (let within = slice_get_within world.own k p here in omega arith)
keeps_from d world walk [] (reply ∷ replies) k p is allowed behind ends used here = absurd allowed
keeps_from d world walk (a ∷ asked) (reply ∷ replies) k p is allowed behind ends used here =
    let later : IsBehind world (after walk reply) = all_behind world (after walk reply) asked replies is.rises allowed.1 behind in
    elim (leb_tells (rest_of walk (row_of a.command) reply) d) [
      | inl h ↦
          let rest = cut_from d (after walk reply) (asked_commands asked) replies in
          let more : (fold after (after walk reply) rest).used + (length (next_entries (drop (length rest) asked)) - 1) ≤ k = rw h.0 at used in
          keeps_from d world (after walk reply) asked replies k p
          (cut_after d world walk a.entries a.command reply is allowed.0 h.1) allowed.1 behind ends more here
      | inr h ↦
          let more : walk.used + (length a.entries - 1) ≤ k = rw h.0 at used in
          row_above d world walk a.entries (row_of a.command) reply k p (row_kind a.command) is allowed.0 later h.1 more here
    ]

-- where no position from a place on is below a number, no more than those before it are
pub few_below : (d bound : ℕ) (own : List ℕ) → ((k p : ℕ) → bound ≤ k → slice_get own k ≡ Some p → d ≤ p) → length (filter (λ p. nat_lt p d) own) ≤ bound
few_below d bound [] above = omega arith
few_below d zero (x ∷ own) above =
    let first : d ≤ x = above 0 x (omega arith) refl in
    elim (leb_tells (suc x) d) [
      | inl h ↦ absurd (let below = h.1 in omega arith)
      | inr h ↦ rw h.0 (few_below d zero own (λ k p least here. above (suc k) p (omega arith) here))
    ]
few_below d (suc bound) (x ∷ own) above =
    let rest = few_below d bound own (λ k p least here. above (suc k) p (omega arith) here) in
    elim (leb_tells (suc x) d) [
      | inl h ↦ rw h.0 (omega arith)
      | inr h ↦ rw h.0 (omega arith)
    ]

-- of the own positions below the front of a cut no more are left than the cut replies use and some first ones of the next command's, and not all
pub cut_keeps : (d : ℕ) (world : World) (asked : List Asked) (replies : List Reply) → world.first ≤ d → d ≤ length world.log →
    Rises world.first world.own → Replies world (start world.first) asked replies → IsBehind world (fold after (start world.first) replies) →
    EndsAt world (start world.first) asked replies →
    let cut = cut_from d (start world.first) (asked_commands asked) replies in
    length (filter (λ p. nat_lt p d) world.own) ≤ (fold after (start world.first) cut).used + (length (next_entries (drop (length cut) asked)) - 1)
cut_keeps d world asked replies old there rises allowed behind ends =
    let cut = cut_from d (start world.first) (asked_commands asked) replies in
    few_below d ((fold after (start world.first) cut).used + (length (next_entries (drop (length cut) asked)) - 1)) world.own
    (λ k p used here. keeps_from d world (start world.first) asked replies k p
    (record { inside = start_inside world (omega arith); rises = rises; there = there; seen = old }) allowed behind ends used here)
