-- A view's degrees are numbers of 32 bits.
use Rattle.std.proofs.Common.{◌≡◌, ℕ, ◌+◌, ◌-◌, ◌*◌, ◌/◌, ◌%◌, ◌^◌, ◌<◌, ◌≤◌, false, cond, List, [], ◌∷◌, filter, length, map, take, drop}
use Rattle.std.proofs.Common.{refl, ap, ◌∙◌, ⊎_elim, arith}
use Rattle.std.specs.Prelude.{All, ◌==◌, min}
use Rattle.std.proofs.Math.Nat.{mul_comm}
use Rattle.std.proofs.lemmas.Bool.{cases_lt}
use Rattle.std.proofs.lemmas.List.{length-take, length-drop, length-map}
use Rattle.std.proofs.lemmas.List.Elements.{All-head, All-tail}
use Rattle.std.proofs.lemmas.List.Sums.{count_by-le-length, length-filter}
use Rattle.std.proofs.lemmas.Nat.{mul-add-lt, row-Below, mod_below}
use Rattle.go_word.specs.declared.edge.Edge.{Edge}
use Rattle.go_word.specs.Log.{leaves, entries_from, raw}
use Rattle.go_word.specs.Word.{plain_word}
use Rattle.go_shard.specs.ByVertex.{words_of}
use Rattle.go_rule.proofs.Lists.{other_number}
use Rattle.go_views.specs.Counts.{IsStriped, count_of}
use Rattle.go_views.specs.Views.{View, degree_of}

-- of entries that leave vertices below a number none leaves one past it
none_past : (v bound : ℕ) (log : List Edge) → bound ≤ v → All (λ (e : Edge). e.src < bound) log → length (entries_from v log) ≡ 0
none_past v bound [] past all = refl
none_past v bound (e ∷ es) past all =
    let low = All-head (λ (x : Edge). x.src < bound) e es all in
    let other : (e.src == v) ≡ false = other_number e.src v (λ same. absurd (omega arith)) in
    ap (λ b. length (cond b (e ∷ filter (leaves v) es) (filter (leaves v) es))) other
    ∙ none_past v bound es past (All-tail (λ (x : Edge). x.src < bound) e es all)

module _ (view : View) (vertices : ℕ) (seen : List Edge) where
  -- the entries from the archived front on, up to the view's
  abbrev later_of : List Edge
  later_of = drop view.archived (take view.front seen)

  -- by the counts of a log and its entries behind them
  pub degrees_few : IsStriped view.counts → All (λ n. n < 2 ^ 32) view.counts.list
      → ((v : ℕ) → v < vertices → count_of view.counts v ≡ raw (take view.archived seen) v)
      → ((v : ℕ) → v < length view.counts.list → words_of view.later v ≡ map plain_word (entries_from v later_of))
      → All (λ (e : Edge). e.src < vertices) later_of → view.archived ≤ view.front → view.front < 2 ^ 32 → (v : ℕ) → v < length view.counts.list → degree_of view v < 2 ^ 32
  degrees_few striped few raws words inside order small v less =
      let entries : List Edge = entries_from v later_of in
      let so_many : length (words_of view.later v) ≡ length entries = ap length (words v less) ∙ length-map entries plain_word in
      ⊎_elim
      (λ (known : v < vertices).
      let count : count_of view.counts v ≡ raw (take view.archived seen) v = raws v known in
      let upto = count_by-le-length (leaves v) (take view.archived seen) in
      let first : length (take view.archived seen) ≡ min view.archived (length seen) = length-take view.archived seen in
      let behind = count_by-le-length (leaves v) later_of in
      let rest = length-filter (leaves v) later_of in
      let all : length later_of ≡ length (take view.front seen) - view.archived = length-drop view.archived (take view.front seen) in
      let whole : length (take view.front seen) ≡ min view.front (length seen) = length-take view.front seen in
      omega arith)
      (λ (past : vertices ≤ v).
      let none : length entries ≡ 0 = none_past v vertices later_of past inside in
      let long = striped.whole in
      let some = striped.some in
      let row = (row-Below v view.counts.shards view.counts.shards view.counts.stripe (omega arith) (omega arith)).1 in
      let column = mod_below v view.counts.shards some in
      let place = mul-add-lt (v % view.counts.shards) view.counts.stripe (v / view.counts.shards) view.counts.shards column row in
      let turned = mul_comm view.counts.stripe view.counts.shards in
      let count : count_of view.counts v < 2 ^ 32 =
      few ((v % view.counts.shards) * view.counts.stripe + v / view.counts.shards) 0 (omega arith)
      in
      omega arith) (cases_lt v vertices)
