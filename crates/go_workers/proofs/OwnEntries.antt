-- On a shard's own entries of a run, and on those that it lacks.
use Rattle.std.proofs.Common.{◌≡◌, ℕ, ◌+◌, ◌-◌, ◌≤◌, Bool, true, List, [], length, take, drop, get_or, filter, take_all, sym, refl, ap, ◌∙◌, inr, arith, subst}
use Rattle.std.specs.Prelude.{All, ◌%◌, ◌==◌, ◌++◌, not, OnOk, Result, Ok, Err}
use Rattle.std.proofs.Math.Seq.{drop-append_seam}
use Rattle.std.proofs.lemmas.List.{take-append-drop, length-drop, length-append}
use Rattle.std.proofs.lemmas.List.Elements.{All-drop, All-filter, filter-append, filter_passes}
use Rattle.std.proofs.lemmas.List.Filters.{length-filter_both}
use Rattle.go_word.specs.declared.edge.Edge.{Edge}
use Rattle.go_word.specs.Log.{IsWithin}
use Rattle.go_shard.specs.ShardState.{ShardState, is_own}
use Rattle.go_shard.specs.Split.{is_of_shard}
use Rattle.go_shard.specs.Stands.{Stands, GoesOn, HasGrown}
use Rattle.go_shard.specs.Taking.{HasTaken}
use Rattle.go_workers.specs.Bringing.{CanBringOn, IsBroughtOn}

-- of what passes a test, what is behind the first ones
pub passing_rest : (test : Edge → Bool) (k : ℕ) (run : List Edge) → drop (length (filter test (take k run))) (filter test run) ≡ filter test (drop k run)
passing_rest test k run =
    ap (drop (length (filter test (take k run)))) (ap (filter test) (sym (take-append-drop k run)) ∙ filter-append test (take k run) (drop k run))
    ∙ drop-append_seam (filter test (take k run)) (filter test (drop k run))

-- of the first ones no more pass than of all
pub passing_first : (test : Edge → Bool) (k : ℕ) (run : List Edge) → length (filter test (take k run)) ≤ length (filter test run)
passing_first test k run =
    let all : length (filter test run) ≡ length (filter test (take k run)) + length (filter test (drop k run)) =
    ap (λ l. length (filter test l)) (sym (take-append-drop k run)) ∙ ap length (filter-append test (take k run) (drop k run))
    ∙ length-append (filter test (take k run)) (filter test (drop k run)) in
    omega arith

-- a slice from a place on is what is behind that
pub rest_whole : (n : ℕ) (run : List Edge) → take (length run - n) (drop n run) ≡ drop n run
rest_whole n run = take_all (length run - n) (drop n run) (let left : length (drop n run) ≡ length run - n = length-drop n run in omega arith)

-- no more pass than there are
pub passing_fewer : (test : Edge → Bool) (run : List Edge) → length (filter test run) ≤ length run
passing_fewer test run = let both = length-filter_both test (λ e. not (test e)) (λ e. refl) run in omega arith

module _ (place from : ℕ) (run : List Edge) (lists : List (List Edge)) (shard : ShardState) (can : CanBringOn place from run lists shard) where
  -- which entries are the shard's
  own_is : (more : List Edge) → filter (is_of_shard (length lists) place) more ≡ filter (is_own shard) more
  own_is more =
      ap (λ n. filter (λ (e : Edge). e.src % n == place) more) (sym can.whose.shards_are)
      ∙ ap (λ i. filter (λ (e : Edge). e.src % shard.shards == i) more) (sym can.whose.index_is)

  -- how many of the shard's entries it has of the run
  abbrev pub had : ℕ
  had = length (filter (is_of_shard (length lists) place) (take (shard.front - from) run))

  -- its list has at least so many
  pub had_within : had ≤ length (get_or lists place [])
  had_within = subst (λ (l : List Edge). had ≤ length l) (sym (can.split.each place can.index.0)) (passing_first (is_of_shard (length lists) place) (shard.front - from) run)

  -- and behind them those that the shard lacks
  pub lacks : drop had (get_or lists place []) ≡ filter (is_own shard) (drop (shard.front - from) run)
  lacks =
      ap (drop had) (can.split.each place can.index.0) ∙ passing_rest (is_of_shard (length lists) place) (shard.front - from) run
      ∙ own_is (drop (shard.front - from) run)

  -- they are its own, between vertices, and no more than positions are left
  pub lacks_own : All (λ (e : Edge). is_own shard e ≡ true) (filter (is_own shard) (drop (shard.front - from) run))
  lacks_own = filter_passes (is_own shard) (drop (shard.front - from) run)

  pub lacks_within : All (IsWithin shard.vertices) (filter (is_own shard) (drop (shard.front - from) run))
  lacks_within = All-filter (is_own shard) (IsWithin shard.vertices) (drop (shard.front - from) run) (All-drop (IsWithin shard.vertices) (shard.front - from) run can.ids)

  pub lacks_few : length (filter (is_own shard) (drop (shard.front - from) run)) ≤ from + length run - shard.front
  lacks_few =
      let few = passing_fewer (is_own shard) (drop (shard.front - from) run) in
      let left : length (drop (shard.front - from) run) ≡ length run - (shard.front - from) = length-drop (shard.front - from) run in
      let reaches = can.reaches in
      let within = can.within in
      omega arith

  -- so is the slice of its list behind so many, whichever way these are found
  pub had_fits : (list : List Edge) (n : ℕ) → list ≡ get_or lists place [] → n ≡ had → n ≤ length list
  had_fits list n is same = subst (λ k. k ≤ length list) (sym same) (subst (λ (l : List Edge). had ≤ length l) (sym is) had_within)

  pub batch_is : (list : List Edge) (n : ℕ) → list ≡ get_or lists place [] → n ≡ had
      → take (length list - n) (drop n list) ≡ filter (is_own shard) (drop (shard.front - from) run)
  batch_is list n is same = rest_whole n list ∙ ap (λ k. drop k list) same ∙ ap (drop had) is ∙ lacks

  -- what an append of it makes of the shard
  pub brought_by : {A B : Type 0} (result : Result A B) (batch : List Edge) (front : ℕ) (new : ShardState)
      → batch ≡ filter (is_own shard) (drop (shard.front - from) run) → front ≡ from + length run → OnOk result (HasGrown front batch shard new)
      → ((log more : List Edge) → Stands shard log → GoesOn shard more batch front → OnOk result (Stands new (log ++ more)))
      → OnOk result (IsBroughtOn (drop (shard.front - from) run) (from + length run) shard new)
  brought_by (Err why) batch front new is upto grown stands = tt
  brought_by (Ok done) batch front new is upto grown stands =
      inr
      (subst (λ (b : List Edge). HasTaken shard.front (from + length run) b shard new) is
      (subst (λ n. HasTaken shard.front n batch shard new) upto
      (record { was_at = refl; grown = grown; stands = λ log more stood goes. stands log more stood goes })))
