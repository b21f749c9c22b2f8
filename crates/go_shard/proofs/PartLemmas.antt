-- Lemmas on shards that have their parts of a log, and take a piece more.
use Rattle.std.proofs.Common.{◌≡◌, ◌⊎◌, ℕ, ◌+◌, ◌-◌, ◌<◌, ◌≤◌, ◌^◌, Bool, true, false, List, [], ◌∷◌, ◌++◌, length, take, drop, filter, get_or, map, refl}
use Rattle.std.proofs.Common.{ap, arith, sym, subst, ◌∙◌, inl, inr, take-add}
use Rattle.std.specs.Prelude.{All, Contains}
use Rattle.std.proofs.lemmas.Bool.Decides.{eqb_tells}
use Rattle.std.proofs.lemmas.List.{length-take, length-drop, length-map, get_or-map, drop-drop}
use Rattle.std.proofs.lemmas.List.Sums.{length-filter, count_by-le-length}
use Rattle.std.proofs.lemmas.List.Elements.{All-filter, All-cons, All-take, All-drop, Contains-append_left, Contains-append_right}
use Rattle.go_word.specs.declared.edge.Edge.{Edge}
use Rattle.go_word.specs.Log.{IsWithin}
use Rattle.go_shard.specs.ShardState.{ShardState, Keeps, is_own}
use Rattle.go_shard.specs.Stands.{Stands, GoesOn, HasGrown}
use Rattle.go_shard.specs.Split.{is_of_shard, IsSplit}
use Rattle.go_shard.specs.Parts.{stops_of, HasPart, HaveParts, IsBehind, AreBehind, AllHaveCome, IsBeside}
use Rattle.go_shard.specs.Taking.{CanTake, CanAllTake, MayHaveTaken, HasTaken, MayAllHaveTaken, NoneIsAt}

-- each entry that a test lets through passes it
all_pass : (p : Edge → Bool) (edges : List Edge) → All (λ e. p e ≡ true) (filter p edges)
all_pass p [] = λ k d below. absurd (omega arith)
all_pass p (e ∷ edges) = passes (p e) refl (all_pass p edges) where
  passes : (b : Bool) → p e ≡ b → All (λ x. p x ≡ true) (filter p edges) → All (λ x. p x ≡ true) (filter p (e ∷ edges))
  passes true is rest = rw is (All-cons (λ x. p x ≡ true) e (filter p edges) is rest)
  passes false is rest = rw is rest

-- a test lets no more through than there are
filter_no_longer : (p : Edge → Bool) (edges : List Edge) → length (filter p edges) ≤ length edges
filter_no_longer p edges = omega (arith, length-filter p edges, count_by-le-length p edges)

-- the piece of a log between two fronts
record IsPiece (v start end : ℕ) (log piece : List Edge) : Type 0 where
  later : start < end
  within : end ≤ length log
  piece_is : piece ≡ take (end - start) (drop start log)
  ids : All (IsWithin v) piece

-- it has as many entries as there are fronts behind the first
piece_long : {v start end : ℕ} {log piece : List Edge} → IsPiece v start end log piece → length piece ≡ end - start
piece_long {v} {start} {end} {log} {piece} p =
    ap length p.piece_is ∙ length-take (end - start) (drop start log) ∙ omega (arith, length-drop start log, p.within, p.later)

-- a shard may take its batch of a piece
can_take : {v so_many i from start end : ℕ} {views : List ℕ} {log piece batch : List Edge} {shard : ShardState} →
    HasPart v so_many i from views log shard → IsPiece v start end log piece → end < 2 ^ 32 → batch ≡ filter (is_of_shard so_many i) piece →
    CanTake start end shard batch
can_take {v} {so_many} {i} {from} {start} {end} {views} {log} {piece} {batch} {shard} part p small is = record {
  later = p.later;
  small = small;
  short = rw is (omega (arith, piece_long p, filter_no_longer (is_of_shard so_many i) piece));
  ids = rw (part.whose.vertices_are, is) (All-filter (is_of_shard so_many i) (IsWithin v) piece p.ids);
  own = rw (part.whose.shards_are, part.whose.index_is, is) (all_pass (is_of_shard so_many i) piece);
}

-- a front that was kept, or the new one
kept_front : (old new : ShardState) (views : List ℕ) (start end n : ℕ) (batch : List Edge) → HasGrown end batch old new →
    ((m : ℕ) → Contains views m → m ≤ start → Keeps old m) →
    IsBeside start end n → Contains views n → n ≤ end → Keeps new n
kept_front old new views start end n batch grown keeps (inl before) view within = grown.keeps n (keeps n view before)
kept_front old new views start end n batch grown keeps (inr behind) view within =
    let same : end ≡ n = omega (arith, behind, within) in
    subst (Keeps new) same grown.keeps_front

-- no view is between two fronts
abbrev NoViewBetween : List ℕ → ℕ → ℕ → Type 0
NoViewBetween views start end = (n : ℕ) → Contains views n → IsBeside start end n

-- a shard that took its batch has its part of the log up to the later front
part_taken : {v so_many i from start end : ℕ} {views : List ℕ} {log piece batch : List Edge} {old new : ShardState} →
    HasPart v so_many i from views log old → HasTaken start end batch old new → IsPiece v start end log piece →
    batch ≡ filter (is_of_shard so_many i) piece → NoViewBetween views start end → HasPart v so_many i from views log new
part_taken {v} {so_many} {i} {from} {start} {end} {views} {log} {piece} {batch} {old} {new} part taken p batch_is beside =
    let at = taken.was_at in
    let grown = taken.grown in
    let same = grown.same in
    let front : new.front ≡ end = ap (λ (s : ShardState). s.front) same in
    let own : filter (is_own old) piece ≡ batch = rw (part.whose.shards_are, part.whose.index_is) (sym batch_is) in
    let goes : GoesOn old piece batch end =
    record { reach = rw at (omega (arith, piece_long p, p.later)); ids = rw part.whose.vertices_are p.ids; own = own } in
    let longer : take start log ++ piece ≡ take end log =
    ap (λ (l : List Edge). take start log ++ l) p.piece_is ∙ sym (take-add start (end - start) log)
    ∙ ap (λ (n : ℕ). take n log) (omega (arith, p.later)) in
    let stands : Stands old (take start log) = subst (λ (n : ℕ). Stands old (take n log)) at part.stands in
    record {
      whose = record {
        index_is = ap (λ (s : ShardState). s.index) same ∙ part.whose.index_is;
        shards_are = ap (λ (s : ShardState). s.shards) same ∙ part.whose.shards_are;
        vertices_are = ap (λ (s : ShardState). s.vertices) same ∙ part.whose.vertices_are;
      };
      stands = subst (λ (n : ℕ). Stands new (take n log)) (sym front) (subst (Stands new) longer (taken.stands (take start log) piece stands goes));
      begun = omega (arith, front, part.begun, at, p.later);
      within = omega (arith, front, p.within);
      keeps = grown.keeps from part.keeps;
      cut = omega (arith, ap (λ (s : ShardState). s.cut) same, part.cut);
      answers = record {
        keeps = λ n view below.
            kept_front old new views start end n batch grown (λ m there before. part.answers.keeps m there (omega (arith, before, at))) (beside n view) view
            (omega (arith, below, front));
        uncut = λ n view. omega (arith, ap (λ (s : ShardState). s.cut) same, part.answers.uncut n view);
      };
      pins = ap (λ (s : ShardState). s.pins) same ∙ part.pins;
    }

-- what holds of all holds of one that is among them
beside_all : (P : ℕ → Type 0) (stops : List ℕ) (n : ℕ) → All P stops → Contains stops n → P n
beside_all P stops n all there = subst P there.2 (all there.0 n there.1)

-- how far shards have caught up with a log, of which the entries behind a front are given
pub record IsCaughtUpTo (from : ℕ) (views stops : List ℕ) (newest : List Edge) (old now : List ShardState) (start : ℕ) : Type 0 where
  pub count : length now ≡ length old
  pub begun : from ≤ start
  pub within : start ≤ from + length newest
  pub each : (k : ℕ) (d : ShardState) → k < length now → ((get_or now k d).front ≡ start)
      ⊎ ((start < (get_or now k d).front) × Contains stops (get_or now k d).front)
  pub parts : (v so_many : ℕ) (log : List Edge) → IsBehind v so_many from views log newest old → HaveParts v so_many from views log now

-- a front of a list, among the fronts of all
contains_front : (shards : List ShardState) (k : ℕ) (d : ShardState) → k < length shards → Contains (map (λ s. s.front) shards) (get_or shards k d).front
contains_front shards k d below =
    let within : k < length (map (λ (s : ShardState). s.front) shards) = omega (arith, below, length-map shards (λ (s : ShardState). s.front)) in
    (k, within, get_or-map (λ (s : ShardState). s.front) shards k d _ below)

-- at the beginning
pub caught_none : (from : ℕ) (views : List ℕ) (newest : List Edge) (old : List ShardState) → AreBehind from views newest old →
    IsCaughtUpTo from views (stops_of old views) newest old old from
caught_none from views newest old behind =
    let b = behind.behind in
    record {
      count = refl;
      begun = omega arith;
      within = omega arith;
      each = λ k d below.
          let part = b.parts.each k d (omega (arith, below, b.parts.count)) in
          let stop = Contains-append_right views (map (λ s. s.front) old) (get_or old k d).front (contains_front old k d below) in
          begins (get_or old k d).front part.begun stop;
      parts = λ v so_many log is. is.parts;
    } where
      begins : (front : ℕ) → from ≤ front → Contains (stops_of old views) front → (front ≡ from) ⊎ ((from < front) × Contains (stops_of old views) front)
      begins front begun stop = elim (eqb_tells front from) [
        | inl h ↦ inl h.1
        | inr h ↦ inr (omega (arith, begun, h.1), stop)
      ]

-- the piece of a log between two fronts, out of the entries behind an earlier one
pub piece_of_log : (from start end : ℕ) (log newest : List Edge) → newest ≡ drop from log → from ≤ start →
    take (end - start) (drop (start - from) newest) ≡ take (end - start) (drop start log)
piece_of_log from start end log newest are begun =
    rw are (ap (take (end - start)) (drop-drop (start - from) from log ∙ ap (λ (n : ℕ). drop n log) (omega (arith, begun))))

-- the next piece of a log, up to a later front, was split among so many shards
pub record IsDealt (from start end : ℕ) (newest : List Edge) (count : ℕ) (batches : List (List Edge)) : Type 0 where
  pub piece : List Edge
  pub later : start < end
  pub within : end ≤ from + length newest
  pub piece_is : piece ≡ take (end - start) (drop (start - from) newest)
  pub split : IsSplit count piece batches

-- it is a piece of that log
dealt_piece : {v so_many from start end count : ℕ} {views : List ℕ} {log newest : List Edge} {old : List ShardState} {batches : List (List Edge)} →
    IsBehind v so_many from views log newest old → from ≤ start → (dealt : IsDealt from start end newest count batches) →
    IsPiece v start end log dealt.piece
dealt_piece {v} {so_many} {from} {start} {end} {count} {views} {log} {newest} {old} {batches} b begun dealt =
    let whole : from + length newest ≡ length log = rw b.newest_are (omega (arith, length-drop from log, b.from_within)) in
    let is : dealt.piece ≡ take (end - start) (drop start log) = dealt.piece_is ∙ piece_of_log from start end log newest b.newest_are begun in
    record {
      later = dealt.later;
      within = omega (arith, dealt.within, whole);
      piece_is = is;
      ids = subst (All (IsWithin v)) (sym is) (All-take (IsWithin v) (end - start) (drop start log) (All-drop (IsWithin v) start log b.ids));
    }

-- each shard may take its batch of the next piece
pub can_all_take : {from start end : ℕ} {views stops : List ℕ} {newest : List Edge} {old now : List ShardState} {batches : List (List Edge)} →
    AreBehind from views newest old → IsCaughtUpTo from views stops newest old now start → IsDealt from start end newest (length now) batches →
    CanAllTake start end now batches
can_all_take {from} {start} {end} {views} {stops} {newest} {old} {now} {batches} behind caught dealt =
    let b = behind.behind in
    let parts = caught.parts behind.v behind.so_many behind.log b in
    let p = dealt_piece b caught.begun dealt in
    record {
      each = λ i d below.
          let batch : get_or batches i [] ≡ filter (is_of_shard behind.so_many i) dealt.piece =
          dealt.split.each i below ∙ ap (λ (n : ℕ). filter (is_of_shard n i) dealt.piece) parts.count in
          can_take (parts.each i d (omega (arith, below, parts.count))) p (omega (arith, p.within, b.small)) batch;
    }

-- all parts, after some batches were taken
parts_taken : {v so_many from start end : ℕ} {views : List ℕ} {log piece : List Edge} {now new : List ShardState} {batches : List (List Edge)} →
    HaveParts v so_many from views log now → IsPiece v start end log piece → IsSplit (length now) piece batches → MayAllHaveTaken start end batches now new →
    NoViewBetween views start end → HaveParts v so_many from views log new
parts_taken {v} {so_many} {from} {start} {end} {views} {log} {piece} {now} {new} {batches} parts p split may beside = record {
  some = parts.some;
  few = parts.few;
  count = may.count ∙ parts.count;
  each = λ i d below.
      let below_now : i < length now = omega (arith, below, parts.count) in
      let batch = split.each i below_now ∙ ap (λ (n : ℕ). filter (is_of_shard n i) piece) parts.count in
      one i (get_or now i d) (get_or new i d) (get_or batches i []) (parts.each i d below) batch (may.each i d below_now);
} where
  one : (i : ℕ) (old_one new_one : ShardState) (batch : List Edge) → HasPart v so_many i from views log old_one → batch ≡ filter (is_of_shard so_many i) piece →
      MayHaveTaken start end batch old_one new_one → HasPart v so_many i from views log new_one
  one i old_one new_one batch part batch_is (inl same) = subst (HasPart v so_many i from views log) (sym same) part
  one i old_one new_one batch part batch_is (inr taken) = part_taken part taken p batch_is beside

-- whatever was taken of the next piece, the shards have their parts
pub parts_may : {from start end : ℕ} {views : List ℕ} {newest : List Edge} {old now new : List ShardState} {batches : List (List Edge)} →
    IsCaughtUpTo from views (stops_of old views) newest old now start → IsDealt from start end newest (length now) batches →
    All (IsBeside start end) (stops_of old views) → MayAllHaveTaken start end batches now new →
    (v so_many : ℕ) (log : List Edge) → IsBehind v so_many from views log newest old → HaveParts v so_many from views log new
parts_may {from} {start} {end} {views} {newest} {old} {now} {new} {batches} caught dealt beside may v so_many log b =
    parts_taken (caught.parts v so_many log b) (dealt_piece b caught.begun dealt) dealt.split may
    (λ n view. beside_all (IsBeside start end) (stops_of old views) n beside (Contains-append_left views (map (λ s. s.front) old) n view))

-- all shards took the next piece
pub caught_more : {from start end : ℕ} {views : List ℕ} {newest : List Edge} {old now new : List ShardState} {batches : List (List Edge)} →
    IsCaughtUpTo from views (stops_of old views) newest old now start → IsDealt from start end newest (length now) batches →
    All (IsBeside start end) (stops_of old views) → MayAllHaveTaken start end batches now new → NoneIsAt start new →
    IsCaughtUpTo from views (stops_of old views) newest old new end
caught_more {from} {start} {end} {views} {newest} {old} {now} {new} {batches} caught dealt beside may none = record {
  count = may.count ∙ caught.count;
  begun = omega (arith, caught.begun, dealt.later);
  within = dealt.within;
  each = λ k d below.
      let below_now : k < length now = omega (arith, below, may.count) in
      one (get_or now k d) (get_or new k d) (get_or batches k []) (caught.each k d below_now) (may.each k d below_now) (none.each k d below);
  parts = parts_may caught dealt beside may;
} where
  stops : List ℕ
  stops = stops_of old views

  further : (front : ℕ) → start < front → Contains stops front → (front ≡ end) ⊎ ((end < front) × Contains stops front)
  further front past stop = elim (beside_all (IsBeside start end) stops front beside stop) [
    | inl before ↦ absurd (omega (arith, before, past))
    | inr behind ↦ elim (eqb_tells front end) [
      | inl h ↦ inl h.1
      | inr h ↦ inr (omega (arith, behind, h.1), stop)
    ]
  ]

  one : (was is_now : ShardState) (batch : List Edge) → ((was.front ≡ start) ⊎ ((start < was.front) × Contains stops was.front)) →
      MayHaveTaken start end batch was is_now → (is_now.front ≡ start → ⊥) →
      (is_now.front ≡ end) ⊎ ((end < is_now.front) × Contains stops is_now.front)
  one was is_now batch (inl at) (inl same) gone = absurd (gone (ap (λ (s : ShardState). s.front) same ∙ at))
  one was is_now batch (inr past) (inl same) gone =
      subst (λ (n : ℕ). (n ≡ end) ⊎ ((end < n) × Contains stops n)) (sym (ap (λ (s : ShardState). s.front) same)) (further was.front past.0 past.1)
  one was is_now batch at (inr taken) gone = inl (ap (λ (s : ShardState). s.front) taken.grown.same)

-- at the end all have come there
pub caught_all : (from : ℕ) (views stops : List ℕ) (newest : List Edge) (old now : List ShardState) (start : ℕ) →
    IsCaughtUpTo from views stops newest old now start →
    from + length newest ≤ start → AllHaveCome (from + length newest) now
caught_all from views stops newest old now start caught all = record { each = λ k d below. come (get_or now k d).front (caught.each k d below) } where
  come : (front : ℕ) → (front ≡ start) ⊎ ((start < front) × Contains stops front) → from + length newest ≤ front
  come front (inl at) = omega (arith, at, all)
  come front (inr past) = omega (arith, past.0, all)

-- the piece between two fronts, as it is cut out of the entries behind an earlier one
pub piece_cut : (from start end : ℕ) (newest : List Edge) → from ≤ start →
    take (end - from - (start - from)) (drop (start - from) newest) ≡ take (end - start) (drop (start - from) newest)
piece_cut from start end newest begun = ap (λ (n : ℕ). take n (drop (start - from) newest)) (omega (arith, begun))
