-- Lemmas on a compaction: its lanes one by one, and what the shard tells afterwards.
use Rattle.std.proofs.Common.{◌≡◌, ◌⊎◌, ℕ, ◌-◌, ◌<◌, ◌≤◌, ◌/◌, List, [], ◌∷◌, length, take, drop, get_or}
use Rattle.std.proofs.Common.{filter, map, All, refl, sym, ap, ◌∙◌, subst, arith, inl, inr}
use Rattle.std.specs.Prelude.{nat_lt, nat_le}
use Rattle.std.proofs.lemmas.Bool.{cases_lt, lt-ltb}
use Rattle.std.proofs.lemmas.List.{get_or_default, length-drop, drop-map}
use Rattle.std.proofs.lemmas.List.Elements.{All-weaker, All-filter}
use Rattle.go_word.specs.declared.edge.Edge.{Edge}
use Rattle.go_word.specs.Log.{entries_from, raw}
use Rattle.go_word.specs.Word.{plain_word}
use Rattle.go_word.specs.Neighbours.{neighbours}
use Rattle.go_shard.specs.declared.fronts.FrontRange.{FrontRange}
use Rattle.go_shard.specs.Lane.{Lane, empty_lane, lane_at, IsCompacted}
use Rattle.go_shard.specs.Listing.{AreListed}
use Rattle.go_shard.specs.Compacting.{CanCompact, HaveRenewed}
use Rattle.go_shard.specs.ShardState.{ShardState, IsOf, Keeps, lane_of, IsAtRest, IsSound}
use Rattle.go_shard.specs.Stands.{Stands, HasForgotten}
use Rattle.go_shard.proofs.EntriesLemmas.{neighbours_of_first, later_between}
use Rattle.go_shard.proofs.RestLemmas.{rest_at, rest_compacts, bare_compacted, compacted_rest, told_from}
use Rattle.go_shard.proofs.KeepsLemmas.{after_cut, contains_filtered, keeps_within, keeps_cut_on, kept_before_cut}
use Rattle.go_shard.proofs.GrowthLemmas.{list_at-log}

-- all lanes of a sound shard can be compacted between its cut and its front
pub all_compact : (shard : ShardState) (at : ℕ) → IsSound shard → shard.cut ≤ at → at ≤ shard.front → All (CanCompact at) shard.lanes
all_compact shard at sound from to = All-weaker (IsAtRest shard.cut shard.front) (CanCompact at)
    (λ lane rest. rest_compacts shard.cut shard.front at lane from to rest) shard.lanes sound.rest

-- so every lane of a shard is compacted: those with words are listed, and those without stand as they are
pub all_compacted : (shard : ShardState) (at : ℕ) (listed : List ℕ) (lanes : List Lane) → IsSound shard → AreListed listed shard.lanes →
    shard.cut ≤ at → at ≤ shard.front →
    HaveRenewed at shard.lanes lanes listed → (place : ℕ) → IsCompacted at (lane_at shard.lanes place) (lane_at lanes place)
all_compacted shard at listed lanes sound are from to renewed place = either (renewed.each place) where
  old : Lane
  old = lane_at shard.lanes place

  either : (lane_at lanes place ≡ lane_at shard.lanes place) ⊎ IsCompacted at (lane_at shard.lanes place) (lane_at lanes place) →
      IsCompacted at (lane_at shard.lanes place) (lane_at lanes place)
  either (inr is) = is
  either (inl same) = elim (cases_lt 0 (length (lane_at shard.lanes place).words)) [
    | inl some ↦
        let there = are.whole place some in
        let found : get_or listed there.0 0 ≡ place = sym (get_or_default listed there.0 place 0 there.1) ∙ there.2 in
        subst (λ (n : ℕ). IsCompacted at (lane_at shard.lanes n) (lane_at lanes n)) found (renewed.done there.0 there.1)
    | inr none ↦
        let bare : (lane_at shard.lanes place).words ≡ [] = empty (lane_at shard.lanes place).words none in
        subst (IsCompacted at (lane_at shard.lanes place)) (sym same)
        (bare_compacted shard.cut shard.front at (lane_at shard.lanes place) from to (rest_at shard.cut shard.front shard.lanes place sound.rest) bare)
  ] where
    empty : (words : List ℕ) → length words ≤ 0 → words ≡ []
    empty [] none = refl
    empty (w ∷ words) none = absurd (omega (arith, none))

-- a front at which a shard may be compacted
pub record IsCutAt (shard : ShardState) (at : ℕ) : Type 0 where
  pub sound : IsSound shard
  pub kept : Keeps shard at
  pub from : shard.cut ≤ at
  pub to : at ≤ shard.front

pub cut_at : (shard now : ShardState) (at : ℕ) → shard ≡ now → IsSound shard → Keeps now at → now.cut ≤ at → IsCutAt shard at
cut_at shard now at same sound kept from =
    let here : Keeps shard at = subst (λ (s : ShardState). Keeps s at) (sym same) kept in
    record { sound = sound; kept = here; from = subst (λ (s : ShardState). s.cut ≤ at) (sym same) from; to = keeps_within shard at sound here }

-- all its lanes were compacted there
pub record IsCut (shard : ShardState) (at : ℕ) (lanes : List Lane) : Type 0 where
  pub point : IsCutAt shard at
  pub equal : length lanes ≡ length shard.lanes
  pub compacted : (place : ℕ) → IsCompacted at (lane_at shard.lanes place) (lane_at lanes place)

-- the places of lanes that have words are still listed
pub still_listed : (at : ℕ) (old new : List Lane) (listed : List ℕ) → length new ≡ length old → AreListed listed old →
    ((place : ℕ) → IsCompacted at (lane_at old place) (lane_at new place)) →
    AreListed (filter (λ place. nat_lt 0 (length (lane_at new place).words)) listed) new
still_listed at old new listed equal are compacted = record {
  inside = All-filter (λ place. nat_lt 0 (length (lane_at new place).words)) (λ place. place < length new) listed
      (All-weaker (λ place. place < length old) (λ place. place < length new) (λ place h. omega (arith, h, equal)) listed are.inside);
  whole = λ place some.
      let is = compacted place in
      let had : 0 < length (lane_at old place).words = omega (
        arith,
        some,
        ap length is.words,
        length-drop ((lane_at new place).floor - (lane_at old place).floor) (lane_at old place).words,
      ) in
      contains_filtered (λ p. nat_lt 0 (length (lane_at new p).words)) listed place (are.whole place had) (lt-ltb 0 (length (lane_at new place).words) some);
}

-- the shard is as sound as before
pub sound_cut : (shard : ShardState) (at : ℕ) (lanes : List Lane) → IsSound shard → Keeps shard at → shard.cut ≤ at → All (λ pin. at ≤ pin.front) shard.pins →
    length lanes ≡ length shard.lanes → ((place : ℕ) → IsCompacted at (lane_at shard.lanes place) (lane_at lanes place)) → IsSound (after_cut shard at lanes)
sound_cut shard at lanes sound kept from pinned equal compacted =
    let to = keeps_within shard at sound kept in
    record {
      shape = record { shared = sound.shape.shared; few = sound.shape.few; whole = equal ∙ sound.shape.whole };
      bounds = record {
        small = sound.bounds.small;
        cut_within = to;
        since = sound.bounds.since;
        earlier = All-filter (λ range. nat_le at range.last) (λ range. range.last ≤ shard.front) shard.fronts.earlier sound.bounds.earlier;
      };
      keeps_cut = keeps_cut_on shard at lanes at (omega arith) kept;
      pins = λ k d within.
          let held = sound.pins k d within in
          let above = pinned k d within in
          record { kept = keeps_cut_on shard at lanes _ above held.kept; uncut = above };
      rest = λ k d within.
          subst (IsAtRest at shard.front) (get_or_default lanes k empty_lane d within)
          (compacted_rest shard.cut shard.front at (lane_at shard.lanes k) (lane_at lanes k) from to
          (rest_at shard.cut shard.front shard.lanes k sound.rest) (compacted k));
    }

-- it has forgotten what came before
pub has_forgotten : (shard : ShardState) (at : ℕ) (lanes : List Lane) → ((place : ℕ) → IsCompacted at (lane_at shard.lanes place) (lane_at lanes place)) →
    HasForgotten at shard (after_cut shard at lanes)
has_forgotten shard at lanes compacted = record {
  same = refl;
  keeps = λ f from kept. keeps_cut_on shard at lanes f from kept;
  told_after = λ s f of from. (compacted (s / shard.shards)).told f from;
}

-- a shard that is at its new cut already
pub has_forgotten_same : (shard : ShardState) (at : ℕ) → at ≡ shard.cut → HasForgotten at shard shard
has_forgotten_same shard at same = record {
  same = ap (λ (n : ℕ). record shard { cut = n }) (sym same);
  keeps = λ f from kept. kept;
  told_after = λ s f of from. refl;
}

-- and it stands for each log for which it stood
pub stands_cut : (shard : ShardState) (log : List Edge) (at : ℕ) (lanes : List Lane) → IsSound shard → Stands shard log → Keeps shard at → shard.cut ≤ at →
    ((place : ℕ) → IsCompacted at (lane_at shard.lanes place) (lane_at lanes place)) → Stands (after_cut shard at lanes) log
stands_cut shard log at lanes sound stands kept from compacted = record {
  whole = stands.whole;
  ids = stands.ids;
  cut = keeps_within shard at sound kept;
  keeps_front = inr (sound.bounds.since, omega arith);
  keeps_cut = keeps_cut_on shard at lanes at (omega arith) kept;
  lanes = λ s of.
      let was = stands.lanes s (of_old s of) in
      let is = compacted (s / shard.shards) in
      let rest = rest_at shard.cut shard.front shard.lanes (s / shard.shards) sound.rest in
      let floor = floors s (of_old s of) in
      let enough : (lane_of shard s).floor ≤ (lane_at lanes (s / shard.shards)).floor =
      omega (arith, is.floor, told_from shard.cut shard.front at (lane_of shard s) rest from) in
      let count : (lane_at lanes (s / shard.shards)).floor - (lane_of shard s).floor ≡ raw (take at log) s - raw (take shard.cut log) s =
      omega (arith, floor, was.floor_is) in
      record {
        base_is = is.base ∙ list_at-log shard log s (lane_at lanes (s / shard.shards)).floor sound stands (of_old s of) enough
            ∙ ap (λ (n : ℕ). neighbours (take n (entries_from s log)) s) floor ∙ neighbours_of_first s at log;
        floor_is = floor;
        words_are = is.words ∙ ap (λ (n : ℕ). drop n (lane_of shard s).words) count
            ∙ ap (drop (raw (take at log) s - raw (take shard.cut log) s)) was.words_are
            ∙ drop-map plain_word (raw (take at log) s - raw (take shard.cut log) s) (entries_from s (drop shard.cut log))
            ∙ ap (map plain_word) (later_between s shard.cut at log from);
      };
  counts = λ s f of still cut.
      (compacted (s / shard.shards)).told f cut ∙ stands.counts s f (of_old s of) (kept_before_cut shard at lanes f still) (omega (arith, from, cut));
} where
  of_old : (s : ℕ) → IsOf (after_cut shard at lanes) s → IsOf shard s
  of_old s of = record { within = of.within; turn = of.turn }

  floors : (s : ℕ) → IsOf shard s → (lane_at lanes (s / shard.shards)).floor ≡ raw (take at log) s
  floors s of = (compacted (s / shard.shards)).floor ∙ stands.counts s at of kept from

-- a shard whose parts are those of one that was compacted is what that is
pub cut_sound_as : (shard : ShardState) (at : ℕ) (earlier : List FrontRange) (lanes same : List Lane) →
    earlier ≡ filter (λ range. nat_le at range.last) shard.fronts.earlier → lanes ≡ same →
    IsSound (after_cut shard at same) → IsSound (record shard { cut = at; fronts = record { earlier = earlier; since = shard.fronts.since }; lanes = lanes })
cut_sound_as shard at earlier lanes same e l sound = rw (e, l) sound

pub cut_stands_as : (shard : ShardState) (at : ℕ) (earlier : List FrontRange) (lanes same : List Lane) (log : List Edge) →
    earlier ≡ filter (λ range. nat_le at range.last) shard.fronts.earlier → lanes ≡ same → Stands (after_cut shard at same) log →
    Stands (record shard { cut = at; fronts = record { earlier = earlier; since = shard.fronts.since }; lanes = lanes }) log
cut_stands_as shard at earlier lanes same log e l stands = rw (e, l) stands

pub cut_forgotten_as : (shard now : ShardState) (at : ℕ) (earlier : List FrontRange) (lanes same : List Lane) → shard ≡ now →
    earlier ≡ filter (λ range. nat_le at range.last) shard.fronts.earlier → lanes ≡ same → HasForgotten at shard (after_cut shard at same) →
    HasForgotten at now (record shard { cut = at; fronts = record { earlier = earlier; since = shard.fronts.since }; lanes = lanes })
cut_forgotten_as shard now at earlier lanes same is e l forgotten = rw (
  e,
  l,
) (subst (λ (s : ShardState). HasForgotten at s (after_cut shard at same)) is forgotten)
