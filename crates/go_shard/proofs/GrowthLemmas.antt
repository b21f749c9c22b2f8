-- Lemmas on what a shard stands for: how it goes on with a batch, and what it tells.
use Rattle.std.proofs.Common.{◌≡◌, ◌⊎◌, ℕ, ◌<◌, ◌≤◌, ◌+◌, ◌-◌, ◌/◌, ◌%◌, ◌^◌, true, false, List, [], ◌∷◌, ◌++◌, length, take, drop, filter, fold, map}
use Rattle.std.proofs.Common.{count_by, All, refl, sym, ap, ◌∙◌, subst, arith, inl, inr, length-append}
use Rattle.std.proofs.lemmas.Bool.Decides.{nat_tests}
use Rattle.std.proofs.lemmas.List.{get_or_default, map-append, length-map, take-append-le, take-map, drop-append-le}
use Rattle.std.proofs.lemmas.List.Sums.{length-filter, count_by-le-length}
use Rattle.std.proofs.lemmas.List.Elements.{filter-append, All-head, All-tail, All-append, All-filter, All-take, All-drop, All-weaker}
use Rattle.std.proofs.lemmas.List.Elements.{All-push, filter_passes}
use Rattle.std.proofs.Math.Seq.{take-length}
use Rattle.std.specs.Prelude.{◌==◌}
use Rattle.go_word.specs.declared.edge.Edge.{Edge}
use Rattle.go_word.specs.Log.{IsWithin, leaves, entries_from, raw}
use Rattle.go_word.specs.Word.{plain_word, IsStorable}
use Rattle.go_word.specs.Neighbours.{neighbours, after_entry}
use Rattle.go_versions.specs.History.{count_at}
use Rattle.go_net.specs.Net.{net_of}
use Rattle.go_shard.specs.declared.fronts.FrontRange.{FrontRange}
use Rattle.go_shard.specs.Lane.{Lane, empty_lane, promising, accepting, known, list_at, lane_at, is_at}
use Rattle.go_shard.specs.Batch.{part_of, share_of, TookParts}
use Rattle.go_shard.specs.Listing.{AreListed, ListsBare}
use Rattle.go_shard.specs.ShardState.{ShardState, IsOf, Keeps, is_own, lane_of, IsAtRest, IsPinned, IsSound}
use Rattle.go_shard.specs.Stands.{Stands, GoesOn, HasGrown}
use Rattle.go_shard.proofs.EntriesLemmas.{net_of-entries, storable_log, raw-length, raw-append, neighbours_from_cut, same_place}
use Rattle.go_shard.proofs.EntriesLemmas.{own_if_leaves}
use Rattle.go_shard.proofs.RestLemmas.{IsGrown, grown, grown_rest, rest_at}
use Rattle.go_shard.proofs.ListingLemmas.{still_listed_after}
use Rattle.go_shard.proofs.KeepsLemmas.{after_batch, keeps_within, keeps_after, kept_before}

-- what a lane lists after so many entries are the neighbours of its vertex then
pub list_at-log : (shard : ShardState) (log : List Edge) (v n : ℕ) → IsSound shard → Stands shard log → IsOf shard v → (lane_of shard v).floor ≤ n →
    list_at (lane_of shard v) n ≡ neighbours (take n (entries_from v log)) v
list_at-log shard log v n sound stands of enough =
    let lane = lane_of shard v in
    let later = entries_from v (drop shard.cut log) in
    let floor = (stands.lanes v of).floor_is in
    let k = n - lane.floor in
    let words : take k lane.words ≡ map plain_word (take k later) = ap (take k) ((stands.lanes v of).words_are) ∙ take-map plain_word k later in
    let own : All (λ e. leaves v e ≡ true) (take k later) = All-take (λ e. leaves v e ≡ true) k later (filter_passes (leaves v) (drop shard.cut log)) in
    let stored : All IsStorable (drop shard.cut log) = All-drop IsStorable shard.cut log (storable_log shard.vertices log sound.shape.few stands.ids) in
    let storable : All IsStorable (take k later) = All-take IsStorable k later (All-filter (leaves v) IsStorable (drop shard.cut log) stored) in
    ap (net_of lane.base) words ∙ net_of-entries v lane.base (take k later) own storable
    ∙ ap (λ b. fold (after_entry v) b (take k later)) ((stands.lanes v of).base_is)
    ∙ ap (λ m. fold (after_entry v) (neighbours (take shard.cut log) v) (take (n - m) later)) floor
    ∙ neighbours_from_cut v shard.cut n log (omega (arith, floor, enough))

-- a shard has taken a batch: it has as many lanes as before
pub record HasTaken (shard : ShardState) (front : ℕ) (batch : List Edge) (lanes : List Lane) : Type 0 where
  pub later : shard.front < front
  pub equal : length lanes ≡ length shard.lanes
  pub took : TookParts shard.shards front batch shard.lanes lanes

-- a part is as long as the batch has entries for its lane
part_length : (shards : ℕ) (batch : List Edge) (place : ℕ) → length (part_of shards batch place) ≡ count_by (is_at shards place) batch
part_length shards batch place = length-map (filter (is_at shards place) batch) plain_word ∙ length-filter (is_at shards place) batch

-- so each lane is grown by its part
pub grown_at : (shard : ShardState) (front : ℕ) (lanes : List Lane) (batch : List Edge) → IsSound shard → shard.front < front →
    TookParts shard.shards front batch shard.lanes lanes → (place : ℕ) →
    IsGrown front (lane_at shard.lanes place) (lane_at lanes place) (part_of shard.shards batch place)
grown_at shard front lanes batch sound later took place =
    let old = lane_at shard.lanes place in
    let part = part_of shard.shards batch place in
    let is = took place ∙ ap (λ n. fold (accepting front) (promising old n) part) (sym (part_length shard.shards batch place)) in
    grown shard.cut shard.front front old (lane_at lanes place) part later (rest_at shard.cut shard.front shard.lanes place sound.rest) is

-- a shard that took a batch is as sound as before
pub sound_after : (shard : ShardState) (front : ℕ) (lanes : List Lane) (batch : List Edge) → IsSound shard → shard.front < front → front < 2 ^ 32 →
    length batch ≤ front - shard.front → length lanes ≡ length shard.lanes → TookParts shard.shards front batch shard.lanes lanes →
    IsSound (after_batch shard front lanes)
sound_after shard front lanes batch sound later small short equal took = record {
  shape = record { shared = sound.shape.shared; few = sound.shape.few; whole = equal ∙ sound.shape.whole };
  bounds = record {
    small = small;
    cut_within = omega (arith, sound.bounds.cut_within, later);
    since = omega arith;
    earlier = All-push (λ range. range.last ≤ front) shard.fronts.earlier (record { first = shard.fronts.since; last = shard.front })
        (All-weaker (λ range. range.last ≤ shard.front) (λ range. range.last ≤ front) (λ range h. omega arith) shard.fronts.earlier sound.bounds.earlier)
        (omega arith);
  };
  keeps_cut = keeps_after shard front lanes shard.cut sound.keeps_cut;
  pins = All-weaker (IsPinned shard) (IsPinned (after_batch shard front lanes))
      (λ pin held. record { kept = keeps_after shard front lanes pin.front held.kept; uncut = held.uncut }) shard.pins sound.pins;
  rest = λ k d within.
      let part = part_of shard.shards batch k in
      let few : count_by (is_at shard.shards k) batch ≤ length batch = count_by-le-length (is_at shard.shards k) batch in
      let old = rest_at shard.cut shard.front shard.lanes k sound.rest in
      subst (IsAtRest shard.cut front) (get_or_default lanes k empty_lane d within)
      (grown_rest shard.cut shard.front front (lane_at shard.lanes k) (lane_at lanes k) part sound.bounds.cut_within later (omega (
        arith,
        part_length shard.shards batch k,
        few,
        short,
      )) old
      (grown_at shard front lanes batch sound later took k));
}

-- it has grown
pub has_grown : (shard : ShardState) (front : ℕ) (lanes : List Lane) (batch : List Edge) → IsSound shard → shard.front < front →
    TookParts shard.shards front batch shard.lanes lanes → 0 < length batch → HasGrown front batch shard (after_batch shard front lanes)
has_grown shard front lanes batch sound later took some = record {
  same = refl;
  keeps_front = inr (omega arith, omega arith);
  keeps = keeps_after shard front lanes;
  told_before = λ s f of early. (grown_at shard front lanes batch sound later took (s / shard.shards)).versions.before f (omega (arith, early, later));
  none = λ empty. absurd (omega (arith, ap length empty, some));
}

-- of entries of a shard, those of a lane are those of its vertex
own_part : (shard : ShardState) (s : ℕ) (es : List Edge) → 0 < shard.shards → s % shard.shards ≡ shard.index → All (λ e. is_own shard e ≡ true) es →
    filter (is_at shard.shards (s / shard.shards)) es ≡ filter (leaves s) es
own_part shard s [] shared turn own = refl
own_part shard s (e ∷ es) shared turn own =
    let first : is_own shard e ≡ true = All-head (λ x. is_own shard x ≡ true) e es own in
    let rest : filter (is_at shard.shards (s / shard.shards)) es ≡ filter (leaves s) es =
    own_part shard s es shared turn (All-tail (λ x. is_own shard x ≡ true) e es own) in
    let same : is_at shard.shards (s / shard.shards) e ≡ leaves s e = same_place e.src s shard.shards shard.index first turn shared in
    rw (same, rest) refl

-- of all entries, those of one of a shard's vertices are among its own
pub among_own : (shard : ShardState) (s : ℕ) (more : List Edge) → s % shard.shards ≡ shard.index →
    filter (leaves s) (filter (is_own shard) more) ≡ filter (leaves s) more
among_own shard s [] turn = refl
among_own shard s (e ∷ more) turn =
    let rest : filter (leaves s) (filter (is_own shard) more) ≡ filter (leaves s) more = among_own shard s more turn in
    let own : leaves s e ≡ true → is_own shard e ≡ true = own_if_leaves s e.src shard.shards shard.index turn in
    grind (arith, nat_tests)

-- what is known of a longer log up to the old front
pub record IsLonger (shard : ShardState) (log more : List Edge) (front : ℕ) : Type 0 where
  pub long : length (log ++ more) ≡ front
  pub cut : take shard.cut (log ++ more) ≡ take shard.cut log
  pub behind : drop shard.cut (log ++ more) ≡ drop shard.cut log ++ more
  pub early : (f : ℕ) → f ≤ shard.front → take f (log ++ more) ≡ take f log

pub is_longer : (shard : ShardState) (log more batch : List Edge) (front : ℕ) → Stands shard log → GoesOn shard more batch front → IsLonger shard log more front
is_longer shard log more batch front stands goes = record {
  long = omega (arith, length-append log more, stands.whole, goes.reach);
  cut = take-append-le shard.cut log more (omega (arith, stands.whole, stands.cut));
  behind = drop-append-le shard.cut log more (omega (arith, stands.whole, stands.cut));
  early = λ f early. take-append-le f log more (omega (arith, stands.whole, early));
}

-- all that a lane has are the entries of its vertex
pub known_is : (shard : ShardState) (log : List Edge) (s : ℕ) → IsSound shard → Stands shard log → IsOf shard s → known (lane_of shard s) ≡ raw log s
known_is shard log s sound stands of =
    let rest = rest_at shard.cut shard.front shard.lanes (s / shard.shards) sound.rest in
    let past : take shard.front log ≡ log = ap (λ n. take n log) (sym stands.whole) ∙ take-length log in
    sym rest.at_front ∙ stands.counts s shard.front of stands.keeps_front stands.cut ∙ ap (λ l. raw l s) past

-- and it stands for the longer log
pub stands_after : (shard : ShardState) (log more batch : List Edge) (front : ℕ) (lanes : List Lane) → IsSound shard → shard.front < front → Stands shard log →
    GoesOn shard more batch front → TookParts shard.shards front batch shard.lanes lanes → Stands (after_batch shard front lanes) (log ++ more)
stands_after shard log more batch front lanes sound later stands goes took =
    let own : All (λ e. is_own shard e ≡ true) batch = subst (λ (l : List Edge). All (λ e. is_own shard e
    ≡ true) l) goes.own (filter_passes (is_own shard) more) in
    let part : (s : ℕ) → IsOf shard s → part_of shard.shards batch (s / shard.shards) ≡ map plain_word (entries_from s more) = λ s of.
    ap (map plain_word) (own_part shard s batch sound.shape.shared of.turn own ∙ ap (filter (leaves s)) (sym goes.own) ∙ among_own shard s more of.turn) in
    let lane : (s : ℕ) → IsOf shard s → IsGrown front (lane_of shard s) (lane_at lanes (s / shard.shards)) (map plain_word (entries_from s more)) = λ s of.
    subst (IsGrown front (lane_of shard s) (lane_at lanes (s / shard.shards))) (part s of)
    (grown_at shard front lanes batch sound later took (s / shard.shards)) in
    let longer = is_longer shard log more batch front stands goes in
    record {
      whole = longer.long;
      ids = All-append (IsWithin shard.vertices) log more stands.ids goes.ids;
      cut = omega (arith, stands.cut, later);
      keeps_front = inr (omega arith, omega arith);
      keeps_cut = keeps_after shard front lanes shard.cut stands.keeps_cut;
      lanes = λ s of.
          let was = stands.lanes s (of_old s of) in
          let is = lane s (of_old s of) in
          let split = sym (map-append plain_word (entries_from s (drop shard.cut log)) (entries_from s more)) in
          record {
            base_is = is.base ∙ was.base_is ∙ ap (λ l. neighbours l s) (sym longer.cut);
            floor_is = is.floor ∙ was.floor_is ∙ ap (λ l. raw l s) (sym longer.cut);
            words_are = is.words ∙ ap (λ l. l ++ map plain_word (entries_from s more)) was.words_are ∙ split
                ∙ ap (map plain_word) (sym (filter-append (leaves s) (drop shard.cut log) more) ∙ ap (entries_from s) (sym longer.behind));
          };
      counts = λ s f of kept from. tells s f (of_old s of) (lane s (of_old s of)) longer (kept_before shard front lanes f kept) from;
    } where
      of_old : (s : ℕ) → IsOf (after_batch shard front lanes) s → IsOf shard s
      of_old s of = record { within = of.within; turn = of.turn }

      tells : (s f : ℕ) → IsOf shard s → IsGrown front (lane_of shard s) (lane_at lanes (s / shard.shards)) (map plain_word (entries_from s more)) →
          IsLonger shard log more front →
          Keeps shard f ⊎ (f ≡ front) → shard.cut ≤ f → count_at (lane_at lanes (s / shard.shards)).versions f ≡ raw (take f (log ++ more)) s
      tells s f of lane longer (inl old) from =
          let early = keeps_within shard f sound old in
          lane.versions.before f (omega (arith, early, later)) ∙ stands.counts s f of old from ∙ ap (λ l. raw l s) (sym (longer.early f early))
      tells s f of lane longer (inr now) from =
          let all : take front (log ++ more) ≡ log ++ more = ap (λ n. take n (log ++ more)) (sym longer.long) ∙ take-length (log ++ more) in
          let count : length (map plain_word (entries_from s more)) ≡ raw more s = length-map (entries_from s more) plain_word ∙ sym (raw-length s more) in
          let sum : known (lane_of shard s) + length (map plain_word (entries_from s more)) ≡ raw (log ++ more) s =
          omega (arith, known_is shard log s sound stands of, count, raw-append s log more) in
          subst (λ (g : ℕ). count_at (lane_at lanes (s / shard.shards)).versions g ≡ raw (take g (log ++ more)) s) (sym now) (lane.versions.at ∙ sum
          ∙ ap (λ l. raw l s) (sym all))

-- a batch has entries, by its length
pub some_entries : (batch : List Edge) → (length batch == 0) ≡ false → 0 < length batch
some_entries [] some = absurd (let h : true ≡ false = some in cc)
some_entries (e ∷ batch) some = omega arith

-- a slice that was lent whole comes back whole
pub lent : {X : Type 0} (n : ℕ) (new old : List X) → length new ≡ length old → n ≡ length old → take n (new ++ drop (length new) old) ≡ new
lent n new old equal all =
    let first : take n (new ++ drop (length new) old) ≡ take n new = take-append-le n new (drop (length new) old) (omega arith) in
    first ∙ ap (λ k. take k new) (let k : n ≡ length new = omega arith in k) ∙ take-length new

-- the places of lanes with words are listed after a batch
pub listed_after : (shard : ShardState) (front : ℕ) (lanes : List Lane) (batch : List Edge) (before listed : List ℕ) → IsSound shard →
    AreListed before shard.lanes → shard.front < front →
    length lanes ≡ length shard.lanes → TookParts shard.shards front batch shard.lanes lanes →
    ListsBare shard.lanes (share_of shard.shards batch) before listed → AreListed listed lanes
listed_after shard front lanes batch before listed sound are later equal took lists =
    still_listed_after shard.lanes lanes (share_of shard.shards batch) before listed (part_of shard.shards batch) equal are lists
    (part_length shard.shards batch)
    (λ place. (grown_at shard front lanes batch sound later took place).words)

-- a shard whose parts are those of one that took a batch is what that is
pub sound_as : (shard : ShardState) (front : ℕ) (earlier : List FrontRange) (lanes same : List Lane) →
    earlier ≡ shard.fronts.earlier ++ record { first = shard.fronts.since; last = shard.front } ∷ [] → lanes ≡ same → IsSound (after_batch shard front same) →
    IsSound (record shard { front = front; fronts = record { earlier = earlier; since = front }; lanes = lanes })
sound_as shard front earlier lanes same e l sound = rw (e, l) sound

pub stands_as : (shard : ShardState) (front : ℕ) (earlier : List FrontRange) (lanes same : List Lane) (log : List Edge) →
    earlier ≡ shard.fronts.earlier ++ record { first = shard.fronts.since; last = shard.front } ∷ [] → lanes ≡ same →
    Stands (after_batch shard front same) log →
    Stands (record shard { front = front; fronts = record { earlier = earlier; since = front }; lanes = lanes }) log
stands_as shard front earlier lanes same log e l stands = rw (e, l) stands

pub grown_as : (shard now : ShardState) (front : ℕ) (batch : List Edge) (earlier : List FrontRange) (lanes same : List Lane) → shard ≡ now →
    earlier ≡ shard.fronts.earlier ++ record { first = shard.fronts.since; last = shard.front } ∷ [] → lanes ≡ same →
    HasGrown front batch shard (after_batch shard front same) →
    HasGrown front batch now (record shard { front = front; fronts = record { earlier = earlier; since = front }; lanes = lanes })
grown_as shard now front batch earlier lanes same is e l grown =
    rw (e, l) (subst (λ (s : ShardState). HasGrown front batch s (after_batch shard front same)) is grown)
