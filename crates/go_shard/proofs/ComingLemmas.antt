-- Lemmas on a shard that comes to a later front without an entry.
use Rattle.std.proofs.Common.{◌≡◌, ◌⊎◌, ℕ, ◌<◌, ◌≤◌, ◌/◌, ◌^◌, true, List, [], ◌∷◌, ◌++◌, length, take, drop, filter, map}
use Rattle.std.proofs.Common.{refl, sym, ap, ◌∙◌, arith, inl, inr, append-nil}
use Rattle.std.proofs.lemmas.Bool.Decides.{nat_tests}
use Rattle.std.proofs.lemmas.Bool.{cases_lt}
use Rattle.std.proofs.lemmas.List.{take-append-le}
use Rattle.std.proofs.lemmas.List.Elements.{filter-append, All-append, All-weaker}
use Rattle.std.proofs.Math.Seq.{take-length}
use Rattle.std.specs.Prelude.{◌==◌}
use Rattle.go_word.specs.declared.edge.Edge.{Edge}
use Rattle.go_word.specs.Log.{IsWithin, leaves, entries_from, raw}
use Rattle.go_word.specs.Word.{plain_word}
use Rattle.go_word.specs.Neighbours.{neighbours}
use Rattle.go_shard.specs.ShardState.{ShardState, IsOf, Keeps, lane_of, told, IsAtRest, IsPinned, IsSound}
use Rattle.go_shard.specs.Stands.{Stands, GoesOn, HasGrown}
use Rattle.go_shard.proofs.EntriesLemmas.{raw-length, raw-append, raw_part, raw_rises}
use Rattle.go_shard.proofs.RestLemmas.{rest_at, rest_later, count_at-later}
use Rattle.go_shard.proofs.KeepsLemmas.{keeps_on, kept_so_far}
use Rattle.go_shard.proofs.GrowthLemmas.{IsLonger, is_longer, among_own, known_is}

-- a shard that came to a front without an entry is as sound as before
pub sound_on : (shard : ShardState) (front : ℕ) → IsSound shard → shard.front ≤ front → front < 2 ^ 32 → IsSound (record shard { front = front })
sound_on shard front sound later small = record {
  shape = sound.shape;
  bounds = record {
    small = small;
    cut_within = omega (arith, sound.bounds.cut_within, later);
    since = omega (arith, sound.bounds.since, later);
    earlier = All-weaker (λ range. range.last ≤ shard.front) (λ range. range.last ≤ front) (λ range h. omega arith) shard.fronts.earlier sound.bounds.earlier;
  };
  keeps_cut = keeps_on shard front shard.cut later sound.keeps_cut;
  pins = All-weaker (IsPinned shard) (IsPinned (record shard { front = front }))
      (λ pin held. record { kept = keeps_on shard front pin.front later held.kept; uncut = held.uncut }) shard.pins sound.pins;
  rest = All-weaker (IsAtRest shard.cut shard.front) (IsAtRest shard.cut front)
      (λ lane rest. rest_later shard.cut shard.front front lane later rest) shard.lanes sound.rest;
}

-- it has grown
pub has_come : (shard : ShardState) (front : ℕ) (batch : List Edge) → IsSound shard → shard.front ≤ front →
    HasGrown front batch shard (record shard { front = front })
has_come shard front batch sound later = record {
  same = refl;
  keeps_front = inr (omega (arith, sound.bounds.since, later), omega arith);
  keeps = λ f kept. keeps_on shard front f later kept;
  told_before = λ s f of early. refl;
  none = λ empty. refl;
}

-- and it stands for the longer log
pub stands_come : (shard : ShardState) (log more batch : List Edge) (front : ℕ) → IsSound shard → shard.front ≤ front → Stands shard log →
    GoesOn shard more batch front → batch ≡ [] → Stands (record shard { front = front }) (log ++ more)
stands_come shard log more batch front sound later stands goes empty =
    let longer = is_longer shard log more batch front stands goes in
    record {
      whole = longer.long;
      ids = All-append (IsWithin shard.vertices) log more stands.ids goes.ids;
      cut = omega (arith, stands.cut, later);
      keeps_front = inr (omega (arith, sound.bounds.since, later), omega arith);
      keeps_cut = keeps_on shard front shard.cut later stands.keeps_cut;
      lanes = λ s of.
          let was = stands.lanes s (of_old s of) in
          let same : entries_from s (drop shard.cut (log ++ more)) ≡ entries_from s (drop shard.cut log) =
          ap (entries_from s) longer.behind ∙ filter-append (leaves s) (drop shard.cut log) more
          ∙ ap (λ l. entries_from s (drop shard.cut log) ++ l) (nothing s (of_old s of))
          ∙ append-nil (entries_from s (drop shard.cut log)) in
          record {
            base_is = was.base_is ∙ ap (λ l. neighbours l s) (sym longer.cut);
            floor_is = was.floor_is ∙ ap (λ l. raw l s) (sym longer.cut);
            words_are = was.words_are ∙ ap (map plain_word) (sym same);
          };
      counts = λ s f of kept from. tells s f (of_old s of) longer kept from (cases_lt shard.front f);
    } where
      of_old : (s : ℕ) → IsOf (record shard { front = front }) s → IsOf shard s
      of_old s of = record { within = of.within; turn = of.turn }

      nothing : (s : ℕ) → IsOf shard s → entries_from s more ≡ []
      nothing s of = sym (among_own shard s more of.turn) ∙ ap (filter (leaves s)) (goes.own ∙ empty)

      tells : (s f : ℕ) → IsOf shard s → IsLonger shard log more front → Keeps (record shard { front = front }) f → shard.cut ≤ f →
          (shard.front < f) ⊎ (f ≤ shard.front) →
          told shard s f ≡ raw (take f (log ++ more)) s
      tells s f of longer kept from (inr early) =
          stands.counts s f of (kept_so_far shard front f kept early) from ∙ ap (λ l. raw l s) (sym (longer.early f early))
      tells s f of longer kept from (inl past) =
          let rest = rest_at shard.cut shard.front shard.lanes (s / shard.shards) sound.rest in
          let here : told shard s f ≡ raw log s = count_at-later (lane_of shard s).versions shard.front f (omega arith) rest.earlier ∙ rest.at_front
          ∙ known_is shard log s sound stands of in
          let within : raw (take f (log ++ more)) s ≤ raw (log ++ more) s = raw_part s f (log ++ more) in
          let none : raw more s ≡ 0 = raw-length s more ∙ ap length (nothing s of) in
          let first : raw (take (length log) (log ++ more)) s ≤ raw (take f (log ++ more)) s =
          raw_rises s (length log) f (log ++ more) (omega (arith, stands.whole, past)) in
          let all : take (length log) (log ++ more) ≡ log = take-append-le (length log) log more (omega arith) ∙ take-length log in
          here ∙ (let same : raw log s ≡ raw (take f (log ++ more)) s = omega (arith, within, none, first, ap (λ l. raw l s) all, raw-append s log more) in
          same)

-- a batch is empty, by its length
pub no_entries : (batch : List Edge) → (length batch == 0) ≡ true → batch ≡ []
no_entries [] none = refl
no_entries (e ∷ batch) none = absurd (grind (arith, nat_tests, none))
