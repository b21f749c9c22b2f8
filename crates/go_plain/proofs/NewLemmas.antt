-- Lemmas on a store that is made over a log that was opened.
use Rattle.std.proofs.Common.{◌≡◌, ◌∙◌, inr, take, take_all, Option, None, Some, ℕ, zero, suc, ◌+◌, ◌<◌}
use Rattle.std.proofs.Common.{◌≤◌, List, [], ◌∷◌, length, map, replicate, get_or, refl, ap, arith, sym, subst}
use Rattle.std.specs.Prelude.{All, IfSome, IsSome, sum_by}
use Rattle.std.proofs.lemmas.List.{drop_all, length-replicate}
use Rattle.std.proofs.lemmas.List.Sums.{sum_by-cons}
use Rattle.std.proofs.lemmas.List.Elements.{All-map, All-replicate}
use Rattle.go_word.specs.declared.edge.Edge.{Edge}
use Rattle.go_api.specs.Standing.{ShowsUpTo}
use Rattle.go_api.specs.declared.place.TheConstants.{PLACES}
use Rattle.go_api.specs.declared.place.Place.TheVariants.{Free}
use Rattle.go_shard.specs.ShardState.{ShardState}
use Rattle.go_shard.specs.Parts.{HaveParts}
use Rattle.go_api.specs.declared.setup.Setup.{Setup}
use Rattle.go_blocks.specs.File.{File}
use Rattle.go_disk.specs.Device.{Device, IsDevice}
use Rattle.go_durable.specs.Journal.{Keeps}
use Rattle.go_durable.specs.LogState.{LogState, OpenedLog}
use Rattle.go_durable.specs.Recovery.{RecoversPart}
use Rattle.go_durable.specs.Standing.{IsLog, IsOpened}
use Rattle.go_durable.specs.declared.journal.Journal.TheVariants.{Sound}
use Rattle.go_durable.proofs.Moments.{no_call}
use Rattle.go_durable.proofs.Standing.{log_image}
use Rattle.go_plain.specs.Plain.{IsPlain, IsPlainSetup, AreQuotas, made_of}
use Rattle.go_plain.specs.Ring.{RingState}
use Rattle.go_plain.specs.declared.seat.Seat.{Seat}
use Rattle.go_plain.specs.Seats.{new_seat, total_quota, all_views, IsSeated}

-- shards that have their parts from the beginning on aren't cut
uncut_at : (shards : List ShardState) (n : ℕ) → length shards ≡ n → ((i : ℕ) (d : ShardState) → i < n → (get_or shards i d).cut ≡ 0) →
    map (λ shard. shard.cut) shards ≡ replicate n 0
uncut_at [] zero long cut = refl
uncut_at [] (suc n) long cut = absurd (omega (arith, long))
uncut_at (s ∷ shards) zero long cut = absurd (omega (arith, long))
uncut_at (s ∷ shards) (suc n) long cut =
    rw (cut 0 s (omega arith)) (ap (λ (l : List ℕ). 0 ∷ l) (uncut_at shards n (omega (arith, long)) (λ i d below. cut (suc i) d (omega (arith, below)))))

pub uncut : (v so_many : ℕ) (views : List ℕ) (log : List Edge) (shards : List ShardState) → HaveParts v so_many 0 views log shards →
    map (λ shard. shard.cut) shards ≡ replicate so_many 0
uncut v so_many views log shards parts = uncut_at shards so_many parts.count (λ i d below. omega (arith, (parts.each i d below).cut))

-- new sessions may put what they were given
pub new_quota : (first : ℕ) (quotas : List ℕ) → total_quota (map (new_seat first) quotas) ≡ sum_by (λ q. q) quotas
new_quota first [] = refl
new_quota first (q ∷ quotas) =
    sum_by-cons (λ (seat : Seat). seat.quota) (new_seat first q) (map (new_seat first) quotas)
    ∙ ap (λ (n : ℕ). q + n) (new_quota first quotas) ∙ sym (sum_by-cons (λ (n : ℕ). n) q quotas)

-- they view nothing
pub new_views : (first : ℕ) (quotas : List ℕ) → all_views (map (new_seat first) quotas) ≡ []
new_views first [] = refl
new_views first (q ∷ quotas) = new_views first quotas

-- they are seated at the end of the old log
pub new_seated : (first : ℕ) (quotas : List ℕ) → All (IsSeated first first) (map (new_seat first) quotas)
new_seated first quotas = All-map (IsSeated first first) (new_seat first) quotas (λ k d below. record {
  from = omega arith;
  to = omega arith;
  count = length-replicate PLACES Free;
  shown = All-replicate (ShowsUpTo first) PLACES Free tt;
})

-- a disk that tells tells
told_self : (contents : Option (List ℕ)) → IfSome contents (λ bytes. IsSome contents)
told_self None = tt
told_self (Some bytes) = refl

-- a log that was opened is kept
pub keeps_opened : {D : Type 0} (device : Device D) (rules : IsDevice device) (found : OpenedLog D) → IsOpened device found →
    Keeps device found.log.vertices (length found.edges) found.edges found.log.disk (Sound found.log)
keeps_opened {D} device rules found is =
    let kept : LogState D = found.log in
    let log = found.edges in
    let long : kept.front ≡ length log = is.stands.so_many in
    let all : take kept.front log ≡ log = take_all kept.front log (omega (arith, long)) in
    record {
      has = record {
        stands = subst (IsLog device kept) (sym all) is.stands;
        vertices_are = refl;
        told = told_self (device.contents kept.disk);
      };
      least = omega (arith, long);
      most = omega (arith, long);
      moments = no_call device rules kept.disk (RecoversPart kept.vertices (length log) log) (λ image here. record {
        count = length log;
        at_least = omega arith;
        at_most = omega arith;
        recovers = inr (subst (λ (l : List Edge). File kept.vertices l image) (sym (take_all (length log) log (omega arith)))
            (log_image device kept log image is.stands here));
      });
      count = omega arith;
    }

-- a store over it
pub plain_new : {D : Type 0} (device : Device D) (rules : IsDevice device) (found : OpenedLog D) (setup : Setup) (quotas : List ℕ) (ring : RingState)
    (shards : List ShardState) → IsOpened device found → IsPlainSetup setup → found.log.vertices ≡ setup.vertices → AreQuotas (length found.edges) quotas →
    HaveParts setup.vertices (length shards) (length found.edges) [] found.edges shards →
    ring ≡ record { entries = []; owners = []; room = setup.ring; vertices = setup.vertices } → IsPlain device (made_of found setup quotas) ring shards
plain_new device rules found setup quotas ring shards is fits same given parts made =
    let first = length found.edges in
    let seats = map (new_seat first) quotas in
    record {
      arranged = record {
        fits = record { ids = is.within; room = omega (arith, given.room, new_quota first quotas); vertex_count = omega (arith, fits.few_vertices, same) };
        pending = record {
          old_moved = omega arith;
          moved_within = omega arith;
          entries = ap (λ (r : RingState). r.entries) made ∙ sym (drop_all first found.edges (omega arith));
          room = ap (λ (r : RingState). r.room) made;
          vertices = ap (λ (r : RingState). r.vertices) made ∙ sym same;
          some_room = fits.some_slots;
        };
        parts = rw (same, new_views first quotas) parts;
        seats = record {
          seated = new_seated first quotas;
          owners = record { each = omega arith; sessions = λ k d below. absurd (omega (arith, below)) };
        };
      };
      keeps = keeps_opened device rules found is;
      moved_durable = omega (arith, is.stands.so_many);
    }
