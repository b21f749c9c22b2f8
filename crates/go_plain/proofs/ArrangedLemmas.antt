-- How a plain store's ring and shards have its log between them, through each call.
use Rattle.std.proofs.Common.{◌≡◌, ◌⊎◌, ℕ, ◌+◌, ◌-◌, ◌<◌, ◌≤◌, ◌%◌, List, [], ◌∷◌, ◌++◌}
use Rattle.std.proofs.Common.{length, drop, get_or, refl, ap, arith, sym, subst, ◌∙◌, inr, length-append}
use Rattle.std.specs.Prelude.{All, Contains}
use Rattle.std.proofs.Math.Nat.{mod-lt}
use Rattle.std.proofs.lemmas.List.{length-drop, drop_all}
use Rattle.std.proofs.lemmas.List.Elements.{All-push}
use Rattle.go_word.specs.declared.edge.Edge.{Edge}
use Rattle.go_word.specs.declared.edge.TheConstants.{VERTEX_LIMIT}
use Rattle.go_word.specs.Log.{IsWithin}
use Rattle.go_word.specs.Word.{IsStorable}
use Rattle.go_word.proofs.WordLaws.{IsStorable-IsWithin}
use Rattle.go_durable.specs.declared.journal.Journal.{Journal}
use Rattle.go_shard.specs.ShardState.{ShardState}
use Rattle.go_shard.specs.Parts.{HasPart, HaveParts, IsBehind, AllHaveCome}
use Rattle.go_shard.proofs.LongerLemmas.{parts_longer, parts_viewed}
use Rattle.go_shard.proofs.MakingLemmas.{all_come}
use Rattle.go_plain.specs.Owners.{IsSession, HasOwners}
use Rattle.go_plain.specs.Plain.{PlainState, Fits, HasPending, HasSeats, HasSession, IsArranged, MaySit, pushed}
use Rattle.go_plain.specs.Ring.{RingState}
use Rattle.go_plain.specs.Seats.{seat_at, seats_with, total_quota, all_views, IsSeated}
use Rattle.go_plain.specs.declared.seat.Seat.{Seat}
use Rattle.go_plain.proofs.PastLemmas.{push_behind, with_one, without_all}
use Rattle.go_plain.proofs.SeatsLemmas.{all_seated, all_seated_longer, is_seated, quota_given, views_given, seats_long}

-- the owners of a log's entries, with one entry more
owners_more : (count longer first number : ℕ) (log : List Edge) (owners : List ℕ) (e : Edge) → longer ≡ count → IsSession count number →
    HasOwners count first log owners → HasOwners longer first (log ++ e ∷ []) (owners ++ number ∷ [])
owners_more count longer first number log owners e same is has = record {
  each = omega (arith, has.each, length-append log (e ∷ []), length-append owners (number ∷ []));
  sessions = rw same (All-push (IsSession count) owners number has.sessions is);
}

module _ {D : Type 0} (store : PlainState D) (ring : RingState) (shards : List ShardState) (is : IsArranged store ring shards) where
  -- one entry more of a session, which has something to put
  pub arranged_push : (number : ℕ) (e : Edge) → HasSession store number → 1 ≤ (seat_at store.seats number).quota → IsWithin store.origin.vertices e →
      IsArranged (pushed store number e) (with_one ring e number) shards
  arranged_push number e session some ids =
      let more : length (store.log ++ e ∷ []) ≡ length store.log + 1 = length-append store.log (e ∷ []) in
      let pending = is.pending in
      let was : Seat = seat_at store.seats number in
      let seat : Seat = record was { quota = was.quota - 1 } in
      let seated = is_seated store.origin.first (length store.log) store.seats number session is.seats.seated in
      let still : IsSeated store.origin.first (length (store.log ++ e ∷ [])) seat = record {
        from = seated.from;
        to = omega (arith, seated.to, more);
        count = seated.count;
        shown = seated.shown;
      } in
      record {
        fits = record {
          ids = All-push (IsWithin store.origin.vertices) store.log e is.fits.ids ids;
          room = omega (arith, more, is.fits.room, some, quota_given store.seats number seat session);
          vertex_count = is.fits.vertex_count;
        };
        pending = record {
          old_moved = pending.old_moved;
          moved_within = omega (arith, more, pending.moved_within);
          entries = ap (λ (l : List Edge). l ++ e ∷ []) pending.entries ∙ push_behind store.moved store.log e pending.moved_within;
          room = pending.room;
          vertices = pending.vertices;
          some_room = pending.some_room;
        };
        parts = parts_longer store.origin.vertices (length shards) store.moved (all_views (seats_with store.seats number seat)) store.log (e ∷ []) shards
            (parts_viewed store.origin.vertices (length shards) store.moved (length store.log) (all_views store.seats)
            (all_views (seats_with store.seats number seat)) store.log shards refl
            (views_given store.seats number (length store.log) seat session (λ n there. inr there)) is.parts);
        seats = record {
          seated = all_seated store.origin.first (length (store.log ++ e ∷ [])) store.seats number seat still
              (all_seated_longer store.origin.first (length store.log) (length (store.log ++ e ∷ [])) store.seats (omega (arith, more)) is.seats.seated);
          owners = owners_more (length store.seats) (length (seats_with store.seats number seat)) store.origin.first number store.log store.owners e
              (seats_long store.seats number seat) session is.seats.owners;
        };
      }

  -- another seat of a session
  pub arranged_seat : (number : ℕ) (seat : Seat) → HasSession store number → MaySit store (seat_at store.seats number) seat →
      IsArranged (record store { seats = seats_with store.seats number seat }) ring shards
  arranged_seat number seat session may =
      let pending = is.pending in
      record {
        fits = record {
          ids = is.fits.ids;
          room = omega (arith, is.fits.room, may.quota, quota_given store.seats number seat session);
          vertex_count = is.fits.vertex_count;
        };
        pending = record {
          old_moved = pending.old_moved;
          moved_within = pending.moved_within;
          entries = pending.entries;
          room = pending.room;
          vertices = pending.vertices;
          some_room = pending.some_room;
        };
        parts = parts_viewed store.origin.vertices (length shards) store.moved (length store.log) (all_views store.seats)
            (all_views (seats_with store.seats number seat)) store.log shards refl
            (views_given store.seats number (length store.log) seat session may.views) is.parts;
        seats = record {
          seated = all_seated store.origin.first (length store.log) store.seats number seat may.seated is.seats.seated;
          owners = record {
            each = is.seats.owners.each;
            sessions = rw (seats_long store.seats number seat) is.seats.owners.sessions;
          };
        };
      }

  -- the shards are behind the ring's entries
  pub shards_behind : (views : List ℕ) (newest : List Edge) → newest ≡ ring.entries → views ≡ all_views store.seats →
      IsBehind store.origin.vertices (length shards) store.moved views store.log newest shards
  shards_behind views newest are fronts = record {
    parts = rw fronts is.parts;
    newest_are = are ∙ is.pending.entries;
    from_within = is.pending.moved_within;
    ids = is.fits.ids;
    small = omega (arith, is.fits.room);
  }

  -- another log file, and shards that have their parts too
  pub arranged_with : (journal : Journal D) (cuts : List ℕ) (new : List ShardState) →
      HaveParts store.origin.vertices (length shards) store.moved (all_views store.seats) store.log new →
      IsArranged (record store { journal = journal; cuts = cuts }) ring new
  arranged_with journal cuts new parts =
      let pending = is.pending in
      record {
        fits = record { ids = is.fits.ids; room = is.fits.room; vertex_count = is.fits.vertex_count };
        pending = record {
          old_moved = pending.old_moved;
          moved_within = pending.moved_within;
          entries = pending.entries;
          room = pending.room;
          vertices = pending.vertices;
          some_room = pending.some_room;
        };
        parts = rw parts.count parts;
        seats = record { seated = is.seats.seated; owners = is.seats.owners };
      }

  -- all entries were moved out of the ring
  pub arranged_moved : (cuts : List ℕ) (new : List ShardState) (head : ℕ) →
      HaveParts store.origin.vertices (length shards) store.moved (all_views store.seats) store.log new → AllHaveCome head new → head ≡ length store.log →
      IsArranged (record store { moved = head; cuts = cuts }) (without_all ring) new
  arranged_moved cuts new head parts come whole =
      let v = store.origin.vertices in
      record {
        fits = record { ids = is.fits.ids; room = is.fits.room; vertex_count = is.fits.vertex_count };
        pending = record {
          old_moved = omega (arith, is.pending.old_moved, is.pending.moved_within, whole);
          moved_within = omega (arith, whole);
          entries = sym (drop_all head store.log (omega (arith, whole)));
          room = is.pending.room;
          vertices = is.pending.vertices;
          some_room = is.pending.some_room;
        };
        parts = subst (λ (n : ℕ). HaveParts v (length new) n (all_views store.seats) store.log new) (sym whole)
            (all_come v (length shards) store.moved (all_views store.seats) store.log new parts
            (subst (λ (n : ℕ). AllHaveCome n new) whole come));
        seats = record { seated = is.seats.seated; owners = is.seats.owners };
      }

  -- how many entries the ring has
  pub ring_length : length ring.entries + store.moved ≡ length store.log
  ring_length = omega (arith, ap length is.pending.entries, length-drop store.moved store.log, is.pending.moved_within)

  -- the ring has room for an entry where the store says so
  pub push_room : (now : PlainState D) → store ≡ now → length now.log < now.moved + now.room → length ring.entries < ring.room
  push_room now same room =
      let here : length store.log < store.moved + store.room = subst (λ (s : PlainState D). length s.log < s.moved + s.room) (sym same) room in
      omega (arith, here, is.pending.room, ring_length)

  -- where the shards have come, counted from what was moved
  pub come_to : (new : List ShardState) (newest : List Edge) (head : ℕ) → newest ≡ ring.entries → head ≡ length store.log →
      AllHaveCome (store.moved + length newest) new → AllHaveCome head new
  come_to new newest head are whole come =
      let reach : store.moved + length newest ≡ head = omega (arith, ap length are, ring_length, whole) in
      subst (λ (n : ℕ). AllHaveCome n new) reach come

  -- the shard of a vertex
  pub shard_part : (vertex count : ℕ) (shard : ShardState) → count ≡ length shards → shard ≡ get_or shards (vertex % count) shard →
      HasPart store.origin.vertices (length shards) (vertex % count) store.moved (all_views store.seats) store.log shard
  shard_part vertex count shard are found =
      let below : vertex % count < count = mod-lt vertex (omega (arith, are, is.parts.some)) in
      subst (HasPart store.origin.vertices (length shards) (vertex % count) store.moved (all_views store.seats) store.log) (sym found)
      (is.parts.each (vertex % count) shard (omega (arith, below, are)))

-- entries over few vertices can be stored
pub storable : (v : ℕ) (edges : List Edge) → v ≤ VERTEX_LIMIT → All (IsWithin v) edges → All IsStorable edges
storable v edges few ids = λ k d below. IsStorable-IsWithin v _ (omega (arith, few)) (ids k d below)
