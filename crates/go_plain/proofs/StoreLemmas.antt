-- How a plain store's parts keep its log through each call, and what the calls make of the store.
use Rattle.std.proofs.Common.{◌≡◌, ℕ, ◌+◌, ◌-◌, ◌<◌, ◌≤◌, ◌==◌, true, false, List, [], ◌∷◌, ◌++◌, length, take, drop, Option, refl, ap, arith, sym, subst}
use Rattle.std.proofs.Common.{◌∙◌, inl, inr, take_all}
use Rattle.std.specs.Prelude.{Result, Ok, Err}
use Rattle.std.proofs.lemmas.Bool.Decides.{eqb_tells}
use Rattle.std.proofs.lemmas.Result.{on_ok_weaker}
use Rattle.std.proofs.lemmas.List.{drop-drop, length-drop}
use Rattle.std.proofs.lemmas.List.Elements.{All-drop}
use Rattle.go_text.specs.Causes.{Rose}
use Rattle.go_word.specs.declared.edge.Edge.{Edge}
use Rattle.go_word.specs.Log.{IsWithin}
use Rattle.go_api.specs.declared.stop.Stop.{Stop}
use Rattle.go_api.specs.declared.stop.Stop.TheVariants as stops
use Rattle.go_disk.specs.Device.{Device}
use Rattle.go_durable.specs.Finishing.{HasFinished}
use Rattle.go_durable.specs.Journal.{journal_disk, journal_front, is_spent, HasDurable, Keeps, KeepsOn, CanAppend}
use Rattle.go_durable.specs.Recovery.{AreNext}
use Rattle.go_durable.specs.declared.finished.Finished.{Finished}
use Rattle.go_durable.specs.declared.journal.Journal.{Journal}
use Rattle.go_durable.specs.declared.journal.Journal.TheVariants.{Sound, Spent}
use Rattle.go_plain.proofs.KeepingLemmas.{keeps_more_log}
use Rattle.go_shard.specs.ShardState.{ShardState}
use Rattle.go_shard.specs.Parts.{HaveParts, AllHaveCome}
use Rattle.go_plain.specs.Plain.{Origin, PlainState, HasSession, IsArranged, IsPlain, TellsRisen, HasEnded, Flushes, IsOnlyFlushed, OnlyMoves}
use Rattle.go_plain.specs.Plain.{IsMovedOut, HasMadeRoom, MaySit, pushed}
use Rattle.go_plain.specs.Ring.{RingState, IsRing}
use Rattle.go_plain.specs.Seats.{seat_at, seats_with, all_views}
use Rattle.go_plain.specs.declared.seat.Seat.{Seat}
use Rattle.go_plain.proofs.ArrangedLemmas.{arranged_push, arranged_seat, arranged_with, arranged_moved, ring_length}
use Rattle.go_plain.proofs.PastLemmas.{with_one, without_all}

-- what the fields of a store show: its ring, its log, and who put each entry
pub record Shown : Type 0 where
  pub ring : RingState
  pub log : List Edge
  pub owners : List ℕ

-- one entry more, that a session put
pub record ShowsPut {D : Type 0} (store : PlainState D) (ring : RingState) (number : ℕ) (e : Edge) (shown : Shown) : Type 0 where
  pub grown : shown.ring ≡ with_one ring e number
  pub longer : shown.log ≡ store.log ++ e ∷ []
  pub owned : shown.owners ≡ store.owners ++ number ∷ []

-- nothing in the ring, and all else as it was
pub record ShowsMoved {D : Type 0} (store : PlainState D) (ring : RingState) (shown : Shown) : Type 0 where
  pub cleared : shown.ring ≡ without_all ring
  pub same : shown.log ≡ store.log
  pub same_owners : shown.owners ≡ store.owners

module _ {D : Type 0} (device : Device D) (store : PlainState D) (ring : RingState) (shards : List ShardState) (plain : IsPlain device store ring shards) where
  -- one entry more
  pub plain_push : (number : ℕ) (e : Edge) (shown : Shown) (seats : List Seat) → HasSession store number → 1 ≤ (seat_at store.seats number).quota →
      IsWithin store.origin.vertices e → ShowsPut store ring number e shown → seats ≡ (pushed store number e).seats →
      IsPlain device (record store { log = shown.log; owners = shown.owners; room = shown.ring.room; seats = seats }) shown.ring shards
  plain_push number e shown seats session some ids put spent =
      let next : PlainState D = pushed store number e in
      let is : IsPlain device next (with_one ring e number) shards = record {
        arranged = arranged_push store ring shards plain.arranged number e session some ids;
        keeps = keeps_more_log device store.origin.vertices store.origin.first store.log (e ∷ []) store.origin.disk store.journal plain.keeps;
        moved_durable = plain.moved_durable;
      } in
      let roomy = subst (λ (n : ℕ). IsPlain device (record next { room = n }) (with_one ring e number) shards) (sym plain.arranged.pending.room) is in
      rw (put.grown, put.longer, put.owned, spent) roomy

  -- another seat of a session
  pub plain_seat : (number : ℕ) (seat : Seat) (seats : List Seat) → HasSession store number → MaySit store (seat_at store.seats number) seat →
      seats ≡ seats_with store.seats number seat → IsPlain device (record store { seats = seats }) ring shards
  plain_seat number seat seats session may are =
      let is : IsPlain device (record store { seats = seats_with store.seats number seat }) ring shards = record {
        arranged = arranged_seat store ring shards plain.arranged number seat session may;
        keeps = plain.keeps;
        moved_durable = plain.moved_durable;
      } in
      rw are is

  -- what the log file lacks
  pub lacks : drop (journal_front store.journal - store.moved) ring.entries ≡ drop (journal_front store.journal) store.log
  lacks =
      rw plain.arranged.pending.entries
      (drop-drop (journal_front store.journal - store.moved) store.moved store.log ∙ ap (λ (n : ℕ). drop n store.log) (omega (arith, plain.moved_durable)))

  pub lacks_next : (edges : List Edge) → edges ≡ drop (journal_front store.journal - store.moved) ring.entries →
      AreNext edges (journal_front store.journal) store.log
  lacks_next edges are =
      let rest = drop (journal_front store.journal) store.log in
      let all : edges ≡ rest = are ∙ lacks in
      all ∙ sym (ap (λ (n : ℕ). take n rest) (ap length all) ∙ take_all (length rest) rest (omega arith))

  -- what the log file lacks can be appended
  pub can_append : (edges : List Edge) (journal : Journal D) → store.journal ≡ journal →
      edges ≡ drop (journal_front store.journal - store.moved) ring.entries → CanAppend edges journal
  can_append edges journal is are =
      let v = store.origin.vertices in
      let first = store.origin.first in
      let kept = subst (λ (j : Journal D). Keeps device v first store.log store.origin.disk j) is plain.keeps in
      of_kind journal kept (subst (λ (j : Journal D). edges ≡ drop (journal_front j) store.log) is (are ∙ lacks))
    where
      of_kind : (j : Journal D) → Keeps device store.origin.vertices store.origin.first store.log store.origin.disk j →
          edges ≡ drop (journal_front j) store.log → CanAppend edges j
      of_kind (Sound kept) keeps next = (
        rw (next, keeps.has.vertices_are) (All-drop (IsWithin store.origin.vertices) kept.front store.log plain.arranged.fits.ids),
        omega (arith, ap length next, length-drop kept.front store.log, keeps.most, plain.arranged.fits.room),
      )
      of_kind (Spent disk front) keeps next = tt

  -- another log file that keeps the log
  pub plain_flushed : (edges : List Edge) (journal : Journal D) → AreNext edges (journal_front store.journal) store.log →
      KeepsOn device edges store.journal journal → IsPlain device (record store { journal = journal }) ring shards
  plain_flushed edges journal next on = record {
    arranged = arranged_with store ring shards plain.arranged journal store.cuts shards plain.arranged.parts;
    keeps = on.keeps store.origin.vertices store.origin.first store.log store.origin.disk plain.keeps next;
    moved_durable = omega (arith, plain.moved_durable, on.no_less);
  }

  -- the store ends as its log file does that was brought up to the log
  pub ended_now : (now : PlainState D) (journal : Journal D) (edges : List Edge) (finished : Finished D) → store ≡ now → store.journal ≡ journal →
      edges ≡ drop (journal_front store.journal - store.moved) ring.entries →
      ((v first : ℕ) (log : List Edge) (opened : D) → Keeps device v first log opened journal → edges ≡ drop (journal_front journal) log →
      HasFinished device v first log opened journal finished) → HasEnded device now finished
  ended_now now journal edges finished same is are ends =
      let behind : edges ≡ drop (journal_front store.journal) store.log = are ∙ lacks in
      let first = store.origin.first in
      let v = store.origin.vertices in
      let kept = subst (λ (j : Journal D). Keeps device v first store.log store.origin.disk j) is plain.keeps in
      let next = subst (λ (j : Journal D). edges ≡ drop (journal_front j) store.log) is behind in
      let ended = ends v first store.log store.origin.disk kept next in
      subst (λ (s : PlainState D). HasEnded device s finished) same
      (subst (λ (j : Journal D). HasFinished device v first store.log store.origin.disk j finished) (sym is) ended)

  -- shards that have their parts too
  pub plain_shards : (cuts : List ℕ) (new : List ShardState) →
      HaveParts store.origin.vertices (length shards) store.moved (all_views store.seats) store.log new → IsPlain device (record store { cuts = cuts }) ring new
  plain_shards cuts new parts = record {
    arranged = arranged_with store ring shards plain.arranged store.journal cuts new parts;
    keeps = plain.keeps;
    moved_durable = plain.moved_durable;
  }

  -- all entries were moved out of the ring
  pub plain_moved : (shown : Shown) (new : List ShardState) (cuts : List ℕ) (head : ℕ) →
      HaveParts store.origin.vertices (length shards) store.moved (all_views store.seats) store.log new → AllHaveCome head new → head ≡ length store.log →
      journal_front store.journal ≡ length store.log → ShowsMoved store ring shown →
      IsPlain device (record store { log = shown.log; owners = shown.owners; moved = head; room = shown.ring.room; cuts = cuts }) shown.ring new
  plain_moved shown new cuts head parts come whole durable moved =
      let next : PlainState D = record store { moved = head; cuts = cuts } in
      let is : IsPlain device next (without_all ring) new = record {
        arranged = arranged_moved store ring shards plain.arranged cuts new head parts come whole;
        keeps = plain.keeps;
        moved_durable = omega (arith, whole, durable);
      } in
      let roomy = subst (λ (n : ℕ). IsPlain device (record next { room = n }) (without_all ring) new) (sym plain.arranged.pending.room) is in
      rw (moved.cleared, moved.same, moved.same_owners) roomy

  -- where a fault was met, the count of faults rose
  pub tells_risen : TellsRisen device store
  tells_risen spent = of_journal store.journal plain.keeps.has spent
    where
      of_journal : (journal : Journal D) → HasDurable device store.origin.vertices store.log store.origin.disk journal → is_spent journal ≡ true →
          Rose (device.faults store.origin.disk) (device.faults (journal_disk journal))
      of_journal (Sound kept) has spent = absurd (let h : false ≡ true = spent in cc)
      of_journal (Spent disk front) has spent = has.rose

-- a store with one entry more
pub put_is : {D : Type 0} (store now : PlainState D) (number : ℕ) (e : Edge) (log : List Edge) (owners : List ℕ) (room : ℕ) (seats : List Seat) → store ≡ now →
    log ≡ store.log ++ e ∷ [] → owners ≡ store.owners ++ number ∷ [] → room ≡ store.room → seats ≡ (pushed store number e).seats →
    record store { log = log; owners = owners; room = room; seats = seats } ≡ pushed now number e
put_is {D} store now number e log owners room seats is longer owned same spent =
    rw (longer, owned, same, spent) (ap (λ (s : PlainState D). pushed s number e) is)

-- a store with another seat of a session
pub seat_is : {D : Type 0} (store now : PlainState D) (number : ℕ) (seat : Seat) (seats : List Seat) → store ≡ now →
    seats ≡ seats_with store.seats number seat →
    record store { seats = seats } ≡ record now { seats = seats_with now.seats number seat }
seat_is {D} store now number seat seats is are = rw are (ap (λ (s : PlainState D). record s { seats = seats_with s.seats number seat }) is)

-- a store with another log file
pub flush_is : {D : Type 0} (store now : PlainState D) (journal : Journal D) → store ≡ now →
    record store { journal = journal } ≡ record now { journal = journal }
flush_is {D} store now journal is = ap (λ (s : PlainState D). record s { journal = journal }) is

-- a store with other shards
pub cuts_is : {D : Type 0} (store now : PlainState D) (cuts : List ℕ) → store ≡ now → record store { cuts = cuts } ≡ record now { cuts = cuts }
cuts_is {D} store now cuts is = ap (λ (s : PlainState D). record s { cuts = cuts }) is

-- a store whose ring was emptied
pub moved_is : {D : Type 0} (store now : PlainState D) (log : List Edge) (owners : List ℕ) (head room : ℕ) (cuts : List ℕ) → store ≡ now → log ≡ store.log →
    owners ≡ store.owners → head ≡ length now.log → room ≡ store.room →
    record store { log = log; owners = owners; moved = head; room = room; cuts = cuts } ≡ record now { moved = length now.log; cuts = cuts }
moved_is {D} store now log owners head room cuts is same same_owners whole same_room =
    rw (same, same_owners, same_room, whole) (ap (λ (s : PlainState D). record s { moved = length now.log; cuts = cuts }) is)

-- the log file was brought up to the log, and then the shards
pub moved_out : {D : Type 0} (old mid new : PlainState D) → IsOnlyFlushed old mid → Flushes (Ok tt) old mid →
    new ≡ record mid { moved = length mid.log; cuts = new.cuts } → IsMovedOut old new (Ok tt)
moved_out {D} old mid new only flushed moved =
    let journal : new.journal ≡ mid.journal = ap (λ (s : PlainState D). s.journal) moved in
    let reach : new.moved ≡ length mid.log = ap (λ (s : PlainState D). s.moved) moved in
    let log : length new.log ≡ length mid.log = ap (λ (s : PlainState D). length s.log) moved in
    record {
      only = record {
        same = moved ∙ ap (λ (s : PlainState D). record s { moved = length mid.log; cuts = new.cuts }) only.same ∙ rw (sym journal, sym reach) refl;
        no_less = rw journal only.no_less;
        met_stays = rw journal only.met_stays;
      };
      moved = reach ∙ sym log;
      durable = rw journal (omega (arith, log, flushed.1));
      met = λ disk. absurd (let h : Ok tt ≡ Err stops.Disk = disk in cc);
    }

-- the log file wasn't brought up to the log, or the shards weren't
pub not_moved : {D : Type 0} (old mid new : PlainState D) (why : Stop) → IsOnlyFlushed old mid → new ≡ record mid { cuts = new.cuts } →
    (why ≡ stops.Disk → is_spent new.journal ≡ true) → IsMovedOut old new (Err why)
not_moved {D} old mid new why only same met =
    let journal : new.journal ≡ mid.journal = ap (λ (s : PlainState D). s.journal) same in
    let moved : new.moved ≡ old.moved = ap (λ (s : PlainState D). s.moved) same ∙ ap (λ (s : PlainState D). s.moved) only.same in
    record {
      only = record {
        same = same ∙ ap (λ (s : PlainState D). record s { cuts = new.cuts }) only.same ∙ rw (moved, journal) refl;
        no_less = rw journal only.no_less;
        met_stays = rw journal only.met_stays;
      };
      moved = tt;
      durable = tt;
      met = λ disk. met (let h : Err why ≡ Err stops.Disk = disk in cc);
    }

-- a store whose log file stays tells what it told
pub risen_on : {D : Type 0} (device : Device D) (old new : PlainState D) → new.origin ≡ old.origin → new.journal ≡ old.journal → TellsRisen device old →
    TellsRisen device new
risen_on {D} device old new origin journal risen =
    let Tells : Origin D → Journal D → Type 0 = λ o j. is_spent j ≡ true → Rose (device.faults o.disk) (device.faults (journal_disk j)) in
    let here : Tells old.origin new.journal = subst (λ (j : Journal D). Tells old.origin j) (sym journal) risen in
    subst (λ (o : Origin D). Tells o new.journal) (sym origin) here

-- a log file that wasn't brought up is spent, where the disk is told
pub met_by : {D : Type 0} (old new : PlainState D) (why : Stop) → Flushes (Err why) old new → why ≡ stops.Disk → is_spent new.journal ≡ true
met_by old new stops.Disk spent is = spent
met_by old new stops.Memory spent is = absurd (let h : stops.Memory ≡ stops.Disk = is in cc)

-- where the ring isn't full, there is room for an entry
pub has_room : {D : Type 0} (store : PlainState D) (ring : RingState) (shards : List ShardState) → IsArranged store ring shards → IsRing ring →
    (length ring.entries == ring.room) ≡ false → HasMadeRoom store store (Ok tt)
has_room store ring shards is sound free =
    let less : length ring.entries < ring.room = below (length ring.entries) ring.room sound.within free in
    record {
      only = record { same = refl; no_less = omega arith; met_stays = λ met. met };
      room = omega (arith, less, is.pending.room, ring_length store ring shards is);
      met = λ disk. absurd (let h : Ok tt ≡ Err stops.Disk = disk in cc);
    } where
      below : (n m : ℕ) → n ≤ m → (n == m) ≡ false → n < m
      below n m le other = elim (eqb_tells n m) [
        | inl h ↦ absurd (let g : true ≡ false = sym h.0 ∙ other in cc)
        | inr h ↦ omega (arith, le, h.1)
      ]

-- where all was moved out, there is room for an entry
pub made_room : {D : Type 0} (old new : PlainState D) (result : Result (Unit {0}) Stop) → 1 ≤ old.room → IsMovedOut old new result → HasMadeRoom old new result
made_room {D} old new result some moved = record {
  only = moved.only;
  room = on_ok_weaker result (λ reach. let room : new.room ≡ old.room = ap (λ (s : PlainState D). s.room) moved.only.same in
      omega (arith, reach, room, some)) moved.moved;
  met = moved.met;
}
