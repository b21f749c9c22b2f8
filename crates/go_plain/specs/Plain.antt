-- A plain store, as contracts see it, and how its parts keep its log.
use Rattle.std.specs.Prelude.{◌≡◌, ◌⊎◌, ℕ, ◌+◌, ◌-◌, ◌<◌, ◌≤◌, true, false, is_some, List, [], ◌∷◌}
use Rattle.std.specs.Prelude.{◌++◌, length, take, drop, map, replicate, slice_set, All, sum_by, Option, None, Some}
use Rattle.std.specs.Prelude.{Contains, Result, Ok, Err, OnOk}
use Rattle.go_text.specs.Causes.{Rose}
use Rattle.go_word.specs.declared.edge.Edge.{Edge}
use Rattle.go_word.specs.declared.edge.TheConstants.{VERTEX_LIMIT}
use Rattle.go_word.specs.Log.{IsWithin}
use Rattle.go_api.specs.Standing.{Standing, IsSound}
use Rattle.go_api.specs.declared.answers.Offer.{Offer}
use Rattle.go_api.specs.declared.answers.Offer.TheVariants.{At, Busy}
use Rattle.go_api.specs.declared.answers.Reached.{Reached}
use Rattle.go_api.specs.declared.answers.Reached.TheVariants.{Yes, NotYet}
use Rattle.go_api.specs.declared.limits.TheConstants.{SLOT_LIMIT, SHARD_LIMIT, LOG_ENTRIES}
use Rattle.go_api.specs.declared.place.Place.{Place}
use Rattle.go_api.specs.declared.setup.Setup.{Setup}
use Rattle.go_api.specs.declared.stop.Stop.{Stop}
use Rattle.go_api.specs.declared.stop.Stop.TheVariants as stops
use Rattle.go_disk.specs.Device.{Device}
use Rattle.go_durable.specs.Finishing.{HasFinished}
use Rattle.go_durable.specs.Journal.{journal_disk, journal_front, block_count, blocks_for, is_spent, Keeps}
use Rattle.go_durable.specs.LogState.{OpenedLog}
use Rattle.go_durable.specs.declared.finished.Finished.{Finished}
use Rattle.go_durable.specs.declared.journal.Journal.{Journal}
use Rattle.go_durable.specs.declared.journal.Journal.TheVariants.{Sound, Spent}
use Rattle.go_shard.specs.ShardState.{ShardState}
use Rattle.go_shard.specs.Parts.{HaveParts}
use Rattle.go_plain.specs.Owners.{owned, put_by, HasOwners, IsSession}
use Rattle.go_plain.specs.Ring.{RingState}
use Rattle.go_plain.specs.Seats.{seat_at, seats_with, total_quota, all_views, IsSeated, new_seat}
use Rattle.go_plain.specs.Views.{views_of, IsLeast}
use Rattle.go_plain.specs.declared.seat.Seat.{Seat}

-- what a store was made over: a disk as it was opened, with a log of so many vertices and so many entries
pub record Origin (D : Type 0) : Type 0 where
  pub disk : D
  pub vertices : ℕ
  pub first : ℕ

-- a store: its log, which session put each entry behind the old ones, how many of its entries were moved out of the ring, for how many the ring has room,
-- its log file, what it keeps for each session, and up to where each shard was compacted
pub record PlainState (D : Type 0) : Type 0 where
  pub origin : Origin D
  pub log : List Edge
  pub owners : List ℕ
  pub moved : ℕ
  pub room : ℕ
  pub journal : Journal D
  pub seats : List Seat
  pub cuts : List ℕ

-- a handle of a store: the session that it is of, and the store
pub record HandleState (D : Type 0) : Type 0 where
  pub number : ℕ
  pub store : PlainState D

-- the log file, which is set aside only inside a call
abbrev pub journal_in : {D : Type 0} → D → Option (Journal D) → Journal D
journal_in opened None = Spent opened 0
journal_in opened (Some journal) = journal

-- what the handle of a session stands for, where the store keeps this for it: what it put and where, and the log as far as it saw it
abbrev pub standing_as : {D : Type 0} → Device D → PlainState D → ℕ → Seat → Standing
standing_as device store number seat = record {
  terms = record {
    first = store.origin.first;
    vertices = store.origin.vertices;
    ring = store.room;
    told = is_some (device.contents store.origin.disk);
  };
  own = owned store.origin.first number store.owners;
  edges = put_by number store.owners (drop store.origin.first store.log);
  log = record { seen = take seat.seen store.log; floor = seat.seen; known = length store.log; durable = journal_front store.journal };
  quota = seat.quota;
  places = seat.places;
  met = is_spent store.journal;
}

abbrev pub standing_of : {D : Type 0} → Device D → PlainState D → ℕ → Standing
standing_of device store number = standing_as device store number (seat_at store.seats number)

-- a store has a session of this number
abbrev pub HasSession : {D : Type 0} → PlainState D → ℕ → Type 0
HasSession store number = IsSession (length store.seats) number

-- the log and what may yet be put fit: the vertices are there, and few enough, and so are the entries
pub record Fits {D : Type 0} (store : PlainState D) : Type 0 where
  pub ids : All (IsWithin store.origin.vertices) store.log
  pub room : length store.log + total_quota store.seats ≤ LOG_ENTRIES
  pub vertex_count : store.origin.vertices ≤ VERTEX_LIMIT

-- the ring has the entries behind what was moved out of it, and the old log was moved
pub record HasPending {D : Type 0} (store : PlainState D) (ring : RingState) : Type 0 where
  pub old_moved : store.origin.first ≤ store.moved
  pub moved_within : store.moved ≤ length store.log
  pub entries : ring.entries ≡ drop store.moved store.log
  pub room : ring.room ≡ store.room
  pub vertices : ring.vertices ≡ store.origin.vertices
  pub some_room : 1 ≤ store.room

-- each session is seated within the log, and each entry behind the old ones has an owner
pub record HasSeats {D : Type 0} (store : PlainState D) : Type 0 where
  pub seated : All (IsSeated store.origin.first (length store.log)) store.seats
  pub owners : HasOwners (length store.seats) store.origin.first store.log store.owners

-- ring and shards have the log between them: the shards at least what was moved out of the ring, the ring what is behind that
pub record IsArranged {D : Type 0} (store : PlainState D) (ring : RingState) (shards : List ShardState) : Type 0 where
  pub fits : Fits store
  pub pending : HasPending store ring
  pub parts : HaveParts store.origin.vertices (length shards) store.moved (all_views store.seats) store.log shards
  pub seats : HasSeats store

-- the parts keep the log: ring and shards have it between them, the log file keeps it, and what was moved out of the ring is durable
pub record IsPlain {D : Type 0} (device : Device D) (store : PlainState D) (ring : RingState) (shards : List ShardState) : Type 0 where
  pub arranged : IsArranged store ring shards
  pub keeps : Keeps device store.origin.vertices store.origin.first store.log store.origin.disk store.journal
  pub moved_durable : store.moved ≤ journal_front store.journal

-- a store has ended: its log file has, for its log
abbrev pub HasEnded : {D : Type 0} → Device D → PlainState D → Finished D → Type 0
HasEnded device store finished = HasFinished device store.origin.vertices store.origin.first store.log store.origin.disk store.journal finished

-- where a fault of the disk was met, the count of its faults rose since the store was made over it
abbrev pub TellsRisen : {D : Type 0} → Device D → PlainState D → Type 0
TellsRisen device store = is_spent store.journal ≡ true → Rose (device.faults store.origin.disk) (device.faults (journal_disk store.journal))

-- what holds of every store: the handle of each of its sessions is sound, each entry behind the old ones has an owner among them, and a fault of the
-- disk was met only where the count of its faults rose
pub record IsStore {D : Type 0} (device : Device D) (store : PlainState D) : Type 0 where
  pub sound : (number : ℕ) → HasSession store number → IsSound (standing_of device store number)
  pub owners : HasOwners (length store.seats) store.origin.first store.log store.owners
  pub risen : TellsRisen device store

-- a call leaves a store with as many sessions
pub record StaysStore {D : Type 0} (device : Device D) (old new : PlainState D) : Type 0 where
  pub is_store : IsStore device new
  pub sessions : length new.seats ≡ length old.seats

-- the log goes on by entries that one session put
pub record GrowsBy {D : Type 0} (number : ℕ) (old new : PlainState D) : Type 0 where
  pub more : List Edge
  pub log : new.log ≡ old.log ++ more
  pub owners : new.owners ≡ old.owners ++ replicate (length more) number

-- what is kept for each session but one stays
pub record KeepsOthers (number : ℕ) (old new : List Seat) : Type 0 where
  pub count : length new ≡ length old
  pub each : (other : ℕ) → 1 ≤ other → (other ≡ number → ⊥) → seat_at new other ≡ seat_at old other

-- what all calls of a session's handle promise of its store: it stays one over what it was made, its log goes on by entries of this session, what is
-- kept for the others stays, no fewer entries are durable, and a fault of the disk stays met, and is met only where the count rose
pub record GoesOnBy {D : Type 0} (device : Device D) (number : ℕ) (old new : PlainState D) : Type 0 where
  pub origin : new.origin ≡ old.origin
  pub room : new.room ≡ old.room
  pub grows : GrowsBy number old new
  pub others : KeepsOthers number old.seats new.seats
  pub no_less : journal_front old.journal ≤ journal_front new.journal
  pub met_stays : is_spent old.journal ≡ true → is_spent new.journal ≡ true
  pub risen : TellsRisen device old → TellsRisen device new

-- the handle of a session goes on: it stays that session's
pub record HandleGoesOn {D : Type 0} (device : Device D) (old new : HandleState D) : Type 0 where
  pub same_number : new.number ≡ old.number
  pub store : GoesOnBy device old.number old.store new.store

-- what a look at the whole log says, where it was asked whether the log has come to a front
abbrev pub LooksAt : {D : Type 0} → PlainState D → ℕ → Reached → Type 0
LooksAt store asked (Yes front) = asked ≤ length store.log
LooksAt store asked (NotYet seen) = (seen ≡ length store.log) × (seen < asked)

-- an offer is refused just where the ring is full
abbrev pub BusyWhereFull : {D : Type 0} → PlainState D → Result Offer Stop → Type 0
BusyWhereFull store (Ok (At position)) = length store.log < store.moved + store.room
BusyWhereFull store (Ok (Busy head released)) = (store.moved + store.room ≡ length store.log) × (head ≡ length store.log) × (released ≡ store.moved)
BusyWhereFull store (Err why) = ⊥

-- a compaction brings each shard up to the least of the log's length and of the fronts of all views
pub record IsCompacted {D : Type 0} (store : PlainState D) : Type 0 where
  pub limit : ℕ
  pub least : IsLeast (length store.log) (all_views store.seats) limit
  pub cuts : All (λ cut. cut ≡ limit) store.cuts

-- what is kept for a session may become this: it may put no more, is seated within the log, and shows the whole log or what it showed
pub record MaySit {D : Type 0} (store : PlainState D) (old new : Seat) : Type 0 where
  pub quota : new.quota ≤ old.quota
  pub seated : IsSeated store.origin.first (length store.log) new
  pub views : (n : ℕ) → Contains (views_of new.places) n → (length store.log ≡ n) ⊎ Contains (views_of old.places) n

-- a session sees the whole log
abbrev pub seen_by : {D : Type 0} → PlainState D → ℕ → PlainState D
seen_by store number = record store {
  seats = seats_with store.seats number (record (seat_at store.seats number) { seen = length store.log });
}

-- and something stands at one of its places
abbrev pub kept_at : {D : Type 0} → PlainState D → ℕ → ℕ → Place → PlainState D
kept_at store number place held = record store {
  seats = seats_with store.seats number (record (seat_at store.seats number) {
    seen = length store.log;
    places = slice_set (seat_at store.seats number).places place held;
  });
}

-- an entry that a session put, which may put one less
abbrev pub pushed : {D : Type 0} → PlainState D → ℕ → Edge → PlainState D
pushed store number edge = record store {
  log = store.log ++ edge ∷ [];
  owners = store.owners ++ number ∷ [];
  seats = seats_with store.seats number (record (seat_at store.seats number) { quota = (seat_at store.seats number).quota - 1 });
}

-- the log file was brought up to the log, in as few blocks as that takes, or it was stopped
abbrev pub Flushes : {D : Type 0} → Result (Unit {0}) Stop → PlainState D → PlainState D → Type 0
Flushes (Ok done) old new =
    (is_spent new.journal ≡ false) × (journal_front new.journal ≡ length new.log)
    × (block_count new.journal ≡ block_count old.journal + blocks_for (length old.log - journal_front old.journal))
Flushes (Err stops.Disk) old new = is_spent new.journal ≡ true
Flushes (Err stops.Memory) old new = Unit {0}

-- nothing changed but the log file, and no fewer entries are durable
pub record IsOnlyFlushed {D : Type 0} (old new : PlainState D) : Type 0 where
  pub same : new ≡ record old { journal = new.journal }
  pub no_less : journal_front old.journal ≤ journal_front new.journal
  pub met_stays : is_spent old.journal ≡ true → is_spent new.journal ≡ true

-- entries of the log from one place up to another were added to others, and they are the log's where the disk was told at opening
pub record AddsLog {D : Type 0} (device : Device D) (store : PlainState D) (from to : ℕ) (before after : List Edge) : Type 0 where
  pub more : List Edge
  pub added : after ≡ before ++ more
  pub so_many : from + length more ≡ to
  pub shown : is_some (device.contents store.origin.disk) ≡ true → more ≡ drop from (take to store.log)

-- the entries of the log from one place up to another were read, which are told where the disk was told at opening
pub record HasRead {D : Type 0} (device : Device D) (store : PlainState D) (from to : ℕ) (list : List Edge) : Type 0 where
  pub so_many : from + length list ≡ to
  pub shown : is_some (device.contents store.origin.disk) ≡ true → list ≡ drop from (take to store.log)

-- or that was stopped, by the disk only where a fault of it was met
abbrev pub ReadsLog : {D : Type 0} → Device D → PlainState D → ℕ → ℕ → List Edge → Result (Unit {0}) Stop → Type 0
ReadsLog device new from to list (Ok done) = HasRead device new from to list
ReadsLog device new from to list (Err why) = why ≡ stops.Disk → is_spent new.journal ≡ true

-- what moving entries out of the ring changes, and it leaves no fewer entries durable
pub record OnlyMoves {D : Type 0} (old new : PlainState D) : Type 0 where
  pub same : new ≡ record old { journal = new.journal; moved = new.moved; cuts = new.cuts }
  pub no_less : journal_front old.journal ≤ journal_front new.journal
  pub met_stays : is_spent old.journal ≡ true → is_spent new.journal ≡ true

-- all entries were moved out of the ring, or that was stopped
pub record IsMovedOut {D : Type 0} (old new : PlainState D) (result : Result (Unit {0}) Stop) : Type 0 where
  pub only : OnlyMoves old new
  pub moved : OnOk result (new.moved ≡ length new.log)
  pub durable : OnOk result (length new.log ≤ journal_front new.journal)
  pub met : result ≡ Err stops.Disk → is_spent new.journal ≡ true

-- the ring has room for an entry, or making it was stopped
pub record HasMadeRoom {D : Type 0} (old new : PlainState D) (result : Result (Unit {0}) Stop) : Type 0 where
  pub only : OnlyMoves old new
  pub room : OnOk result (length new.log < new.moved + new.room)
  pub met : result ≡ Err stops.Disk → is_spent new.journal ≡ true

-- the numbers of a plain store: its ring may have any size up to the limit
pub record IsPlainSetup (setup : Setup) : Type 0 where
  pub some_vertices : 1 ≤ setup.vertices
  pub few_vertices : setup.vertices ≤ VERTEX_LIMIT
  pub some_slots : 1 ≤ setup.ring
  pub few_slots : setup.ring ≤ SLOT_LIMIT
  pub some_shards : 1 ≤ setup.shards
  pub few_shards : setup.shards ≤ SHARD_LIMIT

-- there is a quota for each of 1 to 8 sessions, and all of them fit behind so many entries
pub record AreQuotas (first : ℕ) (quotas : List ℕ) : Type 0 where
  pub some : 1 ≤ length quotas
  pub few : length quotas ≤ 8
  pub room : first + sum_by (λ quota. quota) quotas ≤ LOG_ENTRIES

-- a store over a log that was just opened: the shards have all of its entries, and each session may put so many
abbrev pub made_of : {D : Type 0} → OpenedLog D → Setup → List ℕ → PlainState D
made_of found setup quotas = record {
  origin = record { disk = found.log.disk; vertices = found.log.vertices; first = length found.edges };
  log = found.edges;
  owners = [];
  moved = length found.edges;
  room = setup.ring;
  journal = Sound found.log;
  seats = map (new_seat (length found.edges)) quotas;
  cuts = replicate setup.shards 0;
}
