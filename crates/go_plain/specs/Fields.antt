-- What the fields of a plain store stand for.
use Rattle.std.specs.Prelude.{map}
use Rattle.go_plain.specs.Past.{log_of, owners_of}
use Rattle.go_plain.specs.Plain.{PlainState, journal_in}
use Rattle.go_plain.specs.declared.body.Body.TheInside.{Inside}

-- the store: its log is put together from what was opened, the rings that were moved out, and the ring
abbrev pub store_of : {D : Type 0} → Inside D → PlainState D
store_of s = record {
  origin = record { disk = s.opened.value.disk; vertices = s.vertices; first = s.first };
  log = log_of s.found.value.items (map (λ one. one.value) s.past.items) s.ring;
  owners = owners_of (map (λ one. one.value) s.past.items) s.ring;
  moved = s.moved;
  room = s.ring.room;
  journal = journal_in s.opened.value.disk s.journal;
  seats = s.seats.items;
  cuts = map (λ shard. shard.cut) s.shards.items;
}
