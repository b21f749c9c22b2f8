-- What a view counts at a position, and what each act makes of it.
use Rattle.std.specs.Prelude.{ℕ, ◌+◌, ◌-◌, max, ◌==◌, nat_le, nat_lt, ◌||◌, ◌&&◌, not, Bool, true, false, if◌then◌else◌, List, [], ◌∷◌, ◌++◌, map, length}
use Rattle.std.specs.Prelude.{take, drop, count_by, sum_by}
use Rattle.std.specs.List.{suffix_len}
use Rattle.go_word.specs.declared.edge.Edge.{Edge}
use Rattle.go_core.specs.declared.entry.Entry.{Entry}
use Rattle.go_core.specs.declared.entry.Load.{Load}
use Rattle.go_core.specs.declared.view.View.{View}

-- an entry stands at a position
abbrev pub stands_at : ℕ → Entry → Bool
stands_at p x = x.at == p

-- how many entries of a list stand at a position
abbrev pub count_at : ℕ → List Entry → ℕ
count_at p xs = count_by (stands_at p) xs

-- how often a view owes the word of a position
abbrev pub unfilled : ℕ → View → ℕ
unfilled p v = count_at p v.pending + count_at p v.abandoned

-- how often a position stands in a view at all
abbrev pub stands : ℕ → View → ℕ
stands p v = unfilled p v + (count_at p v.own + sum_by (count_at p) v.joined)

-- entries at rising positions, the first at p
abbrev pub numbered : ℕ → List Edge → List Entry
numbered p [] = []
numbered p (e ∷ es) = record { at = p; edge = e } ∷ numbered (p + 1) es

-- an entry comes after a position
abbrev pub is_after : ℕ → Entry → Bool
is_after p x = nat_lt p x.at

-- how many entries stand before those at the end that come after a position
abbrev pub before_later : ℕ → List Entry → ℕ
before_later p xs = length xs - suffix_len (is_after p) xs

-- the list with one more entry, before those at its end that come after it
abbrev pub inserted : Entry → List Entry → List Entry
inserted x xs = take (before_later x.at xs) xs ++ x ∷ drop (before_later x.at xs) xs

-- the list less the first entry at a position
abbrev pub without : ℕ → List Entry → List Entry
without p [] = []
without p (x ∷ xs) = if stands_at p x then xs else x ∷ without p xs

-- a load is sure once a front at or below its position is read
abbrev pub assured : ℕ → Load → Load
assured front l = record l { sure = l.sure || nat_le front l.at }

-- the view of a party that takes no part any more
abbrev pub spent : View
spent = record {
  live = false;
  archives = false;
  flushes = false;
  seen = 0;
  taken = 0;
  head = 0;
  archived = 0;
  durable = 0;
  disk_raised = false;
  memory_raised = false;
  pending = [];
  abandoned = [];
  own = [];
  joined = [];
  loads = [];
  marked = 0;
  fresh = false;
}

-- the view after a step that told it nothing
abbrev pub unmoved : View → View
unmoved v = record v { fresh = false }

-- after a claim of the entries es from position p on
abbrev pub claimed : ℕ → List Edge → View → View
claimed p es v = record v { pending = v.pending ++ numbered p es; fresh = false }

-- after a load of the log's length
abbrev pub knowing_head : ℕ → View → View
knowing_head n v = record v { head = n; fresh = true }

-- after a load of the archived front: right after a load of the length a copy begins, else earlier loads may become sure
abbrev pub knowing_archived : ℕ → View → View
knowing_archived front v =
    record v {
      archived = front;
      seen = max v.seen front;
      loads = if v.fresh then [] else map (assured front) v.loads;
      marked = if v.fresh then max v.seen front else v.marked;
      fresh = false;
    }

-- after the word of a pending entry was stored
abbrev pub stored : Entry → View → View
stored x v = record v { pending = without x.at v.pending; own = inserted x v.own; fresh = false }

-- after a word was read in order and is that of position p
abbrev pub took : ℕ → View → View
took p v = record v { seen = max v.seen (p + 1); taken = max v.taken (p + 1); fresh = false }

-- after a store of the archived front
abbrev pub archiving : ℕ → View → View
archiving front v = record v { archived = front; fresh = false }

-- after a store of the durable front
abbrev pub flushing : ℕ → View → View
flushing front v = record v { durable = front; fresh = false }

-- after a load of the durable front
abbrev pub knowing_durable : ℕ → View → View
knowing_durable front v = record v { durable = front; seen = max v.seen front; loads = map (assured front) v.loads; fresh = false }

-- after a copy's load of the durable front, by which what was copied up to an end is seen
abbrev pub ending : ℕ → ℕ → View → View
ending front end v = record (knowing_durable front v) { seen = max (max v.seen front) end }

-- after a word was read ahead of its turn
abbrev pub read_ahead : ℕ → ℕ → View → View
read_ahead p word v = record v { loads = v.loads ++ record { at = p; word = word; sure = false } ∷ []; fresh = false }

-- after a store of the flag, by its cause: 1 is the disk, 2 is want of memory
abbrev pub raising : ℕ → View → View
raising why v = record v { disk_raised = v.disk_raised || (why == 1); memory_raised = v.memory_raised || (why == 2); fresh = false }

-- after the flag was seen raised and a pending entry was given up
abbrev pub abandoning : Entry → View → View
abandoning x v = record v { pending = without x.at v.pending; abandoned = v.abandoned ++ x ∷ []; fresh = false }

-- a view without entries and without a copy
abbrev pub emptied : View → View
emptied v = record v { pending = []; abandoned = []; own = []; joined = []; loads = [] }

-- what a new party has, which is split off: what the old one has seen, taken and known
abbrev pub split_off : View → View
split_off v = record (emptied v) { archives = false; flushes = false; disk_raised = false; memory_raised = false; fresh = false }

-- after a split by which who moves both fronts gives the durable one away
abbrev pub sharing_out : View → View
sharing_out v = record v { flushes = v.flushes && not v.archives; fresh = false }

-- what its new party has
abbrev pub shared_off : View → View
shared_off v = record (split_off v) { flushes = v.flushes && v.archives }

-- knowing of the log what another party knows too
abbrev pub knowing_both : View → View → View
knowing_both v other =
    record v {
      seen = max v.seen other.seen;
      head = max v.head other.head;
      archived = max v.archived other.archived;
      durable = max v.durable other.durable;
    }

-- after another party was joined in, whose entries stay lists of their own
abbrev pub joining : View → View → View
joining v other =
    record (knowing_both v other) {
      disk_raised = v.disk_raised || other.disk_raised;
      memory_raised = v.memory_raised || other.memory_raised;
      abandoned = v.abandoned ++ other.abandoned;
      joined = v.joined ++ other.own ∷ other.joined;
      fresh = false;
    }
