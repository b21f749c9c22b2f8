-- What the fields of a shelf in memory stand for.
use Rattle.std.specs.Prelude.{map}
use Rattle.go_io.specs.MemShelf.{NamedText, Stock}
use Rattle.go_io.specs.declared.mem_shelf.Entry.{Entry}
use Rattle.go_io.specs.declared.mem_shelf.MemShelf.TheInside.{Inside}

-- an entry as contracts see it
abbrev pub held_of : Entry → NamedText
held_of entry = record { name = entry.name; bytes = entry.bytes.items; faults = entry.faults }

-- a shelf as contracts see it
abbrev pub stock_of : Inside → Stock
stock_of shelf =
    record { held = map held_of shelf.entries.items; other_faults = shelf.other_faults; failing = shelf.failing.items; calls = shelf.calls }
