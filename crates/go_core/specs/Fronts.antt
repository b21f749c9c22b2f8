-- The two fronts by the part that reaches them: `true` is the shard and the archived front, `false` the file and the durable one.
use Rattle.std.specs.Prelude.{ℕ, Bool, true, false, List}
use Rattle.go_core.specs.declared.act.Act.{Act}
use Rattle.go_core.specs.declared.act.Act.TheVariants.{LoadArchived, LoadDurable, StoreArchived, StoreDurable}
use Rattle.go_core.specs.declared.view.View.{View}
use Rattle.go_core.specs.View.{knowing_archived, knowing_durable, archiving, flushing}
use Rattle.go_core.specs.Acts.{CanArchive, CanFlush}

-- the index of a front's word
abbrev pub front_place : Bool → ℕ
front_place true = 1
front_place false = 2

-- the act that loads a front, and the one that stores it
abbrev pub front_load : Bool → Act
front_load true = LoadArchived
front_load false = LoadDurable

abbrev pub front_store : Bool → ℕ → Act
front_store true front = StoreArchived front
front_store false front = StoreDurable front

-- a view after a load of a front, and after a store of it
abbrev pub knowing_front : Bool → ℕ → View → View
knowing_front true front v = knowing_archived front v
knowing_front false front v = knowing_durable front v

abbrev pub moving_front : Bool → ℕ → View → View
moving_front true front v = archiving front v
moving_front false front v = flushing front v

-- a front may be moved
abbrev pub CanMove : Bool → List ℕ → View → ℕ → Type 0
CanMove true words v front = CanArchive words v front
CanMove false words v front = CanFlush words v front
