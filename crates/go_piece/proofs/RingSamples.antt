-- The ring of the tests, over a log without entries.
use Rattle.std.proofs.Common.{◌≡◌, List, [], length, sym, ap, arith, subst}
use Rattle.go_word.specs.declared.edge.Edge.{Edge}
use Rattle.go_disk.specs.Device.{Device}
use Rattle.go_durable.specs.LogState.{LogState}
use Rattle.go_durable.specs.Standing.{IsLog}
use Rattle.go_shard.specs.Parts.{HaveParts}
use Rattle.go_shard.specs.ShardState.{ShardState}
use Rattle.go_rule.specs.declared.layout.Key.{Key}
use Rattle.go_rule.specs.Views.{opened_of}
use Rattle.go_piece.specs.declared.piece.Piece.{Piece}
use Rattle.go_piece.specs.declared.piece.Piece.TheVariants.{Log}
use Rattle.go_piece.specs.Laying.{HaveOpened}

-- shards without entries and a log without entries are what a ring from position 0 on begins with
pub sample_opened : {D : Type 0} (device : Device D) (key : Key (Piece D)) (shards : List ShardState) (kept : LogState D) (edges : List Edge)
    → opened_of key ≡ edges → length edges ≡ 0 → key.first ≡ 0 → key.quota ≡ 1
    → ((log : List Edge) → HaveParts key.layout.vertices key.layout.shards 0 [] log shards) → IsLog device kept edges
    → kept.vertices ≡ key.layout.vertices → Log kept ≡ key.file.value → HaveOpened device key shards kept
sample_opened device key shards kept edges same none first quota parts stands vertices file =
    let long : length (opened_of key) ≡ length edges = ap length same in
    record {
      room = record { long = omega arith; below = λ k d within. absurd (omega arith); few = omega arith };
      parts = subst (λ n. HaveParts key.layout.vertices key.layout.shards n [] (opened_of key) shards) (sym first) (parts (opened_of key));
      stands = subst (IsLog device kept) (sym same) stands;
      vertices = vertices;
      file = file;
    }
