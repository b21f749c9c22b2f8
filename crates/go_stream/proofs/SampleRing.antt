-- The ring of the tests, over the file of a log.
use Rattle.std.proofs.Common.{◌≡◌, ℕ, ◌<◌, ◌≤◌, List, [], length, sym, ap, ◌∙◌, arith, subst}
use Rattle.std.specs.Prelude.{All}
use Rattle.std.proofs.lemmas.List.Elements.{All-weaker}
use Rattle.go_word.specs.declared.edge.Edge.{Edge}
use Rattle.go_word.specs.Log.{IsWithin}
use Rattle.go_disk.specs.Device.{Device}
use Rattle.go_durable.specs.LogState.{LogState}
use Rattle.go_durable.specs.Standing.{IsLog}
use Rattle.go_shard.specs.Parts.{HaveParts}
use Rattle.go_shard.specs.ShardState.{ShardState}
use Rattle.go_rule.specs.declared.layout.Key.{Key}
use Rattle.go_rule.specs.Rule.{IsBelow}
use Rattle.go_rule.specs.Views.{opened_of}
use Rattle.go_piece.specs.declared.piece.Piece.{Piece}
use Rattle.go_piece.specs.declared.piece.Piece.TheVariants.{Log}
use Rattle.go_piece.specs.Laying.{HaveOpened}

-- a ring's sizes are those of the tests
pub record HasSizes {P : Type 0} (key : Key P) (first : ℕ) : Type 0 where
  pub vertices : key.layout.vertices ≡ 8
  pub shards : key.layout.shards ≡ 1
  pub first_is : key.first ≡ first
  pub quota : key.quota ≡ 10000

-- a shard and a log that have some entries are what a ring from their end on begins with
pub sample_opened : {D : Type 0} (device : Device D) (key : Key (Piece D)) (shards : List ShardState) (kept : LogState D) (edges : List Edge)
    → opened_of key ≡ edges → HasSizes key (length edges) → length edges ≤ 1000 → All (IsWithin 8) edges
    → HaveParts 8 1 (length edges) [] edges shards → IsLog device kept edges → kept.vertices ≡ 8 → Log kept ≡ key.file.value
    → HaveOpened device key shards kept
sample_opened device key shards kept edges same sizes few within parts stands vertices file =
    let first = sizes.first_is in
    let quota = sizes.quota in
    let below : All (IsBelow 8) edges =
    All-weaker (IsWithin 8) (IsBelow 8) (λ e one. record { src = one.source; dst = one.destination }) edges within
    in
    record {
      room = record {
        long = ap length same ∙ sym first;
        below = subst (λ v. All (IsBelow v) (opened_of key)) (sym sizes.vertices) (subst (All (IsBelow 8)) (sym same) below);
        few = omega arith;
      };
      parts =
          subst (λ v. HaveParts v key.layout.shards key.first [] (opened_of key) shards) (sym sizes.vertices)
          (subst (λ n. HaveParts 8 n key.first [] (opened_of key) shards) (sym sizes.shards)
          (subst (λ n. HaveParts 8 1 n [] (opened_of key) shards) (sym first)
          (subst (λ l. HaveParts 8 1 (length edges) [] l shards) (sym same) parts)));
      stands = subst (IsLog device kept) (sym same) stands;
      vertices = vertices ∙ sym sizes.vertices;
      file = file;
    }
