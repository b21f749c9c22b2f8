-- What a piece stands for over a log, and what a crash left of it there, it does over each longer log.
use Rattle.std.proofs.Common.{◌≡◌, ℕ, ◌≤◌, List, ◌++◌, length, take, subst, sym, ◌∙◌, arith, length-append}
use Rattle.std.specs.Prelude.{min, IfSome}
use Rattle.std.proofs.lemmas.List.{take-append-le, length-take}
use Rattle.go_word.specs.declared.edge.Edge.{Edge}
use Rattle.go_core.specs.Parts.{Mark}
use Rattle.go_disk.specs.Device.{Device}
use Rattle.go_durable.specs.declared.journal.Journal.{Journal}
use Rattle.go_durable.specs.declared.journal.Journal.TheVariants as journals
use Rattle.go_durable.specs.Appending.{HasImage}
use Rattle.go_durable.specs.Journal.{HasDurable, Keeps, journal_front}
use Rattle.go_durable.specs.Recovery.{Recovers, RecoversPart}
use Rattle.go_durable.specs.Standing.{IsLog}
use Rattle.go_shard.specs.Stands.{Stands}
use Rattle.go_piece.specs.declared.piece.Piece.{Piece}
use Rattle.go_piece.specs.declared.piece.Piece.TheVariants.{Shard, Log, Spent}
use Rattle.go_piece.specs.Pieces.{StandsFor, HasLeft}

-- a beginning of so many entries is within its log
within_log : (front : ℕ) (log : List Edge) → length (take front log) ≡ front → front ≤ length log
within_log front log whole = let long : front ≡ min front (length log) = sym whole ∙ length-take front log in omega arith

module _ {D : Type 0} (device : Device D) (vertices first : ℕ) (log more : List Edge) where
  -- a part of a log is one of a longer log
  part_longer : (least : ℕ) (image : List ℕ) → RecoversPart vertices least log image → RecoversPart vertices least (log ++ more) image
  part_longer least image part = record {
    count = part.count;
    at_least = part.at_least;
    at_most = let most = part.at_most in omega (arith, length-append log more);
    recovers = subst (λ (l : List Edge). Recovers vertices l image) (sym (take-append-le part.count log more part.at_most)) part.recovers;
  }

  -- the durable entries of a log are those of a longer log
  durable_longer : (opened : D) (journal : Journal D) → journal_front journal ≤ length log → HasDurable device vertices log opened journal
      → HasDurable device vertices (log ++ more) opened journal
  durable_longer opened (journals.Sound kept) within has = record {
    stands = subst (IsLog device kept) (sym (take-append-le kept.front log more within)) has.stands;
    vertices_are = has.vertices_are;
    told = has.told;
  }
  durable_longer opened (journals.Spent disk front) within has = record {
    each = λ image is_image. part_longer front image (has.each image is_image);
    told = has.told;
    one = subst (λ (l : List Edge). IfSome (device.contents disk) (λ bytes. HasImage (device.images disk) (Recovers vertices l)))
        (sym (take-append-le front log more within)) has.one;
    rose = has.rose;
  }

  -- a journal that keeps a log keeps a longer log
  keeps_longer : (opened : D) (journal : Journal D) → Keeps device vertices first log opened journal
      → Keeps device vertices first (log ++ more) opened journal
  keeps_longer opened journal keeps =
      let most = keeps.most in
      let moments = keeps.moments in
      record {
        has = durable_longer opened journal keeps.most keeps.has;
        least = keeps.least;
        most = omega (arith, length-append log more);
        moments = record {
          passes = moments.passes;
          each = λ image since. part_longer first image (moments.each image since);
          nothing_else = moments.nothing_else;
          earlier = moments.earlier;
        };
        count = keeps.count;
      }

-- what a piece stands for
pub stands_longer : {D : Type 0} (device : Device D) (piece : Piece D) (first : ℕ) (log more : List Edge) → StandsFor device piece first log
    → StandsFor device piece first (log ++ more)
stands_longer device (Shard shard) first log more stands =
    subst (Stands shard) (sym (take-append-le shard.front log more (within_log shard.front log stands.whole))) stands
stands_longer device (Log kept) first log more has = record {
  vertices = has.vertices;
  opened = has.opened;
  keeps = keeps_longer device has.vertices first log more has.opened (journals.Sound kept) has.keeps;
}
stands_longer device (Spent disk front) first log more has = record {
  vertices = has.vertices;
  opened = has.opened;
  keeps = keeps_longer device has.vertices first log more has.opened (journals.Spent disk front) has.keeps;
}

-- what a crash left of it
pub left_longer : {D : Type 0} (device : Device D) (piece : Piece D) (log more : List Edge) (vertices first : ℕ) (mark : Mark)
    → HasLeft device piece log vertices first mark → HasLeft device piece (log ++ more) vertices first mark
left_longer device (Shard shard) log more vertices first mark left = tt
left_longer device (Log kept) log more vertices first mark left = record {
  opened = left.opened;
  at = left.at;
  keeps = keeps_longer device vertices first log more left.opened (journals.Sound kept) left.keeps;
}
left_longer device (Spent disk front) log more vertices first mark left = record {
  opened = left.opened;
  at = left.at;
  keeps = keeps_longer device vertices first log more left.opened (journals.Spent disk front) left.keeps;
}
