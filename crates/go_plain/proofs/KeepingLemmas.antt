-- A log file that keeps a log keeps a longer one.
use Rattle.std.proofs.Common.{ℕ, ◌≤◌, List, ◌++◌, length, take, arith, sym, subst, length-append}
use Rattle.std.proofs.lemmas.List.{take-append-le}
use Rattle.go_word.specs.declared.edge.Edge.{Edge}
use Rattle.go_disk.specs.Device.{Device}
use Rattle.go_durable.specs.Journal.{journal_disk, journal_front, HasDurable, Keeps}
use Rattle.go_durable.specs.Recovery.{RecoversPart}
use Rattle.go_durable.specs.Standing.{IsLog}
use Rattle.go_durable.specs.declared.journal.Journal.{Journal}
use Rattle.go_durable.specs.declared.journal.Journal.TheVariants.{Sound, Spent}
use Rattle.go_durable.proofs.Moments.{weaker}

module _ {D : Type 0} (device : Device D) (v first : ℕ) (log more : List Edge) (opened : D) where
  -- a part of a log is a part of a longer one
  part_of_longer : (least : ℕ) (image : List ℕ) → RecoversPart v least log image → RecoversPart v least (log ++ more) image
  part_of_longer least image part = record {
    count = part.count;
    at_least = part.at_least;
    at_most = omega (arith, part.at_most, length-append log more);
    recovers = rw (take-append-le part.count log more part.at_most) part.recovers;
  }

  -- what a journal has of a log it has of a longer one
  has_longer : (journal : Journal D) → journal_front journal ≤ length log → HasDurable device v log opened journal →
      HasDurable device v (log ++ more) opened journal
  has_longer (Sound kept) within has = record {
    stands = subst (IsLog device kept) (sym (take-append-le kept.front log more within)) has.stands;
    vertices_are = has.vertices_are;
    told = has.told;
  }
  has_longer (Spent disk front) within has = record {
    each = λ image is_image. part_of_longer front image (has.each image is_image);
    told = has.told;
    one = rw (take-append-le front log more within) has.one;
    rose = has.rose;
  }

  -- a journal that keeps a log keeps a longer one too
  pub keeps_more_log : (journal : Journal D) → Keeps device v first log opened journal → Keeps device v first (log ++ more) opened journal
  keeps_more_log journal keeps = record {
    has = has_longer journal keeps.most keeps.has;
    least = keeps.least;
    most = omega (arith, keeps.most, length-append log more);
    moments = weaker device opened (journal_disk journal) (RecoversPart v first log) (RecoversPart v first (log ++ more))
        (λ image part. part_of_longer first image part) keeps.moments;
    count = keeps.count;
  }
