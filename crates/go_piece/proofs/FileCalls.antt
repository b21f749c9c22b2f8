-- For callers that give the log's file back: what a journal keeps of a log is what the ring asks of what comes back.
use Rattle.std.proofs.Common.{◌≡◌, ℕ, ◌+◌, ◌-◌, ◌≤◌, true, List, [], ◌∷◌, length, take, drop, refl, sym, ap, ◌∙◌, inr, arith, subst}
use Rattle.std.specs.Prelude.{min, max, Option, None, Some, IfSome, IsSome}
use Rattle.std.proofs.lemmas.List.{length-take, length-take-le, length-drop}
use Rattle.go_text.specs.Causes.{Rose}
use Rattle.go_word.specs.declared.edge.Edge.{Edge}
use Rattle.go_core.specs.Frame.{Frame}
use Rattle.go_core.specs.Parts.{Mark, IsFilePlace}
use Rattle.go_disk.specs.Device.{Device, IsDevice}
use Rattle.go_durable.specs.declared.journal.Journal.{Journal}
use Rattle.go_durable.specs.declared.journal.Journal.TheVariants as journals
use Rattle.go_durable.specs.Journal.{journal_disk, journal_front, is_spent, Keeps, KeepsOn}
use Rattle.go_durable.specs.LogState.{LogState}
use Rattle.go_durable.specs.Recovery.{RecoversPart, AreNext}
use Rattle.go_durable.specs.Standing.{IsLog}
use Rattle.go_durable.proofs.Journals.{next_within}
use Rattle.go_durable.proofs.Moments.{no_call}
use Rattle.go_durable.proofs.Standing.{log_image}
use Rattle.go_rule.specs.declared.view.SeatView.{SeatView}
use Rattle.go_rule.specs.Rule.{Begins}
use Rattle.go_rule.specs.Turns.{IsTaken, CanGive}
use Rattle.go_rule.proofs.Beginnings.{begins_take}
use Rattle.go_piece.specs.declared.piece.Piece.{Piece}
use Rattle.go_piece.specs.declared.piece.Piece.TheVariants.{Log}
use Rattle.go_piece.specs.Pieces.{file_of, HasKeptSince}
use Rattle.go_piece.specs.Meanings.{meaning_of, IsLogInHand}
use Rattle.go_piece.proofs.Stretches.{seen_begins, seen_next}

-- a disk that tells tells
told_itself : (contents : Option (List ℕ)) → IfSome contents (λ bytes. IsSome contents)
told_itself None = tt
told_itself (Some bytes) = refl

-- of a part there is no more than of the whole
part_within : (n : ℕ) (log : List Edge) → n ≡ length (take n log) → n ≤ length log
part_within n log whole = let long : n ≡ min n (length log) = whole ∙ length-take n log in omega arith

-- entries that a seat has seen next are those that each log has next which begins with what the seat has seen
pub next_of_seen : (edges : List Edge) (front : ℕ) (seen : List Edge) → AreNext edges front seen → (log : List Edge) → Begins log seen
    → AreNext edges front log
next_of_seen [] front seen next log begins = refl
next_of_seen (e ∷ es) front seen next log begins =
    let n = length (e ∷ es) in
    let long : n ≡ min n (length (drop front seen)) = ap length next ∙ length-take n (drop front seen) in
    let rest : length (drop front seen) ≡ length seen - front = length-drop front seen in
    next ∙ seen_next front n log seen begins (omega arith)

module _ {D : Type 0} (device : Device D) where
  -- a log that stands for the first entries of another keeps that from now on
  pub keeps_now : IsDevice device → (first : ℕ) (log : List Edge) (kept : LogState D) → IsLog device kept (take kept.front log) → first ≤ kept.front
      → Keeps device kept.vertices first log kept.disk (journals.Sound kept)
  keeps_now rules first log kept stands least =
      let most = part_within kept.front log stands.so_many in
      record {
        has = record { stands = stands; vertices_are = refl; told = told_itself (device.contents kept.disk) };
        least = least;
        most = most;
        moments = no_call device rules kept.disk (RecoversPart kept.vertices first log)
            (λ image here. record {
              count = kept.front;
              at_least = least;
              at_most = most;
              recovers = inr (log_image device kept (take kept.front log) image stands here);
            });
        count = omega arith;
      }

  -- each image that a crash left since a mark recovers to a part of the log that was kept since
  pub left_each : (log : List Edge) (vertices first : ℕ) (mark : Mark) (journal : Journal D) → HasKeptSince device log vertices first mark journal
      → (image : List ℕ) → device.since (journal_disk journal) mark.clock image → RecoversPart vertices first log image
  left_each log vertices first mark journal left image since =
      left.keeps.moments.each image (subst (λ (m : Mark). device.since (journal_disk journal) m.clock image) (sym left.at) since)

module _ {D : Type 0} (device : Device D) (f : Frame) (d : SeatView (Piece D)) (place : ℕ) where
  -- what a seat may tell of the log's file that it took
  pub log_in_hand : (kept : LogState D) → IsFilePlace f place → IsTaken (meaning_of device) f d place (Log kept)
      → IsLogInHand device d.about d.told.seen place kept
  log_in_hand kept here taken = record {
    fits = taken.fits;
    log = taken.log;
    begins = taken.over.seen;
    left = (taken.file here).recovers;
  }

  module _ (rules : IsDevice device) (kept : LogState D) (edges : List Edge) (held : IsLogInHand device d.about d.told.seen place kept) where
    -- over any log that the file has kept, a journal that went on with it has kept that since it was taken
    keeps_taken : (journal : Journal D) → KeepsOn device edges (journals.Sound kept) journal → (log : List Edge)
        → IsLog device kept (take kept.front log) → AreNext edges kept.front log → Keeps device kept.vertices d.about.first log kept.disk journal
    keeps_taken journal on log stands next =
        on.keeps kept.vertices d.about.first log kept.disk (keeps_now device rules d.about.first log kept stands held.left.keeps.least) next

    -- it is no further than the entries that were to be appended
    pub flushed_to : (journal : Journal D) → KeepsOn device edges (journals.Sound kept) journal → AreNext edges kept.front held.log
        → journal_front journal ≤ kept.front + length edges
    flushed_to journal on next =
        let upto = kept.front + length edges in
        let within : upto ≤ length held.log = next_within edges kept.front held.log next held.left.keeps.most in
        let some = take upto held.log in
        let long : length some ≡ upto = length-take-le upto held.log within in
        let begins : Begins held.log some = begins_take upto held.log within in
        let stands = subst (IsLog device kept) (sym (seen_begins kept.front held.log some begins (omega arith))) held.left.keeps.has.stands in
        let next' : AreNext edges kept.front some = next ∙ sym (seen_next kept.front (length edges) held.log some begins (omega arith)) in
        let most = (keeps_taken journal on some stands next').most in
        omega arith

    -- the file, after entries were to be appended that each log has next which begins with what the seat has seen, no further than the seat took.
    -- Where its disk failed, the flag is known to be raised.
    pub file_given : (journal : Journal D) → IsFilePlace f place → KeepsOn device edges (journals.Sound kept) journal
        → ((log : List Edge) → Begins log d.told.seen → AreNext edges kept.front log) → journal_front journal ≤ max kept.front d.core.taken
        → (is_spent journal ≡ true → d.told.flagged ≡ true)
        → CanGive (meaning_of device) f d place (Log kept) (file_of journal)
    file_given (journals.Sound new) here on next to raised =
        let left = held.left in
        let after = on.keeps d.about.vertices d.about.first held.log left.opened left.keeps (next held.log held.begins) in
        let taken = keeps_taken (journals.Sound new) on held.log left.keeps.has.stands (next held.log held.begins) in
        record {
          fits = (held.fits.0, after.has.vertices_are);
          stands = λ log begins was. record {
            vertices = was.vertices;
            opened = was.opened;
            keeps = on.keeps was.vertices d.about.first log was.opened was.keeps (next log begins);
          };
          shard = λ is. absurd (omega arith);
          file = λ is. record {
            successor = record { front_from = on.no_less; front_to = to; cut = refl; pins = refl };
            clock = taken.moments.passes.later;
            faults = taken.count;
            spent = λ failed. absurd failed;
            recovers = λ log begins was. record {
              opened = was.opened;
              at = was.at;
              keeps = on.keeps d.about.vertices d.about.first log was.opened was.keeps (next log begins);
            };
          };
        }
    file_given (journals.Spent disk front) here on next to raised =
        let left = held.left in
        let after = on.keeps d.about.vertices d.about.first held.log left.opened left.keeps (next held.log held.begins) in
        let taken = keeps_taken (journals.Spent disk front) on held.log left.keeps.has.stands (next held.log held.begins) in
        let rose = subst (λ (m : Mark). Rose m.faults (device.faults disk)) left.at after.has.rose in
        record {
          fits = (held.fits.0, λ image is. let part = after.has.each image is in (take part.count held.log, part.recovers));
          stands = λ log begins was. record {
            vertices = was.vertices;
            opened = was.opened;
            keeps = on.keeps was.vertices d.about.first log was.opened was.keeps (next log begins);
          };
          shard = λ is. absurd (omega arith);
          file = λ is. record {
            successor = record { front_from = on.no_less; front_to = to; cut = refl; pins = refl };
            clock = taken.moments.passes.later;
            faults = taken.count;
            spent = λ failed. (rose, raised refl);
            recovers = λ log begins was. record {
              opened = was.opened;
              at = was.at;
              keeps = on.keeps d.about.vertices d.about.first log was.opened was.keeps (next log begins);
            };
          };
        }

    -- after entries that the seat has seen next were to be appended
    pub file_flushed : (journal : Journal D) → IsFilePlace f place → KeepsOn device edges (journals.Sound kept) journal
        → AreNext edges kept.front d.told.seen → kept.front + length edges ≤ max kept.front d.core.taken
        → (is_spent journal ≡ true → d.told.flagged ≡ true)
        → CanGive (meaning_of device) f d place (Log kept) (file_of journal)
    file_flushed journal here on next to raised =
        let next_in = next_of_seen edges kept.front d.told.seen next in
        let end = flushed_to journal on (next_in held.log held.begins) in
        file_given journal here on next_in (omega arith) raised

  -- after it was read
  pub file_read : (rules : IsDevice device) (kept : LogState D) → IsLogInHand device d.about d.told.seen place kept → (journal : Journal D)
      → IsFilePlace f place
      → KeepsOn device [] (journals.Sound kept) journal → journal_front journal ≡ kept.front
      → (is_spent journal ≡ true → d.told.flagged ≡ true)
      → CanGive (meaning_of device) f d place (Log kept) (file_of journal)
  file_read rules kept held journal here on same raised =
      file_given rules kept [] held journal here on (λ log begins. refl) (omega arith) raised
