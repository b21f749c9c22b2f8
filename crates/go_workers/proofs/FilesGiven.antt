-- The log's file that is given back, after it was to take what it lacks of a run that the flusher has read.
use Rattle.std.proofs.Common.{◌≡◌, ℕ, ◌+◌, ◌-◌, ◌<◌, ◌≤◌, true, List, length, take, drop, refl, sym, ap, ◌∙◌, ⊎_elim, arith, subst}
use Rattle.std.specs.Prelude.{All, Option as Maybe, None, Some}
use Rattle.std.proofs.lemmas.Bool.{cases_lt, false≢true}
use Rattle.std.proofs.lemmas.List.{length-drop, nil_from_length}
use Rattle.std.proofs.lemmas.List.Elements.{All-weaker, All-take, All-drop}
use Rattle.go_api.specs.declared.stop.Stop.{Stop}
use Rattle.go_api.specs.declared.stop.Stop.TheVariants as stops
use Rattle.go_word.specs.declared.edge.Edge.{Edge}
use Rattle.go_word.specs.Log.{IsWithin}
use Rattle.go_core.specs.Frame.{Frame}
use Rattle.go_core.specs.Parts.{IsFilePlace}
use Rattle.go_disk.specs.Device.{Device, IsDevice}
use Rattle.go_durable.specs.declared.journal.Journal.{Journal}
use Rattle.go_durable.specs.declared.journal.Journal.TheVariants.{Sound, Spent as SpentJournal}
use Rattle.go_durable.specs.Journal.{is_spent, KeepsOn}
use Rattle.go_durable.specs.LogState.{LogState}
use Rattle.go_durable.specs.Recovery.{AreNext}
use Rattle.go_rule.specs.declared.view.SeatView.{SeatView}
use Rattle.go_rule.specs.Rule.{IsBelow}
use Rattle.go_rule.specs.Turns.{IsTaken, CanGive}
use Rattle.go_piece.specs.declared.piece.Piece.{Piece}
use Rattle.go_piece.specs.declared.piece.Piece.TheVariants.{Shard, Log, Spent}
use Rattle.go_piece.specs.Pieces.{file_of}
use Rattle.go_piece.specs.Meanings.{meaning_of, stretch, IsLogInHand}
use Rattle.go_piece.proofs.FileCalls.{log_in_hand, file_flushed}
use Rattle.go_piece.proofs.ShardCalls.{seen_below}
use Rattle.go_piece.proofs.Unchanged.{file_unchanged}
use Rattle.go_workers.specs.Bringing.{lacking, is_disk, CanAppendTo, HasAppendedTo, OnFile, IsFileInHand}
use Rattle.go_workers.specs.Turns.{HasRead}
use Rattle.go_workers.proofs.ShardsGiven.{stretch_rest}

module _ {D : Type 0} where
  -- what holds of a journal holds of it as a piece
  pub on_file : (P : Journal D → Type 0) (journal : Journal D) → P journal → OnFile P (file_of journal)
  on_file P (Sound log) holds = holds
  on_file P (SpentJournal disk front) holds = holds

  -- and the other way round
  pub of_file : (P : Journal D → Type 0) (journal : Journal D) → OnFile P (file_of journal) → P journal
  of_file P (Sound log) holds = holds
  of_file P (SpentJournal disk front) holds = holds

module _ {D : Type 0} (device : Device D) (f : Frame) (d : SeatView (Piece D)) (place from : ℕ) (run : List Edge) where
  -- a run that was read lies between vertices of the graph
  run_within : (piece : Piece D) → IsTaken (meaning_of device) f d place piece → HasRead from run d → All (IsWithin d.about.vertices) run
  run_within piece taken read =
      let upto = from + length run in
      let below = seen_below device f d place piece taken in
      subst (All (IsWithin d.about.vertices)) (sym read.run_is)
      (All-weaker (IsBelow d.about.vertices) (IsWithin d.about.vertices) (λ e is. record { source = is.src; destination = is.dst })
      (stretch from upto d.told.seen)
      (All-take (IsBelow d.about.vertices) (upto - from) (drop from d.told.seen) (All-drop (IsBelow d.about.vertices) from d.told.seen below)))

  -- the file may take what it lacks of it
  pub can_append : (piece : Piece D) → IsFilePlace f place → d.about.shards + 5 ≡ f.base → IsTaken (meaning_of device) f d place piece
      → from ≤ d.core.durable → length run ≤ 65536 → HasRead from run d → OnFile (CanAppendTo from run) piece
  can_append (Shard shard) here base taken low few read = let at = taken.fits.0 in absurd (omega arith)
  can_append (Log kept) here base taken low few read =
      let front_from = (taken.file here).front_from in
      let left : length (drop (kept.front - from) run) ≡ length run - (kept.front - from) = length-drop (kept.front - from) run in
      let small = read.small in
      record {
        reaches = omega arith;
        few = few;
        can = λ less. (
          subst (λ v. All (IsWithin v) (drop (kept.front - from) run)) (sym taken.fits.1)
              (All-drop (IsWithin d.about.vertices) (kept.front - from) run (run_within (Log kept) taken read)),
          omega arith,
        );
      }
  can_append (Spent disk front) here base taken low few read =
      let front_from = (taken.file here).front_from in
      record { reaches = omega arith; few = few; can = λ less. tt }

  -- what a seat may tell of the file that it took
  pub file_in_hand : (piece : Piece D) → IsFilePlace f place → d.about.shards + 5 ≡ f.base → IsTaken (meaning_of device) f d place piece
      → IsFileInHand device d place piece
  file_in_hand (Shard shard) here base taken = let at = taken.fits.0 in absurd (omega arith)
  file_in_hand (Log kept) here base taken = log_in_hand device f d place kept here taken
  file_in_hand (Spent disk front) here base taken = (taken.fits, (taken.file here).spent tt)

  -- what a log lacks of a run that was read is what the seat has seen next
  pub lacked_next : (front : ℕ) → HasRead from run d → from ≤ front → AreNext (drop (front - from) run) front d.told.seen
  lacked_next front read low =
      let upto = from + length run in
      let edges = drop (front - from) run in
      let left : length edges ≡ length run - (front - from) = length-drop (front - from) run in
      ⊎_elim
      (λ (past : upto < front).
      let none : length edges ≡ 0 = omega arith in
      nil_from_length edges none ∙ ap (λ n. take n (drop front d.told.seen)) (sym none))
      (λ (within : front ≤ upto).
      let count : upto - front ≡ length edges = omega arith in
      ap (drop (front - from)) read.run_is ∙ stretch_rest from front upto d.told.seen low within ∙ ap (λ n. take n (drop front d.told.seen)) count)
      (cases_lt upto front)

  log_can : (kept : LogState D) (new : Journal D) → IsDevice device → IsFilePlace f place → IsLogInHand device d.about d.told.seen place kept
      → HasRead from run d → CanAppendTo from run (Sound kept) → KeepsOn device (lacking (Sound kept) from run) (Sound kept) new
      → (is_spent new ≡ true → d.told.flagged ≡ true) → CanGive (meaning_of device) f d place (Log kept) (file_of new)
  log_can kept new rules here held read can on raised =
      let edges = drop (kept.front - from) run in
      let left : length edges ≡ length run - (kept.front - from) = length-drop (kept.front - from) run in
      let taken = read.taken in
      let reaches = can.reaches in
      file_flushed device f d place rules kept edges held new here on (lacked_next kept.front read reaches) (omega arith) raised

  -- so the file may be given back
  pub filed_can : (journal new : Journal D) (stop : Maybe Stop) → IsDevice device → IsFilePlace f place → IsFileInHand device d place (file_of journal)
      → HasRead from run d → CanAppendTo from run journal → KeepsOn device (lacking journal from run) journal new
      → HasAppendedTo device (from + length run) journal new stop → (is_disk stop ≡ true → d.told.flagged ≡ true)
      → CanGive (meaning_of device) f d place (file_of journal) (file_of new)
  filed_can (Sound kept) new None rules here held read can on is raised =
      log_can kept new rules here held read can on (λ spent. absurd (false≢true (sym is.0 ∙ spent)))
  filed_can (Sound kept) new (Some stops.Memory) rules here held read can on is raised =
      log_can kept new rules here held read can on (λ spent. absurd (false≢true (sym (ap is_spent is.1) ∙ spent)))
  filed_can (Sound kept) new (Some stops.Disk) rules here held read can on is raised = log_can kept new rules here held read can on (λ spent. raised refl)
  filed_can (SpentJournal disk front) new None rules here held read can on is raised = absurd (false≢true (sym is.0 ∙ on.met_stays refl))
  filed_can (SpentJournal disk front) new (Some stops.Memory) rules here held read can on is raised = absurd (false≢true (sym is.0))
  filed_can (SpentJournal disk front) new (Some stops.Disk) rules here held read can on is raised =
      ⊎_elim
      (λ same.
      subst (λ j. CanGive (meaning_of device) f d place (Spent disk front) (file_of j)) (sym same.1)
      (file_unchanged device f d place (Spent disk front) here held.0 (λ failed. (held.1, raised refl))))
      (λ other. absurd (false≢true (sym other.0))) is.2
