-- What a seat has after turns of parts, and after a front was moved.
use Rattle.std.proofs.Common.{◌≡◌, ℕ, suc, ◌+◌, ◌≤◌, List, ◌∷◌, length, sym, refl, ap, ◌∙◌, arith, subst}
use Rattle.std.specs.Prelude.{Contains, Option as Maybe}
use Rattle.atomic_table.specs.Table.{Me}
use Rattle.go_word.specs.declared.edge.Edge.{Edge}
use Rattle.go_core.specs.declared.view.View.{View}
use Rattle.go_core.specs.Frame.{Frame}
use Rattle.go_core.specs.Parts.{IsShardPlace}
use Rattle.go_core.specs.View.{unmoved}
use Rattle.go_disk.specs.Device.{Device}
use Rattle.go_rule.specs.declared.view.Stand.{Stand}
use Rattle.go_rule.specs.declared.view.Told.{Told}
use Rattle.go_rule.specs.declared.view.SeatView.{SeatView}
use Rattle.go_rule.specs.Meaning.{Meaning}
use Rattle.go_rule.specs.Turns.{taking, IsTaken}
use Rattle.go_rule.specs.Views.{with_raised}
use Rattle.go_piece.specs.declared.piece.Piece.{Piece}
use Rattle.go_piece.specs.Meanings.{stretch}
use Rattle.go_turns.specs.Going.{HasGoneOn}
use Rattle.go_turns.specs.Holding.{Takes, Gives}
use Rattle.go_turns.proofs.Going.{gone_nowhere, gone_further, gave_back}
use Rattle.go_turns.proofs.Handing.{holds_on, view_is}
use Rattle.go_workers.specs.Turns.{HasRead, MayBringOn, HasTurned, HasServed, CompactsAt, HasCompactedAt}

-- what stands in a list stands in a longer one, and so does what is put before it
in_longer : {A : Type 0} (y x : A) (xs : List A) → Contains xs x → Contains (y ∷ xs) x
in_longer y x xs there = let within = there.1 in (suc there.0, omega arith, there.2)

in_front : {A : Type 0} (x : A) (xs : List A) → Contains (x ∷ xs) x
in_front x xs = (0, omega arith, refl)

module _ {P S : Type 0} (f : Frame) where
  -- a seat that did nothing, and one that went on twice
  pub turned_nowhere : (me : Me S (SeatView P)) → HasTurned f me me
  turned_nowhere me = record { gone = gone_nowhere f me.0; hand = refl; stood = λ x there. there }

  pub turned_further : (me one two : Me S (SeatView P)) → HasTurned f me one → HasTurned f one two → HasTurned f me two
  turned_further me one two first second =
      record {
        gone = gone_further f me.0 one.0 two.0 first.gone second.gone;
        hand = second.hand ∙ first.hand;
        stood = λ x there. second.stood x (first.stood x there);
      }

  pub served_nowhere : (me : Me S (SeatView P)) → HasServed f me me
  served_nowhere me = record { turned = turned_nowhere me; core = refl; told = refl }

  pub served_further : (me one two : Me S (SeatView P)) → HasServed f me one → HasServed f one two → HasServed f me two
  served_further me one two first second =
      record { turned = turned_further me one two first.turned second.turned; core = second.core ∙ first.core; told = second.told ∙ first.told }

module _ {P S : Type 0} (f : Frame) (from : ℕ) (run : List Edge) (me now : Me S (SeatView P)) where
  -- what a seat may do with a run that it has read, it still may after turns alone
  pub read_served : HasServed f me now → HasRead from run me.0 → HasRead from run now.0
  read_served served read =
      record {
        taken = subst (λ (v : View). from + length run ≤ v.taken) (sym served.core) read.taken;
        seen = subst (λ (t : Told). from + length run ≤ length t.seen) (sym served.told) read.seen;
        run_is = subst (λ (t : Told). run ≡ stretch from (from + length run) t.seen) (sym served.told) read.run_is;
        small = read.small;
      }

  pub may_served : HasServed f me now → MayBringOn from run me.0 → MayBringOn from run now.0
  may_served served may =
      record {
        read = read_served served may.read;
        archives = ap (λ (v : View). v.archives) served.core ∙ may.archives;
        archived = subst (λ (v : View). from ≤ v.archived) (sym served.core) may.archived;
        no_more = subst (λ (v : View). v.taken ≤ from + length run) (sym served.core) may.no_more;
      }

-- and still with a part in its hand
pub read_taking : {P : Type 0} (place from : ℕ) (run : List Edge) (part : P) (d : SeatView P) → HasRead from run d → HasRead from run (taking place part d)
read_taking place from run part d read = record { taken = read.taken; seen = read.seen; run_is = read.run_is; small = read.small }

pub may_taking : {P : Type 0} (place from : ℕ) (run : List Edge) (part : P) (d : SeatView P) → MayBringOn from run d
    → MayBringOn from run (taking place part d)
may_taking place from run part d may =
    record { read = read_taking place from run part d may.read; archives = may.archives; archived = may.archived; no_more = may.no_more }

module _ {P : Type 0} (m : Meaning P) (f : Frame) (place : ℕ) (old new : P) (me now then after : Me (Maybe P) (SeatView P)) where
  -- a part was taken, and given back after steps that left what the seat knows of parts
  pub turned_with : Takes m f place old me now → HasGoneOn f now.0 then.0 → then.1 ≡ now.1 → then.0.stake.stood ≡ now.0.stake.stood
      → Gives m place new then after → (IsShardPlace f place → (m.state_of new).pins ≡ (m.state_of old).pins)
      → HasTurned f me after × Contains after.0.stake.stood (record { place = place; front = (m.state_of new).front })
  turned_with takes on hand knows gives same =
      let gone = gave_back m f place old new me now then after takes on hand gives same in
      let notes : then.0.stake.notes ≡ now.0.stake.notes = ap (λ d. d.stake.notes) on.rest in
      let gave = gives old me.0.stake.notes me.1 (holds_on place old me.0.stake.notes me.1 now then notes hand takes.holds) in
      let front : Stand = record { place = place; front = (m.state_of new).front } in
      let stands : after.0.stake.stood ≡ front ∷ me.0.stake.stood =
      ap (λ z. z.0.stake.stood) gave ∙ ap (λ xs. front ∷ xs) (knows ∙ ap (λ d. d.stake.stood) (view_is m f place old me now takes)) in (
        record {
          gone = gone.0;
          hand = gone.1;
          stood = λ x there. subst (λ xs. Contains xs x) (sym stands) (in_longer front x me.0.stake.stood there);
        },
        subst (λ xs. Contains xs front) (sym stands) (in_front front me.0.stake.stood),
      )

module _ {P : Type 0} (m : Meaning P) (f : Frame) (place : ℕ) (old new : P) (me now after : Me (Maybe P) (SeatView P)) where
  -- a part was taken and given back at once
  pub served_with : Takes m f place old me now → Gives m place new now after → (IsShardPlace f place → (m.state_of new).pins ≡ (m.state_of old).pins)
      → HasServed f me after × Contains after.0.stake.stood (record { place = place; front = (m.state_of new).front })
  served_with takes gives same =
      let turned = turned_with m f place old new me now now after takes (gone_nowhere f now.0) refl refl gives same in
      let gave = gives old me.0.stake.notes me.1 takes.holds in
      let view = view_is m f place old me now takes in (
        record {
          turned = turned.0;
          core = ap (λ z. unmoved z.0.core) gave ∙ ap (λ d. unmoved d.core) view;
          told = ap (λ z. z.0.told) gave ∙ ap (λ d. d.told) view;
        },
        turned.1,
      )

module _ {P : Type 0} (m : Meaning P) (f : Frame) (place : ℕ) where
  -- a raised flag changes nothing that is told of a part
  raised_taken : (d : SeatView P) (why : ℕ) (part : P) → IsTaken m f d place part → IsTaken m f (with_raised why d) place part
  raised_taken d why part t =
      record {
        log = t.log;
        over = record { seen = t.over.seen; below = t.over.below; within = t.over.within; stands = t.over.stands };
        fits = t.fits;
        stood = t.stood;
        shard =
            λ shard.
            let s = t.shard shard in
            record { in_hand = s.in_hand; own = s.own; kept = s.kept; reached = s.reached; pins = s.pins };
        file =
            λ file.
            let s = t.file file in
            record { front_from = s.front_from; clock = s.clock; faults = s.faults; spent = s.spent; recovers = s.recovers };
      }

  -- so a part that was taken before the flag was raised may be taken to have been taken after it
  pub takes_raised : (why : ℕ) (part : P) (me now then : Me (Maybe P) (SeatView P)) → Takes m f place part me now → then ≡ (with_raised why now.0, now.1)
      → Takes m f place part (with_raised why me.0, me.1) then
  takes_raised why part me now then takes raised =
      subst (Takes m f place part (with_raised why me.0, me.1)) (sym raised)
      (record {
        turn = record {
          part = takes.turn.part;
          becomes = ap (λ z. (with_raised why z.0, z.1)) takes.turn.becomes;
          free = takes.turn.free;
          about = takes.turn.about;
          taken = raised_taken me.0 why takes.turn.part takes.turn.taken;
        };
        holds = record { noted = takes.holds.noted; once = takes.holds.once; slot = takes.holds.slot };
      })

module _ {D : Type 0} (device : Device D) (f : Frame) (slots place : ℕ) (me one two : Me (Maybe (Piece D)) (SeatView (Piece D))) where
  -- a shard that was compacted, was so also after further turns
  pub compacted_later : HasCompactedAt device f slots place me one → HasTurned f one two → HasCompactedAt device f slots place me two
  compacted_later done turned =
      record {
        before = done.before;
        after = done.after;
        begun = done.begun;
        compacts = done.compacts;
        ended = turned_further f done.after one two done.ended turned;
      }

  -- one that is compacted now
  pub compacted_now : HasTurned f me one → CompactsAt device f slots place one two → HasCompactedAt device f slots place me two
  compacted_now turned compacts = record { before = one; after = two; begun = turned; compacts = compacts; ended = turned_nowhere f two }
