-- What the rule says of one view lasts while the log grows, no front falls and what is written stays written.
use Rattle.std.proofs.Common.{◌≡◌, ℕ, ◌<◌, ◌≤◌, ◌≢◌, Bool, true, List, length, set, sym, ◌∙◌, inl, inr, ⊎_elim, arith, subst}
use Rattle.std.specs.Prelude.{All}
use Rattle.std.proofs.lemmas.List.Elements.{All-weaker}
use mathlib.Core.Option.{some}
use lib.ListN.{get_elem?}
use Rattle.go_word.specs.declared.edge.Edge.{Edge}
use Rattle.go_core.specs.declared.entry.Entry.{Entry}
use Rattle.go_core.specs.declared.entry.Load.{Load}
use Rattle.go_core.specs.declared.view.View.{View}
use Rattle.go_core.specs.Frame.{Frame, archived_in, durable_in, flag_in, released}
use Rattle.go_core.specs.Rule.{IsOf, owed, IsWritten, AreOwn, Tells, IsSound, Sees, Knows, Moves, Works, Owes, Owns, Reads, Seated}
use Rattle.go_core.proofs.Lookups.{lookup-set}

-- the log grew, no front fell, what was written stays written, and a raised flag stays raised
pub record Onward (log : List Edge) (words : List ℕ) (views : List View) (log' : List Edge) (words' : List ℕ) (views' : List View) : Type 0 where
  pub longer : length log ≤ length log'
  pub of_log : (p : ℕ) (e : Edge) → get_elem? log p ≡ some e → get_elem? log' p ≡ some e
  pub written : (p : ℕ) → IsWritten log views p → IsWritten log' views' p
  pub archived : archived_in words ≤ archived_in words'
  pub durable : durable_in words ≤ durable_in words'
  pub flag : 0 < flag_in words → 0 < flag_in words'

-- a position is written or not by what is owed there
pub written_same : (log : List Edge) (views views' : List View) (p : ℕ) → owed views' p ≡ owed views p → IsWritten log views p → IsWritten log views' p
written_same log views views' p same written = record { within = written.within; filled = same ∙ written.filled }

-- the log and the words are as they were, and what is owed is too
pub onward_same : (log : List Edge) (words : List ℕ) (views views' : List View) → ((p : ℕ) → owed views' p ≡ owed views p)
    → Onward log words views log words views'
onward_same log words views views' owe =
    record {
      longer = omega arith;
      of_log = λ p e is. is;
      written = λ p written. written_same log views views' p (owe p) written;
      archived = omega arith;
      durable = omega arith;
      flag = λ raised. raised;
    }

module _ (f : Frame) {log : List Edge} {words : List ℕ} {views : List View} {log' : List Edge} {words' : List ℕ} {views' : List View}
    (on : Onward log words views log' words' views') where
  -- entries of the log stay so
  pub of_log_onward : (xs : List Entry) → All (IsOf log) xs → All (IsOf log') xs
  of_log_onward xs all = All-weaker (IsOf log) (IsOf log') (λ x there. on.of_log x.at x.edge there) xs all

  -- own entries stay own entries
  pub own_onward : (xs : List Entry) → AreOwn log views xs → AreOwn log' views' xs
  own_onward xs own =
      record {
        rising = own.rising;
        of_log = of_log_onward xs own.of_log;
        written = All-weaker (λ x. IsWritten log views x.at) (λ x. IsWritten log' views' x.at) (λ x there. on.written x.at there) xs own.written;
      }

  -- what was read ahead tells what it told
  pub tells_onward : (marked : ℕ) (l : Load) → Tells f log views marked l → Tells f log' views' marked l
  tells_onward marked l tells =
      ⊎_elim (λ there. inl (there.0, on.of_log l.at there.0 there.1, there.2, on.written l.at there.3)) (λ ahead. inr ahead) tells

  pub sound_onward : (marked : ℕ) (l : Load) → IsSound f log words views marked l → IsSound f log' words' views' marked l
  sound_onward marked l sound =
      ⊎_elim
      (λ late.
      let archived = on.archived in
      let durable = on.durable in
      let before : l.at < released words = late.1 in
      let still : l.at < released words' = omega arith in
      inl (late.0, still))
      (λ tells. inr (tells_onward marked l tells)) sound

  -- each group lasts
  pub sees_onward : (seen marked : ℕ) → Sees log views seen marked → Sees log' views' seen marked
  sees_onward seen marked s = record { marked_to = s.marked_to; written = λ p less. on.written p (s.written p less) }

  pub knows_onward : (head archived durable : ℕ) → Knows log words head archived durable → Knows log' words' head archived durable
  knows_onward head archived durable s =
      record {
        head_to = let longer = on.longer in let old = s.head_to in omega arith;
        archived_to = let up = on.archived in let old = s.archived_to in omega arith;
        durable_to = let up = on.durable in let old = s.durable_to in omega arith;
      }

  pub owes_onward : (pending abandoned : List Entry) → Owes log (flag_in words) pending abandoned → Owes log' (flag_in words') pending abandoned
  owes_onward pending abandoned s =
      record {
        pending_of = of_log_onward pending s.pending_of;
        abandoned_of = of_log_onward abandoned s.abandoned_of;
        flagged = λ some'. on.flag
            (s.flagged some');
      }

  pub owns_onward : (own : List Entry) (joined : List (List Entry)) → Owns log views own joined → Owns log' views' own joined
  owns_onward own joined s =
      record { own = own_onward own s.own; joined = All-weaker (AreOwn log views) (AreOwn log' views') (λ xs old. own_onward xs old) joined s.joined }

  pub reads_onward : (marked : ℕ) (loads : List Load) → Reads f log words views marked loads → Reads f log' words' views' marked loads
  reads_onward marked loads s =
      All-weaker (IsSound f log words views marked) (IsSound f log' words' views' marked) (λ l sound. sound_onward marked l sound) loads s

  -- what the rule says of a view lasts, where it does of the fronts that the view moves
  pub seated_onward : (v : View) → Works words' v.archives v.flushes v.archived v.durable v.taken → Seated f log words views v → Seated f log' words' views' v
  seated_onward v works s =
      record {
        ended = s.ended;
        takes = s.takes;
        sees = sees_onward v.seen v.marked s.sees;
        knows = knows_onward v.head v.archived v.durable s.knows;
        works = works;
        owes = owes_onward v.pending v.abandoned s.owes;
        owns = owns_onward v.own v.joined s.owns;
        reads = reads_onward v.marked v.loads s.reads;
      }

-- who moves a front that stands still knows it
pub moves_still : (front front' : ℕ) (role : Bool) (known taken : ℕ) → (role ≡ true → front' ≡ front) → Moves front role known taken
    → Moves front' role known taken
moves_still front front' role known taken still m =
    record { knows = λ is. m.knows is ∙ sym (still is); took = λ is. let same = still is in let old = m.took is in omega arith }

-- a view works as it did where each front that it moves stands still
pub works_still : {words : List ℕ} (words' : List ℕ) (v : View) → (v.archives ≡ true → archived_in words' ≡ archived_in words)
    → (v.flushes ≡ true → durable_in words' ≡ durable_in words) → Works words v.archives v.flushes v.archived v.durable v.taken
    → Works words' v.archives v.flushes v.archived v.durable v.taken
works_still {words} words' v archives flushes w =
    record {
      archiver = moves_still (archived_in words) (archived_in words') v.archives v.archived v.taken archives w.archiver;
      flusher = moves_still (durable_in words) (durable_in words') v.flushes v.durable v.taken flushes w.flusher;
    }

-- what holds of the new view and of each other one holds of all
pub each_set : (Q : View → Type 0) (views : List View) (i : ℕ) (w : View) → Q w → ((j : ℕ) (u : View) → j ≢ i → get_elem? views j ≡ some u → Q u)
    → (j : ℕ) (u : View) → get_elem? (set views i w) j ≡ some u → Q u
each_set Q views i w mine rest j u at_j = ⊎_elim (λ here. subst Q here.1 mine) (λ other. rest j u other.0 other.1) (lookup-set views i j w u at_j)
