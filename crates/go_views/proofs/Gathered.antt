-- What was gathered for a view, and what stopped it.
use Rattle.std.proofs.Common.{◌≡◌, ℕ, ◌-◌, ◌<◌, List, length, map, take, drop, sym, ap, ◌∙◌, arith, subst}
use Rattle.std.specs.Prelude.{All}
use Rattle.atomic_table.specs.Table.{Me}
use Rattle.go_api.specs.declared.stop.Stop.{Stop}
use Rattle.go_api.specs.declared.stop.Stop.TheVariants.{Disk, Memory}
use Rattle.go_word.specs.declared.edge.Edge.{Edge}
use Rattle.go_word.specs.Log.{entries_from}
use Rattle.go_word.specs.Word.{plain_word}
use Rattle.go_core.specs.declared.view.View.{View as CoreView}
use Rattle.go_core.specs.Frame.{Frame}
use Rattle.go_shard.specs.ByVertex.{WordsByVertex, words_of}
use Rattle.go_rule.specs.declared.view.SeatView.{SeatView}
use Rattle.go_rule.specs.declared.view.Told.{Told}
use Rattle.go_ring.specs.declared.copied.Copied.{Copied}
use Rattle.go_ring.specs.Calls.{cause_of}
use Rattle.go_turns.specs.Going.{IsFlagged}
use Rattle.go_views.specs.Copying.{entries_at, HasComeTo}
use Rattle.go_views.specs.Counts.{Striped}
use Rattle.go_views.specs.Gathering.{HasGathered, Stops, IsStopped}
use Rattle.go_views.specs.Pins.{HasShifted, HasSettledEach, pin_of}
use Rattle.go_views.specs.PlaceTurns.{HasNames}
use Rattle.go_views.specs.Settling.{CanSettle, AreCounted}
use Rattle.go_views.specs.Views.{View, Shows}
use Rattle.go_views.proofs.EachTurn.{served_first}
use Rattle.go_views.proofs.Entries.{entries_are, entries_inside}
use Rattle.go_views.proofs.Few.{degrees_few}

module _ {P : Type 0} (f : Frame) (floor : ℕ) (d then : SeatView P) (copied : Copied) (buf : List ℕ) (come : HasComeTo f floor d then copied buf)
    (names : List ℕ) where
  -- after the copy the pins may be settled
  pub can_settle : HasNames names then → CanSettle f names copied.archived then
  can_settle named =
      let within = come.archived.within in
      let sees = come.sees in
      record { archived_is = come.archived.known; seen = omega arith; named = named; at_most = come.archived.pins }

  module _ (now : SeatView P) (counts : Striped) (later : WordsByVertex) (counted : AreCounted (length names) copied.archived counts then)
      (settled : HasSettledEach f (length names) names copied.archived then now) (ends : length later.ends ≡ length counts.list)
      (words : (v : ℕ) → v < length counts.list
      → words_of later v ≡ map plain_word (entries_from v (entries_at f.slots buf copied.archived (copied.end - copied.archived)))) where
    abbrev view : View
    view = record { front = copied.end; archived = copied.archived; counts = counts; later = later; names = names }

    -- with the counts and the later words the view is whole, and tells of what was seen
    words_seen : (v : ℕ) → v < length counts.list → words_of later v ≡ map plain_word (entries_from v (drop copied.archived (take copied.end then.told.seen)))
    words_seen v less = words v less ∙ ap (λ es. map plain_word (entries_from v es)) (entries_are f floor d then copied buf come)

    shows_then : Shows then.about.vertices then.told.seen view
    shows_then =
        let vertices = counted.vertices in
        record {
          within = come.sees;
          archived = come.archived.within;
          vertices_are = omega arith;
          counts = counted.raw_are;
          later = λ v less. words_seen v (omega arith);
        }

    pub gathered : HasGathered f floor view d now
    gathered =
        let about : now.about.vertices ≡ then.about.vertices = ap (λ z. z.about.vertices) settled.turned.moved.rest in
        let inside = subst (All (λ (e : Edge). e.src < then.about.vertices)) (entries_are f floor d then copied buf come)
        (entries_inside f floor d then copied buf come then.about.vertices (omega arith)) in
        record {
          then = then;
          on = come.on;
          settled = settled;
          shows = subst (λ n. Shows n now.told.seen view) (sym about)
              (subst (λ (t : Told). Shows then.about.vertices t.seen view) (sym settled.told) shows_then);
          whole = record {
            vertices = ends;
            shards = sym counted.shards_are;
            few = λ v less.
                degrees_few view then.about.vertices then.told.seen counted.striped counted.few counted.raw_are words_seen inside come.archived.within come.small
                v (omega arith);
          };
          floor_to = come.floor_to;
          seen_before = come.seen_before;
          long = ap (λ (t : Told). length t.seen) settled.told ∙ come.long ∙ sym (ap (λ (v : CoreView). v.seen) settled.core);
        }

module _ {P S : Type 0} (f : Frame) (slots : ℕ) (me now : Me S (SeatView P)) where
  -- a flag that was found up stops it
  stops_flagged : (why : Stop) → IsFlagged f slots (cause_of why) me now → Stops f slots me why now
  stops_flagged Disk flagged = flagged
  stops_flagged Memory flagged = flagged.on

  -- before any pin was settled
  pub stopped_first : (names : List ℕ) (why : Stop) → IsFlagged f slots (cause_of why) me now → IsStopped f slots names why me now
  stopped_first names why flagged =
      record {
        then = now;
        stops = stops_flagged why flagged;
        upto = 0;
        front = 0;
        within = omega arith;
        settled = served_first f 0 (λ place. HasShifted (pin_of names 0 place)) now.0;
      }
