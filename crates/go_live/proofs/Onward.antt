-- What calls leave of a session's standing, where its seat knows no less.
use Rattle.std.proofs.Common.{◌≡◌, ℕ, ◌≤◌, true, List, length, take, map, sym, refl, ap, ◌∙◌, arith}
use Rattle.std.proofs.lemmas.List.{length-take-le, take-take}
use Rattle.go_word.specs.declared.edge.Edge.{Edge}
use Rattle.go_api.specs.Calls.{IsRead, OnlySees}
use Rattle.go_api.specs.Standing.{Kept as KeptStanding, Onward, Standing, Terms}
use Rattle.go_core.specs.declared.view.View.{View}
use Rattle.go_core.specs.Frame.{Frame}
use Rattle.go_rule.specs.declared.view.About.{About}
use Rattle.go_rule.specs.declared.view.SeatView.{SeatView}
use Rattle.go_rule.specs.Rule.{Begins}
use Rattle.go_turns.specs.Going.{HasGoneOn, KnowsMore}
use Rattle.go_live.specs.Going.{Serves}
use Rattle.go_live.specs.Standings.{Kept, place_of, standing_of}

-- what is shown of a log later begins with what was shown before
pub shown_later : (told more : List Edge) (seen later : ℕ) → Begins more told → seen ≤ later → seen ≤ length told → later ≤ length more
    → take (length (take seen told)) (take later more) ≡ take seen told
shown_later told more seen later begins le within room =
    ap (λ n. take n (take later more)) (length-take-le seen told within) ∙ take-take seen later more le
    ∙ sym (ap (take seen) begins ∙ take-take seen (length told) more within)

module _ {P : Type 0} (slots : ℕ) (before after : Kept) (d e : SeatView P) where
  -- the standing goes on, where the seat knows no less and the session was shown no less
  pub goes_onward : e.about ≡ d.about → KnowsMore d e → before.seen ≤ after.seen → before.seen ≤ length d.told.seen → after.seen ≤ length e.told.seen
      → (before.met ≡ true → after.met ≡ true) → Onward (standing_of slots before d) (standing_of slots after e)
  goes_onward about knows more within room met =
      let long1 = length-take-le before.seen d.told.seen within in
      let long2 = length-take-le after.seen e.told.seen room in
      record {
        same_terms = ap (λ (a : About). record { first = a.first; vertices = a.vertices; ring = slots; told = a.tells }) about;
        seen_more = shown_later d.told.seen e.told.seen before.seen after.seen knows.begins more within room;
        seen_longer = omega arith;
        floor_later = more;
        known_later = knows.head;
        durable_later = knows.durable;
        met_stays = met;
      }

  -- and nothing was put, where the seat has gone on and the places show what they did
  pub sees_more : (f : Frame) → HasGoneOn f d e → before.seen ≤ after.seen → before.seen ≤ length d.told.seen → after.seen ≤ length e.told.seen
      → (before.met ≡ true → after.met ≡ true) → map place_of after.held ≡ map place_of before.held
      → OnlySees (standing_of slots before d) (standing_of slots after e)
  sees_more f on more within room met places =
      record {
        kept = record {
          onward = goes_onward (ap (λ z. z.about) on.rest) on.knows more within room met;
          same_own = ap (λ z. map (λ x. x.at) z.core.own) on.rest;
          same_edges = ap (λ z. map (λ x. x.edge) z.core.own) on.rest;
          same_places = places;
        };
        quota = ap (λ z. z.share.quota) on.rest;
      }

-- a seat that has gone on serves
pub serves_going : {P : Type 0} (f : Frame) (d e : SeatView P) → HasGoneOn f d e → Serves d e
serves_going f d e on =
    record {
      about = ap (λ z. z.about) on.rest;
      lot = ap (λ z. z.share.lot) on.rest;
      joined = ap (λ z. z.core.joined) on.rest;
      heard = ap (λ z. z.told.heard) on.rest;
      flagged = on.knows.flagged;
      memory = ap (λ z. z.core.memory_raised) on.rest;
    }

-- a reading changes nothing that was put, kept or shown, where the seat has gone on and knows of the log what it knew
pub read_more : {P : Type 0} (slots : ℕ) (kept : Kept) (d e : SeatView P) (f : Frame) → HasGoneOn f d e → e.told ≡ d.told → kept.seen ≤ length d.told.seen
    → IsRead (standing_of slots kept d) (standing_of slots kept e)
read_more slots kept d e f on told within =
    let same = ap (λ t. t.seen) told in
    let there = ap length same in
    record {
      sees = sees_more slots kept kept d e f on (omega arith) within (omega arith) (λ met. met) refl;
      same_seen = ap (take kept.seen) same;
    }
