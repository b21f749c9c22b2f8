-- A session that has answered nothing can go on over a store of which no call was asked.
use Rattle.std.proofs.Common.{◌≡◌, ℕ, zero, suc, ◌<◌, ◌≤◌, ◌^◌, List, [], ◌∷◌, length, slice_get, Some, refl, arith}
use Rattle.std.proofs.lemmas.List.Elements.{All-from_recursion}
use Rattle.std.specs.Prelude.{All}
use Rattle.go_word.specs.declared.edge.Edge.{Edge}
use Rattle.go_word.specs.Log.{IsWithin as IsEntryWithin}
use Rattle.go_api.specs.Standing.{Terms, IsSound, ShowsUpTo, all_free, unused}
use Rattle.go_api.specs.declared.place.TheConstants.{PLACES}
use Rattle.go_api.specs.declared.place.Place.TheVariants.{Free}
use Rattle.go_script.specs.Places.{IsWithin, IsScript}
use Rattle.go_script.specs.declared.command.Command.{Command}
use Rattle.go_session.specs.Asked.{Asked, asked_with, lists_of, may_put, put_by_answered}
use Rattle.go_session.specs.Session.{unanswered, CanGoOn}

free_at : (k : ℕ) → k < PLACES → slice_get all_free k ≡ Some Free
free_at zero below = refl
free_at (suc zero) below = refl
free_at (suc (suc zero)) below = refl
free_at (suc (suc (suc zero))) below = refl
free_at (suc (suc (suc (suc k)))) below = absurd (omega arith)

-- a store of which no call was asked is sound, where its log is that of its terms
pub unused_sound : (terms : Terms) (log : List Edge) (quota : ℕ) → terms.first ≡ length log → All (IsEntryWithin terms.vertices) log → length log < 2 ^ 32 →
    IsSound (unused terms log quota)
unused_sound terms log quota first ids short = record {
  sees = record { old_seen = omega (arith, first); floor_seen = omega arith; seen_known = omega arith; short = short; ids = ids };
  owns = record { rises = tt; known = All-from_recursion (λ p. p < length log) [] tt; put = refl };
  count = refl;
  shown = All-from_recursion (ShowsUpTo (length log)) all_free (tt, (tt, (tt, (tt, tt))));
}

-- and a session can begin over it, where its commands and its lists suit it
pub can_begin : (number : ℕ) (commands : List Command) (lists : List ℕ) (loads : List (List Edge)) (terms : Terms) (log : List Edge) (quota : ℕ) →
    IsSound (unused terms log quota) → IsWithin terms.vertices commands → IsScript commands →
    All (IsEntryWithin terms.vertices) (may_put (asked_with commands (lists_of loads lists))) →
    length (may_put (asked_with commands (lists_of loads lists))) ≤ quota → terms.first ≡ length log →
    CanGoOn loads (unanswered number commands lists) (unused terms log quota)
can_begin number commands lists loads terms log quota sound below script entries few first = record {
  at = record {
    allowed = record {
      sound = sound;
      follows = record { below = below; entries = entries; script = script; some = omega arith };
      allowed = tt;
      told_first = λ some. absurd (omega (arith, some));
      seen = omega (arith, first);
      low = omega (arith, first);
      synced = λ front there. absurd (let within = there.1 in omega (arith, within));
    };
    used = refl;
    put = none_put (asked_with commands (lists_of loads lists));
    places = record { places = λ k below. free_at k below; kinds = λ k below. refl };
  };
  quota = few;
} where
  none_put : (asked : List Asked) → [] ≡ put_by_answered asked []
  none_put [] = refl
  none_put (a ∷ asked) = refl
