-- A store that stopped: what it leaves, by the call that it stopped in.
use Rattle.std.proofs.Common.{◌≡◌, ℕ, ◌+◌, ◌≤◌, List, [], ◌∷◌, refl, sym, ◌∙◌, arith, append-nil}
use Rattle.std.specs.Prelude.{All}
use Rattle.std.specs.List.{AllByRecursion}
use Rattle.std.proofs.lemmas.List.Elements.{All-from_recursion}
use Rattle.go_word.specs.declared.edge.Edge.{Edge}
use Rattle.go_api.specs.Laid.{Rises}
use Rattle.go_api.specs.Standing.{Standing, Onward, Kept}
use Rattle.go_api.specs.Calls.{TellsMet, PutsSome}
use Rattle.go_api.specs.declared.stop.Stop.{Stop}
use Rattle.go_api.specs.declared.stop.Stop.TheVariants.{Disk, Memory}
use Rattle.go_session.specs.Answers.{IsBroken}

-- nothing was put
pub onward_broken : (entries : List Edge) (why : Stop) (before after : Standing) → Onward before after → after.own ≡ before.own → after.edges ≡ before.edges →
    TellsMet why after →
    IsBroken entries why before after
onward_broken entries why before after onward own edges met = record {
  count = 0;
  fewer = omega arith;
  positions = [];
  onward = onward;
  put = record {
    owned = own ∙ sym (append-nil before.own);
    put = edges ∙ sym (append-nil before.edges);
    so_many = refl;
    behind = All-from_recursion (λ (p : ℕ). before.log.known ≤ p) [] tt;
  };
  met = met;
}

pub kept_broken : (entries : List Edge) (why : Stop) (before after : Standing) → Kept before after → TellsMet why after → IsBroken entries why before after
kept_broken entries why before after kept met = onward_broken entries why before after kept.onward kept.same_own kept.same_edges met

-- want of memory tells nothing of the disk
pub memory_tells : (after : Standing) → TellsMet Memory after
memory_tells after = λ same. absurd (let h : Memory ≡ Disk = same in cc)

-- positions that rise are at or above the first
pub rises_from : (first : ℕ) (positions : List ℕ) → Rises first positions → All (λ p. first ≤ p) positions
rises_from first positions rises = All-from_recursion (λ p. first ≤ p) positions (each first first positions (omega arith) rises) where
  each : (first low : ℕ) (positions : List ℕ) → first ≤ low → Rises low positions → AllByRecursion (λ p. first ≤ p) positions
  each first low [] above rises = tt
  each first low (p ∷ positions) above rises =
      (omega (arith, rises.0), each first (p + 1) positions (omega (arith, rises.0)) rises.1)

-- some first ones of a list were put
pub some_broken : (edges : List Edge) (why : Stop) (before after : Standing) → PutsSome edges why before after → IsBroken edges why before after
some_broken edges why before after some = record {
  count = some.count;
  fewer = omega (arith, some.fewer);
  positions = some.positions;
  onward = some.put.onward;
  put = record {
    owned = some.put.owned;
    put = some.put.put;
    so_many = some.put.so_many;
    behind = rises_from before.log.known some.positions some.put.rises;
  };
  met = some.met;
}
