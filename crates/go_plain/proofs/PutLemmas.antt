-- Lemmas on runs of puts, as a session's standing tells them.
use Rattle.std.proofs.Common.{◌≡◌, ℕ, suc, ◌+◌, ◌<◌, ◌≤◌, List, [], ◌∷◌, ◌++◌, length}
use Rattle.std.proofs.Common.{take, get_or, refl, ap, arith, sym, subst, ◌∙◌, length-append, append_assoc, take_all}
use Rattle.std.specs.Prelude.{All, Option, None, Some}
use Rattle.std.proofs.lemmas.List.{append-nil, length-take}
use Rattle.std.proofs.lemmas.List.Elements.{All-append, All-push}
use Rattle.go_word.specs.declared.edge.Edge.{Edge}
use Rattle.go_word.specs.Log.{IsWithin}
use Rattle.go_api.specs.Laid.{Rises}
use Rattle.go_api.specs.Standing.{Standing, Terms}
use Rattle.go_api.specs.Calls.{MayPut, ArePut, IsPut, IsPutStopped, OnlySees, PutsAll, PutsSome, last_of}
use Rattle.go_api.specs.declared.stop.Stop.{Stop}
use Rattle.go_api.proofs.StandingLemmas.{onward_self, onward_on}

-- positions that rise, and then some that rise behind them
rises_more : (first next : ℕ) (own more : List ℕ) → first ≤ next → Rises first own → All (λ p. p < next) own → Rises next more → Rises first (own ++ more)
rises_more first next [] [] le rises below later = tt
rises_more first next [] (p ∷ more) le rises below later = (omega (arith, le, later.0), later.1)
rises_more first next (p ∷ own) more le rises below later =
    let here : p < next = below 0 p (omega arith) in
    (rises.0, rises_more (p + 1) next own more (omega (arith, here)) rises.1 (λ k d within. below (suc k) d (omega (arith, within))) later)

-- what is below a number is below a greater one
below_greater : (n m : ℕ) (own : List ℕ) → n ≤ m → All (λ p. p < n) own → All (λ p. p < m) own
below_greater n m own le all = λ k d within. omega (arith, le, all k d within)

-- some puts, and then some more
pub are_put_on : (one two three : Standing) (edges more : List Edge) (own later : List ℕ) → ArePut edges own one two → ArePut more later two three →
    ArePut (edges ++ more) (own ++ later) one three
are_put_on one two three edges more own later first next = record {
  onward = onward_on one two three first.onward next.onward;
  owned = next.owned ∙ ap (λ (l : List ℕ). l ++ later) first.owned ∙ append_assoc one.own own later;
  put = next.put ∙ ap (λ (l : List Edge). l ++ more) first.put ∙ append_assoc one.edges edges more;
  so_many = omega (arith, length-append own later, length-append edges more, first.so_many, next.so_many);
  rises = rises_more one.log.known two.log.known own later first.onward.known_later first.rises first.known next.rises;
  known = All-append (λ p. p < three.log.known) own later (below_greater two.log.known three.log.known own next.onward.known_later first.known) next.known;
  same_places = next.same_places ∙ first.same_places;
}

-- nothing was put
pub put_nothing : (one two : Standing) → OnlySees one two → ArePut [] [] one two
put_nothing one two sees = record {
  onward = sees.kept.onward;
  owned = sees.kept.same_own ∙ sym (append-nil one.own);
  put = sees.kept.same_edges ∙ sym (append-nil one.edges);
  so_many = refl;
  rises = tt;
  known = λ k d within. absurd (omega (arith, within));
  same_places = sees.kept.same_places;
}

-- a put, after what was seen by none
pub put_after : (one two three : Standing) (e : Edge) (p : ℕ) → OnlySees one two → IsPut e p two three → IsPut e p one three
put_after one two three e p sees is = record {
  put = are_put_on one two three [] (e ∷ []) [] (p ∷ []) (put_nothing one two sees) is.put;
  quota = omega (arith, is.quota, sees.quota);
}

-- the last of some positions, with one more
last_more : (own : List ℕ) (p : ℕ) → last_of (own ++ p ∷ []) ≡ Some p
last_more [] p = refl
last_more (q ∷ []) p = refl
last_more (q ∷ (r ∷ own)) p = last_more (r ∷ own) p

-- none of some entries was put yet
pub puts_none : (one : Standing) → OnlySees one one → PutsAll [] None one one
puts_none one sees = record { positions = []; put = put_nothing one one sees; last_is = refl; quota = omega arith }

-- one entry more was put
pub puts_more : (one two three : Standing) (edges longer : List Edge) (e : Edge) (last : Option ℕ) (p : ℕ) → longer ≡ edges ++ e ∷ [] →
    PutsAll edges last one two → IsPut e p two three → PutsAll longer (Some p) one three
puts_more one two three edges longer e last p are all is = record {
  positions = all.positions ++ p ∷ [];
  put = rw are (are_put_on one two three edges (e ∷ []) all.positions (p ∷ []) all.put is.put);
  last_is = last_more all.positions p;
  quota = omega (arith, all.quota, is.quota, ap length are, length-append edges (e ∷ []));
}

-- the next one wasn't, since the store stopped
pub puts_some : (one two three : Standing) (edges : List Edge) (k : ℕ) (last : Option ℕ) (why : Stop) → k < length edges →
    PutsAll (take k edges) last one two → IsPutStopped why two three → PutsSome edges why one three
puts_some one two three edges k last why fewer all stopped = record {
  count = k;
  fewer = fewer;
  positions = all.positions;
  put = with_kept;
  no_more = omega (arith, all.quota, stopped.no_more);
  own_alone = omega (arith, all.quota, stopped.own_alone, fewer, length-take k edges);
  met = stopped.met;
} where
  with_kept : ArePut (take k edges) all.positions one three
  with_kept = record {
    onward = onward_on one two three all.put.onward stopped.kept.onward;
    owned = stopped.kept.same_own ∙ all.put.owned;
    put = stopped.kept.same_edges ∙ all.put.put;
    so_many = all.put.so_many;
    rises = all.put.rises;
    known = below_greater two.log.known three.log.known all.positions stopped.kept.onward.known_later all.put.known;
    same_places = stopped.kept.same_places ∙ all.put.same_places;
  }

-- the next one may be put
pub may_next : (one two : Standing) (edges : List Edge) (k : ℕ) (d : Edge) (last : Option ℕ) → k < length edges → MayPut edges one →
    PutsAll (take k edges) last one two → MayPut (get_or edges k d ∷ []) two
may_next one two edges k d last within may all =
    let terms : one.terms.vertices ≡ two.terms.vertices = sym (ap (λ (t : Terms). t.vertices) all.put.onward.same_terms) in
    let ids : IsWithin two.terms.vertices (get_or edges k d) = subst (λ (v : ℕ). IsWithin v (get_or edges k d)) terms (may.ids k d within) in
    record {
      quota = omega (arith, all.quota, may.quota, within, length-take k edges);
      ids = All-push (IsWithin two.terms.vertices) [] (get_or edges k d) (λ i e below. absurd (omega (arith, below))) ids;
    }

-- all of them were put
pub puts_all : (one two : Standing) (edges : List Edge) (k : ℕ) (last : Option ℕ) → length edges ≤ k → PutsAll (take k edges) last one two →
    PutsAll edges last one two
puts_all one two edges k last past all = subst (λ (l : List Edge). PutsAll l last one two) (take_all k edges past) all
