-- Runs of entries that a session puts, one after another.
use Rattle.std.proofs.Common.{◌≡◌, ℕ, zero, suc, ◌+◌, ◌-◌, ◌<◌, ◌≤◌, List, [], ◌∷◌, ◌++◌, length, take, drop, sym, refl, ap, ◌∙◌, arith, subst, length-append, append_assoc, take_all}
use Rattle.std.specs.Prelude.{All, Option, None, Some}
use Rattle.std.proofs.lemmas.List.{append-nil, length-drop, length-take}
use Rattle.std.proofs.lemmas.List.Elements.{All-append, All-weaker}
use Rattle.go_word.specs.declared.edge.Edge.{Edge}
use Rattle.go_api.specs.Alone.{positions}
use Rattle.go_api.specs.Calls.{ArePut, IsPut, IsPutStopped, OnlySees, PutsAll, PutsSome, last_of}
use Rattle.go_api.specs.Laid.{Rises}
use Rattle.go_api.specs.Standing.{Standing}
use Rattle.go_api.specs.declared.stop.Stop.{Stop}
use Rattle.go_api.proofs.StandingLemmas.{kept_on, onward_on, sees_self}
use Rattle.go_live.specs.Putting.{ArePutFrom, ArePutStopped}

-- positions that rise, and then some that rise behind them
rises_more : (first next : ℕ) (own more : List ℕ) → first ≤ next → Rises first own → All (λ p. p < next) own → Rises next more → Rises first (own ++ more)
rises_more first next [] [] le rises below later = tt
rises_more first next [] (p ∷ more) le rises below later = (let low = later.0 in omega arith, later.1)
rises_more first next (p ∷ own) more le rises below later =
    let here : p < next = below 0 p (omega arith) in
    (rises.0, rises_more (p + 1) next own more (omega arith) rises.1 (λ k d within. below (suc k) d (omega arith)) later)

below_later : (n m : ℕ) (own : List ℕ) → n ≤ m → All (λ p. p < n) own → All (λ p. p < m) own
below_later n m own le all = All-weaker (λ p. p < n) (λ p. p < m) (λ p less. omega arith) own all

-- some puts, and then some more
are_put_on : (one two three : Standing) (edges more : List Edge) (own later : List ℕ) → ArePut edges own one two → ArePut more later two three
    → ArePut (edges ++ more) (own ++ later) one three
are_put_on one two three edges more own later first next =
    let known = next.onward.known_later in
    let many1 = first.so_many in
    let many2 = next.so_many in
    record {
      onward = onward_on one two three first.onward next.onward;
      owned = next.owned ∙ ap (λ (l : List ℕ). l ++ later) first.owned ∙ append_assoc one.own own later;
      put = next.put ∙ ap (λ (l : List Edge). l ++ more) first.put ∙ append_assoc one.edges edges more;
      so_many = omega (arith, length-append own later, length-append edges more);
      rises = rises_more one.log.known two.log.known own later first.onward.known_later first.rises first.known next.rises;
      known = All-append (λ p. p < three.log.known) own later (below_later two.log.known three.log.known own known first.known) next.known;
      same_places = next.same_places ∙ first.same_places;
    }

-- nothing was put
put_nothing : (one two : Standing) → OnlySees one two → ArePut [] [] one two
put_nothing one two sees =
    record {
      onward = sees.kept.onward;
      owned = sees.kept.same_own ∙ sym (append-nil one.own);
      put = sees.kept.same_edges ∙ sym (append-nil one.edges);
      so_many = refl;
      rises = tt;
      known = λ k d within. absurd (omega arith);
      same_places = sees.kept.same_places;
    }

-- none of some entries was put yet
pub none_put : (one : Standing) → PutsAll [] None one one
none_put one = record { positions = []; put = put_nothing one one (sees_self one); last_is = refl; quota = omega arith }

-- a put, after what was seen by none
pub put_after : (one two three : Standing) (e : Edge) (p : ℕ) → OnlySees one two → IsPut e p two three → IsPut e p one three
put_after one two three e p sees is =
    let left = is.quota in
    let same = sees.quota in
    record { put = are_put_on one two three [] (e ∷ []) [] (p ∷ []) (put_nothing one two sees) is.put; quota = omega arith }

-- one that was stopped
pub stopped_after : (one two three : Standing) (why : Stop) → OnlySees one two → IsPutStopped why two three → IsPutStopped why one three
stopped_after one two three why sees stopped =
    let same = sees.quota in
    let no_more = stopped.no_more in
    let own_alone = stopped.own_alone in
    record { kept = kept_on one two three sees.kept stopped.kept; no_more = omega arith; own_alone = omega arith; met = stopped.met }

-- the last position of a row, and of a row behind others
last_positions : (n count : ℕ) → last_of (positions n (suc count)) ≡ Some (n + count)
last_positions n zero = ap (λ k. Some k) (omega arith)
last_positions n (suc count) = last_positions (n + 1) count ∙ ap (λ k. Some k) (omega arith)

last_row : (own : List ℕ) (n count : ℕ) → last_of (own ++ positions n (suc count)) ≡ Some (n + count)
last_row [] n count = last_positions n count
last_row (p ∷ []) n count = last_positions n count
last_row (p ∷ (q ∷ own)) n count = last_row (q ∷ own) n count

-- a run more was put
pub run_more : (one two three : Standing) (edges more longer : List Edge) (last : Option ℕ) (n count : ℕ) → longer ≡ edges ++ more → length more ≡ suc count
    → PutsAll edges last one two → ArePutFrom more n two three → PutsAll longer (Some (n + count)) one three
run_more one two three edges more longer last n count are long all from =
    let quota1 = all.quota in
    let quota2 = from.quota in
    let size = ap length are in
    record {
      positions = all.positions ++ positions n (length more);
      put = subst (λ (l : List Edge). ArePut l (all.positions ++ positions n (length more)) one three) (sym are)
          (are_put_on one two three edges more all.positions (positions n (length more)) all.put from.put);
      last_is = ap (λ k. last_of (all.positions ++ positions n k)) long ∙ last_row all.positions n count;
      quota = omega (arith, length-append edges more);
    }

-- the next run wasn't, since the store stopped
pub run_stopped : (one two three : Standing) (edges more : List Edge) (k : ℕ) (last : Option ℕ) (why : Stop) → k + length more ≤ length edges → 1 ≤ length more
    → PutsAll (take k edges) last one two → ArePutStopped more why two three → PutsSome edges why one three
run_stopped one two three edges more k last why fits some all stopped =
    let quota1 = all.quota in
    let quota2 = stopped.quota in
    let long = length-take k edges in
    record {
      count = k;
      fewer = omega arith;
      positions = all.positions;
      put = record {
        onward = onward_on one two three all.put.onward stopped.kept.onward;
        owned = stopped.kept.same_own ∙ all.put.owned;
        put = stopped.kept.same_edges ∙ all.put.put;
        so_many = all.put.so_many;
        rises = all.put.rises;
        known = below_later two.log.known three.log.known all.positions stopped.kept.onward.known_later all.put.known;
        same_places = stopped.kept.same_places ∙ all.put.same_places;
      };
      no_more = omega arith;
      own_alone = omega arith;
      met = stopped.met;
    }

-- nothing of no list
take_nothing : (n : ℕ) → take {A = Edge} n [] ≡ []
take_nothing zero = refl
take_nothing (suc n) = refl

-- the first elements, and then some more
take-plus : (m n : ℕ) (xs : List Edge) → take (m + n) xs ≡ take m xs ++ take n (drop m xs)
take-plus zero n xs = ap (λ k. take k xs) (omega arith)
take-plus (suc m) n [] = take_nothing (suc m + n) ∙ sym (take_nothing n)
take-plus (suc m) n (x ∷ xs) =
    let step : suc m + n ≡ suc (m + n) = omega arith in
    ap (λ k. take k (x ∷ xs)) step ∙ ap (λ ys. x ∷ ys) (take-plus m n xs)

-- a run of entries behind others is as long as it is to be
pub run_long : (edges : List Edge) (done count : ℕ) → done + count ≤ length edges → length (take (done + count - done) (drop done edges)) ≡ count
run_long edges done count within = omega (arith, length-take (done + count - done) (drop done edges), length-drop done edges)

-- and with those before it they are the first ones, so many more
pub run_is : (edges : List Edge) (done count : ℕ) → take (done + count) edges ≡ take done edges ++ take (done + count - done) (drop done edges)
run_is edges done count =
    let step : done + count - done ≡ count = omega arith in
    rw step (take-plus done count edges)

-- a run of some entries was put, where the first so many were
pub run_done : (one two three : Standing) (edges : List Edge) (done count n : ℕ) (last : Option ℕ) → 1 ≤ count → done + count ≤ length edges
    → PutsAll (take done edges) last one two → ArePutFrom (take (done + count - done) (drop done edges)) n two three
    → PutsAll (take (done + count) edges) (Some (n + count - 1)) one three
run_done one two three edges done count n last some within all from =
    let more = take (done + count - done) (drop done edges) in
    let long : length more ≡ suc (count - 1) = run_long edges done count within ∙ omega arith in
    let least : n + (count - 1) ≡ n + count - 1 = omega arith in
    subst (λ k. PutsAll (take (done + count) edges) (Some k) one three) least
    (run_more one two three (take done edges) more (take (done + count) edges) last n (count - 1) (run_is edges done count) long all from)
