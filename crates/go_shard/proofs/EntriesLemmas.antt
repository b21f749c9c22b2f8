-- Lemmas on the entries of a vertex in the parts of a log, and on what their words make.
use Rattle.std.proofs.Common.{◌≡◌, ℕ, zero, suc, ◌+◌, ◌-◌, ◌≤◌, ◌%◌, ◌/◌, ◌*◌, ◌<◌, ◌==◌, Bool, true, false, List, [], ◌∷◌, ◌++◌, length, take, drop}
use Rattle.std.proofs.Common.{fold, map, refl, sym, ap, ◌∙◌, arith, if◌then◌else◌, take-add}
use Rattle.std.specs.Prelude.{All}
use Rattle.std.proofs.lemmas.Bool.Decides.{nat_tests}
use Rattle.std.proofs.lemmas.List.{take-append-drop, drop-drop}
use Rattle.std.proofs.lemmas.List.Elements.{filter-append, All-head, All-tail, All-weaker}
use Rattle.std.proofs.lemmas.List.Sums.{length-filter, sum_by-append, sum_by-cons}
use Rattle.std.proofs.Math.Seq.{take-append-add}
use Rattle.go_word.specs.declared.edge.Edge.{Edge}
use Rattle.go_word.specs.declared.edge.TheConstants.{VERTEX_LIMIT}
use Rattle.go_word.specs.Log.{IsWithin, leaves, entries_from, raw}
use Rattle.go_word.specs.Word.{plain_word, decode, IsStorable}
use Rattle.go_word.specs.Neighbours.{after_entry, neighbours}
use Rattle.go_word.proofs.NeighbourLaws.{neighbours-append, neighbours-entries_from}
use Rattle.go_word.proofs.WordLaws.{decode-plain_word, IsStorable-IsWithin}
use Rattle.go_net.specs.Net.{net_of, after_word}

-- from any neighbours on, the words of a vertex's entries do what the entries do
pub net_of-entries : (v : ℕ) (base : List ℕ) (es : List Edge) → All (λ e. leaves v e ≡ true) es → All IsStorable es →
    net_of base (map plain_word es) ≡ fold (after_entry v) base es
net_of-entries v base [] own storable = refl
net_of-entries v base (e ∷ es) own storable =
    let is : decode (plain_word e) ≡ e = decode-plain_word e (All-head IsStorable e es storable) in
    let first : leaves v e ≡ true = All-head (λ x. leaves v x ≡ true) e es own in
    let same : after_entry e.src base e ≡ after_entry v base e = grind (arith, nat_tests) in
    let step : after_word base (plain_word e) ≡ after_entry v base e = ap (λ (x : Edge). after_entry x.src base x) is ∙ same in
    let rest = net_of-entries v (after_entry v base e) es (All-tail (λ x. leaves v x ≡ true) e es own) (All-tail IsStorable e es storable) in
    ap (λ b. net_of b (map plain_word es)) step ∙ rest

-- the entries of a shard's log can be held in words
pub storable_log : (vertices : ℕ) (log : List Edge) → vertices ≤ VERTEX_LIMIT → All (IsWithin vertices) log → All IsStorable log
storable_log vertices log small within = All-weaker (IsWithin vertices) IsStorable (λ e inside. IsStorable-IsWithin vertices e (omega arith) inside) log within

-- the raw count is the number of entries
pub raw-length : (s : ℕ) (log : List Edge) → raw log s ≡ length (entries_from s log)
raw-length s log = sym (length-filter (leaves s) log)

-- the raw count of two parts
pub raw-append : (s : ℕ) (log more : List Edge) → raw (log ++ more) s ≡ raw log s + raw more s
raw-append s log more = sum_by-append (λ e. if leaves s e then 1 else 0) log more

-- one entry more in front
raw_cons : (v : ℕ) (e : Edge) (log : List Edge) → raw (e ∷ log) v ≡ (if leaves v e then 1 else 0) + raw log v
raw_cons v e log = sum_by-cons (λ (x : Edge). if leaves v x then 1 else 0) e log

-- as many of a vertex's entries as a log has in its first part are those of that part
pub first_entries : (v n : ℕ) (log : List Edge) → take (raw (take n log) v) (entries_from v log) ≡ entries_from v (take n log)
first_entries v zero log = refl
first_entries v (suc n) [] = refl
first_entries v (suc n) (e ∷ log) = by (leaves v e) refl (first_entries v n log) where
  by : (b : Bool) → leaves v e ≡ b → take (raw (take n log) v) (entries_from v log) ≡ entries_from v (take n log) →
      take (raw (e ∷ take n log) v) (entries_from v (e ∷ log)) ≡ entries_from v (e ∷ take n log)
  by true is rest =
      let count : raw (e ∷ take n log) v ≡ suc (raw (take n log) v) = raw_cons v e (take n log) ∙ rw is (omega arith) in
      rw count (rw is (ap (λ l. e ∷ l) rest))
  by false is rest =
      let count : raw (e ∷ take n log) v ≡ raw (take n log) v = raw_cons v e (take n log) ∙ rw is (omega arith) in
      rw count (rw is rest)

-- and the others are those of the rest
pub later_entries : (v n : ℕ) (log : List Edge) → drop (raw (take n log) v) (entries_from v log) ≡ entries_from v (drop n log)
later_entries v zero log = refl
later_entries v (suc n) [] = refl
later_entries v (suc n) (e ∷ log) = by (leaves v e) refl (later_entries v n log) where
  by : (b : Bool) → leaves v e ≡ b → drop (raw (take n log) v) (entries_from v log) ≡ entries_from v (drop n log) →
      drop (raw (e ∷ take n log) v) (entries_from v (e ∷ log)) ≡ entries_from v (drop n log)
  by true is rest =
      let count : raw (e ∷ take n log) v ≡ suc (raw (take n log) v) = raw_cons v e (take n log) ∙ rw is (omega arith) in
      rw count (rw is rest)
  by false is rest =
      let count : raw (e ∷ take n log) v ≡ raw (take n log) v = raw_cons v e (take n log) ∙ rw is (omega arith) in
      rw count (rw is rest)

-- the raw count up to a front, from one before it on
pub raw_between : (s cut front : ℕ) (log : List Edge) → cut ≤ front → raw (take front log) s ≡ raw (take cut log) s + raw (take (front - cut) (drop cut log)) s
raw_between s cut front log before =
    let whole : take front log ≡ take cut log ++ take (front - cut) (drop cut log) =
    ap (λ (n : ℕ). take n log) (omega (arith, before)) ∙ take-add cut (front - cut) log in
    ap (λ (l : List Edge). raw l s) whole ∙ raw-append s (take cut log) (take (front - cut) (drop cut log))

-- a part has no more entries of a vertex than the whole, and than a longer part
pub raw_part : (s n : ℕ) (log : List Edge) → raw (take n log) s ≤ raw log s
raw_part s n log = omega (arith, raw-append s (take n log) (drop n log), ap (λ (l : List Edge). raw l s) (take-append-drop n log))

pub raw_rises : (s n f : ℕ) (log : List Edge) → n ≤ f → raw (take n log) s ≤ raw (take f log) s
raw_rises s n f log later = omega (arith, raw_between s n f log later)

-- the later entries of a part are those of a later part
pub later_between : (s cut front : ℕ) (log : List Edge) → cut ≤ front →
    drop (raw (take front log) s - raw (take cut log) s) (entries_from s (drop cut log)) ≡ entries_from s (drop front log)
later_between s cut front log before =
    let count : raw (take front log) s - raw (take cut log) s ≡ raw (take (front - cut) (drop cut log)) s = omega (arith, raw_between s cut front log before) in
    ap (λ (n : ℕ). drop n (entries_from s (drop cut log))) count ∙ later_entries s (front - cut) (drop cut log)
    ∙ ap (entries_from s) (drop-drop (front - cut) cut log ∙ ap (λ (n : ℕ). drop n log) (omega (arith, before)))

-- the neighbours of a vertex after a part of a log, by its entries there
pub neighbours_of_first : (v n : ℕ) (log : List Edge) → neighbours (take (raw (take n log) v) (entries_from v log)) v ≡ neighbours (take n log) v
neighbours_of_first v n log = ap (λ (l : List Edge). neighbours l v) (first_entries v n log) ∙ neighbours-entries_from (take n log) v

-- the neighbours after so many entries of a vertex, from those at a cut and the entries behind it
pub neighbours_from_cut : (v cut n : ℕ) (log : List Edge) → raw (take cut log) v ≤ n →
    fold (after_entry v) (neighbours (take cut log) v) (take (n - raw (take cut log) v) (entries_from v (drop cut log)))
    ≡ neighbours (take n (entries_from v log)) v
neighbours_from_cut v cut n log enough =
    let first : List Edge = entries_from v (take cut log) in
    let later : List Edge = entries_from v (drop cut log) in
    let floor : ℕ = raw (take cut log) v in
    let all : entries_from v log ≡ first ++ later = ap (entries_from v) (sym (take-append-drop cut log))
    ∙ filter-append (leaves v) (take cut log) (drop cut log) in
    let count : n ≡ length first + (n - floor) = omega (arith, raw-length v (take cut log), enough) in
    let cut_off : take n (entries_from v log) ≡ first ++ take (n - floor) later =
    ap (take n) all ∙ ap (λ (k : ℕ). take k (first ++ later)) count ∙ take-append-add first later (n - floor) in
    sym (ap (λ (l : List Edge). neighbours l v) cut_off ∙ neighbours-append first (take (n - floor) later) v
    ∙ ap (λ (b : List ℕ). fold (after_entry v) b (take (n - floor) later)) (neighbours-entries_from (take cut log) v))

-- two numbers with the same remainder have the same quotient where they are the same, and only there
pub same_place : (a s n i : ℕ) → (a % n == i) ≡ true → s % n ≡ i → 0 < n → (a / n == s / n) ≡ (a == s)
same_place a s n i own turn some =
    let r : a % n ≡ i = grind (arith, nat_tests) in
    let whole_a : n * (a / n) + a % n ≡ a = omega arith in
    let whole_s : n * (s / n) + s % n ≡ s = omega arith in
    let there : a / n ≡ s / n → a ≡ s = λ e. let m : n * (a / n) ≡ n * (s / n) = ap (λ q. n * q) e in omega arith in
    let back : a ≡ s → a / n ≡ s / n = λ e. ap (λ q. q / n) e in
    grind (arith, nat_tests, there, back)

-- an entry of one of a shard's vertices is one of its own
pub own_if_leaves : (s a n i : ℕ) → s % n ≡ i → (a == s) ≡ true → (a % n == i) ≡ true
own_if_leaves s a n i turn leaves_it =
    let same : a ≡ s = grind (arith, nat_tests) in
    let r : a % n ≡ i = ap (λ q. q % n) same ∙ turn in
    grind (arith, nat_tests)
