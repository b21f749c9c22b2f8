-- Lemmas on generated entries: how many additions there are, which state the generator has, and that one list alone is generated.
use Rattle.std.proofs.Common.{◌≡◌, ℕ, ◌+◌, ◌-◌, ◌*◌, ◌%◌, ◌<◌, List, [], ◌∷◌, ◌++◌, length, true, false, refl, sym, ap, ◌∙◌, arith, zero, suc, length-append}
use Rattle.std.specs.Prelude.{get_or}
use Rattle.std.proofs.lemmas.Bool.Decides.{nat_tests}
use Rattle.std.proofs.lemmas.List.FromFn.{map-range_with_len_more, get_or-map-range_with_len, length-map-range_with_len}
use Rattle.rand_pcg.specs.Lcg.{Lcg, advance, next, next_state, state_after}
use Rattle.rand_pcg.specs.Pcg.{multiplier_64, output_xsh_rr, pcg32}
use Rattle.go_word.specs.declared.edge.Edge.{Edge}
use Rattle.go_loader.specs.Generated.{additions_before, after_entries, entry, pair, generated, seeded, word_of, IsGenerating}

-- each eighth entry is no addition
pub additions-same : (i : ℕ) → i % 8 ≡ 7 → additions_before (i + 1) ≡ additions_before i
additions-same i eighth = omega (arith, eighth)

-- and each other is one
pub additions-more : (i : ℕ) → (i % 8 ≡ 7 → ⊥) → additions_before (i + 1) ≡ additions_before i + 1
additions-more i other = omega (arith, other)

-- each eighth entry deletes what stands four before it
pub deletes_law : (x v i : ℕ) → i % 8 ≡ 7 → entry x v i ≡ record (entry x v (i - 4)) { del = true }
deletes_law x v i eighth =
    let earlier : (i - 4) % 8 ≡ 3 = omega (arith, eighth) in
    grind (arith, nat_tests, eighth, earlier)

-- a step behind n steps is one more
state_after-last : (w m increment n state : ℕ) → next_state w m increment (state_after w m increment n state) ≡ state_after w m increment (suc n) state
unfolding state_after
state_after-last w m increment zero state = refl
state_after-last w m increment (suc n) state = state_after-last w m increment n (next_state w m increment state)

-- and so it is of a generator
pub advance-last : (n : ℕ) (g : Lcg) → next 64 multiplier_64 (advance 64 multiplier_64 n g) ≡ advance 64 multiplier_64 (suc n) g
advance-last n g = ap (λ (state : ℕ). record g { state = state }) (state_after-last 64 multiplier_64 g.increment n g.state)

-- one entry more
pub generated-more : (count x v : ℕ) → generated (count + 1) x v ≡ generated count x v ++ entry x v count ∷ []
generated-more count x v = map-range_with_len_more (entry x v) 0 count count (omega arith)

-- the entry of a place
pub generated-get : (count x v i : ℕ) (d : Edge) → i < count → get_or (generated count x v) i d ≡ entry x v i
generated-get count x v i d below = get_or-map-range_with_len (entry x v) 0 count i i d below (omega arith)

-- so many there are
pub length-generated : (count x v : ℕ) → length (generated count x v) ≡ count
length-generated count x v = length-map-range_with_len (entry x v) 0 count

-- the state after the words of a pair
pub drawn_after : (x k : ℕ) (before between after : Lcg) (src dst : ℕ) → before ≡ advance 64 multiplier_64 (2 * k) (seeded x) →
    (src, between) ≡ pcg32 before → (dst, after) ≡ pcg32 between → after ≡ advance 64 multiplier_64 (2 * (k + 1)) (seeded x)
drawn_after x k before between after src dst begun first second =
    let one : between ≡ advance 64 multiplier_64 (suc (2 * k)) (seeded x) =
    ap (λ (p : ℕ × Lcg). p.1) first ∙ ap (next 64 multiplier_64) begun ∙ advance-last (2 * k) (seeded x) in
    let two : 2 * (k + 1) ≡ suc (suc (2 * k)) = omega arith in
    ap (λ (p : ℕ × Lcg). p.1) second ∙ ap (next 64 multiplier_64) one ∙ advance-last (suc (2 * k)) (seeded x)
    ∙ ap (λ (n : ℕ). advance 64 multiplier_64 n (seeded x)) (sym two)

-- the pair that is drawn
pub drawn : (x v k : ℕ) (before between after : Lcg) (src dst : ℕ) → before ≡ advance 64 multiplier_64 (2 * k) (seeded x) →
    (src, between) ≡ pcg32 before → (dst, after) ≡ pcg32 between → record { del = false; src = src % v; dst = dst % v } ≡ pair x v k
drawn x v k before between after src dst begun first second =
    let next_one : suc (2 * k) ≡ 2 * k + 1 = omega arith in
    let one : between ≡ advance 64 multiplier_64 (2 * k + 1) (seeded x) =
    ap (λ (p : ℕ × Lcg). p.1) first ∙ ap (next 64 multiplier_64) begun ∙ advance-last (2 * k) (seeded x)
    ∙ ap (λ (n : ℕ). advance 64 multiplier_64 n (seeded x)) next_one in
    let source : src ≡ word_of x (2 * k) = ap (λ (p : ℕ × Lcg). p.0) first ∙ ap (λ (g : Lcg). output_xsh_rr g.state) begun in
    let target : dst ≡ word_of x (2 * k + 1) = ap (λ (p : ℕ × Lcg). p.0) second ∙ ap (λ (g : Lcg). output_xsh_rr g.state) one in
    rw (source, target) refl

-- the eighth entry deletes what stands four before it
pub deleted : (x v : ℕ) (entries : List Edge) (words : Lcg) (d : Edge) → IsGenerating x v entries words → length entries % 8 ≡ 7 →
    record { del = true; src = (get_or entries (length entries - 4) d).src; dst = (get_or entries (length entries - 4) d).dst } ≡ entry x v (length entries)
deleted x v entries words d are eighth =
    let earlier : get_or entries (length entries - 4) d ≡ entry x v (length entries - 4) =
    ap (λ (l : List Edge). get_or l (length entries - 4) d) are.entries_are
    ∙ generated-get (length entries) x v (length entries - 4) d (omega (arith, eighth)) in
    ap (λ (e : Edge). record { del = true; src = e.src; dst = e.dst }) earlier ∙ sym (deletes_law x v (length entries) eighth)

-- one entry more was generated
pub generating-more : (x v : ℕ) (entries : List Edge) (before after : Lcg) (edge : Edge) → IsGenerating x v entries before →
    edge ≡ entry x v (length entries) → after ≡ after_entries x (length entries + 1) → IsGenerating x v (entries ++ edge ∷ []) after
generating-more x v entries before after edge are is drawn =
    let longer : length (entries ++ edge ∷ []) ≡ length entries + 1 = omega (arith, length-append entries (edge ∷ [])) in
    record {
      entries_are = ap (λ (e : Edge). entries ++ e ∷ []) is ∙ ap (λ (l : List Edge). l ++ entry x v (length entries) ∷ []) are.entries_are
          ∙ sym (generated-more (length entries) x v) ∙ ap (λ (n : ℕ). generated n x v) (sym longer);
      drawn = drawn ∙ ap (after_entries x) (sym longer);
    }

-- nothing was generated yet
pub generating-none : (x v : ℕ) (words : Lcg) → words ≡ after_entries x 0 → IsGenerating x v [] words
generating-none x v words begun = record { entries_are = refl; drawn = begun }
