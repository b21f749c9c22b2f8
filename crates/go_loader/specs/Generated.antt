-- The entries that the generator gives, by the words of a generator of random numbers.
use Rattle.std.specs.Prelude.{◌≡◌, ℕ, ◌+◌, ◌-◌, ◌*◌, ◌/◌, ◌%◌, ◌==◌, true, false, if◌then◌else◌, List, length, map}
use Rattle.std.specs.List.{range_with_len}
use Rattle.rand_core.specs.Pcg32Seed.{pcg32_seed}
use Rattle.rand_pcg.specs.Lcg.{Lcg, advance}
use Rattle.rand_pcg.specs.Pcg.{multiplier_64, output_xsh_rr, pcg32_of_seed}
use Rattle.go_word.specs.declared.edge.Edge.{Edge}

-- the generator that a number seeds: PCG with 64 bits of state and words of 32, XSH RR
abbrev pub seeded : ℕ → Lcg
seeded x = pcg32_of_seed (pcg32_seed 16 x)

-- it, after k words
abbrev pub after_words : ℕ → ℕ → Lcg
after_words x k = advance 64 multiplier_64 k (seeded x)

-- word k of it, from 0: the output of the state after k steps
abbrev pub word_of : ℕ → ℕ → ℕ
word_of x k = output_xsh_rr (after_words x k).state

-- the pair that the words 2 k and 2 k + 1 draw
abbrev pub pair : ℕ → ℕ → ℕ → Edge
pair x v k = record { del = false; src = word_of x (2 * k) % v; dst = word_of x (2 * k + 1) % v }

-- how many of the first i entries are additions: seven of eight
abbrev pub additions_before : ℕ → ℕ
additions_before i = i - i / 8

-- entry i: each eighth deletes what stands four before it, the others add the next pair
abbrev pub entry : ℕ → ℕ → ℕ → Edge
entry x v i =
    if i % 8 == 7 then record (pair x v (additions_before (i - 4))) { del = true }
    else pair x v (additions_before i)

-- so many entries, one after another
abbrev pub generated : ℕ → ℕ → ℕ → List Edge
generated count x v = map (entry x v) (range_with_len 0 count)

-- the generator after the words of so many entries
abbrev pub after_entries : ℕ → ℕ → Lcg
after_entries x count = after_words x (2 * additions_before count)

-- some first entries were generated, and the generator has drawn just for them
pub record IsGenerating (x v : ℕ) (entries : List Edge) (words : Lcg) : Type 0 where
  pub entries_are : entries ≡ generated (length entries) x v
  pub drawn : words ≡ after_entries x (length entries)
