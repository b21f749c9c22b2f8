-- Lemmas on what the first commands of a script come to.
use Rattle.std.proofs.Common.{◌≡◌, ℕ, ◌+◌, ◌<◌, ◌≤◌, List, length, take, get_or, slice_get, Some, Bool, true, false, refl, sym, ap, ◌∙◌, arith}
use Rattle.std.specs.Prelude.{cond, count_by, sum}
use Rattle.std.proofs.lemmas.List.{length-take-le}
use Rattle.std.proofs.lemmas.List.Sums.{count_by_more_yes, count_by_more_no, count_by-le-length, sum_by_more, sum_by_more_le, sum_by-take-le}
use Rattle.std.proofs.lemmas.Option.{slice_get_within, get_or_from_slice_get}
use Rattle.go_script.specs.declared.command.Command.{Command}
use Rattle.go_script.specs.declared.tally.Tally.{Tally}
use Rattle.go_script.specs.Commands.{put_by}
use Rattle.go_script.specs.Until.{is_entry, is_listed, loads_in, certain_puts}
use Rattle.go_script.specs.Walked.{tally_at}

-- one more element that passes
pub count-yes : {X : Type 0} (p : X → Bool) (xs : List X) (n : ℕ) (x : X) → slice_get xs n ≡ Some x → p x ≡ true →
    count_by p (take (n + 1) xs) ≡ count_by p (take n xs) + 1
count-yes p xs n x here passes = count_by_more_yes p xs n x (slice_get_within xs n x here) (ap p (get_or_from_slice_get xs n x x here) ∙ passes)

-- one more element that doesn't
pub count-no : {X : Type 0} (p : X → Bool) (xs : List X) (n : ℕ) (x : X) → slice_get xs n ≡ Some x → p x ≡ false →
    count_by p (take (n + 1) xs) ≡ count_by p (take n xs)
count-no p xs n x here fails = count_by_more_no p xs n x (slice_get_within xs n x here) (ap p (get_or_from_slice_get xs n x x here) ∙ fails)

-- tallies of one place are equal where their numbers are
same_tally : (at loads puts loads' puts' : ℕ) → loads ≡ loads' → puts ≡ puts' →
    Path Tally (record { at = at; loads = loads; puts = puts }) (record { at = at; loads = loads'; puts = puts' })
same_tally at loads puts loads' puts' e f = rw (e, f) refl

-- a command that puts nothing for certain
pub next_nothing : (commands : List Command) (files : List ℕ) (tally : Tally) (command : Command) → tally ≡ tally_at commands files tally.at →
    slice_get commands tally.at ≡ Some command → is_entry (put_by command) ≡ false → is_listed (put_by command) ≡ false →
    Path Tally (record { at = tally.at + 1; loads = tally.loads; puts = tally.puts }) (tally_at commands files (tally.at + 1))
next_nothing commands files tally command stands here no_entry not_listed =
    let entries = count-no (λ c. is_entry (put_by c)) commands tally.at command here no_entry in
    let loads = count-no (λ c. is_listed (put_by c)) commands tally.at command here not_listed in
    same_tally _ _ _ _ _ (ap (λ (t : Tally). t.loads) stands ∙ sym loads)
    (ap (λ (t : Tally). t.puts) stands ∙ sym (rw (entries, loads) refl))

-- a command that puts one entry
pub next_entry : (commands : List Command) (files : List ℕ) (tally : Tally) (command : Command) → tally ≡ tally_at commands files tally.at →
    slice_get commands tally.at ≡ Some command → is_entry (put_by command) ≡ true → is_listed (put_by command) ≡ false →
    Path Tally (record { at = tally.at + 1; loads = tally.loads; puts = tally.puts + 1 }) (tally_at commands files (tally.at + 1))
next_entry commands files tally command stands here entry not_listed =
    let entries = count-yes (λ c. is_entry (put_by c)) commands tally.at command here entry in
    let loads = count-no (λ c. is_listed (put_by c)) commands tally.at command here not_listed in
    let puts : tally.puts ≡ certain_puts (take tally.at commands) files = ap (λ (t : Tally). t.puts) stands in
    let files' = ap (λ (n : ℕ). sum (take n files)) loads in
    same_tally _ _ _ _ _ (ap (λ (t : Tally). t.loads) stands ∙ sym loads) (omega (arith, puts, entries, files'))

-- the loads up to a `load` line are fewer than those of all commands
pub loads-below : (commands : List Command) (n : ℕ) (command : Command) → slice_get commands n ≡ Some command → is_listed (put_by command) ≡ true →
    loads_in (take n commands) < loads_in commands
loads-below commands n command here listed =
    let loads = count-yes (λ c. is_listed (put_by c)) commands n command here listed in
    omega (arith, loads, sum_by-take-le (λ c. cond (is_listed (put_by c)) 1 0) commands (n + 1))

-- a `load` line has a file
pub load_has_file : (commands : List Command) (files : List ℕ) (tally : Tally) (command : Command) → tally ≡ tally_at commands files tally.at →
    slice_get commands tally.at ≡ Some command → is_listed (put_by command) ≡ true → loads_in commands ≤ length files → tally.loads < length files
load_has_file commands files tally command stands here listed told =
    let loads : tally.loads ≡ loads_in (take tally.at commands) = ap (λ (t : Tally). t.loads) stands in
    omega (arith, loads, loads-below commands tally.at command here listed)

-- a command that puts the entries of a file
pub next_listed : (commands : List Command) (files : List ℕ) (tally : Tally) (command : Command) → tally ≡ tally_at commands files tally.at →
    slice_get commands tally.at ≡ Some command → is_entry (put_by command) ≡ false → is_listed (put_by command) ≡ true → loads_in commands ≤ length files →
    Path Tally (record { at = tally.at + 1; loads = tally.loads + 1; puts = tally.puts + get_or files tally.loads 0 }) (tally_at commands files (tally.at + 1))
next_listed commands files tally command stands here no_entry listed told =
    let entries = count-no (λ c. is_entry (put_by c)) commands tally.at command here no_entry in
    let more = count-yes (λ c. is_listed (put_by c)) commands tally.at command here listed in
    let loads : tally.loads ≡ loads_in (take tally.at commands) = ap (λ (t : Tally). t.loads) stands in
    let puts : tally.puts ≡ certain_puts (take tally.at commands) files = ap (λ (t : Tally). t.puts) stands in
    let now = ap (λ (n : ℕ). sum (take n files)) (more ∙ ap (λ (n : ℕ). n + 1) (sym loads)) in
    let before = ap (λ (n : ℕ). sum (take n files)) loads in
    let file = sum_by_more (λ x. x) files tally.loads 0 (load_has_file commands files tally command stands here listed told) in
    same_tally _ _ _ _ _ (omega (arith, more, loads)) (omega (arith, puts, entries, now, before, file))

-- what commands certainly put is no more than one entry each, and those of all files
pub puts-most : (commands : List Command) (files : List ℕ) (tally : Tally) → tally ≡ tally_at commands files tally.at → tally.at ≤ length commands →
    tally.puts ≤ tally.at + sum files
puts-most commands files tally stands within =
    let puts : tally.puts ≡ certain_puts (take tally.at commands) files = ap (λ (t : Tally). t.puts) stands in
    omega (
      arith,
      puts,
      count_by-le-length (λ c. is_entry (put_by c)) (take tally.at commands),
      length-take-le tally.at commands within,
      sum_by-take-le (λ x. x) files (loads_in (take tally.at commands)),
    )

-- with one more file, too
pub puts_and_file-most : (commands : List Command) (files : List ℕ) (tally : Tally) → tally ≡ tally_at commands files tally.at → tally.at ≤ length commands →
    tally.loads < length files → tally.puts + get_or files tally.loads 0 ≤ tally.at + sum files
puts_and_file-most commands files tally stands within has_file =
    let loads : tally.loads ≡ loads_in (take tally.at commands) = ap (λ (t : Tally). t.loads) stands in
    let puts : tally.puts ≡ certain_puts (take tally.at commands) files = ap (λ (t : Tally). t.puts) stands in
    let before = ap (λ (n : ℕ). sum (take n files)) loads in
    omega (
      arith,
      puts,
      before,
      count_by-le-length (λ c. is_entry (put_by c)) (take tally.at commands),
      length-take-le tally.at commands within,
      sum_by_more_le (λ x. x) files tally.loads 0 has_file,
    )
