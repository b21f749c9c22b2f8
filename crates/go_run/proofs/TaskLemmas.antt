-- Lemmas on scripts with their lists: what they may put, and their tasks and sessions.
use Rattle.std.proofs.Common.{◌≡◌, ◌∙◌, ℕ, zero, suc, ◌+◌, ◌*◌, ◌<◌, ◌≤◌, ◌^◌, Bool, true, false, List, [], ◌∷◌, ◌++◌, length}
use Rattle.std.proofs.Common.{map, take, drop, length-append, get_or, Option, Some, None, Ok, Err, inl, inr, refl, arith, sym, subst, ap}
use Rattle.std.specs.Prelude.{slice_index_or, slice_get, All, sum, sum_by, count_by, cond}
use Rattle.std.specs.List.{AllByRecursion}
use Rattle.std.proofs.lemmas.List.{take-map, drop-map, length-map}
use Rattle.std.proofs.lemmas.List.Sums.{sum_by-cons, sum_by_more, count_by-le-length}
use Rattle.std.proofs.lemmas.Option.{slice_get_within, slice_get-get_or, get_or_from_slice_get}
use Rattle.std.proofs.lemmas.List.Elements.{All-nil, All-append}
use Rattle.go_word.specs.declared.edge.Edge.{Edge}
use Rattle.go_word.specs.Log.{IsWithin as IsEntryWithin}
use Rattle.go_api.specs.declared.limits.TheConstants.{LOG_ENTRIES}
use Rattle.go_script.specs.declared.command.Command.{Command}
use Rattle.go_script.specs.declared.command.Command.TheVariants as commands
use Rattle.go_script.specs.declared.puts.Puts.{Puts}
use Rattle.go_script.specs.declared.puts.Puts.TheVariants.{Nothing, Entry, Offered, Listed}
use Rattle.go_script.specs.declared.step.Step.{Step}
use Rattle.go_script.specs.Commands.{commands_of, put_by}
use Rattle.go_script.specs.Places.{IsWithin, IsScript, NamesBelow}
use Rattle.go_script.specs.Until.{Counted, loads_in, is_listed, counted_of, KeepsUntil, AsksTooMuch}
use Rattle.go_session.specs.Asked.{asked_with, may_put, lists_of, entries_given, lists_after}
use Rattle.go_session.specs.Session.{SessionState, unanswered}
use Rattle.go_run.specs.Course.{AreOf}
use Rattle.go_run.specs.Input.{Task, task_count, count_of, tasks_of, counts_of}
use Rattle.go_run.specs.Reading.{CanRun, IsNew, IsReady, WaitsForCertain, counted_in}
use Rattle.go_run.specs.NamedText.{AreSteps, AreEntries}
use Rattle.go_run.specs.Judged.{is_single, singles_in, loads_of, loads_of_all, IsRight, sessions_of}
use Rattle.go_run.specs.declared.limits.TheConstants.{TEXT_BYTES}
use Rattle.go_script.specs.Until.{IsFirstAgainst}
use Rattle.go_script.specs.declared.until.Place.{Place}
use Rattle.go_text.specs.declared.faults.FaultKind.TheVariants as kinds
use Rattle.go_run.specs.Input.{IsJudged}
use Rattle.go_run.specs.Reading.{IsOrMemory}
use Rattle.go_run.specs.Judged.{IsWrong}
use Rattle.go_run.specs.declared.status.Status.{Status}
use Rattle.go_run.specs.declared.status.Status.TheVariants.{Script, TooMuch}
use Rattle.go_run.proofs.ListLemmas.{All-cons}

-- a list and its sum of lengths
abbrev pub entries_in_all : List (List Edge) → ℕ
entries_in_all lists = sum (map (λ l. length l) lists)

pub entries-cons : (list : List Edge) (lists : List (List Edge)) → entries_in_all (list ∷ lists) ≡ length list + entries_in_all lists
entries-cons list lists = sum_by-cons (λ x. x) (length list) (map (λ l. length l) lists)

-- what one command puts, and what is left for those after it
one_put : (puts : Puts) (lists : List (List Edge)) (n : ℕ) → length lists ≡ cond (is_listed puts) 1 0 + n →
    (length (entries_given puts lists) + entries_in_all (lists_after puts lists) ≡ cond (is_single puts) 1 0 + entries_in_all lists)
    × (length (lists_after puts lists) ≡ n)
one_put Nothing lists n is = (omega arith, omega (arith, is))
one_put (Entry edge) lists n is = (omega arith, omega (arith, is))
one_put (Offered edge) lists n is = (omega arith, omega (arith, is))
one_put Listed [] n is = absurd (omega (arith, is))
one_put Listed (list ∷ lists) n is = (omega (arith, entries-cons list lists), omega (arith, is))

-- how many entries commands may put: their own, and those of the lists of their loads
pub puts_of : (commands : List Command) (lists : List (List Edge)) → length lists ≡ loads_in commands →
    length (may_put (asked_with commands lists)) ≡ count_by (λ c. is_single (put_by c)) commands + entries_in_all lists
puts_of [] [] counted = refl
puts_of [] (list ∷ lists) counted = absurd (omega (arith, counted))
puts_of (command ∷ commands) lists counted =
    let loads = sum_by-cons (λ c. cond (is_listed (put_by c)) 1 0) command commands in
    let singles = sum_by-cons (λ c. cond (is_single (put_by c)) 1 0) command commands in
    let put = one_put (put_by command) lists (loads_in commands) (omega (arith, counted, loads)) in
    let rest = puts_of commands (lists_after (put_by command) lists) put.1 in
    let both = length-append (entries_given (put_by command) lists) (may_put (asked_with commands (lists_after (put_by command) lists))) in
    omega (arith, put.0, rest, both, singles)

-- first lists and the others
entries-split : (n : ℕ) (lists : List (List Edge)) → entries_in_all lists ≡ entries_in_all (take n lists) + entries_in_all (drop n lists)
entries-split zero lists = omega arith
entries-split (suc n) [] = refl
entries-split (suc n) (list ∷ lists) = omega (arith, entries-cons list lists, entries-cons list (take n lists), entries-split n lists)

-- as many as are taken
pub length-taken : {A : Type 0} (n : ℕ) (xs : List A) → n ≤ length xs → length (take n xs) ≡ n
length-taken zero xs within = refl
length-taken (suc n) [] within = absurd (omega (arith, within))
length-taken (suc n) (x ∷ xs) within = ap suc (length-taken n xs (omega (arith, within)))

pub length-dropped : {A : Type 0} (n m : ℕ) (xs : List A) → length xs ≡ n + m → length (drop n xs) ≡ m
length-dropped zero m xs is = omega (arith, is)
length-dropped (suc n) m [] is = absurd (omega (arith, is))
length-dropped (suc n) m (x ∷ xs) is = length-dropped n m xs (omega (arith, is))

-- how many entries the tasks of scripts may put
pub count_of_tasks : (scripts : List (List Step)) (lists : List (List Edge)) → length lists ≡ loads_of_all scripts →
    count_of (tasks_of scripts lists) ≡ sum_by singles_in scripts + entries_in_all lists
count_of_tasks [] [] counted = refl
count_of_tasks [] (list ∷ lists) counted = absurd (omega (arith, counted))
count_of_tasks (steps ∷ scripts) lists counted =
    let n = loads_of steps in
    let loads = sum_by-cons loads_of steps scripts in
    let singles = sum_by-cons singles_in steps scripts in
    let own = puts_of (commands_of steps) (take n lists) (length-taken n lists (omega (arith, counted, loads))) in
    let rest = count_of_tasks scripts (drop n lists) (length-dropped n (loads_of_all scripts) lists (omega (arith, counted, loads))) in
    let first = sum_by-cons task_count (record { commands = commands_of steps; lists = take n lists }) (tasks_of scripts (drop n lists)) in
    omega (arith, singles, own, rest, first, entries-split n lists)

-- a script has no more loads than steps
pub loads-le : (steps : List Step) → loads_of steps ≤ length steps
loads-le steps = omega (arith, count_by-le-length (λ c. is_listed (put_by c)) (commands_of steps), length-map steps (λ s. s.command))

-- what holds of all holds of those behind the first, of first ones, and of the others
pub All-rest : {A : Type 0} (P : A → Type 0) (x : A) (xs : List A) → All P (x ∷ xs) → All P xs
All-rest P x xs all k d less = all (suc k) d (omega (arith, less))

pub All-first : {A : Type 0} (P : A → Type 0) (x : A) (xs : List A) → All P (x ∷ xs) → P x
All-first P x xs all = all 0 x (omega arith)

pub All-taken : {A : Type 0} (P : A → Type 0) (n : ℕ) (xs : List A) → All P xs → All P (take n xs)
All-taken P zero xs all = All-nil P
All-taken P (suc n) [] all = All-nil P
All-taken P (suc n) (x ∷ xs) all = All-cons P x (take n xs) (All-first P x xs all) (All-taken P n xs (All-rest P x xs all))

pub All-dropped : {A : Type 0} (P : A → Type 0) (n : ℕ) (xs : List A) → All P xs → All P (drop n xs)
All-dropped P zero xs all = all
All-dropped P (suc n) [] all = All-nil P
All-dropped P (suc n) (x ∷ xs) all = All-dropped P n xs (All-rest P x xs all)

-- scripts have no more loads than texts may have lines
pub loads_small : (v : ℕ) (scripts : List (List Step)) → All (AreSteps v) scripts → loads_of_all scripts ≤ length scripts * (TEXT_BYTES + 1)
loads_small v [] are = omega arith
loads_small v (steps ∷ scripts) are =
    let first = All-first (AreSteps v) steps scripts are in
    omega (arith, sum_by-cons loads_of steps scripts, loads-le steps, first.few, loads_small v scripts (All-rest (AreSteps v) steps scripts are))

-- lists have no more entries than texts may have items
pub entries_small : (v : ℕ) (loads : List (List Edge)) (numbers : List ℕ) → All (AreEntries v) loads → All (λ n. n < length loads) numbers →
    entries_in_all (lists_of loads numbers) ≤ length numbers * (TEXT_BYTES + 1)
entries_small v loads [] are there = omega arith
entries_small v loads (number ∷ numbers) are there =
    let first = are number [] (All-first (λ n. n < length loads) number numbers there) in
    omega (
      arith,
      entries-cons (slice_index_or loads number []) (lists_of loads numbers),
      first.few,
      entries_small v loads numbers are (All-rest (λ n. n < length loads) number numbers there),
    )

-- the sessions of scripts are those of their tasks
pub sessions_are : (number : ℕ) (loads : List (List Edge)) (scripts : List (List Step)) (numbers : List ℕ) →
    AreOf number loads (tasks_of scripts (lists_of loads numbers)) (sessions_of number scripts numbers)
sessions_are number loads [] numbers = tt
sessions_are number loads (steps ∷ scripts) numbers =
    let list = λ (n : ℕ). slice_index_or loads n [] in (
      refl,
      refl,
      sym (take-map list (loads_of steps) numbers),
      rw (drop-map list (loads_of steps) numbers) (sessions_are (number + 1) loads scripts (drop (loads_of steps) numbers)),
    )

-- they are new
pub sessions_new : (number count : ℕ) (scripts : List (List Step)) (numbers : List ℕ) → All (λ n. n < count) numbers →
    All (IsNew count) (sessions_of number scripts numbers)
sessions_new number count [] numbers there = All-nil (IsNew count)
sessions_new number count (steps ∷ scripts) numbers there =
    All-cons (IsNew count) (unanswered number (commands_of steps) (take (loads_of steps) numbers))
    (sessions_of (number + 1) scripts (drop (loads_of steps) numbers))
    (record { new = refl; lists = All-taken (λ n. n < count) (loads_of steps) numbers there })
    (sessions_new (number + 1) count scripts (drop (loads_of steps) numbers) (All-dropped (λ n. n < count) (loads_of steps) numbers there))

-- they are as many
pub sessions_count : (number : ℕ) (scripts : List (List Step)) (numbers : List ℕ) → length (sessions_of number scripts numbers) ≡ length scripts
sessions_count number [] numbers = refl
sessions_count number (steps ∷ scripts) numbers = ap suc (sessions_count (number + 1) scripts (drop (loads_of steps) numbers))

-- they are counted as their scripts
pub sessions_counted : (number : ℕ) (loads : List (List Edge)) (scripts : List (List Step)) (numbers : List ℕ) →
    map (counted_in loads) (sessions_of number scripts numbers) ≡ counted_of scripts (counts_of (lists_of loads numbers))
sessions_counted number loads [] numbers = refl
sessions_counted number loads (steps ∷ scripts) numbers =
    let list = λ (n : ℕ). slice_index_or loads n [] in
    let n = loads_of steps in
    let own : map (λ l. length l) (lists_of loads (take n numbers)) ≡ take n (counts_of (lists_of loads numbers)) =
    ap (λ (l : List (List Edge)). map (λ l. length l) l) (sym (take-map list n numbers))
    ∙ sym (take-map (λ (l : List Edge). length l) n (lists_of loads numbers)) in
    let rest : counts_of (lists_of loads (drop n numbers)) ≡ drop n (counts_of (lists_of loads numbers)) =
    ap (λ (l : List (List Edge)). map (λ l. length l) l) (sym (drop-map list n numbers))
    ∙ sym (drop-map (λ (l : List Edge). length l) n (lists_of loads numbers)) in
    rw (sessions_counted (number + 1) loads scripts (drop n numbers), own, rest) refl

-- one command more is counted
pub count_next : (test : Command → Bool) (commands : List Command) (at : ℕ) (command : Command) (count next : ℕ) (is : Bool) →
    slice_get commands at ≡ Some command → count ≡ count_by test (take at commands) → test command ≡ is → next ≡ count + cond is 1 0 →
    next ≡ count_by test (take (at + 1) commands)
count_next test commands at command count next is here counted tested step =
    let within = slice_get_within commands at command here in
    let more = sum_by_more (λ c. cond (test c) 1 0) commands at command within in
    let last = ap {B = ℕ} (λ (c : Command). cond (test c) 1 0) (get_or_from_slice_get commands at command command here) in
    let own = ap {B = ℕ} (λ (b : Bool). cond b 1 0) tested in
    omega (arith, counted, step, more, last, own)

-- what is put is small enough to be summed
pub puts_small : (v : ℕ) (scripts : List (List Step)) (loads : List (List Edge)) (numbers : List ℕ) → length scripts ≤ 8 → All (AreSteps v) scripts →
    All (AreEntries v) loads → All (λ n. n < length loads) numbers → length numbers ≡ loads_of_all scripts →
    entries_in_all (lists_of loads numbers) ≤ 2 ^ 56
puts_small v scripts loads numbers few steps entries there counted =
    omega (arith, few, counted, loads_small v scripts steps, entries_small v loads numbers entries there)

-- a line that waits for too much is told with the name of its file
pub wrong_until : (names : List (List ℕ)) (scripts : List (List Step)) (lists : List (List Edge)) (place : Place) (name : List ℕ) (status : Status) →
    IsFirstAgainst scripts (counts_of lists) place → slice_get names place.script ≡ Some name → IsOrMemory (Script name place.line kinds.Until) status →
    IsWrong names scripts lists status
wrong_until names scripts lists place name status first named is = elim is [
  | inl h ↦ inl (subst (λ (s : Status). IsJudged names scripts lists (Err s)) (sym h) (place, first, named, refl))
  | inr h ↦ inr h
]

-- too many puts are told
pub wrong_puts : (names : List (List ℕ)) (scripts : List (List Step)) (lists : List (List Edge)) (counted : ℕ) → KeepsUntil scripts (counts_of lists) →
    length lists ≡ loads_of_all scripts → counted ≡ sum_by singles_in scripts + entries_in_all lists → LOG_ENTRIES < counted →
    IsWrong names scripts lists (TooMuch counted LOG_ENTRIES)
wrong_puts names scripts lists counted until all is over =
    let count = count_of_tasks scripts lists all in
    inl (until, omega (arith, count, is, over), is ∙ sym count, refl)

-- scripts are right
pub are_right : (scripts : List (List Step)) (lists : List (List Edge)) (counted : ℕ) → KeepsUntil scripts (counts_of lists) →
    length lists ≡ loads_of_all scripts → counted ≡ sum_by singles_in scripts + entries_in_all lists → counted ≤ LOG_ENTRIES → IsRight scripts lists
are_right scripts lists counted until all is few = record { until = until; few = omega (arith, count_of_tasks scripts lists all, is, few) }

-- the element that was read
pub slice_get-is : {A : Type 0} (xs : List A) (i : ℕ) (x : A) → i < length xs → x ≡ get_or xs i x → slice_get xs i ≡ Some x
slice_get-is xs i x within is = slice_get-get_or xs i x within ∙ ap Some (sym is)
