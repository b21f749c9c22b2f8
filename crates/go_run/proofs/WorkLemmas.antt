-- Lemmas on what reading the scripts of a run gives.
use Rattle.std.proofs.Common.{◌≡◌, ◌∙◌, ℕ, zero, suc, ◌+◌, ◌<◌, ◌≤◌, List, [], ◌∷◌, ◌++◌, length, map, take, drop}
use Rattle.std.proofs.Common.{append_assoc, length-append, Option, Some, None, Result, Ok, Err, inl, inr, refl, arith, sym, subst, ap}
use Rattle.std.specs.Prelude.{slice_get, slice_set, slice_index_or, All, cond}
use Rattle.std.specs.List.{AllByRecursion}
use Rattle.std.proofs.lemmas.List.{take-map, drop-map}
use Rattle.std.proofs.lemmas.List.Sums.{sum_by-cons}
use Rattle.std.proofs.lemmas.List.Elements.{All-nil, All-append}
use Rattle.go_word.specs.declared.edge.Edge.{Edge}
use Rattle.go_word.specs.Log.{IsWithin as IsEntryWithin}
use Rattle.go_script.specs.declared.command.Command.{Command}
use Rattle.go_script.specs.declared.command.Command.TheVariants as commands
use Rattle.go_script.specs.declared.step.Step.{Step}
use Rattle.go_script.specs.Commands.{commands_of, put_by}
use Rattle.go_script.specs.Places.{IsWithin, IsScript, NamesBelow}
use Rattle.go_script.specs.Until.{Counted, AsksTooMuch, loads_in, is_listed}
use Rattle.go_session.specs.Asked.{asked_with, may_put, lists_of, entries_given, lists_after}
use Rattle.go_session.specs.Session.{SessionState, unanswered}
use Rattle.go_run.specs.Input.{Texts, Read, Task, tasks_of, counts_of, scripts_under, lists_under}
use Rattle.go_run.specs.Input.{name_loaded, names_loaded, IsJudged, IsWithLists, IsWithScripts, IsInput}
use Rattle.go_run.specs.Work.Work.{driving}
use Rattle.go_run.specs.Reading.{IsReadFrom, MayRead, CanRun, IsReady, ReadsAs, ReadsWork, counted_in}
use Rattle.go_run.specs.NamedText.{AreSteps, AreEntries}
use Rattle.go_run.specs.Files.{AreReadAs, AreTexts, ReadsFiles}
use Rattle.go_run.specs.Lists.{without, AreNamed, HasLists, IsRefusal, RefusesLists}
use Rattle.go_run.specs.Judged.{loads_of, loads_of_all, IsRight, IsWrong, sessions_of}
use Rattle.go_run.specs.declared.status.Status.{Status}
use Rattle.go_run.specs.declared.status.Status.TheVariants.{Done, Words, Script, NoFile, TooMuch, ReadFault}
use Rattle.go_run.specs.declared.status.Status.TheVariants.{NotALog, OtherVertices, DiskFault, WriteFault, Memory}
use Rattle.go_run.proofs.ListLemmas.{All-cons}
use Rattle.go_run.proofs.LoadLineLemmas.{names_of}
use Rattle.go_run.proofs.TaskLemmas.{sessions_are, sessions_new, sessions_count, sessions_counted, All-first}
use Rattle.go_run.proofs.TaskLemmas.{All-rest, All-taken, All-dropped, length-taken, length-dropped}

-- what was read of files and of names may have been read from a shelf
may_read : (shelf : Option Texts) (names : List (List ℕ)) (files : List (Option (List ℕ))) (named : Texts) → AreTexts shelf names files →
    AreNamed shelf named → IsReadFrom shelf names (record { files = files; named = named })
may_read None names files named texts told = tt
may_read (Some known) names files named texts told = (texts, told)

-- the texts of names on a shelf, where it tells
some_named : (shelf : Option Texts) → (named : Texts) × AreNamed shelf named
some_named None = (λ name. None, tt)
some_named (Some known) = (known, refl)

-- the files are refused
pub files_refuse : (v : ℕ) (shelf : Option Texts) (names : List (List ℕ)) (loads : List (List Edge)) (status : Status) → ReadsFiles v shelf names (Err status) →
    ReadsWork v shelf (driving names) loads (Err status)
files_refuse v shelf names loads status reads = record {
  read = record { files = reads.files; named = (some_named shelf).0 };
  may_read = may_read shelf names reads.files (some_named shelf).0 reads.told (some_named shelf).1;
  reads = by status reads.read;
}
  where
    with : (files : List (Option (List ℕ))) (status : Status) → scripts_under v names files ≡ Err status →
        IsInput v names (record { files = files; named = (some_named shelf).0 }) (Err status)
    with files status is =
        subst (λ (r : Result (List (List Step)) Status). IsWithScripts v names (some_named shelf).0 r (Err status)) (sym is) refl

    by : (status : Status) → AreReadAs v names reads.files (Err status) →
        ReadsAs v (driving names) (record { files = reads.files; named = (some_named shelf).0 }) loads (Err status)
    by Done is = absurd is
    by Words is = absurd is
    by (Script name line kind) is = with reads.files (Script name line kind) is
    by (NoFile name) is = with reads.files (NoFile name) is
    by (TooMuch counted limit) is = with reads.files (TooMuch counted limit) is
    by (ReadFault name) is = (
      record { files = slice_set reads.files is.0 None; named = (some_named shelf).0 },
      inl (is.0, is.1, refl),
      with (slice_set reads.files is.0 None) (NoFile name) is.2,
    )
    by (NotALog at kind) is = absurd is
    by (OtherVertices file asked) is = absurd is
    by DiskFault is = absurd is
    by WriteFault is = absurd is
    by Memory is = tt

-- the lists are refused
pub lists_refuse : (v : ℕ) (shelf : Option Texts) (names : List (List ℕ)) (scripts : List (List Step)) (loads : List (List Edge)) (status : Status) →
    ReadsFiles v shelf names (Ok scripts) → RefusesLists v shelf (names_loaded scripts) status → ReadsWork v shelf (driving names) loads (Err status)
lists_refuse v shelf names scripts loads status reads refuses = record {
  read = record { files = reads.files; named = refuses.named };
  may_read = may_read shelf names reads.files refuses.named reads.told refuses.told;
  reads = by status refuses.refusal;
}
  where
    with : (named : Texts) (status : Status) → lists_under v named (names_loaded scripts) ≡ Err status →
        IsInput v names (record { files = reads.files; named = named }) (Err status)
    with named status is =
        subst (λ (r : Result (List (List Step)) Status). IsWithScripts v names named r (Err status)) (sym reads.read)
        (subst (λ (r : Result (List (List Edge)) Status). IsWithLists names scripts r (Err status)) (sym is) refl)

    by : (status : Status) → IsRefusal v refuses.named (names_loaded scripts) status →
        ReadsAs v (driving names) (record { files = reads.files; named = refuses.named }) loads (Err status)
    by Done is = absurd is
    by Words is = absurd is
    by (Script name line kind) is = with refuses.named (Script name line kind) is
    by (NoFile name) is = with refuses.named (NoFile name) is
    by (TooMuch counted limit) is = with refuses.named (TooMuch counted limit) is
    by (ReadFault name) is = (
      record { files = reads.files; named = without name refuses.named },
      inr refl,
      with (without name refuses.named) (NoFile name) is,
    )
    by (NotALog at kind) is = absurd is
    by (OtherVertices file asked) is = absurd is
    by DiskFault is = absurd is
    by WriteFault is = absurd is
    by Memory is = tt

-- scripts with their lists were judged so
judged_so : (v : ℕ) (shelf : Option Texts) (names : List (List ℕ)) (scripts : List (List Step)) (loads : List (List Edge)) (numbers : List ℕ)
    (reads : ReadsFiles v shelf names (Ok scripts)) (has : HasLists v shelf loads (names_loaded scripts) numbers) (result : Result (List Task) Status) →
    IsJudged names scripts (lists_of loads numbers) result → IsInput v names (record { files = reads.files; named = has.named }) result
judged_so v shelf names scripts loads numbers reads has result judged =
    subst (λ (r : Result (List (List Step)) Status). IsWithScripts v names has.named r result) (sym reads.read)
    (subst (λ (r : Result (List (List Edge)) Status). IsWithLists names scripts r result) (sym has.read) judged)

-- they are wrong
pub judged_wrong : (v : ℕ) (shelf : Option Texts) (names : List (List ℕ)) (scripts : List (List Step)) (loads : List (List Edge)) (numbers : List ℕ)
    (status : Status) → ReadsFiles v shelf names (Ok scripts) → HasLists v shelf loads (names_loaded scripts) numbers →
    IsWrong names scripts (lists_of loads numbers) status → ReadsWork v shelf (driving names) loads (Err status)
judged_wrong v shelf names scripts loads numbers status reads has wrong = record {
  read = record { files = reads.files; named = has.named };
  may_read = may_read shelf names reads.files has.named reads.told has.told;
  reads = elim wrong [
    | inl h ↦ by status h
    | inr h ↦ subst (λ (s : Status). ReadsAs v (driving names) (record { files = reads.files; named = has.named }) loads (Err s)) (sym h) tt
  ];
}
  where
    by : (status : Status) → IsJudged names scripts (lists_of loads numbers) (Err status) →
        ReadsAs v (driving names) (record { files = reads.files; named = has.named }) loads (Err status)
    by Done is = absurd is
    by Words is = absurd is
    by (Script name line kind) is = judged_so v shelf names scripts loads numbers reads has (Err (Script name line kind)) is
    by (NoFile name) is = absurd is
    by (TooMuch counted limit) is = judged_so v shelf names scripts loads numbers reads has (Err (TooMuch counted limit)) is
    by (ReadFault name) is = absurd is
    by (NotALog at kind) is = absurd is
    by (OtherVertices file asked) is = absurd is
    by DiskFault is = absurd is
    by WriteFault is = absurd is
    by Memory is = absurd is

-- want of memory tells nothing
pub no_memory : (v : ℕ) (shelf : Option Texts) (names : List (List ℕ)) (loads : List (List Edge)) → ReadsWork v shelf (driving names) loads (Err Memory)
no_memory v None names loads = record { read = record { files = []; named = λ name. None }; may_read = tt; reads = tt }
no_memory v (Some known) names loads = record { read = record { files = map known names; named = known }; may_read = (refl, refl); reads = tt }

-- the scripts of tasks
tasks_scripts : (v number : ℕ) (scripts : List (List Step)) (numbers : List ℕ) (lists : List (List Edge)) → All (AreSteps v) scripts →
    All (λ s. IsScript s.commands) (sessions_of number scripts numbers) →
    All (λ task. IsScript task.commands × IsWithin v task.commands) (tasks_of scripts lists)
tasks_scripts v number [] numbers lists steps are = All-nil (λ (task : Task). IsScript task.commands × IsWithin v task.commands)
tasks_scripts v number (script ∷ scripts) numbers lists steps are =
    let session = unanswered number (commands_of script) (take (loads_of script) numbers) in
    let others = sessions_of (number + 1) scripts (drop (loads_of script) numbers) in
    All-cons (λ (task : Task). IsScript task.commands × IsWithin v task.commands)
    (record { commands = commands_of script; lists = take (loads_of script) lists }) (tasks_of scripts (drop (loads_of script) lists))
    (All-first (λ (s : SessionState). IsScript s.commands) session others are, (All-first (AreSteps v) script scripts steps).within)
    (tasks_scripts v (number + 1) scripts (drop (loads_of script) numbers) (drop (loads_of script) lists) (All-rest (AreSteps v) script scripts steps)
    (All-rest (λ (s : SessionState). IsScript s.commands) session others are))

-- what one command puts is over the vertices
given_within : (v : ℕ) (command : Command) (lists : List (List Edge)) → NamesBelow v command → All (λ list. All (IsEntryWithin v) list) lists →
    All (IsEntryWithin v) (entries_given (put_by command) lists) × All (λ list. All (IsEntryWithin v) list) (lists_after (put_by command) lists)
given_within v (commands.Add src dst) lists below are =
    (All-cons (IsEntryWithin v) _ [] (record { source = below.0; destination = below.1.0 }) (All-nil (IsEntryWithin v)), are)
given_within v (commands.Del src dst) lists below are =
    (All-cons (IsEntryWithin v) _ [] (record { source = below.0; destination = below.1.0 }) (All-nil (IsEntryWithin v)), are)
given_within v (commands.Offer src dst) lists below are =
    (All-cons (IsEntryWithin v) _ [] (record { source = below.0; destination = below.1.0 }) (All-nil (IsEntryWithin v)), are)
given_within v (commands.Load name) [] below are = (All-nil (IsEntryWithin v), are)
given_within v (commands.Load name) (list ∷ lists) below are =
    (All-first (λ (l : List Edge). All (IsEntryWithin v) l) list lists are, All-rest (λ (l : List Edge). All (IsEntryWithin v) l) list lists are)
given_within v (commands.View place) lists below are = (All-nil (IsEntryWithin v), are)
given_within v (commands.Drop place) lists below are = (All-nil (IsEntryWithin v), are)
given_within v (commands.Degree place vertex) lists below are = (All-nil (IsEntryWithin v), are)
given_within v (commands.Neigh place vertex) lists below are = (All-nil (IsEntryWithin v), are)
given_within v (commands.Hop place vertex) lists below are = (All-nil (IsEntryWithin v), are)
given_within v (commands.Level place root vertex) lists below are = (All-nil (IsEntryWithin v), are)
given_within v (commands.Bfs place root) lists below are = (All-nil (IsEntryWithin v), are)
given_within v (commands.Rank place count) lists below are = (All-nil (IsEntryWithin v), are)
given_within v (commands.Stream place) lists below are = (All-nil (IsEntryWithin v), are)
given_within v (commands.Close place) lists below are = (All-nil (IsEntryWithin v), are)
given_within v (commands.Update place max) lists below are = (All-nil (IsEntryWithin v), are)
given_within v (commands.Until asked) lists below are = (All-nil (IsEntryWithin v), are)
given_within v commands.Sync lists below are = (All-nil (IsEntryWithin v), are)
given_within v commands.Compact lists below are = (All-nil (IsEntryWithin v), are)

-- what commands put is
pub puts_within : (v : ℕ) (commands : List Command) (lists : List (List Edge)) → IsWithin v commands → All (λ list. All (IsEntryWithin v) list) lists →
    All (IsEntryWithin v) (may_put (asked_with commands lists))
puts_within v [] lists within are = All-nil (IsEntryWithin v)
puts_within v (command ∷ commands) lists within are =
    let given = given_within v command lists (within.each 0 command refl) are in
    All-append (IsEntryWithin v) (entries_given (put_by command) lists) (may_put (asked_with commands (lists_after (put_by command) lists))) given.0
    (puts_within v commands (lists_after (put_by command) lists) (record { each = λ k c here. within.each (suc k) c here }) given.1)

-- what tasks put is
tasks_entries : (v : ℕ) (scripts : List (List Step)) (lists : List (List Edge)) → All (AreSteps v) scripts →
    All (λ list. All (IsEntryWithin v) list) lists →
    All (λ task. All (IsEntryWithin v) (may_put (asked_with task.commands task.lists))) (tasks_of scripts lists)
tasks_entries v [] lists steps are = All-nil (λ (task : Task). All (IsEntryWithin v) (may_put (asked_with task.commands task.lists)))
tasks_entries v (script ∷ scripts) lists steps are =
    All-cons (λ (task : Task). All (IsEntryWithin v) (may_put (asked_with task.commands task.lists)))
    (record { commands = commands_of script; lists = take (loads_of script) lists }) (tasks_of scripts (drop (loads_of script) lists))
    (puts_within v (commands_of script) (take (loads_of script) lists) (All-first (AreSteps v) script scripts steps).within
    (All-taken (λ (l : List Edge). All (IsEntryWithin v) l) (loads_of script) lists are))
    (tasks_entries v scripts (drop (loads_of script) lists) (All-rest (AreSteps v) script scripts steps)
    (All-dropped (λ (l : List Edge). All (IsEntryWithin v) l) (loads_of script) lists are))

-- the lists of numbers are over the vertices
lists_within : (v : ℕ) (loads : List (List Edge)) (numbers : List ℕ) → All (AreEntries v) loads → All (λ n. n < length loads) numbers →
    All (λ list. All (IsEntryWithin v) list) (lists_of loads numbers)
lists_within v loads [] are there = All-nil (λ (l : List Edge). All (IsEntryWithin v) l)
lists_within v loads (number ∷ numbers) are there =
    All-cons (λ (l : List Edge). All (IsEntryWithin v) l) (slice_index_or loads number []) (lists_of loads numbers)
    (are number [] (All-first (λ n. n < length loads) number numbers there)).within
    (lists_within v loads numbers are (All-rest (λ n. n < length loads) number numbers there))

-- the sessions are ready
pub sessions_ready : (v : ℕ) (shelf : Option Texts) (names : List (List ℕ)) (scripts : List (List Step)) (loads : List (List Edge)) (numbers : List ℕ)
    (sessions : List SessionState) → ReadsFiles v shelf names (Ok scripts) → All (AreSteps v) scripts → HasLists v shelf loads (names_loaded scripts) numbers →
    IsRight scripts (lists_of loads numbers) → sessions ≡ sessions_of 1 scripts numbers → All (λ s. IsScript s.commands) sessions → 1 ≤ length scripts →
    length scripts ≤ 8 → ReadsWork v shelf (driving names) loads (Ok sessions)
sessions_ready v shelf names scripts loads numbers sessions reads steps has right are are_scripts some few =
    subst (λ (s : List SessionState). ReadsWork v shelf (driving names) loads (Ok s)) (sym are) (record {
      read = record { files = reads.files; named = has.named };
      may_read = may_read shelf names reads.files has.named reads.told has.told;
      reads = (
        tasks_of scripts (lists_of loads numbers),
        judged_so v shelf names scripts loads numbers reads has (Ok (tasks_of scripts (lists_of loads numbers))) (refl, right.until, right.few),
        ready,
      );
    })
  where
    can_run : CanRun v (tasks_of scripts (lists_of loads numbers))
    can_run = record {
      scripts = tasks_scripts v 1 scripts numbers (lists_of loads numbers) steps
          (subst (λ (s : List SessionState). All (λ one. IsScript one.commands) s) are are_scripts);
      entries = tasks_entries v scripts (lists_of loads numbers) steps (lists_within v loads numbers has.entries has.there);
      few = right.few;
    }

    ready : IsReady v (tasks_of scripts (lists_of loads numbers)) loads (sessions_of 1 scripts numbers)
    ready = record {
      are = sessions_are 1 loads scripts numbers;
      new = sessions_new 1 (length loads) scripts numbers has.there;
      can_run = can_run;
      waits = λ i n asks. right.until i n (subst (λ (s : List Counted). AsksTooMuch s i n) (sessions_counted 1 loads scripts numbers) asks);
      some = omega (arith, some, sessions_count 1 scripts numbers);
      few = omega (arith, few, sessions_count 1 scripts numbers);
    }

-- one session more is made
pub session_next : (number : ℕ) (done : List SessionState) (steps : List Step) (rest : List (List Step)) (left : List ℕ) (all : List SessionState) →
    done ++ sessions_of number (steps ∷ rest) left ≡ all →
    (done ++ unanswered number (commands_of steps) (take (loads_of steps) left) ∷ []) ++ sessions_of (number + 1) rest (drop (loads_of steps) left) ≡ all
session_next number done steps rest left all is =
    append_assoc done (unanswered number (commands_of steps) (take (loads_of steps) left) ∷ [])
    (sessions_of (number + 1) rest (drop (loads_of steps) left)) ∙ is

-- the numbers that are left then
pub loads_left : (steps : List Step) (rest : List (List Step)) (left : List ℕ) → length left ≡ loads_of_all (steps ∷ rest) →
    (loads_of steps ≤ length left) × (length (take (loads_of steps) left) ≡ loads_of steps) × (length (drop (loads_of steps) left) ≡ loads_of_all rest)
loads_left steps rest left is =
    let loads = sum_by-cons loads_of steps rest in
    let within : loads_of steps ≤ length left = omega (arith, is, loads) in
    (within, length-taken (loads_of steps) left within, length-dropped (loads_of steps) (loads_of_all rest) left (omega (arith, is, loads)))

-- a command loads a name where it puts a list
one_name : (command : Command) → length (name_loaded command) ≡ cond (is_listed (put_by command)) 1 0
one_name (commands.Add src dst) = refl
one_name (commands.Del src dst) = refl
one_name (commands.Offer src dst) = refl
one_name (commands.Load name) = refl
one_name (commands.View place) = refl
one_name (commands.Drop place) = refl
one_name (commands.Degree place vertex) = refl
one_name (commands.Neigh place vertex) = refl
one_name (commands.Hop place vertex) = refl
one_name (commands.Level place root vertex) = refl
one_name (commands.Bfs place root) = refl
one_name (commands.Rank place count) = refl
one_name (commands.Stream place) = refl
one_name (commands.Close place) = refl
one_name (commands.Update place max) = refl
one_name (commands.Until asked) = refl
one_name commands.Sync = refl
one_name commands.Compact = refl

-- commands load as many names as they have loads
names_of_count : (commands : List Command) → length (names_of commands) ≡ loads_in commands
names_of_count [] = refl
names_of_count (command ∷ commands) =
    omega (
      arith,
      length-append (name_loaded command) (names_of commands),
      one_name command,
      names_of_count commands,
      sum_by-cons (λ c. cond (is_listed (put_by c)) 1 0) command commands,
    )

-- and so do scripts
pub names_count : (scripts : List (List Step)) → length (names_loaded scripts) ≡ loads_of_all scripts
names_count [] = refl
names_count (steps ∷ scripts) =
    omega (
      arith,
      length-append (names_of (commands_of steps)) (names_loaded scripts),
      names_of_count (commands_of steps),
      names_count scripts,
      sum_by-cons loads_of steps scripts,
    )
