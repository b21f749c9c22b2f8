-- Lemmas on several scripts, each with its part of one list of files.
use Rattle.std.proofs.Common.{◌≡◌, ℕ, suc, zero, ◌+◌, ◌-◌, ◌<◌, ◌≤◌, inl, inr, List, [], ◌∷◌}
use Rattle.std.proofs.Common.{length, take, drop, drop-cons, length-drop, get_or, slice_get, Some, refl, sym, subst, ap, ◌∙◌, arith}
use Rattle.std.specs.Prelude.{cond, sum, sum_by, remove, Result, Ok, Err, MatchResult}
use Rattle.std.proofs.Math.Seq.{take-length}
use Rattle.std.proofs.lemmas.List.{take-take, drop-drop}
use Rattle.std.proofs.lemmas.List.Sums.{sum_by-cons, sum_by_more, sum_by-take-le, sum_by-take-drop, sum_by-remove}
use Rattle.std.proofs.lemmas.Option.{slice_get_within, slice_get-get_or, get_or_from_slice_get}
use Rattle.go_script.specs.declared.command.Command.{Command}
use Rattle.go_script.specs.declared.step.Step.{Step}
use Rattle.go_script.specs.Commands.{commands_of, put_by}
use Rattle.go_script.specs.Until.{Counted, is_entry, is_listed, loads_in, certain_puts, counted_of, early_puts, AsksTooMuch, KeepsUntil, IsFirstAgainst}
use Rattle.go_script.specs.Walked.{first_wait, session_of, Exceeds, NeverExceeds, FirstExceeds}
use Rattle.go_script.proofs.UntilLemmas.{below_next}

-- first commands have no more loads than all
loads-take-le : (commands : List Command) (n : ℕ) → loads_in (take n commands) ≤ loads_in commands
loads-take-le commands n = sum_by-take-le (λ c. cond (is_listed (put_by c)) 1 0) commands n

-- what first commands put needs no more files than those of all commands
pub certain_puts-files : (commands : List Command) (left : List ℕ) (n : ℕ) →
    certain_puts (take n commands) (take (loads_in commands) left) ≡ certain_puts (take n commands) left
certain_puts-files commands left n =
    ap (λ (files : List ℕ). count_entries + sum files) (take-take (loads_in (take n commands)) (loads_in commands) left (loads-take-le commands n))
  where
    count_entries : ℕ
    count_entries = sum_by (λ c. cond (is_entry (put_by c)) 1 0) (take n commands)

-- a command that asks for too much, by its script's own files
pub Exceeds-own : (steps : List Step) (left : List ℕ) (others n : ℕ) → Exceeds (commands_of steps) left others n →
    Exceeds (commands_of steps) (session_of steps left).files others n
Exceeds-own steps left others n exceeds = record {
  command = exceeds.command;
  comes = exceeds.comes;
  asked = exceeds.asked;
  asks = exceeds.asks;
  too_much = omega (arith, exceeds.too_much, certain_puts-files (commands_of steps) left n);
}

-- and by all files that are left
pub Exceeds-left : (steps : List Step) (left : List ℕ) (others n : ℕ) → Exceeds (commands_of steps) (session_of steps left).files others n →
    Exceeds (commands_of steps) left others n
Exceeds-left steps left others n exceeds = record {
  command = exceeds.command;
  comes = exceeds.comes;
  asked = exceeds.asked;
  asks = exceeds.asks;
  too_much = omega (arith, exceeds.too_much, certain_puts-files (commands_of steps) left n);
}

-- what a script puts before it first waits, by all files that are left
pub early_puts-left : (steps : List Step) (left : List ℕ) →
    early_puts (session_of steps left) ≡ certain_puts (take (first_wait (commands_of steps)) (commands_of steps)) left
early_puts-left steps left = certain_puts-files (commands_of steps) left (first_wait (commands_of steps))

-- no command asks for too much, by the script's own files
never-own : (steps : List Step) (left : List ℕ) (others : ℕ) → NeverExceeds (commands_of steps) left others →
    NeverExceeds (commands_of steps) (session_of steps left).files others
never-own steps left others never = λ n exceeds. never n (Exceeds-left steps left others n exceeds)

-- the first command that does, by the script's own files
first-own : (steps : List Step) (left : List ℕ) (others line : ℕ) → FirstExceeds steps left others line →
    FirstExceeds steps (session_of steps left).files others line
first-own steps left others line found = record {
  n = found.n;
  step = found.step;
  comes = found.comes;
  is_line = found.is_line;
  exceeds = Exceeds-own steps left others found.n found.exceeds;
  first = λ m less exceeds. found.first m less (Exceeds-left steps left others m exceeds);
}

-- what a script's judging answers, by its own files
pub judged-own : (steps : List Step) (left : List ℕ) (others : ℕ) (answer : Result ℕ ℕ) →
    MatchResult answer (λ loads. (loads ≡ loads_in (commands_of steps)) × NeverExceeds (commands_of steps) left others)
    (λ line. FirstExceeds steps left others line) →
    MatchResult answer (λ loads. (loads ≡ loads_in (commands_of steps)) × NeverExceeds (commands_of steps) (session_of steps left).files others)
    (λ line. FirstExceeds steps (session_of steps left).files others line)
judged-own steps left others (Ok loads) judged = (judged.0, never-own steps left others judged.1)
judged-own steps left others (Err line) judged = first-own steps left others line judged

-- how many loads a script has
abbrev pub loads_of : List Step → ℕ
loads_of steps = loads_in (commands_of steps)

-- the scripts before number i have their files before this place of the list
pub record Reached (scripts : List (List Step)) (files : List ℕ) (i from : ℕ) : Type 0 where
  pub enough : from + sum_by loads_of (drop i scripts) ≡ length files
  pub rest : drop i (counted_of scripts files) ≡ counted_of (drop i scripts) (drop from files)

-- at first
pub Reached_start : (scripts : List (List Step)) (files : List ℕ) → length files ≡ sum_by loads_of scripts → Reached scripts files 0 0
Reached_start scripts files counted = record { enough = omega (arith, counted); rest = refl }

-- the scripts from number i on are that one and those behind it
scripts-at : (scripts : List (List Step)) (i : ℕ) (steps : List Step) → slice_get scripts i ≡ Some steps → drop i scripts ≡ steps ∷ drop (suc i) scripts
scripts-at scripts i steps here =
    drop-cons scripts i steps (slice_get_within scripts i steps here)
    ∙ ap (λ (s : List Step). s ∷ drop (suc i) scripts) (get_or_from_slice_get scripts i steps steps here)

-- the sessions from number i on
sessions-at : (scripts : List (List Step)) (files : List ℕ) (i from : ℕ) (steps : List Step) → Reached scripts files i from →
    slice_get scripts i ≡ Some steps →
    drop i (counted_of scripts files) ≡ session_of steps (drop from files) ∷ counted_of (drop (suc i) scripts) (drop (loads_of steps) (drop from files))
sessions-at scripts files i from steps reached here =
    reached.rest ∙ ap (λ (s : List (List Step)). counted_of s (drop from files)) (scripts-at scripts i steps here)

-- an element is the first one from its place on
slice_get-of_drop : {A : Type 0} (xs ys : List A) (i : ℕ) (x : A) → drop i xs ≡ x ∷ ys → slice_get xs i ≡ Some x
slice_get-of_drop [] ys zero x is = absurd (cc)
slice_get-of_drop [] ys (suc i) x is = absurd (cc)
slice_get-of_drop (z ∷ zs) ys zero x is = cc
slice_get-of_drop (z ∷ zs) ys (suc i) x is = slice_get-of_drop zs ys i x is

-- and the others follow
drop-of_drop : {A : Type 0} (xs ys : List A) (i : ℕ) (x : A) → drop i xs ≡ x ∷ ys → drop (suc i) xs ≡ ys
drop-of_drop [] ys zero x is = absurd (cc)
drop-of_drop [] ys (suc i) x is = absurd (cc)
drop-of_drop (z ∷ zs) ys zero x is = cc
drop-of_drop (z ∷ zs) ys (suc i) x is = drop-of_drop zs ys i x is

-- the session of a script
pub session-at : (scripts : List (List Step)) (files : List ℕ) (i from : ℕ) (steps : List Step) → Reached scripts files i from →
    slice_get scripts i ≡ Some steps → slice_get (counted_of scripts files) i ≡ Some (session_of steps (drop from files))
session-at scripts files i from steps reached here =
    slice_get-of_drop (counted_of scripts files) _ i (session_of steps (drop from files)) (sessions-at scripts files i from steps reached here)

-- the loads of the scripts from number i on
loads-at : (scripts : List (List Step)) (i : ℕ) (steps : List Step) → slice_get scripts i ≡ Some steps →
    sum_by loads_of (drop i scripts) ≡ loads_of steps + sum_by loads_of (drop (suc i) scripts)
loads-at scripts i steps here = ap (sum_by loads_of) (scripts-at scripts i steps here) ∙ sum_by-cons loads_of steps (drop (suc i) scripts)

-- a script's files are there
pub files_there : (scripts : List (List Step)) (files : List ℕ) (i from : ℕ) (steps : List Step) → Reached scripts files i from →
    slice_get scripts i ≡ Some steps → loads_of steps ≤ length (drop from files)
files_there scripts files i from steps reached here = omega (arith, length-drop from files, reached.enough, loads-at scripts i steps here)

-- those that are left are no more than all
pub sum-drop-le : (files : List ℕ) (from : ℕ) → sum (drop from files) ≤ sum files
sum-drop-le files from = omega (arith, sum_by-take-drop (λ x. x) files from)

-- one script more
pub Reached_next : (scripts : List (List Step)) (files : List ℕ) (i from : ℕ) (steps : List Step) (loads : ℕ) → Reached scripts files i from →
    slice_get scripts i ≡ Some steps → loads ≡ loads_of steps → Reached scripts files (i + 1) (from + loads)
Reached_next scripts files i from steps loads reached here is =
    subst (λ (n : ℕ). Reached scripts files n (from + loads)) next (record {
      enough = omega (arith, reached.enough, loads-at scripts i steps here, is);
      rest = drop-of_drop (counted_of scripts files) _ i (session_of steps (drop from files)) (sessions-at scripts files i from steps reached here)
          ∙ ap (counted_of (drop (suc i) scripts)) (ap (λ (n : ℕ). drop n (drop from files)) (sym is) ∙ drop-drop loads from files);
    })
  where
    next : suc i ≡ i + 1
    next = omega arith

-- there are as many sessions as scripts
pub length-counted_of : (scripts : List (List Step)) (files : List ℕ) → length (counted_of scripts files) ≡ length scripts
length-counted_of [] files = refl
length-counted_of (steps ∷ scripts) files = ap suc (length-counted_of scripts (drop (loads_of steps) files))

-- what the others put before they first wait
pub others-of : (sessions : List Counted) (i : ℕ) (session : Counted) (total : ℕ) → slice_get sessions i ≡ Some session → total ≡ sum_by early_puts sessions →
    total - early_puts session ≡ sum_by early_puts (remove sessions i)
others-of sessions i session total here is =
    let removed = sum_by-remove early_puts sessions i session (slice_get_within sessions i session here) in
    let own = ap early_puts (get_or_from_slice_get sessions i session session here) in
    omega (arith, is, removed, own)

-- a session puts no more than all
pub early-le : (sessions : List Counted) (i : ℕ) (session : Counted) → slice_get sessions i ≡ Some session → early_puts session ≤ sum_by early_puts sessions
early-le sessions i session here =
    let removed = sum_by-remove early_puts sessions i session (slice_get_within sessions i session here) in
    let own = ap early_puts (get_or_from_slice_get sessions i session session here) in
    omega (arith, removed, own)

-- a session's command that asks for too much, beside what the others put
pub AsksTooMuch-from : (sessions : List Counted) (i n others : ℕ) (session : Counted) → slice_get sessions i ≡ Some session →
    others ≡ sum_by early_puts (remove sessions i) → Exceeds session.commands session.files others n → AsksTooMuch sessions i n
AsksTooMuch-from sessions i n others session here is exceeds = record {
  session = session;
  there = here;
  command = exceeds.command;
  comes = exceeds.comes;
  asked = exceeds.asked;
  asks = exceeds.asks;
  too_much = omega (arith, is, exceeds.too_much);
}

-- and the other way
pub Exceeds-from : (sessions : List Counted) (i n others : ℕ) (session : Counted) → slice_get sessions i ≡ Some session →
    others ≡ sum_by early_puts (remove sessions i) → AsksTooMuch sessions i n → Exceeds session.commands session.files others n
Exceeds-from sessions i n others session here is asks =
    let there = asks.there in
    let same : asks.session ≡ session = cc in
    subst (λ (s : Counted). Exceeds s.commands s.files others n) same (record {
      command = asks.command;
      comes = asks.comes;
      asked = asks.asked;
      asks = asks.asks;
      too_much = omega (arith, is, asks.too_much);
    })

-- what the first sessions put before they first wait, with one more
pub total_next : (scripts : List (List Step)) (files : List ℕ) (i from : ℕ) (steps : List Step) (total puts : ℕ) → Reached scripts files i from →
    slice_get scripts i ≡ Some steps → puts ≡ early_puts (session_of steps (drop from files)) →
    total ≡ sum_by early_puts (take i (counted_of scripts files)) → total + puts ≡ sum_by early_puts (take (i + 1) (counted_of scripts files))
total_next scripts files i from steps total puts reached here own so_far =
    let sessions = counted_of scripts files in
    let session = session_of steps (drop from files) in
    let at = session-at scripts files i from steps reached here in
    let more = sum_by_more early_puts sessions i session (slice_get_within sessions i session at) in
    let this = ap early_puts (get_or_from_slice_get sessions i session session at) in
    omega (arith, so_far, own, more, this)

-- what all of them do
pub total_all : (scripts : List (List Step)) (files : List ℕ) (i total : ℕ) → i ≡ length scripts →
    total ≡ sum_by early_puts (take i (counted_of scripts files)) → total ≡ sum_by early_puts (counted_of scripts files)
total_all scripts files i total all so_far =
    let sessions = counted_of scripts files in
    so_far ∙ ap (λ (n : ℕ). sum_by early_puts (take n sessions)) (all ∙ sym (length-counted_of scripts files)) ∙ ap (sum_by early_puts) (take-length sessions)

-- the first sessions keep to the rule
abbrev pub KeptTo : List Counted → ℕ → Type 0
KeptTo sessions i = (j n : ℕ) → j < i → AsksTooMuch sessions j n → ⊥

-- one session more
pub KeptTo_next : (scripts : List (List Step)) (files : List ℕ) (i from : ℕ) (steps : List Step) (total : ℕ) → Reached scripts files i from →
    slice_get scripts i ≡ Some steps → total ≡ sum_by early_puts (counted_of scripts files) →
    KeptTo (counted_of scripts files) i →
    NeverExceeds (commands_of steps) (session_of steps (drop from files)).files (total - early_puts (session_of steps (drop from files))) →
    KeptTo (counted_of scripts files) (i + 1)
KeptTo_next scripts files i from steps total reached here is kept never = λ j n below asks. elim (below_next j i below) [
  | inl earlier ↦ kept j n earlier asks
  | inr last ↦
      let sessions = counted_of scripts files in
      let session = session_of steps (drop from files) in
      let at = session-at scripts files i from steps reached here in
      never n (Exceeds-from sessions i n (total - early_puts session) session at (others-of sessions i session total at is)
      (subst (λ (k : ℕ). AsksTooMuch sessions k n) last asks))
]

-- all sessions keep to the rule
pub KeptTo_all : (scripts : List (List Step)) (files : List ℕ) (i : ℕ) → length scripts ≤ i → KeptTo (counted_of scripts files) i → KeepsUntil scripts files
KeptTo_all scripts files i all kept = λ j n asks.
    kept j n (omega (arith, all, length-counted_of scripts files, slice_get_within (counted_of scripts files) j asks.session asks.there)) asks

-- the first line against the rule
pub IsFirstAgainst-from : (scripts : List (List Step)) (files : List ℕ) (i from : ℕ) (steps : List Step) (total line : ℕ) → Reached scripts files i from →
    slice_get scripts i ≡ Some steps → total ≡ sum_by early_puts (counted_of scripts files) →
    KeptTo (counted_of scripts files) i →
    FirstExceeds steps (session_of steps (drop from files)).files (total - early_puts (session_of steps (drop from files))) line →
    IsFirstAgainst scripts files (record { script = i; line = line })
IsFirstAgainst-from scripts files i from steps total line reached here is kept found =
    let sessions = counted_of scripts files in
    let session = session_of steps (drop from files) in
    let at = session-at scripts files i from steps reached here in
    let others = others-of sessions i session total at is in
    record {
      steps = steps;
      script = here;
      n = found.n;
      step = found.step;
      comes = found.comes;
      line = found.is_line;
      against = AsksTooMuch-from sessions i found.n (total - early_puts session) session at others found.exceeds;
      first = λ j m before asks. elim before [
        | inl earlier ↦ kept j m earlier asks
        | inr same ↦ found.first m same.1 (Exceeds-from sessions i m (total - early_puts session) session at others
            (subst (λ (k : ℕ). AsksTooMuch sessions k m) same.0 asks))
      ];
    }

-- an element that was read stands in the list
pub slice_get-read : {A : Type 0} (xs : List A) (i : ℕ) (x : A) → i < length xs → x ≡ get_or xs i x → slice_get xs i ≡ Some x
slice_get-read {A} xs i x within read = slice_get-get_or xs i x within ∙ ap (λ (y : A). Some y) (sym read)
