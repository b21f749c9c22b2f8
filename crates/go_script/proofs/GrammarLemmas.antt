-- Lemmas on the grammar of scripts.
use Rattle.std.proofs.Common.{◌≡◌, ℕ, ◌+◌, List, [], ◌∷◌, ◌++◌, take, refl, subst, ap, Bool, true, false, Some, None, inl, inr, Result, Ok, Err}
use Rattle.std.proofs.Common.{◌≤◌, ◌<◌, length, get_or, arith}
use Rattle.std.specs.Prelude.{if◌then◌else◌}
use Rattle.std.specs.Borrow.{Bor}
use Rattle.std.specs.Str.{IsUtf8, is_utf8}
use Rattle.std.proofs.lemmas.Str.{IsUtf8-from_is_utf8, is_utf8-from_IsUtf8}
use Rattle.std.proofs.lemmas.Bool.{cases_Bool}
use Rattle.go_text.specs.Word.{words}
use Rattle.go_text.specs.declared.faults.FaultKind.{FaultKind}
use Rattle.go_text.specs.declared.faults.FaultKind.TheVariants.{Name, Place}
use Rattle.go_script.specs.declared.command.Command.{Command}
use Rattle.go_script.specs.declared.step.Step.{Step}
use Rattle.go_script.specs.declared.fault.ScriptFault.{ScriptFault}
use Rattle.go_script.specs.declared.fault.ScriptFault.TheVariants.{Line}
use Rattle.go_script.specs.Places.{finds_place}
use Rattle.go_script.specs.Grammar.{name_in, place_in, pair_of, command_of, line_of, placed, command_after, script_from, at_line}
use Rattle.go_text.specs.Arguments.{vertex_in}
use Rattle.go_text.specs.Texts.{texts, is_skipped}
use Rattle.go_text.specs.Steps.{◌>>=◌}

-- a word that is UTF-8 is a name
pub name_in-valid : (word name : List ℕ) → name ≡ word → IsUtf8 word → name_in word ≡ Ok name
name_in-valid word name same valid = rw (is_utf8-from_IsUtf8 word valid, same) refl

-- a word that isn't UTF-8 is none
pub name_in-invalid : (word : List ℕ) → (IsUtf8 word → ⊥) → name_in word ≡ Err Name
name_in-invalid word invalid = elim (cases_Bool (is_utf8 word)) [
  | inl valid ↦ absurd (invalid (IsUtf8-from_is_utf8 word valid))
  | inr not_valid ↦ rw not_valid refl
]

-- a faulty root behind a place is the fault of the arguments
pub pair_of-root_fault : (v : ℕ) (arguments : List (Bor (List ℕ))) (d e : Bor (List ℕ)) (place : ℕ) (kind : FaultKind) →
    3 ≤ length arguments → length arguments < 4 → place_in (get_or arguments 0 d).now ≡ Ok place → vertex_in v (get_or arguments 1 e).now ≡ Err kind →
    pair_of v (texts arguments) ≡ Err kind
pair_of-root_fault v [] d e place kind least most named fault = absurd (omega arith)
pair_of-root_fault v (a ∷ []) d e place kind least most named fault = absurd (omega arith)
pair_of-root_fault v (a ∷ b ∷ []) d e place kind least most named fault = absurd (omega arith)
pair_of-root_fault v (a ∷ b ∷ c ∷ []) d e place kind least most named fault = rw (named, fault) refl
pair_of-root_fault v (a ∷ b ∷ c ∷ f ∷ more) d e place kind least most named fault = absurd (omega arith)

-- a line is judged by its first five words
pub line_of-take : (v : ℕ) (before : List Command) (words : List (List ℕ)) → line_of v before (take 5 words) ≡ line_of v before words
line_of-take v before [] = refl
line_of-take v before (a ∷ []) = refl
line_of-take v before (a ∷ b ∷ []) = refl
line_of-take v before (a ∷ b ∷ c ∷ []) = refl
line_of-take v before (a ∷ b ∷ c ∷ d ∷ []) = refl
line_of-take v before (a ∷ b ∷ c ∷ d ∷ e ∷ more) = refl

-- a fault is told with its line
when_fault : (skipped : Bool) (read : Result Command FaultKind) (n : ℕ) (without : Result (List Step) ScriptFault) (next : Command →
    Result (List Step) ScriptFault) (kind : FaultKind) →
    (if skipped then Ok None else read >>= λ command. Ok (Some command)) ≡ Err kind →
    (if skipped then without else at_line n read >>= next) ≡ Err (Line n kind)
when_fault true read n without next kind is = absurd (cc)
when_fault false (Ok command) n without next kind is = absurd (cc)
when_fault false (Err other) n without next kind is = cc

-- a line that is skipped is left out
when_skipped : (skipped : Bool) (read : Result Command FaultKind) (n : ℕ) (without : Result (List Step) ScriptFault) (next : Command →
    Result (List Step) ScriptFault) →
    (if skipped then Ok None else read >>= λ command. Ok (Some command)) ≡ Ok None →
    (if skipped then without else at_line n read >>= next) ≡ without
when_skipped true read n without next is = refl
when_skipped false (Ok command) n without next is = absurd (cc)
when_skipped false (Err kind) n without next is = absurd (cc)

-- a command goes on
when_command : (skipped : Bool) (read : Result Command FaultKind) (n : ℕ) (without : Result (List Step) ScriptFault) (next : Command →
    Result (List Step) ScriptFault) (command : Command) →
    (if skipped then Ok None else read >>= λ command. Ok (Some command)) ≡ Ok (Some command) →
    (if skipped then without else at_line n read >>= next) ≡ next command
when_command true read n without next command is = absurd (cc)
when_command false (Ok other) n without next command is = let same : other ≡ command = cc in ap next same
when_command false (Err kind) n without next command is = absurd (cc)

-- a line with a fault ends the reading
pub script_from-fault : (v : ℕ) (before : List Command) (n : ℕ) (line : List ℕ) (more : List (List ℕ)) (kind : FaultKind) →
    line_of v before (words line) ≡ Err kind → script_from v before n (line ∷ more) ≡ Err (Line n kind)
script_from-fault v before n line more kind fault =
    when_fault (is_skipped (words line)) (command_after v before (words line)) n (script_from v before (n + 1) more)
    (λ command. script_from v (before ++ command ∷ []) (n + 1) more >>= λ steps. Ok (record { line = n; command = command } ∷ steps)) kind fault

-- a line that is skipped is left out of the reading
pub script_from-skipped : (v : ℕ) (before : List Command) (n : ℕ) (line : List ℕ) (more : List (List ℕ)) →
    line_of v before (words line) ≡ Ok None → script_from v before n (line ∷ more) ≡ script_from v before (n + 1) more
script_from-skipped v before n line more skipped =
    when_skipped (is_skipped (words line)) (command_after v before (words line)) n (script_from v before (n + 1) more)
    (λ command. script_from v (before ++ command ∷ []) (n + 1) more >>= λ steps. Ok (record { line = n; command = command } ∷ steps)) skipped

-- a command goes in front of the steps behind its line
pub script_from-command : (v : ℕ) (before : List Command) (n : ℕ) (line : List ℕ) (more : List (List ℕ)) (command : Command) →
    line_of v before (words line) ≡ Ok (Some command) →
    script_from v before n (line ∷ more) ≡ (script_from v (before ++ command ∷ []) (n + 1) more >>= λ steps. Ok (record {
      line = n;
      command =
          command;
    } ∷ steps))
script_from-command v before n line more command read =
    when_command (is_skipped (words line)) (command_after v before (words line)) n (script_from v before (n + 1) more)
    (λ command'. script_from v (before ++ command' ∷ []) (n + 1) more >>= λ steps. Ok (record { line = n; command = command' } ∷ steps)) command read

-- a command that finds its place
placed-found : (before : List Command) (found command : Command) → placed before found ≡ Ok command → finds_place before command ≡ true
placed-found before found command is = elim (cases_Bool (finds_place before found)) [
  | inl finds ↦ let same : Ok found ≡ Ok command = rw finds at is in let here : found ≡ command = cc in
      subst (λ (c : Command). finds_place before c ≡ true) here finds
  | inr not_found ↦ let fault : Err Place ≡ Ok command = rw not_found at is in absurd (cc)
]

-- what was read before it was put into `Some`
was_ok : (read : Result Command FaultKind) (command : Command) → (read >>= λ c. Ok (Some c)) ≡ Ok (Some command) → read ≡ Ok command
was_ok (Ok other) command is = cc
was_ok (Err kind) command is = absurd (cc)

-- a command that a line writes after the commands before finds its place
written : (skipped : Bool) (before : List Command) (read : Result Command FaultKind) (command : Command) →
    (if skipped then Ok None else read >>= placed before >>= λ c. Ok (Some c)) ≡ Ok (Some command) → finds_place before command ≡ true
written true before read command is = absurd (cc)
written false before (Err kind) command is = absurd (cc)
written false before (Ok found) command is = placed-found before found command (was_ok (placed before found) command is)

-- a command that was read of a line finds its place
pub line_of-finds : (v : ℕ) (before : List Command) (words : List (List ℕ)) (command : Command) → line_of v before words ≡ Ok (Some command) →
    finds_place before command ≡ true
line_of-finds v before words command read = written (is_skipped words) before (command_of v words) command read
