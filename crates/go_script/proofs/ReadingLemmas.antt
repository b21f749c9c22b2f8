-- How far a reading of a text has come, step by step.
use Rattle.std.proofs.Common.{◌≡◌, ℕ, ◌+◌, ◌-◌, ◌≤◌, List, [], ◌∷◌, ◌++◌, length, take, drop, Result, Ok, Err, Some, None, refl, sym, ap, ◌∙◌, append_assoc}
use Rattle.std.proofs.Common.{subst, arith}
use Rattle.std.specs.Str.Lines.{lines}
use Rattle.go_text.specs.Line.{IsNextLine}
use Rattle.go_text.specs.Word.{words}
use Rattle.go_text.specs.declared.line.Line.{Line}
use Rattle.go_text.specs.declared.faults.FaultKind.{FaultKind}
use Rattle.go_script.specs.declared.command.Command.{Command}
use Rattle.go_script.specs.declared.step.Step.{Step}
use Rattle.go_script.specs.declared.places.Places.{Places}
use Rattle.go_script.specs.declared.fault.ScriptFault.{ScriptFault}
use Rattle.go_script.specs.declared.fault.ScriptFault.TheVariants as faults
use Rattle.go_script.specs.Grammar.{line_of, script_from, script_of}
use Rattle.go_script.specs.Held.{Tells}
use Rattle.go_script.specs.Places.{IsWithin, NamesBelow}
use Rattle.go_script.specs.Commands.{commands_of}
use Rattle.go_text.specs.Steps.{◌>>=◌}
use Rattle.go_script.proofs.GrammarLemmas.{script_from-fault, script_from-skipped, script_from-command}
use Rattle.go_script.proofs.ScriptLemmas.{commands_of-push, IsWithin_push}

-- the bytes of a line
abbrev pub bytes_of : List ℕ → Line → List ℕ
bytes_of text line = take (line.stop - line.start) (drop line.start text)

-- so many lines of a text were read, up to a place, into steps and a table of the places:
-- with what is read so far in front, reading the rest gives what reading all gives
pub record SoFar (v : ℕ) (text : List ℕ) (places : Places) (steps : List Step) (number from : ℕ) : Type 0 where
  pub inside : from ≤ length text
  pub counted : number ≤ from
  pub tells : Tells places (commands_of steps)
  pub within : IsWithin v (commands_of steps)
  pub rest : script_of v text ≡ (script_from v (commands_of steps) (number + 1) (lines (drop from text)) >>= λ more. Ok (steps ++ more))

-- the steps that were read in front of those that follow
abbrev pub after_steps : List Step → Result (List Step) ScriptFault → Result (List Step) ScriptFault
after_steps steps rest = rest >>= λ more. Ok (steps ++ more)

-- one more step goes from the rest to those that were read
after_steps-push : (steps : List Step) (step : Step) (rest : Result (List Step) ScriptFault) →
    after_steps steps (rest >>= λ more. Ok (step ∷ more)) ≡ after_steps (steps ++ step ∷ []) rest
after_steps-push steps step (Ok more) = ap (λ (l : List Step). Ok l) (sym (append_assoc steps (step ∷ []) more))
after_steps-push steps step (Err fault) = refl

-- what reading all gives, by what reading the next line and the lines behind it gives
next_read : (v : ℕ) (text : List ℕ) (places : Places) (steps : List Step) (number from : ℕ) (line : Line) (rest : Result (List Step) ScriptFault) →
    SoFar v text places steps number from → IsNextLine text from line →
    script_from v (commands_of steps) (number + 1) (bytes_of text line ∷ lines (drop line.next text)) ≡ rest →
    script_of v text ≡ after_steps steps rest
next_read v text places steps number from line rest so_far next read =
    so_far.rest ∙ ap (after_steps steps) (ap (script_from v (commands_of steps) (number + 1)) next.first ∙ read)

-- a line with a fault was met
pub SoFar_fault : (v : ℕ) (text : List ℕ) (places : Places) (steps : List Step) (number from : ℕ) (line : Line) (kind : FaultKind) →
    SoFar v text places steps number from → IsNextLine text from line →
    line_of v (commands_of steps) (words (bytes_of text line)) ≡ Err kind →
    script_of v text ≡ Err (faults.Line (number + 1) kind)
SoFar_fault v text places steps number from line kind so_far next fault =
    next_read v text places steps number from line _ so_far next
    (script_from-fault v (commands_of steps) (number + 1) (bytes_of text line) (lines (drop line.next text)) kind fault)

-- a line was skipped
pub SoFar_skipped : (v : ℕ) (text : List ℕ) (places : Places) (steps : List Step) (number from : ℕ) (line : Line) →
    SoFar v text places steps number from → IsNextLine text from line →
    line_of v (commands_of steps) (words (bytes_of text line)) ≡ Ok None →
    SoFar v text places steps (number + 1) line.next
SoFar_skipped v text places steps number from line so_far next skipped = record {
  inside = next.inside;
  counted = omega (arith, next.advances, so_far.counted);
  tells = so_far.tells;
  within = so_far.within;
  rest = next_read v text places steps number from line _ so_far next
      (script_from-skipped v (commands_of steps) (number + 1) (bytes_of text line) (lines (drop line.next text)) skipped);
}

-- a command was read, and the places are those after it
pub SoFar_command : (v : ℕ) (text : List ℕ) (places now : Places) (steps : List Step) (number from : ℕ) (line : Line) (command : Command) →
    SoFar v text places steps number from → IsNextLine text from line →
    line_of v (commands_of steps) (words (bytes_of text line)) ≡ Ok (Some command) →
    NamesBelow v command →
    Tells now (commands_of steps ++ command ∷ []) →
    SoFar v text now (steps ++ record { line = number + 1; command = command } ∷ []) (number + 1) line.next
SoFar_command v text places now steps number from line command so_far next read below tells =
    let step : Step = record { line = number + 1; command = command } in
    let commands : commands_of (steps ++ step ∷ []) ≡ commands_of steps ++ command ∷ [] = commands_of-push steps step in
    record {
      inside = next.inside;
      counted = omega (arith, next.advances);
      tells = subst (λ (l : List Command). Tells now l) (sym commands) tells;
      within = subst (λ (l : List Command). IsWithin v l) (sym commands) (IsWithin_push v (commands_of steps) command so_far.within below);
      rest = next_read v text places steps number from line _ so_far next
          (script_from-command v (commands_of steps) (number + 1) (bytes_of text line) (lines (drop line.next text)) command read)
          ∙ after_steps-push steps step (script_from v (commands_of steps ++ command ∷ []) (number + 1 + 1) (lines (drop line.next text)))
          ∙ ap (λ (l : List Command). after_steps (steps ++ step ∷ []) (script_from v l (number + 1 + 1) (lines (drop line.next text)))) (sym commands);
    }
