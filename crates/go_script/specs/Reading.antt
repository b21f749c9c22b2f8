-- What it means that steps are the reading of lines, and that a line has the first fault.
use Rattle.std.specs.Prelude.{◌≡◌, ℕ, ◌+◌, ◌-◌, ◌<◌, ◌≤◌, false, List, ◌++◌, take, slice_get, Some, Any, Result, Ok, Err}
use Rattle.go_text.specs.Word.{words}
use Rattle.go_text.specs.declared.faults.FaultKind.{FaultKind}
use Rattle.go_script.specs.declared.command.Command.{Command}
use Rattle.go_script.specs.declared.step.Step.{Step}
use Rattle.go_script.specs.Grammar.{command_after}
use Rattle.go_text.specs.Texts.{is_skipped}
use Rattle.go_script.specs.Commands.{commands_of}

-- among lines that are numbered from n, line m is one that isn't skipped, and reads as that after the commands before it
pub record ReadsAs (v : ℕ) (before : List Command) (n : ℕ) (lines : List (List ℕ)) (m : ℕ) (read : Result Command FaultKind) : Type 0 where
  pub counted : n ≤ m
  pub line : List ℕ
  pub there : slice_get lines (m - n) ≡ Some line
  pub kept : is_skipped (words line) ≡ false
  pub reads : command_after v before (words line) ≡ read

-- steps are the reading of lines that are numbered from n, after the commands before:
-- each step's line reads as its command after the commands before it, each line that isn't skipped has its step, and lines rise
pub record IsReading (v : ℕ) (before : List Command) (n : ℕ) (lines : List (List ℕ)) (steps : List Step) : Type 0 where
  pub each_step : (k : ℕ) (step : Step) → slice_get steps k ≡ Some step → ReadsAs v (before ++ take k (commands_of steps)) n lines step.line (Ok step.command)
  pub each_line : (k : ℕ) (line : List ℕ) → slice_get lines k ≡ Some line → is_skipped (words line) ≡ false → Any (λ step. step.line ≡ n + k) steps
  pub rises : (j k : ℕ) (earlier later : Step) → j < k → slice_get steps j ≡ Some earlier → slice_get steps k ≡ Some later → earlier.line < later.line

-- line m has the first fault: the lines before it have a reading, and it reads as that fault after their commands
pub record HasFirstFault (v : ℕ) (before : List Command) (n : ℕ) (lines : List (List ℕ)) (m : ℕ) (kind : FaultKind) : Type 0 where
  pub steps : List Step
  pub reading : IsReading v before n (take (m - n) lines) steps
  pub fault : ReadsAs v (before ++ commands_of steps) n lines m (Err kind)
