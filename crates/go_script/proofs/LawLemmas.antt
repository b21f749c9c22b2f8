-- That what the grammar reads is a reading of the lines, and its fault the first one.
use Rattle.std.proofs.Common.{◌≡◌, ℕ, zero, suc, ◌+◌, ◌-◌, ◌<◌, ◌⊎◌, inl, inr, List, [], ◌∷◌, ◌++◌, take, slice_get, refl, sym, subst, ap, true, false}
use Rattle.std.proofs.Common.{Some, Result, Ok, Err, append_assoc, append-nil, arith}
use Rattle.std.specs.Prelude.{Any}
use Rattle.std.proofs.lemmas.Bool.{cases_Bool}
use Rattle.go_text.specs.Word.{words}
use Rattle.go_text.specs.declared.faults.FaultKind.{FaultKind}
use Rattle.go_script.specs.declared.command.Command.{Command}
use Rattle.go_script.specs.declared.step.Step.{Step}
use Rattle.go_script.specs.declared.fault.ScriptFault.{ScriptFault}
use Rattle.go_script.specs.declared.fault.ScriptFault.TheVariants.{Line, Memory}
use Rattle.go_script.specs.Grammar.{command_after, script_from, at_line}
use Rattle.go_text.specs.Texts.{is_skipped}
use Rattle.go_script.specs.Commands.{commands_of}
use Rattle.go_script.specs.Reading.{ReadsAs, IsReading, HasFirstFault}
use Rattle.go_text.specs.Steps.{◌>>=◌}

-- what is read of lines behind a line is read of all of them
ReadsAs-behind : (v : ℕ) (before : List Command) (n : ℕ) (line : List ℕ) (more : List (List ℕ)) (m : ℕ) (read : Result Command FaultKind) →
    ReadsAs v before (n + 1) more m read → ReadsAs v before n (line ∷ more) m read
ReadsAs-behind v before n line more m read reads =
    let behind : m - n ≡ suc (m - (n + 1)) = omega (arith, reads.counted) in
    record {
      counted = omega (arith, reads.counted);
      line = reads.line;
      there = rw behind reads.there;
      kept = reads.kept;
      reads = reads.reads;
    }

-- the first line reads as what it writes
ReadsAs-first : (v : ℕ) (before : List Command) (n : ℕ) (line : List ℕ) (more : List (List ℕ)) (read : Result Command FaultKind) →
    is_skipped (words line) ≡ false → command_after v before (words line) ≡ read → ReadsAs v before n (line ∷ more) n read
ReadsAs-first v before n line more read kept reads =
    let first : n - n ≡ zero = omega arith in
    record { counted = omega arith; line = line; there = rw first refl; kept = kept; reads = reads }

-- no lines have no steps
IsReading-nil : (v : ℕ) (before : List Command) (n : ℕ) → IsReading v before n [] []
IsReading-nil v before n = record {
  each_step = λ k step here. absurd (cc);
  each_line = λ k line here kept. absurd (cc);
  rises = λ j k earlier later order first second. absurd (cc);
}

-- some step has line n + 1 + k, and so n + suc k
Any-shift : (steps : List Step) (n k : ℕ) → Any (λ step. step.line ≡ n + 1 + k) steps → Any (λ step. step.line ≡ n + suc k) steps
Any-shift steps n k found = (found.0, found.1, found.2, found.3, omega (arith, found.4))

-- one step more in front
Any-behind : (first : Step) (steps : List Step) (m : ℕ) → Any (λ step. step.line ≡ m) steps → Any (λ step. step.line ≡ m) (first ∷ steps)
Any-behind first steps m found = (suc found.0, found.1, omega (arith, found.2), found.3, found.4)

-- a skipped line in front changes no step
IsReading-skipped : (v : ℕ) (before : List Command) (n : ℕ) (line : List ℕ) (more : List (List ℕ)) (steps : List Step) →
    is_skipped (words line) ≡ true → IsReading v before (n + 1) more steps → IsReading v before n (line ∷ more) steps
IsReading-skipped v before n line more steps skipped reading = record {
  each_step = λ k step here. ReadsAs-behind v _ n line more step.line (Ok step.command) (reading.each_step k step here);
  each_line = each_line;
  rises = reading.rises;
}
  where
    each_line : (k : ℕ) (other : List ℕ) → slice_get (line ∷ more) k ≡ Some other → is_skipped (words other) ≡ false → Any (λ step. step.line ≡ n + k) steps
    each_line zero other here kept = let same : line ≡ other = cc in absurd (cc (ap (λ (l : List ℕ). is_skipped (words l)) same))
    each_line (suc k) other here kept = Any-shift steps n k (reading.each_line k other here kept)

-- the step of a line that is numbered n
abbrev pub step_at : ℕ → Command → Step
step_at n command = record { line = n; command = command }

-- with a command of the first line in front, each step's line reads as its command
each_step-command : (v : ℕ) (before : List Command) (n : ℕ) (line : List ℕ) (more : List (List ℕ)) (command : Command) (steps : List Step) →
    is_skipped (words line) ≡ false → command_after v before (words line) ≡ Ok command →
    IsReading v (before ++ command ∷ []) (n + 1) more steps →
    (k : ℕ) (step : Step) → slice_get (step_at n command ∷ steps) k ≡ Some step →
    ReadsAs v (before ++ take k (command ∷ commands_of steps)) n (line ∷ more) step.line (Ok step.command)
each_step-command v before n line more command steps kept reads reading zero step here =
    let same : step_at n command ≡ step = cc in
    subst (λ (s : Step). ReadsAs v (before ++ []) n (line ∷ more) s.line (Ok s.command)) same
    (subst (λ (b : List Command). ReadsAs v b n (line ∷ more) n (Ok command)) (sym (append-nil before))
    (ReadsAs-first v before n line more (Ok command) kept reads))
each_step-command v before n line more command steps kept reads reading (suc k) step here =
    subst (λ (b : List Command). ReadsAs v b n (line ∷ more) step.line (Ok step.command)) (append_assoc before (command ∷ []) (take k (commands_of steps)))
    (ReadsAs-behind v _ n line more step.line (Ok step.command) (reading.each_step k step here))

-- with a step of the first line in front, each line that isn't skipped has its step
each_line-command : (v : ℕ) (before : List Command) (n : ℕ) (line : List ℕ) (more : List (List ℕ)) (command : Command) (steps : List Step) →
    IsReading v before (n + 1) more steps →
    (k : ℕ) (other : List ℕ) → slice_get (line ∷ more) k ≡ Some other → is_skipped (words other) ≡ false →
    Any (λ step. step.line ≡ n + k) (step_at n command ∷ steps)
each_line-command v before n line more command steps reading zero other here kept = (0, step_at n command, omega arith, refl, omega arith)
each_line-command v before n line more command steps reading (suc k) other here kept =
    Any-behind (step_at n command) steps (n + suc k) (Any-shift steps n k (reading.each_line k other here kept))

-- with a step of the first line in front, lines rise
rises-command : (v : ℕ) (before : List Command) (n : ℕ) (more : List (List ℕ)) (command : Command) (steps : List Step) →
    IsReading v before (n + 1) more steps →
    (j k : ℕ) (earlier later : Step) → j < k → slice_get (step_at n command ∷ steps) j ≡ Some earlier →
    slice_get (step_at n command ∷ steps) k ≡ Some later → earlier.line < later.line
rises-command v before n more command steps reading zero zero earlier later order first second = absurd (omega arith)
rises-command v before n more command steps reading (suc j) zero earlier later order first second = absurd (omega arith)
rises-command v before n more command steps reading zero (suc k) earlier later order first second =
    let same : step_at n command ≡ earlier = cc in
    let line : n ≡ earlier.line = ap (λ (s : Step). s.line) same in
    omega (arith, (reading.each_step k later second).counted)
rises-command v before n more command steps reading (suc j) (suc k) earlier later order first second =
    reading.rises j k earlier later (omega arith) first second

-- a line with a command in front is the first step
IsReading-command : (v : ℕ) (before : List Command) (n : ℕ) (line : List ℕ) (more : List (List ℕ)) (command : Command) (steps : List Step) →
    is_skipped (words line) ≡ false → command_after v before (words line) ≡ Ok command →
    IsReading v (before ++ command ∷ []) (n + 1) more steps →
    IsReading v before n (line ∷ more) (step_at n command ∷ steps)
IsReading-command v before n line more command steps kept reads reading = record {
  each_step = each_step-command v before n line more command steps kept reads reading;
  each_line = each_line-command v (before ++ command ∷ []) n line more command steps reading;
  rises = rises-command v (before ++ command ∷ []) n more command steps reading;
}

-- what a line with a command and the lines behind it are read as
abbrev pub line_and_rest : ℕ → Result Command FaultKind → (Command → Result (List Step) ScriptFault) → Result (List Step) ScriptFault
line_and_rest n read rest = at_line n read >>= λ command. rest command >>= λ steps. Ok (step_at n command ∷ steps)

-- steps of a line and the lines behind it
step_and_rest : (step : Step) (rest : Result (List Step) ScriptFault) (steps : List Step) → (rest >>= λ later. Ok (step ∷ later)) ≡ Ok steps →
    (later : List Step) × (rest ≡ Ok later) × (step ∷ later ≡ steps)
step_and_rest step (Ok later) steps is = (later, refl, cc)
step_and_rest step (Err fault) steps is = absurd (cc)

-- a line that isn't skipped, and the lines behind it, that have steps
taken : (n : ℕ) (read : Result Command FaultKind) (rest : Command → Result (List Step) ScriptFault) (steps : List Step) → line_and_rest n read rest ≡ Ok steps →
    (command : Command) × (later : List Step) × (read ≡ Ok command) × (rest command ≡ Ok later) × (step_at n command ∷ later ≡ steps)
taken n (Err kind) rest steps is = absurd (cc)
taken n (Ok command) rest steps is = let parts = step_and_rest (step_at n command) (rest command) steps is in (command, parts.0, refl, parts.1, parts.2)

-- a fault of the lines behind a line
fault_of_rest : (step : Step) (rest : Result (List Step) ScriptFault) (fault : ScriptFault) → (rest >>= λ later. Ok (step ∷ later)) ≡ Err fault →
    rest ≡ Err fault
fault_of_rest step (Ok later) fault is = absurd (cc)
fault_of_rest step (Err other) fault is = cc

-- a fault of a line or of the lines behind it
refused : (n : ℕ) (read : Result Command FaultKind) (rest : Command → Result (List Step) ScriptFault) (fault : ScriptFault) →
    line_and_rest n read rest ≡ Err fault →
    ((kind : FaultKind) × (read ≡ Err kind) × (fault ≡ Line n kind)) ⊎ ((command : Command) × (read ≡ Ok command) × (rest command ≡ Err fault))
refused n (Err kind) rest fault is = inl (kind, refl, cc)
refused n (Ok command) rest fault is = inr (command, refl, fault_of_rest (step_at n command) (rest command) fault is)

-- what the grammar reads is a reading
pub script_from-reads : (v : ℕ) (before : List Command) (n : ℕ) (lines : List (List ℕ)) (steps : List Step) → script_from v before n lines ≡ Ok steps →
    IsReading v before n lines steps
script_from-reads v before n [] steps is = let none : [] ≡ steps = cc in subst (λ (s : List Step). IsReading v before n [] s) none (IsReading-nil v before n)
script_from-reads v before n (line ∷ more) steps is = elim (cases_Bool (is_skipped (words line))) [
  | inl skipped ↦ IsReading-skipped v before n line more steps skipped (script_from-reads v before (n + 1) more steps (rw skipped at is))
  | inr kept ↦
      let parts = taken n (command_after v before (words line)) (λ command. script_from v (before ++ command ∷ []) (n + 1) more) steps (rw kept at is) in
      subst (λ (s : List Step). IsReading v before n (line ∷ more) s) parts.4
      (IsReading-command v before n line more parts.0 parts.1 kept parts.2 (script_from-reads v (before ++ parts.0 ∷ []) (n + 1) more parts.1 parts.3))
]

-- a fault of the first line
HasFirstFault-first : (v : ℕ) (before : List Command) (n : ℕ) (line : List ℕ) (more : List (List ℕ)) (kind : FaultKind) →
    is_skipped (words line) ≡ false → command_after v before (words line) ≡ Err kind → HasFirstFault v before n (line ∷ more) n kind
HasFirstFault-first v before n line more kind kept reads =
    let none : n - n ≡ zero = omega arith in
    record {
      steps = [];
      reading = rw none (IsReading-nil v before n);
      fault = subst (λ (b : List Command). ReadsAs v b n (line ∷ more) n (Err kind)) (sym (append-nil before))
          (ReadsAs-first v before n line more (Err kind) kept reads);
    }

-- a skipped line before the first fault
HasFirstFault-skipped : (v : ℕ) (before : List Command) (n : ℕ) (line : List ℕ) (more : List (List ℕ)) (m : ℕ) (kind : FaultKind) →
    is_skipped (words line) ≡ true → HasFirstFault v before (n + 1) more m kind → HasFirstFault v before n (line ∷ more) m kind
HasFirstFault-skipped v before n line more m kind skipped behind =
    let one_more : m - n ≡ suc (m - (n + 1)) = omega (arith, behind.fault.counted) in
    record {
      steps = behind.steps;
      reading = rw one_more (IsReading-skipped v before n line (take (m - (n + 1)) more) behind.steps skipped behind.reading);
      fault = ReadsAs-behind v _ n line more m (Err kind) behind.fault;
    }

-- a command before the first fault
HasFirstFault-command : (v : ℕ) (before : List Command) (n : ℕ) (line : List ℕ) (more : List (List ℕ)) (command : Command) (m : ℕ) (kind : FaultKind) →
    is_skipped (words line) ≡ false → command_after v before (words line) ≡ Ok command →
    HasFirstFault v (before ++ command ∷ []) (n + 1) more m kind → HasFirstFault v before n (line ∷ more) m kind
HasFirstFault-command v before n line more command m kind kept reads behind =
    let one_more : m - n ≡ suc (m - (n + 1)) = omega (arith, behind.fault.counted) in
    record {
      steps = step_at n command ∷ behind.steps;
      reading = rw one_more (IsReading-command v before n line (take (m - (n + 1)) more) command behind.steps kept reads behind.reading);
      fault = subst (λ (b : List Command). ReadsAs v b n (line ∷ more) m (Err kind)) (append_assoc before (command ∷ []) (commands_of behind.steps))
          (ReadsAs-behind v _ n line more m (Err kind) behind.fault);
    }

-- a line and a kind: those of a fault, and the first fault of lines
pub record IsFirstFault (v : ℕ) (before : List Command) (n : ℕ) (lines : List (List ℕ)) (fault : ScriptFault) : Type 0 where
  pub m : ℕ
  pub kind : FaultKind
  pub is : fault ≡ Line m kind
  pub first : HasFirstFault v before n lines m kind

-- the grammar's fault is the first one
pub script_from-fault_is_first : (v : ℕ) (before : List Command) (n : ℕ) (lines : List (List ℕ)) (fault : ScriptFault) →
    script_from v before n lines ≡ Err fault → IsFirstFault v before n lines fault
script_from-fault_is_first v before n [] fault is = absurd (cc)
script_from-fault_is_first v before n (line ∷ more) fault is = elim (cases_Bool (is_skipped (words line))) [
  | inl skipped ↦
      let behind = script_from-fault_is_first v before (n + 1) more fault (rw skipped at is) in
      record { m = behind.m; kind = behind.kind; is = behind.is; first = HasFirstFault-skipped v before n line more behind.m behind.kind skipped behind.first }
  | inr kept ↦ elim (refused n (command_after v before (words line)) (λ command. script_from v (before ++ command ∷ []) (n + 1) more) fault (rw kept at is)) [
    | inl here ↦ record { m = n; kind = here.0; is = here.2; first = HasFirstFault-first v before n line more here.0 kept here.1 }
    | inr there ↦
        let behind = script_from-fault_is_first v (before ++ there.0 ∷ []) (n + 1) more fault there.2 in
        record {
          m = behind.m;
          kind = behind.kind;
          is = behind.is;
          first =
              HasFirstFault-command v before n line more there.0 behind.m behind.kind kept there.1 behind.first;
        }
  ]
]

-- the first fault, by its line and kind
pub first_fault : (v : ℕ) (before : List Command) (n : ℕ) (lines : List (List ℕ)) (m : ℕ) (kind : FaultKind) →
    script_from v before n lines ≡ Err (Line m kind) → HasFirstFault v before n lines m kind
first_fault v before n lines m kind is =
    let found = script_from-fault_is_first v before n lines (Line m kind) is in
    let fault : Line m kind ≡ Line found.m found.kind = found.is in
    let at_line : found.m ≡ m = cc in
    let of_kind : found.kind ≡ kind = cc in
    subst (λ (k : ℕ). HasFirstFault v before n lines k kind) at_line (subst (λ (k : FaultKind). HasFirstFault v before n lines found.m k) of_kind found.first)

-- the grammar tells nothing of memory
pub never_memory : (v : ℕ) (before : List Command) (n : ℕ) (lines : List (List ℕ)) → script_from v before n lines ≡ Err Memory → ⊥
never_memory v before n lines is =
    let found = script_from-fault_is_first v before n lines Memory is in
    let fault : Memory ≡ Line found.m found.kind = found.is in
    cc
