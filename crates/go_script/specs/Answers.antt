-- What is answered where reading may find no memory.
use Rattle.std.specs.Prelude.{◌≡◌, Result, Ok, Err}
use Rattle.go_text.specs.declared.faults.FaultKind.{FaultKind}
use Rattle.go_script.specs.declared.fault.LineFault.{LineFault}
use Rattle.go_script.specs.declared.fault.LineFault.TheVariants.{Fault, NoMemory}

-- what a line writes is what was read of it, and its fault the one that was found; want of memory tells nothing of the line
abbrev pub Answers : {A : Type 0} → Result A FaultKind → Result A LineFault → Type 0
Answers written (Ok x) = written ≡ Ok x
Answers written (Err (Fault kind)) = written ≡ Err kind
Answers written (Err NoMemory) = Unit {0}
