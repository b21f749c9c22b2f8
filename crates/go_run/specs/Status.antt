-- The statuses in which the program ends: their numbers, and the lines that tell them.
use Rattle.std.specs.Prelude.{ℕ, List, [], ◌∷◌, ◌++◌, codes, decimal}
use Rattle.go_text.specs.FaultKind.{word_of}
use Rattle.go_text.specs.declared.faults.FaultKind.{FaultKind}
use Rattle.go_blocks.specs.declared.fault.BadKind.{BadKind}
use Rattle.go_blocks.specs.declared.fault.BadKind.TheVariants as bad
use Rattle.go_run.specs.declared.status.Status.{Status}
use Rattle.go_run.specs.declared.status.Status.TheVariants.{Done, Words, Script, NoFile, TooMuch, ReadFault, NotALog, OtherVertices, DiskFault, WriteFault}
use Rattle.go_run.specs.declared.status.Status.TheVariants.{Memory}

-- the exit status of the process
abbrev pub number_of : Status → ℕ
number_of Done = 0
number_of Words = 1
number_of (Script name line kind) = 2
number_of (NoFile name) = 3
number_of (TooMuch counted limit) = 4
number_of (ReadFault name) = 5
number_of (NotALog at kind) = 6
number_of (OtherVertices file asked) = 7
number_of DiskFault = 8
number_of WriteFault = 9
number_of Memory = 10

-- a script's fault: its name, the line and the kind
abbrev pub script_cause : List ℕ → ℕ → FaultKind → List ℕ
script_cause name line kind = name ++ (codes ": line " ++ (decimal line ++ (codes ": " ++ word_of kind)))

-- a count that is over its limit
abbrev pub too_much_cause : ℕ → ℕ → List ℕ
too_much_cause counted limit = codes "too much: " ++ (decimal counted ++ (codes " of " ++ decimal limit))

-- the word for what is wrong with bytes that are no log file
abbrev pub bad_word_of : BadKind → List ℕ
bad_word_of bad.Magic = codes "magic"
bad_word_of bad.Version = codes "version"
bad_word_of bad.Vertices = codes "vertices"
bad_word_of bad.Count = codes "count"
bad_word_of bad.Short = codes "short"
bad_word_of bad.Word = codes "word"

-- bytes that are no log file: what is wrong, and where
abbrev pub no_log_cause : ℕ → BadKind → List ℕ
no_log_cause at kind = codes "not a log: " ++ (bad_word_of kind ++ (codes " at " ++ decimal at))

-- what was asked for, where a log has another number of vertices
abbrev pub asked_cause : ℕ → List ℕ
asked_cause asked = codes " vertices, asked " ++ decimal asked

-- a log of another number of vertices
abbrev pub other_vertices_cause : ℕ → ℕ → List ℕ
other_vertices_cause file asked = codes "log has " ++ (decimal file ++ asked_cause asked)

-- what a status says
abbrev pub cause_of : Status → List ℕ
cause_of Done = []
cause_of Words = codes "bad arguments"
cause_of (Script name line kind) = script_cause name line kind
cause_of (NoFile name) = name ++ codes ": not there"
cause_of (TooMuch counted limit) = too_much_cause counted limit
cause_of (ReadFault name) = name ++ codes ": read fault"
cause_of (NotALog at kind) = no_log_cause at kind
cause_of (OtherVertices file asked) = other_vertices_cause file asked
cause_of DiskFault = codes "disk fault"
cause_of WriteFault = codes "write fault"
cause_of Memory = codes "out of memory"

-- a line that tells a cause, after the program's name
abbrev pub line_of : List ℕ → List ℕ
line_of cause = codes "graphone: " ++ (cause ++ 10 ∷ [])

-- the line that tells a status; none where all is done
abbrev pub error_line : Status → List ℕ
error_line Done = []
error_line Words = line_of (cause_of Words)
error_line (Script name line kind) = line_of (cause_of (Script name line kind))
error_line (NoFile name) = line_of (cause_of (NoFile name))
error_line (TooMuch counted limit) = line_of (cause_of (TooMuch counted limit))
error_line (ReadFault name) = line_of (cause_of (ReadFault name))
error_line (NotALog at kind) = line_of (cause_of (NotALog at kind))
error_line (OtherVertices file asked) = line_of (cause_of (OtherVertices file asked))
error_line DiskFault = line_of (cause_of DiskFault)
error_line WriteFault = line_of (cause_of WriteFault)
error_line Memory = line_of (cause_of Memory)
