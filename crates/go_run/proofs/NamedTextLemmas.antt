-- Lemmas on what reading the text of one name gives.
use Rattle.std.proofs.Common.{◌≡◌, ◌⊎◌, ◌∙◌, ℕ, suc, ◌+◌, ◌<◌, ◌≤◌, List, [], ◌∷◌, ◌++◌, length, replicate}
use Rattle.std.proofs.Common.{Option, Some, None, Result, Ok, Err, refl, arith, sym, subst, ap, inl, inr}
use Rattle.std.specs.Prelude.{IfSome, IfErr, drop, ◌==◌, Bool, true, false, cond, if◌then◌else◌}
use Rattle.std.specs.List.{slice_split}
use Rattle.std.specs.Str.Lines.{lines, lines_of_parts}
use Rattle.std.proofs.lemmas.List.{length-replicate, length-drop}
use Rattle.std.proofs.lemmas.List.Splits.{length-slice_split}
use Rattle.std.proofs.lemmas.List.Sums.{count_by-le-length}
use Rattle.std.proofs.lemmas.Bool.Decides.{leb_tells}
use Rattle.go_text.specs.Steps.{◌>>=◌}
use Rattle.go_text.specs.Word.{words}
use Rattle.go_text.specs.declared.faults.FaultKind.{FaultKind}
use Rattle.go_text.specs.Texts.{is_skipped}
use Rattle.go_io.specs.Shelf.{Fetches, IsTooLong}
use Rattle.go_io.specs.declared.shelf.Fetched.TheVariants.{Whole, Missing, TooLong}
use Rattle.go_word.specs.declared.edge.Edge.{Edge}
use Rattle.go_script.specs.declared.command.Command.{Command}
use Rattle.go_script.specs.declared.step.Step.{Step}
use Rattle.go_script.specs.declared.fault.ScriptFault.{ScriptFault}
use Rattle.go_script.specs.Grammar.{Reads as ReadsScript, script_from, script_of, command_after, at_line}
use Rattle.go_loader.specs.BinaryFile.{pieces}
use Rattle.go_loader.specs.EdgeFile.{Answers, items_of, reader_of, is_binary}
use Rattle.go_loader.specs.Reading.{Reader, entries_from, at_item, with_found}
use Rattle.go_loader.specs.declared.fault.LoadFault.{LoadFault}
use Rattle.go_run.specs.Input.{Texts, text_under, steps_or, entries_or}
use Rattle.go_run.specs.Reading.{IsOrMemory}
use Rattle.go_run.specs.NamedText.{IsOrNoMemory, IsReadAs, ReadsName, with_text}
use Rattle.go_run.specs.declared.status.Status.{Status}
use Rattle.go_run.specs.declared.status.Status.TheVariants.{Done, Words, Script, NoFile, TooMuch, ReadFault}
use Rattle.go_run.specs.declared.status.Status.TheVariants.{NotALog, OtherVertices, DiskFault, WriteFault, Memory}
use Rattle.go_run.specs.declared.limits.TheConstants.{TEXT_BYTES}

-- a status that tells just what is expected, or want of memory
told_or_memory : {A : Type 0} (name : List ℕ) (expected : Result A Status) (told status : Status) → IsReadAs name expected (Err told) → IsOrMemory told status →
    IsReadAs name expected (Err status)
told_or_memory name expected told status is this = elim this [
  | inl h ↦ subst (λ (s : Status). IsReadAs name expected (Err s)) (sym h) is
  | inr h ↦ subst (λ (s : Status). IsReadAs name expected (Err s)) (sym h) tt
]

-- a text that isn't too long
short_text : (name text : List ℕ) → length text ≤ TEXT_BYTES → text_under name (Some text) ≡ Ok text
short_text name text short = elim (leb_tells (suc TEXT_BYTES) (length text)) [
  | inl h ↦ absurd (omega (arith, short, h.1))
  | inr h ↦ rw h.0 refl
]

-- a text that is
long_text : (name : List ℕ) (text : Option (List ℕ)) → IsTooLong text TEXT_BYTES → text_under name text ≡ Err (TooMuch (TEXT_BYTES + 1) TEXT_BYTES)
long_text name None long = absurd long
long_text name (Some text) long = elim (leb_tells (suc TEXT_BYTES) (length text)) [
  | inl h ↦ rw h.0 refl
  | inr h ↦ absurd (omega (arith, long, h.1))
]

-- some text is too long
too_long : (limit : ℕ) → (text : List ℕ) × (limit < length text)
too_long limit = (replicate (limit + 1) 0, rw (length-replicate {A = ℕ} (limit + 1) 0) (omega arith))

-- a text that was fetched whole
pub fetched_whole : (shelf : Option Texts) (name out : List ℕ) → Fetches shelf name TEXT_BYTES out Whole → length out ≤ TEXT_BYTES →
    ReadsName shelf name (text_under name) (Ok out)
fetched_whole None name out fetched short = record { text = Some out; told = tt; read = short_text name out short }
fetched_whole (Some known) name out fetched short = record { text = Some out; told = sym fetched.0; read = short_text name out short }

-- a name without a text
pub fetched_missing : (shelf : Option Texts) (name out : List ℕ) (status : Status) → Fetches shelf name TEXT_BYTES out Missing →
    IsOrMemory (NoFile name) status → ReadsName {A = List ℕ} shelf name (text_under name) (Err status)
fetched_missing None name out status fetched is =
    record { text = None; told = tt; read = told_or_memory {A = List ℕ} name (Err (NoFile name)) (NoFile name) status refl is }
fetched_missing (Some known) name out status fetched is =
    record { text = None; told = sym fetched; read = told_or_memory {A = List ℕ} name (Err (NoFile name)) (NoFile name) status refl is }

-- a text that is too long
pub fetched_too_long : (shelf : Option Texts) (name out : List ℕ) → Fetches shelf name TEXT_BYTES out TooLong →
    ReadsName {A = List ℕ} shelf name (text_under name) (Err (TooMuch (TEXT_BYTES + 1) TEXT_BYTES))
fetched_too_long None name out fetched =
    let long = too_long TEXT_BYTES in
    record { text = Some long.0; told = tt; read = long_text name (Some long.0) long.1 }
fetched_too_long (Some known) name out fetched = record { text = known name; told = refl; read = long_text name (known name) fetched }

-- a fault of the shelf, or want of memory
pub fetched_failed : {A : Type 0} (shelf : Option Texts) (name : List ℕ) (expected : Option (List ℕ) → Result A Status) (status : Status) →
    IsOrMemory (ReadFault name) status → ReadsName shelf name expected (Err status)
fetched_failed None name expected status is =
    record { text = None; told = tt; read = told_or_memory name (expected None) (ReadFault name) status refl is }
fetched_failed (Some known) name expected status is =
    record { text = known name; told = refl; read = told_or_memory name (expected (known name)) (ReadFault name) status refl is }

-- what is refused of a text is refused of all that it comes to
refused_too : {A B : Type 0} (name : List ℕ) (text : Result A Status) (next : A → Result B Status) (status : Status) → IsReadAs name text (Err status) →
    IsReadAs name (text >>= next) (Err status)
refused_too name text next Done is = absurd is
refused_too name text next Words is = absurd is
refused_too name text next (Script other line kind) is = rw is refl
refused_too name text next (NoFile other) is = rw is refl
refused_too name text next (TooMuch counted limit) is = rw is refl
refused_too name text next (ReadFault other) is = is
refused_too name text next (NotALog at kind) is = absurd is
refused_too name text next (OtherVertices file asked) is = absurd is
refused_too name text next DiskFault is = absurd is
refused_too name text next WriteFault is = absurd is
refused_too name text next Memory is = tt

-- a text that isn't read
pub text_refused : {B : Type 0} (shelf : Option Texts) (name : List ℕ) (next : List ℕ → Result B Status) (status : Status) →
    ReadsName shelf name (text_under name) (Err status) → ReadsName shelf name (λ text. text_under name text >>= next) (Err status)
text_refused shelf name next status reads =
    record { text = reads.text; told = reads.told; read = refused_too name (text_under name reads.text) next status reads.read }

-- a result that is what is expected, where no status of the shelf is, is an answer
pub is_read_as : {A : Type 0} (name : List ℕ) (expected result : Result A Status) → IsReadAs name expected expected → IsOrNoMemory expected result →
    IsReadAs name expected result
is_read_as name expected result may is = elim is [
  | inl h ↦ subst (λ r. IsReadAs name expected r) (sym h) may
  | inr h ↦ subst (λ r. IsReadAs name expected r) (sym h) tt
]

-- steps, and entries, or a refusal that tells their first fault
pub may_be_steps : (name : List ℕ) (read : Result (List Step) ScriptFault) → IsReadAs name (steps_or name read) (steps_or name read)
may_be_steps name (Ok steps) = refl
may_be_steps name (Err (ScriptFault.Line line kind)) = refl
may_be_steps name (Err ScriptFault.Memory) = tt

pub may_be_entries : (name : List ℕ) (read : Result (List Edge) LoadFault) → IsReadAs name (entries_or name read) (entries_or name read)
may_be_entries name (Ok edges) = refl
may_be_entries name (Err (LoadFault.Line line kind)) = refl
may_be_entries name (Err LoadFault.Memory) = tt

-- what a text that was read comes to
pub text_read : {B : Type 0} (shelf : Option Texts) (name text : List ℕ) (next : List ℕ → Result B Status) (result : Result B Status) →
    ReadsName shelf name (text_under name) (Ok text) → IsReadAs name (next text) (next text) → IsOrNoMemory (next text) result →
    ReadsName shelf name (λ text. text_under name text >>= next) result
text_read shelf name text next result reads may is =
    record { text = reads.text; told = reads.told; read = rw reads.read (is_read_as name (next text) result may is) }

-- no more lines than parts
lines-le-parts : (parts : List (List ℕ)) → length (lines_of_parts parts) ≤ length parts
lines-le-parts [] = omega arith
lines-le-parts (x ∷ []) = below (length x == 0)
  where
    below : (b : Bool) → length (cond b [] (x ∷ [])) ≤ 1
    below true = omega arith
    below false = omega arith
lines-le-parts (x ∷ y ∷ more) = omega (arith, lines-le-parts (y ∷ more))

-- a text has no more lines than bytes, but for one
pub lines-le : (text : List ℕ) → length (lines text) ≤ length text + 1
lines-le text =
    omega (arith, lines-le-parts (slice_split (λ b. b == 10) text), length-slice_split (λ b. b == 10) text, count_by-le-length (λ b. b == 10) text)

-- no more pieces than bytes
pub pieces-le : (bytes : List ℕ) → length (pieces bytes) ≤ length bytes
pieces-le [] = omega arith
pieces-le (a ∷ []) = omega arith
pieces-le (a ∷ b ∷ []) = omega arith
pieces-le (a ∷ b ∷ c ∷ []) = omega arith
pieces-le (a ∷ b ∷ c ∷ d ∷ []) = omega arith
pieces-le (a ∷ b ∷ c ∷ d ∷ e ∷ []) = omega arith
pieces-le (a ∷ b ∷ c ∷ d ∷ e ∷ f ∷ []) = omega arith
pieces-le (a ∷ b ∷ c ∷ d ∷ e ∷ f ∷ g ∷ []) = omega arith
pieces-le (a ∷ b ∷ c ∷ d ∷ e ∷ f ∷ g ∷ h ∷ more) = omega (arith, pieces-le more)

-- no more items than bytes, but for one
items-le : (bytes : List ℕ) → length (items_of bytes) ≤ length bytes + 1
items-le bytes = by (is_binary bytes)
  where
    by : (b : Bool) → length (cond b (pieces (drop 8 bytes)) (lines bytes)) ≤ length bytes + 1
    by true = omega (arith, pieces-le (drop 8 bytes), length-drop 8 bytes)
    by false = lines-le bytes

-- no more entries than items
entries-le-found : (more : List (List ℕ)) (edges : List Edge) (found : Option Edge) (rest : Result (List Edge) LoadFault) →
    ((some : List Edge) → rest ≡ Ok some → length some ≤ length more) →
    (rest >>= λ edges. Ok (with_found found edges)) ≡ Ok edges → length edges ≤ suc (length more)
entries-le-found more edges None (Ok rest) behind is =
    let same : rest ≡ edges = cc in
    omega (arith, behind rest refl, ap (λ (l : List Edge). length l) same)
entries-le-found more edges (Some edge) (Ok rest) behind is =
    let same : edge ∷ rest ≡ edges = cc in
    omega (arith, behind rest refl, ap (λ (l : List Edge). length l) same)
entries-le-found more edges found (Err fault) behind is = absurd (cc)

entries-le-item : (more : List (List ℕ)) (edges : List Edge) (item : Result (Option Edge) LoadFault) (rest : Result (List Edge) LoadFault) →
    ((some : List Edge) → rest ≡ Ok some → length some ≤ length more) →
    (item >>= λ found. rest >>= λ edges. Ok (with_found found edges)) ≡ Ok edges → length edges ≤ suc (length more)
entries-le-item more edges (Ok found) rest behind is = entries-le-found more edges found rest behind is
entries-le-item more edges (Err fault) rest behind is = absurd (cc)

entries-le : (reads : Reader) (n : ℕ) (items : List (List ℕ)) (edges : List Edge) → entries_from reads n items ≡ Ok edges → length edges ≤ length items
entries-le reads n [] edges is = let same : edges ≡ [] = cc in rw same (omega arith)
entries-le reads n (item ∷ more) edges is =
    entries-le-item more edges (at_item n (reads item)) (entries_from reads (n + 1) more) (λ some this. entries-le reads (n + 1) more some this) is

-- no more steps than lines
steps-le-rest : (more : List (List ℕ)) (steps : List Step) (step : Step) (rest : Result (List Step) ScriptFault) →
    ((some : List Step) → rest ≡ Ok some → length some ≤ length more) → (rest >>= λ steps. Ok (step ∷ steps)) ≡ Ok steps → length steps ≤ suc (length more)
steps-le-rest more steps step (Ok rest) behind is =
    let same : step ∷ rest ≡ steps = cc in
    omega (arith, behind rest refl, ap (λ (l : List Step). length l) same)
steps-le-rest more steps step (Err fault) behind is = absurd (cc)

steps-le-command : (n : ℕ) (more : List (List ℕ)) (steps : List Step) (read : Result Command ScriptFault) (rest : Command → Result (List Step) ScriptFault) →
    ((command : Command) (some : List Step) → rest command ≡ Ok some → length some ≤ length more) →
    (read >>= λ command. rest command >>= λ steps. Ok (record { line = n; command = command } ∷ steps)) ≡ Ok steps → length steps ≤ suc (length more)
steps-le-command n more steps (Ok command) rest behind is =
    steps-le-rest more steps (record { line = n; command = command }) (rest command) (behind command) is
steps-le-command n more steps (Err fault) rest behind is = absurd (cc)

steps-le-kept : (n : ℕ) (more : List (List ℕ)) (steps : List Step) (skipped : Bool) (read : Result Command ScriptFault)
    (others : Result (List Step) ScriptFault) (rest : Command → Result (List Step) ScriptFault) →
    ((some : List Step) → others ≡ Ok some → length some ≤ length more) →
    ((command : Command) (some : List Step) → rest command ≡ Ok some → length some ≤ length more) →
    (if skipped then others
    else (read >>= λ command. rest command >>= λ steps. Ok (record { line = n; command = command } ∷ steps))) ≡ Ok steps → length steps ≤ suc (length more)
steps-le-kept n more steps true read others rest skips goes is = omega (arith, skips steps is)
steps-le-kept n more steps false read others rest skips goes is = steps-le-command n more steps read rest goes is

steps-le : (v : ℕ) (before : List Command) (n : ℕ) (lines : List (List ℕ)) (steps : List Step) → script_from v before n lines ≡ Ok steps →
    length steps ≤ length lines
steps-le v before n [] steps is = let same : steps ≡ [] = cc in rw same (omega arith)
steps-le v before n (line ∷ more) steps is =
    steps-le-kept n more steps (is_skipped (words line)) (at_line n (command_after v before (words line))) (script_from v before (n + 1) more)
    (λ command. script_from v (before ++ command ∷ []) (n + 1) more) (λ some this. steps-le v before (n + 1) more some this)
    (λ command some this. steps-le v (before ++ command ∷ []) (n + 1) more some this) is

-- a script has no more steps than a text may have lines
pub few_steps : (v : ℕ) (text : List ℕ) (steps : List Step) → length text ≤ TEXT_BYTES → script_of v text ≡ Ok steps → length steps ≤ TEXT_BYTES + 1
few_steps v text steps short is = omega (arith, short, lines-le text, steps-le v [] 1 (lines text) steps is)

-- a list has no more entries than a text may have items
pub few_entries : (v : ℕ) (text : List ℕ) (edges : List Edge) → length text ≤ TEXT_BYTES → entries_from (reader_of v text) 1 (items_of text) ≡ Ok edges →
    length edges ≤ TEXT_BYTES + 1
few_entries v text edges short is = omega (arith, short, items-le text, entries-le (reader_of v text) 1 (items_of text) edges is)

-- reading a text that is there doesn't fail
steps_no_fault : (name : List ℕ) (read : Result (List Step) ScriptFault) (status : Status) → Err status ≡ steps_or name read → status ≡ ReadFault name → ⊥
steps_no_fault name (Ok steps) status is fault = cc
steps_no_fault name (Err (ScriptFault.Line line kind)) status is fault = cc
steps_no_fault name (Err ScriptFault.Memory) status is fault = cc

entries_no_fault : (name : List ℕ) (read : Result (List Edge) LoadFault) (status : Status) → Err status ≡ entries_or name read → status ≡ ReadFault name → ⊥
entries_no_fault name (Ok edges) status is fault = cc
entries_no_fault name (Err (LoadFault.Line line kind)) status is fault = cc
entries_no_fault name (Err LoadFault.Memory) status is fault = cc

no_fault : {A : Type 0} (P : Type 0) (name : List ℕ) (expected result : Result A Status) →
    ((status : Status) → Err status ≡ expected → status ≡ ReadFault name → ⊥) →
    IsOrNoMemory expected result → IfErr result (λ status. status ≡ ReadFault name → P)
no_fault P name expected (Ok x) never is = tt
no_fault P name expected (Err status) never is = λ fault. elim is [
  | inl h ↦ absurd (never status h fault)
  | inr h ↦ absurd (let this : status ≡ Memory = cc in cc)
]

pub no_fault_of_steps : (P : Type 0) (name : List ℕ) (read : Result (List Step) ScriptFault) (result : Result (List Step) Status) →
    IsOrNoMemory (steps_or name read) result → IfErr result (λ status. status ≡ ReadFault name → P)
no_fault_of_steps P name read result is = no_fault P name (steps_or name read) result (steps_no_fault name read) is

pub no_fault_of_entries : (P : Type 0) (name : List ℕ) (read : Result (List Edge) LoadFault) (result : Result (List Edge) Status) →
    IsOrNoMemory (entries_or name read) result → IfErr result (λ status. status ≡ ReadFault name → P)
no_fault_of_entries P name read result is = no_fault P name (entries_or name read) result (entries_no_fault name read) is
