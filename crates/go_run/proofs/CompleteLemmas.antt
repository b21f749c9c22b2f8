-- A run over what is right, in which no fault is told, is done, or ends for want of memory.
use Rattle.std.proofs.Common.{◌≡◌, ℕ, ◌-◌, ◌<◌, false, true, List, [], ◌∷◌, length, Option, Some}
use Rattle.std.proofs.Common.{None, Result, Ok, Err, refl, sym, subst, ◌∙◌, ap, arith, inl, inr}
use Rattle.std.specs.Prelude.{IfSome, IsSome}
use Rattle.std.proofs.lemmas.Bool.{false≢true}
use Rattle.go_text.specs.declared.faults.FaultKind.TheVariants as kinds
use Rattle.go_word.specs.declared.edge.Edge.{Edge}
use Rattle.go_io.specs.Sink.{SinkState}
use Rattle.go_api.specs.declared.limits.TheConstants.{LOG_ENTRIES}
use Rattle.go_blocks.specs.declared.fault.Bad.{Bad}
use Rattle.go_blocks.proofs.FaultLaws.{no_fault}
use Rattle.go_blocks.proofs.FileLaws.{same_file}
use Rattle.go_durable.specs.Attaching.{IsTooLong, IsNoLog, IsOfOthers, IsTooMany}
use Rattle.go_durable.proofs.Standing.{file_is_made, one_recovery}
use Rattle.go_script.specs.declared.step.Step.{Step}
use Rattle.go_run.specs.Causes.{IsRightDisk, IsRight, IsDoneOrMemory, TellsFor}
use Rattle.go_run.specs.Input.{Texts, Read, Task, count_of, lists_under, names_loaded, scripts_under, IsJudged, IsWithLists, IsWithScripts, IsInputOf}
use Rattle.go_run.specs.Work.{Work}
use Rattle.go_run.specs.Work.Work.{driving, generating}
use Rattle.go_run.specs.Reading.{MayRead}
use Rattle.go_run.specs.Ran.{EndsEarly, EndedEarly, Reached, RanTasks, RanOver, Ran}
use Rattle.go_run.specs.Run.{Run}
use Rattle.go_run.specs.declared.status.Status.{Status}
use Rattle.go_run.specs.declared.status.Status.TheVariants.{Done, Words, Script, NoFile, TooMuch, ReadFault, NotALog, OtherVertices, DiskFault, WriteFault}
use Rattle.go_run.specs.declared.status.Status.TheVariants.{Memory}

-- the bytes that a disk tells
told_bytes : (contents : Option (List ℕ)) (told bytes : List ℕ) → contents ≡ Some told → IfSome contents (λ read. read ≡ bytes) → bytes ≡ told
told_bytes None told bytes tells shown = absurd (let h : None ≡ Some told = tells in cc)
told_bytes (Some read) told bytes tells shown = let same : read ≡ told = (let h : Some read ≡ Some told = tells in cc) in sym shown ∙ same

-- bytes of a disk that is right are not refused for what they are
right_is_log : (v : ℕ) (tasks : List Task) (bytes : List ℕ) (bad : Bad) → IsRightDisk v tasks bytes → IsNoLog bytes bad → ⊥
right_is_log v tasks bytes bad right no_log = elim right.is_log.recovers [
  | inl unmade ↦ no_log.made unmade.0
  | inr file ↦ no_fault v right.log bytes bad file no_log.first
]

right_vertices : (v : ℕ) (tasks : List Task) (bytes : List ℕ) (file : ℕ) → IsRightDisk v tasks bytes → IsOfOthers v bytes file → ⊥
right_vertices v tasks bytes file right others = elim right.is_log.recovers [
  | inl unmade ↦ file_is_made file others.log bytes others.is_file unmade.0
  | inr this ↦ others.other (let same = same_file file v others.log right.log bytes others.is_file this in same.0)
]

right_length : (v : ℕ) (tasks : List Task) (bytes : List ℕ) (len : ℕ) → IsRightDisk v tasks bytes → IsTooLong bytes len → ⊥
right_length v tasks bytes len right long = omega (arith, right.is_log.fits, long.so_long, long.over)

right_count : (v : ℕ) (tasks : List Task) (bytes : List ℕ) (count : ℕ) → IsRightDisk v tasks bytes →
    IsTooMany v (LOG_ENTRIES - count_of tasks) bytes count → ⊥
right_count v tasks bytes count right many =
    let same : many.log ≡ right.log = one_recovery v v many.log right.log bytes (inr many.is_file) right.is_log.recovers in
    omega (arith, right.is_log.few, many.so_many, many.over, ap length same)

-- scripts that are judged right are not refused too, and ask for one thing
module _ (names : List (List ℕ)) where
  judged_not : (scripts : List (List Step)) (lists : List (List Edge)) (tasks : List Task) (status : Status) → IsJudged names scripts lists (Ok tasks) →
      IsJudged names scripts lists (Err status) → ⊥
  judged_not scripts lists tasks (Script name line kinds.Until) ok refused = ok.1 refused.0.script refused.1.n refused.1.against
  judged_not scripts lists tasks (Script name line _) ok refused = refused
  judged_not scripts lists tasks (TooMuch counted limit) ok refused = omega (arith, ok.2, refused.1, ap count_of ok.0)
  judged_not scripts lists tasks _ ok refused = refused

  lists_not : (scripts : List (List Step)) (lists : Result (List (List Edge)) Status) (tasks : List Task) (status : Status) →
      IsWithLists names scripts lists (Ok tasks) → IsWithLists names scripts lists (Err status) → ⊥
  lists_not scripts (Ok lists) tasks status ok refused = judged_not scripts lists tasks status ok refused
  lists_not scripts (Err why) tasks status ok refused = let h : Ok tasks ≡ Err why = ok in cc

  lists_one : (scripts : List (List Step)) (lists : Result (List (List Edge)) Status) (one two : List Task) → IsWithLists names scripts lists (Ok one) →
      IsWithLists names scripts lists (Ok two) → one ≡ two
  lists_one scripts (Ok lists) one two is also = is.0 ∙ sym also.0
  lists_one scripts (Err why) one two is also = absurd (let h : Ok one ≡ Err why = is in cc)

  scripts_not : (v : ℕ) (named : Texts) (scripts : Result (List (List Step)) Status) (tasks : List Task) (status : Status) →
      IsWithScripts v names named scripts (Ok tasks) → IsWithScripts v names named scripts (Err status) → ⊥
  scripts_not v named (Ok scripts) tasks status ok refused = lists_not scripts (lists_under v named (names_loaded scripts)) tasks status ok refused
  scripts_not v named (Err why) tasks status ok refused = let h : Ok tasks ≡ Err why = ok in cc

  scripts_one : (v : ℕ) (named : Texts) (scripts : Result (List (List Step)) Status) (one two : List Task) → IsWithScripts v names named scripts (Ok one) →
      IsWithScripts v names named scripts (Ok two) → one ≡ two
  scripts_one v named (Ok scripts) one two is also = lists_one scripts (lists_under v named (names_loaded scripts)) one two is also
  scripts_one v named (Err why) one two is also = absurd (let h : Ok one ≡ Err why = is in cc)

pub input_not : (v : ℕ) (work : Work) (read : Read) (tasks : List Task) (status : Status) → IsInputOf v work read (Ok tasks) →
    IsInputOf v work read (Err status) → ⊥
input_not v (driving names) read tasks status ok refused = scripts_not names v read.named (scripts_under v names read.files) tasks status ok refused
input_not v (generating count seed) read tasks status ok refused = absurd (let h = refused in cc)

pub input_one : (v : ℕ) (work : Work) (read : Read) (one two : List Task) → IsInputOf v work read (Ok one) → IsInputOf v work read (Ok two) → one ≡ two
input_one v (driving names) read one two is also = scripts_one names v read.named (scripts_under v names read.files) one two is also
input_one v (generating count seed) read one two is also = (let h = is ∙ sym also in cc)

-- a shelf that tells its texts is read in one way
same_input : (v : ℕ) (shelf : Option Texts) (work : Work) (read other : Read) (result : Result (List Task) Status) → TellsFor work shelf →
    MayRead shelf (Some work) read → MayRead shelf (Some work) other → IsInputOf v work read result → IsInputOf v work other result
same_input v None (driving names) read other result tells may also is = absurd (false≢true tells)
same_input v (Some told) (driving names) read other result tells may also is =
    let one : read ≡ other =
    ap (λ (f : List (Option (List ℕ))). let r : Read = record { files = f; named = read.named } in r) (may.0 ∙ sym also.0)
    ∙ ap (λ (n : Texts). let r : Read = record { files = other.files; named = n } in r) (may.1 ∙ sym also.1) in
    subst (λ (r : Read). IsInputOf v (driving names) r result) one is
same_input v shelf (generating count seed) read other result tells may also is = is

module _ {D : Type 0} (run : Run D) (work : Work) (read : Read) (tasks : List Task) (input : IsInputOf run.vertices work read (Ok tasks)) (bytes : List ℕ)
    (shown : run.device.contents run.begun ≡ Some bytes) (right : IsRightDisk run.vertices tasks bytes) where
  -- what is right doesn't end early but for a fault of the shelf or want of memory
  never_early : (status : Status) → EndsEarly run.vertices (Some work) read status → ((name : List ℕ) → status ≡ ReadFault name → ⊥) → IsDoneOrMemory status
  never_early (Script name line kind) why fault = absurd (input_not run.vertices work read tasks (Script name line kind) input why)
  never_early (NoFile name) why fault = absurd (input_not run.vertices work read tasks (NoFile name) input why)
  never_early (TooMuch counted limit) why fault = absurd (input_not run.vertices work read tasks (TooMuch counted limit) input why)
  never_early (ReadFault name) why fault = absurd (fault name refl)
  never_early Memory why fault = inr refl
  never_early _ why fault = absurd why

  -- what is right of the bytes that the opening read
  right_for : (read_bytes : List ℕ) → IfSome (run.device.contents run.begun) (λ told. told ≡ read_bytes) → IsRightDisk run.vertices tasks read_bytes
  right_for read_bytes is =
      subst (λ (b : List ℕ). IsRightDisk run.vertices tasks b) (sym (told_bytes (run.device.contents run.begun) bytes read_bytes shown is)) right

  -- and its tasks are run to the end but for a fault of disk or sink, or want of memory
  always_done : (sink : SinkState) (ended : D) (status : Status) → RanTasks run tasks sink ended status → (status ≡ DiskFault → ⊥) → (status ≡ WriteFault → ⊥) →
      IsDoneOrMemory status
  always_done sink ended Done ran disk write = inl refl
  always_done sink ended (TooMuch counted limit) ran disk write = elim ran.0 [
    | inl long ↦ let answer = long.0.answer in absurd (right_length run.vertices tasks answer.bytes counted (right_for answer.bytes answer.shown) answer.answer)
    | inr many ↦ let answer = many.1.answer in absurd (right_count run.vertices tasks answer.bytes many.0 (right_for answer.bytes answer.shown) answer.answer)
  ]
  always_done sink ended (NotALog at kind) ran disk write =
      let answer = ran.0.answer in
      absurd (right_is_log run.vertices tasks answer.bytes (record { at = at; kind = kind }) (right_for answer.bytes answer.shown) answer.answer)
  always_done sink ended (OtherVertices found other) ran disk write =
      let answer = ran.0.answer in
      absurd (right_vertices run.vertices tasks answer.bytes found (right_for answer.bytes answer.shown) answer.answer)
  always_done sink ended DiskFault ran disk write = absurd (disk refl)
  always_done sink ended WriteFault ran disk write = absurd (write refl)
  always_done sink ended Memory ran disk write = inr refl
  always_done sink ended _ ran disk write = absurd ran

-- a run over what is right, in which no fault is told, is done, or ends for want of memory
pub done_or_memory : {D : Type 0} (run : Run D) (asked : Option Work) (shelf : Option Texts) (sink : SinkState) (ended : D) (status : Status) →
    Ran run asked shelf sink ended status → ((name : List ℕ) → status ≡ ReadFault name → ⊥) → (status ≡ DiskFault → ⊥) → (status ≡ WriteFault → ⊥) →
    IsRight run.vertices asked shelf (run.device.contents run.begun) → IsDoneOrMemory status
done_or_memory run asked shelf sink ended status ran fault disk write right =
    let work = right.work in
    let v = run.vertices in
    let over = subst (λ (a : Option Work). Ran run a shelf sink ended status) right.is_asked ran in
    let may = subst (λ (a : Option Work). MayRead shelf a right.read) right.is_asked right.may_read in
    let input = same_input v shelf work right.read over.read (Ok right.tasks) right.told may over.may_read right.input in
    elim over.ran [
      | inl ended_early ↦ never_early run work over.read right.tasks input right.bytes right.shown right.right status ended_early.why fault
      | inr reached ↦
          let same : work ≡ reached.work = (let h : Some work ≡ Some reached.work = reached.is_asked in cc) in
          let there = subst (λ (w : Work). IsInputOf v w over.read (Ok reached.tasks)) (sym same) reached.input in
          let one = input_one v work over.read reached.tasks right.tasks there input in
          always_done run work over.read right.tasks input right.bytes right.shown right.right sink ended status
          (subst (λ (l : List Task). RanTasks run l sink ended status) one reached.ran) disk write
    ]
