-- Lemmas on the script over entries that are generated.
use Rattle.std.proofs.Common.{◌≡◌, ◌∙◌, ℕ, zero, suc, ◌+◌, ◌<◌, ◌≤◌, ◌%◌, ◌==◌, Bool, true, false, List, [], ◌∷◌, ◌++◌}
use Rattle.std.proofs.Common.{length, map, codes, rules, mod-lt, Option, Some, None, Result, Ok, Err, refl, arith, sym, subst, ap}
use Rattle.std.specs.Prelude.{All, if◌then◌else◌}
use Rattle.std.specs.List.{range_with_len}
use Rattle.std.specs.Str.{is_utf8}
use Rattle.std.proofs.lemmas.List.Elements.{All-nil}
use Rattle.std.proofs.lemmas.List.FromFn.{length-map-range_with_len}
use Rattle.std.proofs.lemmas.Bool.{lt-ltb}
use Rattle.std.proofs.lemmas.Str.{is_utf8-from_IsUtf8}
use Rattle.go_word.specs.declared.edge.Edge.{Edge}
use Rattle.go_word.specs.Log.{IsWithin as IsEntryWithin}
use Rattle.go_loader.specs.Generated.{entry, generated}
use Rattle.go_script.specs.declared.command.Command.{Command}
use Rattle.go_script.specs.declared.step.Step.{Step}
use Rattle.go_script.specs.declared.fault.ScriptFault.{ScriptFault}
use Rattle.go_script.specs.declared.fault.ScriptFault.TheVariants.{Line}
use Rattle.go_script.specs.Commands.{commands_of}
use Rattle.go_script.specs.Grammar.{script_of, command_after}
use Rattle.go_text.specs.Word.{words}
use Rattle.go_text.specs.declared.faults.FaultKind.{FaultKind}
use Rattle.std.specs.Str.Lines.{lines}
use Rattle.go_script.specs.declared.command.Command.TheVariants as commands
use Rattle.go_run.specs.Input.{generated_name, generating_commands}
use Rattle.std.specs.Prelude.{slice_get}
use Rattle.std.proofs.lemmas.List.Sums.{sum_by-cons}
use Rattle.go_script.specs.Places.{IsScript, IsWithin}
use Rattle.go_script.specs.Until.{asked_by}
use Rattle.go_session.specs.Asked.{asked_with, may_put}
use Rattle.go_session.specs.Session.{SessionState, unanswered}
use Rattle.go_run.specs.Input.{Texts, Task, task_count}
use Rattle.go_run.specs.Work.Work.{generating}
use Rattle.go_run.specs.Reading.{IsNew, IsReady, WaitsForCertain, ReadsWork}
use Rattle.go_run.specs.declared.limits.TheConstants.{EDGES}
use Rattle.go_run.proofs.ListLemmas.{All-cons}
use Rattle.go_run.proofs.TaskLemmas.{puts_of, entries-cons}
use Rattle.go_run.proofs.WorkLemmas.{puts_within}

-- the text of the script
abbrev pub generating_text : List ℕ
generating_text =
    codes "load @gen" ++ 10 ∷ codes "view 0" ++ 10 ∷ codes "rank 0 5" ++ 10 ∷ codes "bfs 0 0" ++ 10 ∷ codes "stream 1" ++ 10 ∷ codes "sync" ++ 10 ∷
    codes "compact" ++ 10 ∷ codes "degree 0 0"

-- commands with their lines, from a number on
abbrev pub numbered : ℕ → List Command → List Step
numbered n [] = []
numbered n (command ∷ commands) = record { line = n; command = command } ∷ numbered (n + 1) commands

-- the name is text
name_is_text : is_utf8 (codes "@gen") ≡ true
unfolding lib.Utf8.encode
name_is_text = is_utf8-from_IsUtf8 (codes "@gen") (codes "@gen", (refl, refl))

-- its lines
lines_are : lines generating_text ≡ codes "load @gen" ∷ codes "view 0" ∷ codes "rank 0 5" ∷ codes "bfs 0 0" ∷ codes "stream 1"
    ∷ codes "sync" ∷ codes "compact" ∷ codes "degree 0 0" ∷ []
lines_are = refl

-- how each line reads
line_1 : (v : ℕ) → command_after (suc v) [] (words (codes "load @gen")) ≡ Ok (commands.Load generated_name)
line_1 v = rw name_is_text refl

line_2 : (v : ℕ) → command_after (suc v) (commands.Load generated_name ∷ []) (words (codes "view 0")) ≡ Ok (commands.View 0)
line_2 v = refl

line_3 : (v : ℕ) → command_after (suc v) (commands.Load generated_name ∷ commands.View 0 ∷ []) (words (codes "rank 0 5")) ≡ Ok (commands.Rank 0 5)
line_3 v = refl

line_4 : (v : ℕ) → command_after (suc v) (commands.Load generated_name ∷ commands.View 0 ∷ commands.Rank 0 5 ∷ []) (words (codes "bfs 0 0")) ≡ Ok
    (commands.Bfs 0 0)
line_4 v = rw (lt-ltb 0 (suc v) (omega arith)) refl

line_5 : (v : ℕ) → command_after (suc v) (commands.Load generated_name ∷ commands.View 0 ∷ commands.Rank 0 5 ∷ commands.Bfs 0 0 ∷ [])
    (words (codes "stream 1")) ≡ Ok (commands.Stream 1)
line_5 v = refl

line_6 : (v : ℕ) → command_after (suc v)
    (commands.Load generated_name ∷ commands.View 0 ∷ commands.Rank 0 5 ∷ commands.Bfs 0 0 ∷ commands.Stream 1 ∷ []) (words (codes "sync")) ≡ Ok (commands.Sync)
line_6 v = refl

line_7 : (v : ℕ) → command_after (suc v)
    (commands.Load generated_name ∷ commands.View 0 ∷ commands.Rank 0 5 ∷ commands.Bfs 0 0 ∷ commands.Stream 1 ∷ commands.Sync ∷ [])
    (words (codes "compact")) ≡ Ok (commands.Compact)
line_7 v = refl

line_8 : (v : ℕ) → command_after (suc v)
    (commands.Load generated_name ∷ commands.View 0 ∷ commands.Rank 0 5 ∷ commands.Bfs 0 0 ∷ commands.Stream 1 ∷ commands.Sync ∷ commands.Compact ∷ [])
    (words (codes "degree 0 0")) ≡ Ok (commands.Degree 0 0)
line_8 v = rw (lt-ltb 0 (suc v) (omega arith)) refl

-- it reads as its commands over any vertices
pub generating_reads : (v : ℕ) → script_of (suc v) generating_text ≡ Ok (numbered 1 generating_commands)
generating_reads v = rw (name_is_text, lt-ltb 0 (suc v) (omega arith)) refl

-- entries of which each holds hold
All-made : {A : Type 0} (P : A → Type 0) (make : ℕ → A) (is : List ℕ) → ((i : ℕ) → P (make i)) → All P (map make is)
All-made P make [] holds = All-nil P
All-made P make (i ∷ is) holds = All-cons P (make i) (map make is) (holds i) (All-made P make is holds)

-- generated entries are over the vertices
pub generated_within : (count x v : ℕ) → 0 < v → All (IsEntryWithin v) (generated count x v)
generated_within count x v some = All-made (IsEntryWithin v) (entry x v) (range_with_len 0 count) (λ i. by i (i % 8 == 7) refl)
  where
    by : (i : ℕ) (b : Bool) → (i % 8 == 7) ≡ b → IsEntryWithin v (entry x v i)
    by i true is = rw is (record { source = mod-lt _ some; destination = mod-lt _ some })
    by i false is = rw is (record { source = mod-lt _ some; destination = mod-lt _ some })

-- what is there waits for nothing
abbrev OnOne : Option Command → Type 0
OnOne None = Unit {0}
OnOne (Some command) = asked_by command ≡ None

-- a command of the script waits for nothing
never_waits : (n : ℕ) (command : Command) (asked : ℕ) → slice_get generating_commands n ≡ Some command → asked_by command ≡ Some asked → ⊥
never_waits n command asked here asks = by generating_commands n (λ k. by_place k) here
  where
    by_place : (k : ℕ) → OnOne (slice_get generating_commands k)
    by_place zero = refl
    by_place (suc zero) = refl
    by_place (suc (suc zero)) = refl
    by_place (suc (suc (suc zero))) = refl
    by_place (suc (suc (suc (suc zero)))) = refl
    by_place (suc (suc (suc (suc (suc zero))))) = refl
    by_place (suc (suc (suc (suc (suc (suc zero)))))) = refl
    by_place (suc (suc (suc (suc (suc (suc (suc zero))))))) = refl
    by_place (suc (suc (suc (suc (suc (suc (suc (suc k)))))))) = tt

    by : (commands : List Command) (n : ℕ) → ((k : ℕ) → OnOne (slice_get commands k)) → slice_get commands n ≡ Some command → ⊥
    by commands n each here =
        let none : asked_by command ≡ None = subst (λ (o : Option Command). OnOne o) here (each n) in
        let clash : None ≡ Some asked = sym none ∙ asks in cc

-- the one session of the script is ready
pub generating_ready : (v edges seed : ℕ) → 0 < v → edges ≤ EDGES → IsScript generating_commands → IsWithin v generating_commands →
    IsReady v (record { commands = generating_commands; lists = generated edges seed v ∷ [] } ∷ []) (generated edges seed v ∷ [])
    (unanswered 1 generating_commands (0 ∷ []) ∷ [])
generating_ready v edges seed some few script within = record {
  are = (refl, refl, refl, tt);
  new = All-cons (IsNew 1) (unanswered 1 generating_commands (0 ∷ [])) [] (record {
    new = refl;
    lists = All-cons (λ (n : ℕ). n < 1) 0 [] (omega arith) (All-nil (λ (n : ℕ). n < 1));
  }) (All-nil (IsNew 1));
  can_run = record {
    scripts = All-cons (λ (task : Task). IsScript task.commands × IsWithin v task.commands) the_task [] (script, within)
        (All-nil (λ (task : Task). IsScript task.commands × IsWithin v task.commands));
    entries = All-cons (λ (task : Task). All (IsEntryWithin v) (may_put (asked_with task.commands task.lists))) the_task []
        (puts_within v generating_commands (generated edges seed v ∷ []) within
        (All-cons (λ (l : List Edge). All (IsEntryWithin v) l) (generated edges seed v) [] (generated_within edges seed v some)
        (All-nil (λ (l : List Edge). All (IsEntryWithin v) l))))
        (All-nil (λ (task : Task). All (IsEntryWithin v) (may_put (asked_with task.commands task.lists))));
    few = omega (
      arith,
      few,
      puts_of generating_commands (generated edges seed v ∷ []) refl,
      entries-cons (generated edges seed v) [],
      counted,
      sum_by-cons task_count the_task [],
    );
  };
  waits = waits;
  some = omega arith;
  few = omega arith;
}
  where
    the_task : Task
    the_task = record { commands = generating_commands; lists = generated edges seed v ∷ [] }

    counted : length (generated edges seed v) ≡ edges
    counted = length-map-range_with_len (entry seed v) 0 edges

    waits : WaitsForCertain (generated edges seed v ∷ []) (unanswered 1 generating_commands (0 ∷ []) ∷ [])
    waits zero n asks =
        let there = asks.there in
        let same : generating_commands ≡ asks.session.commands = cc in
        never_waits n asks.command asks.asked (subst (λ (l : List Command). slice_get l n ≡ Some asks.command) (sym same) asks.comes) asks.asks
    waits (suc i) n asks = absurd (let there = asks.there in cc)

-- what is read of its text
pub generating_is : (v : ℕ) (steps : List Step) → 1 ≤ v → script_of v generating_text ≡ Ok steps → commands_of steps ≡ generating_commands
generating_is zero steps some is = absurd (omega (arith, some))
generating_is (suc v) steps some is =
    let same : numbered 1 generating_commands ≡ steps = let reads = generating_reads v in cc in
    ap commands_of (sym same)

-- no line of its text is faulty
pub generating_right : (v n : ℕ) (kind : FaultKind) → 1 ≤ v → script_of v generating_text ≡ Err (Line n kind) → ⊥
generating_right zero n kind some faulty = omega (arith, some)
generating_right (suc v) n kind some faulty = let reads = generating_reads v in cc

-- the work is read so, from any shelf
pub generating_work : (v edges seed : ℕ) (shelf : Option Texts) (loads : List (List Edge)) (sessions : List SessionState) → 1 ≤ v → edges ≤ EDGES →
    IsScript generating_commands → IsWithin v generating_commands → loads ≡ generated edges seed v ∷ [] →
    sessions ≡ unanswered 1 generating_commands (0 ∷ []) ∷ [] → ReadsWork v shelf (generating edges seed) loads (Ok sessions)
generating_work v edges seed shelf loads sessions some few script within loads_are sessions_are = record {
  read = record { files = []; named = λ name. None };
  may_read = tt;
  reads = rw (loads_are, sessions_are) (
    record { commands = generating_commands; lists = generated edges seed v ∷ [] } ∷ [],
    refl,
    generating_ready v edges seed some few script within,
  );
}
