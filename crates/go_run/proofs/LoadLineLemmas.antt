-- Lemmas on the lines of scripts that load lists.
use Rattle.std.proofs.Common.{◌≡◌, ◌∙◌, ℕ, ◌+◌, ◌<◌, List, [], ◌∷◌, ◌++◌, length, map}
use Rattle.std.proofs.Common.{take, drop, get_or, append-nil, append_assoc, Option, Some, refl, sym, subst, ap}
use Rattle.std.specs.Prelude.{slice_get}
use Rattle.std.specs.List.{flat_map}
use Rattle.std.proofs.lemmas.List.{map-append, take_more, take-append-drop}
use Rattle.std.proofs.lemmas.Grind.{flat_map-append}
use Rattle.std.proofs.lemmas.Option.{slice_get_within, get_or_from_slice_get}
use Rattle.go_word.specs.declared.edge.Edge.{Edge}
use Rattle.go_script.specs.declared.command.Command.{Command}
use Rattle.go_script.specs.declared.command.Command.TheVariants.{Load}
use Rattle.go_script.specs.declared.command.Command.TheVariants as commands
use Rattle.go_script.specs.declared.step.Step.{Step}
use Rattle.go_script.specs.Commands.{commands_of}
use Rattle.go_run.specs.Input.{Texts, name_loaded, names_loaded}
use Rattle.go_run.specs.Lists.{Numbers, HoldsList, HoldsLists, RefusesLists}
use Rattle.go_run.specs.declared.status.Status.{Status}
use Rattle.go_run.proofs.ListLemmas.{lists_refused_more}

-- the names that commands load
abbrev pub names_of : List Command → List (List ℕ)
names_of commands = flat_map name_loaded commands

-- one script more
pub names_next : (scripts : List (List Step)) (i : ℕ) (steps : List Step) → i < length scripts → steps ≡ get_or scripts i steps →
    names_loaded (take i scripts) ++ names_of (commands_of steps) ≡ names_loaded (take (i + 1) scripts)
names_next scripts i steps within is =
    let more : take (i + 1) scripts ≡ take i scripts ++ steps ∷ [] = take_more scripts i steps within
    ∙ ap (λ (s : List Step). take i scripts ++ s ∷ []) (sym is) in
    let named = flat_map-append (λ (s : List Step). names_of (commands_of s)) (take i scripts) (steps ∷ []) in
    let last : names_loaded (steps ∷ []) ≡ names_of (commands_of steps) = append-nil (names_of (commands_of steps)) in
    sym (ap names_loaded more ∙ named ∙ ap (λ (n : List (List ℕ)). names_loaded (take i scripts) ++ n) last)

-- one command more
pub names_of_next : (commands : List Command) (at : ℕ) (command : Command) → slice_get commands at ≡ Some command →
    names_of (take at commands) ++ name_loaded command ≡ names_of (take (at + 1) commands)
names_of_next commands at command here =
    let more : take (at + 1) commands ≡ take at commands ++ command ∷ [] =
    take_more commands at command (slice_get_within commands at command here)
    ∙ ap (λ (c : Command). take at commands ++ c ∷ []) (get_or_from_slice_get commands at command command here) in
    let named = flat_map-append name_loaded (take at commands) (command ∷ []) in
    sym (ap names_of more ∙ named ∙ ap (λ (n : List (List ℕ)). names_of (take at commands) ++ n) (append-nil (name_loaded command)))

-- the names so far are first ones of all
pub names_more : (scripts : List (List Step)) (i : ℕ) (steps : List Step) (at : ℕ) (command : Command) → i < length scripts → steps ≡ get_or scripts i steps →
    slice_get (commands_of steps) at ≡ Some command →
    (more : List (List ℕ)) × (names_loaded scripts ≡ ((names_loaded (take i scripts) ++ names_of (take at (commands_of steps))) ++ name_loaded command) ++ more)
names_more scripts i steps at command within is here =
    let commands = commands_of steps in
    let rest = names_of (drop (at + 1) commands) in
    let others = names_loaded (drop (i + 1) scripts) in
    let own : names_of commands ≡ (names_of (take at commands) ++ name_loaded command) ++ rest =
    ap names_of (sym (take-append-drop (at + 1) commands)) ∙ flat_map-append name_loaded (take (at + 1) commands) (drop (at + 1) commands)
    ∙ ap (λ (n : List (List ℕ)). n ++ rest) (sym (names_of_next commands at command here)) in
    let all : names_loaded scripts ≡ (names_loaded (take i scripts) ++ names_of commands) ++ others =
    ap names_loaded (sym (take-append-drop (i + 1) scripts))
    ∙ flat_map-append (λ (s : List Step). names_of (commands_of s)) (take (i + 1) scripts) (drop (i + 1) scripts)
    ∙ ap (λ (n : List (List ℕ)). n ++ others) (sym (names_next scripts i steps within is)) in
    (rest ++ others, all ∙ regroup (names_loaded (take i scripts)) (names_of (take at commands)) (name_loaded command) rest others (names_of commands) own)
  where
    regroup : (a b c d e whole : List (List ℕ)) → whole ≡ (b ++ c) ++ d → (a ++ whole) ++ e ≡ ((a ++ b) ++ c) ++ (d ++ e)
    regroup a b c d e whole is = rw is (simp append_assoc refl)

-- the next line loads a name
pub lists_line : (v : ℕ) (shelf now : Option Texts) (after : Numbers) (loads : List (List Edge)) (front : List (List ℕ)) (commands : List Command) (at : ℕ)
    (command : Command) (name : List ℕ) (numbers : List ℕ) → now ≡ shelf → slice_get commands at ≡ Some command → command ≡ Load name →
    HoldsLists v now after loads ((front ++ names_of (take at commands)) ++ name ∷ []) numbers →
    HoldsLists v shelf after loads (front ++ names_of (take (at + 1) commands)) numbers
lists_line v shelf now after loads front commands at command name numbers same here is holds =
    let own : name_loaded command ≡ name ∷ [] = ap name_loaded is in
    let next : (front ++ names_of (take at commands)) ++ name ∷ [] ≡ front ++ names_of (take (at + 1) commands) =
    append_assoc front (names_of (take at commands)) (name ∷ [])
    ∙ ap (λ (n : List (List ℕ)). front ++ n)
    (ap (λ (n : List (List ℕ)). names_of (take at commands) ++ n) (sym own) ∙ names_of_next commands at command here) in
    subst (λ (t : Option Texts). HoldsLists v t after loads (front ++ names_of (take (at + 1) commands)) numbers) same
    (subst (λ (n : List (List ℕ)). HoldsLists v now after loads n numbers) next holds)

-- the next line loads nothing
pub lists_other : (v : ℕ) (shelf : Option Texts) (known : Numbers) (loads : List (List Edge)) (front : List (List ℕ)) (commands : List Command) (at : ℕ)
    (command : Command) (numbers : List ℕ) → slice_get commands at ≡ Some command → name_loaded command ≡ [] →
    HoldsLists v shelf known loads (front ++ names_of (take at commands)) numbers →
    HoldsLists v shelf known loads (front ++ names_of (take (at + 1) commands)) numbers
lists_other v shelf known loads front commands at command numbers here none holds =
    let next : names_of (take at commands) ≡ names_of (take (at + 1) commands) =
    sym (append-nil (names_of (take at commands))) ∙ ap (λ (n : List (List ℕ)). names_of (take at commands) ++ n) (sym none)
    ∙ names_of_next commands at command here in
    subst (λ (n : List (List ℕ)). HoldsLists v shelf known loads (front ++ n) numbers) next holds

-- a line that loads a name is refused
pub lists_line_refused : (v : ℕ) (shelf now : Option Texts) (scripts : List (List Step)) (i : ℕ) (steps : List Step) (at : ℕ) (command : Command)
    (name : List ℕ)
    (status : Status) → now ≡ shelf → i < length scripts → steps ≡ get_or scripts i steps → slice_get (commands_of steps) at ≡ Some command →
    command ≡ Load name → RefusesLists v now ((names_loaded (take i scripts) ++ names_of (take at (commands_of steps))) ++ name ∷ []) status →
    RefusesLists v shelf (names_loaded scripts) status
lists_line_refused v shelf now scripts i steps at command name status same within is_steps here is refuses =
    let own : name_loaded command ≡ name ∷ [] = ap name_loaded is in
    let front = names_loaded (take i scripts) ++ names_of (take at (commands_of steps)) in
    let more = names_more scripts i steps at command within is_steps here in
    let all : (front ++ name ∷ []) ++ more.0 ≡ names_loaded scripts =
    ap (λ (n : List (List ℕ)). (front ++ n) ++ more.0) (sym own) ∙ sym more.1 in
    subst (λ (t : Option Texts). RefusesLists v t (names_loaded scripts) status) same
    (subst (λ (n : List (List ℕ)). RefusesLists v now n status) all (lists_refused_more v now (front ++ name ∷ []) more.0 status refuses))

-- a command that is no load
pub not_load : (command : Command) → ((name : List ℕ) → command ≡ Load name → ⊥) → name_loaded command ≡ []
not_load (Load name) is = absurd (is name refl)
not_load (commands.Add src dst) is = refl
not_load (commands.Del src dst) is = refl
not_load (commands.Offer src dst) is = refl
not_load (commands.View place) is = refl
not_load (commands.Drop place) is = refl
not_load (commands.Degree place vertex) is = refl
not_load (commands.Neigh place vertex) is = refl
not_load (commands.Hop place vertex) is = refl
not_load (commands.Level place root vertex) is = refl
not_load (commands.Bfs place root) is = refl
not_load (commands.Rank place count) is = refl
not_load (commands.Stream place) is = refl
not_load (commands.Close place) is = refl
not_load (commands.Update place max) is = refl
not_load (commands.Until asked) is = refl
not_load commands.Sync is = refl
not_load commands.Compact is = refl
