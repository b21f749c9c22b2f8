-- What commands may put has its vertices where the commands and the lists of their loads have theirs.
use Rattle.std.proofs.Common.{◌≡◌, ℕ, suc, ◌<◌, List, [], ◌∷◌, length, get_or, slice_get, Some, refl, arith}
use Rattle.std.specs.Prelude.{All}
use Rattle.std.proofs.lemmas.List.Elements.{All-append, All-get_or, All-map, All-weaker, All-from_recursion, All-drop}
use Rattle.go_word.specs.declared.edge.Edge.{Edge}
use Rattle.go_word.specs.Log.{IsWithin as IsEntryWithin}
use Rattle.go_script.specs.Commands.{put_by}
use Rattle.go_script.specs.Places.{NamesBelow}
use Rattle.go_script.specs.declared.command.Command.{Command}
use Rattle.go_script.specs.declared.command.Command.TheVariants as asks
use Rattle.go_script.specs.declared.puts.Puts.{Puts}
use Rattle.go_script.specs.declared.puts.Puts.TheVariants.{Nothing, Entry, Offered, Listed}
use Rattle.go_session.specs.Asked.{asked_with, entries_given, lists_after, lists_of, may_put}

-- entries, and lists of them, with their vertices below a number
abbrev pub AreWithin : ℕ → List Edge → Type 0
AreWithin v edges = All (IsEntryWithin v) edges

abbrev pub ListsWithin : ℕ → List (List Edge) → Type 0
ListsWithin v lists = All (AreWithin v) lists

none_within : (v : ℕ) → AreWithin v []
none_within v = All-from_recursion (IsEntryWithin v) [] tt

one_within : (v : ℕ) (e : Edge) → e.src < v → e.dst < v → AreWithin v (e ∷ [])
one_within v e source destination = All-from_recursion (IsEntryWithin v) (e ∷ []) (record { source = source; destination = destination }, tt)

-- the entries of a command
given_within : (v : ℕ) (command : Command) (lists : List (List Edge)) → NamesBelow v command → ListsWithin v lists →
    AreWithin v (entries_given (put_by command) lists)
given_within v (asks.Add src dst) lists below within = one_within v _ below.0 below.1.0
given_within v (asks.Del src dst) lists below within = one_within v _ below.0 below.1.0
given_within v (asks.Offer src dst) lists below within = one_within v _ below.0 below.1.0
given_within v (asks.Load name) [] below within = none_within v
given_within v (asks.Load name) (list ∷ lists) below within =
    All-get_or (AreWithin v) (list ∷ lists) 0 [] (omega arith) within
given_within v (asks.View place) lists below within = none_within v
given_within v (asks.Drop place) lists below within = none_within v
given_within v (asks.Degree place vertex) lists below within = none_within v
given_within v (asks.Neigh place vertex) lists below within = none_within v
given_within v (asks.Hop place vertex) lists below within = none_within v
given_within v (asks.Level place root vertex) lists below within = none_within v
given_within v (asks.Bfs place root) lists below within = none_within v
given_within v (asks.Rank place count) lists below within = none_within v
given_within v (asks.Stream place) lists below within = none_within v
given_within v (asks.Close place) lists below within = none_within v
given_within v (asks.Update place most) lists below within = none_within v
given_within v (asks.Until asked) lists below within = none_within v
given_within v asks.Sync lists below within = none_within v
given_within v asks.Compact lists below within = none_within v

-- the lists that are left
after_within : (v : ℕ) (puts : Puts) (lists : List (List Edge)) → ListsWithin v lists → ListsWithin v (lists_after puts lists)
after_within v Nothing lists within = within
after_within v (Entry edge) lists within = within
after_within v (Offered edge) lists within = within
after_within v Listed [] within = within
after_within v Listed (list ∷ lists) within = All-drop (AreWithin v) 1 (list ∷ lists) within

-- all that commands may put
pub may_put_within : (v : ℕ) (commands : List Command) (lists : List (List Edge)) →
    ((k : ℕ) (command : Command) → slice_get commands k ≡ Some command → NamesBelow v command) → ListsWithin v lists →
    AreWithin v (may_put (asked_with commands lists))
may_put_within v [] lists below within = none_within v
may_put_within v (command ∷ commands) lists below within =
    All-append (IsEntryWithin v) (entries_given (put_by command) lists) (may_put (asked_with commands (lists_after (put_by command) lists)))
    (given_within v command lists (below 0 command refl) within)
    (may_put_within v commands (lists_after (put_by command) lists) (λ k c here. below (suc k) c here) (after_within v (put_by command) lists within))

-- the lists of some numbers among lists
pub lists_of_within : (v : ℕ) (loads : List (List Edge)) (numbers : List ℕ) → ListsWithin v loads → All (λ n. n < length loads) numbers →
    ListsWithin v (lists_of loads numbers)
lists_of_within v loads numbers within below =
    All-map (AreWithin v) (λ (n : ℕ). get_or loads n []) numbers
    (All-weaker (λ n. n < length loads) (λ n. AreWithin v (get_or loads n [])) (λ n there. All-get_or (AreWithin v) loads n [] there within) numbers below)
