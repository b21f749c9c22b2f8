-- Lemmas that the tests cite: a session begins over the list, and the loads of a script have their numbers.
use Rattle.std.proofs.Common.{◌≡◌, ℕ, ◌+◌, ◌<◌, ◌≤◌, if◌then◌else◌, Bool, true, false, List, [], ◌∷◌, ◌++◌, length}
use Rattle.std.proofs.Common.{take, slice_get, Some, refl, ap, arith, sym}
use Rattle.std.proofs.Common.{subst, ◌∙◌, length-append}
use Rattle.std.specs.Prelude.{All}
use Rattle.std.proofs.lemmas.List.Elements.{All-push, All-from_recursion}
use Rattle.go_word.specs.declared.edge.Edge.{Edge}
use Rattle.go_word.specs.Log.{IsWithin}
use Rattle.go_api.specs.Standing.{Standing, unused}
use Rattle.go_script.specs.Commands.{put_by}
use Rattle.go_script.specs.Places.{IsScript, IsWithin as IsWithinAll}
use Rattle.go_script.specs.Until.{is_listed, loads_in}
use Rattle.go_script.specs.declared.command.Command.{Command}
use Rattle.go_session.specs.Asked.{lists_of, may_put}
use Rattle.go_session.specs.Listed.{listed_terms}
use Rattle.go_session.specs.Session.{SessionState, unanswered, asked_left, CanGoOn}
use Rattle.go_session.proofs.AskedLemmas.{loads_next}
use Rattle.go_session.proofs.BeginLemmas.{unused_sound, can_begin}
use Rattle.go_session.proofs.WithinLemmas.{ListsWithin, may_put_within, lists_of_within}

-- a session can begin over it
pub begins_listed : (session : SessionState) (store : Standing) (commands : List Command) (lists : List ℕ) (loads : List (List Edge))
    (vertices ring quota : ℕ) →
    session ≡ unanswered 1 commands lists → store ≡ unused (listed_terms vertices ring) [] quota → IsWithinAll vertices commands →
    IsScript session.commands → ListsWithin vertices loads → All (λ n. n < length loads) lists →
    length (may_put (asked_left loads session)) ≤ quota → CanGoOn loads session store
begins_listed session store commands lists loads vertices ring quota is made below script within there few =
    let terms = listed_terms vertices ring in
    let sound = unused_sound terms [] quota refl (All-from_recursion (IsWithin vertices) [] tt) (omega arith) in
    let asked : IsScript commands = subst (λ (s : SessionState). IsScript s.commands) is script in
    let count : length (may_put (asked_left loads (unanswered 1 commands lists))) ≤ quota =
    subst (λ (s : SessionState). length (may_put (asked_left loads s)) ≤ quota) is few in
    let entries = may_put_within vertices commands (lists_of loads lists) below.each (lists_of_within vertices loads lists within there) in
    subst (λ (s : SessionState). CanGoOn loads s store) (sym is)
    (subst (λ (s : Standing). CanGoOn loads (unanswered 1 commands lists) s) (sym made)
    (can_begin 1 commands lists loads terms [] quota sound below asked entries count refl))

-- one more command was looked at: a load has its number, and another command has none
pub numbers_more : (commands : List Command) (i n loads : ℕ) (command : Command) (numbers now : List ℕ) → slice_get commands i ≡ Some command →
    is_listed (put_by command) ≡ true → now ≡ numbers ++ n ∷ [] → n < loads →
    (length numbers ≡ loads_in (take i commands)) × All (λ k. k < loads) numbers →
    (length now ≡ loads_in (take (i + 1) commands)) × All (λ k. k < loads) now
numbers_more commands i n loads command numbers now here load more below so_far =
    let next = loads_next commands i command here ∙ ap (λ (b : Bool). loads_in (take i commands) + (if b then 1 else 0)) load in
    let long : length now ≡ length numbers + 1 = ap (λ (l : List ℕ). length l) more ∙ length-append numbers (n ∷ []) in (
      omega (arith, next, long, so_far.0),
      subst (λ (l : List ℕ). All (λ k. k < loads) l) (sym more) (All-push (λ k. k < loads) numbers n so_far.1 below),
    )

pub numbers_same : (commands : List Command) (i loads : ℕ) (command : Command) (numbers : List ℕ) → slice_get commands i ≡ Some command →
    is_listed (put_by command) ≡ false →
    (length numbers ≡ loads_in (take i commands)) × All (λ k. k < loads) numbers →
    (length numbers ≡ loads_in (take (i + 1) commands)) × All (λ k. k < loads) numbers
numbers_same commands i loads command numbers here none so_far =
    let next = loads_next commands i command here ∙ ap (λ (b : Bool). loads_in (take i commands) + (if b then 1 else 0)) none in
    (omega (arith, next, so_far.0), so_far.1)
