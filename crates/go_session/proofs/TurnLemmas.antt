-- One turn of a session, as its fields have it: the next command, what it needs, and what comes of it.
use Rattle.std.proofs.Common.{◌≡◌, ℕ, ◌+◌, if◌then◌else◌, List, [], ◌∷◌, ◌++◌, length, take, drop, slice_get, Some, sym, ap, subst, ◌∙◌, arith}
use Rattle.std.proofs.Common.{length-append}
use Rattle.std.proofs.lemmas.Option.{slice_get_within}
use Rattle.go_word.specs.declared.edge.Edge.{Edge}
use Rattle.go_api.specs.Standing.{Standing, IsSound}
use Rattle.go_api.specs.declared.answers.Reached.{Reached}
use Rattle.go_api.specs.declared.stop.Stop.{Stop}
use Rattle.go_script.specs.Commands.{put_by}
use Rattle.go_script.specs.Until.{is_listed, loads_in}
use Rattle.go_script.specs.declared.command.Command.{Command}
use Rattle.go_report.specs.declared.reply.Reply.{Reply}
use Rattle.go_session.specs.Answers.{Suits, Answered, IsBroken, IsWaiting, entries_by}
use Rattle.go_session.specs.Asked.{entries_given, lists_of}
use Rattle.go_session.specs.Kept.{KeepsCount}
use Rattle.go_session.specs.Looks.{LooksFor}
use Rattle.go_session.specs.Session.{SessionState, CanGoOn, HasAnswered, HasWaited, HasStopped, asked_in}
use Rattle.go_session.specs.Walk.{row_of}
use Rattle.go_session.proofs.AskedLemmas.{loads_next}
use Rattle.go_session.proofs.StepLemmas.{step_answered, step_waited, step_stopped}
use Rattle.go_session.proofs.SuitLemmas.{next_asked, next_suits}

-- a session, which is what its fields stand for, can go on with a command that puts these entries if it is a load
pub record IsTurn (loads : List (List Edge)) (session old : SessionState) (s : Standing) (command : Command) (given : List Edge) : Type 0 where
  pub same : session ≡ old
  pub can : CanGoOn loads session s
  pub here : slice_get session.commands (length session.replies) ≡ Some command
  pub asked : slice_get (asked_in loads session) (length session.replies) ≡ Some (record { command = command; entries = entries_by command given })

-- the lists by number are those of an equal list of numbers
pub given_by : (loads : List (List Edge)) (command : Command) (given : List Edge) (loaded : ℕ) (numbers lists : List ℕ) →
    entries_by command given ≡ entries_given (put_by command) (drop loaded (lists_of loads numbers)) → numbers ≡ lists →
    entries_by command given ≡ entries_given (put_by command) (drop loaded (lists_of loads lists))
given_by loads command given loaded numbers lists is same =
    is ∙ ap (λ (l : List ℕ). entries_given (put_by command) (drop loaded (lists_of loads l))) same

pub turn_of : (loads : List (List Edge)) (inside old : SessionState) (s : Standing) (command : Command) (given : List Edge) (loaded : ℕ) → inside ≡ old →
    CanGoOn loads old s → slice_get inside.commands (length inside.replies) ≡ Some command →
    loaded ≡ loads_in (take (length inside.replies) inside.commands) →
    entries_by command given ≡ entries_given (put_by command) (drop loaded (lists_of loads inside.lists)) → IsTurn loads inside old s command given
turn_of loads inside old s command given loaded same can here count given_is = record {
  same = same;
  can = subst (λ (session : SessionState). CanGoOn loads session s) (sym same) can;
  here = here;
  asked = next_asked loads inside command given here
      (given_is ∙ ap (λ (n : ℕ). entries_given (put_by command) (drop n (lists_of loads inside.lists))) count);
}

pub turn_suits : (loads : List (List Edge)) (session old : SessionState) (s : Standing) (command : Command) (given : List Edge) →
    IsTurn loads session old s command given → Suits command given s
turn_suits loads session old s command given turn = next_suits loads session s command given turn.can turn.here turn.asked

-- it was answered
pub turn_answered : (loads : List (List Edge)) (inside old : SessionState) (before now : Standing) (command : Command) (given : List Edge) (reply : Reply)
    (opened : ℕ) (items : List Reply) → IsTurn loads inside old before command given → opened ≡ before.terms.first →
    items ≡ inside.replies ++ reply ∷ [] → IsSound now → Answered (row_of command) (entries_by command given) reply before now →
    HasAnswered loads old (record inside { first = opened; replies = items }) before now
turn_answered loads inside old before now command given reply opened items turn first more sound answered =
    subst (λ (session : SessionState). HasAnswered loads session (record inside { first = opened; replies = items }) before now) turn.same
    (rw (first, more) (step_answered loads inside before now command given reply turn.can turn.asked turn.here
    (turn_suits loads inside old before command given turn) sound answered))

-- it waits
pub turn_waits : (loads : List (List Edge)) (inside old : SessionState) (before now : Standing) (command : Command) (given : List Edge) (seen : ℕ)
    (opened : ℕ) (looked : ℕ → Reached → Type 0) → IsTurn loads inside old before command given → opened ≡ before.terms.first →
    IsSound now → IsWaiting looked command seen before now →
    HasWaited loads seen old (record inside { first = opened }) before now
turn_waits loads inside old before now command given seen opened looked turn first sound waiting =
    subst (λ (session : SessionState). HasWaited loads seen session (record inside { first = opened }) before now) turn.same
    (rw first (step_waited loads inside before now waiting.asked seen turn.can
    (turn.here ∙ ap (λ (c : Command). Some c) waiting.waits) sound waiting.sees waiting.below))

pub turn_looked : (loads : List (List Edge)) (inside old : SessionState) (before now : Standing) (command : Command) (given : List Edge) (seen : ℕ)
    (looked : ℕ → Reached → Type 0) → IsTurn loads inside old before command given →
    IsWaiting looked command seen before now → LooksFor looked seen old before
turn_looked loads inside old before now command given seen looked turn waiting =
    subst (λ (session : SessionState). LooksFor looked seen session before) turn.same
    (waiting.asked, turn.here ∙ ap (λ (c : Command). Some c) waiting.waits, waiting.look)

-- the store stopped
pub turn_stopped : (loads : List (List Edge)) (inside old : SessionState) (before now : Standing) (command : Command) (given : List Edge) (why : Stop)
    (opened : ℕ) → IsTurn loads inside old before command given → opened ≡ before.terms.first → IsSound now →
    IsBroken (entries_by command given) why before now →
    HasStopped loads why old (record inside { first = opened }) before now
turn_stopped loads inside old before now command given why opened turn first sound broken =
    subst (λ (session : SessionState). HasStopped loads why session (record inside { first = opened }) before now) turn.same
    (rw first (step_stopped loads inside before now (record { command = command; entries = entries_by command given }) why turn.can turn.asked sound broken))

-- the loads that were answered stay counted
pub keeps_more : (commands : List Command) (lists : List ℕ) (replies items : List Reply) (loaded next : ℕ) (command : Command) (reply : Reply) →
    KeepsCount commands lists replies loaded → slice_get commands (length replies) ≡ Some command → items ≡ replies ++ reply ∷ [] →
    next ≡ loaded + (if is_listed (put_by command) then 1 else 0) → KeepsCount commands lists items next
keeps_more commands lists replies items loaded next command reply keeps here more so_many =
    let count : length items ≡ length replies + 1 = ap (λ (l : List Reply). length l) more ∙ length-append replies (reply ∷ []) in
    record {
      some = omega (arith, count, slice_get_within commands (length replies) command here);
      all = keeps.all;
      count = so_many ∙ ap (λ (n : ℕ). n + (if is_listed (put_by command) then 1 else 0)) keeps.count
          ∙ sym (loads_next commands (length replies) command here)
          ∙ ap (λ (n : ℕ). loads_in (take n commands)) (sym count);
    }
