-- Sessions of tasks, and their text.
use Rattle.std.proofs.Common.{◌≡◌, ℕ, zero, suc, ◌+◌, ◌<◌, ◌≤◌, List, [], ◌∷◌, ◌++◌, length, drop}
use Rattle.std.proofs.Common.{map, sum, sum_by, Option, Some, None, refl, ap, arith, sym, subst, ◌∙◌}
use Rattle.std.specs.Prelude.{All}
use Rattle.std.specs.List.{flat_map}
use Rattle.std.proofs.lemmas.List.Concat.{flat_map-cons}
use Rattle.std.proofs.lemmas.List.Sums.{sum_by-cons}
use Rattle.go_word.specs.declared.edge.Edge.{Edge}
use Rattle.go_report.specs.ReplyText.{text_of_session}
use Rattle.go_report.specs.declared.reply.Reply.{Reply}
use Rattle.go_script.specs.declared.command.Command.{Command}
use Rattle.go_session.specs.Asked.{lists_of, may_put}
use Rattle.go_session.specs.Cut.{shown, cut_from}
use Rattle.go_session.specs.Drives.{cut_at}
use Rattle.go_session.specs.Session.{SessionState, unanswered, asked_in, asked_left}
use Rattle.go_session.specs.Walk.{start}
use Rattle.go_run.specs.Course.{AreOf, text_of_all}
use Rattle.go_run.specs.Driving.{IsTold, NamesLists, quota_in, tasks_in, text_shown}
use Rattle.go_run.specs.Input.{Task, task_count, count_of}
use Rattle.go_run.specs.Reading.{IsNew}
use Rattle.go_run.specs.Turns.{Aim, aim_of}

-- sessions with the same aims are of the same tasks
pub are_kept : (number : ℕ) (loads : List (List Edge)) (tasks : List Task) (olds news : List SessionState) → AreOf number loads tasks olds →
    map aim_of news ≡ map aim_of olds → AreOf number loads tasks news
are_kept number loads [] [] [] are same = tt
are_kept number loads [] [] (new ∷ news) are same = absurd (let h : aim_of new ∷ map aim_of news ≡ [] = same in cc)
are_kept number loads [] (old ∷ olds) news are same = absurd are
are_kept number loads (task ∷ tasks) [] news are same = absurd are
are_kept number loads (task ∷ tasks) (old ∷ olds) [] are same = absurd (let h : [] ≡ aim_of old ∷ map aim_of olds = same in cc)
are_kept number loads (task ∷ tasks) (old ∷ olds) (new ∷ news) are same =
    let h : aim_of new ∷ map aim_of news ≡ aim_of old ∷ map aim_of olds = same in
    let one : aim_of new ≡ aim_of old = cc in
    let rest : map aim_of news ≡ map aim_of olds = cc in (
      ap (λ (a : Aim). a.number) one ∙ are.0,
      ap (λ (a : Aim). a.commands) one ∙ are.1,
      ap (λ (a : Aim). lists_of loads a.lists) one ∙ are.2,
      are_kept (number + 1) loads tasks olds news are.3 rest,
    )

-- the replies that are shown don't depend on what a session without one was told
shown_same : (d told first : ℕ) (commands : List Command) (replies : List Reply) → (0 < length replies → told ≡ first) →
    shown (Some d) told commands replies ≡ shown (Some d) first commands replies
shown_same d told first commands [] tells = refl
shown_same d told first commands (reply ∷ replies) tells = ap (λ (n : ℕ). cut_from d (start n) commands (reply ∷ replies)) (tells (omega arith))

-- what is shown at a front is the text of the sessions that are cut there
pub text_cut : (d first : ℕ) (sessions : List SessionState) → All (IsTold first) sessions →
    text_shown sessions (Some d) ≡ text_of_all (map (cut_at d first) sessions)
text_cut d first [] told = refl
text_cut d first (session ∷ sessions) told =
    let this : SessionState → List ℕ = λ s. text_of_session s.number (shown (Some d) s.first s.commands s.replies) in
    let all : SessionState → List ℕ = λ s. text_of_session s.number s.replies in
    let same = ap (λ (l : List Reply). text_of_session session.number l)
    (shown_same d session.first first session.commands session.replies (told 0 session (omega arith))) in
    flat_map-cons this session sessions
    ∙ ap (λ (l : List ℕ). l ++ flat_map this sessions) same
    ∙ ap (λ (l : List ℕ). all (cut_at d first session) ++ l) (text_cut d first sessions (λ k s within. told (suc k) s (omega (arith, within))))
    ∙ sym (flat_map-cons all (cut_at d first session) (map (cut_at d first) sessions))

-- sessions that have answered nothing may put what their tasks may
pub quota_new : (loads : List (List Edge)) (session : SessionState) → session ≡ unanswered session.number session.commands session.lists →
    quota_in loads session ≡ length (may_put (asked_in loads session))
quota_new loads session new = ap (λ (r : List Reply). length (may_put (drop (length r) (asked_in loads session)))) (ap (λ (s : SessionState). s.replies) new)

pub quotas_count : (loads : List (List Edge)) (sessions : List SessionState) → All (IsNew (length loads)) sessions →
    sum_by (quota_in loads) sessions ≡ count_of (tasks_in loads sessions)
quotas_count loads [] new = refl
quotas_count loads (session ∷ sessions) new =
    let task : SessionState → Task = λ s. record { commands = s.commands; lists = lists_of loads s.lists } in
    let this = quota_new loads session (new 0 session (omega arith)).new in
    omega (
      arith,
      sum_by-cons (quota_in loads) session sessions,
      sum_by-cons task_count (task session) (tasks_in loads sessions),
      this,
      quotas_count loads sessions (λ k s within. new (suc k) s (omega (arith, within))),
    )

pub sum_quotas : (loads : List (List Edge)) (sessions : List SessionState) → sum (map (quota_in loads) sessions) ≡ sum_by (quota_in loads) sessions
sum_quotas loads [] = refl
sum_quotas loads (session ∷ sessions) =
    omega (
      arith,
      sum_by-cons (λ (n : ℕ). n) (quota_in loads session) (map (quota_in loads) sessions),
      sum_by-cons (quota_in loads) session sessions,
      sum_quotas loads sessions,
    )
