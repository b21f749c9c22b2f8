-- A round in which no session answers a command: all have ended, where none waits for more than is certain to come.
use Rattle.std.proofs.Common.{◌≡◌, ℕ, zero, suc, ◌+◌, ◌<◌, ◌≤◌, Bool, true, false, cond, List}
use Rattle.std.proofs.Common.{[], ◌∷◌, ◌++◌, length, take, drop, map, slice_get, get_or, Some, sum}
use Rattle.std.proofs.Common.{sum_by, not, refl, ap, arith, sym, subst, ◌∙◌, inl, inr, length-append}
use Rattle.std.specs.List.{remove, position_or_len}
use Rattle.std.specs.Prelude.{is_some, option_map}
use Rattle.std.proofs.lemmas.Bool.{false≢true}
use Rattle.std.proofs.lemmas.Bool.Decides.{leb_tells}
use Rattle.std.proofs.lemmas.List.Sums.{sum_by-cons, sum_by-remove, fails_before_first, prefix_len-le-length}
use Rattle.std.proofs.lemmas.Option.{slice_get-map, slice_get_within, get_or_from_slice_get}
use Rattle.go_word.specs.declared.edge.Edge.{Edge}
use Rattle.go_script.specs.Commands.{put_by}
use Rattle.go_script.specs.Until.{Counted, AsksTooMuch, is_entry, is_listed, asked_by, loads_in, certain_puts, early_puts}
use Rattle.go_script.specs.declared.command.Command.{Command}
use Rattle.go_script.specs.declared.command.Command.TheVariants as asks
use Rattle.go_script.specs.declared.puts.Puts.{Puts}
use Rattle.go_script.specs.declared.puts.Puts.TheVariants.{Nothing, Entry, Offered, Listed}
use Rattle.go_report.specs.declared.reply.Reply.{Reply}
use Rattle.go_session.specs.Asked.{entries_given, lists_after, asked_with, lists_of, is_busy, put_by_answered}
use Rattle.go_session.specs.Session.{SessionState, asked_in, put_in}
use Rattle.go_session.specs.Walk.{World, Walk, Replies, IsReply, after}
use Rattle.go_run.specs.Reading.{counted_in, WaitsForCertain}
use Rattle.go_run.specs.Turns.{total_put, HasDone, IsQuiet}

-- how many entries what is put certainly has, where these are the sizes of the files left, and the sizes that are left then
abbrev certain_of : Puts → List ℕ → ℕ
certain_of Nothing files = 0
certain_of (Entry edge) files = 1
certain_of (Offered edge) files = 0
certain_of Listed [] = 0
certain_of Listed (size ∷ files) = size

abbrev files_after : Puts → List ℕ → List ℕ
files_after Nothing files = files
files_after (Entry edge) files = files
files_after (Offered edge) files = files
files_after Listed [] = []
files_after Listed (size ∷ files) = files

-- the entries and the loads of a command, and those of others
certain_step : (put : Puts) (entries loads : ℕ) (files : List ℕ) →
    (cond (is_entry put) 1 0 + entries) + sum (take (cond (is_listed put) 1 0 + loads) files)
    ≡ certain_of put files + (entries + sum (take loads (files_after put files)))
certain_step Nothing entries loads files = ap (λ n. (0 + entries) + sum (take n files)) (let e : 0 + loads ≡ loads = omega arith in e) ∙ omega arith
certain_step (Entry edge) entries loads files = ap (λ n. (1 + entries) + sum (take n files)) (let e : 0 + loads ≡ loads = omega arith in e) ∙ omega arith
certain_step (Offered edge) entries loads files = ap (λ n. (0 + entries) + sum (take n files)) (let e : 0 + loads ≡ loads = omega arith in e) ∙ omega arith
certain_step Listed entries loads [] =
    ap (λ n. (0 + entries) + sum (take n [])) (let e : 1 + loads ≡ suc loads = omega arith in e) ∙ none loads
  where
    none : (n : ℕ) → (0 + entries) + 0 ≡ 0 + (entries + sum (take n []))
    none zero = omega arith
    none (suc n) = omega arith
certain_step Listed entries loads (size ∷ files) =
    let one : 1 + loads ≡ suc loads = omega arith in
    ap (λ n. (0 + entries) + sum (take n (size ∷ files))) one
    ∙ ap (λ n. (0 + entries) + n) (sum_by-cons (λ (n : ℕ). n) size (take loads files)) ∙ omega arith

-- what a command and others certainly put
certain-cons : (command : Command) (commands : List Command) (files : List ℕ) →
    certain_puts (command ∷ commands) files ≡ certain_of (put_by command) files + certain_puts commands (files_after (put_by command) files)
certain-cons command commands files =
    ap (λ n. n + sum (take (loads_in (command ∷ commands)) files))
    (sum_by-cons (λ (c : Command). cond (is_entry (put_by c)) 1 0) command commands)
    ∙ ap (λ n. (cond (is_entry (put_by command)) 1 0 + sum_by (λ c. cond (is_entry (put_by c)) 1 0) commands) + sum (take n files))
    (sum_by-cons (λ (c : Command). cond (is_listed (put_by c)) 1 0) command commands)
    ∙ certain_step (put_by command) (sum_by (λ c. cond (is_entry (put_by c)) 1 0) commands) (loads_in commands) files

certain_none : (files : List ℕ) → certain_puts [] files ≡ 0
certain_none files = refl

-- fewer commands put no more
certain_fewer : (commands : List Command) (files : List ℕ) (m n : ℕ) → m ≤ n → certain_puts (take m commands) files ≤ certain_puts (take n commands) files
certain_fewer commands files zero n within = omega (arith, certain_none files)
certain_fewer commands files (suc m) zero within = absurd (omega arith)
certain_fewer [] files (suc m) (suc n) within = omega arith
certain_fewer (command ∷ commands) files (suc m) (suc n) within =
    omega (
      arith,
      certain-cons command (take m commands) files,
      certain-cons command (take n commands) files,
      certain_fewer commands (files_after (put_by command) files) m n (omega arith),
    )

-- the sizes of the lists that are left
files_of_lists : (put : Puts) (lists : List (List Edge)) → files_after put (map length lists) ≡ map length (lists_after put lists)
files_of_lists Nothing lists = refl
files_of_lists (Entry edge) lists = refl
files_of_lists (Offered edge) lists = refl
files_of_lists Listed [] = refl
files_of_lists Listed (list ∷ lists) = refl

-- whether what is put is certain
abbrev is_certain : Puts → Bool
is_certain Nothing = false
is_certain (Entry edge) = true
is_certain (Offered edge) = false
is_certain Listed = true

-- the ring is busy to an offer alone
not_busy : (world : World) (walk : Walk) (command : Command) (entries : List Edge) (reply : Reply) →
    IsReply world walk (record { command = command; entries = entries }) reply → is_certain (put_by command) ≡ true → is_busy reply ≡ false
not_busy world walk (asks.Add src dst) entries reply is certain = ap is_busy is.1
not_busy world walk (asks.Del src dst) entries reply is certain = ap is_busy is.1
not_busy world walk (asks.Load name) entries reply is certain = ap is_busy is.is
not_busy world walk _ entries reply is certain = absurd (false≢true certain)

-- a command that was answered put what it certainly puts
one_certain : (put : Puts) (lists : List (List Edge)) (busy : Bool) → (is_certain put ≡ true → busy ≡ false) →
    certain_of put (map length lists) ≤ length (cond busy [] (entries_given put lists))
one_certain Nothing lists busy tells = omega arith
one_certain (Entry edge) lists busy tells = rw (tells refl) (omega arith)
one_certain (Offered edge) lists busy tells = omega arith
one_certain Listed [] busy tells = omega arith
one_certain Listed (list ∷ lists) busy tells = rw (tells refl) (omega arith)

-- commands that were answered put what they certainly put
pub certain_put : (world : World) (walk : Walk) (commands : List Command) (lists : List (List Edge)) (replies : List Reply) →
    Replies world walk (asked_with commands lists) replies →
    certain_puts (take (length replies) commands) (map length lists) ≤ length (put_by_answered (asked_with commands lists) replies)
certain_put world walk [] lists [] are = omega arith
certain_put world walk [] lists (reply ∷ replies) are = absurd are
certain_put world walk (command ∷ commands) lists [] are = omega arith
certain_put world walk (command ∷ commands) lists (reply ∷ replies) are =
    let put = put_by command in
    let entries = entries_given put lists in
    let rest = asked_with commands (lists_after put lists) in
    let one = one_certain put lists (is_busy reply) (not_busy world walk command entries reply are.0) in
    let more = certain_put world (after walk reply) commands (lists_after put lists) replies are.1 in
    let left = ap (certain_puts (take (length replies) commands)) (files_of_lists put lists) in
    omega (
      arith,
      certain-cons command (take (length replies) commands) (map length lists),
      left,
      one,
      more,
      length-append (cond (is_busy reply) [] entries) (put_by_answered rest replies),
    )

-- whether a command waits
abbrev waits_by : Command → Bool
waits_by command = is_some (asked_by command)

-- a session that has done all, or is at an `until`, has put what it certainly puts before it first waits
early_first : (commands : List Command) (n : ℕ) (command : Command) → slice_get commands n ≡ Some command → waits_by command ≡ true →
    position_or_len waits_by commands ≤ n
early_first commands n command at waits = elim (leb_tells (position_or_len waits_by commands) n) [
  | inl h ↦ h.1
  | inr h ↦
      let fails = fails_before_first waits_by commands n command (omega (arith, h.1)) in
      absurd (false≢true (sym fails ∙ ap waits_by (get_or_from_slice_get commands n command command at) ∙ waits))
]

early_done : (commands : List Command) → position_or_len waits_by commands ≤ length commands
early_done commands = prefix_len-le-length (λ (c : Command). not (waits_by c)) commands

-- a session has put what its answered commands certainly put
pub record HasPutCertain (loads : List (List Edge)) (session : SessionState) : Type 0 where
  pub certain : certain_puts (take (length session.replies) session.commands) (map length (lists_of loads session.lists)) ≤ length (put_in loads session)

pub puts_certain : (loads : List (List Edge)) (session : SessionState) (world : World) (walk : Walk) →
    Replies world walk (asked_in loads session) session.replies → HasPutCertain loads session
puts_certain loads session world walk are = record {
  certain = certain_put world walk session.commands (lists_of loads session.lists) session.replies are;
}

-- where it is quiet, it has put what it certainly puts before it first waits
early_put : (loads : List (List Edge)) (session : SessionState) (put : ℕ) → HasPutCertain loads session → IsQuiet put session →
    early_puts (counted_in loads session) ≤ length (put_in loads session)
early_put loads session put has quiet =
    let files = map length (lists_of loads session.lists) in
    let within : position_or_len waits_by session.commands ≤ length session.replies = elim quiet [
      | inl done ↦ omega (arith, early_done session.commands, done)
      | inr waits ↦ early_first session.commands (length session.replies) (asks.Until waits.0) waits.1 refl
    ] in
    omega (arith, has.certain, certain_fewer session.commands files (position_or_len waits_by session.commands) (length session.replies) within)

-- a sum over all but one
module _ {S C : Type 0} (early : C → ℕ) (f : S → C) (put : S → ℕ) where
  sum_all : (xs : List S) → ((k : ℕ) (x : S) → slice_get xs k ≡ Some x → early (f x) ≤ put x) → sum_by early (map f xs) ≤ sum_by put xs
  sum_all [] each = omega arith
  sum_all (x ∷ xs) each =
      omega (arith, sum_by-cons early (f x) (map f xs), sum_by-cons put x xs, each 0 x refl, sum_all xs (λ k y at. each (suc k) y at))

  sum_others : (xs : List S) (i : ℕ) → ((k : ℕ) (x : S) → slice_get xs k ≡ Some x → early (f x) ≤ put x) →
      sum_by early (remove (map f xs) i) ≤ sum_by put (remove xs i)
  sum_others [] zero each = omega arith
  sum_others [] (suc i) each = omega arith
  sum_others (x ∷ xs) zero each = sum_all xs (λ k y at. each (suc k) y at)
  sum_others (x ∷ xs) (suc i) each =
      omega (
        arith,
        sum_by-cons early (f x) (remove (map f xs) i),
        sum_by-cons put x (remove xs i),
        each 0 x refl,
        sum_others xs i (λ k y at. each (suc k) y at),
      )

-- where no session waits for more than is certain to come, and each is quiet, each has ended
pub all_done : (loads : List (List Edge)) (sessions : List SessionState) → WaitsForCertain loads sessions →
    ((k : ℕ) (session : SessionState) → slice_get sessions k ≡ Some session → HasPutCertain loads session) →
    ((k : ℕ) (session : SessionState) → slice_get sessions k ≡ Some session → IsQuiet (total_put loads sessions) session) →
    (i : ℕ) (session : SessionState) → slice_get sessions i ≡ Some session → HasDone session
all_done loads sessions keeps has quiet i session at = elim (quiet i session at) [
  | inl done ↦ done
  | inr waits ↦
      let put : SessionState → ℕ = λ s. length (put_in loads s) in
      let others = sum_others early_puts (counted_in loads) put sessions i
      (λ k s here. early_put loads s (total_put loads sessions) (has k s here) (quiet k s here)) in
      let this : get_or sessions i session ≡ session = get_or_from_slice_get sessions i session session at in
      let sum = sum_by-remove put sessions i session (slice_get_within sessions i session at) in
      let here : put (get_or sessions i session) ≡ put session = ap put this in
      let there : slice_get (map (counted_in loads) sessions) i ≡ Some (counted_in loads session) =
      slice_get-map (counted_in loads) sessions i ∙ ap (option_map (counted_in loads)) at in
      absurd (keeps i (length session.replies) (record {
        session = counted_in loads session;
        there = there;
        command = asks.Until waits.0;
        comes = waits.1;
        asked = waits.0;
        asks = refl;
        too_much = omega (arith, (has i session at).certain, others, sum, here, waits.2);
      }))
]
