-- Lemmas on what commands put: which list a load has, and what one more reply adds.
use Rattle.std.proofs.Common.{◌≡◌, ℕ, zero, suc, ◌+◌, ◌<◌, Bool, true, if◌then◌else◌, List, [], ◌∷◌, ◌++◌, length, take, drop, slice_get}
use Rattle.std.proofs.Common.{Some, None, refl, ap, arith, sym, ◌∙◌, append-nil, append_assoc}
use Rattle.std.proofs.lemmas.List.{take_more}
use Rattle.std.proofs.lemmas.List.Sums.{sum_by-cons}
use Rattle.std.proofs.lemmas.Option.{slice_get_within, get_or_from_slice_get}
use Rattle.go_word.specs.declared.edge.Edge.{Edge}
use Rattle.go_script.specs.Commands.{put_by}
use Rattle.go_script.specs.Until.{is_listed, loads_in}
use Rattle.go_script.specs.declared.command.Command.{Command}
use Rattle.go_script.specs.declared.puts.Puts.{Puts}
use Rattle.go_script.specs.declared.puts.Puts.TheVariants.{Nothing, Entry, Offered, Listed}
use Rattle.go_report.specs.declared.reply.Reply.{Reply}
use Rattle.go_session.specs.Asked.{Asked, asked_with, entries_given, lists_after, put_by_answered, is_busy}

-- how many loads commands have: whether the first one is a load, and those of the others
pub loads_in-cons : (command : Command) (commands : List Command) →
    loads_in (command ∷ commands) ≡ (if is_listed (put_by command) then 1 else 0) + loads_in commands
loads_in-cons command commands = sum_by-cons (λ (c : Command). if is_listed (put_by c) then 1 else 0) command commands

drop_none : {X : Type 0} → (n : ℕ) → drop {A = X} n [] ≡ []
drop_none zero = refl
drop_none (suc n) = refl

pub drop_on : {X : Type 0} → (n m : ℕ) (xs : List X) → drop n (drop m xs) ≡ drop (m + n) xs
drop_on n zero xs = ap (λ k. drop k xs) (let e : n ≡ 0 + n = omega arith in e)
drop_on n (suc m) [] = drop_none n ∙ sym (drop_none (suc m + n))
drop_on n (suc m) (x ∷ xs) = drop_on n m xs ∙ ap (λ k. drop k (x ∷ xs)) (let e : suc (m + n) ≡ suc m + n = omega arith in e)

-- the lists that are left are those behind the first one, or all of them
lists_after-drop : (puts : Puts) (lists : List (List Edge)) → lists_after puts lists ≡ drop (if is_listed puts then 1 else 0) lists
lists_after-drop Nothing lists = refl
lists_after-drop (Entry edge) lists = refl
lists_after-drop (Offered edge) lists = refl
lists_after-drop Listed [] = refl
lists_after-drop Listed (list ∷ lists) = refl

-- behind the first commands, the lists behind those of their loads
pub asked_with-drop : (k : ℕ) (commands : List Command) (lists : List (List Edge)) →
    drop k (asked_with commands lists) ≡ asked_with (drop k commands) (drop (loads_in (take k commands)) lists)
asked_with-drop zero commands lists = refl
asked_with-drop (suc k) [] lists = refl
asked_with-drop (suc k) (command ∷ commands) lists =
    let one : ℕ = if is_listed (put_by command) then 1 else 0 in
    asked_with-drop k commands (lists_after (put_by command) lists)
    ∙ ap (λ (l : List (List Edge)). asked_with (drop k commands) l)
    (ap (λ (l : List (List Edge)). drop (loads_in (take k commands)) l) (lists_after-drop (put_by command) lists)
    ∙ drop_on (loads_in (take k commands)) one lists
    ∙ ap (λ (n : ℕ). drop n lists) (sym (loads_in-cons command (take k commands))))

pub length-asked_with : (commands : List Command) (lists : List (List Edge)) → length (asked_with commands lists) ≡ length commands
length-asked_with [] lists = refl
length-asked_with (command ∷ commands) lists = ap (λ n. suc n) (length-asked_with commands (lists_after (put_by command) lists))

-- a command with what it puts
pub asked_at : (commands : List Command) (lists : List (List Edge)) (k : ℕ) (command : Command) → slice_get commands k ≡ Some command →
    slice_get (asked_with commands lists) k
    ≡ Some (record { command = command; entries = entries_given (put_by command) (drop (loads_in (take k commands)) lists) })
asked_at [] lists k command here = absurd (let h : None ≡ Some command = here in cc)
asked_at (c ∷ commands) lists zero command here =
    let same : c ≡ command = (let h : Some c ≡ Some command = here in cc) in
    ap (λ (d : Command). Some (record { command = d; entries = entries_given (put_by d) lists })) same
asked_at (c ∷ commands) lists (suc k) command here =
    asked_at commands (lists_after (put_by c) lists) k command here
    ∙ ap (λ (l : List (List Edge)). Some (record { command = command; entries = entries_given (put_by command) l }))
    (ap (λ (l : List (List Edge)). drop (loads_in (take k commands)) l) (lists_after-drop (put_by c) lists)
    ∙ drop_on (loads_in (take k commands)) (if is_listed (put_by c) then 1 else 0) lists
    ∙ ap (λ (n : ℕ). drop n lists) (sym (loads_in-cons c (take k commands))))

-- a load is one more than the loads before it
pub load_there : (commands : List Command) (k : ℕ) (command : Command) → slice_get commands k ≡ Some command → is_listed (put_by command) ≡ true →
    loads_in (take k commands) < loads_in commands
load_there [] k command here load = absurd (let h : None ≡ Some command = here in cc)
load_there (c ∷ commands) zero command here load =
    let same : c ≡ command = (let h : Some c ≡ Some command = here in cc) in
    let one : is_listed (put_by c) ≡ true = ap (λ (d : Command). is_listed (put_by d)) same ∙ load in
    let first : loads_in (c ∷ commands) ≡ 1 + loads_in commands =
    loads_in-cons c commands ∙ ap (λ (b : Bool). (if b then 1 else 0) + loads_in commands) one in
    omega (arith, first)
load_there (c ∷ commands) (suc k) command here load =
    let rest = load_there commands k command here load in
    omega (arith, rest, loads_in-cons c commands, loads_in-cons c (take k commands))

-- the commands up to the next one
pub take_next : {X : Type 0} → (xs : List X) (k : ℕ) (x : X) → slice_get xs k ≡ Some x → take (k + 1) xs ≡ take k xs ++ x ∷ []
take_next xs k x here =
    let within = slice_get_within xs k x here in
    take_more xs k x within ∙ rw (get_or_from_slice_get xs k x x here) refl

-- how many loads there are up to the next one
loads_in-push : (commands : List Command) (command : Command) →
    loads_in (commands ++ command ∷ []) ≡ loads_in commands + (if is_listed (put_by command) then 1 else 0)
loads_in-push [] command = let e = loads_in-cons command [] in omega (arith, e)
loads_in-push (c ∷ commands) command =
    let rest = loads_in-push commands command in
    omega (arith, rest, loads_in-cons c commands, loads_in-cons c (commands ++ command ∷ []))

pub loads_next : (commands : List Command) (k : ℕ) (command : Command) → slice_get commands k ≡ Some command →
    loads_in (take (k + 1) commands) ≡ loads_in (take k commands) + (if is_listed (put_by command) then 1 else 0)
loads_next commands k command here = ap loads_in (take_next commands k command here) ∙ loads_in-push (take k commands) command

none_answered : (asked : List Asked) → put_by_answered asked [] ≡ []
none_answered [] = refl
none_answered (a ∷ asked) = refl

-- what one more reply says that was put
pub put_by_answered-push : (asked : List Asked) (replies : List Reply) (a : Asked) (reply : Reply) → slice_get asked (length replies) ≡ Some a →
    put_by_answered asked (replies ++ reply ∷ []) ≡ put_by_answered asked replies ++ (if is_busy reply then [] else a.entries)
put_by_answered-push [] [] a reply next = absurd (let h : None ≡ Some a = next in cc)
put_by_answered-push [] (r ∷ replies) a reply next = absurd (let h : None ≡ Some a = next in cc)
put_by_answered-push (b ∷ asked) [] a reply next =
    let same : b ≡ a = (let h : Some b ≡ Some a = next in cc) in
    let put : List Edge = if is_busy reply then [] else b.entries in
    ap (λ l. put ++ l) (none_answered asked) ∙ append-nil put ∙ ap (λ (x : Asked). if is_busy reply then [] else x.entries) same
put_by_answered-push (b ∷ asked) (r ∷ replies) a reply next =
    let put : List Edge = if is_busy r then [] else b.entries in
    ap (λ l. put ++ l) (put_by_answered-push asked replies a reply next)
    ∙ sym (append_assoc put (put_by_answered asked replies) (if is_busy reply then [] else a.entries))
