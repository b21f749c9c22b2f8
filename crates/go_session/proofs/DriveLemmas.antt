-- Sessions that were stopped or came to their ends, over the log that their store then has, and over each part of it.
use Rattle.std.proofs.Common.{◌≡◌, ℕ, ◌+◌, ◌-◌, ◌≤◌, Bool, true, false, if◌then◌else◌, List, [], ◌∷◌, ◌++◌, length, take, drop, filter}
use Rattle.std.proofs.Common.{slice_get, Some, refl, sym, subst, ap, ◌∙◌, arith, ◌⊎◌, inl, inr, append_assoc, append-nil}
use Rattle.std.specs.Prelude.{All, nat_lt}
use Rattle.std.proofs.Math.Nat.{min-eq_left}
use Rattle.std.proofs.lemmas.Bool.Decides.{leb_tells}
use Rattle.std.proofs.lemmas.List.{take-append-drop, length-take}
use Rattle.std.proofs.lemmas.List.Elements.{All-get_or}
use Rattle.std.proofs.lemmas.Option.{slice_get_within, get_or_from_slice_get}
use Rattle.go_word.specs.declared.edge.Edge.{Edge}
use Rattle.go_api.specs.Laid.{Rises}
use Rattle.go_api.specs.Standing.{Standing, Terms}
use Rattle.go_script.specs.Commands.{put_by}
use Rattle.go_script.specs.declared.command.Command.{Command}
use Rattle.go_script.specs.declared.command.Command.TheVariants as asks
use Rattle.go_report.specs.declared.reply.Reply.{Reply}
use Rattle.go_session.specs.Asked.{Asked, lists_of, may_put, is_busy, put_by_answered}
use Rattle.go_session.specs.Cut.{rest_of, cut_from}
use Rattle.go_session.specs.Drives.{over, IsOffered, MayHavePut, PutsInAll, cut_at}
use Rattle.go_session.specs.Session.{SessionState, IsHalted, asked_in, asked_left, put_in, next_entries, world_of, walk_of}
use Rattle.go_session.specs.Walk.{World, Walk, row_of, start, after, walked, IsRow, Replies}
use Rattle.go_session.proofs.GrowthLemmas.{Grows, replies_grow}
use Rattle.go_session.proofs.CutWalks.{below, asked_commands, commands_asked, cut_holds}
use Rattle.go_session.proofs.CutKeeps.{IsBehind, EndsAt, cut_keeps, get_behind}

-- a session over a log, where it can't go on or needn't: its replies are allowed; own positions that they didn't use are behind what they say, and no more
-- than some first ones of the next command's; and its own positions rise
pub record IsOver (terms : Terms) (loads : List (List Edge)) (log : List Edge) (own : List ℕ) (session : SessionState) : Type 0 where
  pub allowed : Replies (over terms log own) (start terms.first) (asked_in loads session) session.replies
  pub behind : IsBehind (over terms log own) (walked terms.first session.replies)
  pub ends : EndsAt (over terms log own) (start terms.first) (asked_in loads session) session.replies
  pub rises : Rises terms.first own

-- a log has all that a standing has seen first, and is as long as it is known to be
pub record HasSeen (s : Standing) (log : List Edge) : Type 0 where
  pub seen : take (length s.log.seen) log ≡ s.log.seen
  pub known : s.log.known ≤ length log

-- the log of a standing goes on to that one
grows_to : (s : Standing) (log : List Edge) → HasSeen s log → Grows (world_of s) (over s.terms log s.own)
grows_to s log has = record {
  same = record { first = refl; vertices = refl; ring = refl; told = refl };
  more_own = [];
  more_log = drop (length s.log.seen) log;
  own = sym (append-nil s.own);
  log = sym (take-append-drop (length s.log.seen) log) ∙ ap (λ (l : List Edge). l ++ drop (length s.log.seen) log) has.seen;
  known = has.known;
}

-- what holds of all positions behind some holds of each
each_behind : (P : ℕ → Type 0) (own : List ℕ) (used k p : ℕ) → All P (drop used own) → used ≤ k → slice_get own k ≡ Some p → P p
each_behind P own used k p all behind here =
    let index : ℕ = k - used in
    let e : k ≡ used + index = omega arith in
    let there : slice_get (drop used own) index ≡ Some p = get_behind used index p own (subst (λ (i : ℕ). slice_get own i ≡ Some p) e here) in
    subst P (get_or_from_slice_get (drop used own) index p 0 there) (All-get_or P (drop used own) index 0 (slice_get_within (drop used own) index p there) all)

-- a session that was stopped is over the log of its store
pub halted_over : (loads : List (List Edge)) (session : SessionState) (s : Standing) (log : List Edge) → IsHalted loads session s → HasSeen s log →
    IsOver s.terms loads log s.own session
halted_over loads session s log halted has = record {
  allowed = replies_grow (world_of s) (over s.terms log s.own) (asked_in loads session) session.replies (grows_to s log has)
      (let old = halted.allowed.sound.sees.old_seen in let floor = halted.allowed.sound.sees.floor_seen in omega arith) halted.allowed.allowed;
  behind = record {
    seen = λ k p used here. each_behind (λ q. (walk_of s session).seen ≤ q) s.own (walk_of s session).used k p halted.behind_seen used here;
    low = λ k p used here. each_behind (λ q. (walk_of s session).low ≤ q) s.own (walk_of s session).used k p halted.behind_low used here;
  };
  ends = let used = halted.used in let fewer = halted.fewer in omega arith;
  rises = halted.allowed.sound.owns.rises;
}

-- the replies of a session that is cut are those of its commands' replies that rest on what is durable
cut_replies : (d : ℕ) (terms : Terms) (loads : List (List Edge)) (session : SessionState) →
    (cut_at d terms.first session).replies ≡ cut_from d (start terms.first) (asked_commands (asked_in loads session)) session.replies
cut_replies d terms loads session =
    ap (λ (commands : List Command). cut_from d (start terms.first) commands session.replies)
    (sym (commands_asked session.commands (lists_of loads session.lists)))

-- over each part of the log that has what is durable, the cut replies are allowed
pub over_cut : (d n : ℕ) (terms : Terms) (loads : List (List Edge)) (log : List Edge) (own : List ℕ) (session : SessionState) →
    IsOver terms loads log own session → terms.first ≤ n → d ≤ n → n ≤ length log →
    Replies (over terms (take n log) (filter (λ p. nat_lt p n) own)) (start terms.first) (asked_in loads (cut_at d terms.first session))
    (cut_at d terms.first session).replies
over_cut d n terms loads log own session is old order there =
    let world = over terms log own in
    let asked = asked_in loads session in
    let held : Replies (below n world) (start terms.first) asked (cut_from d (start terms.first) (asked_commands asked) session.replies) =
    cut_holds d n world asked session.replies old order there is.rises is.allowed in
    let long : n ≡ length (take n log) = sym (length-take n log ∙ min-eq_left there) in
    subst (λ (r : List Reply). Replies (over terms (take n log) (filter (λ p. nat_lt p n) own)) (start terms.first) asked r)
    (sym (cut_replies d terms loads session))
    (subst (λ (k : ℕ). Replies (record (below n world) { known = k }) (start terms.first) asked
    (cut_from d (start terms.first) (asked_commands asked) session.replies))
    long held)

-- and of its own positions that are durable none is held back
pub over_keeps : (d : ℕ) (terms : Terms) (loads : List (List Edge)) (log : List Edge) (own : List ℕ) (session : SessionState) →
    IsOver terms loads log own session → terms.first ≤ d → d ≤ length log →
    length (filter (λ p. nat_lt p d) own)
    ≤ (walked terms.first (cut_at d terms.first session).replies).used + (length (next_entries (asked_left loads (cut_at d terms.first session))) - 1)
over_keeps d terms loads log own session is old there =
    let asked = asked_in loads session in
    subst (λ (r : List Reply). length (filter (λ p. nat_lt p d) own) ≤ (walked terms.first r).used + (length (next_entries (drop (length r) asked)) - 1))
    (sym (cut_replies d terms loads session))
    (cut_keeps d (over terms log own) asked session.replies old there is.rises is.allowed is.behind is.ends)

-- what a session put, as its replies tell, and then what it had still to put
abbrev pub all_puts : List (List Edge) → SessionState → List Edge
all_puts loads session = put_in loads session ++ may_put (asked_left loads session)

-- only an offer is told that the ring is busy
busy_offered : (world : World) (walk : Walk) (entries : List Edge) (command : Command) (reply : Reply) → IsRow world walk entries (row_of command) reply →
    is_busy reply ≡ true → IsOffered (put_by command)
busy_offered world walk entries (asks.Add src dst) reply is busy = absurd (let told = ap is_busy is.1 in cc)
busy_offered world walk entries (asks.Del src dst) reply is busy = absurd (let told = ap is_busy is.1 in cc)
busy_offered world walk entries (asks.Offer src dst) reply is busy = tt
busy_offered world walk entries (asks.Load name) reply is busy = absurd (let told = ap is_busy is.is in cc)
busy_offered world walk entries (asks.View place) reply is busy = absurd (let told = ap is_busy is.1 in cc)
busy_offered world walk entries (asks.Drop place) reply is busy = absurd (let told = ap is_busy is in cc)
busy_offered world walk entries (asks.Degree place vertex) reply is busy = absurd (let told = ap is_busy is.2 in cc)
busy_offered world walk entries (asks.Neigh place vertex) reply is busy = absurd (let told = ap is_busy is.2 in cc)
busy_offered world walk entries (asks.Hop place vertex) reply is busy = absurd (let told = ap is_busy is.2.1 in cc)
busy_offered world walk entries (asks.Level place root vertex) reply is busy = absurd (let told = ap is_busy is.2.1 in cc)
busy_offered world walk entries (asks.Bfs place root) reply is busy = absurd (let told = ap is_busy is.2.2 in cc)
busy_offered world walk entries (asks.Rank place count) reply is busy = absurd (let told = ap is_busy is.2.1 in cc)
busy_offered world walk entries (asks.Stream place) reply is busy = absurd (let told = ap is_busy is.1 in cc)
busy_offered world walk entries (asks.Close place) reply is busy = absurd (let told = ap is_busy is in cc)
busy_offered world walk entries (asks.Update place most) reply is busy = absurd (let told = ap is_busy is.is in cc)
busy_offered world walk entries (asks.Until asked) reply is busy = absurd (let told = ap is_busy is.0 in cc)
busy_offered world walk entries asks.Sync reply is busy = absurd (let told = ap is_busy is.1 in cc)
busy_offered world walk entries asks.Compact reply is busy = absurd (let told = ap is_busy is in cc)

-- commands may have put all of their entries
all_may : (asked : List Asked) → MayHavePut asked (may_put asked)
all_may [] = refl
all_may (a ∷ asked) = (may_put asked, all_may asked, inl refl)

-- what one command with a reply put, before what those after it put and may put
busy_cases : (world : World) (walk : Walk) (a : Asked) (reply : Reply) (put may : List Edge) (b : Bool) → is_busy reply ≡ b →
    IsRow world walk a.entries (row_of a.command) reply →
    (((if b then [] else a.entries) ++ put) ++ may ≡ a.entries ++ (put ++ may))
    ⊎ (IsOffered (put_by a.command) × (((if b then [] else a.entries) ++ put) ++ may ≡ put ++ may))
busy_cases world walk a reply put may true is row = inr (busy_offered world walk a.entries a.command reply row is, refl)
busy_cases world walk a reply put may false is row = inl (append_assoc a.entries put may)

-- commands with replies, seen as if they had none, may have put what their replies tell
answered_may : (world : World) (walk : Walk) (asked : List Asked) (replies : List Reply) → Replies world walk asked replies →
    MayHavePut asked (put_by_answered asked replies ++ may_put (drop (length replies) asked))
answered_may world walk [] [] allowed = refl
answered_may world walk (a ∷ asked) [] allowed = all_may (a ∷ asked)
answered_may world walk [] (reply ∷ replies) allowed = absurd allowed
answered_may world walk (a ∷ asked) (reply ∷ replies) allowed =
    let more : List Edge = put_by_answered asked replies ++ may_put (drop (length replies) asked) in
    let rest : MayHavePut asked more = answered_may world (after walk reply) asked replies allowed.1 in (
      more,
      answered_may world (after walk reply) asked replies allowed.1,
      busy_cases world walk a reply (put_by_answered asked replies) (may_put (drop (length replies) asked)) (is_busy reply) refl allowed.0,
    )

-- what replies that are cut tell, and what the commands without a reply may have put then, are together what they were before
cut_may : (d : ℕ) (world : World) (walk : Walk) (asked : List Asked) (replies : List Reply) → Replies world walk asked replies →
    let cut = cut_from d walk (asked_commands asked) replies in
    (more : List Edge) × (put_by_answered asked replies ++ may_put (drop (length replies) asked) ≡ put_by_answered asked cut ++ more)
    × MayHavePut (drop (length cut) asked) more
cut_may d world walk [] [] allowed = ([], refl, refl)
cut_may d world walk (a ∷ asked) [] allowed = (may_put (a ∷ asked), refl, all_may (a ∷ asked))
cut_may d world walk [] (reply ∷ replies) allowed = absurd allowed
cut_may d world walk (a ∷ asked) (reply ∷ replies) allowed =
    elim (leb_tells (rest_of walk (row_of a.command) reply) d) [
      | inl h ↦
          let cut : List Reply = cut_from d (after walk reply) (asked_commands asked) replies in
          let rest = cut_may d world (after walk reply) asked replies allowed.1 in
          let put : List Edge = put_by_answered asked replies in
          let may : List Edge = may_put (drop (length replies) asked) in
          let this : List Edge = if is_busy reply then [] else a.entries in
          let same : (this ++ put) ++ may ≡ (this ++ put_by_answered asked cut) ++ rest.0 =
          append_assoc this put may ∙ ap (λ (l : List Edge). this ++ l) rest.1 ∙ sym (append_assoc this (put_by_answered asked cut) rest.0) in
          rw h.0 (rest.0, same, rest.2)
      | inr h ↦
          rw h.0 (
            put_by_answered (a ∷ asked) (reply ∷ replies) ++ may_put (drop (length replies) asked),
            refl,
            answered_may world walk (a ∷ asked) (reply ∷ replies) allowed,
          )
    ]

-- a session that is cut put the same in all, or would have
pub over_puts : (d : ℕ) (terms : Terms) (loads : List (List Edge)) (log : List Edge) (own : List ℕ) (session : SessionState) →
    IsOver terms loads log own session → PutsInAll loads (cut_at d terms.first session) (all_puts loads session)
over_puts d terms loads log own session is =
    let asked = asked_in loads session in
    subst (λ (r : List Reply). (more : List Edge) × (all_puts loads session ≡ put_by_answered asked r ++ more) × MayHavePut (drop (length r) asked) more)
    (sym (cut_replies d terms loads session))
    (cut_may d (over terms log own) (start terms.first) asked session.replies is.allowed)
