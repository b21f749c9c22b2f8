-- Lemmas on the replies that rest on a prefix of the log, as they are counted one by one.
use Rattle.std.proofs.Common.{◌≡◌, ℕ, zero, suc, ◌+◌, ◌<◌, ◌≤◌, ◌^◌, nat_le, true, false, List, [], ◌∷◌, ◌++◌, length, take, drop, slice_get, Some, refl, ap}
use Rattle.std.proofs.Common.{arith, sym, subst, ◌∙◌, append_assoc, append-nil}
use Rattle.std.proofs.lemmas.Bool.Decides.{nat_tests}
use Rattle.std.proofs.lemmas.List.{take_all, drop_all}
use Rattle.go_api.specs.declared.place.TheConstants.{PLACES}
use Rattle.go_script.specs.declared.command.Command.{Command}
use Rattle.go_report.specs.declared.reply.Reply.{Reply}
use Rattle.go_report.specs.declared.reply.Reply.TheVariants as tells
use Rattle.go_session.specs.Cut.{cut_from, rest_of}
use Rattle.go_session.specs.Rests.{Tracks}
use Rattle.go_session.specs.Walk.{Walk, Row, row_of, start, after, walked, effect_of}
use Rattle.go_session.specs.declared.cut.Rests.{Rests}
use Rattle.go_session.proofs.AskedLemmas.{take_next}
use Rattle.go_session.proofs.ListLemmas.{drop_next}
use Rattle.go_session.proofs.WalkLemmas.{walked-push}

-- the first replies, as many as told, rest on the prefix, and what is kept is that of the walk after them
pub record IsCutAt (durable first : ℕ) (commands : List Command) (replies : List Reply) (i : ℕ) (rests : Rests) : Type 0 where
  pub so_far : cut_from durable (start first) commands replies
      ≡ take i replies ++ cut_from durable (walked first (take i replies)) (drop i commands) (drop i replies)
  pub tracks : Tracks (walked first (take i replies)) rests

-- at the beginning nothing is shown, and all places are free
pub cut_begins : (durable first : ℕ) (commands : List Command) (replies : List Reply) →
    IsCutAt durable first commands replies 0 (record { first = first; seen = first; shown = 0 ∷ 0 ∷ 0 ∷ 0 ∷ [] })
cut_begins durable first commands replies = record { so_far = refl; tracks = record { first = refl; seen = refl; shown = λ k below. four k below } } where
  four : (k : ℕ) → k < PLACES → slice_get (0 ∷ 0 ∷ 0 ∷ 0 ∷ []) k ≡ Some (let none : ℕ = 0 in none)
  four zero below = refl
  four (suc zero) below = refl
  four (suc (suc zero)) below = refl
  four (suc (suc (suc zero))) below = refl
  four (suc (suc (suc (suc k)))) below = absurd (omega arith)

-- what is shown from a reply on that rests on the prefix, and from one that rests on more
cut_step : (durable : ℕ) (walk : Walk) (commands left : List Command) (replies rest : List Reply) (command : Command) (reply : Reply) →
    commands ≡ command ∷ left → replies ≡ reply ∷ rest → nat_le (rest_of walk (row_of command) reply) durable ≡ true →
    cut_from durable walk commands replies ≡ reply ∷ cut_from durable (after walk reply) left rest
cut_step durable walk commands left replies rest command reply asked here rests = rw (asked, here) (rw rests refl)

cut_stop : (durable : ℕ) (walk : Walk) (commands left : List Command) (replies rest : List Reply) (command : Command) (reply : Reply) →
    commands ≡ command ∷ left → replies ≡ reply ∷ rest → nat_le (rest_of walk (row_of command) reply) durable ≡ false →
    cut_from durable walk commands replies ≡ []
cut_stop durable walk commands left replies rest command reply asked here rests = rw (asked, here) (rw rests refl)

-- the walk after one reply more
walk_next : (first : ℕ) (replies : List Reply) (i : ℕ) (reply : Reply) → slice_get replies i ≡ Some reply →
    walked first (take (i + 1) replies) ≡ after (walked first (take i replies)) reply
walk_next first replies i reply here = ap (walked first) (take_next replies i reply here) ∙ walked-push first (take i replies) reply

-- one reply more rests on the prefix
pub cut_goes_on : (durable first : ℕ) (commands : List Command) (replies : List Reply) (i : ℕ) (rests now : Rests) (command : Command) (reply : Reply) →
    IsCutAt durable first commands replies i rests → slice_get commands i ≡ Some command → slice_get replies i ≡ Some reply →
    nat_le (rest_of (walked first (take i replies)) (row_of command) reply) durable ≡ true →
    Tracks (after (walked first (take i replies)) reply) now → IsCutAt durable first commands replies (i + 1) now
cut_goes_on durable first commands replies i rests now command reply at asked here within tracks =
    let walk = walked first (take i replies) in
    let next = walk_next first replies i reply here in
    let rest = cut_from durable (after walk reply) (drop (i + 1) commands) (drop (i + 1) replies) in
    let step = cut_step durable walk (drop i commands) (drop (i + 1) commands) (drop i replies) (drop (i + 1) replies) command reply
    (drop_next commands i command asked) (drop_next replies i reply here) within in
    let taken : take (i + 1) replies ++ rest ≡ take i replies ++ reply ∷ rest =
    ap (λ (l : List Reply). l ++ rest) (take_next replies i reply here) ∙ append_assoc (take i replies) (reply ∷ []) rest in
    let same : cut_from durable (walked first (take (i + 1) replies)) (drop (i + 1) commands) (drop (i + 1) replies) ≡ rest =
    ap (λ (w : Walk). cut_from durable w (drop (i + 1) commands) (drop (i + 1) replies)) next in
    record {
      so_far = at.so_far ∙ ap (λ (l : List Reply). take i replies ++ l) step ∙ sym taken ∙ ap (λ (l : List Reply). take (i + 1) replies ++ l) (sym same);
      tracks = subst (λ (w : Walk). Tracks w now) (sym next) tracks;
    }

-- the next reply rests on more: the replies so far are those that are shown
pub cut_ends : (durable first : ℕ) (commands : List Command) (replies : List Reply) (i : ℕ) (rests : Rests) (command : Command) (reply : Reply) →
    IsCutAt durable first commands replies i rests → slice_get commands i ≡ Some command → slice_get replies i ≡ Some reply →
    nat_le (rest_of (walked first (take i replies)) (row_of command) reply) durable ≡ false → take i replies ≡ cut_from durable (start first) commands replies
cut_ends durable first commands replies i rests command reply at asked here more =
    let stop = cut_stop durable (walked first (take i replies)) (drop i commands) (drop (i + 1) commands) (drop i replies) (drop (i + 1) replies) command reply
    (drop_next commands i command asked) (drop_next replies i reply here) more in
    sym (at.so_far ∙ ap (λ (l : List Reply). take i replies ++ l) stop ∙ append-nil (take i replies))

-- no reply rests on more
cut_of_none : (durable : ℕ) (walk : Walk) (commands : List Command) → cut_from durable walk commands [] ≡ []
cut_of_none durable walk [] = refl
cut_of_none durable walk (command ∷ commands) = refl

pub cut_is_all : (durable first : ℕ) (commands : List Command) (replies : List Reply) (i : ℕ) (rests : Rests) → IsCutAt durable first commands replies i rests →
    length replies ≤ i → take (length replies) replies ≡ cut_from durable (start first) commands replies
cut_is_all durable first commands replies i rests at all =
    let none : cut_from durable (walked first (take i replies)) (drop i commands) (drop i replies) ≡ [] =
    ap (λ (l : List Reply). cut_from durable (walked first (take i replies)) (drop i commands) l) (drop_all i replies all)
    ∙ cut_of_none durable (walked first (take i replies)) (drop i commands) in
    let some : take i replies ≡ replies = take_all i replies all in
    take_all (length replies) replies (omega arith)
    ∙ sym (at.so_far ∙ ap (λ (l : List Reply). take i replies ++ l) none ∙ append-nil (take i replies) ∙ some)

-- a reply has seen no more than it rests on
pub seen_rests : (walk : Walk) (row : Row) (reply : Reply) → (effect_of walk.first reply).seen ≤ rest_of walk row reply
seen_rests walk row (tells.Added position) = omega arith
seen_rests walk row (tells.Deleted position) = omega arith
seen_rests walk row (tells.Offered position) = omega arith
seen_rests walk row (tells.Busy head released) = omega arith
seen_rests walk row (tells.Loaded name count last) = omega arith
seen_rests walk row (tells.Viewed place front) = omega arith
seen_rests walk row (tells.Degree vertex degree) = omega arith
seen_rests walk row (tells.Neighbours vertex list) = omega arith
seen_rests walk row (tells.Level root vertex level) = omega arith
seen_rests walk row (tells.Levels root counts unreached) = omega arith
seen_rests walk row (tells.Rank list) = omega arith
seen_rests walk row (tells.Hop vertex list) = omega arith
seen_rests walk row (tells.Dropped place) = omega arith
seen_rests walk row (tells.Streamed place cursor) = omega arith
seen_rests walk row (tells.Updated place from to list) = omega arith
seen_rests walk row (tells.Closed place) = omega arith
seen_rests walk row (tells.Until asked) = omega arith
seen_rests walk row (tells.Synced front) = omega arith
seen_rests walk row tells.Compacted = omega arith

-- so what it has seen is below a number that is above the prefix
pub seen_small : (walk : Walk) (row : Row) (reply : Reply) (durable first : ℕ) → first ≡ walk.first → nat_le (rest_of walk row reply) durable ≡ true →
    durable < 2 ^ 64 → (effect_of first reply).seen < 2 ^ 64
seen_small walk row reply durable first same within small =
    let rests = seen_rests walk row reply in
    let least : rest_of walk row reply ≤ durable = grind (arith, nat_tests, within) in
    subst (λ (n : ℕ). (effect_of n reply).seen < 2 ^ 64) (sym same) (omega (arith, rests, least, small))
