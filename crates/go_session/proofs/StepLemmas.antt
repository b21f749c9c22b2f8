-- What a step comes to: one command more is answered, the next one waits, or the store stopped.
use Rattle.std.proofs.Common.{◌≡◌, ℕ, ◌+◌, ◌<◌, ◌≤◌, if◌then◌else◌, List, [], ◌∷◌, ◌++◌, length, take, drop, slice_get, Option, Some, None, refl, sym}
use Rattle.std.proofs.Common.{ap, subst, ◌∙◌, arith}
use Rattle.std.proofs.Common.{⊎_elim, length-append, append-nil, take-append-drop}
use Rattle.std.specs.Prelude.{All, min}
use Rattle.std.proofs.Math.Nat.{max-le}
use Rattle.std.proofs.Math.Seq.{drop-append_seam}
use Rattle.std.proofs.lemmas.List.Elements.{All-weaker, Contains-push_cases}
use Rattle.std.proofs.lemmas.List.{length-take}
use Rattle.std.proofs.lemmas.List.Sums.{fold-append}
use Rattle.std.proofs.lemmas.Option.{slice_get_within}
use Rattle.go_word.specs.declared.edge.Edge.{Edge}
use Rattle.go_word.specs.Log.{IsWithin as IsEntryWithin}
use Rattle.go_api.specs.Standing.{Standing, Terms, IsSound, Onward}
use Rattle.go_api.specs.Calls.{OnlySees}
use Rattle.go_api.specs.declared.stop.Stop.{Stop}
use Rattle.go_api.proofs.StandingLemmas.{same_first}
use Rattle.go_script.specs.Commands.{use_of}
use Rattle.go_script.specs.Places.{IsWithin, kind_at, kind_after}
use Rattle.go_script.specs.declared.command.Command.{Command}
use Rattle.go_script.specs.declared.command.Command.TheVariants.{Until}
use Rattle.go_script.specs.declared.usage.Kind.{Kind}
use Rattle.go_report.specs.declared.reply.Reply.{Reply}
use Rattle.go_report.specs.declared.reply.Reply.TheVariants.{Synced}
use Rattle.go_session.specs.Answers.{Suits, Answered, IsBroken, entries_by}
use Rattle.go_session.specs.Asked.{Asked, may_put, is_busy}
use Rattle.go_session.specs.Session.{SessionState, FollowsScript, HoldsPlaces, AreAllowed, IsAt, CanGoOn, HasAnswered, HasWaited, HasStopped}
use Rattle.go_session.specs.Session.{asked_in, asked_left, put_in, world_of, walk_of, kind_of, told, next_entries}
use Rattle.go_session.specs.Walk.{Walk, Replies, IsReply, row_of, start, after, walked, effect_of}
use Rattle.go_session.proofs.AskedLemmas.{take_next, put_by_answered-push}
use Rattle.go_session.proofs.ComesLemmas.{Comes, answered_comes}
use Rattle.go_session.proofs.GrowthLemmas.{Grows, replies_grow}
use Rattle.go_session.proofs.LeadLemmas.{Leads}
use Rattle.go_session.proofs.SuitLemmas.{walked_to, left_next}
use Rattle.go_session.proofs.WalkLemmas.{Replies_push, walked-push, placed_at, kind_leaves}

-- what a store sees goes on from what it saw
pub world_grows : (before now : Standing) (more : List ℕ) → Onward before now → now.own ≡ before.own ++ more → Grows (world_of before) (world_of now)
world_grows before now more onward own = record {
  same = record {
    first = ap (λ (t : Terms). t.first) onward.same_terms;
    vertices = ap (λ (t : Terms). t.vertices) onward.same_terms;
    ring = ap (λ (t : Terms). t.ring) onward.same_terms;
    told = ap (λ (t : Terms). t.told) onward.same_terms;
  };
  more_own = more;
  more_log = drop (length before.log.seen) now.log.seen;
  own = own;
  log = sym (take-append-drop (length before.log.seen) now.log.seen)
      ∙ ap (λ (l : List Edge). l ++ drop (length before.log.seen) now.log.seen) onward.seen_more;
  known = onward.known_later;
}

-- the replies so far stay allowed over what is seen after a call
pub allowed_onward : (loads : List (List Edge)) (session : SessionState) (before now : Standing) (more : List ℕ) → Onward before now →
    now.own ≡ before.own ++ more → AreAllowed loads session before →
    Replies (world_of now) (start now.terms.first) (asked_in loads session) session.replies
allowed_onward loads session before now more onward own are =
    subst (λ (n : ℕ). Replies (world_of now) (start n) (asked_in loads session) session.replies) (sym (same_first onward))
    (replies_grow (world_of before) (world_of now) (asked_in loads session) session.replies (world_grows before now more onward own)
    (omega (arith, are.sound.sees.old_seen, are.sound.sees.floor_seen)) are.allowed)

-- the script is followed over the same vertices
follows_onward : (loads : List (List Edge)) (session : SessionState) (before now : Standing) → Onward before now → FollowsScript loads session before →
    FollowsScript loads session now
follows_onward loads session before now onward follows =
    let same : now.terms ≡ before.terms = onward.same_terms in
    record {
      below = subst (λ (t : Terms). IsWithin t.vertices session.commands) (sym same) follows.below;
      entries = subst (λ (t : Terms). All (IsEntryWithin t.vertices) (may_put (asked_in loads session))) (sym same) follows.entries;
      script = follows.script;
      some = follows.some;
    }

-- the walk over the replies is the same over a later standing
walk_onward : (session : SessionState) (before now : Standing) → Onward before now → walk_of now session ≡ walk_of before session
walk_onward session before now onward = ap (λ (n : ℕ). walked n session.replies) (same_first onward)

-- the replies stand over what a call left, whatever it put
pub stands_onward : (loads : List (List Edge)) (session : SessionState) (before now : Standing) (more : List ℕ) → Onward before now → IsSound now →
    now.own ≡ before.own ++ more → AreAllowed loads session before → AreAllowed loads (told before session) now
stands_onward loads session before now more onward sound own are =
    let walk = walk_onward session before now onward in
    let follows = follows_onward loads session before now onward are.follows in
    record {
      sound = sound;
      follows = record { below = follows.below; entries = follows.entries; script = follows.script; some = follows.some };
      allowed = allowed_onward loads session before now more onward own are;
      told_first = λ some. sym (same_first onward);
      seen = subst (λ (w : Walk). w.seen ≤ now.log.floor) (sym walk) (omega (arith, are.seen, onward.floor_later));
      low = subst (λ (w : Walk). w.low ≤ now.log.known) (sym walk) (omega (arith, are.low, onward.known_later));
      synced = λ front there. let was = are.synced front there in omega (arith, was, onward.durable_later);
    }

-- the kinds at the places after one more command
kind_at-push : (k : ℕ) (commands : List Command) (command : Command) →
    kind_at k (commands ++ command ∷ []) ≡ kind_after k (kind_at k commands) (use_of command)
kind_at-push k commands command =
    fold-append (λ (held : Option Kind) (c : Command). kind_after k held (use_of c)) None commands (command ∷ [])

-- a session with one more reply
abbrev pub replied : Standing → SessionState → Reply → SessionState
replied before session reply = record (told before session) { replies = session.replies ++ reply ∷ [] }

-- its walk is one reply further
walk_replied : (session : SessionState) (before now : Standing) (reply : Reply) → Onward before now →
    walk_of now (replied before session reply) ≡ after (walk_of before session) reply
walk_replied session before now reply onward =
    walked-push now.terms.first session.replies reply ∙ ap (λ (n : ℕ). after (walked n session.replies) reply) (same_first onward)

-- one more reply is allowed
replied_allowed : (loads : List (List Edge)) (session : SessionState) (before now : Standing) (a : Asked) (reply : Reply) → AreAllowed loads session before →
    slice_get (asked_in loads session) (length session.replies) ≡ Some a →
    slice_get session.commands (length session.replies) ≡ Some a.command → IsSound now →
    Leads before now (walk_of before session) a.entries (row_of a.command) reply → AreAllowed loads (replied before session reply) now
replied_allowed loads session before now a reply are next command sound leads =
    let walk = walk_replied session before now reply leads.onward in
    let old : walked now.terms.first session.replies ≡ walk_of before session = walk_onward session before now leads.onward in
    let count : length (session.replies ++ reply ∷ []) ≡ length session.replies + 1 = length-append session.replies (reply ∷ []) in
    let follows = follows_onward loads session before now leads.onward are.follows in
    record {
      sound = sound;
      follows = record {
        below = follows.below;
        entries = follows.entries;
        script = follows.script;
        some = omega (arith, count, slice_get_within session.commands (length session.replies) a.command command);
      };
      allowed = Replies_push (world_of now) (start now.terms.first) (asked_in loads session) session.replies a reply
          (allowed_onward loads session before now leads.follows.puts.more leads.onward leads.follows.puts.own are) next
          (subst (λ (w : Walk). IsReply (world_of now) w a reply) (sym old) leads.allowed);
      told_first = λ some. sym (same_first leads.onward);
      seen = subst (λ (w : Walk). w.seen ≤ now.log.floor) (sym walk)
          (max-le (omega (arith, are.seen, leads.onward.floor_later)) leads.follows.seen);
      low = subst (λ (w : Walk). w.low ≤ now.log.known) (sym walk)
          (max-le (omega (arith, are.low, leads.onward.known_later)) leads.follows.low);
      synced = λ front there. ⊎_elim
          (λ was. let so = are.synced front was in omega (arith, so, leads.onward.durable_later))
          (λ last. leads.synced front last)
          (Contains-push_cases session.replies reply (Synced front) there);
    }

-- the places after one more reply
replied_places : (loads : List (List Edge)) (session : SessionState) (before now : Standing) (a : Asked) (reply : Reply) → IsAt loads session before →
    slice_get session.commands (length session.replies) ≡ Some a.command →
    Comes before now (walk_of before session) a.command a.entries reply → HoldsPlaces (replied before session reply) now
replied_places loads session before now a reply at command comes =
    let was = walk_of before session in
    let walk = walk_replied session before now reply comes.leads.onward in
    let placed = (effect_of was.first reply).placed in
    let count : length (session.replies ++ reply ∷ []) ≡ length session.replies + 1 = length-append session.replies (reply ∷ []) in
    let taken : take (length (session.replies ++ reply ∷ [])) session.commands ≡ take (length session.replies) session.commands ++ a.command ∷ [] =
    ap (λ (n : ℕ). take n session.commands) count ∙ take_next session.commands (length session.replies) a.command command in
    record {
      places = λ k below. subst (λ (w : Walk). slice_get now.places k ≡ Some (w.place_at k)) (sym walk)
          (rw comes.leads.follows.placed
          (placed_at placed before.places was.place_at k (omega (arith, at.allowed.sound.count, below)) (at.places.places k below)));
      kinds = λ k below. subst (λ (w : Walk). kind_at k (take (length (session.replies ++ reply ∷ [])) session.commands) ≡ kind_of (w.place_at k)) (sym walk)
          (ap (kind_at k) taken ∙ kind_at-push k (take (length session.replies) session.commands) a.command
          ∙ ap (λ (held : Option Kind). kind_after k held (use_of a.command)) (at.places.kinds k below)
          ∙ kind_leaves was.place_at (use_of a.command) placed k comes.place);
    }

-- one command more is answered
answered_one : (loads : List (List Edge)) (session : SessionState) (before now : Standing) (a : Asked) (reply : Reply) → CanGoOn loads session before →
    slice_get (asked_in loads session) (length session.replies) ≡ Some a →
    slice_get session.commands (length session.replies) ≡ Some a.command → IsSound now →
    Comes before now (walk_of before session) a.command a.entries reply →
    HasAnswered loads session (replied before session reply) before now
answered_one loads session before now a reply can next command sound comes =
    let leads = comes.leads in
    let puts = leads.follows.puts in
    let walk = walk_replied session before now reply leads.onward in
    let count : length (session.replies ++ reply ∷ []) ≡ length session.replies + 1 = length-append session.replies (reply ∷ []) in
    let own : length now.own ≡ length before.own + length puts.more =
    ap (λ (l : List ℕ). length l) puts.own ∙ length-append before.own puts.more in
    let rest = drop (length session.replies + 1) (asked_in loads session) in
    let left : asked_left loads (replied before session reply) ≡ rest = ap (λ (n : ℕ). drop n (asked_in loads session)) count in
    let split : length (may_put (asked_left loads session)) ≡ length a.entries + length (may_put rest) =
    ap (λ (l : List Asked). length (may_put l)) (left_next loads session a next) ∙ length-append a.entries (may_put rest) in
    let few : length (may_put (asked_left loads (replied before session reply))) ≡ length (may_put rest) =
    ap (λ (l : List Asked). length (may_put l)) left in
    record {
      reply = reply;
      replied = refl;
      onward = leads.onward;
      goes_on = record {
        at = record {
          allowed = replied_allowed loads session before now a reply can.at.allowed next command sound leads;
          used = subst (λ (w : Walk). w.used ≡ length now.own) (sym walk) (omega (arith, can.at.used, own, puts.so_many));
          put = puts.edges ∙ ap (λ (l : List Edge). l ++ (if is_busy reply then [] else a.entries)) can.at.put
              ∙ sym (put_by_answered-push (asked_in loads session) session.replies a reply next);
          places = replied_places loads session before now a reply can.at command comes;
        };
        quota = omega (arith, can.quota, split, few, leads.quota);
      };
    }

-- a reply that the store's answer gave
pub step_answered : (loads : List (List Edge)) (session : SessionState) (before now : Standing) (command : Command) (given : List Edge) (reply : Reply) →
    CanGoOn loads session before →
    slice_get (asked_in loads session) (length session.replies) ≡ Some (record { command = command; entries = entries_by command given }) →
    slice_get session.commands (length session.replies) ≡ Some command → Suits command given before → IsSound now →
    Answered (row_of command) (entries_by command given) reply before now →
    HasAnswered loads session (replied before session reply) before now
step_answered loads session before now command given reply can next here suits sound answered =
    answered_one loads session before now (record { command = command; entries = entries_by command given }) reply can next here sound
    (answered_comes command given reply before now (walk_of before session) (walked_to loads session before can.at) sound suits answered)

-- the next command waits: all is as it was but for what is seen
pub step_waited : (loads : List (List Edge)) (session : SessionState) (before now : Standing) (asked seen : ℕ) → CanGoOn loads session before →
    slice_get session.commands (length session.replies) ≡ Some (Until asked) → IsSound now → OnlySees before now → seen < before.terms.first + asked →
    HasWaited loads seen session (told before session) before now
step_waited loads session before now asked seen can next sound only below =
    let kept = only.kept in
    let walk = walk_onward session before now kept.onward in
    record {
      same = refl;
      asked = asked;
      next = next;
      below = below;
      onward = kept.onward;
      goes_on = record {
        at = record {
          allowed = stands_onward loads session before now [] kept.onward sound (kept.same_own ∙ sym (append-nil before.own)) can.at.allowed;
          used = subst (λ (w : Walk). w.used ≡ length now.own) (sym walk) (can.at.used ∙ ap (λ (l : List ℕ). length l) (sym kept.same_own));
          put = kept.same_edges ∙ can.at.put;
          places = record {
            places = λ k below. subst (λ (w : Walk). slice_get now.places k ≡ Some (w.place_at k)) (sym walk)
                (rw kept.same_places (can.at.places.places k below));
            kinds = λ k below. subst (λ (w : Walk). kind_at k (take (length session.replies) session.commands) ≡ kind_of (w.place_at k)) (sym walk)
                (can.at.places.kinds k below);
          };
        };
        quota = omega (arith, can.quota, only.quota);
      };
    }

-- the store stopped: some first ones of the next entries may have been put
pub step_stopped : (loads : List (List Edge)) (session : SessionState) (before now : Standing) (a : Asked) (why : Stop) → CanGoOn loads session before →
    slice_get (asked_in loads session) (length session.replies) ≡ Some a → IsSound now → IsBroken a.entries why before now →
    HasStopped loads why session (told before session) before now
step_stopped loads session before now a why can next sound broken =
    let walk = walk_onward session before now broken.onward in
    let was = walk_of before session in
    let own : length now.own ≡ length before.own + length broken.positions =
    ap (λ (l : List ℕ). length l) broken.put.owned ∙ length-append before.own broken.positions in
    let first : next_entries (asked_left loads session) ≡ a.entries = ap next_entries (left_next loads session a next) in
    let behind : drop was.used now.own ≡ broken.positions =
    rw broken.put.owned (subst (λ (n : ℕ). drop n (before.own ++ broken.positions) ≡ broken.positions) (sym can.at.used)
    (drop-append_seam before.own broken.positions)) in
    let taken : length (take broken.count a.entries) ≡ broken.count =
    length-take broken.count a.entries ∙ min_left broken.count (length a.entries) (omega (arith, broken.fewer)) in
    record {
      same = refl;
      onward = broken.onward;
      halted = record {
        allowed = stands_onward loads session before now broken.positions broken.onward sound broken.put.owned can.at.allowed;
        count = broken.count;
        fewer = rw first broken.fewer;
        used = subst (λ (w : Walk). w.used + broken.count ≡ length now.own) (sym walk)
            (omega (arith, can.at.used, own, broken.put.so_many, taken));
        put = broken.put.put ∙ ap (λ (l : List Edge). l ++ take broken.count a.entries) can.at.put
            ∙ ap (λ (l : List Edge). put_in loads session ++ take broken.count l) (sym first);
        behind_seen = subst (λ (w : Walk). All (λ p. w.seen ≤ p) (drop w.used now.own)) (sym walk)
            (subst (λ (l : List ℕ). All (λ p. was.seen ≤ p) l) (sym behind)
            (All-weaker (λ p. before.log.known ≤ p) (λ p. was.seen ≤ p)
            (λ p above. omega (arith, above, can.at.allowed.seen, can.at.allowed.sound.sees.floor_seen, can.at.allowed.sound.sees.seen_known))
            broken.positions broken.put.behind));
        behind_low = subst (λ (w : Walk). All (λ p. w.low ≤ p) (drop w.used now.own)) (sym walk)
            (subst (λ (l : List ℕ). All (λ p. was.low ≤ p) l) (sym behind)
            (All-weaker (λ p. before.log.known ≤ p) (λ p. was.low ≤ p) (λ p above. omega (arith, above, can.at.allowed.low))
            broken.positions broken.put.behind));
      };
      met = broken.met;
    } where
      min_left : (n m : ℕ) → n ≤ m → min n m ≡ n
      min_left n m less = grind (arith, less)
