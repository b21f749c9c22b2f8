-- Where each kind of reply leads: what it makes of the store is what the walk says of it.
use Rattle.std.proofs.Common.{◌≡◌, ℕ, ◌+◌, ◌<◌, ◌≤◌, false, if◌then◌else◌, List, [], ◌∷◌, ◌++◌, length, take, drop, slice_get, refl, sym, ap, subst, ◌∙◌}
use Rattle.std.proofs.Common.{arith, inl, inr, append-nil}
use Rattle.std.specs.Prelude.{All, Option, Some}
use Rattle.std.proofs.Math.Nat.{min-le_right}
use Rattle.std.proofs.Math.Seq.{drop-append_seam}
use Rattle.std.proofs.lemmas.List.{take_all}
use Rattle.std.proofs.lemmas.List.Elements.{All-weaker}
use Rattle.std.proofs.lemmas.Option.{slice_get_within}
use Rattle.go_word.specs.declared.edge.Edge.{Edge}
use Rattle.go_api.specs.Calls.{IsFront, IsPlacedAt, OnlySees, PutsAll, Holds, IsViewed, IsStarted, HasReached, IsSynced}
use Rattle.go_api.specs.Laid.{Rises}
use Rattle.go_api.specs.Standing.{Standing, Terms, IsSound, Onward}
use Rattle.go_api.specs.declared.place.TheConstants.{PLACES}
use Rattle.go_api.specs.declared.place.Place.{Place}
use Rattle.go_api.specs.declared.place.Place.TheVariants as held
use Rattle.go_script.specs.declared.command.Command.{Command}
use Rattle.go_report.specs.declared.reply.Reply.{Reply}
use Rattle.go_report.specs.declared.reply.Reply.TheVariants as tells
use Rattle.go_session.specs.Answers.{IsEntryPut, IsTurnedAway, IsAskedOf, HasStreamed}
use Rattle.go_session.specs.Asked.{is_busy}
use Rattle.go_session.specs.Session.{world_of}
use Rattle.go_session.specs.Value.{IsValue}
use Rattle.go_session.specs.Walk.{Walk, Row, Effect, effect_of, uses, sees, leaves, IsFresh, IsRow}
use Rattle.go_session.specs.Walk.Row.{entry, offered, loaded, viewed, value, streamed, updated, reached, synced, word}
use Rattle.go_session.proofs.BrokenLemmas.{rises_from}
use Rattle.go_session.proofs.ListLemmas.{slice_get_last}
use Rattle.go_session.proofs.RowLemmas.{ShowsEntry, IsQuiet}
use Rattle.go_session.proofs.WalkLemmas.{placed_in}

-- a store is where a walk has brought it
pub record IsWalkedTo (walk : Walk) (s : Standing) : Type 0 where
  pub sound : IsSound s
  pub first : walk.first ≡ s.terms.first
  pub used : walk.used ≡ length s.own
  pub seen : walk.seen ≤ s.log.floor
  pub low : walk.low ≤ s.log.known
  pub places : (k : ℕ) → k < PLACES → slice_get s.places k ≡ Some (walk.place_at k)

-- entries were put, at so many positions
pub record PutsAlso (entries : List Edge) (count : ℕ) (before now : Standing) : Type 0 where
  pub more : List ℕ
  pub own : now.own ≡ before.own ++ more
  pub edges : now.edges ≡ before.edges ++ entries
  pub so_many : length more ≡ count

-- the store goes where an effect says
pub record Follows (effect : Effect) (entries : List Edge) (before now : Standing) : Type 0 where
  pub puts : PutsAlso entries effect.used before now
  pub seen : effect.seen ≤ now.log.floor
  pub low : effect.low ≤ now.log.known
  pub placed : now.places ≡ placed_in effect.placed before.places

-- what a reply must be, and what it leads to
pub record Leads (before now : Standing) (walk : Walk) (entries : List Edge) (row : Row) (reply : Reply) : Type 0 where
  pub onward : Onward before now
  pub allowed : IsRow (world_of now) walk entries row reply
  pub follows : Follows (effect_of walk.first reply) (if is_busy reply then [] else entries) before now
  pub synced : (front : ℕ) → reply ≡ tells.Synced front → front ≤ now.log.durable
  pub quota : before.quota ≤ now.quota + length entries

-- a reply neither says that a ring was full nor that something is durable
pub record IsPlain (reply : Reply) : Type 0 where
  pub calm : is_busy reply ≡ false
  pub unsynced : (front : ℕ) → reply ≡ tells.Synced front → ⊥

-- nothing was put
puts_nothing : (entries : List Edge) (before now : Standing) → entries ≡ [] → now.own ≡ before.own → now.edges ≡ before.edges → PutsAlso entries 0 before now
puts_nothing entries before now none own edges = record {
  more = [];
  own = own ∙ sym (append-nil before.own);
  edges = edges ∙ sym (append-nil before.edges) ∙ ap (λ (l : List Edge). before.edges ++ l) (sym none);
  so_many = refl;
}

-- a front that may be shown is fresh
fresh : (before now : Standing) (walk : Walk) (front : ℕ) → IsWalkedTo walk before → now.own ≡ before.own → IsFront front before now →
    IsFresh (world_of now) walk front
fresh before now walk front at own is = record {
  not_older = omega (arith, at.seen, is.not_older);
  within = is.is_end;
  above_own = rw own (subst (λ (l : List ℕ). All (λ p. p < front) l) (sym (take_all walk.used before.own (omega (arith, at.used)))) is.above_own);
}

-- what stands at a place is what the walk has there
pub walk_holds : (walk : Walk) (s : Standing) (place : ℕ) (p : Place) → IsWalkedTo walk s → Holds place p s → walk.place_at place ≡ p
walk_holds walk s place p at holds =
    let within = slice_get_within s.places place p holds in
    let same : Some (walk.place_at place) ≡ Some p = sym (at.places place (omega (arith, at.sound.count))) ∙ holds in
    cc

-- positions rise from lower on too
rises_lower : (low first : ℕ) (positions : List ℕ) → low ≤ first → Rises first positions → Rises low positions
rises_lower low first [] below rises = tt
rises_lower low first (p ∷ positions) below rises = (omega (arith, rises.0), rises.1)

-- an entry
pub entry_leads : (show : ℕ → Reply) (entries : List Edge) (reply : Reply) (before now : Standing) (walk : Walk) → IsWalkedTo walk before →
    ShowsEntry show → ((p : ℕ) → IsPlain (show p)) → IsEntryPut show entries reply before now → Leads before now walk entries (entry show) reply
entry_leads show entries reply before now walk at shows plain is =
    let put = is.put.put in
    let calm : is_busy reply ≡ false = ap is_busy is.is ∙ (plain is.position).calm in
    let effect : effect_of walk.first reply ≡ uses 1 = ap (λ (r : Reply). effect_of walk.first r) is.is ∙ shows.effect walk.first is.position in
    let known : before.log.known ≤ is.position = put.rises.0 in
    let seen = before.log.floor in
    record {
      onward = put.onward;
      allowed = (
        is.position,
        is.is,
        rw put.owned (subst (λ (n : ℕ). slice_get (before.own ++ is.position ∷ []) n ≡ Some is.position) (sym at.used) (slice_get_last before.own is.position)),
        omega (arith, at.seen, at.sound.sees.floor_seen, at.sound.sees.seen_known, known),
        omega (arith, at.low, known),
      );
      follows = rw (calm, effect) (record {
        puts = record { more = is.position ∷ []; own = put.owned; edges = rw is.one put.put; so_many = refl };
        seen = omega arith;
        low = omega arith;
        placed = put.same_places;
      });
      synced = λ front same. absurd ((plain is.position).unsynced front (sym is.is ∙ same));
      quota = let one : length entries ≡ 1 = ap (λ (l : List Edge). length l) is.one in omega (arith, is.put.quota, one);
    }

-- an offer to which the ring was full
pub busy_leads : (entries : List Edge) (reply : Reply) (before now : Standing) (walk : Walk) → IsWalkedTo walk before → IsTurnedAway reply before now →
    Leads before now walk entries offered reply
busy_leads entries reply before now walk at is =
    let busy = is.busy in
    let kept = busy.sees.kept in
    let terms = kept.onward.same_terms in
    record {
      onward = kept.onward;
      allowed = inr (record {
        head = is.head;
        released = is.released;
        is = is.is;
        full = rw terms busy.full;
        old_released = rw terms busy.old_released;
        known = busy.known;
        above_own = rw kept.same_own (subst (λ (l : List ℕ). All (λ p. p < is.head) l)
            (sym (take_all walk.used before.own (omega (arith, at.used)))) busy.above_own);
      });
      follows = rw is.is (record {
        puts = puts_nothing [] before now refl kept.same_own kept.same_edges;
        seen = omega arith;
        low = busy.known;
        placed = kept.same_places;
      });
      synced = λ front same. absurd (let h : tells.Busy is.head is.released ≡ tells.Synced front = sym is.is ∙ same in cc);
      quota = omega (arith, busy.sees.quota);
    }

-- an offer
pub offer_leads : (entries : List Edge) (reply : Reply) (before now : Standing) (walk : Walk) → IsWalkedTo walk before → ShowsEntry tells.Offered →
    ((p : ℕ) → IsPlain (tells.Offered p)) → IsEntryPut tells.Offered entries reply before now → Leads before now walk entries offered reply
offer_leads entries reply before now walk at shows plain is =
    let leads = entry_leads tells.Offered entries reply before now walk at shows plain is in
    record { onward = leads.onward; allowed = inl leads.allowed; follows = leads.follows; synced = leads.synced; quota = leads.quota }

-- a load
pub loaded_leads : (name : List ℕ) (entries : List Edge) (last : Option ℕ) (before now : Standing) (walk : Walk) → IsWalkedTo walk before →
    PutsAll entries last before now → Leads before now walk entries (loaded name) (tells.Loaded name (length entries) last)
loaded_leads name entries last before now walk at all =
    let put = all.put in
    let behind : drop walk.used now.own ≡ all.positions =
    rw put.owned (subst (λ (n : ℕ). drop n (before.own ++ all.positions) ≡ all.positions) (sym at.used) (drop-append_seam before.own all.positions)) in
    record {
      onward = put.onward;
      allowed = record {
        positions = all.positions;
        next = ap (λ (l : List ℕ). take (length entries) l) behind ∙ take_all (length entries) all.positions (omega (arith, put.so_many));
        so_many = put.so_many;
        rises = rises_lower walk.seen before.log.known all.positions
            (omega (arith, at.seen, at.sound.sees.floor_seen, at.sound.sees.seen_known)) put.rises;
        not_low = All-weaker (λ p. before.log.known ≤ p) (λ p. walk.low ≤ p) (λ p above. omega (arith, at.low, above)) all.positions
            (rises_from before.log.known all.positions put.rises);
        is = ap (λ (o : Option ℕ). tells.Loaded name (length entries) o) (sym all.last_is);
      };
      follows = record {
        puts = record { more = all.positions; own = put.owned; edges = put.put; so_many = put.so_many };
        seen = omega arith;
        low = omega arith;
        placed = put.same_places;
      };
      synced = λ front same. absurd (let h : tells.Loaded name (length entries) last ≡ tells.Synced front = same in cc);
      quota = omega (arith, all.quota);
    }

-- what a place holds then, which was seen up to a front
placed_follows : (place front : ℕ) (holds : Place) (before now : Standing) → IsPlacedAt place holds before now → front ≤ now.log.floor →
    Follows (leaves place holds front) [] before now
placed_follows place front holds before now placed seen = record {
  puts = puts_nothing [] before now refl placed.puts.same_own placed.puts.same_edges;
  seen = seen;
  low = omega arith;
  placed = placed.placed;
}

-- a view, and a stream
pub viewed_leads : (place front : ℕ) (before now : Standing) (walk : Walk) → IsWalkedTo walk before → IsViewed place front before now →
    Leads before now walk [] (viewed place) (tells.Viewed place front)
viewed_leads place front before now walk at is = record {
  onward = is.holds.onward;
  allowed = (front, refl, fresh before now walk front at is.holds.puts.same_own is.front_is);
  follows = placed_follows place front (held.View front) before now is.holds is.front_is.floor;
  synced = λ n same. absurd (let h : tells.Viewed place front ≡ tells.Synced n = same in cc);
  quota = omega (arith, is.holds.puts.same_quota);
}

pub started_leads : (place cursor : ℕ) (before now : Standing) (walk : Walk) → IsWalkedTo walk before → IsStarted place cursor before now →
    Leads before now walk [] (streamed place) (tells.Streamed place cursor)
started_leads place cursor before now walk at is = record {
  onward = is.holds.onward;
  allowed = (cursor, refl, fresh before now walk cursor at is.holds.puts.same_own is.front_is);
  follows = placed_follows place cursor (held.Stream cursor) before now is.holds is.front_is.floor;
  synced = λ n same. absurd (let h : tells.Streamed place cursor ≡ tells.Synced n = same in cc);
  quota = omega (arith, is.holds.puts.same_quota);
}

-- entries of a stream
pub updated_leads : (place most : ℕ) (reply : Reply) (before now : Standing) (walk : Walk) → IsWalkedTo walk before → HasStreamed place most reply before now →
    Leads before now walk [] (updated place most) reply
updated_leads place most reply before now walk at is =
    let up = is.updated in
    record {
      onward = up.holds.onward;
      allowed = record {
        front = up.front;
        from = is.span.from;
        to = is.span.to;
        list = is.list;
        from_cursor = walk_holds walk before place (held.Stream is.span.from) at up.from_cursor;
        fresh = fresh before now walk up.front at up.holds.puts.same_own up.front_is;
        stretch = record { ends = up.ends; so_many = up.so_many; shown = up.shown };
        is = is.is;
      };
      follows = rw is.is (placed_follows place is.span.to (held.Stream is.span.to) before now up.holds
          (let most_is = min-le_right (is.span.from + most) up.front in omega (arith, most_is, up.ends, up.front_is.floor)));
      synced = λ n same. absurd (let h : tells.Updated place is.span.from is.span.to is.list ≡ tells.Synced n = sym is.is ∙ same in cc);
      quota = omega (arith, up.holds.puts.same_quota);
    }

-- nothing but seeing was done, and a reply tells no more than that
sees_follows : (front : ℕ) (before now : Standing) → OnlySees before now → front ≤ now.log.floor → Follows (sees front) [] before now
sees_follows front before now only seen = record {
  puts = puts_nothing [] before now refl only.kept.same_own only.kept.same_edges;
  seen = seen;
  low = omega arith;
  placed = only.kept.same_places;
}

-- a value
pub value_leads : (place front : ℕ) (command : Command) (reply : Reply) (before now : Standing) (walk : Walk) → IsWalkedTo walk before →
    Holds place (held.View front) before → IsQuiet reply → IsPlain reply → IsAskedOf place command reply before now →
    Leads before now walk [] (value place command) reply
value_leads place front command reply before now walk at holds quiet plain is =
    let only = is.read.sees in
    record {
      onward = only.kept.onward;
      allowed = (
        front,
        walk_holds walk before place (held.View front) at holds,
        subst (λ (t : Terms). IsValue t.vertices (take front now.log.seen) command reply) (sym only.kept.onward.same_terms)
            (subst (λ (l : List Edge). IsValue before.terms.vertices (take front l) command reply) (sym is.read.same_seen) (is.value front holds)),
      );
      follows = rw (plain.calm, quiet.effect walk.first) (sees_follows 0 before now only (omega arith));
      synced = λ n same. absurd (plain.unsynced n same);
      quota = omega (arith, only.quota);
    }

-- that the log is so long
pub reached_leads : (asked front : ℕ) (before now : Standing) (walk : Walk) → IsWalkedTo walk before → IsSound now →
    HasReached (before.terms.first + asked) front before now → Leads before now walk [] (reached asked) (tells.Until asked)
reached_leads asked front before now walk at sound is =
    let so_far : walk.first + asked ≤ now.log.floor = omega (arith, at.first, is.floor) in
    record {
      onward = is.sees.kept.onward;
      allowed = (refl, omega (arith, so_far, sound.sees.floor_seen));
      follows = sees_follows (walk.first + asked) before now is.sees so_far;
      synced = λ n same. absurd (let h : tells.Until asked ≡ tells.Synced n = same in cc);
      quota = omega (arith, is.sees.quota);
    }

-- that a front is durable
pub synced_leads : (front : ℕ) (before now : Standing) (walk : Walk) → IsWalkedTo walk before → IsSynced front before now →
    Leads before now walk [] synced (tells.Synced front)
synced_leads front before now walk at is = record {
  onward = is.sees.kept.onward;
  allowed = (front, refl, fresh before now walk front at is.sees.kept.same_own is.front_is);
  follows = sees_follows front before now is.sees is.front_is.floor;
  synced = λ n same.
      let e : front ≡ n = (let h : tells.Synced front ≡ tells.Synced n = same in cc) in
      omega (arith, e, is.durable);
  quota = omega (arith, is.sees.quota);
}

-- that a place is free
pub freed_leads : (place : ℕ) (told reply : Reply) (before now : Standing) (walk : Walk) → reply ≡ told →
    effect_of walk.first told ≡ leaves place held.Free 0 → IsPlain told → IsPlacedAt place held.Free before now → Leads before now walk [] (word told) reply
freed_leads place told reply before now walk same effect plain placed = record {
  onward = placed.onward;
  allowed = same;
  follows = rw (same, plain.calm, effect) (placed_follows place 0 held.Free before now placed (omega arith));
  synced = λ n is. absurd (plain.unsynced n (sym same ∙ is));
  quota = omega (arith, placed.puts.same_quota);
}

-- that the store was compacted
pub compacted_leads : (reply : Reply) (before now : Standing) (walk : Walk) → reply ≡ tells.Compacted → OnlySees before now →
    Leads before now walk [] (word tells.Compacted) reply
compacted_leads reply before now walk same only = record {
  onward = only.kept.onward;
  allowed = same;
  follows = rw same (sees_follows 0 before now only (omega arith));
  synced = λ n is. absurd (let h : tells.Compacted ≡ tells.Synced n = sym same ∙ is in cc);
  quota = omega (arith, only.quota);
}
