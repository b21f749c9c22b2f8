-- What the rule says of the parts lasts where a party is split, and where two are joined.
use Rattle.std.proofs.Common.{◌≡◌, ◌≢◌, ℕ, ◌+◌, ◌≤◌, Bool, true, false, List, [], ◌∷◌, ◌++◌, set, sym, refl, ap, ◌∙◌, ⊎_elim, arith, subst}
use Rattle.std.proofs.lemmas.Bool.{false≢true}
use Rattle.std.proofs.lemmas.List.{map-append}
use Rattle.std.proofs.lemmas.List.Sums.{sum_by_push}
use Rattle.std.proofs.lemmas.List.Elements.{All-set, All-push}
use mathlib.Core.Option.{some}
use lib.ListN.{get_elem?}
use Rattle.go_word.specs.declared.edge.Edge.{Edge}
use Rattle.go_core.specs.declared.view.View.{View}
use Rattle.go_core.specs.declared.party.Party.{Party}
use Rattle.go_core.specs.declared.stake.Stake.{Stake}
use Rattle.go_core.specs.View.{count_at, unfilled, spent, unmoved, split_off, joining}
use Rattle.go_core.specs.Rule.{owed, IsWritten}
use Rattle.go_core.specs.Parts.{IsReached}
use Rattle.go_core.specs.Turns.{hold_of, home_of}
use Rattle.go_core.specs.Acts.{CanJoin, HasNoTurn}
use Rattle.go_core.specs.Machine.{Machine, AreParted, views_of, stakes_of, absent, no_stake, stake_off, stakes_joined, party_at, turn_in}
use Rattle.go_core.proofs.Lookups.{lookup-set_other, lookup-last}
use Rattle.go_core.proofs.Totals.{total-set}
use Rattle.go_core.proofs.Entries.{count_at-append}
use Rattle.go_core.proofs.Claims.{All-lookup}
use Rattle.go_core.proofs.TurnLaws.{turn_same, turn_more}
use Rattle.go_core.proofs.Pinned.{pinned_more, pinned_joined}
use Rattle.go_core.proofs.Parted.{party_there, stake_there, views-set, stakes-set, stakes_kept, written_less, reached_set, parties_parted}

-- a new party owes nothing
split_written : (log : List Edge) (views : List View) (v : View) (p : ℕ) → IsWritten log views p → IsWritten log (views ++ split_off v ∷ []) p
split_written log views v p written =
    let within = written.within in
    let filled = written.filled in
    let more : owed (views ++ split_off v ∷ []) p ≡ owed views p + unfilled p (split_off v) = sum_by_push (unfilled p) views (split_off v) in
    record { within = within; filled = omega arith }

-- and archives nothing
reached_more : (views : List View) (w : View) (front : ℕ) → (w.archives ≡ true → ⊥) → IsReached views front → IsReached (views ++ w ∷ []) front
reached_more views w front none reached j u at_j role =
    ⊎_elim (λ old. reached j u old role) (λ here. absurd (none (ap (λ (z : View). z.archives) here ∙ role))) (lookup-last views w u j at_j)

-- a party is split: the new one knows the parts, and holds nothing
pub split_parted : (m : Machine) (i : ℕ) (log : List Edge) → (party_at m i).view.live ≡ true → AreParted m log
    → AreParted (record m {
      parties = set m.parties i
          (record { view = unmoved (party_at m i).view; stake = (party_at m i).stake }) ++ record {
            view = split_off (party_at m i).view;
            stake = stake_off
                (party_at m i).stake;
          } ∷ [];
    }) log
split_parted m i log live are =
    let v = (party_at m i).view in
    let s = (party_at m i).stake in
    let p : Party = record { view = unmoved v; stake = s } in
    let new : Party = record { view = split_off v; stake = stake_off s } in
    let stakes = stakes_of m.parties in
    let views : views_of (set m.parties i p ++ new ∷ []) ≡ set (views_of m.parties) i (unmoved v) ++ split_off v ∷ [] = map-append (λ q. q.view)
    (set m.parties i p) (new ∷ []) ∙ ap (λ vs. vs ++ split_off v ∷ []) (views-set m.parties i p) in
    let more : stakes_of (set m.parties i p ++ new ∷ []) ≡ stakes ++ stake_off s ∷ [] = map-append (λ q. q.stake) (set m.parties i p) (new ∷ [])
    ∙ ap (λ ss. ss ++ stake_off s ∷ []) (stakes_kept m.parties i (unmoved v)) in
    let known : (part : Bool)
    → (hold_of part s).front ≤ (home_of part m.parts).part.front = λ part. All-lookup
    (λ z. (hold_of part z).front ≤ (home_of part m.parts).part.front) stakes i s (are.known part) (stake_there m i live) in
    parties_parted m (set m.parties i p ++ new ∷ []) (stakes ++ stake_off s ∷ []) log more
    (λ q written. subst (λ vs. IsWritten log vs q) (sym views)
    (split_written log (set (views_of m.parties) i (unmoved v)) v q
    (written_less log log (views_of m.parties) i v (unmoved v) (party_there m i live) (omega arith) (λ n within. omega arith) q written)))
    (λ front reached.
    subst (λ vs. IsReached vs front) (sym views)
    (reached_more (set (views_of m.parties) i (unmoved v)) (split_off v) front (λ none. false≢true none)
    (reached_set (views_of m.parties) i v (unmoved v) (party_there m i live) (λ role. (role, omega arith)) front reached)))
    (λ part. turn_more (λ z. (hold_of part z).turn) stakes (stake_off s) (turn_in part m.words) (no_turn part s) (are.turns part))
    (λ part. All-push (λ z. (hold_of part z).front ≤ (home_of part m.parts).part.front) stakes (stake_off s) (are.known part)
    (subst (λ n. n ≤ (home_of part m.parts).part.front) (sym (as_known part s)) (known part)))
    (pinned_more (λ (z : Stake). z.pins) (λ z. z.put) (λ z. z.shard.turn) m.parts.shard.part.pins stakes (stake_off s) refl refl are.pinned) are
  where
    no_turn : (part : Bool) (s : Stake) → (hold_of part (stake_off s)).turn ≡ false
    no_turn true s = refl
    no_turn false s = refl

    as_known : (part : Bool) (s : Stake) → (hold_of part (stake_off s)).front ≡ (hold_of part s).front
    as_known true s = refl
    as_known false s = refl

-- what two parties owe is what the one owes into which the other is joined
joined_written : (log : List Edge) (views : List View) (i j : ℕ) (v o : View) → j ≢ i → get_elem? views i ≡ some v → get_elem? views j ≡ some o
    → o.pending ≡ [] → (p : ℕ) → IsWritten log views p → IsWritten log (set (set views i (joining v o)) j spent) p
joined_written log views i j v o ne there other none p written =
    let within = written.within in
    let filled = written.filled in
    let both = joining v o in
    let other' : get_elem? (set views i both) j ≡ some o = lookup-set_other views i j both ne ∙ other in
    let first : owed (set views i both) p + unfilled p v ≡ owed views p + unfilled p both = total-set (unfilled p) views i v both there in
    let second : owed (set (set views i both) j spent) p + unfilled p o ≡ owed (set views i both) p + unfilled p spent = total-set (unfilled p)
    (set views i both) j o spent other' in
    let nothing : unfilled p spent ≡ 0 = refl in
    let more : count_at p both.abandoned ≡ count_at p v.abandoned + count_at p o.abandoned = count_at-append p v.abandoned o.abandoned in
    let owes : count_at p o.pending ≡ 0 = ap (count_at p) none in
    record { within = within; filled = omega arith }

-- another party is joined in, which has no turn
pub join_parted : (m : Machine) (i j : ℕ) (log : List Edge) → (party_at m i).view.live ≡ true → j ≢ i → CanJoin (party_at m j).view
    → HasNoTurn (party_at m j).stake → AreParted m log
    → AreParted (record m {
      parties = set
          (set m.parties i (record {
            view = joining (party_at m i).view (party_at m j).view;
            stake = stakes_joined (party_at m i).stake
                (party_at m j).stake;
          })) j absent;
    }) log
join_parted m i j log live ne can no_turn are =
    let v = (party_at m i).view in
    let s = (party_at m i).stake in
    let w = (party_at m j).view in
    let o = (party_at m j).stake in
    let both = stakes_joined s o in
    let p : Party = record { view = joining v w; stake = both } in
    let stakes = stakes_of m.parties in
    let there = stake_there m i live in
    let other = stake_there m j can.live in
    let views : views_of (set (set m.parties i p) j absent) ≡ set (set (views_of m.parties) i (joining v w)) j spent = views-set (set m.parties i p) j absent
    ∙ ap (λ vs. set vs j spent) (views-set m.parties i p) in
    let more : stakes_of (set (set m.parties i p) j absent) ≡ set (set stakes i both) j no_stake = stakes-set (set m.parties i p) j absent
    ∙ ap (λ ss. set ss j no_stake) (stakes-set m.parties i p) in
    parties_parted m (set (set m.parties i p) j absent) (set (set stakes i both) j no_stake) log more
    (λ q written. subst (λ vs. IsWritten log vs q) (sym views)
    (joined_written log (views_of m.parties) i j v w ne (party_there m i live) (party_there m j can.live) can.pending q written))
    (λ front reached.
    subst (λ vs. IsReached vs front) (sym views)
    (reached_set (set (views_of m.parties) i (joining v w)) j w spent (lookup-set_other (views_of m.parties) i j (joining v w) ne ∙ party_there m j can.live)
    (λ none. absurd (false≢true none)) front
    (reached_set (views_of m.parties) i v (joining v w) (party_there m i live) (λ role. (role, omega arith)) front reached)))
    (λ part.
    turn_same (λ z. (hold_of part z).turn) (set stakes i both) j o no_stake (turn_in part m.words) (lookup-set_other stakes i j both ne ∙ other)
    (gone_turn part ∙ sym (other_turn part o no_turn.shard no_turn.file))
    (turn_same (λ z. (hold_of part z).turn) stakes i s both (turn_in part m.words) there (both_turn part s o) (are.turns part)))
    (λ part.
    let P : Stake → Type 0 = λ z. (hold_of part z).front ≤ (home_of part m.parts).part.front in
    All-set P (set stakes i both) j no_stake (gone_front part (home_of part m.parts).part.front)
    (All-set P stakes i both
    (both_front part s o (home_of part m.parts).part.front (All-lookup P stakes i s (are.known part) there)
    (All-lookup P stakes j o (are.known part) other)) (are.known part)))
    (pinned_joined (λ (z : Stake). z.pins) (λ z. z.put) (λ z. z.shard.turn) m.parts.shard.part.pins stakes i j s o both no_stake
    (record { ne = ne; there = there; other = other })
    (record { free = no_turn.shard; turn = refl; all_pins = refl; as_put = refl; none = refl; none_put = refl }) are.pinned) are
  where
    gone_turn : (part : Bool) → (hold_of part no_stake).turn ≡ false
    gone_turn true = refl
    gone_turn false = refl

    other_turn : (part : Bool) (o : Stake) → o.shard.turn ≡ false → o.file.turn ≡ false → (hold_of part o).turn ≡ false
    other_turn true o shard file = shard
    other_turn false o shard file = file

    both_turn : (part : Bool) (s o : Stake) → (hold_of part (stakes_joined s o)).turn ≡ (hold_of part s).turn
    both_turn true s o = refl
    both_turn false s o = refl

    gone_front : (part : Bool) (n : ℕ) → (hold_of part no_stake).front ≤ n
    gone_front true n = omega arith
    gone_front false n = omega arith

    both_front : (part : Bool) (s o : Stake) (n : ℕ) → (hold_of part s).front ≤ n → (hold_of part o).front ≤ n → (hold_of part (stakes_joined s o)).front ≤ n
    both_front true s o n one two = omega arith
    both_front false s o n one two = omega arith
