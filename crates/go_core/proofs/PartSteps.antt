-- A part is taken out and put in: what the rule says of the parts lasts.
use Rattle.std.proofs.Common.{◌≡◌, ℕ, ◌<◌, ◌≤◌, Bool, true, false, List, length, set, refl, arith}
use Rattle.std.specs.Prelude.{All, max}
use Rattle.std.proofs.lemmas.Bool.{false≢true}
use Rattle.std.proofs.lemmas.List.Elements.{All-weaker}
use Rattle.go_word.specs.declared.edge.Edge.{Edge}
use Rattle.go_core.specs.declared.part.PartState.{PartState}
use Rattle.go_core.specs.declared.stake.Stake.{Stake}
use Rattle.go_core.specs.View.{unmoved}
use Rattle.go_core.specs.Pins.{owns_name}
use Rattle.go_core.specs.Rule.{TiedBy}
use Rattle.go_core.specs.Parts.{Reaches, reach_of, ArePartsOf, IsTurn}
use Rattle.go_core.specs.Turns.{hold_of, home_of, with_home, putting}
use Rattle.go_core.specs.Acts.{IsLawful}
use Rattle.go_core.specs.Machine.{Machine, AreParted, views_of, stakes_of, states_of, turn_in, party_at, with_stake, with_part, with_view}
use Rattle.go_core.proofs.Moved.{within_log}
use Rattle.go_core.proofs.TurnLaws.{turn_had}
use Rattle.go_core.proofs.Pinned.{pinned_put}
use Rattle.go_core.proofs.PartLaws.{reach_taken, reach_reached, shard_put, file_put}
use Rattle.go_core.proofs.Parted.{party_there, stake_there}
use Rattle.go_core.proofs.TurnSteps.{has_turn, of_two, stake_step, same_pins, same_front, same_turn}

-- a part is taken out
pub out_parted : (m : Machine) (i : ℕ) (b : Bool) (log : List Edge) → (party_at m i).view.live ≡ true → has_turn b (party_at m i).stake ≡ true
    → AreParted m log → AreParted (with_part b (record { part = (home_of b m.parts).part; out = true }) (with_view i (unmoved (party_at m i).view) m)) log
out_parted m i true log live turn are =
    let s = (party_at m i).stake in
    let stakes = stakes_of m.parties in
    let parts' = with_home true (record { part = m.parts.shard.part; out = true }) m.parts in
    stake_step m i s m.words parts' log live are refl refl are.parts (λ part. same_turn m i s m.words parts' log live are part refl)
    (of_two (λ part. (home_of part parts').out ≡ true → 0 < turn_in part m.words)
    (λ out. turn_had (has_turn true) stakes i s (turn_in true m.words) (stake_there m i live) turn (are.turns true)) (λ out. are.homes false out))
    (of_two (λ part. All (λ z. (hold_of part z).front ≤ (home_of part parts').part.front) (set stakes i s))
    (same_front m i s m.words parts' log live are true refl) (same_front m i s m.words parts' log live are false refl))
    (same_pins m i s m.words parts' log live are refl refl (λ free. free))
out_parted m i false log live turn are =
    let s = (party_at m i).stake in
    let stakes = stakes_of m.parties in
    let parts' = with_home false (record { part = m.parts.file.part; out = true }) m.parts in
    stake_step m i s m.words parts' log live are refl refl are.parts (λ part. same_turn m i s m.words parts' log live are part refl)
    (of_two (λ part. (home_of part parts').out ≡ true → 0 < turn_in part m.words) (λ out. are.homes true out)
    (λ out. turn_had (has_turn false) stakes i s (turn_in false m.words) (stake_there m i live) turn (are.turns false)))
    (of_two (λ part. All (λ z. (hold_of part z).front ≤ (home_of part parts').part.front) (set stakes i s))
    (same_front m i s m.words parts' log live are true refl) (same_front m i s m.words parts' log live are false refl))
    (same_pins m i s m.words parts' log live are refl refl (λ free. free))

-- what a party took is in the log
taken_within : (m : Machine) (i : ℕ) (log : List Edge) → (party_at m i).view.live ≡ true → TiedBy m.frame log m.words (views_of m.parties)
    → (party_at m i).view.taken ≤ length log
taken_within m i log live tied =
    let v = (party_at m i).view in
    let s = tied.seated i v (party_there m i live) in
    let taken = s.takes.to in
    within_log log (views_of m.parties) v.taken (λ p less. s.sees.written p (omega arith))

-- a front that goes to at most the greater of two
up_to_either : (front old taken long : ℕ) → front ≤ max old taken → old ≤ long → taken ≤ long → front ≤ long
up_to_either front old taken long to one two = omega arith

-- a part is put in
pub put_parted : (m : Machine) (i : ℕ) (b : Bool) (state : PartState) (log : List Edge) → (party_at m i).view.live ≡ true
    → has_turn b (party_at m i).stake ≡ true → IsLawful b (party_at m i).view (party_at m i).stake (home_of b m.parts).part state
    → TiedBy m.frame log m.words (views_of m.parties) → AreParted m log
    → AreParted (with_part b (record { part = state; out = false })
    (with_stake i (putting b (home_of b m.parts).part.pins state.pins (party_at m i).stake) m)) log
put_parted m i true state log live turn lawful tied are =
    let v = (party_at m i).view in
    let s = (party_at m i).stake in
    let old = m.parts.shard.part in
    let s' = putting true old.pins state.pins s in
    let stakes = stakes_of m.parties in
    let parts' = with_home true (record { part = state; out = false }) m.parts in
    let st = λ (z : PartState). z in
    let seat = tied.seated i v (party_there m i live) in
    let taken = seat.takes.to in
    let two = are.two in
    let front_from = lawful.onward.front_from in
    let far : reach_of v ≤ v.taken = reach_taken v.archives v.taken in
    let within = taken_within m i log live tied in
    let reach : Reaches state log = up_to_either state.front old.front (reach_of v) (length log) lawful.onward.front_to (are.parts.of_log 0 old refl).stands
    (omega arith) in
    let parts : ArePartsOf st Reaches m.frame log m.words (views_of m.parties) (states_of parts') =
    shard_put st Reaches m.frame log m.words (views_of m.parties) (states_of m.parts) 0 old state refl are.parts (omega arith) reach
    (record {
      reach = reach_of v;
      known = v.archived;
      own = λ id. owns_name id s.pins s.put;
      known_to = seat.knows.archived_to;
      written = λ p less. seat.sees.written p (omega arith);
      reached = reach_reached (views_of m.parties) i v (party_there m i live) tied.one_archiver;
      is = lawful;
    })
    in
    stake_step m i s' m.words parts' log live are refl refl parts
    (of_two (λ part. IsTurn (has_turn part) (turn_in part m.words) (set stakes i s')) (same_turn m i s' m.words parts' log live are true refl)
    (same_turn m i s' m.words parts' log live are false refl))
    (of_two (λ part. (home_of part parts').out ≡ true → 0 < turn_in part m.words) (λ out. absurd (false≢true out)) (λ out. are.homes false out))
    (of_two (λ part. All (λ z. (hold_of part z).front ≤ (home_of part parts').part.front) (set stakes i s'))
    (All-weaker (λ (z : Stake). z.shard.front ≤ old.front) (λ z. z.shard.front ≤ state.front) (λ z small. omega arith) (set stakes i s')
    (same_front m i s' m.words parts' log live are true refl))
    (same_front m i s' m.words parts' log live are false refl))
    (let few = (are.turns true).counts in
    let one = (are.turns true).one in
    pinned_put (λ (z : Stake). z.pins) (λ z. z.put) (λ z. z.shard.turn) stakes i s v.archived old state
    (record { there = stake_there m i live; mine = turn; few = omega arith; keeps = lawful.keeps; are = are.pinned }) s' turn refl refl)
put_parted m i false state log live turn lawful tied are =
    let v = (party_at m i).view in
    let s = (party_at m i).stake in
    let old = m.parts.file.part in
    let stakes = stakes_of m.parties in
    let parts' = with_home false (record { part = state; out = false }) m.parts in
    let st = λ (z : PartState). z in
    let seat = tied.seated i v (party_there m i live) in
    let taken = seat.takes.to in
    let two = are.two in
    let front_from = lawful.front_from in
    let reach : Reaches state log = up_to_either state.front old.front v.taken (length log) lawful.front_to (are.parts.of_log 1 old refl).stands
    (taken_within m i log live tied) in
    let parts : ArePartsOf st Reaches m.frame log m.words (views_of m.parties) (states_of parts') =
    file_put st Reaches m.frame log m.words (views_of m.parties) (states_of m.parts) 1 old state refl are.parts (omega arith) reach
    (record { taken = v.taken; written = λ p less. seat.sees.written p (omega arith); is = lawful })
    in
    stake_step m i s m.words parts' log live are refl refl parts (λ part. same_turn m i s m.words parts' log live are part refl)
    (of_two (λ part. (home_of part parts').out ≡ true → 0 < turn_in part m.words) (λ out. are.homes true out) (λ out. absurd (false≢true out)))
    (of_two (λ part. All (λ z. (hold_of part z).front ≤ (home_of part parts').part.front) (set stakes i s))
    (same_front m i s m.words parts' log live are true refl)
    (All-weaker (λ (z : Stake). z.file.front ≤ old.front) (λ z. z.file.front ≤ state.front) (λ z small. omega arith) (set stakes i s)
    (same_front m i s m.words parts' log live are false refl)))
    (same_pins m i s m.words parts' log live are refl refl (λ free. free))
