-- The rows on the turns and the parts keep the machine tied.
use Rattle.std.proofs.Common.{◌≡◌, ℕ, ◌<◌, ◌≤◌, Bool, true, false, cond, List, set, sym}
use Rattle.std.proofs.Common.{arith, subst}
use Rattle.std.specs.Prelude.{◌==◌}
use Rattle.std.proofs.lemmas.Bool.Decides.{nat_tests}
use Rattle.go_word.specs.declared.edge.Edge.{Edge}
use Rattle.go_core.specs.declared.part.PartState.{PartState}
use Rattle.go_core.specs.Turns.{hold_of, home_of, turn_place, having_turn, putting, giving}
use Rattle.go_core.specs.View.{unmoved}
use Rattle.go_core.specs.Rule.{TiedBy}
use Rattle.go_core.specs.Acts.{IsLawful}
use Rattle.go_core.specs.Machine.{Machine, IsTied, views_of, turn_in, party_at, with_view, with_word, with_stake}
use Rattle.go_core.specs.Machine.{with_part}
use Rattle.go_core.proofs.TurnLaws.{turn_stored}
use Rattle.go_core.proofs.Parted.{party_there, views-set, beside_same, kept}
use Rattle.go_core.proofs.Loads.{unmoved_keeps}
use Rattle.go_core.proofs.TurnSteps.{turn_parted, given_parted}
use Rattle.go_core.proofs.PartSteps.{out_parted, put_parted}

-- a turn word lies after the four shared words and before the slots
turn_range : (b : Bool) → (4 ≤ turn_place b) × (turn_place b < 6)
turn_range true = (omega arith, omega arith)
turn_range false = (omega arith, omega arith)

-- a turn that was free is taken, and another stays
pub turn_or_not : (m : Machine) (i : ℕ) (b : Bool) (log : List Edge) → (party_at m i).view.live ≡ true → IsTied m log → (free : Bool)
    → (turn_in b m.words == 0) ≡ free
    → IsTied (cond free (with_word (turn_place b) 1 (with_stake i (having_turn b (party_at m i).stake) m)) (with_view i (unmoved (party_at m i).view) m)) log
turn_or_not m i b log live tied true is =
    let v = (party_at m i).view in
    let all = tied.tied.ringed.shape.all_words in
    let two = tied.parted.two in
    let place' = turn_range b in
    let free : turn_in b m.words ≡ 0 = grind (arith, nat_tests) in
    record {
      tied = subst (TiedBy m.frame log (set m.words (turn_place b) 1)) (sym (views-set m.parties i _))
          (turn_stored m.frame log m.words (views_of m.parties) i v (turn_place b) 1 (party_there m i live) live (let from = place'.0 in omega arith)
          (let to = place'.1 in omega arith) tied.tied);
      parted = turn_parted m i b log live (omega arith) free tied.parted;
      fits = tied.fits;
    }
turn_or_not m i b log live tied false is =
    kept m i _ m.words log log live (beside_same m.words) (omega arith) (λ p within. omega arith) (λ role. (role, omega arith))
    (unmoved_keeps m.frame log m.words (views_of m.parties) i (party_at m i).view (party_there m i live) live tied.tied) tied.fits tied

-- a part is taken out
pub out_done : (m : Machine) (i : ℕ) (b : Bool) (log : List Edge) → (party_at m i).view.live ≡ true → (hold_of b (party_at m i).stake).turn ≡ true
    → IsTied m log → IsTied (with_part b (record { part = (home_of b m.parts).part; out = true }) (with_view i (unmoved (party_at m i).view) m)) log
out_done m i b log live turn tied =
    record {
      tied = subst (TiedBy m.frame log m.words) (sym (views-set m.parties i _))
          (unmoved_keeps m.frame log m.words (views_of m.parties) i (party_at m i).view (party_there m i live) live tied.tied);
      parted = out_parted m i b log live turn tied.parted;
      fits = tied.fits;
    }

-- a part is put in
pub put_done : (m : Machine) (i : ℕ) (b : Bool) (state : PartState) (log : List Edge) → (party_at m i).view.live ≡ true
    → (hold_of b (party_at m i).stake).turn ≡ true → IsLawful b (party_at m i).view (party_at m i).stake (home_of b m.parts).part state → IsTied m log
    → IsTied (with_part b (record { part = state; out = false }) (with_stake i (putting b (home_of b m.parts).part.pins state.pins (party_at m i).stake) m)) log
put_done m i b state log live turn lawful tied =
    record {
      tied = subst (TiedBy m.frame log m.words) (sym (views-set m.parties i _))
          (unmoved_keeps m.frame log m.words (views_of m.parties) i (party_at m i).view (party_there m i live) live tied.tied);
      parted = put_parted m i b state log live turn lawful tied.tied tied.parted;
      fits = tied.fits;
    }

-- a turn is given back
pub given_done : (m : Machine) (i : ℕ) (b : Bool) (log : List Edge) → (party_at m i).view.live ≡ true → (hold_of b (party_at m i).stake).turn ≡ true
    → (home_of b m.parts).out ≡ false → IsTied m log
    → IsTied (with_word (turn_place b) 0 (with_stake i (giving b (home_of b m.parts).part (party_at m i).stake) m)) log
given_done m i b log live turn home tied =
    let v = (party_at m i).view in
    let all = tied.tied.ringed.shape.all_words in
    let two = tied.parted.two in
    let place' = turn_range b in
    record {
      tied = subst (TiedBy m.frame log (set m.words (turn_place b) 0)) (sym (views-set m.parties i _))
          (turn_stored m.frame log m.words (views_of m.parties) i v (turn_place b) 0 (party_there m i live) live (let from = place'.0 in omega arith)
          (let to = place'.1 in omega arith) tied.tied);
      parted = given_parted m i b log live (omega arith) turn home tied.parted;
      fits = tied.fits;
    }
