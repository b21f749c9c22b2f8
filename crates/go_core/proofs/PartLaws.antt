-- The clauses on the parts last: as the log grows, as a front moves over what the parts hold, and as a part is put in as a lawful successor.
use Rattle.std.proofs.Common.{◌≡◌, ℕ, zero, suc, ◌<◌, ◌≤◌, ◌≢◌, ◌⊎◌, Bool, true, false, List, [], ◌∷◌, set, refl, ap, ◌∙◌, inl, inr, ⊎_elim, arith, subst, sym}
use Rattle.std.specs.Prelude.{Option, Some, None, find, max, slice_get, count_by, if◌then◌else◌}
use Rattle.std.proofs.lemmas.Bool.{cases_eq}
use Rattle.std.proofs.lemmas.Option.{same_Some, none-some}
use mathlib.Core.Option.{some}
use lib.ListN.{get_elem?}
use Rattle.std.proofs.lemmas.List.Elements.{All-weaker, All-contains}
use Rattle.go_word.specs.declared.edge.Edge.{Edge}
use Rattle.go_word.specs.declared.pin.Pin.{Pin}
use Rattle.go_core.specs.declared.part.PartState.{PartState}
use Rattle.go_core.specs.declared.view.View.{View}
use Rattle.go_core.specs.Frame.{Frame, archived_in, durable_in}
use Rattle.go_word.specs.Pins.{is_named}
use Rattle.go_core.specs.Rule.{IsWritten}
use Rattle.go_core.specs.Parts.{reach_of, IsReached, IsShardPlace, IsFilePlace, IsPartOf, IsShardOf, IsInHand, ArePartsOf, Follows, IsSuccessor}
use Rattle.go_core.specs.Parts.{IsFileSuccessor}
use Rattle.go_core.proofs.Loads.{below_max}
use Rattle.go_core.proofs.Lookups.{lookup-same, find-Some}
use Rattle.go_core.proofs.Fronts.{other_role}

-- what a write to a list of parts leaves
get-set : {P : Type 0} (parts : List P) (i j : ℕ) (a b : P) → slice_get (set parts i a) j ≡ Some b → ((j ≡ i) × (a ≡ b)) ⊎ (slice_get parts j ≡ Some b)
get-set [] i j a b there = absurd (none-some b there)
get-set (x ∷ xs) zero zero a b there = inl (refl, same_Some a b there)
get-set (x ∷ xs) zero (suc j) a b there = inr there
get-set (x ∷ xs) (suc i) zero a b there = inr there
get-set (x ∷ xs) (suc i) (suc j) a b there = ⊎_elim (λ here. inl (ap suc here.0, here.1)) (λ other. inr other) (get-set xs i j a b there)

-- a shard that is one, and in a hand that knows an archived front
pub in_hand : (known archived : ℕ) (s : PartState) → known ≤ archived → IsShardOf archived s → IsInHand known s
in_hand known archived s up_to shard =
    let from = shard.archived_to in
    record { front_from = omega arith; cut_pins = shard.cut_pins; names = shard.names }

-- who moves the archived front may bring a shard to what it took, and that is what the clause on fronts of shards says; who doesn't may bring it nowhere
pub reach_reached : (views : List View) (i : ℕ) (v : View) → get_elem? views i ≡ some v → count_by (λ u. u.archives) views ≤ 1 → IsReached views (reach_of v)
reach_reached views i v there one j u at_j role = by_role v.archives refl
  where
    by_role : (b : Bool) → v.archives ≡ b → (if b then v.taken else 0) ≤ u.taken
    by_role true mine =
        ⊎_elim (λ (here : j ≡ i). let same : u ≡ v = lookup-same views j u v at_j (ap (get_elem? views) here ∙ there) in
        let taken : u.taken ≡ v.taken = ap (λ z. z.taken) same in omega arith)
        (λ (ne : j ≢ i). absurd (other_role (λ z. z.archives) views i j v u ne there at_j mine one role)) (cases_eq j i)
    by_role false none = omega arith

-- and that is within what it took
pub reach_taken : (archives : Bool) (taken : ℕ) → (if archives then taken else 0) ≤ taken
reach_taken true taken = omega arith
reach_taken false taken = omega arith

-- a front up to the greater of two is below one of them
below_either : (p front old taken : ℕ) → front ≤ max old taken → p < front → (p < old) ⊎ (p < taken)
below_either p front old taken to less = below_max p old taken (omega arith)

-- a part that has grown holds what is written, and is no further than the one who moves the archived front took
pub grown_written : (log : List Edge) (views : List View) (old front reach : ℕ) → front ≤ max old reach → ((p : ℕ) → p < old → IsWritten log views p)
    → ((p : ℕ) → p < reach → IsWritten log views p) → (p : ℕ) → p < front → IsWritten log views p
grown_written log views old front reach to before now p below = ⊎_elim (λ less. before p less) (λ less. now p less) (below_either p front old reach to below)

pub grown_reached : (views : List View) (old front reach : ℕ) → front ≤ max old reach → IsReached views old → IsReached views reach → IsReached views front
grown_reached views old front reach to before now i v there role = let one = before i v there role in let two = now i v there role in omega arith

-- a pin of a shard that is put in is not past the archived front
follows_to : (cut known archived : ℕ) (own : Bool) (o : Option Pin) (pin : Pin) → cut ≤ archived → known ≤ archived
    → ((q : Pin) → o ≡ Some q → q.front ≤ archived) → Follows cut known own o pin → pin.front ≤ archived
follows_to cut known archived own None pin cut_to known_to before follows = omega arith
follows_to cut known archived own (Some q) pin cut_to known_to before follows =
    let old = before q refl in ⊎_elim (λ same. omega arith) (λ moved. let up_to = moved.2 in omega arith) follows

-- a shard stays one as it is given back
pub shard_successor : (reach known archived : ℕ) (own : ℕ → Bool) (old new : PartState) → known ≤ archived → IsSuccessor reach known own old new
    → IsShardOf archived old → IsShardOf archived new
shard_successor reach known archived own old new known_to is s =
    let on = is.onward in
    let keeps = is.keeps in
    let front_from = on.front_from in
    let cut_to = on.cut_to in
    let archived_to = s.archived_to in
    let old_cut = s.cut_to in
    record {
      archived_to = omega arith;
      cut_to = omega arith;
      cut_pins = keeps.cut_pins;
      pins_to = All-weaker (λ pin. Follows old.cut known (own pin.id) (find (is_named pin.id) old.pins) pin) (λ pin. pin.front ≤ archived)
          (λ pin follows.
          follows_to old.cut known archived (own pin.id) (find (is_named pin.id) old.pins) pin old_cut known_to
          (λ q found. All-contains (λ x. x.front ≤ archived) old.pins q s.pins_to
          (find-Some (is_named pin.id) old.pins q found).0) follows) new.pins keeps.pins;
      names = keeps.names;
    }

-- a shard is put in as a lawful successor, whose party may bring it so far over what is written and knows no front past the archived one
pub record PutsShard (log : List Edge) (words : List ℕ) (views : List View) (old new : PartState) : Type 0 where
  pub reach : ℕ
  pub known : ℕ
  pub own : ℕ → Bool
  pub known_to : known ≤ archived_in words
  pub written : (p : ℕ) → p < reach → IsWritten log views p
  pub reached : IsReached views reach
  pub is : IsSuccessor reach known own old new

-- the file is, by a party that took so much, all of it written
pub record PutsFile (log : List Edge) (views : List View) (old new : PartState) : Type 0 where
  pub taken : ℕ
  pub written : (p : ℕ) → p < taken → IsWritten log views p
  pub is : IsFileSuccessor taken old new

module _ {P : Type 0} (state_of : P → PartState) (StandsFor : P → List Edge → Type 0) where
  -- the log grew, and what was written stays written
  pub parts_onward : (f : Frame) (log log' : List Edge) (words : List ℕ) (views views' : List View) (parts : List P)
      → ((part : P) → StandsFor part log → StandsFor part log') → ((p : ℕ) → IsWritten log views p → IsWritten log' views' p)
      → ((front : ℕ) → IsReached views front → IsReached views' front) → ArePartsOf state_of StandsFor f log words views parts
      → ArePartsOf state_of StandsFor f log' words views' parts
  parts_onward f log log' words views views' parts stands written reached are =
      record {
        of_log = λ place part there. let of = are.of_log place part there in
            record { stands = stands part of.stands; written = λ p below. written p (of.written p below) };
        shards = are.shards;
        reached = λ place part there shard. reached (state_of part).front (are.reached place part there shard);
        file = are.file;
      }

  -- the fronts moved over what each shard and the file hold
  pub parts_moved : (f : Frame) (log : List Edge) (words words' : List ℕ) (views : List View) (parts : List P) → archived_in words ≤ archived_in words'
      → ((place : ℕ) (part : P) → slice_get parts place ≡ Some part → IsShardPlace f place → archived_in words' ≤ (state_of part).front)
      → ((place : ℕ) (part : P) → slice_get parts place ≡ Some part → IsFilePlace f place → durable_in words' ≤ (state_of part).front)
      → ArePartsOf state_of StandsFor f log words views parts → ArePartsOf state_of StandsFor f log words' views parts
  parts_moved f log words words' views parts onward shards file are =
      record {
        of_log = are.of_log;
        shards = λ place part there shard.
            (let s = are.shards place part there shard in
            let cut_to = s.cut_to in
            record {
              archived_to = shards place part there shard;
              cut_to = omega arith;
              cut_pins = s.cut_pins;
              pins_to = All-weaker (λ pin. pin.front ≤ archived_in words) (λ pin. pin.front ≤ archived_in words') (λ pin small. omega arith)
                  (state_of part).pins s.pins_to;
              names = s.names;
            });
        reached = are.reached;
        file = file;
      }

  -- other words were written, and the fronts stand still
  pub parts_still : (f : Frame) (log : List Edge) (words words' : List ℕ) (views : List View) (parts : List P) → archived_in words' ≡ archived_in words
      → durable_in words' ≡ durable_in words → ArePartsOf state_of StandsFor f log words views parts → ArePartsOf state_of StandsFor f log words' views parts
  parts_still f log words words' views parts archived durable are =
      record {
        of_log = are.of_log;
        shards = λ place part there shard. subst (λ n. IsShardOf n (state_of part)) (sym archived) (are.shards place part there shard);
        reached = are.reached;
        file = λ place part there file. subst (λ n. n ≤ (state_of part).front) (sym durable) (are.file place part there file);
      }

  module _ (f : Frame) (log : List Edge) (words : List ℕ) (views : List View) (parts : List P) (at : ℕ) (old new : P)
      (there : slice_get parts at ≡ Some old) (are : ArePartsOf state_of StandsFor f log words views parts) where
    -- a part is put in that goes on to at most a reach: each part stands for the log
    grown_of_log : (reach : ℕ) → (state_of new).front ≤ max (state_of old).front reach → ((p : ℕ) → p < reach → IsWritten log views p) → StandsFor new log
        → (place : ℕ) (part : P) → slice_get (set parts at new) place ≡ Some part → IsPartOf state_of StandsFor log views part
    grown_of_log reach front_to written stands place part there' =
        ⊎_elim
        (λ here.
        subst (IsPartOf state_of StandsFor log views) here.1
        (record {
          stands = stands;
          written = grown_written log views (state_of old).front (state_of new).front reach front_to (are.of_log at old there).written written;
        }))
        (λ other. are.of_log place part other) (get-set parts at place new part there')

    -- a shard is put in
    pub shard_put : IsShardPlace f at → StandsFor new log → PutsShard log words views (state_of old) (state_of new)
        → ArePartsOf state_of StandsFor f log words views (set parts at new)
    shard_put shard stands puts =
        let s = are.shards at old there shard in
        let front_to = puts.is.onward.front_to in
        record {
          of_log = grown_of_log puts.reach front_to puts.written stands;
          shards = λ place part there' shard'.
              ⊎_elim
              (λ here. subst (λ z. IsShardOf (archived_in words) (state_of z)) here.1
              (shard_successor puts.reach puts.known (archived_in words) puts.own (state_of old) (state_of new) puts.known_to puts.is s))
              (λ other. are.shards place part other shard') (get-set parts at place new part there');
          reached = λ place part there' shard'.
              ⊎_elim
              (λ here.
              subst (λ z. IsReached views (state_of z).front) here.1
              (grown_reached views (state_of old).front (state_of new).front puts.reach front_to (are.reached at old there shard) puts.reached))
              (λ other. are.reached place part other shard') (get-set parts at place new part there');
          file = λ place part there' file.
              ⊎_elim (λ here. let is_at = here.0 in absurd (omega arith)) (λ other. are.file place part other file) (get-set parts at place new part there');
        }

    -- the file is put in
    pub file_put : IsFilePlace f at → StandsFor new log → PutsFile log views (state_of old) (state_of new)
        → ArePartsOf state_of StandsFor f log words views (set parts at new)
    file_put file stands puts =
        let before = are.file at old there file in
        let front_from = puts.is.front_from in
        record {
          of_log = grown_of_log puts.taken puts.is.front_to puts.written stands;
          shards = λ place part there' shard.
              ⊎_elim (λ here. let is_at = here.0 in absurd (omega arith)) (λ other. are.shards place part other shard) (get-set parts at place new part there');
          reached = λ place part there' shard.
              ⊎_elim (λ here. let is_at = here.0 in absurd (omega arith)) (λ other. are.reached place part other shard)
              (get-set parts at place new part there');
          file = λ place part there' file'.
              ⊎_elim (λ here. subst (λ z. durable_in words ≤ (state_of z).front) here.1 (omega arith)) (λ other. are.file place part other file')
              (get-set parts at place new part there');
        }
