-- A ring of some shards and a file over parts that stand for what they reach may be opened from position 0 on.
use Rattle.std.proofs.Common.{◌≡◌, ℕ, zero, suc, ◌^◌, ◌<◌, ◌≤◌, List, [], map, replicate, length, sym, refl, ap, ◌∙◌, arith, subst}
use Rattle.std.proofs.lemmas.List.{length-replicate}
use Rattle.std.specs.Prelude.{⊤, All, Some, slice_get, Option as Maybe}
use Rattle.std.proofs.lemmas.Option.{same_Some, none-some}
use Rattle.std.proofs.lemmas.List.Elements.{All-nil}
use Rattle.go_core.specs.declared.part.PartState.{PartState}
use Rattle.go_core.specs.Parts.{Reaches, no_mark}
use Rattle.go_rule.specs.declared.layout.Key.{Key}
use Rattle.go_rule.specs.Meaning.{Meaning}
use Rattle.go_rule.specs.Views.{opened_of}
use Rattle.go_rule.specs.Rule.{IsBelow}
use Rattle.go_rule.specs.Opening.{CanOpen, IsFirst, IsFirstShard, IsFirstFile}

-- what a part means of which no more is known than its state
abbrev pub plain_meaning : Meaning PartState
plain_meaning = record {
  state_of = λ s. s;
  stands_for = λ s first log. Reaches s log;
  fits = λ s place shards vertices. place ≤ shards;
  keeps = λ s front. (s.cut ≤ front) × (front ≤ s.front);
  is_spent = λ s. ⊥;
  mark_of = λ s. no_mark;
  recovers = λ s log vertices first mark. ⊤;
}

-- a part that has taken in nothing
abbrev pub empty_part : PartState
empty_part = record { front = 0; cut = 0; pins = [] }

all_empty : (n place : ℕ) (part : PartState) → slice_get (replicate n empty_part) place ≡ Some part → (empty_part ≡ part) × (place < n)
all_empty zero place part there = absurd (none-some part there)
all_empty (suc n) zero part there = (same_Some empty_part part there, omega arith)
all_empty (suc n) (suc place) part there = let rest = all_empty n place part there in let less = rest.1 in (rest.0, omega arith)

pub sample_opens : (key : Key PartState) (slots : List (Maybe PartState)) (shards : ℕ) → key.layout.shards ≡ shards → key.first ≡ 0 → opened_of key ≡ []
    → key.quota < 2 ^ 31 → key.file.value ≡ empty_part → slots ≡ map Some (replicate (suc shards) empty_part) → CanOpen plain_meaning key slots
sample_opens key slots shards many zero' none few file all =
    record {
      room = record {
        long = ap length none ∙ sym zero';
        below = subst (All (IsBelow key.layout.vertices)) (sym none) (All-nil (IsBelow key.layout.vertices));
        few = omega arith;
      };
      parts = replicate (suc shards) empty_part;
      all = all;
      count = length-replicate (suc shards) empty_part ∙ omega arith;
      first = λ place part there.
          (let is = all_empty (suc shards) place part there in
          let small = is.1 in
          subst (IsFirst plain_meaning key place) is.0 (record { fits = omega arith; front = sym zero'; stands = omega arith }));
      shards = λ place part there shard.
          subst (IsFirstShard plain_meaning key) (all_empty (suc shards) place part there).0 (record {
            cut = omega arith;
            pins = refl;
            keeps =
                (omega arith, omega arith);
          });
      file = λ place part there at.
          subst (IsFirstFile plain_meaning key) (all_empty (suc shards) place part there).0 (record { same = sym file; whole = λ gone. gone; recovers = tt });
    }
