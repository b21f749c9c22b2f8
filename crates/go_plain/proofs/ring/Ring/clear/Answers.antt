-- What `clear` keeps.
use Rattle.std.proofs.Common.{◌≡◌, ℕ, ◌==◌, if◌then◌else◌, List, get_or, refl, arith, subst}
use Rattle.go_word.specs.declared.edge.Edge.{Edge}
use Rattle.go_word.specs.Log.{raw}
use Rattle.go_plain.proofs.KeptLemmas.{kept_clear}
use Rattle.go_plain.proofs.ring.Ring.clear.Goals as goal

pub invariant_of-self : goal.invariant_of-self
invariant_of-self c =
    let memory = c.self.invariant.memory in
    let gone : (s : ℕ) → get_or c.forget.new.latest.items s 0 ≡ (if raw c.self.inside.entries.items s == 0 then get_or c.self.inside.latest.items s 0
    else 0) = λ s. subst (λ (l : List Edge). get_or c.forget.new.latest.items s 0
    ≡ (if raw l s == 0 then get_or c.self.inside.latest.items s 0 else 0)) c.deref.ensures.value (c.forget.ensures.gone s) in
    kept_clear c.self.inside _ c.self.invariant (record {
      bare = record {
        entries = c.clear.ensures.items;
        owners = c.clear-2.ensures.items;
        prior = c.clear-3.ensures.items;
        skips = c.clear-4.ensures.items;
      };
      latest = c.forget.ensures.all;
      gone = gone;
      room = refl;
      mark = refl;
      memory = record {
        entries = omega (arith, c.clear.ensures.capacity, memory.entries);
        owners = omega (arith, c.clear-2.ensures.capacity, memory.owners);
        prior = omega (arith, c.clear-3.ensures.capacity, memory.prior);
        skips = omega (arith, c.clear-4.ensures.capacity, memory.skips);
      };
    })
