-- A power of two less one masks what a division would leave.
use Rattle.std.proofs.Common.{◌≡◌, ◌%◌, ◌*◌, ◌-◌, ◌^◌, ◌<◌, ap, sym, subst, refl, arith, ◌∙◌, bit_and, w32}
use Rattle.std.proofs.Math.Nat.{mod-lt}
use Rattle.std.proofs.lemmas.Nat.{and_mask}
use Rattle.std.proofs.lemmas.Nat.Bits.{bit_at-trailing_zeros}
use Rattle.std.proofs.lemmas.Grind.{one_shifted}
use Rattle.go_shard.proofs.striping.Striping.shard_of.Goals.{then-self, else-self}
use Rattle.go_shard.proofs.striping.Striping.shard_of.Goals as goal

pub returns : goal.returns
returns c =
    let shards = c.self.inside.shards in
    let shift = c.self.inside.shift in
    elim c.if-self.branch [
      | then-self w ↦
          let small : shards < 4294967296 = subst (λ n. n < 4294967296) w.if-self.true (mod-lt (1 * 2 ^ shift) (omega arith)) in
          let below : shift < 32 = subst (λ n. n < 32) (sym c.self.invariant.1) (bit_at-trailing_zeros w32 shards c.self.invariant.0 small).0 in
          let power : 2 ^ shift ≡ shards = sym (one_shifted shift 4294967295 refl below).0 ∙ w.if-self.true in
          w.shard-is ∙ ap (λ n. bit_and c.args.v (n - 1)) (sym power) ∙ and_mask c.args.v shift ∙ ap (λ n. c.args.v % n) power
          ∙ ap (λ n. c.args.v % n) c.self.view_is
      | else-self w ↦ w.shard-is ∙ ap (λ n. c.args.v % n) c.self.view_is
    ]
