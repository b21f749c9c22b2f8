-- Each vertex is at rest, so that at the shard's own front it has all that it has.
use Rattle.std.proofs.Common.{◌≡◌, ◌++◌, ◌∙◌, List, ap, sym, subst, map, ℕ}
use Rattle.std.proofs.lemmas.Result.{on_ok_weaker}
use Rattle.go_versions.specs.History.{count_at}
use Rattle.go_shard.specs.Lane.{Lane, known}
use Rattle.go_shard.specs.ShardState.{ShardState, IsSound, counts_of}
use Rattle.go_shard.proofs.CountLemmas.{known_counts, known_small, all_told, counts_long, counts_each}
use Rattle.go_shard.proofs.store.Shard.counts_at.Goals as goal

pub returns-then-front-self-clause-counts : goal.returns-then-front-self-clause-counts
returns-then-front-self-clause-counts c =
    on_ok_weaker c.add_known.result (λ gives.
    gives
    ∙ ap (λ (lanes : List Lane). c.args.out.now.items ++ map known lanes) c.deref.ensures.value
    ∙ ap (λ (counts : List ℕ). c.args.out.now.items ++ counts) (known_counts c.self.inside.cut c.self.inside.front c.self.inside.slots.items c.self.invariant.0.rest)
    ∙ ap (λ (n : ℕ). c.args.out.now.items ++ map (λ (lane : Lane). count_at lane.versions n) c.self.inside.slots.items) (sym c.if-front-self.true)
    ∙ ap (λ (s : ShardState). c.args.out.now.items ++ counts_of s c.args.front) c.self.view_is) c.add_known.ensures
