-- `list_pinned`: the entries of a shard's vertices can be held in words.
use Rattle.std.proofs.Common.{◌≡◌, ℕ, ◌++◌, take, subst}
use Rattle.std.specs.Prelude.{OnOk}
use Rattle.go_word.specs.Neighbours.{neighbours}
use Rattle.go_shard.proofs.EntriesLemmas.{storable_log}
use Rattle.go_shard.proofs.reading.list_pinned.Goals as goal

pub returns-clause-list : goal.returns-clause-list
returns-clause-list c = λ log more stands within words.
    subst (λ (n : ℕ). OnOk c.list_neighbours.result (c.list_neighbours.new.out.items ≡ neighbours (take n log ++ more) c.args.v)) c.pinned_front.ensures.front
    (c.list_neighbours.ensures log more stands (storable_log c.args.shard.now.vertices more c.pinned_front.ensures.few within) words)
