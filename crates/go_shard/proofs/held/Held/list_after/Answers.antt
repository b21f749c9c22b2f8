-- Words that only add come behind the list, one neighbour for each.
use Rattle.std.proofs.Common.{◌++◌, All, ap, sym, arith, length, ◌∙◌}
use Rattle.go_shard.specs.Compacting.{AddsOne}
use Rattle.go_shard.proofs.AddedLemmas.{added-behind, added-count}
use Rattle.go_shard.proofs.held.Held.list_after.Goals as goal

pub returns-in_ok-added-clause-list : goal.returns-in_ok-added-clause-list
returns-in_ok-added-clause-list c =
    let adds : All AddsOne c.args.words.now = c.add_only.ensures.0 c.if-add_only.true in
    ap (λ l. c.args.self.now.base ++ l) (c.in_ok-added.ensures) ∙ sym (added-behind c.args.self.now.base c.args.words.now adds)

pub returns-in_ok-added-clause-room : goal.returns-in_ok-added-clause-room
returns-in_ok-added-clause-room c = λ _.
    let adds : All AddsOne c.args.words.now = c.add_only.ensures.0 c.if-add_only.true in
    omega (arith, ap length (c.in_ok-added.ensures), added-count c.args.words.now adds, c.spare.ensures)
