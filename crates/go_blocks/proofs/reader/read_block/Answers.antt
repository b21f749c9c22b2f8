-- The steps of `read_block`: the count leaves room for the words, and they make the block.
use Rattle.std.proofs.Common.{arith}
use Rattle.go_blocks.specs.Reading.{TakesWords}
use Rattle.go_blocks.proofs.FieldLemmas.{TakesCount, TakesCount-length, count_takes}
use Rattle.go_blocks.proofs.Steps.{block_takes}
use Rattle.go_blocks.proofs.reader.read_block.Goals as goal

pub split_at-requires : goal.split_at-requires
split_at-requires c =
    let takes : TakesCount c.args.rest.now c.in_ok-count.count c.in_ok-count.behind.now =
    count_takes c.args.gate c.args.rest.now _ (λ i. omega (arith, c.type_inv.rest i)) c.in_ok-count.ensures in
    omega (arith, takes.room)

pub overflow_add-gate : goal.overflow_add-gate
overflow_add-gate c =
    let takes : TakesCount c.args.rest.now c.in_ok-count.count c.in_ok-count.behind.now =
    count_takes c.args.gate c.args.rest.now _ (λ i. omega (arith, c.type_inv.rest i)) c.in_ok-count.ensures in
    omega (arith, takes.room, TakesCount-length _ _ _ takes, c.requires)

pub read_words-requires-clause-place : goal.read_words-requires-clause-place
read_words-requires-clause-place c =
    let takes : TakesCount c.args.rest.now c.in_ok-count.count c.in_ok-count.behind.now =
    count_takes c.args.gate c.args.rest.now _ (λ i. omega (arith, c.type_inv.rest i)) c.in_ok-count.ensures in
    omega (arith, takes.room, TakesCount-length _ _ _ takes, c.requires, c.split_at.ensures.front_len)

pub returns : goal.returns
returns c =
    let words : TakesWords c.args.vertices _ c.args.edges.now.items c.read_words.new.edges.items = rw c.split_at.ensures.front at c.in_ok-read_words.ensures in
    rw c.split_at.ensures.back
    (block_takes c.args.vertices c.args.gate c.in_ok-count.count c.args.rest.now c.in_ok-count.behind.now c.args.edges.now.items c.read_words.new.edges.items
    (λ i. omega (arith, c.type_inv.rest i)) c.in_ok-count.ensures words)
