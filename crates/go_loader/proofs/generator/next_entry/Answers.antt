-- Each eighth entry deletes what stands four before it.
use Rattle.go_loader.proofs.GeneratedLemmas.{deleted}
use Rattle.go_loader.proofs.generator.next_entry.Goals as goal

pub returns-then-place-eq7-clause-next : goal.returns-then-place-eq7-clause-next
returns-then-place-eq7-clause-next c = λ x are. deleted x c.args.v c.args.entries.now c.args.words.now _ are c.if-place-eq7.true
