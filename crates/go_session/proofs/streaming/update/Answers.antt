-- What is left where the store stops.
use Rattle.std.proofs.Common.{[]}
use Rattle.go_session.proofs.BrokenLemmas.{onward_broken, memory_tells}
use Rattle.go_session.proofs.streaming.update.Goals as goal

pub returns-in_default-clause-answers : goal.returns-in_default-clause-answers
returns-in_default-clause-answers g c =
    let holds = c.in_ok-span.ensures.updates.holds in
    let after = g.S.Store.stands c.update.new.self in
    onward_broken [] _ (g.S.Store.stands c.args.store.now) after holds.onward holds.puts.same_own holds.puts.same_edges (memory_tells after)
