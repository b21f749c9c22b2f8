-- The versions that reach the front are the first ones, and the last of them tells the count.
use Rattle.std.proofs.Common.{◌∙◌}
use Rattle.go_versions.proofs.HistoryLemmas.{count_at-none, count_at-last}
use Rattle.go_versions.proofs.versions.Versions.at.Goals as goal

pub returns-then-reached-eq0-clause-count : goal.returns-then-reached-eq0-clause-count
returns-then-reached-eq0-clause-count c =
    count_at-none c.args.front c.args.self.now.versions
    c.reached-reached.result c.reached-reached.ensures.bound c.reached-reached.ensures.parts c.if-reached-eq0.true

pub returns-else-reached-eq0-clause-count : goal.returns-else-reached-eq0-clause-count
returns-else-reached-eq0-clause-count c =
    c.count_of.ensures (record { front = 0; count = 0 })
    ∙ count_at-last c.args.front c.args.self.now.versions c.reached-reached.result (record {
      front = 0;
      count =
          0;
    }) c.reached-reached.ensures.bound c.reached-reached.ensures.parts c.if-reached-eq0.false
