-- The loop of `add_entries`: a word more, and the end.
use Rattle.std.proofs.Common.{◌≡◌, ◌-◌, ◌∷◌, [], ◌++◌, rules, arith}
use Rattle.go_durable.proofs.Ranges.{entry_more, entries_done}
use Rattle.go_durable.proofs.run.add_entries.Goals as goal

pub loop-preserved : goal.loop-preserved
loop-preserved c =
    let pushed : c.push.new.self.items ≡ c.loop.out.items ++ c.decode.result ∷ [] = search rules in
    record {
      added = rw pushed (entry_more c.args.count c.loop.counter c.loop.out.items _ c.loop.rest.now c.split_at.result.0.now c.split_at.result.1.now
          c.read_u64.result c.decode.result
          (omega arith) c.loop.invariant.added c.split_at.ensures.front c.split_at.ensures.back c.read_u64.ensures c.decode.ensures);
      rest = omega (arith, c.loop.invariant.rest, c.split_at.ensures.back_len);
      room = grind arith;
      capacity = grind arith;
    }

pub returns-clause-added : goal.returns-clause-added
returns-clause-added c = entries_done (c.args.count - c.loop.counter) c.loop.out.items _ c.loop.rest.now (omega arith) c.loop.invariant.added
