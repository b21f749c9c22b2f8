-- The loop of `add_entries`.
use Rattle.std.proofs.Common.{◌≡◌, ◌+◌, ◌-◌, ◌*◌, ◌≤◌, ◌++◌, length, vec_len, vec_capacity}
use Rattle.go_durable.specs.Ranging.{entries_in}
use Rattle.go_durable.proofs.run.add_entries.Given as goal

-- what was added so far, and what the rest adds
abbrev pub invariant-loop : goal.invariant-loop
invariant-loop l = record {
  added : l.out.items ++ entries_in (l.count - l.counter) l.rest ≡ l.fn.out.items ++ entries_in l.count l.words;
  rest : length l.rest ≡ 8 * (l.count - l.counter);
  room : vec_len l.out + (l.count - l.counter) ≤ vec_capacity l.out;
  capacity : vec_capacity l.fn.out ≤ vec_capacity l.out;
}
