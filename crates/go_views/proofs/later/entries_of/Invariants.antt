-- `entries_of`: what was decoded so far, and behind it what is left, are the entries of all positions.
use Rattle.std.proofs.Common.{◌≡◌, ◌+◌, ◌-◌, ◌%◌, ◌≤◌, ◌++◌, length, vec_len, vec_capacity}
use Rattle.go_views.specs.Copying.{entries_at}
use Rattle.go_views.proofs.later.entries_of.Given as goal

abbrev pub invariant-loop : goal.invariant-loop
invariant-loop l = record {
  whole : l.entries.items ++ entries_at (length l.buf) l.buf l.counter (l.to - l.counter) ≡ entries_at (length l.buf) l.buf l.from (l.to - l.from);
  slot : l.slot ≡ l.counter % length l.buf;
  room : vec_len l.entries + (l.to - l.counter) ≤ vec_capacity l.entries;
}
