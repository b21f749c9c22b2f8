-- `add_words`: what was added so far, and what the words that are left add.
use Rattle.std.proofs.Common.{◌≡◌, ◌+◌, ◌-◌, ◌%◌, ◌≤◌, ◌++◌, length, vec_len, vec_capacity}
use Rattle.go_stream.specs.Spans.{entries_from}
use Rattle.go_stream.proofs.words.add_words.Given as goal

abbrev pub invariant-loop : goal.invariant-loop
invariant-loop l = record {
  added : l.out.items ++ entries_from (length l.buf) l.counter (l.to - l.counter) l.buf
      ≡ l.fn.out.items ++ entries_from (length l.buf) l.from (l.to - l.from) l.buf;
  slot : l.slot ≡ l.counter % length l.buf;
  room : vec_len l.out + (l.to - l.counter) ≤ vec_capacity l.out;
}
