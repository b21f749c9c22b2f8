-- The loop of `write_words`.
use Rattle.std.proofs.Common.{◌≡◌, ◌<◌, ◌+◌, ◌*◌, ◌++◌, length, take, vec_len, vec_capacity}
use Rattle.std.specs.List.{flat_map}
use Rattle.go_blocks.specs.File.{word_bytes}
use Rattle.go_blocks.proofs.writer.write_words.Given as goal

-- the words so far stand behind what was there, and there is room for the others
abbrev pub invariant-loop-edge : goal.invariant-loop-edge
invariant-loop-edge l = record {
  written : l.out.items ≡ l.fn.out.items ++ flat_map word_bytes (take l.edge-index l.edges);
  so_many : vec_len l.out ≡ vec_len l.fn.out + 8 * l.edge-index;
  room : vec_len l.fn.out + 8 * length l.edges < vec_capacity l.out;
}
