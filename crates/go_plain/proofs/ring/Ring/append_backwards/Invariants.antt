-- The loop of `append_backwards`.
use Rattle.std.proofs.Common.{◌≡◌, ◌≤◌, ◌++◌, length, map, reverse, take}
use Rattle.go_word.specs.Log.{entries_from}
use Rattle.go_word.specs.Word.{plain_word}
use Rattle.go_plain.specs.Ring.{latest_of}
use Rattle.go_plain.proofs.ring.Ring.append_backwards.Given as goal

-- the chain goes back
abbrev pub decreases-loop-number : goal.decreases-loop-number
decreases-loop-number l = l.number

-- the number is that of the vertex's latest entry below the slot, and the words from there on are in the list, backwards
abbrev pub invariant-loop-number : goal.invariant-loop-number
invariant-loop-number l = record {
  within : l.slot ≤ length l.self.entries;
  number : l.number ≡ latest_of l.v (take l.slot l.self.entries);
  gathered : map plain_word (entries_from l.v (take l.slot l.self.entries)) ++ reverse l.out.items
      ≡ map plain_word (entries_from l.v (take l.count l.self.entries));
}
