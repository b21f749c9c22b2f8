-- The loop of `find_all`.
use Rattle.std.proofs.Common.{◌≤◌, Option, length, option_copied}
use Rattle.go_run.specs.Found.{Kept, nothing_kept, Reads}
use Rattle.go_run.specs.declared.limits.TheConstants.{SCRIPTS}
use Rattle.go_run.proofs.words.find_all.Given as goal

-- what reading the words that are left leads to is what reading all of them leads to, and there are no more files than there may be
abbrev pub invariant-loop-word : goal.invariant-loop-word
invariant-loop-word l = record {
  leads : (answer : Option Kept) →
      Reads (record {
        vertices = option_copied l.found.0;
        ring = option_copied l.found.1.0;
        shards = option_copied l.found.1.1.0;
        log = option_copied l.found.1.1.1.0;
        edges = option_copied l.found.1.1.1.1.0;
        seed = option_copied l.found.1.1.1.1.1.0;
        files = l.found.1.1.1.1.1.1.0;
      }) l.left answer → Reads nothing_kept l.words answer;
  few : length l.found.1.1.1.1.1.1.0 ≤ SCRIPTS;
}

abbrev pub decreases-loop-word : goal.decreases-loop-word
decreases-loop-word l = length l.left
