-- The loop of `entries_in`.
use Rattle.std.proofs.Common.{◌≡◌, take}
use Rattle.go_script.specs.Commands.{commands_of}
use Rattle.go_script.specs.Until.{loads_in}
use Rattle.go_session.specs.Asked.{asked_with, lists_of}
use Rattle.go_session.proofs.QuotaLemmas.{CountsOn}
use Rattle.go_session.proofs.quota.entries_in.Given as goal

-- what was counted, and what the commands from here on put, are all
abbrev pub invariant-loop-i : goal.invariant-loop-i
invariant-loop-i l =
    CountsOn (asked_with (commands_of l.script) (lists_of l.loads l.lists)) l.from l.i l.count
    × (l.next ≡ loads_in (take l.i (commands_of l.script)))
