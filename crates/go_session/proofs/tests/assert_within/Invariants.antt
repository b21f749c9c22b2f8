-- The loop of `assert_within`.
use Rattle.std.proofs.Common.{take}
use Rattle.std.specs.Prelude.{All}
use Rattle.go_session.proofs.WithinLemmas.{AreWithin}
use Rattle.go_session.proofs.tests.assert_within.Given as goal

-- the lists so far have vertices that are there
abbrev pub invariant-loop-list : goal.invariant-loop-list
invariant-loop-list g l = All (AreWithin l.vertices) (take l.list-index l.loads)
