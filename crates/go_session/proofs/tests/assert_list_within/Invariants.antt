-- The loop of `assert_list_within`.
use Rattle.std.proofs.Common.{take}
use Rattle.std.specs.Prelude.{All}
use Rattle.go_word.specs.Log.{IsWithin}
use Rattle.go_session.proofs.tests.assert_list_within.Given as goal

-- the entries so far have vertices that are there
abbrev pub invariant-loop-edge : goal.invariant-loop-edge
invariant-loop-edge g l = All (IsWithin l.vertices) (take l.edge-index l.edges)
