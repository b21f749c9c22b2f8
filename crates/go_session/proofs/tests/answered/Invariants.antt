-- The loop of `answered`.
use Rattle.std.proofs.Common.{◌<◌, length}
use Rattle.std.specs.Prelude.{All}
use Rattle.go_session.specs.Session.{CanGoOn}
use Rattle.go_session.proofs.tests.answered.Given as goal

-- the session can go on over the list
abbrev pub invariant-loop : goal.invariant-loop
invariant-loop g l = CanGoOn l.loads l.session l.store × All (λ n. n < length l.loads) l.session.lists
