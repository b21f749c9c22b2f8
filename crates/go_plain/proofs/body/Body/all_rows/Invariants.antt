-- The loop of `all_rows`.
use Rattle.std.proofs.Common.{◌≡◌, length}
use Rattle.go_plain.specs.FrontRows.{AreRowsOf}
use Rattle.go_plain.proofs.body.Body.all_rows.Given as goal

-- the rows so far
abbrev pub invariant-loop-vertex : goal.invariant-loop-vertex
invariant-loop-vertex g l = record {
  count : length l.rows ≡ l.vertex;
  are : AreRowsOf l.self.log (record { front = l.front; rows = l.rows });
}
