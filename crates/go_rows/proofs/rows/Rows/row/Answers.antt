-- Where a row is there, and where it isn't.
use Rattle.std.proofs.Common.{ℕ, List, length, ap, arith}
use Rattle.go_rows.proofs.RowsLemmas.{rows_count}
use Rattle.go_rows.proofs.rows.Rows.row.Goals as goal

pub slice-requires : goal.slice-requires
slice-requires c =
    let count = rows_count 0 c.self.inside.ends.items c.self.inside.targets.items in
    let shown = ap (λ (l : List (List ℕ)). length l) c.self.view_is in
    omega (arith, c.if-number-len.true, c.len.ensures, c.self.inside.ends.ok, count, shown)

pub returns-else-number-len : goal.returns-else-number-len
returns-else-number-len c =
    let count = rows_count 0 c.self.inside.ends.items c.self.inside.targets.items in
    let shown = ap (λ (l : List (List ℕ)). length l) c.self.view_is in
    omega (arith, c.if-number-len.false, c.len.ensures, c.self.inside.ends.ok, count, shown)
