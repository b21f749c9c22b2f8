-- How many rows there are.
use Rattle.std.proofs.Common.{◌≡◌, ℕ, List, length, ap, sym, ◌∙◌, arith}
use Rattle.go_rows.proofs.RowsLemmas.{rows_count}
use Rattle.go_rows.proofs.rows.Rows.len.Goals as goal

pub returns : goal.returns
returns c =
    let count = sym (rows_count 0 c.self.inside.ends.items c.self.inside.targets.items) in
    let shown = ap (λ (l : List (List ℕ)). length l) c.self.view_is in
    let ends : c.len.result ≡ length c.self.inside.ends.items = omega (arith, c.len.ensures, c.self.inside.ends.ok) in
    ends ∙ count ∙ shown
