-- One row more.
use Rattle.std.proofs.Common.{◌≡◌, ◌∷◌, ◌++◌, [], ℕ, List, length, ap, ◌∙◌, arith}
use Rattle.go_rows.proofs.RowsLemmas.{one_more, ends_more}
use Rattle.go_rows.proofs.rows.Rows.push_row.Goals.{After-push_reserved}
use Rattle.go_rows.proofs.rows.Rows.push_row.Goals as goal

-- where the new row ends
ends_at : (c : After-push_reserved) → c.push_reserved.new.self.items
    ≡ c.self.inside.ends.items ++ length (c.self.inside.targets.items ++ c.args.row.now) ∷ []
ends_at c =
    let count : c.len.result ≡ length (c.self.inside.targets.items ++ c.args.row.now) = omega (
      arith,
      c.len.ensures,
      c.extend_from_slice.new.self.ok,
      ap (λ (l : List ℕ). length l) c.in_ok-extend_from_slice.ensures.items,
    ) in
    c.push_reserved.ensures.items ∙ ap (λ (l : List ℕ). l ++ c.len.result ∷ []) c.in_ok-reserve.ensures.items
    ∙ ap (λ (n : ℕ). c.self.inside.ends.items ++ n ∷ []) count

pub invariant_of-self-2 : goal.invariant_of-self-2
invariant_of-self-2 c =
    rw (ends_at (goal.at.invariant_of-self-2 c).After-push_reserved, c.in_ok-extend_from_slice.ensures.items)
    (ends_more 0 c.self.inside.ends.items c.self.inside.targets.items c.args.row.now c.self.invariant)

pub returns-clause-ok : goal.returns-clause-ok
returns-clause-ok c =
    rw (ends_at (goal.at.returns-clause-ok c).After-push_reserved, c.in_ok-extend_from_slice.ensures.items)
    (one_more 0 c.self.inside.ends.items c.self.inside.targets.items c.args.row.now c.self.invariant
    ∙ ap (λ (l : List (List ℕ)). l ++ c.args.row.now ∷ []) c.self.view_is)
