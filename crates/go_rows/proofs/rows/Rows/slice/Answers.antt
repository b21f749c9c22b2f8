-- Where a row lies.
use Rattle.std.proofs.Common.{◌≡◌, ◌<◌, ℕ, List, [], length, get_or, ap, sym, ◌∙◌, arith}
use Rattle.std.proofs.lemmas.List.{get_or_default}
use Rattle.go_rows.specs.Rows.{start_of}
use Rattle.go_rows.proofs.RowsLemmas.{IsPart, rows_count, part_at, row_at}
use Rattle.go_rows.proofs.rows.Rows.slice.Goals.{After-deref, After-deref-2}
use Rattle.go_rows.proofs.rows.Rows.slice.Goals as goal

-- there is an end of this number
there : (c : After-deref) → c.args.number < length c.self.inside.ends.items
there c = omega (arith, c.requires, rows_count 0 c.self.inside.ends.items c.self.inside.targets.items, ap (λ (l : List (List ℕ)). length l) c.self.view_is)

pub start_in-start-requires : goal.start_in-start-requires
start_in-start-requires c = omega (arith, there c, ap (λ (l : List ℕ). length l) c.deref.ensures.value)

pub index-end-requires : goal.index-end-requires
index-end-requires c = omega (arith, there (goal.at.index-end-requires c).After-deref, c.self.inside.ends.ok)

-- where the row begins and ends
begins : (c : After-deref-2) → c.start_in-start.result ≡ start_of 0 c.self.inside.ends.items c.args.number
begins c = c.start_in-start.ensures ∙ ap (λ (l : List ℕ). start_of 0 l c.args.number) c.deref.ensures.value

ends : (c : After-deref-2) → c.index-end.result.now ≡ get_or c.self.inside.ends.items c.args.number 0
ends c = c.index-end.ensures ∙ get_or_default c.self.inside.ends.items c.args.number c.index-end.result.now 0 (there (goal.at.between-requires-clause-order c).After-deref)

part : (c : After-deref-2) → IsPart c.self.inside.ends.items 0 c.args.number (length c.self.inside.targets.items)
part c = part_at 0 c.self.inside.ends.items (length c.self.inside.targets.items) c.args.number c.self.invariant (there (goal.at.between-requires-clause-order c).After-deref)

pub between-requires-clause-order : goal.between-requires-clause-order
between-requires-clause-order c = omega (arith, begins c, ends c, (part c).order)

pub between-requires-clause-within : goal.between-requires-clause-within
between-requires-clause-within c = omega (arith, ends c, (part c).within, ap (λ (l : List ℕ). length l) c.deref-2.ensures.value)

pub returns : goal.returns
returns c =
    let at = (goal.at.returns c).After-deref-2 in
    let lies = row_at 0 c.self.inside.ends.items c.self.inside.targets.items c.args.number (there (goal.at.returns c).After-deref) in
    record {
      there = c.requires;
      is = c.between.ensures ∙ rw (begins at, ends at, c.deref-2.ensures.value) (sym lies)
          ∙ ap (λ (l : List (List ℕ)). get_or l c.args.number []) c.self.view_is;
    }
