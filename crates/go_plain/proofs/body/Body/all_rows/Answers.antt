-- One row more.
use Rattle.std.proofs.Common.{◌≡◌, ◌∙◌, ◌++◌, ◌∷◌, [], ℕ, List, length, take, ap, sym, subst, arith, length-append}
use Rattle.go_word.specs.Neighbours.{neighbours}
use Rattle.go_plain.specs.FrontRows.{AreRowsOf}
use Rattle.go_plain.proofs.FrontRowsLemmas.{rows_none, rows_more}
use Rattle.go_plain.proofs.body.Body.all_rows.Goals as goal

pub loop-vertex-init : goal.loop-vertex-init
loop-vertex-init g c = record {
  count = ap (λ (l : List (List ℕ)). length l) c.new-rows.ensures;
  are = subst (λ (l : List (List ℕ)). AreRowsOf c.args.self.now.log (record { front = c.args.front; rows = l })) (sym c.new-rows.ensures)
      (rows_none c.args.self.now.log c.args.front c.requires.within);
}

pub loop-vertex-preserved : goal.loop-vertex-preserved
loop-vertex-preserved g c =
    let log = c.args.self.now.log in
    let front = c.args.front in
    let rows : List (List ℕ) = c.loop-vertex.rows in
    let row : List ℕ = c.deref.result.now in
    let more : c.push_row.new.self ≡ rows ++ row ∷ [] = c.in_ok-push_row.ensures.ok in
    let listed = c.deref.ensures.value ∙ c.in_ok-list.ensures.lists
    ∙ ap (neighbours (take front log)) (sym c.loop-vertex.invariant.count) in
    record {
      count = omega (arith, ap (λ (l : List (List ℕ)). length l) more, length-append rows (row ∷ []), c.loop-vertex.invariant.count);
      are = subst (λ (l : List (List ℕ)). AreRowsOf log (record { front = front; rows = l })) (sym more)
          (rows_more log front rows row c.loop-vertex.invariant.are listed);
    }
