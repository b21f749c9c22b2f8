-- What a row has.
use Rattle.std.proofs.Common.{◌≡◌, ◌+◌, ◌<◌, ◌≤◌, ◌^◌, length, take, subst, arith}
use Rattle.std.specs.Prelude.{IfSome}
use Rattle.go_word.specs.Neighbours.{neighbours}
use Rattle.go_api.specs.declared.limits.TheConstants.{LOG_ENTRIES}
use Rattle.go_plain.specs.FrontRows.{AreRowsOf}
use Rattle.go_plain.specs.Plain.{PlainState}
use Rattle.go_plain.specs.Seats.{total_quota}
use Rattle.go_plain.proofs.FrontRowsLemmas.{row_found, row_short}
use Rattle.go_plain.proofs.body.Body.row.Given.{Over}
use Rattle.go_plain.proofs.body.Body.row.Goals.{After-row}
use Rattle.go_plain.proofs.body.Body.row.Goals as goal

-- the neighbours of the vertex
lists : (g : Over) (c : After-row g) → IfSome c.row.result (λ row. row.now ≡ neighbours (take c.args.front c.args.self.now.log) c.args.vertex)
lists g c =
    let are = subst (λ (s : PlainState _). AreRowsOf s.log c.self.inside.rows) c.self.view_is c.self.invariant.2 in
    row_found (c.self.inside.rows.front ≡ c.args.front → length c.self.inside.rows.rows ≤ c.args.vertex) (λ row. row.now) c.args.self.now.log c.self.inside.rows c.args.front c.args.vertex c.row.result are c.row.ensures

pub returns-clause-lists : goal.returns-clause-lists
returns-clause-lists g c = lists g (goal.at.returns-clause-lists g c).After-row

pub returns-clause-short : goal.returns-clause-short
returns-clause-short g c =
    let room = subst (λ (s : PlainState _). length s.log + total_quota s.seats ≤ LOG_ENTRIES) c.self.view_is c.self.invariant.1.arranged.fits.room in
    let short : length c.args.self.now.log < 2 ^ 32 = omega (arith, room) in
    row_short (λ row. row.now) c.args.self.now.log c.args.front c.args.vertex c.row.result short (lists g (goal.at.returns-clause-short g c).After-row)
