-- A list that is turned by some places and cut off there has lost its front.
use Rattle.std.proofs.Common.{◌≡◌, ◌≤◌, ◌-◌, length, arith}
use Rattle.std.proofs.lemmas.Grind.{common_steps}
use Rattle.go_versions.proofs.HistoryLemmas.{turned_and_cut}
use Rattle.go_versions.proofs.versions.drop_front.Goals as goal

pub returns-clause-items : goal.returns-clause-items
returns-clause-items c =
    let counted : c.len.result ≡ length c.args.noted.now.items = grind (arith, common_steps) in
    let short : c.args.count ≤ length c.args.noted.now.items = grind (arith, common_steps) in
    turned_and_cut c.args.noted.now.items c.rotate_left.new.self.items c.truncate.new.self.items c.args.count
    (c.len.result - c.args.count) short c.rotate_left.ensures.items c.truncate.ensures.items (omega (arith, counted))
