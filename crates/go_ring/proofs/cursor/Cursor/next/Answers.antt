-- `next`: along a lap the cursor goes on by one.
use Rattle.go_rule.specs.Views.{frame_of}
use Rattle.go_ring.proofs.Cursors.{cursor_next}
use Rattle.go_ring.proofs.cursor.Cursor.next.Goals as goal

pub returns-then-self-gt1 : goal.returns-then-self-gt1
returns-then-self-gt1 g c = cursor_next (frame_of c.args.ring.now.table.shared.key) c.args.at c.args.self c.if-self-gt1.true c.requires.on
