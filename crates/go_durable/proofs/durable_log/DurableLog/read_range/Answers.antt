-- `read_range`: what was read of the places is a range of the log.
use Rattle.std.proofs.Common.{◌≡◌, ◌+◌, ◌-◌, List, length, take, sym, ap, ◌∙◌, arith, subst}
use Rattle.std.specs.Prelude.{IfSome}
use Rattle.go_word.specs.declared.edge.Edge.{Edge}
use Rattle.go_blocks.specs.File.{File}
use Rattle.go_blocks.specs.declared.log_file.BlockPlace.{BlockPlace}
use Rattle.go_disk.specs.Disk.{Looks}
use Rattle.go_durable.specs.LogState.{LogState, AreInRow, entries_at}
use Rattle.go_durable.specs.Moments.{LeavesOnly}
use Rattle.go_durable.specs.Ranging.{AddsRange}
use Rattle.go_durable.specs.Runs.{gate_behind}
use Rattle.go_durable.specs.Standing.{IsLog}
use Rattle.go_durable.specs.Writing.{IsThere}
use Rattle.go_durable.proofs.Moments.{weaker}
use Rattle.go_durable.proofs.RangeSteps.{log_is_there, looked_stands, range_of_log}
use Rattle.go_durable.proofs.Standing.{log_image}
use Rattle.go_durable.proofs.durable_log.DurableLog.read_range.Given.{Over}
use Rattle.go_durable.proofs.durable_log.DurableLog.read_range.Goals.{After-read_places}
use Rattle.go_durable.proofs.durable_log.DurableLog.read_range.Goals as goal

-- the log as its fields are taken apart
stand : (g : Over) (c : After-read_places g) (log : List Edge) → IsLog g.D.Disk.device c.args.self log
    → IsLog g.D.Disk.device
    (record {
      disk = c.self.inside.disk;
      vertices = c.self.inside.vertices;
      front = c.self.inside.front;
      gate = c.self.inside.gate;
      places =
          c.deref-2.result.now;
    }) log
stand g c log is =
    subst (λ (p : List BlockPlace). IsLog g.D.Disk.device
    (record { disk = c.self.inside.disk; vertices = c.self.inside.vertices; front = c.self.inside.front; gate = c.self.inside.gate; places = p }) log)
    (sym c.deref-2.ensures.value) (subst (λ (s : LogState g.row.D.Denot). IsLog g.D.Disk.device s log) (sym c.self.view_is) is)

-- its blocks stand one behind the other
in_row : (g : Over) (c : After-read_places g) → AreInRow c.deref-2.result.now
in_row g c = subst AreInRow (sym c.deref-2.ensures.value) c.self.invariant.in_row

-- up to the closed gate all is there
there : (g : Over) (c : After-read_places g) (log : List Edge) → IsLog g.D.Disk.device c.args.self log
    → IsThere (g.D.Disk.device.contents c.self.inside.disk) (gate_behind c.deref-2.result.now)
there g c log is =
    let places_are = c.deref-2.ensures.value in
    let gate_is : c.self.inside.gate ≡ gate_behind c.deref-2.result.now =
    omega (arith, c.self.invariant.gate_is, c.self.invariant.all, ap length places_are, ap entries_at places_are) in
    subst (IsThere (g.D.Disk.device.contents c.self.inside.disk)) gate_is (log_is_there g.D.Disk.device _ log (stand g c log is))

-- the disk was only looked at
looked : (g : Over) (c : After-read_places g) → Looks g.D.Disk.device c.args.self.disk c.read_places.new.disk
looked g c =
    subst (λ (d : g.row.D.Denot). Looks g.D.Disk.device d c.read_places.new.disk) (ap (λ (s : LogState g.row.D.Denot). s.disk) c.self.view_is)
    c.read_places.ensures.looks

-- so each image is a file of the log
moments : (g : Over) (c : After-read_places g) (log : List Edge) → IsLog g.D.Disk.device c.args.self log
    → LeavesOnly g.D.Disk.device c.args.self.disk c.read_places.new.disk (File c.args.self.vertices log)
moments g c log is =
    weaker g.D.Disk.device c.args.self.disk c.read_places.new.disk (g.D.Disk.device.images c.args.self.disk) (File c.args.self.vertices log)
    (λ image is_image. log_image g.D.Disk.device c.args.self log image is is_image)
    (subst (λ (d : g.row.D.Denot). LeavesOnly g.D.Disk.device d c.read_places.new.disk (g.D.Disk.device.images d))
    (ap (λ (s : LogState g.row.D.Denot). s.disk) c.self.view_is) (c.read_places.ensures.moments (there g c log is)))

pub returns-in_default-read_places-clause-moments : goal.returns-in_default-read_places-clause-moments
returns-in_default-read_places-clause-moments g c = λ log is. moments g (goal.at.returns-in_default-read_places-clause-moments g c).After-read_places log is

pub returns-clause-moments : goal.returns-clause-moments
returns-clause-moments g c = λ log is. moments g (goal.at.returns-clause-moments g c).After-read_places log is

pub returns-clause-answer : goal.returns-clause-answer
returns-clause-answer g c =
    let at = goal.at.returns-clause-answer g c in
    let same = ap (λ (s : LogState g.row.D.Denot). record s { disk = c.read_places.new.disk }) c.self.view_is in
    record {
      same = same;
      stands = λ log is. subst (λ (s : LogState g.row.D.Denot). IsLog g.D.Disk.device s log) (sym same)
          (looked_stands g.D.Disk.device c.args.self c.read_places.new.disk log is (looked g at.After-read_places));
      contents = λ log is. (looked g at.After-read_places).contents;
      so_many = c.in-Ok-read_places.ensures.many ∙ ap (λ (l : List Edge). length l + (c.args.b - c.args.a)) c.words_with_room.ensures.same;
      front_stays = subst (λ (l : List Edge). take (length l) c.read_places.new.out.items ≡ l) c.words_with_room.ensures.same c.read_places.ensures.front;
      shown = λ log is.
          subst (λ (l : List Edge). IfSome (g.D.Disk.device.contents c.args.self.disk) (λ bytes. AddsRange log c.args.a c.args.b l c.read_places.new.out.items))
          c.words_with_room.ensures.same
          (subst (λ (d : g.row.D.Denot). IfSome (g.D.Disk.device.contents d) (λ bytes.
          AddsRange log c.args.a c.args.b c.words_with_room.new.out.items c.read_places.new.out.items))
          (ap (λ (s : LogState g.row.D.Denot). s.disk) c.self.view_is)
          (range_of_log g.D.Disk.device _ log (stand g at.After-read_places log is) (in_row g at.After-read_places) c.args.a c.args.b
          c.words_with_room.new.out.items c.read_places.new.out.items c.in-Ok-read_places.ensures.shown));
    }
