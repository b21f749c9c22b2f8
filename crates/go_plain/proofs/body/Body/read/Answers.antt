-- What `read` gives.
use Rattle.std.proofs.Common.{◌≡◌, ◌≤◌, length, sym, ap, ◌∙◌, arith}
use Rattle.go_plain.specs.Plain.{PlainState, AddsLog}
use Rattle.go_plain.proofs.ReadingLemmas.{adds_none, has_read, has_read_all}
use Rattle.go_plain.proofs.body.Body.read.Goals.{then-from-middle+in_default-read_file, else-from-middle}
use Rattle.go_plain.proofs.body.Body.read.Goals as goal

pub returns-in-Ok-read_ring-clause-reads : goal.returns-in-Ok-read_ring-clause-reads
returns-in-Ok-read_ring-clause-reads g c =
    let store = c.if-from-middle.self in
    let middle = c.min-middle.result in
    let none = c.reserve.ensures.items ∙ c.clear.ensures.items in
    elim c.if-from-middle.branch [
      | then-from-middle+in_default-read_file w ↦
          let long : length store.log ≡ length c.args.self.now.log = ap (λ (s : PlainState _). length s.log) (w.self-is ∙ w.read_file.ensures.only.same) in
          let adds : AddsLog g.D.Disk.device store c.args.from middle c.reserve.new.self.items c.if-from-middle.out.items =
          rw (w.self-is, w.out-is) w.in_default-read_file.ensures.adds in
          has_read g.D.Disk.device store c.args.from middle c.args.to c.reserve.new.self.items c.if-from-middle.out.items c.read_ring.new.out.items none
          (omega (arith, w.if-from-middle.true)) (omega (arith, c.if-middle-to.true))
          (omega (arith, c.requires.within, long)) adds c.in-Ok-read_ring.ensures.adds
      | else-from-middle w ↦
          let long : length store.log ≡ length c.args.self.now.log = ap (λ (s : PlainState _). length s.log) w.self-is in
          let same : c.args.from ≡ middle = omega (arith, w.if-from-middle.false, c.min-middle.ensures, c.max.ensures, c.requires.order) in
          let adds : AddsLog g.D.Disk.device store c.args.from middle c.reserve.new.self.items c.if-from-middle.out.items =
          rw w.out-is (adds_none g.D.Disk.device store c.args.from middle c.reserve.new.self.items same) in
          has_read g.D.Disk.device store c.args.from middle c.args.to c.reserve.new.self.items c.if-from-middle.out.items c.read_ring.new.out.items none
          (omega (arith, same)) (omega (arith, c.if-middle-to.true)) (omega (arith, c.requires.within, long)) adds c.in-Ok-read_ring.ensures.adds
    ]

pub returns-else-middle-to-clause-reads : goal.returns-else-middle-to-clause-reads
returns-else-middle-to-clause-reads g c =
    let store = c.if-from-middle.self in
    let middle = c.min-middle.result in
    let none = c.reserve.ensures.items ∙ c.clear.ensures.items in
    let whole : middle ≡ c.args.to = omega (arith, c.if-middle-to.false, c.min-middle.ensures) in
    elim c.if-from-middle.branch [
      | then-from-middle+in_default-read_file w ↦
          let adds : AddsLog g.D.Disk.device store c.args.from middle c.reserve.new.self.items c.if-from-middle.out.items =
          rw (w.self-is, w.out-is) w.in_default-read_file.ensures.adds in
          has_read_all g.D.Disk.device store c.args.from middle c.args.to c.reserve.new.self.items c.if-from-middle.out.items none whole adds
      | else-from-middle w ↦
          let same : c.args.from ≡ middle = omega (arith, w.if-from-middle.false, c.min-middle.ensures, c.max.ensures, c.requires.order) in
          let adds : AddsLog g.D.Disk.device store c.args.from middle c.reserve.new.self.items c.if-from-middle.out.items =
          rw w.out-is (adds_none g.D.Disk.device store c.args.from middle c.reserve.new.self.items same) in
          has_read_all g.D.Disk.device store c.args.from middle c.args.to c.reserve.new.self.items c.if-from-middle.out.items none whole adds
    ]
