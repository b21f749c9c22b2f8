-- The number of the next call is the number of steps so far.
use Rattle.std.proofs.Common.{◌≡◌, [], length, refl, subst, arith}
use Rattle.std.specs.Prelude.{IsTrue, ◌↔◌}
use Rattle.go_disk.specs.MemDisk.{Tape, IsListed}
use Rattle.go_disk.specs.Recording.{steps_of, tape_of}
use Rattle.go_disk.proofs.RecordLemmas.{length-steps, listed}
use Rattle.go_disk.proofs.mem_disk.MemDisk.is_listed.Goals as goal

pub returns : goal.returns
returns c =
    let number : c.len.result ≡ length (steps_of c.self.inside) = omega (
      arith,
      c.len.ensures,
      length-steps c.self.inside.calls.items c.self.inside.written.items [],
    ) in
    subst (λ (t : Tape). IsTrue c.is_planned.result ↔ IsListed t) c.self.view_is
    (listed c.is_planned.result c.deref.result.now c.self.inside.stop c.len.result
    (tape_of c.self.inside) c.deref.ensures.value number c.is_planned.ensures refl)
