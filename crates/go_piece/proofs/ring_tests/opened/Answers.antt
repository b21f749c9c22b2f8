-- `opened`: the pieces are as a ring wants them.
use Rattle.std.proofs.Common.{◌≡◌, [], length, refl, sym, ap, arith, subst}
use Rattle.go_disk.specs.MemDisk.{Tape, mem_device}
use Rattle.go_durable.specs.LogState.{OpenedLog}
use Rattle.go_piece.proofs.RingSamples.{sample_opened}
use Rattle.go_piece.proofs.ring_tests.opened.Goals as goal

pub lay_out-slots-requires-clause-room : goal.lay_out-slots-requires-clause-room
lay_out-slots-requires-clause-room c = omega (arith, (c.in_ok-shards.ensures []).count, c.in_ok-shards.shards.ok, c.in_ok-with_capacity.ensures.capacity)

pub open-requires-clause-parts : goal.open-requires-clause-parts
open-requires-clause-parts c =
    let vertices = subst (λ (f : OpenedLog Tape). f.log.vertices ≡ 8) (sym c.log.view_is) c.in-Ok.ensures.log.vertices_are in
    let none : length c.log.inside.edges.items ≡ 0 = omega (arith, c.if-len-ne0.false, c.len.ensures, c.log.inside.edges.ok) in
    c.lay_out-slots.ensures.opens _ c.log.inside.log
    (sample_opened mem_device _ c.in_ok-shards.shards.items c.log.inside.log c.log.inside.edges.items (ap (λ v. v.items) c.of.ensures) none refl refl
    c.in_ok-shards.ensures c.log.invariant.stands vertices (sym c.of-2.ensures))
    refl
