-- What a new store keeps.
use Rattle.std.proofs.Common.{◌≡◌, List, [], length, refl, sym, ap, subst, arith}
use Rattle.std.proofs.lemmas.List.{append-nil}
use Rattle.go_word.specs.declared.edge.Edge.{Edge}
use Rattle.go_durable.specs.LogState.{OpenedLog}
use Rattle.go_shard.specs.Parts.{HaveParts}
use Rattle.go_plain.specs.Plain.{AreQuotas}
use Rattle.go_plain.specs.Ring.{RingState}
use Rattle.go_plain.proofs.FrontRowsLemmas.{rows_new}
use Rattle.go_plain.proofs.NewLemmas.{plain_new}
use Rattle.go_plain.proofs.store.PlainStore.new.Goals as goal

pub invariant_of-body : goal.invariant_of-body
invariant_of-body g c =
    let found : OpenedLog g.row.D.Denot = record { log = c.opened.inside.log; edges = c.opened.inside.edges.items } in
    let same = subst (λ (o : OpenedLog g.row.D.Denot). o.log.vertices ≡ c.args.setup.vertices) (sym c.opened.view_is) c.requires.vertices in
    let given = subst (λ (o : OpenedLog g.row.D.Denot). AreQuotas (length o.edges) c.args.quotas.now) (sym c.opened.view_is) c.requires.quotas in
    let parts = subst (λ (l : List Edge). HaveParts c.args.setup.vertices (length c.in-Ok.shards.items) (length l) [] l c.in-Ok.shards.items)
    c.deref.ensures.value c.in-Ok.ensures.parts in
    let first : c.len-2.result ≡ length c.opened.inside.edges.items = omega (arith, c.len-2.ensures, c.opened.inside.edges.ok) in
    let moved : c.len-3.result ≡ length c.opened.inside.edges.items = omega (arith, c.len-3.ensures, c.opened.inside.edges.ok) in
    let seen : c.len.result ≡ length c.opened.inside.edges.items = omega (arith, c.len.ensures, c.opened.inside.edges.ok) in
    let ring : RingState = record { entries = []; owners = []; room = c.args.setup.ring; vertices = c.opened.inside.log.vertices } in
    let plain = plain_new g.D.Disk.device g.met.D.Disk.rules found c.args.setup c.args.quotas.now ring c.in-Ok.shards.items c.opened.invariant
    c.requires.setup same given parts (ap (λ v. record ring { vertices = v }) same) in (
      refl,
      rw (
        c.of.ensures,
        c.of-2.ensures,
        c.new-2.ensures.items,
        c.in-Ok-new_seats.ensures,
        c.in-Ok.ensures.cuts,
        first,
        moved,
        seen,
        c.in-Ok-new.ensures,
        append-nil c.opened.inside.edges.items,
        sym same,
      ) plain,
      rows_new _ c.new-3.result c.new-3.ensures,
    )
