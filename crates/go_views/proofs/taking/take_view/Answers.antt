-- `take_view`: the view was gathered, or its pins were taken away again.
use Rattle.std.proofs.Common.{◌<◌, ℕ, List, length, sym, arith, subst}
use Rattle.go_core.specs.Parts.{IsShardPlace}
use Rattle.go_rule.specs.Views.{frame_of}
use Rattle.go_views.specs.Gathering.{HasGathered, IsStopped}
use Rattle.go_views.specs.Pins.{HasUnpinnedEach}
use Rattle.go_views.specs.PlaceTurns.{HasNames}
use Rattle.go_views.specs.Views.{View}
use Rattle.go_views.proofs.EachTurn.{names_pinned}
use Rattle.go_views.proofs.Taken.{taken, names_still, taken_away}
use Rattle.go_views.proofs.taking.take_view.Goals as goal

pub gather-requires-clause-named : goal.gather-requires-clause-named
gather-requires-clause-named g c =
    let ring = c.args.ring.now in
    let f = frame_of ring.table.shared.key in
    let names = c.in-Ok.names.items in
    let pinned = c.in-Ok.ensures.pinned in
    subst (λ ns. HasNames ns c.pin_each.new.seat.me.0) (sym c.deref.ensures.value)
    (names_pinned f names c.args.seat.now.me.0 c.pin_each.new.seat.me.0 ring.shards pinned.0 pinned.1.turned)

pub unpin_each-requires-clause-named : goal.unpin_each-requires-clause-named
unpin_each-requires-clause-named g c =
    let ring = c.args.ring.now in
    let t = ring.table.shared in
    let f = frame_of t.key in
    let names = c.in-Ok.names.items in
    let pinned = c.in-Ok.ensures.pinned in
    let one = c.pin_each.new.seat.me in
    let two = c.gather.new.seat.me in
    let why = c.in-Err.why in
    let shards = ring.shards_is in
    let places : (place : ℕ) → place < ring.shards → IsShardPlace f place = λ place less. omega arith in
    let stopped = subst (λ ns. IsStopped f t.table_id.slots ns why one two) c.deref.ensures.value c.in-Err.ensures.gathers in
    subst (λ ns. HasNames ns two.0) (sym c.deref-in-Err.ensures.value)
    (names_still f ring.shards places t.table_id.slots names why c.args.seat.now.me one two pinned.0 pinned.1 stopped)

pub returns-in-Ok-gather-clause-sees : goal.returns-in-Ok-gather-clause-sees
returns-in-Ok-gather-clause-sees g c = c.in-Ok-gather.ensures.gathers.long

pub returns-in-Ok-gather-clause-takes : goal.returns-in-Ok-gather-clause-takes
returns-in-Ok-gather-clause-takes g c =
    let ring = c.args.ring.now in
    let f = frame_of ring.table.shared.key in
    let names = c.in-Ok.names.items in
    let got = c.in-Ok-gather.gathered in
    let pinned = c.in-Ok.ensures.pinned in
    let one = c.pin_each.new.seat.me.0 in
    let now = c.gather.new.seat.me.0 in
    let shards = ring.shards_is in
    let places : (place : ℕ) → place < ring.shards → IsShardPlace f place = λ place less. omega arith in
    let view : List ℕ → View =
    λ ns. record { front = got.front; archived = got.archived; counts = got.counts; later = got.later; names = ns }
    in
    taken f ring.shards places c.args.floor (view names) c.args.seat.now.me.0 one now pinned.0 pinned.1
    (subst (λ ns. HasGathered f c.args.floor (view ns) one now) c.deref.ensures.value c.in-Ok-gather.ensures.gathers)

pub returns-in-Err-clause-takes : goal.returns-in-Err-clause-takes
returns-in-Err-clause-takes g c =
    let ring = c.args.ring.now in
    let t = ring.table.shared in
    let f = frame_of t.key in
    let names = c.in-Ok.names.items in
    let pinned = c.in-Ok.ensures.pinned in
    let me = c.args.seat.now.me in
    let one = c.pin_each.new.seat.me in
    let two = c.gather.new.seat.me in
    let now = c.unpin_each.new.seat.me in
    let why = c.in-Err.why in
    let shards = ring.shards_is in
    let places : (place : ℕ) → place < ring.shards → IsShardPlace f place = λ place less. omega arith in
    let stopped = subst (λ ns. IsStopped f t.table_id.slots ns why one two) c.deref.ensures.value c.in-Err.ensures.gathers in
    let unpinned = subst (λ n. HasUnpinnedEach f n names two.0 now.0) pinned.0
    (subst (λ ns. HasUnpinnedEach f (length ns) ns two.0 now.0) c.deref-in-Err.ensures.value c.unpin_each.ensures.unpinned) in
    taken_away f ring.shards places t.table_id.slots names why me one two pinned.0 pinned.1 stopped c.args.floor now unpinned
