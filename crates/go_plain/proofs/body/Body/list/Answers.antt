-- What `list` needs and gives.
use Rattle.std.proofs.Common.{◌≡◌, ◌+◌, ◌-◌, ◌%◌, ◌++◌, ◌<◌, ◌≤◌, ◌^◌, List, length, take, drop, map, sym, ap, subst, ◌∙◌, arith}
use Rattle.std.specs.Prelude.{All, Contains, OnOk}
use Rattle.std.proofs.lemmas.Result.{on_ok_weaker}
use Rattle.std.proofs.lemmas.List.Elements.{All-take, All-drop}
use Rattle.go_word.specs.declared.edge.Edge.{Edge}
use Rattle.go_word.specs.Log.{IsWithin}
use Rattle.go_word.specs.Neighbours.{neighbours}
use Rattle.go_api.specs.declared.limits.TheConstants.{LOG_ENTRIES}
use Rattle.go_shard.proofs.ReadingLemmas.{settled_kept, settled_uncut, front_parts}
use Rattle.go_plain.specs.Past.{log_of}
use Rattle.go_plain.specs.Plain.{PlainState}
use Rattle.go_plain.specs.Seats.{all_views, total_quota}
use Rattle.go_plain.proofs.ArrangedLemmas.{storable, shard_part}
use Rattle.go_plain.proofs.ShortLemmas.{neighbours_short}
use Rattle.go_plain.proofs.body.Body.list.Given.{Over}
use Rattle.go_plain.proofs.body.Body.list.Goals.{After-list_neighbours}
use Rattle.go_plain.proofs.body.Body.list.Goals as goal

pub list_neighbours-requires-clause-kept : goal.list_neighbours-requires-clause-kept
list_neighbours-requires-clause-kept g c =
    let plain = c.self.invariant.1 in
    let shards = c.self.inside.shards.items in
    let count : c.len.result ≡ length shards = omega (arith, c.len.ensures, c.self.inside.shards.ok) in
    let part = shard_part _ c.self.inside.ring shards plain.arranged c.args.vertex c.len.result c.index-shard.result.now count c.index-shard.ensures in
    let view = subst (λ (s : PlainState _). Contains (all_views s.seats) c.args.front) (sym c.self.view_is) c.requires.viewed.among in
    settled_kept _ (length shards) (c.args.vertex % c.len.result) c.self.inside.moved c.args.front c.min-settled.result
    (all_views c.self.inside.seats.items) _ c.index-shard.result.now part c.min-settled.ensures view

pub list_neighbours-requires-clause-uncut : goal.list_neighbours-requires-clause-uncut
list_neighbours-requires-clause-uncut g c =
    let plain = c.self.invariant.1 in
    let shards = c.self.inside.shards.items in
    let count : c.len.result ≡ length shards = omega (arith, c.len.ensures, c.self.inside.shards.ok) in
    let part = shard_part _ c.self.inside.ring shards plain.arranged c.args.vertex c.len.result c.index-shard.result.now count c.index-shard.ensures in
    let view = subst (λ (s : PlainState _). Contains (all_views s.seats) c.args.front) (sym c.self.view_is) c.requires.viewed.among in
    settled_uncut _ (length shards) (c.args.vertex % c.len.result) c.self.inside.moved c.args.front c.min-settled.result
    (all_views c.self.inside.seats.items) _ c.index-shard.result.now part c.min-settled.ensures view

-- what was listed
told : (g : Over) (c : After-list_neighbours g) →
    OnOk c.list_neighbours.result (c.list_neighbours.new.out.items ≡ neighbours (take c.args.front c.args.self.now.log) c.args.vertex)
told g c =
    let plain = c.self.invariant.1 in
    let ring = c.self.inside.ring in
    let shards = c.self.inside.shards.items in
    let count : c.len.result ≡ length shards = omega (arith, c.len.ensures, c.self.inside.shards.ok) in
    let shard = c.index-shard.result.now in
    let part = shard_part _ ring shards plain.arranged c.args.vertex c.len.result shard count c.index-shard.ensures in
    let front = c.args.front in
    let settled = c.min-settled.result in
    let moved = c.self.inside.moved in
    let log = log_of c.self.inside.found.value.items (map (λ one. one.value) c.self.inside.past.items) ring in
    let more : List Edge = take (front - settled) ring.entries in
    let ids = subst (λ (l : List Edge). All (IsWithin c.self.inside.vertices) (take (front - settled) l)) (sym plain.arranged.pending.entries)
    (All-take (IsWithin c.self.inside.vertices) (front - settled) (drop moved log)
    (All-drop (IsWithin c.self.inside.vertices) moved log plain.arranged.fits.ids)) in
    let words = c.deref.ensures.value ∙ c.in_ok-words_from.ensures in
    let within = subst (λ (s : PlainState _). front ≤ length s.log) (sym c.self.view_is) c.requires.viewed.within in
    let parts = ap (λ (l : List Edge). take settled (take shard.front log) ++ take (front - settled) l) plain.arranged.pending.entries
    ∙ front_parts moved front settled shard.front log c.min-settled.ensures part.begun within in
    on_ok_weaker c.list_neighbours.result (λ gives.
    gives ∙ ap (λ (l : List Edge). neighbours l c.args.vertex) parts ∙ ap (λ (s : PlainState _). neighbours (take front s.log) c.args.vertex) c.self.view_is)
    (c.list_neighbours.ensures (take shard.front log) more part.stands (storable c.self.inside.vertices more plain.arranged.fits.vertex_count ids) words)

pub returns-clause-lists : goal.returns-clause-lists
returns-clause-lists g c = told g (goal.at.returns-clause-lists g c).After-list_neighbours

pub returns-clause-short : goal.returns-clause-short
returns-clause-short g c =
    let room = subst (λ (s : PlainState _). length s.log + total_quota s.seats ≤ LOG_ENTRIES) c.self.view_is c.self.invariant.1.arranged.fits.room in
    let short : length c.args.self.now.log < 2 ^ 32 = omega (arith, room) in
    on_ok_weaker c.list_neighbours.result (λ is.
    rw is (neighbours_short c.args.self.now.log c.args.front c.args.vertex short)) (told g (goal.at.returns-clause-short g c).After-list_neighbours)
