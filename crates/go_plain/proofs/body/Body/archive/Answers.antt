-- What `archive` keeps and leads to.
use Rattle.std.proofs.Common.{◌≡◌, ℕ, List, length, map, sym, ap, subst, ◌∙◌}
use Rattle.std.proofs.lemmas.Result.{err_from_is_err_and}
use Rattle.go_durable.specs.Journal.{journal_front}
use Rattle.go_shard.specs.Parts.{HaveParts}
use Rattle.go_word.specs.declared.edge.Edge.{Edge}
use Rattle.go_plain.specs.FrontRows.{AreRowsOf}
use Rattle.go_plain.specs.Past.{log_of, owners_of}
use Rattle.go_plain.specs.Plain.{PlainState}
use Rattle.go_plain.specs.Ring.{RingState}
use Rattle.go_plain.specs.Seats.{all_views}
use Rattle.go_plain.proofs.ArrangedLemmas.{shards_behind, come_to}
use Rattle.go_plain.proofs.StandingLemmas.{stays_store}
use Rattle.go_plain.proofs.StoreLemmas.{plain_shards, plain_moved, moved_is, cuts_is}
use Rattle.go_plain.proofs.PastLemmas.{log_kept, owners_kept, past_more}
use Rattle.go_plain.proofs.body.Body.archive.Given.{Over}
use Rattle.go_plain.proofs.body.Body.archive.Goals.{After-catch_up}
use Rattle.go_plain.proofs.body.Body.archive.Goals as goal

-- the shards have their parts
parts : (g : Over) (c : After-catch_up g) →
    HaveParts c.self.inside.vertices (length c.self.inside.shards.items) c.self.inside.moved (all_views c.self.inside.seats.items)
    (log_of c.self.inside.found.value.items (map (λ one. one.value) c.self.inside.past.items) c.self.inside.ring) c.catch_up.new.shards.items
parts g c =
    let ring = c.self.inside.ring in
    let shards = c.self.inside.shards.items in
    let plain = c.self.invariant.1 in
    let fronts = c.deref-2.ensures.value ∙ c.in_ok-views.ensures ∙ ap all_views c.deref.ensures.value in
    let behind = shards_behind _ ring shards plain.arranged c.deref-2.result.now c.entries.result.now c.entries.ensures.exact fronts in
    subst (λ (v : List ℕ). HaveParts c.self.inside.vertices (length shards) c.self.inside.moved v
    (log_of c.self.inside.found.value.items (map (λ one. one.value) c.self.inside.past.items) ring) c.catch_up.new.shards.items) fronts
    (c.catch_up.ensures.parts _ (length shards) _ behind)

pub invariant_of-self-in_err-catch_up : goal.invariant_of-self-in_err-catch_up
invariant_of-self-in_err-catch_up g c = (
  c.self.invariant.0,
  rw c.reserve.ensures.items (plain_shards g.D.Disk.device _ c.self.inside.ring c.self.inside.shards.items c.self.invariant.1
      (map (λ shard. shard.cut) c.catch_up.new.shards.items) c.catch_up.new.shards.items
      (parts g (goal.at.invariant_of-self-in_err-catch_up g c).After-catch_up)),
  rw c.reserve.ensures.items c.self.invariant.2,
)

pub invariant_of-self-2 : goal.invariant_of-self-2
invariant_of-self-2 g c =
    let ring = c.self.inside.ring in
    let shards = c.self.inside.shards.items in
    let new = c.catch_up.new.shards.items in
    let plain = c.self.invariant.1 in
    let whole = c.head-head.ensures.exact ∙ ap (λ (s : PlainState _). length s.log) (sym c.self.view_is) in
    let come = come_to _ ring shards plain.arranged new c.entries.result.now c.head-head.result c.entries.ensures.exact whole c.in_ok-catch_up.ensures.come in
    let durable = subst (λ (s : PlainState _). journal_front s.journal ≡ length s.log) (sym c.self.view_is) c.requires in
    let past = past_more (λ one. one.value) c.self.inside.past.items c.reserve.new.self.items c.push_reserved.new.self.items c.of.result ring
    c.reserve.ensures.items c.push_reserved.ensures.items c.of.ensures in
    let more = map (λ one. one.value) c.push_reserved.new.self.items in
    let old = map (λ one. one.value) c.self.inside.past.items in (
      c.self.invariant.0,
      plain_moved g.D.Disk.device _ ring shards plain (record {
        ring = c.clear.new.self;
        log = log_of c.self.inside.found.value.items more c.clear.new.self;
        owners = owners_of more c.clear.new.self;
      }) new (map (λ shard. shard.cut) new) c.head-head.result (parts g (goal.at.invariant_of-self-2 g c).After-catch_up) come whole durable (record {
        cleared = c.clear.ensures;
        same = log_kept c.self.inside.found.value.items old more ring c.clear.new.self past c.clear.ensures;
        same_owners = owners_kept old more ring c.clear.new.self past c.clear.ensures;
      }),
      subst (λ (l : List Edge). AreRowsOf l c.self.inside.rows) (sym (log_kept c.self.inside.found.value.items old more ring c.clear.new.self past
          c.clear.ensures)) c.self.invariant.2,
    )

pub returns-clause-ok : goal.returns-clause-ok
returns-clause-ok g c =
    let ring = c.self.inside.ring in
    let past = past_more (λ one. one.value) c.self.inside.past.items c.reserve.new.self.items c.push_reserved.new.self.items c.of.result ring
    c.reserve.ensures.items c.push_reserved.ensures.items c.of.ensures in
    let more = map (λ one. one.value) c.push_reserved.new.self.items in
    let old = map (λ one. one.value) c.self.inside.past.items in
    moved_is _ c.args.self.now (log_of c.self.inside.found.value.items more c.clear.new.self) (owners_of more c.clear.new.self) c.head-head.result
    c.clear.new.self.room (map (λ shard. shard.cut) c.catch_up.new.shards.items) c.self.view_is
    (log_kept c.self.inside.found.value.items old more ring c.clear.new.self past c.clear.ensures)
    (owners_kept old more ring c.clear.new.self past c.clear.ensures) c.head-head.ensures.exact
    (ap (λ (r : RingState). r.room) c.clear.ensures)

pub returns-clause-stays : goal.returns-clause-stays
returns-clause-stays g c =
    stays_store g.D.Disk.device c.args.self.now _ c.clear.new.self c.catch_up.new.shards.items (ap (λ (s : PlainState _). length s.seats) c.self.view_is)
    (invariant_of-self-2 g c).1

pub returns-in_err-catch_up-clause-err : goal.returns-in_err-catch_up-clause-err
returns-in_err-catch_up-clause-err g c =
    let p = err_from_is_err_and c.from_residual-in_err-catch_up.result c.from_residual-in_err-catch_up.ensures.1 in
    rw (p.1, c.reserve.ensures.items) (cuts_is _ c.args.self.now (map (λ shard. shard.cut) c.catch_up.new.shards.items) c.self.view_is)

pub returns-in_err-catch_up-clause-stays : goal.returns-in_err-catch_up-clause-stays
returns-in_err-catch_up-clause-stays g c =
    stays_store g.D.Disk.device c.args.self.now _ c.self.inside.ring c.catch_up.new.shards.items (ap (λ (s : PlainState _). length s.seats) c.self.view_is)
    (invariant_of-self-in_err-catch_up g c).1

pub returns-in_err-reserve-clause-stays : goal.returns-in_err-reserve-clause-stays
returns-in_err-reserve-clause-stays g c =
    rw c.reserve.ensures.items (stays_store g.D.Disk.device c.args.self.now _ c.self.inside.ring c.self.inside.shards.items
    (ap (λ (s : PlainState _). length s.seats) c.self.view_is) c.self.invariant.1)

pub returns-in_err-views-clause-stays : goal.returns-in_err-views-clause-stays
returns-in_err-views-clause-stays g c =
    rw c.reserve.ensures.items (stays_store g.D.Disk.device c.args.self.now _ c.self.inside.ring c.self.inside.shards.items
    (ap (λ (s : PlainState _). length s.seats) c.self.view_is) c.self.invariant.1)
