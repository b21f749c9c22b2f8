-- What `compact_shards` needs, keeps and leads to.
use Rattle.std.proofs.Common.{◌≡◌, ℕ, List, length, map, refl, sym, ap, subst, ◌∙◌}
use Rattle.std.proofs.lemmas.Result.{on_ok_weaker}
use Rattle.go_plain.specs.Plain.{PlainState, IsStore}
use Rattle.go_plain.specs.Seats.{all_views}
use Rattle.go_plain.specs.Views.{IsLeast}
use Rattle.go_plain.proofs.LeastLemmas.{can_compact, least_uncut, all_cut}
use Rattle.go_plain.proofs.StandingLemmas.{plain_store, stays_store}
use Rattle.go_plain.proofs.StoreLemmas.{plain_shards}
use Rattle.go_plain.proofs.body.Body.compact_shards.Given.{Over}
use Rattle.go_plain.proofs.body.Body.compact_shards.Goals.{After-least_of-limit}
use Rattle.go_plain.proofs.body.Body.compact_shards.Goals as goal

-- the limit is the least of what was moved and of all views
limit_is : (g : Over) (c : After-least_of-limit g) → IsLeast c.self.inside.moved (all_views c.self.inside.seats.items) c.least_of-limit.result
limit_is g c =
    let fronts = c.deref-2.ensures.value ∙ c.in_ok-fronts.ensures ∙ ap all_views c.deref.ensures.value in
    subst (λ (v : List ℕ). IsLeast c.self.inside.moved v c.least_of-limit.result) fronts c.least_of-limit.ensures

pub returns-in_err-fronts-clause-stays : goal.returns-in_err-fronts-clause-stays
returns-in_err-fronts-clause-stays g c = record {
  is_store = subst (λ (s : PlainState _). IsStore g.D.Disk.device s) c.self.view_is
      (plain_store g.D.Disk.device _ c.self.inside.ring c.self.inside.shards.items c.self.invariant.1);
  sessions = refl;
}

pub compact_all-requires : goal.compact_all-requires
compact_all-requires g c =
    can_compact c.self.inside.vertices (length c.self.inside.shards.items) c.self.inside.moved c.least_of-limit.result (all_views c.self.inside.seats.items) _
    c.self.inside.shards.items c.self.invariant.1.arranged.parts (limit_is g (goal.at.compact_all-requires g c).After-least_of-limit)

pub invariant_of-self : goal.invariant_of-self
invariant_of-self g c =
    let least = limit_is g (goal.at.invariant_of-self g c).After-least_of-limit in
    let new = c.compact_all.new.shards.items in (
      c.self.invariant.0,
      plain_shards g.D.Disk.device _ c.self.inside.ring c.self.inside.shards.items c.self.invariant.1 (map (λ shard. shard.cut) new) new
          (c.compact_all.ensures.parts c.self.inside.vertices (length c.self.inside.shards.items) c.self.inside.moved (all_views c.self.inside.seats.items) _
          c.self.invariant.1.arranged.parts
          (least_uncut c.self.inside.moved c.least_of-limit.result (all_views c.self.inside.seats.items) least)),
      c.self.invariant.2,
    )

pub returns-clause-stays : goal.returns-clause-stays
returns-clause-stays g c =
    stays_store g.D.Disk.device c.args.self.now _ c.self.inside.ring c.compact_all.new.shards.items (ap (λ (s : PlainState _). length s.seats) c.self.view_is)
    (invariant_of-self g c).1

pub returns-clause-compacted : goal.returns-clause-compacted
returns-clause-compacted g c =
    let least = limit_is g (goal.at.returns-clause-compacted g c).After-least_of-limit in
    let whole = subst (λ (s : PlainState _). s.moved ≡ length s.log) (sym c.self.view_is) c.requires in
    let of_log = subst (λ (n : ℕ). IsLeast n (all_views c.self.inside.seats.items) c.least_of-limit.result) whole least in
    on_ok_weaker c.compact_all.result (λ cut. all_cut _ c.least_of-limit.result c.compact_all.new.shards.items of_log cut refl) c.compact_all.ensures.cut
