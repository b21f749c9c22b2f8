-- What tests and benchmarks ask of a seat.
use Rattle.std.specs.Prelude.{◌≡◌, ◌⊎◌, ℕ, ◌+◌, ◌≤◌, true, length, Contains}
use Rattle.atomic_table.specs.Seated.{TableId}
use Rattle.atomic_table.specs.Table.{Me}
use Rattle.go_rule.specs.declared.view.Stand.{Stand}
use Rattle.go_rule.specs.declared.view.SeatView.{SeatView}
use Rattle.go_rule.specs.Steps.{IsAt}
use Rattle.go_rule.specs.Samples.{IsFree}

-- a seat has so much less of the quota, its lot, and the parts that it had
pub record Stays {P : Type 0} (used : ℕ) (d e : SeatView P) : Type 0 where
  pub quota : e.share.quota + used ≡ d.share.quota
  pub lot : e.share.lot ≡ d.share.lot
  pub stake : e.stake ≡ d.stake

-- a seat of the ring may put so many entries
pub record MayPut {P : Type 0} (most : ℕ) (table seat : TableId) (d : SeatView P) : Type 0 where
  pub at : IsAt table seat d
  pub quota : most ≤ d.share.quota

-- a seat moves a front, of the shard at place 0 or of the file at place 1, took all up to a position, and knows its front no further than that
pub record IsWorker {P : Type 0} (place front : ℕ) (d : SeatView P) : Type 0 where
  pub role : ((place ≡ 0) × (d.core.archives ≡ true) × (d.core.archived ≤ front)) ⊎ ((place ≡ 1) × (d.core.flushes ≡ true) × (d.core.durable ≤ front))
  pub taken : d.core.taken ≡ front
  pub seen : front ≤ length d.told.seen

-- it knows its part to have stood there, the shard at just that position
pub record HasBrought {P : Type 0} (place front : ℕ) (d : SeatView P) : Type 0 where
  pub stand : Stand
  pub there : Contains d.stake.stood stand
  pub place_is : stand.place ≡ place
  pub far : front ≤ stand.front
  pub just : place ≡ 0 → stand.front ≡ front

-- the first seat of a new ring may move both fronts, and has no part in its hand
pub record IsFresh {P S : Type 0} (me : Me S (SeatView P)) : Type 0 where
  pub archiver : IsWorker 0 0 me.0
  pub flusher : IsWorker 1 0 me.0
  pub free : IsFree me
