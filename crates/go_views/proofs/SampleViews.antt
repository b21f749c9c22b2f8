-- What the tests know of a seat that took, read or released views, and that their ring may be opened.
use Rattle.std.proofs.Common.{◌≡◌, ℕ, ◌<◌, List, [], length, sym, ap, ◌∙◌, arith, subst}
use Rattle.std.specs.Prelude.{IfOk, Result, Ok, Err}
use Rattle.atomic_table.specs.Seated.{TableId}
use Rattle.atomic_table.specs.Table.{Me}
use Rattle.go_api.specs.declared.stop.Stop.{Stop}
use Rattle.go_api.specs.declared.stop.Stop.TheVariants as stops
use Rattle.go_word.specs.declared.edge.Edge.{Edge}
use Rattle.go_core.specs.Frame.{Frame}
use Rattle.go_core.specs.Parts.{IsShardPlace}
use Rattle.go_disk.specs.Device.{Device}
use Rattle.go_durable.specs.LogState.{LogState}
use Rattle.go_durable.specs.Standing.{IsLog}
use Rattle.go_shard.specs.Parts.{HaveParts}
use Rattle.go_shard.specs.ShardState.{ShardState}
use Rattle.go_rule.specs.declared.layout.Key.{Key}
use Rattle.go_rule.specs.declared.view.SeatView.{SeatView}
use Rattle.go_rule.specs.Steps.{IsAt}
use Rattle.go_rule.specs.Views.{opened_of}
use Rattle.go_turns.specs.Going.{but_known, HasGoneOn}
use Rattle.go_piece.specs.declared.piece.Piece.{Piece}
use Rattle.go_piece.specs.declared.piece.Piece.TheVariants.{Log}
use Rattle.go_piece.specs.Laying.{HaveOpened}
use Rattle.go_views.specs.Samples.{AreApart}
use Rattle.go_views.specs.Taking.{Takes}
use Rattle.go_views.specs.Views.{View, IsView}
use Rattle.go_views.proofs.Staying.{view_stays_going, names_apart}

-- shards without entries and a log without entries are what a ring from position 0 on begins with
pub sample_opened : {D : Type 0} (device : Device D) (key : Key (Piece D)) (shards : List ShardState) (kept : LogState D) (edges : List Edge)
    → opened_of key ≡ edges → length edges ≡ 0 → key.first ≡ 0 → key.quota ≡ 1000
    → ((log : List Edge) → HaveParts key.layout.vertices key.layout.shards 0 [] log shards) → IsLog device kept edges
    → kept.vertices ≡ key.layout.vertices → Log kept ≡ key.file.value → HaveOpened device key shards kept
sample_opened device key shards kept edges same none first quota parts stands vertices file =
    let long : length (opened_of key) ≡ length edges = ap length same in
    record {
      room = record { long = omega arith; below = λ k d within. absurd (omega arith); few = omega arith };
      parts = subst (λ n. HaveParts key.layout.vertices key.layout.shards n [] (opened_of key) shards) (sym first) (parts (opened_of key));
      stands = subst (IsLog device kept) (sym same) stands;
      vertices = vertices;
      file = file;
    }

module _ {P : Type 0} where
  -- a seat that moved on is where it was, over as many vertices
  pub still_at : (table seat now_seat : TableId) (d e : SeatView P) → IsAt table seat d → now_seat ≡ seat → but_known e ≡ but_known d → IsAt table now_seat e
  still_at table seat now_seat d e at same rest = (same ∙ at.0, ap (λ z. z.core.live) rest ∙ at.1)

  pub still_over : (d e : SeatView P) → but_known e ≡ but_known d → e.about.vertices ≡ d.about.vertices
  still_over d e rest = ap (λ z. z.about.vertices) rest

  module _ {S : Type 0} (f : Frame) (slots floor : ℕ) (me now : Me S (SeatView P)) where
    -- whatever the taking of a view came to
    pub rest_taking : (result : Result View Stop) → Takes f slots 2 floor me result now → but_known now.0 ≡ but_known me.0
    rest_taking (Ok view) taken = taken.pins.moved.rest
    rest_taking (Err stops.Disk) flagged = flagged.on.rest
    rest_taking (Err stops.Memory) on = on.rest

    pub view_taken : (result : Result View Stop) → Takes f slots 2 floor me result now → IfOk result (λ view. IsView 2 view now.0)
    view_taken (Ok view) taken = taken.is
    view_taken (Err why) taken = tt

    pub apart_taken : (result : Result View Stop) (view : View) → Takes f slots 2 floor me result now → IsView 2 view me.0 → IfOk result (AreApart view)
    apart_taken (Ok other) view taken is = names_apart 2 view me.0 now.0 f other.names other.archived taken.pins is
    apart_taken (Err why) view taken is = tt

  -- the views of a seat stay while it goes on
  pub views_going : (f : Frame) (d e : SeatView P) → ((place : ℕ) → place < 2 → IsShardPlace f place) → HasGoneOn f d e → (view : View) → IsView 2 view d
      → IsView 2 view e
  views_going f d e shard on view is = view_stays_going 2 view d e f shard on is
