-- What a load of the log's length tells a seat.
use Rattle.std.proofs.Common.{◌≡◌, ℕ, ◌<◌, ◌≤◌, sym, ap, arith, subst}
use Rattle.std.specs.Prelude.{All}
use Rattle.std.proofs.lemmas.List.Elements.{All-weaker}
use Rattle.atomic_table.specs.Table.{Me, Step}
use Rattle.go_core.specs.Frame.{Frame}
use Rattle.go_core.specs.declared.entry.Entry.{Entry}
use Rattle.go_rule.specs.declared.view.SeatView.{SeatView}
use Rattle.go_rule.specs.Steps.{IsLogged, LoadsHead}
use Rattle.go_rule.specs.Views.{with_head}
use Rattle.go_live.specs.Handles.{KnowsLog}

module _ {P S : Type 0} (f : Frame) (step : Step S) (me now : Me S (SeatView P)) (n : ℕ) where
  -- the log is no shorter than what was seen, which lies between vertices of the graph
  pub knows_loaded : (seen : ℕ) → LoadsHead f step me n now → seen ≤ me.0.core.seen → KnowsLog seen now.0
  knows_loaded seen loads within =
      let upto = loads.seen in
      subst (KnowsLog seen) (sym (ap (λ z. z.0) loads.becomes))
      (record { below = loads.tells.below; head = omega arith; small = loads.small })

  -- nor than the seat's own entries go
  pub owns_loaded : LoadsHead f step me n now → All (λ (x : Entry). x.at < now.0.core.head) now.0.core.own
  owns_loaded loads =
      subst (λ (d : SeatView P). All (λ (x : Entry). x.at < d.core.head) d.core.own) (sym (ap (λ z. z.0) loads.becomes))
      (All-weaker (IsLogged n me.0.told.seen) (λ (x : Entry). x.at < n) (λ x is. is.within) me.0.core.own loads.tells.own.logged)
