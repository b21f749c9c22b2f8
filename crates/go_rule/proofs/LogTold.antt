-- What a load of the log's length tells of the log.
use Rattle.std.proofs.Common.{◌≡◌, ℕ, ◌≤◌, List, length, take, refl, sym, ap, ◌∙◌, arith, subst}
use Rattle.std.specs.Prelude.{All, Option as Maybe}
use Rattle.std.proofs.lemmas.List.{take-take, length-take-le}
use Rattle.std.proofs.lemmas.List.Elements.{All-weaker, All-take}
use mathlib.Core.Option.{some}
use lib.ListN.{get_elem?}
use Rattle.atomic_table.specs.Table.{State}
use Rattle.go_word.specs.declared.edge.Edge.{Edge}
use Rattle.go_core.specs.declared.entry.Entry.{Entry}
use Rattle.go_core.specs.Rule.{IsOf, AreOwn}
use Rattle.go_core.specs.View.{stands}
use Rattle.go_core.proofs.Lookups.{lookup-within}
use Rattle.go_rule.specs.declared.layout.Key.{Key}
use Rattle.go_rule.specs.declared.view.SeatView.{SeatView}
use Rattle.go_rule.specs.Meaning.{Meaning, IsLasting}
use Rattle.go_rule.specs.Views.{frame_of}
use Rattle.go_rule.specs.Rule.{IsBelow, Begins, cores}
use Rattle.go_rule.specs.Steps.{IsLogged, AreLogged, TellsLog}
use Rattle.go_rule.proofs.Lists.{lookup_take}
use Rattle.go_rule.proofs.Alone.{only_core}
use Rattle.go_rule.proofs.Beside.{IsRuledSeat, core_there}
use Rattle.go_rule.proofs.Renewals.{told_now, numbers_to}

module _ {P : Type 0} (m : Meaning P) (laws : IsLasting m) (key : Key P) (s : State (Maybe P) (SeatView P)) (log : List Edge) (parts : List P) (i : ℕ)
    (d : SeatView P) (ruled : IsRuledSeat m key s log parts i d) where
  seen_is : d.told.seen ≡ take d.core.seen log
  seen_is = (told_now m laws key s log parts i d ruled).seen_is

  seen_long : length d.told.seen ≡ d.core.seen
  seen_long = ap length seen_is ∙ length-take-le d.core.seen log (numbers_to m laws key s log parts i d ruled).1

  -- entries that are the log's stand in what was seen of it
  are_logged : (xs : List Entry) → AreOwn log (cores s.views) xs → AreLogged (length log) d.told.seen xs
  are_logged xs own =
      record {
        rising = own.rising;
        logged =
            All-weaker (IsOf log) (IsLogged (length log) d.told.seen)
            (λ x is. record {
              within = lookup-within log x.at x.edge is;
              there = λ inside.
                  subst (λ l. get_elem? l x.at ≡ some x.edge) (sym seen_is) (lookup_take d.core.seen log x.at x.edge (omega (arith, seen_long)) is);
            })
            xs own.of_log;
      }

  -- a list that begins the log, and is no longer than what was seen, begins that
  begins_seen : (xs : List Edge) → Begins log xs → length xs ≤ length d.told.seen → Begins d.told.seen xs
  begins_seen xs begins short =
      begins ∙ sym (take-take (length xs) d.core.seen log (omega (arith, seen_long))) ∙ ap (take (length xs)) (sym seen_is)

  pub tells_log : TellsLog (frame_of key) (length log) d
  tells_log =
      let owns = (ruled.by.tied.seated i d.core (core_there m laws key s log parts ruled.by i d ruled.there)).owns in
      let about = ap (λ a. a.vertices) ((ruled.by.seats i d ruled.there).about ruled.live) in
      record {
        below =
            subst (λ v. All (IsBelow v) d.told.seen) (sym about)
            (subst (All (IsBelow key.layout.vertices)) (sym seen_is) (All-take (IsBelow key.layout.vertices) d.core.seen log ruled.by.logged.below));
        heard = All-weaker (Begins log) (λ xs. length xs ≤ length d.told.seen → Begins d.told.seen xs) begins_seen d.told.heard
            (told_now m laws key s log parts i d ruled).heard;
        own = are_logged d.core.own owns.own;
        joined = All-weaker (AreOwn log (cores s.views)) (AreLogged (length log) d.told.seen) are_logged d.core.joined owns.joined;
        once = λ whole p from to.
            sym (only_core m laws key s log parts ruled.by i d ruled.there (stands p) refl whole) ∙ ruled.by.tied.stand.once p from to;
      }
