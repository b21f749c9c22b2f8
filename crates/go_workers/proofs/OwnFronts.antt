-- The load of a front by the seat that moves it keeps the rule, and finds the front as the seat knows it.
use Rattle.std.proofs.Common.{◌≡◌, ℕ, true, List, sym}
use Rattle.std.specs.Prelude.{Option as Maybe}
use mathlib.Core.Option.{some}
use lib.ListN.{get_elem?}
use Rattle.atomic_table.specs.Table.{State, Step, Allows, Me}
use Rattle.go_word.specs.declared.edge.Edge.{Edge}
use Rattle.go_core.specs.Frame.{Frame, archived_in, durable_in}
use Rattle.go_rule.specs.declared.layout.Key.{Key}
use Rattle.go_rule.specs.declared.view.SeatView.{SeatView}
use Rattle.go_rule.specs.Meaning.{Meaning, IsLasting}
use Rattle.go_rule.specs.Views.{frame_of}
use Rattle.go_rule.specs.Rule.{IsRuledBy, IsRuled}
use Rattle.go_rule.proofs.Beside.{core_there}
use Rattle.go_rule.proofs.FrontLoads.{archived_allowed, durable_allowed}
use Rattle.go_workers.specs.OwnFronts.{IsOwn, LoadsOwnArchived, LoadsOwnDurable}

module _ {P : Type 0} (m : Meaning P) (laws : IsLasting m) (key : Key P) where
  module _ (s : State (Maybe P) (SeatView P)) (log : List Edge) (parts : List P) (by : IsRuledBy m key s log parts) (i : ℕ) (d : SeatView P)
      (there : get_elem? s.views i ≡ some d) where
    archived_own : d.core.archives ≡ true → IsOwn d.core.archived d.core.taken (archived_in s.words)
    archived_own role =
        let works = (by.tied.seated i d.core (core_there m laws key s log parts by i d there)).works in
        record { known_is = sym (works.archiver.knows role); taken_to = works.archiver.took role }

    durable_own : d.core.flushes ≡ true → IsOwn d.core.durable d.core.taken (durable_in s.words)
    durable_own role =
        let works = (by.tied.seated i d.core (core_there m laws key s log parts by i d there)).works in
        record { known_is = sym (works.flusher.knows role); taken_to = works.flusher.took role }

  module _ (slots id : ℕ) (me : Me (Maybe P) (SeatView P)) (live : me.0.core.live ≡ true) (step : Step (Maybe P)) (f : Frame) (picked : frame_of key ≡ f) where
    -- of the archived front
    pub own_archived_allowed : me.0.core.archives ≡ true → Allows (IsRuled m key) slots id me 1 (λ n. n) (LoadsOwnArchived m.state_of f step me)
    own_archived_allowed role s holds many there small =
        let found = archived_allowed m laws key slots id me live step f picked s holds many there small in
        (found.0, found.1, found.2, found.3, record { loads = found.4; own = archived_own s holds.log holds.parts holds.by id me.0 there role })

    -- of the durable front
    pub own_durable_allowed : me.0.core.flushes ≡ true → Allows (IsRuled m key) slots id me 2 (λ n. n) (LoadsOwnDurable f step me)
    own_durable_allowed role s holds many there small =
        let found = durable_allowed m laws key slots id me live step f picked s holds many there small in
        (found.0, found.1, found.2, found.3, record { loads = found.4; own = durable_own s holds.log holds.parts holds.by id me.0 there role })
