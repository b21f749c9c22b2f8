-- What a turn of a worker comes to: the front that it moves was loaded, a run was taken from there on, and what follows left the seat as it may.
use Rattle.std.proofs.Common.{◌≡◌, ℕ, ◌+◌, ◌<◌, ◌≤◌, true, List, [], length, sym, refl, ap, ◌∙◌, inl, inr, arith, subst}
use Rattle.std.specs.Prelude.{Contains, Option as Maybe, Err}
use Rattle.atomic_table.specs.Table.{Me, Step}
use Rattle.go_word.specs.declared.edge.Edge.{Edge}
use Rattle.go_core.specs.declared.part.PartState.{PartState}
use Rattle.go_core.specs.declared.view.View.{View}
use Rattle.go_core.specs.Frame.{Frame}
use Rattle.go_core.specs.View.{raising}
use Rattle.go_disk.specs.Device.{Device}
use Rattle.go_api.specs.declared.stop.Stop.{Stop}
use Rattle.go_api.specs.declared.stop.Stop.TheVariants as stops
use Rattle.go_rule.specs.declared.view.Stand.{Stand}
use Rattle.go_rule.specs.Views.{with_raised, with_archiving, with_flushing}
use Rattle.go_piece.specs.declared.piece.Piece.{Piece}
use Rattle.go_rule.specs.declared.view.SeatView.{SeatView}
use Rattle.go_rule.specs.Steps.{CanTakeNext, CanArchiveTo, CanFlushTo, StoresArchived, StoresDurable}
use Rattle.go_ring.specs.Takes.{TakeIs, IsLongest}
use Rattle.go_turns.specs.Going.{HasGoneOn}
use Rattle.go_turns.proofs.Going.{gone_further, gone_archived, gone_durable, gone_archiving, gone_flushing}
use Rattle.go_workers.specs.declared.turn.Turn.TheVariants.{Moved}
use Rattle.go_workers.specs.OwnFronts.{LoadsOwnArchived, LoadsOwnDurable}
use Rattle.go_workers.specs.Turns.{HasRun, HasRead, HasServed, HasFiled, KnowsStood, Moves, Rests, Refused, Archives, Flushes, Stops, MayBringOn}
use Rattle.go_workers.proofs.RunsRead.{gone_run, hand_run, fronts_run, may_bring}

-- what is left of a view where its flag is raised
abbrev with_raised_rest : {P : Type 0} → SeatView P → SeatView P
with_raised_rest d = record d { core = raising 1 d.core }

module _ {P S : Type 0} (f : Frame) (room was from : ℕ) (me one two : Me S (SeatView P)) (begun : HasGoneOn f me.0 one.0) (hand : one.1 ≡ me.1) (is : from ≡ was)
    (run : List Edge) (takes : TakeIs from room run one two) where
  -- the seat has gone on until then
  gone_two : HasGoneOn f me.0 two.0
  gone_two = gone_further f me.0 one.0 two.0 begun (gone_run room from run one two f takes)

  hand_two : two.1 ≡ me.1
  hand_two = hand_run room from run one two takes ∙ hand

  ran : IsLongest f.slots room one.0 from (length run) → HasRun f room was run me two
  ran longest =
      record {
        start = one;
        begun = begun;
        takes = subst (λ n. TakeIs n room run one two) is takes;
        longest = subst (λ n. IsLongest f.slots room one.0 n (length run)) is longest;
      }

  -- it found nothing
  pub rests : (known : ℕ) → run ≡ [] → IsLongest f.slots room one.0 from (length run) → known ≡ was → Rests f room was from known me two
  rests known none longest same =
      record { ran = subst (λ r. HasRun f room was r me two) none (ran longest); front_is = (is, same); gone = gone_two; hand = hand_two }

  -- it moved the front
  pub moves : (front known : ℕ) (now : Me S (SeatView P)) → 1 ≤ length run → IsLongest f.slots room one.0 from (length run) → HasGoneOn f two.0 now.0
      → now.1 ≡ two.1 → front ≡ from + length run → known ≡ front → front ≤ now.0.core.taken → Moves f room was front known me now
  moves front known now any longest on kept upto same taken =
      record {
        run = run;
        then = two;
        ran = ran longest;
        some = any;
        front_is = (upto ∙ ap (λ n. n + length run) is, same);
        taken = taken;
        gone = gone_further f me.0 two.0 now.0 gone_two on;
        hand = kept ∙ hand_two;
      }

  -- it was refused
  pub refused : (known : ℕ) (now : Me S (SeatView P)) → HasGoneOn f two.0 now.0 → now.1 ≡ two.1 → known ≡ was → Refused f me.0 was known me now
  refused known now on kept same = record { gone = gone_further f me.0 two.0 now.0 gone_two on; front_is = same; hand = kept ∙ hand_two }

-- the archiver
module _ {P S : Type 0} (state_of : P → PartState) (f : Frame) (step : Step S) (from : ℕ) (me one : Me S (SeatView P))
    (loads : LoadsOwnArchived state_of f step me from one) where
  pub gone_own_archived : HasGoneOn f me.0 one.0
  gone_own_archived = gone_archived f step me one from state_of loads.loads

  -- may take from its front on
  pub can_take_archived : me.0.core.archives ≡ true → CanTakeNext one.0 from
  can_take_archived archives =
      let own = loads.own.taken_to in
      let known : one.0.core.archived ≡ from = ap (λ z. z.0.core.archived) loads.loads.becomes in
      let taken : one.0.core.taken ≡ me.0.core.taken = ap (λ z. z.0.core.taken) loads.loads.becomes in
      record { role = inl (ap (λ z. z.0.core.archives) loads.loads.becomes ∙ archives, omega arith); next = omega arith }

  -- and may bring shards on over what it took then
  pub may_bring_own : (room : ℕ) (run : List Edge) (two : Me S (SeatView P)) → me.0.core.archives ≡ true → me.0.core.taken ≤ me.0.core.archived + room
      → 1 ≤ length run → TakeIs from room run one two → IsLongest f.slots room one.0 from (length run) → MayBringOn from run two.0
  may_bring_own room run two archives fits any takes longest =
      let own = loads.own.known_is in
      let taken : one.0.core.taken ≡ me.0.core.taken = ap (λ z. z.0.core.taken) loads.loads.becomes in
      may_bring room from run one two any takes longest (ap (λ z. z.0.core.archives) loads.loads.becomes ∙ archives)
      (ap (λ z. z.0.core.archived) loads.loads.becomes) (omega arith)

-- the flusher may take from its front on
module _ {P S : Type 0} (f : Frame) (step : Step S) (from : ℕ) (me one : Me S (SeatView P)) (loads : LoadsOwnDurable f step me from one) where
  pub gone_own_durable : HasGoneOn f me.0 one.0
  gone_own_durable = gone_durable f step me one from loads.loads

  pub can_take_durable : me.0.core.flushes ≡ true → CanTakeNext one.0 from
  can_take_durable flushes =
      let own = loads.own.taken_to in
      let known : one.0.core.durable ≡ from = ap (λ z. z.0.core.durable) loads.loads.becomes in
      let taken : one.0.core.taken ≡ me.0.core.taken = ap (λ z. z.0.core.taken) loads.loads.becomes in
      record { role = inr (ap (λ z. z.0.core.flushes) loads.loads.becomes ∙ flushes, omega arith); next = omega arith }

module _ {P S : Type 0} (f : Frame) (shards from : ℕ) (run : List Edge) (two three : Me S (SeatView P)) (served : HasServed f two three) where
  -- once the shards are brought on, the archived front may be moved
  pub can_archive : (front : ℕ) → front ≡ from + length run → MayBringOn from run two.0 → two.0.core.archived ≡ from
      → ((place : ℕ) → place < shards → Contains three.0.stake.stood (record { place = place; front = from + length run })) → CanArchiveTo shards three.0 front
  can_archive front is may known stood =
      let archived : three.0.core.archived ≡ two.0.core.archived = ap (λ (v : View). v.archived) served.core in
      let taken : three.0.core.taken ≡ two.0.core.taken = ap (λ (v : View). v.taken) served.core in
      let took = may.read.taken in
      record {
        role = ap (λ (v : View). v.archives) served.core ∙ may.archives;
        onward = omega arith;
        taken = omega arith;
        stood = λ place less. subst (λ n. Contains three.0.stake.stood (record { place = place; front = n })) (sym is) (stood place less);
      }

  -- and once the file is, the durable one
  pub can_flush : (front : ℕ) → front ≡ from + length run → HasRead from run two.0 → two.0.core.flushes ≡ true → two.0.core.durable ≡ from
      → KnowsStood shards (from + length run) three.0 → CanFlushTo shards three.0 front
  can_flush front is read flushes known stood =
      let durable : three.0.core.durable ≡ two.0.core.durable = ap (λ (v : View). v.durable) served.core in
      let taken : three.0.core.taken ≡ two.0.core.taken = ap (λ (v : View). v.taken) served.core in
      let took = read.taken in
      let far = stood.far in
      record {
        role = ap (λ (v : View). v.flushes) served.core ∙ flushes;
        onward = omega arith;
        taken = omega arith;
        stand = stood.stand;
        stood = stood.there;
        file = stood.place_is;
        far = omega arith;
      }

-- what a raised flag is to a seat that goes on
pub raised_on : {P : Type 0} (f : Frame) (d e : SeatView P) → HasGoneOn f d e → HasGoneOn f (with_raised 1 d) (with_raised 1 e)
raised_on f d e on =
    record {
      knows =
          record {
            begins = on.knows.begins;
            seen = on.knows.seen;
            taken = on.knows.taken;
            head = on.knows.head;
            archived = on.knows.archived;
            durable = on.knows.durable;
            passed = on.knows.passed;
            flagged = λ is. refl;
          };
      rest = ap (with_raised_rest) on.rest;
      pins = on.pins;
    }

module _ {D : Type 0} (device : Device D) (f : Frame) (place upto : ℕ) (me one two three : Me (Maybe (Piece D)) (SeatView (Piece D)))
    (from room : ℕ) (run : List Edge) (begun : HasGoneOn f me.0 one.0) (hand : one.1 ≡ me.1) (takes : TakeIs from room run one two)
    (known : one.0.core.durable ≡ me.0.core.durable) where
  durable_two : two.0.core.durable ≡ me.0.core.durable
  durable_two = (fronts_run room from run one two takes).1 ∙ known

  -- a turn of the flusher was stopped
  pub turn_stops : (A : Type 0) (why : Stop) → HasFiled device f {A = A} place upto two (Err why) three → Stops device f place me why three
  turn_stops A stops.Memory filed =
      record {
        gone = gone_further f me.0 two.0 three.0 (gone_two f room from from me one two begun hand refl run takes) filed.turned.gone;
        front_is = ap (λ (v : View). v.durable) filed.core ∙ durable_two;
        hand = filed.turned.hand ∙ hand_two f room from from me one two begun hand refl run takes;
      }
  turn_stops A stops.Disk filed =
      let gone = gone_two f room from from me one two begun hand refl run takes in (
        record {
          gone = gone_further f (with_raised 1 me.0) (with_raised 1 two.0) three.0 (raised_on f me.0 two.0 gone) filed.0.turned.gone;
          front_is = ap (λ (v : View). v.durable) filed.0.core ∙ durable_two;
          hand = filed.0.turned.hand ∙ hand_two f room from from me one two begun hand refl run takes;
        },
        record {
          old = filed.1.old;
          new = filed.1.new;
          then = filed.1.then;
          went = gone_further f me.0 two.0 filed.1.then gone filed.1.went;
          taken = filed.1.taken;
          cause = filed.1.cause;
        },
      )

-- a turn of the archiver, once its shards are brought on or that was refused
module _ {P S : Type 0} (state_of : P → PartState) (f : Frame) (loading storing : Step S) (shards room from : ℕ) (run : List Edge) (me one two three : Me S (SeatView P))
    (loads : LoadsOwnArchived state_of f loading me from one) (takes : TakeIs from room run one two) (served : HasServed f two three) where
  archived_three : three.0.core.archived ≡ from
  archived_three =
      ap (λ (v : View). v.archived) served.core ∙ (fronts_run room from run one two takes).0 ∙ ap (λ z. z.0.core.archived) loads.loads.becomes

  pub archived_refused : Refused f me.0 me.0.core.archived three.0.core.archived me three
  archived_refused =
      refused f room me.0.core.archived from me one two (gone_own_archived state_of f loading from me one loads) (ap (λ z. z.1) loads.loads.becomes)
      loads.own.known_is run takes three.0.core.archived three served.turned.gone served.turned.hand (archived_three ∙ loads.own.known_is)

  pub archived_moved : (front : ℕ) (four : Me S (SeatView P)) → 1 ≤ length run → IsLongest f.slots room one.0 from (length run) → MayBringOn from run two.0
      → front ≡ from + length run → ((place : ℕ) → place < shards → Contains three.0.stake.stood (record { place = place; front = from + length run }))
      → StoresArchived storing three front four → Archives f shards room me (Moved front) four
  archived_moved front four any longest may is stood stores =
      let view : four.0 ≡ with_archiving front three.0 = ap (λ z. z.0) stores in
      let taken : four.0.core.taken ≡ two.0.core.taken = ap (λ d. d.core.taken) view ∙ ap (λ (v : View). v.taken) served.core in
      let took = may.read.taken in
      let no_more = may.no_more in
      let known = archived_three in (
        moves f room me.0.core.archived from me one two (gone_own_archived state_of f loading from me one loads) (ap (λ z. z.1) loads.loads.becomes)
            loads.own.known_is run takes front four.0.core.archived four any longest
            (gone_further f two.0 three.0 four.0 served.turned.gone (gone_archiving f storing three four front (omega arith) stores))
            (ap (λ z. z.1) stores ∙ served.turned.hand) is (ap (λ d. d.core.archived) view) (omega arith),
        omega arith,
        λ place less.
            subst (λ (xs : List Stand). Contains xs (record { place = place; front = front })) (sym (ap (λ d. d.stake.stood) view))
            (subst (λ n. Contains three.0.stake.stood (record { place = place; front = n })) (sym is) (stood place less)),
      )

-- a turn of the flusher, once its file is appended to
module _ {P S : Type 0} (f : Frame) (loading storing : Step S) (place room from : ℕ) (run : List Edge) (me one two three : Me S (SeatView P))
    (loads : LoadsOwnDurable f loading me from one) (takes : TakeIs from room run one two) (served : HasServed f two three) where
  durable_three : three.0.core.durable ≡ from
  durable_three =
      ap (λ (v : View). v.durable) served.core ∙ (fronts_run room from run one two takes).1 ∙ ap (λ z. z.0.core.durable) loads.loads.becomes

  pub durable_moved : (front : ℕ) (four : Me S (SeatView P)) → 1 ≤ length run → IsLongest f.slots room one.0 from (length run) → HasRead from run two.0
      → front ≡ from + length run → KnowsStood place (from + length run) three.0 → StoresDurable storing three front four
      → Flushes f place room me (Moved front) four
  durable_moved front four any longest read is stood stores =
      let view : four.0 ≡ with_flushing front three.0 = ap (λ z. z.0) stores in
      let taken : four.0.core.taken ≡ two.0.core.taken = ap (λ d. d.core.taken) view ∙ ap (λ (v : View). v.taken) served.core in
      let took = read.taken in
      let known = durable_three in
      let far = stood.far in (
        moves f room me.0.core.durable from me one two (gone_own_durable f loading from me one loads) (ap (λ z. z.1) loads.loads.becomes)
            loads.own.known_is run takes front four.0.core.durable four any longest
            (gone_further f two.0 three.0 four.0 served.turned.gone (gone_flushing f storing three four front (omega arith) stores))
            (ap (λ z. z.1) stores ∙ served.turned.hand) is (ap (λ d. d.core.durable) view) (omega arith),
        record {
          stand = stood.stand;
          there = subst (λ (xs : List Stand). Contains xs stood.stand) (sym (ap (λ d. d.stake.stood) view)) stood.there;
          place_is = stood.place_is;
          far = omega arith;
        },
      )
