-- A step of one seat after which its view has another core and was told otherwise, and all that it has of the parts, its quota and its lot stay.
use Rattle.std.proofs.Common.{◌≡◌, ℕ, ◌+◌, ◌-◌, ◌^◌, ◌<◌, ◌≤◌, true, List, [], length, set, take, sym, refl, ◌∙◌, ⊎_elim, arith, subst, ap, append-nil}
use Rattle.std.specs.Prelude.{Some, slice_get, slice_index, max, Option as Maybe}
use Rattle.std.proofs.lemmas.Bool.{cases_eq}
use Rattle.std.proofs.lemmas.List.{set-get_or, length-take-le, take-take}
use Rattle.std.proofs.lemmas.List.Elements.{All-nil}
use Rattle.atomic_table.specs.Table.{State}
use Rattle.go_word.specs.declared.edge.Edge.{Edge}
use Rattle.go_core.specs.declared.view.View.{View}
use Rattle.go_core.specs.Frame.{archived_in, durable_in, flag_in, released}
use Rattle.go_core.specs.View.{unfilled}
use Rattle.go_core.specs.Rule.{IsWritten, TiedBy}
use Rattle.go_core.specs.Parts.{IsShardPlace}
use Rattle.go_core.proofs.Moved.{written_inside}
use Rattle.go_core.proofs.Loads.{still_live}
use Rattle.go_core.proofs.Parted.{GoesOn, written_less}
use Rattle.go_rule.specs.declared.layout.Key.{Key}
use Rattle.go_rule.specs.declared.view.Told.{Told}
use Rattle.go_rule.specs.declared.view.SeatView.{SeatView}
use Rattle.go_rule.specs.Meaning.{Meaning, IsLasting}
use Rattle.go_rule.specs.Views.{frame_of}
use Rattle.go_rule.specs.Rule.{IsBelow, cores, IsTold, IsSeat}
use Rattle.go_rule.specs.Steps.{SeesOn}
use Rattle.go_rule.proofs.Beside.{IsRuledSeat, Rises, core_there, seen_within, NewFronts, Beside}

-- what was seen goes on
pub sees_on : (log told : List Edge) (seen front : ℕ) → told ≡ take seen log → seen ≤ length log → front ≤ length log →
    SeesOn told (take (max seen front) log) seen front
sees_on log told seen front is within to =
    let long : length told ≡ seen = ap length is ∙ length-take-le seen log within in
    record {
      begins = is ∙ sym (take-take seen (max seen front) log (omega arith)) ∙ ap (λ n. take n (take (max seen front) log)) (sym long);
      up_to = length-take-le (max seen front) log (omega arith);
    }

module _ {P : Type 0} (m : Meaning P) (laws : IsLasting m) (key : Key P) where
  module _ (s : State (Maybe P) (SeatView P)) (log : List Edge) (parts : List P) (i : ℕ) (d : SeatView P) (ruled : IsRuledSeat m key s log parts i d) where
    -- the fronts stand still
    pub fronts_still : (words' : List ℕ) → archived_in words' ≡ archived_in s.words → durable_in words' ≡ durable_in s.words → flag_in words' ≡ flag_in s.words
        → NewFronts m laws key s log parts ruled.by i d ruled.there words'
    fronts_still words' archived durable flag =
        record {
          rises = record { archived = omega arith; durable = omega arith; flag = λ raised. omega arith };
          shards = λ place part at_place shard. subst (λ n. n ≤ (m.state_of part).front) (sym archived)
              (ruled.by.held.of.shards place part at_place shard).archived_to;
          kept = λ place part at_place shard. subst (m.keeps part) (sym archived) (ruled.by.held.kept place part at_place shard);
          file = λ place part at_place file. subst (λ n. n ≤ (m.state_of part).front) (sym durable) (ruled.by.held.of.file place part at_place file);
        }

    -- each shard that isn't cut off there tells of an archived front
    abbrev pub Kept : ℕ → Type 0
    Kept archived = (place : ℕ) (part : P) → slice_get parts place ≡ Some part → IsShardPlace (frame_of key) place → (m.state_of part).cut ≤ archived
        → m.keeps part archived

    -- the core and what was told after a step over the words that are then
    pub record Renewed (core : View) (now : Told) (words' : List ℕ) : Type 0 where
      pub lives : core.live ≡ true
      pub tied : TiedBy (frame_of key) log words' (set (cores s.views) i core)
      pub less : (p : ℕ) → unfilled p core ≤ unfilled p d.core
      pub goes_on : GoesOn d.core core
      pub told : IsTold log words' core.seen now
      pub kept : Kept core.archived

    -- the step keeps the rule, where no turn was written and no front rose too far
    pub renewed_beside : (core : View) (told : Told) (words' : List ℕ) → Renewed core told words'
        → ((place : ℕ) → place ≤ key.layout.shards → slice_index words' (4 + place) ≡ slice_index s.words (4 + place))
        → NewFronts m laws key s log parts ruled.by i d ruled.there words'
        → Beside m laws key s log parts ruled.by i d ruled.there (record d { core = core; told = told }) words' []
    renewed_beside core told words' r turns fronts =
        let nothing = append-nil log in
        let w : SeatView P = record d { core = core; told = told } in
        let seat = ruled.by.seats i d ruled.there in
        record {
          tied = subst (λ l. TiedBy (frame_of key) l words' (set (cores s.views) i core)) (sym nothing) r.tied;
          below = All-nil (IsBelow key.layout.vertices);
          written = λ p old.
              subst (λ l. IsWritten l (set (cores s.views) i core) p) (sym nothing)
              (written_less log log (cores s.views) i d.core core (core_there m laws key s log parts ruled.by i d ruled.there) (omega arith)
              (λ q within. r.less q) p old);
          turns = turns;
          fronts = fronts;
          goes_on = r.goes_on;
          seat = subst (λ l. IsSeat m key l words' parts w) (sym nothing)
              (record {
                ended = λ dead. still_live core _ r.lives dead;
                about = λ _. seat.about ruled.live;
                told = r.told;
                lot = λ _. seat.lot ruled.live;
                kept = λ _. r.kept;
                noted = seat.noted;
                stood = seat.stood;
              });
          same = record { notes = refl; pins = refl; quota = omega arith; lot = refl };
        }

    -- a step that writes no word
    pub read_beside : (k : ℕ) (core : View) (told : Told) → Renewed core told s.words
        → Beside m laws key s log parts ruled.by i d ruled.there (record d { core = core; told = told }) (set s.words k (slice_index s.words k)) []
    read_beside k core told r =
        subst (λ ws. Beside m laws key s log parts ruled.by i d ruled.there (record d { core = core; told = told }) ws []) (sym (set-get_or s.words k 0))
        (renewed_beside core told s.words r (λ place within. refl) (fronts_still s.words refl refl refl))

    -- the archived front that it knew, the shards tell of
    pub old_kept : Kept d.core.archived
    old_kept = (ruled.by.seats i d ruled.there).kept ruled.live

    -- what it was told so far
    pub told_now : IsTold log s.words d.core.seen d.told
    told_now = (ruled.by.seats i d ruled.there).told

    -- it lasts, where no front fell and a raised flag stayed so
    pub told_on : (words' : List ℕ) → Rises s.words words' → IsTold log words' d.core.seen d.told
    told_on words' up =
        let told = told_now in
        let archived = up.archived in
        let durable = up.durable in
        record {
          seen_is = told.seen_is;
          heard = told.heard;
          passed = let old = told.passed in omega arith;
          raised = λ is. up.flag (told.raised is);
        }

    -- what it was told, where it sees the log up to more
    pub told_to : (seen : ℕ) → IsTold log s.words seen (record d.told { seen = take seen log })
    told_to seen = let told = told_now in record { seen_is = refl; heard = told.heard; passed = told.passed; raised = told.raised }

    -- so where it sees the log as far as its view says after a step that writes no word
    pub renewed_sees : (core : View) → core.live ≡ true → TiedBy (frame_of key) log s.words (set (cores s.views) i core)
        → ((p : ℕ) → unfilled p core ≤ unfilled p d.core) → GoesOn d.core core → Kept core.archived
        → Renewed core (record d.told { seen = take core.seen log }) s.words
    renewed_sees core lives tied less goes_on kept =
        record { lives = lives; tied = tied; less = less; goes_on = goes_on; told = told_to core.seen; kept = kept }

    -- what it has seen lies within the slots past what is released
    pub seen_window : d.core.seen ≤ released s.words + key.layout.ring
    seen_window =
        ⊎_elim (λ (none : d.core.seen ≡ 0). omega arith)
        (λ some'.
        let q : ℕ = d.core.seen - 1 in
        let sees = (ruled.by.tied.seated i d.core (core_there m laws key s log parts ruled.by i d ruled.there)).sees in
        let inside = written_inside (frame_of key) log s.words (cores s.views) q ruled.by.tied.ringed (sees.written q (omega arith)) in
        omega arith) (cases_eq d.core.seen 0)

    -- the numbers of its view within the present ones
    pub numbers_to : (d.core.head ≤ length log) × (d.core.seen ≤ length log) × (d.core.archived ≤ archived_in s.words) × (d.core.durable ≤ durable_in s.words)
    numbers_to =
        let core = ruled.by.tied.seated i d.core (core_there m laws key s log parts ruled.by i d ruled.there) in
        (core.knows.head_to, seen_within m laws key s log parts ruled.by i d ruled.there i d ruled.there, core.knows.archived_to, core.knows.durable_to)

    -- positions are numbers of 32 bits
    pub log_small : length log < 2 ^ 32
    log_small = let all = ruled.by.shared.quotas in omega arith
