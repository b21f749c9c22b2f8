-- What a run is over a log that was opened: the store that is made over it, what is told of it, and what a crash leaves.
use Rattle.std.proofs.Common.{◌≡◌, ℕ, zero, suc, ◌+◌, ◌-◌, ◌<◌, ◌≤◌, ◌^◌, false, true, List, []}
use Rattle.std.proofs.Common.{◌∷◌, length, take, drop, map, get_or, slice_get, Option, Some, None, Result, Ok}
use Rattle.std.proofs.Common.{refl, ap, arith, sym, subst, ◌∙◌, inl, inr, sum, sum_by}
use Rattle.std.specs.Prelude.{IfSome, All, is_some, option_map}
use Rattle.std.proofs.lemmas.List.{drop_all, take_all, length-map}
use Rattle.std.proofs.lemmas.Option.{IfSome_then, slice_get_within, slice_get-map, get_or_from_slice_get}
use Rattle.go_word.specs.declared.edge.Edge.{Edge}
use Rattle.go_word.specs.Log.{IsWithin as IsEntryWithin}
use Rattle.go_api.specs.Standing.{Standing, Terms, unused, all_free}
use Rattle.go_api.specs.declared.limits.TheConstants.{LOG_ENTRIES}
use Rattle.go_api.specs.declared.setup.Setup.{Setup}
use Rattle.go_blocks.specs.File.{File}
use Rattle.go_disk.specs.Device.{Device, IsDevice}
use Rattle.go_disk.specs.Disk.{StaysTold}
use Rattle.go_durable.specs.Appending.{HasImage}
use Rattle.go_durable.specs.Attaching.{IsFound, IsAnswerOf, IsOpenedFor}
use Rattle.go_durable.specs.LogState.{OpenedLog}
use Rattle.go_durable.specs.Moments.{SettlesTo}
use Rattle.go_durable.specs.Recovery.{Recovers, RecoversPart}
use Rattle.go_durable.specs.declared.fault.OpenFault.{OpenFault}
use Rattle.go_durable.proofs.Moments.{settles_weaker}
use Rattle.go_durable.proofs.Standing.{log_file, log_image}
use Rattle.go_plain.specs.Owners.{HasOwners}
use Rattle.go_plain.specs.Plain.{PlainState, AreQuotas, standing_of, made_of}
use Rattle.go_plain.specs.Seats.{seat_at, new_seat, no_seat}
use Rattle.go_plain.specs.declared.seat.Seat.{Seat}
use Rattle.go_script.specs.Places.{IsScript, IsWithin}
use Rattle.go_session.specs.Asked.{asked_with, lists_of, may_put}
use Rattle.go_session.specs.Session.{SessionState, unanswered, CanGoOn}
use Rattle.go_session.proofs.BeginLemmas.{unused_sound, can_begin}
use Rattle.go_run.specs.Course.{Course, IsLogFor, HasTerms, KeepsLog, LeavesPart}
use Rattle.go_run.specs.Driving.{CanTurn, CanAllTurn, CanDrive, quota_in, tasks_in, terms_of}
use Rattle.go_run.specs.Input.{Task, count_of}
use Rattle.go_run.specs.Reading.{IsNew, IsReady}
use Rattle.go_run.specs.Run.{Run}
use Rattle.go_run.proofs.SessionsLemmas.{quota_new}

-- a log was opened for a run, with room for so many entries more
pub record HasOpened {D : Type 0} (run : Run D) (puts : ℕ) (found : OpenedLog D) : Type 0 where
  pub answer : (let answer : Result (OpenedLog D) (OpenFault D) = Ok found in
      IsAnswerOf run.vertices (LOG_ENTRIES - puts) (run.device.contents run.begun) answer)
  pub log : IsOpenedFor run.device run.vertices run.begun found
  pub recovers : SettlesTo run.device run.begun found.log.disk (Recovers run.vertices found.edges)

-- the bytes at entry are those of the log that was found, where the tasks have room
pub had_log : (v puts : ℕ) (tasks : List Task) (contents : Option (List ℕ)) (old : List Edge) (bytes : List ℕ) → IfSome contents (λ told. told ≡ bytes) →
    IsFound v (LOG_ENTRIES - puts) bytes old → puts ≡ count_of tasks → puts ≤ LOG_ENTRIES → IfSome contents (IsLogFor v tasks old)
had_log v puts tasks contents old bytes shown found so_many few =
    let here : IsLogFor v tasks old bytes = record { fits = found.fits; recovers = found.recovers; few = omega (arith, found.few, few, so_many) } in
    IfSome_then contents shown (λ told same. subst (λ (b : List ℕ). IsLogFor v tasks old b) (sym same) here)

-- what is told at entry is told after the opening
pub told_on : (P : Type 0) (before now : Option (List ℕ)) → StaysTold (λ a b. Unit {0}) before now → IfSome now (λ bytes. P) → IfSome before (λ bytes. P)
told_on P None now tells has = tt
told_on P (Some bytes) None tells has = absurd tells
told_on P (Some bytes) (Some read) tells has = has

pub is_told : (contents : Option (List ℕ)) → IfSome contents (λ bytes. is_some contents ≡ true)
is_told None = tt
is_told (Some bytes) = refl

-- a file of the old log is one of a part of each longer one
pub old_part : (v : ℕ) (old log : List Edge) (image : List ℕ) → take (length old) log ≡ old → length old ≤ length log → Recovers v old image →
    RecoversPart v (length old) log image
old_part v old log image begins longer recovers = record {
  count = length old;
  at_least = omega arith;
  at_most = longer;
  recovers = subst (λ (l : List Edge). Recovers v l image) (sym begins) recovers;
}

-- the quota of a session at its number
quota_at : (seen : ℕ) (loads : List (List Edge)) (sessions : List SessionState) (i : ℕ) (session : SessionState) → slice_get sessions i ≡ Some session →
    get_or (map (new_seat seen) (map (quota_in loads) sessions)) i no_seat ≡ new_seat seen (quota_in loads session)
quota_at seen loads [] i session here = absurd (let h : None ≡ Some session = here in cc)
quota_at seen loads (s ∷ sessions) zero session here =
    ap (λ (x : SessionState). new_seat seen (quota_in loads x)) (let h : Some s ≡ Some session = here in let e : s ≡ session = cc in e)
quota_at seen loads (s ∷ sessions) (suc i) session here = quota_at seen loads sessions i session here

-- what holds of all holds of each, and of what each is mapped to
at_all : {X : Type 0} (P : X → Type 0) (xs : List X) (i : ℕ) (x : X) → slice_get xs i ≡ Some x → All P xs → P x
at_all P xs i x here all = subst P (get_or_from_slice_get xs i x x here) (all i x (slice_get_within xs i x here))

at_mapped : {X Y : Type 0} (f : X → Y) (P : Y → Type 0) (xs : List X) (i : ℕ) (x : X) → slice_get xs i ≡ Some x → All P (map f xs) → P (f x)
at_mapped f P xs i x here all = at_all P (map f xs) i (f x) (slice_get-map f xs i ∙ ap (option_map f) here) all

module _ {D : Type 0} (device : Device D) (loads : List (List Edge)) (sessions : List SessionState) (found : OpenedLog D) (setup : Setup) where
  -- the store that is made for sessions
  abbrev pub made : PlainState D
  made = made_of found setup (map (quota_in loads) sessions)

  -- of which no call was asked
  made_unused : (i : ℕ) (session : SessionState) → slice_get sessions i ≡ Some session → found.log.front ≡ length found.edges →
      standing_of device made (i + 1) ≡ unused (terms_of device made) found.edges (quota_in loads session)
  made_unused i session here front =
      let n = length found.edges in
      let shape : Seat → List Edge → ℕ → Standing = λ seat seen durable. record (unused (terms_of device made) found.edges seat.quota) {
        log = record { seen = seen; floor = seat.seen; known = n; durable = durable };
        places = seat.places;
      } in
      let seat : seat_at made.seats (i + 1) ≡ new_seat n (quota_in loads session) =
      ap (λ (k : ℕ). get_or made.seats k no_seat) (let e : (i + 1) - 1 ≡ i = omega arith in e) ∙ quota_at n loads sessions i session here in
      ap (λ (s : Seat). shape s (take s.seen found.edges) found.log.front) seat
      ∙ ap (λ (l : List Edge). shape (new_seat n (quota_in loads session)) l found.log.front) (take_all n found.edges (omega arith))
      ∙ ap (λ (d : ℕ). shape (new_seat n (quota_in loads session)) found.edges d) front

  -- over it the sessions can be driven
  pub made_can_drive : IsReady found.log.vertices (tasks_in loads sessions) loads sessions → found.log.front ≡ length found.edges →
      All (IsEntryWithin found.log.vertices) found.edges → length found.edges < 2 ^ 32 → CanDrive device loads sessions made
  made_can_drive ready front ids short =
      let so_many = length-map (map (quota_in loads) sessions) (new_seat (length found.edges)) in
      let each_one = length-map sessions (quota_in loads) in
      let terms = terms_of device made in
      let task : SessionState → Task = λ s. record { commands = s.commands; lists = lists_of loads s.lists } in
      record {
        can = record {
          shared = record {
            few = ready.few;
            count = omega (arith, so_many, each_one);
            owners = record { each = omega arith; sessions = λ k d within. absurd (omega (arith, within)) };
          };
          each = λ i session here.
              let new : IsNew (length loads) session = at_all (IsNew (length loads)) sessions i session here ready.new in
              let script = at_mapped task (λ (t : Task). IsScript t.commands × IsWithin found.log.vertices t.commands) sessions i session here
              ready.can_run.scripts in
              let entries = at_mapped task (λ (t : Task). All (IsEntryWithin found.log.vertices) (may_put (asked_with t.commands t.lists)))
              sessions i session here
              ready.can_run.entries in
              let quota = quota_new loads session new.new in
              record {
                can = subst (λ (s : Standing). CanGoOn loads session s) (sym (made_unused i session here front))
                    (subst (λ (x : SessionState). CanGoOn loads x (unused terms found.edges (quota_in loads session))) (sym new.new)
                    (can_begin session.number session.commands session.lists loads terms found.edges (quota_in loads session)
                    (unused_sound terms found.edges (quota_in loads session) refl ids short) script.1 script.0 entries (omega (arith, quota)) refl));
                lists = new.lists;
              };
        };
        waits = ready.waits;
        new = refl;
        durable = omega (arith, front);
      }

-- what a crash leaves of a log that was opened: a file of it
pub opened_left : {D : Type 0} (run : Run D) (rules : IsDevice run.device) (found : OpenedLog D) (course : Course) → course.old ≡ found.edges →
    course.log ≡ found.edges → IsOpenedFor run.device run.vertices run.begun found → LeavesPart run course (length found.edges) found.log.disk
opened_left {D} run rules found course old log opened =
    let v = run.vertices in
    let edges = found.edges in
    let n = length edges in
    let whole : take n course.log ≡ edges = ap (λ (l : List Edge). take n l) log ∙ take_all n edges (omega arith) in
    let file : (image : List ℕ) → File found.log.vertices edges image → Recovers v (take n course.log) image = λ image is.
    inr (subst (λ (k : ℕ). File k (take n course.log) image) opened.vertices_are
    (subst (λ (l : List Edge). File found.log.vertices l image) (sym whole) is)) in
    record {
      least = (let e = ap (λ (l : List Edge). length l) old in omega arith);
      most = (let e = ap (λ (l : List Edge). length l) log in omega arith);
      each = λ image is. record {
        count = n;
        at_least = omega arith;
        at_most = (let e = ap (λ (l : List Edge). length l) log in omega arith);
        recovers = file image (log_image run.device found.log edges image opened.opened.stands is);
      };
      one = one (run.device.contents found.log.disk) refl (run.device.contents run.begun) opened.told;
    }
  where
    one : (now : Option (List ℕ)) → run.device.contents found.log.disk ≡ now → (before : Option (List ℕ)) → StaysTold (λ a b. Unit {0}) before now →
        IfSome before (λ bytes. HasImage (run.device.images found.log.disk) (Recovers run.vertices (take (length found.edges) course.log)))
    one now is None tells = tt
    one None is (Some bytes) tells = absurd tells
    one (Some read) is (Some bytes) tells =
        let whole : take (length found.edges) course.log ≡ found.edges =
        ap (λ (l : List Edge). take (length found.edges) l) log ∙ take_all (length found.edges) found.edges (omega arith) in
        record {
          image = read;
          is_image = rules.contents_is_image found.log.disk read is;
          has = inr (subst (λ (k : ℕ). File k (take (length found.edges) course.log) read) opened.vertices_are
              (subst (λ (l : List Edge). File found.log.vertices l read) (sym whole) (log_file run.device found.log found.edges read opened.opened.stands is)));
        }
