-- What runs count: faults of the disk, ranges that weren't there, quotas.
use Rattle.std.proofs.Common.{◌≡◌, ℕ, ◌+◌, ◌-◌, ◌≤◌, List, length, map}
use Rattle.std.proofs.Common.{sum, sum_by, Option, Some, None, Result, Err, ap, arith, sym, subst, ◌∙◌}
use Rattle.std.proofs.Common.{inl, inr}
use Rattle.std.proofs.lemmas.List.{length-map}
use Rattle.go_text.specs.Causes.{Rose}
use Rattle.go_word.specs.declared.edge.Edge.{Edge}
use Rattle.go_api.specs.declared.limits.TheConstants.{LOG_ENTRIES}
use Rattle.go_api.specs.declared.setup.Setup.{Setup}
use Rattle.go_api.specs.declared.stop.Stop.{Stop}
use Rattle.go_api.specs.declared.stop.Stop.TheVariants as stops
use Rattle.go_disk.specs.Device.{Device}
use Rattle.go_durable.specs.Attaching.{OpensOver, TellsFault, disk_of}
use Rattle.go_durable.specs.LogState.{OpenedLog}
use Rattle.go_durable.specs.Moments.{SettlesTo}
use Rattle.go_durable.specs.declared.fault.OpenFault.{OpenFault}
use Rattle.go_durable.specs.declared.fault.OpenFault.TheVariants as faults
use Rattle.go_durable.specs.declared.finished.Finished.{Finished}
use Rattle.go_io.specs.Sink.{SinkState}
use Rattle.go_plain.specs.Plain.{Origin, PlainState, AreQuotas, HasEnded, made_of}
use Rattle.go_session.specs.Session.{SessionState}
use Rattle.go_run.specs.Driving.{HasDriven, Concludes, refusal_of, quota_in, tasks_in}
use Rattle.go_run.specs.Input.{count_of}
use Rattle.go_run.specs.Reading.{IsReady}
use Rattle.go_run.specs.declared.status.Status.{Status}
use Rattle.go_run.specs.declared.status.Status.TheVariants.{TooMuch, NotALog, OtherVertices, DiskFault, Memory}
use Rattle.go_run.proofs.SessionsLemmas.{quotas_count}
use Rattle.go_run.proofs.RunningLemmas.{ready_count}

-- where the disk stopped the store's end, its count of faults rose since the opening
abbrev pub RoseBy : Option Stop → ℕ → ℕ → Type 0
RoseBy (Some stops.Disk) before now = Rose before now
RoseBy (Some stops.Memory) before now = Unit {0}
RoseBy None before now = Unit {0}

pub rose_by : {D : Type 0} (device : Device D) (store : PlainState D) (disk : D) (durable before : ℕ) (stop : Option Stop) →
    before ≤ device.faults store.origin.disk →
    HasEnded device store (record { disk = disk; durable = durable; stop = stop }) → RoseBy stop before (device.faults disk)
rose_by device store disk durable before None later ended = tt
rose_by device store disk durable before (Some stops.Disk) later ended = omega (arith, later, ended.ends)
rose_by device store disk durable before (Some stops.Memory) later ended = tt

-- a refusal tells a fault of the disk only where one came
pub refused_rose : {D : Type 0} (device : Device D) (v puts : ℕ) (begun : D) (fault : OpenFault D) →
    (let answer : Result (OpenedLog D) (OpenFault D) = Err fault in TellsFault device begun answer) →
    refusal_of v puts fault ≡ DiskFault → Rose (device.faults begun) (device.faults (disk_of fault))
refused_rose device v puts begun (faults.Bad bad disk) tells is = let other : NotALog bad.at bad.kind ≡ DiskFault = is in absurd (cc)
refused_rose device v puts begun (faults.Vertices file disk) tells is = let other : OtherVertices file v ≡ DiskFault = is in absurd (cc)
refused_rose device v puts begun (faults.TooLong len disk) tells is = let other : refusal_of v puts (faults.TooLong len disk) ≡ DiskFault = is in absurd (cc)
refused_rose device v puts begun (faults.TooMany count disk) tells is = let other : TooMuch (puts + count) LOG_ENTRIES ≡ DiskFault = is in absurd (cc)
refused_rose device v puts begun (faults.Disk disk) tells is = tells
refused_rose device v puts begun (faults.Memory disk) tells is = let other : Memory ≡ DiskFault = is in absurd (cc)

-- a run tells a fault of the disk only where the store's end met one
pub concluded_fault : (stop last : Option Stop) (sessions : List SessionState) (durable : ℕ) (before after : SinkState) (status : Status) (first now : ℕ) →
    Concludes stop last sessions durable before after status → RoseBy last first now → status ≡ DiskFault → Rose first now
concluded_fault None None sessions durable before after status first now ends rose is =
    absurd (subst (λ (s : Status). Concludes None None sessions durable before after s) is ends)
concluded_fault (Some why) None sessions durable before after status first now ends rose is = let other : Memory ≡ DiskFault = sym ends.0 ∙ is in absurd (cc)
concluded_fault stop (Some stops.Disk) sessions durable before after status first now ends rose is = rose
concluded_fault None (Some stops.Memory) sessions durable before after status first now ends rose is =
    let other : Memory ≡ DiskFault = sym ends.0 ∙ is in absurd (cc)
concluded_fault (Some why) (Some stops.Memory) sessions durable before after status first now ends rose is =
    let other : Memory ≡ DiskFault = sym ends.0 ∙ is in absurd (cc)

-- an opening that was refused asked for no range that isn't there
pub refused_blunders : {D : Type 0} (device : Device D) (v : ℕ) (begun : D) (fault : OpenFault D) →
    (let answer : Result (OpenedLog D) (OpenFault D) = Err fault in OpensOver device v begun answer) → device.blunders (disk_of fault) ≡ device.blunders begun
refused_blunders device v begun (faults.Bad bad disk) opens = opens.passes.blunders
refused_blunders device v begun (faults.Vertices file disk) opens = opens.passes.blunders
refused_blunders device v begun (faults.TooLong len disk) opens = opens.passes.blunders
refused_blunders device v begun (faults.TooMany count disk) opens = opens.passes.blunders
refused_blunders device v begun (faults.Disk disk) opens = elim opens [
  | inl only ↦ only.passes.blunders
  | inr opening ↦ opening.passes.blunders
]
refused_blunders device v begun (faults.Memory disk) opens = opens.passes.blunders

-- what sessions that were driven over an opened log left of the disk's counts
pub record HasCounted {D : Type 0} (device : Device D) (begun : D) (finished : Finished D) : Type 0 where
  pub no_blunder : device.blunders finished.disk ≡ device.blunders begun
  pub later : device.faults begun ≤ device.faults finished.disk
  pub rose : RoseBy finished.stop (device.faults begun) (device.faults finished.disk)

pub driven_counts : {D : Type 0} (device : Device D) (begun : D) (found : OpenedLog D) (loads : List (List Edge)) (olds news : List SessionState)
    (store : PlainState D) (stop : Option Stop) (finished : Finished D) (P : List ℕ → Type 0) → store.origin.disk ≡ found.log.disk →
    HasDriven device loads olds store news stop finished → SettlesTo device begun found.log.disk P → device.faults begun ≤ device.faults found.log.disk →
    HasCounted device begun finished
driven_counts {D} device begun found loads olds news store stop finished P made driven settles count =
    let disk : driven.store.origin.disk ≡ found.log.disk = ap (λ (o : Origin D). o.disk) driven.onward.origin ∙ made in
    let since_then : device.faults begun ≤ device.faults driven.store.origin.disk = subst (λ (d : D). device.faults begun ≤ device.faults d) (sym disk) count in
    record {
      no_blunder = driven.ended.moments.passes.blunders ∙ ap device.blunders disk ∙ settles.passes.blunders;
      later = omega (arith, since_then, driven.ended.count);
      rose = rose_by device driven.store finished.disk finished.durable (device.faults begun) finished.stop since_then driven.ended;
    }

-- what sessions that are ready may put, by the quotas that were counted of them
pub few_quotas : (v : ℕ) (loads : List (List Edge)) (sessions : List SessionState) → IsReady v (tasks_in loads sessions) loads sessions →
    sum_by (quota_in loads) sessions ≤ LOG_ENTRIES
few_quotas v loads sessions ready = omega (arith, quotas_count loads sessions ready.new, ready.can_run.few)

-- the quotas are those of the sessions, and so many are they together
pub record AreCounted (loads : List (List Edge)) (sessions : List SessionState) (quotas : List ℕ) (puts : ℕ) : Type 0 where
  pub quotas_are : quotas ≡ map (quota_in loads) sessions
  pub total : puts ≡ sum quotas

pub counted : (loads : List (List Edge)) (sessions lent : List SessionState) (quotas shown : List ℕ) (puts : ℕ) → lent ≡ sessions →
    quotas ≡ map (quota_in loads) lent → shown ≡ quotas → puts ≡ sum shown → AreCounted loads sessions quotas puts
counted loads sessions lent quotas shown puts same are seen total = record {
  quotas_are = are ∙ ap (λ (l : List SessionState). map (quota_in loads) l) same;
  total = total ∙ ap (λ (l : List ℕ). sum l) seen;
}

pub counted_puts : (v : ℕ) (loads : List (List Edge)) (sessions : List SessionState) (quotas : List ℕ) (puts : ℕ) →
    IsReady v (tasks_in loads sessions) loads sessions → AreCounted loads sessions quotas puts → puts ≡ count_of (tasks_in loads sessions)
counted_puts v loads sessions quotas puts ready is = is.total ∙ ap (λ (l : List ℕ). sum l) is.quotas_are ∙ ready_count v loads sessions ready

-- the store has room for them
pub quotas_fit : (v : ℕ) (loads : List (List Edge)) (sessions : List SessionState) (quotas : List ℕ) (puts n : ℕ) →
    IsReady v (tasks_in loads sessions) loads sessions → AreCounted loads sessions quotas puts → n ≤ LOG_ENTRIES - puts → AreQuotas n quotas
quotas_fit v loads sessions quotas puts n ready is room =
    let long = ap (λ (l : List ℕ). length l) is.quotas_are in
    let each = length-map sessions (quota_in loads) in
    let count = counted_puts v loads sessions quotas puts ready is in
    record {
      some = omega (arith, long, each, ready.some);
      few = omega (arith, long, each, ready.few);
      room = omega (arith, is.total, count, ready.can_run.few, room);
    }

-- and is the one that was made for them
pub made_same : {D : Type 0} (loads : List (List Edge)) (sessions : List SessionState) (quotas shown : List ℕ) (puts : ℕ) (found : OpenedLog D) (setup : Setup)
    (store : PlainState D) → AreCounted loads sessions quotas puts → shown ≡ quotas → store ≡ made_of found setup shown →
    store ≡ made_of found setup (map (quota_in loads) sessions)
made_same loads sessions quotas shown puts found setup store is seen made =
    made ∙ ap (λ (l : List ℕ). made_of found setup l) (seen ∙ is.quotas_are)
