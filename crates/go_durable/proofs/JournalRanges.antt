-- Lemmas on journals of which a range is read.
use Rattle.std.proofs.Common.{◌≡◌, ℕ, ◌-◌, ◌≤◌, false, List, [], ◌++◌, length, take, drop, Option, None, Some, refl, ap, arith, sym, subst, ◌∙◌, inl}
use Rattle.std.specs.Prelude.{IfSome, IsSome, true, Err}
use Rattle.std.proofs.lemmas.List.{drop-take, take-take}
use Rattle.go_text.specs.Causes.{Rose}
use Rattle.go_word.specs.declared.edge.Edge.{Edge}
use Rattle.go_blocks.specs.File.{File}
use Rattle.go_disk.specs.Device.{Device}
use Rattle.go_durable.specs.Appending.{disk_after}
use Rattle.go_durable.specs.Journal.{Keeps, KeepsOn}
use Rattle.go_durable.specs.JournalRanging.{IsRanged}
use Rattle.go_durable.specs.LogState.{LogState}
use Rattle.go_durable.specs.Moments.{LeavesOnly}
use Rattle.go_durable.specs.Ranging.{Asked, AddsRange, HasReadRange, IsReadSpent, ReadsRange}
use Rattle.go_durable.specs.Recovery.{IsBeforeOrAfter, RecoversPart}
use Rattle.go_durable.specs.Standing.{IsLog}
use Rattle.go_durable.specs.declared.fault.LogFault.{LogFault}
use Rattle.go_durable.specs.declared.fault.LogFault.TheVariants as faulty
use Rattle.go_durable.specs.declared.journal.Journal.TheVariants.{Sound, Spent}
use Rattle.go_durable.proofs.Journals.{before_or_after, fewer, keeps_spent}
use Rattle.go_durable.proofs.Moments.{joined, weaker}

-- a range of a log's first entries is one of the log
range_within : (front a b : ℕ) (log before after : List Edge) → a ≤ b → b ≤ front → AddsRange (take front log) a b before after → AddsRange log a b before after
range_within front a b log before after order within adds =
    let taken : drop a (take front log) ≡ take (front - a) (drop a log) =
    ap (λ (n : ℕ). drop a (take n log)) (omega (arith, order, within)) ∙ drop-take a (front - a) log in
    let same : take (b - a) (drop a (take front log)) ≡ take (b - a) (drop a log) =
    ap (take (b - a)) taken ∙ take-take (b - a) (front - a) (drop a log) (omega (arith, order, within)) in
    record { added = adds.added ∙ ap (λ (l : List Edge). before ++ l) same }

-- what is so where one disk tells is so where an earlier one told
told_since : {P Q : Type 0} (opened now : Option (List ℕ)) → (P → Q) → IfSome opened (λ bytes. IsSome now) → IfSome now (λ bytes. P) →
    IfSome opened (λ bytes. Q)
told_since None now on told has = tt
told_since (Some bytes) None on told has = absurd (let h : false ≡ true = told in cc)
told_since (Some bytes) (Some now) on told has = on has

module _ {D : Type 0} (device : Device D) where
  -- the images of a log that is read are parts of the longer one
  read_moments : (v first : ℕ) (log : List Edge) (opened : D) (old : LogState D) (new : D) → Keeps device v first log opened (Sound old) →
      LeavesOnly device old.disk new (File old.vertices (take old.front log)) → LeavesOnly device opened new (RecoversPart v first log)
  read_moments v first log opened old new keeps leaves =
      joined device opened old.disk new (RecoversPart v first log) keeps.moments
      (weaker device old.disk new (File old.vertices (take old.front log)) (RecoversPart v first log)
      (λ image is. fewer v first old.front log image keeps.least (before_or_after v old.front [] log image refl keeps.most
      (inl (subst (λ (n : ℕ). File n (take old.front log) image) keeps.has.vertices_are is)))) leaves)

  -- entries were read, and the journal goes on
  pub keeps_read : (asked : Asked) (old new : LogState D) → HasReadRange device asked old new →
      ((log : List Edge) → IsLog device old log → LeavesOnly device old.disk new.disk (File old.vertices log))
      → device.faults old.disk ≤ device.faults new.disk → KeepsOn device [] (Sound old) (Sound new)
  keeps_read asked old new read moments count =
      let front : new.front ≡ old.front = ap (λ (s : LogState D). s.front) read.same in
      record {
        keeps = λ v first log opened keeps next.
            let stood = keeps.has.stands in
            record {
              has = record {
                stands = subst (λ (n : ℕ). IsLog device new (take n log)) (sym front) (read.stands (take old.front log) stood);
                vertices_are = ap (λ (s : LogState D). s.vertices) read.same ∙ keeps.has.vertices_are;
                told = subst (λ (o : Option (List ℕ)). IfSome (device.contents opened) (λ bytes. IsSome o))
                    (sym (read.contents (take old.front log) stood)) keeps.has.told;
              };
              least = omega (arith, keeps.least, front);
              most = omega (arith, keeps.most, front);
              moments = read_moments v first log opened old new.disk keeps (moments (take old.front log) stood);
              count = omega (arith, keeps.count, count);
            };
        no_less = omega (arith, front);
        met_stays = λ met. absurd (let h : false ≡ true = met in cc);
      }

  -- and they are the log's
  pub is_ranged : (asked : Asked) (old new : LogState D) → asked.from ≤ asked.upto → asked.upto ≤ old.front → HasReadRange device asked old new →
      IsRanged device asked (Sound old) (Sound new)
  is_ranged asked old new order within read = record {
    sound = refl;
    blocks = ap (λ (s : LogState D). length s.places) read.same;
    so_many = read.so_many;
    front_stays = read.front_stays;
    shown = λ v first log opened keeps.
        told_since (device.contents opened) (device.contents old.disk) (range_within old.front asked.from asked.upto log asked.before asked.after order within)
        keeps.has.told
        (read.shown (take old.front log) keeps.has.stands);
  }

  -- the disk failed
  read_spent : (old : LogState D) (disk : D) → Rose (device.faults old.disk) (device.faults disk) → IsReadSpent device old disk →
      ((log : List Edge) → IsLog device old log → LeavesOnly device old.disk disk (File old.vertices log))
      → device.faults old.disk ≤ device.faults disk → KeepsOn device [] (Sound old) (Spent disk old.front)
  read_spent old disk rose spent moments count =
      keeps_spent device [] old disk rose (record { each = λ log is image here. inl (spent.each log is image here); one = spent.one; told = spent.told })
      (λ log is. weaker device old.disk disk (File old.vertices log) (IsBeforeOrAfter old.vertices log []) (λ image file. inl file) (moments log is)) count

  -- the same, where a fault tells of the disk
  pub read_fault : (asked : Asked) (old : LogState D) (fault : LogFault D) (disk : D) → fault ≡ faulty.Disk disk →
      ReadsRange device asked old (Err fault) →
      ((log : List Edge) → IsLog device old log → LeavesOnly device old.disk (disk_after (Err fault)) (File old.vertices log))
      → device.faults old.disk ≤ device.faults (disk_after (Err fault)) → KeepsOn device [] (Sound old) (Spent disk old.front)
  read_fault asked old fault disk is answer moments count =
      let all = subst (λ (f : LogFault D). ReadsRange device asked old (Err f)
      × ((log : List Edge) → IsLog device old log → LeavesOnly device old.disk (disk_after (Err f)) (File old.vertices log))
      × (device.faults old.disk ≤ device.faults (disk_after (Err f)))) is (answer, moments, count) in
      read_spent old disk all.0.0 all.0.1 all.1 all.2
