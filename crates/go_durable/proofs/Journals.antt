-- Lemmas on journals, as blocks are appended.
use Rattle.std.proofs.Common.{◌≡◌, ℕ, zero, suc, ◌+◌, ◌-◌, ◌<◌, ◌≤◌, true, false, List, [], ◌∷◌, ◌++◌, length, take, drop, Option, None, Some, refl, ap}
use Rattle.std.proofs.Common.{arith, sym, subst, ◌∙◌, inl, inr, take-add, length-append, append_assoc}
use Rattle.std.proofs.lemmas.List.Elements.{All-take, All-drop}
use Rattle.go_word.specs.Log.{IsWithin}
use Rattle.std.specs.Prelude.{◌⊎◌, ◌/◌, min, All, IfSome, IsSome, Err}
use Rattle.std.proofs.lemmas.List.{length-take, length-drop, drop-drop, drop-take, take-take}
use Rattle.std.proofs.Math.Nat.{add-div_right}
use Rattle.std.proofs.lemmas.Nat.{div-mul-add}
use Rattle.std.proofs.Math.Seq.{take-append_seam, drop-append_seam}
use Rattle.go_text.specs.Causes.{Rose}
use Rattle.go_word.specs.declared.edge.Edge.{Edge}
use Rattle.go_blocks.specs.File.{File}
use Rattle.go_blocks.specs.declared.layout.TheConstants.{COUNT_LIMIT}
use Rattle.go_disk.specs.Device.{Device}
use Rattle.go_disk.specs.Disk.{StaysTold}
use Rattle.go_durable.specs.declared.fault.LogFault.{LogFault}
use Rattle.go_durable.specs.declared.fault.LogFault.TheVariants as faulty
use Rattle.go_durable.specs.Appending.{HasImage, IsLongerBy, IsSpent as WasSpent, Appends, disk_after}
use Rattle.go_durable.specs.LogState.{LogState}
use Rattle.go_durable.specs.Moments.{LeavesOnly}
use Rattle.go_durable.specs.Recovery.{Recovers, IsBeforeOrAfter, RecoversPart, AreNext}
use Rattle.go_durable.specs.Standing.{IsLog}
use Rattle.go_durable.proofs.Gates.{some_not_none}
use Rattle.go_durable.proofs.Moments.{joined, weaker}
use Rattle.go_durable.specs.declared.journal.Journal.{Journal}
use Rattle.go_durable.specs.declared.journal.Journal.TheVariants.{Sound, Spent}
use Rattle.go_durable.specs.Journal.{journal_front, block_count, blocks_for, Keeps, KeepsOn, CanAppend, IsOneBlock}

-- the log's durable entries and the next ones
pub longer : (edges : List Edge) (front : ℕ) (log : List Edge) → AreNext edges front log → take front log ++ edges ≡ take (front + length edges) log
longer edges front log next = ap (λ (l : List Edge). take front log ++ l) next ∙ sym (take-add front (length edges) log)

-- there are so many behind the front
pub next_within : (edges : List Edge) (front : ℕ) (log : List Edge) → AreNext edges front log → front ≤ length log → front + length edges ≤ length log
next_within edges front log next within = omega (arith, ap length next, length-take (length edges) (drop front log), length-drop front log, within)

-- a file of the log before or with the block recovers to a part of the whole
pub before_or_after : (v front : ℕ) (edges log : List Edge) (image : List ℕ) → AreNext edges front log → front ≤ length log
    → IsBeforeOrAfter v (take front log) edges image → RecoversPart v front log image
before_or_after v front edges log image next within (inl file) = record { count = front; at_least = omega arith; at_most = within; recovers = inr file }
before_or_after v front edges log image next within (inr file) = record {
  count = front + length edges;
  at_least = omega arith;
  at_most = next_within edges front log next within;
  recovers = inr (subst (λ (l : List Edge). File v l image) (longer edges front log next) file);
}

-- a part of at least so many entries has at least fewer
pub fewer : (v less least : ℕ) (log : List Edge) (image : List ℕ) → less ≤ least → RecoversPart v least log image → RecoversPart v less log image
fewer v less least log image le part =
    record { count = part.count; at_least = omega (arith, le, part.at_least); at_most = part.at_most; recovers = part.recovers }

-- what is told, of bytes that are told
pub told_has : {P : Type 0} (o : Option (List ℕ)) → IsSome o → IfSome o (λ bytes. P) → P
told_has None some has = absurd (let h : false ≡ true = some in cc)
told_has (Some bytes) some has = has

-- told stays told
still_told : (opened old new : Option (List ℕ)) → IfSome opened (λ bytes. IsSome old) → StaysTold (λ a b. Unit {0}) old new
    → IfSome opened (λ bytes. IsSome new)
still_told None old new was tells = tt
still_told (Some bytes) None new was tells = absurd (let h : false ≡ true = was in cc)
still_told (Some bytes) (Some was_bytes) None was tells = absurd tells
still_told (Some bytes) (Some was_bytes) (Some now_bytes) was tells = refl

-- a count that rose later rose
pub rose_since : (first before now : ℕ) → first ≤ before → Rose before now → Rose first now
rose_since first before now le rose = omega (arith, le, rose)

-- the entries that a log has next, in two stretches
next_parts : (a b ab : List Edge) (front : ℕ) (log : List Edge) → ab ≡ a ++ b → AreNext ab front log → AreNext a front log × AreNext b (front + length a) log
next_parts a b ab front log are next =
    let behind = drop front log in
    let all : a ++ b ≡ take (length a + length b) behind = sym are ∙ next ∙ ap (λ (n : ℕ). take n behind) (ap length are ∙ length-append a b) in
    let first : a ≡ take (length a) behind =
    sym (take-append_seam a b) ∙ ap (take (length a)) all ∙ take-take (length a) (length a + length b) behind (omega arith) in
    let second : b ≡ take (length b) (drop (front + length a) log) =
    sym (drop-append_seam a b) ∙ ap (drop (length a)) all ∙ drop-take (length a) (length b) behind ∙ ap (take (length b)) (drop-drop (length a) front log) in
    (first, second)

-- one number is at most the other, or above it
le_or_lt : (m n : ℕ) → (m ≤ n) ⊎ (n < m)
le_or_lt zero n = inl (omega arith)
le_or_lt (suc m) zero = inr (omega arith)
le_or_lt (suc m) (suc n) =
    elim (le_or_lt m n) as (λ _. (suc m ≤ suc n) ⊎ (suc n < suc m)) [ inl le ↦ inl (omega (arith, le)) | inr lt ↦ inr (omega (arith, lt)) ]

-- no entry takes no block
none_take_none : (count : ℕ) → count ≡ 0 → blocks_for count ≡ 0
none_take_none count none = rw none refl

-- at most as many as fit into a block take one
few_take_one : (count : ℕ) → 0 < count → count ≤ COUNT_LIMIT → blocks_for count ≡ 1
few_take_one count some few = ap (λ (n : ℕ). n / COUNT_LIMIT) (omega (arith, some)) ∙ div-mul-add 1 COUNT_LIMIT (count - 1) (omega (arith, some, few))

-- more take one more than those behind a full block
more_take_more : (count : ℕ) → COUNT_LIMIT < count → blocks_for count ≡ blocks_for (count - COUNT_LIMIT) + 1
more_take_more count more = ap (λ (n : ℕ). n / COUNT_LIMIT) (omega (arith, more)) ∙ add-div_right (count - COUNT_LIMIT + (COUNT_LIMIT - 1)) (omega arith)

-- entries take one block more than those behind their first block
one_block_less : (count first : ℕ) → 0 < count → first ≡ min count COUNT_LIMIT → blocks_for count ≡ blocks_for (count - first) + 1
one_block_less count first some is = elim (le_or_lt count COUNT_LIMIT) as (λ _. blocks_for count ≡ blocks_for (count - first) + 1) [
  | inl few ↦ omega (arith, few_take_one count some few, none_take_none (count - first) (omega (arith, few, is)))
  | inr more ↦ more_take_more count more ∙ ap (λ (n : ℕ). blocks_for (count - n) + 1) (omega (arith, more, is))
]

module _ {D : Type 0} (device : Device D) where
  -- a call that may have added a block leaves parts of the log
  moments_on : (v first : ℕ) (edges log : List Edge) (opened : D) (old : LogState D) (new : D) → Keeps device v first log opened (Sound old)
      → AreNext edges old.front log →
      LeavesOnly device old.disk new (IsBeforeOrAfter old.vertices (take old.front log) edges) → LeavesOnly device opened new (RecoversPart v first log)
  moments_on v first edges log opened old new keeps next leaves =
      joined device opened old.disk new (RecoversPart v first log) keeps.moments
      (weaker device old.disk new (IsBeforeOrAfter old.vertices (take old.front log) edges) (RecoversPart v first log)
      (λ image is. fewer v first old.front log image keeps.least (before_or_after v old.front edges log image next keeps.most
      (subst (λ (n : ℕ). IsBeforeOrAfter n (take old.front log) edges image) keeps.has.vertices_are is))) leaves)

  -- a block was appended
  pub keeps_longer : (edges : List Edge) (old new : LogState D) → IsLongerBy device edges old new →
      ((log : List Edge) → IsLog device old log → LeavesOnly device old.disk new.disk (IsBeforeOrAfter old.vertices log edges))
      → device.faults old.disk ≤ device.faults new.disk →
      KeepsOn device edges (Sound old) (Sound new)
  keeps_longer edges old new grown moments count = record {
    keeps = λ v first log opened keeps next.
        let stood = keeps.has.stands in
        record {
          has = record {
            stands = subst (IsLog device new) (longer edges old.front log next
                ∙ ap (λ (n : ℕ). take n log) (sym grown.so_many)) (grown.stands (take old.front log) stood);
            vertices_are = grown.vertices_are ∙ keeps.has.vertices_are;
            told = still_told (device.contents opened) (device.contents old.disk) (device.contents new.disk) keeps.has.told
                (grown.told (take old.front log) stood);
          };
          least = omega (arith, keeps.least, grown.so_many);
          most = rw grown.so_many (next_within edges old.front log next keeps.most);
          moments = moments_on v first edges log opened old new.disk keeps next (moments (take old.front log) stood);
          count = omega (arith, keeps.count, count);
        };
    no_less = omega (arith, grown.so_many);
    met_stays = λ met. absurd (let h : false ≡ true = met in cc);
  }

  -- that is one block
  pub one_block : (edges : List Edge) (old new : LogState D) → IsLongerBy device edges old new → IsOneBlock edges old new
  one_block edges old new grown = record {
    so_many = grown.so_many;
    vertices_are = grown.vertices_are;
    one_more = ap length grown.one_block ∙ length-append old.places (record { gate = old.gate; count = length edges } ∷ []);
  }

  -- a block was to be appended, and the disk failed
  pub keeps_spent : (edges : List Edge) (old : LogState D) (disk : D) → Rose (device.faults old.disk) (device.faults disk) → WasSpent device edges old disk →
      ((log : List Edge) → IsLog device old log → LeavesOnly device old.disk disk (IsBeforeOrAfter old.vertices log edges))
      → device.faults old.disk ≤ device.faults disk →
      KeepsOn device edges (Sound old) (Spent disk old.front)
  keeps_spent edges old disk rose spent moments count = record {
    keeps = λ v first log opened keeps next.
        let stood = keeps.has.stands in
        record {
          has = record {
            each = λ image is_image. before_or_after v old.front edges log image next keeps.most
                (subst (λ (n : ℕ). IsBeforeOrAfter n (take old.front log) edges image) keeps.has.vertices_are
                (spent.each (take old.front log) stood image is_image));
            told = still_told (device.contents opened) (device.contents old.disk) (device.contents disk) keeps.has.told spent.told;
            one = lost_one (device.contents old.disk) (device.contents disk) (device.images disk) old.vertices v
                (take old.front log) keeps.has.vertices_are spent.told (spent.one (take old.front log) stood);
            rose = rose_since (device.faults opened) (device.faults old.disk) (device.faults disk) keeps.count rose;
          };
          least = keeps.least;
          most = keeps.most;
          moments = moments_on v first edges log opened old disk keeps next (moments (take old.front log) stood);
          count = omega (arith, keeps.count, count);
        };
    no_less = omega arith;
    met_stays = λ met. refl;
  } where
    lost_one : (was now : Option (List ℕ)) (left : List ℕ → Type 0) (w v : ℕ) (log : List Edge) → w ≡ v → StaysTold (λ a b. Unit {0}) was now
        → IfSome was (λ bytes. HasImage left (File w log)) → IfSome now (λ bytes. HasImage left (Recovers v log))
    lost_one was None left w v log same tells one = tt
    lost_one None (Some now) left w v log same tells one = absurd (some_not_none now tells)
    lost_one (Some bytes) (Some now) left w v log same tells one =
        record { image = one.image; is_image = one.is_image; has = inr (subst (λ (n : ℕ). File n log one.image) same one.has) }

  -- the same, where a fault tells of the disk
  pub keeps_fault : (edges : List Edge) (old : LogState D) (fault : LogFault D) (disk : D) → fault ≡ faulty.Disk disk → Appends device edges old (Err fault) →
      ((log : List Edge) → IsLog device old log → LeavesOnly device old.disk (disk_after (Err fault)) (IsBeforeOrAfter old.vertices log edges))
      → device.faults old.disk ≤ device.faults (disk_after (Err fault)) →
      KeepsOn device edges (Sound old) (Spent disk old.front)
  keeps_fault edges old fault disk is answer moments count =
      let all = subst (λ (f : LogFault D). Appends device edges old (Err f)
      × ((log : List Edge) → IsLog device old log → LeavesOnly device old.disk (disk_after (Err f)) (IsBeforeOrAfter old.vertices log edges))
      × (device.faults old.disk ≤ device.faults (disk_after (Err f)))) is (answer, moments, count) in
      keeps_spent edges old disk all.0.0 all.0.1 all.1 all.2

  -- nothing was done
  pub keeps_same : (edges : List Edge) (journal : Journal D) → KeepsOn device edges journal journal
  keeps_same edges journal = record { keeps = λ v first log opened keeps next. keeps; no_less = omega arith; met_stays = λ met. met }

  -- one stretch of entries and then the next
  pub keeps_more : (first_edges more edges : List Edge) (old mid new : Journal D) → edges ≡ first_edges ++ more
      → journal_front mid ≡ journal_front old + length first_edges →
      KeepsOn device first_edges old mid → KeepsOn device more mid new → KeepsOn device edges old new
  keeps_more first_edges more edges old mid new are reach first second = record {
    keeps = λ v least log opened keeps next.
        let parts = next_parts first_edges more edges (journal_front old) log are next in
        second.keeps v least log opened (first.keeps v least log opened keeps parts.0) (subst (λ (n : ℕ). AreNext more n log) (sym reach) parts.1);
    no_less = omega (arith, first.no_less, second.no_less);
    met_stays = λ met. second.met_stays (first.met_stays met);
  }

  -- and what holds of the first stretch holds where only that was appended
  pub keeps_part : (first_edges more edges : List Edge) (old new : Journal D) → edges ≡ first_edges ++ more →
      KeepsOn device first_edges old new → KeepsOn device edges old new
  keeps_part first_edges more edges old new are on = record {
    keeps = λ v least log opened keeps next. on.keeps v least log opened keeps (next_parts first_edges more edges (journal_front old) log are next).0;
    no_less = on.no_less;
    met_stays = on.met_stays;
  }

  -- how far the entries were appended
  pub record IsFlushedTo (edges : List Edge) (old : Journal D) (rest : List Edge) (log : LogState D) : Type 0 where
    pub done : List Edge
    pub are : edges ≡ done ++ rest
    pub on : KeepsOn device done old (Sound log)
    pub reach : log.front ≡ journal_front old + length done
    pub blocks : length log.places + blocks_for (length rest) ≡ block_count old + blocks_for (length edges)
    pub can : CanAppend rest (Sound log)

  -- what can be appended, less a block
  can_later : (block later rest : List Edge) (old new : LogState D) → rest ≡ block ++ later → new.front ≡ old.front + length block
      → new.vertices ≡ old.vertices → CanAppend rest (Sound old) → CanAppend later (Sound new)
  can_later block later rest old new are reach vertices can =
      let total : length rest ≡ length block + length later = ap length are ∙ length-append block later in
      let ids : All (IsWithin old.vertices) later =
      subst (All (IsWithin old.vertices)) (drop-append_seam block later)
      (All-drop (IsWithin old.vertices) (length block) (block ++ later) (subst (All (IsWithin old.vertices)) are can.0)) in
      (rw vertices ids, omega (arith, can.1, total, reach))

  -- a block more was appended
  pub flushed_on : (edges block later rest : List Edge) (old : Journal D) (log new : LogState D) → rest ≡ block ++ later → IsFlushedTo edges old rest log →
      0 < length rest → length block ≡ min (length rest) COUNT_LIMIT → KeepsOn device block (Sound log) (Sound new) → IsOneBlock block log new
      → IsFlushedTo edges old later new
  flushed_on edges block later rest old log new are to some full on one = record {
    done = to.done ++ block;
    are = to.are ∙ ap (λ (l : List Edge). to.done ++ l) are ∙ sym (append_assoc to.done block later);
    on = keeps_more to.done block (to.done ++ block) old (Sound log) (Sound new) refl to.reach to.on on;
    reach = omega (arith, one.so_many, to.reach, length-append to.done block);
    blocks =
        let left : length later ≡ length rest - length block = omega (arith, ap length are, length-append block later) in
        omega (arith, to.blocks, one.one_more, one_block_less (length rest) (length block) some full, ap blocks_for left);
    can = can_later block later rest log new are one.so_many one.vertices_are to.can;
  }

  -- the next block was to be appended, and that was stopped
  pub flushed_stop : (edges block later rest : List Edge) (old new : Journal D) (log : LogState D) → rest ≡ block ++ later → IsFlushedTo edges old rest log →
      KeepsOn device block (Sound log) new → KeepsOn device edges old new
  flushed_stop edges block later rest old new log are to on =
      keeps_part (to.done ++ block) later edges old new (to.are ∙ ap (λ (l : List Edge). to.done ++ l) are ∙ sym (append_assoc to.done block later))
      (keeps_more to.done block (to.done ++ block) old (Sound log) new refl to.reach to.on on)

  -- a block can be appended
  pub can_block : (block later rest : List Edge) (log : LogState D) → rest ≡ block ++ later → CanAppend rest (Sound log) → CanAppend block (Sound log)
  can_block block later rest log are can =
      let total : length rest ≡ length block + length later = ap length are ∙ length-append block later in
      let ids : All (IsWithin log.vertices) block =
      subst (All (IsWithin log.vertices)) (take-append_seam block later)
      (All-take (IsWithin log.vertices) (length block) (block ++ later) (subst (All (IsWithin log.vertices)) are can.0)) in
      (ids, omega (arith, can.1, total))
