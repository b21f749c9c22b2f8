-- Steps that leave the log and its slots: words may be written so that a front moves over written positions, and views may share what they have anew.
use Rattle.std.proofs.Common.{◌≡◌, ℕ, ◌+◌, ◌-◌, ◌%◌, ◌<◌, ◌≤◌, ◌≢◌, Bool, false, List, length, set, sym, refl, ap, ◌∙◌, ⊎_elim, arith, subst}
use Rattle.std.specs.Prelude.{sum_by, count_by, slice_index}
use Rattle.std.proofs.lemmas.Bool.{cases_lt}
use Rattle.std.proofs.Math.Nat.{add-mod_right}
use Rattle.std.proofs.lemmas.List.{length-set, get_or-set_same, get_or-set_other}
use mathlib.Core.Option.{some}
use lib.ListN.{get_elem?}
use Rattle.go_word.specs.declared.edge.Edge.{Edge}
use Rattle.go_word.specs.Word.{IsStorable, word, is_matched}
use Rattle.go_word.proofs.WordLaws.{is_matched-word_before}
use Rattle.go_core.specs.declared.view.View.{View}
use Rattle.go_core.specs.Frame.{Frame, place, slot, head_in, archived_in, durable_in, flag_in, released}
use Rattle.go_core.specs.View.{unfilled, stands}
use Rattle.go_core.specs.Rule.{owed, IsWritten, Ringed, Works, Seated, IsFlag, TiedBy}
use Rattle.go_core.proofs.Lookups.{lookup-some}
use Rattle.go_core.proofs.Totals.{bit_of, total-set}
use Rattle.go_core.proofs.Onward.{Onward, written_same, onward_same, seated_onward, each_set}

-- words of which neither the log's length nor a slot changed, and the fronts moved up to written positions
pub record IsMoved (f : Frame) (log : List Edge) (words : List ℕ) (views : List View) (words' : List ℕ) : Type 0 where
  pub as_many : length words' ≡ length words
  pub head : head_in words' ≡ head_in words
  pub slots : (p : ℕ) → slot f words' p ≡ slot f words p
  pub archived : archived_in words ≤ archived_in words'
  pub durable : durable_in words ≤ durable_in words'
  pub archived_written : (p : ℕ) → p < archived_in words' → IsWritten log views p
  pub durable_written : (p : ℕ) → p < durable_in words' → IsWritten log views p

-- the four shared words are there
pub four_there : (f : Frame) (log : List Edge) (words : List ℕ) (views : List View) → TiedBy f log words views → 4 < length words
four_there f log words views tied =
    let shape = tied.ringed.shape in
    let some_slots = shape.some_slots in
    let base = shape.four_words in
    let all = shape.all_words in
    omega arith

-- no word was written
pub moved_none : (f : Frame) (log : List Edge) (words : List ℕ) (views : List View) → Ringed f log words views → IsMoved f log words views words
moved_none f log words views r =
    record {
      as_many = refl;
      head = refl;
      slots = λ p. refl;
      archived = omega arith;
      durable = omega arith;
      archived_written = r.archived.written;
      durable_written = r.durable.written;
    }

-- a front up to written positions is within the log
pub within_log : (log : List Edge) (views : List View) (front : ℕ) → ((p : ℕ) → p < front → IsWritten log views p) → front ≤ length log
within_log log views front written =
    ⊎_elim (λ (over : length log < front). let less = (written (length log) over).within in absurd (omega arith)) (λ under. under) (cases_lt (length log) front)

-- a slot that a written position of the old window used is not yet matched for the next lap
pub next_lap : (f : Frame) (log : List Edge) (words : List ℕ) (views : List View) (p : ℕ)
    → ((q : ℕ) (e : Edge) → f.first ≤ q → get_elem? log q ≡ some e → IsStorable e)
    → Ringed f log words views → released words ≤ p → p < released words + f.slots → IsWritten log views p
    → is_matched f.slots (p + f.slots) (slot f words (p + f.slots)) ≡ false
next_lap f log words views p storable r from to written =
    let some_slots = r.shape.some_slots in
    let archived_from = r.archived.from in
    let durable_from = r.durable.from in
    let found = lookup-some log p written.within in
    let is : slot f words p ≡ word f.slots p found.0 = r.holds p found.0 from to written found.1 in
    let round : (p + f.slots) % f.slots ≡ p % f.slots = add-mod_right p f.slots in
    let same : slot f words (p + f.slots) ≡ slot f words p = ap (λ k. slice_index words (f.base + k)) round in
    ap (is_matched f.slots (p + f.slots)) (same ∙ is)
    ∙ is_matched-word_before f.slots p found.0 some_slots (storable p found.0 (omega arith) found.1)

-- a written position is within the window
pub written_inside : (f : Frame) (log : List Edge) (words : List ℕ) (views : List View) (p : ℕ) → Ringed f log words views → IsWritten log views p
    → p < released words + f.slots
written_inside f log words views p r written =
    let within = written.within in
    let filled = written.filled in
    ⊎_elim (λ less. less) (λ (far : released words + f.slots ≤ p). let owes : 0 < owed views p = r.beyond p far within in absurd (omega arith))
    (cases_lt p (released words + f.slots))

-- the clauses on the ring last where fronts move over written positions
pub ringed_moved : (f : Frame) (log : List Edge) (words : List ℕ) (views : List View) (words' : List ℕ)
    → ((q : ℕ) (e : Edge) → f.first ≤ q → get_elem? log q ≡ some e → IsStorable e)
    → IsMoved f log words views words' → Ringed f log words views → Ringed f log words' views
ringed_moved f log words views words' storable m r =
    let archived = m.archived in
    let durable = m.durable in
    let archived_from = r.archived.from in
    let durable_from = r.durable.from in
    let shape = r.shape in
    record {
      shape = record { some_slots = shape.some_slots; four_words = shape.four_words; all_words = m.as_many ∙ shape.all_words; head = m.head ∙ shape.head };
      archived = record { from = omega arith; to = within_log log views (archived_in words') m.archived_written; written = m.archived_written };
      durable = record { from = omega arith; to = within_log log views (durable_in words') m.durable_written; written = m.durable_written };
      beyond = λ p far within. r.beyond p (omega arith) within;
      holds = λ p e from to written there. m.slots p ∙ r.holds p e (omega arith) (written_inside f log words views p r written) written there;
      waits = λ p from to not.
          ap (is_matched f.slots p) (m.slots p)
          ∙ ⊎_elim (λ (old : p < released words + f.slots). r.waits p (omega arith) old not)
          (λ (new : released words + f.slots ≤ p).
          let q : ℕ = p - f.slots in
          let before : q < archived_in words' = omega arith in
          let written = m.archived_written q before in
          let is : q + f.slots ≡ p = omega arith in
          let unmatched : is_matched f.slots (q + f.slots) (slot f words (q + f.slots)) ≡ false =
          next_lap f log words views q storable r (omega arith) (written_inside f log words views q r written) written
          in
          ap (λ k. is_matched f.slots k (slot f words k)) (sym is) ∙ unmatched)
          (cases_lt p (released words + f.slots));
    }

-- the clauses on the ring last where the same positions are owed
pub ringed_same : (f : Frame) (log : List Edge) (words : List ℕ) (views views' : List View) → ((p : ℕ) → owed views' p ≡ owed views p)
    → Ringed f log words views → Ringed f log words views'
ringed_same f log words views views' same r =
    let forth : (p : ℕ) → IsWritten log views p → IsWritten log views' p = λ p written. written_same log views views' p (same p) written in
    record {
      shape = r.shape;
      archived = record { from = r.archived.from; to = r.archived.to; written = λ p below. forth p (r.archived.written p below) };
      durable = record { from = r.durable.from; to = r.durable.to; written = λ p below. forth p (r.durable.written p below) };
      beyond = λ p far within. let old : 0 < owed views p = r.beyond p far within in let e = same p in omega arith;
      holds = λ p e from to written there. r.holds p e from to (written_same log views' views p (sym (same p)) written) there;
      waits = λ p from to not. r.waits p from to (λ written. not (forth p written));
    }

-- other views that owe and have the same, and no more workers among them
pub record Regrouped (views views' : List View) : Type 0 where
  pub owed : (p : ℕ) → owed views' p ≡ owed views p
  pub stand : (p : ℕ) → sum_by (stands p) views' ≡ sum_by (stands p) views
  pub archivers : count_by (λ u. u.archives) views' ≤ count_by (λ u. u.archives) views
  pub flushers : count_by (λ u. u.flushes) views' ≤ count_by (λ u. u.flushes) views

-- the views are as they were
pub regrouped_none : (views : List View) → Regrouped views views
regrouped_none views = record { owed = λ p. refl; stand = λ p. refl; archivers = omega arith; flushers = omega arith }

-- words that moved, and views that each meet the rule, are tied as before
pub moved_keeps : (f : Frame) (log : List Edge) (words : List ℕ) (views : List View) (words' : List ℕ) (views' : List View) → IsMoved f log words views words'
    → Regrouped views views' → IsFlag (flag_in words') views' → ((j : ℕ) (u : View) → get_elem? views' j ≡ some u → Seated f log words' views' u)
    → TiedBy f log words views → TiedBy f log words' views'
moved_keeps f log words views words' views' moved same flag seats tied =
    record {
      ringed = ringed_same f log words' views views' same.owed (ringed_moved f log words views words' tied.storable moved tied.ringed);
      seated = seats;
      stand = record {
        once = λ p from to. same.stand p ∙ tied.stand.once p from to;
        before = λ p less. same.stand p ∙ tied.stand.before p less;
        after = λ p over. same.stand p ∙ tied.stand.after p over;
      };
      one_archiver = let fewer = same.archivers in let old = tied.one_archiver in omega arith;
      one_flusher = let fewer = same.flushers in let old = tied.one_flusher in omega arith;
      storable = tied.storable;
      flag = flag;
    }

-- views that share anew what they have, and each meet the rule as it was, are tied as before
pub regrouped : (f : Frame) (log : List Edge) (words : List ℕ) (views views' : List View) → Regrouped views views' → IsFlag (flag_in words) views'
    → ((j : ℕ) (u : View) → get_elem? views' j ≡ some u → Seated f log words views u) → TiedBy f log words views → TiedBy f log words views'
regrouped f log words views views' same flag seats tied =
    moved_keeps f log words views words views' (moved_none f log words views tied.ringed) same flag
    (λ j u at_j. let seat = seats j u at_j in seated_onward f (onward_same log words views views' same.owed) u seat.works seat) tied

-- a view of which nothing that is counted changed
pub record Alike (v w : View) : Type 0 where
  pub unfilled : (p : ℕ) → unfilled p w ≡ unfilled p v
  pub stands : (p : ℕ) → stands p w ≡ stands p v
  pub archives : w.archives ≡ v.archives
  pub flushes : w.flushes ≡ v.flushes

-- nor what it raised
pub record RaisedAlike (v w : View) : Type 0 where
  pub disk : w.disk_raised ≡ v.disk_raised
  pub memory : w.memory_raised ≡ v.memory_raised

-- a count stays where a view is replaced that counts the same
pub total_alike : (g : View → ℕ) (views : List View) (i : ℕ) (v w : View) → get_elem? views i ≡ some v → g w ≡ g v → sum_by g (set views i w) ≡ sum_by g views
total_alike g views i v w there same = let e : sum_by g (set views i w) + g v ≡ sum_by g views + g w = total-set g views i v w there in omega arith

pub count_alike : (g : View → Bool) (views : List View) (i : ℕ) (v w : View) → get_elem? views i ≡ some v → g w ≡ g v
    → count_by g (set views i w) ≡ count_by g views
count_alike g views i v w there same = total_alike (λ u. bit_of (g u)) views i v w there (ap bit_of same)

pub alike_regrouped : (views : List View) (i : ℕ) (v w : View) → get_elem? views i ≡ some v → Alike v w → Regrouped views (set views i w)
alike_regrouped views i v w there alike =
    let archivers : count_by (λ u. u.archives) (set views i w) ≡ count_by (λ u. u.archives) views = count_alike
    (λ u. u.archives) views i v w there alike.archives in
    let flushers : count_by (λ u. u.flushes) (set views i w) ≡ count_by (λ u. u.flushes) views = count_alike (λ u. u.flushes) views i v w there alike.flushes in
    record {
      owed = λ p. total_alike (unfilled p) views i v w there (alike.unfilled p);
      stand = λ p. total_alike (stands p) views i v w there (alike.stands p);
      archivers = omega arith;
      flushers = omega arith;
    }

-- the flag stays a raised cause where each cause is raised by some just where it was before
pub flag_kept : (flag : ℕ) (views views' : List View) → (count_by (λ v. v.disk_raised) views ≡ 0 → count_by (λ v. v.disk_raised) views' ≡ 0)
    → (0 < count_by (λ v. v.disk_raised) views → 0 < count_by (λ v. v.disk_raised) views')
    → (count_by (λ v. v.memory_raised) views ≡ 0 → count_by (λ v. v.memory_raised) views' ≡ 0)
    → (0 < count_by (λ v. v.memory_raised) views → 0 < count_by (λ v. v.memory_raised) views') → IsFlag flag views → IsFlag flag views'
flag_kept flag views views' no_disk some_disk no_memory some_memory old =
    record {
      known = old.known;
      none_disk = λ none. no_disk (old.none_disk none);
      none_memory = λ none. no_memory (old.none_memory none);
      disk = λ is. some_disk (old.disk is);
      memory = λ is. some_memory (old.memory is);
    }

-- so where one view is replaced that raised the same, over a flag that is the same
pub flag_alike : (flag flag' : ℕ) (views : List View) (i : ℕ) (v w : View) → get_elem? views i ≡ some v → RaisedAlike v w → flag' ≡ flag → IsFlag flag views
    → IsFlag flag' (set views i w)
flag_alike flag flag' views i v w there alike same old =
    let disks : count_by (λ u. u.disk_raised) (set views i w) ≡ count_by (λ u. u.disk_raised) views = count_alike
    (λ u. u.disk_raised) views i v w there alike.disk in
    let memories : count_by (λ u. u.memory_raised) (set views i w) ≡ count_by (λ u. u.memory_raised) views = count_alike
    (λ u. u.memory_raised) views i v w there alike.memory in
    subst (λ n. IsFlag n (set views i w)) (sym same)
    (flag_kept flag views (set views i w) (λ none. omega arith) (λ some'. omega arith) (λ none. omega arith) (λ some'. omega arith) old)

-- a view that counts the same and meets the rule may stand for another
pub view_keeps : (f : Frame) (log : List Edge) (words : List ℕ) (views : List View) (i : ℕ) (v w : View) → get_elem? views i ≡ some v → Alike v w
    → RaisedAlike v w
    → Seated f log words views w → TiedBy f log words views → TiedBy f log words (set views i w)
view_keeps f log words views i v w there alike raised seated tied =
    regrouped f log words views (set views i w) (alike_regrouped views i v w there alike)
    (flag_alike (flag_in words) (flag_in words) views i v w there raised refl tied.flag)
    (each_set (Seated f log words views) views i w seated (λ j u ne at_j. tied.seated j u at_j)) tied

-- a word that isn't written stays
pub word_other : (words : List ℕ) (i j n : ℕ) → j ≢ i → slice_index (set words i n) j ≡ slice_index words j
word_other words i j n ne = get_or-set_other words i j n 0 ne

-- a word that is written is what was written
pub word_here : (words : List ℕ) (i n : ℕ) → i < length words → slice_index (set words i n) i ≡ n
word_here words i n within = get_or-set_same words i n 0 within

-- a word is written that is neither the log's length nor a slot, and the fronts that stand then lie over written positions
pub word_moved : (f : Frame) (log : List Edge) (words : List ℕ) (views : List View) (k n : ℕ) → 0 < k → k < f.base
    → archived_in words ≤ archived_in (set words k n)
    → durable_in words ≤ durable_in (set words k n) → ((p : ℕ) → p < archived_in (set words k n) → IsWritten log views p)
    → ((p : ℕ) → p < durable_in (set words k n) → IsWritten log views p) → IsMoved f log words views (set words k n)
word_moved f log words views k n from to archived durable archived_written durable_written =
    record {
      as_many = length-set words k n;
      head = word_other words k 0 n (λ e. omega arith);
      slots = λ p. word_other words k (place f p) n (λ e. omega arith);
      archived = archived;
      durable = durable;
      archived_written = archived_written;
      durable_written = durable_written;
    }

-- a flag that was raised is raised still, and is a cause that a view raised
pub record FlagStays (words words' : List ℕ) (views' : List View) : Type 0 where
  pub raised : 0 < flag_in words → 0 < flag_in words'
  pub cause : IsFlag (flag_in words') views'

-- such a word was written by a party of which nothing that is counted changed: the others last where their fronts stand still
pub word_keeps : (f : Frame) (log : List Edge) (words : List ℕ) (views : List View) (i : ℕ) (v w : View) (words' : List ℕ) → get_elem? views i ≡ some v
    → Alike v w → IsMoved f log words views words' → FlagStays words words' (set views i w)
    → (Onward log words views log words' (set views i w) → Seated f log words' (set views i w) w)
    → ((j : ℕ) (u : View) → j ≢ i → get_elem? views j ≡ some u → Works words' u.archives u.flushes u.archived u.durable u.taken)
    → TiedBy f log words views → TiedBy f log words' (set views i w)
word_keeps f log words views i v w words' there alike moved flag mine others tied =
    let same = alike_regrouped views i v w there alike in
    let on : Onward log words views log words' (set views i w) =
    record {
      longer = omega arith;
      of_log = λ p e is. is;
      written = λ p written. written_same log views (set views i w) p (same.owed p) written;
      archived = moved.archived;
      durable = moved.durable;
      flag = flag.raised;
    }
    in
    moved_keeps f log words views words' (set views i w) moved same flag.cause
    (each_set (Seated f log words' (set views i w)) views i w (mine on) (λ j u ne at_j. seated_onward f on u (others j u ne at_j) (tied.seated j u at_j))) tied
