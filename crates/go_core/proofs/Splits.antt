-- A party that is split in two, and two that are joined.
use Rattle.std.proofs.Common.{◌≡◌, ℕ, ◌+◌, ◌<◌, ◌≤◌, ◌≢◌, Bool, true, false, List, [], ◌∷◌, ◌++◌, length, set, refl, ap, ◌∙◌, ⊎_elim, arith, subst}
use Rattle.std.specs.Prelude.{sum_by, count_by, ◌||◌, ◌&&◌, not}
use Rattle.std.proofs.lemmas.Bool.{cases_lt, false≢true}
use Rattle.std.proofs.lemmas.List.{length-append}
use Rattle.std.proofs.lemmas.List.Sums.{sum_by_push, sum_by-append, sum_by-cons}
use Rattle.std.proofs.lemmas.List.Elements.{All-nil, All-append, All-cons}
use mathlib.Core.Option.{some}
use lib.ListN.{get_elem?}
use Rattle.go_word.specs.declared.edge.Edge.{Edge}
use Rattle.go_core.specs.declared.entry.Entry.{Entry}
use Rattle.go_core.specs.declared.view.View.{View}
use Rattle.go_core.specs.Frame.{Frame, archived_in, durable_in, flag_in}
use Rattle.go_core.specs.View.{count_at, unfilled, stands, spent, unmoved, split_off, sharing_out, shared_off, joining}
use Rattle.go_core.specs.Rule.{IsOf, owed, IsWritten, AreOwn, IsSound, Moves, Works, Owes, Owns, Seated, TiedBy}
use Rattle.go_core.proofs.Lookups.{lookup-set_other, lookup-last}
use Rattle.go_core.proofs.Totals.{bit_of, total-set, terms-le}
use Rattle.go_core.proofs.Entries.{count_at-append}
use Rattle.go_core.proofs.Onward.{each_set}
use Rattle.go_core.proofs.Moved.{flag_kept, regrouped}
use Rattle.go_core.proofs.Loads.{still_live, unmoved_seated, below_max}
use Rattle.go_core.proofs.Fronts.{moves_not}

-- two views that share out what one has
pub record IsShared (v left right : View) : Type 0 where
  pub unfilled : (p : ℕ) → unfilled p left + unfilled p right ≡ unfilled p v
  pub stands : (p : ℕ) → stands p left + stands p right ≡ stands p v
  pub archives : bit_of left.archives + bit_of right.archives ≡ bit_of v.archives
  pub flushes : bit_of left.flushes + bit_of right.flushes ≡ bit_of v.flushes
  pub disk_raised : bit_of left.disk_raised + bit_of right.disk_raised ≡ bit_of v.disk_raised
  pub memory_raised : bit_of left.memory_raised + bit_of right.memory_raised ≡ bit_of v.memory_raised

-- a sum stays where two views share out a term
total_shared : (g : View → ℕ) (views : List View) (i : ℕ) (v left right : View) → get_elem? views i ≡ some v → g left + g right ≡ g v
    → sum_by g (set views i left ++ right ∷ []) ≡ sum_by g views
total_shared g views i v left right there share =
    let e : sum_by g (set views i left) + g v ≡ sum_by g views + g left = total-set g views i v left there in
    let push : sum_by g (set views i left ++ right ∷ []) ≡ sum_by g (set views i left) + g right = sum_by_push g (set views i left) right in
    omega arith

-- a view is shared out between its party and a new one
pub shared_keeps : (f : Frame) (log : List Edge) (words : List ℕ) (views : List View) (i : ℕ) (v left right : View) → get_elem? views i ≡ some v
    → IsShared v left right
    → Seated f log words views left → Seated f log words views right → TiedBy f log words views → TiedBy f log words (set views i left ++ right ∷ [])
shared_keeps f log words views i v left right there share seated_left seated_right tied =
    let views' = set views i left ++ right ∷ [] in
    let count : (g : View → Bool) → bit_of (g left) + bit_of (g right) ≡ bit_of (g v) → count_by g views' ≡ count_by g views = λ g same.
    total_shared (λ u. bit_of (g u)) views i v left right there same
    in
    let archivers = count (λ u. u.archives) share.archives in
    let flushers = count (λ u. u.flushes) share.flushes in
    let disks = count (λ u. u.disk_raised) share.disk_raised in
    let memories = count (λ u. u.memory_raised) share.memory_raised in
    regrouped f log words views views'
    (record {
      owed = λ p. total_shared (unfilled p) views i v left right there (share.unfilled p);
      stand = λ p. total_shared (stands p) views i v left right there (share.stands p);
      archivers = omega arith;
      flushers = omega arith;
    })
    (flag_kept (flag_in words) views views' (λ none. omega arith) (λ some'. omega arith) (λ none. omega arith) (λ some'. omega arith) tied.flag)
    (λ j u at_j.
    ⊎_elim (λ old. each_set (Seated f log words views) views i left seated_left (λ k z ne at_k. tied.seated k z at_k) j u old)
    (λ new. subst (λ z. Seated f log words views z) new seated_right) (lookup-last (set views i left) right u j at_j))
    tied

-- a list of no own entries
pub own_none : (log : List Edge) (views : List View) → AreOwn log views []
own_none log views = record { rising = λ i j d less within. omega arith; of_log = All-nil (IsOf log); written = All-nil (λ x. IsWritten log views x.at) }

-- a view that owes and owns nothing
pub owes_none : (log : List Edge) (flag : ℕ) → Owes log flag [] []
owes_none log flag = record { pending_of = All-nil (IsOf log); abandoned_of = All-nil (IsOf log); flagged = λ some'. absurd (omega arith) }

pub owns_none : (log : List Edge) (views : List View) → Owns log views [] []
owns_none log views = record { own = own_none log views; joined = All-nil (AreOwn log views) }

-- a party that moves no front
pub works_none : (words : List ℕ) (archived durable taken : ℕ) → Works words false false archived durable taken
works_none words archived durable taken =
    record { archiver = moves_not (archived_in words) false archived taken false≢true; flusher = moves_not (durable_in words) false durable taken false≢true }

-- what a new party has meets the rule, which is split off from a live one
pub seated_split_off : (f : Frame) (log : List Edge) (words : List ℕ) (views : List View) (v : View) → v.live ≡ true → Seated f log words views v
    → Seated f log words views (split_off v)
seated_split_off f log words views v live s =
    record {
      ended = λ dead. still_live v _ live dead;
      takes = s.takes;
      sees = s.sees;
      knows = s.knows;
      works = works_none words v.archived v.durable v.taken;
      owes = owes_none log (flag_in words);
      owns = owns_none log views;
      reads = All-nil (IsSound f log words views v.marked);
    }

-- a new party is split off
pub split_keeps : (f : Frame) (log : List Edge) (words : List ℕ) (views : List View) (i : ℕ) (v : View) → get_elem? views i ≡ some v → v.live ≡ true
    → TiedBy f log words views → TiedBy f log words (set views i (unmoved v) ++ split_off v ∷ [])
split_keeps f log words views i v there live tied =
    let s = tied.seated i v there in
    shared_keeps f log words views i v (unmoved v) (split_off v) there
    (record {
      unfilled = λ p. omega arith;
      stands = λ p. omega arith;
      archives = omega arith;
      flushes = omega arith;
      disk_raised = omega arith;
      memory_raised = omega arith;
    })
    (unmoved_seated f log words views v live s) (seated_split_off f log words views v live s) tied

-- a role is shared out between two: the one keeps it, or the other has it
role_shared : (flushes archives : Bool) → bit_of (flushes && not archives) + bit_of (flushes && archives) ≡ bit_of flushes
role_shared true true = refl
role_shared true false = refl
role_shared false archives = refl

role_left : (flushes other : Bool) → (flushes && other) ≡ true → flushes ≡ true
role_left true other is = refl
role_left false other is = is

-- a front that its mover moves, one with less of a role may move
moves_less : (front : ℕ) (role other : Bool) (known taken : ℕ) → Moves front role known taken → Moves front (role && other) known taken
moves_less front role other known taken m = record { knows = λ is. m.knows (role_left role other is); took = λ is. m.took (role_left role other is) }

-- a new party is split off, and who moves both fronts gives the durable one away to it
pub shared_out : (f : Frame) (log : List Edge) (words : List ℕ) (views : List View) (i : ℕ) (v : View) → get_elem? views i ≡ some v → v.live ≡ true
    → TiedBy f log words views → TiedBy f log words (set views i (sharing_out v) ++ shared_off v ∷ [])
shared_out f log words views i v there live tied =
    let s = tied.seated i v there in
    let new = seated_split_off f log words views v live s in
    let role = role_shared v.flushes v.archives in
    shared_keeps f log words views i v (sharing_out v) (shared_off v) there
    (record {
      unfilled = λ p. omega arith;
      stands = λ p. omega arith;
      archives = omega arith;
      flushes = role;
      disk_raised = omega arith;
      memory_raised = omega arith;
    })
    (record {
      ended = λ dead. still_live v _ live dead;
      takes = s.takes;
      sees = s.sees;
      knows = s.knows;
      works = record { archiver = s.works.archiver; flusher = moves_less (durable_in words) v.flushes (not v.archives) v.durable v.taken s.works.flusher };
      owes = s.owes;
      owns = s.owns;
      reads = s.reads;
    })
    (record {
      ended = λ dead. still_live v _ live dead;
      takes = new.takes;
      sees = new.sees;
      knows = new.knows;
      works = record { archiver = new.works.archiver; flusher = moves_less (durable_in words) v.flushes v.archives v.durable v.taken s.works.flusher };
      owes = new.owes;
      owns = new.owns;
      reads = new.reads;
    }) tied

-- a view that has nothing meets the rule
pub seated_spent : (f : Frame) (log : List Edge) (words : List ℕ) (views : List View) → Seated f log words views spent
seated_spent f log words views =
    record {
      ended = λ dead. refl;
      takes = record { from = λ live. absurd (false≢true live); to = omega arith };
      sees = record { marked_to = omega arith; written = λ p less. absurd (omega arith) };
      knows = record { head_to = omega arith; archived_to = omega arith; durable_to = omega arith };
      works = works_none words 0 0 0;
      owes = owes_none log (flag_in words);
      owns = owns_none log views;
      reads = All-nil (IsSound f log words views 0);
    }

-- a sum where one view takes over what another has, which has nothing then
pub total_joined : (g : View → ℕ) (views : List View) (i j : ℕ) (v other both : View) → j ≢ i → get_elem? views i ≡ some v → get_elem? views j ≡ some other
    → g spent ≡ 0
    → sum_by g (set (set views i both) j spent) + g v + g other ≡ sum_by g views + g both
total_joined g views i j v other both ne there at_j nothing =
    let first : sum_by g (set views i both) + g v ≡ sum_by g views + g both = total-set g views i v both there in
    let second : sum_by g (set (set views i both) j spent) + g other ≡ sum_by g (set views i both) + g spent =
    total-set g (set views i both) j other spent (lookup-set_other views i j both ne ∙ at_j)
    in
    omega arith

-- where either of two raised a cause, their join has raised it
either_raised : (a b : Bool) → (bit_of a ≤ bit_of (a || b)) × (bit_of b ≤ bit_of (a || b)) × (bit_of (a || b) ≤ bit_of a + bit_of b)
either_raised true true = (omega arith, omega arith, omega arith)
either_raised true false = (omega arith, omega arith, omega arith)
either_raised false true = (omega arith, omega arith, omega arith)
either_raised false false = (omega arith, omega arith, omega arith)

-- the join of two parties: what the one takes over counts as before
pub joined_unfilled : (p : ℕ) (v other : View) → other.pending ≡ [] → unfilled p (joining v other) ≡ unfilled p v + unfilled p other
joined_unfilled p v other none =
    let abandoned : count_at p
    (v.abandoned ++ other.abandoned) ≡ count_at p v.abandoned + count_at p other.abandoned = count_at-append p v.abandoned other.abandoned in
    let pending : count_at p other.pending ≡ 0 = ap (count_at p) none in
    omega arith

pub joined_stands : (p : ℕ) (v other : View) → other.pending ≡ [] → stands p (joining v other) ≡ stands p v + stands p other
joined_stands p v other none =
    let owed = joined_unfilled p v other none in
    let lists : sum_by (count_at p) (v.joined ++ other.own ∷ other.joined) ≡ sum_by (count_at p) v.joined + sum_by (count_at p) (other.own ∷ other.joined) =
    sum_by-append (count_at p) v.joined (other.own ∷ other.joined)
    in
    let own : sum_by (count_at p) (other.own ∷ other.joined) ≡ count_at p other.own + sum_by (count_at p) other.joined = sum_by-cons
    (count_at p) other.own other.joined in
    omega arith

-- entries were given up under a raised flag
either_flagged : (flag : ℕ) (one two : List Entry) → (0 < length one → 0 < flag) → (0 < length two → 0 < flag) → 0 < length (one ++ two) → 0 < flag
either_flagged flag one two mine theirs some' =
    let many = length-append one two in
    ⊎_elim (λ (first : 0 < length one). mine first) (λ (none : length one ≤ 0). theirs (omega arith)) (cases_lt 0 (length one))

-- the view of a live party into which another was joined
joined_seated : (f : Frame) (log : List Edge) (words : List ℕ) (views : List View) (v other : View) → v.live ≡ true → Seated f log words views v
    → Seated f log words views other → Seated f log words views (joining v other)
joined_seated f log words views v other live s t =
    let taken = s.takes.to in
    let mine = s.knows in
    let theirs = t.knows in
    let head_v = mine.head_to in
    let head_other = theirs.head_to in
    let archived_v = mine.archived_to in
    let archived_other = theirs.archived_to in
    let durable_v = mine.durable_to in
    let durable_other = theirs.durable_to in
    record {
      ended = λ dead. still_live v _ live dead;
      takes = record { from = s.takes.from; to = omega arith };
      sees = record {
        marked_to = let noted = s.sees.marked_to in omega arith;
        written = λ p less. ⊎_elim (λ seen. s.sees.written p seen) (λ seen. t.sees.written p seen) (below_max p v.seen other.seen less);
      };
      knows = record { head_to = omega arith; archived_to = omega arith; durable_to = omega arith };
      works = record {
        archiver = record { knows = λ role. let same = s.works.archiver.knows role in omega arith; took = s.works.archiver.took };
        flusher = record { knows = λ role. let same = s.works.flusher.knows role in omega arith; took = s.works.flusher.took };
      };
      owes = record {
        pending_of = s.owes.pending_of;
        abandoned_of = All-append (IsOf log) v.abandoned other.abandoned s.owes.abandoned_of t.owes.abandoned_of;
        flagged = either_flagged (flag_in words) v.abandoned other.abandoned s.owes.flagged t.owes.flagged;
      };
      owns = record {
        own = s.owns.own;
        joined = All-append (AreOwn log views) v.joined (other.own ∷ other.joined) s.owns.joined
            (All-cons (AreOwn log views) other.own other.joined t.owns.own t.owns.joined);
      };
      reads = s.reads;
    }

-- another party is joined in, which owes no word that it could still store; a front that it moved, nobody moves then
pub join_keeps : (f : Frame) (log : List Edge) (words : List ℕ) (views : List View) (i j : ℕ) (v other : View) → j ≢ i → get_elem? views i ≡ some v
    → get_elem? views j ≡ some other → v.live ≡ true → other.pending ≡ [] → TiedBy f log words views
    → TiedBy f log words (set (set views i (joining v other)) j spent)
join_keeps f log words views i j v other ne there at_j live pending tied =
    let both = joining v other in
    let views' = set (set views i both) j spent in
    let count : (g : View → Bool) → g spent ≡ false → count_by g views' + bit_of (g v) + bit_of (g other) ≡ count_by g views + bit_of (g both) = λ g none.
    total_joined (λ u. bit_of (g u)) views i j v other both ne there at_j (ap bit_of none)
    in
    let within : (g : View → Bool) → bit_of (g v) + bit_of (g other) ≤ count_by g views = λ g. terms-le (λ u. bit_of (g u)) views i j v other ne there at_j in
    let archivers = count (λ u. u.archives) refl in
    let flushers = count (λ u. u.flushes) refl in
    let disks = count (λ u. u.disk_raised) refl in
    let memories = count (λ u. u.memory_raised) refl in
    let two_disks = within (λ u. u.disk_raised) in
    let two_memories = within (λ u. u.memory_raised) in
    let disk = either_raised v.disk_raised other.disk_raised in
    let memory = either_raised v.memory_raised other.memory_raised in
    regrouped f log words views views'
    (record {
      owed = λ p.
          (let e : owed views' p + unfilled p v + unfilled p other ≡ owed views p + unfilled p both = total_joined
          (unfilled p) views i j v other both ne there at_j refl in
          let m = joined_unfilled p v other pending in
          omega arith);
      stand = λ p.
          (let e : sum_by (stands p) views' + stands p v + stands p other ≡ sum_by (stands p) views + stands p both = total_joined
          (stands p) views i j v other both ne there at_j refl in
          let m = joined_stands p v other pending in
          omega arith);
      archivers = omega arith;
      flushers = omega arith;
    })
    (flag_kept (flag_in words) views views' (λ none. omega arith) (λ some'. omega arith) (λ none. omega arith) (λ some'. omega arith) tied.flag)
    (each_set (Seated f log words views) (set views i both) j spent (seated_spent f log words views)
    (λ k u gone at_k.
    each_set (Seated f log words views) views i both (joined_seated f log words views v other live (tied.seated i v there) (tied.seated j other at_j))
    (λ l z ne' at_l. tied.seated l z at_l) k u at_k))
    tied
