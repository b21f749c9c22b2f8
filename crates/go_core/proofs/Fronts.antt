-- Stores of the fronts: a worker moves its front to at most what it took.
use Rattle.std.proofs.Common.{◌≡◌, ℕ, ◌+◌, ◌≤◌, ◌≢◌, Bool, true, false, List, set, sym, refl, ap, arith}
use Rattle.std.specs.Prelude.{count_by, slice_index, not}
use mathlib.Core.Option.{some}
use lib.ListN.{get_elem?}
use Rattle.go_word.specs.declared.edge.Edge.{Edge}
use Rattle.go_core.specs.declared.view.View.{View}
use Rattle.go_core.specs.Frame.{Frame, archived_in, durable_in, flag_in}
use Rattle.go_core.specs.View.{archiving, flushing}
use Rattle.go_core.specs.Fronts.{front_place, moving_front}
use Rattle.go_core.specs.Rule.{Knows, Moves, Works, TiedBy}
use Rattle.go_core.proofs.Totals.{bit_of, terms-le}
use Rattle.go_core.proofs.Onward.{sees_onward, owes_onward, owns_onward, reads_onward, moves_still}
use Rattle.go_core.proofs.Moved.{IsMoved, four_there, word_other, word_here, word_moved, word_keeps, flag_alike}
use Rattle.go_core.proofs.Loads.{still_live}

-- another party doesn't have a role that one has
pub other_role : (g : View → Bool) (views : List View) (i j : ℕ) (v u : View) → j ≢ i → get_elem? views i ≡ some v → get_elem? views j ≡ some u → g v ≡ true
    → count_by g views ≤ 1 → g u ≡ true → ⊥
other_role g views i j v u ne there at_j mine one theirs =
    let two : bit_of (g v) + bit_of (g u) ≤ count_by g views = terms-le (λ z. bit_of (g z)) views i j v u ne there at_j in
    let first : bit_of (g v) ≡ 1 = ap bit_of mine in
    let second : bit_of (g u) ≡ 1 = ap bit_of theirs in
    omega arith

-- who doesn't move a front needs not know it
pub moves_not : (front : ℕ) (role : Bool) (known taken : ℕ) → (role ≡ true → ⊥) → Moves front role known taken
moves_not front role known taken not = record { knows = λ is. absurd (not is); took = λ is. absurd (not is) }

-- the fronts that a view knows over other words, by which it knows and works as it has to
pub record KnownFronts (log : List Edge) (words' : List ℕ) (v : View) : Type 0 where
  pub archived : ℕ
  pub durable : ℕ
  pub knows : Knows log words' v.head archived durable
  pub works : Works words' v.archives v.flushes archived durable v.taken

-- a party stored a word over which the fronts lie at written positions, and of its view alone the known fronts changed
pub front_keeps : (f : Frame) (log : List Edge) (words : List ℕ) (views : List View) (i : ℕ) (v : View) (words' : List ℕ) (now : KnownFronts log words' v)
    → get_elem? views i ≡ some v → v.live ≡ true → IsMoved f log words views words' → flag_in words' ≡ flag_in words
    → ((j : ℕ) (u : View) → j ≢ i → get_elem? views j ≡ some u → Works words' u.archives u.flushes u.archived u.durable u.taken)
    → TiedBy f log words views → TiedBy f log words' (set views i (record v { archived = now.archived; durable = now.durable; fresh = false }))
front_keeps f log words views i v words' now there live moved flag others tied =
    let s = tied.seated i v there in
    let w : View = record v { archived = now.archived; durable = now.durable; fresh = false } in
    word_keeps f log words views i v w words' there (record { unfilled = λ p. refl; stands = λ p. refl; archives = refl; flushes = refl }) moved
    (record {
      raised = λ raised. omega arith;
      cause = flag_alike (flag_in words) (flag_in words') views i v w there (record { disk = refl; memory = refl }) flag tied.flag;
    })
    (λ on.
    record {
      ended = λ dead. still_live v _ live dead;
      takes = s.takes;
      sees = sees_onward f on v.seen v.marked s.sees;
      knows = now.knows;
      works = now.works;
      owes = owes_onward f on v.pending v.abandoned s.owes;
      owns = owns_onward f on v.own v.joined s.owns;
      reads = reads_onward f on v.marked v.loads s.reads;
    }) others tied

-- a live party stores a front, over at most what it took
module _ (f : Frame) (log : List Edge) (words : List ℕ) (views : List View) (i : ℕ) (v : View) (front : ℕ) (there : get_elem? views i ≡ some v)
    (live : v.live ≡ true) (tied : TiedBy f log words views) (to : front ≤ v.taken) where
  -- that front reads so then, and the other as it did
  stored_reads : (shard : Bool) → (slice_index (set words (front_place shard) front) (front_place shard) ≡ front)
      × (slice_index (set words (front_place shard) front) (front_place (not shard)) ≡ slice_index words (front_place (not shard)))
  stored_reads true = let long = four_there f log words views tied in (word_here words 1 front (omega arith), word_other words 1 2 front (λ e. omega arith))
  stored_reads false = let long = four_there f log words views tied in (word_here words 2 front (omega arith), word_other words 2 1 front (λ e. omega arith))

  -- from where it stands on, both fronts lie over written positions then
  stored_moves : (shard : Bool) → slice_index words (front_place shard) ≤ front → IsMoved f log words views (set words (front_place shard) front)
  stored_moves true from =
      let took = (tied.seated i v there).takes.to in
      let base = tied.ringed.shape.four_words in
      let here : archived_in (set words 1 front) ≡ front = (stored_reads true).0 in
      let other : durable_in (set words 1 front) ≡ durable_in words = (stored_reads true).1 in
      word_moved f log words views 1 front (omega arith) (omega arith) (omega arith) (omega arith)
      (λ p below. (tied.seated i v there).sees.written p (omega arith)) (λ p below. tied.ringed.durable.written p (omega arith))
  stored_moves false from =
      let took = (tied.seated i v there).takes.to in
      let base = tied.ringed.shape.four_words in
      let here : durable_in (set words 2 front) ≡ front = (stored_reads false).0 in
      let other : archived_in (set words 2 front) ≡ archived_in words = (stored_reads false).1 in
      word_moved f log words views 2 front (omega arith) (omega arith) (omega arith) (omega arith)
      (λ p below. tied.ringed.archived.written p (omega arith)) (λ p below. (tied.seated i v there).sees.written p (omega arith))

  -- the party knows that front, and works by it
  knows_mine : (shard : Bool)
      → Knows log (set words (front_place shard) front) v.head (moving_front shard front v).archived (moving_front shard front v).durable
  knows_mine true =
      let known = (tied.seated i v there).knows in
      let durable = known.durable_to in
      let here : archived_in (set words 1 front) ≡ front = (stored_reads true).0 in
      let other : durable_in (set words 1 front) ≡ durable_in words = (stored_reads true).1 in
      record { head_to = known.head_to; archived_to = omega arith; durable_to = omega arith }
  knows_mine false =
      let known = (tied.seated i v there).knows in
      let archived = known.archived_to in
      let here : durable_in (set words 2 front) ≡ front = (stored_reads false).0 in
      let other : archived_in (set words 2 front) ≡ archived_in words = (stored_reads false).1 in
      record { head_to = known.head_to; archived_to = omega arith; durable_to = omega arith }

  -- who moves the other front, which stands still, works as before
  durable_still : (u : View) → Works words u.archives u.flushes u.archived u.durable u.taken
      → Moves (durable_in (set words 1 front)) u.flushes u.durable u.taken
  durable_still u w =
      moves_still (durable_in words) (durable_in (set words 1 front)) u.flushes u.durable u.taken (λ _. (stored_reads true).1) w.flusher

  archived_still : (u : View) → Works words u.archives u.flushes u.archived u.durable u.taken
      → Moves (archived_in (set words 2 front)) u.archives u.archived u.taken
  archived_still u w =
      moves_still (archived_in words) (archived_in (set words 2 front)) u.archives u.archived u.taken (λ _. (stored_reads false).1) w.archiver

  works_mine : (shard : Bool)
      → Works (set words (front_place shard) front) v.archives v.flushes (moving_front shard front v).archived (moving_front shard front v).durable v.taken
  works_mine true =
      let here : archived_in (set words 1 front) ≡ front = (stored_reads true).0 in
      record { archiver = record { knows = λ _. sym here; took = λ _. omega arith }; flusher = durable_still v (tied.seated i v there).works }
  works_mine false =
      let here : durable_in (set words 2 front) ≡ front = (stored_reads false).0 in
      record { archiver = archived_still v (tied.seated i v there).works; flusher = record { knows = λ _. sym here; took = λ _. omega arith } }

  -- a store of the archived front
  pub archived_stored : v.archives ≡ true → archived_in words ≤ front → TiedBy f log (set words 1 front) (set views i (archiving front v))
  archived_stored role from =
      front_keeps f log words views i v (set words 1 front)
      (record { archived = front; durable = v.durable; knows = knows_mine true; works = works_mine true }) there live (stored_moves true from)
      (word_other words 1 3 front (λ e. omega arith))
      (λ j u ne at_j.
      record {
        archiver = moves_not (archived_in (set words 1 front)) u.archives u.archived u.taken
            (other_role (λ z. z.archives) views i j v u ne there at_j role tied.one_archiver);
        flusher = durable_still u (tied.seated j u at_j).works;
      }) tied

  -- a store of the durable front
  pub durable_stored : v.flushes ≡ true → durable_in words ≤ front → TiedBy f log (set words 2 front) (set views i (flushing front v))
  durable_stored role from =
      front_keeps f log words views i v (set words 2 front)
      (record { archived = v.archived; durable = front; knows = knows_mine false; works = works_mine false }) there live (stored_moves false from)
      (word_other words 2 3 front (λ e. omega arith))
      (λ j u ne at_j.
      record {
        archiver = archived_still u (tied.seated j u at_j).works;
        flusher = moves_not (durable_in (set words 2 front)) u.flushes u.durable u.taken
            (other_role (λ z. z.flushes) views i j v u ne there at_j role tied.one_flusher);
      }) tied
