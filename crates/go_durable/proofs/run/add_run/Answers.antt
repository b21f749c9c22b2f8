-- The loop of `add_run`: where the words of a block stand in the bytes of the run, and a block more.
use Rattle.std.proofs.Common.{◌≡◌, ℕ, ◌+◌, ◌-◌, ◌*◌, ◌≤◌, ◌++◌, length, ap, subst, length-append, arith}
use Rattle.std.specs.Prelude.{min, take, drop}
use Rattle.go_durable.specs.LogState.{entries_at}
use Rattle.go_durable.specs.Ranging.{HasEntry, AddsRange, entries_in}
use Rattle.go_durable.proofs.Ranges.{length-entries_in}
use Rattle.go_durable.proofs.RangeSteps.{ranges_join, count_added, counts_join}
use Rattle.go_durable.proofs.Runs.{not_behind, run_bounds, next_has, IsPiece, piece_added}
use Rattle.go_durable.proofs.run.add_run.Goals.{After-word_at}
use Rattle.go_durable.proofs.run.add_run.Goals as goal

-- the block of this number has the next entry
here : (c : After-word_at) → HasEntry c.args.places.now c.loop-at.number c.loop-at.at
here c = c.loop-at.invariant.place.next c.loop-at-test.true

-- it isn't before the first block of the run
not_before : (c : After-word_at) → c.args.run.first ≤ c.loop-at.number
not_before c =
    not_behind c.args.places.now c.args.run.first c.loop-at.number c.args.run.from c.requires.run.begins
    (omega (arith, c.loop-at.invariant.place.from, (here c).ends))

-- and not behind the last
not_after : (c : After-word_at) → c.loop-at.number ≤ c.args.run.last
not_after c =
    not_behind c.args.places.now c.loop-at.number c.args.run.last c.loop-at.at (here c)
    (omega (arith, c.loop-at-test.true, (run_bounds c.args.places.now c.args.run c.requires.run).ends))

pub overflow_sub-skipped : goal.overflow_sub-skipped
overflow_sub-skipped c = omega (arith, c.word_at.ensures, c.word_at-start.ensures, c.loop-at.invariant.place.from, not_before c)

-- the words end where the run does, or before
pub slice_bounds-add_entries-end : goal.slice_bounds-add_entries-end
slice_bounds-add_entries-end c =
    omega (arith, c.word_at.ensures, c.word_at-start.ensures, c.min-next.ensures, c.requires.bytes, not_before c, not_after c, c.loop-at.invariant.place.from)

pub loop-at-preserved : goal.loop-at-preserved
loop-at-preserved c =
    let inv = c.loop-at.invariant in
    let places = c.args.places.now in
    let run = c.args.run in
    let bytes = c.args.bytes.now in
    let i = c.loop-at.number in
    let at = c.loop-at.at in
    let next = c.min-next.result in
    let n = next - at in
    let skip = c.word_at.result - c.word_at-start.result in
    let old = c.args.out.now.items in
    let mid = c.loop-at.out.items in
    let new = c.add_entries.new.out.items in
    let at_word = (goal.at.loop-at-preserved c).After-word_at in
    let next_is : next ≡ min run.upto (entries_at (take (i + 1) places)) = omega (arith, c.min-next.ensures, c.entries_up_to.ensures) in
    let on : at + n ≡ next = omega (arith, next_is, (here at_word).ends, c.loop-at-test.true) in
    let size : skip + 8 * n - skip ≡ 8 * n = omega arith in
    let added : new ≡ mid ++ entries_in n (take (8 * n) (drop skip bytes)) =
    subst (λ (k : ℕ). new ≡ mid ++ entries_in n (take k (drop skip bytes))) size c.add_entries.ensures.added in
    let many = length-entries_in n (take (8 * n) (drop skip bytes)) in
    let piece : IsPiece places run bytes i at n skip = record {
      here = here at_word;
      ends = omega (arith, on, next_is);
      stands = omega (arith, c.word_at.ensures, c.word_at-start.ensures, inv.place.from, not_before at_word);
      long = omega (arith, slice_bounds-add_entries-end at_word);
    } in
    record {
      place = record {
        from = omega (arith, inv.place.from, on);
        upto = omega (arith, next_is);
        next = λ left. next_has places i next run.upto c.requires.blocks.in_row (run_bounds places run c.requires.run).entries next_is left;
      };
      room = omega (arith, inv.room, c.add_entries.ensures.room, ap length added, length-append mid (entries_in n (take (8 * n) (drop skip bytes))), many, on);
      added = counts_join (at - run.from) n (next - run.from) old mid new inv.added (count_added n mid new _ added many) (omega (arith, inv.place.from, on));
      shown = λ file log has shows.
          ranges_join log run.from at next old mid new inv.place.from (omega (arith, on)) (inv.shown file log has shows)
          (subst (λ (k : ℕ). AddsRange log at k mid new) on (piece_added places run bytes i at n skip piece file log mid new has shows added));
      capacity = omega (arith, inv.capacity, c.add_entries.ensures.room);
    }
