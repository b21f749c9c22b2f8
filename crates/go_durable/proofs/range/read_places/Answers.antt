-- The steps of `read_places`: a run more, and a read that failed.
use Rattle.std.proofs.Common.{ℕ, List, ◌-◌, sym, arith, subst}
use Rattle.std.specs.Prelude.{Option, IfSome}
use Rattle.go_word.specs.declared.edge.Edge.{Edge}
use Rattle.go_durable.specs.Moments.{LeavesOnly}
use Rattle.go_durable.specs.Ranging.{AddsRange}
use Rattle.go_durable.specs.Runs.{HasWords, gate_behind, place_of_word}
use Rattle.go_durable.specs.Writing.{IsThere}
use Rattle.go_durable.proofs.RangeSteps.{counts_join, if_both, leaves_more, looks_more, ranges_join, there_before}
use Rattle.go_durable.proofs.Runs.{run_bounds, next_has}
use Rattle.go_durable.proofs.range.read_places.Given.{Over}
use Rattle.go_durable.proofs.range.read_places.Goals.{After-read_run}
use Rattle.go_durable.proofs.range.read_places.Goals as goal

-- no image is new, up to the read of a run
moments : (g : Over) (c : After-read_run g) → IsThere (g.D.Disk.device.contents c.args.disk.now) (gate_behind c.args.places.now)
    → LeavesOnly g.D.Disk.device c.args.disk.now c.read_run.new.disk (g.D.Disk.device.images c.args.disk.now)
moments g c there =
    let device = g.D.Disk.device in
    let inv = c.loop-at.invariant in
    let run = c.run_from-run.result in
    let bounds = run_bounds c.args.places.now run c.run_from-run.ensures.is_run in
    let end : ℕ = place_of_word run.last run.upto in
    leaves_more device c.args.disk.now c.loop-at.disk c.read_run.new.disk inv.looks (inv.moments there)
    (c.read_run.ensures.moments (subst (λ (o : Option (List ℕ)). IsThere o end) (sym inv.looks.contents)
    (there_before (device.contents c.args.disk.now) end (gate_behind c.args.places.now) (omega (arith, bounds.blocks, bounds.entries)) there)))

pub returns-in_default-clause-moments : goal.returns-in_default-clause-moments
returns-in_default-clause-moments g c = λ there. moments g (goal.at.returns-in_default-clause-moments g c).After-read_run there

pub loop-at-preserved : goal.loop-at-preserved
loop-at-preserved g c =
    let device = g.D.Disk.device in
    let inv = c.loop-at.invariant in
    let places = c.args.places.now in
    let run = c.run_from-run.result in
    let runs = c.run_from-run.ensures in
    let old = c.args.out.now.items in
    let mid = c.loop-at.out.items in
    let new = c.read_run.new.out.items in
    let adds = c.in-Ok.ensures.added in
    let contents = device.contents c.args.disk.now in
    let Reads : ℕ → ℕ → List Edge → List Edge → List ℕ → Type 0 =
    λ a b before after file. (log : List Edge) → HasWords places file log → AddsRange log a b before after in
    record {
      place = record {
        from = omega (arith, inv.place.from, runs.from, runs.is_run.some);
        upto = omega (arith, runs.upto);
        next = λ left. next_has places run.last run.upto c.args.b c.requires.blocks.in_row c.requires.within runs.upto left;
      };
      words = omega (arith, inv.words, c.read_run.ensures.words);
      room = omega (arith, inv.room, c.read_run.ensures.room, adds.so_many, runs.from, runs.is_run.some, runs.upto);
      added = counts_join (c.loop-at.at - c.args.a) (run.upto - run.from) (run.upto - c.args.a) old mid new inv.added adds
          (omega (arith, inv.place.from, runs.from, runs.is_run.some));
      looks = looks_more device c.args.disk.now c.loop-at.disk c.read_run.new.disk inv.looks c.read_run.ensures.looks;
      moments = λ there. moments g (goal.at.loop-at-preserved g c).After-read_run there;
      shown = if_both contents (Reads c.args.a c.loop-at.at old mid) (Reads run.from run.upto mid new) (Reads c.args.a run.upto old new)
          (λ file first second log has. ranges_join log c.args.a c.loop-at.at run.upto old mid new inv.place.from
          (omega (arith, runs.from, runs.is_run.some)) (first log has)
          (subst (λ (k : ℕ). AddsRange log k run.upto mid new) runs.from (second log has)))
          inv.shown (subst (λ (o : Option (List ℕ)). IfSome o (Reads run.from run.upto mid new)) inv.looks.contents c.in-Ok.ensures.shown);
      faults = omega (arith, inv.faults, c.read_run.ensures.cause.later);
    }
