-- The depth so far, and one level more.
use Rattle.std.proofs.Common.{◌≡◌, ℕ, ◌<◌, ◌+◌, get_or, take, sym, ◌∙◌, subst, arith}
use Rattle.std.specs.Prelude.{Some, None}
use Rattle.go_kernels.specs.Depth.{IsDepth}
use Rattle.go_kernels.proofs.CountLemmas.{depth-kept, depth-more, some-same}
use Rattle.go_kernels.proofs.counting.depth_of.Goals.{in-Some+then-depth-level, in-Some+else-depth-level, in_default}
use Rattle.go_kernels.proofs.counting.depth_of.Goals as goal

pub loop-level-preserved : goal.loop-level-preserved
loop-level-preserved c =
    let levels = c.args.levels.now in
    let i = c.loop-level.level-index in
    let so_far = c.loop-level.invariant in
    let within = c.loop-level-test.true in
    elim c.match-level.branch [
      | in-Some+then-depth-level w ↦
          subst (λ (d : ℕ). IsDepth (take (i + 1) levels) d) (sym w.depth-is)
          (depth-more levels i c.loop-level.depth w.in-Some.level within w.in-Some.is w.if-depth-level.true so_far)
      | in-Some+else-depth-level w ↦
          subst (λ (d : ℕ). IsDepth (take (i + 1) levels) d) (sym w.depth-is)
          (depth-kept levels i c.loop-level.depth within
          (λ n at. let same : w.in-Some.level ≡ n = some-same w.in-Some.level n (sym w.in-Some.is ∙ at) in
          let below = w.if-depth-level.false in omega arith)
          so_far)
      | in_default w ↦
          subst (λ (d : ℕ). IsDepth (take (i + 1) levels) d) (sym w.depth-is)
          (depth-kept levels i c.loop-level.depth within (λ n at. absurd (w.in_default.not-Some n at)) so_far)
    ]
