-- The loop of `more_versions_than_lie_in_place_are_kept`.
use Rattle.std.proofs.Common.{◌≡◌, ◌+◌, ◌*◌, ◌<◌, ◌≤◌, All}
use Rattle.go_versions.proofs.versions.tests.more_versions_than_lie_in_place_are_kept.Given as goal

-- what is noted lies before the next version, and nothing is retired
abbrev pub invariant-loop-more : goal.invariant-loop-more
invariant-loop-more g l = All (λ v. v.front < 15 + 3 * l.more) l.versions.versions × All (λ v. v.count ≤ 7 + l.more) l.versions.versions
    × l.versions.retired ≡ 0
