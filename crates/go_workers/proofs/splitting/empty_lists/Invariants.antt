-- The loop of `empty_lists`.
use Rattle.std.proofs.Common.{◌≡◌, [], map, replicate}
use Rattle.go_workers.proofs.splitting.empty_lists.Given as goal

-- as many empty lists as turns
abbrev pub invariant-loop : goal.invariant-loop
invariant-loop l = map (λ list. list.items) l.lists.items ≡ replicate l.counter []
