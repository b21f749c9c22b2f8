-- `claim`: what the call picks.
use Rattle.go_rule.proofs.steps.claim.Given as goal

abbrev pub ghosts-claim_as : goal.ghosts-claim_as
ghosts-claim_as g a = record { edges = a.edges.now }
