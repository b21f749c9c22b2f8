-- `split`: what the call picks.
use Rattle.go_rule.proofs.shares.split.Given as goal

abbrev pub ghosts-split_as : goal.ghosts-split_as
ghosts-split_as g a = record { quota = a._quota; lot = a._lot }
