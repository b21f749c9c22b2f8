-- The laws of one session's entries.
use Rattle.go_api.proofs.AloneLemmas.{Laid_alone, log_alone}
use Rattle.go_api.proofs.alone.laid_alone.Goals as goal

pub returns-clause-may : goal.returns-clause-may
returns-clause-may c = Laid_alone

pub returns-clause-must : goal.returns-clause-must
returns-clause-must c = log_alone
