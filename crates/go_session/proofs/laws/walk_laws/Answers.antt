-- The laws of walks.
use Rattle.go_session.proofs.LawLemmas.{fresh_alone, one_prefix}
use Rattle.go_session.proofs.StreamLemmas.{streamed}
use Rattle.go_session.proofs.laws.walk_laws.Goals as goal

pub returns-clause-alone : goal.returns-clause-alone
returns-clause-alone c = fresh_alone

pub returns-clause-one_prefix : goal.returns-clause-one_prefix
returns-clause-one_prefix c = one_prefix

pub returns-clause-streamed : goal.returns-clause-streamed
returns-clause-streamed c = streamed
