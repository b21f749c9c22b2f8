-- The laws of logs on their disks: each by its lemma.
use Rattle.go_durable.proofs.Standing.{log_within, log_file, log_image, log_one}
use Rattle.go_durable.proofs.Places.{log_places}
use Rattle.go_durable.proofs.laws.log_laws.Goals as goal

pub returns-clause-within : goal.returns-clause-within
returns-clause-within g c = λ kept log is. log_within g.D.Disk.device kept log is

pub returns-clause-each_image : goal.returns-clause-each_image
returns-clause-each_image g c = λ kept log image is is_image. log_image g.D.Disk.device kept log image is is_image

pub returns-clause-an_image : goal.returns-clause-an_image
returns-clause-an_image g c = λ kept log bytes is told.
    (g.met.D.Disk.rules.contents_is_image kept.disk bytes told, log_file g.D.Disk.device kept log bytes is told)

pub returns-clause-one_log : goal.returns-clause-one_log
returns-clause-one_log g c = λ kept log other bytes told is also. log_one g.D.Disk.device kept log other bytes told is also

pub returns-clause-places : goal.returns-clause-places
returns-clause-places g c = λ kept log bytes i place is told at. log_places g.D.Disk.device kept log bytes i place is told at
