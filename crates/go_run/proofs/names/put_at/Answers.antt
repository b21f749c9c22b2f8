-- A place among some.
use Rattle.std.proofs.Common.{Some, option_copied}
use Rattle.std.proofs.lemmas.List.{map-set}
use Rattle.go_run.proofs.names.put_at.Goals as goal

pub returns : goal.returns
returns c = map-set option_copied c.args.places.now c.args.place (Some c.args.name)
