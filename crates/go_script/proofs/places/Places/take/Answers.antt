-- A place that is filled or freed is written.
use Rattle.go_script.proofs.PlaceLemmas.{Tells-fills, Tells-frees}
use Rattle.go_script.proofs.places.Places.take.Goals as goal

pub returns-in-Fills : goal.returns-in-Fills
returns-in-Fills c = λ before command tells uses.
    Tells-fills c.args.self.now.held c.in-Fills.place c.in-Fills.kind c.args.made before command tells uses c.in-Fills.is

pub returns-in-Frees : goal.returns-in-Frees
returns-in-Frees c = λ before command tells uses.
    Tells-frees c.args.self.now.held c.in-Frees.place c.in-Frees.kind c.args.made before command tells uses c.in-Frees.is
