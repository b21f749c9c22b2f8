-- One place more.
use Rattle.go_api.specs.declared.place.Place.TheVariants.{Free}
use Rattle.go_plain.proofs.PlacesLemmas.{views_more}
use Rattle.go_plain.proofs.views.add_fronts.Goals as goal

pub loop-place-preserved : goal.loop-place-preserved
loop-place-preserved c =
    views_more c.args.places.now c.loop-place.place-index Free c.args.fronts.now.items c.loop-place.fronts.items c.add_front.new.fronts.items
    c.loop-place-test.true c.in_ok-add_front.ensures c.loop-place.invariant
