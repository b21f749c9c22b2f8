-- `are_same`: two lists of pins are compared pin by pin.
use Rattle.std.proofs.Common.{sym, ap, ◌∙◌}
use lib.Pointwise.{pointwise}
use Rattle.go_core.proofs.PinLaws.{same_pin, pins_same, same_pins}
use Rattle.go_core.proofs.successor.are_same.Goals as goal

pub returns : goal.returns
returns c =
    let xs = c.args.left.now in
    let ys = c.args.right.now in
    ((λ is. same_pins xs ys (sym c.eq.ensures ∙ is)), (λ same. c.eq.ensures ∙ ap (pointwise same_pin xs) (sym same) ∙ pins_same xs))
