-- What a read gives is an image, and so are the stable bytes.
use Rattle.std.proofs.Common.{◌≡◌, List, ℕ, ◌++◌, sym, ◌∙◌, ap, subst}
use Rattle.go_disk.specs.ImageLaws.{contents_is_one, at_rest}
use Rattle.go_disk.specs.MemDisk.{Tape, contents_of, stable_after, spans_after, ImageAfter}
use Rattle.go_disk.proofs.mem_disk.MemDisk.image.Goals as goal

pub returns-then-pick-eq1-clause-image : goal.returns-then-pick-eq1-clause-image
returns-then-pick-eq1-clause-image c =
    let is : c.extend_from_slice.new.self.items ≡ contents_of c.args.self.now =
    c.in_ok-extend_from_slice.ensures.items ∙ ap (λ (l : List ℕ). l ++ c.deref.result.now) c.clear.ensures.items ∙ c.deref.ensures.value
    ∙ c.self.invariant.contents.bytes ∙ ap contents_of c.self.view_is in
    subst (ImageAfter c.args.self.now.first c.args.self.now.steps) (sym is) (contents_is_one c.args.self.now.first c.args.self.now.steps)

pub returns-then-pick-eq0-clause-image : goal.returns-then-pick-eq0-clause-image
returns-then-pick-eq0-clause-image c =
    let is : c.extend_from_slice-2.new.self.items ≡ stable_after c.args.self.now.first c.args.self.now.steps =
    c.in_ok-extend_from_slice-2.ensures.items ∙ ap (λ (l : List ℕ). l ++ c.deref-2.result.now) c.clear.ensures.items ∙ c.deref-2.ensures.value
    ∙ c.self.invariant.contents.stable ∙ ap (λ (t : Tape). stable_after t.first t.steps) c.self.view_is in
    subst (ImageAfter c.args.self.now.first c.args.self.now.steps) (sym is) (at_rest (stable_after c.args.self.now.first c.args.self.now.steps)
    (spans_after c.args.self.now.steps))
