-- The new piece has the next class of the table.
use Rattle.std.proofs.Common.{◌≡◌, length, ap, ◌∙◌, arith}
use Rattle.std.proofs.lemmas.Grind.{common_steps}
use Rattle.go_chunk.specs.Pieces.{words_of, class_at}
use Rattle.go_chunk.specs.declared.classes.TheConstants.{GROWING}
use Rattle.go_chunk.proofs.PlaceLemmas.{have_classes-more}
use Rattle.go_chunk.proofs.spilled.Spilled.grow.Goals as goal

pub invariant_of-self-2 : goal.invariant_of-self-2
invariant_of-self-2 c =
    let count : c.len.result ≡ length c.self.inside.later.items = grind (arith, common_steps) in
    let class : length (words_of c.in_ok-piece.piece) ≡ class_at GROWING (length c.self.inside.later.items) = c.in_ok-piece.ensures.class
    ∙ ap (class_at GROWING) count in
    record {
      long = c.self.invariant.long;
      classes = rw c.in_ok-push.ensures.items (have_classes-more GROWING c.self.inside.later.items c.in_ok-piece.piece c.self.invariant.classes class);
    }
