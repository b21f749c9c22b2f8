-- `matches`: a word is matched where it is rotated as the words of the lap are.
use Rattle.std.proofs.Common.{ap, ◌∙◌}
use Rattle.std.specs.Prelude.{◌==◌}
use mathlib.Core.Bool.{beq}
use Rattle.go_word.specs.Word.{rotation_of}
use Rattle.go_ring.proofs.Cursors.{matches_at}
use Rattle.go_ring.proofs.cursor.Cursor.matches.Goals as goal

pub returns : goal.returns
returns c f p on =
    ap (λ b. beq b c.is_rotated-2.result) c.is_rotated.ensures ∙ ap (λ b. beq (rotation_of c.args.word == 1) b) c.is_rotated-2.ensures
    ∙ matches_at f p c.args.word c.args.self on
