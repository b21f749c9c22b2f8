-- The place of a word lies in a piece, and the word stands there.
use Rattle.std.proofs.Common.{get_or, sym, ap, ◌∙◌}
use Rattle.go_chunk.specs.declared.classes.TheConstants.{GROWING}
use Rattle.go_chunk.specs.Pieces.{words_of}
use Rattle.go_chunk.proofs.PlaceLemmas.{StandsAt, stands_at, is_inside}
use Rattle.go_chunk.proofs.pieces.word_at.Goals as goal

pub bounds-pieces-place : goal.bounds-pieces-place
bounds-pieces-place c =
    is_inside GROWING c.args.pieces.now c.args.i c.of-place.result.piece c.of-place.result.offset c.requires.classes
    c.of-place.ensures.found c.of-place.ensures.within c.requires.inside

pub bounds-words-place : goal.bounds-words-place
bounds-words-place c =
    let d = c.index-pieces-place.result in
    let at : StandsAt c.args.pieces.now c.args.i c.of-place.result.piece c.of-place.result.offset d =
    stands_at GROWING c.args.pieces.now c.args.i c.of-place.result.piece c.of-place.result.offset d c.requires.classes
    c.of-place.ensures.found c.of-place.ensures.within c.requires.inside in
    rw (c.words.ensures, c.index-pieces-place.is) at.within

pub returns : goal.returns
returns c =
    let d = c.index-pieces-place.result in
    let at : StandsAt c.args.pieces.now c.args.i c.of-place.result.piece c.of-place.result.offset d =
    stands_at GROWING c.args.pieces.now c.args.i c.of-place.result.piece c.of-place.result.offset d c.requires.classes
    c.of-place.ensures.found c.of-place.ensures.within c.requires.inside in
    ap (λ l. get_or l c.of-place.result.offset 0) c.words.ensures
    ∙ ap (λ piece. get_or (words_of piece) c.of-place.result.offset 0) c.index-pieces-place.is ∙ sym at.word
