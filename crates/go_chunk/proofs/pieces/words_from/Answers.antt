-- The place of a word lies in a piece, and the words from there on stand in the list of all.
use Rattle.std.proofs.Common.{ap, ◌∙◌, arith, drop}
use Rattle.std.proofs.lemmas.List.{take_rest}
use Rattle.go_chunk.specs.declared.classes.TheConstants.{GROWING}
use Rattle.go_chunk.specs.Pieces.{words_of}
use Rattle.go_chunk.proofs.PlaceLemmas.{StandsAt, stands_at, is_inside}
use Rattle.go_chunk.proofs.SliceLemmas.{stand_piece}
use Rattle.go_chunk.proofs.pieces.words_from.Goals as goal

pub bounds-pieces-place : goal.bounds-pieces-place
bounds-pieces-place c =
    is_inside GROWING c.args.pieces.now c.args.i c.of-place.result.piece c.of-place.result.offset c.requires.classes
    c.of-place.ensures.found c.of-place.ensures.within c.requires.inside

pub slice_bounds-result-count : goal.slice_bounds-result-count
slice_bounds-result-count c =
    let d = c.index-pieces-place.result in
    let at : StandsAt c.args.pieces.now c.args.i c.of-place.result.piece c.of-place.result.offset d =
    stands_at GROWING c.args.pieces.now c.args.i c.of-place.result.piece c.of-place.result.offset d c.requires.classes
    c.of-place.ensures.found c.of-place.ensures.within c.requires.inside in
    rw (c.words.ensures, c.index-pieces-place.is) (omega (arith, at.within))

pub slice_bounds-result-start : goal.slice_bounds-result-start
slice_bounds-result-start c = slice_bounds-result-count c

pub returns : goal.returns
returns c =
    let d = c.index-pieces-place.result in
    stand_piece GROWING c.args.pieces.now c.args.i c.of-place.result.piece c.of-place.result.offset d _ c.requires.classes
    c.of-place.ensures.found c.of-place.ensures.within c.requires.inside
    (take_rest c.words.result.now c.of-place.result.offset ∙ ap (drop c.of-place.result.offset) c.words.ensures
    ∙ ap (λ piece. drop c.of-place.result.offset (words_of piece)) c.index-pieces-place.is)
