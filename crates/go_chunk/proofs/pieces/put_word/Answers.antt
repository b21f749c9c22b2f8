-- The place of a word lies in a piece, and the word that is put there is put into the list of all.
use Rattle.std.proofs.Common.{set, ap, ◌∙◌, arith}
use Rattle.std.proofs.lemmas.Grind.{common_steps}
use Rattle.go_chunk.specs.declared.classes.TheConstants.{GROWING}
use Rattle.go_chunk.specs.Pieces.{words_of}
use Rattle.go_chunk.proofs.PlaceLemmas.{stands_at, is_inside, is_put}
use Rattle.go_chunk.proofs.pieces.put_word.Goals as goal

pub index_mut-requires : goal.index_mut-requires
index_mut-requires c =
    let inside = is_inside GROWING c.args.pieces.now.items c.args.i c.of-place.result.piece c.of-place.result.offset c.requires.classes
    c.of-place.ensures.found c.of-place.ensures.within c.requires.inside in
    grind (arith, common_steps, inside)

pub put-requires : goal.put-requires
put-requires c =
    let at = stands_at GROWING c.args.pieces.now.items c.args.i c.of-place.result.piece c.of-place.result.offset c.index_mut.result.now c.requires.classes
    c.of-place.ensures.found c.of-place.ensures.within c.requires.inside in
    rw c.index_mut.ensures.value at.within

pub returns-clause-classes : goal.returns-clause-classes
returns-clause-classes c =
    (is_put GROWING c.args.pieces.now.items c.args.i c.of-place.result.piece c.of-place.result.offset c.args.word c.put.new.self c.index_mut.result.now
    c.requires.classes c.of-place.ensures.found c.of-place.ensures.within c.requires.inside (c.put.ensures
    ∙ ap (λ piece. set (words_of piece) c.of-place.result.offset c.args.word) c.index_mut.ensures.value)).kept

pub returns-clause-put : goal.returns-clause-put
returns-clause-put c =
    (is_put GROWING c.args.pieces.now.items c.args.i c.of-place.result.piece c.of-place.result.offset c.args.word c.put.new.self c.index_mut.result.now
    c.requires.classes c.of-place.ensures.found c.of-place.ensures.within c.requires.inside (c.put.ensures
    ∙ ap (λ piece. set (words_of piece) c.of-place.result.offset c.args.word) c.index_mut.ensures.value)).put
