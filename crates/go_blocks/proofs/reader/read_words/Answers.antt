-- The steps of `read_words`: a word more, the first wrong word, and the end.
use Rattle.std.proofs.Common.{◌≡◌, ◌≤◌, ◌∙◌, ap, subst, length, take, arith, refl}
use Rattle.std.specs.Int.{w64, from_le_bytes}
use Rattle.go_blocks.proofs.Bytes.{AreBytes}
use Rattle.go_blocks.proofs.Steps.{AreBytes-behind, words_more, words_fault, words_done}
use Rattle.go_blocks.proofs.reader.read_words.Goals as goal

pub returns-in_default-read_plain : goal.returns-in_default-read_plain
returns-in_default-read_plain c =
    let long : 8 ≤ length c.loop-word.rest.now = omega (arith, c.in-Some.ensures.cases.2) in
    let is : c.number_of_eight.result ≡ from_le_bytes w64 (take 8 c.loop-word.rest.now) = c.number_of_eight.ensures.read
    ∙ ap (from_le_bytes w64) c.in-Some.ensures.cases.0 in
    words_fault c.args.vertices c.number_of_eight.result c.args.at _ c.args.words.now c.loop-word.rest.now c.args.edges.now.items c.loop-word.edges.items
    c.loop-word.invariant long is c.in_default-read_plain.ensures.exact refl

pub loop-word-preserved : goal.loop-word-preserved
loop-word-preserved c =
    let long : 8 ≤ length c.loop-word.rest.now = omega (arith, c.in-Some.ensures.cases.2) in
    let is : c.number_of_eight.result ≡ from_le_bytes w64 (take 8 c.loop-word.rest.now) = c.number_of_eight.ensures.read
    ∙ ap (from_le_bytes w64) c.in-Some.ensures.cases.0 in
    let fits : AreBytes c.loop-word.rest.now =
    AreBytes-behind _ c.loop-word.rest.now (subst AreBytes c.loop-word.invariant.parts (λ i. omega (arith, c.type_inv.words i))) in
    let more = words_more c.args.vertices c.number_of_eight.result c.args.words.now c.loop-word.rest.now c.args.edges.now.items c.loop-word.edges.items
    c.loop-word.invariant long fits is c.in-Some-read_plain.ensures.exact.0 in
    rw (c.in-Some.ensures.cases.1, c.in_ok-push.ensures.items, c.in-Some-read_plain.ensures.exact.1) more

pub returns : goal.returns
returns c = words_done c.args.vertices c.args.words.now c.loop-word.rest.now c.args.edges.now.items c.loop-word.edges.items c.loop-word.invariant
    c.in_default.ensures.cases c.requires.whole
