-- `begin`: the next slot waits for its position, and the others stay.
use Rattle.std.proofs.Common.{◌≡◌, ◌≢◌, ◌+◌, ◌%◌, ◌<◌, ◌≤◌, length, set, ⊎_elim, ap, ◌∙◌, sym, arith}
use Rattle.std.proofs.lemmas.Bool.{cases_eq}
use Rattle.std.proofs.lemmas.List.{length-set}
use Rattle.std.proofs.Math.Nat.{mod-lt}
use Rattle.std.specs.Prelude.{slice_index}
use Rattle.go_word.specs.Word.{blank_word}
use Rattle.go_core.specs.Frame.{Frame, place}
use Rattle.go_core.proofs.Moved.{word_here, word_other}
use Rattle.go_core.proofs.Laps.{place-apart}
use Rattle.go_core.proofs.Openings.{opening_words}
use Rattle.go_core.proofs.opening.begin.Goals as goal

pub loop-p-preserved : goal.loop-p-preserved
loop-p-preserved c =
    let f : Frame = record { slots = c.args.slots; base = c.args.base; first = c.args.first } in
    let p = c.loop-p.p in
    let ws = c.loop-p.words in
    let n = c.blank.result in
    let long : length ws ≡ c.args.base + c.args.slots = c.loop-p.invariant.2 in
    let low : c.args.first ≤ p = c.loop-p.auto.p in
    let high : p < c.args.first + c.args.slots = omega arith in
    let turn : p % c.args.slots < c.args.slots = mod-lt p c.requires.some in (
      (λ k less. word_other ws (place f p) k n (λ e. omega arith) ∙ c.loop-p.invariant.0 k less),
      (λ q from to.
          ⊎_elim (λ (same : q ≡ p). ap (λ k. slice_index (set ws (place f p) n) (place f k)) same ∙ word_here ws (place f p) n (omega arith)
          ∙ c.blank.ensures.exact ∙ ap (blank_word c.args.slots) (sym same))
          (λ (ne : q ≢ p). word_other ws (place f p) (place f q) n (place-apart f c.args.first q p from (omega arith) low high ne)
          ∙ c.loop-p.invariant.1 q from (omega arith)) (cases_eq q p)),
      length-set ws (place f p) n ∙ long,
    )

pub returns : goal.returns
returns c =
    opening_words c.args.base c.args.slots c.args.first c.args.words.now c.loop-p.words c.requires.four c.requires.zeros c.loop-p.invariant.0
    (λ q from to. c.loop-p.invariant.1 q from (omega arith)) c.loop-p.invariant.2
