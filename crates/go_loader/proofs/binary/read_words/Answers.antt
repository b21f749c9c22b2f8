-- Each word is read as the format says.
use Rattle.std.proofs.Common.{sym, ◌∙◌, ap, arith}
use Rattle.std.proofs.lemmas.List.Elements.{All-push}
use Rattle.go_word.specs.Log.{IsWithin}
use Rattle.go_loader.specs.BinaryFile.{word_reads}
use Rattle.go_loader.proofs.PieceLemmas.{word_read}
use Rattle.go_loader.proofs.binary.read_words.Goals as goal

pub loop-rest-preserved : goal.loop-rest-preserved
loop-rest-preserved c =
    rw c.in_ok-push-in-Ok.ensures.items (
      omega (arith, c.loop-rest.invariant.0, c.in-Some.ensures.cases.4),
      All-push (IsWithin c.args.v) c.loop-rest.out.items c.in-Ok.edge c.loop-rest.invariant.1 c.in-Ok.ensures.within,
      word_read c.args.v c.args.bytes.now c.loop-rest.out.items c.loop-rest.line c.loop-rest.rest.now c.in-Some.piece.now c.in-Some.more.now c.in-Ok.edge
          c.loop-rest.invariant.2 c.in-Some.ensures.cases (ap (λ n. word_reads c.args.v n) (sym c.read_u64.ensures) ∙ sym c.in-Ok.ensures.exact),
    )
