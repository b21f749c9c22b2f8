-- `appended`: the file may be given back, as it has become.
use Rattle.std.proofs.Common.{sym, subst}
use Rattle.go_rule.specs.Turns.{CanGive}
use Rattle.go_piece.specs.Pieces.{file_of}
use Rattle.go_piece.specs.Meanings.{meaning_of}
use Rattle.go_workers.specs.Bringing.{CanAppendTo, IsFileInHand, OnFile}
use Rattle.go_workers.proofs.FilesGiven.{of_file, filed_can}
use Rattle.go_workers.proofs.appending.appended.Goals as goal

pub returns-in-Ok-clause-gives : goal.returns-in-Ok-clause-gives
returns-in-Ok-clause-gives g c = λ f d place here held read flagged.
    let device = g.D.Disk.device in
    let m = meaning_of device in
    let from = c.args.from in
    let run = c.args.run.now in
    let journal = c.in-Ok.journal in
    let new = c.append_to-journal.result.journal in
    let is = c.in-Ok.ensures in
    let can = of_file (CanAppendTo from run) journal (subst (OnFile (CanAppendTo from run)) (sym is) c.requires) in
    subst (λ p. CanGive m f d place p c.file.result) is
    (subst (λ p. CanGive m f d place (file_of journal) p) (sym c.file.ensures)
    (filed_can device f d place from run journal new c.append_to-journal.result.stop g.met.D.Disk.rules here
    (subst (IsFileInHand device d place) (sym is) held) read can c.append_to-journal.ensures.keeps c.append_to-journal.ensures.appended flagged))
