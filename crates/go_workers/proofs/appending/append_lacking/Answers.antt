-- `append_lacking`: the log goes on with what it lacks, or was spent by its disk.
use Rattle.std.proofs.Common.{ℕ, ◌-◌, List, length, take, drop, sym, ap, ◌∙◌, subst}
use Rattle.go_word.specs.declared.edge.Edge.{Edge}
use Rattle.go_durable.specs.declared.journal.Journal.TheVariants.{Sound, Spent}
use Rattle.go_durable.specs.Journal.{KeepsOn}
use Rattle.go_durable.proofs.Journals.{keeps_longer, keeps_fault}
use Rattle.go_workers.proofs.OwnEntries.{rest_whole}
use Rattle.go_workers.proofs.appending.append_lacking.Goals as goal

pub returns-in-Ok-clause-keeps : goal.returns-in-Ok-clause-keeps
returns-in-Ok-clause-keeps g c =
    let device = g.D.Disk.device in
    let e = c.in-Ok.ensures in
    let run = c.args.run.now in
    let k = c.front-front.result - c.args.from in
    let edges = take (length run - k) (drop k run) in
    subst (λ (l : List Edge). KeepsOn device l (Sound c.args.log) (Sound c.in-Ok.log))
    (rest_whole k run ∙ ap (λ n. drop (n - c.args.from) run) c.front-front.ensures)
    (keeps_longer device edges c.args.log c.in-Ok.log e.answer e.moments e.count)

pub returns-in-Err-Disk-clause-keeps : goal.returns-in-Err-Disk-clause-keeps
returns-in-Err-Disk-clause-keeps g c =
    let device = g.D.Disk.device in
    let e = c.in-Err-Disk.ensures in
    let run = c.args.run.now in
    let k = c.front-front.result - c.args.from in
    let edges = take (length run - k) (drop k run) in
    let disk = c.in-Err-Disk.disk in
    subst (λ (n : ℕ). KeepsOn device (drop (c.args.log.front - c.args.from) run) (Sound c.args.log) (Spent disk n)) (sym c.front-front.ensures)
    (subst (λ (l : List Edge). KeepsOn device l (Sound c.args.log) (Spent disk c.args.log.front))
    (rest_whole k run ∙ ap (λ n. drop (n - c.args.from) run) c.front-front.ensures)
    (keeps_fault device edges c.args.log c.in-Err-Disk.field-0 disk c.in-Err-Disk.field-0-is e.answer e.moments e.count))
