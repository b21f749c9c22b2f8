-- Each file comes behind those that were read.
use Rattle.std.proofs.Common.{rules, ◌≡◌, List, ℕ, Ok, Err, sym, subst, ap, ◌∙◌, arith}
use Rattle.go_script.specs.declared.step.Step.{Step}
use Rattle.go_run.specs.Input.{Texts, script_under}
use Rattle.go_run.specs.NamedText.{ReadsName}
use Rattle.go_run.specs.Files.{ReadsFiles, HasRead}
use Rattle.go_run.proofs.FileLemmas.{files_next_at, files_refused_at, files_no_memory}
use Rattle.go_run.proofs.files.read_files.Goals as goal

pub returns-in_err-script-clause-read : goal.returns-in_err-script-clause-read
returns-in_err-script-clause-read g c =
    let e : c.from_residual.result ≡ Err c.in_err-script.field-0.0 = search rules in
    let shelf = g.H.Shelf.texts c.args.shelf.now in
    let names = c.args.names.now in
    let name = c.name-item.result in
    let status = c.in_err-script.field-0.0 in
    let read = subst (λ (texts : _). ReadsName {A = List Step} texts name (script_under c.args.vertices name) (Err status)) c.loop-name.invariant.1
    c.in_err-script.ensures.read in
    rw e (files_refused_at c.args.vertices shelf names c.loop-name.name-index name c.loop-name.scripts.items status c.loop-name-test.true c.name-item.is
    c.loop-name.invariant.0 read)

pub returns-in_default-clause-read : goal.returns-in_default-clause-read
returns-in_default-clause-read g c = files_no_memory c.args.vertices (g.H.Shelf.texts c.args.shelf.now) c.args.names.now

pub loop-name-preserved : goal.loop-name-preserved
loop-name-preserved g c =
    let shelf = g.H.Shelf.texts c.args.shelf.now in
    let name = c.name-item.result in
    let steps = c.in_ok-script.script in
    let read = subst (λ (texts : _). ReadsName {A = List Step} texts name (script_under c.args.vertices name) (Ok steps)) c.loop-name.invariant.1
    c.in_ok-script.ensures.read in
    let has = files_next_at c.args.vertices shelf c.args.names.now c.loop-name.name-index name c.loop-name.scripts.items steps c.loop-name-test.true
    c.name-item.is c.loop-name.invariant.0 read c.in_ok-script.ensures.steps in (
      rw c.in-Ok.ensures.items has,
      c.read_script.ensures.same ∙ c.loop-name.invariant.1,
      λ other. omega (arith, c.loop-name.invariant.2 other, c.read_script.ensures.later other),
    )
