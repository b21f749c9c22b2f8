-- The script over entries that are generated.
use Rattle.std.proofs.Common.{◌≡◌, ◌∙◌, ◌∷◌, [], ℕ, List, Option, sym, ap, subst, refl}
use Rattle.go_script.specs.declared.command.Command.{Command}
use Rattle.go_script.specs.Commands.{commands_of}
use Rattle.go_script.specs.Until.{loads_in}
use Rattle.go_script.specs.Places.{IsScript, IsWithin}
use Rattle.go_word.specs.declared.edge.Edge.{Edge}
use Rattle.go_loader.specs.Generated.{generated}
use Rattle.go_session.specs.Session.{unanswered}
use Rattle.go_run.specs.Input.{generating_commands}
use Rattle.go_run.proofs.GeneratingLemmas.{generating_is, generating_right, generating_work}
use Rattle.go_run.proofs.generating.generate_script.Goals as goal

pub new-requires : goal.new-requires
new-requires c = sym (ap loads_in (generating_is c.args.vertices c.in-Ok.script c.requires.some_vertex c.in-Ok.ensures.exact))

pub returns : goal.returns
returns c =
    let v = c.args.vertices in
    let is = generating_is v c.in-Ok.script c.requires.some_vertex c.in-Ok.ensures.exact in
    let script = subst (λ (l : List Command). IsScript l) is (rw c.in-Ok-new.ensures.unanswered at c.in-Ok-new.ensures.script) in
    let within = subst (λ (l : List Command). IsWithin v l) is c.in-Ok.ensures.within in
    let loads : c.push.new.self.items ≡ generated c.args.edges c.args.seed v ∷ [] =
    rw (c.in-Ok-push.ensures.items, c.requires.none, c.from_vec.ensures, c.in-Ok-generate.ensures) refl in
    let sessions : c.push-2.new.self.items ≡ unanswered 1 generating_commands (0 ∷ []) ∷ [] =
    rw (c.in-Ok-push-2.ensures.items, c.new-sessions.ensures.items, c.in-Ok-new.ensures.unanswered, is) refl in
    λ shelf. generating_work v c.args.edges c.args.seed shelf c.push.new.self.items c.push-2.new.self.items c.requires.some_vertex c.requires.few script within
    loads sessions

pub unreachable-requires : goal.unreachable-requires
unreachable-requires c = generating_right c.args.vertices c.in-Err-Line.field-0-0 c.in-Err-Line.field-0-1 c.requires.some_vertex
    (rw c.in-Err-Line.field-0-is at c.in-Err-Line.ensures.exact)
