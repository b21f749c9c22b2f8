-- The pushed script is a script, and an error leaves it.
use Rattle.go_script.proofs.ScriptLemmas.{steps_push}
use Rattle.go_script.proofs.script.Script.push.Goals as goal

pub invariant_of-self : goal.invariant_of-self
invariant_of-self c = rw c.in_err-push.ensures.items c.self.invariant

pub invariant_of-self-2 : goal.invariant_of-self-2
invariant_of-self-2 c = rw c.in_ok-push.ensures.items (steps_push _ _ c.self.invariant (rw c.self.view_is c.requires))
