-- A call that changed nothing, in the record.
use Rattle.std.proofs.Common.{◌≡◌, ◌+◌, ◌≤◌, [], ◌∷◌, ◌++◌, sym, ◌∙◌, ap, subst, arith, rules}
use Rattle.go_disk.specs.declared.call.Call.TheVariants.{Looked}
use Rattle.go_disk.specs.MemDisk.{looked, Tape, used_by, noted}
use Rattle.go_disk.proofs.KeptLemmas.{noted_looked, kept_looked}
use Rattle.go_disk.proofs.mem_disk.MemDisk.note_look.Goals as goal

pub invariant_of-self : goal.invariant_of-self
invariant_of-self c =
    let pushed : c.push.new.self.items ≡ c.self.inside.calls.items ++ Looked ∷ [] = search rules in
    kept_looked c.self.inside c.push.new.self pushed c.self.invariant (omega arith)
    (subst (λ (t : Tape). used_by t.steps + 1 ≤ t.room) (sym c.self.view_is) c.requires)

pub returns : goal.returns
returns c =
    let pushed : c.push.new.self.items ≡ c.self.inside.calls.items ++ Looked ∷ [] = search rules in
    noted_looked c.self.inside c.push.new.self pushed ∙ ap (λ (t : Tape). noted t looked) c.self.view_is
