-- A sync, in the record and done.
use Rattle.std.proofs.Common.{◌≡◌, ◌+◌, ◌≤◌, [], ◌∷◌, ◌++◌, sym, ◌∙◌, ap, subst, arith, rules}
use Rattle.go_disk.specs.declared.call.Call.TheVariants.{Synced}
use Rattle.go_disk.specs.MemDisk.{synced, Tape, used_by, noted}
use Rattle.go_disk.proofs.KeptLemmas.{noted_synced, kept_synced}
use Rattle.go_disk.proofs.mem_disk.MemDisk.note_sync.Goals as goal

pub invariant_of-self : goal.invariant_of-self
invariant_of-self c =
    let pushed : c.push.new.self.items ≡ c.self.inside.calls.items ++ Synced ∷ [] = search rules in
    let copied : c.catch_up.new.file.items ≡ c.self.inside.bytes.items = search rules in
    kept_synced c.self.inside c.push.new.self c.catch_up.new.file _ c.clear.new.self pushed c.self.invariant (omega arith) copied c.clear.ensures.items
    (omega arith) (omega arith) (omega arith)
    (subst (λ (t : Tape). used_by t.steps + 1 ≤ t.room) (sym c.self.view_is) c.requires)

pub returns : goal.returns
returns c =
    let pushed : c.push.new.self.items ≡ c.self.inside.calls.items ++ Synced ∷ [] = search rules in
    noted_synced c.self.inside c.push.new.self c.catch_up.new.file 0 c.clear.new.self pushed ∙ ap (λ (t : Tape). noted t synced) c.self.view_is
