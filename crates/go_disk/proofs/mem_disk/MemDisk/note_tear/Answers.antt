-- A failed write, in the record.
use Rattle.std.proofs.Common.{◌≡◌, ◌+◌, ◌≤◌, [], ◌∷◌, ◌++◌, sym, ◌∙◌, ap, subst, arith, rules}
use Rattle.go_disk.specs.declared.call.Call.TheVariants.{Tore}
use Rattle.go_disk.specs.MemDisk.{tore, Tape, used_by, noted}
use Rattle.go_disk.proofs.KeptLemmas.{noted_tore, kept_tore}
use Rattle.go_disk.proofs.mem_disk.MemDisk.note_tear.Goals as goal

pub invariant_of-self : goal.invariant_of-self
invariant_of-self c =
    let pushed : c.push.new.self.items ≡ c.self.inside.calls.items ++ Tore c.args.at c.args.count ∷ [] = search rules in
    let added : c.push-2.new.self.items ≡ c.self.inside.spans.items ++ record { from = c.args.at; to = c.args.at + c.args.count } ∷ [] = search rules in
    kept_tore c.self.inside c.push.new.self c.push-2.new.self c.args.at c.args.count pushed added c.self.invariant (omega arith) (omega arith)
    (subst (λ (t : Tape). used_by t.steps + (1 + c.args.count) ≤ t.room) (sym c.self.view_is) c.requires.room)

pub returns : goal.returns
returns c =
    let pushed : c.push.new.self.items ≡ c.self.inside.calls.items ++ Tore c.args.at c.args.count ∷ [] = search rules in
    let added : c.push-2.new.self.items ≡ c.self.inside.spans.items ++ record { from = c.args.at; to = c.args.at + c.args.count } ∷ [] = search rules in
    noted_tore c.self.inside c.push.new.self c.push-2.new.self c.args.at c.args.count pushed added
    ∙ ap (λ (t : Tape). noted t (tore c.args.at c.args.count)) c.self.view_is
