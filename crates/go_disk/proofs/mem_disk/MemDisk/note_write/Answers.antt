-- A write, in the record and done.
use Rattle.std.proofs.Common.{◌≡◌, ◌+◌, ◌≤◌, [], ◌∷◌, ◌++◌, length, sym, ◌∙◌, ap, subst, arith, rules}
use Rattle.go_disk.specs.declared.call.Call.TheVariants.{Wrote}
use Rattle.go_disk.specs.MemDisk.{wrote, Tape, contents_of, used_by, noted}
use Rattle.go_disk.proofs.KeptLemmas.{noted_wrote, kept_wrote}
use Rattle.go_disk.proofs.mem_disk.MemDisk.note_write.Goals as goal

pub invariant_of-self : goal.invariant_of-self
invariant_of-self c =
    let pushed : c.push.new.self.items ≡ c.self.inside.calls.items ++ Wrote c.args.at (length c.args.bytes.now) ∷ [] = search rules in
    let added : c.push-2.new.self.items ≡ c.self.inside.spans.items ++ record { from = c.args.at; to = c.args.at + length c.args.bytes.now } ∷ [] =
    search rules in
    let appended : c.extend_from_slice.new.self.items ≡ c.self.inside.written.items ++ c.args.bytes.now = search rules in
    let within = subst (λ (t : Tape). c.args.at ≤ length (contents_of t)) (sym c.self.view_is) c.requires.within in
    kept_wrote c.self.inside c.push.new.self c.extend_from_slice.new.self c.overwrite.new.file c.push-2.new.self c.min-self-inside.result
    c.args.at c.args.bytes.now c.self.invariant pushed appended
    (record { over = c.overwrite.ensures.items; added = added })
    (record { calls_fit = omega arith; written_fit = omega arith; bytes_fit = omega arith; spans_fit = omega arith })
    (record {
      inside = omega (arith, within, ap length c.self.invariant.contents.bytes);
      room = subst (λ (t : Tape). used_by t.steps + (1 + length c.args.bytes.now) ≤ t.room) (sym c.self.view_is) c.requires.room;
      below = omega arith;
      before = omega arith;
    })

pub returns : goal.returns
returns c =
    let pushed : c.push.new.self.items ≡ c.self.inside.calls.items ++ Wrote c.args.at (length c.args.bytes.now) ∷ [] = search rules in
    let appended : c.extend_from_slice.new.self.items ≡ c.self.inside.written.items ++ c.args.bytes.now = search rules in
    noted_wrote c.self.inside c.push.new.self c.extend_from_slice.new.self c.overwrite.new.file c.push-2.new.self c.min-self-inside.result c.args.at
    c.args.bytes.now
    c.self.invariant pushed appended
    ∙ ap (λ (t : Tape). noted t (wrote c.args.at c.args.bytes.now)) c.self.view_is
