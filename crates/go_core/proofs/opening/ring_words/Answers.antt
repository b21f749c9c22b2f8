-- `ring_words`: the whole vector is written.
use Rattle.std.proofs.Common.{List, ℕ, length, drop, subst, sym, arith}
use Rattle.go_core.specs.Opening.{AreOpening}
use Rattle.go_core.proofs.Openings.{whole_written}
use Rattle.go_core.proofs.opening.ring_words.Goals as goal

pub returns : goal.returns
returns c =
    let ws = c.begin.new.words in
    let v = c.in_ok-words.words in
    subst (λ (zs : List ℕ). AreOpening (record { slots = c.args.slots; base = c.args.base; first = c.args.first }) zs)
    (sym (whole_written ws v.len (drop (length ws) v.items) (omega arith))) c.begin.ensures
