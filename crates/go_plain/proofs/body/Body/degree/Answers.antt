-- How many neighbours were listed.
use Rattle.std.proofs.Common.{◌≡◌, List, ℕ, length, take, sym, ap, subst, ◌∙◌, arith}
use Rattle.go_word.specs.Neighbours.{neighbours}
use Rattle.go_plain.specs.Plain.{PlainState}
use Rattle.go_plain.proofs.AnsweredLemmas.{listed_at}
use Rattle.go_plain.proofs.body.Body.degree.Goals as goal

pub returns-clause-counts : goal.returns-clause-counts
returns-clause-counts g c = λ list is.
    let front = c.front_at-front.result in
    let out = c.list-listed.new.out.items in
    let gives = subst (λ (s : PlainState _). out ≡ neighbours (take front s.log) c.args.vertex) c.lend-scratch.ensures c.in_ok-listed.ensures.lists in
    let at = listed_at g.D.Disk.device c.args.self.now c.args.number c.args.place c.args.vertex front out
    (c.check.ensures.sound c.args.number c.requires.session) c.front_at-front.ensures.held gives in
    let same = at c.requires.can.front c.requires.can.held ∙ sym (is c.requires.can.front c.requires.can.held) in
    omega (arith, c.len-count.ensures, c.list-listed.new.out.ok, ap (λ (l : List ℕ). length l) same)
