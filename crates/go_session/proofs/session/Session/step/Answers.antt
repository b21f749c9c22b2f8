-- What a step comes to.
use Rattle.std.proofs.Common.{◌≡◌, ℕ, ◌+◌, length, List, Bool, if◌then◌else◌, slice_get, Some, sym, ap, ◌∙◌, arith, subst}
use Rattle.go_script.specs.Commands.{commands_of}
use Rattle.go_session.proofs.AskedLemmas.{load_there}
use Rattle.go_session.proofs.TurnLemmas.{given_by, turn_of, turn_suits, turn_answered, turn_waits, turn_looked, turn_stopped, keeps_more}
use Rattle.go_session.proofs.session.Session.step.Goals as goal

pub given_to-entries-requires-clause-there : goal.given_to-entries-requires-clause-there
given_to-entries-requires-clause-there g c = λ load.
    let keeps = c.self.invariant.0 in
    let n : c.len-next.result ≡ length c.self.inside.replies.items = omega (arith, c.len-next.ensures, c.self.inside.replies.ok.0) in
    let there = load_there (commands_of c.self.inside.script) (length c.self.inside.replies.items) c.command-command.result.now
    (subst (λ (k : ℕ). slice_get (commands_of c.self.inside.script) k ≡ Some c.command-command.result.now) n c.command-command.ensures.command) load in
    let lists : length c.deref.result.now ≡ length c.self.inside.lists.items = ap (λ (l : List ℕ). length l) c.deref.ensures.value in
    omega (arith, there, keeps.all, keeps.count, lists)

pub ask-requires-clause-suits : goal.ask-requires-clause-suits
ask-requires-clause-suits g c =
    let n : c.len-next.result ≡ length c.self.inside.replies.items = omega (arith, c.len-next.ensures, c.self.inside.replies.ok.0) in
    let command = c.command-command.result.now in
    let given = c.given_to-entries.result.now in
    let s = g.S.Store.stands c.args.store.now in
    let turn = turn_of c.args.loads.now _ c.args.self.now s command given c.self.inside.loaded c.self.view_is c.requires.can
    (subst (λ (k : ℕ). slice_get (commands_of c.self.inside.script) k ≡ Some command) n c.command-command.ensures.command) c.self.invariant.0.count
    (given_by c.args.loads.now command given c.self.inside.loaded c.deref.result.now c.self.inside.lists.items c.given_to-entries.ensures
    c.deref.ensures.value) in
    turn_suits c.args.loads.now _ c.args.self.now s command given turn

pub invariant_of-self : goal.invariant_of-self
invariant_of-self g c =
    let n : c.len-next.result ≡ length c.self.inside.replies.items = omega (arith, c.len-next.ensures, c.self.inside.replies.ok.0) in
    let listed = sym c.is_load-listed.ensures ∙ c.if-listed.true in (
      keeps_more (commands_of c.self.inside.script) c.self.inside.lists.items c.self.inside.replies.items c.push_reserved.new.self.items
          c.self.inside.loaded (c.self.inside.loaded + 1) c.command-command.result.now c.in-Ok-Told.reply c.self.invariant.0
          (subst (λ (k : ℕ). slice_get (commands_of c.self.inside.script) k ≡ Some c.command-command.result.now) n c.command-command.ensures.command)
          c.push_reserved.ensures.items
          (let so = ap (λ (b : Bool). c.self.inside.loaded + (if b then 1 else 0)) listed in omega (arith, so)),
      omega (arith, c.self.invariant.1, c.push_reserved.ensures.capacity),
    )

pub invariant_of-self-else-listed : goal.invariant_of-self-else-listed
invariant_of-self-else-listed g c =
    let n : c.len-next.result ≡ length c.self.inside.replies.items = omega (arith, c.len-next.ensures, c.self.inside.replies.ok.0) in
    let listed = sym c.is_load-listed.ensures ∙ c.if-listed.false in (
      keeps_more (commands_of c.self.inside.script) c.self.inside.lists.items c.self.inside.replies.items c.push_reserved.new.self.items
          c.self.inside.loaded c.self.inside.loaded c.command-command.result.now c.in-Ok-Told.reply c.self.invariant.0
          (subst (λ (k : ℕ). slice_get (commands_of c.self.inside.script) k ≡ Some c.command-command.result.now) n c.command-command.ensures.command)
          c.push_reserved.ensures.items
          (let so = ap (λ (b : Bool). c.self.inside.loaded + (if b then 1 else 0)) listed in omega (arith, so)),
      omega (arith, c.self.invariant.1, c.push_reserved.ensures.capacity),
    )

pub returns-then-listed-clause-stepped : goal.returns-then-listed-clause-stepped
returns-then-listed-clause-stepped g c =
    let n : c.len-next.result ≡ length c.self.inside.replies.items = omega (arith, c.len-next.ensures, c.self.inside.replies.ok.0) in
    let command = c.command-command.result.now in
    let given = c.given_to-entries.result.now in
    let s = g.S.Store.stands c.args.store.now in
    let turn = turn_of c.args.loads.now _ c.args.self.now s command given c.self.inside.loaded c.self.view_is c.requires.can
    (subst (λ (k : ℕ). slice_get (commands_of c.self.inside.script) k ≡ Some command) n c.command-command.ensures.command) c.self.invariant.0.count
    (given_by c.args.loads.now command given c.self.inside.loaded c.deref.result.now c.self.inside.lists.items c.given_to-entries.ensures
    c.deref.ensures.value) in
    turn_answered c.args.loads.now _ c.args.self.now s (g.S.Store.stands c.ask.new.store) command given c.in-Ok-Told.reply
    c.opened-self-inside.result c.push_reserved.new.self.items turn c.opened-self-inside.ensures c.push_reserved.ensures.items
    c.in-Ok-Told.ensures.sound (rw c.in-Ok-Told.field-0-is at c.in-Ok-Told.ensures.answers)

pub returns-else-listed-clause-stepped : goal.returns-else-listed-clause-stepped
returns-else-listed-clause-stepped g c =
    let n : c.len-next.result ≡ length c.self.inside.replies.items = omega (arith, c.len-next.ensures, c.self.inside.replies.ok.0) in
    let command = c.command-command.result.now in
    let given = c.given_to-entries.result.now in
    let s = g.S.Store.stands c.args.store.now in
    let turn = turn_of c.args.loads.now _ c.args.self.now s command given c.self.inside.loaded c.self.view_is c.requires.can
    (subst (λ (k : ℕ). slice_get (commands_of c.self.inside.script) k ≡ Some command) n c.command-command.ensures.command) c.self.invariant.0.count
    (given_by c.args.loads.now command given c.self.inside.loaded c.deref.result.now c.self.inside.lists.items c.given_to-entries.ensures
    c.deref.ensures.value) in
    turn_answered c.args.loads.now _ c.args.self.now s (g.S.Store.stands c.ask.new.store) command given c.in-Ok-Told.reply
    c.opened-self-inside.result c.push_reserved.new.self.items turn c.opened-self-inside.ensures c.push_reserved.ensures.items
    c.in-Ok-Told.ensures.sound (rw c.in-Ok-Told.field-0-is at c.in-Ok-Told.ensures.answers)

pub returns-in-Ok-NotYet-clause-stepped : goal.returns-in-Ok-NotYet-clause-stepped
returns-in-Ok-NotYet-clause-stepped g c =
    let n : c.len-next.result ≡ length c.self.inside.replies.items = omega (arith, c.len-next.ensures, c.self.inside.replies.ok.0) in
    let command = c.command-command.result.now in
    let given = c.given_to-entries.result.now in
    let s = g.S.Store.stands c.args.store.now in
    let turn = turn_of c.args.loads.now _ c.args.self.now s command given c.self.inside.loaded c.self.view_is c.requires.can
    (subst (λ (k : ℕ). slice_get (commands_of c.self.inside.script) k ≡ Some command) n c.command-command.ensures.command) c.self.invariant.0.count
    (given_by c.args.loads.now command given c.self.inside.loaded c.deref.result.now c.self.inside.lists.items c.given_to-entries.ensures
    c.deref.ensures.value) in
    turn_waits c.args.loads.now _ c.args.self.now s (g.S.Store.stands c.ask.new.store) command given c.in-Ok-NotYet.seen
    c.opened-self-inside.result (g.S.Store.looked c.args.store.now) turn c.opened-self-inside.ensures
    c.in-Ok-NotYet.ensures.sound (rw c.in-Ok-NotYet.field-0-is at c.in-Ok-NotYet.ensures.answers)

pub returns-in-Ok-NotYet-clause-looked : goal.returns-in-Ok-NotYet-clause-looked
returns-in-Ok-NotYet-clause-looked g c =
    let n : c.len-next.result ≡ length c.self.inside.replies.items = omega (arith, c.len-next.ensures, c.self.inside.replies.ok.0) in
    let command = c.command-command.result.now in
    let given = c.given_to-entries.result.now in
    let s = g.S.Store.stands c.args.store.now in
    let turn = turn_of c.args.loads.now _ c.args.self.now s command given c.self.inside.loaded c.self.view_is c.requires.can
    (subst (λ (k : ℕ). slice_get (commands_of c.self.inside.script) k ≡ Some command) n c.command-command.ensures.command) c.self.invariant.0.count
    (given_by c.args.loads.now command given c.self.inside.loaded c.deref.result.now c.self.inside.lists.items c.given_to-entries.ensures
    c.deref.ensures.value) in
    turn_looked c.args.loads.now _ c.args.self.now s (g.S.Store.stands c.ask.new.store) command given c.in-Ok-NotYet.seen
    (g.S.Store.looked c.args.store.now) turn (rw c.in-Ok-NotYet.field-0-is at c.in-Ok-NotYet.ensures.answers)

pub returns-in-Err-clause-stepped : goal.returns-in-Err-clause-stepped
returns-in-Err-clause-stepped g c =
    let n : c.len-next.result ≡ length c.self.inside.replies.items = omega (arith, c.len-next.ensures, c.self.inside.replies.ok.0) in
    let command = c.command-command.result.now in
    let given = c.given_to-entries.result.now in
    let s = g.S.Store.stands c.args.store.now in
    let turn = turn_of c.args.loads.now _ c.args.self.now s command given c.self.inside.loaded c.self.view_is c.requires.can
    (subst (λ (k : ℕ). slice_get (commands_of c.self.inside.script) k ≡ Some command) n c.command-command.ensures.command) c.self.invariant.0.count
    (given_by c.args.loads.now command given c.self.inside.loaded c.deref.result.now c.self.inside.lists.items c.given_to-entries.ensures
    c.deref.ensures.value) in
    turn_stopped c.args.loads.now _ c.args.self.now s (g.S.Store.stands c.ask.new.store) command given c.in-Err.why
    c.opened-self-inside.result turn c.opened-self-inside.ensures c.in-Err.ensures.sound c.in-Err.ensures.answers
