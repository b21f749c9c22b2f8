-- `join`: the other party is taken out, and put back where memory is wanting.
use Rattle.std.proofs.Common.{◌≡◌, ◌<◌, inl, refl, ap, subst, rules, List, length, get_or, ◌∙◌}
use Rattle.std.proofs.lemmas.List.{get_or_default}
use Rattle.go_core.specs.declared.party.Party.{Party}
use Rattle.go_core.specs.Acts.{CanJoin, IsSession, HasNoTurn}
use Rattle.go_core.specs.Machine.{machine_of, absent}
use Rattle.go_core.proofs.Parties.{both_of, party_read, join_parties, join_undone}
use Rattle.go_core.proofs.steps.join.Goals as goal

pub returns-in-Ok-clause-row : goal.returns-in-Ok-clause-row
returns-in-Ok-clause-row c =
    let ps = c.args.parties.now.items in
    let i = c.args.i in
    let j = c.args.j in
    let within : j < length ps = rw (← c.deref.ensures.value) (c.if-not-is_live.ensures.there (search rules)) in
    let p = c.index_mut-party.result.now in
    let q = c.replace-other.result in
    let May : Party → Type 0 = λ z. CanJoin z.view × IsSession z.view × HasNoTurn z.stake in
    let can : May (get_or ps j absent) = subst May (party_read ps j c.index.result.now within c.index.ensures) (c.if-not-may_join.ensures.0 (search rules)) in
    let is_q : q ≡ get_or ps j q = c.replace-other.ensures.value ∙ c.index_mut.ensures.value ∙ get_or_default ps j _ q within in
    let is_a : c.replace-other.new.dest ≡ absent = c.replace-other.ensures.after ∙ c.absent.ensures in
    let is_both : c.join.new.self ≡ both_of p q = c.in-Ok.ensures.ok in
    λ slots first words parts.
    inl (
      (c.requires.live.live, (λ e. c.if-j-i.false e), can.0, can.1, can.2),
      refl,
      ap (λ (zs : List Party). machine_of slots first words zs parts)
          (join_parties ps i j p q c.replace-other.new.dest c.join.new.self
          (λ e. c.if-j-i.false e) c.requires.live.within within is_q is_a c.index_mut-party.ensures.value is_both),
    )

pub returns-in-Err-clause-err : goal.returns-in-Err-clause-err
returns-in-Err-clause-err c =
    let ps = c.args.parties.now.items in
    let within : c.args.j < length ps = rw (← c.deref.ensures.value) (c.if-not-is_live.ensures.there (search rules)) in
    join_undone ps c.args.i c.args.j c.index_mut-party.result.now c.replace-other.result c.replace-other.new.dest c.join.new.self c.join.new.other
    c.index_mut-party.ensures.value
    (c.replace-other.ensures.value ∙ c.index_mut.ensures.value
    ∙ get_or_default ps c.args.j _ c.replace-other.result within) c.in-Err.ensures.err c.in-Err.ensures.other_err
