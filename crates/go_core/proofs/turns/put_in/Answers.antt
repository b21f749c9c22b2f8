-- `put_in`: where the part may not be put in, nothing has changed.
use Rattle.std.proofs.Common.{◌≡◌, List, get_or, set, inr, refl, subst, sym, ap, ◌∙◌}
use Rattle.std.proofs.lemmas.List.{set-get_or}
use Rattle.std.proofs.lemmas.Bool.{false≢true}
use Rattle.go_core.specs.declared.party.Party.{Party}
use Rattle.std.specs.Prelude.{◌==◌}
use Rattle.go_core.specs.Turns.{home_of}
use Rattle.go_core.specs.Acts.{HasOut, IsLawful}
use Rattle.go_core.specs.Machine.{machine_of, absent}
use Rattle.go_core.proofs.Parties.{party_read}
use Rattle.go_core.proofs.turns.put_in.Goals as goal

pub returns-then-not-may_put_in-clause-row : goal.returns-then-not-may_put_in-clause-row
returns-then-not-may_put_in-clause-row c =
    let ps = c.args.parties.now.items in
    let i = c.args.i in
    let p = c.index_mut-party.result.now in
    let same : p ≡ get_or ps i absent = party_read ps i p c.requires.live.within c.index_mut-party.ensures.value in
    let b = c.args.part == 0 in
    let May : Party → Type 0 = λ z. HasOut c.args.parts.now z.stake c.args.part
    × IsLawful b z.view z.stake (home_of b c.args.parts.now).part c.args.state.now in
    let not' : May p → ⊥ = λ can. false≢true (c.if-not-may_put_in.ensures.1 can) in
    let unchanged : set ps i p ≡ ps = ap (set ps i) c.index_mut-party.ensures.value ∙ set-get_or ps i p in
    λ slots first words.
    inr (
      (λ can. not' (subst May (sym same) (can.1, can.2))),
      refl,
      ap (λ (zs : List Party). machine_of slots first words zs c.args.parts.now) unchanged,
    )
