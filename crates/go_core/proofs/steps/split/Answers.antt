-- `split`: the new party comes last.
use Rattle.std.proofs.Common.{◌≡◌, List, inl, ap, arith, length}
use Rattle.go_core.specs.declared.act.Out.TheVariants.{Number}
use Rattle.go_core.specs.declared.party.Party.{Party}
use Rattle.go_core.specs.declared.view.View.{View}
use Rattle.go_core.specs.Machine.{machine_of}
use Rattle.go_core.proofs.Parties.{split_parties}
use Rattle.go_core.proofs.steps.split.Goals as goal

pub returns-clause-row : goal.returns-clause-row
returns-clause-row c =
    let ps = c.args.parties.now.items in
    let i = c.args.i in
    let p = c.index_mut-party.result.now in
    let new : Party = c.split_off-new.result in
    let count : c.len-count.result ≡ length ps = omega arith in
    λ slots first words parts.
    inl (
      (c.requires.live.live, omega arith),
      ap Number count,
      ap (λ (zs : List Party). machine_of slots first words zs parts)
          (split_parties ps c.push.new.self.items i p c.index.result.now new _ c.requires.live.within c.index.ensures c.split_off-new.ensures
          c.in_ok-push.ensures.items c.index_mut-party.ensures.value
          (ap (λ (w : View). let z : Party = record { view = w; stake = p.stake } in z) c.stay.ensures)),
    )
