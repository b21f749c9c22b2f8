-- `store_word`: a pending entry can be held by a word.
use Rattle.std.proofs.Common.{◌≡◌, All, List, set, get_or, subst, sym, ap, ◌∙◌, arith}
use Rattle.std.specs.Prelude.{find}
use Rattle.go_core.specs.View.{stands_at}
use Rattle.std.proofs.lemmas.List.{get_or_default, set-get_or}
use Rattle.std.proofs.lemmas.List.Elements.{All-contains}
use Rattle.go_word.specs.Word.{IsStorable}
use Rattle.go_core.specs.declared.entry.Entry.{Entry}
use Rattle.go_core.specs.declared.party.Party.{Party}
use Rattle.go_core.specs.Acts.{HasRoom}
use Rattle.go_core.specs.Machine.{absent, machine_of, party_at, Stores}
use Rattle.go_core.specs.declared.act.Out.TheVariants.{Refused}
use Rattle.go_core.proofs.Parties.{party_read}
use Rattle.go_core.proofs.Ready.{stores_refused}
use Rattle.go_core.proofs.Rows.{found_in}
use Rattle.go_core.proofs.steps.store_word.Goals as goal

pub encode-requires-clause-storable : goal.encode-requires-clause-storable
encode-requires-clause-storable c =
    let P : Entry → Type 0 = λ x. IsStorable x.edge in
    let p = c.index_mut-party.result.now in
    let same : p ≡ get_or c.args.parties.now.items c.args.i absent = c.index_mut-party.ensures.value
    ∙ get_or_default c.args.parties.now.items c.args.i p absent c.requires.live.within in
    let all : All P p.view.pending = subst (λ (q : Party). All P q.view.pending) (sym same) c.requires.storable in
    All-contains P p.view.pending c.in-Some.entry all (found_in c.args.at p.view.pending c.in-Some.entry (sym c.in-Some.ensures)).0

pub returns-then-slots-saturating_sub-clause-row : goal.returns-then-slots-saturating_sub-clause-row
returns-then-slots-saturating_sub-clause-row c =
    let ps = c.args.parties.now.items in
    let i = c.args.i in
    let p = c.index_mut-party.result.now in
    let same : p ≡ get_or ps i absent = party_read ps i p c.requires.live.within c.index_mut-party.ensures.value in
    λ first parts.
    (let m = machine_of c.args.slots first c.args.words.now.items ps parts in
    let full : HasRoom m.frame p.view c.args.at → ⊥ = λ room. omega arith in
    let o = find (stands_at c.args.at) (party_at m i).view.pending in
    let unchanged : set ps i p ≡ ps = ap (set ps i) c.index_mut-party.ensures.value ∙ set-get_or ps i p in
    subst (λ (zs : List Party). Stores m i c.args.at o Refused (machine_of c.args.slots first c.args.words.now.items zs parts)) (sym unchanged)
    (stores_refused m i c.args.at o (subst (λ (z : Party). HasRoom m.frame z.view c.args.at → ⊥) same full)))
