-- `one`: each act is done by its own function.
use Rattle.go_core.proofs.Ready.{one_row, slot_row, one_row_parties, one_row_parts, one_row_turn}
use Rattle.go_core.proofs.play.one.Goals as goal

pub returns-in-Claim-clause-row : goal.returns-in-Claim-clause-row
returns-in-Claim-clause-row c =
    one_row c.claim.result c.args.slots c.args.words.now.items c.claim.new.words.items c.args.parties.now.items c.claim.new.parties.items c.args.parts.now
    c.args.event.now.party c.args.event.now.act _ c.in-Claim.is c.claim.ensures.row

pub returns-in-LoadHead-clause-row : goal.returns-in-LoadHead-clause-row
returns-in-LoadHead-clause-row c = λ first. rw (c.in-LoadHead.is, ← c.deref-in-LoadHead.ensures.value) (c.load_head.ensures c.args.slots first c.args.parts.now)

pub returns-in-LoadArchived-clause-row : goal.returns-in-LoadArchived-clause-row
returns-in-LoadArchived-clause-row c =
    rw (← c.deref-in-LoadArchived.ensures.value)
    (one_row c.load_front.result c.args.slots c.deref-in-LoadArchived.result.now c.deref-in-LoadArchived.result.now c.args.parties.now.items
    c.load_front.new.parties.items c.args.parts.now c.args.event.now.party c.args.event.now.act _ c.in-LoadArchived.is c.load_front.ensures.row)

pub returns-in-LoadOrdered-clause-row : goal.returns-in-LoadOrdered-clause-row
returns-in-LoadOrdered-clause-row c = λ first. rw (c.in-LoadOrdered.is, ← c.deref-in-LoadOrdered.ensures.value) (c.load_ordered.ensures first c.args.parts.now)

pub returns-in-StoreArchived-clause-row : goal.returns-in-StoreArchived-clause-row
returns-in-StoreArchived-clause-row c = λ first. rw c.in-StoreArchived.is (c.store_front.ensures c.args.slots first c.args.parts.now)

pub returns-in-LoadDurable-clause-row : goal.returns-in-LoadDurable-clause-row
returns-in-LoadDurable-clause-row c =
    rw (← c.deref-in-LoadDurable.ensures.value)
    (one_row c.load_front-in-LoadDurable.result c.args.slots c.deref-in-LoadDurable.result.now c.deref-in-LoadDurable.result.now c.args.parties.now.items
    c.load_front-in-LoadDurable.new.parties.items c.args.parts.now c.args.event.now.party c.args.event.now.act _ c.in-LoadDurable.is
    c.load_front-in-LoadDurable.ensures.row)

pub returns-in-LoadTentative-clause-row : goal.returns-in-LoadTentative-clause-row
returns-in-LoadTentative-clause-row c =
    rw (← c.deref-in-LoadTentative.ensures.value)
    (slot_row c.load_tentative.result c.args.slots c.deref-in-LoadTentative.result.now c.deref-in-LoadTentative.result.now c.args.parties.now.items
    c.load_tentative.new.parties.items c.args.parts.now c.args.event.now.party c.args.event.now.act _ c.in-LoadTentative.is c.load_tentative.ensures.row)

pub returns-in-StoreWord-clause-row : goal.returns-in-StoreWord-clause-row
returns-in-StoreWord-clause-row c =
    slot_row c.store_word.result c.args.slots c.args.words.now.items c.store_word.new.words.items c.args.parties.now.items c.store_word.new.parties.items
    c.args.parts.now c.args.event.now.party c.args.event.now.act _ c.in-StoreWord.is c.store_word.ensures.row

pub returns-in-TakeTurn-clause-row : goal.returns-in-TakeTurn-clause-row
returns-in-TakeTurn-clause-row c = λ first. rw c.in-TakeTurn.is (c.take_turn.ensures c.args.slots first)

pub returns-in-PartOut-clause-row : goal.returns-in-PartOut-clause-row
returns-in-PartOut-clause-row c = λ first. rw c.in-PartOut.is (c.take_out.ensures c.args.slots first c.args.words.now.items)

pub returns-in-PartIn-clause-row : goal.returns-in-PartIn-clause-row
returns-in-PartIn-clause-row c =
    one_row_parts c.put_in.result c.args.slots c.args.words.now.items c.args.parties.now.items c.put_in.new.parties.items c.args.parts.now c.put_in.new.parts
    c.args.event.now.party c.args.event.now.act _ c.in-PartIn.is c.put_in.ensures.row

pub returns-in-GiveTurn-clause-row : goal.returns-in-GiveTurn-clause-row
returns-in-GiveTurn-clause-row c =
    one_row_turn c.give_turn.result c.args.slots c.args.words.now.items c.give_turn.new.words.items c.args.parties.now.items c.give_turn.new.parties.items
    c.args.parts.now c.args.event.now.party c.args.event.now.act _ c.in-GiveTurn.is c.give_turn.ensures.row

pub returns-in-StoreDurable-clause-row : goal.returns-in-StoreDurable-clause-row
returns-in-StoreDurable-clause-row c = λ first. rw c.in-StoreDurable.is (c.store_front-in-StoreDurable.ensures c.args.slots first c.args.parts.now)

pub returns-in-LoadFlag-clause-row : goal.returns-in-LoadFlag-clause-row
returns-in-LoadFlag-clause-row c = λ first. rw (c.in-LoadFlag.is, ← c.deref-in-LoadFlag.ensures.value) (c.load_flag.ensures c.args.slots first c.args.parts.now)

pub returns-in-StoreFlag-clause-row : goal.returns-in-StoreFlag-clause-row
returns-in-StoreFlag-clause-row c = λ first. rw c.in-StoreFlag.is (c.store_flag.ensures c.args.slots first c.args.parts.now)

pub returns-in-Split-clause-row : goal.returns-in-Split-clause-row
returns-in-Split-clause-row c =
    one_row_parties c.split.result c.args.slots c.args.words.now.items c.args.parties.now.items c.split.new.parties.items c.args.parts.now
    c.args.event.now.party c.args.event.now.act _ c.in-Split.is c.split.ensures.row

pub returns-in-Join-clause-row : goal.returns-in-Join-clause-row
returns-in-Join-clause-row c =
    one_row_parties c.join.result c.args.slots c.args.words.now.items c.args.parties.now.items c.join.new.parties.items c.args.parts.now
    c.args.event.now.party c.args.event.now.act _ c.in-Join.is c.join.ensures.row
