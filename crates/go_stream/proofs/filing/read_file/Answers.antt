-- `read_file`: the file goes back as it may, and its entries are the log's.
use Rattle.std.proofs.Common.{◌≡◌, sym, ap, ◌∙◌, inr, arith, subst}
use Rattle.std.specs.Prelude.{Some}
use Rattle.go_api.specs.declared.stop.Stop.{Stop}
use Rattle.go_api.specs.declared.stop.Stop.TheVariants as stops
use Rattle.go_core.specs.Parts.{IsFilePlace}
use Rattle.go_durable.specs.declared.journal.Journal.TheVariants as journals
use Rattle.go_durable.specs.JournalRanging.{HasRanged, IsRanged}
use Rattle.go_rule.specs.Views.{frame_of}
use Rattle.go_turns.specs.Holding.{Takes}
use Rattle.go_piece.specs.declared.piece.Piece.TheVariants.{Log, Spent}
use Rattle.go_piece.specs.Meanings.{meaning_of}
use Rattle.go_piece.specs.Pieces.{file_of}
use Rattle.go_stream.proofs.Turns.{may_at, gives_at}
use Rattle.go_stream.proofs.Files.{is_read, may_give_read, may_give_failed, may_give_spent, gone_turn, stops_spent, has_failed}
use Rattle.go_stream.proofs.filing.read_file.Goals as goal

pub give-requires-clause-may : goal.give-requires-clause-may
give-requires-clause-may g c =
    let device = g.D.Disk.device in
    let m = meaning_of device in
    let f = frame_of c.args.ring.now.table.shared.key in
    let shards = c.args.ring.now.shards_is in
    let place = c.args.ring.now.shards in
    let here : IsFilePlace f place = omega arith in
    let me = c.args.seat.now.me in
    let now = c.take.new.seat.me in
    let kept = c.in-Log.log in
    let read = c.read_range-journal in
    let journal = read.result.journal in
    let takes : Takes m f place (Log kept) me now = subst (λ p. Takes m f place p me now) (sym c.lift-part.ensures.part ∙ c.in-Log.is) c.take.ensures.takes.1 in
    let ranged = subst (HasRanged device _ _ _) c.in-None.is read.ensures.read in
    may_at m f c.back-read.result.key.place place c.back-read.result.part (file_of journal) now
    (ap (λ k. k.place) (c.back-read.ensures.key ∙ c.lift-part.ensures.key) ∙ c.take.ensures.takes.0) (c.back-read.ensures.part ∙ c.file.ensures)
    (may_give_read device f place here me now g.met.D.Disk.rules kept journal takes read.ensures.keeps read.ensures.front ranged.sound)

pub give-requires-in-Memory-clause-may : goal.give-requires-in-Memory-clause-may
give-requires-in-Memory-clause-may g c =
    let device = g.D.Disk.device in
    let m = meaning_of device in
    let f = frame_of c.args.ring.now.table.shared.key in
    let shards = c.args.ring.now.shards_is in
    let place = c.args.ring.now.shards in
    let here : IsFilePlace f place = omega arith in
    let me = c.args.seat.now.me in
    let now = c.take.new.seat.me in
    let kept = c.in-Log.log in
    let read = c.read_range-journal in
    let journal = read.result.journal in
    let takes : Takes m f place (Log kept) me now = subst (λ p. Takes m f place p me now) (sym c.lift-part.ensures.part ∙ c.in-Log.is) c.take.ensures.takes.1 in
    let is : read.result.stop ≡ Some stops.Memory = subst (λ (w : Stop). read.result.stop ≡ Some w) c.in-Memory.is c.in-Some.is in
    let stopped = subst (HasRanged device _ _ _) is read.ensures.read in
    may_at m f c.back-read.result.key.place place c.back-read.result.part (file_of journal) now
    (ap (λ k. k.place) (c.back-read.ensures.key ∙ c.lift-part.ensures.key) ∙ c.take.ensures.takes.0) (c.back-read.ensures.part ∙ c.file.ensures)
    (may_give_read device f place here me now g.met.D.Disk.rules kept journal takes read.ensures.keeps read.ensures.front stopped.0)

pub give-requires-in-Disk-clause-may : goal.give-requires-in-Disk-clause-may
give-requires-in-Disk-clause-may g c =
    let device = g.D.Disk.device in
    let m = meaning_of device in
    let f = frame_of c.args.ring.now.table.shared.key in
    let shards = c.args.ring.now.shards_is in
    let place = c.args.ring.now.shards in
    let here : IsFilePlace f place = omega arith in
    let me = c.args.seat.now.me in
    let now = c.take.new.seat.me in
    let kept = c.in-Log.log in
    let read = c.read_range-journal in
    let journal = read.result.journal in
    let takes : Takes m f place (Log kept) me now = subst (λ p. Takes m f place p me now) (sym c.lift-part.ensures.part ∙ c.in-Log.is) c.take.ensures.takes.1 in
    may_at m f c.back-read.result.key.place place c.back-read.result.part (file_of journal) c.raise.new.seat.me
    (ap (λ k. k.place) (c.back-read.ensures.key ∙ c.lift-part.ensures.key) ∙ c.take.ensures.takes.0) (c.back-read.ensures.part ∙ c.file.ensures)
    (may_give_failed device f place here me now g.met.D.Disk.rules kept journal c.raise.new.seat.me takes read.ensures.keeps read.ensures.front
    c.raise.ensures.tells)

pub give-requires-in-Spent-clause-may : goal.give-requires-in-Spent-clause-may
give-requires-in-Spent-clause-may g c =
    let device = g.D.Disk.device in
    let m = meaning_of device in
    let t = c.args.ring.now.table.shared in
    let f = frame_of t.key in
    let shards = c.args.ring.now.shards_is in
    let place = c.args.ring.now.shards in
    let here : IsFilePlace f place = omega arith in
    let me = c.args.seat.now.me in
    let now = c.take.new.seat.me in
    let part = Spent c.in-Spent.disk c.in-Spent.front in
    let then = c.wait_for_flag-why.new.seat.me in
    let takes : Takes m f place part me now = subst (λ p. Takes m f place p me now) (sym c.lift-part.ensures.part ∙ c.in-Spent.is) c.take.ensures.takes.1 in
    may_at m f c.back.result.key.place place c.back.result.part part then
    (ap (λ k. k.place) (c.back.ensures.key ∙ c.lift-part.ensures.key) ∙ c.take.ensures.takes.0) c.back.ensures.part
    (may_give_spent device f place here me now t.table_id.slots part c.wait_for_flag-why.result then takes c.wait_for_flag-why.ensures.tells)

pub returns-in-None-clause-reads : goal.returns-in-None-clause-reads
returns-in-None-clause-reads g c =
    let device = g.D.Disk.device in
    let m = meaning_of device in
    let f = frame_of c.args.ring.now.table.shared.key in
    let shards = c.args.ring.now.shards_is in
    let place = c.args.ring.now.shards in
    let here : IsFilePlace f place = omega arith in
    let me = c.args.seat.now.me in
    let now = c.take.new.seat.me in
    let after = c.give.new.seat.me in
    let kept = c.in-Log.log in
    let read = c.read_range-journal in
    let journal = read.result.journal in
    let list = read.new.out.items in
    let takes : Takes m f place (Log kept) me now = subst (λ p. Takes m f place p me now) (sym c.lift-part.ensures.part ∙ c.in-Log.is) c.take.ensures.takes.1 in
    let ranged = subst (HasRanged device _ _ _) c.in-None.is read.ensures.read in
    let first =
    subst (λ b. IsRanged device (record { from = c.args.from; upto = c.args.to; before = b; after = list }) (journals.Sound kept) journal) c.requires.empty ranged
    in
    is_read device f place here me now kept journal c.args.from c.args.to list after takes first c.requires.order c.requires.seen
    (gives_at m c.back-read.result.key.place place c.back-read.result.part (file_of journal) now after
    (ap (λ k. k.place) (c.back-read.ensures.key ∙ c.lift-part.ensures.key) ∙ c.take.ensures.takes.0) (c.back-read.ensures.part ∙ c.file.ensures)
    c.give.ensures.gives)

pub returns-in-Memory-clause-reads : goal.returns-in-Memory-clause-reads
returns-in-Memory-clause-reads g c =
    let device = g.D.Disk.device in
    let m = meaning_of device in
    let f = frame_of c.args.ring.now.table.shared.key in
    let shards = c.args.ring.now.shards_is in
    let place = c.args.ring.now.shards in
    let here : IsFilePlace f place = omega arith in
    let me = c.args.seat.now.me in
    let now = c.take.new.seat.me in
    let after = c.give-in-Memory.new.seat.me in
    let kept = c.in-Log.log in
    let journal = c.read_range-journal.result.journal in
    let takes : Takes m f place (Log kept) me now = subst (λ p. Takes m f place p me now) (sym c.lift-part.ensures.part ∙ c.in-Log.is) c.take.ensures.takes.1 in
    gone_turn device f place here me now (Log kept) (file_of journal) after takes
    (gives_at m c.back-read.result.key.place place c.back-read.result.part (file_of journal) now after
    (ap (λ k. k.place) (c.back-read.ensures.key ∙ c.lift-part.ensures.key) ∙ c.take.ensures.takes.0) (c.back-read.ensures.part ∙ c.file.ensures)
    c.give-in-Memory.ensures.gives)

pub returns-in-Disk-clause-reads : goal.returns-in-Disk-clause-reads
returns-in-Disk-clause-reads g c =
    let device = g.D.Disk.device in
    let m = meaning_of device in
    let f = frame_of c.args.ring.now.table.shared.key in
    let shards = c.args.ring.now.shards_is in
    let place = c.args.ring.now.shards in
    let here : IsFilePlace f place = omega arith in
    let me = c.args.seat.now.me in
    let now = c.take.new.seat.me in
    let then = c.raise.new.seat.me in
    let after = c.give-in-Disk.new.seat.me in
    let kept = c.in-Log.log in
    let read = c.read_range-journal in
    let journal = read.result.journal in
    let takes : Takes m f place (Log kept) me now = subst (λ p. Takes m f place p me now) (sym c.lift-part.ensures.part ∙ c.in-Log.is) c.take.ensures.takes.1 in
    let is : read.result.stop ≡ Some stops.Disk = subst (λ (w : Stop). read.result.stop ≡ Some w) c.in-Disk.is c.in-Some.is in
    let stopped = subst (HasRanged device _ _ _) is read.ensures.read in
    inr (has_failed device f place here me now g.met.D.Disk.rules kept journal then after takes read.ensures.keeps stopped.0 c.raise.ensures.tells
    (gives_at m c.back-read.result.key.place place c.back-read.result.part (file_of journal) then after
    (ap (λ k. k.place) (c.back-read.ensures.key ∙ c.lift-part.ensures.key) ∙ c.take.ensures.takes.0) (c.back-read.ensures.part ∙ c.file.ensures)
    c.give-in-Disk.ensures.gives))

pub returns-in-Spent-clause-reads : goal.returns-in-Spent-clause-reads
returns-in-Spent-clause-reads g c =
    let device = g.D.Disk.device in
    let m = meaning_of device in
    let t = c.args.ring.now.table.shared in
    let f = frame_of t.key in
    let shards = c.args.ring.now.shards_is in
    let place = c.args.ring.now.shards in
    let here : IsFilePlace f place = omega arith in
    let me = c.args.seat.now.me in
    let now = c.take.new.seat.me in
    let part = Spent c.in-Spent.disk c.in-Spent.front in
    let then = c.wait_for_flag-why.new.seat.me in
    let after = c.give-in-Spent.new.seat.me in
    let takes : Takes m f place part me now = subst (λ p. Takes m f place p me now) (sym c.lift-part.ensures.part ∙ c.in-Spent.is) c.take.ensures.takes.1 in
    stops_spent device f place here me now part part after takes t.table_id.slots c.wait_for_flag-why.result then c.wait_for_flag-why.ensures.tells
    (gives_at m c.back.result.key.place place c.back.result.part part then after
    (ap (λ k. k.place) (c.back.ensures.key ∙ c.lift-part.ensures.key) ∙ c.take.ensures.takes.0) c.back.ensures.part c.give-in-Spent.ensures.gives)
