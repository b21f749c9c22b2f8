-- `update`: what was copied and what was read are a span.
use Rattle.std.proofs.Common.{◌≡◌, ◌++◌, ◌-◌, length, min, max, ap, ◌∙◌, arith, subst}
use Rattle.go_rule.specs.Views.{frame_of}
use Rattle.go_turns.proofs.Going.{gone_further}
use Rattle.go_stream.specs.declared.wanted.Wanted.{Wanted}
use Rattle.go_stream.specs.Spans.{entries_from}
use Rattle.go_stream.proofs.Spans.{stops_after, updated}
use Rattle.go_stream.proofs.live_stream.LiveStream.update.Goals as goal

pub read_file-requires-clause-durable : goal.read_file-requires-clause-durable
read_file-requires-clause-durable g c =
    let durable = c.in-Ok.ensures.comes.durable in
    let left = c.min-left.ensures in
    let high = c.max.ensures in
    let middle = c.min-middle.ensures in
    omega arith

pub returns-in-Err-read_file-clause-updates : goal.returns-in-Err-read_file-clause-updates
returns-in-Err-read_file-clause-updates g c =
    let t = c.args.ring.now.table.shared in
    stops_after g.D.Disk.device (frame_of t.key) t.table_id.slots c.in-Err-read_file.why c.args.seat.now.me c.copy_until.new.seat.me c.read_file.new.seat.me
    c.in-Ok.ensures.comes.on c.in-Err-read_file.ensures.reads

pub returns-in_default-add_words-clause-updates : goal.returns-in_default-add_words-clause-updates
returns-in_default-add_words-clause-updates g c =
    gone_further (frame_of c.args.ring.now.table.shared.key) c.args.seat.now.me.0 c.copy_until.new.seat.me.0 c.read_file.new.seat.me.0
    c.in-Ok.ensures.comes.on c.in_default-read_file.ensures.reads.on

pub returns-clause-updates : goal.returns-clause-updates
returns-clause-updates g c =
    let f = frame_of c.args.ring.now.table.shared.key in
    let wanted : Wanted = record { from = c.args.self.now.cursor; most = c.args.max; floor = c.args.floor } in
    let come = c.in-Ok.ensures.comes in
    let span = c.span-span.result in
    let middle = c.min-middle.result in
    let buf = c.copy_until.new.buf in
    let file = c.read_file.new.out.items in
    let list = c.add_words.new.out.items in
    let long : length buf ≡ f.slots = c.copy_until.ensures.long ∙ c.requires.room ∙ c.args.ring.now.slots_is in
    let seen = c.requires.seen in
    let seen_before = come.seen_before in
    updated g.D.Disk.device f wanted c.args.seat.now.me.0 c.copy_until.new.seat.me.0 c.read_file.new.seat.me.0 c.in-Ok.copied buf span middle file list come
    c.in_default-read_file.ensures.reads (subst (λ n. list ≡ file ++ entries_from n middle (span.to - middle) buf) long c.in-Ok-add_words.ensures)
    c.span-span.ensures.from c.span-span.ensures.to
    (c.min-middle.ensures ∙ ap (min span.to) (c.max.ensures ∙ ap (max span.from) c.min-left.ensures)) (omega arith)
