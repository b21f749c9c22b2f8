-- `gather`: the ring was copied, the pins were settled, and the later words were read.
use Rattle.std.proofs.Common.{◌≡◌, ℕ, ◌-◌, ◌<◌, length, map, sym, ap, ◌∙◌, arith, subst}
use Rattle.std.specs.Prelude.{All}
use Rattle.go_word.specs.declared.edge.Edge.{Edge}
use Rattle.go_word.specs.Log.{entries_from}
use Rattle.go_word.specs.Word.{plain_word}
use Rattle.go_rule.specs.Views.{frame_of}
use Rattle.go_shard.specs.ByVertex.{words_of}
use Rattle.go_views.specs.Copying.{entries_at}
use Rattle.go_views.specs.Pins.{HasSettledEach}
use Rattle.go_views.specs.Settling.{AreCounted}
use Rattle.go_views.proofs.EachTurn.{names_going}
use Rattle.go_views.proofs.Entries.{entries_inside}
use Rattle.go_views.proofs.Gathered.{can_settle, gathered, stopped_first}
use Rattle.go_views.proofs.taking.gather.Goals as goal

pub returns-in-Err-clause-gathers : goal.returns-in-Err-clause-gathers
returns-in-Err-clause-gathers g c =
    let t = c.args.ring.now.table.shared in
    stopped_first (frame_of t.key) t.table_id.slots c.args.seat.now.me c.copy_up_to.new.seat.me c.args.names.now c.in-Err.why c.in-Err.ensures.stops

pub settle_each-requires-clause-can : goal.settle_each-requires-clause-can
settle_each-requires-clause-can g c =
    let ring = c.args.ring.now in
    let f = frame_of ring.table.shared.key in
    let names = c.args.names.now in
    let d = c.args.seat.now.me.0 in
    let e = c.copy_up_to.new.seat.me.0 in
    let come = c.in-Ok.ensures.comes in
    let shards = ring.shards_is in
    let all = c.requires.shards.0 in
    can_settle f c.args.floor d e c.in-Ok.copied c.copy_up_to.new.buf come names
    (names_going f names d e (λ place less. omega arith) come.on c.requires.named)

pub later_words-requires-clause-inside : goal.later_words-requires-clause-inside
later_words-requires-clause-inside g c =
    let ring = c.args.ring.now in
    let f = frame_of ring.table.shared.key in
    let copied = c.in-Ok.copied in
    let buf = c.copy_up_to.new.buf in
    let e = c.copy_up_to.new.seat.me.0 in
    let long : length buf ≡ f.slots = c.copy_up_to.ensures.long ∙ c.requires.room ∙ ring.slots_is in
    let counted = c.in-Ok-settle_each.ensures.settled.1 in
    let vertices = counted.vertices in
    let so_many = c.vertices.ensures in
    subst (λ n. All (λ (x : Edge). x.src < c.vertices.result) (entries_at n buf copied.archived (copied.end - copied.archived))) (sym long)
    (entries_inside f c.args.floor c.args.seat.now.me.0 e copied buf c.in-Ok.ensures.comes c.vertices.result (omega arith))

pub returns-clause-gathers : goal.returns-clause-gathers
returns-clause-gathers g c =
    let ring = c.args.ring.now in
    let f = frame_of ring.table.shared.key in
    let names = c.args.names.now in
    let copied = c.in-Ok.copied in
    let buf = c.copy_up_to.new.buf in
    let e = c.copy_up_to.new.seat.me.0 in
    let now = c.settle_each.new.seat.me.0 in
    let counts = c.in-Ok-settle_each.counts in
    let later = c.in-Ok-later_words.later in
    let all = c.requires.shards.0 in
    let long : length buf ≡ f.slots = c.copy_up_to.ensures.long ∙ c.requires.room ∙ ring.slots_is in
    let settled = c.in-Ok-settle_each.ensures.settled in
    let counted = subst (λ n. AreCounted n copied.archived counts e) (sym all) settled.1 in
    let each = subst (λ n. HasSettledEach f n names copied.archived e now) (sym all) settled.0 in
    let so_many = c.vertices.ensures in
    let words : (v : ℕ) → v < length counts.list
    → words_of later v ≡ map plain_word (entries_from v (entries_at f.slots buf copied.archived (copied.end - copied.archived))) =
    λ v less.
    c.in-Ok-later_words.ensures.words v (omega arith)
    ∙ ap (λ n. map plain_word (entries_from v (entries_at n buf copied.archived (copied.end - copied.archived)))) long
    in
    gathered f c.args.floor c.args.seat.now.me.0 e copied buf c.in-Ok.ensures.comes names now counts later counted each
    (c.in-Ok-later_words.ensures.vertices ∙ so_many) words
