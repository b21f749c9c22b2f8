-- `later_words`: entries that were read from words can be held, and are as many as the positions.
use Rattle.std.proofs.Common.{◌≡◌, ◌-◌, length, sym, ap, ◌∙◌, arith, subst}
use Rattle.std.specs.Prelude.{All}
use Rattle.std.proofs.lemmas.List.FromFn.{length-map-range_with_len}
use Rattle.go_word.specs.Word.{IsStorable}
use Rattle.go_views.specs.Copying.{entry_at}
use Rattle.go_views.proofs.Entries.{entries_fit}
use Rattle.go_views.proofs.later.later_words.Goals as goal

pub new-requires-clause-storable : goal.new-requires-clause-storable
new-requires-clause-storable c =
    subst (All IsStorable) (sym (c.deref.ensures.value ∙ c.in_ok-entries.ensures))
    (entries_fit (length c.args.buf.now) c.args.buf.now c.args.from (c.args.to - c.args.from))

pub new-requires-clause-small : goal.new-requires-clause-small
new-requires-clause-small c =
    let count = c.args.to - c.args.from in
    let long : length c.deref.result.now ≡ count =
    ap length (c.deref.ensures.value ∙ c.in_ok-entries.ensures)
    ∙ length-map-range_with_len (entry_at (length c.args.buf.now) c.args.buf.now) c.args.from count
    in
    let small = c.requires.small in
    omega arith
