-- `take_run`: a matched word lengthens the run.
use Rattle.std.proofs.Common.{◌≡◌, ℕ, ◌+◌, ◌++◌, [], ◌∷◌, List, true, false, length, take, sym, ap, ◌∙◌, inr, ⊎_elim, arith, subst}
use Rattle.std.proofs.lemmas.Bool.{both_ways}
use Rattle.std.proofs.lemmas.List.{length-take-le, length-set}
use Rattle.go_word.specs.declared.edge.Edge.{Edge}
use Rattle.go_word.specs.Word.{is_matched, decode}
use Rattle.go_rule.specs.Views.{frame_of, with_unmoved}
use Rattle.go_rule.specs.Steps.{Took}
use Rattle.go_ring.specs.Cursors.{IsCursorAt}
use Rattle.go_ring.proofs.Runs.{Reading, reads_next, next_small, still_unseen, ends_short, take_put, drop_put}
use Rattle.go_ring.proofs.takes.take_run.Goals as goal

pub overflow_add-at : goal.overflow_add-at
overflow_add-at g c =
    let inv = c.loop-count.invariant in
    let out = c.loop-count.out in
    let count = c.loop-count.count in
    let within = inv.6 in
    let long : length (take count out) ≡ count = length-take-le count out within in
    let fits = c.ranges.from.fits in
    let small = next_small c.args.from (take count out) c.args.seat.now.me c.loop-count.seat.me (omega arith) inv.3 in
    omega arith

pub loop-count-preserved : goal.loop-count-preserved
loop-count-preserved g c =
    let inv = c.loop-count.invariant in
    let out = c.loop-count.out in
    let count = c.loop-count.count in
    let from = c.args.from in
    let start = c.args.seat.now.me in
    let old = c.loop-count.seat.me in
    let load = c.load_in_turn-word in
    let word = load.result in
    let now = load.new.seat.me in
    let less = c.loop-count-test.true in
    let within = inv.6 in
    let slots = c.args.ring.now.slots in
    let es = take count out in
    let e = decode word in
    let long : length es ≡ count = length-take-le count out within in
    let f = frame_of c.args.ring.now.table.shared.key in
    let is = c.matches.ensures f (from + count) inv.7 ∙ ap (λ n. is_matched n (from + count) word) (sym c.args.ring.now.slots_is) in
    let matched : is_matched slots (from + count) word ≡ true = sym is ∙ c.if-not-matches.false in
    let took : Took (from + count) old word now =
    ⊎_elim (λ is. is.1) (λ not. absurd (both_ways (is_matched slots (from + count) word) not.0 matched)) load.ensures.tells
    in
    let read : Reading from (es ++ e ∷ []) start now =
    reads_next from es word start old now inv.3 (subst (λ n. Took (from + n) old word now) (sym long) took)
    in
    let put = take_put count out c.decode.result less in
    let same = c.decode.ensures in
    let after : (from + count) + 1 ≡ from + (count + 1) = omega arith in
    let sets = length-set out count c.decode.result in (
      load.ensures.stays.0 ∙ inv.0,
      load.ensures.stays.1 ∙ inv.1,
      ap (λ z. z.0.core.live) took.becomes ∙ inv.2,
      subst (λ (zs : List Edge). Reading from zs start now) (sym put) (subst (λ (z : Edge). Reading from (es ++ z ∷ []) start now) (sym same) read),
      sets ∙ inv.4,
      drop_put count out c.args.out.now c.decode.result inv.5,
      omega arith,
      subst (λ (p : ℕ). IsCursorAt f p c.next-cursor.result) after c.next-cursor.ensures,
    )

pub next-cursor-requires-clause-small : goal.next-cursor-requires-clause-small
next-cursor-requires-clause-small g c =
    let inv = c.loop-count.invariant in
    let p : ℕ = c.args.from + c.loop-count.count in
    let slots = c.args.ring.now.slots in
    let load = c.load_in_turn-word in
    let word = load.result in
    let is = c.matches.ensures (frame_of c.args.ring.now.table.shared.key) p inv.7 ∙ ap (λ n. is_matched n p word) (sym c.args.ring.now.slots_is) in
    let matched : is_matched slots p word ≡ true = sym is ∙ c.if-not-matches.false in
    let took : Took p c.loop-count.seat.me word load.new.seat.me =
    ⊎_elim (λ is. is.1) (λ not. absurd (both_ways (is_matched slots p word) not.0 matched)) load.ensures.tells
    in
    let small = took.small in omega arith

pub returns-then-not-matches-clause-takes : goal.returns-then-not-matches-clause-takes
returns-then-not-matches-clause-takes g c =
    let inv = c.loop-count.invariant in
    let out = c.loop-count.out in
    let count = c.loop-count.count in
    let p : ℕ = c.args.from + count in
    let slots = c.args.ring.now.slots in
    let load = c.load_in_turn-word in
    let word = load.result in
    let is = c.matches.ensures (frame_of c.args.ring.now.table.shared.key) p inv.7 ∙ ap (λ n. is_matched n p word) (sym c.args.ring.now.slots_is) in
    let unmatched : is_matched slots p word ≡ false = sym is ∙ c.if-not-matches.true in
    let becomes : load.new.seat.me ≡ (with_unmoved c.loop-count.seat.me.0, c.loop-count.seat.me.1) =
    ⊎_elim (λ is. absurd (both_ways (is_matched slots p word) unmatched is.0)) (λ not. not.3) load.ensures.tells
    in
    let less = c.loop-count-test.true in
    let long = inv.4 in
    let within = inv.6 in
    let run : length (take count out) ≡ count = length-take-le count out within in
    ends_short c.args.from (length c.args.out.now) (take count out) c.args.seat.now.me c.loop-count.seat.me load.new.seat.me (omega arith) inv.3 becomes

pub returns-then-not-matches-clause-longest : goal.returns-then-not-matches-clause-longest
returns-then-not-matches-clause-longest g c =
    let inv = c.loop-count.invariant in
    let p : ℕ = c.args.from + c.loop-count.count in
    let slots = c.args.ring.now.slots in
    let load = c.load_in_turn-word in
    let word = load.result in
    let is = c.matches.ensures (frame_of c.args.ring.now.table.shared.key) p inv.7 ∙ ap (λ n. is_matched n p word) (sym c.args.ring.now.slots_is) in
    let unmatched : is_matched slots p word ≡ false = sym is ∙ c.if-not-matches.true in
    ⊎_elim (λ is. absurd (both_ways (is_matched slots p word) unmatched is.0))
    (λ not.
    let past = still_unseen c.args.from p (take c.loop-count.count c.loop-count.out) c.args.seat.now.me c.loop-count.seat.me inv.3 not.1 not.2 in
    inr (record { word = word; unmatched = unmatched; unseen = past.0; untaken = past.1 })) load.ensures.tells
