-- Scripts are judged.
use Rattle.std.proofs.Common.{◌≡◌, ◌∙◌, ◌<◌, ◌≤◌, ℕ, List, length, map, sym, ap, rules, arith, subst}
use Rattle.std.specs.Prelude.{sum}
use Rattle.std.proofs.lemmas.Option.{slice_get_within}
use Rattle.std.proofs.lemmas.List.{length-map}
use Rattle.go_session.specs.Asked.{lists_of}
use Rattle.go_script.specs.Until.{KeepsUntil, IsFirstAgainst}
use Rattle.go_run.specs.Input.{counts_of}
use Rattle.go_run.proofs.TaskLemmas.{puts_small, wrong_until, wrong_puts, are_right, slice_get-is}
use Rattle.go_run.proofs.judging.judge.Goals as goal

pub check_until-requires-clause-small : goal.check_until-requires-clause-small
check_until-requires-clause-small c =
    let small = puts_small c.args.vertices c.args.scripts.now c.args.loads.now c.args.numbers.now c.requires.few c.requires.steps c.requires.entries
    c.requires.there c.requires.counted in
    rw (c.deref.ensures.value, c.in-Ok.ensures) small

pub bounds-names-place : goal.bounds-names-place
bounds-names-place c =
    let first = c.in-Some.ensures in
    omega (arith, slice_get_within c.args.scripts.now c.in-Some.place.script first.steps first.script, c.requires.named)

pub count_puts-counted-requires-clause-small : goal.count_puts-counted-requires-clause-small
count_puts-counted-requires-clause-small c =
    let small = puts_small c.args.vertices c.args.scripts.now c.args.loads.now c.args.numbers.now c.requires.few c.requires.steps c.requires.entries
    c.requires.there c.requires.counted in
    rw (c.deref-2.ensures.value, c.in-Ok.ensures) small

pub returns-in-Some : goal.returns-in-Some
returns-in-Some c =
    let scripts = c.args.scripts.now in
    let lists = lists_of c.args.loads.now c.args.numbers.now in
    let counted : c.deref.result.now ≡ counts_of lists = c.deref.ensures.value ∙ c.in-Ok.ensures in
    let first = subst (λ (counts : List ℕ). IsFirstAgainst scripts counts c.in-Some.place) counted c.in-Some.ensures in
    let within : c.in-Some.place.script < length c.args.names.now =
    omega (arith, slice_get_within scripts c.in-Some.place.script first.steps first.script, c.requires.named) in
    wrong_until c.args.names.now scripts lists c.in-Some.place c.index-names-place.result c.faulty.result first
    (slice_get-is c.args.names.now c.in-Some.place.script c.index-names-place.result within c.index-names-place.is) c.faulty.ensures

pub returns-then-counted-gt-LOG_ENTRIES : goal.returns-then-counted-gt-LOG_ENTRIES
returns-then-counted-gt-LOG_ENTRIES c =
    let scripts = c.args.scripts.now in
    let lists = lists_of c.args.loads.now c.args.numbers.now in
    let counted : c.deref.result.now ≡ counts_of lists = c.deref.ensures.value ∙ c.in-Ok.ensures in
    let until = subst (λ (counts : List ℕ). KeepsUntil scripts counts) counted c.in_default-check_until.ensures in
    let all = length-map c.args.numbers.now _ ∙ c.requires.counted in
    let puts = rw (c.deref-2.ensures.value, c.in-Ok.ensures) at c.count_puts-counted.ensures in
    wrong_puts c.args.names.now scripts lists c.count_puts-counted.result until all puts c.if-counted-gt-LOG_ENTRIES.true

pub returns : goal.returns
returns c =
    let scripts = c.args.scripts.now in
    let lists = lists_of c.args.loads.now c.args.numbers.now in
    let counted : c.deref.result.now ≡ counts_of lists = c.deref.ensures.value ∙ c.in-Ok.ensures in
    let until = subst (λ (counts : List ℕ). KeepsUntil scripts counts) counted c.in_default-check_until.ensures in
    let all = length-map c.args.numbers.now _ ∙ c.requires.counted in
    let puts = rw (c.deref-2.ensures.value, c.in-Ok.ensures) at c.count_puts-counted.ensures in
    are_right scripts lists c.count_puts-counted.result until all puts c.if-counted-gt-LOG_ENTRIES.false
