-- `bring_on`: what is left of the shard's list is what it lacks of the run.
use Rattle.std.proofs.Common.{◌≡◌, ◌+◌, ◌-◌, ◌≤◌, true, List, [], length, take, drop, filter, get_or, sym, refl, ap, ◌∙◌, arith, subst}
use Rattle.std.specs.Prelude.{All}
use Rattle.std.proofs.lemmas.List.{get_or_default, length-take}
use Rattle.go_word.specs.declared.edge.Edge.{Edge}
use Rattle.go_word.specs.Log.{IsWithin}
use Rattle.go_shard.specs.ShardState.{is_own}
use Rattle.go_shard.specs.Split.{is_of_shard}
use Rattle.go_workers.proofs.OwnEntries.{had, had_fits, batch_is, lacks_own, lacks_within, lacks_few, brought_by, passing_fewer}
use Rattle.go_workers.proofs.bringing.bring_on.Goals as goal

pub offset_bounds-as_slice-had : goal.offset_bounds-as_slice-had
offset_bounds-as_slice-had c =
    let shard = c.args.shard.now in
    let run = c.args.run.now in
    let first = take (shard.front - c.args.from) run in
    let same : c.own_in-had.result ≡ length (filter (is_of_shard (length c.args.lists.now) c.args.place) first) =
    c.own_in-had.ensures ∙ ap (λ n. length (filter (is_of_shard (length c.args.lists.now) c.args.place) (take (n - c.args.from) run))) c.front-known.ensures in
    let few = passing_fewer (is_of_shard (length c.args.lists.now) c.args.place) first in
    let long = length-take (shard.front - c.args.from) run in
    let small = c.requires.small in
    omega arith

pub slice_bounds-append-count : goal.slice_bounds-append-count
slice_bounds-append-count c =
    let shard = c.args.shard.now in
    let lists = c.args.lists.now in
    let run = c.args.run.now in
    let list = c.as_slice.result.now in
    let is : list ≡ get_or lists c.args.place [] =
    c.as_slice.ensures ∙ c.index-lists-place.is ∙ get_or_default lists c.args.place c.index-lists-place.result [] c.requires.index.0 in
    let same : c.own_in-had.result ≡ had c.args.place c.args.from run lists shard c.requires =
    c.own_in-had.ensures ∙ ap (λ n. length (filter (is_of_shard (length lists) c.args.place) (take (n - c.args.from) run))) c.front-known.ensures in
    had_fits c.args.place c.args.from run lists shard c.requires list c.own_in-had.result is same

pub slice_bounds-append-start : goal.slice_bounds-append-start
slice_bounds-append-start c =
    let shard = c.args.shard.now in
    let lists = c.args.lists.now in
    let run = c.args.run.now in
    let list = c.as_slice.result.now in
    let is : list ≡ get_or lists c.args.place [] =
    c.as_slice.ensures ∙ c.index-lists-place.is ∙ get_or_default lists c.args.place c.index-lists-place.result [] c.requires.index.0 in
    let same : c.own_in-had.result ≡ had c.args.place c.args.from run lists shard c.requires =
    c.own_in-had.ensures ∙ ap (λ n. length (filter (is_of_shard (length lists) c.args.place) (take (n - c.args.from) run))) c.front-known.ensures in
    had_fits c.args.place c.args.from run lists shard c.requires list c.own_in-had.result is same

pub append-requires-clause-short : goal.append-requires-clause-short
append-requires-clause-short c =
    let shard = c.args.shard.now in
    let lists = c.args.lists.now in
    let run = c.args.run.now in
    let list = c.as_slice.result.now in
    let is : list ≡ get_or lists c.args.place [] =
    c.as_slice.ensures ∙ c.index-lists-place.is ∙ get_or_default lists c.args.place c.index-lists-place.result [] c.requires.index.0 in
    let same : c.own_in-had.result ≡ had c.args.place c.args.from run lists shard c.requires =
    c.own_in-had.ensures ∙ ap (λ n. length (filter (is_of_shard (length lists) c.args.place) (take (n - c.args.from) run))) c.front-known.ensures in
    subst (λ (l : List Edge). length l ≤ c.args.from + length run - shard.front)
    (sym (batch_is c.args.place c.args.from run lists shard c.requires list c.own_in-had.result is same))
    (lacks_few c.args.place c.args.from run lists shard c.requires)

pub append-requires-clause-ids : goal.append-requires-clause-ids
append-requires-clause-ids c =
    let shard = c.args.shard.now in
    let lists = c.args.lists.now in
    let run = c.args.run.now in
    let list = c.as_slice.result.now in
    let is : list ≡ get_or lists c.args.place [] =
    c.as_slice.ensures ∙ c.index-lists-place.is ∙ get_or_default lists c.args.place c.index-lists-place.result [] c.requires.index.0 in
    let same : c.own_in-had.result ≡ had c.args.place c.args.from run lists shard c.requires =
    c.own_in-had.ensures ∙ ap (λ n. length (filter (is_of_shard (length lists) c.args.place) (take (n - c.args.from) run))) c.front-known.ensures in
    subst (All (IsWithin shard.vertices)) (sym (batch_is c.args.place c.args.from run lists shard c.requires list c.own_in-had.result is same))
    (lacks_within c.args.place c.args.from run lists shard c.requires)

pub append-requires-clause-own : goal.append-requires-clause-own
append-requires-clause-own c =
    let shard = c.args.shard.now in
    let lists = c.args.lists.now in
    let run = c.args.run.now in
    let list = c.as_slice.result.now in
    let is : list ≡ get_or lists c.args.place [] =
    c.as_slice.ensures ∙ c.index-lists-place.is ∙ get_or_default lists c.args.place c.index-lists-place.result [] c.requires.index.0 in
    let same : c.own_in-had.result ≡ had c.args.place c.args.from run lists shard c.requires =
    c.own_in-had.ensures ∙ ap (λ n. length (filter (is_of_shard (length lists) c.args.place) (take (n - c.args.from) run))) c.front-known.ensures in
    subst (All (λ (e : Edge). is_own shard e ≡ true)) (sym (batch_is c.args.place c.args.from run lists shard c.requires list c.own_in-had.result is same))
    (lacks_own c.args.place c.args.from run lists shard c.requires)

pub returns-clause-brought : goal.returns-clause-brought
returns-clause-brought c =
    let shard = c.args.shard.now in
    let lists = c.args.lists.now in
    let run = c.args.run.now in
    let list = c.as_slice.result.now in
    let had = c.own_in-had.result in
    let is : list ≡ get_or lists c.args.place [] =
    c.as_slice.ensures ∙ c.index-lists-place.is ∙ get_or_default lists c.args.place c.index-lists-place.result [] c.requires.index.0 in
    let same : had ≡ length (filter (is_of_shard (length lists) c.args.place) (take (shard.front - c.args.from) run)) =
    c.own_in-had.ensures ∙ ap (λ n. length (filter (is_of_shard (length lists) c.args.place) (take (n - c.args.from) run))) c.front-known.ensures in
    brought_by c.args.place c.args.from run lists shard c.requires c.append.result (take (length list - had) (drop had list)) (c.args.from + length run)
    c.append.new.self (batch_is c.args.place c.args.from run lists shard c.requires list had is same) refl c.append.ensures.grown c.append.ensures.stands
