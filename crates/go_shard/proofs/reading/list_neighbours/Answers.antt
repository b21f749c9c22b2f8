-- What `list_neighbours` gives.
use Rattle.std.proofs.Common.{◌≡◌, ℕ, List, take, map, fold, ap, ◌∙◌}
use Rattle.std.proofs.lemmas.Result.{on_ok_weaker}
use Rattle.go_word.specs.Log.{entries_from}
use Rattle.go_word.specs.Neighbours.{neighbours, after_entry}
use Rattle.go_word.specs.Word.{decode}
use Rattle.go_shard.proofs.EntriesLemmas.{neighbours_of_first}
use Rattle.go_shard.proofs.ReadingLemmas.{neighbours_after, words_leave}
use Rattle.go_shard.proofs.reading.list_neighbours.Goals as goal

pub returns : goal.returns
returns c = λ log more stands storable words.
    let before : c.neighbours.new.out.items ≡ neighbours (take c.args.front log) c.args.v =
    c.in_ok-neighbours.ensures log stands
    ∙ ap (λ (n : ℕ). neighbours (take n (entries_from c.args.v log)) c.args.v) (c.degree_at-raw.ensures.raw log stands)
    ∙ neighbours_of_first c.args.v c.args.front log in
    on_ok_weaker c.take_in.result (λ gives.
    gives ∙ ap (λ (l : List ℕ). fold (after_entry c.args.v) l (map decode c.args.later.now)) before
    ∙ ap (λ (l : List ℕ). fold (after_entry c.args.v) (neighbours (take c.args.front log) c.args.v) (map decode l)) words
    ∙ neighbours_after c.args.v (take c.args.front log) more storable)
    (c.take_in.ensures.of_vertex c.args.v (words_leave c.args.v more c.args.later.now storable words))
