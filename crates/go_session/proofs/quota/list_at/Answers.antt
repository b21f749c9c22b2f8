-- The list that a load puts.
use Rattle.std.proofs.Common.{◌<◌, length}
use Rattle.std.proofs.lemmas.List.Elements.{All-get_or}
use Rattle.go_session.proofs.QuotaLemmas.{lists_next}
use Rattle.go_session.proofs.quota.list_at.Goals as goal

pub returns : goal.returns
returns c =
    let within = All-get_or (λ n. n < length c.args.loads.now) c.args.lists.now c.args.loaded 0 c.requires.there c.requires.lists in
    rw c.as_slice.ensures
    (lists_next c.args.loads.now c.args.lists.now c.args.loaded c.index-loads-lists.result c.requires.there within c.index-loads-lists.is)
