-- The key has the name's bytes.
use Rattle.std.proofs.Common.{◌≡◌, ◌∙◌, string_bytes}
use Rattle.std.proofs.lemmas.Map.Text.{btree_map_updates_text}
use Rattle.std.proofs.lemmas.Result.{IfOk-at_ok}
use Rattle.go_run.proofs.known.put_number.Goals as goal

pub returns : goal.returns
returns c =
    let key_is_name = IfOk-at_ok (λ s. string_bytes s ≡ c.as_text.result.now) c.in_ok-key.was c.from_str.ensures.ok ∙ c.as_text.ensures in
    let sets = btree_map_updates_text (string_bytes c.in_ok-key.key) c.args.known.now c.insert.new.self _ c.in_ok-insert.ensures.updates in
    rw key_is_name at sets
