-- The loop of `copy_names`.
use Rattle.std.proofs.Common.{◌≡◌, take, map, option_copied, option_to_list}
use Rattle.std.specs.List.{flat_map}
use Rattle.go_run.proofs.names.copy_names.Given as goal

-- the names so far are copied
abbrev pub invariant-loop-place : goal.invariant-loop-place
invariant-loop-place l = l.texts.items ≡ flat_map option_to_list (map option_copied (take l.place-index l.places))
