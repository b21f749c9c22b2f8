-- How a ring was made, by what was handed in.
use Rattle.std.specs.Prelude.{◌≡◌, ℕ, List, slice_get, Some}
use Rattle.go_word.specs.declared.edge.Edge.{Edge}
use Rattle.go_rule.specs.declared.layout.Key.{Key}
use Rattle.go_rule.specs.declared.layout.Layout.{Layout}
use Rattle.go_rule.specs.Views.{opened_of}

-- a key has the sizes, the first position, the quota, the entries before it, and the last part as the file
pub record IsKeyOf {P : Type 0} (layout : Layout) (first quota : ℕ) (opened : List Edge) (parts : List P) (key : Key P) : Type 0 where
  pub layout_is : key.layout ≡ layout
  pub first_is : key.first ≡ first
  pub quota_is : key.quota ≡ quota
  pub opened_is : opened_of key ≡ opened
  pub file_is : slice_get parts layout.shards ≡ Some key.file.value
