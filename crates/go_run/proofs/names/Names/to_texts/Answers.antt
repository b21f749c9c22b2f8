-- The names among all places.
use Rattle.std.proofs.Common.{◌≡◌, List, ℕ, Option, option_copied, option_to_list, sym, ap, ◌∙◌}
use Rattle.std.proofs.lemmas.List.{take-map}
use Rattle.std.specs.List.{flat_map}
use Rattle.go_run.proofs.names.Names.to_texts.Goals as goal

pub returns : goal.returns
returns c = c.in_ok-texts.ensures
    ∙ ap (λ (l : List (Option (List ℕ))). flat_map option_to_list l) (sym (take-map option_copied c.self.inside.count c.self.inside.names))
    ∙ c.self.view_is
