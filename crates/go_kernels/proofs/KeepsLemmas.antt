-- What reading keeps, it keeps from call to call.
use Rattle.std.proofs.Common.{◌∙◌, refl}
use Rattle.go_model.specs.Graph.{Shown, Keeps}

-- without a call
pub Keeps-same : {G : Type 0} (shows : G → Shown) (ready : G → Type 0) (became : G → G → Type 0) → ((g : G) → became g g) → (g : G) → ready g →
    Keeps shows ready became g g
Keeps-same shows ready became same g is_ready = record { same_shown = refl; is_ready = is_ready; has_become = same g }

-- and then some more
pub Keeps-onwards : {G : Type 0} (shows : G → Shown) (ready : G → Type 0) (became : G → G → Type 0)
    → ((one two three : G) → became one two → became two three → became one three) → (one two three : G)
    → Keeps shows ready became one two → Keeps shows ready became two three → Keeps shows ready became one three
Keeps-onwards shows ready became onwards one two three first later = record {
  same_shown = later.same_shown ∙ first.same_shown;
  is_ready = later.is_ready;
  has_become = onwards one two three first.has_become later.has_become;
}
