-- What an opening leaves recovers to what it found.
use Rattle.std.proofs.Common.{◌≡◌, inl, inr, ℕ, List, [], refl, sym, subst}
use Rattle.std.specs.Prelude.{Option, None, Some, IfSome, Ok}
use Rattle.go_word.specs.declared.edge.Edge.{Edge}
use Rattle.go_disk.specs.Device.{Device}
use Rattle.go_durable.specs.LogState.{OpenedLog}
use Rattle.go_durable.specs.Moments.{SettlesTo}
use Rattle.go_durable.specs.Recovery.{Recovers}
use Rattle.go_durable.specs.Attaching.{IsAnswerOf, IsLeft, IsOpening}
use Rattle.go_durable.proofs.Moments.{settles_weaker}
use Rattle.go_durable.proofs.Standing.{one_recovery}

-- of bytes that recover to a log
pub left_recovers : (v : ℕ) (log : List Edge) (bytes image : List ℕ) → Recovers v log bytes → IsLeft v (Some bytes) image → Recovers v log image
left_recovers v log bytes image recovers (inl same) = subst (Recovers v log) (sym same) recovers
left_recovers v log bytes image recovers (inr made) =
    let none : log ≡ [] = one_recovery v v log [] bytes recovers (inl (made.0, refl)) in
    subst (λ (l : List Edge). Recovers v l image) (sym none) made.1

-- of a disk that tells, or not
shown_recovers : (v : ℕ) (log : List Edge) (contents : Option (List ℕ)) (bytes image : List ℕ) → IfSome contents (λ told. told ≡ bytes)
    → Recovers v log bytes → IsLeft v contents image → Recovers v log image
shown_recovers v log None bytes image shown recovers left = absurd left
shown_recovers v log (Some told) bytes image shown recovers left = left_recovers v log told image (subst (Recovers v log) (sym shown) recovers) left

-- of an opening
pub opening_recovers : {D : Type 0} (device : Device D) (v room : ℕ) (old new : D) (found : OpenedLog D) →
    IsAnswerOf v room (device.contents old) (Ok found) → IsOpening device v old new → SettlesTo device old new (Recovers v found.edges)
opening_recovers device v room old new found is opening =
    settles_weaker device old new (IsLeft v (device.contents old)) (Recovers v found.edges) (λ image left.
    shown_recovers v found.edges (device.contents old) is.bytes image is.shown is.answer.recovers left) opening
