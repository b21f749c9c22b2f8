-- What a fetch from a shelf of named texts may answer.
use Rattle.std.specs.Prelude.{◌≡◌, ℕ, ◌<◌, ◌≤◌, List, length, Option, None, Some, IfSome}
use Rattle.go_io.specs.declared.shelf.Fetched.{Fetched}
use Rattle.go_io.specs.declared.shelf.Fetched.TheVariants.{Whole, Missing, TooLong, Failed, Memory}

-- a text is there, and is longer than the limit
abbrev pub IsTooLong : Option (List ℕ) → ℕ → Type 0
IsTooLong None limit = ⊥
IsTooLong (Some bytes) limit = limit < length bytes

-- an answer about what stands under a name, if anything does: the whole of it, or why not
abbrev pub FetchesText : Option (List ℕ) → ℕ → List ℕ → Fetched → Type 0
FetchesText text limit out Whole = (text ≡ Some out) × (length out ≤ limit)
FetchesText text limit out Missing = text ≡ None
FetchesText text limit out TooLong = IsTooLong text limit
FetchesText text limit out Failed = Unit {0}
FetchesText text limit out Memory = Unit {0}

-- an answer about a name, where the shelf tells its texts; a shelf that doesn't may answer anything
abbrev pub Fetches : Option (List ℕ → Option (List ℕ)) → List ℕ → ℕ → List ℕ → Fetched → Type 0
Fetches texts name limit out answer = IfSome texts (λ known. FetchesText (known name) limit out answer)
