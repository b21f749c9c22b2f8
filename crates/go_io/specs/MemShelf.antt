-- A shelf in memory, as contracts see it, and the exact answers of its fetches.
use Rattle.std.specs.Prelude.{◌≡◌, ◌≢◌, ℕ, Bool, ◌||◌, ◌&&◌, is_none, if◌then◌else◌, nat_lt, List, length, find, Contains, Option, None, Some}
use Rattle.std.specs.Option.{option_map, option_map_or}
use Rattle.std.specs.Str.{bytes_eq}
use Rattle.go_text.specs.Causes.{raised}
use Rattle.go_io.specs.declared.shelf.Fetched.{Fetched}
use Rattle.go_io.specs.declared.shelf.Fetched.TheVariants.{Whole, Missing, TooLong, Failed, Memory}

-- a text that stands under a name, and how often a fetch of it failed
pub record NamedText : Type 0 where
  pub name : List ℕ
  pub bytes : List ℕ
  pub faults : ℕ

-- what a shelf holds, how often a fetch of any other name failed, the numbers of the calls that fail, and how many there were
pub record Stock : Type 0 where
  pub held : List NamedText
  pub other_faults : ℕ
  pub failing : List ℕ
  pub calls : ℕ

-- it stands under this name
abbrev pub is_named : List ℕ → NamedText → Bool
is_named name one = bytes_eq one.name name

-- the bytes under a name
abbrev pub text_in : List NamedText → List ℕ → Option (List ℕ)
text_in held name = option_map (λ one. one.bytes) (find (is_named name) held)

-- how often a fetch of a name failed: a name that is there has its own count, and all others have one
abbrev pub faults_in : List NamedText → ℕ → List ℕ → ℕ
faults_in held others name = option_map_or (λ one. one.faults) (find (is_named name) held) others

-- two names have one count: they are the same, or neither is there
abbrev pub shares_count : List NamedText → List ℕ → List ℕ → Bool
shares_count held name other = bytes_eq name other || (is_none (find (is_named name) held) && is_none (find (is_named other) held))

-- the bytes that a shelf has under a name
abbrev pub text_of : Stock → List ℕ → Option (List ℕ)
text_of stock name = text_in stock.held name

-- how often a fetch of a name from the shelf failed
abbrev pub faults_of : Stock → List ℕ → ℕ
faults_of stock name = faults_in stock.held stock.other_faults name

-- the next call is one of those that fail
abbrev pub FailsNow : Stock → Type 0
FailsNow stock = Contains stock.failing stock.calls

-- what a fetch answers of a text, given enough memory
abbrev pub answer_to : Option (List ℕ) → ℕ → Fetched
answer_to None limit = Missing
answer_to (Some bytes) limit = if nat_lt limit (length bytes) then TooLong else Whole

-- the answer is the expected one, or want of memory where a text was to be copied
abbrev pub AnswersAs : Fetched → Fetched → Type 0
AnswersAs Whole Memory = Unit {0}
AnswersAs expected answer = answer ≡ expected

-- the count of another name after a fetch: one more where the fetch failed and the two names have one count
abbrev pub faults_after : Stock → List ℕ → Fetched → List ℕ → ℕ
faults_after stock name Failed other = if shares_count stock.held name other then raised (faults_of stock other) else faults_of stock other
faults_after stock name Whole other = faults_of stock other
faults_after stock name Missing other = faults_of stock other
faults_after stock name TooLong other = faults_of stock other
faults_after stock name Memory other = faults_of stock other

-- a text was put under a name, in place of the one that was there, and nothing else changed
pub record PutsText (old new : Stock) (name bytes : List ℕ) : Type 0 where
  pub here : text_of new name ≡ Some bytes
  pub elsewhere : (other : List ℕ) → other ≢ name → text_of new other ≡ text_of old other
  pub faults : (other : List ℕ) → faults_of new other ≡ faults_of old other
  pub failing : new.failing ≡ old.failing
  pub calls : new.calls ≡ old.calls
