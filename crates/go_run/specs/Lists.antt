-- What reading the lists that scripts load gives: each name is read once, and its list is held under a number.
use Rattle.std.specs.Prelude.{◌≡◌, ℕ, ◌<◌, List, length, map, All, slice_index_or, [], if◌then◌else◌, Option, Some, None, IfSome, Result, Ok, Err}
use Rattle.std.specs.Prelude.{String}
use Rattle.std.specs.BTreeMap.{BTreeMap, get_by_text}
use Rattle.std.specs.Str.{bytes_eq}
use Rattle.go_word.specs.declared.edge.Edge.{Edge}
use Rattle.go_session.specs.Asked.{lists_of}
use Rattle.go_run.specs.Input.{Texts, entries_under, lists_under}
use Rattle.go_run.specs.NamedText.{AreEntries}
use Rattle.go_run.specs.declared.status.Status.{Status}
use Rattle.go_run.specs.declared.status.Status.TheVariants.{Script, NoFile, TooMuch, ReadFault, Memory}

-- the numbers of lists under names, as far as they are known
abbrev pub Numbers : Type 0
Numbers = List ℕ → Option ℕ

abbrev pub numbers_in : {Y : Type 0} → BTreeMap (String Y) ℕ → Numbers
numbers_in known = λ name. get_by_text known name

-- texts, where one name has none
abbrev pub without : List ℕ → Texts → Texts
without name named = λ other. if bytes_eq other name then None else named other

-- texts of names on a shelf; where it doesn't tell, some texts
abbrev pub AreNamed : Option Texts → Texts → Type 0
AreNamed shelf named = IfSome shelf (λ known. named ≡ known)

-- the list of this number is that of the name
pub record HoldsList (v : ℕ) (named : Texts) (loads : List (List Edge)) (name : List ℕ) (number : ℕ) : Type 0 where
  pub there : number < length loads
  pub list : entries_under v named name ≡ Ok (slice_index_or loads number [])

-- the lists of the names so far are held, and their numbers are these
pub record HoldsLists (v : ℕ) (shelf : Option Texts) (known : Numbers) (loads : List (List Edge)) (names : List (List ℕ)) (numbers : List ℕ) : Type 0 where
  pub named : Texts
  pub told : AreNamed shelf named
  pub lists : (name : List ℕ) (number : ℕ) → known name ≡ Some number → HoldsList v named loads name number
  pub numbers_are : map known names ≡ map Some numbers
  pub entries : All (AreEntries v) loads

-- the lists of all names were read: they have these numbers
pub record HasLists (v : ℕ) (shelf : Option Texts) (loads : List (List Edge)) (names : List (List ℕ)) (numbers : List ℕ) : Type 0 where
  pub named : Texts
  pub told : AreNamed shelf named
  pub there : All (λ n. n < length loads) numbers
  pub count : length numbers ≡ length names
  pub read : lists_under v named names ≡ Ok (lists_of loads numbers)
  pub entries : All (AreEntries v) loads

-- why lists weren't read: the refusal of the first that is refused, a fault of the shelf at one that would be the first refusal if it
-- weren't there, or want of memory
abbrev pub IsRefusal : ℕ → Texts → List (List ℕ) → Status → Type 0
IsRefusal v named names (Script name line kind) = lists_under v named names ≡ Err (Script name line kind)
IsRefusal v named names (NoFile name) = lists_under v named names ≡ Err (NoFile name)
IsRefusal v named names (TooMuch counted limit) = lists_under v named names ≡ Err (TooMuch counted limit)
IsRefusal v named names (ReadFault name) = lists_under v (without name named) names ≡ Err (NoFile name)
IsRefusal v named names Memory = Unit {0}
IsRefusal v named names _ = ⊥

-- the same of the texts of a shelf
pub record RefusesLists (v : ℕ) (shelf : Option Texts) (names : List (List ℕ)) (status : Status) : Type 0 where
  pub named : Texts
  pub told : AreNamed shelf named
  pub refusal : IsRefusal v named names status
