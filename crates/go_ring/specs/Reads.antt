-- What a seat learns as it copies words one after another.
use Rattle.std.specs.Prelude.{◌≡◌, ◌⊎◌, ℕ, ◌+◌, ◌%◌, ◌<◌, ◌≤◌, ◌≢◌, min, true, false, List, Contains, slice_index}
use Rattle.go_word.specs.Word.{is_matched}
use Rattle.go_core.specs.declared.entry.Load.{Load}
use Rattle.go_core.specs.declared.view.View.{View}
use Rattle.go_rule.specs.declared.view.SeatView.{SeatView}
use Rattle.go_ring.specs.declared.copied.CopyStop.{CopyStop}
use Rattle.go_ring.specs.declared.copied.CopyStop.TheVariants.{Head, Unwritten, Window}
use Rattle.go_ring.specs.Copies.{but_copied, IsGap}

-- a matched word of a position was loaded, and stands in the buffer
pub record HasWord (slots : ℕ) (loads : List Load) (buf : List ℕ) (p : ℕ) : Type 0 where
  pub load : Load
  pub there : Contains loads load
  pub at : load.at ≡ p
  pub word : load.word ≡ slice_index buf (p % slots)
  pub matched : is_matched slots load.at load.word ≡ true

-- from the lesser known front up to a position each word is copied
abbrev pub Held : ℕ → View → List ℕ → ℕ → Type 0
Held slots v buf next = (p : ℕ) → min v.archived v.durable ≤ p → p < next → HasWord slots v.loads buf p

-- words may be read ahead from a position up to another
pub record CanCopy (slots : ℕ) (v : View) (from to : ℕ) : Type 0 where
  pub low : min v.archived v.durable ≤ from
  pub order : from ≤ to
  pub lap : to ≤ min v.archived v.durable + slots
  pub within : to ≤ v.head

module _ {P : Type 0} where
  -- words were read ahead, and nothing else was done
  pub record ReadsOnly (d e : SeatView P) : Type 0 where
    pub rest : but_copied e ≡ but_copied d
    pub told : e.told.seen ≡ d.told.seen
    pub head : e.core.head ≡ d.core.head
    pub archived : e.core.archived ≡ d.core.archived
    pub durable : e.core.durable ≡ d.core.durable
    pub seen : e.core.seen ≡ d.core.seen
    pub passed : d.told.passed ≤ e.told.passed
    pub fresh : d.core.fresh ≡ false → e.core.fresh ≡ false

  -- the word of a position wasn't matched: where the position was seen, it is below what was released
  pub record StopsAt (slots : ℕ) (e : SeatView P) (p to : ℕ) : Type 0 where
    pub gap : IsGap slots e.core.loads p
    pub gone : p < e.core.seen → p < e.told.passed
    pub below : p < to

  -- words were copied from a position up to another, or to the first that isn't matched
  pub record Reads (slots from to : ℕ) (d e : SeatView P) (buf : List ℕ) (next : ℕ) : Type 0 where
    pub only : ReadsOnly d e
    pub onward : from ≤ next
    pub within : next ≤ to
    pub held : Held slots e.core buf next
    pub ended : (next ≡ to) ⊎ StopsAt slots e next to

-- why a copy ends at a position, by the length, what was released at first, and where the lap after that ends
abbrev pub StopsFor : ℕ → ℕ → ℕ → ℕ → CopyStop → Type 0
StopsFor end head from limit (Window first) = (first ≡ from) × (limit ≤ end)
StopsFor end head from limit (Head length) = (length ≡ head) × (end ≡ head) × (end < limit)
StopsFor end head from limit (Unwritten position) = (position ≡ end) × (end ≢ head) × (end < limit)
