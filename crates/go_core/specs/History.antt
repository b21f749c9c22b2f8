-- What a list of events makes of a machine, and what its answers tell.
use Rattle.std.specs.Prelude.{◌≡◌, ◌⊎◌, ℕ, ◌<◌, ◌≤◌, true, false, List, [], ◌∷◌, ◌++◌, take, All}
use mathlib.Core.Option.{some}
use lib.ListN.{get_elem?}
use Rattle.go_word.specs.declared.edge.Edge.{Edge}
use Rattle.go_word.specs.Word.{is_matched, decode}
use Rattle.go_core.specs.declared.act.Act.{Act}
use Rattle.go_core.specs.declared.act.Act.TheVariants.{LoadArchived, LoadDurable, LoadOrdered, LoadTentative}
use Rattle.go_core.specs.declared.act.Event.{Event}
use Rattle.go_core.specs.declared.act.Out.{Out}
use Rattle.go_core.specs.declared.act.Out.TheVariants.{Number, Word}
use Rattle.go_core.specs.declared.view.View.{View}
use Rattle.go_core.specs.Rule.{Tells}
use Rattle.go_core.specs.Machine.{Machine, views_of, party_at, Row, claims}

-- as many events as there are answers, one after another
abbrev pub Run : Machine → List Event → List Out → Machine → Type 0
Run before es [] now = now ≡ before
Run before [] (out ∷ outs) now = ⊥
Run before (e ∷ es) (out ∷ outs) now = (next : Machine) × Row before e.party e.act out next × Run next es outs now

-- the entries by which events that were answered make the log longer
abbrev pub all_claims : List Event → List Out → List Edge
all_claims es [] = []
all_claims [] (out ∷ outs) = []
all_claims (e ∷ es) (out ∷ outs) = claims e.act out ++ all_claims es outs

-- an event among those that were answered is a word read in its turn at p, which was found to be x
pub record IsRead (events : List Event) (answers : List Out) (k p x : ℕ) : Type 0 where
  pub party : ℕ
  pub event : get_elem? events k ≡ some (record { party = party; act = LoadOrdered p })
  pub answer : get_elem? answers k ≡ some (Word x)

-- a party is a worker: it moves a front
abbrev pub IsWorker : View → Type 0
IsWorker v = (v.archives ≡ true) ⊎ (v.flushes ≡ true)

-- among the events that were answered, the party read the word of p in its turn and found it there
pub record HasTaken (slots : ℕ) (events : List Event) (answers : List Out) (i p : ℕ) : Type 0 where
  pub place : ℕ
  pub word : ℕ
  pub event : get_elem? events place ≡ some (record { party = i; act = LoadOrdered p })
  pub answer : get_elem? answers place ≡ some (Word word)
  pub matched : is_matched slots p word ≡ true

-- an act reads a front
abbrev pub ReadsFront : Act → Type 0
ReadsFront act = (act ≡ LoadArchived) ⊎ (act ≡ LoadDurable)

-- a front was read and answered
pub record IsFrontRead (events : List Event) (answers : List Out) (k front : ℕ) : Type 0 where
  pub event : Event
  pub there : get_elem? events k ≡ some event
  pub reads : ReadsFront event.act
  pub answer : get_elem? answers k ≡ some (Number front)

-- a word that a party read ahead of its turn: whose, at which position, and what was found there
pub record Copy : Type 0 where
  pub party : ℕ
  pub at : ℕ
  pub word : ℕ

-- a word was read ahead of its turn as event k; later a front was read that is at or below its position
pub record IsAssured (events : List Event) (answers : List Out) (k : ℕ) (c : Copy) : Type 0 where
  pub event : get_elem? events k ≡ some (record { party = c.party; act = LoadTentative c.at })
  pub answer : get_elem? answers k ≡ some (Word c.word)
  pub later : ℕ
  pub after : k < later
  pub front : ℕ
  pub read : IsFrontRead events answers later front
  pub up_to : front ≤ c.at

-- right before event k, the party i had seen no further than p
pub record IsUnseen (start : Machine) (events : List Event) (answers : List Out) (k i p : ℕ) : Type 0 where
  pub machine : Machine
  pub run : Run start (take k events) (take k answers) machine
  pub unseen : (party_at machine i).view.seen ≤ p

-- a word that was read ahead of its turn is the log's entry there where it is matched, and else its position had not been seen
pub record IsCopied (start : Machine) (events : List Event) (answers : List Out) (log : List Edge) (k : ℕ) (c : Copy) : Type 0 where
  pub matched : is_matched start.frame.slots c.at c.word ≡ true → get_elem? log c.at ≡ some (decode c.word)
  pub unmatched : is_matched start.frame.slots c.at c.word ≡ false → IsUnseen start events answers k c.party c.at

-- each word of a party's present copy that is sure is the log's, or its position lies at or past what was noted as the copy began
abbrev pub AreSure : Machine → List Edge → ℕ → Type 0
AreSure m log i = let v = (party_at m i).view in All (λ l. l.sure ≡ true → Tells m.frame log (views_of m.parties) v.marked l) v.loads
