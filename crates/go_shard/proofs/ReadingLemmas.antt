-- Lemmas on the neighbours of a vertex, as its shard and the words behind it tell them.
use Rattle.std.proofs.Common.{◌≡◌, ℕ, suc, ◌-◌, ◌≤◌, Bool, true, false, List, [], ◌∷◌, ◌++◌, length, take, drop, fold, map}
use Rattle.std.proofs.Common.{refl, ap, arith, sym, subst, ◌∙◌, inl, inr, append-nil, take-add}
use Rattle.std.specs.Prelude.{All, Contains, min}
use Rattle.std.proofs.lemmas.Bool.Decides.{leb_tells}
use Rattle.std.proofs.lemmas.List.{take-take}
use Rattle.std.proofs.lemmas.List.Elements.{All-head, All-tail, All-filter, All-cons}
use Rattle.go_word.specs.declared.edge.Edge.{Edge}
use Rattle.go_word.specs.Log.{leaves, entries_from}
use Rattle.go_word.specs.Neighbours.{after_entry, neighbours}
use Rattle.go_word.specs.Word.{IsStorable, plain_word, decode}
use Rattle.go_shard.specs.ShardState.{ShardState, Keeps}
use Rattle.go_shard.specs.Parts.{HasPart}
use Rattle.go_word.proofs.NeighbourLaws.{neighbours-append, after_entry-entries_from}
use Rattle.go_word.proofs.WordLaws.{decode-plain_word}

-- entries in their words, read again
read_again : (edges : List Edge) → All IsStorable edges → map decode (map plain_word edges) ≡ edges
read_again [] storable = refl
read_again (e ∷ edges) storable =
    let first = decode-plain_word e (All-head IsStorable e edges storable) in
    let rest = read_again edges (All-tail IsStorable e edges storable) in
    rw (first, rest) refl

-- the neighbours of a vertex after more entries, in their words
pub neighbours_after : (v : ℕ) (log more : List Edge) → All IsStorable more →
    fold (after_entry v) (neighbours log v) (map decode (map plain_word (entries_from v more))) ≡ neighbours (log ++ more) v
neighbours_after v log more storable =
    ap (fold (after_entry v) (neighbours log v)) (read_again (entries_from v more) (All-filter (leaves v) IsStorable more storable))
    ∙ after_entry-entries_from v (neighbours log v) more ∙ sym (neighbours-append log more v)

-- the words of a vertex's entries are read as entries that leave it
pub words_leave : (v : ℕ) (more : List Edge) (words : List ℕ) → All IsStorable more → words ≡ map plain_word (entries_from v more) →
    All (λ w. leaves v (decode w) ≡ true) words
words_leave v more words storable is = subst (All (λ w. leaves v (decode w) ≡ true)) (sym is) (each more storable) where
  one : (e : Edge) (log : List Edge) (b : Bool) → leaves v e ≡ b → IsStorable e →
      All (λ w. leaves v (decode w) ≡ true) (map plain_word (entries_from v log)) →
      All (λ w. leaves v (decode w) ≡ true) (map plain_word (entries_from v (e ∷ log)))
  one e log true leaves_it fits rest =
      rw leaves_it (All-cons (λ w. leaves v (decode w) ≡ true) (plain_word e) (map plain_word (entries_from v log))
      (ap (leaves v) (decode-plain_word e fits) ∙ leaves_it) rest)
  one e log false leaves_it fits rest = rw leaves_it rest

  each : (log : List Edge) → All IsStorable log → All (λ w. leaves v (decode w) ≡ true) (map plain_word (entries_from v log))
  each [] fits = λ k d below. absurd (omega arith)
  each (e ∷ log) fits = one e log (leaves v e) refl (All-head IsStorable e log fits) (each log (All-tail IsStorable e log fits))

-- what a shard and the words behind it tell of the log's first entries
pub front_parts : (moved front settled F : ℕ) (log : List Edge) → settled ≡ min front moved → moved ≤ F → front ≤ length log →
    take settled (take F log) ++ take (front - settled) (drop moved log) ≡ take front log
front_parts moved front settled F log is come within = elim (leb_tells (suc moved) front) [
  | inl h ↦
      let same : settled ≡ moved = omega (arith, is, h.1) in
      rw same (ap (λ (l : List Edge). l ++ take (front - moved) (drop moved log)) (take-take moved F log come) ∙ sym (take-add moved (front - moved) log)
      ∙ ap (λ (n : ℕ). take n log) (omega (arith, h.1)))
  | inr h ↦
      let same : settled ≡ front = omega (arith, is, h.1) in
      let none : front - settled ≡ 0 = omega (arith, same) in
      rw none (append-nil (take settled (take F log)) ∙ rw same (take-take front F log (omega (arith, h.1, come))))
]

-- the front up to which a shard tells of a view is one that it keeps
pub settled_kept : (v so_many i moved front settled : ℕ) (views : List ℕ) (log : List Edge) (shard : ShardState) →
    HasPart v so_many i moved views log shard → settled ≡ min front moved → Contains views front →
    Keeps shard settled
settled_kept v so_many i moved front settled views log shard part is view = elim (leb_tells (suc moved) front) [
  | inl h ↦ subst (Keeps shard) (let same : moved ≡ settled = omega (arith, is, h.1) in same) part.keeps
  | inr h ↦
      let same : front ≡ settled = omega (arith, is, h.1) in
      subst (Keeps shard) same (part.answers.keeps front view (omega (arith, part.begun, h.1)))
]

-- and isn't below its cut
pub settled_uncut : (v so_many i moved front settled : ℕ) (views : List ℕ) (log : List Edge) (shard : ShardState) → HasPart v so_many i moved views log shard →
    settled ≡ min front moved → Contains views front → shard.cut ≤ settled
settled_uncut v so_many i moved front settled views log shard part is view = omega (arith, is, part.cut, part.answers.uncut front view)
