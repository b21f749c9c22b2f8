-- Lemmas on the ways past a mark, as entries come.
use Rattle.std.proofs.Common.{◌≡◌, ℕ, suc, false, ◌+◌, ◌-◌, ◌<◌, ◌≤◌, List, [], ◌∷◌, ◌++◌, length, take, get_or, refl, sym, ap, ◌∙◌, subst, arith, inl, inr}
use Rattle.std.proofs.Common.{length-append, length-take-le, take_all}
use Rattle.std.proofs.lemmas.Bool.Decides.{nat_tests, eqb_tells, leb_tells}
use Rattle.std.proofs.lemmas.List.{take-append-le}
use Rattle.std.proofs.Math.ListN.{get_or-append}
use Rattle.std.proofs.Math.Seq.{get_or-append_seam}
use Rattle.std.specs.Prelude.{◌==◌, nat_le, if◌then◌else◌}
use Rattle.go_word.specs.declared.edge.Edge.{Edge}
use Rattle.go_plain.specs.Ring.{latest_of}
use Rattle.go_plain.specs.Skips.{no_skip, SkipsTo, HasSkips}
use Rattle.go_plain.specs.declared.skip.Skip.{Skip}
use Rattle.go_plain.proofs.ChainLemmas.{IsLatestAt, latest_at, latest_of-le, latest_of-take}

-- the way from the next entry of a vertex past those behind the mark
pub record SkipsNext (entries : List Edge) (mark : ℕ) (skip : Skip) (vertex : ℕ) : Type 0 where
  pub mark_is : skip.mark ≡ mark
  pub latest : skip.latest ≡ latest_of vertex (take mark entries)

-- what is known from an entry is known from it when more have come
skips_longer : (entries more : List Edge) (skip : Skip) (vertex slot : ℕ) → slot ≤ length entries → SkipsTo entries skip vertex slot →
    SkipsTo (entries ++ more) skip vertex slot
skips_longer entries more skip vertex slot within to = record {
  before = to.before;
  latest = to.latest ∙ ap (latest_of vertex) (sym (take-append-le skip.mark entries more (omega (arith, to.before, within))));
}

-- the ways past marks, with those of one more entry
pub skips_push : (entries : List Edge) (skips : List Skip) (mark : ℕ) (e : Edge) (skip : Skip) → HasSkips entries skips mark →
    SkipsNext entries mark skip e.src → HasSkips (entries ++ e ∷ []) (skips ++ skip ∷ []) mark
skips_push entries skips mark e skip has next =
    let long : length (entries ++ e ∷ []) ≡ length entries + 1 = length-append entries (e ∷ []) in
    let also : length (skips ++ skip ∷ []) ≡ length skips + 1 = length-append skips (skip ∷ []) in
    let old_at : (k : ℕ) → k < length entries → get_or (skips ++ skip ∷ []) k no_skip ≡ get_or skips k no_skip =
    λ k below. get_or-append skips (skip ∷ []) no_skip k (omega (arith, below, has.count)) in
    let new_at : (k : ℕ) → k ≡ length entries → get_or (skips ++ skip ∷ []) k no_skip ≡ skip =
    λ k last. subst (λ (n : ℕ). get_or (skips ++ skip ∷ []) n no_skip ≡ skip) (has.count ∙ sym last) (get_or-append_seam skips skip [] no_skip) in
    record {
      count = omega (arith, long, also, has.count);
      within = omega (arith, long, has.within);
      each = λ k d below. elim (leb_tells (suc k) (length entries)) [
        | inl h ↦
            let entry : get_or (entries ++ e ∷ []) k d ≡ get_or entries k d = get_or-append entries (e ∷ []) d k h.1 in
            rw (old_at k h.1, entry) (skips_longer entries (e ∷ []) (get_or skips k no_skip) (get_or entries k d).src k (omega (arith, h.1)) (has.each k d h.1))
        | inr h ↦
            let last : k ≡ length entries = omega (arith, h.1, below, long) in
            let entry : get_or (entries ++ e ∷ []) k d ≡ e =
            subst (λ (n : ℕ). get_or (entries ++ e ∷ []) n d ≡ e) (sym last) (get_or-append_seam entries e [] d) in
            let to : SkipsTo entries skip e.src k = record {
              before = omega (arith, next.mark_is, has.within, last);
              latest = next.latest ∙ ap (λ (n : ℕ). latest_of e.src (take n entries)) (sym next.mark_is);
            } in
            rw (new_at k last, entry) (skips_longer entries (e ∷ []) skip e.src k (omega (arith, last)) to)
      ];
      newest = λ k from below. elim (leb_tells (suc k) (length entries)) [
        | inl h ↦ rw (old_at k h.1) (has.newest k from h.1)
        | inr h ↦ rw (new_at k (omega (arith, h.1, below, long))) next.mark_is
      ];
    }

-- the way that is found by the latest entry of the vertex so far
pub skips_next : (entries : List Edge) (skips : List Skip) (mark vertex latest : ℕ) (skip : Skip) → HasSkips entries skips mark →
    latest ≡ latest_of vertex entries → skip.mark ≡ mark →
    skip.latest ≡ (if mark == 0 then 0 else (if nat_le latest mark then latest else (get_or skips (latest - 1) no_skip).latest)) →
    SkipsNext entries mark skip vertex
skips_next entries skips mark vertex latest skip has is at found = record {
  mark_is = at;
  latest = elim (eqb_tells mark 0) [
    | inl h ↦ found ∙ rw (h.0, h.1) refl
    | inr h ↦ elim (leb_tells latest mark) [
      | inl g ↦ found ∙ rw (h.0, g.0) (is ∙ sym (latest_of-take vertex mark entries (omega (arith, is, g.1))))
      | inr g ↦ found ∙ rw (h.0, g.0) (behind g.1)
    ]
  ];
} where
  behind : (mark < latest) → (get_or skips (latest - 1) no_skip).latest ≡ latest_of vertex (take mark entries)
  behind past =
      let d : Edge = record { del = false; src = 0; dst = 0 } in
      let whole : take (length entries) entries ≡ entries = take_all (length entries) entries (omega arith) in
      let all : latest ≡ latest_of vertex (take (length entries) entries) = is ∙ ap (latest_of vertex) (sym whole) in
      let latest_there : IsLatestAt vertex (length entries) (latest - 1) entries d = latest_at vertex (length entries) latest entries d (omega arith)
      (omega (arith, past)) all in
      let to : SkipsTo entries (get_or skips (latest - 1) no_skip) (get_or entries (latest - 1) d).src (latest - 1) =
      has.each (latest - 1) d latest_there.before in
      let same : (get_or skips (latest - 1) no_skip).mark ≡ mark = has.newest (latest - 1) (omega (arith, past)) latest_there.before in
      to.latest ∙ ap (λ (s : ℕ). latest_of s (take (get_or skips (latest - 1) no_skip).mark entries)) latest_there.source
      ∙ ap (λ (n : ℕ). latest_of vertex (take n entries)) same
