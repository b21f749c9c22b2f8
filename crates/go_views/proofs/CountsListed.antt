-- Counts of one shard after another in a list.
use Rattle.std.proofs.Common.{◌≡◌, ℕ, ◌+◌, ◌*◌, ◌/◌, ◌%◌, ◌<◌, ◌≤◌, List, [], ◌++◌, length, length-append, sym, refl, ap, ◌∙◌, ⊎_elim, arith, subst}
use Rattle.std.specs.Prelude.{◌^◌, slice_index, take, All}
use Rattle.std.proofs.Math.Nat.{mul_comm}
use Rattle.std.proofs.lemmas.Bool.{cases_lt}
use Rattle.std.proofs.lemmas.List.{get_or_append_left, get_or-append-add}
use Rattle.std.proofs.lemmas.Nat.{mul-add-lt, div-add-mod', row-Below, div-mul-add, mod_below}
use Rattle.go_word.specs.declared.edge.Edge.{Edge}
use Rattle.go_word.specs.Log.{raw}
use Rattle.go_rule.specs.declared.view.SeatView.{SeatView}
use Rattle.go_views.specs.Counts.{Striped}
use Rattle.go_views.specs.Settling.{AreRaw, AreCounted}

-- the counts of the shards before a place stand in a list, of so many shards over so many vertices
pub record AreListedTo (shards vertices upto : ℕ) (log : List Edge) (list : List ℕ) : Type 0 where
  pub long : length list ≡ upto * (vertices / shards + 1)
  pub each : (v : ℕ) → v < vertices → v % shards < upto → slice_index list ((v % shards) * (vertices / shards + 1) + v / shards) ≡ raw log v

module _ (shards vertices : ℕ) (some : 0 < shards) where
  -- there is a place for each vertex
  vertices_fit : vertices < shards * (vertices / shards + 1)
  vertices_fit =
      let least : vertices % shards < shards = mod_below vertices shards some in
      let whole : vertices / shards * shards + vertices % shards ≡ vertices = div-add-mod' vertices shards in
      let fits : vertices / shards * shards + vertices % shards < shards * (vertices / shards + 1) =
      mul-add-lt (vertices / shards) shards (vertices % shards) (vertices / shards + 1) (omega arith) least
      in
      omega arith

  row_fits : (v : ℕ) → v < vertices → v / shards < vertices / shards + 1
  row_fits v less =
      let fits = vertices_fit in
      (row-Below v shards shards (vertices / shards + 1) (omega arith) (omega arith)).1

  module _ (log : List Edge) where
    pub listed_none : AreListedTo shards vertices 0 log []
    listed_none = record { long = omega arith; each = λ v less turn. absurd (omega arith) }

    -- those of one shard more
    pub listed_next : (upto : ℕ) (list counts : List ℕ) → AreListedTo shards vertices upto log list → AreRaw shards vertices upto log counts
        → AreListedTo shards vertices (upto + 1) log (list ++ counts)
    listed_next upto list counts listed more =
        let stripe : ℕ = vertices / shards + 1 in
        let long = listed.long in
        let places = more.places in
        record {
          long = omega (arith, length-append list counts);
          each = λ v less turn.
              let row = row_fits v less in
              ⊎_elim
              (λ (before : v % shards < upto).
              let within = mul-add-lt (v % shards) stripe (v / shards) upto before row in
              let turned = mul_comm stripe upto in
              get_or_append_left list counts 0 ((v % shards) * stripe + v / shards) (omega arith) ∙ listed.each v less before)
              (λ (from : upto ≤ v % shards).
              let same : v % shards ≡ upto = omega arith in
              let at : (v % shards) * stripe + v / shards ≡ length list + v / shards =
              ap (λ n. n * stripe + v / shards) same ∙ ap (λ n. n + v / shards) (sym long)
              in
              ap (slice_index (list ++ counts)) at ∙ get_or-append-add list counts (v / shards) 0 ∙ more.each v less same) (cases_lt (v % shards) upto);
        }

    -- with those of all shards there is a count for each vertex, as many for each shard
    pub listed_all : (list : List ℕ) → AreListedTo shards vertices shards log list → (length list ≡ shards * (length list / shards)) × (vertices ≤ length list)
        × ((v : ℕ) → v < vertices → slice_index list ((v % shards) * (length list / shards) + v / shards) ≡ raw log v)
    listed_all list listed =
        let stripe : ℕ = vertices / shards + 1 in
        let turned : length list ≡ stripe * shards + 0 = listed.long ∙ mul_comm shards stripe ∙ zero_more (stripe * shards) in
        let rows : length list / shards ≡ stripe = ap (λ n. n / shards) turned ∙ div-mul-add stripe shards 0 some in
        let long = listed.long in
        let fits = vertices_fit in (
          long ∙ ap (λ n. shards * n) (sym rows),
          omega arith,
          λ v less.
              ap (λ n. slice_index list ((v % shards) * n + v / shards)) rows ∙ listed.each v less (mod_below v shards some),
        )
      where
        zero_more : (n : ℕ) → n ≡ n + 0
        zero_more n = omega arith

-- such a list is that of the counts of all vertices that a seat may ask for
pub counted_all : {P : Type 0} (d : SeatView P) (shards archived names len : ℕ) (list : List ℕ) (counts : Striped) → 0 < shards → names ≡ shards
    → len ≡ length list → counts ≡ record { shards = names; stripe = len / names; list = list } → All (λ n. n < 2 ^ 32) list
    → AreListedTo shards d.about.vertices shards (take archived d.told.seen) list → AreCounted shards archived counts d
counted_all d shards archived names len list counts some all long is few listed =
    let whole = listed_all shards d.about.vertices some (take archived d.told.seen) list listed in
    let same : counts ≡ record { shards = shards; stripe = length list / shards; list = list } =
    is ∙ ap (λ n. record { shards = n; stripe = len / n; list = list }) all ∙ ap (λ n. record { shards = shards; stripe = n / shards; list = list }) long
    in
    subst (λ z. AreCounted shards archived z d) (sym same)
    (record {
      shards_are = refl;
      striped = record { some = some; whole = whole.0 };
      vertices = whole.1;
      raw_are = whole.2;
      few = few;
    })
