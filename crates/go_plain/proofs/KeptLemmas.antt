-- Lemmas on what a ring keeps: one more entry, none at all, and a step back along a chain.
use Rattle.std.proofs.Common.{◌≡◌, ◌≢◌, ℕ, suc, ◌+◌, ◌-◌, ◌<◌, ◌≤◌, List, [], ◌∷◌, ◌++◌, length, take, set, get_or, refl, sym, ap, ◌∙◌, subst, arith, inl}
use Rattle.std.proofs.Common.{inr, length-append, length-set, length-take-le, get_or-set_other}
use Rattle.std.proofs.lemmas.Bool.Decides.{nat_tests, leb_tells, eqb_tells}
use Rattle.std.proofs.lemmas.Grind.{get_or-set_at}
use Rattle.std.proofs.lemmas.List.{take-append-le}
use Rattle.std.proofs.lemmas.List.Elements.{All-nil, All-push}
use Rattle.std.proofs.Math.ListN.{get_or-append}
use Rattle.std.proofs.Math.Seq.{get_or-append_seam, take-append_seam}
use Rattle.std.specs.Prelude.{◌==◌, if◌then◌else◌}
use Rattle.go_word.specs.declared.edge.Edge.{Edge}
use Rattle.go_word.specs.Log.{IsWithin, raw}
use Rattle.go_word.specs.Word.{IsStorable}
use Rattle.go_plain.specs.Ring.{RingState, IsRing, latest_of, IsChained}
use Rattle.go_plain.specs.RingFields.{ring_of, HasMemory, IsKept}
use Rattle.go_plain.specs.Skips.{no_skip, SkipsTo}
use Rattle.go_plain.specs.declared.ring.Ring.TheInside.{Inside}
use Rattle.go_plain.specs.declared.skip.Skip.{Skip}
use Rattle.go_plain.proofs.ChainLemmas.{IsLatestAt, latest_at, latest_of-le, latest_of-push, latest_of-none}
use Rattle.go_plain.proofs.SkipLemmas.{SkipsNext, skips_push}

-- a step back: where the latest entry of a vertex stands, and the number of the one before it
pub record StepsBack (entries : List Edge) (prior : List ℕ) (v top number : ℕ) (d : Edge) : Type 0 where
  pub slot : number - 1 < length entries
  pub link : number - 1 < length prior
  pub at : IsLatestAt v top (number - 1) entries d
  pub storable : IsStorable (get_or entries (number - 1) d)
  pub next : get_or prior (number - 1) 0 ≡ latest_of v (take (number - 1) entries)
  pub falls : get_or prior (number - 1) 0 < number

-- an entry between vertices of a ring fits a word
storable : (ring : RingState) (slot : ℕ) (d : Edge) → IsRing ring → slot < length ring.entries → IsStorable (get_or ring.entries slot d)
storable ring slot d sound within =
    let ids : IsWithin ring.vertices (get_or ring.entries slot d) = sound.ids slot d within in
    record { within = record { source = omega (arith, ids.source, sound.few); destination = omega (arith, ids.destination, sound.few) } }

-- from a number that isn't 0 a chain steps back
pub step_back : (ring : Inside) (seen : RingState) → ring_of ring ≡ seen → IsKept ring →
    (v top number : ℕ) (d : Edge) → top ≤ length seen.entries → 0 < number → number ≡ latest_of v (take top seen.entries) →
    StepsBack ring.entries.items ring.prior.items v top number d
step_back ring seen same kept v top number d within some is =
    let entries : List Edge = ring.entries.items in
    let within_inside : top ≤ length entries = subst (λ (r : RingState). top ≤ length r.entries) (sym same) within in
    let is_inside : number ≡ latest_of v (take top entries) = subst (λ (r : RingState). number ≡ latest_of v (take top r.entries)) (sym same) is in
    let at : IsLatestAt v top (number - 1) entries d = latest_at v top number entries d within_inside some is_inside in
    let below : number - 1 < length entries = omega (arith, at.before) in
    let next : get_or ring.prior.items (number - 1) 0 ≡ latest_of v (take (number - 1) entries) = kept.chained.linked (number - 1) d below
    ∙ ap (λ (s : ℕ). latest_of s (take (number - 1) entries)) at.source in
    let few : latest_of v (take (number - 1) entries) ≤ length (take (number - 1) entries) = latest_of-le v (take (number - 1) entries) in
    let long : length (take (number - 1) entries) ≡ number - 1 = length-take-le (number - 1) entries (omega (arith, below)) in
    record {
      slot = below;
      link = omega (arith, below, kept.chained.slots);
      at = at;
      storable = storable (ring_of ring) (number - 1) d kept.sound below;
      next = next;
      falls = omega (arith, next, few, long, some);
    }

-- a step past a mark: how far it goes, and the number of the latest entry up to there
pub record StepsPast (entries : List Edge) (skips : List Skip) (v top number : ℕ) : Type 0 where
  pub slot : number - 1 < length skips
  pub nearer : (get_or skips (number - 1) no_skip).mark < top
  pub next : (get_or skips (number - 1) no_skip).latest ≡ latest_of v (take (get_or skips (number - 1) no_skip).mark entries)
  pub falls : (get_or skips (number - 1) no_skip).latest < number

-- from a number that isn't 0 a chain can be followed past the mark that its entry knows
pub step_past : (ring : Inside) (seen : RingState) → ring_of ring ≡ seen → IsKept ring →
    (v top number : ℕ) (d : Edge) → top ≤ length seen.entries → 0 < number → number ≡ latest_of v (take top seen.entries) →
    StepsPast ring.entries.items ring.skips.items v top number
step_past ring seen same kept v top number d within some is =
    let entries : List Edge = ring.entries.items in
    let back = step_back ring seen same kept v top number d within some is in
    let skip : Skip = get_or ring.skips.items (number - 1) no_skip in
    let to : SkipsTo entries skip (get_or entries (number - 1) d).src (number - 1) = kept.skipping.each (number - 1) d back.slot in
    let next : skip.latest ≡ latest_of v (take skip.mark entries) = to.latest ∙ ap (λ (s : ℕ). latest_of s (take skip.mark entries)) back.at.source in
    let few : latest_of v (take skip.mark entries) ≤ length (take skip.mark entries) = latest_of-le v (take skip.mark entries) in
    let long : length (take skip.mark entries) ≡ skip.mark = length-take-le skip.mark entries (omega (arith, to.before, back.slot)) in
    record {
      slot = omega (arith, back.slot, kept.skipping.count);
      nearer = omega (arith, to.before, back.at.before);
      next = next;
      falls = omega (arith, next, few, long, to.before, some);
    }

-- each vertex is told its latest entry after one more
told_push : (entries : List Edge) (latest : List ℕ) (e : Edge) (s : ℕ) → e.src < length latest → get_or latest s 0 ≡ latest_of s entries →
    get_or (set latest e.src (length entries + 1)) s 0 ≡ latest_of s (entries ++ e ∷ [])
told_push entries latest e s inside was =
    let pushed = latest_of-push s entries e in
    elim (eqb_tells e.src s) [
      | inl h ↦
          let here : s ≡ e.src = sym h.1 in
          get_or-set_at latest e.src s (length entries + 1) 0 here inside ∙ grind (arith, nat_tests, pushed, here)
      | inr h ↦
          let other : s ≢ e.src = λ same. h.1 (sym same) in
          get_or-set_other latest e.src s (length entries + 1) 0 other ∙ grind (arith, nat_tests, pushed, was, other)
    ]

-- each entry has its link after one more
linked_push : (entries : List Edge) (latest prior : List ℕ) (e : Edge) (k : ℕ) (d : Edge) → IsChained entries latest prior → e.src < length latest →
    k < length (entries ++ e ∷ [])
    → get_or (prior ++ get_or latest e.src 0 ∷ []) k 0 ≡ latest_of (get_or (entries ++ e ∷ []) k d).src (take k (entries ++ e ∷ []))
linked_push entries latest prior e k d chained inside within =
    let long : length (entries ++ e ∷ []) ≡ length entries + 1 = length-append entries (e ∷ []) in
    elim (leb_tells (suc k) (length entries)) [
      | inl h ↦
          let old : k < length entries = h.1 in
          let link : get_or (prior ++ get_or latest e.src 0 ∷ []) k 0 ≡ get_or prior k 0 =
          get_or-append prior (get_or latest e.src 0 ∷ []) 0 k (omega (arith, old, chained.slots)) in
          let entry : get_or (entries ++ e ∷ []) k d ≡ get_or entries k d = get_or-append entries (e ∷ []) d k old in
          let front : take k (entries ++ e ∷ []) ≡ take k entries = take-append-le k entries (e ∷ []) (omega (arith, old)) in
          link ∙ chained.linked k d old ∙ ap (λ (x : Edge). latest_of x.src (take k entries)) (sym entry)
          ∙ ap (latest_of (get_or (entries ++ e ∷ []) k d).src) (sym front)
      | inr h ↦
          let last : length entries ≡ k = omega (arith, h.1, within, long) in
          let slot : length prior ≡ k = chained.slots ∙ last in
          let link : get_or (prior ++ get_or latest e.src 0 ∷ []) k 0 ≡ get_or latest e.src 0 =
          subst (λ (n : ℕ). get_or (prior ++ get_or latest e.src 0 ∷ []) n 0
          ≡ get_or latest e.src 0) slot (get_or-append_seam prior (get_or latest e.src 0) [] 0) in
          let entry : get_or (entries ++ e ∷ []) k d ≡ e = subst (λ (n : ℕ). get_or (entries ++ e ∷ []) n d ≡ e) last (get_or-append_seam entries e [] d) in
          let front : take k (entries ++ e ∷ []) ≡ entries = subst (λ (n : ℕ). take n (entries ++ e ∷ []) ≡ entries) last (take-append_seam entries (e ∷ [])) in
          link ∙ chained.told e.src inside ∙ ap (λ (x : Edge). latest_of x.src entries) (sym entry)
          ∙ ap (latest_of (get_or (entries ++ e ∷ []) k d).src) (sym front)
    ]

-- the entries are chained after one more
IsChained_push : (entries : List Edge) (latest prior : List ℕ) (e : Edge) → IsChained entries latest prior → e.src < length latest →
    IsChained (entries ++ e ∷ []) (set latest e.src (length entries + 1)) (prior ++ get_or latest e.src 0 ∷ [])
IsChained_push entries latest prior e chained inside = record {
  slots = length-append prior (get_or latest e.src 0 ∷ []) ∙ ap (λ (n : ℕ). n + 1) chained.slots ∙ sym (length-append entries (e ∷ []));
  told = λ s below. told_push entries latest e s inside (chained.told s (subst (λ (n : ℕ). s < n) (length-set latest e.src (length entries + 1)) below));
  linked = λ k d within. linked_push entries latest prior e k d chained inside within;
}

-- a ring with one more entry, as its fields have it
pub record HasPushed (old new : Inside) (e : Edge) (skip : Skip) : Type 0 where
  pub entries : new.entries.items ≡ old.entries.items ++ e ∷ []
  pub owners : length new.owners.items ≡ length old.owners.items + 1
  pub latest : new.latest.items ≡ set old.latest.items e.src (length old.entries.items + 1)
  pub prior : new.prior.items ≡ old.prior.items ++ get_or old.latest.items e.src 0 ∷ []
  pub skips : new.skips.items ≡ old.skips.items ++ skip ∷ []
  pub room : new.room ≡ old.room
  pub mark : new.mark ≡ old.mark
  pub memory : HasMemory new

-- a ring with one more entry is kept
pub kept_push : (old new : Inside) (e : Edge) (skip : Skip) → IsKept old → length old.entries.items < old.room → IsWithin (length old.latest.items) e →
    HasPushed old new e skip → SkipsNext old.entries.items old.mark skip e.src → IsKept new
kept_push old new e skip kept short ids pushed next =
    let entries : List Edge = old.entries.items in
    let vertices : length new.latest.items ≡ length old.latest.items = ap length pushed.latest ∙ length-set old.latest.items e.src (length entries + 1) in
    let long : length new.entries.items ≡ length entries + 1 = ap length pushed.entries ∙ length-append entries (e ∷ []) in
    let chain : IsChained (entries ++ e ∷ []) (set old.latest.items e.src (length entries + 1)) (old.prior.items ++ get_or old.latest.items e.src 0 ∷ []) =
    IsChained_push entries old.latest.items old.prior.items e kept.chained ids.source in
    record {
      sound = record {
        some = rw pushed.room kept.sound.some;
        small = rw pushed.room kept.sound.small;
        few = omega (arith, vertices, kept.sound.few);
        within = omega (arith, long, short, pushed.room);
        owned = omega (arith, pushed.owners, long, kept.sound.owned);
        ids = rw (vertices, pushed.entries) (All-push (IsWithin (length old.latest.items)) entries e kept.sound.ids ids);
      };
      chained = rw (pushed.entries, pushed.latest, pushed.prior) chain;
      skipping = rw (pushed.entries, pushed.skips, pushed.mark) (skips_push entries old.skips.items old.mark e skip kept.skipping next);
      memory = pushed.memory;
    }

-- a vertex is told none once its entries are forgotten
told_none : (entries : List Edge) (latest told : List ℕ) (s : ℕ) → get_or told s 0 ≡ (if raw entries s == 0 then get_or latest s 0 else 0) →
    get_or latest s 0 ≡ latest_of s entries → get_or told s 0 ≡ 0
told_none entries latest told s gone was =
    elim (eqb_tells (raw entries s) 0) [
      | inl h ↦
          let unnamed : latest_of s entries ≡ 0 = latest_of-none s entries h.1 in
          let none : raw entries s ≡ 0 = h.1 in
          grind (arith, nat_tests, gone, was, unnamed, none)
      | inr h ↦
          let named : raw entries s ≢ 0 = h.1 in
          grind (arith, nat_tests, gone, named)
    ]

-- nothing stands in a ring's lists
pub record IsBare (ring : Inside) : Type 0 where
  pub entries : ring.entries.items ≡ []
  pub owners : ring.owners.items ≡ []
  pub prior : ring.prior.items ≡ []
  pub skips : ring.skips.items ≡ []

-- a ring without entries, as its fields have it
pub record HasCleared (old new : Inside) : Type 0 where
  pub bare : IsBare new
  pub latest : length new.latest.items ≡ length old.latest.items
  pub gone : (s : ℕ) → get_or new.latest.items s 0 ≡ (if raw old.entries.items s == 0 then get_or old.latest.items s 0 else 0)
  pub room : new.room ≡ old.room
  pub mark : new.mark ≡ 0
  pub memory : HasMemory new

-- a ring without entries is kept
pub kept_clear : (old new : Inside) → IsKept old → HasCleared old new → IsKept new
kept_clear old new kept cleared = record {
  sound = record {
    some = rw cleared.room kept.sound.some;
    small = rw cleared.room kept.sound.small;
    few = omega (arith, cleared.latest, kept.sound.few);
    within = rw cleared.bare.entries (omega arith);
    owned = rw (cleared.bare.owners, cleared.bare.entries) refl;
    ids = rw cleared.bare.entries (All-nil (IsWithin (length new.latest.items)));
  };
  chained = rw (cleared.bare.entries, cleared.bare.prior) (record {
    slots = refl;
    told = λ s below. told_none old.entries.items old.latest.items new.latest.items s (cleared.gone s)
        (kept.chained.told s (omega (arith, below, cleared.latest)));
    linked = λ k d within. absurd (omega (arith, within));
  });
  skipping = rw (cleared.bare.entries, cleared.bare.skips, cleared.mark) (record {
    count = refl;
    within = omega arith;
    each = λ k d below. absurd (omega (arith, below));
    newest = λ k from below. absurd (omega (arith, below));
  });
  memory = cleared.memory;
}

-- a ring with a mark behind all of its entries is kept
pub kept_mark : (ring : Inside) (mark : ℕ) → IsKept ring → mark ≡ length ring.entries.items → IsKept (record ring { mark = mark })
kept_mark ring mark kept whole = record {
  sound = kept.sound;
  chained = kept.chained;
  skipping = record {
    count = kept.skipping.count;
    within = omega (arith, whole);
    each = kept.skipping.each;
    newest = λ k from below. absurd (omega (arith, from, below, whole));
  };
  memory = record { entries = kept.memory.entries; owners = kept.memory.owners; prior = kept.memory.prior; skips = kept.memory.skips };
}
