-- A claim and the store of a word keep the rule.
use Rattle.std.proofs.Common.{◌≡◌, ℕ, ◌+◌, ◌-◌, ◌%◌, ◌^◌, ◌<◌, ◌≤◌, true, List, [], ◌++◌, length, set, sym, refl, ap, ◌∙◌, arith, subst}
use Rattle.std.specs.Prelude.{All, Contains, sum_by, Option as Maybe}
use Rattle.std.proofs.lemmas.List.{length-append}
use Rattle.std.proofs.Math.Nat.{mod-eq_of_lt}
use Rattle.atomic_table.specs.Table.{State, Step, Allows, Me}
use Rattle.go_word.specs.declared.edge.Edge.{Edge}
use Rattle.go_word.specs.Word.{IsStorable, word}
use Rattle.go_core.specs.declared.entry.Entry.{Entry}
use Rattle.go_core.specs.Acts.{HasRoom}
use Rattle.go_core.specs.Frame.{place, head_in, archived_in, durable_in, flag_in}
use Rattle.go_core.specs.View.{numbered, stored}
use Rattle.go_core.proofs.Totals.{term-le}
use Rattle.go_core.proofs.Entries.{count_at-append, count_at-numbered_before, count_at-without_le}
use Rattle.go_core.proofs.Moved.{word_other}
use Rattle.go_core.proofs.Claims.{claim_keeps}
use Rattle.go_core.proofs.Stores.{store_keeps}
use Rattle.go_core.proofs.Loads.{still_live}
use Rattle.go_core.proofs.Parted.{written_less}
use Rattle.go_rule.specs.declared.layout.Key.{Key}
use Rattle.go_rule.specs.declared.view.SeatView.{SeatView}
use Rattle.go_rule.specs.Meaning.{Meaning, IsLasting}
use Rattle.go_rule.specs.Views.{frame_of, claiming, with_stored}
use Rattle.go_rule.specs.Rule.{IsBelow, cores, IsRuled}
use Rattle.go_rule.specs.Steps.{Claims, Stores}
use Rattle.go_rule.proofs.Beside.{IsRuledSeat, seat_onward, core_there, seen_within, Beside, allowed}
use Rattle.go_rule.proofs.Renewals.{fronts_still, told_on, renewed_beside, old_kept, numbers_to}

module _ {P : Type 0} (m : Meaning P) (laws : IsLasting m) (key : Key P) where
  module _ (s : State (Maybe P) (SeatView P)) (log : List Edge) (parts : List P) (i : ℕ) (d : SeatView P) (ruled : IsRuledSeat m key s log parts i d) where
    -- the entries of a claim have positions below 2^32
    claim_small : (es : List Edge) → length es ≤ d.share.quota → length log + length es ≤ 2 ^ 32 - 1
    claim_small es few =
        let all = ruled.by.shared.quotas in
        let mine : d.share.quota ≤ sum_by (λ (z : SeatView P). z.share.quota) s.views = term-le (λ (z : SeatView P). z.share.quota) s.views i d ruled.there in
        omega arith

    claim_beside : (es : List Edge) → All IsStorable es → All (IsBelow key.layout.vertices) es → length es ≤ d.share.quota
        → Beside m laws key s log parts ruled.by i d ruled.there (claiming (length log) es d) (set s.words 0 (length log + length es)) es
    claim_beside es storable below few =
        let seat = ruled.by.seats i d ruled.there in
        let w = claiming (length log) es d in
        let words' = set s.words 0 (length log + length es) in
        let core = core_there m laws key s log parts ruled.by i d ruled.there in
        let fronts = fronts_still m laws key s log parts i d ruled words' (word_other s.words 0 1 _ (λ e. omega arith))
        (word_other s.words 0 2 _ (λ e. omega arith)) (word_other s.words 0 3 _ (λ e. omega arith)) in
        let long = length-append log es in
        record {
          tied = claim_keeps (frame_of key) log es s.words (cores s.views) i d.core core ruled.live storable ruled.by.tied;
          below = below;
          written = λ p old.
              written_less log (log ++ es) (cores s.views) i d.core w.core core (omega arith)
              (λ q within.
              let more = count_at-append q d.core.pending (numbered (length log) es) in
              let none = count_at-numbered_before q (length log) es within in
              omega arith) p old;
          turns = λ place within. word_other s.words 0 (4 + place) _ (λ e. omega arith);
          fronts = fronts;
          goes_on = λ role. (role, omega arith);
          seat = seat_onward m laws key log es s.words words' parts w fronts.rises (seen_within m laws key s log parts ruled.by i d ruled.there i d ruled.there)
              (record {
                ended = λ dead. still_live d.core _ ruled.live dead;
                about = seat.about;
                told = seat.told;
                lot = seat.lot;
                kept = seat.kept;
                noted = seat.noted;
                stood = seat.stood;
              });
          same = record { notes = refl; pins = refl; quota = omega arith; lot = refl };
        }

    store_beside : (x : Entry) → Contains d.core.pending x → HasRoom (frame_of key) d.core x.at
        → Beside m laws key s log parts ruled.by i d ruled.there (with_stored x d) (set s.words (place (frame_of key) x.at)
        (word key.layout.ring x.at x.edge)) []
    store_beside x pending room =
        let k = place (frame_of key) x.at in
        let n = word key.layout.ring x.at x.edge in
        let words' = set s.words k n in
        let core = core_there m laws key s log parts ruled.by i d ruled.there in
        let archived : archived_in words' ≡ archived_in s.words = word_other s.words k 1 n (λ e. omega arith) in
        let durable : durable_in words' ≡ durable_in s.words = word_other s.words k 2 n (λ e. omega arith) in
        let flag : flag_in words' ≡ flag_in s.words = word_other s.words k 3 n (λ e. omega arith) in
        let fronts = fronts_still m laws key s log parts i d ruled words' archived durable flag in
        renewed_beside m laws key s log parts i d ruled (stored x d.core) d.told words'
        (record {
          lives = ruled.live;
          tied = store_keeps (frame_of key) log s.words (cores s.views) i d.core x core ruled.live pending room ruled.by.tied;
          less = λ q. let less = count_at-without_le q x.at d.core.pending in omega arith;
          goes_on = λ role. (role, omega arith);
          told = told_on m laws key s log parts i d ruled words' fronts.rises;
          kept = old_kept m laws key s log parts i d ruled;
        })
        (λ place' within. word_other s.words k (4 + place') n (λ e. omega arith))
        fronts

  module _ (slots id : ℕ) (me : Me (Maybe P) (SeatView P)) (live : me.0.core.live ≡ true) (step : Step (Maybe P)) where
    pub claim_allowed : (es : List Edge) (count : ℕ) → count ≡ length es → All IsStorable es → All (IsBelow key.layout.vertices) es →
        length es ≤ me.0.share.quota
        → Allows (IsRuled m key) slots id me 0 (λ n. (n + count) % 2 ^ 64) (Claims es step me)
    claim_allowed es count many storable below few =
        subst (λ z. Allows (IsRuled m key) slots id me 0 (λ n. (n + z) % 2 ^ 64) (Claims es step me)) (sym many)
        (allowed m laws key slots id me live 0 (λ n. (n + length es) % 2 ^ 64) (Claims es step me)
        (λ s log parts ruled small.
        let n = head_in s.words in
        let head : n ≡ length log = ruled.by.tied.ringed.shape.head in
        let total = claim_small s log parts id me.0 ruled es few in
        let sum : (n + length es) % 2 ^ 64 ≡ length log + length es = mod-eq_of_lt (fits n (length log) (length es) head total)
        ∙ ap (λ k. k + length es) head in
        let to = numbers_to m laws key s log parts id me.0 ruled in
        let one = to.0 in
        let two = to.1 in
        let kept = claim_beside s log parts id me.0 ruled es storable below few in (
          claiming n es me.0,
          es,
          subst (λ k. Beside m laws key s log parts ruled.by id me.0 ruled.there (claiming k es me.0) (set s.words 0 ((n + length es) % 2 ^ 64)) es) (sym head)
              (subst (λ k. Beside m laws key s log parts ruled.by id me.0 ruled.there (claiming (length log) es me.0) (set s.words 0 k) es) (sym sum) kept),
          (refl, omega arith, omega arith, small_sum n (length log) (length es) head total),
        )))
      where
        fits : (n long k : ℕ) → n ≡ long → long + k ≤ 2 ^ 32 - 1 → n + k < 2 ^ 64
        fits n long k same few = omega arith

        small_sum : (n long k : ℕ) → n ≡ long → long + k ≤ 2 ^ 32 - 1 → n + k < 2 ^ 32
        small_sum n long k same few = omega arith

    pub store_allowed : (x : Entry) → Contains me.0.core.pending x → HasRoom (frame_of key) me.0.core x.at → (new : ℕ) → new ≡ word key.layout.ring x.at x.edge
        → Allows (IsRuled m key) slots id me (place (frame_of key) x.at) (λ _. new) (λ _. Stores x step me new)
    store_allowed x pending room new is =
        allowed m laws key slots id me live (place (frame_of key) x.at) (λ _. new) (λ _. Stores x step me new)
        (λ s log parts ruled small. (
          with_stored x me.0,
          [],
          subst (λ n. Beside m laws key s log parts ruled.by id me.0 ruled.there (with_stored x me.0) (set s.words (place (frame_of key) x.at) n) []) (sym is)
              (store_beside s log parts id me.0 ruled x pending room),
          refl,
        ))
