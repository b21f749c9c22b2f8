-- Writes to the list of parties, as the code does them and as the rows say them.
use Rattle.std.proofs.Common.{◌≡◌, ℕ, ◌<◌, ◌≢◌, List, [], ◌∷◌, ◌++◌, length, get_or, set, sym, ap, ◌∙◌}
use Rattle.std.proofs.lemmas.List.{get_or_default, get_or-set_other, set_comm, set-set, set-get_or, set-append_left, get_or_append_left}
use Rattle.go_core.specs.declared.party.Party.{Party}
use Rattle.go_core.specs.View.{joining, unmoved, split_off}
use Rattle.go_core.specs.Machine.{absent, stakes_joined, stake_off}

-- two parties joined into one
abbrev pub both_of : Party → Party → Party
both_of p q = record { view = joining p.view q.view; stake = stakes_joined p.stake q.stake }

-- an element that was read, at the default of the rows
pub party_read : (ps : List Party) (i : ℕ) (p : Party) → i < length ps → p ≡ get_or ps i p → p ≡ get_or ps i absent
party_read ps i p within is = is ∙ get_or_default ps i p absent within

-- the other party was taken out first
pub join_parties : (ps : List Party) (i j : ℕ) (p q a both : Party) → j ≢ i → i < length ps → j < length ps → q ≡ get_or ps j q → a ≡ absent
    → p ≡ get_or (set ps j a) i p → both ≡ both_of p q
    → set (set ps j a) i both ≡ set (set ps i (both_of (get_or ps i absent) (get_or ps j absent))) j absent
join_parties ps i j p q a both ne within_i within_j is_q is_a is_p is_both =
    let q' : q ≡ get_or ps j absent = party_read ps j q within_j is_q in
    let p' : p ≡ get_or ps i absent = is_p ∙ get_or-set_other ps j i a p (λ e. ne (sym e)) ∙ get_or_default ps i p absent within_i in
    let both' : both ≡ both_of (get_or ps i absent) (get_or ps j absent) = is_both ∙ ap (λ z. both_of z q) p' ∙ ap (both_of (get_or ps i absent)) q' in
    ap (λ z. set (set ps j z) i both) is_a ∙ set_comm ps j i absent both ne ∙ ap (λ z. set (set ps i z) j absent) both'

-- the other party was put back
pub join_undone : (ps : List Party) (i j : ℕ) (p q a p' q' : Party) → p ≡ get_or (set ps j a) i p → q ≡ get_or ps j q → p' ≡ p → q' ≡ q
    → set (set (set ps j a) i p') j q' ≡ ps
join_undone ps i j p q a p' q' is_p is_q same_p same_q =
    ap (λ z. set (set (set ps j a) i z) j q') (same_p ∙ is_p) ∙ ap (λ z. set z j q') (set-get_or (set ps j a) i p) ∙ set-set ps j a q'
    ∙ ap (set ps j) (same_q ∙ is_q) ∙ set-get_or ps j q

-- a party after a step that told it nothing, and what is split off from it
abbrev pub stayed : Party → Party
stayed p = record { view = unmoved p.view; stake = p.stake }

abbrev pub part_of : Party → Party
part_of p = record { view = split_off p.view; stake = stake_off p.stake }

-- the new party was put at the end first
pub split_parties : (ps qs : List Party) (i : ℕ) (p q new now : Party) → i < length ps → q ≡ get_or ps i q → new ≡ part_of q → qs ≡ ps ++ new ∷ []
    → p ≡ get_or qs i p → now ≡ stayed p
    → set qs i now ≡ set ps i (stayed (get_or ps i absent)) ++ part_of (get_or ps i absent) ∷ []
split_parties ps qs i p q new now within is_q is_new is is_p is_now =
    let p' : p ≡ get_or ps i absent = is_p ∙ ap (λ zs. get_or zs i p) is ∙ get_or_append_left ps (new ∷ []) p i within ∙ get_or_default ps i p absent within in
    let q' : q ≡ get_or ps i absent = party_read ps i q within is_q in
    ap (λ zs. set zs i now) is ∙ set-append_left ps (new ∷ []) i now within ∙ ap (λ z. set ps i z ++ new ∷ []) (is_now ∙ ap stayed p')
    ∙ ap (λ z. set ps i (stayed (get_or ps i absent)) ++ z ∷ []) (is_new ∙ ap part_of q')
