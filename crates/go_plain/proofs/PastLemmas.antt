-- Lemmas on the log as it is put together from what was opened, the rings that were moved out, and the ring.
use Rattle.std.proofs.Common.{◌≡◌, ℕ, zero, suc, ◌-◌, ◌≤◌, List, [], ◌∷◌, ◌++◌, length, take, drop, map, Option, Some, refl, ap, arith, sym, ◌∙◌}
use Rattle.std.proofs.Common.{append_assoc, append-nil, take_all}
use Rattle.std.proofs.lemmas.Grind.{flat_map-append}
use Rattle.std.proofs.lemmas.List.{length-drop, map-append}
use Rattle.go_word.specs.declared.edge.Edge.{Edge}
use Rattle.go_durable.specs.declared.journal.Journal.{Journal}
use Rattle.go_durable.specs.Journal.{journal_front}
use Rattle.go_plain.specs.Past.{entries_of, log_of, owners_in, owners_of}
use Rattle.go_plain.specs.Plain.{journal_in}
use Rattle.go_plain.specs.Ring.{RingState}

-- one entry more behind a front
pub push_behind : (n : ℕ) (xs : List Edge) (x : Edge) → n ≤ length xs → drop n xs ++ x ∷ [] ≡ drop n (xs ++ x ∷ [])
push_behind zero xs x within = refl
push_behind (suc n) [] x within = absurd (omega (arith, within))
push_behind (suc n) (y ∷ xs) x within = push_behind n xs x (omega (arith, within))

-- the log with one ring more among the past ones, and none in the ring
pub log_moved : (old : List Edge) (past : List RingState) (ring cleared : RingState) → cleared.entries ≡ [] →
    log_of old (past ++ ring ∷ []) cleared ≡ log_of old past ring
log_moved old past ring cleared none =
    let more : entries_of (past ++ ring ∷ []) ≡ entries_of past ++ ring.entries =
    flat_map-append (λ (r : RingState). r.entries) past (ring ∷ []) ∙ ap (λ (l : List Edge). entries_of past ++ l) (append-nil ring.entries) in
    ap (λ (l : List Edge). old ++ (entries_of (past ++ ring ∷ []) ++ l)) none
    ∙ ap (λ (l : List Edge). old ++ l) (append-nil (entries_of (past ++ ring ∷ [])) ∙ more)

-- and who put its entries
pub owners_moved : (past : List RingState) (ring cleared : RingState) → cleared.owners ≡ [] → owners_of (past ++ ring ∷ []) cleared ≡ owners_of past ring
owners_moved past ring cleared none =
    let more : owners_in (past ++ ring ∷ []) ≡ owners_in past ++ ring.owners =
    flat_map-append (λ (r : RingState). r.owners) past (ring ∷ []) ∙ ap (λ (l : List ℕ). owners_in past ++ l) (append-nil ring.owners) in
    ap (λ (l : List ℕ). owners_in (past ++ ring ∷ []) ++ l) none ∙ append-nil (owners_in (past ++ ring ∷ [])) ∙ more

-- a ring with one entry more, of a session
abbrev pub with_one : RingState → Edge → ℕ → RingState
with_one ring e owner = record ring { entries = ring.entries ++ e ∷ []; owners = ring.owners ++ owner ∷ [] }

-- a ring without entries
abbrev pub without_all : RingState → RingState
without_all ring = record ring { entries = []; owners = [] }

-- the log with one entry more in the ring
pub log_pushed : (old : List Edge) (past : List RingState) (ring : RingState) (e : Edge) (owner : ℕ) →
    log_of old past (with_one ring e owner) ≡ log_of old past ring ++ e ∷ []
log_pushed old past ring e owner =
    ap (λ (l : List Edge). old ++ l) (sym (append_assoc (entries_of past) ring.entries (e ∷ [])))
    ∙ sym (append_assoc old (entries_of past ++ ring.entries) (e ∷ []))

-- and who put them
pub owners_pushed : (past : List RingState) (ring : RingState) (e : Edge) (owner : ℕ) →
    owners_of past (with_one ring e owner) ≡ owners_of past ring ++ owner ∷ []
owners_pushed past ring e owner = sym (append_assoc (owners_in past) ring.owners (owner ∷ []))

-- what a plain store's log file is, where it is not set aside
pub journal_there : {D : Type 0} (opened : D) (kept : Option (Journal D)) (journal : Journal D) → kept ≡ Some journal → journal_in opened kept ≡ journal
journal_there opened kept journal is = ap (journal_in opened) is

-- all that lies behind a place, as it is cut out of a list
pub rest_is : (k : ℕ) (edges : List Edge) → take (length edges - k) (drop k edges) ≡ drop k edges
rest_is k edges = take_all (length edges - k) (drop k edges) (omega (arith, length-drop k edges))

-- the past rings, with one more
pub past_more : {V : Type 0} (value : V → RingState) (past kept more : List V) (one : V) (ring : RingState) → kept ≡ past → more ≡ kept ++ one ∷ [] →
    value one ≡ ring → map value more ≡ map value past ++ ring ∷ []
past_more value past kept more one ring same pushed is =
    ap (map value) (pushed ∙ ap (λ l. l ++ one ∷ []) same) ∙ map-append value past (one ∷ []) ∙ ap (λ (r : RingState). map value past ++ r ∷ []) is

-- the log stays when the ring is emptied, and so does who put what
pub log_kept : (old : List Edge) (past more : List RingState) (ring cleared : RingState) → more ≡ past ++ ring ∷ [] →
    cleared ≡ without_all ring → log_of old more cleared ≡ log_of old past ring
log_kept old past more ring cleared are is = rw are (log_moved old past ring cleared (ap (λ (r : RingState). r.entries) is))

pub owners_kept : (past more : List RingState) (ring cleared : RingState) → more ≡ past ++ ring ∷ [] →
    cleared ≡ without_all ring → owners_of more cleared ≡ owners_of past ring
owners_kept past more ring cleared are is = rw are (owners_moved past ring cleared (ap (λ (r : RingState). r.owners) is))

-- what the log file lacks, as it is cut out of the ring's entries
pub lacking_is : {D : Type 0} (front moved : ℕ) (entries newest : List Edge) (journal kept : Journal D) → kept ≡ journal → front ≡ journal_front journal →
    entries ≡ newest →
    take (length entries - (front - moved)) (drop (front - moved) entries) ≡ drop (journal_front kept - moved) newest
lacking_is front moved entries newest journal kept same is are = rest_is (front - moved) entries ∙ rw (same, is, are) refl
