-- Each row of the machine keeps it tied: to the log before, followed by what was claimed.
use Rattle.std.proofs.Common.{◌≡◌, ℕ, ◌+◌, ◌<◌, ◌≤◌, ◌≢◌, Bool, true, false, cond, List, [], ◌∷◌, ◌++◌, length, set, Option, Some, None, sym, refl, ap, ◌∙◌}
use Rattle.std.proofs.Common.{⊎_elim, arith, subst, append-nil}
use Rattle.std.specs.Prelude.{Contains, find, min, ◌==◌}
use Rattle.std.proofs.lemmas.Bool.Decides.{nat_tests}
use Rattle.std.proofs.lemmas.List.{map-append, length-append}
use Rattle.go_word.specs.declared.edge.Edge.{Edge}
use Rattle.go_word.specs.Word.{word, is_matched}
use Rattle.go_core.specs.declared.act.Act.{Act}
use Rattle.go_core.specs.declared.act.Act.TheVariants.{Claim, LoadHead, LoadArchived, LoadDurable, StoreWord, LoadOrdered, LoadTentative, StoreArchived}
use Rattle.go_core.specs.declared.act.Act.TheVariants.{StoreDurable, TakeTurn, PartOut, PartIn, GiveTurn, LoadFlag, StoreFlag, Split, Join}
use Rattle.go_core.specs.declared.act.Out.{Out}
use Rattle.go_core.specs.declared.entry.Entry.{Entry}
use Rattle.go_core.specs.Frame.{place, slot, head_in, archived_in, durable_in, released}
use Rattle.go_core.specs.declared.view.View.{View}
use Rattle.go_core.specs.View.{stands_at, spent, unmoved, claimed, numbered, stored, took, split_off, joining, archiving, flushing}
use Rattle.go_core.specs.Rule.{TiedBy}
use Rattle.go_core.specs.Acts.{CanClaim, CanTake, CanJoin, HasNoTurn}
use Rattle.go_core.specs.Machine.{Machine, IsTied, views_of, turn_in, absent, stake_off, stakes_joined, party_at, with_view, with_word, AreParted}
use Rattle.go_core.specs.Machine.{Does, Stores, Row, claims}
use Rattle.go_core.proofs.Lookups.{find-Some}
use Rattle.go_core.proofs.Entries.{count_at-append, count_at-numbered_before, count_at-without_le}
use Rattle.go_core.proofs.Parted.{party_there, views-set, beside_same, beside_set, kept, archived_parted, durable_parted}
use Rattle.go_core.proofs.Sharing.{split_parted, join_parted}
use Rattle.go_core.proofs.Loads.{unmoved_keeps, head_loaded, archived_loaded, matched_is, taken_next}
use Rattle.go_core.proofs.Claims.{claim_keeps}
use Rattle.go_core.proofs.Stores.{store_keeps}
use Rattle.go_core.proofs.Fronts.{archived_stored, durable_stored}
use Rattle.go_core.proofs.Durable.{durable_loaded, tentative_loaded}
use Rattle.go_core.proofs.Flags.{flag_stored}
use Rattle.go_core.proofs.Splits.{split_keeps, join_keeps}
use Rattle.go_core.proofs.TurnRows.{turn_or_not, out_done, put_done, given_done}

-- a pending entry that was found stands in the list, at its position
pub found_in : (at : ℕ) (xs : List Entry) (x : Entry) → find (stands_at at) xs ≡ Some x → Contains xs x × (x.at ≡ at)
found_in at xs x found =
    let there = find-Some (stands_at at) xs x found in
    (there.0, stood x there.1)
  where
    stood : (y : Entry) → stands_at at y ≡ true → y.at ≡ at
    stood y is = grind (arith, nat_tests)

-- what a claim of nothing leaves
none_claimed : (m : Machine) (log : List Edge) → IsTied m log → IsTied m (log ++ [])
none_claimed m log tied = subst (λ l. IsTied m l) (sym (append-nil log)) tied

-- an act that isn't done changes nothing
done_or_not : (condition : Type 0) (answer : Out) (after before : Machine) (out : Out) (now : Machine) (log : List Edge) → IsTied before log
    → (condition → IsTied after log) → Does condition answer after before out now → IsTied now log
done_or_not condition answer after before out now log tied done does =
    ⊎_elim (λ yes'. subst (λ m. IsTied m log) (sym yes'.2) (done yes'.0)) (λ not. subst (λ m. IsTied m log) (sym not.2) tied) does

-- a word read in its turn
took_or_not : (m : Machine) (i at : ℕ) (log : List Edge) → (party_at m i).view.live ≡ true → CanTake m.words (party_at m i).view at → IsTied m log
    → (b : Bool) → is_matched m.frame.slots at (slot m.frame m.words at) ≡ b
    → IsTied (with_view i (cond b (took at (party_at m i).view) (unmoved (party_at m i).view)) m) log
took_or_not m i at log live can tied true matched =
    let v = (party_at m i).view in
    let t = tied.tied in
    let there = party_there m i live in
    let s = t.seated i v there in
    let taken = s.takes.to in
    let next = can.next in
    let from : released m.words ≤ at = ⊎_elim (λ role. let past : archived_in m.words ≤ at = role.1 in omega arith)
    (λ role. let past : durable_in m.words ≤ at = role.1 in omega arith) can.role in
    let is = matched_is m.frame log m.words (views_of m.parties) at v.seen t s.sees.written (omega arith) from matched in
    kept m i _ m.words log log live (beside_same m.words) (omega arith) (λ p within. omega arith) (λ role. (role, omega arith))
    (taken_next m.frame log m.words (views_of m.parties) i v at there live next is.written t) tied.fits tied
took_or_not m i at log live can tied false unmatched =
    let v = (party_at m i).view in
    kept m i _ m.words log log live (beside_same m.words) (omega arith) (λ p within. omega arith) (λ role. (role, omega arith))
    (unmoved_keeps m.frame log m.words (views_of m.parties) i v (party_there m i live) live tied.tied) tied.fits tied

-- a store by the entry that was found
stores_keep : (m : Machine) (i at : ℕ) (o : Option Entry) (out : Out) (now : Machine) (log : List Edge) → find (stands_at at) (party_at m i).view.pending ≡ o
    → Stores m i at o out now → IsTied m log → IsTied now log
stores_keep m i at None out now log found row tied = subst (λ k. IsTied k log) (sym row.1) tied
stores_keep m i at (Some x) out now log found row tied =
    let v = (party_at m i).view in
    let in' = found_in at v.pending x found in
    done_or_not _ _ _ m out now log tied
    (λ can.
    let room : x.at < m.frame.slots + min v.archived v.durable = let less = can.1 in let same = in'.1 in omega arith in
    let stores = store_keeps m.frame log m.words (views_of m.parties) i v x (party_there m i can.0) can.0 in'.0 room tied.tied in
    let two = tied.parted.two in
    kept m i (stored x v) _ log log can.0
    (beside_set m.words (place m.frame at) (word m.frame.slots at x.edge) (λ e. omega arith) (λ e. omega arith) (λ e. omega arith) (λ e. omega arith))
    (omega arith)
    (λ p within. let less = count_at-without_le p x.at v.pending in omega arith) (λ role. (role, omega arith))
    (subst (λ k. TiedBy m.frame log (set m.words (place m.frame k) (word m.frame.slots k x.edge))
    (set (views_of m.parties) i (stored x v))) in'.1 stores) tied.fits tied)
    row

-- a claim that is done makes the log longer by its entries
claim_done : (m : Machine) (i : ℕ) (edges : List Edge) (log : List Edge) → (party_at m i).view.live ≡ true → CanClaim m.words edges → IsTied m log
    → IsTied (with_word 0 (head_in m.words + length edges) (with_view i (claimed (head_in m.words) edges (party_at m i).view) m)) (log ++ edges)
claim_done m i edges log live can tied =
    let v = (party_at m i).view in
    let head : head_in m.words ≡ length log = tied.tied.ringed.shape.head in
    let room = can.room in
    let long : length (log ++ edges) ≡ length log + length edges = length-append log edges in
    let claims' = claim_keeps m.frame log edges m.words (views_of m.parties) i v (party_there m i live) live can.storable tied.tied in
    kept m i (claimed (head_in m.words) edges v) _ log (log ++ edges) live
    (beside_set m.words 0 (head_in m.words + length edges) (λ e. omega arith) (λ e. omega arith) (λ e. omega arith) (λ e. omega arith)) (omega arith)
    (λ p within. let more = count_at-append p v.pending (numbered (head_in m.words) edges) in
    let none = count_at-numbered_before p (head_in m.words) edges (omega arith) in omega arith)
    (λ role. (role, omega arith))
    (subst (λ n. TiedBy m.frame (log ++ edges) (set m.words 0 (n + length edges)) (set (views_of m.parties) i (claimed n edges v))) (sym head) claims')
    (omega arith) tied

-- a party is split
split_done : (m : Machine) (i : ℕ) (log : List Edge) → (party_at m i).view.live ≡ true → IsTied m log
    → IsTied (record m {
      parties =
          (with_view i (unmoved (party_at m i).view) m).parties ++ record {
            view = split_off (party_at m i).view;
            stake = stake_off
                (party_at m i).stake;
          } ∷ [];
    }) log
split_done m i log live tied =
    let v = (party_at m i).view in
    record {
      tied = subst (TiedBy m.frame log m.words) (sym (map-append (λ p. p.view) _ _ ∙ ap (λ vs. vs ++ split_off v ∷ []) (views-set m.parties i _)))
          (split_keeps m.frame log m.words (views_of m.parties) i v (party_there m i live) live tied.tied);
      parted = split_parted m i log live tied.parted;
      fits = tied.fits;
    }

-- another party is joined in
join_done : (m : Machine) (i j : ℕ) (log : List Edge) → (party_at m i).view.live ≡ true → j ≢ i → CanJoin (party_at m j).view → HasNoTurn (party_at m j).stake
    → IsTied m log
    → IsTied (record m {
      parties = set
          (set m.parties i (record {
            view = joining (party_at m i).view (party_at m j).view;
            stake = stakes_joined (party_at m i).stake
                (party_at m j).stake;
          })) j absent;
    }) log
join_done m i j log live ne can no_turn tied =
    record {
      tied = subst (TiedBy m.frame log m.words) (sym (views-set _ j absent ∙ ap (λ vs. set vs j spent) (views-set m.parties i _)))
          (join_keeps m.frame log m.words (views_of m.parties) i j (party_at m i).view (party_at m j).view ne (party_there m i live)
          (party_there m j can.live) live can.pending tied.tied);
      parted = join_parted m i j log live ne can no_turn tied.parted;
      fits = tied.fits;
    }

-- a front is stored
front_done : (m : Machine) (i place front : ℕ) (v : View) (log : List Edge) → TiedBy m.frame log (set m.words place front) (set (views_of m.parties) i v)
    → AreParted (with_word place front (with_view i v m)) log → IsTied m log → IsTied (with_word place front (with_view i v m)) log
front_done m i place front v log by parted tied =
    record {
      tied = subst (TiedBy m.frame log (set m.words place front)) (sym (views-set m.parties i _)) by;
      parted = parted;
      fits = tied.fits;
    }

-- every row keeps the machine tied
pub row_keeps : (m : Machine) (i : ℕ) (act : Act) (out : Out) (now : Machine) (log : List Edge) → Row m i act out now → IsTied m log
    → IsTied now (log ++ claims act out)
row_keeps m i (Claim edges) out now log row tied =
    ⊎_elim
    (λ yes'.
    subst (λ o. IsTied now (log ++ claims (Claim edges) o)) (sym yes'.1)
    (subst (λ k. IsTied k (log ++ edges)) (sym yes'.2) (claim_done m i edges log yes'.0.0 yes'.0.1 tied)))
    (λ not.
    subst (λ o. IsTied now (log ++ claims (Claim edges) o)) (sym not.1)
    (none_claimed now log (subst (λ k. IsTied k log) (sym not.2) tied))) row
row_keeps m i LoadHead out now log row tied =
    none_claimed now log
    (done_or_not _ _ _ m out now log tied
    (λ live. kept m i _ m.words log log live (beside_same m.words) (omega arith) (λ p within. omega arith) (λ role. (role, omega arith))
    (head_loaded m.frame log m.words (views_of m.parties) i (party_at m i).view (party_there m i live) live tied.tied) tied.fits tied) row)
row_keeps m i LoadArchived out now log row tied =
    none_claimed now log
    (done_or_not _ _ _ m out now log tied
    (λ live. kept m i _ m.words log log live (beside_same m.words) (omega arith) (λ p within. omega arith) (λ role. (role, omega arith))
    (archived_loaded m.frame log m.words (views_of m.parties) i (party_at m i).view (party_there m i live) live tied.tied) tied.fits tied) row)
row_keeps m i LoadDurable out now log row tied =
    none_claimed now log
    (done_or_not _ _ _ m out now log tied
    (λ live. kept m i _ m.words log log live (beside_same m.words) (omega arith) (λ p within. omega arith) (λ role. (role, omega arith))
    (durable_loaded m.frame log m.words (views_of m.parties) i (party_at m i).view (party_there m i live) live tied.tied) tied.fits tied) row)
row_keeps m i (StoreWord at) out now log row tied = none_claimed now log (stores_keep m i at _ out now log refl row tied)
row_keeps m i (LoadOrdered at) out now log row tied =
    none_claimed now log
    (done_or_not _ _ _ m out now log tied (λ can. took_or_not m i at log can.0 can.1 tied (is_matched m.frame.slots at (slot m.frame m.words at)) refl) row)
row_keeps m i (LoadTentative at) out now log row tied =
    none_claimed now log
    (done_or_not _ _ _ m out now log tied
    (λ can.
    kept m i _ m.words log log can.0 (beside_same m.words) (omega arith) (λ p within. omega arith) (λ role. (role, omega arith))
    (tentative_loaded m.frame log m.words (views_of m.parties) i (party_at m i).view at (party_there m i can.0) can.0 can.1 tied.tied) tied.fits tied) row)
row_keeps m i (StoreArchived front) out now log row tied =
    none_claimed now log
    (done_or_not _ _ _ m out now log tied
    (λ can.
    let all = tied.tied.ringed.shape.all_words in
    let two = tied.parted.two in
    let v = (party_at m i).view in
    front_done m i 1 front (archiving front v) log (archived_stored m.frame log m.words (views_of m.parties) i v front
    (party_there m i can.0) can.0 tied.tied can.1.taken can.1.role can.1.onward)
    (archived_parted m i front log can.0 (omega arith) can.1.onward can.2 tied.parted)
    tied) row)
row_keeps m i (StoreDurable front) out now log row tied =
    none_claimed now log
    (done_or_not _ _ _ m out now log tied
    (λ can.
    let all = tied.tied.ringed.shape.all_words in
    let two = tied.parted.two in
    let v = (party_at m i).view in
    front_done m i 2 front (flushing front v) log (durable_stored m.frame log m.words (views_of m.parties) i v front
    (party_there m i can.0) can.0 tied.tied can.1.taken can.1.role can.1.onward) (durable_parted m i front log can.0 (omega arith) can.2 tied.parted) tied) row)
row_keeps m i (TakeTurn part) out now log row tied =
    none_claimed now log
    (done_or_not _ _ _ m out now log tied (λ can. turn_or_not m i (part == 0) log can.0 tied (turn_in (part == 0) m.words == 0) refl) row)
row_keeps m i (PartOut part) out now log row tied = none_claimed now log
    (done_or_not _ _ _ m out now log tied (λ can. out_done m i (part == 0) log can.0 can.1.turn tied) row)
row_keeps m i (PartIn part state) out now log row tied = none_claimed now log
    (done_or_not _ _ _ m out now log tied (λ can. put_done m i (part == 0) state log can.0 can.1.turn can.2 tied) row)
row_keeps m i (GiveTurn part) out now log row tied = none_claimed now log
    (done_or_not _ _ _ m out now log tied (λ can. given_done m i (part == 0) log can.0 can.1.turn can.1.at_home tied) row)
row_keeps m i LoadFlag out now log row tied =
    none_claimed now log
    (done_or_not _ _ _ m out now log tied
    (λ live. kept m i _ m.words log log live (beside_same m.words) (omega arith) (λ p within. omega arith) (λ role. (role, omega arith))
    (unmoved_keeps m.frame log m.words (views_of m.parties) i (party_at m i).view (party_there m i live) live tied.tied) tied.fits tied) row)
row_keeps m i (StoreFlag why) out now log row tied =
    none_claimed now log
    (done_or_not _ _ _ m out now log tied
    (λ can.
    kept m i _ _ log log can.0 (beside_set m.words 3 why (λ e. omega arith) (λ e. omega arith) (λ e. omega arith) (λ e. omega arith)) (omega arith)
    (λ p within. omega arith) (λ role. (role, omega arith))
    (flag_stored m.frame log m.words (views_of m.parties) i (party_at m i).view why (party_there m i can.0) can.0 can.1 tied.tied) tied.fits tied) row)
row_keeps m i Split out now log row tied = none_claimed now log (done_or_not _ _ _ m out now log tied (λ can. split_done m i log can.0 tied) row)
row_keeps m i (Join j) out now log row tied = none_claimed now log
    (done_or_not _ _ _ m out now log tied (λ can. join_done m i j log can.0 can.1 can.2 can.4 tied) row)
