-- A handle after a claim that was placed or given up, and a load of the log's length.
use Rattle.std.proofs.Common.{◌≡◌, ℕ, ◌+◌, ◌<◌, ◌≤◌, ◌||◌, true, List, [], ◌∷◌, ◌++◌, length, map, sym, refl, ap, ◌∙◌, arith, subst}
use Rattle.std.specs.Prelude.{All, max}
use Rattle.atomic_table.specs.Seated.{TableId}
use Rattle.go_word.specs.declared.edge.Edge.{Edge}
use Rattle.go_api.specs.Alone.{positions}
use Rattle.go_api.specs.Laid.{Rises}
use Rattle.go_api.specs.declared.stop.Stop.{Stop}
use Rattle.go_api.proofs.AloneLemmas.{length-positions}
use Rattle.go_core.specs.View.{numbered}
use Rattle.go_core.specs.declared.entry.Entry.{Entry}
use Rattle.go_rule.specs.declared.layout.Key.{Key}
use Rattle.go_rule.specs.declared.view.About.{About}
use Rattle.go_rule.specs.declared.view.SeatView.{SeatView}
use Rattle.go_rule.specs.Views.{frame_of}
use Rattle.go_turns.specs.Going.{HasGoneOn, KnowsMore}
use Rattle.go_turns.proofs.Going.{knows_further}
use Rattle.go_piece.specs.declared.piece.Piece.{Piece}
use Rattle.go_views.proofs.Staying.{view_stays_stepping}
use Rattle.go_live.specs.declared.handle.Handle.{Handle}
use Rattle.go_live.specs.declared.held.Held.{Held}
use Rattle.go_live.specs.Going.{Serves, ServesOn}
use Rattle.go_live.specs.GoingOn.{serves_onwards}
use Rattle.go_live.specs.Handles.{is_disk, HasFronts, HasPlaces, IsHandle, IsKept, IsOf, KnowsLog, OwnsUpTo, kept_of, stands_in}
use Rattle.go_live.specs.Putting.{ArePutFrom, ArePutStopped, HasClaimed, IsGivenUp, IsPlaced}
use Rattle.go_live.specs.Standings.{edges_of, place_of, positions_of}
use Rattle.go_live.proofs.Handling.{met_now, met_stays}
use Rattle.go_live.proofs.Onward.{goes_onward, serves_going}
use Rattle.go_live.proofs.Rows.{below_behind, below_row, edges_more, positions_more, rises_behind, rises_row, row_within}
use Rattle.go_live.proofs.Sound.{below_greater}
use Rattle.go_live.proofs.Steady.{fronts_still, owns_still, places_still}

module _ {D : Type 0} (table : TableId) (key : Key (Piece D)) (h now : Handle D) (edges : List Edge) (e : SeatView (Piece D)) where
  -- the claim is no longer owed, the seat has gone on since, and nothing else of the handle is different but where its next entry may stand and what was met
  pub record HasSettled : Type 0 where
    pub table_is : now.seat.table_id ≡ h.seat.table_id
    pub id_is : now.seat.id ≡ h.seat.id
    pub hand : now.seat.me.1 ≡ h.seat.me.1
    pub words : length now.words.items ≡ length h.words.items
    pub numbers : (now.first ≡ h.first) × (now.vertices ≡ h.vertices)
    pub held : now.held.items ≡ h.held.items
    pub seen : now.seen ≡ h.seen
    pub claimed : HasClaimed (length edges) h.seat.me.0 e
    pub on : HasGoneOn (frame_of key) e now.seat.me.0
    pub stake : now.seat.me.0.stake ≡ e.stake
    pub knows : (seen : ℕ) → seen ≤ e.core.seen → KnowsLog seen now.seat.me.0
    pub own : All (λ (x : Entry). x.at < now.seat.me.0.core.head) now.seat.me.0.core.own

  module _ (s : HasSettled) (is : IsHandle table key h) where
    about : now.seat.me.0.about ≡ h.seat.me.0.about
    about = ap (λ z. z.about) s.on.rest ∙ ap (λ z. z.about) s.claimed.rest

    knows : KnowsMore h.seat.me.0 now.seat.me.0
    knows = knows_further h.seat.me.0 e now.seat.me.0 s.claimed.knows s.on.knows

    stake : now.seat.me.0.stake ≡ h.seat.me.0.stake
    stake = s.stake ∙ s.claimed.stake

    -- it serves on
    pub settled_serves : ServesOn h now
    settled_serves =
        let d = h.seat.me.0 in
        let claimed : Serves d e = record {
          about = ap (λ z. z.about) s.claimed.rest;
          lot = ap (λ z. z.share.lot) s.claimed.rest;
          joined = ap (λ z. z.core.joined) s.claimed.rest;
          heard = ap (λ z. z.told.heard) s.claimed.rest;
          flagged = s.claimed.knows.flagged;
          memory = ap (λ z. z.core.memory_raised) s.claimed.rest;
        } in
        record {
          table = s.table_is;
          id = s.id_is;
          serves = serves_onwards d e now.seat.me.0 claimed (serves_going (frame_of key) e now.seat.me.0 s.on);
        }

    -- it is a handle, where its own entries go up to the next one, and a fault is met only once the flag was seen raised
    settled_handle : OwnsUpTo now.next now.seat.me.0 → (now.met ≡ true → now.seat.me.0.told.flagged ≡ true) → IsHandle table key now
    settled_handle owns met =
        let d = h.seat.me.0 in
        let g = now.seat.me.0 in
        let shards = key.layout.shards in
        let to = is.steady.kept.fronts.to in
        let earlier = s.claimed.knows.seen in
        let upto = to.seen in
        record {
          steady = record {
            of = record {
              at = (s.table_is ∙ is.steady.of.at.0, ap (λ z. z.core.live) s.on.rest ∙ ap (λ z. z.core.live) s.claimed.rest ∙ is.steady.of.at.1);
              sized = is.steady.of.sized;
              vertices_are = ap (λ (a : About). a.vertices) about ∙ is.steady.of.vertices_are;
              vertices = s.numbers.1 ∙ is.steady.of.vertices ∙ sym (ap (λ (a : About). a.vertices) about);
              first = s.numbers.0 ∙ is.steady.of.first ∙ sym (ap (λ (a : About). a.first) about);
              words = s.words ∙ is.steady.of.words;
            };
            nothing = record {
              pending = ap (λ z. z.core.pending) s.on.rest ∙ s.claimed.pending;
              notes = ap (λ k. k.notes) stake ∙ is.steady.nothing.notes;
              slots = s.hand ∙ is.steady.nothing.slots;
            };
            kept = record {
              owns = owns;
              fronts = subst (λ n. HasFronts n g) (sym s.seen) (fronts_still h.seen d g about knows is.steady.kept.fronts);
              places = subst (λ n. HasPlaces shards n now.held.items g) (sym s.seen)
                  (subst (λ (held : List Held). HasPlaces shards h.seen held g) (sym s.held)
                  (places_still shards h.seen h.held.items d g
                  (λ view. view_stays_stepping shards view d g about knows.begins (ap (λ k. k.pins) stake)) is.steady.kept.places));
              met = met;
            };
          };
          knows = subst (λ n. KnowsLog n g) (sym s.seen) (s.knows h.seen (omega arith));
        }

    module _ (n : ℕ) (some : 1 ≤ length edges) (p : IsPlaced edges n h.seat.me.0 e) (next : now.next ≡ n + length edges) (met : now.met ≡ h.met) where
      own : now.seat.me.0.core.own ≡ h.seat.me.0.core.own ++ numbered n edges
      own = ap (λ z. z.core.own) s.on.rest ∙ p.own

      within : n + length edges ≤ now.seat.me.0.core.head
      within =
          row_within now.seat.me.0.core.head n h.seat.me.0.core.own edges some
          (subst (λ (xs : List Entry). All (λ (x : Entry). x.at < now.seat.me.0.core.head) xs) own s.own)

      stands : positions_of now.seat.me.0.core.own ≡ positions_of h.seat.me.0.core.own ++ positions n (length edges)
      stands = ap positions_of own ∙ positions_more h.seat.me.0.core.own n edges

      -- its entries stand in a row
      pub placed_handle : IsHandle table key now
      placed_handle =
          let d = h.seat.me.0 in
          let g = now.seat.me.0 in
          let owns = is.steady.kept.owns in
          let known = owns.known in
          let behind = p.behind in
          let from = is.steady.kept.fronts.from in
          let least : d.about.first ≤ max d.about.first h.next = omega arith in
          settled_handle
          (subst (λ k. OwnsUpTo k g) (sym next)
          (record {
            rises = subst (λ (a : About). Rises a.first (positions_of g.core.own)) (sym about)
                (subst (λ (ps : List ℕ). Rises d.about.first ps) (sym stands)
                (rises_behind d.about.first (max d.about.first h.next) n (length edges) (positions_of d.core.own) (omega arith) owns.rises
                (below_greater h.next (max d.about.first h.next) (positions_of d.core.own) (omega arith) owns.before) (omega (arith, least))));
            before = subst (λ (ps : List ℕ). All (λ q. q < n + length edges) ps) (sym stands)
                (below_behind h.next n (length edges) (positions_of d.core.own) owns.before (omega arith));
            known = within;
          }))
          (λ is_met. knows.flagged (is.steady.kept.met (sym met ∙ is_met)))

      pub placed_stands : ArePutFrom edges n (stands_in key h) (stands_in key now)
      placed_stands =
          let d = h.seat.me.0 in
          let g = now.seat.me.0 in
          let there = is.steady.kept.fronts.to.there in
          let seen = s.seen in
          let left = ap (λ z. z.share.quota) s.on.rest in
          let spent = p.claimed.quota in
          record {
            put = record {
              onward = goes_onward key.layout.ring (kept_of h) (kept_of now) d g about knows (omega arith) there
                  (subst (λ k. k ≤ length g.told.seen) (sym s.seen) (fronts_still h.seen d g about knows is.steady.kept.fronts).to.there)
                  (λ is_met. met ∙ is_met);
              owned = stands;
              put = ap (λ xs. map (λ (x : Entry). x.edge) xs) own ∙ edges_more d.core.own n edges;
              so_many = length-positions n (length edges);
              rises = rises_row d.core.head n (length edges) p.behind;
              known = below_greater (n + length edges) g.core.head (positions n (length edges)) within (below_row n (length edges));
              same_places = ap (λ xs. map place_of xs) s.held;
            };
            quota = omega arith;
          }

    module _ (why : Stop) (gone : IsGivenUp edges h.seat.me.0 e) (next : now.next ≡ h.next) (met : now.met ≡ (h.met || is_disk why)) where
      same : now.seat.me.0.core.own ≡ h.seat.me.0.core.own
      same = ap (λ z. z.core.own) s.on.rest ∙ gone.own

      -- or nothing of them does
      pub given_up_handle : IsHandle table key now
      given_up_handle =
          settled_handle
          (subst (λ k. OwnsUpTo k now.seat.me.0) (sym next)
          (owns_still h.next h.seat.me.0 now.seat.me.0 about same knows is.steady.kept.owns))
          (λ is_met. s.on.knows.flagged gone.flagged)

      pub given_up_stands : ArePutStopped edges why (stands_in key h) (stands_in key now)
      given_up_stands =
          let d = h.seat.me.0 in
          let g = now.seat.me.0 in
          let seen = s.seen in
          let left = ap (λ z. z.share.quota) s.on.rest in
          let spent = gone.claimed.quota in
          record {
            kept = record {
              onward = goes_onward key.layout.ring (kept_of h) (kept_of now) d g about knows (omega arith) is.steady.kept.fronts.to.there
                  (subst (λ k. k ≤ length g.told.seen) (sym s.seen) (fronts_still h.seen d g about knows is.steady.kept.fronts).to.there)
                  (λ is_met. met ∙ met_stays h.met why is_met);
              same_own = ap positions_of same;
              same_edges = ap edges_of same;
              same_places = ap (λ xs. map place_of xs) s.held;
            };
            quota = omega arith;
            met = λ disk. met ∙ met_now h.met why disk;
          }
