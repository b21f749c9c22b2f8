-- The versions from the last that reaches the front on are copied one by one.
use Rattle.std.proofs.Common.{◌≡◌, ◌<◌, ◌≤◌, ◌-◌, ◌++◌, ◌∷◌, [], length, drop, get_or, take_all, length-drop, refl, ap, sym, subst, arith, ◌∙◌}
use Rattle.std.specs.Prelude.{All}
use Rattle.go_versions.specs.Version.{Version}
use Rattle.go_versions.specs.History.{IsBefore}
use Rattle.go_versions.proofs.HistoryLemmas.{HasRetired, between_before, one_more_kept, has_retired}
use Rattle.go_versions.proofs.versions.Versions.retired.Goals.{After-loop-place}
use Rattle.go_versions.proofs.versions.Versions.retired.Goals as goal

pub note-requires-clause-later : goal.note-requires-clause-later
note-requires-clause-later c =
    let vs = c.args.self.now.versions in
    let inside : c.loop-place.place < length vs = omega (arith, c.loop-place-test.true, c.len-place-end.ensures.count) in
    let d : Version = record { front = 0; count = 0 } in
    let before = between_before vs c.saturating_sub-first.result c.loop-place.place d c.reached.ensures.rising inside in
    let same = c.in_ok-reserve.ensures.versions ∙ c.loop-place.invariant.copied in
    let here = subst (All (λ v. IsBefore v (get_or vs c.loop-place.place d))) (sym same) before in
    λ k e within. rw (c.front_of.ensures d) ((here k e within).front)

pub note-requires-clause-no_less : goal.note-requires-clause-no_less
note-requires-clause-no_less c =
    let vs = c.args.self.now.versions in
    let inside : c.loop-place.place < length vs = omega (arith, c.loop-place-test.true, c.len-place-end.ensures.count) in
    let d : Version = record { front = 0; count = 0 } in
    let before = between_before vs c.saturating_sub-first.result c.loop-place.place d c.reached.ensures.rising inside in
    let same = c.in_ok-reserve.ensures.versions ∙ c.loop-place.invariant.copied in
    let here = subst (All (λ v. IsBefore v (get_or vs c.loop-place.place d))) (sym same) before in
    λ k e within. rw (c.count_of.ensures d) ((here k e within).count)

pub loop-place-preserved : goal.loop-place-preserved
loop-place-preserved c =
    let vs = c.args.self.now.versions in
    let inside : c.loop-place.place < length vs = omega (arith, c.loop-place-test.true, c.len-place-end.ensures.count) in
    let d : Version = record { front = 0; count = 0 } in
    let version : record { front = c.front_of.result; count = c.count_of.result } ≡ get_or vs c.loop-place.place d =
    rw (c.front_of.ensures d, c.count_of.ensures d) refl in
    let same = c.in_ok-reserve.ensures.versions ∙ c.loop-place.invariant.copied in
    record {
      copied = c.note.ensures.noted ∙ ap (λ l. l ++ record { front = c.front_of.result; count = c.count_of.result } ∷ []) same
          ∙ one_more_kept vs c.saturating_sub-first.result c.loop-place.place d (record {
            front = c.front_of.result;
            count =
                c.count_of.result;
          }) (omega arith) inside version;
      front = c.note.ensures.retired ∙ c.in_ok-reserve.ensures.retired ∙ c.loop-place.invariant.front;
      within = omega (arith, inside);
    }

-- what was copied are the versions that are left
has : (c : After-loop-place) → HasRetired c.args.front c.args.self.now.versions c.loop-place.copy.versions
has c =
    let vs = c.args.self.now.versions in
    let first = c.saturating_sub-first.result in
    let all : length (drop first vs) ≤ c.loop-place.place - first = omega (
      arith,
      length-drop first vs,
      c.loop-place-test.false,
      c.len-place-end.ensures.count,
    ) in
    let left = c.loop-place.invariant.copied ∙ take_all (c.loop-place.place - first) (drop first vs) all in
    has_retired c.args.front vs vs c.loop-place.copy.versions c.reached.result refl c.reached.ensures.bound c.reached.ensures.parts (left
    ∙ ap (λ k. drop k vs) c.saturating_sub-first.ensures)

pub returns-clause-kept : goal.returns-clause-kept
returns-clause-kept c = (has (goal.at.returns-clause-kept c).After-loop-place).kept

pub returns-clause-few : goal.returns-clause-few
returns-clause-few c = (has (goal.at.returns-clause-few c).After-loop-place).few

pub returns-clause-at : goal.returns-clause-at
returns-clause-at c f le = (has (goal.at.returns-clause-at c).After-loop-place).at f le
