-- Lemmas on lanes at rest, and on one that takes its part of a batch.
use Rattle.std.proofs.Common.{◌≡◌, ℕ, zero, suc, ◌+◌, ◌-◌, ◌<◌, ◌≤◌, true, false, List, [], ◌∷◌, ◌++◌, length, take, drop, filter, fold, All}
use Rattle.std.proofs.Common.{refl, sym, ap, ◌∙◌, subst, arith, append-nil, length-append}
use Rattle.std.proofs.lemmas.Bool.Decides.{nat_tests}
use Rattle.std.proofs.lemmas.List.{length-drop}
use Rattle.std.proofs.lemmas.List.Elements.{All-head, All-tail, All-push, All-weaker, All-drop}
use Rattle.go_net.specs.Net.{net_of}
use Rattle.go_versions.specs.Version.{Version}
use Rattle.go_versions.specs.History.{count_at, last_count, reaches, IsRising}
use Rattle.go_versions.proofs.HistoryLemmas.{count_at-push, count_at-rises, IsRising-push, IsRising-drop}
use Rattle.go_shard.specs.Lane.{Lane, empty_lane, promising, accepting, known, lane_at, IsAhead, IsCompacted}
use Rattle.go_shard.specs.Compacting.{CanCompact}
use Rattle.go_shard.specs.ShardState.{IsAtRest}
use Rattle.go_shard.proofs.LaneLemmas.{accepting-all, promising-same, lane_at-All}

-- versions up to a front tell the same count at it and at each later front
all_reach : (f : ℕ) (vs : List Version) → All (λ v. v.front ≤ f) vs → filter (reaches f) vs ≡ vs
all_reach f [] early = refl
all_reach f (v ∷ vs) early =
    let first : v.front ≤ f = All-head (λ x. x.front ≤ f) v vs early in
    let here : reaches f v ≡ true = grind (arith, nat_tests) in
    let rest : filter (reaches f) vs ≡ vs = all_reach f vs (All-tail (λ x. x.front ≤ f) v vs early) in
    rw here (ap (λ l. v ∷ l) rest)

pub count_at-later : (vs : List Version) (f g : ℕ) → f ≤ g → All (λ v. v.front ≤ f) vs → count_at vs g ≡ count_at vs f
count_at-later vs f g later early =
    ap last_count (all_reach g vs (All-weaker (λ v. v.front ≤ f) (λ v. v.front ≤ g) (λ v h. omega arith) vs early) ∙ sym (all_reach f vs early))

-- an empty lane is at rest
pub empty_lane-rest : (cut front : ℕ) → IsAtRest cut front empty_lane
empty_lane-rest cut front = record {
  settled = refl;
  few = omega arith;
  earlier = λ k d h. absurd (omega arith);
  no_less = λ k d h. absurd (omega arith);
  rising = λ i j d lt inside. absurd (omega arith);
  at_cut = refl;
  at_front = refl;
  retired = omega arith;
}

-- each lane of lanes at rest is so, also past the end
pub rest_at : (cut front : ℕ) (lanes : List Lane) (place : ℕ) → All (IsAtRest cut front) lanes → IsAtRest cut front (lane_at lanes place)
rest_at cut front lanes place rest = lane_at-All (IsAtRest cut front) lanes place rest (empty_lane-rest cut front)

-- a lane at rest is so below a later front
pub rest_later : (cut front later : ℕ) (lane : Lane) → front ≤ later → IsAtRest cut front lane → IsAtRest cut later lane
rest_later cut front later lane after rest = record {
  settled = rest.settled;
  few = omega (arith, rest.few, after);
  earlier = All-weaker (λ v. v.front ≤ front) (λ v. v.front ≤ later) (λ v h. omega arith) lane.versions rest.earlier;
  no_less = rest.no_less;
  rising = rest.rising;
  at_cut = rest.at_cut;
  at_front = count_at-later lane.versions front later after rest.earlier ∙ rest.at_front;
  retired = rest.retired;
}

-- what a lane at rest tells lies between what it has at its cut and all that it has
pub told_from : (cut front f : ℕ) (lane : Lane) → IsAtRest cut front lane → cut ≤ f → lane.floor ≤ count_at lane.versions f
told_from cut front f lane rest from = omega (arith, rest.at_cut, count_at-rises lane.versions cut f rest.rising from)

pub told_to : (cut front f : ℕ) (lane : Lane) → IsAtRest cut front lane → f ≤ front → count_at lane.versions f ≤ known lane
told_to cut front f lane rest to = omega (arith, rest.at_front, count_at-rises lane.versions f front rest.rising to)

-- a later front is ahead of a lane at rest
pub rest_ahead : (cut front later : ℕ) (lane : Lane) → front < later → IsAtRest cut front lane → IsAhead later lane
rest_ahead cut front later lane after rest = record {
  later = All-weaker (λ v. v.front ≤ front) (λ v. v.front < later) (λ v h. omega arith) lane.versions rest.earlier;
  no_less = rest.no_less;
}

-- versions were noted up to a front, where the count is so much: what they told before it they still tell
pub record AreNoted (front count : ℕ) (old new : List Version) : Type 0 where
  pub before : (f : ℕ) → f < front → count_at new f ≡ count_at old f
  pub at : count_at new front ≡ count
  pub earlier : All (λ v. v.front ≤ front) new
  pub no_less : All (λ v. v.count ≤ count) new
  pub rising : IsRising new

-- what a lane is after it took its part of a batch, up to a front
pub record IsGrown (front : ℕ) (old new : Lane) (ws : List ℕ) : Type 0 where
  pub base : new.base ≡ old.base
  pub floor : new.floor ≡ old.floor
  pub words : new.words ≡ old.words ++ ws
  pub settled : new.promised ≡ 0
  pub retired : new.retired ≡ old.retired
  pub versions : AreNoted front (known old + length ws) old.versions new.versions

-- a lane that was at rest is so grown
pub grown : (cut past front : ℕ) (old new : Lane) (ws : List ℕ) → past < front → IsAtRest cut past old →
    new ≡ fold (accepting front) (promising old (length ws)) ws →
    IsGrown front old new ws
grown cut past front old new [] later rest is =
    let same : new ≡ old = is ∙ promising-same old rest.settled in
    let still = rest_later cut past front old (omega arith) rest in
    let none : known old ≡ known old + 0 = omega arith in
    rw same (record {
      base = refl;
      floor = refl;
      words = sym (append-nil old.words);
      settled = rest.settled;
      retired = refl;
      versions = record {
        before = λ f h. refl;
        at = still.at_front ∙ none;
        earlier = still.earlier;
        no_less = subst (λ (n : ℕ). All (λ v. v.count ≤ n) old.versions) none rest.no_less;
        rising = rest.rising;
      };
    })
grown cut past front old new (w ∷ ws) later rest is =
    let noted : Version = record { front = front; count = known old + suc (length ws) } in
    let all : new ≡ record old { words = old.words ++ w ∷ ws; versions = old.versions ++ noted ∷ []; promised = 0 } = is
    ∙ accepting-all front (promising old (suc (length ws))) w ws refl in
    let ahead = rest_ahead cut past front old later rest in
    let few : All (λ v. v.count ≤ noted.count) old.versions = All-weaker (λ v. v.count ≤ known old) (λ v. v.count ≤ noted.count)
    (λ v h. omega arith) old.versions rest.no_less in
    let early : All (λ v. v.front ≤ front) old.versions = All-weaker (λ v. v.front ≤ past) (λ v. v.front ≤ front)
    (λ v h. omega arith) old.versions rest.earlier in
    rw all (record {
      base = refl;
      floor = refl;
      words = refl;
      settled = refl;
      retired = refl;
      versions = record {
        before = λ f h. count_at-push old.versions noted f ∙ (let no : reaches f noted ≡ false = grind (arith, nat_tests) in rw no refl);
        at = count_at-push old.versions noted front ∙ (let reached : reaches front noted ≡ true = grind (arith, nat_tests) in rw reached refl);
        earlier = All-push (λ v. v.front ≤ front) old.versions noted early (omega arith);
        no_less = All-push (λ v. v.count ≤ noted.count) old.versions noted few (omega arith);
        rising = IsRising-push old.versions noted rest.rising ahead.later few;
      };
    })

-- a grown lane is at rest
pub grown_rest : (cut past front : ℕ) (old new : Lane) (ws : List ℕ) → cut ≤ past → past < front → length ws ≤ front - past → IsAtRest cut past old →
    IsGrown front old new ws → IsAtRest cut front new
grown_rest cut past front old new ws within later short rest lane =
    let all : known new ≡ known old + length ws = omega (arith, ap length lane.words, length-append old.words ws, lane.floor) in
    record {
      settled = lane.settled;
      few = omega (arith, all, rest.few, short, later);
      earlier = lane.versions.earlier;
      no_less = subst (λ (n : ℕ). All (λ v. v.count ≤ n) new.versions) (sym all) lane.versions.no_less;
      rising = lane.versions.rising;
      at_cut = lane.versions.before cut (omega (arith, within, later)) ∙ rest.at_cut ∙ sym lane.floor;
      at_front = lane.versions.at ∙ sym all;
      retired = omega (arith, lane.retired, rest.retired);
    }

-- a lane at rest can be compacted between its cut and its front
pub rest_compacts : (cut front at : ℕ) (lane : Lane) → cut ≤ at → at ≤ front → IsAtRest cut front lane → CanCompact at lane
rest_compacts cut front at lane from to rest = record {
  told = omega (arith, rest.retired, from);
  from = told_from cut front at lane rest from;
  there = told_to cut front at lane rest to;
  settled = rest.settled;
}

-- of no words none are taken, and none are left
take_none : (n : ℕ) → take {A = ℕ} n [] ≡ []
take_none zero = refl
take_none (suc n) = refl

drop_none : (n : ℕ) → drop {A = ℕ} n [] ≡ []
drop_none zero = refl
drop_none (suc n) = refl

-- without words it is compacted as it stands
pub bare_compacted : (cut front at : ℕ) (lane : Lane) → cut ≤ at → at ≤ front → IsAtRest cut front lane → lane.words ≡ [] → IsCompacted at lane lane
bare_compacted cut front at lane from to rest bare =
    let none : known lane ≡ lane.floor = omega (arith, ap length bare) in
    let least = told_from cut front at lane rest from in
    let most = told_to cut front at lane rest to in
    let floor : lane.floor ≡ count_at lane.versions at = omega (arith, none, least, most) in
    record {
      base = rw bare (ap (net_of lane.base) (sym (take_none (lane.floor - lane.floor))));
      floor = floor;
      words = rw bare (sym (drop_none (lane.floor - lane.floor)));
      told = λ f later. refl;
      given_up = 0;
      versions = refl;
      retired = omega (arith, rest.retired, from);
      settled = rest.settled;
    }

-- a compacted lane has as many entries
pub compacted_known : (cut front at : ℕ) (old new : Lane) → cut ≤ at → at ≤ front → IsAtRest cut front old → IsCompacted at old new → known new ≡ known old
compacted_known cut front at old new from to rest is =
    let least = told_from cut front at old rest from in
    let most = told_to cut front at old rest to in
    omega (arith, is.floor, ap length is.words, length-drop (new.floor - old.floor) old.words, least, most)

-- and is at rest above its new cut
pub compacted_rest : (cut front at : ℕ) (old new : Lane) → cut ≤ at → at ≤ front → IsAtRest cut front old → IsCompacted at old new → IsAtRest at front new
compacted_rest cut front at old new from to rest is =
    let same = compacted_known cut front at old new from to rest is in
    record {
      settled = is.settled;
      few = omega (arith, same, rest.few);
      earlier = subst (All (λ v. v.front ≤ front)) (sym is.versions) (All-drop (λ v. v.front ≤ front) is.given_up old.versions rest.earlier);
      no_less = rw same (subst (All (λ v. v.count ≤ known old)) (sym is.versions) (All-drop (λ v. v.count ≤ known old) is.given_up old.versions rest.no_less));
      rising = subst IsRising (sym is.versions) (IsRising-drop old.versions is.given_up rest.rising);
      at_cut = is.told at (omega arith) ∙ sym is.floor;
      at_front = is.told front to ∙ rest.at_front ∙ sym same;
      retired = is.retired;
    }
