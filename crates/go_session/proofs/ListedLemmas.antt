-- Lemmas on the list that the tests take for a store.
use Rattle.std.proofs.Common.{◌≡◌, ℕ, zero, suc, ◌+◌, ◌-◌, ◌<◌, ◌≤◌, ◌^◌, ◌==◌, if◌then◌else◌, true, false, fold, List, [], ◌∷◌, ◌++◌, length}
use Rattle.std.proofs.Common.{take, drop, get_or, slice_set, Some, None, Ok, refl, ap, arith, sym}
use Rattle.std.proofs.Common.{subst, ◌∙◌, length-append, append-nil}
use Rattle.std.specs.Prelude.{All, min}
use Rattle.std.proofs.Math.Seq.{take-append_seam}
use Rattle.std.proofs.Math.Nat.{min-le_right}
use Rattle.std.proofs.lemmas.List.{length-set, length-take, length-drop, drop-take}
use Rattle.std.proofs.lemmas.Option.{slice_get_within, slice_get-get_or, get_or_from_slice_get}
use Rattle.std.proofs.lemmas.List.Elements.{All-append, All-get_or, All-set, All-weaker, All-from_recursion}
use Rattle.go_word.specs.declared.edge.Edge.{Edge}
use Rattle.go_word.specs.Log.{IsWithin, leaves}
use Rattle.go_word.specs.Neighbours.{neighbours, without_first, after_entry}
use Rattle.go_api.specs.Alone.{positions}
use Rattle.go_api.specs.Calls.{MayPut, ArePut, IsPut, PutsAll, PutsSome, IsPlacedAt, IsFront, IsBusy, TellsMet, CanRead, CountsAt, CanStream}
use Rattle.go_api.specs.Calls.{IsUpdated, last_of}
use Rattle.go_api.specs.Standing.{Standing, Terms, IsSound, ShowsUpTo}
use Rattle.go_api.specs.declared.place.TheConstants.{PLACES}
use Rattle.go_api.specs.declared.place.Place.{Place}
use Rattle.go_api.specs.declared.place.Place.TheVariants.{Free, View, Stream}
use Rattle.go_api.specs.declared.stop.Stop.{Stop}
use Rattle.go_api.proofs.AloneLemmas.{positions_rise, positions_below, length-positions}
use Rattle.go_api.proofs.StandingLemmas.{onward_self, sees_self, read_self}
use Rattle.go_session.specs.Listed.{listed, listed_terms, IsListed}

-- the positions of some, and then of some more
positions-append : (first n m : ℕ) → positions first (n + m) ≡ positions first n ++ positions (first + n) m
positions-append first zero m =
    let e : first ≡ first + 0 = omega arith in
    let z : 0 + m ≡ m = omega arith in
    ap (λ k. positions first k) z ∙ ap (λ k. positions k m) e
positions-append first (suc n) m =
    let e : (first + 1) + n ≡ first + suc n = omega arith in
    let s : suc n + m ≡ suc (n + m) = omega arith in
    ap (λ k. positions first k) s ∙ ap (λ l. first ∷ l) (positions-append (first + 1) n m ∙ ap (λ k. positions (first + 1) n ++ positions k m) e)

last_of-positions : (first n : ℕ) → last_of (positions first (suc n)) ≡ Some (first + n)
last_of-positions first zero = let e : first ≡ first + 0 = omega arith in ap (λ k. Some k) e
last_of-positions first (suc n) = let e : (first + 1) + n ≡ first + suc n = omega arith in last_of-positions (first + 1) n ∙ ap (λ k. Some k) e

-- a list that stands so
listed_sound : (vertices ring : ℕ) (log : List Edge) (quota : ℕ) (places : List Place) → length log < 2 ^ 32 → All (IsWithin vertices) log →
    length places ≡ PLACES → All (ShowsUpTo (length log)) places → IsSound (listed (listed_terms vertices ring) log quota places)
listed_sound vertices ring log quota places short ids count shown = record {
  sees = record { old_seen = omega arith; floor_seen = omega arith; seen_known = omega arith; short = short; ids = ids };
  owns = record {
    rises = positions_rise 0 (length log);
    known = positions_below 0 (length log) (length log) (omega arith);
    put = length-positions 0 (length log);
  };
  count = count;
  shown = shown;
}

-- a place shows no more of a longer log
shows_longer : (short long : ℕ) → short ≤ long → (place : Place) → ShowsUpTo short place → ShowsUpTo long place
shows_longer short long more Free shows = tt
shows_longer short long more (View front) shows = omega (arith, more, shows)
shows_longer short long more (Stream cursor) shows = omega (arith, more, shows)

-- entries more
pub listed_more : (vertices ring : ℕ) (log edges now : List Edge) (quota : ℕ) (places : List Place) → IsListed vertices ring log quota places →
    MayPut edges (listed (listed_terms vertices ring) log quota places) → now ≡ log ++ edges →
    IsListed vertices ring now (quota - length edges) places
listed_more vertices ring log edges now quota places is may grown =
    let more : length now ≡ length log + length edges = ap (λ (l : List Edge). length l) grown ∙ length-append log edges in
    record {
      sound = listed_sound vertices ring now (quota - length edges) places (omega (arith, more, is.room, may.quota))
          (subst (λ (l : List Edge). All (IsWithin vertices) l) (sym grown) (All-append (IsWithin vertices) log edges is.sound.sees.ids may.ids))
          is.sound.count
          (All-weaker (ShowsUpTo (length log)) (ShowsUpTo (length now)) (shows_longer (length log) (length now) (omega (arith, more))) places is.sound.shown);
      room = omega (arith, more, is.room, may.quota);
    }

-- they have the positions behind the others
listed_put : (terms : Terms) (log edges now : List Edge) (quota rest : ℕ) (places : List Place) → now ≡ log ++ edges →
    ArePut edges (positions (length log) (length edges)) (listed terms log quota places) (listed terms now rest places)
listed_put terms log edges now quota rest places grown =
    let more : length now ≡ length log + length edges = ap (λ (l : List Edge). length l) grown ∙ length-append log edges in
    record {
      onward = record {
        same_terms = refl;
        seen_more = ap (λ (l : List Edge). take (length log) l) grown ∙ take-append_seam log edges;
        seen_longer = omega (arith, more);
        floor_later = omega (arith, more);
        known_later = omega (arith, more);
        durable_later = omega (arith, more);
        met_stays = λ met. met;
      };
      owned = ap (positions 0) more ∙ positions-append 0 (length log) (length edges)
          ∙ ap (λ k. positions 0 (length log) ++ positions k (length edges)) (let e : 0 + length log ≡ length log = omega arith in e);
      put = grown;
      so_many = length-positions (length log) (length edges);
      rises = positions_rise (length log) (length edges);
      known = positions_below (length log) (length edges) (length now) (omega (arith, more));
      same_places = refl;
    }

-- one entry
pub listed_put_one : (terms : Terms) (log now : List Edge) (quota position : ℕ) (places : List Place) (e : Edge) → now ≡ log ++ e ∷ [] → 1 ≤ quota →
    position ≡ length log → IsPut e position (listed terms log quota places) (listed terms now (quota - 1) places)
listed_put_one terms log now quota position places e grown some there = record {
  put = subst (λ (p : ℕ). ArePut (e ∷ []) (p ∷ []) (listed terms log quota places) (listed terms now (quota - 1) places)) (sym there)
      (listed_put terms log (e ∷ []) now quota (quota - 1) places grown);
  quota = omega (arith, some);
}

-- all of a list
pub listed_put_all : (terms : Terms) (log edges now : List Edge) (quota last : ℕ) (places : List Place) → now ≡ log ++ edges → length edges ≤ quota →
    0 < length edges → last + 1 ≡ length now →
    PutsAll edges (Some last) (listed terms log quota places) (listed terms now (quota - length edges) places)
listed_put_all terms log [] now quota last places grown may some there = absurd (omega (arith, some))
listed_put_all terms log (e ∷ edges) now quota last places grown may some there =
    let more : length now ≡ length log + length (e ∷ edges) = ap (λ (l : List Edge). length l) grown ∙ length-append log (e ∷ edges) in
    let same : length log + length edges ≡ last = omega (arith, more, there) in
    record {
      positions = positions (length log) (length (e ∷ edges));
      put = listed_put terms log (e ∷ edges) now quota (quota - length (e ∷ edges)) places grown;
      last_is = last_of-positions (length log) (length edges) ∙ ap (λ k. Some k) same;
      quota = omega (arith, may);
    }

-- none of none
pub puts_none : (edges : List Edge) (s : Standing) → length edges ≡ 0 → PutsAll edges None s s
puts_none [] s none = record {
  positions = [];
  put = record {
    onward = onward_self s;
    owned = sym (append-nil s.own);
    put = sym (append-nil s.edges);
    so_many = refl;
    rises = tt;
    known = All-from_recursion (λ p. p < s.log.known) [] tt;
    same_places = refl;
  };
  last_is = refl;
  quota = omega arith;
}
puts_none (e ∷ edges) s none = absurd (omega (arith, none))

-- a store that stopped before the first of some
pub puts_no_more : (edges : List Edge) (why : Stop) (s : Standing) → 0 < length edges → TellsMet why s → PutsSome edges why s s
puts_no_more edges why s some met = record {
  count = 0;
  fewer = some;
  positions = [];
  put = record {
    onward = onward_self s;
    owned = sym (append-nil s.own);
    put = sym (append-nil s.edges);
    so_many = refl;
    rises = tt;
    known = All-from_recursion (λ p. p < s.log.known) [] tt;
    same_places = refl;
  };
  no_more = omega arith;
  own_alone = omega arith;
  met = met;
}

-- something else at a place
pub listed_place : (vertices ring : ℕ) (log : List Edge) (quota : ℕ) (places : List Place) (k : ℕ) (held : Place) → IsListed vertices ring log quota places →
    ShowsUpTo (length log) held → IsListed vertices ring log quota (slice_set places k held)
listed_place vertices ring log quota places k held is shows = record {
  sound = listed_sound vertices ring log quota (slice_set places k held) is.sound.sees.short is.sound.sees.ids (length-set places k held ∙ is.sound.count)
      (All-set (ShowsUpTo (length log)) places k held shows is.sound.shown);
  room = is.room;
}

pub listed_placed : (terms : Terms) (log : List Edge) (quota : ℕ) (places : List Place) (k : ℕ) (held : Place) →
    IsPlacedAt k held (listed terms log quota places) (listed terms log quota (slice_set places k held))
listed_placed terms log quota places k held = record {
  onward = record {
    same_terms = refl;
    seen_more = (onward_self (listed terms log quota places)).seen_more;
    seen_longer = omega arith;
    floor_later = omega arith;
    known_later = omega arith;
    durable_later = omega arith;
    met_stays = λ met. met;
  };
  puts = record { same_own = refl; same_edges = refl; same_quota = refl };
  placed = refl;
}

-- the log's length may be shown
pub listed_front : (terms : Terms) (log : List Edge) (quota : ℕ) (places now : List Place) (front : ℕ) → front ≡ length log →
    IsFront front (listed terms log quota places) (listed terms log quota now)
listed_front terms log quota places now front all = record {
  not_older = omega (arith, all);
  above_own = positions_below 0 (length log) front (omega (arith, all));
  is_end = omega (arith, all);
  floor = omega (arith, all);
}

-- the ring is full
pub listed_busy : (vertices ring : ℕ) (log : List Edge) (quota : ℕ) (places : List Place) (head : ℕ) → head ≡ length log → ring ≤ head →
    IsBusy head 0 (listed (listed_terms vertices ring) log quota places) (listed (listed_terms vertices ring) log quota places)
listed_busy vertices ring log quota places head all full = record {
  sees = sees_self (listed (listed_terms vertices ring) log quota places);
  full = omega (arith, full);
  old_released = omega arith;
  above_own = positions_below 0 (length log) head (omega (arith, all));
  known = omega (arith, all);
}

-- a vertex has no more neighbours than there are entries
without_first_shorter : (d : ℕ) (list : List ℕ) → length (without_first d list) ≤ length list
without_first_shorter d [] = omega arith
without_first_shorter d (x ∷ list) =
    elim (x == d) as (λ b. length (if b then list else x ∷ without_first d list) ≤ length (x ∷ list)) [
      | true ↦ omega arith
      | false ↦ let rest = without_first_shorter d list in omega (arith, rest)
    ]

after_entry_longer : (v : ℕ) (list : List ℕ) (e : Edge) → length (after_entry v list e) ≤ length list + 1
after_entry_longer v list e =
    elim (leaves v e) as (λ b. length (if b then (if e.del then without_first e.dst list else list ++ e.dst ∷ []) else list) ≤ length list + 1) [
      | true ↦ elim e.del as (λ d. length (if d then without_first e.dst list else list ++ e.dst ∷ []) ≤ length list + 1) [
        | true ↦ let less = without_first_shorter e.dst list in omega (arith, less)
        | false ↦ let more = length-append list (e.dst ∷ []) in omega (arith, more)
      ]
      | false ↦ omega arith
    ]

folded_longer : (v : ℕ) (list : List ℕ) (log : List Edge) → length (fold (after_entry v) list log) ≤ length list + length log
folded_longer v list [] = omega arith
folded_longer v list (e ∷ log) =
    let one = after_entry_longer v list e in
    let rest = folded_longer v (after_entry v list e) log in
    omega (arith, one, rest)

pub neighbours_few : (log : List Edge) (v front : ℕ) → length (neighbours (take front log) v) ≤ length log
neighbours_few log v front =
    let most = folded_longer v [] (take front log) in
    let taken = length-take front log in
    let least = min-le_right front (length log) in
    omega (arith, most, taken, least)

-- what a view of the list counts
pub listed_counts : (terms : Terms) (log : List Edge) (quota : ℕ) (places : List Place) (place vertex front degree : ℕ) →
    CanRead place vertex (listed terms log quota places) → get_or places place Free ≡ View front →
    degree ≡ length (neighbours (take front log) vertex) →
    CountsAt place vertex (Ok degree) (listed terms log quota places) (listed terms log quota places)
listed_counts terms log quota places place vertex front degree can there is =
    let same : View can.front ≡ View front = sym (get_or_from_slice_get places place (View can.front) Free can.held) ∙ there in
    let fronts : can.front ≡ front = cc in (
      read_self (listed terms log quota places),
      λ list listed_so. is ∙ ap (λ (n : ℕ). length (neighbours (take n log) vertex)) (sym fronts)
          ∙ ap (λ (l : List ℕ). length l) (sym (listed_so can.front can.held)),
    )

-- what comes of a stream of the list
pub listed_updated : (vertices ring : ℕ) (log : List Edge) (quota : ℕ) (places : List Place) (place most from to : ℕ) (list : List Edge) →
    IsListed vertices ring log quota places → CanStream place most (listed (listed_terms vertices ring) log quota places) →
    get_or places place Free ≡ Stream from → to ≡ min (from + most) (length log) → list ≡ take (to - from) (drop from log) →
    IsUpdated place most list (record { from = from; to = to }) (listed (listed_terms vertices ring) log quota places)
    (listed (listed_terms vertices ring) log quota (slice_set places place (Stream to)))
listed_updated vertices ring log quota places place most from to list is can there ends given =
    let within = slice_get_within places place (Stream can.cursor) can.held in
    let shown = All-get_or (ShowsUpTo (length log)) places place Free within is.sound.shown in
    let so_far : from ≤ length log = subst (λ (p : Place). ShowsUpTo (length log) p) there shown in
    let up : from + (to - from) ≡ to = omega (arith, so_far, ends) in
    let same : list ≡ drop from (take to log) =
    given ∙ sym (drop-take from (to - from) log) ∙ ap (λ (n : ℕ). drop from (take n log)) up in
    let taken = length-take to log in
    let dropped = length-drop from (take to log) in
    let so_many : length list ≡ length (drop from (take to log)) = ap (λ (l : List Edge). length l) same in
    record {
      front = length log;
      from_cursor = slice_get-get_or places place Free within ∙ ap (λ (p : Place). Some p) there;
      front_is = listed_front (listed_terms vertices ring) log quota places (slice_set places place (Stream to)) (length log) refl;
      ends = ends;
      holds = listed_placed (listed_terms vertices ring) log quota places place (Stream to);
      so_many = omega (arith, so_far, taken, dropped, so_many, ends);
      shown = λ told. same;
    }

-- a list that isn't empty
pub some_there : (n : ℕ) → false ≡ (n == 0) → 0 < n
some_there zero not = absurd (let h : false ≡ true = not in cc)
some_there (suc n) not = omega arith
