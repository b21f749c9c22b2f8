-- The next command suits the store of a session that can go on.
use Rattle.std.proofs.Common.{◌≡◌, ℕ, zero, suc, ◌+◌, ◌<◌, true, false, List, [], ◌∷◌, ◌++◌, length, take, drop, slice_get, Some, None, refl, sym, ap, subst}
use Rattle.std.proofs.Common.{◌∙◌, arith, length-append}
use Rattle.std.specs.Prelude.{All}
use Rattle.std.proofs.Math.Seq.{take-append_seam, drop-append_seam}
use Rattle.std.proofs.lemmas.List.Elements.{All-take, All-drop}
use Rattle.go_word.specs.declared.edge.Edge.{Edge}
use Rattle.go_word.specs.Log.{IsWithin as IsEntryWithin}
use Rattle.go_api.specs.Calls.{MayPut, Holds, CanRead}
use Rattle.go_api.specs.Standing.{Standing}
use Rattle.go_api.specs.declared.place.TheConstants.{PLACES}
use Rattle.go_api.specs.declared.place.Place.{Place}
use Rattle.go_api.specs.declared.place.Place.TheVariants as held
use Rattle.go_script.specs.Commands.{put_by}
use Rattle.go_script.specs.Places.{Fits, NamesBelow, is_free, has_kind, kind_at}
use Rattle.go_script.specs.Until.{loads_in}
use Rattle.go_script.specs.declared.command.Command.{Command}
use Rattle.go_script.specs.declared.command.Command.TheVariants as asks
use Rattle.go_script.specs.declared.usage.Kind.TheVariants as kinds
use Rattle.go_session.specs.Answers.{Suits, entries_by}
use Rattle.go_session.specs.Asked.{Asked, may_put, entries_given, lists_of}
use Rattle.go_session.specs.Searches.{IsViewAt}
use Rattle.go_session.specs.Session.{SessionState, CanGoOn, IsAt, asked_in, asked_left, walk_of, kind_of}
use Rattle.go_session.proofs.AskedLemmas.{asked_at}
use Rattle.go_session.proofs.LeadLemmas.{IsWalkedTo}
use Rattle.go_session.proofs.ListLemmas.{drop_next}
use Rattle.go_session.proofs.WalkLemmas.{walked_first}

-- the walk over the replies has come where the store is
pub walked_to : (loads : List (List Edge)) (session : SessionState) (s : Standing) → IsAt loads session s → IsWalkedTo (walk_of s session) s
walked_to loads session s at = record {
  sound = at.allowed.sound;
  first = walked_first s.terms.first session.replies;
  used = at.used;
  seen = at.allowed.seen;
  low = at.allowed.low;
  places = at.places.places;
}

-- the next command, with what it puts
pub next_asked : (loads : List (List Edge)) (session : SessionState) (command : Command) (given : List Edge) →
    slice_get session.commands (length session.replies) ≡ Some command →
    entries_by command given
    ≡ entries_given (put_by command) (drop (loads_in (take (length session.replies) session.commands)) (lists_of loads session.lists)) →
    slice_get (asked_in loads session) (length session.replies) ≡ Some (record { command = command; entries = entries_by command given })
next_asked loads session command given next same =
    asked_at session.commands (lists_of loads session.lists) (length session.replies) command next
    ∙ ap (λ (l : List Edge). Some (record { command = command; entries = l })) (sym same)

-- what is left is the next command, and what comes after it
pub left_next : (loads : List (List Edge)) (session : SessionState) (a : Asked) → slice_get (asked_in loads session) (length session.replies) ≡ Some a →
    asked_left loads session ≡ a ∷ drop (length session.replies + 1) (asked_in loads session)
left_next loads session a next = drop_next (asked_in loads session) (length session.replies) a next

-- what holds of all that may be put holds of what one command puts
all_put : (P : Edge → Type 0) → (asked : List Asked) (k : ℕ) (a : Asked) → All P (may_put asked) → slice_get asked k ≡ Some a → All P a.entries
all_put P [] k a all here = absurd (let h : None ≡ Some a = here in cc)
all_put P (b ∷ asked) zero a all here =
    let same : b ≡ a = (let h : Some b ≡ Some a = here in cc) in
    subst (λ (x : Asked). All P x.entries) same
    (subst (λ (l : List Edge). All P l) (take-append_seam b.entries (may_put asked)) (All-take P (length b.entries) (b.entries ++ may_put asked) all))
all_put P (b ∷ asked) (suc k) a all here =
    all_put P asked k a
    (subst (λ (l : List Edge). All P l) (drop-append_seam b.entries (may_put asked)) (All-drop P (length b.entries) (b.entries ++ may_put asked) all)) here

-- the entries of the next command may be put
next_may_put : (loads : List (List Edge)) (session : SessionState) (s : Standing) (a : Asked) → CanGoOn loads session s →
    slice_get (asked_in loads session) (length session.replies) ≡ Some a → MayPut a.entries s
next_may_put loads session s a can next =
    let rest = drop (length session.replies + 1) (asked_in loads session) in
    let split : length (may_put (asked_left loads session)) ≡ length a.entries + length (may_put rest) =
    ap (λ (l : List Asked). length (may_put l)) (left_next loads session a next) ∙ length-append a.entries (may_put rest) in
    record {
      quota = omega (arith, can.quota, split);
      ids = all_put (IsEntryWithin s.terms.vertices) (asked_in loads session) (length session.replies) a can.at.allowed.follows.entries next;
    }

-- what stands at a place, by its kind
free_place : (p : Place) → is_free (kind_of p) ≡ true → p ≡ held.Free
free_place held.Free free = refl
free_place (held.View front) free = absurd (let h : false ≡ true = free in cc)
free_place (held.Stream cursor) free = absurd (let h : false ≡ true = free in cc)

view_place : (p : Place) → has_kind kinds.View (kind_of p) ≡ true → (front : ℕ) × (p ≡ held.View front)
view_place held.Free has = absurd (let h : false ≡ true = has in cc)
view_place (held.View front) has = (front, refl)
view_place (held.Stream cursor) has = absurd (let h : false ≡ true = has in cc)

stream_place : (p : Place) → has_kind kinds.Stream (kind_of p) ≡ true → (cursor : ℕ) × (p ≡ held.Stream cursor)
stream_place held.Free has = absurd (let h : false ≡ true = has in cc)
stream_place (held.View front) has = absurd (let h : false ≡ true = has in cc)
stream_place (held.Stream cursor) has = (cursor, refl)

-- the same of the places of a store
holds_free : (loads : List (List Edge)) (session : SessionState) (s : Standing) (place : ℕ) → IsAt loads session s → place < PLACES →
    is_free (kind_at place (take (length session.replies) session.commands)) ≡ true → Holds place held.Free s
holds_free loads session s place at below free =
    let p = (walk_of s session).place_at place in
    at.places.places place below
    ∙ ap (λ (q : Place). Some q) (free_place p (sym (ap is_free (at.places.kinds place below)) ∙ free))

holds_view : (loads : List (List Edge)) (session : SessionState) (s : Standing) (place : ℕ) → IsAt loads session s → place < PLACES →
    has_kind kinds.View (kind_at place (take (length session.replies) session.commands)) ≡ true → (front : ℕ) × Holds place (held.View front) s
holds_view loads session s place at below has =
    let view = view_place ((walk_of s session).place_at place) (sym (ap (has_kind kinds.View) (at.places.kinds place below)) ∙ has) in
    (view.0, at.places.places place below ∙ ap (λ (q : Place). Some q) view.1)

holds_stream : (loads : List (List Edge)) (session : SessionState) (s : Standing) (place : ℕ) → IsAt loads session s → place < PLACES →
    has_kind kinds.Stream (kind_at place (take (length session.replies) session.commands)) ≡ true → (cursor : ℕ) × Holds place (held.Stream cursor) s
holds_stream loads session s place at below has =
    let stream = stream_place ((walk_of s session).place_at place) (sym (ap (has_kind kinds.Stream) (at.places.kinds place below)) ∙ has) in
    (stream.0, at.places.places place below ∙ ap (λ (q : Place). Some q) stream.1)

-- a view that can be read, and one that can be searched
read_of : (place vertex : ℕ) (s : Standing) → (front : ℕ) × Holds place (held.View front) s → vertex < s.terms.vertices → CanRead place vertex s
read_of place vertex s view there = record { front = view.0; held = view.1; there = there }

search_of : (loads : List (List Edge)) (session : SessionState) (place : ℕ) (s : Standing) → CanGoOn loads session s →
    (front : ℕ) × Holds place (held.View front) s → IsViewAt place s
search_of loads session place s can view = record { sound = can.at.allowed.sound; front = view.0; held = view.1 }

-- what the next command needs is there
needs : (loads : List (List Edge)) (session : SessionState) (s : Standing) (command : Command) (given : List Edge) → CanGoOn loads session s →
    Fits (take (length session.replies) session.commands) command → NamesBelow s.terms.vertices command → MayPut (entries_by command given) s →
    Suits command given s
needs loads session s (asks.Add src dst) given can fits below may = may
needs loads session s (asks.Del src dst) given can fits below may = may
needs loads session s (asks.Offer src dst) given can fits below may = may
needs loads session s (asks.Load name) given can fits below may = may
needs loads session s (asks.View place) given can fits below may = holds_free loads session s place can.at fits.names fits.finds
needs loads session s (asks.Drop place) given can fits below may = holds_view loads session s place can.at fits.names fits.finds
needs loads session s (asks.Degree place vertex) given can fits below may =
    read_of place vertex s (holds_view loads session s place can.at fits.names fits.finds) below.0
needs loads session s (asks.Neigh place vertex) given can fits below may =
    read_of place vertex s (holds_view loads session s place can.at fits.names fits.finds) below.0
needs loads session s (asks.Hop place vertex) given can fits below may =
    (search_of loads session place s can (holds_view loads session s place can.at fits.names fits.finds), below.0)
needs loads session s (asks.Level place root vertex) given can fits below may =
    (search_of loads session place s can (holds_view loads session s place can.at fits.names fits.finds), below.0, below.1.0)
needs loads session s (asks.Bfs place root) given can fits below may =
    (search_of loads session place s can (holds_view loads session s place can.at fits.names fits.finds), below.0)
needs loads session s (asks.Rank place count) given can fits below may =
    search_of loads session place s can (holds_view loads session s place can.at fits.names fits.finds)
needs loads session s (asks.Stream place) given can fits below may = holds_free loads session s place can.at fits.names fits.finds
needs loads session s (asks.Close place) given can fits below may = holds_stream loads session s place can.at fits.names fits.finds
needs loads session s (asks.Update place most) given can fits below may =
    let stream = holds_stream loads session s place can.at fits.names fits.finds in
    record { cursor = stream.0; held = stream.1; some = fits.ranges.0 }
needs loads session s (asks.Until asked) given can fits below may = fits.ranges
needs loads session s asks.Sync given can fits below may = tt
needs loads session s asks.Compact given can fits below may = tt

-- so it suits the store
pub next_suits : (loads : List (List Edge)) (session : SessionState) (s : Standing) (command : Command) (given : List Edge) → CanGoOn loads session s →
    slice_get session.commands (length session.replies) ≡ Some command →
    slice_get (asked_in loads session) (length session.replies) ≡ Some (record { command = command; entries = entries_by command given }) →
    Suits command given s
next_suits loads session s command given can next asked =
    needs loads session s command given can
    (can.at.allowed.follows.script.each (length session.replies) command next)
    (can.at.allowed.follows.below.each (length session.replies) command next)
    (next_may_put loads session s (record { command = command; entries = entries_by command given }) can asked)
