-- What a shard that was taken tells a view of a vertex, and how many entries a view has of one.
use Rattle.std.proofs.Common.{◌≡◌, ℕ, ◌+◌, ◌-◌, ◌%◌, ◌<◌, ◌≤◌, List, ◌++◌, length, map, take, drop, sym, ap, ◌∙◌, arith, subst}
use Rattle.std.specs.Prelude.{All, Contains, OnOk, Result, Ok, Err}
use Rattle.std.proofs.lemmas.Nat.{mod_below}
use Rattle.std.proofs.lemmas.List.{length-map, take-append-drop, take-take}
use Rattle.std.proofs.lemmas.List.Elements.{All-contains, All-drop, All-take, All-weaker}
use Rattle.go_word.specs.declared.edge.Edge.{Edge}
use Rattle.go_word.specs.declared.pin.Pin.{Pin}
use Rattle.go_word.specs.Log.{IsWithin, entries_from, raw}
use Rattle.go_word.specs.Neighbours.{neighbours}
use Rattle.go_word.specs.Word.{plain_word}
use Rattle.go_core.specs.Frame.{Frame}
use Rattle.go_core.specs.Parts.{IsShardPlace}
use Rattle.go_disk.specs.Device.{Device}
use Rattle.go_shard.specs.ByVertex.{words_of}
use Rattle.go_shard.specs.ShardState.{ShardState}
use Rattle.go_shard.specs.Stands.{Stands}
use Rattle.go_shard.proofs.EntriesLemmas.{raw-length, raw-append}
use Rattle.go_rule.specs.declared.view.SeatView.{SeatView}
use Rattle.go_rule.specs.Rule.{IsBelow, pins_at}
use Rattle.go_rule.specs.Turns.{IsTaken}
use Rattle.go_piece.specs.declared.piece.Piece.{Piece}
use Rattle.go_piece.specs.declared.piece.Piece.TheVariants.{Shard, Log, Spent}
use Rattle.go_piece.specs.Pieces.{OnShard}
use Rattle.go_piece.specs.Meanings.{meaning_of}
use Rattle.go_piece.proofs.Stretches.{seen_begins}
use Rattle.go_views.specs.Pins.{pin_of}
use Rattle.go_views.specs.Reading.{HasPinned, IsListOf, Lists}
use Rattle.go_views.specs.Views.{View, degree_of, Shows, IsView}

-- the entries of a view up to the archived front, and those behind it, are all that it has
both_parts : (archived front : ℕ) (log : List Edge) → archived ≤ front → take archived log ++ drop archived (take front log) ≡ take front log
both_parts archived front log order =
    ap (λ l. l ++ drop archived (take front log)) (sym (take-take archived front log order)) ∙ take-append-drop archived (take front log)

-- a view has of a vertex as many entries as leave it in so much of the log
pub degree_is : (vertices v : ℕ) (log : List Edge) (view : View) → Shows vertices log view → v < vertices → degree_of view v ≡ raw (take view.front log) v
degree_is vertices v log view shows below =
    let first = take view.archived log in
    let behind = drop view.archived (take view.front log) in
    let counted = shows.counts v below in
    let words : length (words_of view.later v) ≡ raw behind v =
    ap length (shows.later v below) ∙ length-map (entries_from v behind) plain_word ∙ sym (raw-length v behind)
    in
    let sum = raw-append v first behind in
    let whole : raw (first ++ behind) v ≡ raw (take view.front log) v = ap (λ l. raw l v) (both_parts view.archived view.front log shows.archived) in
    omega arith

-- what was listed where there was memory
pub lists : {A E : Type 0} (v : ℕ) (pin : Pin) (later list : List ℕ) (shard : ShardState) (result : Result A E) → pin.front ≤ shard.front
    → ((log more : List Edge) → Stands shard log → All (IsWithin shard.vertices) more → later ≡ map plain_word (entries_from v more)
    → OnOk result (list ≡ neighbours (take pin.front log ++ more) v))
    → Lists v pin later result list shard
lists v pin later list shard (Ok done) within all = record { within = within; list_is = all }
lists v pin later list shard (Err why) within all = tt

module _ {D : Type 0} (device : Device D) (f : Frame) (d : SeatView (Piece D)) (shards place v : ℕ) (view : View) (here : IsShardPlace f place)
    (base : d.about.shards + 5 ≡ f.base) (many : f.base ≡ shards + 5) (turn : v % shards ≡ place) (below : v < d.about.vertices)
    (is : IsView shards view d) where
  -- the shard that a seat took is the one of the vertex, and has the view's pin
  pub can_list : (piece : Piece D) → IsTaken (meaning_of device) f d place piece → OnShard (HasPinned v (pin_of view.names view.archived place)) piece
  can_list (Shard shard) taken =
      let whose = taken.fits.1 in
      let vertices = whose.vertices_are in
      let same : d.about.shards ≡ shards = omega arith in
      record {
        own =
            record { within = omega arith; turn = ap (λ n. v % n) (whose.shards_are ∙ same) ∙ turn ∙ sym whose.index_is };
        pinned =
            All-contains (Contains shard.pins) (pins_at place d) (pin_of view.names view.archived place) (taken.shard here).pins (is.pinned place (omega arith));
      }
  can_list (Log kept) taken = let at = taken.fits.0 in absurd (omega arith)
  can_list (Spent disk front) taken = let at = taken.fits.0 in absurd (omega arith)

  -- what it tells at that pin, and the later words behind it, make the neighbours after the view's entries
  lists_log : (shard : ShardState) (list : List ℕ) → IsTaken (meaning_of device) f d place (Shard shard)
      → IsListOf v (pin_of view.names view.archived place) (words_of view.later v) list shard → list ≡ neighbours (take view.front d.told.seen) v
  lists_log shard list taken listed =
      let seen = d.told.seen in
      let log = taken.log in
      let over = taken.over in
      let shows = is.shows in
      let archived = view.archived in
      let behind = drop archived (take view.front seen) in
      let vertices = taken.fits.1.vertices_are in
      let within = shows.within in
      let order = shows.archived in
      let reached = listed.within in
      let all : All (IsWithin shard.vertices) behind =
      All-drop (IsWithin shard.vertices) archived (take view.front seen)
      (All-take (IsWithin shard.vertices) view.front seen
      (subst (All (IsWithin shard.vertices)) (sym over.seen)
      (All-take (IsWithin shard.vertices) (length seen) log
      (All-weaker (IsBelow d.about.vertices) (IsWithin shard.vertices)
      (λ e one. let src = one.src in let dst = one.dst in record { source = omega arith; destination = omega arith }) log over.below))))
      in
      let first : take archived (take shard.front log) ≡ take archived seen =
      take-take archived shard.front log reached ∙ sym (seen_begins archived log seen over.seen (omega arith))
      in
      listed.list_is (take shard.front log) behind over.stands all (shows.later v below)
      ∙ ap (λ l. neighbours (l ++ behind) v) first
      ∙ ap (λ l. neighbours l v) (both_parts archived view.front seen order)

  pub lists_view : {A E : Type 0} (piece : Piece D) (result : Result A E) (list : List ℕ) → IsTaken (meaning_of device) f d place piece
      → OnShard (Lists v (pin_of view.names view.archived place) (words_of view.later v) result list) piece
      → OnOk result (list ≡ neighbours (take view.front d.told.seen) v)
  lists_view (Shard shard) (Ok done) list taken listed = lists_log shard list taken listed
  lists_view (Shard shard) (Err why) list taken listed = tt
  lists_view (Log kept) result list taken listed = absurd listed
  lists_view (Spent disk front) result list taken listed = absurd listed

-- the shard of a vertex is one of those of a view, by how many pins that has
pub is_turn : (v count shards : ℕ) (view : View) → 0 < count → length view.names ≡ count → length view.names ≡ shards
    → (v % count < shards) × (v % shards ≡ v % count) × (v % count < length view.names)
is_turn v count shards view some many same =
    let low = mod_below v count some in
    let equal : count ≡ shards = sym many ∙ same in
    (omega arith, ap (λ n. v % n) (sym equal), omega arith)
