-- For the caller that opens a ring: over what pieces it may be opened.
use Rattle.std.proofs.Common.{◌≡◌, ◌⊎◌, ℕ, zero, suc, ◌+◌, ◌<◌, List, [], ◌∷◌, ◌++◌, map, length, get_or, take, refl, sym, ap, ◌∙◌, inl, inr}
use Rattle.std.proofs.Common.{⊎_elim, arith, subst}
use Rattle.std.proofs.Common.{length-append, append_assoc, append-nil}
use Rattle.std.specs.Prelude.{Option as Maybe, Some, slice_get}
use Rattle.std.proofs.lemmas.Option.{same_Some, none-some}
use Rattle.std.proofs.lemmas.List.{length-map, map-append, take_all}
use Rattle.go_disk.specs.Device.{Device, IsDevice}
use Rattle.go_durable.specs.declared.journal.Journal.TheVariants as journals
use Rattle.go_durable.specs.Journal.{Keeps}
use Rattle.go_durable.specs.LogState.{LogState}
use Rattle.go_durable.specs.Standing.{IsLog}
use Rattle.go_shard.specs.Parts.{HasPart}
use Rattle.go_shard.specs.ShardState.{ShardState}
use Rattle.go_rule.specs.declared.layout.Key.{Key}
use Rattle.go_rule.specs.Opening.{IsFirst, IsFirstShard, IsFirstFile, CanOpen}
use Rattle.go_rule.specs.Views.{opened_of}
use Rattle.go_piece.specs.declared.piece.Piece.{Piece}
use Rattle.go_piece.specs.declared.piece.Piece.TheVariants.{Shard, Log}
use Rattle.go_piece.specs.Laying.{laid_out, HaveOpened}
use Rattle.go_piece.specs.Meanings.{meaning_of}
use Rattle.go_piece.proofs.FileCalls.{keeps_now}

-- a shard lies in the place of its index
record IsShardAt {D : Type 0} (shards : List ShardState) (place : ℕ) (piece : Piece D) : Type 0 where
  pub shard : ShardState
  pub within : place < length shards
  pub is : piece ≡ Shard shard
  pub there : get_or shards place shard ≡ shard

-- in a place lies the shard of that index, or behind them the file
laid_at : {D : Type 0} (shards : List ShardState) (file : Piece D) (place : ℕ) (piece : Piece D) → slice_get (laid_out shards file) place ≡ Some piece
    → IsShardAt shards place piece ⊎ ((place ≡ length shards) × (piece ≡ file))
laid_at [] file zero piece there = inr (refl, sym (same_Some file piece there))
laid_at [] file (suc place) piece there = absurd (none-some piece there)
laid_at (s ∷ shards) file zero piece there = inl (record { shard = s; within = omega arith; is = sym (same_Some (Shard s) piece there); there = refl })
laid_at (s ∷ shards) file (suc place) piece there =
    ⊎_elim
    (λ one. inl (record { shard = one.shard; within = let less = one.within in omega arith; is = one.is; there = one.there }))
    (λ other. inr (ap suc other.0, other.1)) (laid_at shards file place piece there)

-- one shard more is laid out
pub laid_next : {D : Type 0} (items : List (Maybe (Piece D))) (shard : ShardState) (rest : List ShardState) (all : List (Maybe (Piece D)))
    → items ++ map Some (map Shard (shard ∷ rest)) ≡ all → (items ++ Some (Shard shard) ∷ []) ++ map Some (map Shard rest) ≡ all
laid_next items shard rest all is = append_assoc items (Some (Shard shard) ∷ []) (map Some (map Shard rest)) ∙ is

-- all shards are, and then the file
pub laid_last : {D : Type 0} (items : List (Maybe (Piece D))) (shards : List ShardState) (file : Piece D) → items ++ [] ≡ map Some (map Shard shards)
    → items ++ Some file ∷ [] ≡ map Some (laid_out shards file)
laid_last items shards file is =
    ap (λ l. l ++ Some file ∷ []) (sym (append-nil items) ∙ is) ∙ sym (map-append Some (map Shard shards) (file ∷ []))

module _ {D : Type 0} (device : Device D) (rules : IsDevice device) (key : Key (Piece D)) (shards : List ShardState) (kept : LogState D)
    (has : HaveOpened device key shards kept) where
  at_first : kept.front ≡ key.first
  at_first = has.stands.so_many ∙ has.room.long

  -- the file has kept the entries that were there
  keeps_opened : Keeps device key.layout.vertices key.first (opened_of key) kept.disk (journals.Sound kept)
  keeps_opened =
      let whole : take kept.front (opened_of key) ≡ opened_of key =
      ap (λ n. take n (opened_of key)) has.stands.so_many ∙ take_all (length (opened_of key)) (opened_of key) (omega arith)
      in
      subst (λ v. Keeps device v key.first (opened_of key) kept.disk (journals.Sound kept)) has.vertices
      (keeps_now device rules key.first (opened_of key) kept (subst (IsLog device kept) (sym whole) has.stands) (omega (arith, at_first)))

  -- a shard at its place
  shard_at : (place : ℕ) (shard : ShardState) → place < length shards → get_or shards place shard ≡ shard
      → IsFirst (meaning_of device) key place (Shard shard) × IsFirstShard (meaning_of device) key (Shard shard)
  shard_at place shard within there =
      let less : place < key.layout.shards = let count = has.parts.count in omega arith in
      let part = subst (HasPart key.layout.vertices key.layout.shards place key.first [] (opened_of key)) there (has.parts.each place shard less) in
      let long = has.room.long in
      let begun = part.begun in
      let most = part.within in (
        record { fits = (less, part.whose); front = omega arith; stands = part.stands },
        record { cut = part.cut; pins = part.pins; keeps = part.keeps },
      )

  file_first : IsFirst (meaning_of device) key key.layout.shards (Log kept)
  file_first = record {
    fits = (refl, has.vertices);
    front = at_first;
    stands = record { vertices = key.layout.vertices; opened = kept.disk; keeps = keeps_opened };
  }

  file_recovers : IsFirstFile (meaning_of device) key (Log kept)
  file_recovers = record {
    same = has.file;
    whole = λ failed. failed;
    recovers = record { opened = kept.disk; at = refl; keeps = keeps_opened };
  }

  -- a ring may be opened over these pieces
  pub can_open : CanOpen (meaning_of device) key (map Some (laid_out shards (Log kept)))
  can_open =
      let count = has.parts.count in
      record {
        room = has.room;
        parts = laid_out shards (Log kept);
        all = refl;
        count = length-append (map Shard shards) (Log kept ∷ []) ∙ ap (λ n. n + 1) (length-map shards Shard ∙ count);
        first = λ place piece there.
            ⊎_elim
            (λ one. subst (IsFirst (meaning_of device) key place) (sym one.is) (shard_at place one.shard one.within one.there).0)
            (λ other. subst (λ q. IsFirst (meaning_of device) key q piece) (sym (other.0 ∙ count))
            (subst (IsFirst (meaning_of device) key key.layout.shards) (sym other.1) file_first))
            (laid_at shards (Log kept) place piece there);
        shards = λ place piece there is.
            ⊎_elim
            (λ one. subst (IsFirstShard (meaning_of device) key) (sym one.is) (shard_at place one.shard one.within one.there).1)
            (λ other. let at = other.0 in absurd (omega arith))
            (laid_at shards (Log kept) place piece there);
        file = λ place piece there is.
            ⊎_elim
            (λ one. let within = one.within in absurd (omega arith))
            (λ other. subst (IsFirstFile (meaning_of device) key) (sym other.1) file_recovers)
            (laid_at shards (Log kept) place piece there);
      }
