-- Parts that go into slots and out of them, from the end of their vector.
use Rattle.std.proofs.Common.{◌≡◌, ℕ, zero, suc, ◌<◌, slice_index_or, slice_get, List, [], ◌∷◌, ◌++◌, map, reverse, sym, refl, ap, ◌∙◌, Some, length, arith}
use Rattle.std.specs.Prelude.{flat_map, option_to_list, Option as Maybe}
use Rattle.std.proofs.lemmas.List.{append_assoc, append-nil, reverse-append, reverse-reverse}

module _ {A : Type 0} where
  -- the last of a list is the first of the reversed one
  reverse_push : (xs : List A) (x : A) → reverse (xs ++ x ∷ []) ≡ x ∷ reverse xs
  reverse_push xs x = reverse-append xs (x ∷ [])

  -- at first nothing is moved
  pub moves_first : (slots : List (Maybe A)) (turned xs : List A) → slots ≡ [] → turned ≡ reverse xs → slots ++ map Some (reverse turned) ≡ map Some xs
  moves_first slots turned xs none is =
      ap (λ zs. zs ++ map Some (reverse turned)) none ∙ ap (λ zs. map Some (reverse zs)) is ∙ ap (map Some) (reverse-reverse xs)

  -- one part is moved
  pub moves_next : (slots more : List (Maybe A)) (parts left : List A) (x : A) (all : List (Maybe A)) → slots ++ map Some (reverse parts) ≡ all
      → parts ≡ left ++ x ∷ [] → more ≡ slots ++ Some x ∷ [] → more ++ map Some (reverse left) ≡ all
  moves_next slots more parts left x all so_far is put =
      ap (λ zs. zs ++ map Some (reverse left)) put ∙ append_assoc slots (Some x ∷ []) (map Some (reverse left))
      ∙ ap (λ zs. slots ++ map Some zs) (sym (reverse_push left x)) ∙ ap (λ zs. slots ++ map Some (reverse zs)) (sym is) ∙ so_far

  -- at last all are
  pub moves_last : (slots all : List (Maybe A)) (parts left : List A) → slots ++ map Some (reverse parts) ≡ all → parts ≡ left ++ [] → left ≡ [] → slots ≡ all
  moves_last slots all parts left so_far is none =
      sym (append-nil slots) ∙ ap (λ zs. slots ++ map Some (reverse zs)) (sym (is ∙ ap (λ zs. zs ++ []) none)) ∙ so_far

  -- the same of slots whose parts are taken out
  pub takes_first : (parts : List A) (turned slots : List (Maybe A)) → parts ≡ [] → turned ≡ reverse slots
      → parts ++ flat_map option_to_list (reverse turned) ≡ flat_map option_to_list slots
  takes_first parts turned slots none is =
      ap (λ zs. zs ++ flat_map option_to_list (reverse turned)) none ∙ ap (λ zs. flat_map option_to_list (reverse zs)) is
      ∙ ap (flat_map option_to_list) (reverse-reverse slots)

  pub takes_next : (parts more all : List A) (slots left : List (Maybe A)) (slot : Maybe A) → parts ++ flat_map option_to_list (reverse slots) ≡ all
      → slots ≡ left ++ slot ∷ [] → more ≡ parts ++ option_to_list slot → more ++ flat_map option_to_list (reverse left) ≡ all
  takes_next parts more all slots left slot so_far is put =
      ap (λ zs. zs ++ flat_map option_to_list (reverse left)) put ∙ append_assoc parts (option_to_list slot) (flat_map option_to_list (reverse left))
      ∙ ap (λ zs. parts ++ zs) (one slot) ∙ ap (λ zs. parts ++ flat_map option_to_list (reverse zs)) (sym is) ∙ so_far
    where
      one : (s : Maybe A) → option_to_list s ++ flat_map option_to_list (reverse left) ≡ flat_map option_to_list (reverse (left ++ s ∷ []))
      one s = ap (flat_map option_to_list) (sym (turn left s))
        where
          turn : (xs : List (Maybe A)) (x : Maybe A) → reverse (xs ++ x ∷ []) ≡ x ∷ reverse xs
          turn xs x = reverse-append xs (x ∷ [])

  pub takes_last : (parts all : List A) (slots left : List (Maybe A)) → parts ++ flat_map option_to_list (reverse slots) ≡ all → slots ≡ left ++ []
      → left ≡ [] → parts ≡ all
  takes_last parts all slots left so_far is none =
      sym (append-nil parts) ∙ ap (λ zs. parts ++ flat_map option_to_list (reverse zs)) (sym (is ∙ ap (λ zs. zs ++ []) none)) ∙ so_far

  -- what was put into slots comes back
  pub comes_back : (xs : List A) → flat_map option_to_list (map Some xs) ≡ xs
  comes_back [] = refl
  comes_back (x ∷ xs) = ap (λ zs. x ∷ zs) (comes_back xs)

  -- a list without a length is empty
  pub no_length : (xs : List A) → length xs ≡ 0 → xs ≡ []
  no_length [] none = refl
  no_length (x ∷ xs) none = absurd (omega arith)

  -- what stands at an index
  pub stands_there : (xs : List A) (k : ℕ) (x : A) → k < length xs → slice_index_or xs k x ≡ x → slice_get xs k ≡ Some x
  stands_there [] k x less is = absurd (omega arith)
  stands_there (y ∷ ys) zero x less is = ap (λ z. Some z) is
  stands_there (y ∷ ys) (suc k) x less is = stands_there ys k x (omega arith) is
