-- How words begin that write a part: what the first word is settles the part.
use Rattle.std.proofs.Common.{◌≡◌, ◌≢◌, ◌⊎◌, ℕ, ◌==◌, Bool, true, false, not, if◌then◌else◌, IsTrue, List}
use Rattle.std.proofs.Common.{[], ◌∷◌, ◌++◌, codes, bytes_eq, length, refl, sym, ap, subst, arith, ◌∙◌, inl, inr}
use Rattle.std.specs.List.{before_first, after_first}
use Rattle.go_run.specs.declared.setting.Setting.{Setting}
use Rattle.go_run.specs.declared.setting.Setting.TheVariants as settings
use Rattle.go_run.specs.Words.{has_dash, name_of, Part, chosen, named, may_be, Spells, WritesFirst}

-- the word of a setting begins with a dash, whatever stands behind it
dashed : (setting : Setting) (behind : List ℕ) → has_dash (name_of setting ++ behind) ≡ true
dashed settings.Vertices behind = refl
dashed settings.Ring behind = refl
dashed settings.Shards behind = refl
dashed settings.Log behind = refl
dashed settings.Edges behind = refl
dashed settings.Seed behind = refl

dashed_alone : (setting : Setting) → has_dash (name_of setting) ≡ true
dashed_alone settings.Vertices = refl
dashed_alone settings.Ring = refl
dashed_alone settings.Shards = refl
dashed_alone settings.Log = refl
dashed_alone settings.Edges = refl
dashed_alone settings.Seed = refl

-- it has no equals sign, so that one behind it is the first
before_sign : (setting : Setting) (value : List ℕ) → before_first (λ b. b == 61) (name_of setting ++ 61 ∷ value) ≡ name_of setting
before_sign settings.Vertices value = refl
before_sign settings.Ring value = refl
before_sign settings.Shards value = refl
before_sign settings.Log value = refl
before_sign settings.Edges value = refl
before_sign settings.Seed value = refl

behind_sign : (setting : Setting) (value : List ℕ) → after_first (λ b. b == 61) (name_of setting ++ 61 ∷ value) ≡ value
behind_sign settings.Vertices value = refl
behind_sign settings.Ring value = refl
behind_sign settings.Shards value = refl
behind_sign settings.Log value = refl
behind_sign settings.Edges value = refl
behind_sign settings.Seed value = refl

-- a setting is told by its word
abbrev by_word : List ℕ → Setting
by_word word =
    if bytes_eq word (codes "--vertices") then settings.Vertices
    else (if bytes_eq word (codes "--ring") then settings.Ring
    else (if bytes_eq word (codes "--shards") then settings.Shards
    else (if bytes_eq word (codes "--log") then settings.Log
    else (if bytes_eq word (codes "--edges") then settings.Edges
    else settings.Seed))))

by_its_word : (setting : Setting) → by_word (name_of setting) ≡ setting
by_its_word settings.Vertices = refl
by_its_word settings.Ring = refl
by_its_word settings.Shards = refl
by_its_word settings.Log = refl
by_its_word settings.Edges = refl
by_its_word settings.Seed = refl

one_setting : (a b : Setting) → name_of a ≡ name_of b → a ≡ b
one_setting a b same = sym (by_its_word a) ∙ ap by_word same ∙ by_its_word b

one_choice : (a b : Setting) (value other : List ℕ) → name_of a ++ 61 ∷ value ≡ name_of b ++ 61 ∷ other → (a ≡ b) × (value ≡ other)
one_choice a b value other same = (
  one_setting a b (sym (before_sign a value) ∙ ap (λ (word : List ℕ). before_first (λ b. b == 61) word) same ∙ before_sign b other),
  sym (behind_sign a value) ∙ ap (λ (word : List ℕ). after_first (λ b. b == 61) word) same ∙ behind_sign b other,
)

-- the word of a setting has no value in it
abbrev has_sign : List ℕ → Bool
has_sign [] = false
has_sign (byte ∷ word) = if byte == 61 then true else has_sign word

sign_in : (setting : Setting) (value : List ℕ) → has_sign (name_of setting ++ 61 ∷ value) ≡ true
sign_in settings.Vertices value = refl
sign_in settings.Ring value = refl
sign_in settings.Shards value = refl
sign_in settings.Log value = refl
sign_in settings.Edges value = refl
sign_in settings.Seed value = refl

no_sign_in : (setting : Setting) → has_sign (name_of setting) ≡ false
no_sign_in settings.Vertices = refl
no_sign_in settings.Ring = refl
no_sign_in settings.Shards = refl
no_sign_in settings.Log = refl
no_sign_in settings.Edges = refl
no_sign_in settings.Seed = refl

true_is_false : true ≡ false → ⊥
true_is_false is = cc

no_value_in : (a b : Setting) (value : List ℕ) → name_of a ≡ name_of b ++ 61 ∷ value → ⊥
no_value_in a b value same = true_is_false (sym (sign_in b value) ∙ ap has_sign (sym same) ∙ no_sign_in a)

-- how words begin that write a part: a file's name stands first; a setting's word does with the value behind it, or in it
abbrev pub Begins : Part → List ℕ → List (List ℕ) → List (List ℕ) → Type 0
Begins (named name) word rest others = (word ≡ name) × (rest ≡ others)
Begins (chosen setting value) word rest others =
    ((word ≡ name_of setting) × (rest ≡ value ∷ others)) ⊎ ((word ≡ name_of setting ++ 61 ∷ value) × (rest ≡ others))

heads_same : (a b : List ℕ) (xs ys : List (List ℕ)) → a ∷ xs ≡ b ∷ ys → (a ≡ b) × (xs ≡ ys)
heads_same a b xs ys same = (cc, cc)

pub begins : (part : Part) (word : List ℕ) (rest others : List (List ℕ)) → WritesFirst part (word ∷ rest) others → Begins part word rest others
begins (named name) word rest others first =
    heads_same word name rest others (first.split ∙ ap (λ (w : List (List ℕ)). w ++ others) first.spelt)
begins (chosen setting value) word rest others first = elim first.spelt [
  | inl two ↦ inl (heads_same word (name_of setting) rest (value ∷ others) (first.split ∙ ap (λ (w : List (List ℕ)). w ++ others) two))
  | inr one ↦ inr (heads_same word (name_of setting ++ 61 ∷ value) rest others (first.split ∙ ap (λ (w : List (List ℕ)). w ++ others) one))
]

-- no part is written by no words
pub writes_some : (part : Part) (others : List (List ℕ)) → WritesFirst part [] others → ⊥
writes_some (named name) others first =
    let is : [] ≡ name ∷ others = first.split ∙ ap (λ (w : List (List ℕ)). w ++ others) first.spelt in absurd (cc)
writes_some (chosen setting value) others first = elim first.spelt [
  | inl two ↦ (let is : [] ≡ name_of setting ∷ value ∷ others = first.split ∙ ap (λ (w : List (List ℕ)). w ++ others) two in absurd (cc))
  | inr one ↦ (let is : [] ≡ (name_of setting ++ 61 ∷ value) ∷ others = first.split ∙ ap (λ (w : List (List ℕ)). w ++ others) one in absurd (cc))
]

-- the words begin with this part, with these words behind it, and with no other
pub record BeginWith (words : List (List ℕ)) (part : Part) (rest : List (List ℕ)) : Type 0 where
  pub first : List (List ℕ)
  pub spelt : Spells part first
  pub split : words ≡ first ++ rest
  pub only : (other : Part) (others : List (List ℕ)) → WritesFirst other words others → (other ≡ part) × (others ≡ rest)

-- with a file's name
only_file : (word : List ℕ) (rest : List (List ℕ)) → has_dash word ≡ false → (other : Part) (others : List (List ℕ)) → Begins other word rest others →
    (other ≡ named word) × (others ≡ rest)
only_file word rest plain (named name) others begin = (ap (λ (n : List ℕ). named n) (sym begin.0), sym begin.1)
only_file word rest plain (chosen setting value) others begin = elim begin [
  | inl two ↦ absurd (true_is_false (sym (dashed_alone setting) ∙ ap has_dash (sym two.0) ∙ plain))
  | inr one ↦ absurd (true_is_false (sym (dashed setting (61 ∷ value)) ∙ ap has_dash (sym one.0) ∙ plain))
]

pub begin_with_file : (word : List ℕ) (rest : List (List ℕ)) → has_dash word ≡ false → BeginWith (word ∷ rest) (named word) rest
begin_with_file word rest plain = record {
  first = word ∷ [];
  spelt = refl;
  split = refl;
  only = λ other others first. only_file word rest plain other others (begins other word rest others first);
}

no_dash : (name : List ℕ) → IsTrue (may_be (named name)) → has_dash name ≡ true → ⊥
no_dash [] may is = cc
no_dash (byte ∷ word) may is = absurd (true_is_false (sym (subst (λ (b : Bool). not b ≡ true) is may)))

-- with a setting's word and its value
only_pair : (setting : Setting) (value : List ℕ) (rest : List (List ℕ)) (other : Part) (others : List (List ℕ)) → IsTrue (may_be other) →
    Begins other (name_of setting) (value ∷ rest) others → (other ≡ chosen setting value) × (others ≡ rest)
only_pair setting value rest (named name) others may begin = absurd (no_dash name may (ap has_dash (sym begin.0) ∙ dashed_alone setting))
only_pair setting value rest (chosen another text) others may begin = elim begin [
  | inl two ↦ (
      let same = one_setting setting another two.0 in
      let parts = heads_same value text rest others two.1 in
      ((λ i. chosen (sym same i) (sym parts.0 i)), sym parts.1)
      )
  | inr one ↦ absurd (no_value_in setting another text one.0)
]

begin_with_two : (setting : Setting) (word value : List ℕ) (rest : List (List ℕ)) → word ≡ name_of setting →
    BeginWith (word ∷ value ∷ rest) (chosen setting value) rest
begin_with_two setting word value rest is = record {
  first = name_of setting ∷ value ∷ [];
  spelt = inl refl;
  split = ap (λ (w : List ℕ). w ∷ value ∷ rest) is;
  only = λ other others first.
      only_pair setting value rest other others first.may
      (subst (λ (w : List ℕ). Begins other w (value ∷ rest) others) is (begins other word (value ∷ rest) others first));
}

pub begin_with_pair : (setting : Setting) (word value : List ℕ) (rest left : List (List ℕ)) → word ≡ name_of setting → rest ≡ value ∷ left →
    BeginWith (word ∷ rest) (chosen setting value) left
begin_with_pair setting word value rest left is two =
    subst (λ (r : List (List ℕ)). BeginWith (word ∷ r) (chosen setting value) left) (sym two) (begin_with_two setting word value left is)

-- with a setting's word that has its value
only_choice : (setting : Setting) (value : List ℕ) (rest : List (List ℕ)) (other : Part) (others : List (List ℕ)) → IsTrue (may_be other) →
    Begins other (name_of setting ++ 61 ∷ value) rest others → (other ≡ chosen setting value) × (others ≡ rest)
only_choice setting value rest (named name) others may begin = absurd (no_dash name may (ap has_dash (sym begin.0) ∙ dashed setting (61 ∷ value)))
only_choice setting value rest (chosen another text) others may begin = elim begin [
  | inl two ↦ absurd (no_value_in another setting value (sym two.0))
  | inr one ↦ (
      let same = one_choice setting another value text one.0 in
      ((λ i. chosen (sym same.0 i) (sym same.1 i)), sym one.1)
      )
]

pub begin_with_choice : (setting : Setting) (word value : List ℕ) (rest : List (List ℕ)) → word ≡ name_of setting ++ 61 ∷ value →
    BeginWith (word ∷ rest) (chosen setting value) rest
begin_with_choice setting word value rest is = record {
  first = (name_of setting ++ 61 ∷ value) ∷ [];
  spelt = inr refl;
  split = ap (λ (w : List ℕ). w ∷ rest) is;
  only = λ other others first.
      only_choice setting value rest other others first.may
      (subst (λ (w : List ℕ). Begins other w rest others) is (begins other word rest others first));
}

-- no part begins with a setting's word and nothing behind it
pub no_value_behind : (setting : Setting) (word : List ℕ) → word ≡ name_of setting → (other : Part) (others : List (List ℕ)) → IsTrue (may_be other) →
    Begins other word [] others → ⊥
no_value_behind setting word is (named name) others may begin = no_dash name may (ap has_dash (sym begin.0 ∙ is) ∙ dashed_alone setting)
no_value_behind setting word is (chosen another text) others may begin = elim begin [
  | inl two ↦ (let h : [] ≡ text ∷ others = two.1 in absurd (cc))
  | inr one ↦ no_value_in setting another text (sym is ∙ one.0)
]

-- nor with an unknown word
pub no_part : (word : List ℕ) (rest : List (List ℕ)) → has_dash word ≡ true → ((setting : Setting) → word ≢ name_of setting) →
    ((setting : Setting) (value : List ℕ) → word ≢ name_of setting ++ 61 ∷ value) → (other : Part) (others : List (List ℕ)) → IsTrue (may_be other) →
    Begins other word rest others → ⊥
no_part word rest dash no_name no_choice (named name) others may begin = no_dash name may (ap has_dash (sym begin.0) ∙ dash)
no_part word rest dash no_name no_choice (chosen setting value) others may begin = elim begin [
  | inl two ↦ no_name setting two.0
  | inr one ↦ no_choice setting value one.0
]

pub no_words_left : (rest : List (List ℕ)) → length rest ≡ 0 → rest ≡ []
no_words_left [] none = refl
no_words_left (word ∷ rest) none = absurd (omega (arith, none))
