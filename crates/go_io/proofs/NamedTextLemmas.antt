-- Look-ups by name in what a shelf holds, after a change at one place and at the end.
use Rattle.std.proofs.Common.{◌≡◌, ◌≢◌, ℕ, suc, zero, ◌<◌, List, [], ◌∷◌, ◌++◌, length, set, get_or, refl, sym, ap, ◌∙◌, subst, Bool, true, false, cond}
use Rattle.std.specs.Prelude.{Option, None, Some, IfSome, find, ◌||◌, ◌&&◌, is_none, if◌then◌else◌}
use Rattle.std.specs.List.{slice_get, position_or_len}
use Rattle.std.specs.Option.{option_map, option_map_or, option_or}
use Rattle.std.specs.Str.{bytes_eq}
use Rattle.std.proofs.lemmas.Bool.{false_from_ne_true, false≢true}
use Rattle.std.proofs.lemmas.List.Folds.{find_at, find-set, find_past, find-append}
use Rattle.std.proofs.lemmas.List.Sums.{passes_at_first}
use Rattle.std.proofs.lemmas.Option.{same_Some, none-some, slice_get-get_or, get_or_from_slice_get}
use Rattle.std.proofs.lemmas.Slice.Eq.{bytes_eq-Decides}
use Rattle.go_text.specs.Causes.{raised}
use Rattle.go_io.specs.MemShelf.{NamedText, is_named, text_in, faults_in, shares_count}

-- a name is its own
bytes_eq-self : (name : List ℕ) → bytes_eq name name ≡ true
bytes_eq-self name = (bytes_eq-Decides name name).1 refl

-- other names differ
bytes_eq-other : (name other : List ℕ) → name ≢ other → bytes_eq name other ≡ false
bytes_eq-other name other differs = false_from_ne_true (bytes_eq name other) (λ e. differs ((bytes_eq-Decides name other).0 e))

-- a text is found as before after a change that keeps the name and the bytes
pub text_in-set : (held : List NamedText) (place : ℕ) (old new : NamedText) (other : List ℕ) → slice_get held place ≡ Some old
    → new.name ≡ old.name → new.bytes ≡ old.bytes → text_in (set held place new) other ≡ text_in held other
text_in-set [] place old new other there name bytes = refl
text_in-set (one ∷ held) zero old new other there name bytes =
    let same : one ≡ old = same_Some one old there in
    let one_name : new.name ≡ one.name = rw same name in
    let one_bytes : new.bytes ≡ one.bytes = rw same bytes in
    let rest : Option NamedText = find (is_named other) held in
    let P : Bool → Type 0 = λ b. option_map (λ h. h.bytes) (cond b (Some new) rest)
    ≡ option_map (λ h. h.bytes) (cond (bytes_eq one.name other) (Some one) rest) in
    let Q : Bool → Type 0 = λ b. option_map (λ h. h.bytes) (cond b (Some new) rest) ≡ option_map (λ h. h.bytes) (cond b (Some one) rest) in
    let q : Q (bytes_eq one.name other) = elim (bytes_eq one.name other) as Q [ true ↦ ap Some one_bytes | false ↦ refl ] in
    subst P (ap (λ n. bytes_eq n other) (sym one_name)) q
text_in-set (one ∷ held) (suc place) old new other there name bytes =
    let P : Bool → Type 0 = λ b. option_map (λ h. h.bytes) (cond b (Some one) (find (is_named other) (set held place new)))
    ≡ option_map (λ h. h.bytes) (cond b (Some one) (find (is_named other) held)) in
    elim (bytes_eq one.name other) as P [ true ↦ refl | false ↦ text_in-set held place old new other there name bytes ]

-- a count is found as before after a change that keeps the name and the count
pub faults_in-set : (held : List NamedText) (place : ℕ) (old new : NamedText) (others : ℕ) (other : List ℕ) → slice_get held place ≡ Some old
    → new.name ≡ old.name → new.faults ≡ old.faults → faults_in (set held place new) others other ≡ faults_in held others other
faults_in-set [] place old new others other there name faults = refl
faults_in-set (one ∷ held) zero old new others other there name faults =
    let same : one ≡ old = same_Some one old there in
    let one_name : new.name ≡ one.name = rw same name in
    let one_faults : new.faults ≡ one.faults = rw same faults in
    let rest : Option NamedText = find (is_named other) held in
    let P : Bool → Type 0 = λ b. option_map_or (λ h. h.faults) (cond b (Some new) rest) others
    ≡ option_map_or (λ h. h.faults) (cond (bytes_eq one.name other) (Some one) rest) others in
    let Q : Bool → Type 0 = λ b. option_map_or (λ h. h.faults) (cond b (Some new) rest) others
    ≡ option_map_or (λ h. h.faults) (cond b (Some one) rest) others in
    let q : Q (bytes_eq one.name other) = elim (bytes_eq one.name other) as Q [ true ↦ one_faults | false ↦ refl ] in
    subst P (ap (λ n. bytes_eq n other) (sym one_name)) q
faults_in-set (one ∷ held) (suc place) old new others other there name faults =
    let P : Bool → Type 0 = λ b. option_map_or (λ h. h.faults) (cond b (Some one) (find (is_named other) (set held place new))) others
    ≡ option_map_or (λ h. h.faults) (cond b (Some one) (find (is_named other) held)) others in
    elim (bytes_eq one.name other) as P [ true ↦ refl | false ↦ faults_in-set held place old new others other there name faults ]

-- a change at a place that is there changes what stands there
place_changed : (held after : List NamedText) (place : ℕ) (f : NamedText → NamedText) → place < length held
    → IfSome (slice_get held place) (λ one. after ≡ set held place (f one))
    → (old : NamedText) × (slice_get held place ≡ Some old) × (after ≡ set held place (f old))
place_changed held after place f within changed = go (slice_get held place) refl changed
  where
    nothing : NamedText
    nothing = record { name = []; bytes = []; faults = 0 }

    go : (o : Option NamedText) → slice_get held place ≡ o → IfSome o (λ one. after ≡ set held place (f one))
        → (old : NamedText) × (slice_get held place ≡ Some old) × (after ≡ set held place (f old))
    go (Some old) e h = (old, e, h)
    go None e h = absurd (none-some (get_or held place nothing) (sym e ∙ slice_get-get_or held place nothing within))

-- two tests for sharing a count, where the name is there and where it isn't
shared-same : (b c : Bool) (x y : ℕ) → b ≡ true → (if b || c then x else y) ≡ x
shared-same b c x y e = rw e

shared-none : (b c : Bool) (x y : ℕ) → b ≡ false → c ≡ false → (if b || c then x else y) ≡ y
shared-none b c x y e f = rw (e, f)

shared-neither : (b : Bool) (x y : ℕ) → (if b || true then x else y) ≡ x
shared-neither true x y = refl
shared-neither false x y = refl

-- the place of a name is where it stands first
module _ (held : List NamedText) (name : List ℕ) (place : ℕ) (first : place ≡ position_or_len (is_named name) held) (within : place < length held) where
  -- what stands there has the name
  pub find-there : (old : NamedText) → slice_get held place ≡ Some old → find (is_named name) held ≡ Some old
  find-there old e = find_at (is_named name) held ∙ (ap (slice_get held) (sym first) ∙ e)

  pub name-there : (old : NamedText) → slice_get held place ≡ Some old → old.name ≡ name
  name-there old e =
      let here : get_or held place old ≡ old = get_or_from_slice_get held place old old e in
      let inside : position_or_len (is_named name) held < length held = rw first at within in
      let passes : is_named name (get_or held (position_or_len (is_named name) held) old) ≡ true = passes_at_first (is_named name) held old inside in
      let at_place : is_named name (get_or held place old) ≡ true = ap (λ n. is_named name (get_or held n old)) first ∙ passes in
      (bytes_eq-Decides old.name name).0 (ap (is_named name) (sym here) ∙ at_place)

  -- the name finds what was put there
  pub find-here : (new : NamedText) → new.name ≡ name → find (is_named name) (set held place new) ≡ Some new
  find-here new same = find-set (is_named name) held place new first within (ap (λ n. bytes_eq n name) same ∙ bytes_eq-self name)

  -- another name finds what it found
  pub find-elsewhere : (old new : NamedText) (other : List ℕ) → slice_get held place ≡ Some old → new.name ≡ name → name ≢ other
      → find (is_named other) (set held place new) ≡ find (is_named other) held
  find-elsewhere old new other e same differs =
      let apart : bytes_eq name other ≡ false = bytes_eq-other name other differs in
      find_past (is_named other) held place new old
      (ap (is_named other) (get_or_from_slice_get held place old old e) ∙ (ap (λ n. bytes_eq n other) (name-there old e) ∙ apart))
      (ap (λ n. bytes_eq n other) same ∙ apart)

  -- one more fault of the name that stands there
  module _ (after : List NamedText) (changed : IfSome (slice_get held place) (λ one. after ≡ set held place (record one { faults = raised one.faults }))) where
    pub text_in-counted : (other : List ℕ) → text_in after other ≡ text_in held other
    text_in-counted other =
        let was = place_changed held after place (λ one. record one { faults = raised one.faults }) within changed in
        ap (λ h. text_in h other) was.2 ∙ text_in-set held place was.0 (record was.0 { faults = raised was.0.faults }) other was.1 refl refl

    pub faults_in-counted : (others : ℕ) (other : List ℕ) → faults_in after others other
        ≡ (if shares_count held name other then raised (faults_in held others other) else faults_in held others other)
    faults_in-counted others other =
        let was = place_changed held after place (λ one. record one { faults = raised one.faults }) within changed in
        by_name (bytes_eq name other) refl was.0 was.1 was.2
      where
        count : Option NamedText → ℕ
        count o = option_map_or (λ h. h.faults) o others

        by_name : (b : Bool) → bytes_eq name other ≡ b → (old : NamedText) → slice_get held place ≡ Some old →
            after ≡ set held place (record old { faults = raised old.faults })
            → faults_in after others other ≡ (if shares_count held name other then raised (faults_in held others other) else faults_in held others other)
        by_name true e old there changes =
            let same : name ≡ other = (bytes_eq-Decides name other).0 e in
            let new : NamedText = record old { faults = raised old.faults } in
            let found : find (is_named other) after ≡ Some new = ap (find (is_named other)) changes
            ∙ subst (λ n. find (is_named n) (set held place new) ≡ Some new) same (find-here new (name-there old there)) in
            let before : find (is_named other) held ≡ Some old = subst (λ n. find (is_named n) held ≡ Some old) same (find-there old there) in
            ap (λ o. option_map_or (λ h. h.faults) o others) found
            ∙ (ap (λ o. raised (option_map_or (λ h. h.faults) o others)) (sym before)
            ∙ sym (shared-same (bytes_eq name other) _ _ _ e))
        by_name false e old there changes =
            let differs : name ≢ other = λ same. false≢true (sym e ∙ (bytes_eq-Decides name other).1 same) in
            let found : find (is_named other) after ≡ find (is_named other) held = ap (find (is_named other)) changes
            ∙ find-elsewhere old (record old { faults = raised old.faults }) other there (name-there old there) differs in
            ap (λ o. option_map_or (λ h. h.faults) o others) found
            ∙ sym (shared-none (bytes_eq name other) _ _ _ e (ap (λ o. is_none o && is_none (find (is_named other) held)) (find-there old there)))

-- one more fault of a name that isn't there is one of all those that aren't there
pub faults_in-others : (held : List NamedText) (name : List ℕ) (others : ℕ) (other : List ℕ) → find (is_named name) held ≡ None
    → faults_in held (raised others) other ≡ (if shares_count held name other then raised (faults_in held others other) else faults_in held others other)
faults_in-others held name others other absent = go (find (is_named other) held) refl
  where
    go : (o : Option NamedText) → find (is_named other) held ≡ o
        → faults_in held (raised others) other ≡ (if shares_count held name other then raised (faults_in held others other) else faults_in held others other)
    go None e = rw (absent, e) (sym (shared-neither (bytes_eq name other) _ _))
    go (Some one) e =
        let apart : bytes_eq name other ≡ false = bytes_eq-other name other (λ same. none-some one (sym absent
        ∙ (ap (λ n. find (is_named n) held) same ∙ e))) in
        rw (absent, e) (sym (shared-none (bytes_eq name other) false _ _ apart refl))

-- other bytes at the first place of a name
module _ (held : List NamedText) (name : List ℕ) (place : ℕ) (first : place ≡ position_or_len (is_named name) held) (within : place < length held)
    (after : List NamedText) (bytes : List ℕ) (changed : IfSome (slice_get held place) (λ one. after ≡ set held place (record one { bytes = bytes }))) where
  pub text_in-replaced : text_in after name ≡ Some bytes
  text_in-replaced =
      let was = place_changed held after place (λ one. record one { bytes = bytes }) within changed in
      ap (λ h. text_in h name) was.2
      ∙ ap (option_map (λ h. h.bytes)) (find-here held name place first within (record was.0 {
        bytes =
            bytes;
      }) (name-there held name place first within was.0 was.1))

  pub text_in-kept : (other : List ℕ) → other ≢ name → text_in after other ≡ text_in held other
  text_in-kept other differs =
      let was = place_changed held after place (λ one. record one { bytes = bytes }) within changed in
      ap (λ h. text_in h other) was.2
      ∙ ap (option_map (λ h. h.bytes)) (find-elsewhere held name place first within was.0 (record was.0 { bytes = bytes }) other was.1
      (name-there held name place first within was.0 was.1) (λ same. differs (sym same)))

  pub faults_in-kept : (others : ℕ) (other : List ℕ) → faults_in after others other ≡ faults_in held others other
  faults_in-kept others other =
      let was = place_changed held after place (λ one. record one { bytes = bytes }) within changed in
      ap (λ h. faults_in h others other) was.2 ∙ faults_in-set held place was.0 (record was.0 { bytes = bytes }) others other was.1 refl refl

-- nothing more to look for
option_or-none : (o : Option NamedText) → option_or o None ≡ o
option_or-none None = refl
option_or-none (Some one) = refl

-- a name that wasn't there, at the end
module _ (held : List NamedText) (one : NamedText) (absent : find (is_named one.name) held ≡ None) where
  -- it finds its own text
  pub text_in-added : text_in (held ++ one ∷ []) one.name ≡ Some one.bytes
  text_in-added = rw (find-append (is_named one.name) held (one ∷ []), absent, bytes_eq-self one.name)

  -- another name finds what it found
  find-added : (other : List ℕ) → other ≢ one.name → find (is_named other) (held ++ one ∷ []) ≡ find (is_named other) held
  find-added other differs =
      let apart : bytes_eq one.name other ≡ false = bytes_eq-other one.name other (λ same. differs (sym same)) in
      rw (find-append (is_named other) held (one ∷ []), apart) (option_or-none (find (is_named other) held))

  pub text_in-beside : (other : List ℕ) → other ≢ one.name → text_in (held ++ one ∷ []) other ≡ text_in held other
  text_in-beside other differs = ap (option_map (λ h. h.bytes)) (find-added other differs)

  -- it begins with the count that it had
  pub faults_in-added : (other : List ℕ) → faults_in (held ++ one ∷ []) one.faults other ≡ faults_in held one.faults other
  faults_in-added other = rw (find-append (is_named other) held (one ∷ [])) (begins (find (is_named other) held) (bytes_eq one.name other))
    where
      begins : (o : Option NamedText) (b : Bool) → option_map_or (λ h. h.faults) (option_or o (cond b (Some one) None)) one.faults
          ≡ option_map_or (λ h. h.faults) o one.faults
      begins None true = refl
      begins None false = refl
      begins (Some old) b = refl

-- a name has its own count
pub shares_count-self : (held : List NamedText) (name : List ℕ) → shares_count held name name ≡ true
shares_count-self held name = rw (bytes_eq-self name)
