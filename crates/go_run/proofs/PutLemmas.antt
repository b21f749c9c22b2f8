-- What one part of the words adds to what is kept.
use Rattle.std.proofs.Common.{◌≡◌, ℕ, Bool, true, false, IsTrue, List, [], ◌∷◌, ◌++◌}
use Rattle.std.proofs.Common.{Option, Some, None, option_map, option_to_list, refl, sym, ap, subst, ◌∙◌}
use Rattle.std.proofs.Common.{append-nil, length, length-append, suc, ◌<◌, ◌≤◌, ◌&&◌, if◌then◌else◌, inl, inr, arith}
use Rattle.std.specs.Prelude.{nat_lt}
use Rattle.std.proofs.lemmas.Bool.Decides.{leb_tells}
use Rattle.go_run.specs.declared.limits.TheConstants.{SCRIPTS}
use Rattle.go_run.specs.declared.setting.Setting.TheVariants as settings
use Rattle.go_run.specs.Words.{Part, chosen, named, may_be, value_in, file_in, values_in, files_in}
use Rattle.go_run.specs.Found.{Kept, first_of, put, Gathers}

-- what an `Option` holds
holds : {A B : Type 0} (f : A → B) (it : Option A) (y : B) → option_map f it ≡ Some y → (x : A) × (it ≡ Some x) × (f x ≡ y)
holds f None y is = absurd (let h : None ≡ Some y = is in cc)
holds f (Some x) y is = (x, refl, (let h : Some (f x) ≡ Some y = is in cc))

holds_none : {A B : Type 0} (f : A → B) (it : Option A) → option_map f it ≡ None → it ≡ None
holds_none f None is = refl
holds_none f (Some x) is = absurd (let h : Some (f x) ≡ None = is in cc)

pub same_option : (a b : Option (List ℕ)) → option_to_list a ≡ option_to_list b → a ≡ b
same_option None None same = refl
same_option None (Some b) same = absurd (let h : [] ≡ b ∷ [] = same in cc)
same_option (Some a) None same = absurd (let h : a ∷ [] ≡ [] = same in cc)
same_option (Some a) (Some b) same = let h : a ∷ [] ≡ b ∷ [] = same in cc

no_two : (it : Option (List ℕ)) (a b : List ℕ) (others : List (List ℕ)) → option_to_list it ≡ a ∷ b ∷ others → ⊥
no_two None a b others is = absurd (let h : [] ≡ a ∷ b ∷ others = is in cc)
no_two (Some x) a b others is = absurd (let h : x ∷ [] ≡ a ∷ b ∷ others = is in cc)

no_second : (it before : Option (List ℕ)) (old value : List ℕ) (others : List (List ℕ)) → before ≡ Some old →
    option_to_list it ≡ option_to_list before ++ (value ∷ others) → ⊥
no_second it before old value others is same =
    no_two it old value others (same ∙ ap (λ (o : Option (List ℕ)). option_to_list o ++ (value ∷ others)) is)

-- a first value
first_some : (may : Bool) (before : Option (List ℕ)) (text it : List ℕ) → first_of may before text ≡ Some it →
    (before ≡ None) × (it ≡ text) × IsTrue may
first_some false before text it is = absurd (let h : None ≡ Some it = is in cc)
first_some true None text it is = (refl, (let h : Some text ≡ Some it = is in cc), refl)
first_some true (Some old) text it is = absurd (let h : None ≡ Some it = is in cc)

first_none : (may : Bool) (before : Option (List ℕ)) (text : List ℕ) → first_of may before text ≡ None → IsTrue may → (old : List ℕ) × (before ≡ Some old)
first_none false before text is may = absurd (let h : false ≡ true = may in cc)
first_none true None text is may = absurd (let h : Some text ≡ None = is in cc)
first_none true (Some old) text is may = (old, refl)

-- one file more
room_some : (may room : Bool) (more all : Kept) → (if may && room then Some more else None) ≡ Some all → IsTrue may × IsTrue room × (more ≡ all)
room_some true true more all is = (refl, refl, (let h : Some more ≡ Some all = is in cc))
room_some true false more all is = absurd (let h : None ≡ Some all = is in cc)
room_some false room more all is = absurd (let h : None ≡ Some all = is in cc)

room_none : (may : Bool) (count : ℕ) (more : Kept) → (if may && nat_lt count SCRIPTS then Some more else None) ≡ None → IsTrue may → SCRIPTS ≤ count
room_none false count more is may = absurd (let h : false ≡ true = may in cc)
room_none true count more is may =
    elim (leb_tells (suc count) SCRIPTS) [
      | inl h ↦ absurd (let there : Some more ≡ None = rw h.0 at is in cc)
      | inr h ↦ let full = h.1 in omega arith
    ]

room_less : (count : ℕ) → IsTrue (nat_lt count SCRIPTS) → count < SCRIPTS
room_less count room = elim (leb_tells (suc count) SCRIPTS) [
  | inl h ↦ h.1
  | inr h ↦ absurd (let no : false ≡ true = rw h.0 at room in cc)
]

-- what one part adds
pub record Adds (kept : Kept) (part : Part) (more : Kept) : Type 0 where
  pub may : IsTrue (may_be part)
  pub vertices : option_to_list more.vertices ≡ option_to_list kept.vertices ++ option_to_list (value_in settings.Vertices part)
  pub ring : option_to_list more.ring ≡ option_to_list kept.ring ++ option_to_list (value_in settings.Ring part)
  pub shards : option_to_list more.shards ≡ option_to_list kept.shards ++ option_to_list (value_in settings.Shards part)
  pub log : option_to_list more.log ≡ option_to_list kept.log ++ option_to_list (value_in settings.Log part)
  pub edges : option_to_list more.edges ≡ option_to_list kept.edges ++ option_to_list (value_in settings.Edges part)
  pub seed : option_to_list more.seed ≡ option_to_list kept.seed ++ option_to_list (value_in settings.Seed part)
  pub files : more.files ≡ kept.files ++ option_to_list (file_in part)

pub stays : (it : Option (List ℕ)) → option_to_list it ≡ option_to_list it ++ []
stays it = sym (append-nil (option_to_list it))

comes : (before : Option (List ℕ)) (it value : List ℕ) → before ≡ None → it ≡ value →
    option_to_list (Some it) ≡ option_to_list before ++ option_to_list (Some value)
comes before it value none same = ap (λ (x : List ℕ). x ∷ []) same ∙ ap (λ (o : Option (List ℕ)). option_to_list o ++ (value ∷ [])) (sym none)

pub put_adds : (kept : Kept) (part : Part) (more : Kept) → put kept part ≡ Some more → Adds kept part more
put_adds kept (chosen settings.Vertices value) more is =
    let it = holds _ _ more is in
    let new = first_some (may_be (chosen settings.Vertices value)) kept.vertices value it.0 it.1 in
    subst (λ (m : Kept). Adds kept (chosen settings.Vertices value) m) it.2 (record {
      may = new.2;
      vertices = comes kept.vertices it.0 value new.0 new.1;
      ring = stays kept.ring;
      shards = stays kept.shards;
      log = stays kept.log;
      edges = stays kept.edges;
      seed = stays kept.seed;
      files = sym (append-nil kept.files);
    })
put_adds kept (chosen settings.Ring value) more is =
    let it = holds _ _ more is in
    let new = first_some (may_be (chosen settings.Ring value)) kept.ring value it.0 it.1 in
    subst (λ (m : Kept). Adds kept (chosen settings.Ring value) m) it.2 (record {
      may = new.2;
      vertices = stays kept.vertices;
      ring = comes kept.ring it.0 value new.0 new.1;
      shards = stays kept.shards;
      log = stays kept.log;
      edges = stays kept.edges;
      seed = stays kept.seed;
      files = sym (append-nil kept.files);
    })
put_adds kept (chosen settings.Shards value) more is =
    let it = holds _ _ more is in
    let new = first_some (may_be (chosen settings.Shards value)) kept.shards value it.0 it.1 in
    subst (λ (m : Kept). Adds kept (chosen settings.Shards value) m) it.2 (record {
      may = new.2;
      vertices = stays kept.vertices;
      ring = stays kept.ring;
      shards = comes kept.shards it.0 value new.0 new.1;
      log = stays kept.log;
      edges = stays kept.edges;
      seed = stays kept.seed;
      files = sym (append-nil kept.files);
    })
put_adds kept (chosen settings.Log value) more is =
    let it = holds _ _ more is in
    let new = first_some (may_be (chosen settings.Log value)) kept.log value it.0 it.1 in
    subst (λ (m : Kept). Adds kept (chosen settings.Log value) m) it.2 (record {
      may = new.2;
      vertices = stays kept.vertices;
      ring = stays kept.ring;
      shards = stays kept.shards;
      log = comes kept.log it.0 value new.0 new.1;
      edges = stays kept.edges;
      seed = stays kept.seed;
      files = sym (append-nil kept.files);
    })
put_adds kept (chosen settings.Edges value) more is =
    let it = holds _ _ more is in
    let new = first_some (may_be (chosen settings.Edges value)) kept.edges value it.0 it.1 in
    subst (λ (m : Kept). Adds kept (chosen settings.Edges value) m) it.2 (record {
      may = new.2;
      vertices = stays kept.vertices;
      ring = stays kept.ring;
      shards = stays kept.shards;
      log = stays kept.log;
      edges = comes kept.edges it.0 value new.0 new.1;
      seed = stays kept.seed;
      files = sym (append-nil kept.files);
    })
put_adds kept (chosen settings.Seed value) more is =
    let it = holds _ _ more is in
    let new = first_some (may_be (chosen settings.Seed value)) kept.seed value it.0 it.1 in
    subst (λ (m : Kept). Adds kept (chosen settings.Seed value) m) it.2 (record {
      may = new.2;
      vertices = stays kept.vertices;
      ring = stays kept.ring;
      shards = stays kept.shards;
      log = stays kept.log;
      edges = stays kept.edges;
      seed = comes kept.seed it.0 value new.0 new.1;
      files = sym (append-nil kept.files);
    })
put_adds kept (named name) more is =
    let it = room_some (may_be (named name)) (nat_lt (length kept.files) SCRIPTS) (record kept { files = kept.files ++ name ∷ [] }) more is in
    subst (λ (m : Kept). Adds kept (named name) m) it.2 (record {
      may = it.0;
      vertices = stays kept.vertices;
      ring = stays kept.ring;
      shards = stays kept.shards;
      log = stays kept.log;
      edges = stays kept.edges;
      seed = stays kept.seed;
      files = refl;
    })

-- where a part adds nothing it is the second of its kind, and then no parts lead anywhere
pub put_ends : (kept : Kept) (part : Part) (parts : List Part) (all : Kept) → put kept part ≡ None → IsTrue (may_be part) → Gathers kept (part ∷ parts) all → ⊥
put_ends kept (chosen settings.Vertices value) parts all is may gathers =
    let old = first_none (may_be (chosen settings.Vertices value)) kept.vertices value (holds_none _ _ is) may in
    no_second all.vertices kept.vertices old.0 value (values_in settings.Vertices parts) old.1 gathers.vertices
put_ends kept (chosen settings.Ring value) parts all is may gathers =
    let old = first_none (may_be (chosen settings.Ring value)) kept.ring value (holds_none _ _ is) may in
    no_second all.ring kept.ring old.0 value (values_in settings.Ring parts) old.1 gathers.ring
put_ends kept (chosen settings.Shards value) parts all is may gathers =
    let old = first_none (may_be (chosen settings.Shards value)) kept.shards value (holds_none _ _ is) may in
    no_second all.shards kept.shards old.0 value (values_in settings.Shards parts) old.1 gathers.shards
put_ends kept (chosen settings.Log value) parts all is may gathers =
    let old = first_none (may_be (chosen settings.Log value)) kept.log value (holds_none _ _ is) may in
    no_second all.log kept.log old.0 value (values_in settings.Log parts) old.1 gathers.log
put_ends kept (chosen settings.Edges value) parts all is may gathers =
    let old = first_none (may_be (chosen settings.Edges value)) kept.edges value (holds_none _ _ is) may in
    no_second all.edges kept.edges old.0 value (values_in settings.Edges parts) old.1 gathers.edges
put_ends kept (chosen settings.Seed value) parts all is may gathers =
    let old = first_none (may_be (chosen settings.Seed value)) kept.seed value (holds_none _ _ is) may in
    no_second all.seed kept.seed old.0 value (values_in settings.Seed parts) old.1 gathers.seed
put_ends kept (named name) parts all is may gathers =
    let full : SCRIPTS ≤ length kept.files = room_none (may_be (named name)) (length kept.files) (record kept { files = kept.files ++ name ∷ [] }) is may in
    let many = ap (λ (l : List (List ℕ)). length l) gathers.files in
    let sum = length-append kept.files (name ∷ files_in parts) in
    let few = gathers.few in
    omega arith

-- there are no more files than there may be
pub put_few : (kept : Kept) (part : Part) (more : Kept) → put kept part ≡ Some more → length kept.files ≤ SCRIPTS → length more.files ≤ SCRIPTS
put_few kept (chosen setting value) more is few =
    let same = ap (λ (l : List (List ℕ)). length l) ((put_adds kept (chosen setting value) more is).files ∙ append-nil kept.files) in omega arith
put_few kept (named name) more is few =
    let it = room_some (may_be (named name)) (nat_lt (length kept.files) SCRIPTS) (record kept { files = kept.files ++ name ∷ [] }) more is in
    let room : length kept.files < SCRIPTS = room_less (length kept.files) it.1 in
    let same = ap (λ (m : Kept). length m.files) it.2 in
    let sum = length-append kept.files (name ∷ []) in
    omega arith
