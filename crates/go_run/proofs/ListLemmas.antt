-- Lemmas on reading the lists that scripts load.
use Rattle.std.proofs.Common.{◌≡◌, ◌∙◌, ℕ, zero, suc, ◌+◌, ◌<◌, ◌≤◌, Bool, true, false, List, [], ◌∷◌, ◌++◌, length, map}
use Rattle.std.proofs.Common.{take, get_or, Option, Some, None, Result, Ok, Err, refl, arith, sym, subst, ap}
use Rattle.std.specs.Prelude.{if◌then◌else◌, IfSome, All}
use Rattle.std.specs.Str.{bytes_eq}
use Rattle.std.specs.Cmp.Lexicographic.{bytes_decides}
use Rattle.std.proofs.lemmas.List.{map-append, length_push}
use Rattle.std.proofs.lemmas.List.Elements.{All-push, All-nil}
use Rattle.std.proofs.Math.ListN.{get_or-append}
use Rattle.std.proofs.Math.Seq.{get_or-append_seam}
use Rattle.go_text.specs.Steps.{◌>>=◌}
use Rattle.go_word.specs.declared.edge.Edge.{Edge}
use Rattle.go_script.specs.declared.command.Command.TheVariants as commands
use Rattle.go_session.specs.Asked.{lists_of}
use Rattle.go_run.specs.Input.{Texts, entries_under, lists_under}
use Rattle.go_run.specs.NamedText.{IsReadAs, ReadsName, AreEntries, list_under}
use Rattle.go_run.specs.Lists.{Numbers, without, AreNamed, HoldsList, HoldsLists, HasLists, IsRefusal, RefusesLists}
use Rattle.go_run.specs.declared.status.Status.{Status}
use Rattle.go_run.specs.declared.status.Status.TheVariants.{Done, Words, Script, NoFile, TooMuch, ReadFault}
use Rattle.go_run.specs.declared.status.Status.TheVariants.{NotALog, OtherVertices, DiskFault, WriteFault, Memory}
use Rattle.go_run.proofs.FileLemmas.{split_both, join_both, in_front-nothing}

-- texts, where one name has another text
abbrev with_text : List ℕ → Option (List ℕ) → Texts → Texts
with_text name text named = λ other. if bytes_eq other name then text else named other

-- bytes equal themselves
bytes_same : (name : List ℕ) → bytes_eq name name ≡ true
bytes_same name = (bytes_decides name name).1 refl

-- names that are known and unknown differ
differ : (known : Numbers) (other name : List ℕ) (number : ℕ) → known other ≡ Some number → known name ≡ None → bytes_eq other name ≡ false
differ known other name number has none = by (bytes_eq other name) refl
  where
    by : (b : Bool) → bytes_eq other name ≡ b → bytes_eq other name ≡ false
    by true is = absurd (let same : other ≡ name = (bytes_decides other name).0 is in let clash : Some number ≡ None = sym has ∙ ap known same ∙ none in cc)
    by false is = is

-- the list of a name stays what it is where another has another text
kept_list : (v : ℕ) (named : Texts) (loads : List (List Edge)) (other name : List ℕ) (number : ℕ) (text : Option (List ℕ)) → bytes_eq other name ≡ false →
    HoldsList v named loads other number → HoldsList v (with_text name text named) loads other number
kept_list v named loads other name number text differs holds = record { there = holds.there; list = rw differs holds.list }

-- texts of which a name has this one, and the names that are known keep their lists
record NextTexts (v : ℕ) (shelf : Option Texts) (known : Numbers) (loads : List (List Edge)) (name : List ℕ) (text : Option (List ℕ)) : Type 0 where
  next : Texts
  told : AreNamed shelf next
  same : next name ≡ text
  lists : (other : List ℕ) (number : ℕ) → known other ≡ Some number → HoldsList v next loads other number

next_texts : (v : ℕ) (shelf : Option Texts) (known : Numbers) (loads : List (List Edge)) (name : List ℕ) (text : Option (List ℕ)) (named : Texts) →
    AreNamed shelf named → ((other : List ℕ) (number : ℕ) → known other ≡ Some number → HoldsList v named loads other number) → known name ≡ None →
    IfSome shelf (λ told. text ≡ told name) → NextTexts v shelf known loads name text
next_texts v None known loads name text named told lists none this = record {
  next = with_text name text named;
  told = tt;
  same = rw (bytes_same name) refl;
  lists = λ other number has. kept_list v named loads other name number text (differ known other name number has none) (lists other number has);
}
next_texts v (Some shelf) known loads name text named told lists none this = record {
  next = named;
  told = told;
  same = ap (λ (t : Texts). t name) told ∙ sym this;
  lists = lists;
}

-- the lists of names that are known
held_lists : (v : ℕ) (named : Texts) (known : Numbers) (loads : List (List Edge)) (names : List (List ℕ)) (numbers : List ℕ) →
    map known names ≡ map Some numbers → ((other : List ℕ) (number : ℕ) → known other ≡ Some number → HoldsList v named loads other number) →
    lists_under v named names ≡ Ok (lists_of loads numbers)
held_lists v named known loads [] [] are lists = refl
held_lists v named known loads [] (number ∷ numbers) are lists = absurd (cc)
held_lists v named known loads (name ∷ names) [] are lists = absurd (cc)
held_lists v named known loads (name ∷ names) (number ∷ numbers) are lists =
    let first : known name ≡ Some number = cc in
    let rest : map known names ≡ map Some numbers = cc in
    let here = (lists name number first).list in
    rw (here, held_lists v named known loads names numbers rest lists) refl

-- one and several
pub All-cons : {A : Type 0} (P : A → Type 0) (x : A) (xs : List A) → P x → All P xs → All P (x ∷ xs)
All-cons P x xs first rest zero d less = first
All-cons P x xs first rest (suc k) d less = rest k d (omega (arith, less))

-- they are there
held_there : (v : ℕ) (named : Texts) (known : Numbers) (loads : List (List Edge)) (names : List (List ℕ)) (numbers : List ℕ) →
    map known names ≡ map Some numbers → ((other : List ℕ) (number : ℕ) → known other ≡ Some number → HoldsList v named loads other number) →
    All (λ n. n < length loads) numbers
held_there v named known loads [] [] are lists = All-nil (λ n. n < length loads)
held_there v named known loads [] (number ∷ numbers) are lists = absurd (cc)
held_there v named known loads (name ∷ names) [] are lists = absurd (cc)
held_there v named known loads (name ∷ names) (number ∷ numbers) are lists =
    let first : known name ≡ Some number = cc in
    let rest : map known names ≡ map Some numbers = cc in
    All-cons (λ n. n < length loads) number numbers (lists name number first).there (held_there v named known loads names numbers rest lists)

-- lists behind some that were read
lists-append : (v : ℕ) (named : Texts) (names more : List (List ℕ)) (lists : List (List Edge)) → lists_under v named names ≡ Ok lists →
    lists_under v named (names ++ more) ≡ (lists_under v named more >>= λ rest. Ok (lists ++ rest))
lists-append v named [] more lists read =
    let none : lists ≡ [] = cc in
    rw none (in_front-nothing (lists_under v named more))
lists-append v named (name ∷ names) more lists read =
    let split = split_both (entries_under v named name) (lists_under v named names) lists read in
    let rest = lists-append v named names more split.1 split.3 in
    join_both (entries_under v named name) (lists_under v named (names ++ more)) (lists_under v named more) split.0 split.1 lists split.2 rest split.4

-- a refusal stays one, whatever comes behind it
refused_first : {A : Type 0} (first : Result A Status) (rest whole : Result (List A) Status) (status : Status) →
    (first >>= λ x. rest >>= λ more. Ok (x ∷ more)) ≡ Err status → (rest ≡ Err status → whole ≡ Err status) →
    (first >>= λ x. whole >>= λ more. Ok (x ∷ more)) ≡ Err status
refused_first (Ok x) (Ok more) whole status is goes = absurd (cc)
refused_first (Ok x) (Err other) whole status is goes = let this : other ≡ status = cc in rw (goes (rw this refl)) refl
refused_first (Err other) rest whole status is goes = let this : other ≡ status = cc in rw this refl

lists-refused : (v : ℕ) (named : Texts) (names more : List (List ℕ)) (status : Status) → lists_under v named names ≡ Err status →
    lists_under v named (names ++ more) ≡ Err status
lists-refused v named [] more status is = absurd (cc)
lists-refused v named (name ∷ names) more status is =
    refused_first (entries_under v named name) (lists_under v named names) (lists_under v named (names ++ more)) status is
    (λ this. lists-refused v named names more status this)

-- a name that is refused behind some that are known
name_refused : (v : ℕ) (named : Texts) (known : Numbers) (loads : List (List Edge)) (names : List (List ℕ)) (numbers : List ℕ) (name : List ℕ)
    (status : Status) →
    map known names ≡ map Some numbers → ((other : List ℕ) (number : ℕ) → known other ≡ Some number → HoldsList v named loads other number) →
    entries_under v named name ≡ Err status → lists_under v named (names ++ name ∷ []) ≡ Err status
name_refused v named known loads names numbers name status are lists refused =
    let front = lists-append v named names (name ∷ []) (lists_of loads numbers) (held_lists v named known loads names numbers are lists) in
    let behind : lists_under v named (name ∷ []) ≡ Err status = rw refused refl in
    front ∙ rw behind refl

-- no list was read yet
pub lists_start : (v : ℕ) (shelf : Option Texts) (known : Numbers) → ((name : List ℕ) → known name ≡ None) → HoldsLists v shelf known [] [] []
lists_start v shelf known none = record {
  named = named shelf;
  told = told shelf;
  lists = λ name number has. absurd (let clash : Some number ≡ None = sym has ∙ none name in cc);
  numbers_are = refl;
  entries = All-nil (AreEntries v);
}
  where
    named : Option Texts → Texts
    named None = λ name. None
    named (Some texts) = texts

    told : (shelf : Option Texts) → AreNamed shelf (named shelf)
    told None = tt
    told (Some texts) = refl

-- a name more that is known
pub lists_known : (v : ℕ) (shelf : Option Texts) (known : Numbers) (loads : List (List Edge)) (names : List (List ℕ)) (numbers : List ℕ) (name : List ℕ)
    (number : ℕ) → HoldsLists v shelf known loads names numbers → known name ≡ Some number →
    HoldsLists v shelf known loads (names ++ name ∷ []) (numbers ++ number ∷ [])
lists_known v shelf known loads names numbers name number holds is = record {
  named = holds.named;
  told = holds.told;
  lists = holds.lists;
  numbers_are = map-append known names (name ∷ []) ∙ rw (holds.numbers_are, is) (sym (map-append Some numbers (number ∷ [])));
  entries = holds.entries;
}

-- names keep their numbers
keep_numbers : (known after : Numbers) (names : List (List ℕ)) (numbers : List ℕ) → map known names ≡ map Some numbers →
    ((other : List ℕ) (number : ℕ) → known other ≡ Some number → after other ≡ Some number) → map after names ≡ map Some numbers
keep_numbers known after [] numbers are keep = are
keep_numbers known after (name ∷ names) [] are keep = absurd (cc)
keep_numbers known after (name ∷ names) (number ∷ numbers) are keep =
    let first : known name ≡ Some number = cc in
    let rest : map known names ≡ map Some numbers = cc in
    rw (keep name number first, keep_numbers known after names numbers rest keep) refl

-- a name more, whose list was read
pub lists_more : (v : ℕ) (shelf : Option Texts) (known after : Numbers) (loads : List (List Edge)) (names : List (List ℕ)) (numbers : List ℕ) (name : List ℕ)
    (number : ℕ) (list : List Edge) → HoldsLists v shelf known loads names numbers → known name ≡ None → ReadsName shelf name (list_under v name) (Ok list) →
    AreEntries v list → number ≡ length loads → ((other : List ℕ) → after other ≡ (if bytes_eq name other then Some number else known other)) →
    HoldsLists v shelf after (loads ++ list ∷ []) (names ++ name ∷ []) (numbers ++ number ∷ [])
lists_more v shelf known after loads names numbers name number list holds none reads are last puts =
    let next = next_texts v shelf known loads name reads.text holds.named holds.told holds.lists none reads.told in
    record {
      named = next.next;
      told = next.told;
      lists = λ other n has. held next other n has (bytes_eq name other) refl;
      numbers_are = map-append after names (name ∷ []) ∙ rw (keep_numbers known after names numbers holds.numbers_are keep, own)
          (sym (map-append Some numbers (number ∷ [])));
      entries = All-push (AreEntries v) loads list holds.entries are;
    }
  where
    own : after name ≡ Some number
    own = puts name ∙ rw (bytes_same name) refl

    keep : (other : List ℕ) (n : ℕ) → known other ≡ Some n → after other ≡ Some n
    keep other n has = puts other ∙ rw (differs) has
      where
        differs : bytes_eq name other ≡ false
        differs = by (bytes_eq name other) refl
          where
            by : (b : Bool) → bytes_eq name other ≡ b → bytes_eq name other ≡ false
            by true is = absurd (let same : name ≡ other = (bytes_decides name other).0 is in let clash : None ≡ Some n = sym none ∙ ap known same ∙ has in cc)
            by false is = is

    held : (next : NextTexts v shelf known loads name reads.text) (other : List ℕ) (n : ℕ) → after other ≡ Some n → (b : Bool) → bytes_eq name other ≡ b →
        HoldsList v next.next (loads ++ list ∷ []) other n
    held next other n has true is =
        let same : name ≡ other = (bytes_decides name other).0 is in
        let number_is : number ≡ n = let both : Some number ≡ Some n = sym own ∙ ap after same ∙ has in cc in
        subst (λ (o : List ℕ). HoldsList v next.next (loads ++ list ∷ []) o n) same (record {
          there = omega (arith, sym number_is, last, length_push loads list);
          list = rw next.same (reads.read ∙ ap (λ (l : List Edge). Ok l) (sym (
              ap (λ (k : ℕ). get_or (loads ++ list ∷ []) k []) (sym number_is ∙ last) ∙ get_or-append_seam loads list [] [])));
        })
    held next other n has false is =
        let before : known other ≡ Some n = sym (puts other ∙ rw is refl) ∙ has in
        let old = next.lists other n before in
        record {
          there = omega (arith, old.there, length_push loads list);
          list = old.list ∙ ap (λ (l : List Edge). Ok l) (sym (get_or-append loads (list ∷ []) [] n old.there));
        }

-- a name that isn't known is refused
pub lists_refused : (v : ℕ) (shelf : Option Texts) (known : Numbers) (loads : List (List Edge)) (names : List (List ℕ)) (numbers : List ℕ) (name : List ℕ)
    (status : Status) → HoldsLists v shelf known loads names numbers → known name ≡ None → ReadsName shelf name (list_under v name) (Err status) →
    RefusesLists v shelf (names ++ name ∷ []) status
lists_refused v shelf known loads names numbers name status holds none reads = by status reads.read
  where
    next : NextTexts v shelf known loads name reads.text
    next = next_texts v shelf known loads name reads.text holds.named holds.told holds.lists none reads.told

    refuse : (status : Status) → list_under v name reads.text ≡ Err status → lists_under v next.next (names ++ name ∷ []) ≡ Err status
    refuse status is = name_refused v next.next known loads names numbers name status holds.numbers_are next.lists (rw next.same is)

    hidden : (other : List ℕ) → other ≡ name → lists_under v (without other holds.named) (names ++ name ∷ []) ≡ Err (NoFile other)
    hidden other is = subst (λ (o : List ℕ). lists_under v (without o holds.named) (names ++ name ∷ []) ≡ Err (NoFile o)) (sym is)
        (name_refused v (without name holds.named) known loads names numbers name (NoFile name) holds.numbers_are
        (λ o n has. kept_list v holds.named loads o name n None (differ known o name n has none) (holds.lists o n has))
        (rw (bytes_same name) refl))

    by : (status : Status) → IsReadAs name (list_under v name reads.text) (Err status) → RefusesLists v shelf (names ++ name ∷ []) status
    by Done is = absurd is
    by Words is = absurd is
    by (Script other line kind) is = record { named = next.next; told = next.told; refusal = refuse (Script other line kind) is }
    by (NoFile other) is = record { named = next.next; told = next.told; refusal = refuse (NoFile other) is }
    by (TooMuch counted limit) is = record { named = next.next; told = next.told; refusal = refuse (TooMuch counted limit) is }
    by (ReadFault other) is = record { named = holds.named; told = holds.told; refusal = hidden other is }
    by (NotALog at kind) is = absurd is
    by (OtherVertices file asked) is = absurd is
    by DiskFault is = absurd is
    by WriteFault is = absurd is
    by Memory is = record { named = holds.named; told = holds.told; refusal = tt }

-- want of memory tells nothing
pub lists_no_memory : (v : ℕ) (shelf : Option Texts) (names : List (List ℕ)) → RefusesLists v shelf names Memory
lists_no_memory v None names = record { named = λ name. None; told = tt; refusal = tt }
lists_no_memory v (Some texts) names = record { named = texts; told = refl; refusal = tt }

-- a refusal is one of all names
pub lists_refused_more : (v : ℕ) (shelf : Option Texts) (names more : List (List ℕ)) (status : Status) → RefusesLists v shelf names status →
    RefusesLists v shelf (names ++ more) status
lists_refused_more v shelf names more status refuses = record { named = refuses.named; told = refuses.told; refusal = by status refuses.refusal }
  where
    by : (status : Status) → IsRefusal v refuses.named names status → IsRefusal v refuses.named (names ++ more) status
    by Done is = absurd is
    by Words is = absurd is
    by (Script other line kind) is = lists-refused v refuses.named names more (Script other line kind) is
    by (NoFile other) is = lists-refused v refuses.named names more (NoFile other) is
    by (TooMuch counted limit) is = lists-refused v refuses.named names more (TooMuch counted limit) is
    by (ReadFault other) is = lists-refused v (without other refuses.named) names more (NoFile other) is
    by (NotALog at kind) is = absurd is
    by (OtherVertices file asked) is = absurd is
    by DiskFault is = absurd is
    by WriteFault is = absurd is
    by Memory is = tt

-- all lists were read
pub lists_all : (v : ℕ) (shelf : Option Texts) (known : Numbers) (loads : List (List Edge)) (names : List (List ℕ)) (numbers : List ℕ) →
    HoldsLists v shelf known loads names numbers → HasLists v shelf loads names numbers
lists_all v shelf known loads names numbers holds = record {
  named = holds.named;
  told = holds.told;
  there = held_there v holds.named known loads names numbers holds.numbers_are holds.lists;
  count = count names numbers holds.numbers_are;
  read = held_lists v holds.named known loads names numbers holds.numbers_are holds.lists;
  entries = holds.entries;
}
  where
    count : (names : List (List ℕ)) (numbers : List ℕ) → map known names ≡ map Some numbers → length numbers ≡ length names
    count [] [] are = refl
    count [] (number ∷ numbers) are = absurd (cc)
    count (name ∷ names) [] are = absurd (cc)
    count (name ∷ names) (number ∷ numbers) are = let rest : map known names ≡ map Some numbers = cc in ap suc (count names numbers rest)

-- all of a list
pub take-all : {A : Type 0} (xs : List A) (n : ℕ) → length xs ≤ n → take n xs ≡ xs
take-all [] zero all = refl
take-all [] (suc n) all = refl
take-all (x ∷ xs) zero all = absurd (omega (arith, all))
take-all (x ∷ xs) (suc n) all = ap (λ (l : List _). x ∷ l) (take-all xs n (omega (arith, all)))
