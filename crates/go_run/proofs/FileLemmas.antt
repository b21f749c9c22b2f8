-- Lemmas on reading the scripts of several files.
use Rattle.std.proofs.Common.{◌≡◌, ◌∙◌, ℕ, zero, suc, ◌+◌, ◌≤◌, List, [], ◌∷◌, ◌++◌, ◌<◌, length, map, take}
use Rattle.std.proofs.Common.{drop, drop-cons, get_or, Option, Some, None, Result, Ok, Err, refl, arith, sym, subst, ap}
use Rattle.std.specs.Prelude.{slice_get, slice_set, IfSome, All}
use Rattle.std.proofs.lemmas.List.{map-append, take_more, take-append-drop}
use Rattle.std.proofs.lemmas.List.Elements.{All-push, All-nil}
use Rattle.std.proofs.Math.Seq.{set-append_seam}
use Rattle.go_text.specs.Steps.{◌>>=◌}
use Rattle.go_script.specs.declared.step.Step.{Step}
use Rattle.go_run.specs.Input.{Texts, script_under, scripts_under}
use Rattle.go_run.specs.NamedText.{IsReadAs, ReadsName, AreSteps}
use Rattle.go_run.specs.Files.{AreReadAs, AreTexts, ReadsFiles, HasRead}
use Rattle.go_run.specs.declared.status.Status.{Status}
use Rattle.go_run.specs.declared.status.Status.TheVariants.{Done, Words, Script, NoFile, TooMuch, ReadFault}
use Rattle.go_run.specs.declared.status.Status.TheVariants.{NotALog, OtherVertices, DiskFault, WriteFault, Memory}

-- one and then several, all right
pub split_both : {A : Type 0} (first : Result A Status) (rest : Result (List A) Status) (all : List A) →
    (first >>= λ x. rest >>= λ more. Ok (x ∷ more)) ≡ Ok all →
    (x : A) × (more : List A) × (first ≡ Ok x) × (rest ≡ Ok more) × (all ≡ x ∷ more)
split_both (Ok x) (Ok more) all is = (x, more, refl, refl, cc)
split_both (Ok x) (Err status) all is = absurd (cc)
split_both (Err status) rest all is = absurd (cc)

-- what comes behind nothing
pub in_front-nothing : {A : Type 0} (result : Result (List A) Status) → result ≡ (result >>= λ more. Ok ([] ++ more))
in_front-nothing (Ok more) = refl
in_front-nothing (Err status) = refl

-- what comes behind one and several
pub in_front-more : {A : Type 0} (x : A) (some : List A) (result : Result (List A) Status) →
    ((result >>= λ more. Ok (some ++ more)) >>= λ more. Ok (x ∷ more)) ≡ (result >>= λ more. Ok ((x ∷ some) ++ more))
in_front-more x some (Ok more) = refl
in_front-more x some (Err status) = refl

-- one, several and what comes behind them
pub join_both : {A : Type 0} (first : Result A Status) (whole rest : Result (List A) Status) (x : A) (some all : List A) → first ≡ Ok x →
    whole ≡ (rest >>= λ more. Ok (some ++ more)) → all ≡ x ∷ some →
    (first >>= λ y. whole >>= λ more. Ok (y ∷ more)) ≡ (rest >>= λ more. Ok (all ++ more))
join_both first whole rest x some all one several together = rw (one, several, together) (in_front-more x some rest)

-- files behind some that were read
scripts-append : (v : ℕ) (before names : List (List ℕ)) (files more : List (Option (List ℕ))) (scripts : List (List Step)) → length files ≡ length before →
    scripts_under v before files ≡ Ok scripts →
    scripts_under v (before ++ names) (files ++ more) ≡ (scripts_under v names more >>= λ rest. Ok (scripts ++ rest))
scripts-append v [] names [] more scripts all read =
    let none : scripts ≡ [] = cc in
    rw none (in_front-nothing (scripts_under v names more))
scripts-append v [] names (text ∷ files) more scripts all read = absurd (omega (arith, all))
scripts-append v (name ∷ before) names [] more scripts all read = absurd (omega (arith, all))
scripts-append v (name ∷ before) names (text ∷ files) more scripts all read =
    let split = split_both (script_under v name text) (scripts_under v before files) scripts read in
    let rest = scripts-append v before names files more split.1 (omega (arith, all)) split.3 in
    join_both (script_under v name text) (scripts_under v (before ++ names) (files ++ more)) (scripts_under v names more) split.0 split.1 scripts
    split.2 rest split.4

-- the element behind a list
slice_get-seam : {A : Type 0} (xs : List A) (y : A) (ys : List A) → slice_get (xs ++ y ∷ ys) (length xs) ≡ Some y
slice_get-seam [] y ys = refl
slice_get-seam (x ∷ xs) y ys = slice_get-seam xs y ys

-- a file that is refused behind some that were read
script-refused : (v : ℕ) (before : List (List ℕ)) (name : List ℕ) (after : List (List ℕ)) (files : List (Option (List ℕ))) (text : Option (List ℕ))
    (more : List (Option (List ℕ))) (scripts : List (List Step)) (status : Status) → length files ≡ length before → scripts_under v before files ≡ Ok scripts →
    script_under v name text ≡ Err status → scripts_under v (before ++ name ∷ after) (files ++ text ∷ more) ≡ Err status
script-refused v before name after files text more scripts status all read refused =
    rw (scripts-append v before (name ∷ after) files (text ∷ more) scripts all read, refused) refl

-- what is answered then
refused-read : (v : ℕ) (before : List (List ℕ)) (name : List ℕ) (after : List (List ℕ)) (files : List (Option (List ℕ))) (text : Option (List ℕ))
    (more : List (Option (List ℕ))) (scripts : List (List Step)) (status : Status) → length files ≡ length before → scripts_under v before files ≡ Ok scripts →
    IsReadAs name (script_under v name text) (Err status) → AreReadAs v (before ++ name ∷ after) (files ++ text ∷ more) (Err status)
refused-read v before name after files text more scripts Done all read is = absurd is
refused-read v before name after files text more scripts Words all read is = absurd is
refused-read v before name after files text more scripts (Script other line kind) all read is =
    script-refused v before name after files text more scripts (Script other line kind) all read is
refused-read v before name after files text more scripts (NoFile other) all read is =
    script-refused v before name after files text more scripts (NoFile other) all read is
refused-read v before name after files text more scripts (TooMuch counted limit) all read is =
    script-refused v before name after files text more scripts (TooMuch counted limit) all read is
refused-read v before name after files text more scripts (ReadFault other) all read is =
    let hidden : scripts_under v (before ++ name ∷ after) (files ++ None ∷ more) ≡ Err (NoFile name) =
    script-refused v before name after files None more scripts (NoFile name) all read refl in
    let set : slice_set (files ++ text ∷ more) (length before) None ≡ files ++ None ∷ more =
    subst (λ (n : ℕ). slice_set (files ++ text ∷ more) n None ≡ files ++ None ∷ more) all (set-append_seam files text more None) in
    (length before, rw is (slice_get-seam before name after), rw (set, is) hidden)
refused-read v before name after files text more scripts (NotALog at kind) all read is = absurd is
refused-read v before name after files text more scripts (OtherVertices file asked) all read is = absurd is
refused-read v before name after files text more scripts DiskFault all read is = absurd is
refused-read v before name after files text more scripts WriteFault all read is = absurd is
refused-read v before name after files text more scripts Memory all read is = tt

-- no file was read yet
pub files_start : (v : ℕ) (shelf : Option Texts) → HasRead v shelf [] []
files_start v None = record { files = []; told = tt; all = refl; same = refl; read = refl; steps = All-nil (AreSteps v) }
files_start v (Some known) = record { files = []; told = refl; all = refl; same = refl; read = refl; steps = All-nil (AreSteps v) }

-- files with one more, where the shelf tells
told-more : (known : Texts) (before : List (List ℕ)) (name : List ℕ) (after : List (List ℕ)) (files : List (Option (List ℕ))) (text : Option (List ℕ)) →
    files ≡ map known before → text ≡ known name → files ++ text ∷ map known after ≡ map known (before ++ name ∷ after)
told-more known before name after files text told this = rw (told, this) (sym (map-append known before (name ∷ after)))

-- a list with one more is of one length with another one with one more
length-more : {A B : Type 0} (xs : List A) (x : A) (ys : List B) (y : B) → length xs ≡ length ys → length (xs ++ x ∷ []) ≡ length (ys ++ y ∷ [])
length-more [] x [] y is = refl
length-more [] x (z ∷ ys) y is = absurd (omega (arith, is))
length-more (z ∷ xs) x [] y is = absurd (omega (arith, is))
length-more (z ∷ xs) x (w ∷ ys) y is = ap suc (length-more xs x ys y (omega (arith, is)))

-- one file more was read
pub files_next : (v : ℕ) (shelf : Option Texts) (before : List (List ℕ)) (name : List ℕ) (scripts : List (List Step)) (steps : List Step) →
    HasRead v shelf before scripts → ReadsName shelf name (script_under v name) (Ok steps) → AreSteps v steps →
    HasRead v shelf (before ++ name ∷ []) (scripts ++ steps ∷ [])
files_next v shelf before name scripts steps has reads are = record {
  files = has.files ++ reads.text ∷ [];
  told = told shelf has.told reads.told;
  all = length-more has.files reads.text before name has.all;
  same = length-more scripts steps before name has.same;
  read = rw (scripts-append v before (name ∷ []) has.files (reads.text ∷ []) scripts has.all has.read, reads.read) refl;
  steps = All-push (AreSteps v) scripts steps has.steps are;
}
  where
    told : (shelf : Option Texts) → AreTexts shelf before has.files → IfSome shelf (λ known. reads.text ≡ known name) →
        AreTexts shelf (before ++ name ∷ []) (has.files ++ reads.text ∷ [])
    told None those this = tt
    told (Some known) those this = told-more known before name [] has.files reads.text those this

-- the next file is refused
pub files_refused : (v : ℕ) (shelf : Option Texts) (before : List (List ℕ)) (name : List ℕ) (after : List (List ℕ)) (scripts : List (List Step))
    (status : Status) →
    HasRead v shelf before scripts → ReadsName shelf name (script_under v name) (Err status) →
    ReadsFiles v shelf (before ++ name ∷ after) (Err status)
files_refused v None before name after scripts status has reads = record {
  files = has.files ++ reads.text ∷ [];
  told = tt;
  read = refused-read v before name after has.files reads.text [] scripts status has.all has.read reads.read;
}
files_refused v (Some known) before name after scripts status has reads = record {
  files = has.files ++ reads.text ∷ map known after;
  told = told-more known before name after has.files reads.text has.told reads.told;
  read = refused-read v before name after has.files reads.text (map known after) scripts status has.all has.read reads.read;
}

-- all files were read
pub files_read : (v : ℕ) (shelf : Option Texts) (names : List (List ℕ)) (scripts : List (List Step)) → HasRead v shelf names scripts →
    ReadsFiles v shelf names (Ok scripts)
files_read v shelf names scripts has = record { files = has.files; told = has.told; read = has.read }

-- a list, cut at one of its elements
cut-at : {A : Type 0} (xs : List A) (i : ℕ) (x : A) → i < length xs → x ≡ get_or xs i x → xs ≡ take i xs ++ x ∷ drop (suc i) xs
cut-at xs i x within is =
    sym (take-append-drop i xs) ∙ ap (λ (rest : List _). take i xs ++ rest) (drop-cons xs i x within ∙ ap (λ y. y ∷ drop (suc i) xs) (sym is))

-- the file at a place is read behind those before it
pub files_next_at : (v : ℕ) (shelf : Option Texts) (names : List (List ℕ)) (i : ℕ) (name : List ℕ) (scripts : List (List Step)) (steps : List Step) →
    i < length names → name ≡ get_or names i name → HasRead v shelf (take i names) scripts → ReadsName shelf name (script_under v name) (Ok steps) →
    AreSteps v steps → HasRead v shelf (take (i + 1) names) (scripts ++ steps ∷ [])
files_next_at v shelf names i name scripts steps within is has reads are =
    let more = take_more names i name within ∙ ap (λ (n : List ℕ). take i names ++ n ∷ []) (sym is) in
    subst (λ (l : List (List ℕ)). HasRead v shelf l (scripts ++ steps ∷ [])) (sym more) (files_next v shelf (take i names) name scripts steps has reads are)

-- and is refused
pub files_refused_at : (v : ℕ) (shelf : Option Texts) (names : List (List ℕ)) (i : ℕ) (name : List ℕ) (scripts : List (List Step)) (status : Status) →
    i < length names → name ≡ get_or names i name → HasRead v shelf (take i names) scripts → ReadsName shelf name (script_under v name) (Err status) →
    ReadsFiles v shelf names (Err status)
files_refused_at v shelf names i name scripts status within is has reads =
    subst (λ (l : List (List ℕ)). ReadsFiles v shelf l (Err status)) (sym (cut-at names i name within is))
    (files_refused v shelf (take i names) name (drop (suc i) names) scripts status has reads)

-- want of memory tells nothing
pub files_no_memory : (v : ℕ) (shelf : Option Texts) (names : List (List ℕ)) → ReadsFiles v shelf names (Err Memory)
files_no_memory v None names = record { files = []; told = tt; read = tt }
files_no_memory v (Some known) names = record { files = map known names; told = refl; read = tt }
