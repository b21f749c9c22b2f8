-- What words ask for, from what reading them leads to.
use Rattle.std.proofs.Common.{◌≡◌, ℕ, ◌-◌, ◌≤◌, ◌==◌, Bool, true, false, nat_lt, if◌then◌else◌, List, []}
use Rattle.std.proofs.Common.{◌∷◌, codes, length, take, drop, get_or, Option, Some, None, IfSome, option_to_list}
use Rattle.std.proofs.Common.{bytes_eq, refl, sym, ap, subst, arith, ◌∙◌}
use Rattle.std.proofs.lemmas.List.{take_all}
use Rattle.std.proofs.lemmas.Slice.Eq.{bytes_eq-Decides}
use Rattle.go_word.specs.declared.edge.TheConstants.{VERTEX_LIMIT}
use Rattle.go_api.specs.declared.limits.TheConstants.{SHARD_LIMIT}
use Rattle.go_run.specs.declared.limits.TheConstants.{VERTICES, RING, SHARDS, SCRIPTS, EDGES, SEED_LIMIT}
use Rattle.go_run.specs.declared.setting.Setting.TheVariants as settings
use Rattle.go_run.specs.Work.{Work}
use Rattle.go_run.specs.Work.Work.{driving, generating}
use Rattle.go_run.specs.Words.{Writes, values_in, files_in, IsGiven, IsWork, command_of, IsChosen, IsNumber, IsRing, IsText, usual_log, Asked, Asks, IsAskedBy}
use Rattle.go_run.specs.declared.wanted.Verb.{Verb}
use Rattle.go_run.specs.declared.wanted.Verb.TheVariants as verbs
use Rattle.go_text.specs.Number.{digits_in_front, value_of, number_of}
use Rattle.go_text.specs.declared.numbers.NumberFault.TheVariants.{Empty, NotADigit, TooLarge}
use Rattle.std.specs.Prelude.{nat_le, Ok, Err}
use Rattle.std.proofs.lemmas.Bool.{leb-true}
use Rattle.go_run.specs.Found.{Kept, nothing_kept, Collects, Reads, Settles, IsSettled, word_of_verb}

-- what the words ask for, from what reading them leads to
one_value : {A : Type 0} (Means : List ℕ → A → Type 0) (usual it : A) (values : List (List ℕ)) → IsChosen Means usual values it →
    (value : Option (List ℕ)) × (option_to_list value ≡ values)
one_value Means usual it [] is = (None, refl)
one_value Means usual it (value ∷ []) is = (Some value, refl)
one_value Means usual it (value ∷ other ∷ values) is = absurd is

-- one is given
one_given : {A : Type 0} (Means : List ℕ → A → Type 0) (it : A) (values : List (List ℕ)) → IsGiven Means values it →
    (value : Option (List ℕ)) × (option_to_list value ≡ values)
one_given Means it [] is = absurd is
one_given Means it (value ∷ []) is = (Some value, refl)
one_given Means it (value ∷ other ∷ values) is = absurd is

-- the values by which some work is asked for, and its files
given_edges : (work : Work) (files edges seeds : List (List ℕ)) → IsWork work files edges seeds → (value : Option (List ℕ)) × (option_to_list value ≡ edges)
given_edges (driving names) files edges seeds is = (None, sym is.3)
given_edges (generating count seed) files edges seeds is = one_given (IsNumber 1 EDGES) count edges is.1

given_seed : (work : Work) (files edges seeds : List (List ℕ)) → IsWork work files edges seeds → (value : Option (List ℕ)) × (option_to_list value ≡ seeds)
given_seed (driving names) files edges seeds is = (None, sym is.4)
given_seed (generating count seed) files edges seeds is = one_given (IsNumber 0 SEED_LIMIT) seed seeds is.2

few_files : (work : Work) (files edges seeds : List (List ℕ)) → IsWork work files edges seeds → length files ≤ SCRIPTS
few_files (driving names) files edges seeds is = is.2
few_files (generating count seed) files edges seeds is = subst (λ (l : List (List ℕ)). length l ≤ SCRIPTS) (sym is.0) (omega arith)

module _ (words others : List (List ℕ)) (word : List ℕ) (command : words ≡ word ∷ others) where
  asks_from : (kept : Kept) (asked : Asked) → Collects nothing_kept others kept → Settles word kept asked → Asks words asked
  asks_from kept asked collects settles = record {
    parts = collects.parts;
    written = record {
      others = others;
      begins = command ∙ ap (λ (w : List ℕ). w ∷ others) (sym settles.commanded);
      written = collects.written;
    };
    work = subst (λ (f : List (List ℕ)). IsWork asked.work f (values_in settings.Edges collects.parts)
        (values_in settings.Seed collects.parts)) collects.gathers.files
        (subst (λ (e : List (List ℕ)). IsWork asked.work kept.files e (values_in settings.Seed collects.parts)) collects.gathers.edges
        (subst (λ (e : List (List ℕ)). IsWork asked.work kept.files (option_to_list kept.edges) e) collects.gathers.seed settles.work));
    vertices = subst (λ (v : List (List ℕ)). IsChosen (IsNumber 1 VERTEX_LIMIT) VERTICES v asked.setup.vertices) collects.gathers.vertices settles.vertices;
    ring = subst (λ (v : List (List ℕ)). IsChosen IsRing RING v asked.setup.ring) collects.gathers.ring settles.ring;
    shards = subst (λ (v : List (List ℕ)). IsChosen (IsNumber 1 SHARD_LIMIT) SHARDS v asked.setup.shards) collects.gathers.shards settles.shards;
    log = subst (λ (v : List (List ℕ)). IsChosen IsText usual_log v asked.log) collects.gathers.log settles.log;
  }

  -- what is asked is settled by what its parts lead to
  settled_by : (asked : Asked) → Asks words asked → (kept : Kept) × Collects nothing_kept others kept × Settles word kept asked
  settled_by asked asks =
      let one : command_of asked.work ∷ asks.written.others ≡ word ∷ others = sym asks.written.begins ∙ command in
      let same : asks.written.others ≡ others = (let h = one in cc) in
      let commanded : command_of asked.work ≡ word = (let h = one in cc) in
      let vertices = one_value (IsNumber 1 VERTEX_LIMIT) VERTICES asked.setup.vertices (values_in settings.Vertices asks.parts) asks.vertices in
      let ring = one_value IsRing RING asked.setup.ring (values_in settings.Ring asks.parts) asks.ring in
      let shards = one_value (IsNumber 1 SHARD_LIMIT) SHARDS asked.setup.shards (values_in settings.Shards asks.parts) asks.shards in
      let log = one_value IsText usual_log asked.log (values_in settings.Log asks.parts) asks.log in
      let edges = given_edges asked.work (files_in asks.parts) (values_in settings.Edges asks.parts) (values_in settings.Seed asks.parts) asks.work in
      let seed = given_seed asked.work (files_in asks.parts) (values_in settings.Edges asks.parts) (values_in settings.Seed asks.parts) asks.work in (
        record {
          vertices = vertices.0;
          ring = ring.0;
          shards = shards.0;
          log = log.0;
          edges = edges.0;
          seed = seed.0;
          files = files_in asks.parts;
        },
        record {
          parts = asks.parts;
          written = subst (λ (w : List (List ℕ)). Writes asks.parts w) same asks.written.written;
          gathers = record {
            vertices = vertices.1;
            ring = ring.1;
            shards = shards.1;
            log = log.1;
            edges = edges.1;
            seed = seed.1;
            files = refl;
            few = few_files asked.work (files_in asks.parts) (values_in settings.Edges asks.parts) (values_in settings.Seed asks.parts) asks.work;
          };
        },
        record {
          commanded = commanded;
          work = subst (λ (e : List (List ℕ)). IsWork asked.work (files_in asks.parts) e (option_to_list seed.0)) (sym edges.1)
              (subst (λ (e : List (List ℕ)). IsWork asked.work (files_in asks.parts) (values_in settings.Edges asks.parts) e) (sym seed.1) asks.work);
          vertices = subst (λ (v : List (List ℕ)). IsChosen (IsNumber 1 VERTEX_LIMIT) VERTICES v asked.setup.vertices) (sym vertices.1) asks.vertices;
          ring = subst (λ (v : List (List ℕ)). IsChosen IsRing RING v asked.setup.ring) (sym ring.1) asks.ring;
          shards = subst (λ (v : List (List ℕ)). IsChosen (IsNumber 1 SHARD_LIMIT) SHARDS v asked.setup.shards) (sym shards.1) asks.shards;
          log = subst (λ (v : List (List ℕ)). IsChosen IsText usual_log v asked.log) (sym log.1) asks.log;
        },
      )

  asks_some : (kept : Kept) (asked : Option Asked) → Collects nothing_kept others kept → IfSome asked (Settles word kept) → IfSome asked (Asks words)
  asks_some kept None collects settles = tt
  asks_some kept (Some asked) collects settles = asks_from kept asked collects settles

  pub asked_some : (kept : Kept) (asked : Option Asked) → Reads nothing_kept others (Some kept) → IsSettled word kept asked → IsAskedBy words asked
  asked_some kept asked reads settled = record {
    asks = asks_some kept asked reads.some settled.some;
    alone = λ other asks.
        let by = settled_by other asks in
        let same : kept ≡ by.0 = (let h : Some kept ≡ Some by.0 = reads.alone by.0 by.1 in cc) in
        settled.alone other (subst (λ (k : Kept). Settles word k other) (sym same) by.2);
  }

  pub asked_none : Reads nothing_kept others None → IsAskedBy words None
  asked_none reads = record {
    asks = tt;
    alone = λ other asks. absurd (
        let by = settled_by other asks in let h : None ≡ Some by.0 = reads.alone by.0 by.1 in cc
        );
  }

-- what is to be done is asked for by the word of a command
verb_for : (work : Work) → (verb : Verb) × (command_of work ≡ word_of_verb verb)
verb_for (driving names) = (verbs.Drive, refl)
verb_for (generating count seed) = (verbs.Generate, refl)

-- words that begin with no command ask for nothing, nor do no words
pub asked_no_verb : (words others : List (List ℕ)) (word : List ℕ) → words ≡ word ∷ others → ((verb : Verb) → word ≡ word_of_verb verb → ⊥) →
    IsAskedBy words None
asked_no_verb words others word begin none = record {
  asks = tt;
  alone = λ other asks. absurd (
      let verb = verb_for other.work in
      let same : command_of other.work ∷ asks.written.others ≡ word ∷ others = sym asks.written.begins ∙ begin in
      let first : command_of other.work ≡ word = (let h = same in cc) in
      none verb.0 (sym first ∙ verb.1)
      );
}

-- what the words ask for has numbers within their limits
within_limit : (empty other small : Bool) (value limit place n : ℕ) → (small ≡ true → value ≤ limit) →
    (if empty then Err Empty else (if other then Err (NotADigit place) else (if small then Ok value else Err TooLarge))) ≡ Ok n → n ≤ limit
within_limit true other small value limit place n keeps is = absurd (let h : Err Empty ≡ Ok n = is in cc)
within_limit false true small value limit place n keeps is = absurd (let h : Err (NotADigit place) ≡ Ok n = is in cc)
within_limit false false true value limit place n keeps is =
    let same : value ≡ n = (let h : Ok value ≡ Ok n = is in cc) in omega (arith, keeps refl, same)
within_limit false false false value limit place n keeps is = absurd (let h : Err TooLarge ≡ Ok n = is in cc)

number_within : (limit n : ℕ) (bytes : List ℕ) → number_of limit bytes ≡ Ok n → n ≤ limit
number_within limit n bytes is =
    within_limit (length bytes == 0) (nat_lt (digits_in_front bytes) (length bytes)) (nat_le (value_of bytes) limit) (value_of bytes) limit
    (digits_in_front bytes) n (leb-true (value_of bytes) limit) is

given_within : (least most n : ℕ) (values : List (List ℕ)) → IsGiven (IsNumber least most) values n → n ≤ most
given_within least most n [] is = absurd is
given_within least most n (value ∷ []) is = number_within most n value is.0
given_within least most n (value ∷ other ∷ values) is = absurd is

pub some_scripts : (words names : List (List ℕ)) (asked : Asked) → Asks words asked → asked.work ≡ driving names →
    (1 ≤ length names) × (length names ≤ SCRIPTS)
some_scripts words names asked asks is =
    let work = subst (λ (w : Work). IsWork w (files_in asks.parts) (values_in settings.Edges asks.parts) (values_in settings.Seed asks.parts)) is asks.work in
    subst (λ (l : List (List ℕ)). (1 ≤ length l) × (length l ≤ SCRIPTS)) work.0 (work.1, work.2)

pub few_edges : (words : List (List ℕ)) (count seed : ℕ) (asked : Asked) → Asks words asked → asked.work ≡ generating count seed → count ≤ EDGES
few_edges words count seed asked asks is =
    let work = subst (λ (w : Work). IsWork w (files_in asks.parts) (values_in settings.Edges asks.parts) (values_in settings.Seed asks.parts)) is asks.work in
    given_within 1 EDGES count (values_in settings.Edges asks.parts) work.1
