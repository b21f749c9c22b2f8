-- Reading words part by part leads to what all their parts say, and to nothing else.
use Rattle.std.proofs.Common.{◌≡◌, ℕ, IsTrue, List, [], ◌∷◌, ◌++◌}
use Rattle.std.proofs.Common.{Option, Some, None, option_to_list, refl, sym, ap, subst, ◌∙◌}
use Rattle.std.proofs.Common.{append-nil, append_assoc, length, ◌≤◌}
use Rattle.std.specs.Borrow.{Bor}
use Rattle.go_run.specs.declared.limits.TheConstants.{SCRIPTS}
use Rattle.go_run.specs.declared.setting.Setting.TheVariants as settings
use Rattle.go_run.specs.Words.{Part, may_be, WritesFirst, Writes}
use Rattle.go_run.specs.Found.{Kept, put, Gathers, Collects, Reads, StepsOver}
use Rattle.go_run.specs.declared.found.Found.{Found}
use Rattle.go_run.proofs.WordLemmas.{BeginWith, writes_some}
use Rattle.go_run.proofs.PutLemmas.{same_option, Adds, stays, put_adds, put_ends}

-- what stands behind what was added
behind : (all before more first rest : List (List ℕ)) → more ≡ before ++ first → all ≡ more ++ rest → all ≡ before ++ (first ++ rest)
behind all before more first rest added is = is ∙ ap (λ (m : List (List ℕ)). m ++ rest) added ∙ append_assoc before first rest

from_behind : (all before more first rest : List (List ℕ)) → more ≡ before ++ first → all ≡ before ++ (first ++ rest) → all ≡ more ++ rest
from_behind all before more first rest added is = is ∙ sym (append_assoc before first rest) ∙ ap (λ (m : List (List ℕ)). m ++ rest) (sym added)

gathers_more : (kept more all : Kept) (part : Part) (parts : List Part) → Adds kept part more → Gathers more parts all → Gathers kept (part ∷ parts) all
gathers_more kept more all part parts adds gathers = record {
  vertices = behind _ _ _ _ _ adds.vertices gathers.vertices;
  ring = behind _ _ _ _ _ adds.ring gathers.ring;
  shards = behind _ _ _ _ _ adds.shards gathers.shards;
  log = behind _ _ _ _ _ adds.log gathers.log;
  edges = behind _ _ _ _ _ adds.edges gathers.edges;
  seed = behind _ _ _ _ _ adds.seed gathers.seed;
  files = behind _ _ _ _ _ adds.files gathers.files;
  few = gathers.few;
}

gathers_rest : (kept more all : Kept) (part : Part) (parts : List Part) → Adds kept part more → Gathers kept (part ∷ parts) all → Gathers more parts all
gathers_rest kept more all part parts adds gathers = record {
  vertices = from_behind _ _ _ _ _ adds.vertices gathers.vertices;
  ring = from_behind _ _ _ _ _ adds.ring gathers.ring;
  shards = from_behind _ _ _ _ _ adds.shards gathers.shards;
  log = from_behind _ _ _ _ _ adds.log gathers.log;
  edges = from_behind _ _ _ _ _ adds.edges gathers.edges;
  seed = from_behind _ _ _ _ _ adds.seed gathers.seed;
  files = from_behind _ _ _ _ _ adds.files gathers.files;
  few = gathers.few;
}

-- the words are at their end
no_parts : (kept all : Kept) (parts : List Part) → Writes parts [] → Gathers kept parts all → Some kept ≡ Some all
no_parts kept all [] written gathers =
    let same = λ (a b : Option (List ℕ)) (is : option_to_list b ≡ option_to_list a ++ []). same_option a b (sym (append-nil (option_to_list a)) ∙ sym is) in
    λ i. Some (record {
      vertices = same kept.vertices all.vertices gathers.vertices i;
      ring = same kept.ring all.ring gathers.ring i;
      shards = same kept.shards all.shards gathers.shards i;
      log = same kept.log all.log gathers.log i;
      edges = same kept.edges all.edges gathers.edges i;
      seed = same kept.seed all.seed gathers.seed i;
      files = (sym (append-nil kept.files) ∙ sym gathers.files) i;
    })
no_parts kept all (part ∷ parts) written gathers = absurd (writes_some part written.0 written.1)

pub reads_end : (kept : Kept) → length kept.files ≤ SCRIPTS → Reads kept [] (Some kept)
reads_end kept few = record {
  some = record {
    parts = [];
    written = refl;
    gathers = record {
      vertices = stays kept.vertices;
      ring = stays kept.ring;
      shards = stays kept.shards;
      log = stays kept.log;
      edges = stays kept.edges;
      seed = stays kept.seed;
      files = sym (append-nil kept.files);
      few = few;
    };
  };
  alone = λ all collects. no_parts kept all collects.parts collects.written collects.gathers;
}

-- no words lead anywhere of which no part is written first
pub reads_none : (kept : Kept) (word : List ℕ) (rest : List (List ℕ)) →
    ((other : Part) (others : List (List ℕ)) → WritesFirst other (word ∷ rest) others → ⊥) → Reads kept (word ∷ rest) None
reads_none kept word rest none = record {
  some = tt;
  alone = λ all collects. absurd (no_first collects.parts collects.written);
} where
  no_first : (parts : List Part) → Writes parts (word ∷ rest) → ⊥
  no_first [] written = let h : word ∷ rest ≡ [] = written in absurd (cc)
  no_first (part ∷ parts) written = none part written.0 written.1

module _ (kept : Kept) (word : List ℕ) (rest left : List (List ℕ)) (part : Part) (begin : BeginWith (word ∷ rest) part left) where
  -- one part less
  collects_more : (more all : Kept) → put kept part ≡ Some more → Collects more left all → Collects kept (word ∷ rest) all
  collects_more more all is collects =
      let adds = put_adds kept part more is in
      record {
        parts = part ∷ collects.parts;
        written = (left, record { first = begin.first; spelt = begin.spelt; may = adds.may; split = begin.split }, collects.written);
        gathers = gathers_more kept more all part collects.parts adds collects.gathers;
      }

  -- parts that the words write begin with this one
  rest_of : (all : Kept) (parts : List Part) → Writes parts (word ∷ rest) → Gathers kept parts all →
      (others : List Part) × Writes others left × Gathers kept (part ∷ others) all × IsTrue (may_be part)
  rest_of all [] written gathers = let h : word ∷ rest ≡ [] = written in absurd (cc)
  rest_of all (other ∷ others) written gathers =
      let same = begin.only other written.0 written.1 in (
        others,
        subst (λ (w : List (List ℕ)). Writes others w) same.1 written.2,
        subst (λ (p : Part). Gathers kept (p ∷ others) all) same.0 gathers,
        subst (λ (p : Part). IsTrue (may_be p)) same.0 written.1.may,
      )

  collects_rest : (more all : Kept) → put kept part ≡ Some more → Collects kept (word ∷ rest) all → Collects more left all
  collects_rest more all is collects =
      let others = rest_of all collects.parts collects.written collects.gathers in
      record {
        parts = others.0;
        written = others.1;
        gathers = gathers_rest kept more all part others.0 (put_adds kept part more is) others.2;
      }

  pub reads_part : (more : Kept) → put kept part ≡ Some more → (answer : Option Kept) → Reads more left answer → Reads kept (word ∷ rest) answer
  reads_part more is None reads = record {
    some = tt;
    alone = λ all collects. reads.alone all (collects_rest more all is collects);
  }
  reads_part more is (Some kept_all) reads = record {
    some = collects_more more kept_all is reads.some;
    alone = λ all collects. reads.alone all (collects_rest more all is collects);
  }

  pub reads_no_part : put kept part ≡ None → Reads kept (word ∷ rest) None
  reads_no_part is = record {
    some = tt;
    alone = λ all collects.
        let others = rest_of all collects.parts collects.written collects.gathers in absurd (put_ends kept part others.0 all is others.3 others.2);
  }

-- a step that finds nothing
pub steps_none : (kept : Kept) (words : List (List ℕ)) (result : Option (Found × Bor (List (List ℕ)))) → result ≡ None → Reads kept words None →
    StepsOver kept words result
steps_none kept words result is reads = subst (λ (r : Option (Found × Bor (List (List ℕ)))). StepsOver kept words r) (sym is) reads
