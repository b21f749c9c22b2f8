-- The loop of `find_all`, and what it leads to.
use Rattle.std.proofs.Common.{◌≡◌, ◌∷◌, List, [], length, ℕ, Some, None, sym, ap, subst, arith, ◌∙◌}
use Rattle.go_run.specs.Found.{Kept, kept_of, nothing_kept, Reads, StepsOver}
use Rattle.go_run.proofs.WordLemmas.{no_words_left}
use Rattle.go_run.proofs.FoundLemmas.{reads_end}
use Rattle.go_run.proofs.words.find_all.Goals as goal

pub loop-word-init : goal.loop-word-init
loop-word-init c = record {
  leads = λ answer reads. subst (λ (k : Kept). Reads k c.args.words.now answer) c.nothing-found.ensures reads;
  few = let none = ap (λ (k : Kept). length k.files) c.nothing-found.ensures in omega arith;
}

pub returns-in_default-clause-reads : goal.returns-in_default-clause-reads
returns-in_default-clause-reads c =
    let kept = kept_of (record {
      vertices = c.loop-word.found.0;
      ring = c.loop-word.found.1.0;
      shards = c.loop-word.found.1.1.0;
      log = c.loop-word.found.1.1.1.0;
      edges = c.loop-word.found.1.1.1.1.0;
      seed = c.loop-word.found.1.1.1.1.1.0;
      files = c.loop-word.found.1.1.1.1.1.1.0;
    }) in
    let none = no_words_left c.loop-word.left.now c.in_default.ensures.cases in
    c.loop-word.invariant.leads (Some kept)
    (subst (λ (l : List (List ℕ)). Reads kept l (Some kept)) (sym none) (reads_end kept c.loop-word.invariant.few))

pub returns-in_default-take_part-clause-reads : goal.returns-in_default-take_part-clause-reads
returns-in_default-take_part-clause-reads c =
    let kept = kept_of (record {
      vertices = c.loop-word.found.0;
      ring = c.loop-word.found.1.0;
      shards = c.loop-word.found.1.1.0;
      log = c.loop-word.found.1.1.1.0;
      edges = c.loop-word.found.1.1.1.1.0;
      seed = c.loop-word.found.1.1.1.1.1.0;
      files = c.loop-word.found.1.1.1.1.1.1.0;
    }) in
    c.loop-word.invariant.leads None
    (subst (λ (l : List (List ℕ)). Reads kept l None) (sym c.in-Some.ensures.cases.0) c.in_default-take_part.ensures)

pub loop-word-smaller : goal.loop-word-smaller
loop-word-smaller c = omega (
  arith,
  c.in-Some-take_part.ensures.1,
  ap (λ (l : List (List ℕ)). length l) c.in-Some.ensures.cases.0,
)

pub loop-word-preserved : goal.loop-word-preserved
loop-word-preserved c =
    let kept = kept_of (record {
      vertices = c.loop-word.found.0;
      ring = c.loop-word.found.1.0;
      shards = c.loop-word.found.1.1.0;
      log = c.loop-word.found.1.1.1.0;
      edges = c.loop-word.found.1.1.1.1.0;
      seed = c.loop-word.found.1.1.1.1.1.0;
      files = c.loop-word.found.1.1.1.1.1.1.0;
    }) in
    record {
      leads = λ answer reads. c.loop-word.invariant.leads answer
          (subst (λ (l : List (List ℕ)). Reads kept l answer) (sym c.in-Some.ensures.cases.0) (c.in-Some-take_part.ensures.0 answer reads));
      few = c.in-Some-take_part.ensures.2 c.loop-word.invariant.few;
    }
