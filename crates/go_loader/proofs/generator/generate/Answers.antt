-- Nothing is generated at first, and each turn generates one entry more.
use Rattle.std.proofs.Common.{◌≡◌, ◌+◌, List, [], ◌∷◌, length, sym, ap, ◌∙◌, subst, arith, length-append}
use Rattle.rand_pcg.proofs.LcgLemmas.{advance_zero}
use Rattle.rand_pcg.specs.Pcg.{multiplier_64}
use Rattle.go_word.specs.declared.edge.Edge.{Edge}
use Rattle.go_loader.specs.Generated.{after_entries, entry, seeded, IsGenerating}
use Rattle.go_loader.proofs.GeneratedLemmas.{generating-none, generating-more}
use Rattle.go_loader.proofs.generator.generate.Goals as goal

pub loop-words-init : goal.loop-words-init
loop-words-init c =
    rw (c.in_ok-reserve_exact.ensures.items, c.clear.ensures.items) (
      omega arith,
      generating-none c.args.x c.args.v c.seed_from_u64-words.result (c.seed_from_u64-words.ensures ∙ sym (advance_zero 64 multiplier_64 (seeded c.args.x))),
    )

pub loop-words-preserved : goal.loop-words-preserved
loop-words-preserved c =
    let entries : c.deref.result.now ≡ c.loop-words.out.items = c.deref.ensures.value in
    let are : IsGenerating c.args.x c.args.v c.deref.result.now c.loop-words.words =
    subst (λ (l : List Edge). IsGenerating c.args.x c.args.v l c.loop-words.words) (sym entries) c.loop-words.invariant.1 in
    rw c.in_ok-push.ensures.items (
      omega (arith, c.loop-words-test.true, c.len.ensures, length-append c.loop-words.out.items (c.next_entry-edge.result ∷ [])),
      generating-more c.args.x c.args.v c.loop-words.out.items c.loop-words.words c.next_entry-edge.new.words c.next_entry-edge.result c.loop-words.invariant.1
          (c.next_entry-edge.ensures.next c.args.x are ∙ ap (λ (l : List Edge). entry c.args.x c.args.v (length l)) entries)
          (c.next_entry-edge.ensures.on c.args.x are ∙ ap (λ (l : List Edge). after_entries c.args.x (length l + 1)) entries),
    )
