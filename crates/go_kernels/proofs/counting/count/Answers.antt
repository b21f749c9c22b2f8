-- The counts of full levels.
use Rattle.std.proofs.Common.{◌≡◌, ℕ, List, ap, sym, subst, ◌∙◌, length}
use Rattle.std.proofs.lemmas.List.{length-replicate}
use Rattle.go_model.specs.Counts.{AreCountsOf}
use Rattle.go_kernels.proofs.CountLemmas.{counted-full, in_place}
use Rattle.go_kernels.proofs.counting.count.Goals as goal

pub returns : goal.returns
returns c =
    let levels = c.args.levels.now in
    let counts = c.count_all.new.counts in
    let items = c.resize.new.self.items in
    let value : c.deref_mut.result.now ≡ items = c.deref_mut.ensures.value in
    let whole : c.resize.new.self.len ≡ length items = sym c.deref_mut.ensures.len ∙ ap (λ (l : List ℕ). length l) value in
    let long : length counts ≡ length items = c.count_all.ensures.same ∙ ap (λ (l : List ℕ). length l) value in
    let deep : length counts ≡ c.depth_of.result = long ∙ sym whole ∙ c.in_ok-resize.ensures.len in
    subst (λ (l : List ℕ). AreCountsOf levels l c.count_all.result) (sym (in_place counts items c.resize.new.self.len long whole))
    (counted-full levels counts c.count_all.result c.depth_of.result c.requires.full c.depth_of.ensures deep c.count_all.ensures.counted)
