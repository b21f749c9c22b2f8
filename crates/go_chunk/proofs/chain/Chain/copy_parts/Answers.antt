-- The front is that of the first chunk and then that of what lies behind it.
use Rattle.std.proofs.Common.{◌≡◌, ◌++◌, ◌-◌, [], min, take, length, ap, sym, ◌∙◌, arith}
use Rattle.std.proofs.lemmas.Grind.{common_steps}
use Rattle.std.proofs.lemmas.Result.{on_ok_weaker}
use Rattle.std.specs.Option.{option_map_or}
use Rattle.go_chunk.proofs.CopyLemmas.{copied-both, begins-twice, front-of_view}
use Rattle.go_chunk.proofs.chain.Chain.copy_parts.Goals as goal

pub returns-in-Some-clause-ok : goal.returns-in-Some-clause-ok
returns-in-Some-clause-ok c =
    let counted : c.min-in_first.result ≡ min c.args.k (length c.self.inside.first) = grind (arith, common_steps) in
    let one : c.extend_from_slice.new.self.items ≡ c.args.out.now.items ++ take c.min-in_first.result c.self.inside.first = grind (arith, common_steps) in
    let both = copied-both c.args.out.now.items c.extend_from_slice.new.self.items c.copy_front.new.out.items c.self.inside.first
    c.in-Some.spilled.value c.min-in_first.result c.args.k counted one in
    let all : c.self.inside.first ++ option_map_or (λ spilled. spilled.value) c.self.inside.spilled [] ≡ c.self.inside.first ++ c.in-Some.spilled.value =
    ap (λ b. c.self.inside.first ++ option_map_or (λ spilled. spilled.value) b []) c.in-Some.is in
    let seen : take c.args.k (c.self.inside.first ++ c.in-Some.spilled.value) ≡ take c.args.k c.args.self.now.words = ap (λ l. take c.args.k l) (sym all)
    ∙ front-of_view c.args.k c.self.inside.len (c.self.inside.first
    ++ option_map_or (λ spilled. spilled.value) c.self.inside.spilled []) c.args.self.now.words (ap (λ v. v.words) c.self.view_is) c.requires in
    on_ok_weaker c.copy_front.result (λ two. both (two ∙ ap (λ l. c.extend_from_slice.new.self.items
    ++ take (c.args.k - c.min-in_first.result) l) c.deref.ensures) ∙ ap (λ l. c.args.out.now.items ++ l) seen) c.copy_front.ensures.ok

pub returns-in-Some-clause-kept : goal.returns-in-Some-clause-kept
returns-in-Some-clause-kept c =
    let one : take (length c.args.out.now.items) c.extend_from_slice.new.self.items ≡ c.args.out.now.items = grind (arith, common_steps) in
    begins-twice c.args.out.now.items c.extend_from_slice.new.self.items c.copy_front.new.out.items one c.copy_front.ensures.kept
