-- The words stand behind the others, and with the last promised their count is noted.
use Rattle.std.proofs.Common.{◌≡◌, ◌≤◌, ◌+◌, ◌-◌, ℕ, [], length, vec_len, vec_capacity, fold, refl, ap, sym, subst, arith, ◌∙◌}
use Rattle.std.specs.Option.{option_map_or}
use Rattle.go_shard.specs.Lane.{Lane, accepting}
use Rattle.go_shard.proofs.LaneLemmas.{accepted_last, accepted_some}
use Rattle.go_shard.proofs.held.Held.accept.Goals as goal

pub returns-then-self-eq0 : goal.returns-then-self-eq0
returns-then-self-eq0 c =
    let few = subst (λ (l : Lane). length c.args.words.now ≤ l.promised) (sym c.self.view_is) c.requires.promised in
    let floor : ℕ = option_map_or (λ base. base.value.floor) c.self.inside.base 0 in
    let lane : Lane = record {
      base = option_map_or (λ base. base.value.list.items) c.self.inside.base [];
      floor = option_map_or (λ base. base.value.floor) c.self.inside.base 0;
      spare = option_map_or (λ base. vec_capacity base.value.list - vec_len base.value.list) c.self.inside.base 0;
      words = c.self.inside.tail.words;
      versions = c.self.inside.versions.versions;
      retired = c.self.inside.versions.retired;
      promised = c.self.inside.promised;
    } in
    let count : c.floor.result + c.len.result ≡ lane.floor + length c.extend_from_slice.new.self.words = omega (arith, c.floor.ensures, c.len.ensures) in
    let retired = ap (λ (n : ℕ). record lane {
      words = c.extend_from_slice.new.self.words;
      versions = c.note.new.self.versions;
      retired = n;
      promised = c.self.inside.promised - length c.args.words.now;
    }) c.note.ensures.retired in
    retired ∙ accepted_last c.args.front lane c.args.words.now c.extend_from_slice.new.self.words c.note.new.self.versions
    (c.self.inside.promised - length c.args.words.now)
    (c.floor.result + c.len.result) c.requires.some few refl c.if-self-eq0.true c.extend_from_slice.ensures.added count c.note.ensures.noted
    ∙ ap (λ (l : Lane). fold (accepting c.args.front) l c.args.words.now) c.self.view_is

pub returns-else-self-eq0 : goal.returns-else-self-eq0
returns-else-self-eq0 c =
    let few = subst (λ (l : Lane). length c.args.words.now ≤ l.promised) (sym c.self.view_is) c.requires.promised in
    let lane : Lane = record {
      base = option_map_or (λ base. base.value.list.items) c.self.inside.base [];
      floor = option_map_or (λ base. base.value.floor) c.self.inside.base 0;
      spare = option_map_or (λ base. vec_capacity base.value.list - vec_len base.value.list) c.self.inside.base 0;
      words = c.self.inside.tail.words;
      versions = c.self.inside.versions.versions;
      retired = c.self.inside.versions.retired;
      promised = c.self.inside.promised;
    } in
    accepted_some c.args.front lane c.args.words.now c.extend_from_slice.new.self.words
    (c.self.inside.promised - length c.args.words.now) c.requires.some few refl
    c.if-self-eq0.false c.extend_from_slice.ensures.added
    ∙ ap (λ (l : Lane). fold (accepting c.args.front) l c.args.words.now) c.self.view_is
