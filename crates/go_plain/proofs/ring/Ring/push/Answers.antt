-- What `push` needs and keeps.
use Rattle.std.proofs.Common.{◌≡◌, ◌+◌, ◌-◌, ◌∙◌, ◌++◌, ◌∷◌, ◌<◌, ◌≤◌, [], ℕ, set, get_or, length, arith, ap, refl, sym, subst, length-append}
use Rattle.std.proofs.lemmas.List.{get_or_read}
use Rattle.go_word.specs.Log.{IsWithin}
use Rattle.go_plain.specs.Ring.{RingState, latest_of}
use Rattle.go_plain.proofs.ChainLemmas.{latest_of-le}
use Rattle.go_plain.proofs.KeptLemmas.{kept_push}
use Rattle.go_plain.proofs.SkipLemmas.{skips_next}
use Rattle.go_plain.proofs.ring.Ring.push.Goals as goal

pub past-skip-requires : goal.past-skip-requires
past-skip-requires c =
    let kept = c.self.invariant in
    let ids : IsWithin (length c.self.inside.latest.items) c.args.edge =
    subst (λ (r : RingState). IsWithin r.vertices c.args.edge) (sym c.self.view_is) c.requires.ids in
    let read : c.index-latest.result.now ≡ get_or c.self.inside.latest.items c.args.edge.src 0 =
    get_or_read c.self.inside.latest.items c.args.edge.src c.index-latest.result.now ids.source c.index-latest.ensures 0 in
    let few = latest_of-le c.args.edge.src c.self.inside.entries.items in
    omega (arith, read, kept.chained.told c.args.edge.src ids.source, few, kept.skipping.count, c.deref.ensures.len)

pub invariant_of-self : goal.invariant_of-self
invariant_of-self c =
    let kept = c.self.invariant in
    let ids : IsWithin (length c.self.inside.latest.items) c.args.edge =
    subst (λ (r : RingState). IsWithin r.vertices c.args.edge) (sym c.self.view_is) c.requires.ids in
    let short : length c.self.inside.entries.items < c.self.inside.room =
    subst (λ (r : RingState). length r.entries < r.room) (sym c.self.view_is) c.requires.room in
    let read : c.index-latest.result.now ≡ get_or c.self.inside.latest.items c.args.edge.src 0 =
    get_or_read c.self.inside.latest.items c.args.edge.src c.index-latest.result.now ids.source c.index-latest.ensures 0 in
    let latest : c.index-latest.result.now ≡ latest_of c.args.edge.src c.self.inside.entries.items = read ∙ kept.chained.told c.args.edge.src ids.source in
    let next = skips_next c.self.inside.entries.items c.self.inside.skips.items c.self.inside.mark c.args.edge.src c.index-latest.result.now
    c.past-skip.result kept.skipping latest c.past-skip.ensures.mark (c.past-skip.ensures.latest
    ∙ rw c.deref.ensures.value refl) in
    let long : length c.push_reserved-3.new.self.items ≡ length c.self.inside.entries.items + 1 = ap length c.push_reserved-3.ensures.items
    ∙ length-append c.self.inside.entries.items (c.args.edge ∷ []) in
    let number : c.len.result ≡ length c.self.inside.entries.items + 1 = omega (arith, long, c.len.ensures) in
    let owners : length c.push_reserved-4.new.self.items ≡ length c.self.inside.owners.items + 1 = ap length c.push_reserved-4.ensures.items
    ∙ length-append c.self.inside.owners.items (c.args.owner ∷ []) in
    kept_push c.self.inside _ c.args.edge c.past-skip.result kept short ids (record {
      entries = c.push_reserved-3.ensures.items;
      owners = owners;
      latest = ap (λ (n : ℕ). set c.self.inside.latest.items c.args.edge.src n) number;
      prior = c.push_reserved-2.ensures.items ∙ ap (λ (n : ℕ). c.self.inside.prior.items ++ n ∷ []) read;
      skips = c.push_reserved.ensures.items;
      room = refl;
      mark = refl;
      memory = record {
        entries = omega (arith, c.push_reserved-3.ensures.capacity, kept.memory.entries);
        owners = omega (arith, c.push_reserved-4.ensures.capacity, kept.memory.owners);
        prior = omega (arith, c.push_reserved-2.ensures.capacity, kept.memory.prior);
        skips = omega (arith, c.push_reserved.ensures.capacity, kept.memory.skips);
      };
    }) next
