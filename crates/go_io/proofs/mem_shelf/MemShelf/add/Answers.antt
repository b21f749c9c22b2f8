-- The text stands under its name: in the place of the old one, or at the end.
use Rattle.std.proofs.Common.{◌≡◌, ◌∙◌, List, ℕ, length, arith, refl, sym, map, set, subst}
use Rattle.std.specs.Prelude.{Some, None, position, IfSome}
use Rattle.std.specs.List.{slice_get}
use Rattle.std.proofs.lemmas.List.{with_items_is}
use Rattle.go_io.specs.Entries.{held_of, stock_of}
use Rattle.go_io.specs.MemShelf.{is_named, PutsText}
use Rattle.go_io.specs.declared.mem_shelf.Entry.{Entry}
use Rattle.go_io.proofs.PutLemmas.{with_held, puts_in_place, puts_at_end}
use Rattle.go_io.proofs.mem_shelf.MemShelf.add.Goals as goal

pub returns-in-Some-clause-ok : goal.returns-in-Some-clause-ok
returns-in-Some-clause-ok c =
    let entries = c.self.inside.entries.items in
    let place : Some c.in-Some.place ≡ position (λ entry. is_named c.args.name.now (held_of entry)) entries =
    rw (c.deref.ensures.value, c.bytes.ensures) at c.in-Some.ensures in
    let changed : IfSome (slice_get (map held_of entries) c.in-Some.place) (λ one.
    map held_of c.replace_bytes.new.entries ≡ set (map held_of entries) c.in-Some.place (record one { bytes = c.in_ok-bytes.bytes.items })) =
    rw c.deref_mut.ensures.value at c.replace_bytes.ensures in
    let P : List Entry → Type 0 = λ after.
    PutsText (stock_of c.self.inside) (with_held (stock_of c.self.inside) (map held_of after)) c.args.name.now c.in_ok-bytes.bytes.items in
    let kept : length c.replace_bytes.new.entries ≡ c.self.inside.entries.len = omega (arith, c.deref_mut.ensures.len, c.replace_bytes.auto.entries) in
    rw (← c.self.view_is, ← c.in_ok-bytes.ensures.items)
    (subst P (sym (with_items_is c.self.inside.entries c.replace_bytes.new.entries kept))
    (puts_in_place (stock_of c.self.inside) entries c.replace_bytes.new.entries c.args.name.now c.in_ok-bytes.bytes.items c.in-Some.place place changed))

pub returns-in_ok-push-in-None-clause-ok : goal.returns-in_ok-push-in-None-clause-ok
returns-in_ok-push-in-None-clause-ok c =
    let entries = c.self.inside.entries.items in
    let one_name : c.in_ok-name-in-None.name ≡ c.args.name.now = c.in_ok-name-in-None.ensures ∙ c.as_text.ensures in
    let place : None ≡ position (λ entry. is_named c.args.name.now (held_of entry)) entries =
    rw (c.deref.ensures.value, c.bytes.ensures) at c.in-None.ensures in
    let P : List ℕ → Type 0 = λ name. None ≡ position (λ entry. is_named name (held_of entry)) entries in
    rw (← c.self.view_is, c.in_ok-push-in-None.ensures.items, ← c.in_ok-bytes.ensures.items, ← one_name)
    (puts_at_end (stock_of c.self.inside) entries (record {
      name = c.in_ok-name-in-None.name;
      bytes = c.in_ok-bytes.bytes;
      faults =
          c.self.inside.other_faults;
    }) refl (subst P (sym one_name) place))
