-- A handle goes on: from itself, and over calls one after another.
use Rattle.std.specs.Prelude.{◌≡◌, ℕ, ◌+◌, ◌≤◌, List, [], ◌++◌, length, replicate}
use Rattle.std.proofs.Common.{refl, sym, ap, ◌∙◌, subst, arith, append_assoc, length-append}
use Rattle.std.proofs.lemmas.List.{append-nil, replicate-append-replicate}
use Rattle.go_disk.specs.Device.{Device}
use Rattle.go_plain.specs.Plain.{PlainState, HandleState, GrowsBy, KeepsOthers, GoesOnBy, HandleGoesOn}

module _ {D : Type 0} (device : Device D) where
  -- without a call
  pub store_same : (number : ℕ) (store : PlainState D) → GoesOnBy device number store store
  store_same number store = record {
    origin = refl;
    room = refl;
    grows = record { more = []; log = sym (append-nil store.log); owners = sym (append-nil store.owners) };
    others = record { count = refl; each = λ other some apart. refl };
    no_less = omega arith;
    met_stays = λ met. met;
    risen = λ was. was;
  }

  -- some entries of a session, and then some more
  grows_on : (number : ℕ) (one two three : PlainState D) → GrowsBy number one two → GrowsBy number two three → GrowsBy number one three
  grows_on number one two three first later = record {
    more = first.more ++ later.more;
    log = later.log ∙ ap (λ l. l ++ later.more) first.log ∙ append_assoc one.log first.more later.more;
    owners = later.owners ∙ ap (λ l. l ++ replicate (length later.more) number) first.owners
        ∙ append_assoc one.owners (replicate (length first.more) number) (replicate (length later.more) number)
        ∙ ap (λ l. one.owners ++ l) (replicate-append-replicate (length first.more) (length later.more) number
        ∙ ap (λ n. replicate n number) (sym (length-append first.more later.more)));
  }

  -- some calls, and then some more
  pub store_onwards : (number : ℕ) (one two three : PlainState D) → GoesOnBy device number one two → GoesOnBy device number two three
      → GoesOnBy device number one three
  store_onwards number one two three first later = record {
    origin = later.origin ∙ first.origin;
    room = later.room ∙ first.room;
    grows = grows_on number one two three first.grows later.grows;
    others = record {
      count = later.others.count ∙ first.others.count;
      each = λ other some apart. later.others.each other some apart ∙ first.others.each other some apart;
    };
    no_less = omega (arith, first.no_less, later.no_less);
    met_stays = λ met. later.met_stays (first.met_stays met);
    risen = λ was. later.risen (first.risen was);
  }

  -- the same of handles
  pub goes_on_same : (handle : HandleState D) → HandleGoesOn device handle handle
  goes_on_same handle = record { same_number = refl; store = store_same handle.number handle.store }

  pub goes_on_onwards : (one two three : HandleState D) → HandleGoesOn device one two → HandleGoesOn device two three → HandleGoesOn device one three
  goes_on_onwards one two three first later = record {
    same_number = later.same_number ∙ first.same_number;
    store = store_onwards one.number one.store two.store three.store first.store
        (subst (λ n. GoesOnBy device n two.store three.store) first.same_number later.store);
  }
