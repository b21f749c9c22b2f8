-- What becomes of pins by one change after another, whichever list has them.
use Rattle.std.proofs.Common.{◌≡◌, ℕ, true, false, List, sym, refl, ap, ◌∙◌, inl, inr, ⊎_elim, subst}
use Rattle.std.specs.Prelude.{Contains}
use Rattle.std.proofs.lemmas.Bool.{cases_Bool, true≢false}
use Rattle.go_word.specs.declared.pin.Pin.{Pin}
use Rattle.go_word.specs.Pins.{is_named, has_name}
use Rattle.go_core.proofs.PinLaws.{has-in, has-pin}
use Rattle.go_rule.proofs.Lists.{same_number, is_number}
use Rattle.go_views.specs.Pins.{HasGained, HasShifted, HasLost}
use Rattle.go_views.specs.PlaceTurns.{AreSame, HasNewName}

-- what is said of a change of pins is said of the same pins in other lists
abbrev pub IsOfPins : (List Pin → List Pin → Type 0) → Type 0
IsOfPins Becomes = (old old' new new' : List Pin) → AreSame old old' → AreSame new new' → Becomes old new → Becomes old' new'

-- a list has the pins that it has
pub same_itself : (pins : List Pin) → AreSame pins pins
same_itself pins x = (λ there. there, λ there. there)

pub same_back : (xs ys : List Pin) → AreSame xs ys → AreSame ys xs
same_back xs ys same x = ((same x).1, (same x).0)

pub same_further : (xs ys zs : List Pin) → AreSame xs ys → AreSame ys zs → AreSame xs zs
same_further xs ys zs one two x = (λ there. (one x).0 ((two x).0 there), λ there. (two x).1 ((one x).1 there))

pub same_by : (xs ys : List Pin) → ys ≡ xs → AreSame xs ys
same_by xs ys is x = (λ there. subst (λ zs. Contains zs x) is there, λ there. subst (λ zs. Contains zs x) (sym is) there)

-- a name that one of them has the other has, and so with one that it hasn't
pub named_same : (id : ℕ) (xs ys : List Pin) → AreSame xs ys → has_name id xs ≡ true → has_name id ys ≡ true
named_same id xs ys same named =
    let one = has-pin id xs named in
    ap (λ n. has_name n ys) (sym one.2) ∙ has-in ys one.0 ((same one.0).1 one.1)

pub fresh_same : (id : ℕ) (xs ys : List Pin) → AreSame xs ys → has_name id xs ≡ false → has_name id ys ≡ false
fresh_same id xs ys same fresh =
    ⊎_elim (λ (named : has_name id ys ≡ true). absurd (true≢false (sym (named_same id ys xs (same_back xs ys same) named) ∙ fresh))) (λ none. none)
    (cases_Bool (has_name id ys))

-- a pin of a list hasn't a name that none has
pub unnamed : (id : ℕ) (pins : List Pin) (x : Pin) → has_name id pins ≡ false → Contains pins x → is_named id x ≡ false
unnamed id pins x fresh there =
    ⊎_elim
    (λ (is : is_named id x ≡ true).
    absurd (true≢false (sym (ap (λ n. has_name n pins) (sym (is_number x.id id is)) ∙ has-in pins x there) ∙ fresh)))
    (λ other. other) (cases_Bool (is_named id x))

-- each of the changes is one of pins
pub gained_of : (pin : Pin) → IsOfPins (HasGained pin)
gained_of pin old old' new new' olds news g = record {
  fresh = fresh_same pin.id old old' olds g.fresh;
  are = λ x. (
    λ there. ⊎_elim (λ (was : Contains old x). inl ((olds x).1 was)) (λ (is : x ≡ pin). inr is) ((g.are x).0 ((news x).0 there)),
    λ either.
        (news x).1 ((g.are x).1 (⊎_elim (λ (was : Contains old' x). inl ((olds x).0 was)) (λ (is : x ≡ pin). inr is) either)),
  );
}

pub new_name_of : (id : ℕ) → IsOfPins (HasNewName id)
new_name_of id old old' new new' olds news g = (g.0, gained_of (record { id = id; front = g.0 }) old old' new new' olds news g.1)

pub shifted_of : (pin : Pin) → IsOfPins (HasShifted pin)
shifted_of pin old old' new new' olds news s x = (
  λ there.
      ⊎_elim (λ (was : Contains old x × (is_named pin.id x ≡ false)). inl ((olds x).1 was.0, was.1)) (λ (is : x ≡ pin). inr is)
      ((s x).0 ((news x).0 there)),
  λ either.
      (news x).1
      ((s x).1 (⊎_elim (λ (was : Contains old' x × (is_named pin.id x ≡ false)). inl ((olds x).0 was.0, was.1)) (λ (is : x ≡ pin). inr is) either)),
)

pub lost_of : (id : ℕ) → IsOfPins (HasLost id)
lost_of id old old' new new' olds news l x = (
  λ there. let was = (l x).0 ((news x).0 there) in ((olds x).1 was.0, was.1),
  λ was. (news x).1 ((l x).1 ((olds x).0 was.0, was.1)),
)

pub same_of : IsOfPins AreSame
same_of old old' new new' olds news same =
    same_further old' old new' (same_back old old' olds) (same_further old new new' same news)

-- a pin that was put in and then moved was put in there
pub gained_shifted : (id one two : ℕ) (old mid new : List Pin) → HasGained (record { id = id; front = one }) old mid
    → HasShifted (record { id = id; front = two }) mid new → HasGained (record { id = id; front = two }) old new
gained_shifted id one two old mid new g s = record {
  fresh = g.fresh;
  are = λ x. (
    λ there.
        ⊎_elim
        (λ (was : Contains mid x × (is_named id x ≡ false)).
        ⊎_elim (λ (first : Contains old x). inl first)
        (λ (is : x ≡ record { id = id; front = one }). absurd (true≢false (sym (ap (is_named id) is ∙ same_number id) ∙ was.1))) ((g.are x).0 was.0))
        (λ (is : x ≡ record { id = id; front = two }). inr is) ((s x).0 there),
    λ either.
        (s x).1
        (⊎_elim (λ (was : Contains old x). inl ((g.are x).1 (inl was), unnamed id old x g.fresh was))
        (λ (is : x ≡ record { id = id; front = two }). inr is) either),
  );
}

-- one that was put in and then taken away left the pins that there were
pub gained_lost : (pin : Pin) (old mid new : List Pin) → HasGained pin old mid → HasLost pin.id mid new → AreSame old new
gained_lost pin old mid new g l x = (
  λ there.
      let was = (l x).0 there in
      ⊎_elim (λ (first : Contains old x). first)
      (λ (is : x ≡ pin). absurd (true≢false (sym (ap (is_named pin.id) is ∙ same_number pin.id) ∙ was.1))) ((g.are x).0 was.0),
  λ there. (l x).1 ((g.are x).1 (inl there), unnamed pin.id old x g.fresh there),
)

-- one that was put in is there, and has its name
pub gained_there : (pin : Pin) (old new : List Pin) → HasGained pin old new → Contains new pin
gained_there pin old new g = (g.are pin).1 (inr refl)

pub gained_named : (pin : Pin) (old new : List Pin) → HasGained pin old new → has_name pin.id new ≡ true
gained_named pin old new g = has-in new pin (gained_there pin old new g)
