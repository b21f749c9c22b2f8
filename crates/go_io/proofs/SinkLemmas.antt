-- Takes of a sink, one after another.
use Rattle.std.proofs.Common.{◌≡◌, ℕ, ◌+◌, ◌-◌, List, [], ◌++◌, length, take, drop, refl, sym, ap, ◌∙◌, append_assoc, append-nil, ◌<◌, arith, length-append}
use Rattle.std.proofs.lemmas.List.{take-append-le}
use Rattle.std.proofs.lemmas.Grind.{common_steps}
use Rattle.std.proofs.Math.Seq.{take-add, take-append-add}
use Rattle.std.specs.Prelude.{Option, None, Some}
use Rattle.go_io.specs.Sink.{SinkState, taken_with, Takes, TakesNothing, TakesPrefix}

-- no byte more changes nothing
pub taken_with-nil : (taken : Option (List ℕ)) → taken_with taken [] ≡ taken
taken_with-nil None = refl
taken_with-nil (Some bytes) = ap Some (append-nil bytes)

-- two pieces, one after the other, are one
pub taken_with-append : (taken : Option (List ℕ)) (xs ys : List ℕ) → taken_with (taken_with taken xs) ys ≡ taken_with taken (xs ++ ys)
taken_with-append None xs ys = refl
taken_with-append (Some bytes) xs ys = ap Some (append_assoc bytes xs ys)

-- a sink that takes a piece and then another has taken both
pub Takes-append : (before mid after : SinkState) (xs ys : List ℕ) → Takes before mid xs → Takes mid after ys → Takes before after (xs ++ ys)
Takes-append before mid after xs ys first second =
    second ∙ (ap (λ taken. taken_with taken ys) first ∙ taken_with-append before.taken xs ys)

-- a slice from n to the end is what is left after n
rest-drop : (n : ℕ) (piece : List ℕ) → take (length piece - n) (drop n piece) ≡ drop n piece
rest-drop n piece = grind (arith, common_steps)

-- the first bytes of a piece, and then the first of the rest of it
pub Takes-take : (before mid after : SinkState) (piece : List ℕ) (n k : ℕ) → Takes before mid (take n piece)
    → Takes mid after (take k (take (length piece - n) (drop n piece))) → Takes before after (take (n + k) piece)
Takes-take before mid after piece n k first second =
    let rest : Takes mid after (take k (drop n piece)) = rw (rest-drop n piece) at second in
    Takes-append before mid after (take n piece) (take k (drop n piece)) first rest ∙ ap (taken_with before.taken) (sym (take-add n k piece))

-- a sink that took nothing has taken none of a piece that isn't empty
pub TakesPrefix-none : (before after : SinkState) (piece : List ℕ) → TakesNothing before after → 0 < length piece → TakesPrefix before after piece
TakesPrefix-none before after piece same some_byte = (0, some_byte, same ∙ sym (taken_with-nil before.taken))

-- part of a piece is part of a longer one
pub TakesPrefix-append : (before after : SinkState) (xs ys : List ℕ) → TakesPrefix before after xs → TakesPrefix before after (xs ++ ys)
TakesPrefix-append before after xs ys (count, short, taken) =
    let long : length (xs ++ ys) ≡ length xs + length ys = length-append xs ys in
    (count, omega arith, taken ∙ ap (taken_with before.taken) (sym (take-append-le count xs ys (omega arith))))

-- a piece, and then part of the next
pub TakesPrefix-after : (before mid after : SinkState) (xs ys : List ℕ) → Takes before mid xs → TakesPrefix mid after ys → TakesPrefix before after (xs ++ ys)
TakesPrefix-after before mid after xs ys first (count, short, second) =
    let long : length (xs ++ ys) ≡ length xs + length ys = length-append xs ys in (
      length xs + count,
      omega arith,
      Takes-append before mid after xs (take count ys) first second
          ∙ ap (taken_with before.taken) (sym (take-append-add xs ys count)),
    )
