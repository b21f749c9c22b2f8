-- What a reader that is cut short says of all its bytes.
use Rattle.std.proofs.Common.{◌≡◌, ℕ, ◌+◌, ◌-◌, ◌^◌, ◌<◌, ◌≤◌, min, List, length, take, sym, ap, ◌∙◌, arith, length-take}
use Rattle.std.proofs.lemmas.List.{take_all}
use Rattle.std.specs.Prelude.{Option, None, Some, IfSome}
use Rattle.std.specs.Option.{option_map}
use Rattle.go_io.specs.Shelf.{FetchesText}
use Rattle.go_io.specs.declared.shelf.Fetched.TheVariants.{Whole}

-- fewer bytes than were asked for are all of them
all_read : (text out : List ℕ) (most : ℕ) → out ≡ take most text → length out < most → text ≡ out
all_read text out most read short =
    let long : length out ≡ min most (length text) = ap length read ∙ length-take most text in
    sym (read ∙ take_all most text (omega arith))

-- at most the limit came, where one more was asked for
pub whole_read : (known : Option (List ℕ)) (out : List ℕ) (limit : ℕ)
    → IfSome (option_map (take (min (limit + 1) (2 ^ 64 - 1))) known) (λ xs. out ≡ xs)
    → length out ≤ limit → length out < 2 ^ 64 - 1 → IfSome known (λ text. FetchesText (Some text) limit out Whole)
whole_read None out limit read within small = tt
whole_read (Some text) out limit read within small = (ap Some (all_read text out _ read (omega arith)), within)
