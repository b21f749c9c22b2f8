-- Lemmas on waiting lines: how far a script was walked, and the rule over all scripts.
use Rattle.std.proofs.Common.{◌≡◌, ℕ, suc, zero, ◌+◌, ◌<◌, ◌≤◌, ◌⊎◌, inl, inr, List, [], ◌∷◌, length}
use Rattle.std.proofs.Common.{take, get_or, slice_get, Option, Some, None, true, false, refl, sym, subst, ap, ◌∙◌, arith}
use Rattle.std.specs.Prelude.{is_some, IfSome, nat_lt, not}
use Rattle.std.proofs.Math.Seq.{take-length}
use Rattle.std.proofs.lemmas.Bool.{cases_lt, lt-ltb, ltb-true, false≢true}
use Rattle.std.proofs.lemmas.List.Sums.{position_or_len_is, fails_before_first, prefix_len-le-length}
use Rattle.std.proofs.lemmas.Option.{slice_get_within, slice_get-get_or, get_or_from_slice_get}
use Rattle.go_script.specs.declared.command.Command.{Command}
use Rattle.go_script.specs.declared.command.Command.TheVariants.{Sync}
use Rattle.go_script.specs.declared.step.Step.{Step}
use Rattle.go_script.specs.declared.tally.Tally.{Tally}
use Rattle.go_script.specs.Commands.{commands_of}
use Rattle.go_script.specs.Until.{asked_by, loads_in, certain_puts}
use Rattle.go_script.specs.Walked.{tally_at, waits, first_wait, asks_above, Exceeds, NeverExceeds, FirstExceeds}

-- so many first commands were walked, and none of them waits
pub record WalksTo (commands : List Command) (files : List ℕ) (tally : Tally) : Type 0 where
  pub stands : tally ≡ tally_at commands files tally.at
  pub within : tally.at ≤ length commands
  pub passed : (k : ℕ) (command : Command) → k < tally.at → slice_get commands k ≡ Some command → asked_by command ≡ None

-- so many first commands were walked, and none of them asks for too much
pub record JudgedTo (commands : List Command) (files : List ℕ) (others : ℕ) (tally : Tally) : Type 0 where
  pub stands : tally ≡ tally_at commands files tally.at
  pub within : tally.at ≤ length commands
  pub passed : (k : ℕ) → k < tally.at → Exceeds commands files others k → ⊥

-- before the first command
pub WalksTo_start : (commands : List Command) (files : List ℕ) (tally : Tally) → tally ≡ tally_at commands files 0 → WalksTo commands files tally
WalksTo_start commands files tally start = subst (λ (t : Tally). WalksTo commands files t) (sym start)
    (record { stands = refl; within = omega arith; passed = λ k command below here. absurd (omega (arith, below)) })

-- below a number and one, or below the number, or the number
pub below_next : (k n : ℕ) → k < n + 1 → (k < n) ⊎ (k ≡ n)
below_next k n below = elim (cases_lt k n) [
  | inl less ↦ inl less
  | inr least ↦ inr (omega (arith, least, below))
]

-- one command more that doesn't wait
pub WalksTo_next : (commands : List Command) (files : List ℕ) (tally next : Tally) (command : Command) → WalksTo commands files tally →
    slice_get commands tally.at ≡ Some command → asked_by command ≡ None → next ≡ tally_at commands files (tally.at + 1) → WalksTo commands files next
WalksTo_next commands files tally next command walks here goes_on is = subst (λ (t : Tally). WalksTo commands files t) (sym is)
    (record { stands = refl; within = omega (arith, slice_get_within commands tally.at command here); passed = passed })
  where
    passed : (k : ℕ) (other : Command) → k < tally.at + 1 → slice_get commands k ≡ Some other → asked_by other ≡ None
    passed k other below there = elim (below_next k tally.at below) [
      | inl less ↦ walks.passed k other less there
      | inr last ↦
          let at : slice_get commands tally.at ≡ Some other = subst (λ (n : ℕ). slice_get commands n ≡ Some other) last there in
          let same : command ≡ other = cc in
          subst (λ (c : Command). asked_by c ≡ None) same goes_on
    ]

-- a command doesn't wait where nothing is asked
pub asked-none : (command : Command) → waits command ≡ false → asked_by command ≡ None
asked-none command fails = none (asked_by command) fails
  where
    none : (asked : Option ℕ) → is_some asked ≡ false → asked ≡ None
    none None is = refl
    none (Some n) is = absurd (false≢true (sym is))

-- commands that were passed don't wait
passed-waits : (commands : List Command) (files : List ℕ) (tally : Tally) → WalksTo commands files tally → (k : ℕ) → k < tally.at →
    waits (get_or commands k Sync) ≡ false
passed-waits commands files tally walks k below =
    let none : asked_by (get_or commands k Sync) ≡ None =
    walks.passed k (get_or commands k Sync) below (slice_get-get_or commands k Sync (omega (arith, below, walks.within))) in
    ap is_some none

-- a command that waits is the first one
pub WalksTo_wait : (commands : List Command) (files : List ℕ) (tally : Tally) (command : Command) → WalksTo commands files tally →
    slice_get commands tally.at ≡ Some command → waits command ≡ true → tally ≡ tally_at commands files (first_wait commands)
WalksTo_wait commands files tally command walks here wait =
    let first : first_wait commands ≡ tally.at = position_or_len_is waits commands tally.at Sync walks.within (passed-waits commands files tally walks)
    (λ within. ap waits (get_or_from_slice_get commands tally.at command Sync here) ∙ wait) in
    walks.stands ∙ ap (tally_at commands files) (sym first)

-- no command waits
pub WalksTo_all : (commands : List Command) (files : List ℕ) (tally : Tally) → WalksTo commands files tally → length commands ≤ tally.at →
    tally ≡ tally_at commands files (first_wait commands)
WalksTo_all commands files tally walks all =
    let first : first_wait commands ≡ tally.at = position_or_len_is waits commands tally.at Sync walks.within (passed-waits commands files tally walks)
    (λ within. absurd (omega (arith, within, all))) in
    walks.stands ∙ ap (tally_at commands files) (sym first)

-- a command that waits is no command before the first one that waits
Exceeds-waits : (commands : List Command) (files : List ℕ) (others k : ℕ) → Exceeds commands files others k → waits (get_or commands k Sync) ≡ false → ⊥
Exceeds-waits commands files others k exceeds fails =
    let asks : waits exceeds.command ≡ true = ap is_some exceeds.asks in
    let here : get_or commands k Sync ≡ exceeds.command = get_or_from_slice_get commands k exceeds.command Sync exceeds.comes in
    false≢true (sym fails ∙ ap waits here ∙ asks)

-- before the first command that waits none asks for too much
pub JudgedTo_start : (commands : List Command) (files : List ℕ) (others : ℕ) (tally : Tally) → tally ≡ tally_at commands files (first_wait commands) →
    JudgedTo commands files others tally
JudgedTo_start commands files others tally start = subst (λ (t : Tally). JudgedTo commands files others t) (sym start) (record {
  stands = refl;
  within = prefix_len-le-length (λ c. not (waits c)) commands;
  passed = λ k below exceeds. Exceeds-waits commands files others k exceeds (fails_before_first waits commands k Sync below);
})

-- a command that doesn't ask for more than is certain
pub stays_below : (commands : List Command) (files : List ℕ) (others : ℕ) (tally : Tally) (command : Command) → tally ≡ tally_at commands files tally.at →
    slice_get commands tally.at ≡ Some command → asks_above (asked_by command) (tally.puts + others) ≡ false → Exceeds commands files others tally.at → ⊥
stays_below commands files others tally command stands here below exceeds =
    let there = exceeds.comes in
    let same : command ≡ exceeds.command = cc in
    let puts : tally.puts ≡ certain_puts (take tally.at commands) files = ap (λ (t : Tally). t.puts) stands in
    let above : asks_above (asked_by command) (tally.puts + others) ≡ nat_lt (tally.puts + others) exceeds.asked =
    ap (λ (a : Option ℕ). asks_above a (tally.puts + others)) (ap asked_by same ∙ exceeds.asks) in
    let more : nat_lt (tally.puts + others) exceeds.asked ≡ true = lt-ltb (tally.puts + others) exceeds.asked (omega (arith, puts, exceeds.too_much)) in
    false≢true (sym below ∙ above ∙ more)

-- one command more that doesn't ask for too much
pub JudgedTo_next : (commands : List Command) (files : List ℕ) (others : ℕ) (tally next : Tally) (command : Command) → JudgedTo commands files others tally →
    slice_get commands tally.at ≡ Some command → asks_above (asked_by command) (tally.puts + others) ≡ false →
    next ≡ tally_at commands files (tally.at + 1) → JudgedTo commands files others next
JudgedTo_next commands files others tally next command judged here below is = subst (λ (t : Tally). JudgedTo commands files others t) (sym is) (record {
  stands = refl;
  within = omega (arith, slice_get_within commands tally.at command here);
  passed = passed;
})
  where
    passed : (k : ℕ) → k < tally.at + 1 → Exceeds commands files others k → ⊥
    passed k less exceeds = elim (below_next k tally.at less) [
      | inl earlier ↦ judged.passed k earlier exceeds
      | inr last ↦ stays_below commands files others tally command judged.stands here below
          (subst (λ (n : ℕ). Exceeds commands files others n) last exceeds)
    ]

-- all commands were judged
pub JudgedTo_all : (commands : List Command) (files : List ℕ) (others : ℕ) (tally : Tally) → JudgedTo commands files others tally →
    length commands ≤ tally.at → (tally.loads ≡ loads_in commands) × NeverExceeds commands files others
JudgedTo_all commands files others tally judged all =
    let at : tally.at ≡ length commands = omega (arith, all, judged.within) in (
      ap (λ (t : Tally). t.loads) judged.stands ∙ ap (λ (n : ℕ). loads_in (take n commands)) at ∙ ap loads_in (take-length commands),
      λ n exceeds. judged.passed n (omega (arith, all, slice_get_within commands n exceeds.command exceeds.comes)) exceeds,
    )

-- the step at a place, and its line
step_at : (steps : List Step) (n line : ℕ) → n < length steps → IfSome (slice_get steps n) (λ step. line ≡ step.line) →
    (step : Step) × (slice_get steps n ≡ Some step) × (line ≡ step.line)
step_at [] n line within is_line = absurd (omega (arith, within))
step_at (step ∷ steps) zero line within is_line = (step, refl, is_line)
step_at (step ∷ steps) (suc n) line within is_line = step_at steps n line (omega (arith, within)) is_line

-- a command that asks for more than is certain
above_exceeds : (commands : List Command) (files : List ℕ) (others : ℕ) (tally : Tally) (command : Command) (asked : Option ℕ) →
    tally ≡ tally_at commands files tally.at → slice_get commands tally.at ≡ Some command → asked_by command ≡ asked →
    asks_above asked (tally.puts + others) ≡ true → Exceeds commands files others tally.at
above_exceeds commands files others tally command None stands here asks above = absurd (false≢true above)
above_exceeds commands files others tally command (Some asked) stands here asks above =
    let puts : tally.puts ≡ certain_puts (take tally.at commands) files = ap (λ (t : Tally). t.puts) stands in
    record {
      command = command;
      comes = here;
      asked = asked;
      asks = asks;
      too_much = omega (arith, puts, ltb-true (tally.puts + others) asked above);
    }

-- a command that asks for too much is the first one
pub JudgedTo_exceeds : (steps : List Step) (files : List ℕ) (others : ℕ) (tally : Tally) (command : Command) (line : ℕ) →
    JudgedTo (commands_of steps) files others tally → slice_get (commands_of steps) tally.at ≡ Some command →
    asks_above (asked_by command) (tally.puts + others) ≡ true → tally.at < length steps →
    IfSome (slice_get steps tally.at) (λ step. line ≡ step.line) → FirstExceeds steps files others line
JudgedTo_exceeds steps files others tally command line judged here above within is_line =
    let at = step_at steps tally.at line within is_line in
    record {
      n = tally.at;
      step = at.0;
      comes = at.1;
      is_line = at.2;
      exceeds = above_exceeds (commands_of steps) files others tally command (asked_by command) judged.stands here refl above;
      first = judged.passed;
    }
