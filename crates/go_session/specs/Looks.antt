-- What a step that waits has seen: the store's own look at the log.
use Rattle.std.specs.Prelude.{◌≡◌, ℕ, ◌+◌, length, slice_get, Some}
use Rattle.go_api.specs.Standing.{Standing}
use Rattle.go_api.specs.declared.answers.Reached.{Reached}
use Rattle.go_api.specs.declared.answers.Reached.TheVariants.{NotYet}
use Rattle.go_script.specs.declared.command.Command.TheVariants.{Until}
use Rattle.go_session.specs.Session.{SessionState}
use Rattle.go_session.specs.declared.session.Step.{Step}
use Rattle.go_session.specs.declared.session.Step.TheVariants.{Did, Waits, Ended, Stopped}

-- the next command is an `until`, and the store, asked for its front, looked and saw so much
abbrev pub LooksFor : (ℕ → Reached → Type 0) → ℕ → SessionState → Standing → Type 0
LooksFor looked seen session before =
    (asked : ℕ) × (slice_get session.commands (length session.replies) ≡ Some (Until asked)) × looked (before.terms.first + asked) (NotYet seen)

-- what the store promises of its look holds where a step waits
abbrev pub HasLooked : (ℕ → Reached → Type 0) → Step → SessionState → Standing → Type 0
HasLooked looked Did session before = Unit {0}
HasLooked looked (Waits seen) session before = LooksFor looked seen session before
HasLooked looked Ended session before = Unit {0}
HasLooked looked (Stopped why) session before = Unit {0}
