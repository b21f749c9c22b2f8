-- What the sessions of a store come to together, over the one log that they leave.
use Rattle.std.specs.Prelude.{◌≡◌, ◌⊎◌, ℕ, ◌+◌, ◌-◌, ◌<◌, ◌≤◌, nat_lt, Bool, List, [], ◌∷◌, ◌++◌, length, take, map, filter, All, Option, Some, None}
use Rattle.go_word.specs.declared.edge.Edge.{Edge}
use Rattle.go_api.specs.Laid.{Laid, IsWhole}
use Rattle.go_api.specs.Standing.{Terms}
use Rattle.go_api.specs.declared.stop.Stop.{Stop}
use Rattle.go_script.specs.Commands.{put_by}
use Rattle.go_script.specs.declared.puts.Puts.{Puts}
use Rattle.go_script.specs.declared.puts.Puts.TheVariants.{Nothing, Entry, Offered, Listed}
use Rattle.go_session.specs.Asked.{Asked}
use Rattle.go_session.specs.Cut.{shown}
use Rattle.go_session.specs.Session.{SessionState, asked_in, asked_left, put_in, next_entries}
use Rattle.go_session.specs.Walk.{World, Replies, start, walked}

-- what the replies of sessions speak of beside their own positions: a log on these terms
abbrev pub over : Terms → List Edge → List ℕ → World
over terms log own = record {
  first = terms.first;
  vertices = terms.vertices;
  ring = terms.ring;
  told = terms.told;
  own = own;
  log = log;
  known = length log;
}

-- the replies of each session are allowed over one log, with its own positions
abbrev pub AllAllowed : Terms → List (List Edge) → List Edge → List (List ℕ) → List SessionState → Type 0
AllAllowed terms loads log [] [] = Unit {0}
AllAllowed terms loads log [] (session ∷ sessions) = ⊥
AllAllowed terms loads log (own ∷ owns) [] = ⊥
AllAllowed terms loads log (own ∷ owns) (session ∷ sessions) =
    Replies (over terms log own) (start terms.first) (asked_in loads session) session.replies × AllAllowed terms loads log owns sessions

-- whether a command may put nothing
abbrev pub IsOffered : Puts → Type 0
IsOffered (Offered edge) = Unit {0}
IsOffered Nothing = ⊥
IsOffered (Entry edge) = ⊥
IsOffered Listed = ⊥

-- commands without a reply may have put these entries: each its own, but an offer may have put none
abbrev pub MayHavePut : List Asked → List Edge → Type 0
MayHavePut [] edges = edges ≡ []
MayHavePut (a ∷ asked) edges =
    (more : List Edge) × MayHavePut asked more × ((edges ≡ a.entries ++ more) ⊎ (IsOffered (put_by a.command) × (edges ≡ more)))

-- a session put these entries, or would have: those that its replies tell, and then what the commands without a reply may have put
abbrev pub PutsInAll : List (List Edge) → SessionState → List Edge → Type 0
PutsInAll loads session edges = (more : List Edge) × (edges ≡ put_in loads session ++ more) × MayHavePut (asked_left loads session) more

-- the same of each session
abbrev pub AllPut : List (List Edge) → List SessionState → List (List Edge) → Type 0
AllPut loads [] [] = Unit {0}
AllPut loads [] (edges ∷ puts) = ⊥
AllPut loads (session ∷ sessions) [] = ⊥
AllPut loads (session ∷ sessions) (edges ∷ puts) = PutsInAll loads session edges × AllPut loads sessions puts

-- the sessions came to their ends over one log: each command has its reply, all replies are allowed, and the log has all that was put, and nothing else
-- behind the old one
pub record Complete (terms : Terms) (loads : List (List Edge)) (old log : List Edge) (sessions : List SessionState) : Type 0 where
  pub owns : List (List ℕ)
  pub laid : Laid old log owns (map (put_in loads) sessions)
  pub whole : IsWhole owns (map (put_in loads) sessions)
  pub ended : All (λ session. length session.replies ≡ length session.commands) sessions
  pub allowed : AllAllowed terms loads log owns sessions

-- replies are allowed over a log that goes on behind the old one by first entries of what each session put or would have put
pub record HoldOver (terms : Terms) (loads : List (List Edge)) (old log : List Edge) (owns : List (List ℕ)) (sessions : List SessionState) : Type 0 where
  pub puts : List (List Edge)
  pub may : AllPut loads sessions puts
  pub laid : Laid old log owns puts
  pub allowed : AllAllowed terms loads log owns sessions

-- the positions of each session among the log's first entries
abbrev pub owns_below : ℕ → List (List ℕ) → List (List ℕ)
owns_below n owns = map (filter (λ p. nat_lt p n)) owns

-- a session with its replies cut at a front
abbrev pub cut_at : ℕ → ℕ → SessionState → SessionState
cut_at durable first session = record session { replies = shown (Some durable) first session.commands session.replies }

-- of what a session put among the durable entries no reply is held back: besides those that its replies tell there are at most some first ones of its next
-- command, and not all
abbrev pub NoneHeldBack : ℕ → List (List Edge) → List (List ℕ) → List SessionState → Type 0
NoneHeldBack first loads [] [] = Unit {0}
NoneHeldBack first loads [] (session ∷ sessions) = ⊥
NoneHeldBack first loads (own ∷ owns) [] = ⊥
NoneHeldBack first loads (own ∷ owns) (session ∷ sessions) =
    (length own ≤ (walked first session.replies).used + (length (next_entries (asked_left loads session)) - 1)) × NoneHeldBack first loads owns sessions

-- the sessions were stopped, with so many entries of the log durable: cut there, their replies are allowed over each log that has at least these, with the own
-- positions among its entries, and none on durable entries is held back
pub record BrokenOff (terms : Terms) (loads : List (List Edge)) (old log : List Edge) (durable : ℕ) (sessions : List SessionState) : Type 0 where
  pub owns : List (List ℕ)
  pub holds : (n : ℕ) → durable ≤ n → n ≤ length log →
      HoldOver terms loads old (take n log) (owns_below n owns) (map (cut_at durable terms.first) sessions)
  pub none_held_back : NoneHeldBack terms.first loads (owns_below durable owns) (map (cut_at durable terms.first) sessions)

-- what driving sessions comes to, by whether it was stopped
abbrev pub Drives : Terms → List (List Edge) → List Edge → List Edge → ℕ → List SessionState → Option Stop → Type 0
Drives terms loads old log durable sessions None = Complete terms loads old log sessions
Drives terms loads old log durable sessions (Some why) = BrokenOff terms loads old log durable sessions
