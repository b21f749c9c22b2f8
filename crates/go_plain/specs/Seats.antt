-- What a store keeps for each of its sessions.
use Rattle.std.specs.Prelude.{◌≡◌, ℕ, ◌-◌, ◌≤◌, List, length, set, get_or, replicate, All, sum_by}
use Rattle.std.specs.List.{flat_map}
use Rattle.go_api.specs.Standing.{ShowsUpTo, all_free}
use Rattle.go_api.specs.declared.place.TheConstants.{PLACES}
use Rattle.go_plain.specs.Views.{views_of}
use Rattle.go_plain.specs.declared.seat.Seat.{Seat}

-- what stands where there is no session
abbrev pub no_seat : Seat
no_seat = record { seen = 0; quota = 0; places = all_free }

-- the seat of a session, by its number; they count from 1
abbrev pub seat_at : List Seat → ℕ → Seat
seat_at seats number = get_or seats (number - 1) no_seat

-- the seats, with another one of a session
abbrev pub seats_with : List Seat → ℕ → Seat → List Seat
seats_with seats number seat = set seats (number - 1) seat

-- how many entries the sessions may yet put
abbrev pub total_quota : List Seat → ℕ
total_quota seats = sum_by (λ seat. seat.quota) seats

-- the fronts of the views of all sessions
abbrev pub all_views : List Seat → List ℕ
all_views seats = flat_map (λ seat. views_of seat.places) seats

-- a session saw the log from its first entries on up to some front, and its places show no more
pub record IsSeated (first head : ℕ) (seat : Seat) : Type 0 where
  pub from : first ≤ seat.seen
  pub to : seat.seen ≤ head
  pub count : length seat.places ≡ PLACES
  pub shown : All (ShowsUpTo seat.seen) seat.places

-- the seat of a session that did nothing yet: it saw so many entries, and may put so many
abbrev pub new_seat : ℕ → ℕ → Seat
new_seat seen quota = record { seen = seen; quota = quota; places = all_free }
