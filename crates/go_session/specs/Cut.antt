-- What a reply rests on, and the first replies that rest on a prefix of the log alone.
use Rattle.std.specs.Prelude.{ℕ, ◌+◌, if◌then◌else◌, nat_le, List, [], ◌∷◌, Option, Some, None}
use Rattle.go_api.specs.declared.place.Place.{Place}
use Rattle.go_api.specs.declared.place.Place.TheVariants as held
use Rattle.go_script.specs.declared.command.Command.{Command}
use Rattle.go_report.specs.declared.reply.Reply.{Reply}
use Rattle.go_report.specs.declared.reply.Reply.TheVariants as tells
use Rattle.go_session.specs.Walk.{Walk, Row, row_of, start, after}
use Rattle.go_session.specs.Walk.Row.{value}

-- how many of the log's first entries a place shows, or has come to
abbrev pub shown_at : Place → ℕ
shown_at held.Free = 0
shown_at (held.View front) = front
shown_at (held.Stream cursor) = cursor

-- how many of them a reply rests on that shows no front of its own: those that the view shows of which something is asked, and else those that were seen
abbrev pub read_by : Walk → Row → ℕ
read_by walk (value place command) = shown_at (walk.place_at place)
read_by walk _ = walk.seen

-- how many of the log's first entries a reply rests on: its own entries and all before them, the front that it shows, or what it reads
abbrev pub rest_of : Walk → Row → Reply → ℕ
rest_of walk row (tells.Added position) = position + 1
rest_of walk row (tells.Deleted position) = position + 1
rest_of walk row (tells.Offered position) = position + 1
rest_of walk row (tells.Busy head released) = head
rest_of walk row (tells.Loaded name count (Some last)) = last + 1
rest_of walk row (tells.Loaded name count None) = walk.seen
rest_of walk row (tells.Viewed place front) = front
rest_of walk row (tells.Degree vertex degree) = read_by walk row
rest_of walk row (tells.Neighbours vertex list) = read_by walk row
rest_of walk row (tells.Level root vertex level) = read_by walk row
rest_of walk row (tells.Levels root counts unreached) = read_by walk row
rest_of walk row (tells.Rank list) = read_by walk row
rest_of walk row (tells.Hop vertex list) = read_by walk row
rest_of walk row (tells.Dropped place) = walk.seen
rest_of walk row (tells.Streamed place cursor) = cursor
rest_of walk row (tells.Updated place from to list) = to
rest_of walk row (tells.Closed place) = walk.seen
rest_of walk row (tells.Until asked) = walk.first + asked
rest_of walk row (tells.Synced front) = front
rest_of walk row tells.Compacted = walk.seen

-- the first replies, up to the first that rests on more than told
abbrev pub cut_from : ℕ → Walk → List Command → List Reply → List Reply
cut_from durable walk commands [] = []
cut_from durable walk [] (reply ∷ replies) = []
cut_from durable walk (command ∷ commands) (reply ∷ replies) =
    if nat_le (rest_of walk (row_of command) reply) durable then reply ∷ cut_from durable (after walk reply) commands replies else []

-- the replies of a session over a log that was so long at opening: cut where they rest on more of the log than is durable, or all of them
abbrev pub shown : Option ℕ → ℕ → List Command → List Reply → List Reply
shown None first commands replies = replies
shown (Some durable) first commands replies = cut_from durable (start first) commands replies
