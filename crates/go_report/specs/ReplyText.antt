-- The texts of replies and of whole sessions.
use Rattle.std.specs.Prelude.{◌≡◌, ℕ, Bool, true, false, List, [], ◌∷◌, ◌++◌, Option, Some, None, length, take, flat_map, codes, decimal}
use Rattle.go_word.specs.declared.edge.Edge.{Edge}
use Rattle.go_word.specs.declared.ranked.Ranked.{Ranked}
use Rattle.go_report.specs.declared.reply.Reply.{Reply}
use Rattle.go_report.specs.declared.reply.Reply.TheVariants.{Added, Deleted, Offered, Busy, Loaded, Viewed, Degree, Neighbours, Level, Levels, Rank, Hop}
use Rattle.go_report.specs.declared.reply.Reply.TheVariants.{Dropped, Streamed, Updated, Closed, Until, Synced, Compacted}

-- a text as a line: a line feed ends it
abbrev pub as_line : List ℕ → List ℕ
as_line text = text ++ 10 ∷ []

-- the items of a list: one blank before each number
abbrev pub items_of : List ℕ → List ℕ
items_of list = flat_map (λ n. codes " " ++ decimal n) list

-- the items of a list of vertices with their degrees: one blank before each
abbrev pub ranks_of : List Ranked → List ℕ
ranks_of list = flat_map (λ r. codes " " ++ decimal r.vertex ++ codes "=" ++ decimal r.degree) list

-- an entry is an addition or a deletion
abbrev pub sign_of : Bool → List ℕ
sign_of false = codes "+ "
sign_of true = codes "- "

-- entries of the log, each a line of its own
abbrev pub entries_of : List Edge → List ℕ
entries_of list = flat_map (λ e. as_line (sign_of e.del ++ decimal e.src ++ codes " " ++ decimal e.dst)) list

-- what a load tells of the last position: nothing where it put no entry
abbrev pub last_of : Option ℕ → List ℕ
last_of None = []
last_of (Some position) = codes ", last " ++ decimal position

-- a level, or that there is none
abbrev pub level_of : Option ℕ → List ℕ
level_of None = codes "none"
level_of (Some level) = decimal level

-- that a ring is full
abbrev pub busy_text : ℕ → ℕ → List ℕ
busy_text head released = as_line (codes "busy " ++ decimal head ++ codes " " ++ decimal released)

-- how many entries a load put, and where the last one stands
abbrev pub loaded_text : List ℕ → ℕ → Option ℕ → List ℕ
loaded_text name count last = as_line (codes "load " ++ name ++ codes ": " ++ decimal count ++ codes " edges" ++ last_of last)

-- what was begun at a place, and at which front
abbrev pub place_text : List ℕ → ℕ → ℕ → List ℕ
place_text word place front = as_line (word ++ decimal place ++ codes " at " ++ decimal front)

-- how many neighbours a vertex has
abbrev pub degree_text : ℕ → ℕ → List ℕ
degree_text vertex degree = as_line (codes "degree " ++ decimal vertex ++ codes ": " ++ decimal degree)

-- what lies about a vertex
abbrev pub list_text : List ℕ → ℕ → List ℕ → List ℕ
list_text word vertex list = as_line (word ++ decimal vertex ++ codes ":" ++ items_of list)

-- how far a vertex is from a root
abbrev pub level_text : ℕ → ℕ → Option ℕ → List ℕ
level_text root vertex level = as_line (codes "level " ++ decimal root ++ codes " " ++ decimal vertex ++ codes ": " ++ level_of level)

-- how many vertices are at each level, and how many aren't reached
abbrev pub levels_text : ℕ → List ℕ → ℕ → List ℕ
levels_text root counts unreached = as_line (codes "bfs " ++ decimal root ++ codes ":" ++ items_of counts ++ codes " none " ++ decimal unreached)

-- vertices with their degrees
abbrev pub rank_text : List Ranked → List ℕ
rank_text list = as_line (codes "rank:" ++ ranks_of list)

-- from where to where a stream gave entries
abbrev pub span_text : ℕ → ℕ → ℕ → List ℕ
span_text place from to = as_line (codes "update " ++ decimal place ++ codes " " ++ decimal from ++ codes ".." ++ decimal to)

-- the text of a reply
abbrev pub text_of : Reply → List ℕ
text_of (Added position) = as_line (codes "add " ++ decimal position)
text_of (Deleted position) = as_line (codes "del " ++ decimal position)
text_of (Offered position) = as_line (codes "offer " ++ decimal position)
text_of (Busy head released) = busy_text head released
text_of (Loaded name count last) = loaded_text name count last
text_of (Viewed place front) = place_text (codes "view ") place front
text_of (Degree vertex degree) = degree_text vertex degree
text_of (Neighbours vertex list) = list_text (codes "neigh ") vertex list
text_of (Level root vertex level) = level_text root vertex level
text_of (Levels root counts unreached) = levels_text root counts unreached
text_of (Rank list) = rank_text list
text_of (Hop vertex list) = list_text (codes "hop ") vertex list
text_of (Dropped place) = as_line (codes "drop " ++ decimal place)
text_of (Streamed place cursor) = place_text (codes "stream ") place cursor
text_of (Updated place from to list) = span_text place from to ++ entries_of list
text_of (Closed place) = as_line (codes "close " ++ decimal place)
text_of (Until asked) = as_line (codes "until " ++ decimal asked)
text_of (Synced front) = as_line (codes "sync " ++ decimal front)
text_of Compacted = as_line (codes "compact")

-- the heading of a session, by its number
abbrev pub heading_of : ℕ → List ℕ
heading_of session = as_line (codes "session " ++ decimal session)

-- the texts of replies, one after another
abbrev pub texts_of : List Reply → List ℕ
texts_of replies = flat_map text_of replies

-- the text of a whole session: its heading, and then its replies
abbrev pub text_of_session : ℕ → List Reply → List ℕ
text_of_session session replies = heading_of session ++ texts_of replies

-- the list still begins with what it was
abbrev pub StillBegins : List ℕ → List ℕ → Type 0
StillBegins old new = take (length old) new ≡ old
