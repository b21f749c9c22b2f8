-- What a search in a view found is asked of the entries that the view shows.
use Rattle.std.proofs.Common.{◌≡◌, ℕ, ◌<◌, List, take, get_or, Option, None, refl, sym, subst, arith}
use Rattle.std.proofs.lemmas.List.{get_or_read}
use Rattle.std.proofs.lemmas.Option.{get_or_from_slice_get}
use Rattle.go_word.specs.declared.ranked.Ranked.{Ranked}
use Rattle.go_model.specs.Counts.{AreCounts}
use Rattle.go_model.specs.Levels.{AreLevels, IsLevel}
use Rattle.go_model.specs.Ranks.{IsRank}
use Rattle.go_api.specs.Calls.{IsRead}
use Rattle.go_api.specs.Standing.{Standing}
use Rattle.go_api.specs.declared.place.Place.{Place}
use Rattle.go_api.specs.declared.place.Place.TheVariants.{Free, View}
use Rattle.go_script.specs.declared.command.Command.{Command}
use Rattle.go_script.specs.declared.command.Command.TheVariants as asks
use Rattle.go_report.specs.declared.reply.Reply.{Reply}
use Rattle.go_report.specs.declared.reply.Reply.TheVariants as tells
use Rattle.go_session.specs.Answers.{IsAskedOf}
use Rattle.go_session.specs.Cut.{shown_at}
use Rattle.go_session.specs.Searches.{graph_at}
use Rattle.go_session.specs.Value.{IsValue}

-- a value over the graph of a view is one over the entries that it shows
pub asked_of_graph : (place : ℕ) (command : Command) (reply : Reply) (before after : Standing) → IsRead before after →
    IsValue before.terms.vertices (graph_at place before).log command reply → IsAskedOf place command reply before after
asked_of_graph place command reply before after read value = record {
  read = read;
  value = λ front held.
      let there : get_or before.places place Free ≡ View front = get_or_from_slice_get before.places place (View front) Free held in
      subst (λ (p : Place). IsValue before.terms.vertices (take (shown_at p) before.log.seen) command reply) there value;
}

-- one of all levels
pub level_of_levels : (place root vertex : ℕ) (levels : List (Option ℕ)) (level : Option ℕ) (before after : Standing) → IsRead before after →
    AreLevels (graph_at place before).log before.terms.vertices root levels → vertex < before.terms.vertices → level ≡ get_or levels vertex level →
    IsAskedOf place (asks.Level place root vertex) (tells.Level root vertex level) before after
level_of_levels place root vertex levels level before after read are there is =
    let same : level ≡ get_or levels vertex None = get_or_read levels vertex level (omega (arith, are.all)) is None in
    asked_of_graph place (asks.Level place root vertex) (tells.Level root vertex level) before after read
    (level, refl, subst (λ (l : Option ℕ). IsLevel (graph_at place before).log root vertex l) (sym same) (are.each vertex there))

-- a rank
pub rank_of_graph : (place count : ℕ) (list : List Ranked) (before after : Standing) → IsRead before after →
    IsRank (graph_at place before).log before.terms.vertices count list →
    IsAskedOf place (asks.Rank place count) (tells.Rank list) before after
rank_of_graph place count list before after read is =
    asked_of_graph place (asks.Rank place count) (tells.Rank list) before after read (list, refl, is)

-- how many vertices are at each level
pub counts_of_graph : (place root unreached : ℕ) (counts : List ℕ) (before after : Standing) → IsRead before after →
    AreCounts (graph_at place before).log before.terms.vertices root counts unreached →
    IsAskedOf place (asks.Bfs place root) (tells.Levels root counts unreached) before after
counts_of_graph place root unreached counts before after read are =
    asked_of_graph place (asks.Bfs place root) (tells.Levels root counts unreached) before after read (counts, unreached, refl, are)
