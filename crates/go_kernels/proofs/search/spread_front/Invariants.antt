-- The loop of `spread_front`.
use Rattle.std.proofs.Common.{◌≡◌, take}
use Rattle.go_model.specs.Graph.{Keeps}
use Rattle.go_model.specs.Search.{spread}
use Rattle.go_kernels.specs.Steps.{KeepsFront}
use Rattle.go_kernels.proofs.search.spread_front.Given as goal

-- the neighbours of the vertices so far are marked and listed, and the graph was read alone
abbrev pub invariant-loop-v : goal.invariant-loop-v
invariant-loop-v g l =
    let graph = g.G.Graph in
    record {
      keeps : Keeps graph.shows graph.ready graph.became l.fn.g l.g;
      spread : l.levels ≡ spread (graph.shows l.fn.g).log l.level l.fn.levels (take l.v-index l.front);
      front : KeepsFront l.level l.fn.levels l.levels l.fn.next.items l.next.items;
    }
