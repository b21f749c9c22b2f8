-- `append`: what the gate's opening leaves, read as logs.
use Rattle.std.proofs.Common.{◌≡◌, ℕ, ◌+◌, List, [], ◌∷◌, ◌++◌, length, sym, ap, subst, ◌∙◌, arith}
use Rattle.go_blocks.specs.declared.layout.TheConstants.{CLOSED}
use Rattle.go_blocks.specs.declared.log_file.BlockPlace.{BlockPlace}
use Rattle.go_text.specs.Causes.{Rose}
use Rattle.go_word.specs.declared.edge.Edge.{Edge}
use Rattle.go_durable.specs.Moments.{LeavesOnly}
use Rattle.go_durable.specs.Recovery.{IsBeforeOrAfter}
use Rattle.go_durable.specs.Standing.{IsShut, IsLog}
use Rattle.go_durable.specs.Writing.{IsShutOrOpened, IsOpenedOn, StaysShut, TellsOn}
use Rattle.go_durable.proofs.Growing.{append_moments, append_spends, append_grows, sound_more}
use Rattle.go_durable.proofs.durable_log.DurableLog.append.Given.{Over}
use Rattle.go_durable.proofs.durable_log.DurableLog.append.Goals.{After-open_behind}
use Rattle.go_durable.proofs.durable_log.DurableLog.append.Goals as goal

-- the moments of the gate's opening
moments : (g : Over) (c : After-open_behind g) (log : List Edge) → IsLog g.D.Disk.device c.args.self log →
    LeavesOnly g.D.Disk.device c.args.self.disk c.open_behind.new.disk (IsBeforeOrAfter c.args.self.vertices log c.args.edges.now)
moments g c log is =
    append_moments g.D.Disk.device log c.args.edges.now c.args.self c.open_behind.new.disk c.self.inside.gate
    (c.self.inside.gate + 1 + length c.deref.result.now) c.deref.result.now
    c.requires.count c.requires.within (c.deref.ensures.value ∙ c.in-Ok.ensures.body) (ap (λ k. k.gate) c.self.view_is)
    (subst (λ (d : g.row.D.Denot). (front inner : List ℕ) → IsShut g.D.Disk.device front d → c.self.inside.gate ≡ length front
    → c.deref.result.now ≡ inner ++ CLOSED ∷ [] →
    LeavesOnly g.D.Disk.device d c.open_behind.new.disk
    (IsShutOrOpened (g.D.Disk.device.contents d) (c.self.inside.gate + 1 + length c.deref.result.now) front inner))
    (ap (λ k. k.disk) c.self.view_is) c.open_behind.ensures.moments) is

pub returns-in_default-open_behind-clause-moments : goal.returns-in_default-open_behind-clause-moments
returns-in_default-open_behind-clause-moments g c = moments g (goal.at.returns-in_default-open_behind-clause-moments g c).After-open_behind

pub returns-in_default-open_behind-clause-answer : goal.returns-in_default-open_behind-clause-answer
returns-in_default-open_behind-clause-answer g c = (
  subst (λ (d : g.row.D.Denot). Rose (g.D.Disk.device.faults d) (g.D.Disk.device.faults c.open_behind.new.disk))
      (ap (λ k. k.disk) c.self.view_is) c.in_default-open_behind.ensures.cause.failed,
  append_spends g.D.Disk.device c.args.edges.now c.args.self c.open_behind.new.disk c.self.inside.gate
      g.met.D.Disk.rules (ap (λ k. k.gate) c.self.view_is) (returns-in_default-open_behind-clause-moments g c)
      (subst (λ (d : g.row.D.Denot). (front : List ℕ) → IsShut g.D.Disk.device front d → c.self.inside.gate ≡ length front
      → StaysShut (g.D.Disk.device.contents d) (g.D.Disk.device.base c.open_behind.new.disk) front)
      (ap (λ k. k.disk) c.self.view_is) c.in_default-open_behind.ensures.failed)
      (subst (λ (d : g.row.D.Denot). TellsOn g.D.Disk.device d c.open_behind.new.disk) (ap (λ k. k.disk) c.self.view_is) c.open_behind.ensures.told),
)

pub returns-clause-moments : goal.returns-clause-moments
returns-clause-moments g c = moments g (goal.at.returns-clause-moments g c).After-open_behind

pub returns-clause-answer : goal.returns-clause-answer
returns-clause-answer g c =
    append_grows g.D.Disk.device c.args.edges.now c.args.self _ c.deref.result.now c.self.inside.gate
    (record {
      count = c.requires.count;
      within = c.requires.within;
      body_is = c.deref.ensures.value ∙ c.in-Ok.ensures.body;
      vertices_are = ap (λ k. k.vertices) c.self.view_is;
      front_is = ap (λ k. k.front + length c.args.edges.now) c.self.view_is;
      gate_is = ap (λ k. k.gate + c.len.result) c.self.view_is
          ∙ ap (λ (n : ℕ). c.args.self.gate + n) (c.len.ensures ∙ sym c.deref.ensures.len);
      places_are = c.add_place.ensures
          ∙ ap (λ (p : List BlockPlace). p ++ record { gate = c.self.inside.gate; count = length c.args.edges.now } ∷ []) c.in-Ok.ensures.places
          ∙ ap (λ k. k.places ++ record { gate = k.gate; count = length c.args.edges.now } ∷ []) c.self.view_is;
    })
    (ap (λ k. k.gate) c.self.view_is)
    (subst (λ (d : g.row.D.Denot). (front inner : List ℕ) → IsShut g.D.Disk.device front d → c.self.inside.gate ≡ length front
    → c.deref.result.now ≡ inner ++ CLOSED ∷ [] →
    IsOpenedOn g.D.Disk.device front inner d c.open_behind.new.disk) (ap (λ k. k.disk) c.self.view_is) c.in-Ok-open_behind.ensures.done)

pub invariant_of-result-2 : goal.invariant_of-result-2
invariant_of-result-2 g c =
    sound_more c.self.inside.vertices c.self.inside.front c.self.inside.gate c.len.result c.self.inside.places.items c.add_place.new.places.items
    c.args.edges.now c.deref.result.now
    c.self.invariant c.requires.count (omega (arith, ap (λ k. k.front) c.self.view_is)) (c.deref.ensures.value ∙ c.in-Ok.ensures.body) (c.len.ensures
    ∙ sym c.deref.ensures.len)
    (c.add_place.ensures ∙ ap (λ (p : List BlockPlace). p ++ record { gate = c.self.inside.gate; count = length c.args.edges.now } ∷ []) c.in-Ok.ensures.places)
