-- What `read_file` keeps and leads to.
use Rattle.std.proofs.Common.{◌≤◌, [], length, map, refl, sym, ap, subst, ◌∙◌, arith}
use Rattle.std.specs.Prelude.{Option}
use Rattle.go_api.specs.declared.stop.Stop.{Stop}
use Rattle.go_durable.specs.Journal.{Keeps, KeepsOn, journal_front}
use Rattle.go_durable.specs.JournalRanging.{HasRanged}
use Rattle.go_durable.specs.declared.journal.Journal.{Journal}
use Rattle.go_plain.specs.Past.{log_of}
use Rattle.go_plain.specs.Plain.{PlainState}
use Rattle.go_plain.proofs.PastLemmas.{journal_there}
use Rattle.go_plain.proofs.ReadingLemmas.{adds_log}
use Rattle.go_plain.proofs.StandingLemmas.{stays_store}
use Rattle.go_plain.proofs.StoreLemmas.{plain_flushed, flush_is}
use Rattle.go_plain.proofs.body.Body.read_file.Goals.{in-None-stop, in-Some-stop}
use Rattle.go_plain.proofs.body.Body.read_file.Goals as goal

pub read_range-journal-requires-clause-within : goal.read_range-journal-requires-clause-within
read_range-journal-requires-clause-within g c =
    let journal = journal_there c.self.inside.opened.value.disk c.self.inside.journal c.in-Some.journal (sym c.take.ensures.value ∙ c.in-Some.is) in
    let within = subst (λ (s : PlainState _). c.args.to ≤ s.moved) (sym c.self.view_is) c.requires.within in
    let durable = subst (λ (j : Journal _). c.self.inside.moved ≤ journal_front j) journal c.self.invariant.1.moved_durable in
    omega (arith, within, durable)

pub invariant_of-self : goal.invariant_of-self
invariant_of-self g c =
    let opened = c.self.inside.opened.value.disk in
    let journal = journal_there opened c.self.inside.journal c.in-Some.journal (sym c.take.ensures.value ∙ c.in-Some.is) in
    let new = c.read_range-journal.result.journal in
    let kept = journal_there opened c.replace.new.self new c.replace.ensures.after in
    let on = subst (λ (j : Journal _). KeepsOn g.D.Disk.device [] j new) (sym journal) c.read_range-journal.ensures.keeps in (
      rw c.replace.ensures.after refl,
      rw kept (plain_flushed g.D.Disk.device _ c.self.inside.ring c.self.inside.shards.items c.self.invariant.1 [] new refl on),
      c.self.invariant.2,
    )

pub returns-clause-only : goal.returns-clause-only
returns-clause-only g c =
    let opened = c.self.inside.opened.value.disk in
    let journal = journal_there opened c.self.inside.journal c.in-Some.journal (sym c.take.ensures.value ∙ c.in-Some.is) in
    let new = c.read_range-journal.result.journal in
    let kept = journal_there opened c.replace.new.self new c.replace.ensures.after in
    let was = ap (λ (s : PlainState _). s.journal) (sym c.self.view_is) ∙ journal in
    record {
      same = flush_is _ c.args.self.now _ c.self.view_is;
      no_less = rw (was, kept) c.read_range-journal.ensures.keeps.no_less;
      met_stays = rw (was, kept) c.read_range-journal.ensures.keeps.met_stays;
    }

pub returns-clause-stays : goal.returns-clause-stays
returns-clause-stays g c =
    stays_store g.D.Disk.device c.args.self.now _ c.self.inside.ring c.self.inside.shards.items (ap (λ (s : PlainState _). length s.seats) c.self.view_is)
    (invariant_of-self g c).1

pub returns-clause-adds : goal.returns-clause-adds
returns-clause-adds g c =
    let journal = journal_there c.self.inside.opened.value.disk c.self.inside.journal c.in-Some.journal (sym c.take.ensures.value ∙ c.in-Some.is) in
    let keeps = subst (λ (j : Journal _). Keeps g.D.Disk.device c.self.inside.vertices c.self.inside.first
    (log_of c.self.inside.found.value.items (map (λ one. one.value) c.self.inside.past.items) c.self.inside.ring) c.self.inside.opened.value.disk j) journal
    c.self.invariant.1.keeps in
    elim c.match-stop.branch [
      | in-None-stop w ↦
          let ranged = subst (λ (o : Option Stop). HasRanged g.D.Disk.device
          (record { from = c.args.from; upto = c.args.to; before = c.args.out.now.items; after = c.read_range-journal.new.out.items })
          c.in-Some.journal c.read_range-journal.result.journal o) w.in-None-stop.is c.read_range-journal.ensures.read in
          rw w.result-is (adds_log g.D.Disk.device _ c.args.from c.args.to c.in-Some.journal c.read_range-journal.result.journal c.args.out.now.items
          c.read_range-journal.new.out.items c.requires.order keeps ranged)
      | in-Some-stop w ↦ rw w.result-is tt
    ]
