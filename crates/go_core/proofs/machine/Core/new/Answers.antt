-- `new`: the machine that begins is tied to each log of as many entries as come before its first position.
use Rattle.std.proofs.Common.{List, replicate, subst, sym, false, arith}
use Rattle.std.proofs.lemmas.List.{length-replicate}
use Rattle.go_word.specs.declared.edge.Edge.{Edge}
use Rattle.go_core.specs.declared.home.Parts.{Parts}
use Rattle.go_core.specs.declared.party.Party.{Party}
use Rattle.go_core.specs.Opening.{opening_parts}
use Rattle.go_core.specs.Machine.{IsTied, machine_of}
use Rattle.go_core.proofs.Openings.{opening_machine}
use Rattle.go_core.proofs.machine.Core.new.Goals as goal

pub returns-clause-tied : goal.returns-clause-tied
returns-clause-tied c =
    λ log long.
    subst (λ (hs : Parts). IsTied (machine_of c.args.n c.args.first c.in_ok-words.words.items c.in_ok-parties.parties.items hs) log) (sym c.opening.ensures)
    (subst (λ (ps : List Party). IsTied (machine_of c.args.n c.args.first c.in_ok-words.words.items ps (opening_parts c.args.first)) log)
    (sym c.in_ok-parties.ensures)
    (opening_machine c.args.n c.args.first c.in_ok-words.words.items c.args.roles.now (omega arith)
    (omega arith) c.in_ok-words.ensures c.requires.one_archiver c.requires.one_flusher log long))

pub invariant_of-result : goal.invariant_of-result
invariant_of-result c =
    let e : Edge = record { del = false; src = 0; dst = 0 } in
    let log : List Edge = replicate c.args.first e in
    record {
      few = omega arith;
      log = log;
      tied = subst (λ (hs : Parts). IsTied (machine_of c.args.n c.args.first c.in_ok-words.words.items c.in_ok-parties.parties.items hs) log)
          (sym c.opening.ensures)
          (subst (λ (ps : List Party). IsTied (machine_of c.args.n c.args.first c.in_ok-words.words.items ps (opening_parts c.args.first)) log)
          (sym c.in_ok-parties.ensures)
          (opening_machine c.args.n c.args.first c.in_ok-words.words.items c.args.roles.now (omega arith)
          (omega arith) c.in_ok-words.ensures c.requires.one_archiver c.requires.one_flusher log (length-replicate c.args.first e)));
    }
