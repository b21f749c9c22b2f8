-- What `put_entries` leads to.
use Rattle.std.proofs.Common.{◌+◌, List, take, false, refl, arith}
use Rattle.std.proofs.lemmas.List.{take_more}
use Rattle.go_word.specs.declared.edge.Edge.{Edge}
use Rattle.go_api.proofs.StandingLemmas.{sees_self}
use Rattle.go_plain.specs.GoingOn.{store_same, store_onwards}
use Rattle.go_plain.specs.Plain.{standing_of}
use Rattle.go_plain.proofs.PutLemmas.{puts_none, puts_more, puts_some, puts_all, may_next}
use Rattle.go_plain.proofs.StandingLemmas.{still_session, still_sound, stays_on}
use Rattle.go_plain.proofs.body.Body.put_entries.Goals as goal

-- what stands where there is no entry
abbrev none : Edge
none = record { del = false; src = 0; dst = 0 }

pub loop-edge-init : goal.loop-edge-init
loop-edge-init g c =
    let st = standing_of g.D.Disk.device c.args.self.now c.args.number in
    record {
      puts = puts_none st (sees_self st);
      stays = record { is_store = c.check.ensures; sessions = refl };
      on = store_same g.D.Disk.device c.args.number c.args.self.now;
    }

pub put-requires-clause-session : goal.put-requires-clause-session
put-requires-clause-session g c =
    still_session g.D.Disk.device c.args.self.now c.loop-edge.self c.args.number c.loop-edge.invariant.stays.sessions c.requires.session

pub put-requires-clause-may : goal.put-requires-clause-may
put-requires-clause-may g c =
    may_next (standing_of g.D.Disk.device c.args.self.now c.args.number)
    (standing_of g.D.Disk.device c.loop-edge.self c.args.number) c.args.edges.now c.loop-edge.edge-index
    none c.loop-edge.last c.loop-edge-test.true c.requires.may c.loop-edge.invariant.puts

pub loop-edge-preserved : goal.loop-edge-preserved
loop-edge-preserved g c =
    let old = c.args.self.now in
    let now = c.loop-edge.self in
    let new = c.put.new.self in
    let number = c.args.number in
    let edges : List Edge = c.args.edges.now in
    let k = c.loop-edge.edge-index in
    record {
      puts = puts_more (standing_of g.D.Disk.device old number) (standing_of g.D.Disk.device now number) (standing_of g.D.Disk.device new number)
          (take k edges) (take (k + 1) edges) _
          c.loop-edge.last c.in-Ok.position (take_more edges k none c.loop-edge-test.true) c.loop-edge.invariant.puts c.in-Ok.ensures.puts;
      stays = stays_on g.D.Disk.device old now new c.loop-edge.invariant.stays c.in-Ok.ensures.stays;
      on = store_onwards g.D.Disk.device number old now new c.loop-edge.invariant.on c.in-Ok.ensures.became;
    }

pub returns-in-Err-clause-puts : goal.returns-in-Err-clause-puts
returns-in-Err-clause-puts g c =
    puts_some (standing_of g.D.Disk.device c.args.self.now c.args.number) (standing_of g.D.Disk.device c.loop-edge.self c.args.number)
    (standing_of g.D.Disk.device c.put.new.self c.args.number) c.args.edges.now c.loop-edge.edge-index c.loop-edge.last c.in-Err.why c.loop-edge-test.true
    c.loop-edge.invariant.puts c.in-Err.ensures.puts

pub returns-in-Err-clause-became : goal.returns-in-Err-clause-became
returns-in-Err-clause-became g c =
    store_onwards g.D.Disk.device c.args.number c.args.self.now c.loop-edge.self c.put.new.self c.loop-edge.invariant.on c.in-Err.ensures.became

pub returns-clause-puts : goal.returns-clause-puts
returns-clause-puts g c =
    puts_all (standing_of g.D.Disk.device c.args.self.now c.args.number)
    (standing_of g.D.Disk.device c.loop-edge.self c.args.number) c.args.edges.now c.loop-edge.edge-index
    c.loop-edge.last (omega (arith, c.loop-edge-test.false)) c.loop-edge.invariant.puts

pub returns-clause-sound : goal.returns-clause-sound
returns-clause-sound g c = still_sound g.D.Disk.device c.args.self.now c.loop-edge.self c.args.number c.loop-edge.invariant.stays c.requires.session
