-- What `compact` leads to.
use Rattle.std.proofs.Common.{ap, Err, sym, subst, ◌∙◌}
use Rattle.go_api.specs.declared.stop.Stop.TheVariants as stops
use Rattle.go_api.proofs.StandingLemmas.{sees_on}
use Rattle.go_plain.specs.GoingOn.{store_onwards}
use Rattle.go_plain.specs.Plain.{PlainState, standing_of}
use Rattle.go_plain.proofs.GoingLemmas.{by_moves}
use Rattle.go_plain.proofs.AnsweredLemmas.{cuts_move}
use Rattle.go_plain.proofs.StandingLemmas.{moves_see, moves_stop, still_session, still_sound}
use Rattle.go_plain.proofs.body.Body.compact.Given.{Over}
use Rattle.go_plain.proofs.body.Body.compact.Goals.{After-compact_shards}
use Rattle.go_plain.proofs.body.Body.compact.Goals as goal

pub returns-in-Err-clause-compacts : goal.returns-in-Err-clause-compacts
returns-in-Err-clause-compacts g c =
    moves_stop g.D.Disk.device c.args.self.now c.move_out.new.self c.args.number c.in-Err.why c.in-Err.ensures.moved.only
    (λ is. c.in-Err.ensures.moved.met (ap (λ w. Err w) is))

pub returns-in-Err-clause-sound : goal.returns-in-Err-clause-sound
returns-in-Err-clause-sound g c = still_sound g.D.Disk.device c.args.self.now c.move_out.new.self c.args.number c.in-Err.ensures.stays c.requires.session

pub returns-in-Err-clause-became : goal.returns-in-Err-clause-became
returns-in-Err-clause-became g c =
    by_moves g.D.Disk.device c.args.number c.args.self.now c.move_out.new.self c.in-Err.ensures.moved.only c.in-Err.ensures.stays.is_store.risen
