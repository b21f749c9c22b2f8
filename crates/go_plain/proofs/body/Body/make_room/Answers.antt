-- What `make_room` leads to.
use Rattle.std.proofs.Common.{◌≤◌, Ok, refl, sym, subst, ◌∙◌}
use Rattle.go_plain.specs.Plain.{PlainState, IsStore, HasMadeRoom}
use Rattle.go_plain.proofs.StandingLemmas.{plain_store}
use Rattle.go_plain.proofs.StoreLemmas.{has_room, made_room}
use Rattle.go_plain.proofs.body.Body.make_room.Goals as goal

pub returns : goal.returns
returns g c =
    let some = subst (λ (s : PlainState _). 1 ≤ s.room) c.self.view_is c.self.invariant.1.arranged.pending.some_room in
    record { made = made_room c.args.self.now c.move_out.new.self c.move_out.result some c.move_out.ensures.moved; stays = c.move_out.ensures.stays }

pub returns-then-not-is_full : goal.returns-then-not-is_full
returns-then-not-is_full g c =
    let plain = c.self.invariant.1 in
    let ring = c.self.inside.ring in
    let shards = c.self.inside.shards.items in
    let free = sym c.is_full.ensures.exact ∙ c.if-not-is_full.true in
    record {
      made = subst (λ (s : PlainState _). HasMadeRoom s s (Ok tt)) c.self.view_is (has_room _ ring shards plain.arranged c.is_full.ensures.kept free);
      stays = record {
        is_store = subst (λ (s : PlainState _). IsStore g.D.Disk.device s) c.self.view_is (plain_store g.D.Disk.device _ ring shards plain);
        sessions = refl;
      };
    }
