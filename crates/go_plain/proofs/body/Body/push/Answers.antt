-- What `push` keeps and leads to.
use Rattle.std.proofs.Common.{◌≡◌, ◌-◌, ◌≤◌, List, [], ◌∷◌, length, map, sym, ap, subst, ◌∙◌, arith}
use Rattle.go_word.specs.Log.{IsWithin}
use Rattle.go_word.specs.declared.edge.Edge.{Edge}
use Rattle.go_plain.specs.FrontRows.{AreRowsOf}
use Rattle.go_plain.proofs.FrontRowsLemmas.{rows_longer}
use Rattle.go_plain.specs.Past.{log_of, owners_of}
use Rattle.go_plain.specs.Plain.{PlainState, HasSession}
use Rattle.go_plain.specs.Ring.{RingState}
use Rattle.go_plain.specs.Seats.{seat_at, seats_with}
use Rattle.go_plain.proofs.ArrangedLemmas.{push_room}
use Rattle.go_plain.proofs.PastLemmas.{log_pushed, owners_pushed}
use Rattle.go_plain.proofs.SeatsLemmas.{seats_long}
use Rattle.go_plain.proofs.StandingLemmas.{stays_store}
use Rattle.go_plain.proofs.StoreLemmas.{plain_push, put_is}
use Rattle.go_plain.proofs.body.Body.push.Goals.{After-spend}
use Rattle.go_plain.proofs.body.Body.push.Given.{Over}
use Rattle.go_plain.proofs.body.Body.push.Goals as goal

pub push-requires-clause-room : goal.push-requires-clause-room
push-requires-clause-room g c =
    push_room _ c.self.inside.ring c.self.inside.shards.items c.self.invariant.1.arranged c.args.self.now c.self.view_is c.requires.room

pub push-requires-clause-ids : goal.push-requires-clause-ids
push-requires-clause-ids g c = rw c.self.invariant.1.arranged.pending.vertices
    (subst (λ (s : PlainState _). IsWithin s.origin.vertices c.args.edge) (sym c.self.view_is) (c.requires.may.ids 0 c.args.edge (omega arith)))

pub spend-requires-clause-session : goal.spend-requires-clause-session
spend-requires-clause-session g c =
    (subst (λ (s : PlainState _). HasSession s c.args.number) (sym c.self.view_is) c.requires.session)

pub spend-requires-clause-some : goal.spend-requires-clause-some
spend-requires-clause-some g c =
    (subst (λ (s : PlainState _). 1 ≤ (seat_at s.seats c.args.number).quota) (sym c.self.view_is) c.requires.may.quota)

-- what the session may yet put
spent : (g : Over) (c : After-spend g) → c.spend.new.seats.items ≡ seats_with c.self.inside.seats.items c.args.number
    (record (seat_at c.self.inside.seats.items c.args.number) { quota = (seat_at c.self.inside.seats.items c.args.number).quota - 1 })
spent g c = c.spend.ensures

pub invariant_of-self : goal.invariant_of-self
invariant_of-self g c =
    let past = map (λ one. one.value) c.self.inside.past.items in
    let ids = subst (λ (s : PlainState _). IsWithin s.origin.vertices c.args.edge) (sym c.self.view_is) (c.requires.may.ids 0 c.args.edge (omega arith)) in
    let some = subst (λ (s : PlainState _). 1 ≤ (seat_at s.seats c.args.number).quota) (sym c.self.view_is) c.requires.may.quota in
    let session = subst (λ (s : PlainState _). HasSession s c.args.number) (sym c.self.view_is) c.requires.session in (
      c.self.invariant.0,
      plain_push g.D.Disk.device _ c.self.inside.ring c.self.inside.shards.items c.self.invariant.1 c.args.number c.args.edge (record {
        ring = c.push.new.self;
        log = log_of c.self.inside.found.value.items past c.push.new.self;
        owners = owners_of past c.push.new.self;
      }) c.spend.new.seats.items session some ids (record {
        grown = c.push.ensures;
        longer = rw c.push.ensures (log_pushed c.self.inside.found.value.items past c.self.inside.ring c.args.edge c.args.number);
        owned = rw c.push.ensures (owners_pushed past c.self.inside.ring c.args.edge c.args.number);
      }) (spent g (goal.at.invariant_of-self g c).After-spend),
      rw c.push.ensures (subst (λ (l : List Edge). AreRowsOf l c.self.inside.rows)
          (sym (log_pushed c.self.inside.found.value.items past c.self.inside.ring c.args.edge c.args.number))
          (rows_longer (log_of c.self.inside.found.value.items past c.self.inside.ring) (c.args.edge ∷ []) c.self.inside.rows c.self.invariant.2)),
    )

pub returns-clause-put : goal.returns-clause-put
returns-clause-put g c =
    let past = map (λ one. one.value) c.self.inside.past.items in
    put_is _ c.args.self.now c.args.number c.args.edge (log_of c.self.inside.found.value.items past c.push.new.self) (owners_of past c.push.new.self)
    c.push.new.self.room c.spend.new.seats.items c.self.view_is
    (rw c.push.ensures (log_pushed c.self.inside.found.value.items past c.self.inside.ring c.args.edge c.args.number))
    (rw c.push.ensures (owners_pushed past c.self.inside.ring c.args.edge c.args.number))
    (ap (λ (r : RingState). r.room) c.push.ensures) (spent g (goal.at.returns-clause-put g c).After-spend)

pub returns-clause-stays : goal.returns-clause-stays
returns-clause-stays g c =
    let long = ap length (spent g (goal.at.returns-clause-stays g c).After-spend) ∙ seats_long c.self.inside.seats.items c.args.number
    (record (seat_at c.self.inside.seats.items c.args.number) { quota = (seat_at c.self.inside.seats.items c.args.number).quota - 1 })
    ∙ ap (λ (s : PlainState _). length s.seats) c.self.view_is in
    stays_store g.D.Disk.device c.args.self.now _ c.push.new.self c.self.inside.shards.items long (invariant_of-self g c).1
