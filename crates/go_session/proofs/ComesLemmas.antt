-- What comes of each command: where its reply leads, and what it leaves at the command's place.
use Rattle.std.proofs.Common.{ℕ, List, [], take, refl, sym, ap, subst, ⊎_elim}
use Rattle.go_word.specs.declared.edge.Edge.{Edge}
use Rattle.go_api.specs.Calls.{Holds}
use Rattle.go_api.specs.Standing.{Standing, IsSound}
use Rattle.go_api.specs.declared.place.Place.TheVariants as held
use Rattle.go_script.specs.Commands.{use_of}
use Rattle.go_script.specs.declared.command.Command.{Command}
use Rattle.go_script.specs.declared.command.Command.TheVariants as asks
use Rattle.go_script.specs.declared.usage.Use.TheVariants as does
use Rattle.go_script.specs.declared.usage.Kind.TheVariants as kinds
use Rattle.go_report.specs.declared.reply.Reply.{Reply}
use Rattle.go_report.specs.declared.reply.Reply.TheVariants as tells
use Rattle.go_session.specs.Answers.{Suits, Answered, IsEntryPut, IsAskedOf, entries_by}
use Rattle.go_session.specs.Session.{kind_of}
use Rattle.go_session.specs.Value.{IsValue}
use Rattle.go_session.specs.Walk.{Walk, Effect, effect_of, row_of}
use Rattle.go_session.specs.Walk.Row.{value}
use Rattle.go_session.proofs.LeadLemmas.{IsWalkedTo, IsPlain, Leads, walk_holds, entry_leads, busy_leads, offer_leads, loaded_leads, viewed_leads}
use Rattle.go_session.proofs.LeadLemmas.{started_leads, updated_leads, value_leads, reached_leads, synced_leads, freed_leads, compacted_leads}
use Rattle.go_session.proofs.RowLemmas.{ShowsEntry, value_quiet}
use Rattle.go_session.proofs.WalkLemmas.{UseLeaves}

-- where a reply leads, and what it leaves at the place that its command uses
pub record Comes (before now : Standing) (walk : Walk) (command : Command) (entries : List Edge) (reply : Reply) : Type 0 where
  pub leads : Leads before now walk entries (row_of command) reply
  pub place : UseLeaves walk.place_at (use_of command) (effect_of walk.first reply).placed

-- a value is plain
value_plain : (size : ℕ) (log : List Edge) (command : Command) (reply : Reply) → IsValue size log command reply → IsPlain reply
value_plain size log (asks.Degree place vertex) reply is =
    subst (λ (r : Reply). IsPlain r) (sym is) (record { calm = refl; unsynced = λ front same. (cc) })
value_plain size log (asks.Neigh place vertex) reply is =
    subst (λ (r : Reply). IsPlain r) (sym is) (record { calm = refl; unsynced = λ front same. (cc) })
value_plain size log (asks.Hop place vertex) reply is =
    subst (λ (r : Reply). IsPlain r) (sym is.1) (record { calm = refl; unsynced = λ front same. (cc) })
value_plain size log (asks.Level place root vertex) reply is =
    subst (λ (r : Reply). IsPlain r) (sym is.1) (record { calm = refl; unsynced = λ front same. (cc) })
value_plain size log (asks.Bfs place root) reply is =
    subst (λ (r : Reply). IsPlain r) (sym is.2) (record { calm = refl; unsynced = λ front same. (cc) })
value_plain size log (asks.Rank place count) reply is =
    subst (λ (r : Reply). IsPlain r) (sym is.1) (record { calm = refl; unsynced = λ front same. (cc) })
value_plain size log (asks.Add src dst) reply is = absurd is
value_plain size log (asks.Del src dst) reply is = absurd is
value_plain size log (asks.Offer src dst) reply is = absurd is
value_plain size log (asks.Load name) reply is = absurd is
value_plain size log (asks.View place) reply is = absurd is
value_plain size log (asks.Drop place) reply is = absurd is
value_plain size log (asks.Stream place) reply is = absurd is
value_plain size log (asks.Close place) reply is = absurd is
value_plain size log (asks.Update place most) reply is = absurd is
value_plain size log (asks.Until asked) reply is = absurd is
value_plain size log asks.Sync reply is = absurd is
value_plain size log asks.Compact reply is = absurd is

-- what comes of a question, whatever is asked
value_comes : (place front : ℕ) (command : Command) (reply : Reply) (before now : Standing) (walk : Walk) → IsWalkedTo walk before →
    Holds place (held.View front) before → IsAskedOf place command reply before now →
    Leads before now walk [] (value place command) reply × UseLeaves walk.place_at (does.Reads place kinds.View) (effect_of walk.first reply).placed
value_comes place front command reply before now walk at holds is =
    let size = before.terms.vertices in
    let log = take front before.log.seen in
    let quiet = value_quiet size log command reply (is.value front holds) in (
      value_leads place front command reply before now walk at holds quiet (value_plain size log command reply (is.value front holds)) is,
      subst (λ (e : Effect). UseLeaves walk.place_at (does.Reads place kinds.View) e.placed) (sym (quiet.effect walk.first)) tt,
    )

-- what an entry leaves at a place: nothing
entry_use : (show : ℕ → Reply) (reply : Reply) (before now : Standing) (walk : Walk) (entries : List Edge) → ShowsEntry show →
    IsEntryPut show entries reply before now → UseLeaves walk.place_at does.Nothing (effect_of walk.first reply).placed
entry_use show reply before now walk entries shows is =
    subst (λ (r : Reply). UseLeaves walk.place_at does.Nothing (effect_of walk.first r).placed) (sym is.is)
    (subst (λ (e : Effect). UseLeaves walk.place_at does.Nothing e.placed) (sym (shows.effect walk.first is.position)) tt)

-- what comes of each command
pub answered_comes : (command : Command) (given : List Edge) (reply : Reply) (before now : Standing) (walk : Walk) → IsWalkedTo walk before → IsSound now →
    Suits command given before → Answered (row_of command) (entries_by command given) reply before now →
    Comes before now walk command (entries_by command given) reply
answered_comes (asks.Add src dst) given reply before now walk at sound suits is =
    let shows : ShowsEntry tells.Added = record { effect = λ first p. refl; rest = λ w row p. refl } in
    let entries = entries_by (asks.Add src dst) given in
    record {
      leads = entry_leads tells.Added entries reply before now walk at shows (λ p. record { calm = refl; unsynced = λ front same. (cc) }) is;
      place = entry_use tells.Added reply before now walk entries shows is;
    }
answered_comes (asks.Del src dst) given reply before now walk at sound suits is =
    let shows : ShowsEntry tells.Deleted = record { effect = λ first p. refl; rest = λ w row p. refl } in
    let entries = entries_by (asks.Del src dst) given in
    record {
      leads = entry_leads tells.Deleted entries reply before now walk at shows (λ p. record { calm = refl; unsynced = λ front same. (cc) }) is;
      place = entry_use tells.Deleted reply before now walk entries shows is;
    }
answered_comes (asks.Offer src dst) given reply before now walk at sound suits is =
    let shows : ShowsEntry tells.Offered = record { effect = λ first p. refl; rest = λ w row p. refl } in
    let entries = entries_by (asks.Offer src dst) given in
    ⊎_elim
    (λ put. record {
      leads = offer_leads entries reply before now walk at shows (λ p. record { calm = refl; unsynced = λ front same. (cc) }) put;
      place = entry_use tells.Offered reply before now walk entries shows put;
    })
    (λ away. record {
      leads = busy_leads entries reply before now walk at away;
      place = subst (λ (r : Reply). UseLeaves walk.place_at does.Nothing (effect_of walk.first r).placed) (sym away.is) tt;
    })
    is
answered_comes (asks.Load name) given reply before now walk at sound suits is =
    subst (λ (r : Reply). Comes before now walk (asks.Load name) given r) (sym is.1)
    (record { leads = loaded_leads name given is.0 before now walk at is.2; place = tt })
answered_comes (asks.View place) given reply before now walk at sound suits is =
    subst (λ (r : Reply). Comes before now walk (asks.View place) [] r) (sym is.1)
    (record { leads = viewed_leads place is.0 before now walk at is.2; place = (refl, refl) })
answered_comes (asks.Drop place) given reply before now walk at sound suits is = record {
  leads = freed_leads place (tells.Dropped place) reply before now walk is.0 refl (record { calm = refl; unsynced = λ front same. (cc) }) is.1;
  place = subst (λ (r : Reply). UseLeaves walk.place_at (does.Frees place kinds.View) (effect_of walk.first r).placed) (sym is.0) (refl, refl);
}
answered_comes (asks.Degree place vertex) given reply before now walk at sound suits is =
    let both = value_comes place suits.front (asks.Degree place vertex) reply before now walk at suits.held is in
    record { leads = both.0; place = both.1 }
answered_comes (asks.Neigh place vertex) given reply before now walk at sound suits is =
    let both = value_comes place suits.front (asks.Neigh place vertex) reply before now walk at suits.held is in
    record { leads = both.0; place = both.1 }
answered_comes (asks.Hop place vertex) given reply before now walk at sound suits is =
    let both = value_comes place suits.0.front (asks.Hop place vertex) reply before now walk at suits.0.held is in
    record { leads = both.0; place = both.1 }
answered_comes (asks.Level place root vertex) given reply before now walk at sound suits is =
    let both = value_comes place suits.0.front (asks.Level place root vertex) reply before now walk at suits.0.held is in
    record { leads = both.0; place = both.1 }
answered_comes (asks.Bfs place root) given reply before now walk at sound suits is =
    let both = value_comes place suits.0.front (asks.Bfs place root) reply before now walk at suits.0.held is in
    record { leads = both.0; place = both.1 }
answered_comes (asks.Rank place count) given reply before now walk at sound suits is =
    let both = value_comes place suits.front (asks.Rank place count) reply before now walk at suits.held is in
    record { leads = both.0; place = both.1 }
answered_comes (asks.Stream place) given reply before now walk at sound suits is =
    subst (λ (r : Reply). Comes before now walk (asks.Stream place) [] r) (sym is.1)
    (record { leads = started_leads place is.0 before now walk at is.2; place = (refl, refl) })
answered_comes (asks.Close place) given reply before now walk at sound suits is = record {
  leads = freed_leads place (tells.Closed place) reply before now walk is.0 refl (record { calm = refl; unsynced = λ front same. (cc) }) is.1;
  place = subst (λ (r : Reply). UseLeaves walk.place_at (does.Frees place kinds.Stream) (effect_of walk.first r).placed) (sym is.0) (refl, refl);
}
answered_comes (asks.Update place most) given reply before now walk at sound suits is =
    let from = walk_holds walk before place (held.Stream is.span.from) at is.updated.from_cursor in
    record {
      leads = updated_leads place most reply before now walk at is;
      place = subst (λ (r : Reply). UseLeaves walk.place_at (does.Reads place kinds.Stream) (effect_of walk.first r).placed) (sym is.is)
          (refl, sym (ap kind_of from));
    }
answered_comes (asks.Until asked) given reply before now walk at sound suits is =
    subst (λ (r : Reply). Comes before now walk (asks.Until asked) [] r) (sym is.1)
    (record { leads = reached_leads asked is.0 before now walk at sound is.2; place = tt })
answered_comes asks.Sync given reply before now walk at sound suits is =
    subst (λ (r : Reply). Comes before now walk asks.Sync [] r) (sym is.1)
    (record { leads = synced_leads is.0 before now walk at is.2; place = tt })
answered_comes asks.Compact given reply before now walk at sound suits is = record {
  leads = compacted_leads reply before now walk is.0 is.1;
  place = subst (λ (r : Reply). UseLeaves walk.place_at does.Nothing (effect_of walk.first r).placed) (sym is.0) tt;
}
