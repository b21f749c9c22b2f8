-- A session that stands where its replies have brought its store is halted too, with nothing put besides.
use Rattle.std.proofs.Common.{◌≡◌, ℕ, ◌≤◌, List, [], drop, sym, subst, ◌∙◌, arith, append-nil}
use Rattle.std.specs.Prelude.{All}
use Rattle.std.proofs.lemmas.List.{drop_all}
use Rattle.std.proofs.lemmas.List.Elements.{All-from_recursion}
use Rattle.go_word.specs.declared.edge.Edge.{Edge}
use Rattle.go_api.specs.Standing.{Standing}
use Rattle.go_session.specs.Session.{SessionState, IsAt, IsHalted, walk_of, put_in}

pub at_halted : (loads : List (List Edge)) (session : SessionState) (s : Standing) → IsAt loads session s → IsHalted loads session s
at_halted loads session s at =
    let walk = walk_of s session in
    let none : drop walk.used s.own ≡ [] = drop_all walk.used s.own (omega (arith, at.used)) in
    record {
      allowed = at.allowed;
      count = 0;
      fewer = omega arith;
      used = omega (arith, at.used);
      put = at.put ∙ sym (append-nil (put_in loads session));
      behind_seen = subst (λ (l : List ℕ). All (λ p. walk.seen ≤ p) l) (sym none) (All-from_recursion (λ p. walk.seen ≤ p) [] tt);
      behind_low = subst (λ (l : List ℕ). All (λ p. walk.low ≤ p) l) (sym none) (All-from_recursion (λ p. walk.low ≤ p) [] tt);
    }
