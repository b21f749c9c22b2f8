-- A standing goes on: from itself, and over calls one after another.
use Rattle.std.proofs.Common.{◌≡◌, ◌≤◌, List, length, take, refl, sym, ap, ◌∙◌, arith}
use Rattle.std.proofs.lemmas.List.{take_all, take-take}
use Rattle.go_word.specs.declared.edge.Edge.{Edge}
use Rattle.go_api.specs.Calls.{OnlySees, IsRead}
use Rattle.go_api.specs.Standing.{Standing, Terms, Onward, Kept}

-- a standing goes on from itself
pub onward_self : (s : Standing) → Onward s s
onward_self s = record {
  same_terms = refl;
  seen_more = take_all (length s.log.seen) s.log.seen (omega arith);
  seen_longer = omega arith;
  floor_later = omega arith;
  known_later = omega arith;
  durable_later = omega arith;
  met_stays = λ met. met;
}

-- the length of the log at opening stays, and so does the number of vertices
pub same_first : {before after : Standing} → Onward before after → after.terms.first ≡ before.terms.first
same_first onward = ap (λ (t : Terms). t.first) onward.same_terms

pub same_vertices : {before after : Standing} → Onward before after → after.terms.vertices ≡ before.terms.vertices
same_vertices onward = ap (λ (t : Terms). t.vertices) onward.same_terms

-- what begins a log begins each longer one that has it at its beginning
begins_on : (one two three : List Edge) → take (length one) two ≡ one → length one ≤ length two → take (length two) three ≡ two → take (length one) three ≡ one
begins_on one two three first longer later = sym (take-take (length one) (length two) three longer) ∙ (ap (take (length one)) later ∙ first)

-- over some calls, and then some more
pub onward_on : (one two three : Standing) → Onward one two → Onward two three → Onward one three
onward_on one two three first later = record {
  same_terms = later.same_terms ∙ first.same_terms;
  seen_more = begins_on one.log.seen two.log.seen three.log.seen first.seen_more first.seen_longer later.seen_more;
  seen_longer = omega (arith, first.seen_longer, later.seen_longer);
  floor_later = omega (arith, first.floor_later, later.floor_later);
  known_later = omega (arith, first.known_later, later.known_later);
  durable_later = omega (arith, first.durable_later, later.durable_later);
  met_stays = λ met. later.met_stays (first.met_stays met);
}

-- a standing keeps what it has, and seeing and reading it are ways to do so
pub kept_self : (s : Standing) → Kept s s
kept_self s = record { onward = onward_self s; same_own = refl; same_edges = refl; same_places = refl }

pub sees_self : (s : Standing) → OnlySees s s
sees_self s = record { kept = kept_self s; quota = refl }

pub read_self : (s : Standing) → IsRead s s
read_self s = record { sees = sees_self s; same_seen = refl }

-- over some calls that keep all, and then some more
pub kept_on : (one two three : Standing) → Kept one two → Kept two three → Kept one three
kept_on one two three first later = record {
  onward = onward_on one two three first.onward later.onward;
  same_own = later.same_own ∙ first.same_own;
  same_edges = later.same_edges ∙ first.same_edges;
  same_places = later.same_places ∙ first.same_places;
}

pub sees_on : (one two three : Standing) → OnlySees one two → OnlySees two three → OnlySees one three
sees_on one two three first later = record { kept = kept_on one two three first.kept later.kept; quota = later.quota ∙ first.quota }

pub read_on : (one two three : Standing) → IsRead one two → IsRead two three → IsRead one three
read_on one two three first later = record { sees = sees_on one two three first.sees later.sees; same_seen = later.same_seen ∙ first.same_seen }
