-- Fields of a header and the count of a block: what is read was written so, and what was written is read.
use Rattle.std.proofs.Common.{◌≡◌, ℕ, suc, ◌+◌, ◌*◌, ◌^◌, ◌<◌, ◌≤◌, Bool, true, false, cond, ltb, Option, Some, None, Result, Ok, Err, List, [], ◌∷◌, ◌++◌}
use Rattle.std.proofs.Common.{length, get_or, take, drop, refl, sym, ap, subst, ◌∙◌, append_assoc, arith}
use Rattle.std.specs.Prelude.{◌&&◌, not, nat_lt, nat_le, ◌==◌, position}
use Rattle.std.specs.List.{flat_map, zip, position_or_len}
use Rattle.std.specs.Int.{w16, w32, from_le_bytes, to_le_bytes}
use Rattle.std.proofs.lemmas.Bool.{ltb-false, le-ltb, eqb-true}
use Rattle.std.proofs.lemmas.Bool.Decides.{nat_tests}
use Rattle.std.proofs.lemmas.List.{take_at, take-append-drop, length-append, length-take}
use Rattle.std.proofs.lemmas.Nat.{le_bytes_2, le_bytes_4, from_le_bytes-to_le_bytes_4}
use Rattle.go_word.specs.declared.edge.Edge.{Edge}
use Rattle.go_blocks.specs.declared.fault.Bad.{Bad}
use Rattle.go_word.specs.declared.edge.TheConstants.{VERTEX_LIMIT}
use Rattle.go_blocks.specs.declared.layout.TheConstants.{CLOSED, MAGIC, VERSION, COUNT_LIMIT}
use Rattle.go_blocks.specs.File.{IsOpen, IsVertexCount, IsCount, word_bytes, body_of, header_bytes}
use Rattle.go_blocks.specs.Faults.{◌>>=◌, judged, differs, gate_at, letters_at, version_at, vertices_at, first_gate_at, header_at, count_at}
use Rattle.go_blocks.proofs.Bytes.{AreBytes, AreBytes-take, AreBytes-drop, length-words}

-- the value of a step that did not fail
bind_ok : {A B : Type 0} (r : Result A Bad) (f : A → Result B Bad) (y : B) → (r >>= f) ≡ Ok y → (x : A) × (r ≡ Ok x) × (f x ≡ Ok y)
bind_ok (Ok x) f y e = (x, refl, e)
bind_ok (Err d) f y e = absurd cc

-- a test that is no fault
passed : {A : Type 0} (b : Bool) (d : Bad) (r : Result A Bad) (y : A) → cond b (Err d) r ≡ Ok y → (b ≡ false) × (r ≡ Ok y)
passed true d r y e = absurd cc
passed false d r y e = (refl, e)

-- a test that has to hold
held : {A : Type 0} (b : Bool) (d : Bad) (r : Result A Bad) (y : A) → cond b r (Err d) ≡ Ok y → (b ≡ true) × (r ≡ Ok y)
held true d r y e = (refl, e)
held false d r y e = absurd cc

-- an answer without a fault
abbrev done : {A : Type 0} → A → Result A Bad
done x = Ok x

-- what it has
ok_is : {A : Type 0} (x y : A) → done x ≡ done y → x ≡ y
ok_is x y e = cc

-- a test on a first cell
agree_step : (b : Bool) (x y : ℕ) (k n : ℕ) → (x == y) ≡ b → suc n ≤ cond (not (not b)) (1 + k) 0 → (x ≡ y) × (n ≤ k)
agree_step true x y k n is none = (eqb-true x y is, omega arith)
agree_step false x y k n is none = absurd (omega arith)

-- texts of one length that differ nowhere
agree : (xs ys : List ℕ) → length xs ≡ length ys → length (zip xs ys) ≤ position_or_len differs (zip xs ys) → xs ≡ ys
agree [] [] len none = refl
agree [] (y ∷ ys) len none = absurd (omega arith)
agree (x ∷ xs) [] len none = absurd (omega arith)
agree (x ∷ xs) (y ∷ ys) len none =
    let step = agree_step (x == y) x y (position_or_len differs (zip xs ys)) (length (zip xs ys)) refl none in
    rw (step.0, agree xs ys (omega arith) step.1) refl

-- what is not found
not_found : (b : Bool) (k : ℕ) → cond b (Some k) None ≡ None → b ≡ false
not_found true k e = absurd cc
not_found false k e = refl

-- a position that isn't there
no_position : (xs : List (ℕ × ℕ)) → position differs xs ≡ None → length xs ≤ position_or_len differs xs
no_position xs e = ltb-false _ _ (not_found (nat_lt (position_or_len differs xs) (length xs)) (position_or_len differs xs) e)

-- letters are judged well where none differs
judged_ok : (o : Option ℕ) (t rest : List ℕ) → judged o t ≡ Ok rest → (o ≡ None) × (t ≡ rest)
judged_ok None t rest e = (refl, ok_is t rest e)
judged_ok (Some k) t rest e = absurd cc

-- the gate
gate_takes : (bytes rest : List ℕ) → gate_at bytes ≡ Ok rest → (gate : ℕ) × (bytes ≡ gate ∷ rest) × (CLOSED < gate)
unfolding gate_at
gate_takes [] rest e = absurd cc
gate_takes (gate ∷ more) rest e =
    let p = passed (gate == CLOSED) _ (done more) rest e in
    (gate, ap (λ (t : List ℕ). gate ∷ t) (ok_is more rest p.1), grind (arith, nat_tests, p.0))

-- an open gate is read
gate_again : (gate : ℕ) (rest : List ℕ) → CLOSED < gate → gate_at (gate ∷ rest) ≡ Ok rest
unfolding gate_at
gate_again gate rest opened =
    let other : (gate == CLOSED) ≡ false = grind (arith, nat_tests) in
    rw other refl

-- the letters
letters_takes : (bytes rest : List ℕ) → letters_at bytes ≡ Ok rest → bytes ≡ MAGIC ++ rest
unfolding letters_at
letters_takes bytes rest e =
    let p = passed (ltb (length bytes) 8) _ (judged (position differs (zip MAGIC (take 8 bytes))) (drop 8 bytes)) rest e in
    let long : 8 ≤ length bytes = ltb-false _ _ p.0 in
    let j = judged_ok (position differs (zip MAGIC (take 8 bytes))) (drop 8 bytes) rest p.1 in
    let same : MAGIC ≡ take 8 bytes = agree MAGIC (take 8 bytes) (omega (arith, length-take 8 bytes)) (no_position (zip MAGIC (take 8 bytes)) j.0) in
    sym (take-append-drop 8 bytes) ∙ ap (λ (t : List ℕ). t ++ drop 8 bytes) (sym same) ∙ ap (λ (t : List ℕ). MAGIC ++ t) j.1

-- the letters are read
letters_again : (rest : List ℕ) → letters_at (MAGIC ++ rest) ≡ Ok rest
unfolding letters_at
letters_again rest =
    let long : ltb (length (MAGIC ++ rest)) 8 ≡ false = le-ltb _ _ (omega (arith, length-append MAGIC rest)) in
    rw long refl

-- the version
version_takes : (bytes rest : List ℕ) → AreBytes bytes → version_at bytes ≡ Ok rest → bytes ≡ to_le_bytes w16 VERSION ++ rest
unfolding version_at
version_takes bytes rest fits e =
    let p = passed (ltb (length bytes) 2) _ (cond (from_le_bytes w16 (take 2 bytes) == VERSION) (done (drop 2 bytes)) _) rest e in
    let long : 2 ≤ length bytes = ltb-false _ _ p.0 in
    let q = held (from_le_bytes w16 (take 2 bytes) == VERSION) _ (done (drop 2 bytes)) rest p.1 in
    let is : from_le_bytes w16 (take 2 bytes) ≡ VERSION = eqb-true _ _ q.0 in
    let same : to_le_bytes w16 VERSION ≡ take 2 bytes =
    le_bytes_2 (take 2 bytes) VERSION (omega (arith, length-take 2 bytes)) (AreBytes-take 2 bytes fits) (sym is) in
    sym (take-append-drop 2 bytes) ∙ ap (λ (t : List ℕ). t ++ drop 2 bytes) (sym same)
    ∙ ap (λ (t : List ℕ). to_le_bytes w16 VERSION ++ t) (ok_is (drop 2 bytes) rest q.1)

-- the version is read
version_again : (rest : List ℕ) → version_at (to_le_bytes w16 VERSION ++ rest) ≡ Ok rest
unfolding version_at
version_again rest =
    let long : ltb (length (to_le_bytes w16 VERSION ++ rest)) 2 ≡ false = le-ltb _ _ (omega (arith, length-append (to_le_bytes w16 VERSION) rest)) in
    rw long refl

-- a number of four bytes from 1 to a limit
ranged : (n limit : ℕ) → (nat_lt 0 n && nat_le n limit) ≡ true → (0 < n) × (n ≤ limit)
ranged n limit e = (grind (arith, nat_tests), grind (arith, nat_tests))

-- and back
in_range : (n limit : ℕ) → 0 < n → n ≤ limit → (nat_lt 0 n && nat_le n limit) ≡ true
in_range n limit some few = grind (arith, nat_tests)

-- four bytes and the number that they are
four : (bytes : List ℕ) → AreBytes bytes → 4 ≤ length bytes → bytes ≡ to_le_bytes w32 (from_le_bytes w32 (take 4 bytes)) ++ drop 4 bytes
four bytes fits long =
    let same : to_le_bytes w32 (from_le_bytes w32 (take 4 bytes)) ≡ take 4 bytes =
    le_bytes_4 (take 4 bytes) _ (omega (arith, length-take 4 bytes)) (AreBytes-take 4 bytes fits) refl in
    sym (take-append-drop 4 bytes) ∙ ap (λ (t : List ℕ). t ++ drop 4 bytes) (sym same)

-- a number of four bytes is read again
number_again : (n : ℕ) (rest : List ℕ) → n < 2 ^ 32 → from_le_bytes w32 (take 4 (to_le_bytes w32 n ++ rest)) ≡ n
number_again n rest small = ap (from_le_bytes w32) (take_at (to_le_bytes w32 n) rest 4 refl) ∙ from_le_bytes-to_le_bytes_4 n small

-- the number of vertices
vertices_takes : (bytes : List ℕ) (found : ℕ × List ℕ) → AreBytes bytes → vertices_at bytes ≡ Ok found
    → (bytes ≡ to_le_bytes w32 found.0 ++ found.1) × IsVertexCount found.0
unfolding vertices_at
vertices_takes bytes found fits e =
    let v : ℕ = from_le_bytes w32 (take 4 bytes) in
    let p = passed (ltb (length bytes) 4) _ (cond (nat_lt 0 v && nat_le v VERTEX_LIMIT) (done (v, drop 4 bytes)) _) found e in
    let long : 4 ≤ length bytes = ltb-false _ _ p.0 in
    let q = held (nat_lt 0 v && nat_le v VERTEX_LIMIT) _ (done (v, drop 4 bytes)) found p.1 in
    let r = ranged v VERTEX_LIMIT q.0 in
    subst (λ (x : ℕ × List ℕ). (bytes ≡ to_le_bytes w32 x.0 ++ x.1) × IsVertexCount x.0) (ok_is (v, drop 4 bytes) found q.1)
    (four bytes fits long, record { some = r.0; few = r.1 })

-- a number of vertices in range is read
vertices_again : (v : ℕ) (rest : List ℕ) → IsVertexCount v → vertices_at (to_le_bytes w32 v ++ rest) ≡ Ok (v, rest)
unfolding vertices_at
vertices_again v rest count =
    let long : ltb (length (to_le_bytes w32 v ++ rest)) 4 ≡ false = le-ltb _ _ (omega (arith, length-append (to_le_bytes w32 v) rest)) in
    let ranges : (nat_lt 0 v && nat_le v VERTEX_LIMIT) ≡ true = in_range v VERTEX_LIMIT count.some count.few in
    rw (long, number_again v rest (omega arith), ranges) refl

-- the gate behind the header
first_gate_takes : (found read : ℕ × List ℕ) → first_gate_at found ≡ Ok read → (found ≡ read) × (0 < length found.1)
unfolding first_gate_at
first_gate_takes found read e =
    let p = passed (length found.1 == 0) _ (done found) read e in
    (ok_is found read p.1, grind (arith, nat_tests, p.0))

-- a gate behind the header is read
first_gate_again : (v x : ℕ) (rest : List ℕ) → first_gate_at (v, x ∷ rest) ≡ Ok (v, x ∷ rest)
unfolding first_gate_at
first_gate_again v x rest =
    let some : (length (x ∷ rest) == 0) ≡ false = grind (arith, nat_tests) in
    rw some refl

-- a header and a byte behind it are read
pub header_again : (gate v x : ℕ) (rest : List ℕ) → IsOpen gate → IsVertexCount v → header_at (header_bytes gate v ++ x ∷ rest) ≡ Ok (v, x ∷ rest)
unfolding header_at
header_again gate v x rest is_open count =
    let a = gate_again gate (MAGIC ++ (to_le_bytes w16 VERSION ++ (to_le_bytes w32 v ++ x ∷ rest))) is_open.open_gate in
    let b = letters_again (to_le_bytes w16 VERSION ++ (to_le_bytes w32 v ++ x ∷ rest)) in
    let c = version_again (to_le_bytes w32 v ++ x ∷ rest) in
    let d = vertices_again v (x ∷ rest) count in
    ap (λ (r : Result (List ℕ) Bad). r >>= letters_at >>= version_at >>= vertices_at >>= first_gate_at) a
    ∙ ap (λ (r : Result (List ℕ) Bad). r >>= version_at >>= vertices_at >>= first_gate_at) b
    ∙ ap (λ (r : Result (List ℕ) Bad). r >>= vertices_at >>= first_gate_at) c
    ∙ ap (λ (r : Result (ℕ × List ℕ) Bad). r >>= first_gate_at) d
    ∙ first_gate_again v x rest

-- what was read of a header
pub record TakesHeader (bytes : List ℕ) (v : ℕ) (rest : List ℕ) : Type 0 where
  pub gate : ℕ
  pub is_open : IsOpen gate
  pub vertices : IsVertexCount v
  pub parts : bytes ≡ header_bytes gate v ++ rest
  pub gate_here : 0 < length rest

-- what is read of a header stands there
pub header_takes : (bytes : List ℕ) (read : ℕ × List ℕ) → AreBytes bytes → header_at bytes ≡ Ok read → TakesHeader bytes read.0 read.1
unfolding header_at
header_takes bytes read fits e =
    let d = bind_ok (gate_at bytes >>= letters_at >>= version_at >>= vertices_at) first_gate_at read e in
    let c = bind_ok (gate_at bytes >>= letters_at >>= version_at) vertices_at d.0 d.1 in
    let b = bind_ok (gate_at bytes >>= letters_at) version_at c.0 c.1 in
    let a = bind_ok (gate_at bytes) letters_at b.0 b.1 in
    let gate = gate_takes bytes a.0 a.1 in
    let fits1 : AreBytes a.0 = λ i. subst (λ (t : List ℕ). get_or t (suc i) 0 < 256) gate.1 (fits (suc i)) in
    let letters = letters_takes a.0 b.0 a.2 in
    let fits2 : AreBytes b.0 = subst AreBytes (ap (drop 8) letters) (AreBytes-drop 8 a.0 fits1) in
    let version = version_takes b.0 c.0 fits2 b.2 in
    let fits3 : AreBytes c.0 = subst AreBytes (ap (drop 2) version) (AreBytes-drop 2 b.0 fits2) in
    let vertices = vertices_takes c.0 d.0 fits3 c.2 in
    let first = first_gate_takes d.0 read d.2 in
    let whole : bytes ≡ header_bytes gate.0 d.0.0 ++ d.0.1 =
    gate.1 ∙ ap (λ (t : List ℕ). gate.0 ∷ t) (letters
    ∙ ap (λ (t : List ℕ). MAGIC ++ t) (version ∙ ap (λ (t : List ℕ). to_le_bytes w16 VERSION ++ t) vertices.0)) in
    subst (λ (x : ℕ × List ℕ). TakesHeader bytes x.0 x.1) first.0
    (record { gate = gate.0; is_open = record { open_gate = gate.2 }; vertices = vertices.1; parts = whole; gate_here = first.1 })

-- the count of a body that has a byte behind it is read
pub count_again : (gate : ℕ) (es : List Edge) (x : ℕ) (rest : List ℕ) → IsCount (length es)
    → count_at gate (body_of es ++ x ∷ rest) ≡ Ok (length es, flat_map word_bytes es ++ x ∷ rest)
unfolding count_at
count_again gate es x rest count =
    let n : ℕ = length es in
    let behind : List ℕ = flat_map word_bytes es ++ x ∷ rest in
    let regroup : body_of es ++ x ∷ rest ≡ to_le_bytes w32 n ++ behind = append_assoc (to_le_bytes w32 n) (flat_map word_bytes es) (x ∷ rest) in
    let long : ltb (length (to_le_bytes w32 n ++ behind)) 4 ≡ false = le-ltb _ _ (omega (arith, length-append (to_le_bytes w32 n) behind)) in
    let ranges : (nat_lt 0 n && nat_le n COUNT_LIMIT) ≡ true = in_range n COUNT_LIMIT count.some count.few in
    let far : 8 * n < length behind = omega (arith, length-append (flat_map word_bytes es) (x ∷ rest), length-words es) in
    let room : nat_le (length behind) (8 * n) ≡ false = grind (arith, nat_tests) in
    ap (count_at gate) regroup ∙ rw (long, number_again n behind (omega arith), ranges, room) refl

-- what was read of a count
pub record TakesCount (rest : List ℕ) (n : ℕ) (behind : List ℕ) : Type 0 where
  pub count : IsCount n
  pub parts : rest ≡ to_le_bytes w32 n ++ behind
  pub room : 8 * n < length behind

-- what is read of a count stands there
pub count_takes : (gate : ℕ) (rest : List ℕ) (found : ℕ × List ℕ) → AreBytes rest → count_at gate rest ≡ Ok found → TakesCount rest found.0 found.1
unfolding count_at
count_takes gate rest found fits e =
    let n : ℕ = from_le_bytes w32 (take 4 rest) in
    let p = passed (ltb (length rest) 4) _
    (cond (nat_lt 0 n && nat_le n COUNT_LIMIT) (cond (nat_le (length (drop 4 rest)) (8 * n)) _ (done (n, drop 4 rest))) _) found e in
    let long : 4 ≤ length rest = ltb-false _ _ p.0 in
    let q = held (nat_lt 0 n && nat_le n COUNT_LIMIT) _ (cond (nat_le (length (drop 4 rest)) (8 * n)) _ (done (n, drop 4 rest))) found p.1 in
    let r = ranged n COUNT_LIMIT q.0 in
    let s = passed (nat_le (length (drop 4 rest)) (8 * n)) _ (done (n, drop 4 rest)) found q.1 in
    let room : 8 * n < length (drop 4 rest) = grind (arith, nat_tests, s.0) in
    subst (λ (x : ℕ × List ℕ). TakesCount rest x.0 x.1) (ok_is (n, drop 4 rest) found s.1)
    (record { count = record { some = r.0; few = r.1 }; parts = four rest fits long; room = room })

-- the bytes behind a count
pub TakesCount-length : (rest : List ℕ) (n : ℕ) (behind : List ℕ) → TakesCount rest n behind → length rest ≡ 4 + length behind
TakesCount-length rest n behind takes = ap length takes.parts ∙ length-append (to_le_bytes w32 n) behind
