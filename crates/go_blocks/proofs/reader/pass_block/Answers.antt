-- `pass_block`: a count that can be read has its words and a gate behind it.
use Rattle.std.proofs.Common.{ℕ, List, ◌≡◌, ◌∷◌, subst, arith}
use Rattle.go_blocks.proofs.Bytes.{AreBytes, AreBytes-drop}
use Rattle.go_blocks.proofs.FieldLemmas.{TakesCount, TakesCount-length, count_takes}
use Rattle.go_blocks.proofs.reader.pass_block.Goals as goal

-- what stands behind a byte is bytes
behind_byte : (bytes body : List ℕ) (gate : ℕ) → bytes ≡ gate ∷ body → AreBytes bytes → AreBytes body
behind_byte bytes body gate is fits = AreBytes-drop 1 (gate ∷ body) (subst AreBytes is fits)

pub split_at-requires : goal.split_at-requires
split_at-requires c =
    let fits : AreBytes c.in_ok-gate.body.now = behind_byte c.args.bytes.now c.in_ok-gate.body.now c.in_ok-gate.gate.now c.in_ok-gate.ensures.cases.0
    (λ i. omega (arith, c.type_inv.bytes i)) in
    let takes : TakesCount c.in_ok-gate.body.now c.in-Ok.count c.in-Ok.words.now = count_takes 0 c.in_ok-gate.body.now _ fits c.in-Ok.ensures in
    omega (arith, takes.room)

pub returns-in-Ok : goal.returns-in-Ok
returns-in-Ok c =
    let fits : AreBytes c.in_ok-gate.body.now = behind_byte c.args.bytes.now c.in_ok-gate.body.now c.in_ok-gate.gate.now c.in_ok-gate.ensures.cases.0
    (λ i. omega (arith, c.type_inv.bytes i)) in
    let takes : TakesCount c.in_ok-gate.body.now c.in-Ok.count c.in-Ok.words.now = count_takes 0 c.in_ok-gate.body.now _ fits c.in-Ok.ensures in
    omega (arith, takes.room, TakesCount-length _ _ _ takes, c.split_at.ensures.back_len, c.in_ok-gate.ensures.cases.1)
