-- `read_plain`: what is read can be held, and its word is the one that was read.
use Rattle.std.proofs.Common.{arith, rules}
use Rattle.go_word.specs.Word.{IsPlain}
use Rattle.go_word.proofs.WordLaws.{IsStorable-decode, plain_word-decode}
use Rattle.go_word.proofs.word.read_plain.Goals as goal

pub returns-then-edge-v-2-clause-exact : goal.returns-then-edge-v-2-clause-exact
returns-then-edge-v-2-clause-exact c = search rules

pub returns-then-edge-v-2-clause-storable : goal.returns-then-edge-v-2-clause-storable
returns-then-edge-v-2-clause-storable c =
    let plain : IsPlain c.args.v c.args.w = (returns-then-edge-v-2-clause-exact c).0 in
    rw c.decode-edge.ensures (IsStorable-decode c.args.v c.args.w plain)

pub returns-then-edge-v-2-clause-written_back : goal.returns-then-edge-v-2-clause-written_back
returns-then-edge-v-2-clause-written_back c =
    let plain : IsPlain c.args.v c.args.w = (returns-then-edge-v-2-clause-exact c).0 in
    rw c.decode-edge.ensures (plain_word-decode c.args.v c.args.w (omega arith) plain)
