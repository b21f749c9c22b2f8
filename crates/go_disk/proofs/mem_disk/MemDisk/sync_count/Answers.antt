-- Each recorded sync is noted.
use Rattle.std.proofs.Common.{◌≡◌, List, [], length, ap, ◌∙◌, arith}
use Rattle.std.specs.List.{filter}
use Rattle.go_disk.specs.declared.call.Call.{Call}
use Rattle.go_disk.specs.MemDisk.{Tape, syncs_of, syncs_after}
use Rattle.go_disk.specs.Recording.{steps_of, is_sync}
use Rattle.go_disk.proofs.RecordLemmas.{length-syncs}
use Rattle.go_disk.proofs.mem_disk.MemDisk.sync_count.Goals as goal

pub returns : goal.returns
returns c =
    let counted : c.count_syncs.result ≡ length (filter is_sync c.self.inside.calls.items) = c.count_syncs.ensures
    ∙ ap (λ (l : List Call). length (filter is_sync l)) c.deref.ensures.value in
    let noted : length (syncs_after (steps_of c.self.inside)) ≡ length (syncs_of c.args.self.now) = ap (λ (t : Tape). length (syncs_of t)) c.self.view_is in
    omega (arith, counted, noted, length-syncs c.self.inside.calls.items c.self.inside.written.items [])
