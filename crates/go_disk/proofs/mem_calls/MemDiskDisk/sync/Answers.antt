-- A sync that succeeds.
use Rattle.go_disk.proofs.StepLemmas.{synced_step}
use Rattle.go_disk.proofs.mem_calls.MemDiskDisk.sync.Goals as goal

pub returns-clause-synced : goal.returns-clause-synced
returns-clause-synced c = synced_step c.args.self.now c.note_sync.new.self c.note_sync.ensures
