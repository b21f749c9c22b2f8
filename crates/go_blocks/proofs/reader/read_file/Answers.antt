-- `read_file`: what its two steps answer, and the laws of files and faults.
use Rattle.std.proofs.Common.{arith}
use Rattle.std.proofs.lemmas.Result.{err_from_is_err_and}
use Rattle.go_blocks.proofs.FieldLemmas.{header_takes}
use Rattle.go_blocks.proofs.Steps.{up_to-start, header_fault, each_file, each_fault, each_fits}
use Rattle.go_blocks.proofs.reader.read_file.Goals as goal

pub returns-in_err-vertices-clause-read : goal.returns-in_err-vertices-clause-read
returns-in_err-vertices-clause-read c =
    let p = err_from_is_err_and c.from_residual.result c.from_residual.ensures.1 in
    rw (p.1, p.2) (header_fault c.args.bytes.now c.in_err-vertices.field-0.0 c.in_err-vertices.ensures)

pub returns-in_err-vertices-clause-each_file : goal.returns-in_err-vertices-clause-each_file
returns-in_err-vertices-clause-each_file c = each_file c.args.bytes.now c.from_residual.result (returns-in_err-vertices-clause-read c)

pub returns-in_err-vertices-clause-each_fault : goal.returns-in_err-vertices-clause-each_fault
returns-in_err-vertices-clause-each_fault c = each_fault c.args.bytes.now c.from_residual.result (returns-in_err-vertices-clause-read c)

pub read_blocks-requires : goal.read_blocks-requires
read_blocks-requires c =
    up_to-start c.args.bytes.now c.in_ok-vertices.rest.now c.in_ok-vertices.vertices
    (header_takes c.args.bytes.now _ (λ i. omega (arith, c.type_inv.bytes i)) c.in_ok-vertices.ensures)

pub returns-clause-each_file : goal.returns-clause-each_file
returns-clause-each_file c = each_file c.args.bytes.now c.read_blocks.result c.read_blocks.ensures

pub returns-clause-each_fault : goal.returns-clause-each_fault
returns-clause-each_fault c = each_fault c.args.bytes.now c.read_blocks.result c.read_blocks.ensures

pub returns-clause-fits : goal.returns-clause-fits
returns-clause-fits c = each_fits c.args.bytes.now c.read_blocks.result c.read_blocks.ensures
