use Rattle.std.proofs.Common.{true, false, sym}
use Rattle.lx_files.proofs.Dialects.{read_so}
use Rattle.lx_files.proofs.reading.interface_of_text.Goals as goal

pub returns-then-is_cproto-clause-reads : goal.returns-then-is_cproto-clause-reads
returns-then-is_cproto-clause-reads c = read_so true c.args.file.now c.args.text.now c.prototypes_of_text.result (sym c.if-is_cproto.ensures) c.prototypes_of_text.ensures.reads

pub returns-else-is_cproto-clause-reads : goal.returns-else-is_cproto-clause-reads
returns-else-is_cproto-clause-reads c = read_so false c.args.file.now c.args.text.now c.statements_of_text.result (sym c.if-is_cproto.ensures) c.statements_of_text.ensures.reads
