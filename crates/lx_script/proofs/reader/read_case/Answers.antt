use Rattle.lx_script.specs.Lines.{statements_of}
use Rattle.lx_script.proofs.Law.{read_is}
use Rattle.lx_script.proofs.reader.read_case.Goals as goal

pub returns-clause-ok : goal.returns-clause-ok
returns-clause-ok c = read_is (statements_of c.args.bytes.now) c.in_ok-case.case c.in_ok-case.ensures
