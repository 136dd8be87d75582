use Rattle.std.proofs.Common.{sym, ◌∙◌}
use Rattle.std.proofs.lemmas.Result.{err_from_is_err_and}
use Rattle.lx_ir_read.specs.Reading.{unless_faulty, module_found, module_at}
use Rattle.lx_ir_read.proofs.Drafts.{module_is, module_fails}
use Rattle.lx_ir_read.proofs.reading.module_in.Goals as goal

pub returns : goal.returns
returns c = sym (module_is c.args.form c.args.ir.now c.in_ok-reading.reading c.as_slice.result.now c.in_ok-fault.fault c.as_slice.ensures c.in_ok-reading.ensures c.in_ok-fault.ensures) ∙ c.in_ok-module.ensures

pub returns-in_err-module : goal.returns-in_err-module
returns-in_err-module c =
    let p = err_from_is_err_and c.from_residual-in_err-module.result c.from_residual-in_err-module.ensures.1 in
    rw (p.1, p.2) (module_fails c.in_err-module.field-0.0 (unless_faulty c.in_ok-fault.fault (module_found c.args.form c.args.ir.now c.as_slice.result.now)) (module_at c.args.form c.args.ir.now) (module_is c.args.form c.args.ir.now c.in_ok-reading.reading c.as_slice.result.now c.in_ok-fault.fault c.as_slice.ensures c.in_ok-reading.ensures c.in_ok-fault.ensures) c.in_err-module.ensures)
