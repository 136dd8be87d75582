use Rattle.std.proofs.Common.{◌≡◌, drop}
use Rattle.lx_ir.specs.Faults.{first_some}
use Rattle.lx_link_texts.specs.declared.fault.Source.TheVariants as source
use Rattle.lx_link_texts.specs.Faults.{module_import_fault}
use Rattle.lx_link_texts.proofs.imports.check_module.Given as goal

abbrev pub invariant-loop-function : goal.invariant-loop-function
invariant-loop-function l =
    first_some (module_import_fault l.kernel l.interface (source.Module l.number)) l.m.functions
    ≡ first_some (module_import_fault l.kernel l.interface (source.Module l.number)) (drop l.function-index l.m.functions)
