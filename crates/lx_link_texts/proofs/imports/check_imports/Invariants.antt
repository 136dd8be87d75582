use Rattle.std.proofs.Common.{◌≡◌, drop}
use Rattle.lx_link_texts.specs.Faults.{first_module, imports_fault}
use Rattle.lx_link_texts.proofs.imports.check_imports.Given as goal

abbrev pub invariant-loop-number : goal.invariant-loop-number
invariant-loop-number l =
    first_module (imports_fault l.kernel l.interface) 0 l.modules
    ≡ first_module (imports_fault l.kernel l.interface) l.number (drop l.number l.modules)
