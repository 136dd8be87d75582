-- The rows compute.
use Rattle.std.proofs.Common.{nat_le, ap, refl}
use Rattle.std.specs.Prelude.{codes}
use Rattle.std.specs.Option.{option_or}
use Rattle.lx_link_texts.specs.declared.fault.FaultKind.TheVariants.{TooLarge}
use Rattle.lx_link_texts.specs.Placing.{functions_of, globals_of, globals_end, global_size}
use Rattle.lx_link_texts.specs.Faults.{fault, fault_unless, globals_fault, last_source, most_functions}
use Rattle.lx_generated_laws.proofs.links.worked_orders.Goals as goal

pub returns : goal.returns
unfolding functions_of globals_of globals_end global_size
returns c =
    record {
      indirect_first = refl;
      export_first = refl;
      kernel_first = refl;
      differs = refl;
      import_first = refl;
      import_behind = refl;
      module_first = refl;
      differs_first = refl;
      functions_first = λ s e. ap (λ n. option_or (fault_unless (nat_le n most_functions) (fault TooLarge (last_source s.modules) 1 (codes "functions"))) (globals_fault s)) e;
      functions_within = λ s e. ap (λ n. option_or (fault_unless (nat_le n most_functions) (fault TooLarge (last_source s.modules) 1 (codes "functions"))) (globals_fault s)) e;
      last_module = refl;
      kernel_alone = refl;
      globals_first = refl;
    }
