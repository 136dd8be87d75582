-- The rows compute.
use Rattle.std.proofs.Common.{refl}
use Rattle.lx_link_texts.specs.Placing.{functions_of, globals_of, global_size}
use Rattle.lx_link.specs.Calls.{named_address}
use Rattle.lx_generated_laws.proofs.links.worked_calls.Goals as goal

pub returns : goal.returns
unfolding functions_of globals_of global_size named_address
returns c =
    record {
      greatest = refl;
      past = refl;
      least = refl;
      below = refl;
      too_few = refl;
      too_many = refl;
      named = refl;
      named_past = refl;
      name_first = refl;
      target_first = refl;
      call_first = refl;
      thread_first = refl;
      declared = refl;
      declared_name = refl;
      defined_name = refl;
      words = refl;
      address = refl;
      kernels = refl;
      interfaces = refl;
      modules = refl;
      limits = refl;
      scripts = refl;
    }
