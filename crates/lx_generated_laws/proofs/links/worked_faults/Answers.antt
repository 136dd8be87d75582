-- The rows compute.
use Rattle.std.proofs.Common.{refl}
use Rattle.lx_link_texts.specs.Placing.{globals_end, global_size}
use Rattle.lx_generated_laws.proofs.links.worked_faults.Goals as goal

pub returns : goal.returns
unfolding globals_end global_size
returns c =
    record {
      aliased = refl;
      bent = refl;
      not_exported = refl;
      missing = refl;
      kernels_own = refl;
      other_width = refl;
      same_width = refl;
      no_alias = refl;
      kernels_alias = refl;
      no_export = refl;
      no_slot = refl;
      no_pointer = refl;
      with_pointer = refl;
      indirect = refl;
      modules_indirect = refl;
      full = refl;
      too_full = refl;
    }
