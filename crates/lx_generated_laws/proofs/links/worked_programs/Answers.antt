-- The rows compute.
use Rattle.std.proofs.Common.{refl}
use Rattle.lx_link_texts.specs.Placing.{functions_of, globals_of, global_size}
use Rattle.lx_generated_laws.proofs.links.worked_programs.Goals as goal

pub returns : goal.returns
unfolding functions_of globals_of global_size
returns c = record { stored = refl; past = refl; spans = refl; aliases = refl; bends = refl; hooks = refl; first = refl; last = refl; functions = refl; global = refl }
