-- Worked rows: texts that are images of their modules.
use Rattle.std.specs.Prelude.{◌≡◌, map}
use Rattle.lx_generated_laws.specs.RowTexts.{no_interface}
use Rattle.lx_image_texts.specs.Guards.{function_text, Guards}
use Rattle.lx_image_texts.specs.Instrumented.{leaves_none, leaves_spared, GuardsBut}
use Rattle.lx_image_texts.specs.Erased.{erased_functions}
use Rattle.lx_generated_laws.specs.ImageTexts.{one_module, one_image, hook_interface, hook_module, hook_image, quiet_module, quiet_guarded}

pub record WorkedImages : Type 0 where
  -- a store with its guard
  pub stored : Guards no_interface one_module one_image
  -- a spared store with its guard, and without
  pub guarded : Guards no_interface quiet_module quiet_guarded
  pub spared : Guards no_interface quiet_module quiet_module
  -- calls of an import by its wrapper, and checked calls
  pub hooked : Guards hook_interface hook_module hook_image
  -- what an instrumenter makes: each guard that may be left out is, or none is
  pub made_stored : GuardsBut (leaves_spared one_module) no_interface one_module one_image
  pub made_hooked : GuardsBut (leaves_spared hook_module) hook_interface hook_module hook_image
  pub made_spared : GuardsBut (leaves_spared quiet_module) no_interface quiet_module quiet_module
  pub made_guarded : GuardsBut leaves_none no_interface quiet_module quiet_guarded
  -- erasing gives the modules back
  pub erased_stored : erased_functions one_image ≡ map function_text one_module.functions
  pub erased_hooked : erased_functions hook_image ≡ map function_text hook_module.functions
  pub erased_guarded : erased_functions quiet_guarded ≡ map function_text quiet_module.functions
