-- When two modules are one text. Lines do not count.
use Rattle.std.specs.Prelude.{◌≡◌, map}
use Rattle.lx_ir.specs.declared.module.Module.{Module}
use Rattle.lx_image_texts.specs.Guards.{unlined_global, function_text}

-- the same types, the same globals without their lines, and functions with the same text
pub record SameText (a b : Module) : Type 0 where
  pub types : a.types ≡ b.types
  pub globals : map unlined_global a.globals ≡ map unlined_global b.globals
  pub functions : map function_text a.functions ≡ map function_text b.functions
