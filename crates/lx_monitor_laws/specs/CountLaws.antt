-- What is reported of an image, counted in the image.
use Rattle.std.specs.Prelude.{◌≡◌, ℕ, Bool, true, false, Some, drop, length, count_by}
use Rattle.lx_ir.specs.declared.module.Module.{Module}
use Rattle.lx_ir.specs.declared.instr.Op.{Op}
use Rattle.lx_ir.specs.declared.instr.Op.TheVariants.{Guard, Check}
use Rattle.lx_ir.specs.Lookup.{all_instrs}
use Rattle.lx_image_texts.specs.Instrumented.{GuardsBut, leaves_none}
use Rattle.lx_model.specs.declared.account.ImageCount.{ImageCount}
use Rattle.lx_model.specs.declared.program.Program.{Program}
use Rattle.lx_model.specs.Account.{image_count}
use Rattle.lx_model.specs.Program.{module_of}

-- a line `@lxfi.guard` or `@lxfi.guard32`, and a line `@lxfi.check`
abbrev pub is_guard : Op → Bool
is_guard (Guard at size narrow) = true
is_guard _ = false

abbrev pub is_check : Op → Bool
is_check (Check target) = true
is_check _ = false

-- the numbers of guards, of checks, and of functions behind those of the module, in a text
pub record Counts (count : ImageCount) (m x : Module) : Type 0 where
  pub guards : count.guards ≡ count_by (λ i. is_guard i.op) (all_instrs x)
  pub checks : count.checks ≡ count_by (λ i. is_check i.op) (all_instrs x)
  pub wrappers : count.wrappers ≡ length (drop (length m.functions) x.functions)

pub record CountLaws : Type 0 where
  -- the numbers that are reported of a module are those of its image with all guards
  pub counted : (p : Program) (k : ℕ) (x : Module) → GuardsBut leaves_none p.interface (module_of p (Some k)) x → Counts (image_count p k) (module_of p (Some k)) x
