-- Code that may run.
use Rattle.std.specs.Prelude.{◌≡◌, ℕ, List}
use Rattle.lx_ir.specs.declared.module.Module.{Module}
use Rattle.lx_model.specs.declared.program.Program.{Program}
use Rattle.lx_model.specs.Program.{empty_module}
use Rattle.lx_code.specs.declared.code.ActionCounts.{ActionCounts}
use Rattle.lx_code.specs.declared.targets.Target.{Target as Named}
use Rattle.lx_code.specs.Places.{Key, HasAddresses}
use Rattle.lx_code.specs.Reach.{IsWithinReach, CountsActions}
use Rattle.lx_code.specs.Targets.{HasTables}

-- the tables of the kernel and of the modules tell what their functions name in a program, one has the addresses of globals,
-- and the empty text is one
pub record IsNamed (p : Program) (empty : Module) (kernel : List Named) (modules : List (List Named)) (globals : List (Key × ℕ)) : Type 0 where
  pub empty_text : empty ≡ empty_module
  pub targets : HasTables p kernel modules
  pub addresses : HasAddresses p.globals globals

-- the program is within reach, and the table counts its actions
pub record IsRunnable (p : Program) (counts : List ActionCounts) : Type 0 where
  pub reach : IsWithinReach p
  pub actions : CountsActions p counts
