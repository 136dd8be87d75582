-- Worked rows: a function that returns its register, which is a parameter or is assigned nowhere.
use Rattle.std.specs.Prelude.{ℕ, Some, None, List, [], ◌∷◌, codes}
use Rattle.lx_words.specs.declared.word.Width.TheVariants.{W32}
use Rattle.lx_ir.specs.declared.types.Scalar.TheVariants.{Int}
use Rattle.lx_ir.specs.declared.module.Value.TheVariants as value
use Rattle.lx_ir.specs.declared.module.Parameter.{Parameter}
use Rattle.lx_ir.specs.declared.module.Module.{Module}
use Rattle.lx_ir.specs.declared.instr.Op.TheVariants as op
use Rattle.lx_ir.specs.Operands.{argument}
use Rattle.lx_ir.specs.Lawful.{IsLawful}
use Rattle.lx_ir.specs.Faults.{FirstFault, NotAssigned}

abbrev pub returning : List Parameter → List (List ℕ) → Module
returning params locals =
    record {
      types = [];
      globals = [];
      functions =
          record {
            name = codes "f";
            params = params;
            locals = locals;
            ret = Some (Int W32);
            blocks = Some (record { name = codes "0"; instrs = record { op = op.Ret (Some (argument (Int W32) (value.Register 0))); line = 2 } ∷ [] } ∷ []);
            line = 1;
          }
          ∷ [];
    }

-- `define i32 @f() {`, `ret i32 %x`, `}`
abbrev pub unassigned_module : Module
unassigned_module = returning [] (codes "x" ∷ [])

-- `define i32 @f(i32 %x) {`, `ret i32 %x`, `}`
abbrev pub assigned_module : Module
assigned_module = returning (record { name = codes "x"; ty = Int W32 } ∷ []) []

pub record WorkedFaults : Type 0 where
  pub unassigned_lawful : IsLawful unassigned_module
  pub unassigned : FirstFault unassigned_module (Some (NotAssigned 2 (codes "%x")))
  pub assigned_lawful : IsLawful assigned_module
  pub assigned : FirstFault assigned_module None
