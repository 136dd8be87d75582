-- A worked row: a small module, its text, and a reader that knows its names.
use Rattle.std.specs.Prelude.{◌≡◌, Some, None, [], ◌∷◌, true, codes}
use Rattle.lx_ir.specs.declared.module.Symbol.TheVariants.{Function as function}
use Rattle.lx_ir.specs.declared.module.Function.{Function}
use Rattle.lx_ir.specs.declared.module.Module.{Module}
use Rattle.lx_ir.specs.declared.instr.Op.TheVariants.{Ret}
use Rattle.lx_ir.specs.Text.{module_text}
use Rattle.lx_ir_terms.specs.Context.{Context}
use Rattle.lx_ir_calls.specs.declared.intrinsics.TextForm.TheVariants.{Program}
use Rattle.lx_ir_complete.specs.StatementLaws.{IsGiven}

-- a function that does nothing
abbrev pub idle : Function
idle = record {
  name = codes "f";
  params = [];
  locals = [];
  ret = None;
  blocks = Some (record { name = codes "0"; instrs = record { op = Ret None; line = 3 } ∷ [] } ∷ []);
  line = 1;
}

abbrev pub small : Module
small = record { types = []; globals = []; functions = idle ∷ [] }

-- its one name, and what that stands for
abbrev pub reader : Context
reader = record { types = []; symbols = Some (function 0) ∷ []; registers = []; named = []; layouts = []; limits = None; names = codes "f" ∷ []; complete = true }

pub record WorkedModule : Type 0 where
  pub text : module_text small ≡ codes "define void @f() {\n0:\n  ret void\n}\n"
  pub given : IsGiven true Program small reader (λ f. reader)
