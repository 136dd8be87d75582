-- The functions of a module that is read.
use Rattle.std.specs.Prelude.{ℕ, true, ◌+◌, ◌<◌, ◌^◌, not, IsTrue, List, length}
use Rattle.std.specs.List.{list_all}
use Rattle.lx_ir.specs.declared.module.Module.{Module}
use Rattle.lx_ir.specs.Lookup.{all_instrs}
use Rattle.lx_ir.specs.Operands.{is_image_line}
use Rattle.lx_ir.specs.Lawful.{is_lawful_function}
use Rattle.lx_ir_terms.specs.Context.{Context}
use Rattle.lx_ir_calls.specs.declared.intrinsics.TextForm.{TextForm}
use Rattle.lx_ir_calls.specs.declared.intrinsics.TextForm.TheVariants.{Program}
use Rattle.lx_ir_read.specs.Reading.{tables_of, full_context}
use Rattle.lx_ir_read.specs.Grammar.{IsModule}
use Rattle.lx_ir_lawful.specs.Tells.{Tells}
use Rattle.lx_ir_lawful.specs.Said.{Names}
pub use Rattle.lx_ir_lawful.specs.OnceLaws.{TypesAreOnce, SymbolsAreOnce, ImportsAreFirst}

-- the context that knows all names of a module, by which its statements are read last
abbrev pub last_context : (form : TextForm) (text : List ℕ) (m : Module) → IsModule form text m → Context
last_context form text m is = full_context is.ir (tables_of form is.ir is.statements) true

-- Where the names that the last reading knows are those of the module, each function of a module that a text is is lawful.
abbrev pub FunctionsAreLawful : Type 0
FunctionsAreLawful =
    (form : TextForm) (text : List ℕ) (m : Module) (is : IsModule form text m)
    → Tells m (last_context form text m is) → Names form m (last_context form text m is) → length is.ir.toks + 1 < 2 ^ 32
    → IsTrue (list_all (is_lawful_function m) m.functions)

-- No instruction of a program is a line that images alone have.
abbrev pub ProgramsHaveNoLines : Type 0
ProgramsHaveNoLines = (text : List ℕ) (m : Module) → IsModule Program text m → IsTrue (list_all (λ i. not (is_image_line i.op)) (all_instrs m))
