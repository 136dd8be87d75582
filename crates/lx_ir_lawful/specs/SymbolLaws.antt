-- What names stand for in a module that is read, and its globals.
use Rattle.std.specs.Prelude.{ℕ, not, true, ◌+◌, ◌<◌, ◌^◌, Option, IsTrue, List, length}
use Rattle.std.specs.List.{list_all}
use Rattle.lx_ir.specs.declared.module.Module.{Module}
use Rattle.lx_ir.specs.Lawful.{is_lawful_global, is_own_name, symbol_names}
use Rattle.lx_ir_terms.specs.Context.{Context}
use Rattle.lx_ir_calls.specs.declared.intrinsics.TextForm.{TextForm}
use Rattle.lx_ir_calls.specs.declared.intrinsics.TextForm.TheVariants as forms
use Rattle.lx_ir_read.specs.Again.{with_registers}
use Rattle.lx_ir_read.specs.Reading.{tables_of, full_context}
use Rattle.lx_ir_read.specs.Grammar.{IsModule}
use Rattle.lx_ir_lawful.specs.Tells.{Tells}
use Rattle.lx_ir_lawful.specs.Said.{Names}

-- the context of the last reading, where registers have these numbers
abbrev pub last_context : (form : TextForm) (text : List ℕ) (m : Module) → IsModule form text m → List (Option ℕ) → Context
last_context form text m is registers = with_registers (full_context is.ir (tables_of form is.ir is.statements) true) registers

-- Names stand for things of the module alone, within the limits on its types.
abbrev pub TextsTell : Type 0
TextsTell = (form : TextForm) (text : List ℕ) (m : Module) (is : IsModule form text m) (registers : List (Option ℕ)) → Tells m (last_context form text m is registers)

-- The things have these names, and none of a program has the name of a line of images.
abbrev pub TextsName : Type 0
TextsName = (form : TextForm) (text : List ℕ) (m : Module) (is : IsModule form text m) (registers : List (Option ℕ)) → Names form m (last_context form text m is registers)

-- Each global has a name, a type within the limits, and an initialiser that a text can say.
abbrev pub GlobalsAreLawful : Type 0
GlobalsAreLawful = (form : TextForm) (text : List ℕ) (m : Module) → IsModule form text m → IsTrue (list_all (is_lawful_global m) m.globals)

-- No name of a program is an image's own.
abbrev pub ProgramsOwnNames : Type 0
ProgramsOwnNames = (text : List ℕ) (m : Module) → IsModule forms.Program text m → IsTrue (list_all (λ n. not (is_own_name n)) (symbol_names m))

-- a `u32` numbers the types, the globals and the functions
pub record IsNumbered (m : Module) : Type 0 where
  pub types : length m.types < 4294967295
  pub globals : length m.globals < 4294967295
  pub functions : length m.functions < 4294967295

-- A text whose bytes a `u32` numbers has no more types, globals and functions than that.
abbrev pub ThingsAreFew : Type 0
ThingsAreFew = (form : TextForm) (text : List ℕ) (m : Module) → length text + 1 < 2 ^ 32 → IsModule form text m → IsNumbered m
