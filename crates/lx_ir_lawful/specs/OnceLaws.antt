-- The types of a module that is read.
use Rattle.std.specs.Prelude.{ℕ, Bool, not, ◌||◌, IsTrue, List}
use Rattle.std.specs.List.{list_all}
use Rattle.lx_ir.specs.declared.module.Function.{Function}
use Rattle.lx_ir.specs.declared.module.Module.{Module}
use Rattle.lx_ir.specs.Lookup.{is_defined}
use Rattle.lx_ir.specs.Lawful.{is_name, is_distinct, is_lawful_named, is_block_write, is_lawful_import, imports_first, type_names, symbol_names}
use Rattle.lx_ir_calls.specs.declared.intrinsics.TextForm.{TextForm}
use Rattle.lx_ir_read.specs.Grammar.{IsModule}

pub record HasLawfulNames (m : Module) : Type 0 where
  -- each type is defined once
  pub types_once : IsTrue (is_distinct (type_names m))
  -- it has a name, and is a struct within the limits
  pub types : IsTrue (list_all (is_lawful_named m) m.types)

-- The types of a module that a text is are lawful.
abbrev pub TypesAreOnce : Type 0
TypesAreOnce = (form : TextForm) (text : List ℕ) (m : Module) → IsModule form text m → HasLawfulNames m

pub record HasLawfulSymbols (m : Module) : Type 0 where
  -- each global and function is defined once, and has a name
  pub symbols_once : IsTrue (is_distinct (symbol_names m))
  pub names : IsTrue (list_all is_name (symbol_names m))

-- So are the names of its globals and functions.
abbrev pub SymbolsAreOnce : Type 0
SymbolsAreOnce = (form : TextForm) (text : List ℕ) (m : Module) → IsModule form text m → HasLawfulSymbols m

-- a function that is defined, or an import that keeps no names
abbrev pub is_first_or_defined : Function → Bool
is_first_or_defined f = is_defined f || is_lawful_import f

-- the name is no block write's
abbrev pub has_plain_name : Function → Bool
has_plain_name f = not (is_block_write f.name)

pub record HasLawfulImports (m : Module) : Type 0 where
  -- the imports stand first
  pub first : IsTrue (imports_first m.functions)
  pub imports : IsTrue (list_all is_first_or_defined m.functions)
  -- the import of a block write is not kept, and no text defines one
  pub plain : IsTrue (list_all has_plain_name m.functions)

-- The imports of a module that a text is stand first, each is lawful, and no function is a block write.
abbrev pub ImportsAreFirst : Type 0
ImportsAreFirst = (form : TextForm) (text : List ℕ) (m : Module) → IsModule form text m → HasLawfulImports m
