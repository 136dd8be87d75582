-- What a reader knows of the names of a module whose text it reads.
use Rattle.std.specs.Prelude.{◌≡◌, ℕ, ◌<◌, Bool, true, not, Option, Some, None, IsTrue, IfSome, List, ◌∷◌, length, slice_get}
use Rattle.std.specs.List.{list_all}
use Rattle.lx_ir.specs.declared.module.Symbol.{Symbol}
use Rattle.lx_ir.specs.declared.module.Function.{Function}
use Rattle.lx_ir.specs.declared.module.Module.{Module}
use Rattle.lx_ir.specs.declared.instr.Op.{Op}
use Rattle.lx_ir.specs.Operands.{register_count, given_by, is_image_line}
use Rattle.lx_ir.specs.IrType.{IrType}
use Rattle.lx_ir.specs.Layout.{is_lawful_type}
use Rattle.lx_ir.specs.Text.{type_name, symbol_name, register_name}
use Rattle.lx_ir.specs.Lawful.{is_lawful_symbol, is_own_name, symbol_names}
use Rattle.lx_ir_tokens.specs.declared.token.Tok.{Tok}
use Rattle.lx_ir_tokens.specs.declared.token.Kind.TheVariants as kind
use Rattle.lx_ir_tokens.specs.declared.keyword.Keyword.{Keyword}
use Rattle.lx_ir_calls.specs.declared.intrinsics.TextForm.{TextForm}
use Rattle.lx_ir_calls.specs.declared.intrinsics.TextForm.TheVariants as forms
use Rattle.lx_ir_terms.specs.Context.{Context, type_number, symbol_of, register_number}
use Rattle.lx_ir_terms.specs.Grammar.{is_inside_limits}

-- The name of each type, function and global stands for it, wherever it is in the table of names; and each type that a lawful module
-- may have is within the limits that are asked of types as they are written.
pub record Knows (m : Module) (context : Context) : Type 0 where
  pub types : (k name : ℕ) → k < length m.types → slice_get context.names name ≡ Some (type_name m.types k) → type_number context name ≡ Some k
  pub symbols : (s : Symbol) (name : ℕ) → is_lawful_symbol m s ≡ true → slice_get context.names name ≡ Some (symbol_name m s) → symbol_of context name ≡ Some s
  pub limits : (t : IrType) → is_lawful_type m.types t ≡ true → is_inside_limits context.limits t ≡ true

-- The name of each register of a function stands for it.
pub record KnowsRegisters (f : Function) (context : Context) : Type 0 where
  pub registers : (r name : ℕ) → r < register_count f → slice_get context.names name ≡ Some (register_name f r) → register_number context name ≡ r

-- The register that an instruction gives is one of the function.
abbrev pub GivesRegister : Function → Op → Type 0
GivesRegister f o = IfSome (given_by o) (λ r. r < register_count f)

-- nothing of the module has a name of an image's own
abbrev pub HasNoOwnNames : Module → Type 0
HasNoOwnNames m = IsTrue (list_all (λ n. not (is_own_name n)) (symbol_names m))

-- only the text of an image has the lines of images
abbrev pub may_stand : TextForm → Op → Bool
may_stand forms.Program o = not (is_image_line o)
may_stand forms.Image o = true

-- An instruction begins with the name of the register that it gives, or else with a word.
abbrev pub StartsWith : Context → Function → Option ℕ → List Tok → Type 0
StartsWith context f (Some r) ts = (t : Tok) × (us : List Tok) × (t.kind ≡ kind.Local) × (slice_get context.names t.name ≡ Some (register_name f r)) × (ts ≡ t ∷ us)
StartsWith context f None ts = (t : Tok) × (us : List Tok) × ((w : Keyword) × (t.kind ≡ kind.Word w)) × (ts ≡ t ∷ us)
