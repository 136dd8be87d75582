-- Lawful modules: those that a text can say, in one of its two forms. Lines do not count.
use Rattle.std.specs.Prelude.{ℕ, zero, suc, ◌+◌, ◌<◌, ◌^◌, max, Bool, true, false, not, ◌&&◌, ◌||◌, IsTrue, Option, Some, None, List, [], ◌∷◌, ◌++◌, map, flat_map, filter_map, length, nat_eq, nat_lt, nat_le, codes, bytes_eq, if◌then◌else◌, is_some, is_none}
use Rattle.std.specs.List.{list_all, list_any, starts_with}
use Rattle.lx_words.specs.Width.{same_width}
use Rattle.lx_words.specs.declared.word.Width.{Width}
use Rattle.lx_words.specs.declared.word.Width.TheVariants.{W32, W64}
use Rattle.lx_ir.specs.declared.types.Scalar.{Scalar}
use Rattle.lx_ir.specs.declared.types.Scalar.TheVariants.{Int, Ptr}
use Rattle.lx_ir.specs.declared.types.NamedType.{NamedType}
use Rattle.lx_ir.specs.declared.module.Symbol.{Symbol}
use Rattle.lx_ir.specs.declared.module.Symbol.TheVariants as symbol
use Rattle.lx_ir.specs.declared.module.Pointer.{Pointer}
use Rattle.lx_ir.specs.declared.module.Pointer.TheVariants as pointer
use Rattle.lx_ir.specs.declared.module.Constant.{Constant}
use Rattle.lx_ir.specs.declared.module.Constant.TheVariants as constant
use Rattle.lx_ir.specs.declared.module.Value.{Value}
use Rattle.lx_ir.specs.declared.module.Value.TheVariants as value
use Rattle.lx_ir.specs.declared.module.GlobalVar.{GlobalVar}
use Rattle.lx_ir.specs.declared.module.Block.{Block}
use Rattle.lx_ir.specs.declared.module.Function.{Function}
use Rattle.lx_ir.specs.declared.module.Module.{Module}
use Rattle.lx_ir.specs.declared.instr.Argument.{Argument}
use Rattle.lx_ir.specs.declared.instr.Callee.{Callee}
use Rattle.lx_ir.specs.declared.instr.Callee.TheVariants as callee
use Rattle.lx_ir.specs.declared.instr.Instr.{Instr}
use Rattle.lx_ir.specs.declared.instr.Op.{Op}
use Rattle.lx_ir.specs.declared.instr.Op.TheVariants as op
use Rattle.lx_ir.specs.IrType.{IrType, One}
use Rattle.lx_ir.specs.Init.{Init, Plain, Empty, Bytes, Group, Inits, no_more, more}
use Rattle.lx_ir.specs.Layout.{is_struct, is_lawful_type}
use Rattle.lx_ir.specs.Lookup.{blocks_of, instrs_of, all_instrs, is_defined}
use Rattle.lx_ir.specs.Operands.{operands_of, labels_of, is_terminator, is_image_line, operands_where, register_count, given_numbers}
use Rattle.lx_ir.specs.Text.{symbol_name}

-- Names.

-- the bytes of a name in quotes: printable, but the quote and the backslash
abbrev pub stands_in_name : ℕ → Bool
stands_in_name b = nat_le 32 b && nat_lt b 127 && not (nat_eq b 34) && not (nat_eq b 92)

-- a name of a type, a register, a function or a global
abbrev pub is_name : List ℕ → Bool
is_name [] = false
is_name name = list_all stands_in_name name

abbrev pub is_digit : ℕ → Bool
is_digit b = nat_le 48 b && nat_le b 57

-- the bytes of a word: letters, digits and `$._`
abbrev pub is_word_byte : ℕ → Bool
is_word_byte b = nat_le 65 b && nat_le b 90 || nat_le 97 b && nat_le b 122 || is_digit b || (nat_eq b 36 || nat_eq b 46 || nat_eq b 95)

-- the name of a block: a word, which does not begin with a digit, or a decimal number
abbrev pub is_label : List ℕ → Bool
is_label [] = false
is_label (b ∷ bs) = list_all is_digit (b ∷ bs) || not (is_digit b) && list_all is_word_byte (b ∷ bs)

-- no name stands twice
abbrev pub is_distinct : List (List ℕ) → Bool
is_distinct [] = true
is_distinct (n ∷ ns) = not (list_any (bytes_eq n) ns) && is_distinct ns

-- the calls of these names are block writes
abbrev pub is_block_write : List ℕ → Bool
is_block_write name =
    list_any (bytes_eq name)
    (codes "llvm.memcpy.p0.p0.i32" ∷ codes "llvm.memcpy.p0.p0.i64" ∷ codes "llvm.memmove.p0.p0.i32" ∷ codes "llvm.memmove.p0.p0.i64" ∷ codes "llvm.memset.p0.i32" ∷ codes "llvm.memset.p0.i64" ∷ [])

-- the calls of these names are the lines that images alone have
abbrev pub is_image_name : List ℕ → Bool
is_image_name name =
    list_any (bytes_eq name)
    (codes "lxfi.guard" ∷ codes "lxfi.guard32" ∷ codes "lxfi.check" ∷ codes "lxfi.enter" ∷ codes "lxfi.pre" ∷ codes "lxfi.post" ∷ codes "lxfi.leave" ∷ [])

-- Constants.

abbrev pub is_function : Symbol → Bool
is_function (symbol.Function k) = true
is_function (symbol.Global k) = false

-- the number names something of the module
abbrev pub is_lawful_symbol : Module → Symbol → Bool
is_lawful_symbol m (symbol.Function k) = nat_lt k (length m.functions)
is_lawful_symbol m (symbol.Global k) = nat_lt k (length m.globals)

abbrev pub is_lawful_pointer : Module → Pointer → Bool
is_lawful_pointer m (pointer.Symbol s n) = is_lawful_symbol m s
is_lawful_pointer m p = true

abbrev pub same_scalar : Scalar → Scalar → Bool
same_scalar (Int v) (Int w) = same_width v w
same_scalar Ptr Ptr = true
same_scalar _ _ = false

-- a blank one stands at a pointer
abbrev pub fits_pointer : Scalar → Pointer → Bool
fits_pointer ty (pointer.Blank b) = same_scalar Ptr ty
fits_pointer ty p = true

-- a constant as a text with this type before it says it: a number stands at an integer type of its width, and a blank one keeps its type
abbrev pub is_lawful_constant : Module → Scalar → Constant → Bool
is_lawful_constant m ty (constant.Number w) = same_scalar (Int w.width) ty
is_lawful_constant m ty (constant.Truth b) = true
is_lawful_constant m ty (constant.Blank b w) = same_scalar (Int w) ty
is_lawful_constant m ty (constant.Pointer p) = is_lawful_pointer m p && fits_pointer ty p
is_lawful_constant m ty (constant.Cast p w) = is_lawful_pointer m p

-- how deep the text of a constant nests
abbrev pub pointer_nesting : Pointer → ℕ
pointer_nesting (pointer.Number n) = 1
pointer_nesting (pointer.Symbol s zero) = 0
pointer_nesting (pointer.Symbol s (suc n)) = 1
pointer_nesting _ = 0

abbrev pub nesting_of_constant : Constant → ℕ
nesting_of_constant (constant.Pointer p) = pointer_nesting p
nesting_of_constant (constant.Cast p w) = suc (pointer_nesting p)
nesting_of_constant _ = 0

abbrev mutual
  pub nesting_of_init : Init → ℕ
  nesting_of_init (Plain c) = nesting_of_constant c
  nesting_of_init (Empty b) = 0
  nesting_of_init (Bytes bs) = 0
  nesting_of_init (Group k ts is) = suc (nesting_of_inits is)

  pub nesting_of_inits : Inits → ℕ
  nesting_of_inits no_more = 0
  nesting_of_inits (more i is) = max (nesting_of_init i) (nesting_of_inits is)

-- a constant of a register's type in an initialiser. What has its type from where it stands is kept as `Empty`
abbrev pub is_lawful_item : Module → IrType → Constant → Bool
is_lawful_item m (One ty) (constant.Number w) = same_scalar (Int w.width) ty
is_lawful_item m ty (constant.Number w) = false
is_lawful_item m ty (constant.Blank b w) = false
is_lawful_item m ty (constant.Pointer (pointer.Blank b)) = false
is_lawful_item m ty (constant.Pointer p) = is_lawful_pointer m p
is_lawful_item m ty (constant.Truth b) = true
is_lawful_item m ty (constant.Cast p w) = is_lawful_pointer m p

abbrev mutual
  -- an initialiser as a text with this type before it says it
  pub is_lawful_init : Module → IrType → Init → Bool
  is_lawful_init m t (Plain c) = is_lawful_item m t c
  is_lawful_init m t (Empty b) = true
  is_lawful_init m t (Bytes bs) = true
  is_lawful_init m t (Group k ts is) = list_all (is_lawful_type m.types) ts && are_lawful_inits m ts is

  pub are_lawful_inits : Module → List IrType → Inits → Bool
  are_lawful_inits m [] no_more = true
  are_lawful_inits m (t ∷ ts) (more i is) = is_lawful_init m t i && are_lawful_inits m ts is
  are_lawful_inits m _ _ = false

-- Instructions.

abbrev pub is_lawful_value : Module → Function → Scalar → Value → Bool
is_lawful_value m f ty (value.Register r) = nat_lt r (register_count f)
is_lawful_value m f ty (value.Constant c) = is_lawful_constant m ty c && nat_le (nesting_of_constant c) 64

abbrev pub is_constant : Value → Bool
is_constant (value.Register r) = false
is_constant (value.Constant c) = true

-- a call of a name that is neither a block write nor a line of an image
abbrev pub is_lawful_callee : Module → Callee → Bool
is_lawful_callee m (callee.Symbol s) = is_lawful_symbol m s && not (is_block_write (symbol_name m s)) && not (is_image_name (symbol_name m s))
is_lawful_callee m (callee.Register r) = true

-- a length of a block write
abbrev pub is_length : Argument → Bool
is_length a = same_scalar (Int W32) a.ty || same_scalar (Int W64) a.ty

-- what a form asks beside its operands
abbrev pub has_form : Module → Op → Bool
has_form m (op.Phi to ty edges) = nat_lt 0 (length edges)
has_form m (op.Alloca to ty) = is_lawful_type m.types ty
has_form m (op.GetElementPtr to ty base indices) = is_lawful_type m.types ty && nat_lt 0 (length indices)
has_form m (op.Call to ret target args) = (is_none to || is_some ret) && is_lawful_callee m target
has_form m (op.CopyBlock moves dest source len) = is_length len
has_form m (op.FillBlock dest byte len) = is_length len
has_form m (op.Switch ty v otherwise cases) = list_all (λ c. is_constant c.value) cases
has_form m (op.Enter s) = is_lawful_symbol m s
has_form m (op.Pre s k) = is_lawful_symbol m s
has_form m (op.Post s k) = is_lawful_symbol m s
has_form m (op.Leave s) = is_lawful_symbol m s
has_form m _ = true

abbrev pub is_lawful_op : Module → Function → Op → Bool
is_lawful_op m f o =
    has_form m o && list_all (λ a. is_lawful_value m f a.ty a.value) (operands_of o) && list_all is_name (labels_of o)

-- Functions.

-- only the last instruction ends a block
abbrev pub ends_once : List Instr → Bool
ends_once [] = true
ends_once (i ∷ []) = true
ends_once (i ∷ j ∷ is) = not (is_terminator i.op) && ends_once (j ∷ is)

abbrev pub is_lawful_block : Module → Function → Block → Bool
is_lawful_block m f b = is_label b.name && ends_once b.instrs && list_all (λ i. is_lawful_op m f i.op) b.instrs

-- the numbers are those from this one on
abbrev pub counts_from : ℕ → List ℕ → Bool
counts_from n [] = true
counts_from n (k ∷ ks) = nat_eq k n && counts_from (suc n) ks

abbrev pub register_in : Value → Option ℕ
register_in (value.Register r) = Some r
register_in (value.Constant c) = None

abbrev pub registers_in : List Argument → List ℕ
registers_in xs = filter_map (λ a. register_in a.value) xs

-- the registers that instructions read, those of the lines that images alone have or those of all others, in the order of the text
abbrev pub numbers_read : Bool → List Instr → List ℕ
numbers_read lines is = flat_map (λ i. registers_in (operands_where lines i.op)) is

-- the registers that the instructions of a function read; what the lines read that images alone have comes last, so that an image
-- numbers the registers of its program as the program does
abbrev pub read_numbers : Function → List ℕ
read_numbers f = numbers_read false (instrs_of f) ++ numbers_read true (instrs_of f)

-- numbers from this one on come first in their order, up to another
abbrev pub first_come : ℕ → ℕ → List ℕ → Bool
first_come n last [] = nat_eq n last
first_come n last (k ∷ ks) = nat_le k n && first_come (if nat_eq k n then suc n else n) last ks

-- the registers are the parameters, then what the instructions give, then those that are only read, by where they are first read
abbrev pub numbers_registers : Function → Bool
numbers_registers f =
    counts_from (length f.params) (given_numbers f)
    && first_come (length f.params + length (given_numbers f)) (register_count f) (read_numbers f)

abbrev pub parameter_names : Function → List (List ℕ)
parameter_names f = map (λ p. p.name) f.params

-- an import keeps no names
abbrev pub is_lawful_import : Function → Bool
is_lawful_import f = list_all (λ p. nat_eq (length p.name) 0) f.params && nat_eq (length f.locals) 0

abbrev pub is_lawful_body : Module → Function → Bool
is_lawful_body m f =
    list_all is_name (parameter_names f ++ f.locals)
    && is_distinct (parameter_names f ++ f.locals)
    && nat_lt (register_count f) 4294967295
    && nat_lt 0 (length (blocks_of f))
    && is_distinct (map (λ b. b.name) (blocks_of f))
    && list_all (is_lawful_block m f) (blocks_of f)
    && numbers_registers f

-- Its name is no block write's: the import of one is not kept, and no text defines one.
abbrev pub is_lawful_function : Module → Function → Bool
is_lawful_function m f = is_name f.name && not (is_block_write f.name) && (if is_defined f then is_lawful_body m f else is_lawful_import f)

-- the imports stand first
abbrev pub imports_first : List Function → Bool
imports_first [] = true
imports_first (f ∷ fs) = (not (is_defined f) || list_all is_defined fs) && imports_first fs

-- Modules.

abbrev pub is_lawful_named : Module → NamedType → Bool
is_lawful_named m t = is_name t.name && is_struct t.ty && is_lawful_type m.types t.ty

abbrev pub is_lawful_global : Module → GlobalVar → Bool
is_lawful_global m g = is_name g.name && is_lawful_type m.types g.ty && is_lawful_init m g.ty g.init && nat_le (nesting_of_init g.init) 64

abbrev pub type_names : Module → List (List ℕ)
type_names m = map (λ t. t.name) m.types

-- the names behind `@`
abbrev pub symbol_names : Module → List (List ℕ)
symbol_names m = map (λ g. g.name) m.globals ++ map (λ f. f.name) m.functions

pub record IsLawful (m : Module) : Type 0 where
  -- each type, global and function is defined once
  pub types_once : IsTrue (is_distinct (type_names m))
  pub symbols_once : IsTrue (is_distinct (symbol_names m))
  -- a type statement names a struct, and every type is within the limits
  pub types : IsTrue (list_all (is_lawful_named m) m.types)
  -- each global has a type, and an initialiser that a text can say
  pub globals : IsTrue (list_all (is_lawful_global m) m.globals)
  -- in each function each label and each register is defined once, and each number names something
  pub functions : IsTrue (list_all (is_lawful_function m) m.functions)
  pub imports_first : IsTrue (imports_first m.functions)
  -- a `u32` numbers the types, the globals and the functions
  pub few_types : length m.types < 4294967295
  pub few_globals : length m.globals < 4294967295
  pub few_functions : length m.functions < 4294967295

-- a name that a program's own text never has
abbrev pub is_own_name : List ℕ → Bool
is_own_name name = starts_with nat_eq name (codes "lxfi.")

-- a module without the lines and names that images alone have
pub record IsPlain (m : Module) : Type 0 where
  pub lines : IsTrue (list_all (λ i. not (is_image_line i.op)) (all_instrs m))
  pub names : IsTrue (list_all (λ n. not (is_own_name n)) (symbol_names m))
