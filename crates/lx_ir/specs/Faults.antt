-- What is wrong with a module that can be read: five faults, each by its own definition.
use Rattle.std.specs.Prelude.{◌≡◌, ℕ, zero, suc, ◌≤◌, Bool, true, false, not, ◌&&◌, ◌||◌, ◌⊎◌, IsSome, Option, Some, None, List, [], ◌∷◌, ◌++◌, map, flat_map, filter_map, length, take, find, position, slice_get, slice_index_or, ◌-◌, option_map, nat_eq, nat_le, codes, bytes_eq, ℤ, pos, negsuc, if◌then◌else◌}
use Rattle.std.specs.List.{list_all, list_any}
use Rattle.std.specs.Option.{option_or}
use Rattle.lx_words.specs.declared.word.Width.{Width}
use Rattle.lx_words.specs.declared.word.Width.TheVariants.{W1, W8, W32}
use Rattle.lx_words.specs.Width.{bit_count}
use Rattle.lx_words.specs.Word.{Word, signed}
use Rattle.lx_ir.specs.declared.types.Scalar.{Scalar}
use Rattle.lx_ir.specs.declared.types.Scalar.TheVariants.{Int, Ptr}
use Rattle.lx_ir.specs.declared.types.NamedType.{NamedType}
use Rattle.lx_ir.specs.declared.module.Blank.{Blank}
use Rattle.lx_ir.specs.declared.module.Blank.TheVariants.{Undef, Poison, Zero}
use Rattle.lx_ir.specs.declared.module.Symbol.{Symbol}
use Rattle.lx_ir.specs.declared.module.Symbol.TheVariants as symbol
use Rattle.lx_ir.specs.declared.module.Pointer.{Pointer}
use Rattle.lx_ir.specs.declared.module.Pointer.TheVariants as pointer
use Rattle.lx_ir.specs.declared.module.Constant.{Constant}
use Rattle.lx_ir.specs.declared.module.Constant.TheVariants as constant
use Rattle.lx_ir.specs.declared.module.Value.{Value}
use Rattle.lx_ir.specs.declared.module.Value.TheVariants as value
use Rattle.lx_ir.specs.declared.module.Brackets.{Brackets}
use Rattle.lx_ir.specs.declared.module.Brackets.TheVariants as brackets
use Rattle.lx_ir.specs.declared.module.GlobalVar.{GlobalVar}
use Rattle.lx_ir.specs.declared.module.Parameter.{Parameter}
use Rattle.lx_ir.specs.declared.module.Block.{Block}
use Rattle.lx_ir.specs.declared.module.Function.{Function}
use Rattle.lx_ir.specs.declared.module.Module.{Module}
use Rattle.lx_ir.specs.declared.instr.Argument.{Argument}
use Rattle.lx_ir.specs.declared.instr.Callee.{Callee}
use Rattle.lx_ir.specs.declared.instr.Callee.TheVariants as callee
use Rattle.lx_ir.specs.declared.instr.Conversion.{Conversion}
use Rattle.lx_ir.specs.declared.instr.Conversion.TheVariants as conversion
use Rattle.lx_ir.specs.declared.instr.Edge.{Edge}
use Rattle.lx_ir.specs.declared.instr.Instr.{Instr}
use Rattle.lx_ir.specs.declared.instr.Op.{Op}
use Rattle.lx_ir.specs.declared.instr.Op.TheVariants as op
use Rattle.lx_ir.specs.IrType.{IrType, One, Array, Struct, Packed, Named, IrTypes, none, also}
use Rattle.lx_ir.specs.Init.{Init, Plain, Empty, Bytes, Group, Inits, no_more, more}
use Rattle.lx_ir.specs.Layout.{unnamed, list_of_types}
use Rattle.lx_ir.specs.Lawful.{same_scalar, is_function}
use Rattle.lx_ir.specs.Lookup.{blocks_of, instrs_of}
use Rattle.lx_ir.specs.Operands.{operands_of, targets_of, labels_of, given_by, is_terminator, is_phi, register_types}
use Rattle.lx_ir.specs.Text.{register_name, operator_word, conversion_word, unary_word}

-- a fault: its line, and a name or a word
pub data Fault : Type 0 where
  TypeDiffers : ℕ → List ℕ → Fault
  NoSuchLabel : ℕ → List ℕ → Fault
  NotAssigned : ℕ → List ℕ → Fault
  PhiEdges : ℕ → List ℕ → Fault
  NoTerminator : ℕ → List ℕ → Fault

-- the fault, unless the test passes
abbrev pub fault_unless : Bool → Fault → Option Fault
fault_unless true x = None
fault_unless false x = Some x

-- the first answer that there is
abbrev pub first_some : {A B : Type 0} → (A → Option B) → List A → Option B
first_some f [] = None
first_some f (x ∷ xs) = option_or (f x) (first_some f xs)

-- Globals: an initialiser of another type.

abbrev mutual
  -- types are compared as they are written
  pub same_type : IrType → IrType → Bool
  same_type (One s) (One t) = same_scalar s t
  same_type (Array m s) (Array n t) = nat_eq m n && same_type s t
  same_type (Struct ss) (Struct ts) = same_types ss ts
  same_type (Packed ss) (Packed ts) = same_types ss ts
  same_type (Named j) (Named k) = nat_eq j k
  same_type _ _ = false

  pub same_types : IrTypes → IrTypes → Bool
  same_types none none = true
  same_types (also s ss) (also t ts) = same_type s t && same_types ss ts
  same_types _ _ = false

abbrev pub are_types : List IrType → IrTypes → Bool
are_types [] none = true
are_types (s ∷ ss) (also t ts) = same_type s t && are_types ss ts
are_types _ _ = false

-- the type of a constant: a name, an address and `null` are pointers, `true` and `false` are `i1`, a `ptrtoint` is of the type that it names
abbrev pub type_of_constant : Constant → Scalar
type_of_constant (constant.Number w) = Int w.width
type_of_constant (constant.Truth b) = Int W1
type_of_constant (constant.Blank b w) = Int w
type_of_constant (constant.Pointer p) = Ptr
type_of_constant (constant.Cast p w) = Int w

-- the types of the items are those of the elements or the fields, as many as there are
abbrev pub has_items : IrType → Brackets → List IrType → Bool
has_items (Array n t) brackets.Array us = nat_eq n (length us) && list_all (λ u. same_type u t) us
has_items (Struct ts) brackets.Struct us = are_types us ts
has_items (Packed ts) brackets.Packed us = are_types us ts
has_items _ k us = false

-- a byte string has the length of its array of `i8`
abbrev pub holds_bytes : IrType → ℕ → Bool
holds_bytes (Array n (One (Int W8))) k = nat_eq n k
holds_bytes _ k = false

abbrev mutual
  -- the initialiser is of the type
  pub init_fits : List NamedType → IrType → Init → Bool
  init_fits types t (Plain c) = same_type t (One (type_of_constant c))
  init_fits types t (Empty b) = true
  init_fits types t (Bytes bs) = holds_bytes t (length bs)
  init_fits types t (Group k us is) = has_items (unnamed types t) k us && inits_fit types us is

  pub inits_fit : List NamedType → List IrType → Inits → Bool
  inits_fit types us no_more = true
  inits_fit types [] (more i is) = true
  inits_fit types (u ∷ us) (more i is) = init_fits types u i && inits_fit types us is

abbrev pub global_fault : Module → GlobalVar → Option Fault
global_fault m g = fault_unless (init_fits m.types g.ty g.init) (TypeDiffers g.line (codes "@" ++ g.name))

-- Fault 5: a block that ends without a terminator.

-- the last instruction of a block
abbrev pub last_of : List Instr → Option Instr
last_of is = slice_get is (length is - 1)

abbrev pub is_end : Option Instr → Bool
is_end None = false
is_end (Some i) = is_terminator i.op

-- the line of the instruction, or another one where there is none
abbrev pub line_or : ℕ → Option Instr → ℕ
line_or line None = line
line_or line (Some i) = i.line

abbrev pub end_fault : Function → Block → Option Fault
end_fault f b = fault_unless (is_end (last_of b.instrs)) (NoTerminator (line_or f.line (last_of b.instrs)) b.name)

-- Fault 2: a label that the function lacks.

abbrev pub has_block : Function → List ℕ → Bool
has_block f label = list_any (λ b. bytes_eq b.name label) (blocks_of f)

abbrev pub label_fault : Function → Instr → Option Fault
label_fault f i = option_map (λ label. NoSuchLabel i.line label) (find (λ label. not (has_block f label)) (labels_of i.op))

-- Fault 1: an operand, an argument or a result of another type than the form or the called function asks for.

-- a register that is assigned nowhere has no type, and this fault passes it by
abbrev pub fits_if_typed : Scalar → Option Scalar → Bool
fits_if_typed ty None = true
fits_if_typed ty (Some s) = same_scalar s ty

-- a value is of the type, where the registers have these types
abbrev pub value_fits : List Scalar → Scalar → Value → Bool
value_fits types ty (value.Register r) = fits_if_typed ty (slice_get types r)
value_fits types ty (value.Constant c) = same_scalar (type_of_constant c) ty

abbrev pub is_integer : Scalar → Bool
is_integer (Int w) = true
is_integer Ptr = false

abbrev pub is_narrower : Scalar → Scalar → Bool
is_narrower (Int v) (Int w) = not (nat_le (bit_count w) (bit_count v))
is_narrower _ _ = false

-- a conversion goes to a wider or narrower width as its word says
abbrev pub converts : Conversion → Scalar → Scalar → Bool
converts conversion.Trunc from into = is_narrower into from
converts conversion.ZExt from into = is_narrower from into
converts conversion.SExt from into = is_narrower from into
converts conversion.PtrToInt from into = same_scalar from Ptr && is_integer into
converts conversion.IntToPtr from into = is_integer from && same_scalar into Ptr

abbrev pub number_or_none : ℤ → Option ℕ
number_or_none (pos n) = Some n
number_or_none (negsuc n) = None

abbrev pub value_number : Value → Option ℕ
value_number (value.Constant (constant.Number w)) = number_or_none (signed w)
value_number (value.Constant (constant.Blank b w)) = Some 0
value_number _ = None

-- the number of the field that an index names: an `i32` constant, where a blank one is 0
abbrev pub field_number : Argument → Option ℕ
field_number a = if same_scalar a.ty (Int W32) then value_number a.value else None

abbrev pub field_type : List IrType → Option ℕ → Option IrType
field_type ts None = None
field_type ts (Some k) = slice_get ts k

-- the type that an index goes into: of an element of an array, or of the field of a struct
abbrev pub inner_type : IrType → Argument → Option IrType
inner_type (Array n t) a = Some t
inner_type (Struct ts) a = field_type (list_of_types ts) (field_number a)
inner_type (Packed ts) a = field_type (list_of_types ts) (field_number a)
inner_type _ a = None

abbrev pub goes_on : (IrType → Bool) → Option IrType → Bool
goes_on rest None = false
goes_on rest (Some t) = rest t

-- each index names an element or a field
abbrev pub has_path : List NamedType → List Argument → IrType → Bool
has_path types [] t = true
has_path types (x ∷ xs) t = goes_on (has_path types xs) (inner_type (unnamed types t) x)

-- the first index counts whole values
abbrev pub indices_fit : List NamedType → IrType → List Argument → Bool
indices_fit types t [] = true
indices_fit types t (x ∷ xs) = has_path types xs t

abbrev pub same_result : Option Scalar → Option Scalar → Bool
same_result None None = true
same_result (Some s) (Some t) = same_scalar s t
same_result _ _ = false

abbrev pub are_arguments : List Argument → List Parameter → Bool
are_arguments [] [] = true
are_arguments (x ∷ xs) (p ∷ ps) = same_scalar x.ty p.ty && are_arguments xs ps
are_arguments _ _ = false

abbrev pub has_signature : Option Scalar → List Argument → Option Function → Bool
has_signature ret args None = false
has_signature ret args (Some f) = same_result ret f.ret && are_arguments args f.params

abbrev pub calls_well : Module → Option Scalar → List Argument → Callee → Bool
calls_well m ret args (callee.Symbol (symbol.Function k)) = has_signature ret args (slice_get m.functions k)
calls_well m ret args (callee.Symbol (symbol.Global k)) = false
calls_well m ret args (callee.Register r) = true

-- what a form asks beside the types of its operands
abbrev pub form_fits : Module → Function → Op → Bool
form_fits m f (op.Binary to o ty a b) = is_integer ty
form_fits m f (op.Convert to how from a into) = converts how from into
form_fits m f (op.GetElementPtr to ty base indices) = list_all (λ a. is_integer a.ty) indices && indices_fit m.types ty indices
form_fits m f (op.Call to ret target args) = calls_well m ret args target
form_fits m f (op.Ret v) = same_result (option_map (λ a. a.ty) v) f.ret
form_fits m f (op.Switch ty v otherwise cases) = is_integer ty
form_fits m f (op.Enter s) = is_function s
form_fits m f (op.Pre s k) = is_function s
form_fits m f (op.Post s k) = is_function s
form_fits m f (op.Leave s) = is_function s
form_fits m f _ = true

-- the first word of an instruction
abbrev pub op_word : Op → List ℕ
op_word (op.Binary to o ty a b) = operator_word o
op_word (op.Compare to p ty a b) = codes "icmp"
op_word (op.Convert to how from a into) = conversion_word how
op_word (op.Unary to o ty a) = unary_word o
op_word (op.Select to c ty a b) = codes "select"
op_word (op.Phi to ty edges) = codes "phi"
op_word (op.Alloca to ty) = codes "alloca"
op_word (op.Load to ty at) = codes "load"
op_word (op.Store ty v at) = codes "store"
op_word (op.GetElementPtr to ty base indices) = codes "getelementptr"
op_word (op.Ret v) = codes "ret"
op_word (op.Jump label) = codes "br"
op_word (op.Branch c a b) = codes "br"
op_word (op.Switch ty v otherwise cases) = codes "switch"
op_word op.Unreachable = codes "unreachable"
op_word _ = codes "call"

abbrev pub is_typed : Module → Function → List Scalar → Op → Bool
is_typed m f types o = list_all (λ a. value_fits types a.ty a.value) (operands_of o) && form_fits m f o

abbrev pub type_fault : Module → Function → List Scalar → Instr → Option Fault
type_fault m f types i = fault_unless (is_typed m f types i.op) (TypeDiffers i.line (op_word i.op))

-- Fault 4: a phi whose labels are not the block's predecessors, or that stands where none can.

abbrev pub exits_by : Option Instr → List (List ℕ)
exits_by None = []
exits_by (Some i) = targets_of i.op

-- where control goes behind a block: where its last instruction says
abbrev pub exits_of : Block → List (List ℕ)
exits_of b = exits_by (last_of b.instrs)

-- control may go from a block to the block with this name
abbrev pub goes_to : Block → List ℕ → Bool
goes_to b name = list_any (λ label. bytes_eq label name) (exits_of b)

abbrev pub is_predecessor : Function → List ℕ → List ℕ → Bool
is_predecessor f name label = list_any (λ p. bytes_eq p.name label && goes_to p name) (blocks_of f)

abbrev pub same_symbol : Symbol → Symbol → Bool
same_symbol (symbol.Function j) (symbol.Function k) = nat_eq j k
same_symbol (symbol.Global j) (symbol.Global k) = nat_eq j k
same_symbol _ _ = false

abbrev pub same_blank : Blank → Blank → Bool
same_blank Undef Undef = true
same_blank Poison Poison = true
same_blank Zero Zero = true
same_blank _ _ = false

abbrev pub same_pointer : Pointer → Pointer → Bool
same_pointer pointer.Null pointer.Null = true
same_pointer (pointer.Blank b) (pointer.Blank c) = same_blank b c
same_pointer (pointer.Number m) (pointer.Number n) = nat_eq m n
same_pointer (pointer.Symbol s m) (pointer.Symbol t n) = same_symbol s t && nat_eq m n
same_pointer _ _ = false

abbrev pub same_constant : Constant → Constant → Bool
same_constant (constant.Number a) (constant.Number b) = nat_eq (bit_count a.width) (bit_count b.width) && nat_eq a.bits b.bits
same_constant (constant.Truth true) (constant.Truth true) = true
same_constant (constant.Truth false) (constant.Truth false) = true
same_constant (constant.Blank a v) (constant.Blank b w) = same_blank a b && nat_eq (bit_count v) (bit_count w)
same_constant (constant.Pointer p) (constant.Pointer q) = same_pointer p q
same_constant (constant.Cast p v) (constant.Cast q w) = same_pointer p q && nat_eq (bit_count v) (bit_count w)
same_constant _ _ = false

-- operands are compared as they are kept
abbrev pub same_value : Value → Value → Bool
same_value (value.Register q) (value.Register r) = nat_eq q r
same_value (value.Constant c) (value.Constant d) = same_constant c d
same_value _ _ = false

-- the labels are exactly the predecessors: each label is one, each one is named, and with the same operand each time
abbrev pub edges_fit : Function → List ℕ → List Edge → Bool
edges_fit f name edges =
    list_all (λ e. is_predecessor f name e.label) edges
    && list_all (λ p. not (goes_to p name) || list_any (λ e. bytes_eq e.label p.name) edges) (blocks_of f)
    && list_all (λ e. list_all (λ d. not (bytes_eq d.label e.label) || same_value d.value e.value) edges) edges

-- the labels of a phi are the predecessors
abbrev pub op_edges_fit : Function → List ℕ → Op → Bool
op_edges_fit f name (op.Phi to ty edges) = edges_fit f name edges
op_edges_fit f name _ = true

abbrev pub given_name : Function → Op → List ℕ
given_name f (op.Phi to ty edges) = codes "%" ++ register_name f to
given_name f _ = []

-- at an instruction behind phis alone, or behind others
abbrev pub phi_fault : Function → List ℕ → Bool → Instr → Option Fault
phi_fault f name behind_phis i = fault_unless (not (is_phi i.op) || behind_phis && op_edges_fit f name i.op) (PhiEdges i.line (given_name f i.op))

abbrev pub phi_faults : Function → List ℕ → Bool → List Instr → Option Fault
phi_faults f name behind_phis [] = None
phi_faults f name behind_phis (i ∷ is) = option_or (phi_fault f name behind_phis i) (phi_faults f name (behind_phis && is_phi i.op) is)

-- no phi can stand in the first block
abbrev pub block_phi_faults : Function → List Block → Option Fault
block_phi_faults f [] = None
block_phi_faults f (b ∷ bs) = option_or (phi_faults f b.name false b.instrs) (first_some (λ c. phi_faults f c.name true c.instrs) bs)

-- Fault 3: a register that is read on some walk from the start that did not assign it.

-- where a register is read: in which block, behind how many of its instructions, and the line of the reader
pub record Read : Type 0 where
  pub block : ℕ
  pub place : ℕ
  pub register : ℕ
  pub line : ℕ

abbrev pub no_instrs : Option Block → List Instr
no_instrs None = []
no_instrs (Some b) = b.instrs

-- the instructions of a block by its number
abbrev pub instrs_at : Function → ℕ → List Instr
instrs_at f k = no_instrs (slice_get (blocks_of f) k)

abbrev pub block_number : Function → List ℕ → Option ℕ
block_number f label = position (λ b. bytes_eq b.name label) (blocks_of f)

abbrev pub read_here : ℕ → ℕ → ℕ → Value → List Read
read_here block place line (value.Register r) = record { block = block; place = place; register = r; line = line } ∷ []
read_here block place line (value.Constant c) = []

-- an operand of a phi is read at the end of the block that its label names
abbrev pub read_at_end : Function → Option ℕ → ℕ → Value → List Read
read_at_end f None line v = []
read_at_end f (Some k) line v = read_here k (length (instrs_at f k)) line v

abbrev pub reads_of_op : Function → ℕ → ℕ → ℕ → Op → List Read
reads_of_op f block place line (op.Phi to ty edges) = flat_map (λ e. read_at_end f (block_number f e.label) line e.value) edges
reads_of_op f block place line o = flat_map (λ a. read_here block place line a.value) (operands_of o)

-- the reads of the instructions of a block, from the one with this place on
abbrev pub reads_from : Function → ℕ → ℕ → List Instr → List Read
reads_from f block place [] = []
reads_from f block place (i ∷ is) = reads_of_op f block place i.line i.op ++ reads_from f block (suc place) is

abbrev pub reads_of_blocks : Function → ℕ → List Block → List Read
reads_of_blocks f k [] = []
reads_of_blocks f k (b ∷ bs) = reads_from f k 0 b.instrs ++ reads_of_blocks f (suc k) bs

-- the reads of a function, in the order of the text
abbrev pub reads_of : Function → List Read
reads_of f = reads_of_blocks f 0 (blocks_of f)

-- the numbers of the blocks that control may go to behind a block
abbrev pub successors_of : Function → Block → List ℕ
successors_of f b = filter_map (block_number f) (exits_of b)

-- those of each block of a function
abbrev pub successors : Function → List (List ℕ)
successors f = map (successors_of f) (blocks_of f)

-- control may go from a block to another, by their numbers
abbrev pub has_edge : Function → ℕ → ℕ → Bool
has_edge f a b = list_any (λ k. nat_eq k b) (slice_index_or (successors f) a [])

-- a walk from the start to a block: the blocks that it goes through before, the last one first
abbrev pub Walk : Function → List ℕ → ℕ → Type 0
Walk f [] k = k ≡ 0
Walk f (p ∷ ps) k = (has_edge f p k ≡ true) × Walk f ps p

abbrev pub is_given : ℕ → Option ℕ → Bool
is_given r None = false
is_given r (Some to) = nat_eq to r

-- some of these instructions assign the register
abbrev pub assigns : List Instr → ℕ → Bool
assigns is r = list_any (λ i. is_given r (given_by i.op)) is

-- a walk assigns the register in one of the blocks that it goes through
abbrev pub walk_assigns : Function → List ℕ → ℕ → Bool
walk_assigns f ps r = list_any (λ p. assigns (instrs_at f p) r) ps

-- some walk comes to the read and did not assign the register
pub record IsUnassigned (f : Function) (x : Read) : Type 0 where
  pub no_parameter : length f.params ≤ x.register
  pub walk : List ℕ
  pub comes : Walk f walk x.block
  pub not_before : walk_assigns f walk x.register ≡ false
  pub not_here : assigns (take x.place (instrs_at f x.block)) x.register ≡ false

abbrev pub read_fault : Function → Read → Fault
read_fault f x = NotAssigned x.line (codes "%" ++ register_name f x.register)

-- the first of these reads that is unassigned
abbrev pub FirstUnassigned : Function → List Read → Option Fault → Type 0
FirstUnassigned f [] r = r ≡ None
FirstUnassigned f (x ∷ xs) r = (IsUnassigned f x × (r ≡ Some (read_fault f x))) ⊎ ((IsUnassigned f x → ⊥) × FirstUnassigned f xs r)

-- The order of the faults.

-- four passes over a function, in their order
abbrev pub earlier_fault : Module → Function → Option Fault
earlier_fault m f =
    option_or (first_some (end_fault f) (blocks_of f))
    (option_or (first_some (label_fault f) (instrs_of f)) (option_or (first_some (type_fault m f (register_types f)) (instrs_of f)) (block_phi_faults f (blocks_of f))))

-- behind them the fifth
abbrev pub FirstOrUnassigned : Option Fault → Function → Option Fault → Type 0
FirstOrUnassigned (Some x) f r = r ≡ Some x
FirstOrUnassigned None f r = FirstUnassigned f (reads_of f) r

abbrev pub FunctionFault : Module → Function → Option Fault → Type 0
FunctionFault m f r = FirstOrUnassigned (earlier_fault m f) f r

abbrev pub FirstOfFunctions : Module → List Function → Option Fault → Type 0
FirstOfFunctions m [] r = r ≡ None
FirstOfFunctions m (f ∷ fs) r = (FunctionFault m f r × IsSome r) ⊎ (FunctionFault m f None × FirstOfFunctions m fs r)

abbrev pub FirstBehind : Option Fault → Module → Option Fault → Type 0
FirstBehind (Some x) m r = r ≡ Some x
FirstBehind None m r = FirstOfFunctions m m.functions r

-- the first fault of a module, or none: that of its globals, else that of its functions
abbrev pub FirstFault : Module → Option Fault → Type 0
FirstFault m r = FirstBehind (first_some (global_fault m) m.globals) m r
