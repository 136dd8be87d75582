-- What is wrong with a text that is no module's image: the first fault, of six kinds.
use Rattle.std.specs.Prelude.{ℕ, suc, ◌+◌, Bool, true, false, not, ◌&&◌, ◌||◌, Option, Some, None, List, [], ◌∷◌, ◌++◌, map, filter, find, length, slice_get, option_map, nat_eq, bytes_eq, codes, if◌then◌else◌}
use Rattle.std.specs.List.{list_any, starts_with}
use Rattle.std.specs.Option.{option_or}
use Rattle.lx_ir.specs.declared.module.Symbol.{Symbol}
use Rattle.lx_ir.specs.declared.module.Symbol.TheVariants as symbol
use Rattle.lx_ir.specs.declared.module.Pointer.{Pointer}
use Rattle.lx_ir.specs.declared.module.Pointer.TheVariants as pointer
use Rattle.lx_ir.specs.declared.module.Constant.{Constant}
use Rattle.lx_ir.specs.declared.module.Constant.TheVariants as constant
use Rattle.lx_ir.specs.declared.module.Value.{Value}
use Rattle.lx_ir.specs.declared.module.Value.TheVariants as value
use Rattle.lx_ir.specs.declared.module.GlobalVar.{GlobalVar}
use Rattle.lx_ir.specs.declared.module.Parameter.{Parameter}
use Rattle.lx_ir.specs.declared.module.Block.{Block}
use Rattle.lx_ir.specs.declared.module.Function.{Function}
use Rattle.lx_ir.specs.declared.module.Module.{Module}
use Rattle.lx_ir.specs.declared.instr.Argument.{Argument}
use Rattle.lx_ir.specs.declared.instr.Callee.{Callee}
use Rattle.lx_ir.specs.declared.instr.Callee.TheVariants as callee
use Rattle.lx_ir.specs.declared.instr.Instr.{Instr}
use Rattle.lx_ir.specs.declared.instr.Op.{Op}
use Rattle.lx_ir.specs.declared.instr.Op.TheVariants as op
use Rattle.lx_ir.specs.Init.{Init, Plain, Empty, Bytes, Group, Inits, no_more, more}
use Rattle.lx_ir.specs.Lawful.{is_own_name, same_scalar}
use Rattle.lx_ir.specs.Lookup.{blocks_of, instrs_of, is_defined, is_write, is_indirect_call}
use Rattle.lx_ir.specs.Operands.{operands_of}
use Rattle.lx_ir.specs.Faults.{first_some, same_symbol, same_value, same_result}
use Rattle.lx_ir.specs.Text.{symbol_name}
use Rattle.lx_annot.specs.declared.interface.Interface.{Interface}
use Rattle.lx_propagate.specs.Slots.{Conflict, conflict_of}
use Rattle.lx_image_texts.specs.Marks.{mark_of, is_alias, is_wrapped}
use Rattle.lx_image_texts.specs.Spared.{is_spared}
use Rattle.lx_image_texts.specs.WrapperText.{Out, wrapper_name, wrappers_of}

-- the kinds, which have the numbers 1 to 6 in this order
pub data Kind : Type 0 where
  BareStore : Kind
  GuardDiffers : Kind
  BareIndirect : Kind
  WrapperDiffers : Kind
  BodyReached : Kind
  StrayGuard : Kind

-- a fault: its kind, its line, the name of the function, and the number of the instruction there, from 0
pub record ImageFault : Type 0 where
  pub kind : Kind
  pub line : ℕ
  pub function : List ℕ
  pub place : ℕ

-- a function that images alone have, by its name
abbrev pub is_wrapper : Function → Bool
is_wrapper f = is_own_name f.name

abbrev pub kind_if : Bool → Kind → Option Kind
kind_if true k = Some k
kind_if false k = None

-- An instruction, by the one directly before it in its block and the one directly behind.

-- StrayGuard, 6: a guard that does not stand before a write, a check that does not stand before an indirect call, and a line that
-- wrappers alone have

abbrev pub has_write : Option Op → Bool
has_write None = false
has_write (Some o) = is_write o

abbrev pub has_indirect_call : Option Op → Bool
has_indirect_call None = false
has_indirect_call (Some o) = is_indirect_call o

abbrev pub is_stray : Option Op → Op → Bool
is_stray next (op.Guard at size narrow) = not (has_write next)
is_stray next (op.Check target) = not (has_indirect_call next)
is_stray next (op.Enter f) = true
is_stray next (op.Pre f k) = true
is_stray next (op.Post f k) = true
is_stray next (op.Leave f) = true
is_stray next o = false

-- GuardDiffers, 2: a mark with another operand or size than what stands behind it wants

abbrev pub same_narrow : Bool → Bool → Bool
same_narrow true b = b
same_narrow false b = not b

abbrev pub same_mark : Op → Op → Bool
same_mark (op.Guard at size narrow) (op.Guard a s n) = same_value at a && same_value size s && same_narrow narrow n
same_mark (op.Check target) (op.Check t) = same_value target t
same_mark _ _ = false

-- the mark is the one that is wanted, if one is
abbrev pub is_mark_of : Op → List Op → Bool
is_mark_of o [] = true
is_mark_of o (m ∷ ms) = same_mark o m

abbrev pub fits_next : Op → Option Op → Bool
fits_next o None = true
fits_next o (Some n) = is_mark_of o (mark_of n)

abbrev pub differs : Option Op → Op → Bool
differs next (op.Guard at size narrow) = not (fits_next (op.Guard at size narrow) next)
differs next (op.Check target) = not (fits_next (op.Check target) next)
differs next o = false

-- BareStore, 1: a store or block write without a guard directly before it, but a spared store

abbrev pub is_guarding : Option Op → Bool
is_guarding (Some (op.Guard at size narrow)) = true
is_guarding _ = false

abbrev pub is_bare_store : Module → Function → Option Op → Op → Bool
is_bare_store m f before o = is_write o && not (is_guarding before) && not (is_spared m f o)

-- BareIndirect, 3: an indirect call without a check directly before it

abbrev pub is_checking : Option Op → Bool
is_checking (Some (op.Check target)) = true
is_checking _ = false

abbrev pub is_bare_call : Option Op → Op → Bool
is_bare_call before o = is_indirect_call o && not (is_checking before)

-- BodyReached, 5: a call of an import in the place of its wrapper's, and a mention of a name that images alone have

-- an import of the program that has a wrapper
abbrev pub has_out_wrapper : Function → Bool
has_out_wrapper f = is_wrapped f && not (is_own_name f.name)

-- this is the name of its wrapper
abbrev pub has_wrapper_named : List ℕ → Function → Bool
has_wrapper_named name f = has_out_wrapper f && bytes_eq (wrapper_name Out f.name) name

-- some import has a wrapper with this name
abbrev pub wraps_import : Module → List ℕ → Bool
wraps_import m name = list_any (has_wrapper_named name) m.functions

-- what may be called: a wrapper of an import, what the program defines, and the import that has no wrapper

abbrev pub may_call_function : Module → Option Function → Bool
may_call_function m None = false
may_call_function m (Some f) = if is_own_name f.name then is_defined f && wraps_import m f.name else is_defined f || is_alias f

abbrev pub may_call : Module → Callee → Bool
may_call m (callee.Symbol (symbol.Function f)) = may_call_function m (slice_get m.functions f)
may_call m (callee.Symbol (symbol.Global g)) = false
may_call m (callee.Register r) = true

-- a mention of a function or global with such a name

abbrev pub is_own_symbol : Module → Symbol → Bool
is_own_symbol m s = is_own_name (symbol_name m s)

abbrev pub pointer_mentions : Module → Pointer → Bool
pointer_mentions m (pointer.Symbol s n) = is_own_symbol m s
pointer_mentions m p = false

abbrev pub constant_mentions : Module → Constant → Bool
constant_mentions m (constant.Pointer p) = pointer_mentions m p
constant_mentions m (constant.Cast p w) = pointer_mentions m p
constant_mentions m c = false

abbrev pub value_mentions : Module → Value → Bool
value_mentions m (value.Register r) = false
value_mentions m (value.Constant c) = constant_mentions m c

abbrev pub calls_well : Module → Op → Bool
calls_well m (op.Call to ret target args) = may_call m target
calls_well m o = true

abbrev pub reaches_body : Module → Op → Bool
reaches_body m o = not (calls_well m o) || list_any (λ a. value_mentions m a.value) (operands_of o)

-- At one instruction they are tried in the order 6, 2, 1, 3, 5.

-- the faults of marks and of what wants one
abbrev pub mark_kind : Module → Function → Option Op → Op → Option Op → Option Kind
mark_kind m f before o next =
    option_or (kind_if (is_stray next o) StrayGuard)
    (option_or (kind_if (differs next o) GuardDiffers)
    (option_or (kind_if (is_bare_store m f before o) BareStore) (kind_if (is_bare_call before o) BareIndirect)))

-- the fault of an instruction
abbrev pub kind_at : Module → Function → Option Op → Op → Option Op → Option Kind
kind_at m f before o next = option_or (mark_kind m f before o next) (kind_if (reaches_body m o) BodyReached)

-- Functions and instructions in order.

abbrev pub first_op : List Instr → Option Op
first_op [] = None
first_op (i ∷ is) = Some i.op

abbrev pub fault_at : Function → ℕ → Instr → Kind → ImageFault
fault_at f place i k = record { kind = k; line = i.line; function = f.name; place = place }

-- the instructions of a block, behind this one, from the one with this number in its function on
abbrev pub fault_in_block : Module → Function → ℕ → Option Op → List Instr → Option ImageFault
fault_in_block m f place before [] = None
fault_in_block m f place before (i ∷ is) =
    option_or (option_map (fault_at f place i) (kind_at m f before i.op (first_op is))) (fault_in_block m f (suc place) (Some i.op) is)

abbrev pub fault_in_blocks : Module → Function → ℕ → List Block → Option ImageFault
fault_in_blocks m f place [] = None
fault_in_blocks m f place (b ∷ bs) = option_or (fault_in_block m f place None b.instrs) (fault_in_blocks m f (length b.instrs + place) bs)

-- wrappers are looked at behind all other functions, as wholes
abbrev pub fault_in_function : Module → Function → Option ImageFault
fault_in_function m f = if is_wrapper f then None else fault_in_blocks m f 0 (blocks_of f)

-- WrapperDiffers, 4: behind all instructions. Where no instruction can be named its number is 0, and the line is the function's.

abbrev pub wrapper_fault : ℕ → List ℕ → ℕ → ImageFault
wrapper_fault line name place = record { kind = WrapperDiffers; line = line; function = name; place = place }

-- first, a global that has a name which images alone have, or whose initialiser mentions one

abbrev mutual
  pub init_mentions : Module → Init → Bool
  init_mentions m (Plain c) = constant_mentions m c
  init_mentions m (Empty b) = false
  init_mentions m (Bytes bs) = false
  init_mentions m (Group k ts is) = inits_mention m is

  pub inits_mention : Module → Inits → Bool
  inits_mention m no_more = false
  inits_mention m (more i is) = init_mentions m i || inits_mention m is

abbrev pub global_fault : Module → GlobalVar → Option ImageFault
global_fault m g = if is_own_name g.name || init_mentions m g.init then Some (wrapper_fault g.line g.name 0) else None

-- second, an import with such a name

abbrev pub import_fault : Function → Option ImageFault
import_fault f = if not (is_defined f) && is_own_name f.name then Some (wrapper_fault f.line f.name 0) else None

-- third, a wrapper that is missing or differs: at its first instruction that differs, where there is one

abbrev pub same_register : Option ℕ → Option ℕ → Bool
same_register None None = true
same_register (Some a) (Some b) = nat_eq a b
same_register _ _ = false

abbrev pub same_argument : Argument → Argument → Bool
same_argument a b = same_scalar a.ty b.ty && same_value a.value b.value

abbrev pub same_arguments : List Argument → List Argument → Bool
same_arguments [] [] = true
same_arguments (a ∷ args) (b ∷ bs) = same_argument a b && same_arguments args bs
same_arguments _ _ = false

abbrev pub same_returned : Option Argument → Option Argument → Bool
same_returned None None = true
same_returned (Some a) (Some b) = same_argument a b
same_returned _ _ = false

abbrev pub same_callee : Callee → Callee → Bool
same_callee (callee.Symbol s) (callee.Symbol t) = same_symbol s t
same_callee _ _ = false

-- an instruction of a wrapper, and what stands in its place
abbrev pub same_line : Op → Op → Bool
same_line (op.Enter s) (op.Enter t) = same_symbol s t
same_line (op.Pre s j) (op.Pre t k) = same_symbol s t && nat_eq j k
same_line (op.Call to ret target args) (op.Call u r c xs) = same_register to u && same_result ret r && same_callee target c && same_arguments args xs
same_line (op.Post s j) (op.Post t k) = same_symbol s t && nat_eq j k
same_line (op.Leave s) (op.Leave t) = same_symbol s t
same_line (op.Ret v) (op.Ret w) = same_returned v w
same_line _ _ = false

-- the first instruction that differs from the wrapper's lines, or is one too many, with its number
abbrev pub different_from : ℕ → List Instr → List Instr → Option (ℕ × ℕ)
different_from k wanted [] = None
different_from k [] (i ∷ is) = Some (k, i.line)
different_from k (w ∷ ws) (i ∷ is) = if same_line w.op i.op then different_from (suc k) ws is else Some (k, i.line)

abbrev pub same_names : List (List ℕ) → List (List ℕ) → Bool
same_names [] [] = true
same_names (a ∷ ns) (b ∷ ms) = bytes_eq a b && same_names ns ms
same_names _ _ = false

abbrev pub same_params : List Parameter → List Parameter → Bool
same_params [] [] = true
same_params (p ∷ ps) (q ∷ qs) = bytes_eq p.name q.name && same_scalar p.ty q.ty && same_params ps qs
same_params _ _ = false

-- the same head, the same blocks by name, and as many lines
abbrev pub same_head : Function → Function → Bool
same_head w f =
    same_params w.params f.params && same_names w.locals f.locals && same_result w.ret f.ret
    && same_names (map (λ b. b.name) (blocks_of w)) (map (λ b. b.name) (blocks_of f)) && nat_eq (length (instrs_of w)) (length (instrs_of f))

abbrev pub head_fault : Function → Function → Option ImageFault
head_fault w f = if same_head w f then None else Some (wrapper_fault f.line f.name 0)

abbrev pub difference : Function → Function → Option (ℕ × ℕ) → Option ImageFault
difference w f (Some d) = Some (wrapper_fault d.1 f.name d.0)
difference w f None = head_fault w f

abbrev pub compared : Function → Option Function → Option ImageFault
compared w None = Some (wrapper_fault 1 w.name 0)
compared w (Some f) = difference w f (different_from 0 (instrs_of w) (instrs_of f))

-- a wrapper that the text ought to have, and the function of its name that it has; of one that is missing the line is 1
abbrev pub missing_fault : Module → Function → Option ImageFault
missing_fault x w = compared w (find (λ f. is_defined f && bytes_eq f.name w.name) x.functions)

-- fourth, a function that does not stand in its place: first the other functions in their order, then the right wrappers in theirs

abbrev pub misplaced : List (List ℕ) → List Function → Option ImageFault
misplaced names [] = None
misplaced [] (f ∷ fs) = Some (wrapper_fault f.line f.name 0)
misplaced (n ∷ ns) (f ∷ fs) = if bytes_eq n f.name then misplaced ns fs else Some (wrapper_fault f.line f.name 0)

abbrev pub defined_names : List Function → List (List ℕ)
defined_names fs = map (λ f. f.name) (filter (λ f. is_defined f && not (is_wrapper f)) fs)

-- fifth, a function with two annotations that differ

abbrev pub conflict_fault : Conflict → ImageFault
conflict_fault c = wrapper_fault c.line c.function 0

-- The right wrappers. The text is taken without the bodies of its wrappers, since what stands in these gives no annotation; the
-- functions keep their numbers.

abbrev pub without_body : Function → Function
without_body f = if is_wrapper f then record f { blocks = None } else f

abbrev pub without_wrappers : Module → Module
without_wrappers x = record x { functions = map without_body x.functions }

-- a wrapper without its body would have one too, which does not count
abbrev pub not_own : Function → Bool
not_own w = not (starts_with nat_eq w.name (codes "lxfi.out.lxfi.") || starts_with nat_eq w.name (codes "lxfi.in.lxfi."))

-- the wrappers that the text ought to have, in their order
abbrev pub right_wrappers : Interface → Module → List Function
right_wrappers i x = filter not_own (wrappers_of i (without_wrappers x))

-- the first fault of this kind
abbrev pub whole_fault : Interface → Module → Option ImageFault
whole_fault i x =
    option_or (first_some (global_fault x) x.globals)
    (option_or (first_some import_fault x.functions)
    (option_or (first_some (missing_fault x) (right_wrappers i x))
    (option_or (misplaced (defined_names x.functions ++ map (λ w. w.name) (right_wrappers i x)) (filter is_defined x.functions))
    (option_map conflict_fault (conflict_of i (without_wrappers x))))))

-- the first fault of a text as an image, or none: of its instructions, functions and instructions in order, or else of the whole
abbrev pub first_image_fault : Interface → Module → Option ImageFault
first_image_fault i x = option_or (first_some (fault_in_function x) x.functions) (whole_fault i x)
