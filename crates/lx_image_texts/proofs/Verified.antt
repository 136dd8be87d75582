-- In a verified module no call names a global.
use Rattle.std.proofs.Common.{◌≡◌, Bool, true, false, not, List, [], ◌∷◌, Option, Some, None, inl, inr, refl, sym}
use Rattle.std.specs.Prelude.{flat_map}
use Rattle.std.specs.List.{list_all}
use Rattle.std.proofs.lemmas.Bool.{and_from}
use Rattle.lx_words.proofs.Lists.{all_joined}
use Rattle.lx_words.proofs.Options.{neither_some, some_none}
use Rattle.lx_words.proofs.Tests.{false_true, second_of}
use Rattle.lx_ir.specs.declared.types.Scalar.{Scalar}
use Rattle.lx_ir.specs.declared.module.Symbol.TheVariants as symbol
use Rattle.lx_ir.specs.declared.module.Function.{Function}
use Rattle.lx_ir.specs.declared.module.Module.{Module}
use Rattle.lx_ir.specs.declared.instr.Argument.{Argument}
use Rattle.lx_ir.specs.declared.instr.Callee.{Callee}
use Rattle.lx_ir.specs.declared.instr.Callee.TheVariants as callee
use Rattle.lx_ir.specs.declared.instr.Instr.{Instr}
use Rattle.lx_ir.specs.declared.instr.Op.{Op}
use Rattle.lx_ir.specs.declared.instr.Op.TheVariants as op
use Rattle.lx_ir.specs.Lookup.{blocks_of, instrs_of, all_instrs}
use Rattle.lx_ir.specs.Operands.{operands_of, register_types}
use Rattle.lx_ir.specs.Faults.{Fault, first_some, global_fault, end_fault, label_fault, value_fits, calls_well, form_fits, is_typed, type_fault, earlier_fault, block_phi_faults, FirstOrUnassigned, FirstOfFunctions, FirstBehind, FirstFault}
use Rattle.lx_ir.proofs.Refused.{unless_none}

abbrev pub is_global : Callee → Bool
is_global (callee.Symbol (symbol.Global g)) = true
is_global y = false

abbrev pub calls_no_global : Op → Bool
calls_no_global (op.Call to ret target args) = not (is_global target)
calls_no_global o = true

-- no call names a global: of a verified module this is so
abbrev pub CallsNoGlobal : Module → Type 0
CallsNoGlobal x = list_all (λ i. calls_no_global i.op) (all_instrs x) ≡ true

callee_named : (m : Module) (ret : Option Scalar) (args : List Argument) (y : Callee) → calls_well m ret args y ≡ true → not (is_global y) ≡ true
callee_named m ret args (callee.Register r) e = refl
callee_named m ret args (callee.Symbol (symbol.Function k)) e = refl
callee_named m ret args (callee.Symbol (symbol.Global g)) e = e

op_named : (m : Module) (f : Function) (o : Op) → form_fits m f o ≡ true → calls_no_global o ≡ true
op_named m f (op.Call to ret y args) e = callee_named m ret args y e
op_named m f o e = refl

code_named : (m : Module) (f : Function) (types : List Scalar) (is : List Instr) → first_some (type_fault m f types) is ≡ None → list_all (λ (i : Instr). calls_no_global i.op) is ≡ true
code_named m f types [] e = refl
code_named m f types (i ∷ is) e =
    let n = neither_some (type_fault m f types i) (first_some (type_fault m f types) is) e in
    and_from (calls_no_global i.op) (list_all (λ (i : Instr). calls_no_global i.op) is)
    (op_named m f i.op (second_of (list_all (λ a. value_fits types a.ty a.value) (operands_of i.op)) (form_fits m f i.op) (unless_none (is_typed m f types i.op) _ n.0)))
    (code_named m f types is n.1)

earlier_none : (o : Option Fault) (f : Function) → FirstOrUnassigned o f None → o ≡ None
earlier_none None f h = refl
earlier_none (Some x) f h = some_none (sym h)

function_named : (m : Module) (f : Function) → earlier_fault m f ≡ None → list_all (λ (i : Instr). calls_no_global i.op) (instrs_of f) ≡ true
function_named m f e =
    let a = neither_some (first_some (end_fault f) (blocks_of f)) _ e in
    let b = neither_some (first_some (label_fault f) (instrs_of f)) _ a.1 in
    let c = neither_some (first_some (type_fault m f (register_types f)) (instrs_of f)) (block_phi_faults f (blocks_of f)) b.1 in
    code_named m f (register_types f) (instrs_of f) c.0

functions_named : (m : Module) (fs : List Function) → FirstOfFunctions m fs None → list_all (λ (i : Instr). calls_no_global i.op) (flat_map instrs_of fs) ≡ true
functions_named m [] h = refl
functions_named m (f ∷ fs) (inl h) = false_true h.1
functions_named m (f ∷ fs) (inr h) = all_joined (λ (i : Instr). calls_no_global i.op) (instrs_of f) (flat_map instrs_of fs) (function_named m f (earlier_none (earlier_fault m f) f h.0)) (functions_named m fs h.1)

behind : (m : Module) (o : Option Fault) → FirstBehind o m None → FirstOfFunctions m m.functions None
behind m None h = h
behind m (Some x) h = some_none (sym h)

pub verified_calls : (m : Module) → FirstFault m None → CallsNoGlobal m
verified_calls m h = functions_named m m.functions (behind m (first_some (global_fault m) m.globals) h)
