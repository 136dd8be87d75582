-- The text of a wrapper, and the wrappers of a module. In its one block `0` a wrapper enters the function, does its actions before the
-- body, calls the function with its own parameters, does the actions behind the body, leaves, and returns what the call gave.
use Rattle.std.specs.Prelude.{ℕ, suc, Bool, true, false, Option, Some, None, List, [], ◌∷◌, ◌++◌, map, filter_map, find, length, slice_get, option_map, unwrap_or, bytes_eq, codes}
use Rattle.lx_words.specs.Text.{decimal_text}
use Rattle.lx_ir.specs.declared.types.Scalar.{Scalar}
use Rattle.lx_ir.specs.declared.module.Symbol.{Symbol}
use Rattle.lx_ir.specs.declared.module.Symbol.TheVariants as symbol
use Rattle.lx_ir.specs.declared.module.Value.TheVariants as value
use Rattle.lx_ir.specs.declared.module.Parameter.{Parameter}
use Rattle.lx_ir.specs.declared.module.Function.{Function}
use Rattle.lx_ir.specs.declared.module.Module.{Module}
use Rattle.lx_ir.specs.declared.instr.Argument.{Argument}
use Rattle.lx_ir.specs.declared.instr.Callee.TheVariants as callee
use Rattle.lx_ir.specs.declared.instr.Instr.{Instr}
use Rattle.lx_ir.specs.declared.instr.Op.{Op}
use Rattle.lx_ir.specs.declared.instr.Op.TheVariants as op
use Rattle.lx_annot.specs.Action.{Action}
use Rattle.lx_annot.specs.declared.action.Annotation.{Annotation}
use Rattle.lx_annot.specs.declared.interface.Interface.{Interface}
use Rattle.lx_slot_types.specs.declared.Marked.{Marked}
use Rattle.lx_propagate.specs.Slots.{annotated_of}
use Rattle.lx_image_texts.specs.Marks.{is_wrapped}

-- a wrapper stands before calls out of a module, or before calls into one
pub data Side : Type 0 where
  In : Side
  Out : Side

abbrev pub wrapper_prefix : Side → List ℕ
wrapper_prefix In = codes "lxfi.in."
wrapper_prefix Out = codes "lxfi.out."

-- the name of a function's wrapper
abbrev pub wrapper_name : Side → List ℕ → List ℕ
wrapper_name side name = wrapper_prefix side ++ name

-- its parameters are `%0`, `%1` and so on
abbrev pub wrapper_params : ℕ → List Parameter → List Parameter
wrapper_params k [] = []
wrapper_params k (p ∷ ps) = record { name = decimal_text k; ty = p.ty } ∷ wrapper_params (suc k) ps

-- it hands them on as they are
abbrev pub wrapper_args : ℕ → List Parameter → List Argument
wrapper_args k [] = []
wrapper_args k (p ∷ ps) = record { ty = p.ty; value = value.Register k } ∷ wrapper_args (suc k) ps

-- a line for each action, with its number
abbrev pub pre_lines : Symbol → ℕ → List Action → List Op
pre_lines s k [] = []
pre_lines s k (a ∷ rest) = op.Pre s k ∷ pre_lines s (suc k) rest

abbrev pub post_lines : Symbol → ℕ → List Action → List Op
post_lines s k [] = []
post_lines s k (a ∷ rest) = op.Post s k ∷ post_lines s (suc k) rest

-- the call's result `%r`, where there is one: the first register behind the parameters
abbrev pub result_register : ℕ → Option Scalar → Option ℕ
result_register n None = None
result_register n (Some ty) = Some n

abbrev pub result_names : Option Scalar → List (List ℕ)
result_names None = []
result_names (Some ty) = codes "r" ∷ []

abbrev pub returned : ℕ → Option Scalar → Option Argument
returned n None = None
returned n (Some ty) = Some (record { ty = ty; value = value.Register n })

-- the lines of the wrapper of a function, which has this number in its module
abbrev pub wrapper_code : Function → ℕ → Annotation → List Op
wrapper_code f n a =
    op.Enter (symbol.Function n)
    ∷ (pre_lines (symbol.Function n) 0 a.pre
    ++ (op.Call (result_register (length f.params) f.ret) f.ret (callee.Symbol (symbol.Function n)) (wrapper_args 0 f.params)
    ∷ (post_lines (symbol.Function n) 0 a.post ++ (op.Leave (symbol.Function n) ∷ op.Ret (returned (length f.params) f.ret) ∷ []))))

-- lines do not count: a wrapper's are 0
abbrev pub unlined : Op → Instr
unlined o = record { op = o; line = 0 }

-- the wrapper of a function with an annotation
abbrev pub wrapper_of : Function → ℕ → Annotation → Side → Function
wrapper_of f n a side =
    record {
      name = wrapper_name side f.name;
      params = wrapper_params 0 f.params;
      locals = result_names f.ret;
      ret = f.ret;
      blocks = Some (record { name = codes "0"; instrs = map unlined (wrapper_code f n a) } ∷ []);
      line = 0;
    }

abbrev pub empty_annotation : Annotation
empty_annotation = record { principal = None; pre = []; post = [] }

-- an import has the annotation that it is exported with, or the empty one
abbrev pub import_annotation : Interface → List ℕ → Annotation
import_annotation i name = unwrap_or (option_map (λ e. e.annotation) (find (λ e. bytes_eq e.name name) i.exports)) empty_annotation

-- the annotation of a slot type
abbrev pub slot_annotation : Interface → ℕ → Annotation
slot_annotation i s = unwrap_or (option_map (λ t. t.annotation) (slice_get i.slots s)) empty_annotation

-- the wrapper of a function with this number, where it is an import that has one
abbrev pub out_if : Bool → Interface → ℕ → Function → List Function
out_if true i n f = wrapper_of f n (import_annotation i f.name) Out ∷ []
out_if false i n f = []

-- the wrappers of imports, in order, from the function with this number on
abbrev pub out_wrappers : Interface → ℕ → List Function → List Function
out_wrappers i n [] = []
out_wrappers i n (f ∷ fs) = out_if (is_wrapped f) i n f ++ out_wrappers i (suc n) fs

-- the wrapper of a function that gets a slot type
abbrev pub in_wrapper : Interface → Module → Marked → Option Function
in_wrapper i m k = option_map (λ f. wrapper_of f k.function (slot_annotation i k.slot) In) (slice_get m.functions k.function)

-- the wrappers of the annotated functions that the module defines, in order, by the first slot type that each gets
abbrev pub in_wrappers : Interface → Module → List Function
in_wrappers i m = filter_map (in_wrapper i m) (annotated_of i m)

-- the wrappers of a module, in the order in which they stand behind its functions
abbrev pub wrappers_of : Interface → Module → List Function
wrappers_of i m = out_wrappers i 0 m.functions ++ in_wrappers i m
