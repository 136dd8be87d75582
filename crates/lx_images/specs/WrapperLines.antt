-- The lines that the wrapper of an annotated function has, and what is left of them where it stands.
use Rattle.std.specs.Prelude.{◌≡◌, ℕ, Option, Some, List, [], ◌∷◌, ◌++◌}
use Rattle.lx_ir.specs.declared.types.Scalar.{Scalar}
use Rattle.lx_ir.specs.declared.module.Symbol.{Symbol}
use Rattle.lx_ir.specs.declared.instr.Argument.{Argument}
use Rattle.lx_ir.specs.declared.instr.Callee.{Callee}
use Rattle.lx_ir.specs.declared.instr.Op.{Op}
use Rattle.lx_ir.specs.declared.instr.Op.TheVariants as op
use Rattle.lx_annot.specs.Action.{Action}
use Rattle.lx_annot.specs.declared.action.Annotation.{Annotation}
use Rattle.lx_image_texts.specs.WrapperText.{pre_lines, post_lines}
use Rattle.lx_model.specs.Program.{home_or_kernel, annotation_or_none}
use Rattle.lx_images.specs.Code.{Code, wrapped_import}
use Rattle.lx_images.specs.Wrappers.{called_lines, in_lines}

-- the words of a wrapper beside its actions: the function that it names, its call and its `ret`
pub record Wording : Type 0 where
  pub symbol : Symbol
  pub to : Option ℕ
  pub ret : Option Scalar
  pub callee : Callee
  pub args : List Argument
  pub value : Option Argument

-- the lines from these actions behind the body on, the first of which has this number
abbrev pub from_post : Wording → ℕ → List Action → List Op
from_post w k actions = post_lines w.symbol k actions ++ (op.Leave w.symbol ∷ op.Ret w.value ∷ [])

-- those from the call on
abbrev pub from_call : Wording → Annotation → List Op
from_call w a = op.Call w.to w.ret w.callee w.args ∷ from_post w 0 a.post

-- and those from these actions before the body on
abbrev pub from_pre : Wording → Annotation → ℕ → List Action → List Op
from_pre w a k actions = pre_lines w.symbol k actions ++ from_call w a

-- all lines of a wrapper of an annotation
abbrev pub from_enter : Wording → Annotation → List Op
from_enter w a = op.Enter w.symbol ∷ from_pre w a 0 a.pre

-- these are the lines of a wrapper of the function with this number: each action of its annotation, in order
abbrev pub IsWrapperOf : Code → ℕ → List Op → Type 0
IsWrapperOf c n lines = (w : Wording) × (lines ≡ from_enter w (annotation_or_none c.program n))

-- each wrapper that is called or entered has the lines of its function's annotation
pub record WrapsWell (c : Code) : Type 0 where
  pub called : (k : ℕ) (o : Op) (n : ℕ) → wrapped_import c (home_or_kernel c.program k) o ≡ Some n → IsWrapperOf c n (called_lines c (home_or_kernel c.program k) o)
  pub entered : (n : ℕ) → IsWrapperOf c n (in_lines c n)
