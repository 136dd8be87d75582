-- The marks of an image: the guards and checks before the instructions of its module, and the calls of wrappers in place of imports.
use Rattle.std.specs.Prelude.{ℕ, zero, suc, ◌+◌, Bool, true, false, not, ◌&&◌, Option, Some, None, List, [], ◌∷◌, filter, length, bytes_eq, slice_get, codes}
use Rattle.lx_words.specs.declared.word.Width.TheVariants.{W32, W64}
use Rattle.lx_words.specs.Word.{word}
use Rattle.lx_ir.specs.declared.types.Scalar.{Scalar}
use Rattle.lx_ir.specs.declared.types.Scalar.TheVariants.{Int, Ptr}
use Rattle.lx_ir.specs.declared.module.Value.{Value}
use Rattle.lx_ir.specs.declared.module.Value.TheVariants as value
use Rattle.lx_ir.specs.declared.module.Constant.TheVariants as constant
use Rattle.lx_ir.specs.declared.module.Symbol.TheVariants as symbol
use Rattle.lx_ir.specs.declared.module.Function.{Function}
use Rattle.lx_ir.specs.declared.module.Module.{Module}
use Rattle.lx_ir.specs.declared.instr.Callee.{Callee}
use Rattle.lx_ir.specs.declared.instr.Callee.TheVariants as callee
use Rattle.lx_ir.specs.declared.instr.Op.{Op}
use Rattle.lx_ir.specs.declared.instr.Op.TheVariants as op
use Rattle.lx_ir.specs.Layout.{scalar_size}
use Rattle.lx_ir.specs.Lookup.{is_defined}

-- Marks: `@lxfi.guard`, `@lxfi.guard32` and `@lxfi.check`.

-- the size of a stored value, as a guard names it
abbrev pub size_value : Scalar → Value
size_value ty = value.Constant (constant.Number (word W64 (scalar_size ty)))

-- a length of 32 bits has a guard of its own
abbrev pub is_narrow : Scalar → Bool
is_narrow Ptr = false
is_narrow (Int W32) = true
is_narrow (Int w) = false

-- the mark before an instruction: a write's guard names the bytes that it writes, the check of a call by a register what it calls
abbrev pub mark_of : Op → List Op
mark_of (op.Store ty v at) = op.Guard at (size_value ty) false ∷ []
mark_of (op.CopyBlock moves dest source len) = op.Guard dest len.value (is_narrow len.ty) ∷ []
mark_of (op.FillBlock dest byte len) = op.Guard dest len.value (is_narrow len.ty) ∷ []
mark_of (op.Call to ret (callee.Register r) args) = op.Check (value.Register r) ∷ []
mark_of o = []

-- a guard or a check
abbrev pub is_mark : Op → Bool
is_mark (op.Guard at size narrow) = true
is_mark (op.Check target) = true
is_mark _ = false

-- what is left of an image's code without its marks
abbrev pub without_marks : List Op → List Op
without_marks os = filter (λ o. not (is_mark o)) os

-- Calls of imports.

-- the import by which a module gives a principal a further name
abbrev pub is_alias : Function → Bool
is_alias f = bytes_eq f.name (codes "lxfi_princ_alias")

-- an import that has a wrapper: each one but that
abbrev pub is_wrapped : Function → Bool
is_wrapped f = not (is_defined f) && not (is_alias f)

abbrev pub one_if : Bool → ℕ → ℕ
one_if true n = suc n
one_if false n = n

-- how many of the first functions have a wrapper
abbrev pub wrapped_before : List Function → ℕ → ℕ
wrapped_before [] f = 0
wrapped_before (g ∷ gs) zero = 0
wrapped_before (g ∷ gs) (suc f) = one_if (is_wrapped g) (wrapped_before gs f)

-- the number of an import's wrapper: the wrappers stand behind the module's functions, in order
abbrev pub wrapper_number : Module → ℕ → ℕ
wrapper_number m f = length m.functions + wrapped_before m.functions f

abbrev pub callee_if : Bool → Module → ℕ → Callee
callee_if true m f = callee.Symbol (symbol.Function (wrapper_number m f))
callee_if false m f = callee.Symbol (symbol.Function f)

-- a number past the functions calls nothing: a module that can be read has none
abbrev pub callee_for : Module → ℕ → Option Function → Callee
callee_for m f None = callee.Symbol (symbol.Global 0)
callee_for m f (Some g) = callee_if (is_wrapped g) m f

-- what is called in the image: in place of an import its wrapper
abbrev pub image_callee : Module → Callee → Callee
image_callee m (callee.Symbol (symbol.Function f)) = callee_for m f (slice_get m.functions f)
image_callee m x = x

-- what an instruction of the module is in the image; a module that has an image has no marks of its own
abbrev pub image_op : Module → Op → Op
image_op m (op.Call to ret x args) = op.Call to ret (image_callee m x) args
image_op m (op.Guard at size narrow) = op.Unreachable
image_op m (op.Check target) = op.Unreachable
image_op m o = o
