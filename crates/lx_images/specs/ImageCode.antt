-- The code of an image, where some of its stores lack their guard.
use Rattle.std.specs.Prelude.{ℕ, Bool, true, false, not, ◌&&◌, Option, Some, None, List, [], ◌∷◌, ◌++◌, nat_eq}
use Rattle.lx_ir.specs.declared.module.Module.{Module}
use Rattle.lx_ir.specs.declared.instr.Callee.{Callee}
use Rattle.lx_ir.specs.declared.instr.Op.{Op}
use Rattle.lx_ir.specs.declared.instr.Op.TheVariants as op
use Rattle.lx_image_texts.specs.Marks.{size_value, mark_of, one_if, image_callee}
use Rattle.lx_image_texts.specs.Instrumented.{unless_left}

-- What stands in the image of a text, which is a module's, or the kernel's where it is none.

-- what is called there
abbrev pub text_callee : Option Module → Callee → Callee
text_callee None x = x
text_callee (Some m) x = image_callee m x

-- what an instruction is there; a plain text has no marks
abbrev pub text_op : Option Module → Op → Op
text_op text (op.Call to ret x args) = op.Call to ret (text_callee text x) args
text_op text (op.Guard at size narrow) = op.Unreachable
text_op text (op.Check target) = op.Unreachable
text_op text o = o

-- a store, which alone may lack its guard
abbrev pub is_store : Op → Bool
is_store (op.Store ty v at) = true
is_store _ = false

-- a guard
abbrev pub is_guard : Op → Bool
is_guard (op.Guard at size narrow) = true
is_guard _ = false

-- how many stores there are
abbrev pub stores_in : List Op → ℕ
stores_in [] = 0
stores_in (o ∷ os) = one_if (is_store o) (stores_in os)

-- which stores of a block lack their guard, by how many stores stand behind them there
abbrev pub Bare : Type 0
Bare = ℕ → Bool

-- each store has its guard
abbrev pub none_bare : Bare
none_bare k = false

-- the marks before an instruction of a module, where so many stores stand behind it
abbrev pub module_marks : Bare → ℕ → Op → List Op
module_marks bare k (op.Store ty v at) = unless_left (bare k) (op.Guard at (size_value ty) false ∷ [])
module_marks bare k o = mark_of o

-- the marks before an instruction of a text
abbrev pub image_marks : Option Module → Bare → ℕ → Op → List Op
image_marks None bare k o = []
image_marks (Some m) bare k o = module_marks bare k o

-- the code of a block in the image
abbrev pub image_ops : Option Module → Bare → List Op → List Op
image_ops text bare [] = []
image_ops text bare (o ∷ os) = image_marks text bare (stores_in os) o ++ (text_op text o ∷ image_ops text bare os)

-- whether the store that is looked for lacks its guard: it is here, or further on
abbrev pub bare_here : Bool → Bool → Bool → Bool
bare_here true guarded further = not guarded
bare_here false guarded further = further

-- which stores of an image's block lack their guard; `guarded` says whether a guard stands directly before
abbrev pub bare_in : Bool → List Op → Bare
bare_in guarded [] k = false
bare_in guarded (o ∷ os) k = bare_here (is_store o && nat_eq (stores_in os) k) guarded (bare_in (is_guard o) os k)
