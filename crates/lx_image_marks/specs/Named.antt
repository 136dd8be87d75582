-- The imports of an image's program by their names, and what may be called.
use Rattle.std.specs.Prelude.{◌≡◌, ℕ, Bool, ◌&&◌, Option, Some, List, map, bytes_eq, position}
use Rattle.std.specs.Borrow.{Bor}
use Rattle.std.specs.Map.{lookup}
use Rattle.lx_ir.specs.declared.module.Function.{Function}
use Rattle.lx_ir.specs.declared.module.Module.{Module}
use Rattle.lx_image_texts.specs.ImageFaults.{has_out_wrapper, may_call_function}

-- what a map has at a name
abbrev pub at_name : List (Bor (List ℕ) × ℕ) → List ℕ → Option ℕ
at_name table name = lookup (λ k. bytes_eq name k.now) table

-- the function is an import of this name that has a wrapper
abbrev pub imports_as : List ℕ → Function → Bool
imports_as name f = has_out_wrapper f && bytes_eq f.name name

-- the map has the place of the first such import of each name
abbrev pub HasImports : List Function → List (Bor (List ℕ) × ℕ) → Type 0
HasImports fs table = (name : List ℕ) → at_name table name ≡ position (imports_as name) fs

-- whether each function may be called
abbrev pub callable_of : Module → List Bool
callable_of x = map (λ f. may_call_function x (Some f)) x.functions
