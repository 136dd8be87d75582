-- The functions that a text defines, and where they ought to stand.
use Rattle.std.specs.Prelude.{◌≡◌, ℕ, Bool, not, ◌&&◌, cond, Option, Some, None, List, [], ◌∷◌, ◌++◌, map, position, bytes_eq, if◌then◌else◌}
use Rattle.std.specs.Borrow.{Bor}
use Rattle.lx_ir.specs.declared.module.Function.{Function}
use Rattle.lx_ir.specs.Lookup.{is_defined}
use Rattle.lx_image_texts.specs.ImageFaults.{ImageFault, defined_names, is_wrapper, wrapper_fault}
use Rattle.lx_image_marks.specs.Named.{at_name}

-- the text defines the function of this name
abbrev pub defines : List ℕ → Function → Bool
defines name f = is_defined f && bytes_eq f.name name

-- the map has the place of the first function that the text defines by each name
abbrev pub HasDefined : List Function → List (Bor (List ℕ) × ℕ) → Type 0
HasDefined fs table = (name : List ℕ) → at_name table name ≡ position (defines name) fs

-- the name of a function, where the test holds
abbrev pub name_if : Bool → Function → List (List ℕ)
name_if holds f = cond holds (f.name ∷ []) []

-- a function of the program that the text defines
abbrev pub is_body : Function → Bool
is_body f = is_defined f && not (is_wrapper f)

-- the names of the functions that a text ought to define, where these are its wrappers
abbrev pub expected : List Function → List Function → List (List ℕ)
expected fs ws = defined_names fs ++ map (λ w. w.name) ws

-- the fault of a function that stands where this name is expected
abbrev pub place_fault : Option (List ℕ) → Function → Option ImageFault
place_fault None f = Some (wrapper_fault f.line f.name 0)
place_fault (Some n) f = if bytes_eq n f.name then None else Some (wrapper_fault f.line f.name 0)

abbrev pub fault_if_defined : Option (List ℕ) → Function → Option ImageFault
fault_if_defined n f = if is_defined f then place_fault n f else None
