-- What stands first under a name: maps from names to the first places of what they name.
use Rattle.std.specs.Prelude.{◌≡◌, ℕ, Bool, false, ◌&&◌, Option, Some, None, List, bytes_eq, position}
use Rattle.std.specs.Borrow.{Bor}
use Rattle.std.specs.Map.{lookup}
use Rattle.lx_annot.specs.declared.interface.Export.{Export}
use Rattle.lx_annot.specs.declared.interface.Slot.{Slot}
use Rattle.lx_ir.specs.Lookup.{is_defined}
use Rattle.lx_ir.specs.declared.module.Function.{Function}
use Rattle.lx_ir.specs.declared.module.GlobalVar.{GlobalVar}

-- what a map has at a name
abbrev pub at_name : List (Bor (List ℕ) × ℕ) → List ℕ → Option ℕ
at_name table name = lookup (λ k. bytes_eq name k.now) table

-- the name is the one that something is known as, if it is known as one
abbrev pub names : Option (Bor (List ℕ)) → List ℕ → Bool
names None name = false
names (Some k) name = bytes_eq k.now name

-- the function is a definition of the name
abbrev pub defines : List ℕ → Function → Bool
defines name f = is_defined f && bytes_eq f.name name

-- a global, an export or a slot type has the name
abbrev pub is_global : List ℕ → GlobalVar → Bool
is_global name g = bytes_eq g.name name

abbrev pub is_export : List ℕ → Export → Bool
is_export name e = bytes_eq e.name name

abbrev pub is_slot : List ℕ → Slot → Bool
is_slot name s = bytes_eq s.name name

-- the map has the place of the first thing of each name
abbrev pub HasNames : {A : Type 0} → (List ℕ → A → Bool) → List A → List (Bor (List ℕ) × ℕ) → Type 0
HasNames test xs table = (name : List ℕ) → at_name table name ≡ position (test name) xs
