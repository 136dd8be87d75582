-- What stands first: maps from keys to the first places of what they name.
use Rattle.std.specs.Prelude.{◌≡◌, ℕ, Bool, ◌&&◌, Option, List, nat_eq, bytes_eq, position, find, option_map}
use Rattle.std.specs.Borrow.{Bor}
use Rattle.std.specs.Map.{lookup}
use Rattle.std.specs.Option.{option_eq}
use Rattle.lx_annot.specs.declared.interface.Slot.{Slot}
use Rattle.lx_ir.specs.Lookup.{is_defined}
use Rattle.lx_ir.specs.declared.module.Function.{Function}
use Rattle.lx_model.specs.declared.program.Program.{Program}
use Rattle.lx_model.specs.declared.program.ProgramFunction.{ProgramFunction}
use Rattle.lx_model.specs.declared.program.ProgramGlobal.{ProgramGlobal}
use Rattle.lx_model.specs.Program.{Home, is_entry, same_home}

-- a text and the number of a thing there
abbrev pub Key : Type 0
Key = Option ℕ × ℕ

abbrev pub same_key : Key → Key → Bool
same_key x y = option_eq nat_eq x.0 y.0 && nat_eq x.1 y.1

-- what a map has at a key, or at a name
abbrev pub at_key : List (Key × ℕ) → Home → ℕ → Option ℕ
at_key table home n = lookup (same_key (home, n)) table

abbrev pub at_name : List (Bor (List ℕ) × ℕ) → List ℕ → Option ℕ
at_name table name = lookup (λ k. bytes_eq name k.now) table

-- the function is a definition of the name
abbrev pub defines : List ℕ → Function → Bool
defines name f = is_defined f && bytes_eq f.name name

abbrev pub is_named : List ℕ → Slot → Bool
is_named name s = bytes_eq s.name name

abbrev pub is_global : Home → ℕ → ProgramGlobal → Bool
is_global home g x = same_home x.«module» home && nat_eq x.global g

-- the map has the place of the first function of each key
abbrev pub HasNumbers : List ProgramFunction → List (Key × ℕ) → Type 0
HasNumbers fs table = (home : Home) → (f : ℕ) → at_key table home f ≡ position (is_entry home f) fs

-- and of the first thing of each name
abbrev pub HasNames : {A : Type 0} → (List ℕ → A → Bool) → List A → List (Bor (List ℕ) × ℕ) → Type 0
HasNames test xs table = (name : List ℕ) → at_name table name ≡ position (test name) xs

-- the map has the address of each global
abbrev pub HasAddresses : List ProgramGlobal → List (Key × ℕ) → Type 0
HasAddresses globals table = (home : Home) → (g : ℕ) → at_key table home g ≡ option_map (λ x. x.at) (find (is_global home g) globals)

-- the maps of a program: of its functions by text and number there, of the kernel's functions by name, and of the slot types
pub record IsIndexed (p : Program) (numbers : List (Key × ℕ)) (kernel slots : List (Bor (List ℕ) × ℕ)) : Type 0 where
  pub numbers_of : HasNumbers p.functions numbers
  pub kernel_names : HasNames defines p.kernel.functions kernel
  pub slot_names : HasNames is_named p.interface.slots slots
