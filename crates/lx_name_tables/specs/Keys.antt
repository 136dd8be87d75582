-- What stands first under a key, which is a text and a number there.
use Rattle.std.specs.Prelude.{◌≡◌, ℕ, Bool, ◌&&◌, Option, List, nat_eq, position, find, option_map}
use Rattle.std.specs.Map.{lookup}
use Rattle.std.specs.Option.{option_eq}
use Rattle.lx_model.specs.declared.program.ProgramFunction.{ProgramFunction}
use Rattle.lx_model.specs.declared.program.ProgramGlobal.{ProgramGlobal}
use Rattle.lx_model.specs.Program.{Home, is_entry, same_home}

-- a text and the number of a thing there
abbrev pub Key : Type 0
Key = Option ℕ × ℕ

abbrev pub same_key : Key → Key → Bool
same_key x y = option_eq nat_eq x.0 y.0 && nat_eq x.1 y.1

-- what a map has at a key
abbrev pub at_key : List (Key × ℕ) → Home → ℕ → Option ℕ
at_key table home n = lookup (same_key (home, n)) table

-- it is the text's global with the number
abbrev pub is_global : Home → ℕ → ProgramGlobal → Bool
is_global home g x = same_home x.«module» home && nat_eq x.global g

-- the map has the place of the first function of each key
abbrev pub HasNumbers : List ProgramFunction → List (Key × ℕ) → Type 0
HasNumbers fs table = (home : Home) → (f : ℕ) → at_key table home f ≡ position (is_entry home f) fs

-- the map has the address of the first global of each key
abbrev pub HasAddresses : List ProgramGlobal → List (Key × ℕ) → Type 0
HasAddresses globals table = (home : Home) → (g : ℕ) → at_key table home g ≡ option_map (λ x. x.at) (find (is_global home g) globals)
