-- Calls and references as capabilities.
use Rattle.std.specs.Prelude.{ℕ, nat_lt, List, [], ◌∷◌, if◌then◌else◌}
use Rattle.lx_caps.specs.declared.Atom.{Atom}
use Rattle.lx_caps.specs.declared.Atom.TheVariants as atom
use Rattle.lx_caps.specs.declared.Cap.{Cap}
use Rattle.lx_caps.specs.declared.Cap.TheVariants as cap

-- what is listed of an atom: a call, or a reference of one of the first types
abbrev pub caps_of : ℕ → Atom → List Cap
caps_of types (atom.Byte b) = []
caps_of types (atom.Call a) = cap.Call a ∷ []
caps_of types (atom.Ref t a) = if nat_lt t types then cap.Ref t a ∷ [] else []
