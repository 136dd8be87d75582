-- Classes of slot types whose annotations have the same text.
use Rattle.std.specs.Prelude.{◌≡◌, ℕ, ◌<◌, Bool, not, Option, Some, None, List, bytes_eq, length, nat_eq, position, slice_get}
use Rattle.std.specs.Borrow.{Bor}
use Rattle.std.specs.Map.{lookup}
use Rattle.lx_annot.specs.Canonical.{Text}
use Rattle.lx_annot.specs.declared.interface.Interface.{Interface}
use Rattle.lx_slot_types.specs.Texts.{differ}

-- what a map has at a text
abbrev pub at_text : List (Bor (List ℕ) × ℕ) → List ℕ → Option ℕ
at_text table bytes = lookup (λ k. bytes_eq bytes k.now) table

-- the map has the first place of each text
unfoldable pub HasTexts : List Text → List (Bor (List ℕ) × ℕ) → Type 0
HasTexts texts table = (bytes : List ℕ) → at_text table bytes ≡ position (λ t. bytes_eq t bytes) texts

abbrev pub place_or_none : Option ℕ → ℕ
place_or_none None = 0
place_or_none (Some k) = k

-- the class of a slot type by its number
abbrev pub class_among : List ℕ → ℕ → ℕ
class_among classes s = place_or_none (slice_get classes s)

-- two slot types are of different classes
abbrev pub class_differs : List ℕ → ℕ → ℕ → Bool
class_differs classes s t = not (nat_eq (class_among classes s) (class_among classes t))

-- slot types are of different classes exactly where their annotations differ
unfoldable pub IsClassed : Interface → List ℕ → Type 0
IsClassed i classes = (s t : ℕ) → s < length i.slots → t < length i.slots → class_differs classes s t ≡ differ i s t
