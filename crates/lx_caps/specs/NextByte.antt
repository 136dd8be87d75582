-- Bytes by their numbers, and the first number that passes a test.
use Rattle.std.specs.Prelude.{◌≡◌, ℕ, suc, ◌<◌, ◌≤◌, Bool, true, false, Option, Some, None}
use Rattle.lx_caps.specs.declared.Atom.{Atom}
use Rattle.lx_caps.specs.declared.Atom.TheVariants as atom

-- the number behind the last one
abbrev pub behind : Option ℕ → ℕ
behind None = 0
behind (Some n) = suc n

-- the last byte as an atom
abbrev pub last_byte : Option ℕ → Option Atom
last_byte None = None
last_byte (Some n) = Some (atom.Byte n)

-- the number of the atom, where it is a byte
abbrev pub byte_in : Option Atom → Option ℕ
byte_in (Some (atom.Byte n)) = Some n
byte_in _ = None

-- the first number from `from` on that passes the test, if there is one
abbrev pub IsFirstFrom : (ℕ → Bool) → ℕ → Option ℕ → Type 0
IsFirstFrom p from None = (m : ℕ) → from ≤ m → p m ≡ false
IsFirstFrom p from (Some n) = (from ≤ n) × ((m : ℕ) → from ≤ m → m < n → p m ≡ false) × (p n ≡ true)
