-- The next owned atom, as the next owned byte.
use Rattle.std.proofs.Common.{◌≡◌, ℕ, ◌≤◌, Bool, true, false, ◌&&◌, Option, Some, None, refl, sym, arith, lt-ltb, ltb-true}
use Rattle.std.proofs.lemmas.Bool.{true≢false}
use Rattle.lx_words.proofs.Tests.{first_of, second_of}
use Rattle.lx_caps.specs.declared.Principal.{Principal}
use Rattle.lx_caps.specs.declared.Atom.{Atom}
use Rattle.lx_caps.specs.declared.Atom.TheVariants as atom
use Rattle.lx_caps.specs.History.{History, owns}
use Rattle.lx_caps.specs.Order.{is_before, is_behind, IsNextOwned}
use Rattle.lx_caps.specs.NextByte.{behind, byte_in, last_byte, IsFirstFrom}

pub not_owned : (b o : Bool) → b ≡ true → (b && o) ≡ false → o ≡ false
not_owned true o e f = f
not_owned false o e f = absurd (true≢false (sym e))

-- the bytes from the number on stand behind the last one
bytes_behind : (after : Option ℕ) (m : ℕ) → behind after ≤ m → is_behind (last_byte after) (atom.Byte m) ≡ true
bytes_behind None m le = refl
bytes_behind (Some n) m le = lt-ltb n m le

byte_le : (after : Option ℕ) (k : ℕ) → is_behind (last_byte after) (atom.Byte k) ≡ true → behind after ≤ k
byte_le None k e = omega arith
byte_le (Some n) k e = ltb-true n k e

-- none is owned before an atom that comes next
none_until : (h : History) (q : Principal) (after : Option ℕ) (x : Atom) → IsNextOwned h q (last_byte after) (Some x) → (m : ℕ) → behind after ≤ m → is_before (atom.Byte m) x ≡ true → owns h q (atom.Byte m) ≡ false
none_until h q after x n m le lt = not_owned (is_behind (last_byte after) (atom.Byte m)) _ (bytes_behind after m le) (n.1 (atom.Byte m) lt)

-- the next owned atom is the next byte, if it is a byte
pub first_byte : (h : History) (q : Principal) (after : Option ℕ) (next : Option Atom) → IsNextOwned h q (last_byte after) next → IsFirstFrom (λ b. owns h q (atom.Byte b)) (behind after) (byte_in next)
first_byte h q after None n = λ m le. not_owned (is_behind (last_byte after) (atom.Byte m)) _ (bytes_behind after m le) (n (atom.Byte m))
first_byte h q after (Some (atom.Byte k)) n = (
  byte_le after k (first_of _ _ n.0),
  (λ m le lt. none_until h q after (atom.Byte k) n m le (lt-ltb m k lt)),
  second_of (is_behind (last_byte after) (atom.Byte k)) _ n.0,
)
first_byte h q after (Some (atom.Call a)) n = λ m le. none_until h q after (atom.Call a) n m le refl
first_byte h q after (Some (atom.Ref t a)) n = λ m le. none_until h q after (atom.Ref t a) n m le refl
