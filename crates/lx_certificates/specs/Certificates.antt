-- What a certificate says of the acts.
use Rattle.std.specs.Prelude.{ℕ, ◌+◌, ◌-◌, Bool, true, false, not, ◌&&◌, nat_eq, nat_le, nat_lt, Option, Some, None, List, [], ◌∷◌}
use Rattle.lx_caps.specs.declared.Principal.{Principal}
use Rattle.lx_caps.specs.declared.Principal.TheVariants.{Kernel}
use Rattle.lx_caps.specs.declared.Cap.{Cap}
use Rattle.lx_caps.specs.declared.Atom.{Atom}
use Rattle.lx_caps.specs.declared.Atom.TheVariants as atom
use Rattle.lx_caps.specs.History.{History, has, same_principal, reached, kept_in_reach, each_byte, holds_by_reach}
use Rattle.lx_certificates.specs.declared.Cert.{Cert}
use Rattle.lx_certificates.specs.declared.Cert.TheVariants.{Allow, Deny, Borrowed}
use Rattle.lx_certificates.specs.declared.givers.Gifts.{Gifts}
use Rattle.lx_certificates.specs.declared.givers.Gifts.TheVariants.{Grants, Lends, Both}
use Rattle.lx_certificates.specs.declared.Part.{Part}
use Rattle.lx_certificates.specs.declared.givers.Sought.{Sought}
use Rattle.lx_certificates.specs.Givers.{giver, given, first_of, count_of, nth_atom, newest_strip}

-- the act that was found is this one
abbrev pub is_act : Option ℕ → ℕ → Bool
is_act None n = false
is_act (Some m) n = nat_eq m n

-- the act that was found is this one, or any where none is named
abbrev pub is_wanted : Option ℕ → Option ℕ → Bool
is_wanted (Some n) found = is_act found n
is_wanted None (Some m) = true
is_wanted None None = false

-- the act that is told is the one that was found, or there is none of either
abbrev pub same_number : Option ℕ → Option ℕ → Bool
same_number None None = true
same_number (Some m) (Some n) = nat_eq m n
same_number _ _ = false

-- the part begins at this place, is one of the atoms that are left, has another act than the part before it, and its act
-- is that of each of its atoms
abbrev pub is_cut : (ℕ → Option ℕ) → ℕ → Option ℕ → ℕ → ℕ → Part → Bool
is_cut act first last k left p =
    nat_eq p.low (first + k) && (nat_lt 0 p.size && (nat_le p.size left && (not (is_act last p.act) && each_byte (λ i. is_wanted (Some p.act) (act i)) k p.size)))

-- the parts cut the atoms from this place on, so many, in ascending order
abbrev pub are_cut : (ℕ → Option ℕ) → ℕ → Option ℕ → ℕ → ℕ → List Part → Bool
are_cut act first last k left [] = nat_eq left 0
are_cut act first last k left (p ∷ ps) = is_cut act first last k left p && are_cut act first (Some p.act) (k + p.size) (left - p.size) ps

-- the parts of what was sought
abbrev pub are_parts : History → Sought → List Part → Bool
are_parts h s parts = are_cut (given h s) (first_of s.cap) None 0 (count_of s.cap) parts

-- the address of an atom
abbrev pub address_of : Atom → ℕ
address_of (atom.Byte a) = a
address_of (atom.Call a) = a
address_of (atom.Ref t a) = a

-- the atom is the first of the capability's that does not pass the test
abbrev pub is_first_lacking : (Atom → Bool) → Cap → Atom → Bool
is_first_lacking p c x = has c x && (each_byte (λ i. p (nth_atom c i)) 0 (address_of x - first_of c) && not (p x))

-- what has to be kept was granted, and anything else was granted or lent
abbrev pub gifts_for : Bool → Gifts
gifts_for true = Grants
gifts_for false = Both

-- what is sought of the acts
abbrev pub seek : Gifts → Principal → Cap → Sought
seek gifts who cap = record { gifts = gifts; who = who; cap = cap }

-- the principal is the kernel
abbrev pub is_kernel : Principal → Bool
is_kernel who = same_principal Kernel who

-- a certificate is true of a history
abbrev pub is_cert : History → Cert → Bool
is_cert h (Allow who cap kept parts) = not (is_kernel who) && are_parts h (seek (gifts_for kept) who cap) parts
is_cert h (Deny who cap x strip) = not (is_kernel who) && (is_first_lacking (reached h who) cap x && same_number strip (newest_strip h x))
is_cert h (Borrowed who cap x act) =
    not (is_kernel who) && (holds_by_reach h who cap && (is_first_lacking (kept_in_reach h who) cap x && is_act (giver Lends h who x) act))
