-- The newest act that gives an atom to one of some principals, and still stands. Acts are numbered from the oldest, from 0.
use Rattle.std.specs.Prelude.{ℕ, ◌+◌, Bool, true, false, ◌&&◌, Option, Some, None, List, [], ◌∷◌, length, drop, reverse, take, if◌then◌else◌}
use Rattle.lx_caps.specs.declared.Principal.{Principal}
use Rattle.lx_caps.specs.declared.Cap.{Cap}
use Rattle.lx_caps.specs.declared.Cap.TheVariants as cap
use Rattle.lx_caps.specs.declared.Atom.{Atom}
use Rattle.lx_caps.specs.declared.Atom.TheVariants as atom
use Rattle.lx_caps.specs.declared.Act.{Act}
use Rattle.lx_caps.specs.declared.Act.TheVariants.{Grant, Strip, Loan, Lend, Shut, ShutAll}
use Rattle.lx_caps.specs.Loans.{Endings, none_end, before_loan, before_shut, before_shut_all, goes_on, lends}
use Rattle.lx_caps.specs.History.{History, has, reaches}
use Rattle.lx_caps.specs.Owners.{endings}
use Rattle.lx_certificates.specs.declared.givers.Gifts.{Gifts}
use Rattle.lx_certificates.specs.declared.givers.Gifts.TheVariants.{Grants, Lends, Both}
use Rattle.lx_certificates.specs.declared.givers.Sought.{Sought}

-- grants are looked for
abbrev pub by_grant : Gifts → Bool
by_grant Grants = true
by_grant Lends = false
by_grant Both = true

-- lends are looked for
abbrev pub by_lend : Gifts → Bool
by_lend Grants = false
by_lend Lends = true
by_lend Both = true

-- the act gives the atom to one of these principals, or takes it from everyone
abbrev pub touches : (Principal → Bool) → Act → Atom → Bool
touches among (Grant q c) x = among q && has c x
touches among (Strip c) x = has c x
touches among (Lend t q c) x = among q && has c x
touches among _ x = false

-- what an act that touches an atom, or does not, says of who gave it: that this act did, that nobody did whose act still
-- stands, or nothing. A lend gives where its loan, the newest of its thread before it, has not ended
abbrev pub said : Gifts → Act → Bool → Endings → History → Option Bool
said gifts (Grant q c) touched ends h = if by_grant gifts && touched then Some true else None
said gifts (Strip c) touched ends h = if touched then Some false else None
said gifts (Lend t q c) touched ends h = if by_lend gifts && (touched && (lends h t && goes_on (ends t))) then Some true else None
said gifts _ touched ends h = None

-- the loans that an act ends, and those that later acts end
abbrev pub ends_with : Act → Endings → Endings
ends_with (Loan t) ends = before_loan t ends
ends_with (Shut t n) ends = before_shut t n ends
ends_with (ShutAll t) ends = before_shut_all t ends
ends_with _ ends = ends

-- the act with this number where it gave, none where it took, and what the acts before say where it says nothing
abbrev pub found : Option Bool → ℕ → Option ℕ → Option ℕ
found (Some true) n before = Some n
found (Some false) n before = None
found None n before = before

-- the newest act that gives the atom to one of these principals and still stands
abbrev pub giver_among : Gifts → (Principal → Bool) → Endings → History → Atom → Option ℕ
giver_among gifts among ends [] x = None
giver_among gifts among ends (act ∷ h) x =
    found (said gifts act (touches among act x) ends h) (length h) (giver_among gifts among (ends_with act ends) h x)

-- the newest act that gives the atom to somebody in reach of the principal, and still stands
abbrev pub giver : Gifts → History → Principal → Atom → Option ℕ
giver gifts h who x = giver_among gifts (reaches who) none_end h x

-- the newest strip that has the atom
abbrev pub newest_strip : History → Atom → Option ℕ
newest_strip [] x = None
newest_strip (Strip c ∷ h) x = if has c x then Some (length h) else newest_strip h x
newest_strip (_ ∷ h) x = newest_strip h x

-- the atoms of a capability by their places, and its first address
abbrev pub first_of : Cap → ℕ
first_of (cap.Write at size) = at
first_of (cap.Call a) = a
first_of (cap.Ref t a) = a

-- how many atoms a capability has
abbrev pub count_of : Cap → ℕ
count_of (cap.Write at size) = size
count_of (cap.Call a) = 1
count_of (cap.Ref t a) = 1

-- the atom at a place, from 0
abbrev pub nth_atom : Cap → ℕ → Atom
nth_atom (cap.Write at size) k = atom.Byte (at + k)
nth_atom (cap.Call a) k = atom.Call a
nth_atom (cap.Ref t a) k = atom.Ref t a

-- who gave the atom at a place
abbrev pub given : History → Sought → ℕ → Option ℕ
given h s k = giver s.gifts h s.who (nth_atom s.cap k)

-- the same by the first acts alone, where the others end loans and do nothing else
abbrev pub given_by_first : List Act → Sought → ℕ → ℕ → Option ℕ
given_by_first acts s k n = giver_among s.gifts (reaches s.who) (endings (drop n acts)) (reverse (take n acts)) (nth_atom s.cap k)
