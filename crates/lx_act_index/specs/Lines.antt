-- What acts said of a place: the entries of its line, the newest first.
use Rattle.std.specs.Prelude.{ℕ, ◌<◌, Bool, true, false, not, ◌&&◌, nat_eq, Option, Some, None, List, [], ◌∷◌, if◌then◌else◌, ⊤}
use Rattle.std.specs.List.{flat_map}
use Rattle.lx_caps.specs.declared.Principal.{Principal}
use Rattle.lx_caps.specs.History.{same_principal}
use Rattle.lx_certificates.specs.declared.givers.Gifts.{Gifts}
use Rattle.lx_certificates.specs.Givers.{by_grant, by_lend, found}
use Rattle.lx_cap_nodes.specs.Bits.{is_set}
use Rattle.lx_cap_lists.specs.Entries.{left_of}
use Rattle.lx_act_index.specs.declared.threads.Loan.{Loan}
use Rattle.lx_act_index.specs.declared.lines.Said.{Said}
use Rattle.lx_act_index.specs.declared.lines.Said.TheVariants.{Grant, Lend, Strip}
use Rattle.lx_act_index.specs.declared.lines.Entry.{Entry}

-- it is said that nobody has the atom
abbrev pub is_strip : Said → Bool
is_strip (Grant q) = false
is_strip (Lend l q) = false
is_strip Strip = true

-- the loans are one
abbrev pub same_loan : Loan → Loan → Bool
same_loan l m = nat_eq l.thread m.thread && nat_eq l.older m.older && nat_eq l.opened m.opened

-- what is said of who gave an atom, where these loans stand: that this act did, that nobody did, or nothing
abbrev pub says : Gifts → (Principal → Bool) → (Loan → Bool) → Said → Option Bool
says gifts among stands (Grant q) = if by_grant gifts && among q then Some true else None
says gifts among stands (Lend l q) = if by_lend gifts && among q && stands l then Some true else None
says gifts among stands Strip = Some false

-- what an entry says of a bit
abbrev pub says_of : Gifts → (Principal → Bool) → (Loan → Bool) → ℕ → Entry → Option Bool
says_of gifts among stands k e = if is_set e.mask k then says gifts among stands e.said else None

-- who gave the atom of a bit, by a line
abbrev pub line_giver : Gifts → (Principal → Bool) → (Loan → Bool) → ℕ → List Entry → Option ℕ
line_giver gifts among stands k [] = None
line_giver gifts among stands k (e ∷ es) = found (says_of gifts among stands k e) e.act (line_giver gifts among stands k es)

-- the entry strips the atom of a bit
abbrev pub strips : ℕ → Entry → Bool
strips k e = is_set e.mask k && is_strip e.said

-- the newest strip that has the atom of a bit, by a line
abbrev pub line_strip : ℕ → List Entry → Option ℕ
line_strip k [] = None
line_strip k (e ∷ es) = if strips k e then Some e.act else line_strip k es

-- what is said anew says all that was said before
abbrev pub replaces : Said → Said → Bool
replaces Strip old = true
replaces (Grant q) (Grant r) = same_principal q r
replaces (Grant q) (Lend m r) = false
replaces (Grant q) Strip = false
replaces (Lend l q) (Grant r) = false
replaces (Lend l q) (Lend m r) = same_loan l m && same_principal q r
replaces (Lend l q) Strip = false

-- it was lent on a loan that does not stand
abbrev pub is_spent : (Loan → Bool) → Said → Bool
is_spent stands (Grant q) = false
is_spent stands (Lend l q) = not (stands l)
is_spent stands Strip = false

-- the bits that a newer entry leaves an older one
abbrev pub left_mask : (Loan → Bool) → Entry → Entry → ℕ
left_mask stands new old = if is_spent stands old.said then 0 else (if replaces new.said old.said then left_of old.mask new.mask else old.mask)

-- the entry with these bits, if there are any
abbrev pub if_any : Entry → ℕ → List Entry
if_any e m = if nat_eq m 0 then [] else (record { said = e.said; act = e.act; mask = m } ∷ [])

-- what a newer entry leaves of an older one
abbrev pub left_over : (Loan → Bool) → Entry → Entry → List Entry
left_over stands new old = if_any old (left_mask stands new old)

-- the line with an entry more
abbrev pub line_with : (Loan → Bool) → Entry → List Entry → List Entry
line_with stands new line = new ∷ flat_map (left_over stands new) line

-- what is lent is on a loan that was opened before so many acts
abbrev pub IsLentBefore : ℕ → Said → Type 0
IsLentBefore n (Grant q) = ⊤
IsLentBefore n (Lend l q) = l.opened < n
IsLentBefore n Strip = ⊤

-- so it is in the whole line
abbrev pub AreLentBefore : ℕ → List Entry → Type 0
AreLentBefore n [] = ⊤
AreLentBefore n (e ∷ es) = IsLentBefore n e.said × AreLentBefore n es
