-- Who gave an atom, and who owns it.
use Rattle.std.proofs.Common.{◌≡◌, ◌∙◌, refl, ap, ℕ, zero, suc, ◌+◌, ◌-◌, ◌<◌, ◌≤◌, Bool, true, false, not, ◌&&◌, ◌||◌, nat_eq, Option, Some, None, [], ◌∷◌, length, arith, if◌then◌else◌, eqb-true}
use Rattle.std.proofs.lemmas.Bool.{and_parts}
use Rattle.lx_caps.specs.declared.Principal.{Principal}
use Rattle.lx_caps.specs.declared.Cap.{Cap}
use Rattle.lx_caps.specs.declared.Cap.TheVariants as cap
use Rattle.lx_caps.specs.declared.Atom.{Atom}
use Rattle.lx_caps.specs.declared.Atom.TheVariants as atom
use Rattle.lx_caps.specs.declared.Act.TheVariants.{Grant, Strip, Zero, Loan, Lend, Shut, ShutAll}
use Rattle.lx_caps.specs.Loans.{Endings, none_end, before_loan, before_shut, before_shut_all, goes_on, lends}
use Rattle.lx_caps.specs.History.{History, has, kept_among, owned_among, reaches, reached, kept_in_reach, each_byte, each_atom}
use Rattle.lx_certificates.specs.declared.givers.Gifts.TheVariants.{Grants, Both}
use Rattle.lx_certificates.specs.Givers.{found, giver_among, giver, nth_atom, count_of, first_of}
use Rattle.lx_certificates.specs.Certificates.{is_wanted, address_of}
use Rattle.lx_caps.proofs.Covering.{covers_parts}

gave : (b : Bool) (n : ℕ) (rest : Option ℕ) → is_wanted None (found (if b then Some true else None) n rest) ≡ (b || is_wanted None rest)
gave true n rest = refl
gave false n rest = refl

took : (b : Bool) (n : ℕ) (rest : Option ℕ) → is_wanted None (found (if b then Some false else None) n rest) ≡ (not b && is_wanted None rest)
took true n rest = refl
took false n rest = refl

turned : (t l g : Bool) → (t && (l && g)) ≡ (g && (l && t))
turned true true true = refl
turned true true false = refl
turned true false true = refl
turned true false false = refl
turned false true true = refl
turned false true false = refl
turned false false true = refl
turned false false false = refl

owned_by : (among : Principal → Bool) (ends : Endings) (h : History) (x : Atom) → is_wanted None (giver_among Both among ends h x) ≡ owned_among among ends h x
owned_by among ends [] x = refl
owned_by among ends (Grant q c ∷ h) x =
    gave (among q && has c x) (length h) (giver_among Both among ends h x) ∙ ap (λ (b : Bool). (among q && has c x) || b) (owned_by among ends h x)
owned_by among ends (Strip c ∷ h) x =
    took (has c x) (length h) (giver_among Both among ends h x) ∙ ap (λ (b : Bool). not (has c x) && b) (owned_by among ends h x)
owned_by among ends (Zero at size ∷ h) x = owned_by among ends h x
owned_by among ends (Loan t ∷ h) x = owned_by among (before_loan t ends) h x
owned_by among ends (Lend t q c ∷ h) x =
    gave ((among q && has c x) && (lends h t && goes_on (ends t))) (length h) (giver_among Both among ends h x)
    ∙ ap (λ (b : Bool). b || is_wanted None (giver_among Both among ends h x)) (turned (among q && has c x) (lends h t) (goes_on (ends t)))
    ∙ ap (λ (b : Bool). (goes_on (ends t) && (lends h t && (among q && has c x))) || b) (owned_by among ends h x)
owned_by among ends (Shut t n ∷ h) x = owned_by among (before_shut t n ends) h x
owned_by among ends (ShutAll t ∷ h) x = owned_by among (before_shut_all t ends) h x

kept_by : (among : Principal → Bool) (ends : Endings) (h : History) (x : Atom) → is_wanted None (giver_among Grants among ends h x) ≡ kept_among among h x
kept_by among ends [] x = refl
kept_by among ends (Grant q c ∷ h) x =
    gave (among q && has c x) (length h) (giver_among Grants among ends h x) ∙ ap (λ (b : Bool). (among q && has c x) || b) (kept_by among ends h x)
kept_by among ends (Strip c ∷ h) x =
    took (has c x) (length h) (giver_among Grants among ends h x) ∙ ap (λ (b : Bool). not (has c x) && b) (kept_by among ends h x)
kept_by among ends (Zero at size ∷ h) x = kept_by among ends h x
kept_by among ends (Loan t ∷ h) x = kept_by among (before_loan t ends) h x
kept_by among ends (Lend t q c ∷ h) x = kept_by among ends h x
kept_by among ends (Shut t n ∷ h) x = kept_by among (before_shut t n ends) h x
kept_by among ends (ShutAll t ∷ h) x = kept_by among (before_shut_all t ends) h x

pub owned : (h : History) (who : Principal) (x : Atom) → is_wanted None (giver Both h who x) ≡ reached h who x
owned h who x = owned_by (reaches who) none_end h x

pub kept : (h : History) (who : Principal) (x : Atom) → is_wanted None (giver Grants h who x) ≡ kept_in_reach h who x
kept h who x = kept_by (reaches who) none_end h x

-- the same as tests of atoms
pub owning : (h : History) (who : Principal) → (λ x. is_wanted None (giver Both h who x)) ≡ reached h who
owning h who = λ j x. owned h who x j

pub keeping : (h : History) (who : Principal) → (λ x. is_wanted None (giver Grants h who x)) ≡ kept_in_reach h who
keeping h who = λ j x. kept h who x j

-- a test of the atoms by their places

both : Bool → Bool → Bool
both b rest = elim b [ false ↦ false | true ↦ rest ]

shifted : (q : ℕ → Bool) (at b k n : ℕ) → b ≡ at + k → each_byte q b n ≡ each_byte (λ i. q (at + i)) k n
unfolding both
shifted q at b k zero is = refl
shifted q at b k (suc n) is =
    ap (λ (t : Bool). both t (each_byte q (suc b) n)) (ap q is)
    ∙ ap (both (q (at + k))) (shifted q at (suc b) (suc k) n (omega (arith, is)))

alone : (b : Bool) → b ≡ elim b [ false ↦ false | true ↦ true ]
alone true = refl
alone false = refl

pub by_places : (p : Atom → Bool) (c : Cap) → each_atom p c ≡ each_byte (λ i. p (nth_atom c i)) 0 (count_of c)
by_places p (cap.Write at size) = shifted (λ b. p (atom.Byte b)) at at 0 size (omega arith)
by_places p (cap.Call a) = alone (p (atom.Call a))
by_places p (cap.Ref t a) = alone (p (atom.Ref t a))

-- an atom of the capability by its place

byte_at : (at b : ℕ) → at ≤ b → at + (b - at) ≡ b
byte_at at b le = omega (arith, le)

pub at_place : (c : Cap) (x : Atom) → has c x ≡ true → nth_atom c (address_of x - first_of c) ≡ x
at_place (cap.Write at size) (atom.Byte b) is = ap atom.Byte (byte_at at b (covers_parts at size b is).0)
at_place (cap.Call a) (atom.Call b) is = ap atom.Call (eqb-true a b is)
at_place (cap.Ref t a) (atom.Ref u b) is = (let p = and_parts (nat_eq t u) (nat_eq a b) is in ap (λ v. atom.Ref v a) (eqb-true t u p.0) ∙ ap (λ v. atom.Ref u v) (eqb-true a b p.1))
at_place (cap.Write at size) (atom.Call b) is = absurd cc
at_place (cap.Write at size) (atom.Ref u b) is = absurd cc
at_place (cap.Call a) (atom.Byte b) is = absurd cc
at_place (cap.Call a) (atom.Ref u b) is = absurd cc
at_place (cap.Ref t a) (atom.Byte b) is = absurd cc
at_place (cap.Ref t a) (atom.Call b) is = absurd cc

pub in_place : (c : Cap) (x : Atom) → has c x ≡ true → (first_of c ≤ address_of x) × (address_of x - first_of c < count_of c)
in_place (cap.Write at size) (atom.Byte b) is = (let p = covers_parts at size b is in (p.0, omega (arith, p.0, p.1)))
in_place (cap.Call a) (atom.Call b) is = (let e = eqb-true a b is in (omega (arith, e), omega (arith, e)))
in_place (cap.Ref t a) (atom.Ref u b) is = (let p = and_parts (nat_eq t u) (nat_eq a b) is in let e = eqb-true a b p.1 in (omega (arith, e), omega (arith, e)))
in_place (cap.Write at size) (atom.Call b) is = absurd cc
in_place (cap.Write at size) (atom.Ref u b) is = absurd cc
in_place (cap.Call a) (atom.Byte b) is = absurd cc
in_place (cap.Call a) (atom.Ref u b) is = absurd cc
in_place (cap.Ref t a) (atom.Byte b) is = absurd cc
in_place (cap.Ref t a) (atom.Call b) is = absurd cc
