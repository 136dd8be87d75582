-- What the cuts of a history, the ends of the ranges that it mentions, say of its owners.
use Rattle.std.proofs.Common.{◌≡◌, ◌≢◌, ℕ, suc, ◌+◌, ◌≤◌, Bool, true, false, not, ◌&&◌, ◌||◌, [], ◌∷◌, nat_eq, refl, ap, ◌∙◌, arith}
use Rattle.std.specs.Prelude.{if◌then◌else◌}
use Rattle.std.proofs.lemmas.Bool.Decides.{nat_tests}
use Rattle.lx_caps.specs.declared.Principal.{Principal}
use Rattle.lx_caps.specs.declared.Cap.{Cap}
use Rattle.lx_caps.specs.declared.Cap.TheVariants as cap
use Rattle.lx_caps.specs.declared.Atom.TheVariants.{Byte, Call, Ref}
use Rattle.lx_caps.specs.declared.Act.TheVariants.{Grant, Strip, Zero, Loan, Lend, Shut, ShutAll}
use Rattle.lx_caps.specs.Regions.{covers}
use Rattle.lx_caps.specs.Loans.{Endings, none_end, before_loan, before_shut, before_shut_all, goes_on, lends}
use Rattle.lx_caps.specs.History.{History, has, owned_among}
use Rattle.lx_model.specs.Owned.{ends_of, call_address, ref_address, mentioned}
use Rattle.lx_world.proofs.Cuts.{NotIn, not_in_append}
use Rattle.lx_caps.proofs.Covering.{covers_above}

both : (a b c d : Bool) → a ≡ b → c ≡ d → (x : Bool) → ((x && a) || c) ≡ ((x && b) || d)
both a b c d e f x = λ i. (x && e i) || f i

neither : (x a c : Bool) → a ≡ false → c ≡ false → ((x && a) || c) ≡ false
neither true a c e f = ap (λ y. y || c) e ∙ f
neither false a c e f = f

either_kept : (a b c d : Bool) → a ≡ b → c ≡ d → (not a && c) ≡ (not b && d)
either_kept a b c d e f = λ i. not (e i) && f i

none_kept : (a c : Bool) → c ≡ false → (not a && c) ≡ false
none_kept true c e = refl
none_kept false c e = e

-- so it is with a lend
lent_both : (a b c d : Bool) → a ≡ b → c ≡ d → (g l x : Bool) → ((g && (l && (x && a))) || c) ≡ ((g && (l && (x && b))) || d)
lent_both a b c d e f g l x = λ i. (g && (l && (x && e i))) || f i

lent_neither : (g l x a c : Bool) → a ≡ false → c ≡ false → ((g && (l && (x && a))) || c) ≡ false
lent_neither true true x a c e f = neither x a c e f
lent_neither true false x a c e f = f
lent_neither false l x a c e f = f

-- between two cuts a range has both bytes or none

covers_steady : (at size b : ℕ) → suc b ≢ at → suc b ≢ at + size → covers at size (suc b) ≡ covers at size b
covers_steady at size b n m = grind (arith, nat_tests, n, m)

has_steady : (c : Cap) (b : ℕ) → NotIn (suc b) (ends_of c) → has c (Byte (suc b)) ≡ has c (Byte b)
has_steady (cap.Write at size) b n = covers_steady at size b n.0 n.1.0
has_steady (cap.Call a) b n = refl
has_steady (cap.Ref t a) b n = refl

steady_by : (among : Principal → Bool) (ends : Endings) (h : History) (b : ℕ) → NotIn (suc b) (mentioned ends_of h) → owned_among among ends h (Byte (suc b)) ≡ owned_among among ends h (Byte b)
steady_by among ends [] b n = refl
steady_by among ends (Grant q c ∷ h) b n =
    let k = not_in_append (suc b) (ends_of c) (mentioned ends_of h) n in both _ _ _ _ (has_steady c b k.0) (steady_by among ends h b k.1) (among q)
steady_by among ends (Strip c ∷ h) b n =
    let k = not_in_append (suc b) (ends_of c) (mentioned ends_of h) n in either_kept _ _ _ _ (has_steady c b k.0) (steady_by among ends h b k.1)
steady_by among ends (Zero at size ∷ h) b n = steady_by among ends h b n
steady_by among ends (Loan t ∷ h) b n = steady_by among (before_loan t ends) h b n
steady_by among ends (Lend t q c ∷ h) b n =
    let k = not_in_append (suc b) (ends_of c) (mentioned ends_of h) n in
    lent_both _ _ _ _ (has_steady c b k.0) (steady_by among ends h b k.1) (goes_on (ends t)) (lends h t) (among q)
steady_by among ends (Shut t m ∷ h) b n = steady_by among (before_shut t m ends) h b n
steady_by among ends (ShutAll t ∷ h) b n = steady_by among (before_shut_all t ends) h b n

pub steady : (among : Principal → Bool) (h : History) (b : ℕ) → NotIn (suc b) (mentioned ends_of h) → owned_among among none_end h (Byte (suc b)) ≡ owned_among among none_end h (Byte b)
steady among h b n = steady_by among none_end h b n

-- byte 0 is owned only where it begins a range

covers_first : (at size : ℕ) → 0 ≢ at → covers at size 0 ≡ false
covers_first at size n = grind (arith, nat_tests, n)

has_first : (c : Cap) → NotIn 0 (ends_of c) → has c (Byte 0) ≡ false
has_first (cap.Write at size) n = covers_first at size n.0
has_first (cap.Call a) n = refl
has_first (cap.Ref t a) n = refl

first_free_by : (among : Principal → Bool) (ends : Endings) (h : History) → NotIn 0 (mentioned ends_of h) → owned_among among ends h (Byte 0) ≡ false
first_free_by among ends [] n = refl
first_free_by among ends (Grant q c ∷ h) n =
    let k = not_in_append 0 (ends_of c) (mentioned ends_of h) n in neither (among q) _ _ (has_first c k.0) (first_free_by among ends h k.1)
first_free_by among ends (Strip c ∷ h) n =
    let k = not_in_append 0 (ends_of c) (mentioned ends_of h) n in none_kept (has c (Byte 0)) _ (first_free_by among ends h k.1)
first_free_by among ends (Zero at size ∷ h) n = first_free_by among ends h n
first_free_by among ends (Loan t ∷ h) n = first_free_by among (before_loan t ends) h n
first_free_by among ends (Lend t q c ∷ h) n =
    let k = not_in_append 0 (ends_of c) (mentioned ends_of h) n in
    lent_neither (goes_on (ends t)) (lends h t) (among q) _ _ (has_first c k.0) (first_free_by among ends h k.1)
first_free_by among ends (Shut t m ∷ h) n = first_free_by among (before_shut t m ends) h n
first_free_by among ends (ShutAll t ∷ h) n = first_free_by among (before_shut_all t ends) h n

pub first_free : (among : Principal → Bool) (h : History) → NotIn 0 (mentioned ends_of h) → owned_among among none_end h (Byte 0) ≡ false
first_free among h n = first_free_by among none_end h n

-- a byte behind all ranges is nobody's

abbrev last_of : Cap → ℕ
last_of (cap.Write at size) = at + size
last_of (cap.Call a) = 0
last_of (cap.Ref t a) = 0

abbrev pub last : History → ℕ
last [] = 0
last (Grant q c ∷ h) = last_of c + last h
last (Strip c ∷ h) = last h
last (Zero at size ∷ h) = last h
last (Loan t ∷ h) = last h
last (Lend t q c ∷ h) = last_of c + last h
last (Shut t m ∷ h) = last h
last (ShutAll t ∷ h) = last h

has_last : (c : Cap) (b : ℕ) → last_of c ≤ b → has c (Byte b) ≡ false
has_last (cap.Write at size) b le = covers_above at size b le
has_last (cap.Call a) b le = refl
has_last (cap.Ref t a) b le = refl

last_free_by : (among : Principal → Bool) (ends : Endings) (h : History) (b : ℕ) → last h ≤ b → owned_among among ends h (Byte b) ≡ false
last_free_by among ends [] b le = refl
last_free_by among ends (Grant q c ∷ h) b le = neither (among q) _ _ (has_last c b (omega (arith, le))) (last_free_by among ends h b (omega (arith, le)))
last_free_by among ends (Strip c ∷ h) b le = none_kept (has c (Byte b)) _ (last_free_by among ends h b le)
last_free_by among ends (Zero at size ∷ h) b le = last_free_by among ends h b le
last_free_by among ends (Loan t ∷ h) b le = last_free_by among (before_loan t ends) h b le
last_free_by among ends (Lend t q c ∷ h) b le =
    lent_neither (goes_on (ends t)) (lends h t) (among q) _ _ (has_last c b (omega (arith, le))) (last_free_by among ends h b (omega (arith, le)))
last_free_by among ends (Shut t m ∷ h) b le = last_free_by among (before_shut t m ends) h b le
last_free_by among ends (ShutAll t ∷ h) b le = last_free_by among (before_shut_all t ends) h b le

pub last_free : (among : Principal → Bool) (h : History) (b : ℕ) → last h ≤ b → owned_among among none_end h (Byte b) ≡ false
last_free among h b le = last_free_by among none_end h b le

-- calls and references that are not mentioned are nobody's

not_same : (b a : ℕ) → a ≢ b → nat_eq b a ≡ false
not_same b a n = grind (arith, nat_tests, n)

has_call : (c : Cap) (a : ℕ) → NotIn a (call_address c) → has c (Call a) ≡ false
has_call (cap.Write at size) a n = refl
has_call (cap.Call b) a n = not_same b a n.0
has_call (cap.Ref t b) a n = refl

call_free_by : (among : Principal → Bool) (ends : Endings) (h : History) (a : ℕ) → NotIn a (mentioned call_address h) → owned_among among ends h (Call a) ≡ false
call_free_by among ends [] a n = refl
call_free_by among ends (Grant q c ∷ h) a n =
    let k = not_in_append a (call_address c) (mentioned call_address h) n in neither (among q) _ _ (has_call c a k.0) (call_free_by among ends h a k.1)
call_free_by among ends (Strip c ∷ h) a n =
    let k = not_in_append a (call_address c) (mentioned call_address h) n in none_kept (has c (Call a)) _ (call_free_by among ends h a k.1)
call_free_by among ends (Zero at size ∷ h) a n = call_free_by among ends h a n
call_free_by among ends (Loan t ∷ h) a n = call_free_by among (before_loan t ends) h a n
call_free_by among ends (Lend t q c ∷ h) a n =
    let k = not_in_append a (call_address c) (mentioned call_address h) n in
    lent_neither (goes_on (ends t)) (lends h t) (among q) _ _ (has_call c a k.0) (call_free_by among ends h a k.1)
call_free_by among ends (Shut t m ∷ h) a n = call_free_by among (before_shut t m ends) h a n
call_free_by among ends (ShutAll t ∷ h) a n = call_free_by among (before_shut_all t ends) h a n

pub call_free : (among : Principal → Bool) (h : History) (a : ℕ) → NotIn a (mentioned call_address h) → owned_among among none_end h (Call a) ≡ false
call_free among h a n = call_free_by among none_end h a n

has_ref_if : (b : Bool) (x a : ℕ) → NotIn a (if b then x ∷ [] else []) → (b && nat_eq x a) ≡ false
has_ref_if true x a n = not_same x a n.0
has_ref_if false x a n = refl

has_ref : (ty : ℕ) (c : Cap) (a : ℕ) → NotIn a (ref_address ty c) → has c (Ref ty a) ≡ false
has_ref ty (cap.Write at size) a n = refl
has_ref ty (cap.Call b) a n = refl
has_ref ty (cap.Ref t b) a n = has_ref_if (nat_eq t ty) b a n

ref_free_by : (among : Principal → Bool) (ends : Endings) (ty : ℕ) (h : History) (a : ℕ) → NotIn a (mentioned (ref_address ty) h) → owned_among among ends h (Ref ty a) ≡ false
ref_free_by among ends ty [] a n = refl
ref_free_by among ends ty (Grant q c ∷ h) a n =
    let k = not_in_append a (ref_address ty c) (mentioned (ref_address ty) h) n in neither (among q) _ _ (has_ref ty c a k.0) (ref_free_by among ends ty h a k.1)
ref_free_by among ends ty (Strip c ∷ h) a n =
    let k = not_in_append a (ref_address ty c) (mentioned (ref_address ty) h) n in none_kept (has c (Ref ty a)) _ (ref_free_by among ends ty h a k.1)
ref_free_by among ends ty (Zero at size ∷ h) a n = ref_free_by among ends ty h a n
ref_free_by among ends ty (Loan t ∷ h) a n = ref_free_by among (before_loan t ends) ty h a n
ref_free_by among ends ty (Lend t q c ∷ h) a n =
    let k = not_in_append a (ref_address ty c) (mentioned (ref_address ty) h) n in
    lent_neither (goes_on (ends t)) (lends h t) (among q) _ _ (has_ref ty c a k.0) (ref_free_by among ends ty h a k.1)
ref_free_by among ends ty (Shut t m ∷ h) a n = ref_free_by among (before_shut t m ends) ty h a n
ref_free_by among ends ty (ShutAll t ∷ h) a n = ref_free_by among (before_shut_all t ends) ty h a n

pub ref_free : (among : Principal → Bool) (ty : ℕ) (h : History) (a : ℕ) → NotIn a (mentioned (ref_address ty) h) → owned_among among none_end h (Ref ty a) ≡ false
ref_free among ty h a n = ref_free_by among none_end ty h a n
