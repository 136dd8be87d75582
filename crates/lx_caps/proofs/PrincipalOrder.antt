-- Principals are ordered by two numbers, and the first of two firsts is the first of all.
use Rattle.std.proofs.Common.{◌≡◌, refl, sym, ap, subst, ℕ, Bool, true, false, ◌&&◌, ◌||◌, nat_eq, nat_lt, Option, Some, None, arith}
use Rattle.std.proofs.lemmas.Bool.{both_ways, false_from_ne_true, or_from, or_left, or_right}
use Rattle.std.proofs.lemmas.Bool.Decides.{nat_tests}
use Rattle.lx_caps.specs.declared.Principal.{Principal}
use Rattle.lx_caps.specs.declared.Principal.TheVariants.{Kernel, Shared, Global, Inst}
use Rattle.lx_caps.specs.History.{same_principal}
use Rattle.lx_caps.specs.Precedence.{module_rank, rank_in_module, precedes, is_found, IsFirstPrincipal}
use Rattle.lx_caps.proofs.Histories.{same_is, same_itself}

-- two numbers come before two others
abbrev Less : ℕ → ℕ → ℕ → ℕ → Bool
Less a b c d = nat_lt a c || (nat_eq a c && nat_lt b d)

less-itself : (a b : ℕ) → Less a b a b ≡ false
less-itself a b = grind (arith, nat_tests)

less-trans : (a b c d e f : ℕ) → Less a b c d ≡ true → Less c d e f ≡ true → Less a b e f ≡ true
less-trans a b c d e f one two = grind (arith, nat_tests)

-- of two pairs one comes first, unless they are equal
less-one_way : (a b c d : ℕ) → Less a b c d ≡ false → Less c d a b ≡ false → (a ≡ c) × (b ≡ d)
less-one_way a b c d one two = grind (arith, nat_tests)

pub not_before_itself : (p : Principal) → precedes p p ≡ false
not_before_itself p = less-itself (module_rank p) (rank_in_module p)

pub precedes-trans : (p q r : Principal) → precedes p q ≡ true → precedes q r ≡ true → precedes p r ≡ true
precedes-trans p q r = less-trans (module_rank p) (rank_in_module p) (module_rank q) (rank_in_module q) (module_rank r) (rank_in_module r)

one_place : (p q : Principal) → module_rank p ≡ module_rank q → rank_in_module p ≡ rank_in_module q → p ≡ q
one_place Kernel Kernel e f = refl
one_place Kernel (Shared n) e f = absurd (omega arith)
one_place Kernel (Global n) e f = absurd (omega arith)
one_place Kernel (Inst n l) e f = absurd (omega arith)
one_place (Shared m) Kernel e f = absurd (omega arith)
one_place (Shared m) (Shared n) e f = let i : m ≡ n = omega arith in ap Shared i
one_place (Shared m) (Global n) e f = absurd (omega arith)
one_place (Shared m) (Inst n l) e f = absurd (omega arith)
one_place (Global m) Kernel e f = absurd (omega arith)
one_place (Global m) (Shared n) e f = absurd (omega arith)
one_place (Global m) (Global n) e f = let i : m ≡ n = omega arith in ap Global i
one_place (Global m) (Inst n l) e f = absurd (omega arith)
one_place (Inst m k) Kernel e f = absurd (omega arith)
one_place (Inst m k) (Shared n) e f = absurd (omega arith)
one_place (Inst m k) (Global n) e f = absurd (omega arith)
one_place (Inst m k) (Inst n l) e f =
    let i : m ≡ n = omega arith in
    let j : k ≡ l = omega arith in
    cc

-- two principals of which neither comes first are the same
pub one_way : (p q : Principal) → precedes p q ≡ false → precedes q p ≡ false → p ≡ q
one_way p q one two =
    let e = less-one_way (module_rank p) (rank_in_module p) (module_rank q) (rank_in_module q) one two in
    one_place p q e.0 e.1

-- what comes before another is not that one
other_than : (q w : Principal) → precedes q w ≡ true → same_principal q w ≡ false
other_than q w is =
    false_from_ne_true (same_principal q w)
    (λ same. let e = same_is q w same in both_ways (precedes q w) (subst (λ (r : Principal). precedes r w ≡ false) (sym e) (not_before_itself w)) is)

-- where none passed, the one found is the first
pub found_alone : (p : Principal → Bool) (found : Option Principal) → ((q : Principal) → p q ≡ false) → IsFirstPrincipal (λ q. p q || is_found found q) found
found_alone p None none = λ q. or_from (p q) false (none q) refl
found_alone p (Some w) none = (
  or_right (p w) (same_principal w w) (same_itself w),
  λ q is. or_from (p q) (same_principal q w) (none q) (other_than q w is),
)

pub none_found : (p : Principal → Bool) (w : Principal) → IsFirstPrincipal p (Some w) → IsFirstPrincipal (λ q. p q || is_found None q) (Some w)
none_found p w first = (
  or_left (p w) false first.0,
  λ q is. or_from (p q) false (first.1 q is) refl,
)

pub found_first : (p : Principal → Bool) (one other : Principal) → precedes other one ≡ true → IsFirstPrincipal p (Some one) → IsFirstPrincipal (λ q. p q || is_found (Some other) q) (Some other)
found_first p one other before first = (
  or_right (p other) (same_principal other other) (same_itself other),
  λ q is. or_from (p q) (same_principal q other) (first.1 q (precedes-trans q other one is before)) (other_than q other is),
)

pub found_later : (p : Principal → Bool) (one other : Principal) → precedes other one ≡ false → IsFirstPrincipal p (Some one) → IsFirstPrincipal (λ q. p q || is_found (Some other) q) (Some one)
found_later p one other out first = (
  or_left (p one) (same_principal one other) first.0,
  λ q is. or_from (p q) (same_principal q other) (first.1 q is)
      (false_from_ne_true (same_principal q other)
      (λ same. let e = same_is q other same in both_ways (precedes other one) out (subst (λ (r : Principal). precedes r one ≡ true) e is))),
)

-- one test for another that answers the same
pub same_first : (p q : Principal → Bool) → ((w : Principal) → p w ≡ q w) → (a : Option Principal) → IsFirstPrincipal p a → IsFirstPrincipal q a
same_first p q same a first =
    let e : p ≡ q = λ j w. same w j in
    subst (λ (r : Principal → Bool). IsFirstPrincipal r a) e first

-- there is one first
pub one_first_principal : (p : Principal → Bool) (a b : Option Principal) → IsFirstPrincipal p a → IsFirstPrincipal p b → a ≡ b
one_first_principal p None None first second = refl
one_first_principal p None (Some y) first second = absurd (both_ways (p y) (first y) second.0)
one_first_principal p (Some x) None first second = absurd (both_ways (p x) (second x) first.0)
one_first_principal p (Some x) (Some y) first second =
    ap Some (one_way x y
    (false_from_ne_true (precedes x y) (λ less. both_ways (p x) (second.1 x less) first.0))
    (false_from_ne_true (precedes y x) (λ less. both_ways (p y) (first.1 y less) second.0)))
