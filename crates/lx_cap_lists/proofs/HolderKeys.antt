-- The keys of holders at places are as different as places and holders are.
use Rattle.std.proofs.Common.{◌≡◌, ℕ, ◌+◌, true, ◌&&◌, ◌||◌, nat_eq, nat_lt, false, sym, ap, subst, arith}
use Rattle.std.proofs.lemmas.Bool.{and_from, and_parts}
use Rattle.std.proofs.lemmas.Bool.Decides.{nat_tests}
use Rattle.lx_words.proofs.Tests.{eq_self, same_tests}
use Rattle.lx_caps.specs.declared.Principal.{Principal}
use Rattle.lx_caps.specs.Precedence.{module_rank, rank_in_module}
use Rattle.lx_caps.proofs.PrincipalOrder.{one_way}
use Rattle.lx_caps.proofs.Principals.{same_principal_itself}
use Rattle.lx_caps.specs.History.{same_principal}
use Rattle.lx_cap_lists.specs.declared.holder.Holder.{Holder}
use Rattle.lx_cap_lists.specs.declared.holder.Holder.TheVariants.{Keeper, Borrower}
use Rattle.lx_cap_lists.specs.Holders.{principal_of, same_holder}
use Rattle.lx_cap_lists.specs.Index.{HolderKey, ground_of, key_at, same_holder_key}
use Rattle.lx_cap_lists.specs.Tables.{Key, owner_key, same_key}
use Rattle.lx_cap_lists.proofs.BitLemmas.{same_is}
use Rattle.lx_cap_lists.proofs.KeyPlaces.{same_parts}

pub holder_key_is : (x y : HolderKey) → same_holder_key x y ≡ true → x ≡ y
holder_key_is x y e =
    let p = and_parts (nat_eq x.0 y.0) (same_key x.1.0 y.1.0 && same_key x.1.1 y.1.1) e in
    let r = and_parts (same_key x.1.0 y.1.0) (same_key x.1.1 y.1.1) p.1 in
    let h = p.0 in
    let a : x.0 ≡ y.0 = grind (arith, nat_tests, h) in
    let b = same_parts x.1.0 y.1.0 r.0 in
    let d = same_parts x.1.1 y.1.1 r.1 in
    λ j. (a j, (b j, d j))

-- neither of two equal pairs comes first
none_first : (a b c d : ℕ) → a + 16 ≡ c + 16 → b ≡ d → (nat_lt a c || (nat_eq a c && nat_lt b d)) ≡ false
none_first a b c d e f = grind (arith, nat_tests, e, f)

principal_by : (p q : Principal) → owner_key p ≡ owner_key q → p ≡ q
principal_by p q e =
    let a : module_rank p + 16 ≡ module_rank q + 16 = ap (λ (k : Key). k.0) e in
    let b : rank_in_module p ≡ rank_in_module q = ap (λ (k : Key). k.1) e in
    one_way p q (none_first (module_rank p) (rank_in_module p) (module_rank q) (rank_in_module q) a b) (none_first (module_rank q) (rank_in_module q) (module_rank p) (rank_in_module p) (sym a) (sym b))

holder_by : (p q : Holder) → ground_of p ≡ ground_of q → principal_of p ≡ principal_of q → p ≡ q
holder_by (Keeper p) (Keeper q) g e = ap Keeper e
holder_by (Keeper p) (Borrower u d q) g e = absurd (let a : 0 ≡ u + 1 = ap (λ (k : Key). k.0) g in omega (arith, a))
holder_by (Borrower t c p) (Keeper q) g e = absurd (let a : t + 1 ≡ 0 = ap (λ (k : Key). k.0) g in omega (arith, a))
holder_by (Borrower t c p) (Borrower u d q) g e =
    let a : t + 1 ≡ u + 1 = ap (λ (k : Key). k.0) g in
    let b : c ≡ d = ap (λ (k : Key). k.1) g in
    let same : t ≡ u = omega (arith, a) in
    λ j. Borrower (same j) (b j) (e j)

pub holder_itself : (q : Holder) → same_holder q q ≡ true
holder_itself (Keeper q) = same_principal_itself q
holder_itself (Borrower t d q) = and_from (nat_eq t t) (nat_eq d d && same_principal q q) (eq_self t) (and_from (nat_eq d d) (same_principal q q) (eq_self d) (same_principal_itself q))

pub holder_turned : (p q : Holder) → same_holder p q ≡ same_holder q p
holder_turned p q =
    same_tests (same_holder p q) (same_holder q p)
    (λ e. subst (λ (r : Holder). same_holder r p ≡ true) (same_is p q e) (holder_itself p))
    (λ e. subst (λ (r : Holder). same_holder r q ≡ true) (same_is q p e) (holder_itself q))

key_itself : (x : HolderKey) → same_holder_key x x ≡ true
key_itself x = grind (arith, nat_tests)

-- a place and a holder have a key of their own
pub key_test : (l k : ℕ) (p q : Holder) → same_holder_key (key_at l p) (key_at k q) ≡ (nat_eq l k && same_holder p q)
key_test l k p q =
    same_tests (same_holder_key (key_at l p) (key_at k q)) (nat_eq l k && same_holder p q)
    (λ e.
    let is = holder_key_is (key_at l p) (key_at k q) e in
    let place : l ≡ k = ap (λ (x : HolderKey). x.0) is in
    let who = holder_by p q (ap (λ (x : HolderKey). x.1.0) is) (principal_by (principal_of p) (principal_of q) (ap (λ (x : HolderKey). x.1.1) is)) in
    and_from (nat_eq l k) (same_holder p q) (subst (λ j. nat_eq l j ≡ true) place (eq_self l)) (subst (λ (r : Holder). same_holder p r ≡ true) who (holder_itself p)))
    (λ e.
    let both = and_parts (nat_eq l k) (same_holder p q) e in
    let h = both.0 in
    let place : l ≡ k = grind (arith, nat_tests, h) in
    let who = same_is p q both.1 in
    subst (λ (x : HolderKey). same_holder_key (key_at l p) x ≡ true) (λ j. key_at (place j) (who j)) (key_itself (key_at l p)))
