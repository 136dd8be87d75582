-- Who has a bit, node by node.
use Rattle.std.proofs.Common.{◌≡◌, ℕ, zero, suc, ◌-◌, ◌<◌, ◌^◌, Bool, true, false, not, ◌||◌, ◌&&◌, nat_eq, cond, List, [], ◌∷◌, ◌++◌, refl, sym, ap, ◌∙◌, w64, arith, append_assoc, eqb-true}
use Rattle.std.specs.Int.{bit_at}
use Rattle.std.proofs.lemmas.Bool.Decides.{nat_tests}
use Rattle.std.proofs.lemmas.Nat.Bits.{bit_at-lt, bit_at_not}
use Rattle.std.proofs.lemmas.Bool.{and_parts}
use Rattle.lx_words.proofs.Tests.{and_false, or_joined, or_and, or_swap}
use Rattle.lx_caps.specs.History.{same_principal}
use Rattle.lx_cap_lists.specs.declared.entry.Entry.{Entry}
use Rattle.lx_cap_lists.specs.declared.holder.Holder.{Holder}
use Rattle.lx_cap_lists.specs.declared.holder.Holder.TheVariants.{Keeper, Borrower}
use Rattle.lx_cap_lists.specs.Holders.{same_holder}
use Rattle.lx_cap_nodes.specs.Bits.{is_set}
use Rattle.lx_cap_lists.specs.Entries.{gives_bit, bit_among, with_mask, left_of, cut_node, cut_all}
use Rattle.lx_cap_nodes.proofs.Masks.{set_in_both, none_set}
use Rattle.lx_caps.proofs.Principals.{same_principal_is}

flipped : (a : ℕ) → a < 2 → nat_eq (1 - a) 1 ≡ not (nat_eq a 1)
flipped zero h = refl
flipped (suc zero) h = refl
flipped (suc (suc a)) h = absurd (omega (arith, h))

-- the bits that are left
pub set_left : (mask bits k : ℕ) → bits < 2 ^ 64 → k < 64 → is_set (left_of mask bits) k ≡ (is_set mask k && not (is_set bits k))
set_left mask bits k fits below =
    set_in_both mask (18446744073709551615 - bits) k
    ∙ ap (λ b. is_set mask k && b) (ap (λ n. nat_eq n 1) (bit_at_not w64 bits k fits below) ∙ flipped (bit_at bits k) (bit_at-lt bits k))

and_join : (a b c : Bool) → (a && (b && c)) ≡ ((a && b) && c)
and_join true b c = refl
and_join false b c = refl

pub bit_append : (among : Holder → Bool) (k : ℕ) (xs ys : List (ℕ × Entry)) → bit_among among (xs ++ ys) k ≡ (bit_among among xs k || bit_among among ys k)
bit_append among k [] ys = refl
bit_append among k (x ∷ xs) ys =
    ap (λ b. gives_bit among k x.1 || b) (bit_append among k xs ys) ∙ sym (or_joined (gives_bit among k x.1) (bit_among among xs k) (bit_among among ys k))

-- a node with more bits
wider : (a v m r : Bool) (t : Bool) → t ≡ (v || m) → ((a && t) || r) ≡ ((a && m) || ((a && v) || r))
wider true true true r t e = ap (λ b. b || r) e
wider true true false r t e = ap (λ b. b || r) e
wider true false true r t e = ap (λ b. b || r) e
wider true false false r t e = ap (λ b. b || r) e
wider false v m r t e = refl

pub bit_widened : (among : Holder → Bool) (k : ℕ) (xs ys : List (ℕ × Entry)) (n : ℕ) (v e : Entry) (m : ℕ) → e.holder ≡ v.holder → is_set m k ≡ (is_set v.mask k || is_set e.mask k)
    → bit_among among (xs ++ (n, with_mask v m) ∷ ys) k ≡ (gives_bit among k e || bit_among among (xs ++ (n, v) ∷ ys) k)
bit_widened among k [] ys n v e m same bits =
    wider (among v.holder) (is_set v.mask k) (is_set e.mask k) (bit_among among ys k) (is_set m k) bits
    ∙ ap (λ q. (among q && is_set e.mask k) || ((among v.holder && is_set v.mask k) || bit_among among ys k)) (sym same)
bit_widened among k (x ∷ xs) ys n v e m same bits =
    ap (λ b. gives_bit among k x.1 || b) (bit_widened among k xs ys n v e m same bits) ∙ or_swap (gives_bit among k x.1) (gives_bit among k e) (bit_among among (xs ++ (n, v) ∷ ys) k)

-- nodes without some bits
pub cut_node_is : (bits : ℕ) (e : ℕ × Entry) (ys : List (ℕ × Entry)) → cut_node bits e ys ≡ cut_node bits e [] ++ ys
cut_node_is bits e ys = elim (nat_eq (left_of e.1.mask bits) 0) as (λ t. cond t ys ((e.0, with_mask e.1 (left_of e.1.mask bits)) ∷ ys) ≡ cond t [] ((e.0, with_mask e.1 (left_of e.1.mask bits)) ∷ []) ++ ys) [ true ↦ refl | false ↦ refl ]

pub cut_all_more : (bits : ℕ) (xs : List (ℕ × Entry)) (e : ℕ × Entry) → cut_all bits (xs ++ e ∷ []) ≡ cut_all bits xs ++ cut_node bits e []
cut_all_more bits [] e = refl
cut_all_more bits (x ∷ xs) e =
    ap (cut_node bits x) (cut_all_more bits xs e)
    ∙ cut_node_is bits x (cut_all bits xs ++ cut_node bits e [])
    ∙ sym (append_assoc (cut_node bits x []) (cut_all bits xs) (cut_node bits e []))
    ∙ ap (λ r. r ++ cut_node bits e []) (sym (cut_node_is bits x (cut_all bits xs)))

bit_cut_node : (among : Holder → Bool) (bits k : ℕ) (e : ℕ × Entry) (ys : List (ℕ × Entry)) → bits < 2 ^ 64 → k < 64
    → bit_among among (cut_node bits e ys) k ≡ ((gives_bit among k e.1 && not (is_set bits k)) || bit_among among ys k)
bit_cut_node among bits k e ys fits below =
    (elim (nat_eq (left_of e.1.mask bits) 0) as (λ t. nat_eq (left_of e.1.mask bits) 0 ≡ t
    → bit_among among (cond t ys ((e.0, with_mask e.1 (left_of e.1.mask bits)) ∷ ys)) k ≡ ((gives_bit among k e.1 && not (is_set bits k)) || bit_among among ys k)) [
      | true ↦ λ none.
          let zero_left : left_of e.1.mask bits ≡ 0 = grind (arith, nat_tests, none) in
          let gone : (is_set e.1.mask k && not (is_set bits k)) ≡ false = sym (set_left e.1.mask bits k fits below) ∙ (ap (λ m. is_set m k) zero_left ∙ none_set k) in
          ap (λ b. b || bit_among among ys k) (sym (sym (and_join (among e.1.holder) (is_set e.1.mask k) (not (is_set bits k))) ∙ (ap (λ b. among e.1.holder && b) gone ∙ and_false (among e.1.holder))))
      | false ↦ λ some.
          ap (λ b. b || bit_among among ys k) (ap (λ b. among e.1.holder && b) (set_left e.1.mask bits k fits below) ∙ and_join (among e.1.holder) (is_set e.1.mask k) (not (is_set bits k)))
    ]) refl

pub bit_cut : (among : Holder → Bool) (bits k : ℕ) (es : List (ℕ × Entry)) → bits < 2 ^ 64 → k < 64 → bit_among among (cut_all bits es) k ≡ (bit_among among es k && not (is_set bits k))
bit_cut among bits k [] fits below = refl
bit_cut among bits k (e ∷ es) fits below =
    bit_cut_node among bits k e (cut_all bits es) fits below
    ∙ ap (λ b. (gives_bit among k e.1 && not (is_set bits k)) || b) (bit_cut among bits k es fits below)
    ∙ sym (or_and (gives_bit among k e.1) (bit_among among es k) (not (is_set bits k)))

-- the same holder
pub same_is : (p q : Holder) → same_holder p q ≡ true → p ≡ q
same_is (Keeper p) (Keeper q) e = ap Keeper (same_principal_is p q e)
same_is (Keeper p) (Borrower u d q) e = absurd (cc)
same_is (Borrower t c p) (Keeper q) e = absurd (cc)
same_is (Borrower t c p) (Borrower u d q) e =
    let b = and_parts (nat_eq t u) (nat_eq c d && same_principal p q) e in
    let r = and_parts (nat_eq c d) (same_principal p q) b.1 in
    ap (λ i. Borrower i c p) (eqb-true t u b.0) ∙ (ap (λ i. Borrower u i p) (eqb-true c d r.0) ∙ ap (Borrower u d) (same_principal_is p q r.1))
