-- Who is recorded by a list, node by node.
use Rattle.std.proofs.Common.{◌≡◌, ◌∙◌, refl, sym, ap, ℕ, Bool, true, false, ◌&&◌, ◌||◌, nat_eq, cond, List, [], ◌∷◌, ◌++◌, arith}
use Rattle.std.proofs.lemmas.Bool.Decides.{nat_tests}
use Rattle.std.proofs.lemmas.List.Folds.{list_any-append}
use Rattle.lx_words.proofs.Tests.{and_false, or_false, or_swap}
use Rattle.lx_caps.specs.declared.Principal.{Principal}
use Rattle.lx_caps.specs.History.{same_principal}
use Rattle.lx_writer_sets.specs.declared.entry.Entry.{Entry}
use Rattle.lx_cap_nodes.specs.Bits.{is_set}
use Rattle.lx_writer_sets.specs.Nodes.{with_mask, put_node}
use Rattle.lx_writer_sets.specs.Sets.{is_given}
use Rattle.lx_caps.proofs.Principals.{same_principal_is}
use Rattle.lx_cap_nodes.proofs.Masks.{none_set}

-- a node with more bits
wider : (s v m r t : Bool) → t ≡ (v || m) → ((s && t) || r) ≡ ((s && m) || ((s && v) || r))
wider true true true r t e = ap (λ (b : Bool). b || r) e
wider true true false r t e = ap (λ (b : Bool). b || r) e
wider true false true r t e = ap (λ (b : Bool). b || r) e
wider true false false r t e = ap (λ (b : Bool). b || r) e
wider false v m r t e = refl

pub given_wider : (k : ℕ) (q : Principal) (xs ys : List (ℕ × Entry)) (n : ℕ) (v e : Entry) (m : ℕ) → e.writer ≡ v.writer → is_set m k ≡ (is_set v.mask k || is_set e.mask k)
    → is_given (xs ++ (n, with_mask v m) ∷ ys) k q ≡ ((same_principal q e.writer && is_set e.mask k) || is_given (xs ++ (n, v) ∷ ys) k q)
given_wider k q [] ys n v e m same bits =
    wider (same_principal q v.writer) (is_set v.mask k) (is_set e.mask k) (is_given ys k q) (is_set m k) bits
    ∙ ap (λ (w : Principal). (same_principal q w && is_set e.mask k) || ((same_principal q v.writer && is_set v.mask k) || is_given ys k q)) (sym same)
given_wider k q (x ∷ xs) ys n v e m same bits =
    ap (λ (b : Bool). (same_principal q x.1.writer && is_set x.1.mask k) || b) (given_wider k q xs ys n v e m same bits)
    ∙ or_swap (same_principal q x.1.writer && is_set x.1.mask k) (same_principal q e.writer && is_set e.mask k) (is_given (xs ++ (n, v) ∷ ys) k q)

-- a node before others
pub put_node_is : (mask : ℕ) (e : ℕ × Entry) (ys : List (ℕ × Entry)) → put_node mask e ys ≡ put_node mask e [] ++ ys
put_node_is mask e ys = elim (nat_eq mask 0) as (λ t. cond t ys ((e.0, with_mask e.1 mask) ∷ ys) ≡ cond t [] ((e.0, with_mask e.1 mask) ∷ []) ++ ys) [ true ↦ refl | false ↦ refl ]

owner_at : (q w : Principal) (s : Bool) (o : Principal → Bool) (n m : Bool) → same_principal q w ≡ s → (s && (m && (n || o w))) ≡ ((s && m) && (n || o q))
owner_at q w false o n m same = refl
owner_at q w true o n m same = let e = same_principal_is q w same in ap (λ (r : Principal). m && (n || o r)) (sym e)

put_given : (k : ℕ) (q : Principal) (mask : ℕ) (e : ℕ × Entry) → is_given (put_node mask e []) k q ≡ (same_principal q e.1.writer && is_set mask k)
put_given k q mask e =
    (elim (nat_eq mask 0) as (λ t. nat_eq mask 0 ≡ t → is_given (cond t [] ((e.0, with_mask e.1 mask) ∷ [])) k q ≡ (same_principal q e.1.writer && is_set mask k)) [
      | true ↦ λ f. let none : mask ≡ 0 = grind (arith, nat_tests, f) in sym (ap (λ (b : Bool). same_principal q e.1.writer && b) (ap (λ m. is_set m k) none ∙ none_set k) ∙ and_false (same_principal q e.1.writer))
      | false ↦ λ f. or_false (same_principal q e.1.writer && is_set mask k)
    ]) refl

or_and : (a b c : Bool) → ((a && c) || (b && c)) ≡ ((a || b) && c)
or_and true true true = refl
or_and true true false = refl
or_and true false true = refl
or_and true false false = refl
or_and false b c = refl

-- one node more was asked
pub kept_more : (was now : List (ℕ × Entry)) (e : ℕ × Entry) (mask k : ℕ) (q : Principal) (n : Bool) (o : Principal → Bool)
    → is_set mask k ≡ (is_set e.1.mask k && (n || o e.1.writer)) → is_given now k q ≡ (is_given was k q && (n || o q))
    → is_given (now ++ put_node mask e []) k q ≡ (is_given (was ++ e ∷ []) k q && (n || o q))
kept_more was now e mask k q n o bits given =
    let p : ℕ × Entry → Bool = λ x. same_principal q x.1.writer && is_set x.1.mask k in
    list_any-append p now (put_node mask e [])
    ∙ (ap (λ (b : Bool). b || is_given (put_node mask e []) k q) given
    ∙ (ap (λ (b : Bool). (is_given was k q && (n || o q)) || b)
    (put_given k q mask e ∙ (ap (λ (b : Bool). same_principal q e.1.writer && b) bits ∙ owner_at q e.1.writer (same_principal q e.1.writer) o n (is_set e.1.mask k) refl))
    ∙ (or_and (is_given was k q) (p e) (n || o q)
    ∙ ap (λ (b : Bool). b && (n || o q)) (sym (list_any-append p was (e ∷ []) ∙ ap (λ (b : Bool). is_given was k q || b) (or_false (p e)))))))

pub by_writer : (s t r : Bool) → s ≡ true → t ≡ true → ((s && t) || r) ≡ true
by_writer true true r e f = refl
by_writer true false r e f = absurd (cc)
by_writer false t r e f = absurd (cc)

pub or_rest : (a b : Bool) → a ≡ false → b ≡ (a || b)
or_rest false b e = refl
or_rest true b e = absurd (cc)

-- nobody found in an empty rest
pub so_far_all : (s fo t : Bool) → (s || (fo && false)) ≡ t → s ≡ t
so_far_all true fo t is = is
so_far_all false true t is = is
so_far_all false false t is = is
