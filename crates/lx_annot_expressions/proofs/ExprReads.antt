-- Expressions: what is in the grammar is read.
use Rattle.std.proofs.Common.{◌≡◌, ℕ, zero, suc, ◌+◌, ◌≤◌, ◌<◌, Bool, true, false, Option, Some, None, List, [], ◌∷◌, ◌++◌, length, Ok, refl, sym, ap, ◌∙◌, subst, append_assoc, arith, bytes_eq, codes}
use Rattle.std.specs.Prelude.{if◌then◌else◌, ◌||◌, ◌==◌, nat_lt}
use Rattle.std.proofs.lemmas.Bool.Decides.{nat_tests}
use Rattle.std.proofs.lemmas.List.{length-append}
use Rattle.std.proofs.lemmas.Slice.Eq.{bytes_eq-Decides}
use Rattle.std.proofs.lemmas.Bool.{or_parts}
use Rattle.lx_words.proofs.Tests.{and_false, true_less}
use Rattle.lx_annot.specs.declared.expr.Mark.{Mark}
use Rattle.lx_annot.specs.Expr.{Expr, Load64, Unary, Binary}
use Rattle.lx_annot_expressions.specs.Tokens.{Tok}
use Rattle.lx_annot_expressions.specs.Reading.{Read, has, behind}
use Rattle.lx_annot_expressions.specs.Operators.{levels, operator_of, if_of_level, operator_next, prefix_next}
use Rattle.lx_annot_expressions.specs.Exprs.{Scope, flat_of, flat_at, may_open, begins_load, bracketed_at, primary_at, level_at, operand_at, expr_at}
use Rattle.lx_annot_expressions.specs.Grammar.{◌then◌, IsOperator, Form, Flat, Bracket, Load, Prefix, Joined, IsForm, IsExpr}
use Rattle.lx_annot_expressions.specs.Laws.{closes_expr}
use Rattle.lx_annot_expressions.proofs.Chains.{Chaining, chain_goes_on, chain_ends}

-- What may follow an expression of so many levels of operators.
pub record Ends (n : ℕ) (us : List Tok) : Type 0 where
  pub shut : may_open us ≡ false
  pub none : (l : ℕ) → l < n → operator_next l us ≡ None

fewer : (n : ℕ) (us : List Tok) → Ends (suc n) us → Ends n us
fewer n us e = record { shut = e.shut; none = λ l lt. e.none l (omega (arith, lt)) }

-- Tokens by their bytes.

same_text : (text : List ℕ) (t : Tok) → bytes_eq t.bytes text ≡ true → t.bytes ≡ text
same_text text t h = (bytes_eq-Decides t.bytes text).0 h

closed_by : (text : List ℕ) (n : ℕ) (t : Tok) (us : List Tok) → bytes_eq t.bytes text ≡ true → bytes_eq text (codes "(") ≡ false → operator_of text ≡ None → Ends n (t ∷ us)
closed_by text n t us h o m =
    let same = same_text text t h in
    record {
      shut = ap (λ b. bytes_eq b (codes "(")) same ∙ o;
      none = λ l lt. ap (λ b. if_of_level l (operator_of b)) same ∙ ap (if_of_level l) m;
    }

no_operator : (operator_of (codes ")") ≡ None) × (operator_of (codes ",") ≡ None) × (operator_of (codes ";") ≡ None) × (operator_of (codes "}") ≡ None) × (operator_of (codes "(") ≡ None)
unfolding operator_of
no_operator = (refl, refl, refl, refl, refl)

closes_by : (n : ℕ) (t : Tok) (us : List Tok) (a b c d : Bool) → bytes_eq t.bytes (codes ")") ≡ a → bytes_eq t.bytes (codes ",") ≡ b → bytes_eq t.bytes (codes ";") ≡ c → bytes_eq t.bytes (codes "}") ≡ d → a || b || c || d ≡ true → Ends n (t ∷ us)
closes_by n t us true b c d p q r s h = closed_by (codes ")") n t us p refl no_operator.0
closes_by n t us false true c d p q r s h = closed_by (codes ",") n t us q refl no_operator.1
closes_by n t us false false true d p q r s h = closed_by (codes ";") n t us r refl no_operator.2
closes_by n t us false false false true p q r s h = closed_by (codes "}") n t us s refl no_operator.3
closes_by n t us false false false false p q r s h = cc

-- a mark that closes an expression ends it
pub closes_ends : (n : ℕ) (us : List Tok) → closes_expr us ≡ true → Ends n us
closes_ends n [] h = cc
closes_ends n (t ∷ us) h = closes_by n t us (bytes_eq t.bytes (codes ")")) (bytes_eq t.bytes (codes ",")) (bytes_eq t.bytes (codes ";")) (bytes_eq t.bytes (codes "}")) refl refl refl refl h

pub bracket_ends : (n : ℕ) (t : Tok) (us : List Tok) → has (codes ")") (t ∷ []) ≡ true → Ends n (t ∷ us)
bracket_ends n t us h = closed_by (codes ")") n t us h refl no_operator.0

of_level : (k : ℕ) (o : ℕ × Mark) (m : Mark) (b : Bool) → (o.0 == k) ≡ b → (if b then Some o.1 else None) ≡ Some m → o.0 ≡ k
of_level k o m true e h = grind (arith, nat_tests, e)
of_level k o m false e h = cc

other_level : (j k l : ℕ) → j ≡ k → l < k → (j == l) ≡ false
other_level j k l e lt = grind (arith, nat_tests, e, lt)

not_of_level : (l : ℕ) (o : ℕ × Mark) (b : Bool) → (o.0 == l) ≡ b → b ≡ false → (if b then Some o.1 else None) ≡ None
not_of_level l o true e h = cc
not_of_level l o false e h = refl

operator_by : (k l : ℕ) (m : Mark) (found : Option (ℕ × Mark)) → if_of_level k found ≡ Some m → l < k → if_of_level l found ≡ None
operator_by k l m None h lt = cc
operator_by k l m (Some o) h lt = not_of_level l o (o.0 == l) refl (other_level o.0 k l (of_level k o m (o.0 == k) refl h) lt)

no_bracket : (k : ℕ) (m : Mark) (t : Tok) (b : Bool) → bytes_eq t.bytes (codes "(") ≡ b → if_of_level k (operator_of t.bytes) ≡ Some m → b ≡ false
no_bracket k m t true e h =
    let none : operator_of t.bytes ≡ None = ap operator_of (same_text (codes "(") t e) ∙ no_operator.4 in
    let gone : None ≡ Some m = sym (ap (if_of_level k) none) ∙ h in
    cc
no_bracket k m t false e h = refl

-- an operator ends what binds more tightly
pub operator_ends : (k : ℕ) (t : Tok) (us : List Tok) (m : Mark) → operator_next k (t ∷ []) ≡ Some m → Ends k (t ∷ us)
operator_ends k t us m h = record {
  shut = no_bracket k m t (bytes_eq t.bytes (codes "(")) refl h;
  none = λ l lt. operator_by k l m (operator_of t.bytes) h lt;
}

-- Reading at levels.

abbrev pub ReadsAt : Form → ℕ → Type 0
ReadsAt f n = (scope : Scope) (fuel : ℕ) (e : Expr) (ts us : List Tok) → IsForm scope f n e ts → length ts ≤ fuel → Ends n us → level_at (operand_at scope fuel) n (ts ++ us) ≡ Ok (e, us)

abbrev pub ChainsAt : Form → ℕ → Type 0
ChainsAt f l = (scope : Scope) (fuel : ℕ) (e : Expr) (ts us : List Tok) → IsForm scope f (suc l) e ts → length ts ≤ fuel → Ends l us → Chaining (level_at (operand_at scope fuel) l) l e us (level_at (operand_at scope fuel) (suc l) (ts ++ us))

pub record IsRead (f : Form) : Type 0 where
  pub reads : (n : ℕ) → ReadsAt f n
  pub chains : (l : ℕ) → ChainsAt f l

starts : (operand : List Tok → Read Expr) (l : ℕ) (e : Expr) (ts us : List Tok) → level_at operand l ts ≡ Ok (e, us) → Chaining (level_at operand l) l e us (level_at operand (suc l) ts)
unfolding level_at
starts operand l e ts us h = record { fuel = length us; enough = omega arith; so_far = rw h refl }

ends_at : (operand : List Tok → Read Expr) (l : ℕ) (e : Expr) (ts us : List Tok) → Chaining (level_at operand l) l e us (level_at operand (suc l) ts) → Ends (suc l) us → level_at operand (suc l) ts ≡ Ok (e, us)
ends_at operand l e ts us c h = chain_ends (level_at operand l) l e us (level_at operand (suc l) ts) c (h.none l (omega arith))

-- Forms whose tokens are the same at each level.

abbrev IsFree : Form → Type 0
IsFree f = (scope : Scope) (n m : ℕ) (e : Expr) (ts : List Tok) → IsForm scope f n e ts → IsForm scope f m e ts

lifted : (f : Form) → IsFree f → ReadsAt f 0 → (n : ℕ) → ReadsAt f n
lifted f free base zero scope fuel e ts us i le h = base scope fuel e ts us i le h
lifted f free base (suc n) scope fuel e ts us i le h =
    ends_at (operand_at scope fuel) n e (ts ++ us) us (starts (operand_at scope fuel) n e (ts ++ us) us (lifted f free base n scope fuel e ts us (free scope (suc n) n e ts i) le (fewer n us h))) h

free_read : (f : Form) → IsFree f → ReadsAt f 0 → IsRead f
free_read f free base = record {
  reads = lifted f free base;
  chains = λ l scope fuel e ts us i le h. starts (operand_at scope fuel) l e (ts ++ us) us (lifted f free base l scope fuel e ts us (free scope (suc l) l e ts i) le h);
}

-- One operand.

level_zero : (operand : List Tok → Read Expr) (ts : List Tok) → level_at operand 0 ts ≡ operand ts
unfolding level_at
level_zero operand ts = refl

plain_operand : (scope : Scope) (n : ℕ) (ts : List Tok) → prefix_next ts ≡ None → operand_at scope (suc n) ts ≡ primary_at scope (level_at (operand_at scope n) levels) ts
unfolding operand_at
plain_operand scope n ts h = rw h refl

prefix_operand : (scope : Scope) (n : ℕ) (ts us : List Tok) (m : Mark) (x : Expr) → prefix_next ts ≡ Some m → operand_at scope n (behind ts) ≡ Ok (x, us) → operand_at scope (suc n) ts ≡ Ok (Unary m x, us)
unfolding operand_at
prefix_operand scope n ts us m x h e = rw (h, e) refl

primary_load : (scope : Scope) (expr : List Tok → Read Expr) (ts us : List Tok) (x : Expr) → begins_load ts ≡ true → bracketed_at expr (behind ts) ≡ Ok (x, us) → primary_at scope expr ts ≡ Ok (Load64 x, us)
primary_load scope expr ts us x h e = rw (h, e) refl

primary_bracket : (scope : Scope) (expr : List Tok → Read Expr) (ts : List Tok) → begins_load ts ≡ false → has (codes "(") ts ≡ true → primary_at scope expr ts ≡ bracketed_at expr ts
primary_bracket scope expr ts h k = rw (h, k) refl

primary_flat : (scope : Scope) (expr : List Tok → Read Expr) (ts : List Tok) → begins_load ts ≡ false → has (codes "(") ts ≡ false → primary_at scope expr ts ≡ flat_at scope ts
primary_flat scope expr ts h k = rw (h, k) refl

no_load : (t : Tok) (us : List Tok) → may_open us ≡ false → begins_load (t ∷ us) ≡ false
no_load t us h = rw h (and_false (bytes_eq t.bytes (codes "load64")))

not_load : (t : Tok) (us : List Tok) → bytes_eq t.bytes (codes "load64") ≡ false → begins_load (t ∷ us) ≡ false
not_load t us h = rw h refl

is_load : (k o : Tok) (us : List Tok) → has (codes "load64") (k ∷ []) ≡ true → has (codes "(") (o ∷ []) ≡ true → begins_load (k ∷ (o ∷ us)) ≡ true
is_load k o us h i = rw (h, i) refl

flat_picked : (scope : Scope) (t : Tok) (us : List Tok) (e : Expr) → flat_of scope t.kind t.bytes ≡ Some e → flat_at scope (t ∷ us) ≡ Ok (e, us)
flat_picked scope t us e h = rw h refl

no_prefix_of : (t : Tok) (us : List Tok) → bytes_eq t.bytes (codes "-") ≡ false → bytes_eq t.bytes (codes "!") ≡ false → prefix_next (t ∷ us) ≡ None
no_prefix_of t us a b = rw (a, b) refl

-- such a text is none of these
no_prefix : (text : List ℕ) (t : Tok) (us : List Tok) → bytes_eq t.bytes text ≡ true → bytes_eq text (codes "-") ≡ false → bytes_eq text (codes "!") ≡ false → prefix_next (t ∷ us) ≡ None
no_prefix text t us h a b =
    let same = same_text text t h in
    no_prefix_of t us (ap (λ x. bytes_eq x (codes "-")) same ∙ a) (ap (λ x. bytes_eq x (codes "!")) same ∙ b)

flat_read : ReadsAt Flat 0
flat_read scope zero e ts us (t, o, s, w) le h = let n : length ts ≡ 1 = ap length w in absurd (omega (arith, n, le))
flat_read scope (suc fuel) e ts us (t, o, s, w) le h =
    let a = or_parts (bytes_eq t.bytes (codes "-") || bytes_eq t.bytes (codes "!")) (bytes_eq t.bytes (codes "(")) s in
    let b = or_parts (bytes_eq t.bytes (codes "-")) (bytes_eq t.bytes (codes "!")) a.0 in
    let whole : ts ++ us ≡ t ∷ us = ap (λ x. x ++ us) w in
    subst (λ r. level_at (operand_at scope (suc fuel)) 0 r ≡ Ok (e, us)) (sym whole)
    (level_zero (operand_at scope (suc fuel)) (t ∷ us) ∙ plain_operand scope fuel (t ∷ us) (no_prefix_of t us b.0 b.1) ∙ primary_flat scope (level_at (operand_at scope fuel) levels) (t ∷ us) (no_load t us h.shut) a.1 ∙ flat_picked scope t us e o)

-- in brackets
inside : (expr : List Tok → Read Expr) (e : Expr) (o c : Tok) (ts us : List Tok) → has (codes "(") (o ∷ []) ≡ true → has (codes ")") (c ∷ []) ≡ true → expr (ts ++ c ∷ us) ≡ Ok (e, c ∷ us) → bracketed_at expr (o ∷ (ts ++ c ∷ us)) ≡ Ok (e, us)
inside expr e o c ts us p q r = rw (p, r, q) refl

bracket_read : (f : Form) → IsRead f → ReadsAt (Bracket f) 0
bracket_read f r scope zero e ts us (f1, b1, (o, p, q1), (f2, b2, i, (c, q, q2), w2), w) le h = let n : length ts ≡ suc (length b1) = ap length (w ∙ ap (λ x. x ++ b1) q1) in absurd (omega (arith, n, le))
bracket_read f r scope (suc fuel) e ts us (f1, b1, (o, p, q1), (f2, b2, i, (c, q, q2), w2), w) le h =
    let all : ts ≡ o ∷ (f2 ++ c ∷ []) = w ∙ ap (λ x. x ++ b1) q1 ∙ ap (λ x. o ∷ x) (w2 ∙ ap (λ x. f2 ++ x) q2) in
    let whole : ts ++ us ≡ o ∷ (f2 ++ c ∷ us) = ap (λ x. x ++ us) all ∙ ap (λ x. o ∷ x) (append_assoc f2 (c ∷ []) us) in
    let size : length ts ≡ suc (length f2 + 1) = ap length all ∙ ap suc (length-append f2 (c ∷ [])) in
    let inner = r.reads levels scope fuel e f2 (c ∷ us) i (omega (arith, size, le)) (bracket_ends levels c us q) in
    let other : bytes_eq o.bytes (codes "load64") ≡ false = ap (λ x. bytes_eq x (codes "load64")) (same_text (codes "(") o p) in
    subst (λ x. level_at (operand_at scope (suc fuel)) 0 x ≡ Ok (e, us)) (sym whole)
    (level_zero (operand_at scope (suc fuel)) (o ∷ (f2 ++ c ∷ us)) ∙ plain_operand scope fuel (o ∷ (f2 ++ c ∷ us)) (no_prefix (codes "(") o (f2 ++ c ∷ us) p refl refl) ∙ primary_bracket scope (level_at (operand_at scope fuel) levels) (o ∷ (f2 ++ c ∷ us)) (not_load o (f2 ++ c ∷ us) other) p ∙ inside (level_at (operand_at scope fuel) levels) e o c f2 us p q inner)

load_read : (f : Form) → IsRead f → ReadsAt (Load f) 0
load_read f r scope zero e ts us (x, s, (f0, b0, (k, pk, q0), (f1, b1, (o, p, q1), (f2, b2, i, (c, q, q2), w2), w1), w0)) le h = let n : length ts ≡ suc (length b0) = ap length (w0 ∙ ap (λ y. y ++ b0) q0) in absurd (omega (arith, n, le))
load_read f r scope (suc fuel) e ts us (x, s, (f0, b0, (k, pk, q0), (f1, b1, (o, p, q1), (f2, b2, i, (c, q, q2), w2), w1), w0)) le h =
    let all : ts ≡ k ∷ (o ∷ (f2 ++ c ∷ [])) = w0 ∙ ap (λ y. y ++ b0) q0 ∙ ap (λ y. k ∷ y) (w1 ∙ ap (λ y. y ++ b1) q1 ∙ ap (λ y. o ∷ y) (w2 ∙ ap (λ y. f2 ++ y) q2)) in
    let whole : ts ++ us ≡ k ∷ (o ∷ (f2 ++ c ∷ us)) = ap (λ y. y ++ us) all ∙ ap (λ y. k ∷ (o ∷ y)) (append_assoc f2 (c ∷ []) us) in
    let size : length ts ≡ suc (suc (length f2 + 1)) = ap length all ∙ ap (λ n. suc (suc n)) (length-append f2 (c ∷ [])) in
    let inner = r.reads levels scope fuel x f2 (c ∷ us) i (omega (arith, size, le)) (bracket_ends levels c us q) in
    subst (λ y. level_at (operand_at scope (suc fuel)) 0 y ≡ Ok (e, us)) (sym whole)
    (level_zero (operand_at scope (suc fuel)) (k ∷ (o ∷ (f2 ++ c ∷ us))) ∙ plain_operand scope fuel (k ∷ (o ∷ (f2 ++ c ∷ us))) (no_prefix (codes "load64") k (o ∷ (f2 ++ c ∷ us)) pk refl refl) ∙ primary_load scope (level_at (operand_at scope fuel) levels) (k ∷ (o ∷ (f2 ++ c ∷ us))) us x (is_load k o (f2 ++ c ∷ us) pk p) (inside (level_at (operand_at scope fuel) levels) x o c f2 us p q inner) ∙ ap (λ y. Ok (y, us)) (sym s))

prefix_read : (f : Form) → IsRead f → ReadsAt (Prefix f) 0
prefix_read f r scope zero e ts us (m, x, s, (f0, b0, (k, pk, q0), i, w0)) le h = let n : length ts ≡ suc (length b0) = ap length (w0 ∙ ap (λ y. y ++ b0) q0) in absurd (omega (arith, n, le))
prefix_read f r scope (suc fuel) e ts us (m, x, s, (f0, b0, (k, pk, q0), i, w0)) le h =
    let all : ts ≡ k ∷ b0 = w0 ∙ ap (λ y. y ++ b0) q0 in
    let whole : ts ++ us ≡ k ∷ (b0 ++ us) = ap (λ y. y ++ us) all in
    let size : length ts ≡ suc (length b0) = ap length all in
    let inner = sym (level_zero (operand_at scope fuel) (b0 ++ us)) ∙ r.reads 0 scope fuel x b0 us i (omega (arith, size, le)) h in
    subst (λ y. level_at (operand_at scope (suc fuel)) 0 y ≡ Ok (e, us)) (sym whole)
    (level_zero (operand_at scope (suc fuel)) (k ∷ (b0 ++ us)) ∙ prefix_operand scope fuel (k ∷ (b0 ++ us)) us m x pk inner ∙ ap (λ y. Ok (y, us)) (sym s))

-- Two sides and an operator.

joined_step : (k : ℕ) (f g : Form) → IsRead f → IsRead g → (scope : Scope) (fuel : ℕ) (m : Mark) (a b : Expr) (ts us : List Tok) → (IsForm scope f (suc k) a then IsOperator k m then IsForm scope g k b) ts → length ts ≤ fuel → Ends k us → Chaining (level_at (operand_at scope fuel) k) k (Binary m a b) us (level_at (operand_at scope fuel) (suc k) (ts ++ us))
joined_step k f g rf rg scope fuel m a b ts us (front, back, pf, (op, gb, (t, o, q), pg, w'), w) le h =
    let whole : ts ++ us ≡ front ++ (t ∷ (gb ++ us)) = rw (w, w', q) (append_assoc front (t ∷ gb) us) in
    let size : length ts ≡ length front + suc (length gb) = rw (w, w', q) (length-append front (t ∷ gb)) in
    let tail : length (gb ++ us) ≡ length gb + length us = length-append gb us in
    let left = rf.chains k scope fuel a front (t ∷ (gb ++ us)) pf (omega (arith, size, le)) (operator_ends k t (gb ++ us) m o) in
    let right = rg.reads k scope fuel b gb us pg (omega (arith, size, le)) h in
    subst (λ r. Chaining (level_at (operand_at scope fuel) k) k (Binary m a b) us (level_at (operand_at scope fuel) (suc k) r)) (sym whole)
    (chain_goes_on (level_at (operand_at scope fuel) k) k a (Binary m a b) (t ∷ (gb ++ us)) (gb ++ us) us m b _ refl left o refl right (omega (arith, tail)))

same_level : (k l : ℕ) → k < suc l → nat_lt k l ≡ false → k ≡ l
same_level k l h e = grind (arith, nat_tests, h, e)

joined_here : (k l : ℕ) (f g : Form) → IsRead f → IsRead g → k ≡ l → (scope : Scope) (fuel : ℕ) (e : Expr) (ts us : List Tok) (m : Mark) (a b : Expr) → e ≡ Binary m a b → (IsForm scope f (suc k) a then IsOperator k m then IsForm scope g k b) ts → length ts ≤ fuel → Ends l us → Chaining (level_at (operand_at scope fuel) l) l e us (level_at (operand_at scope fuel) (suc l) (ts ++ us))
joined_here k l f g rf rg same scope fuel e ts us m a b s p le h =
    subst (λ x. Chaining (level_at (operand_at scope fuel) l) l x us (level_at (operand_at scope fuel) (suc l) (ts ++ us))) (sym s)
    (subst (λ j. Chaining (level_at (operand_at scope fuel) j) j (Binary m a b) us (level_at (operand_at scope fuel) (suc j) (ts ++ us))) same
    (joined_step k f g rf rg scope fuel m a b ts us p le (subst (λ j. Ends j us) (sym same) h)))

joined_chains_by : (k : ℕ) (f g : Form) → IsRead f → IsRead g → (l : ℕ) (d : Bool) → nat_lt k l ≡ d → (scope : Scope) (fuel : ℕ) (e : Expr) (ts us : List Tok) → k < suc l → (m : Mark) (a b : Expr) → e ≡ Binary m a b → (IsForm scope f (suc k) a then IsOperator k m then IsForm scope g k b) ts → length ts ≤ fuel → Ends l us → Chaining (level_at (operand_at scope fuel) l) l e us (level_at (operand_at scope fuel) (suc l) (ts ++ us))
joined_chains_by k f g rf rg zero true d scope fuel e ts us lt m a b s p le h = let n = true_less k 0 d in absurd (omega (arith, n))
joined_chains_by k f g rf rg zero false d scope fuel e ts us lt m a b s p le h = joined_here k 0 f g rf rg (same_level k 0 lt d) scope fuel e ts us m a b s p le h
joined_chains_by k f g rf rg (suc l) false d scope fuel e ts us lt m a b s p le h = joined_here k (suc l) f g rf rg (same_level k (suc l) lt d) scope fuel e ts us m a b s p le h
joined_chains_by k f g rf rg (suc l) true d scope fuel e ts us lt m a b s p le h =
    starts (operand_at scope fuel) (suc l) e (ts ++ us) us (ends_at (operand_at scope fuel) l e (ts ++ us) us (joined_chains_by k f g rf rg l (nat_lt k l) refl scope fuel e ts us (true_less k (suc l) d) m a b s p le (fewer l us h)) h)

joined_chains : (k : ℕ) (f g : Form) → IsRead f → IsRead g → (l : ℕ) → ChainsAt (Joined k f g) l
joined_chains k f g rf rg l scope fuel e ts us (lt, m, a, b, s, p) le h = joined_chains_by k f g rf rg l (nat_lt k l) refl scope fuel e ts us lt m a b s p le h

joined_reads : (k : ℕ) (f g : Form) → IsRead f → IsRead g → (n : ℕ) → ReadsAt (Joined k f g) n
joined_reads k f g rf rg zero scope fuel e ts us (lt, m, a, b, s, p) le h = absurd (omega (arith, lt))
joined_reads k f g rf rg (suc n) scope fuel e ts us i le h =
    ends_at (operand_at scope fuel) n e (ts ++ us) us (joined_chains k f g rf rg n scope fuel e ts us i le (fewer n us h)) h

pub form_read : (f : Form) → IsRead f
form_read Flat = free_read Flat (λ scope n m e ts i. i) flat_read
form_read (Bracket f) = free_read (Bracket f) (λ scope n m e ts i. i) (bracket_read f (form_read f))
form_read (Load f) = free_read (Load f) (λ scope n m e ts i. i) (load_read f (form_read f))
form_read (Prefix f) = free_read (Prefix f) (λ scope n m e ts i. i) (prefix_read f (form_read f))
form_read (Joined k f g) = record { reads = joined_reads k f g (form_read f) (form_read g); chains = joined_chains k f g (form_read f) (form_read g) }

pub expr_read : (scope : Scope) (e : Expr) (ts us : List Tok) → closes_expr us ≡ true → IsExpr scope e ts → expr_at scope (ts ++ us) ≡ Ok (e, us)
unfolding expr_at
expr_read scope e ts us c (f, i) =
    let size : length (ts ++ us) ≡ length ts + length us = length-append ts us in
    (form_read f).reads levels scope (length (ts ++ us)) e ts us i (omega (arith, size)) (closes_ends levels us c)
