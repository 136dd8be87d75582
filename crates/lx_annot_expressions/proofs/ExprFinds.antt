-- Expressions: what is read is in the grammar.
use Rattle.std.proofs.Common.{◌≡◌, ℕ, zero, suc, ◌≤◌, Bool, true, false, Option, Some, None, List, [], ◌∷◌, ◌++◌, length, Ok, refl, sym, ap, ◌∙◌, subst, append_assoc, arith, bytes_eq, codes}
use Rattle.std.specs.Prelude.{if◌then◌else◌}
use Rattle.std.proofs.lemmas.List.{append-nil}
use Rattle.lx_words.proofs.Tests.{first_of}
use Rattle.lx_annot.specs.declared.expr.Mark.{Mark}
use Rattle.lx_annot.specs.declared.expr.Mark.TheVariants.{Negate, Invert}
use Rattle.lx_annot.specs.Expr.{Expr, Load64, Unary, Binary}
use Rattle.lx_annot_expressions.specs.Tokens.{Tok}
use Rattle.lx_annot_expressions.specs.Reading.{Read, ◌>>=◌, has, behind, next_at, unless_word}
use Rattle.lx_annot_expressions.specs.declared.fault.FaultKind.TheVariants.{Unknown}
use Rattle.lx_annot_expressions.specs.Operators.{levels, operator_next, prefix_next}
use Rattle.lx_annot_expressions.specs.Exprs.{Scope, flat_of, flat_at, may_open, begins_load, bracketed_at, load_at, primary_at, chain_by, chain_at, level_at, operand_by, operand_at, expr_at}
use Rattle.lx_annot_expressions.specs.Grammar.{Part, Is, ◌then◌, is_sign, Form, Flat, Bracket, Load, Prefix, Joined, IsForm, IsExpr}
use Rattle.lx_annot_expressions.specs.Laws.{Finds}
use Rattle.lx_annot_expressions.proofs.Parts.{bind_ok, ok_same, pick_finds, next_finds, next_token}

-- written in some way, at a level
abbrev FormAt : Scope → ℕ → Expr → Part
FormAt scope n e ts = (f : Form) × IsForm scope f n e ts

abbrev Found : Scope → ℕ → Expr → List Tok → List Tok → Type 0
Found scope n e ts us = (front : List Tok) × FormAt scope n e front × (ts ≡ front ++ us)

higher : (scope : Scope) (f : Form) (n m : ℕ) (e : Expr) (ts : List Tok) → n ≤ m → IsForm scope f n e ts → IsForm scope f m e ts
higher scope Flat n m e ts le i = i
higher scope (Bracket f) n m e ts le i = i
higher scope (Load f) n m e ts le i = i
higher scope (Prefix f) n m e ts le i = i
higher scope (Joined k f g) n m e ts le (lt, o, a, b, s, p) = (omega (arith, lt, le), o, a, b, s, p)

after_operator : (l : ℕ) (ts : List Tok) (m : Mark) → operator_next l ts ≡ Some m → (t : Tok) × (operator_next l (t ∷ []) ≡ Some m) × (ts ≡ t ∷ behind ts)
after_operator l [] m h = cc
after_operator l (t ∷ ts) m h = (t, h, refl)

-- A chain goes on with what stands before it.
abbrev ChainFound : Scope → ℕ → Expr → List Tok → List Tok → List Tok → Type 0
ChainFound scope l e before ts us = (front : List Tok) × FormAt scope (suc l) e (before ++ front) × (ts ≡ front ++ us)

chain_stays : (scope : Scope) (l : ℕ) (left e : Expr) (before ts us : List Tok) → FormAt scope (suc l) left before → (left ≡ e) × (ts ≡ us) → ChainFound scope l e before ts us
chain_stays scope l left e before ts us f k = ([], subst (λ x. FormAt scope (suc l) x (before ++ [])) k.0 (subst (λ x. FormAt scope (suc l) left x) (sym (append-nil before)) f), k.1)

-- chains of so many tokens are found
abbrev ChainsFound : Scope → (List Tok → Read Expr) → ℕ → ℕ → Type 0
ChainsFound scope operand l n = (left e : Expr) (before ts us : List Tok) → FormAt scope (suc l) left before → chain_at operand l n left ts ≡ Ok (e, us) → ChainFound scope l e before ts us

chain_by_found : (scope : Scope) (operand : List Tok → Read Expr) (l n : ℕ) → Finds operand (FormAt scope l) → ChainsFound scope operand l n → (left e : Expr) (before ts us : List Tok) (o : Option Mark) → operator_next l ts ≡ o → FormAt scope (suc l) left before → chain_by operand (chain_at operand l n) o left ts ≡ Ok (e, us) → ChainFound scope l e before ts us
chain_by_found scope operand l n h further left e before ts us None w f r = chain_stays scope l left e before ts us f (ok_same left e ts us r)
chain_by_found scope operand l n h further left e before ts us (Some m) w f r =
    let b = bind_ok (operand (behind ts)) (λ b. chain_at operand l n (Binary m left b.0) b.1) (e, us) r in
    let t = after_operator l ts m w in
    let right = h (behind ts) b.0.1 b.0.0 b.1 in
    let new : FormAt scope (suc l) (Binary m left b.0.0) (before ++ t.0 ∷ right.0) = (Joined l f.0 right.1.0, (omega arith, m, left, b.0.0, refl, (before, t.0 ∷ right.0, f.1, (t.0 ∷ [], right.0, (t.0, t.1, refl), right.1.1, refl), refl))) in
    let more = further (Binary m left b.0.0) e (before ++ t.0 ∷ right.0) b.0.1 us new b.2 in (
      t.0 ∷ (right.0 ++ more.0),
      subst (λ x. FormAt scope (suc l) e x) (append_assoc before (t.0 ∷ right.0) more.0) more.1,
      t.2 ∙ ap (λ x. t.0 ∷ x) (right.2 ∙ ap (λ x. right.0 ++ x) more.2 ∙ sym (append_assoc right.0 more.0 us)),
    )

chain_found : (scope : Scope) (operand : List Tok → Read Expr) (l : ℕ) → Finds operand (FormAt scope l) → (fuel : ℕ) → ChainsFound scope operand l fuel
unfolding chain_at
chain_found scope operand l h zero left e before ts us f r = chain_stays scope l left e before ts us f (ok_same left e ts us r)
chain_found scope operand l h (suc n) left e before ts us f r = chain_by_found scope operand l n h (chain_found scope operand l h n) left e before ts us (operator_next l ts) refl f r

levels_found : (scope : Scope) (operand : List Tok → Read Expr) → Finds operand (FormAt scope 0) → (n : ℕ) → Finds (level_at operand n) (FormAt scope n)
unfolding level_at
levels_found scope operand h zero ts us e r = h ts us e r
levels_found scope operand h (suc l) ts us e r =
    let a = bind_ok (level_at operand l ts) (λ a. chain_at (level_at operand l) l (length a.1) a.0 a.1) (e, us) r in
    let first = levels_found scope operand h l ts a.0.1 a.0.0 a.1 in
    let more = chain_found scope (level_at operand l) l (levels_found scope operand h l) (length a.0.1) a.0.0 e first.0 a.0.1 us (first.1.0, higher scope first.1.0 l (suc l) a.0.0 first.0 (omega arith) first.1.1) a.2 in
    (first.0 ++ more.0, more.1, first.2 ∙ ap (λ x. first.0 ++ x) more.2 ∙ sym (append_assoc first.0 more.0 us))

-- an expression in brackets
abbrev Enclosed : Scope → Form → Expr → Part
Enclosed scope f e = Is (codes "(") then IsForm scope f levels e then Is (codes ")")

bracketed_found : (scope : Scope) (expr : List Tok → Read Expr) → Finds expr (FormAt scope levels) → (ts us : List Tok) (e : Expr) → bracketed_at expr ts ≡ Ok (e, us) → (front : List Tok) × ((f : Form) × Enclosed scope f e front) × (ts ≡ front ++ us)
bracketed_found scope expr h ts us e r =
    let o = bind_ok (next_at (codes "(") ts) (λ o. expr o.1 >>= λ e. next_at (codes ")") e.1 >>= λ c. Ok (e.0, c.1)) (e, us) r in
    let x = bind_ok (expr o.0.1) (λ e. next_at (codes ")") e.1 >>= λ c. Ok (e.0, c.1)) (e, us) o.2 in
    let c = bind_ok (next_at (codes ")") x.0.1) (λ c. Ok (x.0.0, c.1)) (e, us) x.2 in
    let k = ok_same x.0.0 e c.0.1 us c.2 in
    let a = next_finds (codes "(") ts o.0.1 o.0.0 o.1 in
    let b = h o.0.1 x.0.1 x.0.0 x.1 in
    let d = next_finds (codes ")") x.0.1 c.0.1 c.0.0 c.1 in
    let inner : FormAt scope levels e b.0 = subst (λ y. FormAt scope levels y b.0) k.0 b.1 in (
      a.0 ++ (b.0 ++ d.0),
      (inner.0, (a.0, b.0 ++ d.0, a.1, (b.0, d.0, inner.1, d.1, refl), refl)),
      a.2 ∙ ap (λ y. a.0 ++ y) (b.2 ∙ ap (λ y. b.0 ++ y) (d.2 ∙ ap (λ y. d.0 ++ y) k.1) ∙ sym (append_assoc b.0 d.0 us)) ∙ sym (append_assoc a.0 (b.0 ++ d.0) us),
    )

abbrev unary_of : Mark → Read Expr → Read Expr
unary_of m r = r >>= λ x. Ok (Unary m x.0, x.1)

prefix_found : (scope : Scope) (inner : List Tok → Read Expr) → Finds inner (FormAt scope 0) → (m : Mark) (ts us : List Tok) (e : Expr) → prefix_next ts ≡ Some m → unary_of m (inner (behind ts)) ≡ Ok (e, us) → Found scope 0 e ts us
prefix_found scope inner h m [] us e w r = cc
prefix_found scope inner h m (t ∷ ts) us e w r =
    let x = bind_ok (inner ts) (λ x. Ok (Unary m x.0, x.1)) (e, us) r in
    let k = ok_same (Unary m x.0.0) e x.0.1 us x.2 in
    let b = h ts x.0.1 x.0.0 x.1 in
    (t ∷ b.0, (Prefix b.1.0, (m, x.0.0, sym k.0, (t ∷ [], b.0, (t, w, refl), b.1.1, refl))), ap (λ y. t ∷ y) (b.2 ∙ ap (λ y. b.0 ++ y) k.1))

no_prefix_by : (t : Tok) (a b : Bool) → bytes_eq t.bytes (codes "-") ≡ a → bytes_eq t.bytes (codes "!") ≡ b → (if a then Some Negate else if b then Some Invert else None) ≡ None → (a ≡ false) × (b ≡ false)
no_prefix_by t true b p q h = cc
no_prefix_by t false true p q h = cc
no_prefix_by t false false p q h = (refl, refl)

flat_found : (scope : Scope) (ts us : List Tok) (e : Expr) → prefix_next ts ≡ None → has (codes "(") ts ≡ false → flat_at scope ts ≡ Ok (e, us) → Found scope 0 e ts us
flat_found scope [] us e p o r = cc
flat_found scope (t ∷ ts) us e p o r =
    let w = pick_finds (λ t. flat_of scope t.kind t.bytes) (unless_word Unknown) (t ∷ ts) us e r in
    let n = no_prefix_by t (bytes_eq t.bytes (codes "-")) (bytes_eq t.bytes (codes "!")) refl refl p in
    let sign : is_sign t ≡ false = rw (n.0, n.1) o in
    let same : t ≡ w.1.0 = (let all : t ∷ ts ≡ w.1.0 ∷ us = w.2 ∙ ap (λ x. x ++ us) w.1.2 in cc) in
    (w.0, (Flat, (w.1.0, w.1.1, subst (λ u. is_sign u ≡ false) same sign, w.1.2)), w.2)

load_word : (ts : List Tok) → begins_load ts ≡ true → has (codes "load64") ts ≡ true
load_word ts h = first_of (has (codes "load64") ts) (may_open (behind ts)) h

abbrev primary_by : Scope → (List Tok → Read Expr) → Bool → Bool → List Tok → Read Expr
primary_by scope expr a b ts = if a then load_at expr ts else if b then bracketed_at expr ts else flat_at scope ts

primary_found : (scope : Scope) (expr : List Tok → Read Expr) → Finds expr (FormAt scope levels) → (a b : Bool) (ts us : List Tok) (e : Expr) → prefix_next ts ≡ None → begins_load ts ≡ a → has (codes "(") ts ≡ b → primary_by scope expr a b ts ≡ Ok (e, us) → Found scope 0 e ts us
primary_found scope expr h true b ts us e p w o r =
    let x = bind_ok (bracketed_at expr (behind ts)) (λ e. Ok (Load64 e.0, e.1)) (e, us) r in
    let k = ok_same (Load64 x.0.0) e x.0.1 us x.2 in
    let n = next_token (codes "load64") ts (load_word ts w) in
    let v = bracketed_found scope expr h (behind ts) x.0.1 x.0.0 x.1 in
    (n.token ∷ v.0, (Load v.1.0, (x.0.0, sym k.0, (n.token ∷ [], v.0, (n.token, n.is, refl), v.1.1, refl))), n.whole ∙ ap (λ y. n.token ∷ y) (v.2 ∙ ap (λ y. v.0 ++ y) k.1))
primary_found scope expr h false true ts us e p w o r =
    let v = bracketed_found scope expr h ts us e r in
    (v.0, (Bracket v.1.0, v.1.1), v.2)
primary_found scope expr h false false ts us e p w o r = flat_found scope ts us e p o r

operand_step : (scope : Scope) (inner : List Tok → Read Expr) → Finds inner (FormAt scope 0) → (ts us : List Tok) (e : Expr) (o : Option Mark) → prefix_next ts ≡ o → operand_by inner (primary_at scope (level_at inner levels)) o ts ≡ Ok (e, us) → Found scope 0 e ts us
operand_step scope inner h ts us e (Some m) w r = prefix_found scope inner h m ts us e w r
operand_step scope inner h ts us e None w r = primary_found scope (level_at inner levels) (levels_found scope inner h levels) (begins_load ts) (has (codes "(") ts) ts us e w refl refl r

operand_found : (scope : Scope) (fuel : ℕ) → Finds (operand_at scope fuel) (FormAt scope 0)
unfolding operand_at
operand_found scope zero ts us e r = cc
operand_found scope (suc n) ts us e r = operand_step scope (operand_at scope n) (operand_found scope n) ts us e (prefix_next ts) refl r

pub expr_found : (scope : Scope) → Finds (expr_at scope) (IsExpr scope)
unfolding expr_at
expr_found scope ts us e r = levels_found scope (operand_at scope (length ts)) (operand_found scope (length ts)) levels ts us e r
