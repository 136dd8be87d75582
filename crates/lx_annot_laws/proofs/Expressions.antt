-- Expressions hang on the tokens that they are, and on the one behind them.
use Rattle.std.proofs.Common.{◌≡◌, ℕ, zero, suc, ◌≤◌, Bool, true, false, Option, Some, None, List, [], ◌∷◌, length, Ok, Err, refl, sym, ap, ◌∙◌, subst, arith, bytes_eq, codes}
use Rattle.std.specs.Prelude.{if◌then◌else◌, ◌&&◌, not}
use Rattle.lx_words.specs.declared.token.TokenKind.TheVariants as kinds
use Rattle.lx_annot.specs.declared.expr.Mark.{Mark}
use Rattle.lx_annot.specs.Expr.{Expr, Load64, Unary, Binary}
use Rattle.lx_annot_expressions.specs.Tokens.{Tok}
use Rattle.lx_annot_expressions.specs.declared.fault.Fault.{Fault}
use Rattle.lx_annot_expressions.specs.declared.fault.FaultKind.TheVariants.{Unknown}
use Rattle.lx_annot_expressions.specs.Reading.{Read, ◌>>=◌, at, has, behind, refused, picked, next_at, unless_word}
use Rattle.lx_annot_expressions.specs.Operators.{levels, operator_next, prefix_next}
use Rattle.lx_annot_expressions.specs.Exprs.{Scope, flat_of, flat_at, bracketed_at, may_open, begins_load, load_at, primary_at, chain_by, chain_at, joined_at, level_at, operand_by, operand_at, expr_at}
use Rattle.lx_annot_expressions.proofs.Parts.{ok_same}
use Rattle.lx_annot_terms.proofs.ListReads.{other_text}
use Rattle.lx_annot_laws.specs.RefusedPartLaws.{is_refusal, is_bound}
use Rattle.lx_annot_laws.proofs.Local.{Looks, has_looks, Bound, no_longer, Same, same_fault, Plain, pure_plain, then_plain, last_plain, refused_plain, if_plain, choose_local, behind_local, fuel_local, next_plain, pick_plain}
use Rattle.lx_annot_laws.proofs.Loops.{bound_alike, shorter, Hungry, pick_hungry, next_hungry, then_hungry, if_hungry, behind_hungry, wary_plain}

-- `(E)`
pub bracketed_plain : (expr : List Tok → Read Expr) → Plain expr → Plain (bracketed_at expr)
bracketed_plain expr h =
    then_plain (next_at (codes "(")) (λ o. expr o.1 >>= λ e. next_at (codes ")") e.1 >>= λ c. Ok (e.0, c.1)) (next_plain (codes "("))
    (λ o. then_plain expr (λ e. next_at (codes ")") e.1 >>= λ c. Ok (e.0, c.1)) h (λ e. last_plain (next_at (codes ")")) (λ c. e) (next_plain (codes ")"))))

bracketed_hungry : (expr : List Tok → Read Expr) → Plain expr → Hungry (bracketed_at expr)
bracketed_hungry expr h =
    then_hungry (next_at (codes "(")) (λ o. expr o.1 >>= λ e. next_at (codes ")") e.1 >>= λ c. Ok (e.0, c.1)) (next_hungry (codes "("))
    (λ o. then_plain expr (λ e. next_at (codes ")") e.1 >>= λ c. Ok (e.0, c.1)) h (λ e. last_plain (next_at (codes ")")) (λ c. e) (next_plain (codes ")"))))

-- Operands without operators.

open_looks : (us vs : List Tok) → Looks us vs → may_open us ≡ may_open vs
open_looks [] [] l = refl
open_looks [] (v ∷ vs) l = cc
open_looks (u ∷ us) [] l = cc
open_looks (u ∷ us) (v ∷ vs) l = has_looks (codes "(") (u ∷ us) (v ∷ vs) l

load_steady : (t : Tok) (us vs : List Tok) → Looks us vs → begins_load (t ∷ us) ≡ begins_load (t ∷ vs)
load_steady t us vs l = ap (λ b. bytes_eq t.bytes (codes "load64") && b) (open_looks us vs l)

-- the word `load64`, where no name is that, is no fault that is spoken of
word_unknown : (o : Option Expr) (bytes : List ℕ) (ts : List Tok) (f : Fault) → bytes_eq bytes (codes "load64") ≡ true → is_bound f.kind bytes ≡ true → picked o Unknown ts ≡ Err f → ⊥
word_unknown (Some e) bytes ts f l b r = cc
word_unknown None bytes ts f l b r =
    let both : false ≡ true = sym (ap not l) ∙ ap (λ (k : Fault). is_bound k.kind bytes) (same_fault {A = Expr} (at Unknown ts) f r) ∙ b in
    cc

module _ (scope : Scope) where
  flat_plain : Plain (flat_at scope)
  flat_plain = pick_plain (λ t. flat_of scope t.kind t.bytes) (unless_word Unknown)

  flat_word : (t : Tok) (ts : List Tok) (f : Fault) → bytes_eq t.bytes (codes "load64") ≡ true → t.kind ≡ kinds.Word → is_bound f.kind t.bytes ≡ true → flat_at scope (t ∷ ts) ≡ Err f → ⊥
  flat_word t ts f l w b r = word_unknown (flat_of scope t.kind t.bytes) t.bytes (t ∷ ts) f l b (subst (λ k. picked (flat_of scope t.kind t.bytes) (unless_word Unknown k) (t ∷ ts) ≡ Err f) w r)

  module _ (expr : List Tok → Read Expr) (h : Plain expr) where
    abbrev loaded : List Tok → Read Expr
    loaded ts = bracketed_at expr ts >>= λ e. Ok (Load64 e.0, e.1)

    loaded_plain : Plain loaded
    loaded_plain = last_plain (bracketed_at expr) (λ e. Load64 e) (bracketed_plain expr h)

    load_plain : Plain (load_at expr)
    load_plain = behind_local Same loaded loaded loaded_plain

    abbrev unloaded : List Tok → Read Expr
    unloaded ts = if has (codes "(") ts then bracketed_at expr ts else flat_at scope ts

    unloaded_plain : Plain unloaded
    unloaded_plain = if_plain (codes "(") (bracketed_at expr) (flat_at scope) (bracketed_plain expr h) flat_plain

    unloaded_hungry : Hungry unloaded
    unloaded_hungry = if_hungry (has (codes "(")) (bracketed_at expr) (flat_at scope) (bracketed_hungry expr h) (pick_hungry (λ t. flat_of scope t.kind t.bytes) (unless_word Unknown))

    abbrev primary : Bool → List Tok → Read Expr
    primary k ts = if k then load_at expr ts else unloaded ts

    primary_hungry : (k : Bool) → Hungry (primary k)
    primary_hungry true = behind_hungry loaded loaded_plain
    primary_hungry false = unloaded_hungry

    -- a load fails behind its word
    load_fails : (t : Tok) (ts : List Tok) (f : Fault) → is_refusal f.kind ≡ true → load_at expr (t ∷ ts) ≡ Err f → f.left ≡ suc (length ts) → ⊥
    load_fails t ts f a e left = let s = loaded_plain.stops ts f a e in absurd (omega (arith, no_longer s.0 ts s.1 s.2, s.3, left))

    bracket_by : (t : Tok) (ts : List Tok) (f : Fault) (b : Bool) → b ≡ false → bytes_eq t.bytes (codes "load64") ≡ true → t.kind ≡ kinds.Word → is_bound f.kind t.bytes ≡ true → (if b then bracketed_at expr (t ∷ ts) else flat_at scope (t ∷ ts)) ≡ Err f → ⊥
    bracket_by t ts f true n l w b e = cc
    bracket_by t ts f false n l w b e = flat_word t ts f l w b e

    -- the word `load64` alone is a name
    name_fails : (t : Tok) (ts : List Tok) (f : Fault) → bytes_eq t.bytes (codes "load64") ≡ true → t.kind ≡ kinds.Word → is_bound f.kind t.bytes ≡ true → unloaded (t ∷ ts) ≡ Err f → ⊥
    name_fails t ts f load w b e = bracket_by t ts f (has (codes "(") (t ∷ ts)) (other_text (codes "load64") (codes "(") (t ∷ ts) load refl) load w b e

    waits_by : (t : Tok) (ts vs : List Tok) (f : Fault) (load k : Bool) → bytes_eq t.bytes (codes "load64") ≡ load → begins_load (t ∷ ts) ≡ k → Bound f.kind (t ∷ ts) → is_refusal f.kind ≡ true → primary k (t ∷ ts) ≡ Err f → f.left ≡ suc (length ts) → primary (load && may_open vs) (t ∷ vs) ≡ Err (at f.kind (t ∷ vs))
    waits_by t ts vs f load true l k bound a e left = absurd (load_fails t ts f a e left)
    waits_by t ts vs f true false l k bound a e left = absurd (name_fails t ts f l (bound.0.0 l) bound.1 e)
    waits_by t ts vs f false false l k bound a e left = unloaded_plain.faults [] (t ∷ ts) (t ∷ vs) f bound a e left refl

    primary_waits : (t : Tok) (ts vs : List Tok) (f : Fault) → Bound f.kind (t ∷ ts) → is_refusal f.kind ≡ true → primary (begins_load (t ∷ ts)) (t ∷ ts) ≡ Err f → f.left ≡ suc (length ts) → primary (begins_load (t ∷ vs)) (t ∷ vs) ≡ Err (at f.kind (t ∷ vs))
    primary_waits t ts vs f bound a e left = waits_by t ts vs f (bytes_eq t.bytes (codes "load64")) (begins_load (t ∷ ts)) refl refl bound a e left

    primary_plain : Plain (primary_at scope expr)
    primary_plain = wary_plain begins_load (load_at expr) unloaded load_plain unloaded_plain load_steady primary_hungry primary_waits

-- Operands joined from the left.

operator_looks : (level : ℕ) (us vs : List Tok) → Looks us vs → operator_next level us ≡ operator_next level vs
operator_looks level [] [] l = refl
operator_looks level [] (v ∷ vs) l = cc
operator_looks level (u ∷ us) [] l = cc
operator_looks level (u ∷ us) (v ∷ vs) l = let s : u ≡ v = cc in ap (λ t. operator_next level (t ∷ [])) s

behind_le : (ts : List Tok) → length (behind ts) ≤ length ts
behind_le [] = omega arith
behind_le (t ∷ ts) = omega arith

module _ (operand : List Tok → Read Expr) (h : Plain operand) (level : ℕ) where
  abbrev chain : ℕ → Expr → List Tok → Read Expr
  chain n left ts = chain_at operand level n left ts

  abbrev with_right : ℕ → Expr → Mark → List Tok → Read Expr
  with_right n left m ts = operand ts >>= λ b. chain_at operand level n (Binary m left b.0) b.1

  chain_step : (n : ℕ) (left : Expr) → ((e : Expr) → Plain (chain n e)) → (o : Option Mark) → Plain (λ ts. chain_by operand (chain_at operand level n) o left ts)
  chain_step n left more None = pure_plain left
  chain_step n left more (Some m) =
      behind_local Same (with_right n left m) (with_right n left m) (then_plain operand (λ b. chain_at operand level n (Binary m left b.0) b.1) h (λ b. more (Binary m left b)))

  chain_each : (n : ℕ) (left : Expr) → Plain (chain n left)
  unfolding chain_at
  chain_each zero left = pure_plain left
  chain_each (suc n) left =
      choose_local Same (operator_next level) (operator_next level) (operator_looks level) (λ o ts. chain_by operand (chain_at operand level n) o left ts) (λ o ts. chain_by operand (chain_at operand level n) o left ts)
      (chain_step n left (λ e. chain_each n e))

  chain_none : (n : ℕ) (left : Expr) → chain n left [] ≡ Ok (left, [])
  unfolding chain_at
  chain_none zero left = refl
  chain_none (suc n) left = refl

  by_operator : (n m : ℕ) (left : Expr) (t : Tok) (ts : List Tok) (o : Option Mark) → ((e : Expr) (us : List Tok) → length us ≤ length ts → chain n e us ≡ chain m e us)
      → chain_by operand (chain_at operand level n) o left (t ∷ ts) ≡ chain_by operand (chain_at operand level m) o left (t ∷ ts)
  by_operator n m left t ts None more = refl
  by_operator n m left t ts (Some k) more =
      bound_alike (operand ts) (operand ts) (λ b. chain_at operand level n (Binary k left b.0) b.1) (λ b. chain_at operand level m (Binary k left b.0) b.1) refl
      (λ x us e. more (Binary k left x) us (shorter operand h ts us x e))

  chain_enough : (n m : ℕ) (left : Expr) (ts : List Tok) → length ts ≤ n → length ts ≤ m → chain n left ts ≡ chain m left ts
  unfolding chain_at
  chain_enough n m left [] le le' = chain_none n left ∙ sym (chain_none m left)
  chain_enough zero m left (t ∷ ts) le le' = absurd (omega (arith, le))
  chain_enough (suc n) zero left (t ∷ ts) le le' = absurd (omega (arith, le'))
  chain_enough (suc n) (suc m) left (t ∷ ts) le le' =
      by_operator n m left t ts (operator_next level (t ∷ ts)) (λ e us less. chain_enough n m e us (omega (arith, less, le)) (omega (arith, less, le')))

  chain_plain : (left : Expr) → Plain (λ ts. chain_at operand level (length ts) left ts)
  chain_plain left = fuel_local Same (λ n. chain n left) (λ n. chain n left) (λ n m ts. chain_enough n m left ts) (λ n m ts. chain_enough n m left ts) (λ n. chain_each n left)

  joined_plain : Plain (joined_at operand level)
  joined_plain = then_plain operand (λ a. chain_at operand level (length a.1) a.0 a.1) h chain_plain

level_plain : (operand : List Tok → Read Expr) → Plain operand → (n : ℕ) → Plain (level_at operand n)
unfolding level_at
level_plain operand h zero = h
level_plain operand h (suc n) = joined_plain (level_at operand n) (level_plain operand h n) n

-- Two readers that agree on tokens that are no more than this.
abbrev Agree : ℕ → (List Tok → Read Expr) → (List Tok → Read Expr) → Type 0
Agree most one two = (ts : List Tok) → length ts ≤ most → one ts ≡ two ts

module _ (most : ℕ) (one two : List Tok → Read Expr) (agree : Agree most one two) (h : Plain one) (level : ℕ) where
  chains_by : (n : ℕ) (left : Expr) (ts : List Tok) → length ts ≤ most → ((e : Expr) (us : List Tok) → length us ≤ most → chain_at one level n e us ≡ chain_at two level n e us)
      → (o : Option Mark) → chain_by one (chain_at one level n) o left ts ≡ chain_by two (chain_at two level n) o left ts
  chains_by n left ts le more None = refl
  chains_by n left ts le more (Some m) =
      let fewer = behind_le ts in
      bound_alike (one (behind ts)) (two (behind ts)) (λ b. chain_at one level n (Binary m left b.0) b.1) (λ b. chain_at two level n (Binary m left b.0) b.1) (agree (behind ts) (omega (arith, fewer, le)))
      (λ x us e. let less = shorter one h (behind ts) us x e in more (Binary m left x) us (omega (arith, less, fewer, le)))

  chains_agree : (n : ℕ) (left : Expr) (ts : List Tok) → length ts ≤ most → chain_at one level n left ts ≡ chain_at two level n left ts
  unfolding chain_at
  chains_agree zero left ts le = refl
  chains_agree (suc n) left ts le = chains_by n left ts le (λ e us l. chains_agree n e us l) (operator_next level ts)

levels_agree : (most : ℕ) (one two : List Tok → Read Expr) → Agree most one two → Plain one → (n : ℕ) → Agree most (level_at one n) (level_at two n)
unfolding level_at
levels_agree most one two agree h zero ts le = agree ts le
levels_agree most one two agree h (suc n) ts le =
    bound_alike (level_at one n ts) (level_at two n ts) (λ a. chain_at (level_at one n) n (length a.1) a.0 a.1) (λ a. chain_at (level_at two n) n (length a.1) a.0 a.1) (levels_agree most one two agree h n ts le)
    (λ x us e. let less = shorter (level_at one n) (level_plain one h n) ts us x e in chains_agree most (level_at one n) (level_at two n) (levels_agree most one two agree h n) (level_plain one h n) n (length us) x us (omega (arith, less, le)))

next_left : (text : List ℕ) (ts us : List Tok) (x : Unit {0}) (b : Bool) → (if b then Ok (tt, behind ts) else refused ts) ≡ Ok (x, us) → us ≡ behind ts
next_left text ts us x true e = sym ((ok_same tt x (behind ts) us e).1)
next_left text ts us x false e = cc

brackets_agree : (most : ℕ) (one two : List Tok → Read Expr) → Agree most one two → (ts : List Tok) → length (behind ts) ≤ most → bracketed_at one ts ≡ bracketed_at two ts
brackets_agree most one two agree ts le =
    bound_alike (next_at (codes "(") ts) (next_at (codes "(") ts) (λ o. one o.1 >>= λ e. next_at (codes ")") e.1 >>= λ c. Ok (e.0, c.1)) (λ o. two o.1 >>= λ e. next_at (codes ")") e.1 >>= λ c. Ok (e.0, c.1)) refl
    (λ x us e. ap (λ (r : Read Expr). r >>= λ e. next_at (codes ")") e.1 >>= λ c. Ok (e.0, c.1)) (agree us (subst (λ r. length r ≤ most) (sym (next_left (codes "(") ts us x (has (codes "(") ts) e)) le)))

module _ (scope : Scope) where
  abbrev primary_by : (List Tok → Read Expr) → Bool → Bool → List Tok → Read Expr
  primary_by expr a b ts = if a then load_at expr ts else if b then bracketed_at expr ts else flat_at scope ts

  primaries_agree : (one two : List Tok → Read Expr) (t : Tok) (ts : List Tok) → Agree (length ts) one two → (a b : Bool) → primary_by one a b (t ∷ ts) ≡ primary_by two a b (t ∷ ts)
  primaries_agree one two t ts agree true b = ap (λ (r : Read Expr). r >>= λ e. Ok (Load64 e.0, e.1)) (brackets_agree (length ts) one two agree ts (behind_le ts))
  primaries_agree one two t ts agree false true = brackets_agree (length ts) one two agree (t ∷ ts) (omega arith)
  primaries_agree one two t ts agree false false = refl

  abbrev whole : ℕ → List Tok → Read Expr
  whole n ts = level_at (operand_at scope n) levels ts

  operand_step : (n : ℕ) → Plain (operand_at scope n) → (o : Option Mark) → Plain (λ ts. operand_by (operand_at scope n) (primary_at scope (whole n)) o ts)
  operand_step n h None = primary_plain scope (whole n) (level_plain (operand_at scope n) h levels)
  operand_step n h (Some m) =
      behind_local Same (λ ts. operand_at scope n ts >>= λ x. Ok (Unary m x.0, x.1)) (λ ts. operand_at scope n ts >>= λ x. Ok (Unary m x.0, x.1)) (last_plain (operand_at scope n) (λ x. Unary m x) h)

  prefix_looks : (us vs : List Tok) → Looks us vs → prefix_next us ≡ prefix_next vs
  prefix_looks [] [] l = refl
  prefix_looks [] (v ∷ vs) l = cc
  prefix_looks (u ∷ us) [] l = cc
  prefix_looks (u ∷ us) (v ∷ vs) l = let s : u ≡ v = cc in ap (λ t. prefix_next (t ∷ [])) s

  operand_plain : (n : ℕ) → Plain (operand_at scope n)
  unfolding operand_at
  operand_plain zero = refused_plain {A = Expr}
  operand_plain (suc n) =
      choose_local Same prefix_next prefix_next prefix_looks (λ o ts. operand_by (operand_at scope n) (primary_at scope (whole n)) o ts) (λ o ts. operand_by (operand_at scope n) (primary_at scope (whole n)) o ts)
      (operand_step n (operand_plain n))

  operand_none : (n : ℕ) → operand_at scope n [] ≡ refused []
  unfolding operand_at
  operand_none zero = refl
  operand_none (suc n) = refl

  by_prefix : (n m : ℕ) (t : Tok) (ts : List Tok) → Agree (length ts) (operand_at scope n) (operand_at scope m) → Plain (operand_at scope n) → (o : Option Mark)
      → operand_by (operand_at scope n) (primary_at scope (whole n)) o (t ∷ ts) ≡ operand_by (operand_at scope m) (primary_at scope (whole m)) o (t ∷ ts)
  by_prefix n m t ts agree h None =
      primaries_agree (whole n) (whole m) t ts (levels_agree (length ts) (operand_at scope n) (operand_at scope m) agree h levels) (begins_load (t ∷ ts)) (has (codes "(") (t ∷ ts))
  by_prefix n m t ts agree h (Some k) = ap (λ (r : Read Expr). r >>= λ x. Ok (Unary k x.0, x.1)) (agree ts (omega arith))

  operand_enough : (n m : ℕ) (ts : List Tok) → length ts ≤ n → length ts ≤ m → operand_at scope n ts ≡ operand_at scope m ts
  unfolding operand_at
  operand_enough n m [] le le' = operand_none n ∙ sym (operand_none m)
  operand_enough zero m (t ∷ ts) le le' = absurd (omega (arith, le))
  operand_enough (suc n) zero (t ∷ ts) le le' = absurd (omega (arith, le'))
  operand_enough (suc n) (suc m) (t ∷ ts) le le' =
      by_prefix n m t ts (λ us less. operand_enough n m us (omega (arith, less, le)) (omega (arith, less, le'))) (operand_plain n) (prefix_next (t ∷ ts))

  whole_enough : (n m : ℕ) (ts : List Tok) → length ts ≤ n → length ts ≤ m → whole n ts ≡ whole m ts
  whole_enough n m ts le le' =
      levels_agree (length ts) (operand_at scope n) (operand_at scope m) (λ us less. operand_enough n m us (omega (arith, less, le)) (omega (arith, less, le'))) (operand_plain n) levels ts (omega arith)

  -- an expression
  pub expr_plain : Plain (expr_at scope)
  unfolding expr_at
  expr_plain = fuel_local Same whole whole whole_enough whole_enough (λ n. level_plain (operand_at scope n) (operand_plain n) levels)

  pub enclosed_plain : Plain (bracketed_at (expr_at scope))
  enclosed_plain = bracketed_plain (expr_at scope) expr_plain
