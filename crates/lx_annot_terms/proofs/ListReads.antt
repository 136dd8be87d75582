-- Lists of capabilities: what is in the grammar is read.
use Rattle.std.proofs.Common.{◌≡◌, ℕ, Bool, true, false, List, [], ◌∷◌, ◌++◌, Ok, refl, sym, ap, ◌∙◌, subst, append_assoc, bytes_eq, codes}
use Rattle.std.specs.Prelude.{if◌then◌else◌, ◌||◌}
use Rattle.std.proofs.lemmas.Slice.Eq.{bytes_eq-Decides}
use Rattle.lx_annot.specs.declared.action.CapSpec.{CapSpec}
use Rattle.lx_annot.specs.declared.action.CapSpec.TheVariants as spec
use Rattle.lx_annot.specs.Expr.{Expr}
use Rattle.lx_annot_terms.specs.declared.lists.Within.{Within}
use Rattle.lx_annot_terms.specs.declared.lists.Within.TheVariants as within
use Rattle.lx_annot_expressions.specs.declared.fault.FaultKind.TheVariants.{Unknown}
use Rattle.lx_annot_expressions.specs.Tokens.{Tok}
use Rattle.lx_annot_expressions.specs.Reading.{Read, ◌>>=◌, has, behind, next_at, unless_word}
use Rattle.lx_annot_expressions.specs.Names.{known_of, known_at}
use Rattle.lx_annot_expressions.specs.Exprs.{Scope, expr_at, bracketed_at}
use Rattle.lx_annot_terms.specs.Lists.{Known, size_mark_at, range_at, target_at, reference_at, write_at, call_at, ref_at, each_at, list_at, ref_item_at, item_list_at}
use Rattle.lx_annot_expressions.specs.Grammar.{Part, Is, ◌then◌, IsExpr, InBrackets}
use Rattle.lx_annot_terms.specs.Grammar.{IsIterator, IsList, IsItemList}
use Rattle.lx_annot_expressions.specs.Laws.{Reads, ReadsBefore, closes_expr}
use Rattle.lx_annot_expressions.proofs.Parts.{next_reads, pick_reads, bind_reads, last_reads}
use Rattle.lx_annot_expressions.proofs.ExprReads.{expr_read}

-- What may follow an expression.

comma_closes_by : (a b c d : Bool) → b ≡ true → a || b || c || d ≡ true
comma_closes_by true b c d h = refl
comma_closes_by false true c d h = refl
comma_closes_by false false c d h = cc

bracket_closes_by : (a b c d : Bool) → a ≡ true → a || b || c || d ≡ true
bracket_closes_by true b c d h = refl
bracket_closes_by false b c d h = cc

comma_closes : (t : Tok) (us : List Tok) → has (codes ",") (t ∷ []) ≡ true → closes_expr (t ∷ us) ≡ true
comma_closes t us h = comma_closes_by (has (codes ")") (t ∷ us)) (has (codes ",") (t ∷ us)) (has (codes ";") (t ∷ us)) (has (codes "}") (t ∷ us)) h

pub bracket_closes : (t : Tok) (us : List Tok) → has (codes ")") (t ∷ []) ≡ true → closes_expr (t ∷ us) ≡ true
bracket_closes t us h = bracket_closes_by (has (codes ")") (t ∷ us)) (has (codes ",") (t ∷ us)) (has (codes ";") (t ∷ us)) (has (codes "}") (t ∷ us)) h

-- the part begins with a mark that closes an expression
abbrev pub Closes : Part → Type 0
Closes q = (ts us : List Tok) → q ts → closes_expr (ts ++ us) ≡ true

comma_first : (q : Part) → Closes (Is (codes ",") then q)
comma_first q ts us (f, b, (t, h, g), p, w) = subst (λ x. closes_expr (x ++ us) ≡ true) (sym (w ∙ ap (λ x. x ++ b) g)) (comma_closes t (b ++ us) h)

pub bracket_alone : Closes (Is (codes ")"))
bracket_alone ts us (t, h, g) = subst (λ x. closes_expr (x ++ us) ≡ true) (sym g) (bracket_closes t us h)

-- Rules that end with an expression.

abbrev pub Before : {A : Type 0} → (List Tok → Read A) → A → Part → Type 0
Before read x part = ReadsBefore closes_expr read x part

pub bind_before : {A B : Type 0} (read : List Tok → Read A) (g : A × List Tok → Read B) (x : A) (y : B) (p q : Part) → Reads read x p → Before (λ us. g (x, us)) y q → Before (λ ts. read ts >>= g) y (p then q)
bind_before read g x y p q h k ts us c (front, back, a, b, e) = rw (e, append_assoc front back us, h front (back ++ us) a) (k back us c b)

last_before : {B : Type 0} (scope : Scope) (f : Expr → B) (e : Expr) → Before (λ ts. expr_at scope ts >>= λ c. Ok (f c.0, c.1)) (f e) (IsExpr scope e)
last_before scope f e ts us c p = rw (expr_read scope e ts us c p) refl

expr_then : {B : Type 0} (scope : Scope) (g : Expr × List Tok → Read B) (e : Expr) (y : B) (q : Part) → Closes q → Reads (λ us. g (e, us)) y q → Reads (λ ts. expr_at scope ts >>= g) y (IsExpr scope e then q)
expr_then scope g e y q closed k ts us (front, back, a, b, w) = rw (w, append_assoc front back us, expr_read scope e front (back ++ us) (closed back us b) a) (k back us b)

expr_before : {B : Type 0} (scope : Scope) (g : Expr × List Tok → Read B) (e : Expr) (y : B) (q : Part) → Closes q → Before (λ us. g (e, us)) y q → Before (λ ts. expr_at scope ts >>= g) y (IsExpr scope e then q)
expr_before scope g e y q closed k ts us c (front, back, a, b, w) = rw (w, append_assoc front back us, expr_read scope e front (back ++ us) (closed back us b) a) (k back us c b)

pub brackets_read : (scope : Scope) (e : Expr) → Reads (bracketed_at (expr_at scope)) e (InBrackets scope e)
brackets_read scope e =
    bind_reads (next_at (codes "(")) (λ o. expr_at scope o.1 >>= λ e. next_at (codes ")") e.1 >>= λ c. Ok (e.0, c.1)) tt e _ _ (next_reads (codes "("))
    (expr_then scope (λ e. next_at (codes ")") e.1 >>= λ c. Ok (e.0, c.1)) e e _ bracket_alone
    (last_reads (next_at (codes ")")) (λ c. e) tt _ (next_reads (codes ")"))))

comma_reads : (place : Within) (write : List Tok) → Reads (size_mark_at place write) tt (Is (codes ","))
comma_reads place write ts us (t, h, g) = rw (g, h) refl

range_reads : (place : Within) (scope : Scope) (write : List Tok) (a n : Expr) → Before (range_at place scope write) (spec.Write a n) (IsExpr scope a then Is (codes ",") then IsExpr scope n)
range_reads place scope write a n =
    expr_before scope (λ a. size_mark_at place write a.1 >>= λ c. expr_at scope c.1 >>= λ n. Ok (spec.Write a.0 n.0, n.1)) a (spec.Write a n) _ (comma_first (IsExpr scope n))
    (bind_before (size_mark_at place write) (λ c. expr_at scope c.1 >>= λ n. Ok (spec.Write a n.0, n.1)) tt (spec.Write a n) _ _ (comma_reads place write)
    (last_before scope (λ n. spec.Write a n) n))

reference_reads : (scope : Scope) (t : ℕ) (e : Expr) → Before (reference_at t scope) (spec.Ref t e) (Is (codes ",") then IsExpr scope e)
reference_reads scope t e =
    bind_before (next_at (codes ",")) (λ c. expr_at scope c.1 >>= λ e. Ok (spec.Ref t e.0, e.1)) tt (spec.Ref t e) _ _ (next_reads (codes ","))
    (last_before scope (λ e. spec.Ref t e) e)

-- Words.

pub other_text : (text other : List ℕ) (ts : List Tok) → has text ts ≡ true → bytes_eq text other ≡ false → has other ts ≡ false
other_text text other [] h d = refl
other_text text other (t ∷ ts) h d = ap (λ b. bytes_eq b other) ((bytes_eq-Decides t.bytes text).0 h) ∙ d

-- a rule behind a word
pub word_first : {B : Type 0} (text : List ℕ) (q : Part) (read : List Tok → Read B) (y : B) (ts us : List Tok) → Before read y q → closes_expr us ≡ true → (Is text then q) ts → (has text (ts ++ us) ≡ true) × (read (behind (ts ++ us)) ≡ Ok (y, us))
word_first text q read y ts us h c (f, b, (t, o, g), p, w) =
    let whole : ts ++ us ≡ t ∷ (b ++ us) = ap (λ x. x ++ us) (w ∙ ap (λ x. x ++ b) g) in
    (subst (λ x. has text x ≡ true) (sym whole) o, subst (λ x. read (behind x) ≡ Ok (y, us)) (sym whole) (h b us c p))

module _ (scope : Scope) (known : Known) where
  at_write : (ts : List Tok) → has (codes "write") ts ≡ true → list_at scope known ts ≡ write_at scope ts
  unfolding list_at
  at_write ts h = rw h refl

  at_call : (ts : List Tok) → has (codes "write") ts ≡ false → has (codes "call") ts ≡ true → list_at scope known ts ≡ call_at scope ts
  unfolding list_at
  at_call ts a h = rw (a, h) refl

  at_ref : (ts : List Tok) → has (codes "write") ts ≡ false → has (codes "call") ts ≡ false → has (codes "ref") ts ≡ true → list_at scope known ts ≡ ref_at scope known ts
  unfolding list_at
  at_ref ts a b h = rw (a, b, h) refl

  at_each : (ts : List Tok) → has (codes "write") ts ≡ false → has (codes "call") ts ≡ false → has (codes "ref") ts ≡ false → list_at scope known ts ≡ each_at scope known ts
  unfolding list_at
  at_each ts a b c = rw (a, b, c) refl

  no_words : (a b c : Bool) → a || b || c ≡ false → (a ≡ false) × (b ≡ false) × (c ≡ false)
  no_words true b c h = cc
  no_words false true c h = cc
  no_words false false true h = cc
  no_words false false false h = (refl, refl, refl)

  iterator_reads : (k : ℕ) → Reads (known_at known.iterators) k (IsIterator known.iterators k)
  iterator_reads k ts us (t, h, w, g) = pick_reads (λ t. known_of known.iterators t.kind t.bytes) (unless_word Unknown) k ts us (t, h, g)

  each_reads : (k : ℕ) (e : Expr) → Reads (each_at scope known) (spec.Each k e) (IsIterator known.iterators k then InBrackets scope e)
  each_reads k e =
      bind_reads (known_at known.iterators) (λ k. bracketed_at (expr_at scope) k.1 >>= λ e. Ok (spec.Each k.0 e.0, e.1)) k (spec.Each k e) _ _ (iterator_reads k)
      (last_reads (bracketed_at (expr_at scope)) (λ e. spec.Each k e) e _ (brackets_read scope e))

  -- the tokens of a list are read as it
  pub list_read : (list : CapSpec) → Before (list_at scope known) list (IsList scope known list)
  list_read (spec.Write a n) ts us c p =
      let w = word_first (codes "write") _ (λ vs. next_at (codes ",") vs >>= λ x. range_at within.Action scope (ts ++ us) x.1) (spec.Write a n) ts us
      (bind_before (next_at (codes ",")) (λ x. range_at within.Action scope (ts ++ us) x.1) tt (spec.Write a n) _ _ (next_reads (codes ",")) (range_reads within.Action scope (ts ++ us) a n)) c p in
      at_write (ts ++ us) w.0 ∙ w.1
  list_read (spec.Call e) ts us c p =
      let w = word_first (codes "call") _ (λ vs. next_at (codes ",") vs >>= λ x. target_at scope x.1) (spec.Call e) ts us
      (bind_before (next_at (codes ",")) (λ x. target_at scope x.1) tt (spec.Call e) _ _ (next_reads (codes ",")) (last_before scope (λ e. spec.Call e) e)) c p in
      at_call (ts ++ us) (other_text (codes "call") (codes "write") (ts ++ us) w.0 refl) w.0 ∙ w.1
  list_read (spec.Ref t e) ts us c p =
      let w = word_first (codes "ref") _ (λ vs. next_at (codes "(") vs >>= λ o. known_at known.reftypes o.1 >>= λ t. next_at (codes ")") t.1 >>= λ c. reference_at t.0 scope c.1) (spec.Ref t e) ts us
      (bind_before (next_at (codes "(")) (λ o. known_at known.reftypes o.1 >>= λ t. next_at (codes ")") t.1 >>= λ c. reference_at t.0 scope c.1) tt (spec.Ref t e) _ _ (next_reads (codes "("))
      (bind_before (known_at known.reftypes) (λ t. next_at (codes ")") t.1 >>= λ c. reference_at t.0 scope c.1) t (spec.Ref t e) _ _ (pick_reads (λ t. known_of known.reftypes t.kind t.bytes) (unless_word Unknown) t)
      (bind_before (next_at (codes ")")) (λ c. reference_at t scope c.1) tt (spec.Ref t e) _ _ (next_reads (codes ")")) (reference_reads scope t e)))) c p in
      at_ref (ts ++ us) (other_text (codes "ref") (codes "write") (ts ++ us) w.0 refl) (other_text (codes "ref") (codes "call") (ts ++ us) w.0 refl) w.0 ∙ w.1
  list_read (spec.Each k e) ts us c (f, b, (t, h, n, g), p, w) =
      let whole : ts ++ us ≡ t ∷ (b ++ us) = ap (λ x. x ++ us) (w ∙ ap (λ x. x ++ b) g) in
      let no = no_words (has (codes "write") (t ∷ [])) (has (codes "call") (t ∷ [])) (has (codes "ref") (t ∷ [])) n in
      at_each (ts ++ us) (subst (λ x. has (codes "write") x ≡ false) (sym whole) no.0) (subst (λ x. has (codes "call") x ≡ false) (sym whole) no.1) (subst (λ x. has (codes "ref") x ≡ false) (sym whole) no.2)
      ∙ each_reads k e ts us (f, b, (t, h, n, g), p, w)

  item_write : (ts : List Tok) → has (codes "write") ts ≡ true → item_list_at scope known ts ≡ range_at within.Iterator scope ts (behind ts)
  unfolding item_list_at
  item_write ts h = rw h refl

  item_call : (ts : List Tok) → has (codes "write") ts ≡ false → has (codes "call") ts ≡ true → item_list_at scope known ts ≡ target_at scope (behind ts)
  unfolding item_list_at
  item_call ts a h = rw (a, h) refl

  item_ref : (ts : List Tok) → has (codes "write") ts ≡ false → has (codes "call") ts ≡ false → has (codes "ref") ts ≡ true → item_list_at scope known ts ≡ ref_item_at scope known ts
  unfolding item_list_at
  item_ref ts a b h = rw (a, b, h) refl

  -- the tokens of an item's list are read as it
  pub item_list_read : (list : CapSpec) → Before (item_list_at scope known) list (IsItemList scope known list)
  item_list_read (spec.Write a n) ts us c p =
      let w = word_first (codes "write") _ (range_at within.Iterator scope (ts ++ us)) (spec.Write a n) ts us (range_reads within.Iterator scope (ts ++ us) a n) c p in
      item_write (ts ++ us) w.0 ∙ w.1
  item_list_read (spec.Call e) ts us c p =
      let w = word_first (codes "call") _ (target_at scope) (spec.Call e) ts us (last_before scope (λ e. spec.Call e) e) c p in
      item_call (ts ++ us) (other_text (codes "call") (codes "write") (ts ++ us) w.0 refl) w.0 ∙ w.1
  item_list_read (spec.Ref t e) ts us c p =
      let w = word_first (codes "ref") _ (λ vs. known_at known.reftypes vs >>= λ t. reference_at t.0 scope t.1) (spec.Ref t e) ts us
      (bind_before (known_at known.reftypes) (λ t. reference_at t.0 scope t.1) t (spec.Ref t e) _ _ (pick_reads (λ t. known_of known.reftypes t.kind t.bytes) (unless_word Unknown) t) (reference_reads scope t e)) c p in
      item_ref (ts ++ us) (other_text (codes "ref") (codes "write") (ts ++ us) w.0 refl) (other_text (codes "ref") (codes "call") (ts ++ us) w.0 refl) w.0 ∙ w.1
  item_list_read (spec.Each k e) ts us c p = absurd p
