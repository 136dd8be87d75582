-- The printed text of an expression says it, where the expression was read.
use Rattle.std.proofs.Common.{◌≡◌, ◌∙◌, ℕ, suc, ◌<◌, Bool, true, false, Option, Some, None, List, [], ◌∷◌, ◌++◌, bytes_eq, if◌then◌else◌, codes, refl, sym, ap, subst, arith}
use Rattle.std.specs.Prelude.{slice_get, slice_index_or, option_map}
use Rattle.std.proofs.lemmas.Option.{slice_get_within}
use Rattle.std.proofs.lemmas.Slice.Eq.{bytes_eq-Decides}
use Rattle.lx_words.specs.declared.token.TokenRule.TheVariants as rules
use Rattle.lx_words.specs.declared.token.TokenKind.{TokenKind}
use Rattle.lx_words.specs.declared.token.TokenKind.TheVariants as kinds
use Rattle.lx_words.specs.declared.token.Lexeme.TheVariants.{Token}
use Rattle.lx_words.specs.Lexemes.{lexeme_of, lexeme_behind}
use Rattle.lx_words.specs.Text.{decimal_text}
use Rattle.lx_words.specs.TextLaws.{NumberTexts}
use Rattle.lx_annot.specs.declared.expr.Ty.{Ty}
use Rattle.lx_annot.specs.declared.expr.Ty.TheVariants as ty
use Rattle.lx_annot.specs.declared.expr.Mark.{Mark}
use Rattle.lx_annot.specs.declared.interface.Parameter.{Parameter}
use Rattle.lx_annot.specs.Canonical.{mark_text}
use Rattle.lx_annot.specs.Expr.{Expr, Number, Param, Return, Load64, Unary, Binary}
use Rattle.lx_annot_expressions.specs.Tokens.{Tok}
use Rattle.lx_annot_expressions.specs.Reading.{number_of}
use Rattle.lx_annot_expressions.specs.Exprs.{Scope, greatest_number, param_at, names_of_params, place_of, named, flat_of}
use Rattle.lx_annot_expressions.specs.Operators.{levels, operator_next, prefix_next}
use Rattle.lx_annot_expressions.specs.Grammar.{◌then◌, IsOperator, IsPrefix, Form, Flat, Bracket, Load, Prefix, Joined, IsForm, IsExpr, InBrackets}
use Rattle.lx_annot_terms.specs.ItemReading.{scope_of_items}
use Rattle.lx_cproto_print.specs.Printed.{expr_text}
use Rattle.lx_annot_laws.specs.Says.{is_opening, tok, Says, IsWord, AreLexed}
use Rattle.lx_annot_laws.proofs.Pieces.{token, reads_as, prefixed, joined, bracketed, called}
use Rattle.lx_annot_laws.proofs.Named.{known_named, lexed_parts, number_lexed, number_said, number_within}
use Rattle.lx_annot_laws.proofs.Spelled.{mark_lexed, operator_again, prefix_again, word_opens, number_opens, no_sign, word_no_mark, number_no_mark}

-- Names of one scope are, as they are printed, the same in another.
pub record Names (scope other : Scope) : Type 0 where
  pub said : (bytes : List ℕ) (e : Expr) → IsWord bytes → named scope bytes ≡ Some e → IsWord (expr_text other.params e) × (named other (expr_text other.params e) ≡ Some e)

-- The text of an expression says it at each level, and begins as an expression does.
pub record Spoken (other : Scope) (e : Expr) : Type 0 where
  pub form : Form
  pub says : (level : ℕ) → Says (expr_text other.params e) (IsForm other form level e)
  pub opens : is_opening (expr_text other.params e) ≡ true

-- Names.

returned : (scope : Scope) (o : Option Ty) (bytes : List ℕ) (e : Expr) → bytes_eq bytes (codes "return") ≡ true → option_map Return o ≡ Some e → expr_text scope.params e ≡ bytes
returned scope None bytes e h is = cc
returned scope (Some t) bytes e h is =
    let same : Return t ≡ e = cc in
    subst (λ x. expr_text scope.params x ≡ bytes) same (sym ((bytes_eq-Decides bytes (codes "return")).0 h))

param_by : (params : List Parameter) (k : ℕ) (o : Option Parameter) (bytes : List ℕ) (e : Expr) → slice_index_or (names_of_params params) k [] ≡ bytes → option_map (λ (p : Parameter). Param k p.ty) o ≡ Some e → expr_text params e ≡ bytes
param_by params k None bytes e h is = cc
param_by params k (Some p) bytes e h is = let same : Param k p.ty ≡ e = cc in subst (λ x. expr_text params x ≡ bytes) same h

placed : (params : List Parameter) (o : Option ℕ) (bytes : List ℕ) (e : Expr) → place_of params bytes ≡ o → param_at params o ≡ Some e → expr_text params e ≡ bytes
placed params None bytes e at is = cc
placed params (Some k) bytes e at is = param_by params k (slice_get params k) bytes e (known_named (names_of_params params) kinds.Word bytes k at).1 is

printed_by : (scope : Scope) (b : Bool) (bytes : List ℕ) (e : Expr) → bytes_eq bytes (codes "return") ≡ b → (if b then option_map Return scope.ret else param_at scope.params (place_of scope.params bytes)) ≡ Some e → expr_text scope.params e ≡ bytes
printed_by scope true bytes e h is = returned scope scope.ret bytes e h is
printed_by scope false bytes e h is = placed scope.params (place_of scope.params bytes) bytes e refl is

-- what a name means is printed as the name
pub printed_name : (scope : Scope) (bytes : List ℕ) (e : Expr) → named scope bytes ≡ Some e → expr_text scope.params e ≡ bytes
printed_name scope bytes e is = printed_by scope (bytes_eq bytes (codes "return")) bytes e refl is

pub own_names : (scope : Scope) → Names scope scope
own_names scope = record {
  said = λ bytes e word is.
      let same : bytes ≡ expr_text scope.params e = sym (printed_name scope bytes e is) in
      (subst IsWord same word, subst (λ b. named scope b ≡ Some e) same is);
}

-- Names of items.

abbrev the_param : List ℕ → Parameter
the_param q = record { name = q; ty = ty.Ptr }

only_by : (q : List ℕ) (k : ℕ) (o : Option Parameter) (e : Expr) → slice_get (the_param q ∷ []) k ≡ o → option_map (λ (p : Parameter). Param k p.ty) o ≡ Some e → e ≡ Param 0 ty.Ptr
only_by q k None e at is = cc
only_by q k (Some p) e at is =
    let first : k ≡ 0 = let lt = slice_get_within (the_param q ∷ []) k p at in omega (arith, lt) in
    let own : Some (the_param q) ≡ Some p = subst (λ n. slice_get (the_param q ∷ []) n ≡ Some p) first at in
    let same : Param k p.ty ≡ e = cc in
    let param : the_param q ≡ p = cc in
    sym same ∙ ap (λ n. Param n p.ty) first ∙ ap (λ (x : Parameter). Param 0 x.ty) (sym param)

only_placed : (q : List ℕ) (o : Option ℕ) (e : Expr) → param_at (the_param q ∷ []) o ≡ Some e → e ≡ Param 0 ty.Ptr
only_placed q None e is = cc
only_placed q (Some k) e is = only_by q k (slice_get (the_param q ∷ []) k) e refl is

only_named : (q : List ℕ) (b : Bool) (bytes : List ℕ) (e : Expr) → (if b then option_map Return None else param_at (the_param q ∷ []) (place_of (the_param q ∷ []) bytes)) ≡ Some e → e ≡ Param 0 ty.Ptr
only_named q true bytes e is = cc
only_named q false bytes e is = only_placed q (place_of (the_param q ∷ []) bytes) e is

a_p : IsWord (codes "p")
unfolding lexeme_behind
a_p = refl

-- the parameter of items, whatever its name was
pub item_names : (q : List ℕ) → Names (scope_of_items q) (scope_of_items (codes "p"))
item_names q = record {
  said = λ bytes e word is.
      let only : Param 0 ty.Ptr ≡ e = sym (only_named q (bytes_eq bytes (codes "return")) bytes e is) in
      subst (λ x. IsWord (expr_text (the_param (codes "p") ∷ []) x) × (named (scope_of_items (codes "p")) (expr_text (the_param (codes "p") ∷ []) x) ≡ Some x)) only (a_p, refl);
}

-- Tokens.

pub lexed_cut : (ts a b : List Tok) → ts ≡ a ++ b → AreLexed ts → AreLexed a × AreLexed b
lexed_cut ts a b e l = lexed_parts a b (subst AreLexed e l)

-- what is in brackets
pub within_brackets : (ts a b c d : List Tok) → AreLexed ts → ts ≡ a ++ b → b ≡ c ++ d → AreLexed c
within_brackets ts a b c d l v w = (lexed_cut b c d w (lexed_cut ts a b v l).1).0

module _ (texts : NumberTexts) (scope other : Scope) (names : Names scope other) where
  -- one token
  one_flat : (k : TokenKind) (e : Expr) → lexeme_of rules.Interface (expr_text other.params e) ≡ Some (Token k) → (k ≡ kinds.Mark → ⊥) → is_opening (expr_text other.params e) ≡ true → flat_of other k (expr_text other.params e) ≡ Some e → Spoken other e
  one_flat k e is apart opens said = record {
    form = Flat;
    says = λ level. token {p = IsForm other Flat level e} k (expr_text other.params e) is (tok k (expr_text other.params e), said, no_sign k (expr_text other.params e) is apart, refl);
    opens = opens;
  }

  a_number : (o : Option ℕ) (bytes : List ℕ) (e : Expr) → number_of greatest_number kinds.Number bytes ≡ o → option_map Number o ≡ Some e → Spoken other e
  a_number None bytes e read h = cc
  a_number (Some n) bytes e read h =
      let same : Number n ≡ e = cc in
      let is = number_lexed texts n in
      let again = number_said texts greatest_number n (omega arith) (number_within greatest_number kinds.Number bytes n read).1 in
      subst (Spoken other) same (one_flat kinds.Number (Number n) is number_no_mark (number_opens (decimal_text n) is) (ap (option_map Number) again))

  flat_spoken : (k : TokenKind) (bytes : List ℕ) (e : Expr) → lexeme_of rules.Interface bytes ≡ Some (Token k) → flat_of scope k bytes ≡ Some e → Spoken other e
  flat_spoken kinds.Number bytes e is h = a_number (number_of greatest_number kinds.Number bytes) bytes e refl h
  flat_spoken kinds.Word bytes e is h =
      let said = names.said bytes e is h in
      one_flat kinds.Word e said.0 word_no_mark (word_opens (expr_text other.params e) said.0) said.1
  flat_spoken kinds.Local bytes e is h = cc
  flat_spoken kinds.Global bytes e is h = cc
  flat_spoken kinds.Mark bytes e is h = cc
  flat_spoken kinds.Text bytes e is h = cc
  flat_spoken kinds.Bytes bytes e is h = cc

  -- Forms.

  a_load : IsWord (codes "load64")
  unfolding lexeme_behind
  a_load = refl

  load_spoken : (e : Expr) → Spoken other e → Spoken other (Load64 e)
  load_spoken e s = record {
    form = Load s.form;
    says = λ level. reads_as {q = IsForm other (Load s.form) level (Load64 e)} (λ ts is. (e, refl, is)) (called a_load (s.says levels));
    opens = refl;
  }

  prefix_spoken : (m : Mark) (e : Expr) → prefix_next (tok kinds.Mark (mark_text m) ∷ []) ≡ Some m → Spoken other e → Spoken other (Unary m e)
  prefix_spoken m e is s =
      let inner : Says (mark_text m ++ expr_text other.params e) (IsForm other (Prefix s.form) levels (Unary m e)) =
      reads_as {p = IsPrefix m then IsForm other s.form 0 e} (λ ts h. (m, e, refl, h)) (prefixed {p = IsForm other s.form 0 e} {q = IsPrefix m} (mark_text m) (mark_lexed m) (tok kinds.Mark (mark_text m), is, refl) s.opens (s.says 0)) in
      record { form = Bracket (Prefix s.form); says = λ level. bracketed inner; opens = refl }

  joined_spoken : (k : ℕ) (m : Mark) (a b : Expr) → operator_next k (tok kinds.Mark (mark_text m) ∷ []) ≡ Some m → k < levels → Spoken other a → Spoken other b → Spoken other (Binary m a b)
  joined_spoken k m a b is lt x y =
      let operator : Says (mark_text m) (IsOperator k m) = token {p = IsOperator k m} kinds.Mark (mark_text m) (mark_lexed m) (tok kinds.Mark (mark_text m), is, refl) in
      let inner : Says (expr_text other.params a ++ codes " " ++ mark_text m ++ codes " " ++ expr_text other.params b) (IsForm other (Joined k x.form y.form) levels (Binary m a b)) =
      reads_as {p = IsForm other x.form (suc k) a then IsOperator k m then IsForm other y.form k b} (λ ts h. (lt, m, a, b, refl, h)) (joined (x.says (suc k)) operator (y.says k)) in
      record { form = Bracket (Joined k x.form y.form); says = λ level. bracketed inner; opens = refl }

  form_spoken : (f : Form) (level : ℕ) (e : Expr) (ts : List Tok) → AreLexed ts → IsForm scope f level e ts → Spoken other e
  form_spoken Flat level e ts l (t, h, s, g) = flat_spoken t.kind t.bytes e (subst AreLexed g l).0 h
  form_spoken (Bracket f) level e ts l (a, b, o, (c, d, x, p, w), v) = form_spoken f levels e c (within_brackets ts a b c d l v w) x
  form_spoken (Load f) level e ts l (x, eq, (a, b, word, (c, d, o, (k, m, y, p, w), v), u)) =
      subst (Spoken other) (sym eq) (load_spoken x (form_spoken f levels x k (lexed_cut d k m w (lexed_cut b c d v (lexed_cut ts a b u l).1).1).0 y))
  form_spoken (Prefix f) level e ts l (m, x, eq, (a, b, (t, h, g), y, w)) =
      subst (Spoken other) (sym eq) (prefix_spoken m x (prefix_again t m h) (form_spoken f 0 x b (lexed_cut ts a b w l).1 y))
  form_spoken (Joined k f g) level e ts l (lt, m, x, y, eq, (a, b, left, (c, d, (t, h, z), right, w), v)) =
      let cut = lexed_cut ts a b v l in
      let again = operator_again k t m h in
      subst (Spoken other) (sym eq) (joined_spoken k m x y again.0 again.1 (form_spoken f (suc k) x a cut.0 left) (form_spoken g k y d (lexed_cut b c d w cut.1).1 right))

  pub expr_spoken : (e : Expr) (ts : List Tok) → AreLexed ts → IsExpr scope e ts → Spoken other e
  expr_spoken e ts l (f, is) = form_spoken f levels e ts l is

  pub expr_says : (e : Expr) (ts : List Tok) → AreLexed ts → IsExpr scope e ts → Says (expr_text other.params e) (IsExpr other e)
  expr_says e ts l is = let s = expr_spoken e ts l is in reads_as {p = IsForm other s.form levels e} {q = IsExpr other e} (λ us h. (s.form, h)) (s.says levels)

  -- what stands in brackets says the expression in them
  pub brackets_say : (e : Expr) (ts : List Tok) → AreLexed ts → InBrackets scope e ts → Says (codes "(" ++ expr_text other.params e ++ codes ")") (InBrackets other e)
  brackets_say e ts l (a, b, o, (c, d, x, p, w), v) = bracketed (expr_says e c (within_brackets ts a b c d l v w) x)
