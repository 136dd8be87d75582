-- What is in the grammar names what is there.
use Rattle.std.proofs.Common.{◌≡◌, ℕ, suc, ◌<◌, Bool, true, false, cond, nat_lt, Option, Some, None, List, length, refl, sym, ap, ◌∙◌, subst, bytes_eq, codes}
use Rattle.std.specs.Prelude.{if◌then◌else◌, slice_get, position}
use Rattle.std.specs.List.{position_or_len}
use Rattle.std.specs.Option.{option_map}
use Rattle.std.proofs.lemmas.Option.{slice_get-map}
use Rattle.lx_words.specs.declared.token.TokenKind.{TokenKind}
use Rattle.lx_words.specs.declared.token.TokenKind.TheVariants as kinds
use Rattle.lx_words.proofs.Options.{within_by}
use Rattle.lx_annot.specs.declared.expr.Ty.{Ty}
use Rattle.lx_annot.specs.declared.action.CapSpec.{CapSpec}
use Rattle.lx_annot.specs.declared.action.CapSpec.TheVariants as spec
use Rattle.lx_annot.specs.declared.interface.Parameter.{Parameter}
use Rattle.lx_annot.specs.declared.interface.Item.{Item}
use Rattle.lx_annot.specs.Expr.{Expr, Number, Param, Return}
use Rattle.lx_annot_expressions.specs.Tokens.{Tok}
use Rattle.lx_annot_expressions.specs.Reading.{number_of}
use Rattle.lx_annot_expressions.specs.Names.{known_of}
use Rattle.lx_annot_expressions.specs.Exprs.{Scope, greatest_number, param_at, place_of, flat_of}
use Rattle.lx_annot_expressions.specs.Grammar.{Form, Flat, Bracket, Load, Prefix, Joined, ◌then◌, IsForm, IsExpr, InBrackets}
use Rattle.lx_annot_expressions.specs.Operators.{levels}
use Rattle.lx_annot_terms.specs.Lists.{Known}
use Rattle.lx_annot_terms.specs.Grammar.{IsKnown, IsItemList, IsItemBy, IsItem}
use Rattle.lx_annot.specs.Lawful.{Nameable, NamesOnly, Declared, IsLawfulList, IsLawfulCondition, types_of}

-- what may be named in a scope
abbrev pub nameable : Scope → Nameable
nameable scope = record { params = types_of scope.params; ret = scope.ret }

module _ (scope : Scope) where
  abbrev Fine : Expr → Type 0
  Fine e = NamesOnly (nameable scope) e

  number_named : (o : Option ℕ) (e : Expr) → option_map Number o ≡ Some e → Fine e
  number_named (Some n) e h = let same : Number n ≡ e = cc in subst Fine same tt
  number_named None e h = cc

  return_named : (o : Option Ty) (e : Expr) → scope.ret ≡ o → option_map Return o ≡ Some e → Fine e
  return_named (Some t) e is h = let same : Return t ≡ e = cc in subst Fine same is
  return_named None e is h = cc

  param_found : (k : ℕ) (o : Option Parameter) (e : Expr) → slice_get scope.params k ≡ o → option_map (λ (p : Parameter). Param k p.ty) o ≡ Some e → Fine e
  param_found k (Some p) e is h =
      let same : Param k p.ty ≡ e = cc in
      subst Fine same (slice_get-map (λ (q : Parameter). q.ty) scope.params k ∙ ap (option_map (λ (q : Parameter). q.ty)) is)
  param_found k None e is h = cc

  param_named : (o : Option ℕ) (e : Expr) → param_at scope.params o ≡ Some e → Fine e
  param_named (Some k) e h = param_found k (slice_get scope.params k) e refl h
  param_named None e h = cc

  name_named : (b : Bool) (name : List ℕ) (e : Expr) → (if b then option_map Return scope.ret else param_at scope.params (place_of scope.params name)) ≡ Some e → Fine e
  name_named true name e h = return_named scope.ret e refl h
  name_named false name e h = param_named (place_of scope.params name) e h

  flat_named : (kind : TokenKind) (bytes : List ℕ) (e : Expr) → flat_of scope kind bytes ≡ Some e → Fine e
  flat_named kinds.Number bytes e h = number_named (number_of greatest_number kinds.Number bytes) e h
  flat_named kinds.Word bytes e h = name_named (bytes_eq bytes (codes "return")) bytes e h
  flat_named kinds.Local bytes e h = cc
  flat_named kinds.Global bytes e h = cc
  flat_named kinds.Mark bytes e h = cc
  flat_named kinds.Text bytes e h = cc
  flat_named kinds.Bytes bytes e h = cc

  form_named : (f : Form) (level : ℕ) (e : Expr) (ts : List Tok) → IsForm scope f level e ts → Fine e
  form_named Flat level e ts (t, h, s, g) = flat_named t.kind t.bytes e h
  form_named (Bracket f) level e ts (a, b, o, (c, d, is, p, w), v) = form_named f levels e c is
  form_named (Load f) level e ts (x, eq, (a, b, l, (c, d, o, (k, m, is, p, w), v), u)) = subst Fine (sym eq) (form_named f levels x k is)
  form_named (Prefix f) level e ts (m, x, eq, (a, b, o, is, w)) = subst Fine (sym eq) (form_named f 0 x b is)
  form_named (Joined k f g) level e ts (lt, m, a, b, eq, (c, d, left, (o, r, mark, right, w), v)) =
      subst Fine (sym eq) (form_named f (suc k) a c left, form_named g k b r right)

  pub expr_named : (e : Expr) (ts : List Tok) → IsExpr scope e ts → Fine e
  expr_named e ts (f, is) = form_named f levels e ts is

  pub brackets_named : (e : Expr) (ts : List Tok) → InBrackets scope e ts → Fine e
  brackets_named e ts (a, b, o, (c, d, is, p, w), v) = expr_named e c is

-- Numbers of names.

position_within : (p : List ℕ → Bool) (names : List (List ℕ)) (k : ℕ) → position p names ≡ Some k → k < length names
position_within p names k h = within_by (nat_lt (position_or_len p names) (length names)) (position_or_len p names) (length names) k refl h

pub known_within : (names : List (List ℕ)) (kind : TokenKind) (bytes : List ℕ) (k : ℕ) → known_of names kind bytes ≡ Some k → k < length names
known_within names kinds.Word bytes k h = position_within (bytes_eq bytes) names k h
known_within names kinds.Number bytes k h = cc
known_within names kinds.Local bytes k h = cc
known_within names kinds.Global bytes k h = cc
known_within names kinds.Mark bytes k h = cc
known_within names kinds.Text bytes k h = cc
known_within names kinds.Bytes bytes k h = cc

pub known_there : (names : List (List ℕ)) (k : ℕ) (ts : List Tok) → IsKnown names k ts → k < length names
known_there names k ts (t, h, g) = known_within names t.kind t.bytes k h

-- Items.

module _ (scope : Scope) (known : Known) where
  abbrev item_there : Declared
  item_there = record { reftypes = length known.reftypes; iterators = 0 }

  item_list_named : (list : CapSpec) (ts : List Tok) → IsItemList scope known list ts → IsLawfulList item_there (nameable scope) list
  item_list_named (spec.Write a n) ts (f, b, w, (f1, b1, pa, (f2, b2, c, pn, w2), w1), v) = (expr_named scope a f1 pa, expr_named scope n b2 pn)
  item_list_named (spec.Call e) ts (f, b, w, is, v) = expr_named scope e b is
  item_list_named (spec.Ref t e) ts (f, b, w, (f1, b1, k, (f2, b2, c, is, w2), w1), v) = (known_there known.reftypes t f1 k, expr_named scope e b2 is)
  item_list_named (spec.Each k e) ts is = absurd is

  item_by : (o : Option Expr) (list : CapSpec) (ts : List Tok) → IsItemBy scope known o list ts → IsLawfulCondition (nameable scope) o × IsLawfulList item_there (nameable scope) list
  item_by None list ts is = (tt, item_list_named list ts is)
  item_by (Some e) list ts (f, b, w, (f1, b1, c, is, w1), v) = (brackets_named scope e f1 c, item_list_named list b1 is)

  pub item_named : (x : Item) (ts : List Tok) → IsItem scope known x ts → IsLawfulCondition (nameable scope) x.cond × IsLawfulList item_there (nameable scope) x.cap
  item_named x ts is = item_by x.cond x.cap ts is
