-- A word that names nothing begins no expression.
use Rattle.std.proofs.Common.{◌≡◌, ◌∙◌, ℕ, suc, true, false, Option, Some, None, List, [], ◌∷◌, ◌++◌, All, bytes_eq, codes, refl, sym, ap, subst, true≢false}
use Rattle.std.specs.Prelude.{slice_index_or, option_map}
use Rattle.std.proofs.lemmas.Bool.{false_from_ne_true}
use Rattle.std.proofs.lemmas.List.Elements.{All-get_or, All-map}
use Rattle.std.proofs.lemmas.Slice.Eq.{bytes_eq-Decides}
use Rattle.lx_words.specs.declared.token.TokenKind.{TokenKind}
use Rattle.lx_words.specs.declared.token.TokenKind.TheVariants as kinds
use Rattle.lx_annot.specs.declared.expr.Ty.{Ty}
use Rattle.lx_annot.specs.declared.interface.Parameter.{Parameter}
use Rattle.lx_annot.specs.Expr.{Expr, Number}
use Rattle.lx_annot_expressions.specs.Tokens.{Tok}
use Rattle.lx_annot_expressions.specs.Reading.{has, number_of}
use Rattle.lx_annot_expressions.specs.Exprs.{Scope, greatest_number, param_at, names_of_params, place_of, named, flat_of}
use Rattle.lx_annot_expressions.specs.Operators.{levels, prefix_next}
use Rattle.lx_annot_expressions.specs.Grammar.{Form, Flat, Bracket, Load, Prefix, Joined, IsForm, IsExpr}
use Rattle.lx_annot_terms.specs.Signatures.{is_reserved}
use Rattle.lx_annot_laws.proofs.GrammarNames.{known_there}
use Rattle.lx_annot_laws.specs.Says.{tok}
use Rattle.lx_annot_laws.specs.PrintedPartLaws.{AreFree}
use Rattle.lx_annot_laws.proofs.Named.{known_named}

not_there : (params : List Parameter) → AreFree params → (word : List ℕ) → is_reserved (tok kinds.Word word ∷ []) ≡ true → (o : Option ℕ) → place_of params word ≡ o → o ≡ None
not_there params free word reserved None at = refl
not_there params free word reserved (Some k) at =
    let names = names_of_params params in
    let same : slice_index_or names k [] ≡ word = (known_named names kinds.Word word k at).1 in
    let lt = known_there names k (tok kinds.Word word ∷ []) (tok kinds.Word word, at, refl) in
    let all : All (λ name. is_reserved (tok kinds.Word name ∷ []) ≡ false) names = All-map (λ name. is_reserved (tok kinds.Word name ∷ []) ≡ false) (λ (p : Parameter). p.name) params free in
    let not : is_reserved (tok kinds.Word (slice_index_or names k []) ∷ []) ≡ false = All-get_or (λ name. is_reserved (tok kinds.Word name ∷ []) ≡ false) names k [] lt all in
    absurd (true≢false (sym reserved ∙ ap (λ b. is_reserved (tok kinds.Word b ∷ [])) (sym same) ∙ not))

-- Words that are neither names nor marks nor numbers of expressions.
record IsStrange (scope : Scope) (word : List ℕ) : Type 0 where
  unnamed : named scope word ≡ None
  no_number : number_of greatest_number kinds.Number word ≡ None
  no_prefix : prefix_next (tok kinds.Word word ∷ []) ≡ None
  no_bracket : bytes_eq (codes "(") word ≡ false
  no_load : bytes_eq (codes "load64") word ≡ false

-- the tokens begin with another one than this word
abbrev BeginsElse : List ℕ → List Tok → Type 0
BeginsElse word ts = (t : Tok) × (us : List Tok) × (ts ≡ t ∷ us) × (bytes_eq t.bytes word ≡ false)

module _ (scope : Scope) (word : List ℕ) (is : IsStrange scope word) where
  no_flat : (k : TokenKind) (e : Expr) → flat_of scope k word ≡ Some e → ⊥
  no_flat kinds.Word e h = let never : None ≡ Some e = sym is.unnamed ∙ h in cc
  no_flat kinds.Number e h = let never : None ≡ Some e = ap (option_map Number) (sym is.no_number) ∙ h in cc
  no_flat kinds.Local e h = cc
  no_flat kinds.Global e h = cc
  no_flat kinds.Mark e h = cc
  no_flat kinds.Text e h = cc
  no_flat kinds.Bytes e h = cc

  first_else : (t : Tok) (a b ts : List Tok) → a ≡ t ∷ [] → ts ≡ a ++ b → bytes_eq t.bytes word ≡ false → BeginsElse word ts
  first_else t a b ts e w h = (t, b, w ∙ ap (λ v. v ++ b) e, h)

  else_by : (text : List ℕ) (t : Tok) → bytes_eq text word ≡ false → has text (t ∷ []) ≡ true → bytes_eq t.bytes word ≡ false
  else_by text t other h = ap (λ b. bytes_eq b word) ((bytes_eq-Decides t.bytes text).0 h) ∙ other

  form_begins : (f : Form) (level : ℕ) (e : Expr) (ts : List Tok) → IsForm scope f level e ts → BeginsElse word ts
  form_begins Flat level e ts (t, h, s, g) =
      (t, [], g, false_from_ne_true (bytes_eq t.bytes word) (λ same. no_flat t.kind e (subst (λ b. flat_of scope t.kind b ≡ Some e) ((bytes_eq-Decides t.bytes word).0 same) h)))
  form_begins (Bracket f) level e ts (a, b, (t, h, g), more, v) = first_else t a b ts g v (else_by (codes "(") t is.no_bracket h)
  form_begins (Load f) level e ts (x, eq, (a, b, (t, h, g), more, v)) = first_else t a b ts g v (else_by (codes "load64") t is.no_load h)
  form_begins (Prefix f) level e ts (m, x, eq, (a, b, (t, h, g), more, v)) =
      first_else t a b ts g v (false_from_ne_true (bytes_eq t.bytes word) (λ same.
      let never : None ≡ Some m = sym is.no_prefix ∙ sym (ap (λ b. prefix_next (tok kinds.Word b ∷ [])) ((bytes_eq-Decides t.bytes word).0 same)) ∙ h in
      let impossible : ⊥ = cc in
      impossible))
  form_begins (Joined k f g) level e ts (lt, m, x, y, eq, (a, b, left, more, v)) =
      let l = form_begins f (suc k) x a left in
      (l.0, l.1 ++ b, v ∙ ap (λ us. us ++ b) l.2, l.3)

  begins_else : (e : Expr) (ts : List Tok) → IsExpr scope e ts → has word ts ≡ false
  begins_else e ts (f, h) = let l = form_begins f levels e ts h in ap (has word) l.2 ∙ l.3

strange : (params : List Parameter) (ret : Option Ty) → AreFree params → (word : List ℕ) → is_reserved (tok kinds.Word word ∷ []) ≡ true → bytes_eq word (codes "return") ≡ false
    → named (record { params = params; ret = ret }) word ≡ None
strange params ret free word reserved other =
    let none : place_of params word ≡ None = not_there params free word reserved (place_of params word) refl in
    rw other (ap (param_at params) none)

-- no expression begins with `shared`, or with `global`
pub no_shared : (params : List Parameter) (ret : Option Ty) → AreFree params → (e : Expr) (ts : List Tok) → IsExpr (record { params = params; ret = ret }) e ts → has (codes "shared") ts ≡ false
no_shared params ret free e ts h =
    begins_else (record { params = params; ret = ret }) (codes "shared")
    (record { unnamed = strange params ret free (codes "shared") refl refl; no_number = refl; no_prefix = refl; no_bracket = refl; no_load = refl }) e ts h

pub no_global : (params : List Parameter) (ret : Option Ty) → AreFree params → (e : Expr) (ts : List Tok) → IsExpr (record { params = params; ret = ret }) e ts → has (codes "global") ts ≡ false
no_global params ret free e ts h =
    begins_else (record { params = params; ret = ret }) (codes "global")
    (record { unnamed = strange params ret free (codes "global") refl refl; no_number = refl; no_prefix = refl; no_bracket = refl; no_load = refl }) e ts h
