-- The same expressions and items of tokens with their words given anew.
use Rattle.std.proofs.Common.{◌≡◌, ℕ, Bool, suc, true, List, ◌++◌, map, codes, refl, ap, ◌∙◌}
use Rattle.std.specs.Prelude.{Option, Some, None}
use Rattle.std.proofs.lemmas.List.{map-append}
use Rattle.lx_annot.specs.declared.action.CapSpec.{CapSpec}
use Rattle.lx_annot.specs.declared.action.CapSpec.TheVariants as spec
use Rattle.lx_annot.specs.declared.interface.Item.{Item}
use Rattle.lx_annot.specs.Expr.{Expr}
use Rattle.lx_annot_expressions.specs.Tokens.{Tok}
use Rattle.lx_annot_expressions.specs.Exprs.{Scope}
use Rattle.lx_annot_expressions.specs.Operators.{levels}
use Rattle.lx_annot_expressions.specs.Grammar.{Is, Form, Flat, Bracket, Load, Prefix, Joined, IsForm, IsExpr, InBrackets}
use Rattle.lx_annot_terms.specs.Lists.{Known}
use Rattle.lx_annot_terms.specs.Grammar.{IsKnown, IsItemList, IsItemBy, IsItem}
use Rattle.lx_annot_laws.specs.Renaming.{is_language, IsRenaming, renamed}
use Rattle.lx_annot_laws.proofs.RenamedWords.{anew_scope, has_same, sign_same, operator_same, prefix_same, known_same, flat_same}

abbrev pub anew_known : (List ℕ → List ℕ) → Known → Known
anew_known r known = record { reftypes = map r known.reftypes; iterators = map r known.iterators; lends = known.lends }

module _ {lends : Bool} (r : List ℕ → List ℕ) (is : IsRenaming lends r) where
  abbrev pub R : List Tok → List Tok
  R ts = map (renamed r) ts

  pub cut : (ts a b : List Tok) → ts ≡ a ++ b → R ts ≡ R a ++ R b
  cut ts a b e = ap R e ∙ map-append (renamed r) a b

  pub word : (text : List ℕ) → is_language lends text ≡ true → (ts : List Tok) → Is text ts → Is text (R ts)
  word text l ts (t, h, e) = (renamed r t, has_same r is text l t ∙ h, ap R e)

  form : (scope : Scope) (f : Form) (level : ℕ) (e : Expr) (ts : List Tok) → IsForm scope f level e ts → IsForm (anew_scope r scope) f level e (R ts)
  form scope Flat level e ts (t, h, s, g) = (renamed r t, flat_same r is scope t.kind t.bytes ∙ h, sign_same r is t ∙ s, ap R g)
  form scope (Bracket f) level e ts (a, b, o, (c, d, x, p, w), v) =
      (R a, R b, word (codes "(") refl a o, (R c, R d, form scope f levels e c x, word (codes ")") refl d p, cut b c d w), cut ts a b v)
  form scope (Load f) level e ts (x, eq, (a, b, l, (c, d, o, (k, m, y, p, w), v), u)) =
      (x, eq, (R a, R b, word (codes "load64") refl a l, (R c, R d, word (codes "(") refl c o, (R k, R m, form scope f levels x k y, word (codes ")") refl m p, cut d k m w), cut b c d v), cut ts a b u))
  form scope (Prefix f) level e ts (m, x, eq, (a, b, (t, h, g), y, w)) =
      (m, x, eq, (R a, R b, (renamed r t, prefix_same r is t ∙ h, ap R g), form scope f 0 x b y, cut ts a b w))
  form scope (Joined k f g) level e ts (lt, m, x, y, eq, (a, b, left, (c, d, (t, h, z), right, w), v)) =
      (lt, m, x, y, eq, (R a, R b, form scope f (suc k) x a left, (R c, R d, (renamed r t, operator_same r is k t ∙ h, ap R z), form scope g k y d right, cut b c d w), cut ts a b v))

  pub expr : (scope : Scope) (e : Expr) (ts : List Tok) → IsExpr scope e ts → IsExpr (anew_scope r scope) e (R ts)
  expr scope e ts (f, x) = (f, form scope f levels e ts x)

  pub brackets : (scope : Scope) (e : Expr) (ts : List Tok) → InBrackets scope e ts → InBrackets (anew_scope r scope) e (R ts)
  brackets scope e ts (a, b, o, (c, d, x, p, w), v) =
      (R a, R b, word (codes "(") refl a o, (R c, R d, expr scope e c x, word (codes ")") refl d p, cut b c d w), cut ts a b v)

  pub known_name : (names : List (List ℕ)) (k : ℕ) (ts : List Tok) → IsKnown names k ts → IsKnown (map r names) k (R ts)
  known_name names k ts (t, h, e) = (renamed r t, known_same r is names t.kind t.bytes ∙ h, ap R e)

  item_list : (scope : Scope) (known : Known) (l : CapSpec) (ts : List Tok) → IsItemList scope known l ts → IsItemList (anew_scope r scope) (anew_known r known) l (R ts)
  item_list scope known (spec.Write x n) ts (a, b, w, (c, d, y, (e, f, o, z, m), u), v) =
      (R a, R b, word (codes "write") refl a w, (R c, R d, expr scope x c y, (R e, R f, word (codes ",") refl e o, expr scope n f z, cut d e f m), cut b c d u), cut ts a b v)
  item_list scope known (spec.Call x) ts (a, b, w, y, v) = (R a, R b, word (codes "call") refl a w, expr scope x b y, cut ts a b v)
  item_list scope known (spec.Ref t x) ts (a, b, w, (c, d, n, (e, f, o, y, m), u), v) =
      (R a, R b, word (codes "ref") refl a w, (R c, R d, known_name known.reftypes t c n, (R e, R f, word (codes ",") refl e o, expr scope x f y, cut d e f m), cut b c d u), cut ts a b v)
  item_list scope known (spec.Each k x) ts never = absurd never

  item_by : (scope : Scope) (known : Known) (cond : Option Expr) (l : CapSpec) (ts : List Tok) → IsItemBy scope known cond l ts → IsItemBy (anew_scope r scope) (anew_known r known) cond l (R ts)
  item_by scope known None l ts x = item_list scope known l ts x
  item_by scope known (Some e) l ts (a, b, w, (c, d, o, x, u), v) =
      (R a, R b, word (codes "if") refl a w, (R c, R d, brackets scope e c o, item_list scope known l d x, cut b c d u), cut ts a b v)

  pub item : (scope : Scope) (known : Known) (x : Item) (ts : List Tok) → IsItem scope known x ts → IsItem (anew_scope r scope) (anew_known r known) x (R ts)
  item scope known x ts y = item_by scope known x.cond x.cap ts y
