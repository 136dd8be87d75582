-- The same signatures, items and annotations of tokens with their words given anew.
use Rattle.std.proofs.Common.{◌≡◌, ℕ, Bool, true, false, List, [], ◌∷◌, ◌++◌, map, codes, refl, sym, ap, subst, ◌∙◌}
use Rattle.std.proofs.lemmas.List.{map-append}
use Rattle.lx_annot.specs.declared.expr.Ty.{Ty}
use Rattle.lx_annot.specs.declared.action.Who.{Who}
use Rattle.lx_annot.specs.declared.action.Who.TheVariants as who
use Rattle.lx_annot.specs.declared.action.Annotation.{Annotation}
use Rattle.lx_annot.specs.declared.interface.Parameter.{Parameter}
use Rattle.lx_annot.specs.declared.interface.Item.{Item}
use Rattle.lx_annot_expressions.specs.Tokens.{Tok}
use Rattle.lx_annot_expressions.specs.Reading.{has}
use Rattle.lx_annot_expressions.specs.Exprs.{Scope, names_of_params}
use Rattle.lx_annot_terms.specs.Lists.{Known}
use Rattle.lx_annot_terms.specs.Grammar.{IsItem}
use Rattle.lx_annot_terms.specs.Signatures.{Signature}
use Rattle.lx_annot_terms.specs.Clauses.{scope_before, scope_behind, without_lends}
use Rattle.lx_annot_laws.specs.Parts.{IsFurther, IsType, IsParamName, IsParam, IsParams, IsSignature, IsItems, Clause, Principal, Pre, Post, IsWho, IsClause, IsClauses, IsAnnotation}
use Rattle.lx_annot_laws.specs.Statements.{IsCallable}
use Rattle.lx_annot_laws.specs.Renaming.{is_language, IsRenaming, renamed}
use Rattle.lx_annot_laws.specs.Anew.{anew_param, anew_signature}
use Rattle.lx_annot_laws.proofs.RenamedWords.{anew_scope, has_same, reserved_same, type_same, fresh_anew, params_named}
use Rattle.lx_annot_laws.proofs.RenamedTerms.{anew_known, cut, word, expr, item}
use Rattle.lx_annot_laws.proofs.GrammarActions.{action_anew}

module _ {lends : Bool} (r : List ℕ → List ℕ) (is : IsRenaming lends r) where
  abbrev S : List Tok → List Tok
  S ts = map (renamed r) ts

  slit : (ts a b : List Tok) → ts ≡ a ++ b → S ts ≡ S a ++ S b
  slit ts a b e = cut r is ts a b e

  is_type : (ty : Ty) (ts : List Tok) → IsType ty ts → IsType ty (S ts)
  is_type ty ts (t, h, e) = (renamed r t, type_same r is t.kind t.bytes ∙ h, ap S e)

  pub param_name : (names : List (List ℕ)) (name : List ℕ) (ts : List Tok) → IsParamName names name ts → IsParamName (map r names) (r name) (S ts)
  param_name names name ts (t, h, f, e) = (renamed r t, reserved_same r is t ∙ h, fresh_anew r is names t.kind t.bytes name f, ap S e)

  param : (before : List Parameter) (p : Parameter) (ts : List Tok) → IsParam before p ts → IsParam (map (anew_param r) before) (anew_param r p) (S ts)
  param before p ts (a, b, x, y, e) =
      (S a, S b, is_type p.ty a x, subst (λ names. IsParamName names (r p.name) (S b)) (sym (params_named r is before)) (param_name (names_of_params before) p.name b y), slit ts a b e)

  further : (before ps : List Parameter) (ts : List Tok) → IsFurther (codes ",") IsParam before ps ts → IsFurther (codes ",") IsParam (map (anew_param r) before) (map (anew_param r) ps) (S ts)
  further before [] ts e = ap S e
  further before (p ∷ ps) ts (a, b, m, (c, d, x, y, w), v) =
      (S a, S b, word r is (codes ",") refl a m, (S c, S d, param before p c x, subst (λ q. IsFurther (codes ",") IsParam q (map (anew_param r) ps) (S d)) (map-append (anew_param r) before (p ∷ [])) (further (before ++ p ∷ []) ps d y), slit b c d w), slit ts a b v)

  params : (ps : List Parameter) (ts : List Tok) → IsParams ps ts → IsParams (map (anew_param r) ps) (S ts)
  params [] ts e = ap S e
  params (p ∷ ps) ts (a, b, x, y, e) = (S a, S b, param [] p a x, further (p ∷ []) ps b y, slit ts a b e)

  pub signature : (sig : Signature) (ts : List Tok) → IsSignature sig ts → IsSignature (anew_signature r sig) (S ts)
  signature sig ts (a, b, m, (c, d, x, (e, f, o, (g, h, y, p, k), u), w), v) =
      (S a, S b, word r is (codes ":") refl a m, (S c, S d, is_type sig.ret c x, (S e, S f, word r is (codes "(") refl e o, (S g, S h, params sig.params g y, word r is (codes ")") refl h p, slit f g h k), slit d e f u), slit b c d w), slit ts a b v)

  more_items : (scope : Scope) (known : Known) (before xs : List Item) (ts : List Tok) → IsFurther (codes ";") (λ _. IsItem scope known) before xs ts → IsFurther (codes ";") (λ _. IsItem (anew_scope r scope) (anew_known r known)) before xs (S ts)
  more_items scope known before [] ts e = ap S e
  more_items scope known before (x ∷ xs) ts (a, b, m, (c, d, y, z, w), v) =
      (S a, S b, word r is (codes ";") refl a m, (S c, S d, item r is scope known x c y, more_items scope known (before ++ x ∷ []) xs d z, slit b c d w), slit ts a b v)

  pub items : (scope : Scope) (known : Known) (xs : List Item) (ts : List Tok) → IsItems scope known xs ts → IsItems (anew_scope r scope) (anew_known r known) xs (S ts)
  items scope known [] ts never = absurd never
  items scope known (x ∷ xs) ts (le, (a, b, y, z, e)) = (le, (S a, S b, item r is scope known x a y, more_items scope known (x ∷ []) xs b z, slit ts a b e))

  -- the next token is still none of the language's
  not_word : (text : List ℕ) → is_language lends text ≡ true → (ts : List Tok) → has text ts ≡ false → has text (S ts) ≡ false
  not_word text l [] h = h
  not_word text l (t ∷ ts) h = has_same r is text l t ∙ h

  is_who : (scope : Scope) (w : Who) (ts : List Tok) → IsWho scope w ts → IsWho (anew_scope r scope) w (S ts)
  is_who scope who.Shared ts x = word r is (codes "shared") refl ts x
  is_who scope who.Global ts x = word r is (codes "global") refl ts x
  is_who scope (who.Value e) ts (s, g, x) = (not_word (codes "shared") refl ts s, not_word (codes "global") refl ts g, expr r is scope e ts x)

  no_lends : false ≡ true → lends ≡ true
  no_lends e = cc

  clause : (sig : Signature) (known : Known) → (known.lends ≡ true → lends ≡ true) → (c : Clause) (ts : List Tok) → IsClause sig known c ts → IsClause (anew_signature r sig) (anew_known r known) c (S ts)
  clause sig known within (Principal w) ts (a, b, m, (c, d, o, (e, f, x, p, k), u), v) =
      (S a, S b, word r is (codes "principal") refl a m, (S c, S d, word r is (codes "(") refl c o, (S e, S f, is_who (scope_before sig) w e x, word r is (codes ")") refl f p, slit d e f k), slit b c d u), slit ts a b v)
  clause sig known within (Pre y) ts (a, b, m, (c, d, o, (e, f, x, p, k), u), v) =
      (S a, S b, word r is (codes "pre") refl a m, (S c, S d, word r is (codes "(") refl c o, (S e, S f, action_anew r is (scope_before sig) known within y e x, word r is (codes ")") refl f p, slit d e f k), slit b c d u), slit ts a b v)
  clause sig known within (Post y) ts (a, b, m, (c, d, o, (e, f, x, p, k), u), v) =
      (S a, S b, word r is (codes "post") refl a m, (S c, S d, word r is (codes "(") refl c o, (S e, S f, action_anew r is (scope_behind sig) (without_lends known) no_lends y e x, word r is (codes ")") refl f p, slit d e f k), slit b c d u), slit ts a b v)

  clauses : (sig : Signature) (known : Known) → (known.lends ≡ true → lends ≡ true) → (cs : List Clause) (ts : List Tok) → IsClauses sig known cs ts → IsClauses (anew_signature r sig) (anew_known r known) cs (S ts)
  clauses sig known within [] ts e = ap S e
  clauses sig known within (c ∷ cs) ts (a, b, x, y, e) = (S a, S b, clause sig known within c a x, clauses sig known within cs b y, slit ts a b e)

  pub annotation : (sig : Signature) (known : Known) → (known.lends ≡ true → lends ≡ true) → (a : Annotation) (ts : List Tok) → IsAnnotation sig known a ts → IsAnnotation (anew_signature r sig) (anew_known r known) a (S ts)
  annotation sig known within a ts (cs, x, says) = (cs, clauses sig known within cs ts x, says)

  pub callable : (known : Known) → (known.lends ≡ true → lends ≡ true) → (sig : Signature) (a : Annotation) (ts : List Tok) → IsCallable known sig a ts → IsCallable (anew_known r known) (anew_signature r sig) a (S ts)
  callable known within sig a ts (f, b, x, y, e) = (S f, S b, signature sig f x, annotation sig known within a b y, slit ts f b e)

  -- where the names of lists are kept, they are as known as before
  pub callable_kept : (known : Known) → (known.lends ≡ true → lends ≡ true) → map r known.reftypes ≡ known.reftypes → map r known.iterators ≡ known.iterators → (sig : Signature) (a : Annotation) (ts : List Tok) → IsCallable known sig a ts → IsCallable known (anew_signature r sig) a (S ts)
  callable_kept known within p q sig a ts x =
      let kept : anew_known r known ≡ known = λ j. record { reftypes = p j; iterators = q j; lends = known.lends } in
      subst (λ k. IsCallable k (anew_signature r sig) a (S ts)) kept (callable known within sig a ts x)
