-- The printed text of an annotation says it, where it was read: its principal, the actions before the body, and those behind it.
use Rattle.std.proofs.Common.{◌≡◌, ◌∙◌, ℕ, zero, suc, Bool, true, false, Option, Some, None, List, [], ◌∷◌, ◌++◌, map, flat_map, length, filter, codes, refl, sym, ap, subst, append_assoc}
use Rattle.std.specs.Prelude.{if◌then◌else◌}
use Rattle.std.proofs.lemmas.Grind.{flat_map-append}
use Rattle.std.proofs.lemmas.List.{append-nil}
use Rattle.lx_words.specs.Lexemes.{lexeme_behind}
use Rattle.lx_words.specs.TextLaws.{NumberTexts}
use Rattle.lx_annot.specs.declared.action.Who.{Who}
use Rattle.lx_annot.specs.declared.action.Who.TheVariants as who
use Rattle.lx_annot.specs.declared.action.Annotation.{Annotation}
use Rattle.lx_annot.specs.declared.interface.Parameter.{Parameter}
use Rattle.lx_annot.specs.declared.interface.Interface.{Interface}
use Rattle.lx_annot.specs.Action.{Action, is_lend, end_of, with_end}
use Rattle.lx_annot.specs.Canonical.{Text, call_text}
use Rattle.lx_annot_expressions.specs.Tokens.{Tok}
use Rattle.lx_annot_expressions.specs.Grammar.{◌then◌, IsExpr}
use Rattle.lx_annot_terms.specs.Lists.{Known}
use Rattle.lx_annot_terms.specs.Signatures.{Signature}
use Rattle.lx_annot_terms.specs.Clauses.{scope_before, scope_behind}
use Rattle.lx_annot_laws.specs.Parts.{Clause, Principal, Pre, Post, IsWho, IsClause, IsClauses, principals, pres, posts, listed, Say, IsAnnotation}
use Rattle.lx_cproto_print.specs.Printed.{action_text, is_end, who_text, principal_text, clause_text, clauses_text}
use Rattle.lx_annot_laws.specs.Says.{is_apart, Says, IsWord, AreLexed}
use Rattle.lx_annot_laws.specs.PrintedPartLaws.{AreFree}
use Rattle.lx_annot_laws.proofs.Pieces.{beside, same_text, reads_as, nothing, word_is, space, called}
use Rattle.lx_annot_laws.proofs.PrintedExpressions.{own_names, expr_says, lexed_cut}
use Rattle.lx_annot_laws.proofs.Actions.{known_there, action_says, not_end}
use Rattle.lx_annot_laws.proofs.Reserved.{no_shared, no_global}

a_principal : IsWord (codes "principal")
unfolding lexeme_behind
a_principal = refl

a_pre : IsWord (codes "pre")
unfolding lexeme_behind
a_pre = refl

a_post : IsWord (codes "post")
unfolding lexeme_behind
a_post = refl

a_shared : IsWord (codes "shared")
unfolding lexeme_behind
a_shared = refl

a_global : IsWord (codes "global")
unfolding lexeme_behind
a_global = refl

-- Clauses as they are printed: the principal, the actions before the body, those behind it.

abbrev in_order : List Who → List Action → List Action → List Clause
in_order ws acts bs = map Principal ws ++ (map Pre acts ++ map Post bs)

-- what a list of clauses says is put together
record SaysAll (cs : List Clause) (ws : List Who) (acts bs : List Action) : Type 0 where
  first : principals cs ≡ ws
  before : pres cs ≡ acts
  behind : posts cs ≡ bs

of_posts : (bs : List Action) → SaysAll (map Post bs) [] [] bs
of_posts [] = record { first = refl; before = refl; behind = refl }
of_posts (b ∷ bs) = let k = of_posts bs in record { first = k.first; before = k.before; behind = ap (λ xs. b ∷ xs) k.behind }

of_pres : (acts bs : List Action) → SaysAll (map Pre acts ++ map Post bs) [] acts bs
of_pres [] bs = of_posts bs
of_pres (a ∷ acts) bs = let k = of_pres acts bs in record { first = k.first; before = ap (λ xs. a ∷ xs) k.before; behind = k.behind }

of_all : (ws : List Who) (acts bs : List Action) → SaysAll (in_order ws acts bs) ws acts bs
of_all [] acts bs = of_pres acts bs
of_all (w ∷ ws) acts bs = let k = of_all ws acts bs in record { first = ap (λ xs. w ∷ xs) k.first; before = k.before; behind = k.behind }

-- Texts of clauses.

abbrev written : Interface → List Parameter → Clause → Text
written i params (Principal w) = call_text (codes "principal") (who_text params w)
written i params (Pre a) = call_text (codes "pre") (action_text i params a)
written i params (Post a) = call_text (codes "post") (action_text i params a)

abbrev all_written : Interface → List Parameter → List Clause → Text
all_written i params cs = flat_map (λ c. codes " " ++ written i params c) cs

written_apart : (i : Interface) (params : List Parameter) (cs : List Clause) → is_apart (all_written i params cs) ≡ true
written_apart i params [] = refl
written_apart i params (c ∷ cs) = refl

-- none of these actions is the end of loans
NoEnds : List Action → Type 0
NoEnds [] = Unit {0}
NoEnds (a ∷ acts) = (is_end a ≡ false) × NoEnds acts

module _ (i : Interface) (params : List Parameter) where
  abbrev W : List Clause → Text
  W cs = all_written i params cs

  kept_by : (b : Bool) (t : Text) → b ≡ false → (if b then [] else t) ≡ t
  kept_by true t e = cc
  kept_by false t e = refl

  pres_written : (acts : List Action) → NoEnds acts → W (map Pre acts) ≡ flat_map (clause_text (codes "pre") i params) acts
  unfolding NoEnds
  pres_written [] h = refl
  pres_written (a ∷ acts) h =
      ap (λ t. t ++ W (map Pre acts)) (sym (kept_by (is_end a) (codes " " ++ call_text (codes "pre") (action_text i params a)) h.0))
      ∙ ap (λ t. clause_text (codes "pre") i params a ++ t) (pres_written acts h.1)

  posts_written : (acts : List Action) → NoEnds acts → W (map Post acts) ≡ flat_map (clause_text (codes "post") i params) acts
  unfolding NoEnds
  posts_written [] h = refl
  posts_written (a ∷ acts) h =
      ap (λ t. t ++ W (map Post acts)) (sym (kept_by (is_end a) (codes " " ++ call_text (codes "post") (action_text i params a)) h.0))
      ∙ ap (λ t. clause_text (codes "post") i params a ++ t) (posts_written acts h.1)

  principal_written : (p : Option Who) → W (map Principal (listed p)) ≡ principal_text params p
  principal_written None = refl
  principal_written (Some w) = append-nil (codes " " ++ call_text (codes "principal") (who_text params w))

  no_end_text : (n : ℕ) → flat_map (clause_text (codes "post") i params) (end_of n) ≡ []
  no_end_text zero = refl
  no_end_text (suc n) = refl

  ended_written : (pre bs : List Action) → flat_map (clause_text (codes "post") i params) (with_end pre bs) ≡ flat_map (clause_text (codes "post") i params) bs
  ended_written pre bs =
      flat_map-append (clause_text (codes "post") i params) bs (end_of (length (filter is_lend pre)))
      ∙ ap (λ t. flat_map (clause_text (codes "post") i params) bs ++ t) (no_end_text (length (filter is_lend pre)))
      ∙ append-nil (flat_map (clause_text (codes "post") i params) bs)

  -- the text of an annotation is that of its clauses in order
  order_written : (a : Annotation) (bs : List Action) → NoEnds a.pre → NoEnds bs → with_end a.pre bs ≡ a.post → W (in_order (listed a.principal) a.pre bs) ≡ clauses_text i params a
  order_written a bs h k e =
      let one : W (in_order (listed a.principal) a.pre bs) ≡ W (map Principal (listed a.principal)) ++ (W (map Pre a.pre) ++ W (map Post bs)) =
      flat_map-append (λ c. codes " " ++ written i params c) (map Principal (listed a.principal)) (map Pre a.pre ++ map Post bs)
      ∙ ap (λ t. W (map Principal (listed a.principal)) ++ t) (flat_map-append (λ c. codes " " ++ written i params c) (map Pre a.pre) (map Post bs)) in
      let last : W (map Post bs) ≡ flat_map (clause_text (codes "post") i params) a.post =
      posts_written bs k ∙ sym (ended_written a.pre bs) ∙ ap (λ xs. flat_map (clause_text (codes "post") i params) xs) e in
      one
      ∙ ap (λ t. t ++ (W (map Pre a.pre) ++ W (map Post bs))) (principal_written a.principal)
      ∙ ap (λ t. principal_text params a.principal ++ (t ++ W (map Post bs))) (pres_written a.pre h)
      ∙ ap (λ t. principal_text params a.principal ++ (flat_map (clause_text (codes "pre") i params) a.pre ++ t)) last
      ∙ sym (append_assoc (principal_text params a.principal) (flat_map (clause_text (codes "pre") i params) a.pre) (flat_map (clause_text (codes "post") i params) a.post))

-- Nothing before an annotation is lengthened by its text.

apart_joined : (u rest : Text) → is_apart u ≡ true → is_apart rest ≡ true → is_apart (u ++ rest) ≡ true
apart_joined [] rest h k = k
apart_joined (b ∷ u) rest h k = h

clause_by : (b : Bool) (t : Text) → is_apart (if b then [] else codes " " ++ t) ≡ true
clause_by true t = refl
clause_by false t = refl

actions_apart : (word : Text) (i : Interface) (params : List Parameter) (acts : List Action) → is_apart (flat_map (clause_text word i params) acts) ≡ true
actions_apart word i params [] = refl
actions_apart word i params (a ∷ acts) =
    apart_joined (clause_text word i params a) (flat_map (clause_text word i params) acts) (clause_by (is_end a) (call_text word (action_text i params a))) (actions_apart word i params acts)

principal_apart : (params : List Parameter) (p : Option Who) → is_apart (principal_text params p) ≡ true
principal_apart params None = refl
principal_apart params (Some w) = refl

pub clauses_apart : (i : Interface) (params : List Parameter) (a : Annotation) → is_apart (clauses_text i params a) ≡ true
clauses_apart i params a =
    apart_joined (principal_text params a.principal ++ flat_map (clause_text (codes "pre") i params) a.pre) (flat_map (clause_text (codes "post") i params) a.post)
    (apart_joined (principal_text params a.principal) (flat_map (clause_text (codes "pre") i params) a.pre) (principal_apart params a.principal) (actions_apart (codes "pre") i params a.pre))
    (actions_apart (codes "post") i params a.post)

module _ (texts : NumberTexts) (i : Interface) (lends : Bool) (sig : Signature) (free : AreFree sig.params) where
  abbrev known : Known
  known = known_there texts i lends

  who_says : (w : Who) (ts : List Tok) → AreLexed ts → IsWho (scope_before sig) w ts → Says (who_text sig.params w) (IsWho (scope_before sig) w)
  who_says who.Shared ts l is = word_is a_shared
  who_says who.Global ts l is = word_is a_global
  who_says (who.Value e) ts l (s, g, is) =
      reads_as {p = IsExpr (scope_before sig) e} {q = IsWho (scope_before sig) (who.Value e)} (λ us h. (no_shared sig.params None free e us h, no_global sig.params None free e us h, h))
      (expr_says texts (scope_before sig) (scope_before sig) (own_names (scope_before sig)) e ts l is)

  -- what stands in brackets behind a word
  inner : (ts a b c d e f : List Tok) → AreLexed ts → ts ≡ a ++ b → b ≡ c ++ d → d ≡ e ++ f → AreLexed e
  inner ts a b c d e f l u v w = (lexed_cut d e f w (lexed_cut b c d v (lexed_cut ts a b u l).1).1).0

  clause_says : (c : Clause) (ts : List Tok) → AreLexed ts → IsClause sig known c ts → Says (written i sig.params c) (IsClause sig known c)
  clause_says (Principal w) ts l (a, b, m, (c, d, o, (e, f, x, p, k), u), v) = called a_principal (who_says w e (inner ts a b c d e f l v u k) x)
  clause_says (Pre y) ts l (a, b, m, (c, d, o, (e, f, x, p, k), u), v) =
      called a_pre (action_says texts i lends (scope_before sig) (scope_before sig) (own_names (scope_before sig)) y e (inner ts a b c d e f l v u k) x)
  clause_says (Post y) ts l (a, b, m, (c, d, o, (e, f, x, p, k), u), v) =
      called a_post (action_says texts i false (scope_behind sig) (scope_behind sig) (own_names (scope_behind sig)) y e (inner ts a b c d e f l v u k) x)

  EachSays : List Clause → Type 0
  EachSays [] = Unit {0}
  EachSays (c ∷ cs) = Says (written i sig.params c) (IsClause sig known c) × EachSays cs

  each_joined : (cs ds : List Clause) → EachSays cs → EachSays ds → EachSays (cs ++ ds)
  unfolding EachSays
  each_joined [] ds h k = k
  each_joined (c ∷ cs) ds h k = (h.0, each_joined cs ds h.1 k)

  -- What clauses say, each kind by itself.
  record Sorted (cs : List Clause) : Type 0 where
    ws : EachSays (map Principal (principals cs))
    acts : EachSays (map Pre (pres cs))
    bs : EachSays (map Post (posts cs))
    no_ends_before : NoEnds (pres cs)
    no_ends_behind : NoEnds (posts cs)

  sorted : (cs : List Clause) (ts : List Tok) → AreLexed ts → IsClauses sig known cs ts → Sorted cs
  unfolding EachSays NoEnds
  sorted [] ts l e = record { ws = tt; acts = tt; bs = tt; no_ends_before = tt; no_ends_behind = tt }
  sorted (Principal w ∷ cs) ts l (f, g, is, more, v) =
      let cut = lexed_cut ts f g v l in
      let k = sorted cs g cut.1 more in
      record { ws = (clause_says (Principal w) f cut.0 is, k.ws); acts = k.acts; bs = k.bs; no_ends_before = k.no_ends_before; no_ends_behind = k.no_ends_behind }
  sorted (Pre a ∷ cs) ts l (f, g, is, more, v) =
      let cut = lexed_cut ts f g v l in
      let k = sorted cs g cut.1 more in
      record { ws = k.ws; acts = (clause_says (Pre a) f cut.0 is, k.acts); bs = k.bs; no_ends_before = (not_end (scope_before sig) known a is.3.3.0 is.3.3.2, k.no_ends_before); no_ends_behind = k.no_ends_behind }
  sorted (Post a ∷ cs) ts l (f, g, is, more, v) =
      let cut = lexed_cut ts f g v l in
      let k = sorted cs g cut.1 more in
      record { ws = k.ws; acts = k.acts; bs = (clause_says (Post a) f cut.0 is, k.bs); no_ends_before = k.no_ends_before; no_ends_behind = (not_end (scope_behind sig) (known_there texts i false) a is.3.3.0 is.3.3.2, k.no_ends_behind) }

  each_says : (cs : List Clause) → EachSays cs → Says (all_written i sig.params cs) (IsClauses sig known cs)
  unfolding EachSays
  each_says [] h = nothing
  each_says (c ∷ cs) h = beside (space h.0) (written_apart i sig.params cs) (each_says cs h.1)

  -- The text of an annotation is that of its clauses in order.
  annotation_text : (a : Annotation) (cs : List Clause) (ts : List Tok) → AreLexed ts → IsClauses sig known cs ts → Say cs a → all_written i sig.params (in_order (listed a.principal) a.pre (posts cs)) ≡ clauses_text i sig.params a
  annotation_text a cs ts l are say =
      let k = sorted cs ts l are in
      order_written i sig.params a (posts cs) (subst NoEnds say.pre k.no_ends_before) k.no_ends_behind say.post

  pub annotation_says : (a : Annotation) (ts : List Tok) → AreLexed ts → IsAnnotation sig known a ts → Says (clauses_text i sig.params a) (IsAnnotation sig known a)
  annotation_says a ts l (cs, are, say) =
      let k = sorted cs ts l are in
      let order = in_order (listed a.principal) a.pre (posts cs) in
      let each : EachSays order = each_joined (map Principal (listed a.principal)) (map Pre a.pre ++ map Post (posts cs))
      (subst (λ ws. EachSays (map Principal ws)) say.principal k.ws)
      (each_joined (map Pre a.pre) (map Post (posts cs)) (subst (λ acts. EachSays (map Pre acts)) say.pre k.acts) k.bs) in
      let all = of_all (listed a.principal) a.pre (posts cs) in
      let says : Say order a = record { principal = all.first; pre = all.before; post = ap (with_end a.pre) all.behind ∙ say.post } in
      same_text (annotation_text a cs ts l are say)
      (reads_as {p = IsClauses sig known order} {q = IsAnnotation sig known a} (λ us h. (order, h, says)) (each_says order each))
