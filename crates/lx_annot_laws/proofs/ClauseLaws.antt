-- Clauses: reading and the grammar agree.
use Rattle.std.proofs.Common.{◌≡◌, ℕ, zero, suc, ◌≤◌, ◌+◌, Bool, true, false, Option, Some, None, is_some, List, [], ◌∷◌, ◌++◌, length, Ok, refl, sym, ap, ◌∙◌, subst, append_assoc, bytes_eq, codes, arith}
use Rattle.std.specs.Prelude.{if◌then◌else◌, ◌||◌}
use Rattle.std.proofs.lemmas.List.{append-nil, length-append}
use Rattle.lx_annot.specs.declared.action.Who.{Who}
use Rattle.lx_annot.specs.declared.action.Who.TheVariants as who
use Rattle.lx_annot.specs.declared.action.Annotation.{Annotation}
use Rattle.lx_annot.specs.Action.{Action, with_end}
use Rattle.lx_annot.specs.Expr.{Expr}
use Rattle.lx_annot_expressions.specs.Tokens.{Tok}
use Rattle.lx_annot_expressions.specs.Reading.{Read, ◌>>=◌, refused, has, behind, next_at, steps_at}
use Rattle.lx_annot_expressions.specs.Exprs.{Scope, expr_at}
use Rattle.lx_annot_expressions.specs.Grammar.{Part, Is, ◌then◌, IsExpr}
use Rattle.lx_annot_expressions.specs.Laws.{Reads, Finds, closes_expr}
use Rattle.lx_annot_expressions.proofs.Parts.{bind_ok, ok_same, next_reads, next_finds, next_token, bind_reads, last_reads, bind_finds, last_finds, Joint, Mapped}
use Rattle.lx_annot_expressions.proofs.ExprFinds.{expr_found}
use Rattle.lx_annot_expressions.proofs.ExprReads.{expr_read}
use Rattle.lx_annot_terms.specs.Lists.{Known}
use Rattle.lx_annot_terms.specs.Actions.{action_at}
use Rattle.lx_annot_terms.specs.Signatures.{Signature}
use Rattle.lx_annot_terms.specs.Clauses.{scope_before, scope_behind, who_at, principal_at, enclosed_action_at, with_principal, with_pre, with_post, empty_annotation, principal_clause_at, pre_clause_at, post_clause_at, begins_clause, clause_at, without_lends, with_loans_ended, written_at, clauses_at}
use Rattle.lx_annot_terms.specs.Grammar.{IsAction}
use Rattle.lx_annot_terms.proofs.ListReads.{bracket_closes, other_text}
use Rattle.lx_annot_terms.proofs.ActionParts.{action_read}
use Rattle.lx_annot_terms.proofs.ActionParts.{action_found}
use Rattle.lx_annot_terms.proofs.Steps.{step_once, steps_end}
use Rattle.lx_annot_laws.proofs.Mapping.{mapped_is}
use Rattle.lx_annot_laws.specs.Parts.{Clause, Principal, Pre, Post, IsWho, Enclosed, IsClause, IsClauses, principals, pres, posts, listed, Goes, Say, IsAnnotation}

-- Principals.

abbrev who_by : Scope → List Tok → Bool → Bool → Read Who
who_by scope ts a b =
    if a then Ok (who.Shared, behind ts)
    else if b then Ok (who.Global, behind ts)
    else expr_at scope ts >>= λ e. Ok (who.Value e.0, e.1)

module _ (scope : Scope) where
  abbrev closed_who : Read Who → Read Who
  closed_who r = r >>= λ w. next_at (codes ")") w.1 >>= λ c. Ok (w.0, c.1)

  closing : (w : Who) (r : Read Who) (b us : List Tok) → r ≡ Ok (w, b ++ us) → Is (codes ")") b → closed_who r ≡ Ok (w, us)
  closing w r b us e q = ap closed_who e ∙ mapped_is (λ (c : Unit {0}). w) (next_at (codes ")") (b ++ us)) tt us (next_reads (codes ")") b us q)

  shared_read : (ts us : List Tok) → Is (codes "shared") ts → who_at scope (ts ++ us) ≡ Ok (who.Shared, us)
  shared_read ts us (t, h, g) =
      subst (λ x. who_at scope (x ++ us) ≡ Ok (who.Shared, us)) (sym g) (ap (λ a. who_by scope (t ∷ us) a (has (codes "global") (t ∷ us))) h)

  global_read : (ts us : List Tok) → Is (codes "global") ts → who_at scope (ts ++ us) ≡ Ok (who.Global, us)
  global_read ts us (t, h, g) =
      let no : has (codes "shared") (t ∷ us) ≡ false = other_text (codes "global") (codes "shared") (t ∷ us) h refl in
      subst (λ x. who_at scope (x ++ us) ≡ Ok (who.Global, us)) (sym g)
      (ap (λ a. who_by scope (t ∷ us) a (has (codes "global") (t ∷ us))) no ∙ ap (who_by scope (t ∷ us) false) h)

  value_by : (e : Expr) (ts us : List Tok) → closes_expr us ≡ true → has (codes "shared") (ts ++ us) ≡ false → has (codes "global") (ts ++ us) ≡ false → IsExpr scope e ts → who_at scope (ts ++ us) ≡ Ok (who.Value e, us)
  value_by e ts us c a b p =
      ap (λ x. who_by scope (ts ++ us) x (has (codes "global") (ts ++ us))) a ∙ ap (who_by scope (ts ++ us) false) b
      ∙ mapped_is (λ (x : Expr). who.Value x) (expr_at scope (ts ++ us)) e us (expr_read scope e ts us c p)

  -- no word stands where an expression begins, nor behind it
  value_start : (text : List ℕ) (ts us : List Tok) → has text us ≡ false → has text ts ≡ false → has text (ts ++ us) ≡ false
  value_start text [] us d h = d
  value_start text (t ∷ ts) us d h = h

  bracket_word : (word : List ℕ) (t : Tok) (us : List Tok) → bytes_eq (codes ")") word ≡ false → has (codes ")") (t ∷ []) ≡ true → has word (t ∷ us) ≡ false
  bracket_word word t us d h = other_text (codes ")") word (t ∷ us) h d

  -- a principal, and the bracket behind it
  who_then : (w : Who) → Reads (λ ts. closed_who (who_at scope ts)) w (IsWho scope w then Is (codes ")"))
  who_then who.Shared ts us (f, b, p, q, e) =
      let whole : ts ++ us ≡ f ++ (b ++ us) = ap (λ x. x ++ us) e ∙ append_assoc f b us in
      ap (λ x. closed_who (who_at scope x)) whole ∙ closing who.Shared (who_at scope (f ++ (b ++ us))) b us (shared_read f (b ++ us) p) q
  who_then who.Global ts us (f, b, p, q, e) =
      let whole : ts ++ us ≡ f ++ (b ++ us) = ap (λ x. x ++ us) e ∙ append_assoc f b us in
      ap (λ x. closed_who (who_at scope x)) whole ∙ closing who.Global (who_at scope (f ++ (b ++ us))) b us (global_read f (b ++ us) p) q
  who_then (who.Value x) ts us (f, b, (ns, ng, p), (t, h, g), e) =
      let whole : ts ++ us ≡ f ++ (t ∷ us) = ap (λ y. y ++ us) (e ∙ ap (λ y. f ++ y) g) ∙ append_assoc f (t ∷ []) us in
      let s = value_start (codes "shared") f (t ∷ us) (bracket_word (codes "shared") t us refl h) ns in
      let l = value_start (codes "global") f (t ∷ us) (bracket_word (codes "global") t us refl h) ng in
      ap (λ x. closed_who (who_at scope x)) whole ∙ closing (who.Value x) (who_at scope (f ++ (t ∷ us))) (t ∷ []) us (value_by x f (t ∷ us) (bracket_closes t us h) s l p) (t, h, refl)

  pub principal_read : (w : Who) → Reads (principal_at scope) w (Is (codes "(") then IsWho scope w then Is (codes ")"))
  principal_read w =
      bind_reads (next_at (codes "(")) (λ o. who_at scope o.1 >>= λ w. next_at (codes ")") w.1 >>= λ c. Ok (w.0, c.1)) tt w _ _ (next_reads (codes "(")) (who_then w)

  front_none : (text : List ℕ) (ts front us : List Tok) → ts ≡ front ++ us → has text ts ≡ false → (x : Expr) → IsExpr scope x front → has text front ≡ false
  front_none text ts [] us e h x p = refl
  front_none text ts (t ∷ front) us e h x p = subst (λ y. has text y ≡ false) e h

  who_step : (ts us : List Tok) (w : Who) (a b : Bool) → has (codes "shared") ts ≡ a → has (codes "global") ts ≡ b → who_by scope ts a b ≡ Ok (w, us) → (front : List Tok) × IsWho scope w front × (ts ≡ front ++ us)
  who_step ts us w true b ha hb r =
      let k = ok_same who.Shared w (behind ts) us r in
      let n = next_token (codes "shared") ts ha in
      (n.token ∷ [], subst (λ z. IsWho scope z (n.token ∷ [])) k.0 (n.token, n.is, refl), n.whole ∙ ap (λ x. n.token ∷ x) k.1)
  who_step ts us w false true ha hb r =
      let k = ok_same who.Global w (behind ts) us r in
      let n = next_token (codes "global") ts hb in
      (n.token ∷ [], subst (λ z. IsWho scope z (n.token ∷ [])) k.0 (n.token, n.is, refl), n.whole ∙ ap (λ x. n.token ∷ x) k.1)
  who_step ts us w false false ha hb r =
      let m = last_finds (expr_at scope) (λ e. who.Value e) (IsExpr scope) (expr_found scope) ts us w r in
      let ns = front_none (codes "shared") ts m.0 us m.2 ha m.1.0 m.1.1 in
      let ng = front_none (codes "global") ts m.0 us m.2 hb m.1.0 m.1.1 in
      (m.0, subst (λ z. IsWho scope z m.0) m.1.2 (ns, ng, m.1.1), m.2)

  who_found : Finds (who_at scope) (IsWho scope)
  who_found ts us w r = who_step ts us w (has (codes "shared") ts) (has (codes "global") ts) refl refl r

  abbrev InRound : (A : Type 0) → (A → Part) → A → Part
  InRound A part x = Is (codes "(") then part x then Is (codes ")")

  round_part : (A : Type 0) (part : A → Part) (y : A) (ts : List Tok) → Joint (λ (o : Unit {0}). Is (codes "(")) (λ o. Joint part (λ x. Mapped (λ (c : Unit {0}). x) (λ c. Is (codes ")")))) y ts → InRound A part y ts
  round_part A part y ts (o, (f, b, po, (x, (f1, b1, px, (c, pc, eq), w1)), w)) = subst (λ z. InRound A part z ts) eq (f, b, po, (f1, b1, px, pc, w1), w)

  pub principal_found : Finds (principal_at scope) (InRound Who (IsWho scope))
  principal_found ts us w r =
      let m = bind_finds (next_at (codes "(")) (λ o. who_at scope o.1 >>= λ w. next_at (codes ")") w.1 >>= λ c. Ok (w.0, c.1)) (λ (o : Unit {0}). Is (codes "(")) _ (next_finds (codes "("))
      (λ o. bind_finds (who_at scope) (λ w. next_at (codes ")") w.1 >>= λ c. Ok (w.0, c.1)) (IsWho scope) _ who_found
      (λ w. last_finds (next_at (codes ")")) (λ c. w) (λ (c : Unit {0}). Is (codes ")")) (next_finds (codes ")")))) ts us w r in
      (m.0, round_part Who (IsWho scope) w m.0 m.1, m.2)

  module _ (known : Known) where
    pub enclosed_read : (a : Action) → Reads (enclosed_action_at scope known) a (InRound Action (IsAction scope known) a)
    enclosed_read a =
        bind_reads (next_at (codes "(")) (λ o. action_at scope known o.1 >>= λ a. next_at (codes ")") a.1 >>= λ c. Ok (a.0, c.1)) tt a _ _ (next_reads (codes "("))
        (bind_reads (action_at scope known) (λ a. next_at (codes ")") a.1 >>= λ c. Ok (a.0, c.1)) a a _ _ (action_read scope known a)
        (last_reads (next_at (codes ")")) (λ c. a) tt _ (next_reads (codes ")"))))

    pub enclosed_found : Finds (enclosed_action_at scope known) (InRound Action (IsAction scope known))
    enclosed_found ts us a r =
        let m = bind_finds (next_at (codes "(")) (λ o. action_at scope known o.1 >>= λ a. next_at (codes ")") a.1 >>= λ c. Ok (a.0, c.1)) (λ (o : Unit {0}). Is (codes "(")) _ (next_finds (codes "("))
        (λ o. bind_finds (action_at scope known) (λ a. next_at (codes ")") a.1 >>= λ c. Ok (a.0, c.1)) (IsAction scope known) _ (action_found scope known)
        (λ a. last_finds (next_at (codes ")")) (λ c. a) (λ (c : Unit {0}). Is (codes ")")) (next_finds (codes ")")))) ts us a r in
        (m.0, round_part Action (IsAction scope known) a m.0 m.1, m.2)

-- One clause.

abbrev clause_by : Signature → Known → Annotation → List Tok → Bool → Bool → Read Annotation
clause_by sig known a ts p q =
    if p then principal_clause_at sig a ts
    else if q then pre_clause_at sig known a ts
    else post_clause_at sig known a ts

-- the annotation with a clause more
abbrev pub with_clause : Annotation → Clause → Annotation
with_clause a (Principal w) = with_principal a w
with_clause a (Pre x) = with_pre a x
with_clause a (Post x) = with_post a x

-- a second principal is refused
abbrev Fits : Annotation → Clause → Type 0
Fits a (Principal w) = is_some a.principal ≡ false
Fits a (Pre x) = Unit {0}
Fits a (Post x) = Unit {0}

third_of : (a b c : Bool) → a ≡ false → b ≡ false → a || b || c ≡ true → c ≡ true
third_of false false c p q h = h
third_of true b c p q h = cc
third_of false true c p q h = cc

module _ (sig : Signature) (known : Known) where
  clause_is : (a : Annotation) (ts : List Tok) (p q : Bool) → has (codes "principal") ts ≡ p → has (codes "pre") ts ≡ q → clause_at sig known a ts ≡ clause_by sig known a ts p q
  unfolding clause_at
  clause_is a ts p q hp hq = ap (λ x. clause_by sig known a ts x (has (codes "pre") ts)) hp ∙ ap (clause_by sig known a ts p) hq

  abbrev principal_by : Annotation → List Tok → Bool → Read Annotation
  principal_by a ts b = if b then refused ts else (principal_at (scope_before sig) (behind ts) >>= λ w. Ok (with_principal a w.0, w.1))

  -- the tokens of a clause are read as it
  clause_read : (a : Annotation) (c : Clause) → Fits a c → Reads (clause_at sig known a) (with_clause a c) (IsClause sig known c)
  clause_read a (Principal w) fits ts us (f, b, (t, h, g), p, e) =
      let whole : ts ++ us ≡ t ∷ (b ++ us) = ap (λ x. x ++ us) (e ∙ ap (λ x. x ++ b) g) in
      ap (clause_at sig known a) whole ∙ clause_is a (t ∷ (b ++ us)) true (has (codes "pre") (t ∷ (b ++ us))) h refl
      ∙ ap (principal_by a (t ∷ (b ++ us))) fits ∙ mapped_is (λ (x : Who). with_principal a x) (principal_at (scope_before sig) (b ++ us)) w us (principal_read (scope_before sig) w b us p)
  clause_read a (Pre x) fits ts us (f, b, (t, h, g), p, e) =
      let whole : ts ++ us ≡ t ∷ (b ++ us) = ap (λ y. y ++ us) (e ∙ ap (λ y. y ++ b) g) in
      let no : has (codes "principal") (t ∷ (b ++ us)) ≡ false = other_text (codes "pre") (codes "principal") (t ∷ (b ++ us)) h refl in
      ap (clause_at sig known a) whole ∙ clause_is a (t ∷ (b ++ us)) false true no h
      ∙ mapped_is (λ (y : Action). with_pre a y) (enclosed_action_at (scope_before sig) known (b ++ us)) x us (enclosed_read (scope_before sig) known x b us p)
  clause_read a (Post x) fits ts us (f, b, (t, h, g), p, e) =
      let whole : ts ++ us ≡ t ∷ (b ++ us) = ap (λ y. y ++ us) (e ∙ ap (λ y. y ++ b) g) in
      let no : has (codes "principal") (t ∷ (b ++ us)) ≡ false = other_text (codes "post") (codes "principal") (t ∷ (b ++ us)) h refl in
      let nor : has (codes "pre") (t ∷ (b ++ us)) ≡ false = other_text (codes "post") (codes "pre") (t ∷ (b ++ us)) h refl in
      ap (clause_at sig known a) whole ∙ clause_is a (t ∷ (b ++ us)) false false no nor
      ∙ mapped_is (λ (y : Action). with_post a y) (enclosed_action_at (scope_behind sig) (without_lends known) (b ++ us)) x us (enclosed_read (scope_behind sig) (without_lends known) x b us p)

  -- a clause is found where its word stands
  record FoundClause (a new : Annotation) (ts us : List Tok) : Type 0 where
    clause : Clause
    fits : Fits a clause
    front : List Tok
    is : IsClause sig known clause front
    made : new ≡ with_clause a clause
    whole : ts ≡ front ++ us

  second_principal : (a new : Annotation) (ts us : List Tok) (b : Bool) → is_some a.principal ≡ b → has (codes "principal") ts ≡ true → principal_by a ts b ≡ Ok (new, us) → FoundClause a new ts us
  second_principal a new ts us true s h r = cc
  second_principal a new ts us false s h r =
      let m = last_finds (principal_at (scope_before sig)) (λ w. with_principal a w) (λ w. Is (codes "(") then IsWho (scope_before sig) w then Is (codes ")")) (principal_found (scope_before sig)) (behind ts) us new r in
      let n = next_token (codes "principal") ts h in
      record {
        clause = Principal m.1.0;
        fits = s;
        front = n.token ∷ m.0;
        is = (n.token ∷ [], m.0, (n.token, n.is, refl), m.1.1, refl);
        made = sym m.1.2;
        whole = n.whole ∙ ap (λ x. n.token ∷ x) m.2;
      }

  clause_step : (a new : Annotation) (ts us : List Tok) (p q : Bool) → has (codes "principal") ts ≡ p → has (codes "pre") ts ≡ q → begins_clause ts ≡ true → clause_by sig known a ts p q ≡ Ok (new, us) → FoundClause a new ts us
  clause_step a new ts us true q hp hq h r = second_principal a new ts us (is_some a.principal) refl hp r
  clause_step a new ts us false true hp hq h r =
      let m = last_finds (enclosed_action_at (scope_before sig) known) (λ x. with_pre a x) (λ x. Is (codes "(") then IsAction (scope_before sig) known x then Is (codes ")")) (enclosed_found (scope_before sig) known) (behind ts) us new r in
      let n = next_token (codes "pre") ts hq in
      record {
        clause = Pre m.1.0;
        fits = tt;
        front = n.token ∷ m.0;
        is = (n.token ∷ [], m.0, (n.token, n.is, refl), m.1.1, refl);
        made = sym m.1.2;
        whole = n.whole ∙ ap (λ x. n.token ∷ x) m.2;
      }
  clause_step a new ts us false false hp hq h r =
      let m = last_finds (enclosed_action_at (scope_behind sig) (without_lends known)) (λ x. with_post a x) (λ x. Is (codes "(") then IsAction (scope_behind sig) (without_lends known) x then Is (codes ")")) (enclosed_found (scope_behind sig) (without_lends known)) (behind ts) us new r in
      let hr = third_of (has (codes "principal") ts) (has (codes "pre") ts) (has (codes "post") ts) hp hq h in
      let n = next_token (codes "post") ts hr in
      record {
        clause = Post m.1.0;
        fits = tt;
        front = n.token ∷ m.0;
        is = (n.token ∷ [], m.0, (n.token, n.is, refl), m.1.1, refl);
        made = sym m.1.2;
        whole = n.whole ∙ ap (λ x. n.token ∷ x) m.2;
      }

  clause_found : (a new : Annotation) (ts us : List Tok) → begins_clause ts ≡ true → clause_at sig known a ts ≡ Ok (new, us) → FoundClause a new ts us
  clause_found a new ts us h r =
      clause_step a new ts us (has (codes "principal") ts) (has (codes "pre") ts) refl refl h (sym (clause_is a ts (has (codes "principal") ts) (has (codes "pre") ts) refl refl) ∙ r)

-- All clauses.

listed_same : (p q : Option Who) → listed p ≡ listed q → p ≡ q
listed_same None None e = refl
listed_same None (Some w) e = cc
listed_same (Some v) None e = cc
listed_same (Some v) (Some w) e = let same : v ≡ w = cc in ap Some same

one_principal : (p : Option Who) (w : Who) (ws : List Who) (q : Option Who) → listed p ++ w ∷ ws ≡ listed q → (is_some p ≡ false) × (w ∷ ws ≡ listed q)
one_principal None w ws q e = (refl, e)
one_principal (Some v) w ws None e = cc
one_principal (Some v) w ws (Some u) e = cc

abbrev annotation : Option Who → List Action → List Action → Annotation
annotation p x y = record { principal = p; pre = x; post = y }

all_said : (a after : Annotation) → Goes a [] after → a ≡ after
all_said a after g =
    let p = listed_same a.principal after.principal (sym (append-nil (listed a.principal)) ∙ g.principal) in
    let x = sym (append-nil a.pre) ∙ g.pre in
    let y = sym (append-nil a.post) ∙ g.post in
    ap (λ q. annotation q a.pre a.post) p ∙ ap (λ z. annotation after.principal z a.post) x ∙ ap (λ z. annotation after.principal after.pre z) y

said_first : (a after : Annotation) (c : Clause) (cs : List Clause) → Goes a (c ∷ cs) after → Fits a c × Goes (with_clause a c) cs after
said_first a after (Principal w) cs g =
    let k = one_principal a.principal w (principals cs) after.principal g.principal in
    (k.0, record { principal = k.1; pre = g.pre; post = g.post })
said_first a after (Pre x) cs g = (tt, record { principal = g.principal; pre = append_assoc a.pre (x ∷ []) (pres cs) ∙ g.pre; post = g.post })
said_first a after (Post x) cs g = (tt, record { principal = g.principal; pre = g.pre; post = append_assoc a.post (x ∷ []) (posts cs) ∙ g.post })

none_before : (p : Option Who) (ws : List Who) → is_some p ≡ false → listed p ++ ws ≡ ws
none_before None ws h = refl
none_before (Some v) ws h = cc

goes_first : (a after : Annotation) (c : Clause) (cs : List Clause) → Fits a c → Goes (with_clause a c) cs after → Goes a (c ∷ cs) after
goes_first a after (Principal w) cs f g = record { principal = none_before a.principal (w ∷ principals cs) f ∙ g.principal; pre = g.pre; post = g.post }
goes_first a after (Pre x) cs f g = record { principal = g.principal; pre = sym (append_assoc a.pre (x ∷ []) (pres cs)) ∙ g.pre; post = g.post }
goes_first a after (Post x) cs f g = record { principal = g.principal; pre = g.pre; post = sym (append_assoc a.post (x ∷ []) (posts cs)) ∙ g.post }

enclosed_some : (word : List ℕ) (part : Part) (ts : List Tok) → Enclosed word part ts → (n : ℕ) × (length ts ≡ suc n)
enclosed_some word part ts (f, b, (t, h, g), p, e) = (length b, ap length (e ∙ ap (λ x. x ++ b) g))

enclosed_begins : (word : List ℕ) (part : Part) (ts us : List Tok) → Enclosed word part ts → has word (ts ++ us) ≡ true
enclosed_begins word part ts us (f, b, (t, h, g), p, e) = subst (λ x. has word (x ++ us) ≡ true) (sym (e ∙ ap (λ x. x ++ b) g)) h

begins_by : (a b c : Bool) → (a ≡ true → a || b || c ≡ true) × (b ≡ true → a || b || c ≡ true) × (c ≡ true → a || b || c ≡ true)
begins_by true b c = ((λ h. refl), (λ h. refl), (λ h. refl))
begins_by false true c = ((λ h. cc), (λ h. refl), (λ h. refl))
begins_by false false c = ((λ h. cc), (λ h. cc), (λ h. h))

module _ (sig : Signature) (known : Known) where
  clause_some : (c : Clause) (ts : List Tok) → IsClause sig known c ts → (n : ℕ) × (length ts ≡ suc n)
  clause_some (Principal w) ts is = enclosed_some (codes "principal") (IsWho (scope_before sig) w) ts is
  clause_some (Pre x) ts is = enclosed_some (codes "pre") (IsAction (scope_before sig) known x) ts is
  clause_some (Post x) ts is = enclosed_some (codes "post") (IsAction (scope_behind sig) (without_lends known) x) ts is

  clause_begins : (c : Clause) (ts us : List Tok) → IsClause sig known c ts → begins_clause (ts ++ us) ≡ true
  clause_begins (Principal w) ts us is =
      (begins_by (has (codes "principal") (ts ++ us)) (has (codes "pre") (ts ++ us)) (has (codes "post") (ts ++ us))).0 (enclosed_begins (codes "principal") (IsWho (scope_before sig) w) ts us is)
  clause_begins (Pre x) ts us is =
      (begins_by (has (codes "principal") (ts ++ us)) (has (codes "pre") (ts ++ us)) (has (codes "post") (ts ++ us))).1 (enclosed_begins (codes "pre") (IsAction (scope_before sig) known x) ts us is)
  clause_begins (Post x) ts us is =
      (begins_by (has (codes "principal") (ts ++ us)) (has (codes "pre") (ts ++ us)) (has (codes "post") (ts ++ us))).2 (enclosed_begins (codes "post") (IsAction (scope_behind sig) (without_lends known) x) ts us is)

  clauses_length : (cs : List Clause) (ts : List Tok) → IsClauses sig known cs ts → length cs ≤ length ts
  clauses_length [] ts e = omega arith
  clauses_length (c ∷ cs) ts (f, b, p, q, e) =
      let one = clause_some c f p in
      let more = clauses_length cs b q in
      let size : length ts ≡ length f + length b = ap length e ∙ length-append f b in
      omega (arith, one.1, more, size)

  clauses_read : (a after : Annotation) (cs : List Clause) (fuel : ℕ) (ts us : List Tok) → Goes a cs after → length cs ≤ fuel → begins_clause us ≡ false → IsClauses sig known cs ts → steps_at begins_clause (clause_at sig known) fuel a (ts ++ us) ≡ Ok (after, us)
  clauses_read a after [] fuel ts us g le h e =
      ap (λ x. steps_at begins_clause (clause_at sig known) fuel a (x ++ us)) e ∙ steps_end begins_clause (clause_at sig known) fuel a us h ∙ ap (λ x. Ok (x, us)) (all_said a after g)
  clauses_read a after (c ∷ cs) zero ts us g le h p = absurd (omega (arith, le))
  clauses_read a after (c ∷ cs) (suc n) ts us g le h (f, b, is, q, e) =
      let whole : ts ++ us ≡ f ++ (b ++ us) = ap (λ x. x ++ us) e ∙ append_assoc f b us in
      let k = said_first a after c cs g in
      ap (steps_at begins_clause (clause_at sig known) (suc n) a) whole
      ∙ step_once begins_clause (clause_at sig known) n a (with_clause a c) (f ++ (b ++ us)) (b ++ us) (clause_begins c f (b ++ us) is) (clause_read sig known a c k.0 f (b ++ us) is)
      ∙ clauses_read (with_clause a c) after cs n b us k.1 (omega (arith, le)) h q

  record FoundClauses (a after : Annotation) (ts us : List Tok) : Type 0 where
    clauses : List Clause
    front : List Tok
    is : IsClauses sig known clauses front
    goes : Goes a clauses after
    whole : ts ≡ front ++ us

  no_clause : (a after : Annotation) (ts us : List Tok) (r : Read Annotation) → r ≡ Ok (a, ts) → r ≡ Ok (after, us) → FoundClauses a after ts us
  no_clause a after ts us r o e =
      let k = ok_same a after ts us (sym o ∙ e) in
      record {
        clauses = [];
        front = [];
        is = refl;
        goes = record { principal = append-nil (listed a.principal) ∙ ap (λ (x : Annotation). listed x.principal) k.0; pre = append-nil a.pre ∙ ap (λ (x : Annotation). x.pre) k.0; post = append-nil a.post ∙ ap (λ (x : Annotation). x.post) k.0 };
        whole = k.1;
      }

  abbrev stepped : ℕ → Annotation → List Tok → Bool → Read Annotation
  stepped n a ts b = if b then (clause_at sig known a ts >>= λ x. steps_at begins_clause (clause_at sig known) n x.0 x.1) else Ok (a, ts)

  abbrev Onward : ℕ → Type 0
  Onward n = (a after : Annotation) (ts us : List Tok) → steps_at begins_clause (clause_at sig known) n a ts ≡ Ok (after, us) → FoundClauses a after ts us

  one_clause : (n : ℕ) → Onward n → (a after : Annotation) (ts us : List Tok) (b : Bool) → begins_clause ts ≡ b → stepped n a ts b ≡ Ok (after, us) → FoundClauses a after ts us
  one_clause n on a after ts us false h e = no_clause a after ts us (Ok (a, ts)) refl e
  one_clause n on a after ts us true h e =
      let x = bind_ok (clause_at sig known a ts) (λ x. steps_at begins_clause (clause_at sig known) n x.0 x.1) (after, us) e in
      let c = clause_found sig known a x.0.0 ts x.0.1 h x.1 in
      let m = on (with_clause a c.clause) after x.0.1 us (ap (λ y. steps_at begins_clause (clause_at sig known) n y x.0.1) (sym c.made) ∙ x.2) in
      record {
        clauses = c.clause ∷ m.clauses;
        front = c.front ++ m.front;
        is = (c.front, m.front, c.is, m.is, refl);
        goes = goes_first a after c.clause m.clauses c.fits m.goes;
        whole = c.whole ∙ ap (λ y. c.front ++ y) m.whole ∙ sym (append_assoc c.front m.front us);
      }

  clauses_found : (n : ℕ) → Onward n
  unfolding steps_at
  clauses_found zero a after ts us e = no_clause a after ts us (Ok (a, ts)) refl e
  clauses_found (suc n) a after ts us e = one_clause n (clauses_found n) a after ts us (begins_clause ts) refl e

  -- clauses are read as what they say without the end of loans
  written_read : (after : Annotation) (cs : List Clause) (ts us : List Tok) → Goes empty_annotation cs after → begins_clause us ≡ false → IsClauses sig known cs ts → written_at sig known (ts ++ us) ≡ Ok (after, us)
  unfolding written_at
  written_read after cs ts us g h is =
      let size : length (ts ++ us) ≡ length ts + length us = length-append ts us in
      clauses_read empty_annotation after cs (length (ts ++ us)) ts us g (omega (arith, size, clauses_length cs ts is)) h is

  -- what clauses say but for the end of loans
  abbrev unended : Annotation → List Clause → Annotation
  unended a cs = annotation a.principal a.pre (posts cs)

  -- the tokens of an annotation are read as it, where no further clause follows
  pub annotation_read : (a : Annotation) (ts us : List Tok) → begins_clause us ≡ false → IsAnnotation sig known a ts → clauses_at sig known (ts ++ us) ≡ Ok (a, us)
  unfolding clauses_at
  annotation_read a ts us h (cs, is, say) =
      let goes : Goes empty_annotation cs (unended a cs) = record { principal = say.principal; pre = say.pre; post = refl } in
      mapped_is with_loans_ended (written_at sig known (ts ++ us)) (unended a cs) us (written_read (unended a cs) cs ts us goes h is)
      ∙ ap (λ post. Ok (annotation a.principal a.pre post, us)) say.post

  written_found : (after : Annotation) (ts us : List Tok) → written_at sig known ts ≡ Ok (after, us) → FoundClauses empty_annotation after ts us
  unfolding written_at
  written_found after ts us r = clauses_found (length ts) empty_annotation after ts us r

  -- what is read as an annotation is in the grammar
  pub annotation_found : Finds (clauses_at sig known) (IsAnnotation sig known)
  unfolding clauses_at
  annotation_found ts us a r =
      let x = bind_ok (written_at sig known ts) (λ x. Ok (with_loans_ended x.0, x.1)) (a, us) r in
      let k = ok_same (with_loans_ended x.0.0) a x.0.1 us x.2 in
      let m = written_found x.0.0 ts x.0.1 x.1 in
      let say : Say m.clauses (with_loans_ended x.0.0) = record { principal = m.goes.principal; pre = m.goes.pre; post = ap (with_end x.0.0.pre) m.goes.post } in
      (m.front, (m.clauses, m.is, subst (Say m.clauses) k.0 say), m.whole ∙ ap (λ y. m.front ++ y) k.1)
