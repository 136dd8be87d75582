-- Lists of capabilities: what is read is in the grammar.
use Rattle.std.proofs.Common.{◌≡◌, ℕ, Bool, true, false, List, [], ◌∷◌, ◌++◌, Ok, Err, refl, ap, ◌∙◌, subst, codes}
use Rattle.std.specs.Prelude.{if◌then◌else◌}
use Rattle.lx_annot.specs.declared.action.CapSpec.{CapSpec}
use Rattle.lx_annot.specs.declared.action.CapSpec.TheVariants as spec
use Rattle.lx_annot.specs.Expr.{Expr}
use Rattle.lx_annot_terms.specs.declared.lists.Within.{Within}
use Rattle.lx_annot_terms.specs.declared.lists.Within.TheVariants as within
use Rattle.lx_annot_expressions.specs.declared.fault.FaultKind.TheVariants.{Unknown, NeedsSize}
use Rattle.lx_annot_expressions.specs.Tokens.{Tok}
use Rattle.lx_annot_expressions.specs.Reading.{Read, ◌>>=◌, at, has, behind, refused, next_at, unless_word}
use Rattle.lx_annot_expressions.specs.Names.{known_of, known_at}
use Rattle.lx_annot_expressions.specs.Exprs.{Scope, expr_at, bracketed_at}
use Rattle.lx_annot_terms.specs.Lists.{Known, ends, size_mark_at, range_at, target_at, reference_at, write_at, call_at, ref_at, each_at, list_at, ref_item_at, item_list_at}
use Rattle.lx_annot_expressions.specs.Grammar.{Part, Is, ◌then◌, IsExpr, InBrackets}
use Rattle.lx_annot_terms.specs.Grammar.{IsKnown, is_list_word, IsList, IsItemList}
use Rattle.lx_annot_expressions.specs.Laws.{Finds}
use Rattle.lx_annot_expressions.proofs.Parts.{ok_same, pick_finds, next_finds, next_token, bind_finds, last_finds, Joint, Mapped}
use Rattle.lx_annot_expressions.proofs.ExprFinds.{expr_found}

abbrev comma_of : Within → List Tok → Bool → List Tok → Read (Unit {0})
comma_of place write a ts = if a then Ok (tt, behind ts) else if ends place ts then Err (at NeedsSize write) else refused ts

comma_short : (place : Within) (write ts us : List Tok) (x : Unit {0}) (b : Bool) → (if b then Err (at NeedsSize write) else refused ts) ≡ Ok (x, us) → ⊥
comma_short place write ts us x true r = cc
comma_short place write ts us x false r = cc

comma_by : (place : Within) (write ts us : List Tok) (x : Unit {0}) (a : Bool) → has (codes ",") ts ≡ a → comma_of place write a ts ≡ Ok (x, us) → (front : List Tok) × Is (codes ",") front × (ts ≡ front ++ us)
comma_by place write ts us x true h r =
    let n = next_token (codes ",") ts h in
    let k = ok_same tt x (behind ts) us r in
    (n.token ∷ [], (n.token, n.is, refl), n.whole ∙ ap (λ y. n.token ∷ y) k.1)
comma_by place write ts us x false h r = absurd (comma_short place write ts us x (ends place ts) r)

-- the comma before a size
comma_found : (place : Within) (write : List Tok) → Finds (size_mark_at place write) (λ x. Is (codes ","))
comma_found place write ts us x r = comma_by place write ts us x (has (codes ",") ts) refl r

-- `E, E`
abbrev RangeParts : Scope → CapSpec → Part
RangeParts scope = Joint (IsExpr scope) (λ a. Joint (λ (c : Unit {0}). Is (codes ",")) (λ c. Mapped (λ (n : Expr). spec.Write a n) (IsExpr scope)))

range_found : (place : Within) (scope : Scope) (write : List Tok) → Finds (range_at place scope write) (RangeParts scope)
range_found place scope write =
    bind_finds (expr_at scope) (λ a. size_mark_at place write a.1 >>= λ c. expr_at scope c.1 >>= λ n. Ok (spec.Write a.0 n.0, n.1)) _ _ (expr_found scope)
    (λ a. bind_finds (size_mark_at place write) (λ c. expr_at scope c.1 >>= λ n. Ok (spec.Write a n.0, n.1)) _ _ (comma_found place write)
    (λ c. last_finds (expr_at scope) (λ n. spec.Write a n) _ (expr_found scope)))

-- `, E`
abbrev ReferenceParts : Scope → ℕ → CapSpec → Part
ReferenceParts scope t = Joint (λ (c : Unit {0}). Is (codes ",")) (λ c. Mapped (λ (e : Expr). spec.Ref t e) (IsExpr scope))

reference_found : (scope : Scope) (t : ℕ) → Finds (reference_at t scope) (ReferenceParts scope t)
reference_found scope t =
    bind_finds (next_at (codes ",")) (λ c. expr_at scope c.1 >>= λ e. Ok (spec.Ref t e.0, e.1)) _ _ (next_finds (codes ","))
    (λ c. last_finds (expr_at scope) (λ e. spec.Ref t e) _ (expr_found scope))

target_found : (scope : Scope) → Finds (target_at scope) (Mapped (λ (e : Expr). spec.Call e) (IsExpr scope))
target_found scope = last_finds (expr_at scope) (λ e. spec.Call e) _ (expr_found scope)

-- What stands behind a word is read so.
abbrev Behind : (CapSpec → Part) → List ℕ → CapSpec → Part
Behind part text y ts = (k : Tok) → has text (k ∷ []) ≡ true → part y (k ∷ ts)

with_word : (part : CapSpec → Part) (text : List ℕ) (y : CapSpec) (ts us : List Tok) → has text ts ≡ true → (front : List Tok) × Behind part text y front × (behind ts ≡ front ++ us) → (front : List Tok) × part y front × (ts ≡ front ++ us)
with_word part text y ts us h w =
    let n = next_token text ts h in
    (n.token ∷ w.0, w.1 n.token n.is, n.whole ∙ ap (λ r. n.token ∷ r) w.2)

module _ (scope : Scope) (known : Known) where
  abbrev WriteParts : CapSpec → Part
  WriteParts = Joint (λ (c : Unit {0}). Is (codes ",")) (λ c. RangeParts scope)

  write_part : (y : CapSpec) (ts : List Tok) → WriteParts y ts → Behind (IsList scope known) (codes "write") y ts
  write_part y ts (c, (f, b, pc, (a, (f', b', pa, (c', (g, d, pc', (n, pn, eq), e3)), e2)), e1)) =
      λ k o. subst (λ z. IsList scope known z (k ∷ ts)) eq (k ∷ [], ts, (k, o, refl), (f, b, pc, (f', b', pa, (g, d, pc', pn, e3), e2), e1), refl)

  write_found : (ts us : List Tok) (y : CapSpec) → has (codes "write") ts ≡ true → write_at scope ts ≡ Ok (y, us) → (front : List Tok) × IsList scope known y front × (ts ≡ front ++ us)
  write_found ts us y h r =
      let w = bind_finds (next_at (codes ",")) (λ c. range_at within.Action scope ts c.1) _ _ (next_finds (codes ",")) (λ c. range_found within.Action scope ts) (behind ts) us y r in
      with_word (IsList scope known) (codes "write") y ts us h (w.0, write_part y w.0 w.1, w.2)

  abbrev CallParts : CapSpec → Part
  CallParts = Joint (λ (c : Unit {0}). Is (codes ",")) (λ c. Mapped (λ (e : Expr). spec.Call e) (IsExpr scope))

  call_part : (y : CapSpec) (ts : List Tok) → CallParts y ts → Behind (IsList scope known) (codes "call") y ts
  call_part y ts (c, (f, b, pc, (e, pe, eq), e1)) = λ k o. subst (λ z. IsList scope known z (k ∷ ts)) eq (k ∷ [], ts, (k, o, refl), (f, b, pc, pe, e1), refl)

  call_found : (ts us : List Tok) (y : CapSpec) → has (codes "call") ts ≡ true → call_at scope ts ≡ Ok (y, us) → (front : List Tok) × IsList scope known y front × (ts ≡ front ++ us)
  call_found ts us y h r =
      let w = bind_finds (next_at (codes ",")) (λ c. target_at scope c.1) _ _ (next_finds (codes ",")) (λ c. target_found scope) (behind ts) us y r in
      with_word (IsList scope known) (codes "call") y ts us h (w.0, call_part y w.0 w.1, w.2)

  abbrev RefParts : CapSpec → Part
  RefParts = Joint (λ (o : Unit {0}). Is (codes "(")) (λ o. Joint (λ t. IsKnown known.reftypes t) (λ t. Joint (λ (c : Unit {0}). Is (codes ")")) (λ c. ReferenceParts scope t)))

  ref_part : (y : CapSpec) (ts : List Tok) → RefParts y ts → Behind (IsList scope known) (codes "ref") y ts
  ref_part y ts (p, (f, b, pp, (t, (g, d, pt, (c, (h, i, pc, (c', (l, m, pc', (e, pe, eq), e5)), e4)), e3)), e1)) =
      λ k o. subst (λ z. IsList scope known z (k ∷ ts)) eq (k ∷ [], ts, (k, o, refl), (f, b, pp, (g, d, pt, (h, i, pc, (l, m, pc', pe, e5), e4), e3), e1), refl)

  ref_found : (ts us : List Tok) (y : CapSpec) → has (codes "ref") ts ≡ true → ref_at scope known ts ≡ Ok (y, us) → (front : List Tok) × IsList scope known y front × (ts ≡ front ++ us)
  ref_found ts us y h r =
      let w = bind_finds (next_at (codes "(")) (λ o. known_at known.reftypes o.1 >>= λ t. next_at (codes ")") t.1 >>= λ c. reference_at t.0 scope c.1) _ _ (next_finds (codes "("))
      (λ o. bind_finds (known_at known.reftypes) (λ t. next_at (codes ")") t.1 >>= λ c. reference_at t.0 scope c.1) _ _ (pick_finds (λ t. known_of known.reftypes t.kind t.bytes) (unless_word Unknown))
      (λ t. bind_finds (next_at (codes ")")) (λ c. reference_at t scope c.1) _ _ (next_finds (codes ")")) (λ c. reference_found scope t))) (behind ts) us y r in
      with_word (IsList scope known) (codes "ref") y ts us h (w.0, ref_part y w.0 w.1, w.2)

  no_word : (ts : List Tok) (t : Tok) (us : List Tok) → ts ≡ t ∷ us → has (codes "write") ts ≡ false → has (codes "call") ts ≡ false → has (codes "ref") ts ≡ false → is_list_word t ≡ false
  no_word ts t us e a b c =
      let a' : has (codes "write") (t ∷ us) ≡ false = subst (λ x. has (codes "write") x ≡ false) e a in
      let b' : has (codes "call") (t ∷ us) ≡ false = subst (λ x. has (codes "call") x ≡ false) e b in
      let c' : has (codes "ref") (t ∷ us) ≡ false = subst (λ x. has (codes "ref") x ≡ false) e c in
      rw (a', b', c') refl

  abbrev EachParts : CapSpec → Part
  EachParts = Joint (λ k. IsKnown known.iterators k) (λ k. Mapped (λ (e : Expr). spec.Each k e) (InBrackets scope))

  abbrev BracketParts : Expr → Part
  BracketParts = Joint (λ (o : Unit {0}). Is (codes "(")) (λ o. Joint (IsExpr scope) (λ e. Mapped (λ (c : Unit {0}). e) (λ c. Is (codes ")"))))

  bracketed_part : (e : Expr) (ts : List Tok) → BracketParts e ts → InBrackets scope e ts
  bracketed_part e ts (o, (f, b, po, (x, (g, d, px, (c, pc, eq), e2)), e1)) =
      subst (λ z. InBrackets scope z ts) eq (f, b, po, (g, d, px, pc, e2), e1)

  pub bracketed_finds : Finds (bracketed_at (expr_at scope)) (InBrackets scope)
  bracketed_finds ts us e r =
      let w = bind_finds (next_at (codes "(")) (λ o. expr_at scope o.1 >>= λ e. next_at (codes ")") e.1 >>= λ c. Ok (e.0, c.1)) _ _ (next_finds (codes "("))
      (λ o. bind_finds (expr_at scope) (λ e. next_at (codes ")") e.1 >>= λ c. Ok (e.0, c.1)) _ _ (expr_found scope)
      (λ e. last_finds (next_at (codes ")")) (λ c. e) (λ (c : Unit {0}). Is (codes ")")) (next_finds (codes ")")))) ts us e r in
      (w.0, bracketed_part e w.0 w.1, w.2)

  each_part : (y : CapSpec) (ts us all : List Tok) → all ≡ ts ++ us → has (codes "write") all ≡ false → has (codes "call") all ≡ false → has (codes "ref") all ≡ false → EachParts y ts → IsList scope known y ts
  each_part y ts us all w a b c (k, (f, d, (t, kt, ft), (e, pe, eq), e1)) =
      let front : all ≡ t ∷ (d ++ us) = w ∙ ap (λ x. x ++ us) (e1 ∙ ap (λ x. x ++ d) ft) in
      subst (λ z. IsList scope known z ts) eq (f, d, (t, kt, no_word all t (d ++ us) front a b c, ft), pe, e1)

  each_found : (ts us : List Tok) (y : CapSpec) → has (codes "write") ts ≡ false → has (codes "call") ts ≡ false → has (codes "ref") ts ≡ false → each_at scope known ts ≡ Ok (y, us) → (front : List Tok) × IsList scope known y front × (ts ≡ front ++ us)
  each_found ts us y a b c r =
      let w = bind_finds (known_at known.iterators) (λ k. bracketed_at (expr_at scope) k.1 >>= λ e. Ok (spec.Each k.0 e.0, e.1)) _ _ (pick_finds (λ t. known_of known.iterators t.kind t.bytes) (unless_word Unknown))
      (λ k. last_finds (bracketed_at (expr_at scope)) (λ e. spec.Each k e) _ bracketed_finds) ts us y r in
      (w.0, each_part y w.0 us ts w.2 a b c w.1, w.2)

  abbrev list_by : Bool → Bool → Bool → List Tok → Read CapSpec
  list_by a b c ts = if a then write_at scope ts else if b then call_at scope ts else if c then ref_at scope known ts else each_at scope known ts

  list_step : (a b c : Bool) (ts us : List Tok) (y : CapSpec) → has (codes "write") ts ≡ a → has (codes "call") ts ≡ b → has (codes "ref") ts ≡ c → list_by a b c ts ≡ Ok (y, us) → (front : List Tok) × IsList scope known y front × (ts ≡ front ++ us)
  list_step true b c ts us y p q s r = write_found ts us y p r
  list_step false true c ts us y p q s r = call_found ts us y q r
  list_step false false true ts us y p q s r = ref_found ts us y s r
  list_step false false false ts us y p q s r = each_found ts us y p q s r

  -- what is read as a list is in the grammar
  pub list_found : Finds (list_at scope known) (IsList scope known)
  unfolding list_at
  list_found ts us y r = list_step (has (codes "write") ts) (has (codes "call") ts) (has (codes "ref") ts) ts us y refl refl refl r

  write_item_part : (y : CapSpec) (ts : List Tok) → RangeParts scope y ts → Behind (IsItemList scope known) (codes "write") y ts
  write_item_part y ts (a, (f', b', pa, (c', (g, d, pc', (n, pn, eq), e3)), e2)) =
      λ k o. subst (λ z. IsItemList scope known z (k ∷ ts)) eq (k ∷ [], ts, (k, o, refl), (f', b', pa, (g, d, pc', pn, e3), e2), refl)

  call_item_part : (y : CapSpec) (ts : List Tok) → Mapped (λ (e : Expr). spec.Call e) (IsExpr scope) y ts → Behind (IsItemList scope known) (codes "call") y ts
  call_item_part y ts (e, pe, eq) = λ k o. subst (λ z. IsItemList scope known z (k ∷ ts)) eq (k ∷ [], ts, (k, o, refl), pe, refl)

  abbrev RefItemParts : CapSpec → Part
  RefItemParts = Joint (λ t. IsKnown known.reftypes t) (λ t. ReferenceParts scope t)

  ref_item_part : (y : CapSpec) (ts : List Tok) → RefItemParts y ts → Behind (IsItemList scope known) (codes "ref") y ts
  ref_item_part y ts (t, (g, d, pt, (c', (l, m, pc', (e, pe, eq), e5)), e3)) =
      λ k o. subst (λ z. IsItemList scope known z (k ∷ ts)) eq (k ∷ [], ts, (k, o, refl), (g, d, pt, (l, m, pc', pe, e5), e3), refl)

  abbrev item_by : Bool → Bool → Bool → List Tok → Read CapSpec
  item_by a b c ts = if a then range_at within.Iterator scope ts (behind ts) else if b then target_at scope (behind ts) else if c then ref_item_at scope known ts else refused ts

  item_step : (a b c : Bool) (ts us : List Tok) (y : CapSpec) → has (codes "write") ts ≡ a → has (codes "call") ts ≡ b → has (codes "ref") ts ≡ c → item_by a b c ts ≡ Ok (y, us) → (front : List Tok) × IsItemList scope known y front × (ts ≡ front ++ us)
  item_step true b c ts us y p q s r =
      let w = range_found within.Iterator scope ts (behind ts) us y r in
      with_word (IsItemList scope known) (codes "write") y ts us p (w.0, write_item_part y w.0 w.1, w.2)
  item_step false true c ts us y p q s r =
      let w = target_found scope (behind ts) us y r in
      with_word (IsItemList scope known) (codes "call") y ts us q (w.0, call_item_part y w.0 w.1, w.2)
  item_step false false true ts us y p q s r =
      let w = bind_finds (known_at known.reftypes) (λ t. reference_at t.0 scope t.1) _ _ (pick_finds (λ t. known_of known.reftypes t.kind t.bytes) (unless_word Unknown)) (λ t. reference_found scope t) (behind ts) us y r in
      with_word (IsItemList scope known) (codes "ref") y ts us s (w.0, ref_item_part y w.0 w.1, w.2)
  item_step false false false ts us y p q s r = cc

  -- what is read as an item's list is in the grammar
  pub item_list_found : Finds (item_list_at scope known) (IsItemList scope known)
  unfolding item_list_at
  item_list_found ts us y r = item_step (has (codes "write") ts) (has (codes "call") ts) (has (codes "ref") ts) ts us y refl refl refl r
