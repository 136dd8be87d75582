-- Edges, indices and cases, and lists of them.
use Rattle.std.proofs.Common.{◌≡◌, ℕ, ◌<◌, true, false, Some, List, [], ◌∷◌, ◌++◌, length, Ok, refl, ap, ◌∙◌, subst, append_assoc, arith}
use Rattle.std.specs.Prelude.{not}
use Rattle.lx_ir_tokens.specs.declared.token.Tok.{Tok}
use Rattle.lx_ir_tokens.specs.declared.token.Kind.{Kind}
use Rattle.lx_ir_tokens.specs.declared.token.Kind.TheVariants as kinds
use Rattle.lx_ir_tokens.specs.declared.token.Mark.{Mark}
use Rattle.lx_ir_tokens.specs.declared.token.Mark.TheVariants.{Comma, OpenBracket, CloseBracket, Exclamation}
use Rattle.lx_ir.specs.declared.types.Scalar.{Scalar}
use Rattle.lx_ir.specs.declared.module.Constant.{Constant}
use Rattle.lx_ir.specs.declared.module.Value.{Value}
use Rattle.lx_ir.specs.declared.module.Value.TheVariants as values
use Rattle.lx_ir.specs.declared.instr.Argument.{Argument}
use Rattle.lx_ir.specs.declared.instr.Edge.{Edge}
use Rattle.lx_ir.specs.declared.instr.SwitchCase.{SwitchCase}
use Rattle.lx_ir_terms.specs.Context.{Context}
use Rattle.lx_ir_terms.specs.Reading.{Read, ◌>>=◌, is_mark, mark_at}
use Rattle.lx_ir_terms.specs.Types.{scalar_in, scalar_at, scalar_refusal, depth_limit}
use Rattle.lx_ir_terms.specs.Grammar.{Part, IsMark, ◌then◌}
use Rattle.lx_ir_terms.specs.Laws.{Reads, Finds}
use Rattle.lx_ir_terms.proofs.Marks.{mark_is}
use Rattle.lx_ir_terms.proofs.Parts.{Joined, Mapped, pick_reads, next_reads, bind_reads, last_reads, pick_finds, next_finds, bind_finds, last_finds}
use Rattle.lx_ir_constants.specs.Constants.{value_at, constant_at}
use Rattle.lx_ir_constants.specs.Grammar.{IsConstant, IsValue, AreItems}
use Rattle.lx_ir_constants.proofs.ConstantLaws.{constant_again, constant_found}
use Rattle.lx_ir_constants.proofs.ValueLaws.{value_again, value_found}
use Rattle.lx_ir_operands.specs.Steps.{has_further, unbroken_at}
use Rattle.lx_ir_operands.specs.Operands.{kept_constant, typed_at, local_at, next_label_at, edge_at, case_at, has_case, some_cases_at, cases_at}
use Rattle.lx_ir_operands.specs.Grammar.{IsScalar, IsTyped, IsLocal, IsNextLabel, IsEdge, IsCase, AreInRow}
use Rattle.lx_ir_operands.proofs.Chains.{then_finds}
use Rattle.lx_ir_operands.proofs.FlagLaws.{typed_reads, typed_finds}
use Rattle.lx_ir_operands.proofs.OperandLaws.{local_reads, local_finds, next_label_reads, next_label_finds}
use Rattle.lx_ir_operands.proofs.Repeats.{then_filled, GoesThrough, row_again, row_found}
use Rattle.lx_ir_operands.proofs.Unbroken.{NoMetadata, unbroken_again, unbroken_found}

-- Edges.

abbrev edge : Value → List ℕ → Edge
edge v l = record { value = v; label = l }

pub edge_reads : (context : Context) (ty : Scalar) (e : Edge) → Reads (edge_at context ty) e (IsEdge context ty e)
edge_reads context ty e =
    bind_reads (mark_at OpenBracket) (λ o. value_at context ty o.1 >>= λ v. mark_at Comma v.1 >>= λ c. local_at context c.1 >>= λ l. mark_at CloseBracket l.1 >>= λ d. Ok (edge v.0 l.0, d.1)) tt e _ _ (next_reads (is_mark OpenBracket))
    (bind_reads (value_at context ty) (λ v. mark_at Comma v.1 >>= λ c. local_at context c.1 >>= λ l. mark_at CloseBracket l.1 >>= λ d. Ok (edge v.0 l.0, d.1)) e.value e _ _ (value_again context ty e.value)
    (bind_reads (mark_at Comma) (λ c. local_at context c.1 >>= λ l. mark_at CloseBracket l.1 >>= λ d. Ok (edge e.value l.0, d.1)) tt e _ _ (next_reads (is_mark Comma))
    (bind_reads (local_at context) (λ l. mark_at CloseBracket l.1 >>= λ d. Ok (edge e.value l.0, d.1)) e.label e _ _ (local_reads context e.label)
    (last_reads (mark_at CloseBracket) (λ d. edge e.value e.label) tt _ (next_reads (is_mark CloseBracket))))))

abbrev EdgeParts : Context → Scalar → Edge → Part
EdgeParts context ty e =
    IsMark OpenBracket then Joined (IsValue context ty) (λ v x. IsMark Comma then Joined (IsLocal context) (λ l. Mapped (λ (d : Unit {0}). edge v l) (λ d. IsMark CloseBracket)) x) e

edge_part : (context : Context) (ty : Scalar) (e : Edge) (ts : List Tok) → EdgeParts context ty e ts → IsEdge context ty e ts
edge_part context ty e ts (f, b, p, (v, (f2, b2, pv, (f3, b3, pc, (l, (f4, b4, pl, (d, pd, eq), e4)), e3), e2)), e1) =
    subst (λ x. IsEdge context ty x ts) eq (f, b, p, (f2, b2, pv, (f3, b3, pc, (f4, b4, pl, pd, e4), e3), e2), e1)

pub edge_finds : (context : Context) (ty : Scalar) → Finds (edge_at context ty) (IsEdge context ty)
edge_finds context ty ts us e g =
    let w = then_finds (mark_at OpenBracket) (λ o. value_at context ty o.1 >>= λ v. mark_at Comma v.1 >>= λ c. local_at context c.1 >>= λ l. mark_at CloseBracket l.1 >>= λ d. Ok (edge v.0 l.0, d.1)) _ _ (next_finds (is_mark OpenBracket))
    (λ o. bind_finds (value_at context ty) (λ v. mark_at Comma v.1 >>= λ c. local_at context c.1 >>= λ l. mark_at CloseBracket l.1 >>= λ d. Ok (edge v.0 l.0, d.1)) _ _ (value_found context ty)
    (λ v. then_finds (mark_at Comma) (λ c. local_at context c.1 >>= λ l. mark_at CloseBracket l.1 >>= λ d. Ok (edge v l.0, d.1)) _ _ (next_finds (is_mark Comma))
    (λ c. bind_finds (local_at context) (λ l. mark_at CloseBracket l.1 >>= λ d. Ok (edge v l.0, d.1)) _ _ (local_finds context)
    (λ l. last_finds (mark_at CloseBracket) (λ d. edge v l) _ (next_finds (is_mark CloseBracket)))))) ts us e g in
    (w.0, edge_part context ty e w.0 w.1, w.2)

mark_no_metadata : (k : Kind) → is_mark OpenBracket k ≡ true → is_mark Exclamation k ≡ false
mark_no_metadata k h = ap (is_mark Exclamation) (mark_is OpenBracket k h)

pub edge_no_metadata : (context : Context) (ty : Scalar) (e : Edge) → NoMetadata (IsEdge context ty e)
edge_no_metadata context ty e ts us (f, b, (t, k, g), r, w) = rw (w, g) (mark_no_metadata t.kind k)

pub edges_again : (context : Context) (ty : Scalar) (es : List Edge) (ts us : List Tok) → has_further us ≡ false → AreItems (IsEdge context ty) es ts → unbroken_at (edge_at context ty) (ts ++ us) ≡ Ok (es, us)
edges_again context ty = unbroken_again (edge_at context ty) (IsEdge context ty) (edge_reads context ty) (edge_no_metadata context ty)

pub edges_found : (context : Context) (ty : Scalar) → Finds (unbroken_at (edge_at context ty)) (AreItems (IsEdge context ty))
edges_found context ty = unbroken_found (edge_at context ty) (IsEdge context ty) (edge_finds context ty)

-- Indices.

pub scalar_no_mark : (m : Mark) (k : Kind) (ty : Scalar) → scalar_in k ≡ Some ty → is_mark m k ≡ false
scalar_no_mark m (kinds.Word w) ty e = refl
scalar_no_mark m k ty e = cc

pub typed_no_metadata : (context : Context) (a : Argument) → NoMetadata (IsTyped context a)
typed_no_metadata context a ts us (f, b, (t, e, g), r, w) = rw (w, g) (scalar_no_mark Exclamation t.kind a.ty e)

pub indices_again : (context : Context) (xs : List Argument) (ts us : List Tok) → has_further us ≡ false → AreItems (IsTyped context) xs ts → unbroken_at (typed_at context) (ts ++ us) ≡ Ok (xs, us)
indices_again context = unbroken_again (typed_at context) (IsTyped context) (typed_reads context) (typed_no_metadata context)

pub indices_found : (context : Context) → Finds (unbroken_at (typed_at context)) (AreItems (IsTyped context))
indices_found context = unbroken_found (typed_at context) (IsTyped context) (typed_finds context)

-- Cases.

abbrev made_case : Value → List ℕ → SwitchCase
made_case v l = record { value = v; label = l }

-- the case of a switch of this type, whose own type is another
abbrev case_of : Scalar → Scalar → Constant → List ℕ → SwitchCase
case_of ty other c l = made_case (values.Constant (kept_constant ty other c)) l

pub case_reads : (context : Context) (ty : Scalar) (k : SwitchCase) → Reads (case_at context ty) k (IsCase context ty k)
case_reads context ty k ts us (other, c, q, e) =
    bind_reads scalar_at (λ t. constant_at context depth_limit t.0 t.1 >>= λ c. next_label_at context c.1 >>= λ l. Ok (case_of ty t.0 c.0 l.0, l.1)) other (case_of ty other c k.label) _ _ (pick_reads (λ t. scalar_in t.kind) scalar_refusal other)
    (bind_reads (constant_at context depth_limit other) (λ c. next_label_at context c.1 >>= λ l. Ok (case_of ty other c.0 l.0, l.1)) c (case_of ty other c k.label) _ _ (constant_again context depth_limit other c)
    (last_reads (next_label_at context) (λ l. case_of ty other c l) k.label _ (next_label_reads context k.label))) ts us q
    ∙ ap (λ v. Ok (made_case v k.label, us)) e

abbrev CaseParts : Context → Scalar → SwitchCase → Part
CaseParts context ty = Joined IsScalar (λ other. Joined (IsConstant context depth_limit other) (λ c. Mapped (λ (l : List ℕ). case_of ty other c l) (IsNextLabel context)))

case_part : (context : Context) (ty : Scalar) (k : SwitchCase) (ts : List Tok) → CaseParts context ty k ts → IsCase context ty k ts
case_part context ty k ts (other, (f, b, po, (c, (f2, b2, pc, (l, pl, eq), e2)), e1)) =
    subst (λ x. IsCase context ty x ts) eq (other, c, (f, b, po, (f2, b2, pc, pl, e2), e1), refl)

pub case_finds : (context : Context) (ty : Scalar) → Finds (case_at context ty) (IsCase context ty)
case_finds context ty ts us k e =
    let w = bind_finds scalar_at (λ t. constant_at context depth_limit t.0 t.1 >>= λ c. next_label_at context c.1 >>= λ l. Ok (case_of ty t.0 c.0 l.0, l.1)) _ _ (pick_finds (λ t. scalar_in t.kind) scalar_refusal)
    (λ other. bind_finds (constant_at context depth_limit other) (λ c. next_label_at context c.1 >>= λ l. Ok (case_of ty other c.0 l.0, l.1)) _ _ (constant_found context depth_limit other)
    (λ c. last_finds (next_label_at context) (λ l. case_of ty other c l) _ (next_label_finds context))) ts us k e in
    (w.0, case_part context ty k w.0 w.1, w.2)

scalar_filled : (ty : Scalar) (ts : List Tok) → IsScalar ty ts → 0 < length ts
scalar_filled ty ts (t, e, f) = rw f (omega arith)

case_filled : (context : Context) (ty : Scalar) (k : SwitchCase) (ts : List Tok) → IsCase context ty k ts → 0 < length ts
case_filled context ty k ts (other, c, q, e) = then_filled (IsScalar other) _ ts (scalar_filled other) q

case_goes : (context : Context) (ty : Scalar) (k : SwitchCase) (ts us : List Tok) → IsCase context ty k ts → has_case (ts ++ us) ≡ true
case_goes context ty k ts us (other, c, (f, b, (t, e, g), r, w), v) = rw (w, g) (ap not (scalar_no_mark CloseBracket t.kind other e))

pub through_cases : (context : Context) (ty : Scalar) → GoesThrough has_case (case_at context ty) (IsCase context ty)
through_cases context ty = record { filled = case_filled context ty; goes = case_goes context ty; reads = case_reads context ty }

-- cases, and the bracket that closes them
abbrev pub closed_cases : Context → Scalar → List Tok → Read (List SwitchCase)
closed_cases context ty ts = some_cases_at context ty ts >>= λ cs. mark_at CloseBracket cs.1 >>= λ c. Ok (cs.0, c.1)

closed_reads : (context : Context) (ty : Scalar) (ks : List SwitchCase) → Reads (closed_cases context ty) ks (AreInRow (IsCase context ty) ks then IsMark CloseBracket)
closed_reads context ty ks ts us (f, b, m, (c, k, e), w) =
    let whole : ts ++ us ≡ f ++ (c ∷ us) = rw (w, e) (append_assoc f (c ∷ []) us) in
    rw (whole, row_again has_case (case_at context ty) (IsCase context ty) (through_cases context ty) ks (length (f ++ (c ∷ us))) f (c ∷ us) m (omega arith) (ap not k), k) refl

pub cases_reads : (context : Context) (ty : Scalar) (ks : List SwitchCase) → Reads (cases_at context ty) ks (IsMark OpenBracket then AreInRow (IsCase context ty) ks then IsMark CloseBracket)
cases_reads context ty ks = bind_reads (mark_at OpenBracket) (λ o. closed_cases context ty o.1) tt ks _ _ (next_reads (is_mark OpenBracket)) (closed_reads context ty ks)

some_cases_finds : (context : Context) (ty : Scalar) → Finds (some_cases_at context ty) (AreInRow (IsCase context ty))
some_cases_finds context ty ts us ks e = row_found has_case (case_at context ty) (IsCase context ty) (λ ws vs k g i. case_finds context ty ws vs k i) (length ts) ts us ks e

abbrev CasesParts : Context → Scalar → List SwitchCase → Part
CasesParts context ty ks = IsMark OpenBracket then Joined (AreInRow (IsCase context ty)) (λ xs. Mapped (λ (c : Unit {0}). xs) (λ c. IsMark CloseBracket)) ks

cases_part : (context : Context) (ty : Scalar) (ks : List SwitchCase) (ts : List Tok) → CasesParts context ty ks ts → (IsMark OpenBracket then AreInRow (IsCase context ty) ks then IsMark CloseBracket) ts
cases_part context ty ks ts (f, b, p, (xs, (f2, b2, m, (c, pc, eq), e2)), e1) =
    subst (λ ys. (IsMark OpenBracket then AreInRow (IsCase context ty) ys then IsMark CloseBracket) ts) eq (f, b, p, (f2, b2, m, pc, e2), e1)

pub cases_finds : (context : Context) (ty : Scalar) → Finds (cases_at context ty) (λ ks. IsMark OpenBracket then AreInRow (IsCase context ty) ks then IsMark CloseBracket)
cases_finds context ty ts us ks e =
    let w = then_finds (mark_at OpenBracket) (λ o. closed_cases context ty o.1) _ _ (next_finds (is_mark OpenBracket))
    (λ o. bind_finds (some_cases_at context ty) (λ cs. mark_at CloseBracket cs.1 >>= λ c. Ok (cs.0, c.1)) _ _ (some_cases_finds context ty) (λ xs. last_finds (mark_at CloseBracket) (λ c. xs) _ (next_finds (is_mark CloseBracket)))) ts us ks e in
    (w.0, cases_part context ty ks w.0 w.1, w.2)
