-- The registers and labels of an instruction come from names among its tokens.
use Rattle.std.proofs.Common.{◌≡◌, ℕ, Bool, true, false, Option, Some, None, List, [], ◌∷◌, ◌++◌, map, refl, sym, subst, option_map}
use Rattle.std.specs.Prelude.{if◌then◌else◌}
use Rattle.std.specs.List.{AllByRecursion}
use Rattle.lx_words.specs.declared.word.Width.{Width}
use Rattle.lx_words.specs.declared.word.Width.TheVariants.{W1, W8}
use Rattle.lx_ir_tokens.specs.declared.token.Tok.{Tok}
use Rattle.lx_ir_tokens.specs.declared.token.Kind.{Kind}
use Rattle.lx_ir_tokens.specs.declared.token.Kind.TheVariants as kinds
use Rattle.lx_ir.specs.declared.types.Scalar.{Scalar}
use Rattle.lx_ir.specs.declared.types.Scalar.TheVariants.{Int, Ptr}
use Rattle.lx_ir.specs.declared.module.Symbol.{Symbol}
use Rattle.lx_ir.specs.declared.module.Value.{Value}
use Rattle.lx_ir.specs.declared.module.Value.TheVariants as values
use Rattle.lx_ir.specs.declared.instr.Argument.{Argument}
use Rattle.lx_ir.specs.declared.instr.Callee.{Callee}
use Rattle.lx_ir.specs.declared.instr.Callee.TheVariants as callee
use Rattle.lx_ir.specs.declared.instr.Edge.{Edge}
use Rattle.lx_ir.specs.declared.instr.SwitchCase.{SwitchCase}
use Rattle.lx_ir.specs.declared.instr.Op.{Op}
use Rattle.lx_ir.specs.declared.instr.Op.TheVariants as op
use Rattle.lx_ir.specs.Operands.{argument, callee_operands, operands_of, labels_of, guard_width}
use Rattle.lx_ir.specs.Lawful.{same_scalar}
use Rattle.lx_ir_terms.specs.Context.{Context, register_number, bytes_of, symbol_of}
use Rattle.lx_ir_terms.specs.Grammar.{Part}
use Rattle.lx_ir_constants.specs.Constants.{is_register}
use Rattle.lx_ir_constants.specs.Grammar.{AreFurther, AreItems, IsValue}
use Rattle.lx_ir_constants.specs.InitGrammar.{AreListed}
use Rattle.lx_ir_operands.specs.Operands.{misfit, local_in}
use Rattle.lx_ir_operands.specs.Grammar.{IsTyped, IsSecond, IsAddress, IsAgain, IsLocal, IsLabel, IsNextLabel, IsEdge, IsCase, AreInRow}
use Rattle.lx_ir_calls.specs.declared.intrinsics.TextForm.{TextForm}
use Rattle.lx_ir_calls.specs.Calls.{callee_of}
use Rattle.lx_ir_calls.specs.Grammar.{IsArgument, IsGivenArgument, IsNextArgument, IsPlainCall, IsCopy, IsFill, IsGuard, IsCheck}
use Rattle.lx_ir_instructions.specs.Grammar.{IsForm}
use Rattle.lx_ir_lawful.specs.Named.{AllNamed, FromValue, FromArgument, FromLabel, FromNames}

mapped_all : {A B : Type 0} (P : B → Type 0) (f : A → B) (xs : List A) → AllByRecursion (λ x. P (f x)) xs → AllByRecursion P (map f xs)
mapped_all P f [] h = tt
mapped_all P f (x ∷ xs) h = (h.0, mapped_all P f xs h.1)

left_all : {A : Type 0} (P R : A → Type 0) (xs : List A) → AllByRecursion (λ x. P x × R x) xs → AllByRecursion P xs
left_all P R [] h = tt
left_all P R (x ∷ xs) h = (h.0.0, left_all P R xs h.1)

right_all : {A : Type 0} (P R : A → Type 0) (xs : List A) → AllByRecursion (λ x. P x × R x) xs → AllByRecursion R xs
right_all P R [] h = tt
right_all P R (x ∷ xs) h = (h.0.1, right_all P R xs h.1)

module _ (Q : ℕ → Type 0) where
  split : (f b : List Tok) → AllNamed Q (f ++ b) → AllNamed Q f × AllNamed Q b
  split [] b h = (tt, h)
  split (t ∷ f) b h = let r = split f b h.1 in ((h.0, r.0), r.1)

  -- the first of two parts, and the second
  pub front : (f b ts : List Tok) → ts ≡ f ++ b → AllNamed Q ts → AllNamed Q f
  front f b ts w n = (split f b (subst (AllNamed Q) w n)).0

  pub back : (f b ts : List Tok) → ts ≡ f ++ b → AllNamed Q ts → AllNamed Q b
  back f b ts w n = (split f b (subst (AllNamed Q) w n)).1

  one : (t : Tok) (ts : List Tok) → ts ≡ t ∷ [] → is_register t.kind ≡ true → AllNamed Q ts → Q t.name
  one t ts w k n = (subst (AllNamed Q) w n).0 k

  -- Lists.

  module _ {A : Type 0} (item : A → Part) (P : A → Type 0) (each : (x : A) (ts : List Tok) → item x ts → AllNamed Q ts → P x) where
    further : (xs : List A) (ts : List Tok) → AreFurther item xs ts → AllNamed Q ts → AllByRecursion P xs
    further [] ts h n = tt
    further (x ∷ xs) ts (f, b, m, (f2, b2, i, more, w2), w) n =
        let rest = back f b ts w n in
        (each x f2 i (front f2 b2 b w2 rest), further xs b2 more (back f2 b2 b w2 rest))

    items : (xs : List A) (ts : List Tok) → AreItems item xs ts → AllNamed Q ts → AllByRecursion P xs
    items [] ts h n = absurd h
    items (x ∷ xs) ts (f, b, i, more, w) n = (each x f i (front f b ts w n), further xs b more (back f b ts w n))

    listed : (xs : List A) (ts : List Tok) → AreListed item xs ts → AllNamed Q ts → AllByRecursion P xs
    listed [] ts h n = tt
    listed (x ∷ xs) ts h n = items (x ∷ xs) ts h n

    in_row : (xs : List A) (ts : List Tok) → AreInRow item xs ts → AllNamed Q ts → AllByRecursion P xs
    in_row [] ts h n = tt
    in_row (x ∷ xs) ts (f, b, i, more, w) n = (each x f i (front f b ts w n), in_row xs b more (back f b ts w n))

  module _ (context : Context) where
    -- Operands.

    value_named : (ty : Scalar) (v : Value) (ts : List Tok) → IsValue context ty v ts → AllNamed Q ts → FromValue Q context v
    value_named ty (values.Register r) ts (t, k, e, w) n = (t.name, one t ts w k n, e)
    value_named ty (values.Constant c) ts h n = tt

    typed_named : (a : Argument) (ts : List Tok) → IsTyped context a ts → AllNamed Q ts → FromArgument Q context a
    typed_named a ts (f, b, s, v, w) n = value_named a.ty a.value b v (back f b ts w n)

    second_named : (ty : Scalar) (v : Value) (ts : List Tok) → IsSecond context ty v ts → AllNamed Q ts → FromValue Q context v
    second_named ty v ts (f, b, m, h, w) n = value_named ty v b h (back f b ts w n)

    address_named : (v : Value) (ts : List Tok) → IsAddress context v ts → AllNamed Q ts → FromValue Q context v
    address_named v ts (f, b, m, (f2, b2, word, h, w2), w) n = value_named Ptr v b2 h (back f2 b2 b w2 (back f b ts w n))

    kept_by : (same : Bool) (ty : Scalar) (v : Value) → FromValue Q context v → FromValue Q context (if same then v else values.Constant (misfit ty))
    kept_by true ty v h = h
    kept_by false ty v h = tt

    again_named : (ty : Scalar) (v : Value) (ts : List Tok) → IsAgain context ty v ts → AllNamed Q ts → FromValue Q context v
    again_named ty v ts (a, (f, b, m, h, w), e) n =
        subst (FromValue Q context) e (kept_by (same_scalar a.ty ty) ty a.value (typed_named a b h (back f b ts w n)))

    -- Labels.

    local_is : (k : Kind) (name : ℕ) (l : List ℕ) → local_in context k name ≡ Some l → (is_register k ≡ true) × (bytes_of context name ≡ l)
    local_is kinds.Local name l e = let s : bytes_of context name ≡ l = cc in (refl, s)
    local_is k name l e = absurd (cc e)

    local_named : (l : List ℕ) (ts : List Tok) → IsLocal context l ts → AllNamed Q ts → FromLabel Q context l
    local_named l ts (t, e, w) n = let s = local_is t.kind t.name l e in (t.name, one t ts w s.0 n, s.1)

    label_named : (l : List ℕ) (ts : List Tok) → IsLabel context l ts → AllNamed Q ts → FromLabel Q context l
    label_named l ts (f, b, word, h, w) n = local_named l b h (back f b ts w n)

    next_label_named : (l : List ℕ) (ts : List Tok) → IsNextLabel context l ts → AllNamed Q ts → FromLabel Q context l
    next_label_named l ts (f, b, m, h, w) n = label_named l b h (back f b ts w n)

    -- Lists of operands with labels.

    abbrev OfEdge : Edge → Type 0
    OfEdge e = FromValue Q context e.value × FromLabel Q context e.label

    edge_named : (ty : Scalar) (e : Edge) (ts : List Tok) → IsEdge context ty e ts → AllNamed Q ts → OfEdge e
    edge_named ty e ts (f, b, o, (f2, b2, v, (f3, b3, m, (f4, b4, l, d, w4), w3), w2), w) n =
        let n1 = back f b ts w n in
        let n2 = back f2 b2 b w2 n1 in
        let n3 = back f3 b3 b2 w3 n2 in
        (value_named ty e.value f2 v (front f2 b2 b w2 n1), local_named e.label f4 l (front f4 b4 b3 w4 n3))

    abbrev OfCase : SwitchCase → Type 0
    OfCase k = FromValue Q context k.value × FromLabel Q context k.label

    case_named : (ty : Scalar) (k : SwitchCase) (ts : List Tok) → IsCase context ty k ts → AllNamed Q ts → OfCase k
    case_named ty k ts (other, c, (f, b, s, (f2, b2, v, l, w2), w), e) n =
        (subst (FromValue Q context) e tt, next_label_named k.label b2 l (back f2 b2 b w2 (back f b ts w n)))

    -- Arguments.

    argument_named : (a : Argument) (ts : List Tok) → IsArgument context a ts → AllNamed Q ts → FromArgument Q context a
    argument_named a ts (f, b, s, (f2, b2, p, v, w2), w) n = value_named a.ty a.value b2 v (back f2 b2 b w2 (back f b ts w n))

    given_named : (ty : Scalar) (v : Value) (ts : List Tok) → IsGivenArgument context ty v ts → AllNamed Q ts → FromValue Q context v
    given_named ty v ts (f, b, s, (f2, b2, p, h, w2), w) n = value_named ty v b2 h (back f2 b2 b w2 (back f b ts w n))

    next_named : (ty : Scalar) (v : Value) (ts : List Tok) → IsNextArgument context ty v ts → AllNamed Q ts → FromValue Q context v
    next_named ty v ts (f, b, m, h, w) n = given_named ty v b h (back f b ts w n)

    copy_named : (w : Width) (x y z : Value) (ts : List Tok) → IsCopy context w x y z ts → AllNamed Q ts → FromValue Q context x × (FromValue Q context y × (FromValue Q context z × Unit {0}))
    copy_named v x y z ts (f, b, o, (f2, b2, p, (f3, b3, q, (f4, b4, r, rest, w4), w3), w2), w) n =
        let n1 = back f b ts w n in
        let n2 = back f2 b2 b w2 n1 in
        let n3 = back f3 b3 b2 w3 n2 in
        (given_named Ptr x f2 p (front f2 b2 b w2 n1), (next_named Ptr y f3 q (front f3 b3 b2 w3 n2), (next_named (Int v) z f4 r (front f4 b4 b3 w4 n3), tt)))

    fill_named : (w : Width) (x y z : Value) (ts : List Tok) → IsFill context w x y z ts → AllNamed Q ts → FromValue Q context x × (FromValue Q context y × (FromValue Q context z × Unit {0}))
    fill_named v x y z ts (f, b, o, (f2, b2, p, (f3, b3, q, (f4, b4, r, rest, w4), w3), w2), w) n =
        let n1 = back f b ts w n in
        let n2 = back f2 b2 b w2 n1 in
        let n3 = back f3 b3 b2 w3 n2 in
        (given_named Ptr x f2 p (front f2 b2 b w2 n1), (next_named (Int W8) y f3 q (front f3 b3 b2 w3 n2), (next_named (Int v) z f4 r (front f4 b4 b3 w4 n3), tt)))

    guard_named : (narrow : Bool) (x y : Value) (ts : List Tok) → IsGuard context narrow x y ts → AllNamed Q ts → FromValue Q context x × (FromValue Q context y × Unit {0})
    guard_named narrow x y ts (f, b, o, (f2, b2, p, (f3, b3, q, rest, w3), w2), w) n =
        let n1 = back f b ts w n in
        let n2 = back f2 b2 b w2 n1 in
        (given_named Ptr x f2 p (front f2 b2 b w2 n1), (next_named (Int (guard_width narrow)) y f3 q (front f3 b3 b2 w3 n2), tt))

    check_named : (x : Value) (ts : List Tok) → IsCheck context x ts → AllNamed Q ts → FromValue Q context x
    check_named x ts (f, b, o, (f2, b2, p, rest, w2), w) n = given_named Ptr x f2 p (front f2 b2 b w2 (back f b ts w n))

    -- Calls.

    abbrev Operands : List Argument → Type 0
    Operands xs = AllByRecursion (FromArgument Q context) xs

    symbol_callee : (o : Option Symbol) (f : Callee) (xs : List Argument) → option_map callee.Symbol o ≡ Some f → Operands xs → Operands (callee_operands f ++ xs)
    symbol_callee (Some s) f xs e h = let same : callee.Symbol s ≡ f = cc in subst (λ g. Operands (callee_operands g ++ xs)) same h
    symbol_callee None f xs e h = absurd (cc e)

    callee_named : (k : Kind) (name : ℕ) (f : Callee) (xs : List Argument) → callee_of context k name ≡ Some f → (is_register k ≡ true → Q name) → Operands xs → Operands (callee_operands f ++ xs)
    callee_named kinds.Local name f xs e q h =
        let same : callee.Register (register_number context name) ≡ f = cc in
        subst (λ g. Operands (callee_operands g ++ xs)) same ((name, q refl, refl), h)
    callee_named kinds.Global name f xs e q h = symbol_callee (symbol_of context name) f xs e h
    callee_named k name f xs e q h = absurd (cc e)

    call_named : (form : TextForm) (f : Callee) (args : List Argument) (ts : List Tok) → IsPlainCall context form f args ts → AllNamed Q ts → Operands (callee_operands f ++ args)
    call_named form f args ts (f1, b1, (t, e, i, w3), (f2, b2, o, (f4, b4, all, m, w4), w2), w1) n =
        let n1 = back f2 b2 b1 w2 (back f1 b1 ts w1 n) in
        callee_named t.kind t.name f args e (λ k. one t f1 w3 k (front f1 b1 ts w1 n)) (listed (IsArgument context) (FromArgument Q context) argument_named args f4 all (front f4 b4 b2 w4 n1))

    -- Instructions.

    abbrev Reads : Op → Type 0
    Reads o = FromNames Q context o

    no_labels : (o : Op) → labels_of o ≡ [] → Operands (operands_of o) → Reads o
    no_labels o e h = record { read = h; labels = subst (AllByRecursion (FromLabel Q context)) (sym e) tt }

    -- behind a given register
    behind : (f1 b1 f2 b2 ts : List Tok) → ts ≡ f1 ++ b1 → b1 ≡ f2 ++ b2 → AllNamed Q ts → AllNamed Q b2
    behind f1 b1 f2 b2 ts w1 w2 n = back f2 b2 b1 w2 (back f1 b1 ts w1 n)

    pub form_named : (form : TextForm) (o : Op) (ts : List Tok) → IsForm context form o ts → AllNamed Q ts → Reads o
    form_named form (op.Binary to o ty x y) ts (f1, b1, g, (f2, b2, m, (f3, b3, first, (f4, b4, (f5, b5, flags, p, w5), q, w4), w3), w2), w1) n =
        let n1 = back f3 b3 b2 w3 (behind f1 b1 f2 b2 ts w1 w2 n) in
        no_labels (op.Binary to o ty x y) refl (typed_named (argument ty x) b5 p (back f5 b5 f4 w5 (front f4 b4 b3 w4 n1)), (second_named ty y b4 q (back f4 b4 b3 w4 n1), tt))
    form_named form (op.Compare to r ty x y) ts (f1, b1, g, (f2, b2, m, (f3, b3, first, (f4, b4, flags, (f5, b5, p, q, w5), w4), w3), w2), w1) n =
        let n1 = back f4 b4 b3 w4 (back f3 b3 b2 w3 (behind f1 b1 f2 b2 ts w1 w2 n)) in
        no_labels (op.Compare to r ty x y) refl (typed_named (argument ty x) f5 p (front f5 b5 b4 w5 n1), (second_named ty y b5 q (back f5 b5 b4 w5 n1), tt))
    form_named form (op.Convert to how from x into) ts (f1, b1, g, (f2, b2, m, (word, (f3, b3, first, (f4, b4, (f5, b5, flags, p, w5), q, w4), w3), is), w2), w1) n =
        let n1 = back f3 b3 b2 w3 (behind f1 b1 f2 b2 ts w1 w2 n) in
        no_labels (op.Convert to how from x into) refl (typed_named (argument from x) b5 p (back f5 b5 f4 w5 (front f4 b4 b3 w4 n1)), tt)
    form_named form (op.Unary to o ty x) ts (f1, b1, g, (f2, b2, m, (f3, b3, first, (f5, b5, flags, p, w5), w3), w2), w1) n =
        let n1 = back f3 b3 b2 w3 (behind f1 b1 f2 b2 ts w1 w2 n) in
        no_labels (op.Unary to o ty x) refl (typed_named (argument ty x) b5 p (back f5 b5 b3 w5 n1), tt)
    form_named form (op.Select to z ty x y) ts (f1, b1, g, (f2, b2, m, (f3, b3, first, (f4, b4, flags, (f5, b5, p, (f6, b6, comma, (f7, b7, q, r, w7), w6), w5), w4), w3), w2), w1) n =
        let n1 = back f4 b4 b3 w4 (back f3 b3 b2 w3 (behind f1 b1 f2 b2 ts w1 w2 n)) in
        let n2 = back f6 b6 b5 w6 (back f5 b5 b4 w5 n1) in
        no_labels (op.Select to z ty x y) refl
        (value_named (Int W1) z f5 p (front f5 b5 b4 w5 n1), (typed_named (argument ty x) f7 q (front f7 b7 b6 w7 n2), (again_named ty y b7 r (back f7 b7 b6 w7 n2), tt)))
    form_named form (op.Phi to ty edges) ts (f1, b1, g, (f2, b2, m, (f3, b3, first, (f4, b4, flags, p, w4), w3), w2), w1) n =
        let n1 = back f4 b4 b3 w4 (back f3 b3 b2 w3 (behind f1 b1 f2 b2 ts w1 w2 n)) in
        let all = items (IsEdge context ty) OfEdge (edge_named ty) edges b4 p n1 in
        record {
          read = mapped_all (FromArgument Q context) (λ (e : Edge). argument ty e.value) edges (left_all (λ e. FromValue Q context e.value) (λ e. FromLabel Q context e.label) edges all);
          labels = mapped_all (FromLabel Q context) (λ (e : Edge). e.label) edges (right_all (λ e. FromValue Q context e.value) (λ e. FromLabel Q context e.label) edges all);
        }
    form_named form (op.Alloca to ty) ts h n = no_labels (op.Alloca to ty) refl tt
    form_named form (op.Load to ty x) ts (f1, b1, g, (f2, b2, m, (f3, b3, first, (f4, b4, flags, (f5, b5, p, q, w5), w4), w3), w2), w1) n =
        let n1 = back f4 b4 b3 w4 (back f3 b3 b2 w3 (behind f1 b1 f2 b2 ts w1 w2 n)) in
        no_labels (op.Load to ty x) refl (address_named x f5 p (front f5 b5 b4 w5 n1), tt)
    form_named form (op.Store ty x y) ts (f3, b3, first, (f4, b4, (f5, b5, flags, p, w5), (f6, b6, q, r, w6), w4), w3) n =
        let n1 = back f3 b3 ts w3 n in
        no_labels (op.Store ty x y) refl (typed_named (argument ty x) b5 p (back f5 b5 f4 w5 (front f4 b4 b3 w4 n1)), (address_named y f6 q (front f6 b6 b4 w6 (back f4 b4 b3 w4 n1)), tt))
    form_named form (op.GetElementPtr to ty x is) ts (f1, b1, g, (f2, b2, m, (f3, b3, first, (f4, b4, (f5, b5, flags, p, w5), (f6, b6, q, (f7, b7, comma, r, w7), w6), w4), w3), w2), w1) n =
        let n1 = back f4 b4 b3 w4 (back f3 b3 b2 w3 (behind f1 b1 f2 b2 ts w1 w2 n)) in
        no_labels (op.GetElementPtr to ty x is) refl
        (address_named x f6 q (front f6 b6 b4 w6 n1), items (IsTyped context) (FromArgument Q context) typed_named is b7 r (back f7 b7 b6 w7 (back f6 b6 b4 w6 n1)))
    form_named form (op.Call None ret f args) ts (f1, b1, tails, (f2, b2, first, (f3, b3, result, (f4, b4, p, words, w4), w3), w2), w1) n =
        no_labels (op.Call None ret f args) refl (call_named form f args f4 p (front f4 b4 b3 w4 (back f3 b3 b2 w3 (behind f1 b1 f2 b2 ts w1 w2 n))))
    form_named form (op.Call (Some to) ret f args) ts (f5, b5, g, (f6, b6, m, (f1, b1, tails, (f2, b2, first, (f3, b3, result, (f4, b4, p, words, w4), w3), w2), w1), w6), w5) n =
        let n1 = behind f5 b5 f6 b6 ts w5 w6 n in
        no_labels (op.Call (Some to) ret f args) refl (call_named form f args f4 p (front f4 b4 b3 w4 (back f3 b3 b2 w3 (behind f1 b1 f2 b2 b6 w1 w2 n1))))
    form_named form (op.CopyBlock moves x y len) ts (f1, b1, tails, (f2, b2, first, (f3, b3, result, (f4, b4, (width, is, (f5, b5, name, p, w5)), words, w4), w3), w2), w1) n =
        let n1 = front f4 b4 b3 w4 (back f3 b3 b2 w3 (behind f1 b1 f2 b2 ts w1 w2 n)) in
        no_labels (op.CopyBlock moves x y len) refl (copy_named width x y len.value b5 p (back f5 b5 f4 w5 n1))
    form_named form (op.FillBlock x y len) ts (f1, b1, tails, (f2, b2, first, (f3, b3, result, (f4, b4, (width, is, (f5, b5, name, p, w5)), words, w4), w3), w2), w1) n =
        let n1 = front f4 b4 b3 w4 (back f3 b3 b2 w3 (behind f1 b1 f2 b2 ts w1 w2 n)) in
        no_labels (op.FillBlock x y len) refl (fill_named width x y len.value b5 p (back f5 b5 f4 w5 n1))
    form_named form (op.Ret None) ts h n = no_labels (op.Ret None) refl tt
    form_named form (op.Ret (Some x)) ts (f1, b1, first, (f2, b2, flags, p, w2), w1) n =
        no_labels (op.Ret (Some x)) refl (typed_named x b2 p (behind f1 b1 f2 b2 ts w1 w2 n), tt)
    form_named form (op.Jump l) ts (f1, b1, first, (f2, b2, flags, p, w2), w1) n =
        record { read = tt; labels = (label_named l b2 p (behind f1 b1 f2 b2 ts w1 w2 n), tt) }
    form_named form (op.Branch x l r) ts (f1, b1, first, (f2, b2, flags, (f3, b3, p, (f4, b4, q, s, w4), w3), w2), w1) n =
        let n1 = behind f1 b1 f2 b2 ts w1 w2 n in
        let n2 = back f3 b3 b2 w3 n1 in
        record {
          read = (value_named (Int W1) x f3 p (front f3 b3 b2 w3 n1), tt);
          labels = (next_label_named l f4 q (front f4 b4 b3 w4 n2), (next_label_named r b4 s (back f4 b4 b3 w4 n2), tt));
        }
    form_named form (op.Switch ty x otherwise cases) ts (f1, b1, first, (f2, b2, (f3, b3, flags, p, w3), (f4, b4, l, (f5, b5, o, (f6, b6, q, m, w6), w5), w4), w2), w1) n =
        let n1 = back f1 b1 ts w1 n in
        let n2 = back f2 b2 b1 w2 n1 in
        let n3 = back f5 b5 b4 w5 (back f4 b4 b2 w4 n2) in
        let all = in_row (IsCase context ty) OfCase (case_named ty) cases f6 q (front f6 b6 b5 w6 n3) in
        record {
          read = (
            typed_named (argument ty x) b3 p (back f3 b3 f2 w3 (front f2 b2 b1 w2 n1)),
            mapped_all (FromArgument Q context) (λ (k : SwitchCase). argument ty k.value) cases (left_all (λ k. FromValue Q context k.value) (λ k. FromLabel Q context k.label) cases all),
          );
          labels = (
            next_label_named otherwise f4 l (front f4 b4 b2 w4 n2),
            mapped_all (FromLabel Q context) (λ (k : SwitchCase). k.label) cases (right_all (λ k. FromValue Q context k.value) (λ k. FromLabel Q context k.label) cases all),
          );
        }
    form_named form op.Unreachable ts h n = no_labels op.Unreachable refl tt
    form_named form (op.Guard x y narrow) ts (f1, b1, tails, (f2, b2, first, (f3, b3, result, (f4, b4, (f5, b5, name, p, w5), words, w4), w3), w2), w1) n =
        let n1 = front f4 b4 b3 w4 (back f3 b3 b2 w3 (behind f1 b1 f2 b2 ts w1 w2 n)) in
        no_labels (op.Guard x y narrow) refl (guard_named narrow x y b5 p (back f5 b5 f4 w5 n1))
    form_named form (op.Check x) ts (f1, b1, tails, (f2, b2, first, (f3, b3, result, (f4, b4, (f5, b5, name, p, w5), words, w4), w3), w2), w1) n =
        let n1 = front f4 b4 b3 w4 (back f3 b3 b2 w3 (behind f1 b1 f2 b2 ts w1 w2 n)) in
        no_labels (op.Check x) refl (check_named x b5 p (back f5 b5 f4 w5 n1), tt)
    form_named form (op.Enter s) ts h n = no_labels (op.Enter s) refl tt
    form_named form (op.Pre s k) ts h n = no_labels (op.Pre s k) refl tt
    form_named form (op.Post s k) ts h n = no_labels (op.Post s k) refl tt
    form_named form (op.Leave s) ts h n = no_labels (op.Leave s) refl tt
