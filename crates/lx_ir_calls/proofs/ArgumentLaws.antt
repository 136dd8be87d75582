-- Arguments: what is in the grammar is read, and what is read is in the grammar.
use Rattle.std.proofs.Common.{◌≡◌, ℕ, Bool, true, false, Option, Some, List, [], ◌∷◌, ◌++◌, Ok, Err, inl, inr, refl, ap, ◌∙◌, subst, append_assoc}
use Rattle.std.specs.Prelude.{if◌then◌else◌, not}
use Rattle.lx_ir_tokens.specs.declared.token.Tok.{Tok}
use Rattle.lx_ir_tokens.specs.declared.token.Kind.{Kind}
use Rattle.lx_ir_tokens.specs.declared.token.Kind.TheVariants as kinds
use Rattle.lx_ir_tokens.specs.declared.token.Mark.TheVariants.{Comma, CloseParenthesis}
use Rattle.lx_ir_tokens.specs.declared.keyword.Keyword.TheVariants as keywords
use Rattle.lx_ir.specs.declared.types.Scalar.{Scalar}
use Rattle.lx_ir.specs.declared.module.Constant.{Constant}
use Rattle.lx_ir.specs.declared.module.Value.{Value}
use Rattle.lx_ir.specs.declared.module.Value.TheVariants as values
use Rattle.lx_ir.specs.declared.instr.Argument.{Argument}
use Rattle.lx_ir_terms.specs.declared.fault.FaultKind.TheVariants.{OutOfProfile}
use Rattle.lx_ir_terms.specs.Context.{Context}
use Rattle.lx_ir_terms.specs.Reading.{Read, ◌>>=◌, at, has, behind, is_mark, pick_at, mark_at, closed_at, listed_at}
use Rattle.lx_ir_terms.specs.Types.{scalar_in, scalar_refusal, depth_limit}
use Rattle.lx_ir_terms.specs.Words as passing
use Rattle.lx_ir_terms.specs.Grammar.{Part, Picks, Is, IsMark, ◌then◌}
use Rattle.lx_ir_terms.specs.Laws.{Reads, Finds}
use Rattle.lx_ir_terms.proofs.Marks.{next_token}
use Rattle.lx_ir_terms.proofs.Parts.{Joined, Mapped, pick_reads, next_reads, bind_reads, last_reads, pick_finds, next_finds, bind_finds, last_finds, ok_same}
use Rattle.lx_ir_constants.specs.Constants.{begins_expression, flat_constant_of, is_register, value_at}
use Rattle.lx_ir_constants.specs.Grammar.{AreItems, IsConstant, IsValue}
use Rattle.lx_ir_constants.specs.InitGrammar.{AreListed}
use Rattle.lx_ir_constants.proofs.ConstantLaws.{expression_reads}
use Rattle.lx_ir_constants.proofs.ListLaws.{Found, closed_again, closed_found}
use Rattle.lx_ir_constants.proofs.PointerLaws.{form_reads, form_finds}
use Rattle.lx_ir_constants.proofs.ValueLaws.{value_again, value_found}
use Rattle.lx_ir_operands.specs.Operands.{argument}
use Rattle.lx_ir_operands.specs.Grammar.{IsPassed, Repeated}
use Rattle.lx_ir_operands.proofs.Chains.{then_finds}
use Rattle.lx_ir_operands.proofs.PassedLaws.{passed_again, passed_found}
use Rattle.lx_ir_operands.proofs.ListedLaws.{scalar_no_mark}
use Rattle.lx_ir_calls.specs.Arguments.{is_stray_at_value, strict_value_at, passed_value_at, argument_at, is_scalar_word, given_type_refusal, given_type_at, given_argument_at, next_argument_at}
use Rattle.lx_ir_calls.specs.Grammar.{IsArgument, IsGivenArgument, IsNextArgument}

-- What a value begins with.

-- a token of this kind begins a value
abbrev begins_value : Kind → Bool
begins_value kinds.Local = true
begins_value kinds.Global = true
begins_value (kinds.Number v minus) = true
begins_value (kinds.Word (keywords.Constant w)) = true
begins_value (kinds.Word w) = begins_expression (kinds.Word w)
begins_value _ = false

flat_begins : (context : Context) (ty : Scalar) (k : Kind) (name : ℕ) (c : Constant) → flat_constant_of context ty k name ≡ Some c → begins_value k ≡ true
flat_begins context ty (kinds.Word (keywords.Constant w)) name c e = refl
flat_begins context ty kinds.Global name c e = refl
flat_begins context ty (kinds.Number v m) name c e = refl
flat_begins context ty k name c e = cc

expression_begins_value : (k : Kind) → begins_expression k ≡ true → begins_value k ≡ true
expression_begins_value (kinds.Word (keywords.Constant w)) h = refl
expression_begins_value (kinds.Word w) h = h
expression_begins_value kinds.Local h = refl
expression_begins_value kinds.Global h = refl
expression_begins_value (kinds.Number v m) h = refl
expression_begins_value (kinds.Mark m) h = cc
expression_begins_value kinds.Text h = cc
expression_begins_value kinds.Bytes h = cc

register_begins : (k : Kind) → is_register k ≡ true → begins_value k ≡ true
register_begins kinds.Local h = refl
register_begins k h = cc

-- what holds of each token of this kind holds of the next
pub next_so : (p q : Kind → Bool) (b : Bool) → ((k : Kind) → p k ≡ true → q k ≡ b) → (ts : List Tok) → has p ts ≡ true → has q ts ≡ b
next_so p q b h [] e = cc
next_so p q b h (t ∷ ts) e = h t.kind e

constant_begins : (context : Context) (ty : Scalar) (c : Constant) (ts us : List Tok) → IsConstant context depth_limit ty c ts → has begins_value (ts ++ us) ≡ true
constant_begins context ty c ts us (inl (k, e, f)) = rw f (flat_begins context ty k.kind k.name c e)
constant_begins context ty c ts us (inr i) = next_so begins_expression begins_value true expression_begins_value (ts ++ us) (expression_reads context depth_limit c ts us i).0

value_begins : (context : Context) (ty : Scalar) (v : Value) (ts us : List Tok) → IsValue context ty v ts → has begins_value (ts ++ us) ≡ true
value_begins context ty (values.Register r) ts us (t, k, n, w) = rw w (register_begins t.kind k)
value_begins context ty (values.Constant c) ts us i = constant_begins context ty c ts us i

value_is_no_passed_word : (k : Kind) → begins_value k ≡ true → passing.is_passed false k ≡ false
value_is_no_passed_word (kinds.Word keywords.Parameter) h = cc
value_is_no_passed_word (kinds.Word keywords.Align) h = cc
value_is_no_passed_word (kinds.Word keywords.Dereferenceable) h = cc
value_is_no_passed_word (kinds.Word keywords.Captures) h = cc
value_is_no_passed_word k h = refl

value_is_not_stray : (k : Kind) → begins_value k ≡ true → is_stray_at_value k ≡ false
value_is_not_stray (kinds.Word (keywords.Constant w)) h = refl
value_is_not_stray (kinds.Word w) h = ap not h
value_is_not_stray kinds.Local h = refl
value_is_not_stray kinds.Global h = refl
value_is_not_stray (kinds.Number v m) h = refl
value_is_not_stray (kinds.Mark m) h = refl
value_is_not_stray kinds.Text h = refl
value_is_not_stray kinds.Bytes h = refl

-- Words that are passed over, and a part behind them.

-- a part does not begin with a word that is passed over
abbrev pub NotPassed : Part → Type 0
NotPassed p = (ts us : List Tok) → p ts → has (passing.is_passed false) (ts ++ us) ≡ false

pub passed_reads : {A : Type 0} (read : List Tok → Read A) (x : A) (p : Part) → NotPassed p → Reads read x p → Reads (λ ts. passing.passed_at false ts >>= λ w. read w.1) x (Repeated IsPassed then p)
passed_reads read x p n h ts us (f, b, e, q, w) =
    rw (w, append_assoc f b us, passed_again tt f (b ++ us) (n b us q) e) (h b us q)

value_not_passed : (context : Context) (ty : Scalar) (v : Value) → NotPassed (IsValue context ty v)
value_not_passed context ty v ts us i = next_so begins_value (passing.is_passed false) false value_is_no_passed_word (ts ++ us) (value_begins context ty v ts us i)

-- a token of this kind, none of which is passed over
pub picks_not_passed : {A : Type 0} (what : Tok → Option A) (x : A) → ((t : Tok) → what t ≡ Some x → passing.is_passed false t.kind ≡ false) → NotPassed (Picks what x)
picks_not_passed what x h ts us (t, e, f) = rw f (h t e)

pub is_not_passed : (p : Kind → Bool) → ((k : Kind) → p k ≡ true → passing.is_passed false k ≡ false) → NotPassed (Is p)
is_not_passed p h ts us (t, e, f) = rw f (h t.kind e)

pub then_not_passed : (p q : Part) → NotPassed p → NotPassed (p then q)
then_not_passed p q n ts us (f, b, e, r, w) = rw (w, append_assoc f b us) (n f (b ++ us) e)

-- Values behind such words.

strict_reads : (context : Context) (ty : Scalar) (v : Value) → Reads (strict_value_at context ty) v (IsValue context ty v)
strict_reads context ty v ts us i =
    rw (next_so begins_value is_stray_at_value false value_is_not_stray (ts ++ us) (value_begins context ty v ts us i)) (value_again context ty v ts us i)

abbrev strict_by : Bool → Context → Scalar → List Tok → Read Value
strict_by b context ty ts = if b then Err (at OutOfProfile ts) else value_at context ty ts

strict_step : (b : Bool) (context : Context) (ty : Scalar) (ts us : List Tok) (v : Value) → strict_by b context ty ts ≡ Ok (v, us) → Found (IsValue context ty) v ts us
strict_step true context ty ts us v e = cc
strict_step false context ty ts us v e = value_found context ty ts us v e

strict_finds : (context : Context) (ty : Scalar) → Finds (strict_value_at context ty) (IsValue context ty)
strict_finds context ty ts us v e = strict_step (has is_stray_at_value ts) context ty ts us v e

abbrev IsPassedValue : Context → Scalar → Value → Part
IsPassedValue context ty v = Repeated IsPassed then IsValue context ty v

passed_value_reads : (context : Context) (ty : Scalar) (v : Value) → Reads (passed_value_at context ty) v (IsPassedValue context ty v)
passed_value_reads context ty v = passed_reads (strict_value_at context ty) v (IsValue context ty v) (value_not_passed context ty v) (strict_reads context ty v)

passed_value_finds : (context : Context) (ty : Scalar) → Finds (passed_value_at context ty) (IsPassedValue context ty)
passed_value_finds context ty ts us v e =
    then_finds (passing.passed_at false) (λ w. strict_value_at context ty w.1) (Repeated IsPassed) (IsValue context ty) passed_found (λ w. strict_finds context ty) ts us v e

-- Arguments.

pub argument_reads : (context : Context) (a : Argument) → Reads (argument_at context) a (IsArgument context a)
argument_reads context a =
    bind_reads (pick_at (λ t. scalar_in t.kind) scalar_refusal) (λ t. passed_value_at context t.0 t.1 >>= λ v. Ok (argument t.0 v.0, v.1)) a.ty a _ _ (pick_reads (λ t. scalar_in t.kind) scalar_refusal a.ty)
    (last_reads (passed_value_at context a.ty) (λ v. argument a.ty v) a.value _ (passed_value_reads context a.ty a.value))

argument_parts : (context : Context) (a : Argument) (ts : List Tok) → Joined (Picks (λ t. scalar_in t.kind)) (λ ty. Mapped (λ (v : Value). argument ty v) (IsPassedValue context ty)) a ts → IsArgument context a ts
argument_parts context a ts (ty, (f, b, p, (v, m, eq), e)) = subst (λ x. IsArgument context x ts) eq (f, b, p, m, e)

pub argument_finds : (context : Context) → Finds (argument_at context) (IsArgument context)
argument_finds context ts us a g =
    let w = bind_finds (pick_at (λ t. scalar_in t.kind) scalar_refusal) (λ t. passed_value_at context t.0 t.1 >>= λ v. Ok (argument t.0 v.0, v.1)) _ _ (pick_finds (λ t. scalar_in t.kind) scalar_refusal) (λ ty. last_finds (passed_value_at context ty) (λ v. argument ty v) _ (passed_value_finds context ty)) ts us a g in
    (w.0, argument_parts context a w.0 w.1, w.2)

-- `T a` with a type that the called name gives

pub given_type_reads : (ty : Scalar) → Reads (given_type_at ty) tt (Is (is_scalar_word ty))
given_type_reads ty = form_reads (is_scalar_word ty) given_type_refusal

pub given_type_finds : (ty : Scalar) → Finds (given_type_at ty) (λ x. Is (is_scalar_word ty))
given_type_finds ty = form_finds (is_scalar_word ty) given_type_refusal

pub given_reads : (context : Context) (ty : Scalar) (v : Value) → Reads (given_argument_at context ty) v (IsGivenArgument context ty v)
given_reads context ty v =
    bind_reads (given_type_at ty) (λ t. passed_value_at context ty t.1) tt v _ _ (given_type_reads ty) (passed_value_reads context ty v)

pub given_finds : (context : Context) (ty : Scalar) → Finds (given_argument_at context ty) (IsGivenArgument context ty)
given_finds context ty ts us v e =
    then_finds (given_type_at ty) (λ t. passed_value_at context ty t.1) (Is (is_scalar_word ty)) (IsPassedValue context ty) (given_type_finds ty) (λ t. passed_value_finds context ty) ts us v e

pub next_reads_given : (context : Context) (ty : Scalar) (v : Value) → Reads (next_argument_at context ty) v (IsNextArgument context ty v)
next_reads_given context ty v =
    bind_reads (mark_at Comma) (λ c. given_argument_at context ty c.1) tt v _ _ (next_reads (is_mark Comma)) (given_reads context ty v)

pub next_finds_given : (context : Context) (ty : Scalar) → Finds (next_argument_at context ty) (IsNextArgument context ty)
next_finds_given context ty ts us v e =
    then_finds (mark_at Comma) (λ c. given_argument_at context ty c.1) (IsMark Comma) (IsGivenArgument context ty) (next_finds (is_mark Comma)) (λ c. given_finds context ty) ts us v e

-- Arguments in parentheses.

argument_opens : (context : Context) (a : Argument) (ts us : List Tok) → IsArgument context a ts → has (is_mark CloseParenthesis) (ts ++ us) ≡ false
argument_opens context a ts us (f, b, (t, e, g), r, w) = rw (w, g) (scalar_no_mark CloseParenthesis t.kind a.ty e)

arguments_open : (context : Context) (xs : List Argument) (ts us : List Tok) → AreItems (IsArgument context) xs ts → has (is_mark CloseParenthesis) (ts ++ us) ≡ false
arguments_open context [] ts us e = absurd e
arguments_open context (x ∷ xs) ts us (f, b, a, m, w) = rw (w, append_assoc f b us) (argument_opens context x f (b ++ us) a)

abbrev pub AreArguments : Context → List Argument → Part
AreArguments context xs = AreListed (IsArgument context) xs then IsMark CloseParenthesis

pub arguments_read : (context : Context) (xs : List Argument) → Reads (listed_at CloseParenthesis (argument_at context)) xs (AreArguments context xs)
arguments_read context [] ts us (f, b, e, (t, k, g), w) = rw (w, e, g, k) refl
arguments_read context (x ∷ xs) ts us (f, b, a, r, w) =
    let open_yet : has (is_mark CloseParenthesis) (ts ++ us) ≡ false = rw (w, append_assoc f b us) (arguments_open context (x ∷ xs) f (b ++ us) a) in
    rw open_yet (closed_again CloseParenthesis (argument_at context) (IsArgument context) refl (argument_reads context) (x ∷ xs) ts us (f, b, a, r, w))

abbrev listed_by : Bool → Context → List Tok → Read (List Argument)
listed_by b context ts = if b then Ok ([], behind ts) else closed_at CloseParenthesis (argument_at context) ts

some_listed : (context : Context) (xs : List Argument) (ts : List Tok) → (AreItems (IsArgument context) xs then IsMark CloseParenthesis) ts → AreArguments context xs ts
some_listed context [] ts (f, b, e, r, w) = absurd e
some_listed context (x ∷ xs) ts i = i

arguments_step : (context : Context) (b : Bool) (ts us : List Tok) (xs : List Argument) → has (is_mark CloseParenthesis) ts ≡ b → listed_by b context ts ≡ Ok (xs, us) → Found (AreArguments context) xs ts us
arguments_step context true ts us xs c e =
    let n = next_token (is_mark CloseParenthesis) ts c in
    let s = ok_same [] xs (behind ts) us e in
    subst (λ ys. Found (AreArguments context) ys ts us) s.0 (n.token ∷ [], ([], n.token ∷ [], refl, (n.token, n.kind, refl), refl), n.whole ∙ ap (λ r. n.token ∷ r) s.1)
arguments_step context false ts us xs c e =
    let w = closed_found CloseParenthesis (argument_at context) (IsArgument context) (argument_finds context) ts us xs e in
    (w.0, some_listed context xs w.0 w.1, w.2)

pub arguments_found : (context : Context) → Finds (listed_at CloseParenthesis (argument_at context)) (AreArguments context)
arguments_found context ts us xs e = arguments_step context (has (is_mark CloseParenthesis) ts) ts us xs refl e
