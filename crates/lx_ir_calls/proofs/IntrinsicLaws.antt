-- Calls whose names say what they do: what is in the grammar is read, and what is read is in the grammar.
use Rattle.std.proofs.Common.{◌≡◌, ℕ, Bool, true, false, Some, List, Ok, refl}
use Rattle.lx_ir_tokens.specs.declared.token.Tok.{Tok}
use Rattle.lx_ir_tokens.specs.declared.token.Kind.{Kind}
use Rattle.lx_ir_tokens.specs.declared.token.Kind.TheVariants as kinds
use Rattle.lx_ir_tokens.specs.declared.token.Mark.TheVariants.{Comma, OpenParenthesis, CloseParenthesis}
use Rattle.lx_ir_tokens.specs.declared.keyword.Keyword.TheVariants as keywords
use Rattle.lx_words.specs.declared.word.Width.{Width}
use Rattle.lx_words.specs.declared.word.Width.TheVariants.{W1, W8, W32}
use Rattle.lx_ir.specs.declared.types.Scalar.{Scalar}
use Rattle.lx_ir.specs.declared.types.Scalar.TheVariants.{Int, Ptr}
use Rattle.lx_ir.specs.declared.module.Symbol.{Symbol}
use Rattle.lx_ir.specs.declared.module.Value.{Value}
use Rattle.lx_ir.specs.declared.instr.Op.{Op}
use Rattle.lx_ir.specs.declared.instr.Op.TheVariants as op
use Rattle.lx_ir.specs.Operands.{guard_width}
use Rattle.lx_ir_terms.specs.Context.{Context}
use Rattle.lx_ir_terms.specs.Reading.{Read, ◌>>=◌, is_mark, pick_at, mark_at}
use Rattle.lx_ir_terms.specs.Words as passing
use Rattle.lx_ir_terms.specs.Grammar.{Part, Picks, Is, IsMark, ◌then◌}
use Rattle.lx_ir_terms.specs.Laws.{Reads, Finds}
use Rattle.lx_ir_terms.proofs.Parts.{Joined, Mapped, pick_reads, next_reads, bind_reads, last_reads, pick_finds, next_finds, bind_finds, last_finds}
use Rattle.lx_ir_constants.specs.Constants.{when, word_refusal}
use Rattle.lx_ir_constants.proofs.PointerLaws.{form_reads, form_finds}
use Rattle.lx_ir_operands.specs.Operands.{argument}
use Rattle.lx_ir_operands.specs.Grammar.{IsPassed, Repeated}
use Rattle.lx_ir_operands.proofs.Chains.{then_finds}
use Rattle.lx_ir_operands.proofs.PassedLaws.{passed_found}
use Rattle.lx_ir_calls.specs.declared.writes.BlockWrite.TheVariants as writes
use Rattle.lx_ir_calls.specs.declared.image_lines.ImageLine.TheVariants as lines
use Rattle.lx_ir_calls.specs.declared.intrinsics.Intrinsic.{Intrinsic}
use Rattle.lx_ir_calls.specs.declared.intrinsics.Intrinsic.TheVariants as intrinsics
use Rattle.lx_ir_calls.specs.Arguments.{is_scalar_word, given_type_at, given_argument_at, next_argument_at}
use Rattle.lx_ir_calls.specs.Writes.{is_false_word, not_volatile_at}
use Rattle.lx_ir_calls.specs.ImageLines.{guard_behind, check_behind, symbol_in, symbol_refusal, symbol_argument_at, crossing, crossing_behind, action_in, action_refusal, action_at, action, action_behind}
use Rattle.lx_ir_calls.specs.Intrinsics.{intrinsic_behind}
use Rattle.lx_ir_calls.specs.Grammar.{IsGivenArgument, IsNextArgument, IsNotVolatile, IsSymbolArgument, IsAction, IsGuard, IsCheck, IsCrossing, IsActionOf}
use Rattle.lx_ir_calls.proofs.ArgumentLaws.{passed_reads, is_not_passed, picks_not_passed, then_not_passed, given_type_reads, given_type_finds, given_reads, given_finds, next_reads_given, next_finds_given}

-- The last argument of a block write.

false_is_not_passed : (k : Kind) → is_false_word k ≡ true → passing.is_passed false k ≡ false
false_is_not_passed (kinds.Word (keywords.Constant w)) h = refl
false_is_not_passed k h = cc

abbrev IsFalse : Part
IsFalse = Is is_false_word then IsMark CloseParenthesis

false_reads : Reads (λ us. pick_at (λ t. when (is_false_word t.kind)) word_refusal us >>= λ f. mark_at CloseParenthesis f.1) tt IsFalse
false_reads =
    bind_reads (pick_at (λ t. when (is_false_word t.kind)) word_refusal) (λ f. mark_at CloseParenthesis f.1) tt tt _ _ (form_reads is_false_word word_refusal) (next_reads (is_mark CloseParenthesis))

not_volatile_reads : Reads not_volatile_at tt IsNotVolatile
not_volatile_reads =
    bind_reads (mark_at Comma) (λ c. given_type_at (Int W1) c.1 >>= λ t. passing.passed_at false t.1 >>= λ w. pick_at (λ t. when (is_false_word t.kind)) word_refusal w.1 >>= λ f. mark_at CloseParenthesis f.1) tt tt _ _ (next_reads (is_mark Comma))
    (bind_reads (given_type_at (Int W1)) (λ t. passing.passed_at false t.1 >>= λ w. pick_at (λ t. when (is_false_word t.kind)) word_refusal w.1 >>= λ f. mark_at CloseParenthesis f.1) tt tt _ _ (given_type_reads (Int W1))
    (passed_reads (λ us. pick_at (λ t. when (is_false_word t.kind)) word_refusal us >>= λ f. mark_at CloseParenthesis f.1) tt IsFalse (then_not_passed (Is is_false_word) (IsMark CloseParenthesis) (is_not_passed is_false_word false_is_not_passed)) false_reads))

false_finds : Finds (λ us. pick_at (λ t. when (is_false_word t.kind)) word_refusal us >>= λ f. mark_at CloseParenthesis f.1) (λ x. IsFalse)
false_finds ts us x e =
    then_finds (pick_at (λ t. when (is_false_word t.kind)) word_refusal) (λ f. mark_at CloseParenthesis f.1) (Is is_false_word) (λ x. IsMark CloseParenthesis) (form_finds is_false_word word_refusal) (λ f. next_finds (is_mark CloseParenthesis)) ts us x e

not_volatile_finds : Finds not_volatile_at (λ x. IsNotVolatile)
not_volatile_finds ts us x e =
    then_finds (mark_at Comma) (λ c. given_type_at (Int W1) c.1 >>= λ t. passing.passed_at false t.1 >>= λ w. pick_at (λ t. when (is_false_word t.kind)) word_refusal w.1 >>= λ f. mark_at CloseParenthesis f.1) (IsMark Comma) (λ x. Is (is_scalar_word (Int W1)) then Repeated IsPassed then IsFalse) (next_finds (is_mark Comma))
    (λ c. then_finds (given_type_at (Int W1)) (λ t. passing.passed_at false t.1 >>= λ w. pick_at (λ t. when (is_false_word t.kind)) word_refusal w.1 >>= λ f. mark_at CloseParenthesis f.1) (Is (is_scalar_word (Int W1))) (λ x. Repeated IsPassed then IsFalse) (given_type_finds (Int W1))
    (λ t. then_finds (passing.passed_at false) (λ w. pick_at (λ t. when (is_false_word t.kind)) word_refusal w.1 >>= λ f. mark_at CloseParenthesis f.1) (Repeated IsPassed) (λ x. IsFalse) passed_found (λ w. false_finds))) ts us x e

-- Block writes.

-- `(ptr d, T b, iN n, i1 false)`
abbrev write_by : Context → Scalar → Width → (Value → Value → Value → Op) → List Tok → Read Op
write_by context ty w made ts = do
  o ← mark_at OpenParenthesis ts
  d ← given_argument_at context Ptr o.1
  b ← next_argument_at context ty d.1
  n ← next_argument_at context (Int w) b.1
  v ← not_volatile_at n.1
  Ok (made d.0 b.0 n.0, v.1)

abbrev IsWrite : Context → Scalar → Width → Value → Value → Value → Part
IsWrite context ty w d b n =
    IsMark OpenParenthesis
    then IsGivenArgument context Ptr d
    then IsNextArgument context ty b
    then IsNextArgument context (Int w) n
    then IsNotVolatile

pub write_reads : (context : Context) (ty : Scalar) (w : Width) (made : Value → Value → Value → Op) (d b n : Value) → Reads (write_by context ty w made) (made d b n) (IsWrite context ty w d b n)
write_reads context ty w made d b n =
    bind_reads (mark_at OpenParenthesis) (λ o. given_argument_at context Ptr o.1 >>= λ d. next_argument_at context ty d.1 >>= λ b. next_argument_at context (Int w) b.1 >>= λ n. not_volatile_at n.1 >>= λ v. Ok (made d.0 b.0 n.0, v.1)) tt (made d b n) _ _ (next_reads (is_mark OpenParenthesis))
    (bind_reads (given_argument_at context Ptr) (λ d. next_argument_at context ty d.1 >>= λ b. next_argument_at context (Int w) b.1 >>= λ n. not_volatile_at n.1 >>= λ v. Ok (made d.0 b.0 n.0, v.1)) d (made d b n) _ _ (given_reads context Ptr d)
    (bind_reads (next_argument_at context ty) (λ b. next_argument_at context (Int w) b.1 >>= λ n. not_volatile_at n.1 >>= λ v. Ok (made d b.0 n.0, v.1)) b (made d b n) _ _ (next_reads_given context ty b)
    (bind_reads (next_argument_at context (Int w)) (λ n. not_volatile_at n.1 >>= λ v. Ok (made d b n.0, v.1)) n (made d b n) _ _ (next_reads_given context (Int w) n)
    (last_reads not_volatile_at (λ v. made d b n) tt _ not_volatile_reads))))

-- what such a write is made of
abbrev WriteSays : Context → Scalar → Width → (Value → Value → Value → Op) → Op → Part
WriteSays context ty w made o ts = (d : Value) × (b : Value) × (n : Value) × IsWrite context ty w d b n ts × (made d b n ≡ o)

abbrev WriteParts : Context → Scalar → Width → (Value → Value → Value → Op) → Op → Part
WriteParts context ty w made =
    Joined (λ (o : Unit {0}). IsMark OpenParenthesis) (λ o. Joined (IsGivenArgument context Ptr) (λ d. Joined (IsNextArgument context ty) (λ b. Joined (IsNextArgument context (Int w)) (λ n. Mapped (λ (v : Unit {0}). made d b n) (λ v. IsNotVolatile)))))

write_says : (context : Context) (ty : Scalar) (w : Width) (made : Value → Value → Value → Op) (o : Op) (ts : List Tok) → WriteParts context ty w made o ts → WriteSays context ty w made o ts
write_says context ty w made o ts (x, (f, b, px, (d, (f2, b2, pd, (m, (f3, b3, pm, (n, (f4, b4, pn, (v, pv, eq), e4)), e3)), e2)), e1)) =
    (d, m, n, (f, b, px, (f2, b2, pd, (f3, b3, pm, (f4, b4, pn, pv, e4), e3), e2), e1), eq)

write_finds : (context : Context) (ty : Scalar) (w : Width) (made : Value → Value → Value → Op) → Finds (write_by context ty w made) (WriteSays context ty w made)
write_finds context ty w made ts us o e =
    let x = bind_finds (mark_at OpenParenthesis) (λ o. given_argument_at context Ptr o.1 >>= λ d. next_argument_at context ty d.1 >>= λ b. next_argument_at context (Int w) b.1 >>= λ n. not_volatile_at n.1 >>= λ v. Ok (made d.0 b.0 n.0, v.1)) _ _ (next_finds (is_mark OpenParenthesis))
    (λ o. bind_finds (given_argument_at context Ptr) (λ d. next_argument_at context ty d.1 >>= λ b. next_argument_at context (Int w) b.1 >>= λ n. not_volatile_at n.1 >>= λ v. Ok (made d.0 b.0 n.0, v.1)) _ _ (given_finds context Ptr)
    (λ d. bind_finds (next_argument_at context ty) (λ b. next_argument_at context (Int w) b.1 >>= λ n. not_volatile_at n.1 >>= λ v. Ok (made d b.0 n.0, v.1)) _ _ (next_finds_given context ty)
    (λ b. bind_finds (next_argument_at context (Int w)) (λ n. not_volatile_at n.1 >>= λ v. Ok (made d b n.0, v.1)) _ _ (next_finds_given context (Int w))
    (λ n. last_finds not_volatile_at (λ v. made d b n) _ not_volatile_finds)))) ts us o e in
    (x.0, write_says context ty w made o x.0 x.1, x.2)

-- Guards and checks.

pub guard_reads : (context : Context) (narrow : Bool) (p n : Value) → Reads (guard_behind context narrow) (op.Guard p n narrow) (IsGuard context narrow p n)
guard_reads context narrow p n =
    bind_reads (mark_at OpenParenthesis) (λ o. given_argument_at context Ptr o.1 >>= λ p. next_argument_at context (Int (guard_width narrow)) p.1 >>= λ n. mark_at CloseParenthesis n.1 >>= λ c. Ok (op.Guard p.0 n.0 narrow, c.1)) tt (op.Guard p n narrow) _ _ (next_reads (is_mark OpenParenthesis))
    (bind_reads (given_argument_at context Ptr) (λ p. next_argument_at context (Int (guard_width narrow)) p.1 >>= λ n. mark_at CloseParenthesis n.1 >>= λ c. Ok (op.Guard p.0 n.0 narrow, c.1)) p (op.Guard p n narrow) _ _ (given_reads context Ptr p)
    (bind_reads (next_argument_at context (Int (guard_width narrow))) (λ n. mark_at CloseParenthesis n.1 >>= λ c. Ok (op.Guard p n.0 narrow, c.1)) n (op.Guard p n narrow) _ _ (next_reads_given context (Int (guard_width narrow)) n)
    (last_reads (mark_at CloseParenthesis) (λ c. op.Guard p n narrow) tt _ (next_reads (is_mark CloseParenthesis)))))

abbrev GuardSays : Context → Bool → Op → Part
GuardSays context narrow o ts = (p : Value) × (n : Value) × IsGuard context narrow p n ts × (op.Guard p n narrow ≡ o)

abbrev GuardParts : Context → Bool → Op → Part
GuardParts context narrow =
    Joined (λ (o : Unit {0}). IsMark OpenParenthesis) (λ o. Joined (IsGivenArgument context Ptr) (λ p. Joined (IsNextArgument context (Int (guard_width narrow))) (λ n. Mapped (λ (c : Unit {0}). op.Guard p n narrow) (λ c. IsMark CloseParenthesis))))

guard_says : (context : Context) (narrow : Bool) (o : Op) (ts : List Tok) → GuardParts context narrow o ts → GuardSays context narrow o ts
guard_says context narrow o ts (x, (f, b, px, (p, (f2, b2, pp, (n, (f3, b3, pn, (c, pc, eq), e3)), e2)), e1)) =
    (p, n, (f, b, px, (f2, b2, pp, (f3, b3, pn, pc, e3), e2), e1), eq)

guard_finds : (context : Context) (narrow : Bool) → Finds (guard_behind context narrow) (GuardSays context narrow)
guard_finds context narrow ts us o e =
    let x = bind_finds (mark_at OpenParenthesis) (λ o. given_argument_at context Ptr o.1 >>= λ p. next_argument_at context (Int (guard_width narrow)) p.1 >>= λ n. mark_at CloseParenthesis n.1 >>= λ c. Ok (op.Guard p.0 n.0 narrow, c.1)) _ _ (next_finds (is_mark OpenParenthesis))
    (λ o. bind_finds (given_argument_at context Ptr) (λ p. next_argument_at context (Int (guard_width narrow)) p.1 >>= λ n. mark_at CloseParenthesis n.1 >>= λ c. Ok (op.Guard p.0 n.0 narrow, c.1)) _ _ (given_finds context Ptr)
    (λ p. bind_finds (next_argument_at context (Int (guard_width narrow))) (λ n. mark_at CloseParenthesis n.1 >>= λ c. Ok (op.Guard p n.0 narrow, c.1)) _ _ (next_finds_given context (Int (guard_width narrow)))
    (λ n. last_finds (mark_at CloseParenthesis) (λ c. op.Guard p n narrow) _ (next_finds (is_mark CloseParenthesis))))) ts us o e in
    (x.0, guard_says context narrow o x.0 x.1, x.2)

pub check_reads : (context : Context) (p : Value) → Reads (check_behind context) (op.Check p) (IsCheck context p)
check_reads context p =
    bind_reads (mark_at OpenParenthesis) (λ o. given_argument_at context Ptr o.1 >>= λ p. mark_at CloseParenthesis p.1 >>= λ c. Ok (op.Check p.0, c.1)) tt (op.Check p) _ _ (next_reads (is_mark OpenParenthesis))
    (bind_reads (given_argument_at context Ptr) (λ p. mark_at CloseParenthesis p.1 >>= λ c. Ok (op.Check p.0, c.1)) p (op.Check p) _ _ (given_reads context Ptr p)
    (last_reads (mark_at CloseParenthesis) (λ c. op.Check p) tt _ (next_reads (is_mark CloseParenthesis))))

abbrev CheckSays : Context → Op → Part
CheckSays context o ts = (p : Value) × IsCheck context p ts × (op.Check p ≡ o)

abbrev CheckParts : Context → Op → Part
CheckParts context =
    Joined (λ (o : Unit {0}). IsMark OpenParenthesis) (λ o. Joined (IsGivenArgument context Ptr) (λ p. Mapped (λ (c : Unit {0}). op.Check p) (λ c. IsMark CloseParenthesis)))

check_says : (context : Context) (o : Op) (ts : List Tok) → CheckParts context o ts → CheckSays context o ts
check_says context o ts (x, (f, b, px, (p, (f2, b2, pp, (c, pc, eq), e2)), e1)) = (p, (f, b, px, (f2, b2, pp, pc, e2), e1), eq)

check_finds : (context : Context) → Finds (check_behind context) (CheckSays context)
check_finds context ts us o e =
    let x = bind_finds (mark_at OpenParenthesis) (λ o. given_argument_at context Ptr o.1 >>= λ p. mark_at CloseParenthesis p.1 >>= λ c. Ok (op.Check p.0, c.1)) _ _ (next_finds (is_mark OpenParenthesis))
    (λ o. bind_finds (given_argument_at context Ptr) (λ p. mark_at CloseParenthesis p.1 >>= λ c. Ok (op.Check p.0, c.1)) _ _ (given_finds context Ptr)
    (λ p. last_finds (mark_at CloseParenthesis) (λ c. op.Check p) _ (next_finds (is_mark CloseParenthesis)))) ts us o e in
    (x.0, check_says context o x.0 x.1, x.2)

-- The names and numbers of wrappers.

symbol_is_not_passed : (context : Context) (k : Kind) (name : ℕ) (s : Symbol) → symbol_in context k name ≡ Some s → passing.is_passed false k ≡ false
symbol_is_not_passed context kinds.Global name s e = refl
symbol_is_not_passed context k name s e = cc

action_is_not_passed : (k : Kind) (n : ℕ) → action_in k ≡ Some n → passing.is_passed false k ≡ false
action_is_not_passed (kinds.Number v m) n e = refl
action_is_not_passed k n e = cc

symbol_argument_reads : (context : Context) (f : Symbol) → Reads (symbol_argument_at context) f (IsSymbolArgument context f)
symbol_argument_reads context f =
    bind_reads (given_type_at Ptr) (λ t. passing.passed_at false t.1 >>= λ w. pick_at (λ t. symbol_in context t.kind t.name) symbol_refusal w.1) tt f _ _ (given_type_reads Ptr)
    (passed_reads (pick_at (λ t. symbol_in context t.kind t.name) symbol_refusal) f _ (picks_not_passed (λ t. symbol_in context t.kind t.name) f (λ t e. symbol_is_not_passed context t.kind t.name f e)) (pick_reads (λ t. symbol_in context t.kind t.name) symbol_refusal f))

symbol_argument_finds : (context : Context) → Finds (symbol_argument_at context) (IsSymbolArgument context)
symbol_argument_finds context ts us f e =
    then_finds (given_type_at Ptr) (λ t. passing.passed_at false t.1 >>= λ w. pick_at (λ t. symbol_in context t.kind t.name) symbol_refusal w.1) (Is (is_scalar_word Ptr)) (λ f. Repeated IsPassed then Picks (λ t. symbol_in context t.kind t.name) f) (given_type_finds Ptr)
    (λ t. then_finds (passing.passed_at false) (λ w. pick_at (λ t. symbol_in context t.kind t.name) symbol_refusal w.1) (Repeated IsPassed) (Picks (λ t. symbol_in context t.kind t.name)) passed_found (λ w. pick_finds (λ t. symbol_in context t.kind t.name) symbol_refusal)) ts us f e

action_reads : (k : ℕ) → Reads action_at k (IsAction k)
action_reads k =
    bind_reads (mark_at Comma) (λ c. given_type_at (Int W32) c.1 >>= λ t. passing.passed_at false t.1 >>= λ w. pick_at (λ t. action_in t.kind) action_refusal w.1) tt k _ _ (next_reads (is_mark Comma))
    (bind_reads (given_type_at (Int W32)) (λ t. passing.passed_at false t.1 >>= λ w. pick_at (λ t. action_in t.kind) action_refusal w.1) tt k _ _ (given_type_reads (Int W32))
    (passed_reads (pick_at (λ t. action_in t.kind) action_refusal) k _ (picks_not_passed (λ t. action_in t.kind) k (λ t e. action_is_not_passed t.kind k e)) (pick_reads (λ t. action_in t.kind) action_refusal k)))

action_finds : Finds action_at IsAction
action_finds ts us k e =
    then_finds (mark_at Comma) (λ c. given_type_at (Int W32) c.1 >>= λ t. passing.passed_at false t.1 >>= λ w. pick_at (λ t. action_in t.kind) action_refusal w.1) (IsMark Comma) (λ k. Is (is_scalar_word (Int W32)) then Repeated IsPassed then Picks (λ t. action_in t.kind) k) (next_finds (is_mark Comma))
    (λ c. then_finds (given_type_at (Int W32)) (λ t. passing.passed_at false t.1 >>= λ w. pick_at (λ t. action_in t.kind) action_refusal w.1) (Is (is_scalar_word (Int W32))) (λ k. Repeated IsPassed then Picks (λ t. action_in t.kind) k) (given_type_finds (Int W32))
    (λ t. then_finds (passing.passed_at false) (λ w. pick_at (λ t. action_in t.kind) action_refusal w.1) (Repeated IsPassed) (Picks (λ t. action_in t.kind)) passed_found (λ w. pick_finds (λ t. action_in t.kind) action_refusal))) ts us k e

pub crossing_reads : (context : Context) (leaves : Bool) (f : Symbol) → Reads (crossing_behind context leaves) (crossing leaves f) (IsCrossing context f)
crossing_reads context leaves f =
    bind_reads (mark_at OpenParenthesis) (λ o. symbol_argument_at context o.1 >>= λ f. mark_at CloseParenthesis f.1 >>= λ c. Ok (crossing leaves f.0, c.1)) tt (crossing leaves f) _ _ (next_reads (is_mark OpenParenthesis))
    (bind_reads (symbol_argument_at context) (λ f. mark_at CloseParenthesis f.1 >>= λ c. Ok (crossing leaves f.0, c.1)) f (crossing leaves f) _ _ (symbol_argument_reads context f)
    (last_reads (mark_at CloseParenthesis) (λ c. crossing leaves f) tt _ (next_reads (is_mark CloseParenthesis))))

abbrev CrossingSays : Context → Bool → Op → Part
CrossingSays context leaves o ts = (f : Symbol) × IsCrossing context f ts × (crossing leaves f ≡ o)

abbrev CrossingParts : Context → Bool → Op → Part
CrossingParts context leaves =
    Joined (λ (o : Unit {0}). IsMark OpenParenthesis) (λ o. Joined (IsSymbolArgument context) (λ f. Mapped (λ (c : Unit {0}). crossing leaves f) (λ c. IsMark CloseParenthesis)))

crossing_says : (context : Context) (leaves : Bool) (o : Op) (ts : List Tok) → CrossingParts context leaves o ts → CrossingSays context leaves o ts
crossing_says context leaves o ts (x, (f, b, px, (s, (f2, b2, ps, (c, pc, eq), e2)), e1)) = (s, (f, b, px, (f2, b2, ps, pc, e2), e1), eq)

crossing_finds : (context : Context) (leaves : Bool) → Finds (crossing_behind context leaves) (CrossingSays context leaves)
crossing_finds context leaves ts us o e =
    let x = bind_finds (mark_at OpenParenthesis) (λ o. symbol_argument_at context o.1 >>= λ f. mark_at CloseParenthesis f.1 >>= λ c. Ok (crossing leaves f.0, c.1)) _ _ (next_finds (is_mark OpenParenthesis))
    (λ o. bind_finds (symbol_argument_at context) (λ f. mark_at CloseParenthesis f.1 >>= λ c. Ok (crossing leaves f.0, c.1)) _ _ (symbol_argument_finds context)
    (λ f. last_finds (mark_at CloseParenthesis) (λ c. crossing leaves f) _ (next_finds (is_mark CloseParenthesis)))) ts us o e in
    (x.0, crossing_says context leaves o x.0 x.1, x.2)

pub action_line_reads : (context : Context) (after : Bool) (f : Symbol) (k : ℕ) → Reads (action_behind context after) (action after f k) (IsActionOf context f k)
action_line_reads context after f k =
    bind_reads (mark_at OpenParenthesis) (λ o. symbol_argument_at context o.1 >>= λ f. action_at f.1 >>= λ k. mark_at CloseParenthesis k.1 >>= λ c. Ok (action after f.0 k.0, c.1)) tt (action after f k) _ _ (next_reads (is_mark OpenParenthesis))
    (bind_reads (symbol_argument_at context) (λ f. action_at f.1 >>= λ k. mark_at CloseParenthesis k.1 >>= λ c. Ok (action after f.0 k.0, c.1)) f (action after f k) _ _ (symbol_argument_reads context f)
    (bind_reads action_at (λ k. mark_at CloseParenthesis k.1 >>= λ c. Ok (action after f k.0, c.1)) k (action after f k) _ _ (action_reads k)
    (last_reads (mark_at CloseParenthesis) (λ c. action after f k) tt _ (next_reads (is_mark CloseParenthesis)))))

abbrev ActionSays : Context → Bool → Op → Part
ActionSays context after o ts = (f : Symbol) × (k : ℕ) × IsActionOf context f k ts × (action after f k ≡ o)

abbrev ActionParts : Context → Bool → Op → Part
ActionParts context after =
    Joined (λ (o : Unit {0}). IsMark OpenParenthesis) (λ o. Joined (IsSymbolArgument context) (λ f. Joined IsAction (λ k. Mapped (λ (c : Unit {0}). action after f k) (λ c. IsMark CloseParenthesis))))

action_says : (context : Context) (after : Bool) (o : Op) (ts : List Tok) → ActionParts context after o ts → ActionSays context after o ts
action_says context after o ts (x, (f, b, px, (s, (f2, b2, ps, (k, (f3, b3, pk, (c, pc, eq), e3)), e2)), e1)) =
    (s, k, (f, b, px, (f2, b2, ps, (f3, b3, pk, pc, e3), e2), e1), eq)

action_line_finds : (context : Context) (after : Bool) → Finds (action_behind context after) (ActionSays context after)
action_line_finds context after ts us o e =
    let x = bind_finds (mark_at OpenParenthesis) (λ o. symbol_argument_at context o.1 >>= λ f. action_at f.1 >>= λ k. mark_at CloseParenthesis k.1 >>= λ c. Ok (action after f.0 k.0, c.1)) _ _ (next_finds (is_mark OpenParenthesis))
    (λ o. bind_finds (symbol_argument_at context) (λ f. action_at f.1 >>= λ k. mark_at CloseParenthesis k.1 >>= λ c. Ok (action after f.0 k.0, c.1)) _ _ (symbol_argument_finds context)
    (λ f. bind_finds action_at (λ k. mark_at CloseParenthesis k.1 >>= λ c. Ok (action after f k.0, c.1)) _ _ action_finds
    (λ k. last_finds (mark_at CloseParenthesis) (λ c. action after f k) _ (next_finds (is_mark CloseParenthesis))))) ts us o e in
    (x.0, action_says context after o x.0 x.1, x.2)

-- Any of them.

-- what such a call says behind its name
abbrev pub IntrinsicSays : Context → Intrinsic → Op → Part
IntrinsicSays context (intrinsics.Write (writes.Copy moves w)) = WriteSays context Ptr w (λ d s n. op.CopyBlock moves d s (argument (Int w) n))
IntrinsicSays context (intrinsics.Write (writes.Fill w)) = WriteSays context (Int W8) w (λ d b n. op.FillBlock d b (argument (Int w) n))
IntrinsicSays context (intrinsics.Line (lines.Guard narrow)) = GuardSays context narrow
IntrinsicSays context (intrinsics.Line lines.Check) = CheckSays context
IntrinsicSays context (intrinsics.Line (lines.Crossing leaves)) = CrossingSays context leaves
IntrinsicSays context (intrinsics.Line (lines.Action after)) = ActionSays context after

pub intrinsic_finds : (context : Context) (i : Intrinsic) → Finds (intrinsic_behind context i) (IntrinsicSays context i)
intrinsic_finds context (intrinsics.Write (writes.Copy moves w)) = write_finds context Ptr w (λ d s n. op.CopyBlock moves d s (argument (Int w) n))
intrinsic_finds context (intrinsics.Write (writes.Fill w)) = write_finds context (Int W8) w (λ d b n. op.FillBlock d b (argument (Int w) n))
intrinsic_finds context (intrinsics.Line (lines.Guard narrow)) = guard_finds context narrow
intrinsic_finds context (intrinsics.Line lines.Check) = check_finds context
intrinsic_finds context (intrinsics.Line (lines.Crossing leaves)) = crossing_finds context leaves
intrinsic_finds context (intrinsics.Line (lines.Action after)) = action_line_finds context after
