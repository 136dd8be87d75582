-- Initialisers: what is read is in the grammar.
use Rattle.std.proofs.Common.{◌≡◌, ℕ, zero, suc, Bool, true, false, List, [], ◌∷◌, ◌++◌, Ok, Err, inl, inr, refl, ap, ◌∙◌, subst}
use Rattle.std.specs.Prelude.{if◌then◌else◌}
use Rattle.lx_ir_tokens.specs.declared.token.Tok.{Tok}
use Rattle.lx_ir_tokens.specs.declared.token.Mark.{Mark}
use Rattle.lx_ir_tokens.specs.declared.token.Mark.TheVariants.{OpenBrace, CloseBrace, OpenBracket, CloseBracket, Less, Greater}
use Rattle.lx_ir.specs.declared.module.Brackets.TheVariants as brackets
use Rattle.lx_ir.specs.IrType.{IrType}
use Rattle.lx_ir.specs.Init.{Init, Plain}
use Rattle.lx_ir_terms.specs.declared.fault.FaultKind.TheVariants.{OutOfProfile}
use Rattle.lx_ir_terms.specs.Context.{Context}
use Rattle.lx_ir_terms.specs.Reading.{Read, ◌>>=◌, at, has, behind, is_mark, mark_at, items_at}
use Rattle.lx_ir_terms.specs.Types.{is_opening, written_type_at}
use Rattle.lx_ir_terms.specs.Grammar.{Part, Picks, IsMark, ◌then◌, IsWritten}
use Rattle.lx_ir_terms.specs.Laws.{Reads, Finds}
use Rattle.lx_ir_terms.proofs.Marks.{Next, next_token}
use Rattle.lx_ir_terms.proofs.Parts.{Joined, Mapped, pick_finds, next_finds, bind_finds, last_finds, bind_ok, ok_same}
use Rattle.lx_ir_terms.proofs.Written.{written_found}
use Rattle.lx_ir_terms.proofs.TypesFound.{third}
use Rattle.lx_ir_constants.specs.declared.inits.Member.{Member}
use Rattle.lx_ir_constants.specs.declared.inits.Members.{Members}
use Rattle.lx_ir_constants.specs.Constants.{begins_expression, expression_at, constant_refusal}
use Rattle.lx_ir_constants.specs.Inits.{flat_init_of, flat_init_at, leaf_at, member_at, members_of, some_members_at, closed_members_at, braced_at, bracketed_at, group, packed_group_behind, group_at, init_at}
use Rattle.lx_ir_constants.specs.Grammar.{AreItems}
use Rattle.lx_ir_constants.specs.InitGrammar.{IsLeaf, AreListed, IsMember, IsGroup, IsInit}
use Rattle.lx_ir_constants.proofs.ListLaws.{Found, items_found}
use Rattle.lx_ir_constants.proofs.ConstantLaws.{expression_finds}

-- Leaves.

abbrev leaf_by : Bool → Context → ℕ → IrType → List Tok → Read Init
leaf_by b context depth ty ts = if b then (expression_at context depth ts >>= λ c. Ok (Plain c.0, c.1)) else flat_init_at context ty ts

leaf_step : (context : Context) (depth : ℕ) (ty : IrType) (b : Bool) (ts us : List Tok) (i : Init) → has begins_expression ts ≡ b → leaf_by b context depth ty ts ≡ Ok (i, us) → Found (IsLeaf context depth ty) i ts us
leaf_step context depth ty true ts us i o e =
    let a = bind_ok (expression_at context depth ts) (λ c. Ok (Plain c.0, c.1)) (i, us) e in
    let k = ok_same (Plain a.0.0) i a.0.1 us a.2 in
    let w = expression_finds context depth ts a.0.1 a.0.0 o a.1 in
    (w.0, inr (a.0.0, w.1, k.0), w.2 ∙ ap (λ r. w.0 ++ r) k.1)
leaf_step context depth ty false ts us i o e =
    let w = pick_finds (λ t. flat_init_of context ty t.kind t.name) constant_refusal ts us i e in
    (w.0, inl w.1, w.2)

leaf_found : (context : Context) (depth : ℕ) (ty : IrType) → Finds (leaf_at context depth ty) (IsLeaf context depth ty)
leaf_found context depth ty ts us i e = leaf_step context depth ty (has begins_expression ts) ts us i refl e

-- Members.

abbrev made : IrType → Init → Member
made ty i = record { ty = ty; init = i }

abbrev MemberParts : Context → (IrType → Init → Part) → Member → Part
MemberParts context init = Joined (λ t. IsWritten context t) (λ t. Mapped (λ (i : Init). made t i) (init t))

member_part : (context : Context) (init : IrType → Init → Part) (m : Member) (ts : List Tok) → MemberParts context init m ts → IsMember context init m ts
member_part context init m ts (t, (f, b, p, (i, pi, eq), e)) = subst (λ x. IsMember context init x ts) eq (f, b, p, pi, e)

pub member_found : (context : Context) (read : IrType → List Tok → Read Init) (init : IrType → Init → Part) → ((ty : IrType) → Finds (read ty) (init ty)) → Finds (member_at context read) (IsMember context init)
member_found context read init h ts us m e =
    let w = bind_finds (written_type_at context) (λ t. read t.0 t.1 >>= λ i. Ok (made t.0 i.0, i.1)) _ _ (written_found context) (λ t. last_finds (read t) (λ i. made t i) _ (h t)) ts us m e in
    (w.0, member_part context init m w.0 w.1, w.2)

-- members, and the mark behind them
abbrev pub ListOf : (Member → Part) → Mark → Members → Part
ListOf part close all ts = (ms : List Member) × (AreListed part ms then IsMark close) ts × (members_of ms ≡ all)

as_listed : (part : Member → Part) (ms : List Member) (ts : List Tok) → AreItems part ms ts → AreListed part ms ts
as_listed part [] ts e = absurd e
as_listed part (m ∷ ms) ts e = e

abbrev SomeMembers : (Member → Part) → Members → Part
SomeMembers part = Mapped (λ (ms : List Member). members_of ms) (AreItems part)

some_found : (member : List Tok → Read Member) (part : Member → Part) → Finds member part → Finds (some_members_at member) (SomeMembers part)
some_found member part h ts us all e = last_finds (items_at member) (λ ms. members_of ms) _ (items_found member part h) ts us all e

abbrev ClosedParts : (Member → Part) → Mark → Members → Part
ClosedParts part close = Joined (SomeMembers part) (λ all. Mapped (λ (c : Unit {0}). all) (λ c. IsMark close))

closed_part : (part : Member → Part) (close : Mark) (all : Members) (ts : List Tok) → ClosedParts part close all ts → ListOf part close all ts
closed_part part close all ts (some, (f, b, (ms, p, a), (c, m, eq), e)) = (ms, (f, b, as_listed part ms f p, m, e), a ∙ eq)

abbrev members_by : Bool → Mark → (List Tok → Read Member) → List Tok → Read Members
members_by b close member ts = if b then Ok (members_of [], behind ts) else (some_members_at member ts >>= λ ms. mark_at close ms.1 >>= λ c. Ok (ms.0, c.1))

closed_step : (close : Mark) (member : List Tok → Read Member) (part : Member → Part) → Finds member part → (b : Bool) (ts us : List Tok) (all : Members) → has (is_mark close) ts ≡ b → members_by b close member ts ≡ Ok (all, us) → Found (ListOf part close) all ts us
closed_step close member part h true ts us all o e =
    let n = next_token (is_mark close) ts o in
    let s = ok_same (members_of []) all (behind ts) us e in
    (n.token ∷ [], ([], ([], n.token ∷ [], refl, (n.token, n.kind, refl), refl), s.0), n.whole ∙ ap (λ r. n.token ∷ r) s.1)
closed_step close member part h false ts us all o e =
    let w = bind_finds (some_members_at member) (λ ms. mark_at close ms.1 >>= λ c. Ok (ms.0, c.1)) _ _ (some_found member part h) (λ all. last_finds (mark_at close) (λ c. all) _ (next_finds (is_mark close))) ts us all e in
    (w.0, closed_part part close all w.0 w.1, w.2)

pub closed_found : (close : Mark) (member : List Tok → Read Member) (part : Member → Part) → Finds member part → Finds (λ ts. closed_members_at (is_mark close) (mark_at close) member ts) (ListOf part close)
closed_found close member part h ts us all e = closed_step close member part h (has (is_mark close) ts) ts us all refl e

-- Groups.

array_token : (part : Member → Part) (i : Init) (k : Tok) (ts : List Tok) → is_mark OpenBracket k.kind ≡ true → Mapped (λ (all : Members). group brackets.Array all) (ListOf part CloseBracket) i ts → IsGroup part i (k ∷ ts)
array_token part i k ts o (all, (ms, p, a), e) = inl (ms, (k ∷ [], ts, (k, o, refl), p, refl), ap (λ x. group brackets.Array x) a ∙ e)

struct_token : (part : Member → Part) (i : Init) (k : Tok) (ts : List Tok) → is_mark OpenBrace k.kind ≡ true → Mapped (λ (all : Members). group brackets.Struct all) (ListOf part CloseBrace) i ts → IsGroup part i (k ∷ ts)
struct_token part i k ts o (all, (ms, p, a), e) = inr (inl (ms, (k ∷ [], ts, (k, o, refl), p, refl), ap (λ x. group brackets.Struct x) a ∙ e))

abbrev PackedParts : (Member → Part) → Init → Part
PackedParts part = Joined (λ (o : Unit {0}). IsMark OpenBrace) (λ o. Joined (ListOf part CloseBrace) (λ all. Mapped (λ (c : Unit {0}). group brackets.Packed all) (λ c. IsMark Greater)))

packed_token : (part : Member → Part) (i : Init) (k : Tok) (ts : List Tok) → is_mark Less k.kind ≡ true → PackedParts part i ts → IsGroup part i (k ∷ ts)
packed_token part i k ts l (o, (f, b, po, (all, (f2, b2, (ms, p, a), (c, m, e), w2)), w)) =
    inr (inr (ms, (k ∷ [], ts, (k, l, refl), (f, b, po, (f2, b2, p, m, w2), w), refl), ap (λ x. group brackets.Packed x) a ∙ e))

abbrev group_by : Bool → Bool → (List Tok → Read Member) → List Tok → Read Init
group_by a b member ts =
    if a then (bracketed_at member (behind ts) >>= λ ms. Ok (group brackets.Array ms.0, ms.1))
    else if b then (braced_at member (behind ts) >>= λ ms. Ok (group brackets.Struct ms.0, ms.1))
    else packed_group_behind member (behind ts)

group_step : (member : List Tok → Read Member) (part : Member → Part) → Finds member part → (a b : Bool) (ts us : List Tok) (i : Init) → has is_opening ts ≡ true → has (is_mark OpenBracket) ts ≡ a → has (is_mark OpenBrace) ts ≡ b → group_by a b member ts ≡ Ok (i, us) → Found (IsGroup part) i ts us
group_step member part h true b ts us i o p q e =
    let n = next_token (is_mark OpenBracket) ts p in
    let w = last_finds (bracketed_at member) (λ all. group brackets.Array all) _ (closed_found CloseBracket member part h) (behind ts) us i e in
    (n.token ∷ w.0, array_token part i n.token w.0 n.kind w.1, n.whole ∙ ap (λ r. n.token ∷ r) w.2)
group_step member part h false true ts us i o p q e =
    let n = next_token (is_mark OpenBrace) ts q in
    let w = last_finds (braced_at member) (λ all. group brackets.Struct all) _ (closed_found CloseBrace member part h) (behind ts) us i e in
    (n.token ∷ w.0, struct_token part i n.token w.0 n.kind w.1, n.whole ∙ ap (λ r. n.token ∷ r) w.2)
group_step member part h false false ts us i o p q e =
    let n = next_token (is_mark Less) ts (third ts o p q) in
    let w = bind_finds (mark_at OpenBrace) (λ o. braced_at member o.1 >>= λ ms. mark_at Greater ms.1 >>= λ c. Ok (group brackets.Packed ms.0, c.1)) _ _ (next_finds (is_mark OpenBrace))
    (λ o. bind_finds (braced_at member) (λ ms. mark_at Greater ms.1 >>= λ c. Ok (group brackets.Packed ms.0, c.1)) _ _ (closed_found CloseBrace member part h)
    (λ all. last_finds (mark_at Greater) (λ c. group brackets.Packed all) _ (next_finds (is_mark Greater)))) (behind ts) us i e in
    (n.token ∷ w.0, packed_token part i n.token w.0 n.kind w.1, n.whole ∙ ap (λ r. n.token ∷ r) w.2)

abbrev pub init_by : Bool → Read Init → Read Init → Read Init
init_by b nested leaf = if b then nested else leaf

shallow : (context : Context) (ty : IrType) (b : Bool) (ts us : List Tok) (i : Init) → init_by b (Err (at OutOfProfile ts)) (leaf_at context zero ty ts) ≡ Ok (i, us) → Found (IsInit context zero ty) i ts us
shallow context ty true ts us i e = cc
shallow context ty false ts us i e = leaf_found context zero ty ts us i e

deep : (context : Context) (depth : ℕ) → ((ty : IrType) → Finds (init_at context depth ty) (IsInit context depth ty)) → (ty : IrType) (b : Bool) (ts us : List Tok) (i : Init) → has is_opening ts ≡ b → init_by b (group_at (member_at context (init_at context depth)) ts) (leaf_at context (suc depth) ty ts) ≡ Ok (i, us) → Found (IsInit context (suc depth) ty) i ts us
deep context depth h ty true ts us i o e =
    let w = group_step (member_at context (init_at context depth)) (IsMember context (IsInit context depth)) (member_found context (init_at context depth) (IsInit context depth) h) (has (is_mark OpenBracket) ts) (has (is_mark OpenBrace) ts) ts us i o refl refl e in
    (w.0, inr w.1, w.2)
deep context depth h ty false ts us i o e =
    let w = leaf_found context (suc depth) ty ts us i e in
    (w.0, inl w.1, w.2)

-- what is read as an initialiser is in the grammar
pub init_found : (context : Context) (depth : ℕ) (ty : IrType) → Finds (init_at context depth ty) (IsInit context depth ty)
unfolding init_at
init_found context zero ty ts us i e = shallow context ty (has is_opening ts) ts us i e
init_found context (suc depth) ty ts us i e = deep context depth (init_found context depth) ty (has is_opening ts) ts us i refl e
