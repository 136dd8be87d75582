-- Initialisers: what is in the grammar is read, and what is read is in the grammar.
use Rattle.std.proofs.Common.{◌≡◌, ℕ, zero, suc, true, false, Some, List, [], ◌∷◌, ◌++◌, Ok, inl, inr, refl, sym, ap, ◌∙◌, append_assoc}
use Rattle.std.specs.Prelude.{if◌then◌else◌}
use Rattle.lx_ir_tokens.specs.declared.token.Tok.{Tok}
use Rattle.lx_ir_tokens.specs.declared.token.Kind.{Kind}
use Rattle.lx_ir_tokens.specs.declared.token.Kind.TheVariants as kinds
use Rattle.lx_ir_tokens.specs.declared.token.Mark.{Mark}
use Rattle.lx_ir_tokens.specs.declared.token.Mark.TheVariants.{Comma, OpenBrace, CloseBrace, OpenBracket, CloseBracket, Less, Greater}
use Rattle.lx_ir_tokens.specs.declared.keyword.Keyword.TheVariants as keywords
use Rattle.lx_ir.specs.declared.module.Brackets.TheVariants as brackets
use Rattle.lx_ir.specs.IrType.{IrType, One, Array, Struct, Packed, Named}
use Rattle.lx_ir.specs.Init.{Init}
use Rattle.lx_ir_terms.specs.Context.{Context}
use Rattle.lx_ir_terms.specs.Reading.{Read, ◌>>=◌, at, has, behind, is_mark, same_mark, mark_at, items_at}
use Rattle.lx_ir_terms.specs.Types.{is_opening, flat_of, depth_limit, written_type_at}
use Rattle.lx_ir_terms.specs.Grammar.{Part, Picks, Is, IsMark, ◌then◌, IsType, IsWritten}
use Rattle.lx_ir_terms.specs.Laws.{Reads, Finds}
use Rattle.lx_ir_terms.proofs.Marks.{other_mark, Next, next_token}
use Rattle.lx_ir_terms.proofs.Parts.{Joined, Mapped, next_reads, bind_reads, last_reads, behind_reads, pick_finds, next_finds, bind_finds, last_finds, bind_ok, ok_same}
use Rattle.lx_ir_terms.proofs.Written.{written_again}
use Rattle.lx_ir_terms.proofs.TypeLaws.{opens}
use Rattle.lx_ir_constants.specs.declared.inits.Member.{Member}
use Rattle.lx_ir_constants.specs.declared.inits.Members.{Members}
use Rattle.lx_ir_constants.specs.Constants.{begins_expression}
use Rattle.lx_ir_constants.specs.Inits.{flat_init_of, leaf_at, member_at, members_of, closed_members_at, braced_at, bracketed_at, group, packed_group_behind, group_at, init_at}
use Rattle.lx_ir_constants.specs.InitGrammar.{IsLeaf, AreListed, IsMember, IsGroup, IsInit}
use Rattle.lx_ir_constants.proofs.ListLaws.{items_again}
use Rattle.lx_ir_constants.proofs.ConstantLaws.{expression_reads}

-- Leaves.

flat_begins : (context : Context) (ty : IrType) (k : Kind) (name : ℕ) (i : Init) → flat_init_of context ty k name ≡ Some i → (begins_expression k ≡ false) × (is_opening k ≡ false)
flat_begins context ty (kinds.Word (keywords.Constant w)) name i e = (refl, refl)
flat_begins context ty kinds.Global name i e = (refl, refl)
flat_begins context ty (kinds.Number v m) name i e = (refl, refl)
flat_begins context ty kinds.Bytes name i e = (refl, refl)
flat_begins context ty k name i e = cc

expression_opens_nothing : (k : Kind) → begins_expression k ≡ true → is_opening k ≡ false
expression_opens_nothing (kinds.Mark m) h = cc
expression_opens_nothing (kinds.Word w) h = refl
expression_opens_nothing kinds.Local h = refl
expression_opens_nothing kinds.Global h = refl
expression_opens_nothing (kinds.Number v s) h = refl
expression_opens_nothing kinds.Text h = refl
expression_opens_nothing kinds.Bytes h = refl

opens_nothing : (ts : List Tok) → has begins_expression ts ≡ true → has is_opening ts ≡ false
opens_nothing [] h = refl
opens_nothing (t ∷ ts) h = expression_opens_nothing t.kind h

leaf_again : (context : Context) (depth : ℕ) (ty : IrType) (i : Init) (ts us : List Tok) → IsLeaf context depth ty i ts → (has is_opening (ts ++ us) ≡ false) × (leaf_at context depth ty (ts ++ us) ≡ Ok (i, us))
leaf_again context depth ty i ts us (inl (k, e, f)) =
    let b = flat_begins context ty k.kind k.name i e in
    (rw f b.1, rw (f, b.0, e) refl)
leaf_again context depth ty i ts us (inr (c, x, e)) =
    let r = expression_reads context depth c ts us x in
    (opens_nothing (ts ++ us) r.0, rw (r.0, r.1) (ap (λ j. Ok (j, us)) e))

-- Members.

pub member_reads : (context : Context) (depth : ℕ) → ((ty : IrType) (i : Init) → Reads (init_at context depth ty) i (IsInit context depth ty i)) → (m : Member) → Reads (member_at context (init_at context depth)) m (IsMember context (IsInit context depth) m)
member_reads context depth h m =
    bind_reads (written_type_at context) (λ t. init_at context depth t.0 t.1 >>= λ i. Ok (record { ty = t.0; init = i.0 }, i.1)) m.ty m _ _ (written_again context m.ty)
    (last_reads (init_at context depth m.ty) (λ i. record { ty = m.ty; init = i }) m.init _ (h m.ty m.init))

-- a type begins with no mark but those that open one
flat_is_no_mark : (context : Context) (m : Mark) (k : Kind) (name : ℕ) (t : IrType) → flat_of context k name ≡ Some t → is_mark m k ≡ false
flat_is_no_mark context m (kinds.Mark n) name t e = cc
flat_is_no_mark context m (kinds.Word w) name t e = refl
flat_is_no_mark context m kinds.Local name t e = refl
flat_is_no_mark context m kinds.Global name t e = refl
flat_is_no_mark context m (kinds.Number v s) name t e = refl
flat_is_no_mark context m kinds.Text name t e = refl
flat_is_no_mark context m kinds.Bytes name t e = refl

-- a mark that opens no type, and is no comma
pub record Closes (m : Mark) : Type 0 where
  pub bracket : same_mark OpenBracket m ≡ false
  pub brace : same_mark OpenBrace m ≡ false
  pub less : same_mark Less m ≡ false
  pub comma : same_mark m Comma ≡ false

type_begins : (context : Context) (m : Mark) → Closes m → (t : IrType) (depth : ℕ) (ts us : List Tok) → IsType context t depth ts → has (is_mark m) (ts ++ us) ≡ false
type_begins context m c (One s) depth ts us (k, e, f) = rw f (flat_is_no_mark context m k.kind k.name (One s) e)
type_begins context m c (Named n) depth ts us (k, e, f) = rw f (flat_is_no_mark context m k.kind k.name (Named n) e)
type_begins context m c (Array n t) zero ts us e = absurd e
type_begins context m c (Array n t) (suc depth) ts us (f, b, (k, e, g), r, w) = other_mark OpenBracket m (ts ++ us) c.bracket (rw (w, g) e)
type_begins context m c (Struct fields) zero ts us e = absurd e
type_begins context m c (Struct fields) (suc depth) ts us (f, b, (k, e, g), r, w) = other_mark OpenBrace m (ts ++ us) c.brace (rw (w, g) e)
type_begins context m c (Packed fields) zero ts us e = absurd e
type_begins context m c (Packed fields) (suc depth) ts us (f, b, (k, e, g), r, w) = other_mark Less m (ts ++ us) c.less (rw (w, g) e)

abbrev pub members_closed_at : Mark → (List Tok → Read Member) → List Tok → Read Members
members_closed_at close member ts = closed_members_at (is_mark close) (mark_at close) member ts

pub closed_reads : (context : Context) (init : IrType → Init → Part) (close : Mark) → Closes close → (member : List Tok → Read Member) → ((m : Member) → Reads member m (IsMember context init m)) → (ms : List Member) → Reads (members_closed_at close member) (members_of ms) (AreListed (IsMember context init) ms then IsMark close)
closed_reads context init close c member h [] ts us (f, b, e, (k, o, g), w) = rw (w, e, g, o) refl
closed_reads context init close c member h (m ∷ ms) ts us (f, b, (f', b', (f2, b2, ty, i, w2), more, w'), (k, o, g), w) =
    let whole : ts ++ us ≡ f ++ (k ∷ us) = rw (w, g) (append_assoc f (k ∷ []) us) in
    let first : f ++ (k ∷ us) ≡ f2 ++ ((b2 ++ b') ++ (k ∷ us)) = rw (w', w2) (append_assoc (f2 ++ b2) b' (k ∷ us) ∙ append_assoc f2 b2 (b' ++ (k ∷ us)) ∙ ap (λ r. f2 ++ r) (sym (append_assoc b2 b' (k ∷ us)))) in
    let shut : has (is_mark close) (f ++ (k ∷ us)) ≡ false = rw first (type_begins context close c m.ty depth_limit f2 ((b2 ++ b') ++ (k ∷ us)) ty.0) in
    let items : items_at member (f ++ (k ∷ us)) ≡ Ok (m ∷ ms, k ∷ us) = items_again member (IsMember context init) h (m ∷ ms) f (k ∷ us) (f', b', (f2, b2, ty, i, w2), more, w') (other_mark close Comma (k ∷ us) c.comma o) in
    rw (whole, shut, items, o) refl

pub braces : Closes CloseBrace
braces = record { bracket = refl; brace = refl; less = refl; comma = refl }

brackets_close : Closes CloseBracket
brackets_close = record { bracket = refl; brace = refl; less = refl; comma = refl }

-- Groups.

group_again : (context : Context) (init : IrType → Init → Part) (member : List Tok → Read Member) → ((m : Member) → Reads member m (IsMember context init m)) → (i : Init) (ts us : List Tok) → IsGroup (IsMember context init) i ts → (has is_opening (ts ++ us) ≡ true) × (group_at member (ts ++ us) ≡ Ok (i, us))
group_again context init member h i ts us (inl (ms, g, e)) =
    let r = behind_reads (is_mark OpenBracket) _ (bracketed_at member) (members_of ms) ts us g (closed_reads context init CloseBracket brackets_close member h ms) in
    (opens OpenBracket (ts ++ us) refl r.0, rw (r.0, r.1) (ap (λ j. Ok (j, us)) e))
group_again context init member h i ts us (inr (inl (ms, g, e))) =
    let r = behind_reads (is_mark OpenBrace) _ (braced_at member) (members_of ms) ts us g (closed_reads context init CloseBrace braces member h ms) in
    (opens OpenBrace (ts ++ us) refl r.0, rw (other_mark OpenBrace OpenBracket (ts ++ us) refl r.0, r.0, r.1) (ap (λ j. Ok (j, us)) e))
group_again context init member h i ts us (inr (inr (ms, g, e))) =
    let packed = bind_reads (mark_at OpenBrace) (λ o. braced_at member o.1 >>= λ ms. mark_at Greater ms.1 >>= λ c. Ok (group brackets.Packed ms.0, c.1)) tt (group brackets.Packed (members_of ms)) _ _ (next_reads (is_mark OpenBrace))
    (bind_reads (braced_at member) (λ ms. mark_at Greater ms.1 >>= λ c. Ok (group brackets.Packed ms.0, c.1)) (members_of ms) (group brackets.Packed (members_of ms)) _ _ (closed_reads context init CloseBrace braces member h ms)
    (last_reads (mark_at Greater) (λ c. group brackets.Packed (members_of ms)) tt _ (next_reads (is_mark Greater)))) in
    let r = behind_reads (is_mark Less) _ (packed_group_behind member) (group brackets.Packed (members_of ms)) ts us g packed in
    (opens Less (ts ++ us) refl r.0, rw (other_mark Less OpenBracket (ts ++ us) refl r.0, other_mark Less OpenBrace (ts ++ us) refl r.0, r.1) (ap (λ j. Ok (j, us)) e))

pub init_again : (context : Context) (depth : ℕ) (ty : IrType) (i : Init) → Reads (init_at context depth ty) i (IsInit context depth ty i)
unfolding init_at
init_again context zero ty i ts us e = let r = leaf_again context zero ty i ts us e in rw (r.0, r.1) refl
init_again context (suc depth) ty i ts us (inl e) = let r = leaf_again context (suc depth) ty i ts us e in rw (r.0, r.1) refl
init_again context (suc depth) ty i ts us (inr g) =
    let r = group_again context (IsInit context depth) (member_at context (init_at context depth)) (member_reads context depth (init_again context depth)) i ts us g in
    rw (r.0, r.1) refl
