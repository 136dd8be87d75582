-- A token at which the reading of an initialiser stops cannot stand there.
use Rattle.std.proofs.Common.{◌≡◌, ℕ, zero, suc, Bool, true, false, List, [], ◌∷◌, ◌++◌, Ok, Err, refl, sym, ap, ◌∙◌}
use Rattle.std.specs.Prelude.{◌≡◌, None, if◌then◌else◌}
use Rattle.lx_ir_tokens.specs.declared.token.Tok.{Tok}
use Rattle.lx_ir_tokens.specs.declared.token.Mark.{Mark}
use Rattle.lx_ir_tokens.specs.declared.token.Mark.TheVariants.{OpenBrace, CloseBrace, OpenBracket, CloseBracket, Less, Greater}
use Rattle.lx_ir.specs.declared.module.Brackets.TheVariants as brackets
use Rattle.lx_ir.specs.IrType.{IrType}
use Rattle.lx_ir.specs.Init.{Init, Plain}
use Rattle.lx_ir_terms.specs.declared.fault.Fault.{Fault}
use Rattle.lx_ir_terms.specs.declared.fault.FaultKind.TheVariants.{OutOfProfile}
use Rattle.lx_ir_terms.specs.Context.{Context}
use Rattle.lx_ir_terms.specs.Reading.{Read, ◌>>=◌, at, has, behind, is_mark, mark_at, items_at, closed_at, listed_at}
use Rattle.lx_ir_terms.specs.Types.{is_opening, written_type_at}
use Rattle.lx_ir_terms.specs.Grammar.{Part, IsWritten}
use Rattle.lx_ir_terms.specs.Laws.{Reads, Finds, Stops}
use Rattle.lx_ir_terms.proofs.ListStops.{listed_stops}
use Rattle.lx_ir_terms.proofs.Marks.{other_mark}
use Rattle.lx_ir_terms.proofs.Parts.{next_reads, next_finds}
use Rattle.lx_ir_terms.proofs.Stopping.{Refuses, pick_stops, next_stops, bind_stops, last_stops, guard_stops, behind_stops}
use Rattle.lx_ir_terms.proofs.Written.{written_again, written_found, written_stops}
use Rattle.lx_ir_terms.proofs.TypesFound.{third}
use Rattle.lx_ir_constants.specs.declared.inits.Member.{Member}
use Rattle.lx_ir_constants.specs.declared.inits.Members.{Members}
use Rattle.lx_ir_constants.specs.Constants.{constant_refusal, begins_expression, expression_at}
use Rattle.lx_ir_constants.specs.Inits.{flat_init_of, flat_init_at, leaf_at, member_at, members_of, some_members_at, braced_at, bracketed_at, group, packed_group_behind, group_at, init_at}
use Rattle.lx_ir_constants.specs.InitGrammar.{IsMember, IsInit}
use Rattle.lx_ir_constants.proofs.ConstantStops.{expression_stops, too_deep}
use Rattle.lx_ir_constants.proofs.InitLaws.{members_closed_at, member_reads, closed_reads, braces, init_again}
use Rattle.lx_ir_constants.proofs.InitsFound.{member_found, ListOf, closed_found, init_found, init_by}

-- Leaves.

abbrev expression_init : Context → ℕ → List Tok → Read Init
expression_init context depth ts = expression_at context depth ts >>= λ c. Ok (Plain c.0, c.1)

abbrev leaf_by : Bool → Context → ℕ → IrType → List Tok → Read Init
leaf_by b context depth ty ts = if b then expression_init context depth ts else flat_init_at context ty ts

leaf_step : (context : Context) (l : context.limits ≡ None) (depth : ℕ) (ty : IrType) (b : Bool) (ts : List Tok) (f : Fault) → has begins_expression ts ≡ b → leaf_by b context depth ty ts ≡ Err f → Stops (leaf_at context depth ty) ts f
leaf_step context l depth ty true ts f o e =
    guard_stops begins_expression (leaf_at context depth ty) (expression_init context depth) true (λ vs k. rw k refl) ts f o
    (last_stops (expression_at context depth) (λ c. Plain c) (expression_stops context l depth) ts f e)
leaf_step context l depth ty false ts f o e =
    guard_stops begins_expression (leaf_at context depth ty) (flat_init_at context ty) false (λ vs k. rw k refl) ts f o
    (pick_stops (λ t. flat_init_of context ty t.kind t.name) constant_refusal ts f e)

leaf_stops : (context : Context) (l : context.limits ≡ None) (depth : ℕ) (ty : IrType) → Refuses (leaf_at context depth ty)
leaf_stops context l depth ty ts f e = leaf_step context l depth ty (has begins_expression ts) ts f refl e

-- Members.

member_stops : (context : Context) (l : context.limits ≡ None) (init : IrType → List Tok → Read Init) → ((ty : IrType) → Refuses (init ty)) → Refuses (member_at context init)
member_stops context l init h =
    bind_stops (written_type_at context) (λ t. init t.0 t.1 >>= λ i. Ok (record { ty = t.0; init = i.0 }, i.1)) (IsWritten context) (written_again context) (written_found context) (written_stops context l)
    (λ t. last_stops (init t) (λ i. record { ty = t; init = i }) (h t))

abbrev as_members : Read (List Member) → Read Members
as_members read = read >>= λ ms. Ok (members_of ms.0, ms.1)

abbrev behind_mark : {A : Type 0} → A → Read (Unit {0}) → Read A
behind_mark x r = r >>= λ c. Ok (x, c.1)

marked : (ms : List Member) (r : Read (Unit {0})) → behind_mark (members_of ms) r ≡ as_members (behind_mark ms r)
marked ms (Ok c) = refl
marked ms (Err f) = refl

abbrev up_to : {A : Type 0} → Mark → Read A → Read A
up_to close r = r >>= λ x. behind_mark x.0 (mark_at close x.1)

shut : (close : Mark) (r : Read (List Member)) → up_to close (as_members r) ≡ as_members (up_to close r)
shut close (Ok ms) = marked ms.0 (mark_at close ms.1)
shut close (Err f) = refl

abbrev members_by : Bool → Mark → (List Tok → Read Member) → List Tok → Read Members
members_by b close member ts = if b then Ok (members_of [], behind ts) else (some_members_at member ts >>= λ ms. mark_at close ms.1 >>= λ c. Ok (ms.0, c.1))

abbrev listed_by : Bool → Mark → (List Tok → Read Member) → List Tok → Read (List Member)
listed_by b close member ts = if b then Ok ([], behind ts) else closed_at close member ts

either_way : (close : Mark) (member : List Tok → Read Member) (b : Bool) (ts : List Tok) → members_by b close member ts ≡ as_members (listed_by b close member ts)
either_way close member true ts = refl
either_way close member false ts = shut close (items_at member ts)

-- the same rule, written otherwise
pub same_stops : {A : Type 0} (read r : List Tok → Read A) → ((vs : List Tok) → read vs ≡ r vs) → (ts : List Tok) (f : Fault) → Stops r ts f → Stops read ts f
same_stops read r h ts f s = record { front = s.front; rest = s.rest; whole = s.whole; left = s.left; again = λ t more us c. h (s.front ++ t ∷ us) ∙ s.again t more us c }

members_stop : (close : Mark) (member : List Tok → Read Member) (part : Member → Part) → ((m : Member) → Reads member m (part m)) → Finds member part → Refuses member → Refuses (members_closed_at close member)
members_stop close member part reads finds stops ts f e =
    let same = λ (vs : List Tok). either_way close member (has (is_mark close) vs) vs in
    same_stops (members_closed_at close member) (λ vs. as_members (listed_at close member vs)) same ts f
    (last_stops (listed_at close member) (λ ms. members_of ms) (listed_stops close member part reads finds stops) ts f (sym (same ts) ∙ e))

-- Groups.

braced_reads : (context : Context) (init : IrType → Init → Part) (member : List Tok → Read Member) → ((m : Member) → Reads member m (IsMember context init m)) → (all : Members) → Reads (braced_at member) all (ListOf (IsMember context init) CloseBrace all)
braced_reads context init member h all ts us (ms, p, a) = closed_reads context init CloseBrace braces member h ms ts us p ∙ ap (λ x. Ok (x, us)) a

packed_stops : (context : Context) (init : IrType → Init → Part) (member : List Tok → Read Member) → ((m : Member) → Reads member m (IsMember context init m)) → Finds member (IsMember context init) → Refuses member → Refuses (packed_group_behind member)
packed_stops context init member reads finds stops =
    bind_stops (mark_at OpenBrace) (λ o. braced_at member o.1 >>= λ ms. mark_at Greater ms.1 >>= λ c. Ok (group brackets.Packed ms.0, c.1)) _ (λ x. next_reads (is_mark OpenBrace)) (next_finds (is_mark OpenBrace)) (next_stops (is_mark OpenBrace))
    (λ o. bind_stops (braced_at member) (λ ms. mark_at Greater ms.1 >>= λ c. Ok (group brackets.Packed ms.0, c.1)) (ListOf (IsMember context init) CloseBrace) (braced_reads context init member reads) (closed_found CloseBrace member (IsMember context init) finds) (members_stop CloseBrace member (IsMember context init) reads finds stops)
    (λ ms. last_stops (mark_at Greater) (λ c. group brackets.Packed ms) (next_stops (is_mark Greater))))

abbrev array_group : (List Tok → Read Member) → List Tok → Read Init
array_group member ts = bracketed_at member ts >>= λ ms. Ok (group brackets.Array ms.0, ms.1)

abbrev struct_group : (List Tok → Read Member) → List Tok → Read Init
struct_group member ts = braced_at member ts >>= λ ms. Ok (group brackets.Struct ms.0, ms.1)

abbrev group_by : Bool → Bool → (List Tok → Read Member) → List Tok → Read Init
group_by a b member ts = if a then array_group member (behind ts) else if b then struct_group member (behind ts) else packed_group_behind member (behind ts)

group_step : (context : Context) (init : IrType → Init → Part) (member : List Tok → Read Member) → ((m : Member) → Reads member m (IsMember context init m)) → Finds member (IsMember context init) → Refuses member → (a b : Bool) (ts : List Tok) (f : Fault) → has is_opening ts ≡ true → has (is_mark OpenBracket) ts ≡ a → has (is_mark OpenBrace) ts ≡ b → group_by a b member ts ≡ Err f → Stops (group_at member) ts f
group_step context init member reads finds stops true b ts f o p q e =
    guard_stops (is_mark OpenBracket) (group_at member) (λ us. array_group member (behind us)) true (λ vs k. rw k refl) ts f p
    (behind_stops (is_mark OpenBracket) (array_group member) ts f p
    (last_stops (bracketed_at member) (λ ms. group brackets.Array ms) (members_stop CloseBracket member (IsMember context init) reads finds stops) (behind ts) f e))
group_step context init member reads finds stops false true ts f o p q e =
    guard_stops (is_mark OpenBrace) (group_at member) (λ us. struct_group member (behind us)) true (λ vs k. rw (other_mark OpenBrace OpenBracket vs refl k, k) refl) ts f q
    (behind_stops (is_mark OpenBrace) (struct_group member) ts f q
    (last_stops (braced_at member) (λ ms. group brackets.Struct ms) (members_stop CloseBrace member (IsMember context init) reads finds stops) (behind ts) f e))
group_step context init member reads finds stops false false ts f o p q e =
    let l = third ts o p q in
    guard_stops (is_mark Less) (group_at member) (λ us. packed_group_behind member (behind us)) true (λ vs k. rw (other_mark Less OpenBracket vs refl k, other_mark Less OpenBrace vs refl k) refl) ts f l
    (behind_stops (is_mark Less) (packed_group_behind member) ts f l (packed_stops context init member reads finds stops (behind ts) f e))

shallow : (context : Context) (l : context.limits ≡ None) (ty : IrType) (b : Bool) (ts : List Tok) (f : Fault) → has is_opening ts ≡ b → init_by b (Err (at OutOfProfile ts)) (leaf_at context zero ty ts) ≡ Err f → Stops (init_at context zero ty) ts f
unfolding init_at
shallow context l ty true ts f o e = guard_stops is_opening (init_at context zero ty) (λ us. Err (at OutOfProfile us)) true (λ vs k. rw k refl) ts f o (too_deep ts f e)
shallow context l ty false ts f o e = guard_stops is_opening (init_at context zero ty) (leaf_at context zero ty) false (λ vs k. rw k refl) ts f o (leaf_stops context l zero ty ts f e)

deep : (context : Context) (l : context.limits ≡ None) (depth : ℕ) → ((ty : IrType) → Refuses (init_at context depth ty)) → (ty : IrType) (b : Bool) (ts : List Tok) (f : Fault) → has is_opening ts ≡ b → init_by b (group_at (member_at context (init_at context depth)) ts) (leaf_at context (suc depth) ty ts) ≡ Err f → Stops (init_at context (suc depth) ty) ts f
unfolding init_at
deep context l depth h ty true ts f o e =
    let member = member_at context (init_at context depth) in
    guard_stops is_opening (init_at context (suc depth) ty) (group_at member) true (λ vs k. rw k refl) ts f o
    (group_step context (IsInit context depth) member (member_reads context depth (init_again context depth)) (member_found context (init_at context depth) (IsInit context depth) (init_found context depth)) (member_stops context l (init_at context depth) h) (has (is_mark OpenBracket) ts) (has (is_mark OpenBrace) ts) ts f o refl refl e)
deep context l depth h ty false ts f o e = guard_stops is_opening (init_at context (suc depth) ty) (leaf_at context (suc depth) ty) false (λ vs k. rw k refl) ts f o (leaf_stops context l (suc depth) ty ts f e)

pub init_stops : (context : Context) (l : context.limits ≡ None) (depth : ℕ) (ty : IrType) → Refuses (init_at context depth ty)
unfolding init_at
init_stops context l zero ty ts f e = shallow context l ty (has is_opening ts) ts f refl e
init_stops context l (suc depth) ty ts f e = deep context l depth (init_stops context l depth) ty (has is_opening ts) ts f refl e
