-- A token at which the reading of a type stops cannot stand there.
use Rattle.std.proofs.Common.{◌≡◌, ℕ, zero, suc, Bool, true, false, List, [], ◌∷◌, ◌++◌, Result, Ok, Err, refl, sym, ◌∙◌, subst}
use Rattle.std.specs.Prelude.{if◌then◌else◌}
use Rattle.lx_ir_tokens.specs.declared.token.Tok.{Tok}
use Rattle.lx_ir_tokens.specs.declared.token.Mark.TheVariants.{OpenBrace, CloseBrace, OpenBracket, CloseBracket, Less, Greater}
use Rattle.lx_ir.specs.IrType.{IrType, Array, Struct, Packed}
use Rattle.lx_ir.specs.TypeNodes.{types_of_list}
use Rattle.lx_ir.proofs.Layouts.{list_back}
use Rattle.lx_ir_terms.specs.declared.fault.Fault.{Fault}
use Rattle.lx_ir_terms.specs.declared.fault.FaultKind.TheVariants.{OutOfProfile}
use Rattle.lx_ir_terms.specs.Context.{Context}
use Rattle.lx_ir_terms.specs.Reading.{Read, ◌>>=◌, at, has, behind, is_mark, is_times, next_at, mark_at, listed_at}
use Rattle.lx_ir_terms.specs.Types.{is_opening, count_in, count_at, always_refused, flat_in, flat_refusal, flat_at, array_behind, struct_behind, packed_behind, nested_at, type_at}
use Rattle.lx_ir_terms.specs.Grammar.{Part, IsType}
use Rattle.lx_ir_terms.specs.Laws.{Reads, Finds, Stops}
use Rattle.lx_ir_terms.proofs.Marks.{other_mark}
use Rattle.lx_ir_terms.proofs.Parts.{pick_reads, next_reads, pick_finds, next_finds}
use Rattle.lx_ir_terms.proofs.Stopping.{Refuses, pick_stops, next_stops, bind_stops, last_stops, guard_stops, behind_stops, at_once}
use Rattle.lx_ir_terms.proofs.ListStops.{listed_stops}
use Rattle.lx_ir_terms.proofs.TypeLaws.{type_again, fields_again}
use Rattle.lx_ir_terms.proofs.TypesFound.{type_found, fields_found, FieldsOf, third, type_by}

array_stops : (item : List Tok → Read IrType) (part : IrType → Part) → ((t : IrType) → Reads item t (part t)) → Finds item part → Refuses item → Refuses (array_behind item)
array_stops item part reads finds stops =
    bind_stops count_at (λ n. next_at is_times n.1 >>= λ x. item x.1 >>= λ t. mark_at CloseBracket t.1 >>= λ c. Ok (Array n.0 t.0, c.1)) _ (λ n. pick_reads (λ t. count_in t.kind) always_refused n) (pick_finds (λ t. count_in t.kind) always_refused) (pick_stops (λ t. count_in t.kind) always_refused)
    (λ n. bind_stops (next_at is_times) (λ x. item x.1 >>= λ t. mark_at CloseBracket t.1 >>= λ c. Ok (Array n t.0, c.1)) _ (λ x. next_reads is_times) (next_finds is_times) (next_stops is_times)
    (λ x. bind_stops item (λ t. mark_at CloseBracket t.1 >>= λ c. Ok (Array n t.0, c.1)) part reads finds stops
    (λ t. last_stops (mark_at CloseBracket) (λ c. Array n t) (next_stops (is_mark CloseBracket)))))

fields_reads : (context : Context) (depth : ℕ) (xs : List IrType) → Reads (listed_at CloseBrace (type_at context depth)) xs (FieldsOf context depth xs)
fields_reads context depth xs = subst (λ ys. Reads (listed_at CloseBrace (type_at context depth)) ys (FieldsOf context depth xs)) (list_back xs) (fields_again context (types_of_list xs) depth)

fields_stop : (context : Context) (depth : ℕ) → Refuses (type_at context depth) → Refuses (listed_at CloseBrace (type_at context depth))
fields_stop context depth h = listed_stops CloseBrace (type_at context depth) (λ t. IsType context t depth) (λ t. type_again context t depth) (type_found context depth) h

struct_stops : (context : Context) (depth : ℕ) → Refuses (type_at context depth) → Refuses (struct_behind (type_at context depth))
struct_stops context depth h = last_stops (listed_at CloseBrace (type_at context depth)) (λ xs. Struct (types_of_list xs)) (fields_stop context depth h)

packed_stops : (context : Context) (depth : ℕ) → Refuses (type_at context depth) → Refuses (packed_behind (type_at context depth))
packed_stops context depth h =
    bind_stops (mark_at OpenBrace) (λ o. listed_at CloseBrace (type_at context depth) o.1 >>= λ fs. mark_at Greater fs.1 >>= λ c. Ok (Packed (types_of_list fs.0), c.1)) _ (λ x. next_reads (is_mark OpenBrace)) (next_finds (is_mark OpenBrace)) (next_stops (is_mark OpenBrace))
    (λ o. bind_stops (listed_at CloseBrace (type_at context depth)) (λ fs. mark_at Greater fs.1 >>= λ c. Ok (Packed (types_of_list fs.0), c.1)) (FieldsOf context depth) (fields_reads context depth) (fields_found context depth (type_found context depth)) (fields_stop context depth h)
    (λ fs. last_stops (mark_at Greater) (λ c. Packed (types_of_list fs)) (next_stops (is_mark Greater))))

abbrev nested_by : Bool → Bool → (List Tok → Read IrType) → List Tok → Read IrType
nested_by a b item ts = if a then array_behind item (behind ts) else if b then struct_behind item (behind ts) else packed_behind item (behind ts)

nested_step : (context : Context) (depth : ℕ) → Refuses (type_at context depth) → (a b : Bool) (ts : List Tok) (f : Fault) → has is_opening ts ≡ true → has (is_mark OpenBracket) ts ≡ a → has (is_mark OpenBrace) ts ≡ b → nested_by a b (type_at context depth) ts ≡ Err f → Stops (nested_at (type_at context depth)) ts f
nested_step context depth h true b ts f o p q e =
    let item = type_at context depth in
    guard_stops (is_mark OpenBracket) (nested_at item) (λ us. array_behind item (behind us)) true (λ vs k. rw k refl) ts f p
    (behind_stops (is_mark OpenBracket) (array_behind item) ts f p (array_stops item (λ t. IsType context t depth) (λ t. type_again context t depth) (type_found context depth) h (behind ts) f e))
nested_step context depth h false true ts f o p q e =
    let item = type_at context depth in
    guard_stops (is_mark OpenBrace) (nested_at item) (λ us. struct_behind item (behind us)) true (λ vs k. rw (other_mark OpenBrace OpenBracket vs refl k, k) refl) ts f q
    (behind_stops (is_mark OpenBrace) (struct_behind item) ts f q (struct_stops context depth h (behind ts) f e))
nested_step context depth h false false ts f o p q e =
    let item = type_at context depth in
    let l = third ts o p q in
    guard_stops (is_mark Less) (nested_at item) (λ us. packed_behind item (behind us)) true (λ vs k. rw (other_mark Less OpenBracket vs refl k, other_mark Less OpenBrace vs refl k) refl) ts f l
    (behind_stops (is_mark Less) (packed_behind item) ts f l (packed_stops context depth h (behind ts) f e))

flat_stops : (context : Context) → Refuses (flat_at context)
flat_stops context = pick_stops (flat_in context) flat_refusal

shallow : (context : Context) (b : Bool) (ts : List Tok) (f : Fault) → has is_opening ts ≡ b → type_by b (Err (at OutOfProfile ts)) (flat_at context ts) ≡ Err f → Stops (type_at context zero) ts f
unfolding type_at
shallow context true ts f o e =
    let s : at OutOfProfile ts ≡ f = cc in
    guard_stops is_opening (type_at context zero) (λ us. Err (at OutOfProfile us)) true (λ vs k. rw k refl) ts f o (at_once (λ us. Err (at OutOfProfile us)) ts f OutOfProfile (sym s) (λ t more us w. refl))
shallow context false ts f o e = guard_stops is_opening (type_at context zero) (flat_at context) false (λ vs k. rw k refl) ts f o (flat_stops context ts f e)

deep : (context : Context) (depth : ℕ) → Refuses (type_at context depth) → (b : Bool) (ts : List Tok) (f : Fault) → has is_opening ts ≡ b → type_by b (nested_at (type_at context depth) ts) (flat_at context ts) ≡ Err f → Stops (type_at context (suc depth)) ts f
unfolding type_at
deep context depth h true ts f o e =
    guard_stops is_opening (type_at context (suc depth)) (nested_at (type_at context depth)) true (λ vs k. rw k refl) ts f o
    (nested_step context depth h (has (is_mark OpenBracket) ts) (has (is_mark OpenBrace) ts) ts f o refl refl e)
deep context depth h false ts f o e = guard_stops is_opening (type_at context (suc depth)) (flat_at context) false (λ vs k. rw k refl) ts f o (flat_stops context ts f e)

-- a token at which the reading of a type stops cannot stand there
pub type_stops : (context : Context) (depth : ℕ) → Refuses (type_at context depth)
unfolding type_at
type_stops context zero ts f e = shallow context (has is_opening ts) ts f refl e
type_stops context (suc depth) ts f e = deep context depth (type_stops context depth) (has is_opening ts) ts f refl e
