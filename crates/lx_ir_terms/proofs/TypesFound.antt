-- Types: what is read is in the grammar.
use Rattle.std.proofs.Common.{◌≡◌, ℕ, zero, suc, Bool, true, false, Option, Some, None, List, [], ◌∷◌, ◌++◌, length, Ok, Err, refl, sym, ap, ◌∙◌, subst}
use Rattle.std.specs.Prelude.{if◌then◌else◌}
use Rattle.lx_ir_tokens.specs.declared.token.Tok.{Tok}
use Rattle.lx_ir_tokens.specs.declared.token.Kind.{Kind}
use Rattle.lx_ir_tokens.specs.declared.token.Kind.TheVariants as kinds
use Rattle.lx_ir_tokens.specs.declared.token.Mark.{Mark}
use Rattle.lx_ir_tokens.specs.declared.token.Mark.TheVariants.{Comma, OpenBrace, CloseBrace, OpenBracket, CloseBracket, Less, Greater}
use Rattle.lx_ir_tokens.specs.declared.keyword.Keyword.TheVariants as keywords
use Rattle.lx_ir.specs.IrType.{IrType, One, Array, Struct, Packed, Named}
use Rattle.lx_ir.specs.TypeNodes.{types_of_list}
use Rattle.lx_ir_terms.specs.Context.{Context, type_number}
use Rattle.lx_ir_terms.specs.declared.fault.FaultKind.TheVariants.{OutOfProfile}
use Rattle.lx_ir_terms.specs.Reading.{Read, ◌>>=◌, at, has, behind, is_mark, is_times, next_at, mark_at, more_at, items_at, closed_at, listed_at}
use Rattle.lx_ir_terms.specs.Types.{is_opening, count_in, count_at, always_refused, scalar_of, named_type, flat_of, flat_in, flat_at, flat_refusal, array_behind, struct_behind, packed_behind, nested_at, type_at}
use Rattle.lx_ir_terms.specs.Grammar.{Part, Picks, Is, IsMark, ◌then◌, IsType, AreTypes, AreMore}
use Rattle.lx_ir_terms.proofs.Marks.{next_token}
use Rattle.lx_ir_terms.specs.Laws.{Finds}
use Rattle.lx_ir_terms.proofs.Parts.{Joined, Mapped, pick_finds, next_finds, bind_finds, last_finds, ok_same}

-- what is found in some tokens
abbrev pub Found : {A : Type 0} → (A → Part) → A → List Tok → List Tok → Type 0
Found part x ts us = (front : List Tok) × part x front × (ts ≡ front ++ us)

abbrev TypeOf : Context → ℕ → IrType → Part
TypeOf context depth t = IsType context t depth

named_flat : (context : Context) (depth : ℕ) (k : Option ℕ) (t : IrType) → named_type k ≡ Some t → IsType context t depth ≡ Picks (flat_in context) t
named_flat context depth (Some n) t e = let s : Named n ≡ t = cc in subst (λ x. IsType context x depth ≡ Picks (flat_in context) x) s refl
named_flat context depth None t e = cc

flat_type : (context : Context) (depth : ℕ) (k : Kind) (name : ℕ) (t : IrType) → flat_of context k name ≡ Some t → IsType context t depth ≡ Picks (flat_in context) t
flat_type context depth (kinds.Word (keywords.Scalar w)) name t e = let s : One (scalar_of w) ≡ t = cc in subst (λ x. IsType context x depth ≡ Picks (flat_in context) x) s refl
flat_type context depth (kinds.Word w) name t e = cc
flat_type context depth kinds.Local name t e = named_flat context depth (type_number context name) t e
flat_type context depth kinds.Global name t e = cc
flat_type context depth (kinds.Number v s) name t e = cc
flat_type context depth kinds.Text name t e = cc
flat_type context depth kinds.Bytes name t e = cc
flat_type context depth (kinds.Mark m) name t e = cc

flat_found : (context : Context) (depth : ℕ) → Finds (flat_at context) (TypeOf context depth)
flat_found context depth ts us t e =
    let w = pick_finds (flat_in context) flat_refusal ts us t e in
    let k = w.1.0 in
    (w.0, (let s = flat_type context depth k.kind k.name t w.1.1 in subst (λ (p : Part). p w.0) (sym s) w.1), w.2)

-- a type behind the mark that opens it
abbrev Behind : Context → ℕ → Mark → IrType → Part
Behind context depth m t ts = (k : Tok) → is_mark m k.kind ≡ true → IsType context t depth (k ∷ ts)

abbrev ArrayParts : Context → ℕ → IrType → Part
ArrayParts context depth = Joined (Picks (λ t. count_in t.kind)) (λ n. Joined (λ (x : Unit {0}). Is is_times) (λ x. Joined (TypeOf context depth) (λ t. Mapped (λ (c : Unit {0}). Array n t) (λ c. IsMark CloseBracket))))

array_part : (context : Context) (depth : ℕ) (y : IrType) (ts : List Tok) → ArrayParts context depth y ts → Behind context (suc depth) OpenBracket y ts
array_part context depth y ts (n, (f, b, pn, (x, (f', b', px, (t, (f3, b3, pt, (c, m, eq), e3)), e2)), e1)) =
    λ k o. subst (λ z. IsType context z (suc depth) (k ∷ ts)) eq (k ∷ [], ts, (k, o, refl), (f, b, pn, (f', b', px, (f3, b3, pt, m, e3), e2), e1), refl)

array_found : (context : Context) (depth : ℕ) → Finds (type_at context depth) (TypeOf context depth) → Finds (array_behind (type_at context depth)) (Behind context (suc depth) OpenBracket)
array_found context depth h ts us y e =
    let item = type_at context depth in
    let w = bind_finds count_at (λ n. next_at is_times n.1 >>= λ x. item x.1 >>= λ t. mark_at CloseBracket t.1 >>= λ c. Ok (Array n.0 t.0, c.1)) _ _ (pick_finds (λ t. count_in t.kind) always_refused)
    (λ n. bind_finds (next_at is_times) (λ x. item x.1 >>= λ t. mark_at CloseBracket t.1 >>= λ c. Ok (Array n t.0, c.1)) _ _ (next_finds is_times)
    (λ x. bind_finds item (λ t. mark_at CloseBracket t.1 >>= λ c. Ok (Array n t.0, c.1)) _ _ h
    (λ t. last_finds (mark_at CloseBracket) (λ c. Array n t) _ (next_finds (is_mark CloseBracket))))) ts us y e in
    (w.0, array_part context depth y w.0 w.1, w.2)

-- fields, and the mark behind them
abbrev pub FieldsOf : Context → ℕ → List IrType → Part
FieldsOf context depth fields = AreTypes context (types_of_list fields) depth then IsMark CloseBrace

abbrev MoreOf : Context → ℕ → List IrType → Part
MoreOf context depth fields = AreMore context (types_of_list fields) depth

-- an item, and further ones
abbrev one_more : {A : Type 0} → (List Tok → Read A) → (List Tok → Read (List A)) → List Tok → Read (List A)
one_more item rest ts = do
  x ← item ts
  xs ← rest x.1
  Ok (x.0 ∷ xs.0, xs.1)

-- further items, by whether a comma stands next
abbrev more_by : {A : Type 0} → Bool → (List Tok → Read A) → (List Tok → Read (List A)) → List Tok → Read (List A)
more_by b item rest ts = if b then one_more item rest (behind ts) else Ok ([], ts)

abbrev SomeParts : Context → ℕ → List IrType → Part
SomeParts context depth = Joined (TypeOf context depth) (λ x. Mapped (λ (xs : List IrType). x ∷ xs) (MoreOf context depth))

types_part : (context : Context) (depth : ℕ) (xs : List IrType) (ts : List Tok) → SomeParts context depth xs ts → AreTypes context (types_of_list xs) depth ts
types_part context depth xs ts (t, (f, b, p, (ys, m, eq), e)) = subst (λ zs. AreTypes context (types_of_list zs) depth ts) eq (f, b, p, m, e)

one_found : (context : Context) (depth : ℕ) (rest : List Tok → Read (List IrType)) → Finds (type_at context depth) (TypeOf context depth) → Finds rest (MoreOf context depth) → Finds (one_more (type_at context depth) rest) (λ xs. AreTypes context (types_of_list xs) depth)
one_found context depth rest h k ts us xs e =
    let w = bind_finds (type_at context depth) (λ x. rest x.1 >>= λ xs. Ok (x.0 ∷ xs.0, xs.1)) _ _ h (λ x. last_finds rest (λ xs. x ∷ xs) _ k) ts us xs e in
    (w.0, types_part context depth xs w.0 w.1, w.2)

comma_part : (context : Context) (depth : ℕ) (xs : List IrType) (k : Tok) (ts : List Tok) → is_mark Comma k.kind ≡ true → SomeParts context depth xs ts → MoreOf context depth xs (k ∷ ts)
comma_part context depth xs k ts o (t, (f, b, p, (ys, m, eq), e)) = subst (λ zs. MoreOf context depth zs (k ∷ ts)) eq (k ∷ [], ts, (k, o, refl), (f, b, p, m, e), refl)

more_step : (context : Context) (depth : ℕ) (rest : List Tok → Read (List IrType)) → Finds (type_at context depth) (TypeOf context depth) → Finds rest (MoreOf context depth) → (b : Bool) (ts us : List Tok) (xs : List IrType) → has (is_mark Comma) ts ≡ b → more_by b (type_at context depth) rest ts ≡ Ok (xs, us) → Found (MoreOf context depth) xs ts us
more_step context depth rest h k false ts us xs c e =
    let s = ok_same [] xs ts us e in
    subst (λ ys. Found (MoreOf context depth) ys ts us) s.0 ([], refl, s.1)
more_step context depth rest h k true ts us xs c e =
    let n = next_token (is_mark Comma) ts c in
    let w = bind_finds (type_at context depth) (λ x. rest x.1 >>= λ xs. Ok (x.0 ∷ xs.0, xs.1)) _ _ h (λ x. last_finds rest (λ xs. x ∷ xs) _ k) (behind ts) us xs e in
    (n.token ∷ w.0, comma_part context depth xs n.token w.0 n.kind w.1, n.whole ∙ ap (λ r. n.token ∷ r) w.2)

more_found : (context : Context) (depth : ℕ) → Finds (type_at context depth) (TypeOf context depth) → (fuel : ℕ) → Finds (more_at (type_at context depth) fuel) (MoreOf context depth)
unfolding more_at
more_found context depth h zero ts us xs e =
    let s = ok_same [] xs ts us e in
    subst (λ ys. Found (MoreOf context depth) ys ts us) s.0 ([], refl, s.1)
more_found context depth h (suc fuel) ts us xs e = more_step context depth (more_at (type_at context depth) fuel) h (more_found context depth h fuel) (has (is_mark Comma) ts) ts us xs refl e

abbrev SomeOf : Context → ℕ → List IrType → Part
SomeOf context depth xs = AreTypes context (types_of_list xs) depth

-- one field or more
items_found : (context : Context) (depth : ℕ) → Finds (type_at context depth) (TypeOf context depth) → Finds (items_at (type_at context depth)) (SomeOf context depth)
items_found context depth h = one_found context depth (λ us. more_at (type_at context depth) (length us) us) h (λ ts us xs e. more_found context depth h (length ts) ts us xs e)

abbrev ClosedParts : Context → ℕ → List IrType → Part
ClosedParts context depth = Joined (SomeOf context depth) (λ xs. Mapped (λ (c : Unit {0}). xs) (λ c. IsMark CloseBrace))

closed_part : (context : Context) (depth : ℕ) (xs : List IrType) (ts : List Tok) → ClosedParts context depth xs ts → FieldsOf context depth xs ts
closed_part context depth xs ts (ys, (f, b, p, (c, m, eq), e)) = subst (λ zs. FieldsOf context depth zs ts) eq (f, b, p, m, e)

closed_found : (context : Context) (depth : ℕ) → Finds (type_at context depth) (TypeOf context depth) → Finds (closed_at CloseBrace (type_at context depth)) (FieldsOf context depth)
closed_found context depth h ts us xs e =
    let w = bind_finds (items_at (type_at context depth)) (λ xs. mark_at CloseBrace xs.1 >>= λ c. Ok (xs.0, c.1)) _ _ (items_found context depth h) (λ xs. last_finds (mark_at CloseBrace) (λ c. xs) _ (next_finds (is_mark CloseBrace))) ts us xs e in
    (w.0, closed_part context depth xs w.0 w.1, w.2)

abbrev listed_by : {A : Type 0} → Bool → Mark → (List Tok → Read A) → List Tok → Read (List A)
listed_by b close item ts = if b then Ok ([], behind ts) else closed_at close item ts

listed_step : (context : Context) (depth : ℕ) → Finds (type_at context depth) (TypeOf context depth) → (b : Bool) (ts us : List Tok) (xs : List IrType) → has (is_mark CloseBrace) ts ≡ b → listed_by b CloseBrace (type_at context depth) ts ≡ Ok (xs, us) → Found (FieldsOf context depth) xs ts us
listed_step context depth h false ts us xs c e = closed_found context depth h ts us xs e
listed_step context depth h true ts us xs c e =
    let n = next_token (is_mark CloseBrace) ts c in
    let s = ok_same [] xs (behind ts) us e in
    subst (λ ys. Found (FieldsOf context depth) ys ts us) s.0 (n.token ∷ [], ([], n.token ∷ [], refl, (n.token, n.kind, refl), refl), n.whole ∙ ap (λ r. n.token ∷ r) s.1)

-- the fields of a struct
pub fields_found : (context : Context) (depth : ℕ) → Finds (type_at context depth) (TypeOf context depth) → Finds (listed_at CloseBrace (type_at context depth)) (FieldsOf context depth)
fields_found context depth h ts us xs e = listed_step context depth h (has (is_mark CloseBrace) ts) ts us xs refl e

abbrev StructParts : Context → ℕ → IrType → Part
StructParts context depth = Mapped (λ (xs : List IrType). Struct (types_of_list xs)) (FieldsOf context depth)

struct_part : (context : Context) (depth : ℕ) (y : IrType) (ts : List Tok) → StructParts context depth y ts → Behind context (suc depth) OpenBrace y ts
struct_part context depth y ts (xs, p, eq) = λ k o. subst (λ z. IsType context z (suc depth) (k ∷ ts)) eq (k ∷ [], ts, (k, o, refl), p, refl)

struct_found : (context : Context) (depth : ℕ) → Finds (type_at context depth) (TypeOf context depth) → Finds (struct_behind (type_at context depth)) (Behind context (suc depth) OpenBrace)
struct_found context depth h ts us y e =
    let w = last_finds (listed_at CloseBrace (type_at context depth)) (λ xs. Struct (types_of_list xs)) _ (fields_found context depth h) ts us y e in
    (w.0, struct_part context depth y w.0 w.1, w.2)

abbrev PackedParts : Context → ℕ → IrType → Part
PackedParts context depth = Joined (λ (o : Unit {0}). IsMark OpenBrace) (λ o. Joined (FieldsOf context depth) (λ xs. Mapped (λ (c : Unit {0}). Packed (types_of_list xs)) (λ c. IsMark Greater)))

packed_part : (context : Context) (depth : ℕ) (y : IrType) (ts : List Tok) → PackedParts context depth y ts → Behind context (suc depth) Less y ts
packed_part context depth y ts (o, (f, b, po, (xs, (f', b', p, (c, m, eq), e')), e)) =
    λ k l. subst (λ z. IsType context z (suc depth) (k ∷ ts)) eq (k ∷ [], ts, (k, l, refl), (f, b, po, (f', b', p, m, e'), e), refl)

packed_found : (context : Context) (depth : ℕ) → Finds (type_at context depth) (TypeOf context depth) → Finds (packed_behind (type_at context depth)) (Behind context (suc depth) Less)
packed_found context depth h ts us y e =
    let w = bind_finds (mark_at OpenBrace) (λ o. listed_at CloseBrace (type_at context depth) o.1 >>= λ fs. mark_at Greater fs.1 >>= λ c. Ok (Packed (types_of_list fs.0), c.1)) _ _ (next_finds (is_mark OpenBrace))
    (λ o. bind_finds (listed_at CloseBrace (type_at context depth)) (λ fs. mark_at Greater fs.1 >>= λ c. Ok (Packed (types_of_list fs.0), c.1)) _ _ (fields_found context depth h)
    (λ xs. last_finds (mark_at Greater) (λ c. Packed (types_of_list xs)) _ (next_finds (is_mark Greater)))) ts us y e in
    (w.0, packed_part context depth y w.0 w.1, w.2)

-- what stands behind an opening mark, with it
with_mark : (context : Context) (depth : ℕ) (m : Mark) (t : IrType) (ts us : List Tok) → has (is_mark m) ts ≡ true → Found (Behind context depth m) t (behind ts) us → Found (TypeOf context depth) t ts us
with_mark context depth m t ts us h w =
    let n = next_token (is_mark m) ts h in
    (n.token ∷ w.0, w.1 n.token n.kind, n.whole ∙ ap (λ r. n.token ∷ r) w.2)

abbrev nested_by : Bool → Bool → (List Tok → Read IrType) → List Tok → Read IrType
nested_by a b item ts = if a then array_behind item (behind ts) else if b then struct_behind item (behind ts) else packed_behind item (behind ts)

-- the three marks that open a type
pub third_mark : (k : Kind) → is_opening k ≡ true → is_mark OpenBracket k ≡ false → is_mark OpenBrace k ≡ false → is_mark Less k ≡ true
third_mark k o a b = simp (sym o, a, b) refl

pub third : (ts : List Tok) → has is_opening ts ≡ true → has (is_mark OpenBracket) ts ≡ false → has (is_mark OpenBrace) ts ≡ false → has (is_mark Less) ts ≡ true
third [] o a b = cc
third (t ∷ ts) o a b = third_mark t.kind o a b

nested_found : (context : Context) (depth : ℕ) → Finds (type_at context depth) (TypeOf context depth) → (a b : Bool) (ts us : List Tok) (t : IrType) → has is_opening ts ≡ true → has (is_mark OpenBracket) ts ≡ a → has (is_mark OpenBrace) ts ≡ b → nested_by a b (type_at context depth) ts ≡ Ok (t, us) → Found (TypeOf context (suc depth)) t ts us
nested_found context depth h true b ts us t o p q e = with_mark context (suc depth) OpenBracket t ts us p (array_found context depth h (behind ts) us t e)
nested_found context depth h false true ts us t o p q e = with_mark context (suc depth) OpenBrace t ts us q (struct_found context depth h (behind ts) us t e)
nested_found context depth h false false ts us t o p q e = with_mark context (suc depth) Less t ts us (third ts o p q) (packed_found context depth h (behind ts) us t e)

abbrev pub type_by : Bool → Read IrType → Read IrType → Read IrType
type_by b nested flat = if b then nested else flat

shallow : (context : Context) (b : Bool) (ts us : List Tok) (t : IrType) → type_by b (Err (at OutOfProfile ts)) (flat_at context ts) ≡ Ok (t, us) → Found (TypeOf context zero) t ts us
shallow context true ts us t e = cc
shallow context false ts us t e = flat_found context zero ts us t e

deep : (context : Context) (depth : ℕ) → Finds (type_at context depth) (TypeOf context depth) → (b : Bool) (ts us : List Tok) (t : IrType) → has is_opening ts ≡ b → type_by b (nested_at (type_at context depth) ts) (flat_at context ts) ≡ Ok (t, us) → Found (TypeOf context (suc depth)) t ts us
deep context depth h true ts us t o e = nested_found context depth h (has (is_mark OpenBracket) ts) (has (is_mark OpenBrace) ts) ts us t o refl refl e
deep context depth h false ts us t o e = flat_found context (suc depth) ts us t e

-- what is read as a type is in the grammar
pub type_found : (context : Context) (depth : ℕ) → Finds (type_at context depth) (TypeOf context depth)
unfolding type_at
type_found context zero ts us t e = shallow context (has is_opening ts) ts us t e
type_found context (suc depth) ts us t e = deep context depth (type_found context depth) (has is_opening ts) ts us t refl e
