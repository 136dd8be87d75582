-- Types: what is in the grammar is read, and what is read is in the grammar.
use Rattle.std.proofs.Common.{◌≡◌, ℕ, zero, suc, ◌+◌, ◌≤◌, true, false, Some, List, [], ◌∷◌, ◌++◌, length, Ok, refl, ap, ◌∙◌, subst, append_assoc, arith}
use Rattle.std.specs.Prelude.{if◌then◌else◌}
use Rattle.std.proofs.lemmas.List.{length-append}
use Rattle.lx_ir_tokens.specs.declared.token.Tok.{Tok}
use Rattle.lx_ir_tokens.specs.declared.token.Kind.{Kind}
use Rattle.lx_ir_tokens.specs.declared.token.Kind.TheVariants as kinds
use Rattle.lx_ir_tokens.specs.declared.token.Mark.{Mark}
use Rattle.lx_ir_tokens.specs.declared.token.Mark.TheVariants.{Comma, OpenBrace, CloseBrace, OpenBracket, CloseBracket, Less, Greater}
use Rattle.lx_ir.specs.IrType.{IrType, One, Array, Struct, Packed, Named, IrTypes, none, also}
use Rattle.lx_ir.specs.TypeNodes.{types_of_list}
use Rattle.lx_ir.specs.Layout.{list_of_types}
use Rattle.lx_ir_terms.specs.Context.{Context}
use Rattle.lx_ir_terms.specs.Reading.{Read, ◌>>=◌, has, behind, is_mark, is_times, next_at, mark_at, more_at, closed_at, listed_at}
use Rattle.lx_ir_terms.specs.Types.{is_opening, count_in, count_at, always_refused, flat_of, flat_in, array_behind, struct_behind, packed_behind, nested_at, type_at}
use Rattle.lx_ir_terms.specs.Grammar.{Part, Picks, Is, IsMark, ◌then◌, IsType, AreTypes, AreMore}
use Rattle.lx_ir_terms.proofs.Marks.{mark_is, other_mark}
use Rattle.lx_ir_terms.specs.Laws.{Reads}
use Rattle.lx_ir_terms.proofs.Parts.{pick_reads, next_reads, bind_reads, last_reads, behind_reads}

-- What is in the grammar is read.

flat_opens_nothing : (context : Context) (k : Kind) (name : ℕ) (t : IrType) → flat_of context k name ≡ Some t → (is_opening k ≡ false) × (is_mark CloseBrace k ≡ false)
flat_opens_nothing context (kinds.Mark m) name t e = cc
flat_opens_nothing context (kinds.Word w) name t e = (refl, refl)
flat_opens_nothing context kinds.Local name t e = (refl, refl)
flat_opens_nothing context kinds.Global name t e = (refl, refl)
flat_opens_nothing context (kinds.Number v s) name t e = (refl, refl)
flat_opens_nothing context kinds.Text name t e = (refl, refl)
flat_opens_nothing context kinds.Bytes name t e = (refl, refl)

flat_again : (context : Context) (t : IrType) (depth : ℕ) → Reads (type_at context depth) t (Picks (flat_in context) t)
unfolding type_at
flat_again context t zero ts us (k, e, f) = rw (f, (flat_opens_nothing context k.kind k.name t e).0, e) refl
flat_again context t (suc depth) ts us (k, e, f) = rw (f, (flat_opens_nothing context k.kind k.name t e).0, e) refl

pub opens : (m : Mark) (ts : List Tok) → is_opening (kinds.Mark m) ≡ true → has (is_mark m) ts ≡ true → has is_opening ts ≡ true
opens m [] o h = cc
opens m (t ∷ ts) o h = ap is_opening (mark_is m t.kind h) ∙ o

nested : (context : Context) (depth : ℕ) (ts : List Tok) → has is_opening ts ≡ true → type_at context (suc depth) ts ≡ nested_at (type_at context depth) ts
unfolding type_at
nested context depth ts h = rw h refl

array_again : (item : List Tok → Read IrType) (t : IrType) (n : ℕ) (p : Part) → Reads item t p → Reads (array_behind item) (Array n t) (Picks (λ t. count_in t.kind) n then Is is_times then p then IsMark CloseBracket)
array_again item t n p h =
    bind_reads count_at (λ n. next_at is_times n.1 >>= λ x. item x.1 >>= λ t. mark_at CloseBracket t.1 >>= λ c. Ok (Array n.0 t.0, c.1)) n (Array n t) _ _ (pick_reads (λ t. count_in t.kind) always_refused n)
    (bind_reads (next_at is_times) (λ x. item x.1 >>= λ t. mark_at CloseBracket t.1 >>= λ c. Ok (Array n t.0, c.1)) tt (Array n t) _ _ (next_reads is_times)
    (bind_reads item (λ t. mark_at CloseBracket t.1 >>= λ c. Ok (Array n t.0, c.1)) t (Array n t) _ _ h
    (last_reads (mark_at CloseBracket) (λ c. Array n t) tt _ (next_reads (is_mark CloseBracket)))))

-- a part that reads as a list of types
abbrev pub Lists : (List Tok → Read (List IrType)) → IrTypes → Part → Type 0
Lists read fields p = Reads read (list_of_types fields) p

types_again : (ts : IrTypes) → types_of_list (list_of_types ts) ≡ ts
types_again none = refl
types_again (also t ts) = ap (also t) (types_again ts)

struct_again : (item : List Tok → Read IrType) (fields : IrTypes) (p : Part) → Lists (listed_at CloseBrace item) fields p → Reads (struct_behind item) (Struct fields) p
struct_again item fields p h =
    subst (λ fs. Reads (struct_behind item) (Struct fs) p) (types_again fields) (last_reads (listed_at CloseBrace item) (λ fs. Struct (types_of_list fs)) (list_of_types fields) p h)

packed_again : (item : List Tok → Read IrType) (fields : IrTypes) (p : Part) → Lists (listed_at CloseBrace item) fields p → Reads (packed_behind item) (Packed fields) (IsMark OpenBrace then p then IsMark Greater)
packed_again item fields p h =
    subst (λ fs. Reads (packed_behind item) (Packed fs) (IsMark OpenBrace then p then IsMark Greater)) (types_again fields)
    (bind_reads (mark_at OpenBrace) (λ o. listed_at CloseBrace item o.1 >>= λ fs. mark_at Greater fs.1 >>= λ c. Ok (Packed (types_of_list fs.0), c.1)) tt (Packed (types_of_list (list_of_types fields))) _ _ (next_reads (is_mark OpenBrace))
    (bind_reads (listed_at CloseBrace item) (λ fs. mark_at Greater fs.1 >>= λ c. Ok (Packed (types_of_list fs.0), c.1)) (list_of_types fields) (Packed (types_of_list (list_of_types fields))) _ _ h
    (last_reads (mark_at Greater) (λ c. Packed (types_of_list (list_of_types fields))) tt _ (next_reads (is_mark Greater)))))

-- further fields up to a token that is no comma
abbrev MoreAgain : Context → ℕ → IrTypes → Type 0
MoreAgain context depth fields = (fuel : ℕ) (ts us : List Tok) → AreMore context fields depth ts → length (ts ++ us) ≤ fuel → has (is_mark Comma) us ≡ false → more_at (type_at context depth) fuel (ts ++ us) ≡ Ok (list_of_types fields, us)

more_none : (context : Context) (depth : ℕ) → MoreAgain context depth none
unfolding more_at
more_none context depth zero ts us e le c = rw e refl
more_none context depth (suc fuel) ts us e le c = rw (e, c) refl

also_again : (context : Context) (depth : ℕ) (t : IrType) (fields : IrTypes) → Reads (type_at context depth) t (IsType context t depth) → MoreAgain context depth fields → MoreAgain context depth (also t fields)
unfolding more_at
also_again context depth t fields h k zero ts us (f, b, (c, e, g), r, w) le n =
    let none_left : length (ts ++ us) ≡ suc (length (b ++ us)) = rw (w, g) refl in absurd (omega arith)
also_again context depth t fields h k (suc fuel) ts us (f, b, (c, e, g), (f', b', i, m, w'), w) le n =
    let whole : ts ++ us ≡ c ∷ (f' ++ (b' ++ us)) = rw (w, g, w') (ap (λ r. c ∷ r) (append_assoc f' b' us)) in
    let size : length (ts ++ us) ≡ suc (length f' + length (b' ++ us)) = ap length whole ∙ ap suc (length-append f' (b' ++ us)) in
    rw (whole, e, h f' (b' ++ us) i, k fuel b' us m (omega arith) n) refl

-- fields behind their brace, where a type begins with no closing brace
closed_again : (context : Context) (depth : ℕ) (t : IrType) (fields : IrTypes) → Reads (type_at context depth) t (IsType context t depth) → MoreAgain context depth fields → (ts us : List Tok) → AreTypes context (also t fields) depth ts → has (is_mark CloseBrace) us ≡ true → closed_at CloseBrace (type_at context depth) (ts ++ us) ≡ Ok (list_of_types (also t fields), behind us)
closed_again context depth t fields h k ts us (f, b, i, m, w) c =
    let whole : ts ++ us ≡ f ++ (b ++ us) = rw w (append_assoc f b us) in
    rw (whole, h f (b ++ us) i, k (length (b ++ us)) b us m (omega arith) (other_mark CloseBrace Comma us refl c), c) refl

begins : (context : Context) (t : IrType) (depth : ℕ) (ts us : List Tok) → IsType context t depth ts → has (is_mark CloseBrace) (ts ++ us) ≡ false
begins context (One s) depth ts us (k, e, f) = rw f (flat_opens_nothing context k.kind k.name (One s) e).1
begins context (Named n) depth ts us (k, e, f) = rw f (flat_opens_nothing context k.kind k.name (Named n) e).1
begins context (Array n t) zero ts us e = absurd e
begins context (Array n t) (suc depth) ts us (f, b, (k, e, g), r, w) = other_mark OpenBracket CloseBrace (ts ++ us) refl (rw (w, g) e)
begins context (Struct fields) zero ts us e = absurd e
begins context (Struct fields) (suc depth) ts us (f, b, (k, e, g), r, w) = other_mark OpenBrace CloseBrace (ts ++ us) refl (rw (w, g) e)
begins context (Packed fields) zero ts us e = absurd e
begins context (Packed fields) (suc depth) ts us (f, b, (k, e, g), r, w) = other_mark Less CloseBrace (ts ++ us) refl (rw (w, g) e)

listed_none : (context : Context) (depth : ℕ) → Reads (listed_at CloseBrace (type_at context depth)) [] (AreTypes context none depth then IsMark CloseBrace)
listed_none context depth ts us (f, b, e, (k, c, g), w) = rw (w, e, g, c) refl

listed_some : (context : Context) (depth : ℕ) (t : IrType) (fields : IrTypes) → Reads (type_at context depth) t (IsType context t depth) → MoreAgain context depth fields → Reads (listed_at CloseBrace (type_at context depth)) (list_of_types (also t fields)) (AreTypes context (also t fields) depth then IsMark CloseBrace)
listed_some context depth t fields h k ts us (f, b, (f', b', i, m, w'), (c, e, g), w) =
    let whole : ts ++ us ≡ f ++ (c ∷ us) = rw (w, g) (append_assoc f (c ∷ []) us) in
    let first : f ++ (c ∷ us) ≡ f' ++ (b' ++ (c ∷ us)) = rw w' (append_assoc f' b' (c ∷ us)) in
    let shut : has (is_mark CloseBrace) (f ++ (c ∷ us)) ≡ false = rw first (begins context t depth f' (b' ++ (c ∷ us)) i) in
    rw (whole, shut) (closed_again context depth t fields h k f (c ∷ us) (f', b', i, m, w') e)

mutual
  pub type_again : (context : Context) (t : IrType) (depth : ℕ) → Reads (type_at context depth) t (IsType context t depth)
  type_again context (One s) depth = flat_again context (One s) depth
  type_again context (Named k) depth = flat_again context (Named k) depth
  type_again context (Array n t) zero = λ ts us e. absurd e
  type_again context (Array n t) (suc depth) = λ ts us e.
      let r = behind_reads (is_mark OpenBracket) _ (array_behind (type_at context depth)) (Array n t) ts us e (array_again (type_at context depth) t n (IsType context t depth) (type_again context t depth)) in
      nested context depth (ts ++ us) (opens OpenBracket (ts ++ us) refl r.0) ∙ rw r.0 r.1
  type_again context (Struct fields) zero = λ ts us e. absurd e
  type_again context (Struct fields) (suc depth) = λ ts us e.
      let r = behind_reads (is_mark OpenBrace) _ (struct_behind (type_at context depth)) (Struct fields) ts us e (struct_again (type_at context depth) fields _ (fields_again context fields depth)) in
      nested context depth (ts ++ us) (opens OpenBrace (ts ++ us) refl r.0) ∙ rw (other_mark OpenBrace OpenBracket (ts ++ us) refl r.0, r.0) r.1
  type_again context (Packed fields) zero = λ ts us e. absurd e
  type_again context (Packed fields) (suc depth) = λ ts us e.
      let r = behind_reads (is_mark Less) _ (packed_behind (type_at context depth)) (Packed fields) ts us e (packed_again (type_at context depth) fields _ (fields_again context fields depth)) in
      nested context depth (ts ++ us) (opens Less (ts ++ us) refl r.0) ∙ rw (other_mark Less OpenBracket (ts ++ us) refl r.0, other_mark Less OpenBrace (ts ++ us) refl r.0) r.1

  pub fields_again : (context : Context) (fields : IrTypes) (depth : ℕ) → Lists (listed_at CloseBrace (type_at context depth)) fields (AreTypes context fields depth then IsMark CloseBrace)
  fields_again context none depth = listed_none context depth
  fields_again context (also t fields) depth = listed_some context depth t fields (type_again context t depth) (more_again context fields depth)

  more_again : (context : Context) (fields : IrTypes) (depth : ℕ) → MoreAgain context depth fields
  more_again context none depth = more_none context depth
  more_again context (also t fields) depth = also_again context depth t fields (type_again context t depth) (more_again context fields depth)
