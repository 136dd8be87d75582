-- The word `getelementptr`, and what stands behind it: an address behind a name, or what begins no constant expression.
use Rattle.std.proofs.Common.{◌≡◌, ◌⊎◌, inl, inr, ℕ, zero, suc, List, [], ◌∷◌, ◌++◌, length, Bool, true, false, refl, sym, ap, ◌∙◌, subst, Option, Some, None, Result, Ok, Err}
use Rattle.std.specs.Prelude.{codes, ℤ}
use Rattle.std.specs.List.{AllZip, list_all}
use Rattle.std.proofs.lemmas.Bool.{and_from}
use Rattle.lx_words.specs.declared.token.TokenRule.TheVariants.{Ir}
use Rattle.lx_words.specs.declared.token.TokenKind.TheVariants as tokens
use Rattle.lx_words.specs.declared.token.Lexeme.TheVariants.{Space, Token}
use Rattle.lx_words.specs.declared.word.Width.TheVariants.{W8, W64}
use Rattle.lx_words.specs.Lexemes.{lexeme_of, lexeme_behind}
use Rattle.lx_words.specs.Word.{Word}
use Rattle.lx_ir.specs.declared.types.Scalar.TheVariants.{Int}
use Rattle.lx_ir.specs.declared.module.Symbol.{Symbol}
use Rattle.lx_ir.specs.declared.module.Pointer.{Pointer}
use Rattle.lx_ir.specs.IrType.{IrType, One, Array, Struct, Packed, Named}
use Rattle.lx_ir_offsets.specs.Shapes.{Shape, left_behind}
use Rattle.lx_ir_tokens.specs.declared.token.Tok.{Tok}
use Rattle.lx_ir_tokens.specs.declared.token.Kind.{Kind}
use Rattle.lx_ir_tokens.specs.declared.token.Kind.TheVariants as kind
use Rattle.lx_ir_tokens.specs.declared.token.Mark.{Mark}
use Rattle.lx_ir_tokens.specs.declared.token.Mark.TheVariants.{Comma, OpenParenthesis, CloseParenthesis, OpenBrace, OpenBracket, Less}
use Rattle.lx_ir_tokens.specs.declared.keyword.InstructionWord.TheVariants.{GetElementPtr}
use Rattle.lx_ir_tokens.specs.declared.keyword.ScalarWord.TheVariants as words
use Rattle.lx_ir_tokens.specs.declared.keyword.Keyword.TheVariants as keyword
use Rattle.lx_ir_tokens.specs.Keywords.{keyword_of}
use Rattle.lx_ir_tokens.specs.Said.{kind_of}
use Rattle.lx_ir_terms.specs.declared.fault.Fault.{Fault}
use Rattle.lx_ir_terms.specs.declared.fault.FaultKind.{FaultKind}
use Rattle.lx_ir_terms.specs.declared.fault.FaultKind.TheVariants.{OutOfProfile, Unknown}
use Rattle.lx_ir_terms.specs.Context.{Context, symbol_of}
use Rattle.lx_ir_terms.specs.Grammar.{Part, IsType, ◌then◌}
use Rattle.lx_ir_terms.specs.Reading.{Read, ◌>>=◌, at, picked, is_mark, mark_at, more_at}
use Rattle.lx_ir_terms.specs.Types.{flat_of, type_at, written_type_at, within_at, unless_outside, depth_limit}
use Rattle.lx_ir_terms.proofs.Marks.{mark_is}
use Rattle.lx_ir_constants.specs.declared.element.Element.{Element}
use Rattle.lx_ir_constants.specs.Constants.{is_flag_word, is_element_word, is_pointer_word, form_type_at, flat_pointer_of, flat_pointer_at, pointer_at, number_in, index_at, element_behind}
use Rattle.lx_ir_constants.specs.Misplaced.{goes_astray}
use Rattle.lx_ir_complete.specs.Pieces.{Lex, lex, lexes}
use Rattle.lx_ir_complete.specs.Printed.{IsSeen, is_loud, IsForeign, AreCalm, Prints}
use Rattle.lx_ir_complete.proofs.Joining.{a_space, second_false}

-- what stands behind the word goes nowhere astray
abbrev pub StaysBehind : List Tok → Type 0
StaysBehind ts = (context : Context) → goes_astray context (element_behind context (pointer_at context depth_limit) ts) ≡ false

-- The word.

abbrev the_word : Kind
the_word = kind.Word (keyword.Instruction GetElementPtr)

lexeme_is : lexeme_of Ir (codes "getelementptr") ≡ Some (Token tokens.Word)
unfolding lexeme_behind
lexeme_is = refl

kind_is : kind_of tokens.Word (codes "getelementptr") ≡ the_word
unfolding keyword_of
kind_is = refl

loud_is : is_loud (lex tokens.Word (codes "getelementptr")) ≡ true
unfolding keyword_of
loud_is = refl

word_said : (names : List (List ℕ)) (ls : List Lex) (p q : Part) → ((tok : Tok) → tok.kind ≡ the_word → p (tok ∷ [])) → ((toks : List Tok) → AllZip (IsSeen names) ls toks → q toks)
    → (toks : List Tok) → AllZip (IsSeen names) (lex tokens.Word (codes "getelementptr") ∷ ls) toks → (p then q) toks
word_said names ls p q f g [] h = absurd h
word_said names ls p q f g (tok ∷ toks) h = (tok ∷ [], toks, f tok (h.0.kind ∙ kind_is), g toks h.1, refl)

word_calm : (plain : Bool) (names : List (List ℕ)) (ls : List Lex) → ((toks more : List Tok) → AllZip (IsSeen names) ls toks → StaysBehind (toks ++ more)) → ((toks more : List Tok) → AllZip (IsSeen names) ls toks → AreCalm plain names more → AreCalm plain names (toks ++ more))
    → (toks more : List Tok) → AllZip (IsSeen names) (lex tokens.Word (codes "getelementptr") ∷ ls) toks → AreCalm plain names more → AreCalm plain names (toks ++ more)
word_calm plain names ls stays calm [] more h c = absurd h
word_calm plain names ls stays calm (tok ∷ toks) more h c = (
  record {
    foreign = λ p. subst (λ k. IsForeign names k tok.name) (sym (h.0.kind ∙ kind_is)) tt;
    placed = λ context. second_false (is_element_word tok.kind) (goes_astray context (element_behind context (pointer_at context depth_limit) (toks ++ more))) (stays toks more h.1 context);
  },
  calm toks more h.1 c,
)

-- The word before a text behind it.
pub element : {plain : Bool} {names : List (List ℕ)} {t : List ℕ} {p q : Part} → ((tok : Tok) → tok.kind ≡ the_word → p (tok ∷ [])) → (a : Prints plain names t q) → ((toks more : List Tok) → AllZip (IsSeen names) (lexes a.pieces) toks → StaysBehind (toks ++ more))
    → Prints plain names (codes "getelementptr" ++ 32 ∷ t) (p then q)
element {plain} {names} {t} {p} {q} f a stays = record {
  pieces = record { lexeme = Token tokens.Word; bytes = codes "getelementptr" } ∷ record { lexeme = Space; bytes = 32 ∷ [] } ∷ a.pieces;
  whole = ap (λ v. codes "getelementptr" ++ 32 ∷ v) a.whole;
  laid = λ rest h. (lexeme_is, refl, (a_space, refl, a.laid rest h));
  one_line = a.one_line;
  loud = and_from (is_loud (lex tokens.Word (codes "getelementptr"))) (list_all is_loud (lexes a.pieces)) loud_is a.loud;
  says = word_said names (lexes a.pieces) p q f a.says;
  calm = word_calm plain names (lexes a.pieces) stays a.calm;
}

-- What begins no constant expression.

pub shut : (t : Tok) (us : List Tok) → is_flag_word t.kind ≡ false → is_mark OpenParenthesis t.kind ≡ false → StaysBehind (t ∷ us)
shut t us h k context = rw (h, k) refl

flat_no_flag : (context : Context) (k : Kind) (name : ℕ) (t : IrType) → flat_of context k name ≡ Some t → is_flag_word k ≡ false
flat_no_flag context (kind.Word (keyword.Scalar w)) name t e = refl
flat_no_flag context kind.Local name t e = refl
flat_no_flag context k name t e = cc

flat_no_mark : (context : Context) (k : Kind) (name : ℕ) (t : IrType) → flat_of context k name ≡ Some t → is_mark OpenParenthesis k ≡ false
flat_no_mark context (kind.Word (keyword.Scalar w)) name t e = refl
flat_no_mark context kind.Local name t e = refl
flat_no_mark context k name t e = cc

flat_shut : (context : Context) (t : IrType) (tok : Tok) (ts us : List Tok) → flat_of context tok.kind tok.name ≡ Some t → ts ≡ tok ∷ [] → StaysBehind (ts ++ us)
flat_shut context t tok ts us e w = subst (λ vs. StaysBehind (vs ++ us)) (sym w) (shut tok us (flat_no_flag context tok.kind tok.name t e) (flat_no_mark context tok.kind tok.name t e))

mark_shut : (m : Mark) (tok : Tok) (ts front back us : List Tok) → is_mark OpenParenthesis (kind.Mark m) ≡ false → is_mark m tok.kind ≡ true → front ≡ tok ∷ [] → ts ≡ front ++ back → StaysBehind (ts ++ us)
mark_shut m tok ts front back us o e g w =
    subst (λ vs. StaysBehind (vs ++ us)) (sym (w ∙ ap (λ v. v ++ back) g))
    (shut tok (back ++ us) (ap is_flag_word (mark_is m tok.kind e)) (ap (is_mark OpenParenthesis) (mark_is m tok.kind e) ∙ o))

-- a type begins no constant expression
pub type_shut : (context : Context) (t : IrType) (depth : ℕ) (ts us : List Tok) → IsType context t depth ts → StaysBehind (ts ++ us)
type_shut context (One s) depth ts us i = flat_shut context (One s) i.0 ts us i.1 i.2
type_shut context (Named n) depth ts us i = flat_shut context (Named n) i.0 ts us i.1 i.2
type_shut context (Array n t) zero ts us i = absurd i
type_shut context (Array n t) (suc depth) ts us i = mark_shut OpenBracket i.2.0 ts i.0 i.1 us refl i.2.1 i.2.2 i.4
type_shut context (Struct fs) zero ts us i = absurd i
type_shut context (Struct fs) (suc depth) ts us i = mark_shut OpenBrace i.2.0 ts i.0 i.1 us refl i.2.1 i.2.2 i.4
type_shut context (Packed fs) zero ts us i = absurd i
type_shut context (Packed fs) (suc depth) ts us i = mark_shut Less i.2.0 ts i.0 i.1 us refl i.2.1 i.2.2 i.4

-- An address behind a name.

-- tokens of these kinds, with these names
abbrev pub named : List Kind → (ℕ → ℕ) → List Tok
named [] names = []
named (k ∷ ks) names = record { kind = k; name = names 0 } ∷ named ks (λ i. names (suc i))

abbrev before : ℕ → (ℕ → ℕ) → ℕ → ℕ
before n names zero = n
before n names (suc i) = names i

-- tokens of these kinds
abbrev pub AreNamed : List Kind → List Tok → Type 0
AreNamed ks ts = (names : ℕ → ℕ) × (ts ≡ named ks names)

pub one_named : (k : Kind) (t : Tok) (ts : List Tok) → t.kind ≡ k → ts ≡ t ∷ [] → AreNamed (k ∷ []) ts
one_named k t ts e w = (λ i. t.name, w ∙ ap (λ q. record { kind = q; name = t.name } ∷ []) e)

pub then_named : (ks : List Kind) (k : Kind) (t : Tok) (ts front back : List Tok) → t.kind ≡ k → front ≡ t ∷ [] → ts ≡ front ++ back → AreNamed ks back → AreNamed (k ∷ ks) ts
then_named ks k t ts front back e f w rest = (before t.name rest.0, w ∙ ap (λ v. v ++ back) f ∙ ap (λ q. record { kind = q; name = t.name } ∷ back) e ∙ ap (λ (us : List Tok). record { kind = k; name = t.name } ∷ us) rest.1)

abbrev pub index_kinds : Kind → List Kind
index_kinds number = kind.Word (keyword.Scalar (words.Int W64)) ∷ number ∷ kind.Mark CloseParenthesis ∷ []

-- `(i8, ptr @name, i64 number)`
abbrev pub element_kinds : Kind → List Kind
element_kinds number =
    kind.Mark OpenParenthesis ∷ kind.Word (keyword.Scalar (words.Int W8)) ∷ kind.Mark Comma ∷ kind.Word (keyword.Scalar words.Ptr) ∷ kind.Global ∷ kind.Mark Comma ∷ index_kinds number

-- a reading that leaves these tokens, or fails
abbrev Leaves : {A : Type 0} → Read A → List Tok → Type 0
Leaves {A} r ts = ((x : A) × (r ≡ Ok (x, ts))) ⊎ ((f : Fault) × (r ≡ Err f))

stays_then : {A : Type 0} (context : Context) (r : Read A) (ts : List Tok) (k : A × List Tok → Read Element) → Leaves r ts → ((x : A) → goes_astray context (k (x, ts)) ≡ false) → goes_astray context (r >>= k) ≡ false
stays_then context r ts k (inl (x, e)) h = ap (λ q. goes_astray context (q >>= k)) e ∙ h x
stays_then context r ts k (inr (f, e)) h = ap (λ q. goes_astray context (q >>= k)) e

-- the type
type_flat : (context : Context) (depth : ℕ) (n : ℕ) (ts : List Tok) → type_at context depth (record { kind = kind.Word (keyword.Scalar (words.Int W8)); name = n } ∷ ts) ≡ Ok (One (Int W8), ts)
unfolding type_at
type_flat context zero n ts = refl
type_flat context (suc depth) n ts = refl

abbrev behind_flat : Context → ℕ → IrType × List Tok → Read IrType
behind_flat context left t = within_at context.limits left t.0 t.1 >>= λ w. Ok (t.0, w.1)

abbrev then_type : Read (Unit {0}) → Read IrType
then_type r = r >>= λ w. Ok (One (Int W8), w.1)

outside_leaves : (r : Result ℕ ℕ) (ts : List Tok) → Leaves (then_type (unless_outside r ts)) ts
outside_leaves (Ok b) ts = inl (One (Int W8), refl)
outside_leaves (Err l) ts = inr (record { kind = OutOfProfile; left = l }, refl)

limits_leave : (limits : Option (List Shape)) (left : ℕ) (ts : List Tok) → Leaves (then_type (within_at limits left (One (Int W8)) ts)) ts
limits_leave None left ts = inl (One (Int W8), refl)
limits_leave (Some shapes) left ts = outside_leaves (left_behind shapes (One (Int W8)) left) ts

type_leaves : (context : Context) (n : ℕ) (ts : List Tok) → Leaves (written_type_at context (record { kind = kind.Word (keyword.Scalar (words.Int W8)); name = n } ∷ ts)) ts
type_leaves context n ts =
    subst (λ (r : Read IrType). Leaves r ts)
    (sym (ap (λ (r : Read IrType). r >>= behind_flat context (suc (length ts))) (type_flat context depth_limit n ts)))
    (limits_leave context.limits (suc (length ts)) ts)

-- the name
picked_leaves : {A : Type 0} (o : Option A) (how : FaultKind) (t : Tok) (ts : List Tok) → Leaves (picked o how (t ∷ ts)) ts
picked_leaves (Some x) how t ts = inl (x, refl)
picked_leaves None how t ts = inr (at how (t ∷ ts), refl)

pointer_flat : (context : Context) (depth : ℕ) (n : ℕ) (ts : List Tok) → pointer_at context depth (record { kind = kind.Global; name = n } ∷ ts) ≡ flat_pointer_at context (record { kind = kind.Global; name = n } ∷ ts)
unfolding pointer_at
pointer_flat context zero n ts = refl
pointer_flat context (suc depth) n ts = refl

pointer_leaves : (context : Context) (n : ℕ) (ts : List Tok) → Leaves (pointer_at context depth_limit (record { kind = kind.Global; name = n } ∷ ts)) ts
pointer_leaves context n ts =
    subst (λ (r : Read Pointer). Leaves r ts) (sym (pointer_flat context depth_limit n ts)) (picked_leaves (flat_pointer_of context kind.Global n) Unknown (record { kind = kind.Global; name = n }) ts)

-- the index, and the parenthesis behind it
abbrev further_indices : Word × List Tok → Read (List Word)
further_indices x = more_at index_at (length x.1) x.1 >>= λ xs. Ok (x.0 ∷ xs.0, xs.1)

abbrev closing : Read Word → Read (List Word)
closing r = (r >>= further_indices) >>= λ xs. mark_at CloseParenthesis xs.1 >>= λ c. Ok (xs.0, c.1)

-- one index, and these tokens behind it; or a failure
abbrev OneIndex : Read (List Word) → List Tok → Type 0
OneIndex r ts = ((w : Word) × (r ≡ Ok (w ∷ [], ts))) ⊎ ((f : Fault) × (r ≡ Err f))

index_closes : (o : Option Word) (t : Tok) (n : ℕ) (more : List Tok) → OneIndex (closing (picked o OutOfProfile (t ∷ record { kind = kind.Mark CloseParenthesis; name = n } ∷ more))) more
unfolding more_at
index_closes (Some w) t n more = inl (w, refl)
index_closes None t n more = inr (at OutOfProfile (t ∷ record { kind = kind.Mark CloseParenthesis; name = n } ∷ more), refl)

-- the element that is made of what was read
abbrev made_of : IrType → Pointer → List Word × List Tok → Read Element
made_of ty base is = Ok (record { ty = ty; base = base; indices = is.0 }, is.1)

index_stays : (context : Context) (ty : IrType) (base : Pointer) (r : Read (List Word)) (ts : List Tok) → OneIndex r ts → goes_astray context (r >>= made_of ty base) ≡ false
index_stays context ty base r ts (inl (w, e)) = ap (λ q. goes_astray context (q >>= made_of ty base)) e
index_stays context ty base r ts (inr (f, e)) = ap (λ q. goes_astray context (q >>= made_of ty base)) e

abbrev behind_base : IrType → Pointer × List Tok → Read Element
behind_base ty base = mark_at Comma base.1 >>= λ d. (closing (index_at d.1) >>= made_of ty base.0)

abbrev behind_type : Context → IrType × List Tok → Read Element
behind_type context t =
    mark_at Comma t.1 >>= λ c. form_type_at is_pointer_word c.1 >>= λ p. (pointer_at context depth_limit p.1 >>= behind_base t.0)

kinds_stay : (v : Option ℤ) (minus : Bool) (names : ℕ → ℕ) (more : List Tok) → StaysBehind (named (element_kinds (kind.Number v minus)) names ++ more)
kinds_stay v minus names more context =
    let close : Tok = record { kind = kind.Mark CloseParenthesis; name = names 8 } in
    let number : Tok = record { kind = kind.Number v minus; name = names 7 } in
    let behind_name : List Tok = record { kind = kind.Mark Comma; name = names 5 } ∷ named (index_kinds (kind.Number v minus)) (λ i. names (suc (suc (suc (suc (suc (suc i))))))) ++ more in
    let behind_i8 : List Tok = record { kind = kind.Mark Comma; name = names 2 } ∷ record { kind = kind.Word (keyword.Scalar words.Ptr); name = names 3 } ∷ record { kind = kind.Global; name = names 4 } ∷ behind_name in
    stays_then context (written_type_at context (record { kind = kind.Word (keyword.Scalar (words.Int W8)); name = names 1 } ∷ behind_i8)) behind_i8 (behind_type context) (type_leaves context (names 1) behind_i8)
    (λ ty. stays_then context (pointer_at context depth_limit (record { kind = kind.Global; name = names 4 } ∷ behind_name)) behind_name (behind_base ty) (pointer_leaves context (names 4) behind_name)
    (λ base. index_stays context ty base (closing (picked (number_in W64 (kind.Number v minus)) OutOfProfile (number ∷ close ∷ more))) more (index_closes (number_in W64 (kind.Number v minus)) number (names 8) more)))

-- an address behind a name goes nowhere astray
pub element_stays : (v : Option ℤ) (minus : Bool) (toks more : List Tok) → AreNamed (element_kinds (kind.Number v minus)) toks → StaysBehind (toks ++ more)
element_stays v minus toks more seen = subst (λ ts. StaysBehind (ts ++ more)) (sym seen.1) (kinds_stay v minus seen.0 more)
