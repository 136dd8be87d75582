-- The names of structs: what a token says of one is said again by what is printed of it.
use Rattle.std.proofs.Common.{◌≡◌, ℕ, ◌+◌, ◌-◌, Bool, true, false, ◌&&◌, List, [], ◌∷◌, ◌++◌, length, take, refl, sym, ap, ◌∙◌, subst, arith, codes}
use Rattle.std.specs.Prelude.{◌==◌, Some, if◌then◌else◌}
use Rattle.std.specs.List.{list_all}
use Rattle.std.proofs.lemmas.Bool.{and_parts, eqb-true}
use Rattle.std.proofs.lemmas.List.{take_at, length-append}
use Rattle.lx_words.specs.declared.token.TokenKind.{TokenKind}
use Rattle.lx_words.specs.declared.token.TokenKind.TheVariants as kinds
use Rattle.lx_words.specs.declared.token.TokenRule.TheVariants as rules
use Rattle.lx_words.specs.declared.token.Lexeme.TheVariants.{Space, Comment, Token}
use Rattle.lx_words.specs.Lexemes.{is_space, is_digit, is_word_start, is_word_byte, is_line_byte, is_interface_mark, is_name_byte, is_quoted_name_byte, is_nil, ends_quoted, ends_name, some_all, is_name, when, lexeme_of, lexeme_behind, other_lexeme}
use Rattle.lx_words.proofs.WholeLexemes.{nil_is, when_is}
use Rattle.lx_annot_read.specs.Said.{all_but_last, unquoted, struct_of}
use Rattle.lx_annot_read.specs.Interfaces.{struct_of_kind}
use Rattle.lx_cproto_print.specs.Printed.{name_text}
use Rattle.lx_annot_laws.specs.Sayable.{IsStructName}

-- Quotes.

no_quote : (p : ℕ → Bool) → p 34 ≡ false → (b : ℕ) (v : Bool) → b == 34 ≡ v → p b ≡ true → v ≡ false
no_quote p bad b false e h = refl
no_quote p bad b true e h = let same : b ≡ 34 = eqb-true b 34 e in let no : p 34 ≡ true = subst (λ c. p c ≡ true) same h in cc

unquoted_by : (v : Bool) (xs ys : List ℕ) → v ≡ false → (if v then xs else ys) ≡ ys
unquoted_by false xs ys e = refl
unquoted_by true xs ys e = cc

all_but_quote : (xs : List ℕ) → all_but_last (xs ++ 34 ∷ []) ≡ xs
all_but_quote xs =
    let n : length (xs ++ 34 ∷ []) ≡ length xs + 1 = length-append xs (34 ∷ []) in
    let e : length (xs ++ 34 ∷ []) - 1 ≡ length xs = omega (arith, n) in
    ap (λ k. take k (xs ++ 34 ∷ [])) e ∙ take_at xs (34 ∷ []) (length xs) refl

-- A name of such bytes alone is printed as it is.

bare : (name : List ℕ) → list_all is_name_byte name ≡ true → name_text name ≡ name
unfolding name_text
bare name h = ap (λ v. if v then name else codes "\"" ++ name ++ codes "\"") h

bare_name : (b : ℕ) (bs : List ℕ) → list_all is_name_byte (b ∷ bs) ≡ true → (is_name (b ∷ bs) ≡ true) × (unquoted (b ∷ bs) ≡ b ∷ bs)
bare_name b bs h =
    let both = and_parts (is_name_byte b) (list_all is_name_byte bs) h in
    let apart : b == 34 ≡ false = no_quote is_name_byte refl b (b == 34) refl both.0 in
    (ap (λ v. if v then ends_name bs else some_all is_name_byte (b ∷ bs)) apart ∙ h, unquoted_by (b == 34) (all_but_last bs) (b ∷ bs) apart)

pub name_of_bytes : (b : ℕ) (bs : List ℕ) → list_all is_name_byte (b ∷ bs) ≡ true → IsStructName (b ∷ bs)
name_of_bytes b bs h =
    let k = bare_name b bs h in
    record { is = ap is_name (bare (b ∷ bs) h) ∙ k.0; said = ap unquoted (bare (b ∷ bs) h) ∙ k.1 }

-- A name of other bytes is printed in quotes.

quoted : (name : List ℕ) → list_all is_name_byte name ≡ false → name_text name ≡ 34 ∷ (name ++ 34 ∷ [])
unfolding name_text
quoted name h = ap (λ v. if v then name else codes "\"" ++ name ++ codes "\"") h

ends : (v w : Bool) (xs : List ℕ) → v ≡ false → w ≡ true → ends_quoted is_quoted_name_byte xs ≡ true → (if v then is_nil xs else w && ends_quoted is_quoted_name_byte xs) ≡ true
ends false true xs e f h = h
ends true w xs e f h = cc
ends false false xs e f h = cc

ends_closed : (xs : List ℕ) → list_all is_quoted_name_byte xs ≡ true → ends_quoted is_quoted_name_byte (xs ++ 34 ∷ []) ≡ true
ends_closed [] h = refl
ends_closed (b ∷ bs) h =
    let both = and_parts (is_quoted_name_byte b) (list_all is_quoted_name_byte bs) h in
    ends (b == 34) (is_quoted_name_byte b) (bs ++ 34 ∷ []) (no_quote is_quoted_name_byte refl b (b == 34) refl both.0) both.0 (ends_closed bs both.1)

quoted_name : (b : ℕ) (bs : List ℕ) → list_all is_quoted_name_byte (b ∷ bs) ≡ true → is_name (34 ∷ (b ∷ bs ++ 34 ∷ [])) ≡ true
quoted_name b bs h =
    let both = and_parts (is_quoted_name_byte b) (list_all is_quoted_name_byte bs) h in
    ap (λ v. v && ends_quoted is_quoted_name_byte (bs ++ 34 ∷ [])) both.0 ∙ ends_closed bs both.1

-- A name of bytes that may stand between quotes.

name_between : (b : ℕ) (bs : List ℕ) (v : Bool) → list_all is_name_byte (b ∷ bs) ≡ v → list_all is_quoted_name_byte (b ∷ bs) ≡ true → IsStructName (b ∷ bs)
name_between b bs true e h = name_of_bytes b bs e
name_between b bs false e h =
    record { is = ap is_name (quoted (b ∷ bs) e) ∙ quoted_name b bs h; said = ap unquoted (quoted (b ∷ bs) e) ∙ all_but_quote (b ∷ bs) }

-- What stands between quotes, of a token.

-- bytes up to a quote that is the last
record Closed (xs : List ℕ) : Type 0 where
  inner : List ℕ
  whole : xs ≡ inner ++ 34 ∷ []
  passes : list_all is_quoted_name_byte inner ≡ true

closed_by : (b : ℕ) (bs : List ℕ) (v : Bool) → b == 34 ≡ v → ((h : ends_quoted is_quoted_name_byte bs ≡ true) → Closed bs) → (if v then is_nil bs else is_quoted_name_byte b && ends_quoted is_quoted_name_byte bs) ≡ true → Closed (b ∷ bs)
closed_by b bs true e more h = record { inner = []; whole = ap (λ c. c ∷ bs) (eqb-true b 34 e) ∙ ap (λ xs. 34 ∷ xs) (nil_is bs h); passes = refl }
closed_by b bs false e more h =
    let both = and_parts (is_quoted_name_byte b) (ends_quoted is_quoted_name_byte bs) h in
    let k = more both.1 in
    record { inner = b ∷ k.inner; whole = ap (λ xs. b ∷ xs) k.whole; passes = ap (λ v. v && list_all is_quoted_name_byte k.inner) both.0 ∙ k.passes }

closed : (xs : List ℕ) → ends_quoted is_quoted_name_byte xs ≡ true → Closed xs
closed [] h = cc
closed (b ∷ bs) h = closed_by b bs (b == 34) refl (closed bs) h

-- what the quotes of a name enclose
enclosed : (xs : List ℕ) → ends_name xs ≡ true → IsStructName (all_but_last xs)
enclosed [] h = cc
enclosed (b ∷ bs) h =
    let both = and_parts (is_quoted_name_byte b) (ends_quoted is_quoted_name_byte bs) h in
    let k = closed bs both.1 in
    let said : all_but_last (b ∷ bs) ≡ b ∷ k.inner = ap (λ xs. all_but_last (b ∷ xs)) k.whole ∙ all_but_quote (b ∷ k.inner) in
    let passes : list_all is_quoted_name_byte (b ∷ k.inner) ≡ true = ap (λ v. v && list_all is_quoted_name_byte k.inner) both.0 ∙ k.passes in
    subst IsStructName (sym said) (name_between b k.inner (list_all is_name_byte (b ∷ k.inner)) refl passes)

struct_by : (v : Bool) (b : ℕ) (bs : List ℕ) → (if v then ends_name bs else some_all is_name_byte (b ∷ bs)) ≡ true → IsStructName (if v then all_but_last bs else b ∷ bs)
struct_by true b bs h = enclosed bs h
struct_by false b bs h = name_of_bytes b bs h

behind_percent : (bs : List ℕ) → is_name bs ≡ true → IsStructName (unquoted bs)
behind_percent [] h = cc
behind_percent (b ∷ bs) h = struct_by (b == 34) b bs h

-- A token that is a name behind `%`.

local_by : (a b c d e t1 t2 t3 t4 t5 t6 : Bool) → (if a then when t1 Space else if b then when t2 Comment else if c then when t3 (Token kinds.Local) else if d then when t4 (Token kinds.Number) else if e then when t5 (Token kinds.Word) else when t6 (Token kinds.Mark)) ≡ Some (Token kinds.Local) → t3 ≡ true
local_by true b c d e t1 t2 t3 t4 t5 t6 h = let k : Space ≡ Token kinds.Local = (when_is t1 Space (Token kinds.Local) h).1 in cc
local_by false true c d e t1 t2 t3 t4 t5 t6 h = let k : Comment ≡ Token kinds.Local = (when_is t2 Comment (Token kinds.Local) h).1 in cc
local_by false false true d e t1 t2 t3 t4 t5 t6 h = (when_is t3 (Token kinds.Local) (Token kinds.Local) h).0
local_by false false false true e t1 t2 t3 t4 t5 t6 h = let k : Token kinds.Number ≡ Token kinds.Local = (when_is t4 (Token kinds.Number) (Token kinds.Local) h).1 in cc
local_by false false false false true t1 t2 t3 t4 t5 t6 h = let k : Token kinds.Word ≡ Token kinds.Local = (when_is t5 (Token kinds.Word) (Token kinds.Local) h).1 in cc
local_by false false false false false t1 t2 t3 t4 t5 t6 h = let k : Token kinds.Mark ≡ Token kinds.Local = (when_is t6 (Token kinds.Mark) (Token kinds.Local) h).1 in cc

is_local : (b : ℕ) (bs : List ℕ) → lexeme_of rules.Interface (b ∷ bs) ≡ Some (Token kinds.Local) → is_name bs ≡ true
unfolding lexeme_behind other_lexeme
is_local b bs h = local_by (is_space b) (b == 35) (b == 37) (is_digit b) (is_word_start b) (is_nil bs) (list_all is_line_byte bs) (is_name bs) (list_all is_digit bs) (list_all is_word_byte bs) (is_interface_mark b bs) h

local_named : (bytes : List ℕ) → lexeme_of rules.Interface bytes ≡ Some (Token kinds.Local) → IsStructName (struct_of bytes)
local_named [] h = cc
local_named (b ∷ bs) h = behind_percent bs (is_local b bs h)

-- the name that a token says
pub struct_named : (kind : TokenKind) (bytes name : List ℕ) → struct_of_kind kind bytes ≡ Some name → lexeme_of rules.Interface bytes ≡ Some (Token kind) → IsStructName name
struct_named kinds.Local bytes name h is = let same : struct_of bytes ≡ name = cc in subst IsStructName same (local_named bytes is)
struct_named kinds.Word bytes name h is = cc
struct_named kinds.Global bytes name h is = cc
struct_named kinds.Number bytes name h is = cc
struct_named kinds.Text bytes name h is = cc
struct_named kinds.Bytes bytes name h is = cc
struct_named kinds.Mark bytes name h is = cc
