-- What the printed marks and names of expressions are as tokens.
use Rattle.std.proofs.Common.{◌≡◌, ◌∙◌, ℕ, ◌<◌, Bool, true, false, cond, Option, Some, None, List, [], ◌∷◌, bytes_eq, if◌then◌else◌, codes, refl, sym, ap, subst, arith}
use Rattle.std.specs.Prelude.{◌||◌, ◌==◌}
use Rattle.std.specs.Map.{lookup}
use Rattle.std.proofs.lemmas.Bool.{or_from, eqb-true, false_from_ne_true, or_left, or_right}
use Rattle.std.proofs.lemmas.Slice.Eq.{bytes_eq-Decides}
use Rattle.lx_words.specs.declared.token.TokenRule.TheVariants as rules
use Rattle.lx_words.specs.declared.token.TokenKind.{TokenKind}
use Rattle.lx_words.specs.declared.token.TokenKind.TheVariants as kinds
use Rattle.lx_words.specs.declared.token.Lexeme.{Lexeme}
use Rattle.lx_words.specs.declared.token.Lexeme.TheVariants.{Space, Comment, Token}
use Rattle.lx_words.specs.Lexemes.{is_space, is_comment_mark, is_digit, is_line_byte, is_word_byte, is_word_start, is_name, is_nil, is_interface_mark, when, lexeme_of, lexeme_behind, other_lexeme}
use Rattle.std.specs.List.{list_all}
use Rattle.lx_annot.specs.declared.expr.Mark.{Mark}
use Rattle.lx_annot.specs.declared.expr.Mark.TheVariants as mark
use Rattle.lx_annot.specs.Canonical.{mark_text}
use Rattle.lx_annot_expressions.specs.Tokens.{Tok}
use Rattle.lx_annot_expressions.specs.Reading.{has}
use Rattle.lx_annot_expressions.specs.Operators.{operators, operator_of, if_of_level, operator_next, prefix_next, levels}
use Rattle.lx_annot_expressions.specs.Grammar.{is_sign}
use Rattle.lx_annot_laws.specs.Says.{is_opening, tok, IsWord}

-- Operators.

pub mark_lexed : (m : Mark) → lexeme_of rules.Interface (mark_text m) ≡ Some (Token kinds.Mark)
unfolding lexeme_behind other_lexeme
mark_lexed mark.Negate = refl
mark_lexed mark.Invert = refl
mark_lexed mark.Add = refl
mark_lexed mark.Sub = refl
mark_lexed mark.Mul = refl
mark_lexed mark.And = refl
mark_lexed mark.Or = refl
mark_lexed mark.Xor = refl
mark_lexed mark.ShiftLeft = refl
mark_lexed mark.ShiftRight = refl
mark_lexed mark.Equal = refl
mark_lexed mark.Differs = refl
mark_lexed mark.Less = refl
mark_lexed mark.AtMost = refl
mark_lexed mark.Greater = refl
mark_lexed mark.AtLeast = refl
mark_lexed mark.Both = refl
mark_lexed mark.Either = refl

-- each value of a table
EachValue : {K V : Type 0} → (V → Type 0) → List (K × V) → Type 0
EachValue P [] = Unit {0}
EachValue P (e ∷ es) = P e.1 × EachValue P es

found_by : {V : Type 0} (P : V → Type 0) (b : Bool) (v w : V) (rest : Option V) → P v → (rest ≡ Some w → P w) → cond b (Some v) rest ≡ Some w → P w
found_by P true v w rest is more h = let same : v ≡ w = cc in subst P same is
found_by P false v w rest is more h = more h

found_has : {K V : Type 0} (P : V → Type 0) (p : K → Bool) (es : List (K × V)) → EachValue P es → (w : V) → lookup p es ≡ Some w → P w
unfolding EachValue
found_has P p [] all w h = cc
found_has P p (e ∷ es) all w h = found_by P (p e.0) e.1 w (lookup p es) all.0 (found_has P p es all.1 w) h

-- the text of an operator is its own, and its level is one of those of expressions
abbrev pub IsSpelled : ℕ × Mark → Type 0
IsSpelled o = (operator_of (mark_text o.1) ≡ Some o) × (o.0 < levels)

each_spelled : EachValue IsSpelled operators
unfolding EachValue operator_of
each_spelled =
    ((refl, omega arith), ((refl, omega arith), ((refl, omega arith), ((refl, omega arith), ((refl, omega arith), ((refl, omega arith), ((refl, omega arith), ((refl, omega arith), ((refl, omega arith), ((refl, omega arith), ((refl, omega arith), ((refl, omega arith), ((refl, omega arith), ((refl, omega arith), ((refl, omega arith), ((refl, omega arith), tt))))))))))))))))

spelled : (bytes : List ℕ) (o : ℕ × Mark) → operator_of bytes ≡ Some o → IsSpelled o
unfolding operator_of
spelled bytes o h = found_has IsSpelled (bytes_eq bytes) operators each_spelled o h

-- the operator of a level, whose text is one again
abbrev pub IsOperatorText : ℕ → Mark → Type 0
IsOperatorText k m = (operator_next k (tok kinds.Mark (mark_text m) ∷ []) ≡ Some m) × (k < levels)

level_by : (k : ℕ) (o : ℕ × Mark) (b : Bool) (m : Mark) → IsSpelled o → (o.0 == k) ≡ b → (if b then Some o.1 else None) ≡ Some m → IsOperatorText k m
level_by k o true m is same h =
    let level : o.0 ≡ k = eqb-true o.0 k same in
    let one : o.1 ≡ m = cc in
    let again : operator_next k (tok kinds.Mark (mark_text o.1) ∷ []) ≡ Some m = ap (if_of_level k) is.0 ∙ ap (λ v. if v then Some o.1 else None) same ∙ h in
    (ap (λ n. operator_next k (tok kinds.Mark (mark_text n) ∷ [])) (sym one) ∙ again, subst (λ n. n < levels) level is.1)
level_by k o false m is same h = cc

operator_by : (k : ℕ) (o : Option (ℕ × Mark)) (m : Mark) → ((x : ℕ × Mark) → o ≡ Some x → IsSpelled x) → if_of_level k o ≡ Some m → IsOperatorText k m
operator_by k None m all h = cc
operator_by k (Some o) m all h = level_by k o (o.0 == k) m (all o refl) refl h

-- an operator's printed mark is the operator
pub operator_again : (k : ℕ) (t : Tok) (m : Mark) → operator_next k (t ∷ []) ≡ Some m → IsOperatorText k m
operator_again k t m h = operator_by k (operator_of t.bytes) m (spelled t.bytes) h

prefix_by : (a b : Bool) (m : Mark) → (if a then Some mark.Negate else if b then Some mark.Invert else None) ≡ Some m → prefix_next (tok kinds.Mark (mark_text m) ∷ []) ≡ Some m
prefix_by true b m h = let one : mark.Negate ≡ m = cc in subst (λ n. prefix_next (tok kinds.Mark (mark_text n) ∷ []) ≡ Some n) one refl
prefix_by false true m h = let one : mark.Invert ≡ m = cc in subst (λ n. prefix_next (tok kinds.Mark (mark_text n) ∷ []) ≡ Some n) one refl
prefix_by false false m h = cc

pub prefix_again : (t : Tok) (m : Mark) → prefix_next (t ∷ []) ≡ Some m → prefix_next (tok kinds.Mark (mark_text m) ∷ []) ≡ Some m
prefix_again t m h = prefix_by (has (codes "-") (t ∷ [])) (has (codes "!") (t ∷ [])) m h

-- Words and numbers.

pub when_is : (b : Bool) (l k : Lexeme) → when b l ≡ Some k → l ≡ k
when_is true l k h = cc
when_is false l k h = cc

word_by : (a b c d e s t u v w x : Bool) → (if a then when s Space else if b then when t Comment else if c then when u (Token kinds.Local) else if d then when v (Token kinds.Number) else if e then when w (Token kinds.Word) else when x (Token kinds.Mark)) ≡ Some (Token kinds.Word) → e ≡ true
word_by true b c d e s t u v w x h = let k : Space ≡ Token kinds.Word = when_is s Space (Token kinds.Word) h in cc
word_by false true c d e s t u v w x h = let k : Comment ≡ Token kinds.Word = when_is t Comment (Token kinds.Word) h in cc
word_by false false true d e s t u v w x h = let k : Token kinds.Local ≡ Token kinds.Word = when_is u (Token kinds.Local) (Token kinds.Word) h in cc
word_by false false false true e s t u v w x h = let k : Token kinds.Number ≡ Token kinds.Word = when_is v (Token kinds.Number) (Token kinds.Word) h in cc
word_by false false false false true s t u v w x h = refl
word_by false false false false false s t u v w x h = let k : Token kinds.Mark ≡ Token kinds.Word = when_is x (Token kinds.Mark) (Token kinds.Word) h in cc

number_by : (a b c d e s t u v w x : Bool) → (if a then when s Space else if b then when t Comment else if c then when u (Token kinds.Local) else if d then when v (Token kinds.Number) else if e then when w (Token kinds.Word) else when x (Token kinds.Mark)) ≡ Some (Token kinds.Number) → d ≡ true
number_by true b c d e s t u v w x h = let k : Space ≡ Token kinds.Number = when_is s Space (Token kinds.Number) h in cc
number_by false true c d e s t u v w x h = let k : Comment ≡ Token kinds.Number = when_is t Comment (Token kinds.Number) h in cc
number_by false false true d e s t u v w x h = let k : Token kinds.Local ≡ Token kinds.Number = when_is u (Token kinds.Local) (Token kinds.Number) h in cc
number_by false false false true e s t u v w x h = refl
number_by false false false false true s t u v w x h = let k : Token kinds.Word ≡ Token kinds.Number = when_is w (Token kinds.Word) (Token kinds.Number) h in cc
number_by false false false false false s t u v w x h = let k : Token kinds.Mark ≡ Token kinds.Number = when_is x (Token kinds.Mark) (Token kinds.Number) h in cc

opens_by : (v w d : Bool) → (w || d) ≡ true → (v || (w || d)) ≡ true
opens_by true w d h = refl
opens_by false w d h = h

-- a word begins with a byte of words
pub word_opens : (bytes : List ℕ) → IsWord bytes → is_opening bytes ≡ true
unfolding lexeme_behind other_lexeme
word_opens [] h = cc
word_opens (b ∷ bs) h =
    opens_by (b == 40) (is_word_start b) (is_digit b)
    (or_left (is_word_start b) (is_digit b)
    (word_by (is_space b) (is_comment_mark rules.Interface b) (b == 37) (is_digit b) (is_word_start b) (is_nil bs) (list_all is_line_byte bs) (is_name bs) (list_all is_digit bs) (list_all is_word_byte bs) (is_interface_mark b bs) h))

-- so does a number
pub number_opens : (bytes : List ℕ) → lexeme_of rules.Interface bytes ≡ Some (Token kinds.Number) → is_opening bytes ≡ true
unfolding lexeme_behind other_lexeme
number_opens [] h = cc
number_opens (b ∷ bs) h =
    opens_by (b == 40) (is_word_start b) (is_digit b)
    (or_right (is_word_start b) (is_digit b)
    (number_by (is_space b) (is_comment_mark rules.Interface b) (b == 37) (is_digit b) (is_word_start b) (is_nil bs) (list_all is_line_byte bs) (is_name bs) (list_all is_digit bs) (list_all is_word_byte bs) (is_interface_mark b bs) h))

-- bytes that are a token of one kind are no token of another
pub differs : (bytes text : List ℕ) (k l : TokenKind) → lexeme_of rules.Interface bytes ≡ Some (Token k) → lexeme_of rules.Interface text ≡ Some (Token l) → (k ≡ l → ⊥) → bytes_eq bytes text ≡ false
differs bytes text k l h g apart =
    false_from_ne_true (bytes_eq bytes text) (λ e.
    let same : Some (Token k) ≡ Some (Token l) = sym h ∙ ap (lexeme_of rules.Interface) ((bytes_eq-Decides bytes text).0 e) ∙ g in
    let kinds_same : k ≡ l = cc in
    apart kinds_same)

a_minus : lexeme_of rules.Interface (codes "-") ≡ Some (Token kinds.Mark)
unfolding lexeme_behind other_lexeme
a_minus = refl

a_not : lexeme_of rules.Interface (codes "!") ≡ Some (Token kinds.Mark)
unfolding lexeme_behind other_lexeme
a_not = refl

a_bracket : lexeme_of rules.Interface (codes "(") ≡ Some (Token kinds.Mark)
unfolding lexeme_behind other_lexeme
a_bracket = refl

-- only a mark is a sign
pub no_sign : (k : TokenKind) (bytes : List ℕ) → lexeme_of rules.Interface bytes ≡ Some (Token k) → (k ≡ kinds.Mark → ⊥) → is_sign (tok k bytes) ≡ false
no_sign k bytes h apart =
    or_from (has (codes "-") (tok k bytes ∷ []) || has (codes "!") (tok k bytes ∷ [])) (has (codes "(") (tok k bytes ∷ []))
    (or_from (has (codes "-") (tok k bytes ∷ [])) (has (codes "!") (tok k bytes ∷ [])) (differs bytes (codes "-") k kinds.Mark h a_minus apart) (differs bytes (codes "!") k kinds.Mark h a_not apart))
    (differs bytes (codes "(") k kinds.Mark h a_bracket apart)

pub word_no_mark : kinds.Word ≡ kinds.Mark → ⊥
word_no_mark e = cc

pub number_no_mark : kinds.Number ≡ kinds.Mark → ⊥
number_no_mark e = cc
