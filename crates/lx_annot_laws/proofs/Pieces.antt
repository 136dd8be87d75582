-- Texts that say parts of the grammar, side by side.
use Rattle.std.proofs.Common.{◌≡◌, ℕ, List, [], ◌∷◌, ◌++◌, Bool, true, false, not, ◌||◌, refl, sym, ap, ◌∙◌, subst, true≢false, Some, append_assoc, codes}
use Rattle.std.specs.Prelude.{◌==◌}
use Rattle.std.proofs.lemmas.Bool.{and_parts, or_from, eqb-true, or_left}
use Rattle.std.proofs.lemmas.List.{append-nil}
use Rattle.std.proofs.lemmas.Slice.Eq.{bytes_eq-Decides}
use Rattle.lx_words.specs.declared.token.TokenRule.TheVariants as rules
use Rattle.lx_words.specs.declared.token.TokenKind.{TokenKind}
use Rattle.lx_words.specs.declared.token.TokenKind.TheVariants as kinds
use Rattle.lx_words.specs.declared.token.Lexeme.TheVariants.{Space, Token}
use Rattle.lx_words.specs.Lexemes.{lexeme_of, lexeme_behind, other_lexeme}
use Rattle.lx_words.specs.Cuts.{Piece}
use Rattle.lx_annot.specs.Canonical.{call_text}
use Rattle.lx_annot_expressions.specs.Tokens.{Tok}
use Rattle.lx_annot_expressions.specs.Reading.{has}
use Rattle.lx_annot_expressions.specs.Grammar.{Part, Is, IsNothing, ◌then◌}
use Rattle.lx_annot_laws.specs.Says.{ends_word, ends_mark, is_apart, is_opening, is_second_byte, is_closed_mark, ends_before, text_of, AreLaid, tok, tok_in, toks, Says, IsWord}

-- Lists.

-- texts in a row, grouped from the right, and from the left
abbrev pub from_right : List ℕ → List (List ℕ) → List ℕ
from_right x [] = x
from_right x (y ∷ ys) = x ++ from_right y ys

abbrev pub from_left : List ℕ → List (List ℕ) → List ℕ
from_left x [] = x
from_left x (y ∷ ys) = from_left (x ++ y) ys

from_right_joined : (x y : List ℕ) (ys : List (List ℕ)) → from_right (x ++ y) ys ≡ x ++ from_right y ys
from_right_joined x y [] = refl
from_right_joined x y (z ∷ zs) = append_assoc x y (from_right z zs)

pub regroup : (x : List ℕ) (ys : List (List ℕ)) → from_right x ys ≡ from_left x ys
regroup x [] = refl
regroup x (y ∷ ys) = sym (from_right_joined x y ys) ∙ regroup (x ++ y) ys

-- Pieces.

pub texts_joined : (ps qs : List Piece) → text_of (ps ++ qs) ≡ text_of ps ++ text_of qs
texts_joined [] qs = refl
texts_joined (p ∷ ps) qs = ap (λ t. p.bytes ++ t) (texts_joined ps qs) ∙ sym (append_assoc p.bytes (text_of ps) (text_of qs))

pub toks_joined : (ps qs : List Piece) → toks (ps ++ qs) ≡ toks ps ++ toks qs
toks_joined [] qs = refl
toks_joined (p ∷ ps) qs = ap (λ t. tok_in p.lexeme p.bytes ++ t) (toks_joined ps qs) ∙ sym (append_assoc (tok_in p.lexeme p.bytes) (toks ps) (toks qs))

pub laid_joined : (ps qs : List Piece) (rest : List ℕ) → AreLaid ps (text_of qs ++ rest) → AreLaid qs rest → AreLaid (ps ++ qs) rest
laid_joined [] qs rest h k = k
laid_joined (p ∷ ps) qs rest h k =
    let same : text_of (ps ++ qs) ++ rest ≡ text_of ps ++ (text_of qs ++ rest) = ap (λ t. t ++ rest) (texts_joined ps qs) ∙ append_assoc (text_of ps) (text_of qs) rest in
    (h.0, ap (ends_before p.lexeme p.bytes) same ∙ h.1, laid_joined ps qs rest h.2 k)

apart_joined : (u rest : List ℕ) → is_apart u ≡ true → is_apart rest ≡ true → is_apart (u ++ rest) ≡ true
apart_joined [] rest h k = k
apart_joined (b ∷ u) rest h k = h

-- what lengthens nothing ends each token
ends_each : (kind : TokenKind) (bytes rest : List ℕ) → is_apart rest ≡ true → ends_before (Token kind) bytes rest ≡ true
ends_each kinds.Mark bytes rest h = or_right (is_closed_mark bytes) (ends_mark rest) (and_parts (ends_word rest) (ends_mark rest) h).1
  where
    or_right : (v w : Bool) → w ≡ true → (v || w) ≡ true
    or_right true w e = refl
    or_right false w e = e
ends_each kinds.Word bytes rest h = (and_parts (ends_word rest) (ends_mark rest) h).0
ends_each kinds.Local bytes rest h = (and_parts (ends_word rest) (ends_mark rest) h).0
ends_each kinds.Global bytes rest h = (and_parts (ends_word rest) (ends_mark rest) h).0
ends_each kinds.Number bytes rest h = (and_parts (ends_word rest) (ends_mark rest) h).0
ends_each kinds.Text bytes rest h = (and_parts (ends_word rest) (ends_mark rest) h).0
ends_each kinds.Bytes bytes rest h = (and_parts (ends_word rest) (ends_mark rest) h).0

-- Texts.

-- one text, and behind it one that does not lengthen it
pub beside : {t u : List ℕ} {p q : Part} → Says t p → is_apart u ≡ true → Says u q → Says (t ++ u) (p then q)
beside {t} {u} {p} {q} a apart b = record {
  pieces = a.pieces ++ b.pieces;
  whole = texts_joined a.pieces b.pieces ∙ ap (λ v. v ++ text_of b.pieces) a.whole ∙ ap (λ v. t ++ v) b.whole;
  laid = λ rest h. laid_joined a.pieces b.pieces rest (a.laid (text_of b.pieces ++ rest) (ap (λ v. is_apart (v ++ rest)) b.whole ∙ apart_joined u rest apart h)) (b.laid rest h);
  is = (toks a.pieces, toks b.pieces, a.is, b.is, toks_joined a.pieces b.pieces);
}

-- the same text
pub same_text : {t u : List ℕ} {p : Part} → t ≡ u → Says t p → Says u p
same_text {p = p} e a = subst (λ v. Says v p) e a

-- another reading of the same tokens
pub reads_as : {t : List ℕ} {p q : Part} → ((ts : List Tok) → p ts → q ts) → Says t p → Says t q
reads_as f a = record { pieces = a.pieces; whole = a.whole; laid = a.laid; is = f (toks a.pieces) a.is }

-- no text
pub nothing : Says [] IsNothing
nothing = record { pieces = []; whole = refl; laid = λ rest h. tt; is = refl }

-- one token
pub token : {p : Part} (kind : TokenKind) (bytes : List ℕ) → lexeme_of rules.Interface bytes ≡ Some (Token kind) → p (tok kind bytes ∷ []) → Says bytes p
token kind bytes e h = record {
  pieces = record { lexeme = Token kind; bytes = bytes } ∷ [];
  whole = append-nil bytes;
  laid = λ rest k. (e, ends_each kind bytes rest k, tt);
  is = h;
}

-- one word
pub word_token : {bytes : List ℕ} {p : Part} → IsWord bytes → p (tok kinds.Word bytes ∷ []) → Says bytes p
word_token {bytes = bytes} e h = token kinds.Word bytes e h

-- the bytes of a token are its own
pub has_own : (kind : TokenKind) (bytes : List ℕ) → has bytes (tok kind bytes ∷ []) ≡ true
has_own kind bytes = (bytes_eq-Decides bytes bytes).1 refl

pub one_token : (kind : TokenKind) (bytes : List ℕ) → Is bytes (tok kind bytes ∷ [])
one_token kind bytes = (tok kind bytes, has_own kind bytes, refl)

-- one word that is the grammar's
pub word_is : {bytes : List ℕ} → IsWord bytes → Says bytes (Is bytes)
word_is {bytes = bytes} e = word_token e (one_token kinds.Word bytes)

-- Spaces and marks.

a_space : lexeme_of rules.Interface (32 ∷ []) ≡ Some Space
unfolding lexeme_behind
a_space = refl

-- a space before a text
pub space : {t : List ℕ} {p : Part} → Says t p → Says (codes " " ++ t) p
space a = record {
  pieces = record { lexeme = Space; bytes = 32 ∷ [] } ∷ a.pieces;
  whole = ap (λ v. 32 ∷ v) a.whole;
  laid = λ rest h. (a_space, refl, a.laid rest h);
  is = a.is;
}

-- a mark before a text that does not lengthen it
pub marked : {t : List ℕ} {p q : Part} (bytes : List ℕ) → lexeme_of rules.Interface bytes ≡ Some (Token kinds.Mark) → ((rest : List ℕ) → is_apart rest ≡ true → ends_before (Token kinds.Mark) bytes (t ++ rest) ≡ true) → q (tok kinds.Mark bytes ∷ []) → Says t p → Says (bytes ++ t) (q then p)
marked {t} {p} {q} bytes e ends h a = record {
  pieces = record { lexeme = Token kinds.Mark; bytes = bytes } ∷ a.pieces;
  whole = ap (λ v. bytes ++ v) a.whole;
  laid = λ rest k. (e, ap (λ v. ends_before (Token kinds.Mark) bytes (v ++ rest)) a.whole ∙ ends rest k, a.laid rest k);
  is = (tok kinds.Mark bytes ∷ [], toks a.pieces, h, a.is, refl);
}

-- a mark that nothing lengthens, before a text
pub closed : {t : List ℕ} {p : Part} (bytes : List ℕ) → lexeme_of rules.Interface bytes ≡ Some (Token kinds.Mark) → is_closed_mark bytes ≡ true → Says t p → Says (bytes ++ t) (Is bytes then p)
closed {t} {p} bytes e shut a = marked bytes e (λ rest k. or_left (is_closed_mark bytes) (ends_mark (t ++ rest)) shut) (one_token kinds.Mark bytes) a

pub a_comma : lexeme_of rules.Interface (codes ",") ≡ Some (Token kinds.Mark)
unfolding lexeme_behind other_lexeme
a_comma = refl

pub a_semicolon : lexeme_of rules.Interface (codes ";") ≡ Some (Token kinds.Mark)
unfolding lexeme_behind other_lexeme
a_semicolon = refl

pub an_open : lexeme_of rules.Interface (codes "(") ≡ Some (Token kinds.Mark)
unfolding lexeme_behind other_lexeme
an_open = refl

pub a_close : lexeme_of rules.Interface (codes ")") ≡ Some (Token kinds.Mark)
unfolding lexeme_behind other_lexeme
a_close = refl

pub mark_is : {bytes : List ℕ} → lexeme_of rules.Interface bytes ≡ Some (Token kinds.Mark) → Says bytes (Is bytes)
mark_is {bytes = bytes} e = token kinds.Mark bytes e (one_token kinds.Mark bytes)

-- two texts with a space between them
pub spaced : {t u : List ℕ} {p q : Part} → Says t p → Says u q → Says (t ++ codes " " ++ u) (p then q)
spaced {t} {u} a b = same_text (regroup t (codes " " ∷ u ∷ [])) (beside a refl (space b))

-- three texts with spaces between them
pub joined : {t u v : List ℕ} {p q r : Part} → Says t p → Says u q → Says v r → Says (t ++ codes " " ++ u ++ codes " " ++ v) (p then q then r)
joined {t} {u} {v} a b c = same_text (regroup t (codes " " ∷ u ∷ codes " " ∷ v ∷ [])) (beside a refl (space (beside b refl (space c))))

-- `A, B`
pub comma : {t u : List ℕ} {p q : Part} → Says t p → Says u q → Says (t ++ codes ", " ++ u) (p then Is (codes ",") then q)
comma {t} {u} a b = same_text (regroup t (codes ", " ∷ u ∷ [])) (beside a refl (closed (codes ",") a_comma refl (space b)))

-- `(A)`
pub bracketed : {t : List ℕ} {p : Part} → Says t p → Says (codes "(" ++ t ++ codes ")") (Is (codes "(") then p then Is (codes ")"))
bracketed a = closed (codes "(") an_open refl (beside a refl (mark_is a_close))

-- `W(A)`
pub called_by : {w t : List ℕ} {p q : Part} → Says w p → Says t q → Says (call_text w t) (p then Is (codes "(") then q then Is (codes ")"))
called_by {w} {t} a b = same_text (regroup w (codes "(" ∷ t ∷ codes ")" ∷ [])) (beside a refl (bracketed b))

pub called : {w t : List ℕ} {q : Part} → IsWord w → Says t q → Says (call_text w t) (Is w then Is (codes "(") then q then Is (codes ")"))
called e a = called_by (word_is e) a

-- Expressions' first bytes.

-- such a byte is none that makes a mark longer
other_byte : (b c : ℕ) (v : Bool) → (b == c) ≡ v → is_opening (b ∷ []) ≡ true → is_opening (c ∷ []) ≡ false → v ≡ false
other_byte b c true e h k = absurd (true≢false (sym h ∙ ap (λ x. is_opening (x ∷ [])) (eqb-true b c e) ∙ k))
other_byte b c false e h k = refl

not_second : (b : ℕ) → is_opening (b ∷ []) ≡ true → is_second_byte b ≡ false
not_second b h =
    or_from _ (b == 124)
    (or_from _ (b == 38) (or_from _ (b == 62) (or_from (b == 61) (b == 60) (other_byte b 61 (b == 61) refl h refl) (other_byte b 60 (b == 60) refl h refl)) (other_byte b 62 (b == 62) refl h refl)) (other_byte b 38 (b == 38) refl h refl))
    (other_byte b 124 (b == 124) refl h refl)

pub opening_ends : (t rest : List ℕ) → is_opening t ≡ true → ends_mark (t ++ rest) ≡ true
opening_ends [] rest h = cc h
opening_ends (b ∷ t) rest h = ap not (not_second b h)

-- a mark before the text of an expression
pub prefixed : {t : List ℕ} {p q : Part} (bytes : List ℕ) → lexeme_of rules.Interface bytes ≡ Some (Token kinds.Mark) → q (tok kinds.Mark bytes ∷ []) → is_opening t ≡ true → Says t p → Says (bytes ++ t) (q then p)
prefixed {t} bytes e h opens a = marked bytes e (λ rest k. or_right (is_closed_mark bytes) (ends_mark (t ++ rest)) (opening_ends t rest opens)) h a
  where
    or_right : (v w : Bool) → w ≡ true → (v || w) ≡ true
    or_right true w e = refl
    or_right false w e = e
