-- Printed texts side by side.
use Rattle.std.proofs.Common.{◌≡◌, ℕ, List, [], ◌∷◌, ◌++◌, Bool, true, false, not, refl, sym, ap, ◌∙◌, subst, true≢false, Option, Some, append_assoc}
use Rattle.std.specs.Prelude.{if◌then◌else◌}
use Rattle.std.specs.List.{AllZip, list_all}
use Rattle.std.proofs.lemmas.Bool.{and_from, or_right}
use Rattle.std.proofs.lemmas.List.{append-nil}
use Rattle.lx_words.specs.declared.token.TokenRule.TheVariants.{Ir}
use Rattle.lx_words.specs.declared.token.TokenKind.{TokenKind}
use Rattle.lx_words.specs.declared.token.TokenKind.TheVariants as kinds
use Rattle.lx_words.specs.declared.token.Lexeme.TheVariants.{Space, Token}
use Rattle.lx_words.specs.Lexemes.{lexeme_of, lexeme_behind, other_lexeme, is_line_byte}
use Rattle.lx_words.specs.Cuts.{Piece}
use Rattle.lx_words.proofs.Lists.{all_joined}
use Rattle.lx_ir_tokens.specs.declared.token.Tok.{Tok}
use Rattle.lx_ir_tokens.specs.declared.token.Kind.{Kind}
use Rattle.lx_ir_tokens.specs.declared.token.Kind.TheVariants as kind
use Rattle.lx_ir_tokens.specs.declared.token.Mark.{Mark}
use Rattle.lx_ir_tokens.specs.declared.token.Mark.TheVariants as mark
use Rattle.lx_ir_tokens.specs.Keywords.{keyword_of}
use Rattle.lx_ir_tokens.specs.declared.keyword.Keyword.{Keyword}
use Rattle.lx_ir_tokens.specs.Said.{kind_of}
use Rattle.lx_ir_terms.specs.Reading.{is_mark}
use Rattle.lx_ir_terms.specs.Grammar.{Part, Picks, Is, IsMark, IsNothing, ◌then◌}
use Rattle.lx_ir_constants.specs.Constants.{is_element_word, element_behind, pointer_at}
use Rattle.lx_ir_constants.specs.Misplaced.{goes_astray}
use Rattle.lx_ir_terms.specs.Types.{depth_limit}
use Rattle.lx_ir_complete.specs.Pieces.{is_apart, is_closed, ends_before, text_of, AreLaid, Lex, lex, lex_of, lexes, mark_byte, is_printed}
use Rattle.lx_ir_complete.specs.Printed.{IsSeen, is_loud, IsForeign, IsCalm, AreCalm, Prints}

-- Lists.

-- texts in a row, grouped from the right, and from the left
abbrev pub from_right : List ℕ → List (List ℕ) → List ℕ
from_right x [] = x
from_right x (y ∷ ys) = x ++ from_right y ys

abbrev pub from_left : List ℕ → List (List ℕ) → List ℕ
from_left x [] = x
from_left x (y ∷ ys) = from_left (x ++ y) ys

from_right_joined : (x y : List ℕ) (ys : List (List ℕ)) → from_right (x ++ y) ys ≡ x ++ from_right y ys
from_right_joined x y [] = refl
from_right_joined x y (z ∷ zs) = append_assoc x y (from_right z zs)

pub regroup : (x : List ℕ) (ys : List (List ℕ)) → from_right x ys ≡ from_left x ys
regroup x [] = refl
regroup x (y ∷ ys) = sym (from_right_joined x y ys) ∙ regroup (x ++ y) ys

-- a list beside two others
pub record Split {A B : Type 0} (R : A → B → Type 0) (xs ys : List A) (zs : List B) : Type 0 where
  pub front : List B
  pub back : List B
  pub first : AllZip R xs front
  pub second : AllZip R ys back
  pub whole : zs ≡ front ++ back

pub split : {A B : Type 0} (R : A → B → Type 0) (xs ys : List A) (zs : List B) → AllZip R (xs ++ ys) zs → Split R xs ys zs
split R [] ys zs h = record { front = []; back = zs; first = tt; second = h; whole = refl }
split R (x ∷ xs) ys [] h = absurd h
split R (x ∷ xs) ys (z ∷ zs) h =
    let s = split R xs ys zs h.1 in
    record { front = z ∷ s.front; back = s.back; first = (h.0, s.first); second = s.second; whole = ap (λ ws. z ∷ ws) s.whole }

-- Pieces.

pub texts_joined : (ps qs : List Piece) → text_of (ps ++ qs) ≡ text_of ps ++ text_of qs
texts_joined [] qs = refl
texts_joined (p ∷ ps) qs = ap (λ t. p.bytes ++ t) (texts_joined ps qs) ∙ sym (append_assoc p.bytes (text_of ps) (text_of qs))

pub lexes_joined : (ps qs : List Piece) → lexes (ps ++ qs) ≡ lexes ps ++ lexes qs
lexes_joined [] qs = refl
lexes_joined (p ∷ ps) qs = ap (λ t. lex_of p.lexeme p.bytes ++ t) (lexes_joined ps qs) ∙ sym (append_assoc (lex_of p.lexeme p.bytes) (lexes ps) (lexes qs))

pub laid_joined : (ps qs : List Piece) (rest : List ℕ) → AreLaid ps (text_of qs ++ rest) → AreLaid qs rest → AreLaid (ps ++ qs) rest
laid_joined [] qs rest h k = k
laid_joined (p ∷ ps) qs rest h k =
    let same : text_of (ps ++ qs) ++ rest ≡ text_of ps ++ (text_of qs ++ rest) = ap (λ t. t ++ rest) (texts_joined ps qs) ∙ append_assoc (text_of ps) (text_of qs) rest in
    (h.0, ap (ends_before p.lexeme) same ∙ h.1, laid_joined ps qs rest h.2 k)

apart_joined : (u rest : List ℕ) → is_apart u ≡ true → is_apart rest ≡ true → is_apart (u ++ rest) ≡ true
apart_joined [] rest h k = k
apart_joined (b ∷ u) rest h k = h

-- Tokens of one byte.

pub a_space : lexeme_of Ir (32 ∷ []) ≡ Some Space
unfolding lexeme_behind
a_space = refl

a_mark : (m : Mark) → lexeme_of Ir (mark_byte m ∷ []) ≡ Some (Token kinds.Mark)
unfolding lexeme_behind other_lexeme
a_mark mark.Equal = refl
a_mark mark.Comma = refl
a_mark mark.OpenParenthesis = refl
a_mark mark.CloseParenthesis = refl
a_mark mark.OpenBrace = refl
a_mark mark.CloseBrace = refl
a_mark mark.OpenBracket = refl
a_mark mark.CloseBracket = refl
a_mark mark.Less = refl
a_mark mark.Greater = refl
a_mark mark.Hash = refl
a_mark mark.Exclamation = refl
a_mark mark.Colon = refl

pub a_mark_is_apart : (m : Mark) → is_apart (mark_byte m ∷ []) ≡ true
a_mark_is_apart mark.Equal = refl
a_mark_is_apart mark.Comma = refl
a_mark_is_apart mark.OpenParenthesis = refl
a_mark_is_apart mark.CloseParenthesis = refl
a_mark_is_apart mark.OpenBrace = refl
a_mark_is_apart mark.CloseBrace = refl
a_mark_is_apart mark.OpenBracket = refl
a_mark_is_apart mark.CloseBracket = refl
a_mark_is_apart mark.Less = refl
a_mark_is_apart mark.Greater = refl
a_mark_is_apart mark.Hash = refl
a_mark_is_apart mark.Exclamation = refl
a_mark_is_apart mark.Colon = refl

mark_in_line : (m : Mark) (t : List ℕ) → list_all is_line_byte t ≡ true → list_all is_line_byte (mark_byte m ∷ t) ≡ true
mark_in_line mark.Equal t h = h
mark_in_line mark.Comma t h = h
mark_in_line mark.OpenParenthesis t h = h
mark_in_line mark.CloseParenthesis t h = h
mark_in_line mark.OpenBrace t h = h
mark_in_line mark.CloseBrace t h = h
mark_in_line mark.OpenBracket t h = h
mark_in_line mark.CloseBracket t h = h
mark_in_line mark.Less t h = h
mark_in_line mark.Greater t h = h
mark_in_line mark.Hash t h = h
mark_in_line mark.Exclamation t h = h
mark_in_line mark.Colon t h = h

mark_is_loud : (m : Mark) → is_printed m ≡ true → is_loud (lex kinds.Mark (mark_byte m ∷ [])) ≡ true
mark_is_loud mark.Equal h = refl
mark_is_loud mark.Comma h = refl
mark_is_loud mark.OpenParenthesis h = refl
mark_is_loud mark.CloseParenthesis h = refl
mark_is_loud mark.OpenBrace h = refl
mark_is_loud mark.CloseBrace h = refl
mark_is_loud mark.OpenBracket h = refl
mark_is_loud mark.CloseBracket h = refl
mark_is_loud mark.Less h = refl
mark_is_loud mark.Greater h = refl
mark_is_loud mark.Hash h = refl
mark_is_loud mark.Exclamation h = cc h
mark_is_loud mark.Colon h = refl

says_mark : (m : Mark) → is_mark m (kind_of kinds.Mark (mark_byte m ∷ [])) ≡ true
says_mark mark.Equal = refl
says_mark mark.Comma = refl
says_mark mark.OpenParenthesis = refl
says_mark mark.CloseParenthesis = refl
says_mark mark.OpenBrace = refl
says_mark mark.CloseBrace = refl
says_mark mark.OpenBracket = refl
says_mark mark.CloseBracket = refl
says_mark mark.Less = refl
says_mark mark.Greater = refl
says_mark mark.Hash = refl
says_mark mark.Exclamation = refl
says_mark mark.Colon = refl

-- Calm tokens.

-- a token of this kind is neither a name behind `@` nor the word `getelementptr`
abbrev pub is_calm_kind : Kind → Bool
is_calm_kind kind.Global = false
is_calm_kind k = not (is_element_word k)

kind_is_foreign : (names : List (List ℕ)) (k : Kind) (name : ℕ) → is_calm_kind k ≡ true → IsForeign names k name
kind_is_foreign names kind.Global name h = absurd (true≢false (sym h))
kind_is_foreign names (kind.Word w) name h = tt
kind_is_foreign names kind.Local name h = tt
kind_is_foreign names (kind.Number v minus) name h = tt
kind_is_foreign names kind.Text name h = tt
kind_is_foreign names kind.Bytes name h = tt
kind_is_foreign names (kind.Mark m) name h = tt

no_element : (k : Kind) → is_calm_kind k ≡ true → is_element_word k ≡ false
no_element kind.Global h = refl
no_element (kind.Word w) h = no_word (is_element_word (kind.Word w)) h
  where
    no_word : (v : Bool) → not v ≡ true → v ≡ false
    no_word true e = cc e
    no_word false e = refl
no_element kind.Local h = refl
no_element (kind.Number v minus) h = refl
no_element kind.Text h = refl
no_element kind.Bytes h = refl
no_element (kind.Mark m) h = refl

pub first_false : (v x : Bool) → v ≡ false → (if v then x else false) ≡ false
first_false true x e = cc e
first_false false x e = refl

pub second_false : (v x : Bool) → x ≡ false → (if v then x else false) ≡ false
second_false true x e = e
second_false false x e = refl

pub calm_kind : (plain : Bool) (names : List (List ℕ)) (k : Kind) (t : Tok) (ts : List Tok) → t.kind ≡ k → is_calm_kind k ≡ true → IsCalm plain names t ts
calm_kind plain names k t ts e h = record {
  foreign = λ p. subst (λ q. IsForeign names q t.name) (sym e) (kind_is_foreign names k t.name h);
  placed = λ context. first_false (is_element_word t.kind) (goes_astray context (element_behind context (pointer_at context depth_limit) ts)) (ap is_element_word e ∙ no_element k h);
}

module _ (plain : Bool) (names : List (List ℕ)) where
  pub nothing_calm : (toks more : List Tok) → AllZip (IsSeen names) [] toks → AreCalm plain names more → AreCalm plain names (toks ++ more)
  nothing_calm [] more h c = c
  nothing_calm (t ∷ ts) more h c = absurd h

  first_calm : (l : Lex) (ls : List Lex) → ((tok : Tok) (more : List Tok) → IsSeen names l tok → IsCalm plain names tok more) → ((toks more : List Tok) → AllZip (IsSeen names) ls toks → AreCalm plain names more → AreCalm plain names (toks ++ more))
      → (toks more : List Tok) → AllZip (IsSeen names) (l ∷ ls) toks → AreCalm plain names more → AreCalm plain names (toks ++ more)
  first_calm l ls f g [] more h c = absurd h
  first_calm l ls f g (tok ∷ toks) more h c = (f tok (toks ++ more) h.0, g toks more h.1 c)

module _ (names : List (List ℕ)) where
  nothing_said : (toks : List Tok) → AllZip (IsSeen names) [] toks → toks ≡ []
  nothing_said [] h = refl
  nothing_said (t ∷ ts) h = absurd h

  mark_said : (m : Mark) (ls : List Lex) (q : Part) → ((toks : List Tok) → AllZip (IsSeen names) ls toks → q toks) → (toks : List Tok) → AllZip (IsSeen names) (lex kinds.Mark (mark_byte m ∷ []) ∷ ls) toks → (IsMark m then q) toks
  mark_said m ls q f [] h = absurd h
  mark_said m ls q f (tok ∷ toks) h = (tok ∷ [], toks, (tok, ap (is_mark m) h.0.kind ∙ says_mark m, refl), f toks h.1, refl)

  token_said : (k : TokenKind) (bytes : List ℕ) (p : Part) → ((tok : Tok) → IsSeen names (lex k bytes) tok → p (tok ∷ [])) → (toks : List Tok) → AllZip (IsSeen names) (lex k bytes ∷ []) toks → p toks
  token_said k bytes p f [] h = absurd h
  token_said k bytes p f (tok ∷ []) h = f tok h.0
  token_said k bytes p f (tok ∷ tok2 ∷ toks) h = absurd h.1

module _ {plain : Bool} {names : List (List ℕ)} where
  -- Texts.

  -- one text, and behind it one that does not lengthen it
  pub beside : {t u : List ℕ} {p q : Part} → Prints plain names t p → is_apart u ≡ true → Prints plain names u q → Prints plain names (t ++ u) (p then q)
  beside {t} {u} {p} {q} a apart b = record {
    pieces = a.pieces ++ b.pieces;
    whole = texts_joined a.pieces b.pieces ∙ ap (λ v. v ++ text_of b.pieces) a.whole ∙ ap (λ v. t ++ v) b.whole;
    laid = λ rest h. laid_joined a.pieces b.pieces rest (a.laid (text_of b.pieces ++ rest) (ap (λ v. is_apart (v ++ rest)) b.whole ∙ apart_joined u rest apart h)) (b.laid rest h);
    one_line = all_joined is_line_byte t u a.one_line b.one_line;
    loud = ap (list_all is_loud) (lexes_joined a.pieces b.pieces) ∙ all_joined is_loud (lexes a.pieces) (lexes b.pieces) a.loud b.loud;
    says = λ toks h.
        let s = split (IsSeen names) (lexes a.pieces) (lexes b.pieces) toks (subst (λ ls. AllZip (IsSeen names) ls toks) (lexes_joined a.pieces b.pieces) h) in
        (s.front, s.back, a.says s.front s.first, b.says s.back s.second, s.whole);
    calm = λ toks more h c.
        let s = split (IsSeen names) (lexes a.pieces) (lexes b.pieces) toks (subst (λ ls. AllZip (IsSeen names) ls toks) (lexes_joined a.pieces b.pieces) h) in
        subst (AreCalm plain names) (sym (ap (λ ts. ts ++ more) s.whole ∙ append_assoc s.front s.back more)) (a.calm s.front (s.back ++ more) s.first (b.calm s.back more s.second c));
  }

  -- the same text, and another reading of the same tokens
  pub same_text : {t u : List ℕ} {p : Part} → t ≡ u → Prints plain names t p → Prints plain names u p
  same_text {p = p} e a = subst (λ v. Prints plain names v p) e a

  pub reads_as : {t : List ℕ} {p q : Part} → ((ts : List Tok) → p ts → q ts) → Prints plain names t p → Prints plain names t q
  reads_as f a = record { pieces = a.pieces; whole = a.whole; laid = a.laid; one_line = a.one_line; loud = a.loud; says = λ toks h. f toks (a.says toks h); calm = a.calm }

  -- no text
  pub nothing : Prints plain names [] IsNothing
  nothing = record { pieces = []; whole = refl; laid = λ rest h. tt; one_line = refl; loud = refl; says = nothing_said names; calm = nothing_calm plain names }

  -- Spaces and marks.

  pub space : {t : List ℕ} {p : Part} → Prints plain names t p → Prints plain names (32 ∷ t) p
  space a = record {
    pieces = record { lexeme = Space; bytes = 32 ∷ [] } ∷ a.pieces;
    whole = ap (λ v. 32 ∷ v) a.whole;
    laid = λ rest h. (a_space, refl, a.laid rest h);
    one_line = a.one_line;
    loud = a.loud;
    says = a.says;
    calm = a.calm;
  }

  -- a mark before a text
  pub marked : {t : List ℕ} {p : Part} (m : Mark) → is_printed m ≡ true → Prints plain names t p → Prints plain names (mark_byte m ∷ t) (IsMark m then p)
  marked {t} {p} m printed a = record {
    pieces = record { lexeme = Token kinds.Mark; bytes = mark_byte m ∷ [] } ∷ a.pieces;
    whole = ap (λ v. mark_byte m ∷ v) a.whole;
    laid = λ rest h. (a_mark m, refl, a.laid rest h);
    one_line = mark_in_line m t a.one_line;
    loud = and_from (is_loud (lex kinds.Mark (mark_byte m ∷ []))) (list_all is_loud (lexes a.pieces)) (mark_is_loud m printed) a.loud;
    says = mark_said names m (lexes a.pieces) p a.says;
    calm = first_calm plain names (lex kinds.Mark (mark_byte m ∷ [])) (lexes a.pieces) (λ tok more seen. calm_kind plain names (kind_of kinds.Mark (mark_byte m ∷ [])) tok more seen.kind refl) a.calm;
  }

  -- a mark alone
  pub last_mark : (m : Mark) → is_printed m ≡ true → Prints plain names (mark_byte m ∷ []) (IsMark m)
  last_mark m printed = reads_as {p = IsMark m then IsNothing} alone (marked m printed nothing)
    where
      alone : (ts : List Tok) → (IsMark m then IsNothing) ts → IsMark m ts
      alone ts h = subst (IsMark m) (sym (append-nil h.0) ∙ sym (h.4 ∙ ap (λ b. h.0 ++ b) h.3)) h.2

  -- Tokens.

  -- one token, which is calm
  pub calm_token : {p : Part} (k : TokenKind) (bytes : List ℕ) → lexeme_of Ir bytes ≡ Some (Token k) → list_all is_line_byte bytes ≡ true → is_loud (lex k bytes) ≡ true → ((tok : Tok) (more : List Tok) → IsSeen names (lex k bytes) tok → IsCalm plain names tok more)
      → ((tok : Tok) → IsSeen names (lex k bytes) tok → p (tok ∷ [])) → Prints plain names bytes p
  calm_token {p} k bytes e line loud calm f = record {
    pieces = record { lexeme = Token k; bytes = bytes } ∷ [];
    whole = append-nil bytes;
    laid = λ rest h. (e, or_right (is_closed (Token k)) (is_apart rest) h, tt);
    one_line = line;
    loud = and_from (is_loud (lex k bytes)) true loud refl;
    says = token_said names k bytes p f;
    calm = first_calm plain names (lex k bytes) [] calm (nothing_calm plain names);
  }

  -- one token of a kind that is calm
  pub token : {p : Part} (k : TokenKind) (bytes : List ℕ) → lexeme_of Ir bytes ≡ Some (Token k) → list_all is_line_byte bytes ≡ true → is_loud (lex k bytes) ≡ true → is_calm_kind (kind_of k bytes) ≡ true
      → ((tok : Tok) → IsSeen names (lex k bytes) tok → p (tok ∷ [])) → Prints plain names bytes p
  token k bytes e line loud calm f = calm_token k bytes e line loud (λ tok more seen. calm_kind plain names (kind_of k bytes) tok more seen.kind calm) f

-- a word that is this keyword, and not `getelementptr`
pub record IsWord (bytes : List ℕ) (w : Keyword) : Type 0 where
  pub word : lexeme_of Ir bytes ≡ Some (Token kinds.Word)
  pub one_line : list_all is_line_byte bytes ≡ true
  pub keyword : keyword_of bytes ≡ w
  pub loud : is_loud (lex kinds.Word bytes) ≡ true
  pub calm : is_calm_kind (kind.Word w) ≡ true

module _ {plain : Bool} {names : List (List ℕ)} where
  -- Words.

  -- one word
  pub word_token : {bytes : List ℕ} {w : Keyword} {p : Part} → IsWord bytes w → ((tok : Tok) → tok.kind ≡ kind.Word w → p (tok ∷ [])) → Prints plain names bytes p
  word_token {bytes = bytes} is f = token kinds.Word bytes is.word is.one_line is.loud (ap (λ v. is_calm_kind (kind.Word v)) is.keyword ∙ is.calm) (λ tok seen. f tok (seen.kind ∙ ap kind.Word is.keyword))

  pub word_is : {bytes : List ℕ} {w : Keyword} (p : Kind → Bool) → IsWord bytes w → p (kind.Word w) ≡ true → Prints plain names bytes (Is p)
  word_is p is e = word_token is (λ tok k. (tok, ap p k ∙ e, refl))

  pub word_picks : {A : Type 0} {bytes : List ℕ} {w : Keyword} (f : Kind → Option A) (x : A) → IsWord bytes w → f (kind.Word w) ≡ Some x → Prints plain names bytes (Picks (λ t. f t.kind) x)
  word_picks f x is e = word_token is (λ tok k. (tok, ap f k ∙ e, refl))

  -- a word before a space
  pub word : {bytes t : List ℕ} {w : Keyword} {q : Part} (p : Kind → Bool) → IsWord bytes w → p (kind.Word w) ≡ true → Prints plain names t q → Prints plain names (bytes ++ 32 ∷ t) (Is p then q)
  word p is e a = beside (word_is p is e) refl (space a)

  pub picks : {A : Type 0} {bytes t : List ℕ} {w : Keyword} {q : Part} (f : Kind → Option A) (x : A) → IsWord bytes w → f (kind.Word w) ≡ Some x → Prints plain names t q → Prints plain names (bytes ++ 32 ∷ t) (Picks (λ t. f t.kind) x then q)
  picks f x is e a = beside (word_picks f x is e) refl (space a)
