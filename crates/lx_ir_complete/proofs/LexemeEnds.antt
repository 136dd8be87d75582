-- A lexeme ends where a text begins that does not lengthen it.
use Rattle.std.proofs.Common.{◌≡◌, ℕ, zero, suc, List, [], ◌∷◌, ◌++◌, Bool, true, false, not, ◌&&◌, refl, sym, ap, ◌∙◌, Some, None}
use Rattle.std.specs.Prelude.{◌==◌, if◌then◌else◌}
use Rattle.std.specs.List.{list_all}
use Rattle.std.proofs.lemmas.Bool.{and_parts, eqb-true, and_right, or_parts, not-true}
use Rattle.lx_words.specs.declared.token.TokenRule.TheVariants.{Ir}
use Rattle.lx_words.specs.declared.token.Lexeme.{Lexeme}
use Rattle.lx_words.specs.declared.token.Lexeme.TheVariants.{Space, Comment, Token}
use Rattle.lx_words.specs.declared.token.TokenKind.TheVariants as kinds
use Rattle.lx_words.specs.Lexemes.{is_space, is_comment_mark, is_digit, is_word_start, is_word_byte, is_name_byte, is_text_byte, is_line_byte, is_hex, is_plain_byte, is_nil, ends_quoted, ends_escaped, some_all, ends_name, is_name, is_escaped, is_ir_mark, when, word_lexeme, other_lexeme, lexeme_behind}
use Rattle.lx_words.proofs.Lists.{all_lost}
use Rattle.lx_words.proofs.Tests.{test_lost}
use Rattle.lx_words.proofs.LostEnds.{some_lost, nil_lost, quoted_lost, ended_name_lost, if_lost}
use Rattle.lx_ir_complete.specs.Pieces.{ends_word, ends_before}

-- Tests.

-- what ends a word is in none
pub record Ending (r : ℕ) : Type 0 where
  pub name : is_name_byte r ≡ false
  pub word : is_word_byte r ≡ false
  pub digit : is_digit r ≡ false
  pub quote : (r == 34) ≡ false

pub ending : (r : ℕ) → ends_word r ≡ true → Ending r
ending r e =
    let both = and_parts (not (is_name_byte r)) (not (r == 34)) e in
    let name = not-true (is_name_byte r) both.0 in
    let parts = or_parts (is_word_byte r) (r == 45) name in
    record {
      name = name;
      word = parts.0;
      digit = (or_parts (is_word_start r) (is_digit r) parts.0).1;
      quote = not-true (r == 34) both.1;
    }

and_fails : (v x y : Bool) → (x ≡ false → y ≡ false) → (v && x) ≡ false → (v && y) ≡ false
and_fails true x y f h = f h
and_fails false x y f h = refl

all_fails : (p : ℕ → Bool) (bs more : List ℕ) → list_all p bs ≡ false → list_all p (bs ++ more) ≡ false
all_fails p [] more e = cc e
all_fails p (b ∷ bs) more e = and_fails (p b) (list_all p bs) (list_all p (bs ++ more)) (all_fails p bs more) e

escaped_lost : (digits : ℕ) (bs : List ℕ) (r : ℕ) (more : List ℕ) → ends_escaped digits bs ≡ true → ends_escaped digits (bs ++ r ∷ more) ≡ false
escaped_lost digits [] r more e = cc e
escaped_lost (suc digits) (b ∷ bs) r more e =
    and_right (is_hex b) (ends_escaped digits (bs ++ r ∷ more)) (escaped_lost digits bs r more (and_parts (is_hex b) (ends_escaped digits bs) e).1)
escaped_lost zero (b ∷ bs) r more e =
    test_lost (b == 34) (is_nil bs) _ (is_nil (bs ++ r ∷ more)) _
    (λ h. nil_lost bs r more)
    (test_lost (b == 92) (ends_escaped 2 bs) (is_plain_byte b && ends_escaped 0 bs) (ends_escaped 2 (bs ++ r ∷ more)) (is_plain_byte b && ends_escaped 0 (bs ++ r ∷ more))
    (λ h. escaped_lost 2 bs r more h)
    (λ h. and_right (is_plain_byte b) (ends_escaped 0 (bs ++ r ∷ more)) (escaped_lost 0 bs r more (and_parts (is_plain_byte b) (ends_escaped 0 bs) h).1)))
    e

name_lost : (bs : List ℕ) (r : ℕ) (more : List ℕ) → ends_word r ≡ true → is_name bs ≡ true → is_name (bs ++ r ∷ more) ≡ false
name_lost [] r more h e = cc e
name_lost (b ∷ bs) r more h e = by (b == 34) e
  where
    by : (v : Bool) → (if v then ends_name bs else some_all is_name_byte (b ∷ bs)) ≡ true → (if v then ends_name (bs ++ r ∷ more) else some_all is_name_byte (b ∷ bs ++ r ∷ more)) ≡ false
    by true k = ended_name_lost bs r more k
    by false k = some_lost is_name_byte (b ∷ bs) r more (ending r h).name

byte_string_lost : (bs : List ℕ) (r : ℕ) (more : List ℕ) → is_escaped bs ≡ true → is_escaped (bs ++ r ∷ more) ≡ false
byte_string_lost [] r more e = cc e
byte_string_lost (b ∷ bs) r more e =
    and_right (b == 34) (ends_escaped 0 (bs ++ r ∷ more)) (escaped_lost 0 bs r more (and_parts (b == 34) (ends_escaped 0 bs) e).1)

-- a byte of a word is no quote
no_quote : (c : ℕ) (v : Bool) → (c == 34) ≡ v → is_word_byte c ≡ true → v ≡ false
no_quote c true e w = cc (sym (ap is_word_byte (eqb-true c 34 e)) ∙ w)
no_quote c false e w = refl

-- what begins as a word is no byte string
word_no_string : (bs : List ℕ) (r : ℕ) (more : List ℕ) → ends_word r ≡ true → list_all is_word_byte bs ≡ true → is_escaped (bs ++ r ∷ more) ≡ false
word_no_string [] r more h e = ap (λ v. v && ends_escaped 0 more) (ending r h).quote
word_no_string (c ∷ cs) r more h e =
    ap (λ v. v && ends_escaped 0 (cs ++ r ∷ more)) (no_quote c (c == 34) refl (and_parts (is_word_byte c) (list_all is_word_byte cs) e).0)

-- Lexemes.

when_lost : (v w : Bool) (k l : Lexeme) (rest : List ℕ) → ends_before l rest ≡ true → (ends_before k rest ≡ true → v ≡ true → w ≡ false) → when v k ≡ Some l → when w k ≡ None
when_lost true w k l rest h f e = ap (λ b. when b k) (f (ap (λ m. ends_before m rest) same ∙ h) refl)
  where
    same : k ≡ l
    same = cc e
when_lost false w k l rest h f e = cc e

module _ (b : ℕ) (bs : List ℕ) (r : ℕ) (more : List ℕ) (l : Lexeme) (h : ends_before l (r ∷ more) ≡ true) where
  word_lost : word_lexeme Ir b bs ≡ Some l → word_lexeme Ir b (bs ++ r ∷ more) ≡ None
  word_lost e = by (list_all is_word_byte bs) refl e
    where
      by : (v : Bool) → list_all is_word_byte bs ≡ v → (if v then Some (Token kinds.Word) else when (b == 99 && is_escaped bs) (Token kinds.Bytes)) ≡ Some l → word_lexeme Ir b (bs ++ r ∷ more) ≡ None
      by true all k =
          let same : Token kinds.Word ≡ l = cc k in
          let ends : ends_word r ≡ true = ap (λ m. ends_before m (r ∷ more)) same ∙ h in
          rw (all_lost is_word_byte bs r more (ending r ends).word, word_no_string bs r more ends all, and_right (b == 99) false refl) refl
      by false none k =
          rw (all_fails is_word_byte bs (r ∷ more) none)
          (when_lost (b == 99 && is_escaped bs) (b == 99 && is_escaped (bs ++ r ∷ more)) (Token kinds.Bytes) l (r ∷ more) h
          (λ _ t. and_right (b == 99) (is_escaped (bs ++ r ∷ more)) (byte_string_lost bs r more (and_parts (b == 99) (is_escaped bs) t).1)) k)

  other_lost : other_lexeme Ir b bs ≡ Some l → other_lexeme Ir b (bs ++ r ∷ more) ≡ None
  unfolding other_lexeme
  other_lost =
      if_lost (b == 64) _ _ _ _ l
      (when_lost (is_name bs) (is_name (bs ++ r ∷ more)) (Token kinds.Global) l (r ∷ more) h (λ t k. name_lost bs r more t k))
      (if_lost (b == 34) _ _ _ _ l
      (when_lost (ends_quoted is_text_byte bs) (ends_quoted is_text_byte (bs ++ r ∷ more)) (Token kinds.Text) l (r ∷ more) h (λ t k. quoted_lost is_text_byte bs r more k))
      (if_lost (b == 45) _ _ _ _ l
      (when_lost (some_all is_digit bs) (some_all is_digit (bs ++ r ∷ more)) (Token kinds.Number) l (r ∷ more) h (λ t k. some_lost is_digit bs r more (ending r t).digit))
      (when_lost (is_ir_mark b && is_nil bs) (is_ir_mark b && is_nil (bs ++ r ∷ more)) (Token kinds.Mark) l (r ∷ more) h (λ t k. and_right (is_ir_mark b) (is_nil (bs ++ r ∷ more)) (nil_lost bs r more)))))

  -- no longer front is a lexeme
  pub lost : lexeme_behind Ir b bs ≡ Some l → lexeme_behind Ir b (bs ++ r ∷ more) ≡ None
  unfolding lexeme_behind
  lost =
      if_lost (is_space b) _ _ _ _ l
      (when_lost (is_nil bs) (is_nil (bs ++ r ∷ more)) Space l (r ∷ more) h (λ t k. nil_lost bs r more))
      (if_lost (is_comment_mark Ir b) _ _ _ _ l
      (when_lost (list_all is_line_byte bs) (list_all is_line_byte (bs ++ r ∷ more)) Comment l (r ∷ more) h (λ t k. cc t))
      (if_lost (b == 37) _ _ _ _ l
      (when_lost (is_name bs) (is_name (bs ++ r ∷ more)) (Token kinds.Local) l (r ∷ more) h (λ t k. name_lost bs r more t k))
      (if_lost (is_digit b) _ _ _ _ l
      (when_lost (list_all is_digit bs) (list_all is_digit (bs ++ r ∷ more)) (Token kinds.Number) l (r ∷ more) h (λ t k. all_lost is_digit bs r more (ending r t).digit))
      (if_lost (is_word_start b) _ _ _ _ l word_lost other_lost))))
