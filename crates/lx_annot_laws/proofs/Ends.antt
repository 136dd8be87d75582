-- A lexeme ends where a text begins that does not lengthen it.
use Rattle.std.proofs.Common.{◌≡◌, ℕ, List, [], ◌∷◌, ◌++◌, Bool, true, false, not, ◌&&◌, ◌||◌, refl, sym, ap, ◌∙◌, Some, None}
use Rattle.std.specs.Prelude.{◌==◌, if◌then◌else◌}
use Rattle.std.specs.List.{list_all}
use Rattle.std.proofs.lemmas.Bool.{and_parts, or_from, eqb-true, and_right, or_parts, not-true}
use Rattle.lx_words.specs.declared.token.TokenRule.TheVariants.{Interface}
use Rattle.lx_words.specs.declared.token.Lexeme.{Lexeme}
use Rattle.lx_words.specs.declared.token.Lexeme.TheVariants.{Space, Comment, Token}
use Rattle.lx_words.specs.declared.token.TokenKind.TheVariants as kinds
use Rattle.lx_words.specs.Lexemes.{is_space, is_comment_mark, is_digit, is_word_start, is_word_byte, is_name_byte, is_line_byte, is_nil, some_all, ends_name, is_name, is_interface_mark, when, other_lexeme, lexeme_behind}
use Rattle.lx_words.proofs.Lists.{all_lost}
use Rattle.lx_words.proofs.LostEnds.{some_lost, nil_lost, ended_name_lost, if_lost}
use Rattle.lx_annot_laws.specs.Says.{ends_word_byte, is_second_byte, is_open_byte, ends_before}

-- Tests.

-- what ends a word is in none
pub record Ending (r : ℕ) : Type 0 where
  pub name : is_name_byte r ≡ false
  pub word : is_word_byte r ≡ false
  pub digit : is_digit r ≡ false

pub ending : (r : ℕ) → ends_word_byte r ≡ true → Ending r
ending r e =
    let name = not-true (is_name_byte r) (and_parts (not (is_name_byte r)) (not (r == 34)) e).0 in
    let word = (or_parts (is_word_byte r) (r == 45) name).0 in
    record { name = name; word = word; digit = (or_parts (is_word_start r) (is_digit r) word).1 }

name_lost : (bs : List ℕ) (r : ℕ) (more : List ℕ) → ends_word_byte r ≡ true → is_name bs ≡ true → is_name (bs ++ r ∷ more) ≡ false
name_lost [] r more h e = cc e
name_lost (b ∷ bs) r more h e = by (b == 34) e
  where
    by : (v : Bool) → (if v then ends_name bs else some_all is_name_byte (b ∷ bs)) ≡ true → (if v then ends_name (bs ++ r ∷ more) else some_all is_name_byte (b ∷ bs ++ r ∷ more)) ≡ false
    by true k = ended_name_lost bs r more k
    by false k = some_lost is_name_byte (b ∷ bs) r more (ending r h).name

-- Marks.

-- a mark of one byte is no `=`
no_equals : (b : ℕ) (v : Bool) → (b == 61) ≡ v → is_interface_mark b [] ≡ true → v ≡ false
no_equals b true e h = cc (sym (ap (λ x. is_interface_mark x []) (eqb-true b 61 e)) ∙ h)
no_equals b false e h = refl

-- the two bytes of a longer mark
abbrev pub makes_mark : ℕ → ℕ → Bool
makes_mark b c = if c == 61 then b == 61 || b == 33 || b == 60 || b == 62 else b == c && (b == 60 || b == 62 || b == 38 || b == 124)

-- five tests that all fail, and four
none_of_five : (a b c d e : Bool) → (a || b || c || d || e) ≡ false → (a ≡ false) × (b ≡ false) × (c ≡ false) × (d ≡ false) × (e ≡ false)
none_of_five a b c d e h =
    let last = or_parts (a || b || c || d) e h in
    let fourth = or_parts (a || b || c) d last.0 in
    let third = or_parts (a || b) c fourth.0 in
    let second = or_parts a b third.0 in
    (second.0, second.1, third.1, fourth.1, last.1)

none_of_four : (a b c d : Bool) → a ≡ false → b ≡ false → c ≡ false → d ≡ false → (a || b || c || d) ≡ false
none_of_four a b c d h k l m = or_from (a || b || c) d (or_from (a || b) c (or_from a b h k) l) m

-- none is made where the first byte is not one that can be made longer
shut_makes : (b r : ℕ) → (b == 61) ≡ false → is_open_byte b ≡ false → makes_mark b r ≡ false
shut_makes b r equals shut =
    let no = none_of_five (b == 33) (b == 60) (b == 62) (b == 38) (b == 124) shut in
    by (r == 61) (none_of_four (b == 61) (b == 33) (b == 60) (b == 62) equals no.0 no.1 no.2) (none_of_four (b == 60) (b == 62) (b == 38) (b == 124) no.1 no.2 no.3 no.4)
  where
    by : (v : Bool) → (b == 61 || b == 33 || b == 60 || b == 62) ≡ false → (b == 60 || b == 62 || b == 38 || b == 124) ≡ false
        → (if v then b == 61 || b == 33 || b == 60 || b == 62 else b == r && (b == 60 || b == 62 || b == 38 || b == 124)) ≡ false
    by true h k = h
    by false h k = and_right (b == r) (b == 60 || b == 62 || b == 38 || b == 124) k

-- nor where the second is none that makes a mark longer
other_makes : (b r : ℕ) → is_second_byte r ≡ false → makes_mark b r ≡ false
other_makes b r other =
    let no = none_of_five (r == 61) (r == 60) (r == 62) (r == 38) (r == 124) other in
    by (r == 61) no.0 (b == r) refl (none_of_four (r == 60) (r == 62) (r == 38) (r == 124) no.1 no.2 no.3 no.4)
  where
    by : (w : Bool) → w ≡ false → (v : Bool) → (b == r) ≡ v → (r == 60 || r == 62 || r == 38 || r == 124) ≡ false
        → (if w then b == 61 || b == 33 || b == 60 || b == 62 else v && (b == 60 || b == 62 || b == 38 || b == 124)) ≡ false
    by true e v h k = cc e
    by false e true h k = ap (λ x. x == 60 || x == 62 || x == 38 || x == 124) (eqb-true b r h) ∙ k
    by false e false h k = refl

one_mark_lost : (b r : ℕ) → is_interface_mark b [] ≡ true → (not (is_open_byte b) || not (is_second_byte r)) ≡ true → makes_mark b r ≡ false
one_mark_lost b r e h = by (is_open_byte b) refl h
  where
    by : (v : Bool) → is_open_byte b ≡ v → (not v || not (is_second_byte r)) ≡ true → makes_mark b r ≡ false
    by true longer k = other_makes b r (not-true (is_second_byte r) k)
    by false shut k = shut_makes b r (no_equals b (b == 61) refl e) shut

mark_lost : (b : ℕ) (bs : List ℕ) (r : ℕ) (more : List ℕ) → ends_before (Token kinds.Mark) (b ∷ bs) (r ∷ more) ≡ true → is_interface_mark b bs ≡ true → is_interface_mark b (bs ++ r ∷ more) ≡ false
mark_lost b [] r more h e = and_right (is_nil more) (makes_mark b r) (one_mark_lost b r e h)
mark_lost b (c ∷ cs) r more h e = ap (λ v. v && makes_mark b c) (nil_lost cs r more)

-- Lexemes.

when_lost : (bytes rest : List ℕ) (v w : Bool) (k l : Lexeme) → ends_before l bytes rest ≡ true → (ends_before k bytes rest ≡ true → v ≡ true → w ≡ false) → when v k ≡ Some l → when w k ≡ None
when_lost bytes rest true w k l h f e = ap (λ b. when b k) (f (ap (λ m. ends_before m bytes rest) same ∙ h) refl)
  where
    same : k ≡ l
    same = cc e
when_lost bytes rest false w k l h f e = cc e

module _ (b : ℕ) (bs : List ℕ) (r : ℕ) (more : List ℕ) (l : Lexeme) (h : ends_before l (b ∷ bs) (r ∷ more) ≡ true) where
  other_lost : other_lexeme Interface b bs ≡ Some l → other_lexeme Interface b (bs ++ r ∷ more) ≡ None
  unfolding other_lexeme
  other_lost = when_lost (b ∷ bs) (r ∷ more) (is_interface_mark b bs) (is_interface_mark b (bs ++ r ∷ more)) (Token kinds.Mark) l h (λ t k. mark_lost b bs r more t k)

  -- no longer front is a lexeme
  pub lost : lexeme_behind Interface b bs ≡ Some l → lexeme_behind Interface b (bs ++ r ∷ more) ≡ None
  unfolding lexeme_behind
  lost =
      if_lost (is_space b) _ _ _ _ l
      (when_lost (b ∷ bs) (r ∷ more) (is_nil bs) (is_nil (bs ++ r ∷ more)) Space l h (λ t k. nil_lost bs r more))
      (if_lost (is_comment_mark Interface b) _ _ _ _ l
      (when_lost (b ∷ bs) (r ∷ more) (list_all is_line_byte bs) (list_all is_line_byte (bs ++ r ∷ more)) Comment l h (λ t k. cc t))
      (if_lost (b == 37) _ _ _ _ l
      (when_lost (b ∷ bs) (r ∷ more) (is_name bs) (is_name (bs ++ r ∷ more)) (Token kinds.Local) l h (λ t k. name_lost bs r more t k))
      (if_lost (is_digit b) _ _ _ _ l
      (when_lost (b ∷ bs) (r ∷ more) (list_all is_digit bs) (list_all is_digit (bs ++ r ∷ more)) (Token kinds.Number) l h (λ t k. all_lost is_digit bs r more (ending r t).digit))
      (if_lost (is_word_start b) _ _ _ _ l
      (when_lost (b ∷ bs) (r ∷ more) (list_all is_word_byte bs) (list_all is_word_byte (bs ++ r ∷ more)) (Token kinds.Word) l h (λ t k. all_lost is_word_byte bs r more (ending r t).word))
      other_lost))))
