-- The lexeme at the front of a text.
use Rattle.std.proofs.Common.{◌≡◌, ℕ, zero, suc, ◌+◌, ◌<◌, ◌≤◌, List, [], ◌∷◌, length, take, Bool, true, false, ◌&&◌, refl, sym, ap, ◌∙◌, subst, arith, Option, Some, None, MatchOption}
use Rattle.std.specs.List.{list_all, prefix_len}
use Rattle.std.specs.Option.{option_map}
use Rattle.std.specs.Prelude.{◌==◌}
use Rattle.std.proofs.lemmas.Bool.{and_parts, eqb-true}
use Rattle.lx_words.specs.declared.token.TokenRule.TheVariants.{Ir}
use Rattle.lx_words.specs.declared.token.Lexeme.{Lexeme}
use Rattle.lx_words.specs.declared.token.Lexeme.TheVariants.{Token}
use Rattle.lx_words.specs.declared.token.TokenKind.TheVariants as kinds
use Rattle.lx_words.specs.Lexemes.{when, is_escaped, ends_escaped, is_word_byte, word_lexeme}
use Rattle.lx_words.specs.Longest.{Longest, NoFront, FrontLen, Begins, NothingBegins, Front}
use Rattle.lx_words.proofs.Fronts.{run}

-- a test and the lexeme that it makes
pub tag : (g : List ℕ → Option Lexeme) (test : List ℕ → Bool) (k : Lexeme) (s : List ℕ) (r : Option ℕ) → ((bs : List ℕ) → g bs ≡ when (test bs) k) → FrontLen test s r → Front g s (option_map (λ n. (k, n)) r)
tag g test k s None h l = record { none = λ m le. h (take m s) ∙ ap (λ b. when b k) (l.fails m le) }
tag g test k s (Some n) h l = record { within = l.within; is = h (take n s) ∙ ap (λ b. when b k) l.passes; longer = λ m lt le. h (take m s) ∙ ap (λ b. when b k) (l.longer m lt le) }

pub tag_to : (g : List ℕ → Option Lexeme) (test : List ℕ → Bool) (k : Lexeme) (s : List ℕ) (r : Option ℕ) (q : Option (Lexeme × ℕ)) → q ≡ option_map (λ n. (k, n)) r → ((bs : List ℕ) → g bs ≡ when (test bs) k) → FrontLen test s r → Front g s q
tag_to g test k s r q e h l = rw e (tag g test k s r h l)

-- two ways to say what bytes are
pub front_as : (f g : List ℕ → Option Lexeme) (s : List ℕ) (r : Option (Lexeme × ℕ)) → ((bs : List ℕ) → f bs ≡ g bs) → Front g s r → Front f s r
front_as f g s None h l = record { none = λ m le. h (take m s) ∙ l.none m le }
front_as f g s (Some x) h l = record { within = l.within; is = h (take x.1 s) ∙ l.is; longer = λ m lt le. h (take m s) ∙ l.longer m lt le }

none_step : (f g : List ℕ → Option Lexeme) (b : ℕ) (s : List ℕ) → f [] ≡ None → ((bs : List ℕ) → f (b ∷ bs) ≡ g bs) → NothingBegins g s → (m : ℕ) → m ≤ suc (length s) → f (take m (b ∷ s)) ≡ None
none_step f g b s e h l zero le = e
none_step f g b s e h l (suc m) le = h (take m s) ∙ l.none m (omega arith)

longer_step : (f g : List ℕ → Option Lexeme) (b : ℕ) (s : List ℕ) (n : ℕ) → ((bs : List ℕ) → f (b ∷ bs) ≡ g bs) → ((m : ℕ) → n < m → m ≤ length s → g (take m s) ≡ None) → (m : ℕ) → suc n < m → m ≤ suc (length s) → f (take m (b ∷ s)) ≡ None
longer_step f g b s n h l zero lt le = absurd (omega arith)
longer_step f g b s n h l (suc m) lt le = h (take m s) ∙ l m (omega arith) (omega arith)

-- one byte before the front
pub lex_step : (f g : List ℕ → Option Lexeme) (b : ℕ) (s : List ℕ) (r : Option (Lexeme × ℕ)) → f [] ≡ None → ((bs : List ℕ) → f (b ∷ bs) ≡ g bs) → Front g s r → Front f (b ∷ s) (option_map (λ x. (x.0, suc x.1)) r)
lex_step f g b s None e h l = record { none = none_step f g b s e h l }
lex_step f g b s (Some x) e h l = record { within = omega (arith, l.within); is = h (take x.1 s) ∙ l.is; longer = longer_step f g b s x.1 h l.longer }

-- what a byte string begins with is in no word
word_fails : (s : List ℕ) (n m : ℕ) → is_escaped (take n s) ≡ true → 0 < m → m ≤ length s → list_all is_word_byte (take m s) ≡ false
word_fails [] n m e lt le = absurd (omega arith)
word_fails (b ∷ bs) zero m e lt le = cc
word_fails (b ∷ bs) (suc n) zero e lt le = absurd (omega arith)
word_fails (b ∷ bs) (suc n) (suc m) e lt le =
    let quote : b ≡ 34 = eqb-true b 34 ((and_parts (b == 34) (ends_escaped 0 (take n bs)) e).0) in
    let no_word : is_word_byte b ≡ false = ap is_word_byte quote in
    ap (λ v. v && list_all is_word_byte (take m bs)) no_word

some_escaped : (s : List ℕ) (n : ℕ) → is_escaped (take n s) ≡ true → 0 < n
some_escaped s zero e = cc
some_escaped s (suc n) e = omega arith

-- a byte string, or a word
pub bytes_begin : (b : ℕ) (s : List ℕ) (n : ℕ) → Longest (λ bs. b == 99 && is_escaped bs) s n → Begins (word_lexeme Ir b) s (Token kinds.Bytes) n
bytes_begin b s n l =
    let escaped : is_escaped (take n s) ≡ true = (and_parts (b == 99) (is_escaped (take n s)) l.passes).1 in
    let some : 0 < n = some_escaped s n escaped in
    record {
      within = l.within;
      is = rw (word_fails s n n escaped some l.within, l.passes) refl;
      longer = λ m lt le. rw (word_fails s n m escaped (omega arith) le, l.longer m lt le) refl;
    }

pub word_begins : (b : ℕ) (s : List ℕ) → NoFront (λ bs. b == 99 && is_escaped bs) s → Begins (word_lexeme Ir b) s (Token kinds.Word) (prefix_len is_word_byte s)
word_begins b s none =
    let l = run is_word_byte s in
    record {
      within = l.within;
      is = rw (l.passes) refl;
      longer = λ m lt le. rw (l.longer m lt le, none.fails m le) refl;
    }

pub run_front : (p : ℕ → Bool) (s : List ℕ) (n : ℕ) → n ≡ prefix_len p s → FrontLen (list_all p) s (Some n)
run_front p s n e = subst (λ m. Longest (list_all p) s m) (sym e) (run p s)

-- the front of a text where that of the bytes behind its first is known
pub lex_led : (f g : List ℕ → Option Lexeme) (t : List ℕ) (b : ℕ) (s : List ℕ) (r : Option (Lexeme × ℕ)) → t ≡ b ∷ s → f [] ≡ None → ((bs : List ℕ) → f (b ∷ bs) ≡ g bs) → Front g s r
    → MatchOption r (NothingBegins f t) (λ x. Begins f t x.0 (x.1 + 1))
lex_led f g t b s None e z h l = subst (λ u. NothingBegins f u) (sym e) (lex_step f g b s None z h l)
lex_led f g t b s (Some x) e z h l =
    let k : suc x.1 ≡ x.1 + 1 = omega arith in
    subst (λ u. Begins f u x.0 (x.1 + 1)) (sym e) (subst (λ n. Begins f (b ∷ s) x.0 n) k (lex_step f g b s (Some x) z h l))
