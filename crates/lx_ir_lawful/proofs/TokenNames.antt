-- The names that tokens say may stand in a module.
use Rattle.std.proofs.Common.{◌≡◌, ◌∙◌, ◌⊎◌, inl, inr, ℕ, suc, ◌-◌, ◌<◌, ◌≤◌, Bool, true, false, ◌&&◌, ◌||◌, Option, Some, None, List, [], ◌∷◌, length, take, refl, sym, ap, subst, arith, All, true≢false, nat_eq, nat_lt, nat_le}
use Rattle.std.specs.Prelude.{◌==◌, not, if◌then◌else◌, slice_index}
use Rattle.std.specs.List.{AllZip, AllByRecursion, list_all}
use Rattle.std.proofs.lemmas.Bool.{and_parts, le-leb, leb-true, eqb-true, and_from, or_cases}
use Rattle.std.proofs.lemmas.Bool.Decides.{nat_tests}
use Rattle.std.proofs.lemmas.List.Elements.{recursion_from_All, All-filter}
use Rattle.lx_words.specs.declared.token.TokenRule.TheVariants.{Ir}
use Rattle.lx_words.specs.declared.token.Lexeme.{Lexeme}
use Rattle.lx_words.specs.declared.token.Lexeme.TheVariants.{Space, Comment, Token as TokenLexeme}
use Rattle.lx_words.specs.declared.token.TokenKind.{TokenKind}
use Rattle.lx_words.specs.declared.token.TokenKind.TheVariants as token
use Rattle.lx_words.specs.declared.token.Token.{Token}
use Rattle.lx_words.specs.declared.token.Stop.{Stop}
use Rattle.lx_words.specs.Lexemes.{is_digit as digit_byte, is_within, is_word_start, is_word_byte as word_byte, is_name_byte, is_quoted_name_byte, is_nil, ends_quoted, some_all, ends_name, is_name as name_lexeme, is_escaped, is_text_byte, is_ir_mark, is_comment_mark, is_line_byte, is_space, when, lexeme_of, lexeme_behind, word_lexeme, other_lexeme}
use Rattle.lx_words.specs.Cuts.{bytes_of, Reaches, Scans, IsTokenOf}
use Rattle.lx_words.proofs.Standing.{tokens_stand}
use Rattle.lx_words.proofs.Tests.{and_false}
use Rattle.lx_words.proofs.WholeLexemes.{nil_is, when_is}
use Rattle.lx_words.proofs.Lists.{all_from}
use Rattle.lx_ir.specs.Lawful.{stands_in_name, is_name, is_digit, is_word_byte, is_label}
use Rattle.lx_ir_tokens.specs.declared.token.Tok.{Tok}
use Rattle.lx_ir_tokens.specs.declared.token.Kind.TheVariants as kinds
use Rattle.lx_ir_tokens.specs.declared.read.IrTokens.{IrTokens}
use Rattle.lx_ir_tokens.specs.Said.{all_but_last, unquoted, name_said, has_minus, value_of_number, mark_of, kind_of, said}
use Rattle.lx_ir_tokens.specs.Keywords.{keyword_of}
use Rattle.lx_ir_tokens.specs.Lines.{is_silent, from_line, kept_tokens}
use Rattle.lx_ir_tokens.specs.Reading.{StandsFor, IsTokOf, ReadsAs}
use Rattle.lx_ir_lawful.specs.TokenNames.{IsTokenNamed}

-- Bytes.

quoted_stands : (b : ℕ) → is_quoted_name_byte b ≡ true → stands_in_name b ≡ true
quoted_stands b h =
    let one = and_parts (is_within 32 126 b && not (b == 34)) (not (b == 92)) h in
    let two = and_parts (is_within 32 126 b) (not (b == 34)) one.0 in
    let three = and_parts (nat_le 32 b) (nat_le b 126) two.0 in
    let high : b ≤ 126 = leb-true b 126 three.1 in
    let below : nat_lt b 127 ≡ true = grind (arith, nat_tests, high) in
    and_from (nat_le 32 b && nat_lt b 127 && not (nat_eq b 34)) (not (nat_eq b 92))
    (and_from (nat_le 32 b && nat_lt b 127) (not (nat_eq b 34)) (and_from (nat_le 32 b) (nat_lt b 127) three.0 below) two.1) one.1

within_parts : (low high b : ℕ) → is_within low high b ≡ true → (low ≤ b) × (b ≤ high)
within_parts low high b h = let two = and_parts (nat_le low b) (nat_le b high) h in (leb-true low b two.0, leb-true b high two.1)

stands_by : (b : ℕ) → 32 ≤ b → b < 127 → nat_eq b 34 ≡ false → nat_eq b 92 ≡ false → stands_in_name b ≡ true
stands_by b low high x y =
    let a : nat_le 32 b ≡ true = le-leb 32 b low in
    let c : nat_lt b 127 ≡ true = grind (arith, nat_tests, high) in
    rw (a, c, x, y) refl

range_stands : (low high b : ℕ) → 35 ≤ low → high ≤ 91 → is_within low high b ≡ true → stands_in_name b ≡ true
range_stands low high b l h w =
    let r = within_parts low high b w in
    let a : low ≤ b = r.0 in
    let c : b ≤ high = r.1 in
    let x : nat_eq b 34 ≡ false = grind (arith, nat_tests, a, l) in
    let y : nat_eq b 92 ≡ false = grind (arith, nat_tests, c, h) in
    stands_by b (omega (arith, a, l)) (omega (arith, c, h)) x y

high_stands : (b : ℕ) → is_within 97 122 b ≡ true → stands_in_name b ≡ true
high_stands b w =
    let r = within_parts 97 122 b w in
    let a : 97 ≤ b = r.0 in
    let c : b ≤ 122 = r.1 in
    let x : nat_eq b 34 ≡ false = grind (arith, nat_tests, a) in
    let y : nat_eq b 92 ≡ false = grind (arith, nat_tests, a) in
    stands_by b (omega (arith, a)) (omega (arith, c)) x y

one_stands : (k b : ℕ) → (b == k) ≡ true → stands_in_name k ≡ true → stands_in_name b ≡ true
one_stands k b e h = let s : b ≡ k = eqb-true b k e in ap stands_in_name s ∙ h

one_of_five : (G : Type 0) (x y p q r : Bool) → (x || y || p || q || r) ≡ true → (x ≡ true → G) → (y ≡ true → G) → (p ≡ true → G) → (q ≡ true → G) → (r ≡ true → G) → G
one_of_five G true y p q r h a b c d e = a refl
one_of_five G false true p q r h a b c d e = b refl
one_of_five G false false true q r h a b c d e = c refl
one_of_five G false false false true r h a b c d e = d refl
one_of_five G false false false false true h a b c d e = e refl
one_of_five G false false false false false h a b c d e = absurd (cc h)

start_stands : (b : ℕ) → is_word_start b ≡ true → stands_in_name b ≡ true
start_stands b h =
    one_of_five (stands_in_name b ≡ true) (is_within 65 90 b) (is_within 97 122 b) (b == 36) (b == 46) (b == 95) h
    (λ e. range_stands 65 90 b (omega arith) (omega arith) e) (high_stands b) (λ e. one_stands 36 b e refl) (λ e. one_stands 46 b e refl) (λ e. one_stands 95 b e refl)

name_byte_stands : (b : ℕ) → is_name_byte b ≡ true → stands_in_name b ≡ true
name_byte_stands b h = by (or_cases (word_byte b) (b == 45) h)
  where
    inner : (is_word_start b ≡ true) ⊎ (digit_byte b ≡ true) → stands_in_name b ≡ true
    inner (inl e) = start_stands b e
    inner (inr e) = range_stands 48 57 b (omega arith) (omega arith) e

    by : (word_byte b ≡ true) ⊎ ((b == 45) ≡ true) → stands_in_name b ≡ true
    by (inl e) = inner (or_cases (is_word_start b) (digit_byte b) e)
    by (inr e) = one_stands 45 b e refl

-- Names with quotes round them, and without.

record Quoted (p : ℕ → Bool) (bs : List ℕ) : Type 0 where
  some : 0 < length bs
  each : list_all p (take (length bs - 1) bs) ≡ true

quoted_by : (p : ℕ → Bool) (b : ℕ) (bs : List ℕ) (q : Bool) → (q ≡ true → bs ≡ []) → (if q then is_nil bs else p b && ends_quoted p bs) ≡ true → (ends_quoted p bs ≡ true → Quoted p bs) → Quoted p (b ∷ bs)
quoted_by p b bs true none h rest = subst (λ v. Quoted p (b ∷ v)) (sym (none refl)) (record { some = omega arith; each = refl })
quoted_by p b bs false none h rest =
    let both = and_parts (p b) (ends_quoted p bs) h in
    let r = rest both.1 in
    let some : 0 < length bs = r.some in
    let e : length (b ∷ bs) - 1 ≡ suc (length bs - 1) = omega (arith, some) in
    record { some = omega arith; each = ap (λ n. list_all p (take n (b ∷ bs))) e ∙ and_from (p b) (list_all p (take (length bs - 1) bs)) both.0 r.each }

quoted : (p : ℕ → Bool) (bs : List ℕ) → ends_quoted p bs ≡ true → Quoted p bs
quoted p [] h = absurd (cc h)
quoted p (b ∷ bs) h = quoted_by p b bs (b == 34) (λ e. nil_is bs (ap (λ q. if q then is_nil bs else p b && ends_quoted p bs) (sym e) ∙ h)) h (quoted p bs)

name_of : (b : ℕ) (bs : List ℕ) → list_all stands_in_name (b ∷ bs) ≡ true → is_name (b ∷ bs) ≡ true
name_of b bs h = h

quoted_name : (bs : List ℕ) → ends_name bs ≡ true → is_name (all_but_last bs) ≡ true
quoted_name [] h = absurd (cc h)
quoted_name (b ∷ bs) h =
    let both = and_parts (is_quoted_name_byte b) (ends_quoted is_quoted_name_byte bs) h in
    let r = quoted is_quoted_name_byte bs both.1 in
    let some : 0 < length bs = r.some in
    let e : length (b ∷ bs) - 1 ≡ suc (length bs - 1) = omega (arith, some) in
    ap (λ n. is_name (take n (b ∷ bs))) e
    ∙ name_of b (take (length bs - 1) bs)
    (and_from (stands_in_name b) (list_all stands_in_name (take (length bs - 1) bs)) (quoted_stands b both.0) (all_from is_quoted_name_byte stands_in_name quoted_stands (take (length bs - 1) bs) r.each))

name_by : (q : Bool) (b : ℕ) (bs : List ℕ) → (if q then ends_name bs else some_all is_name_byte (b ∷ bs)) ≡ true → is_name (if q then all_but_last bs else b ∷ bs) ≡ true
name_by true b bs h = quoted_name bs h
name_by false b bs h = name_of b bs (all_from is_name_byte stands_in_name name_byte_stands (b ∷ bs) h)

name_is : (bs : List ℕ) → name_lexeme bs ≡ true → is_name (unquoted bs) ≡ true
name_is [] h = absurd (cc h)
name_is (b ∷ bs) h = name_by (b == 34) b bs h

-- Kinds of tokens.

-- what the first byte and those behind it tell of a token of this kind
abbrev Tells : TokenKind → ℕ → List ℕ → Type 0
Tells token.Local b bs = name_lexeme bs ≡ true
Tells token.Global b bs = name_lexeme bs ≡ true
Tells token.Word b bs = (is_word_start b ≡ true) × (list_all word_byte bs ≡ true)
Tells token.Number b bs = ((digit_byte b ≡ true) × (list_all digit_byte bs ≡ true)) ⊎ ((b == 45) ≡ true)
Tells k b bs = Unit {0}

as_token : (b : ℕ) (bs : List ℕ) (l k : TokenKind) → TokenLexeme l ≡ TokenLexeme k → Tells l b bs → Tells k b bs
as_token b bs l k e h = let s : l ≡ k = cc in subst (λ x. Tells x b bs) s h

word_tells : (b : ℕ) (bs : List ℕ) (k : TokenKind) (all escaped : Bool) → list_all word_byte bs ≡ all → is_word_start b ≡ true → (if all then Some (TokenLexeme token.Word) else when escaped (TokenLexeme token.Bytes)) ≡ Some (TokenLexeme k) → Tells k b bs
word_tells b bs k true escaped h start e = as_token b bs token.Word k (when_is true (TokenLexeme token.Word) (TokenLexeme k) e).1 (start, h)
word_tells b bs k false escaped h start e = as_token b bs token.Bytes k (when_is escaped (TokenLexeme token.Bytes) (TokenLexeme k) e).1 tt

other_tells : (b : ℕ) (bs : List ℕ) (k : TokenKind) (at quote minus name text digits mark : Bool) → name_lexeme bs ≡ name → (b == 45) ≡ minus
    → (if at then when name (TokenLexeme token.Global) else if quote then when text (TokenLexeme token.Text) else if minus then when digits (TokenLexeme token.Number) else when mark (TokenLexeme token.Mark)) ≡ Some (TokenLexeme k) → Tells k b bs
other_tells b bs k true quote minus name text digits mark n m e = let w = when_is name (TokenLexeme token.Global) (TokenLexeme k) e in as_token b bs token.Global k w.1 (n ∙ w.0)
other_tells b bs k false true minus name text digits mark n m e = as_token b bs token.Text k (when_is text (TokenLexeme token.Text) (TokenLexeme k) e).1 tt
other_tells b bs k false false true name text digits mark n m e = as_token b bs token.Number k (when_is digits (TokenLexeme token.Number) (TokenLexeme k) e).1 (inr m)
other_tells b bs k false false false name text digits mark n m e = as_token b bs token.Mark k (when_is mark (TokenLexeme token.Mark) (TokenLexeme k) e).1 tt

no_token : (b : Bool) (l : Lexeme) (k : TokenKind) → when b l ≡ Some (TokenLexeme k) → l ≡ TokenLexeme k
no_token b l k e = (when_is b l (TokenLexeme k) e).1

behind_tells : (b : ℕ) (bs : List ℕ) (k : TokenKind) (space nil comment line local name digit digits start : Bool) (w o : Option Lexeme) → name_lexeme bs ≡ name → digit_byte b ≡ digit → list_all digit_byte bs ≡ digits → is_word_start b ≡ start
    → (start ≡ true → w ≡ Some (TokenLexeme k) → Tells k b bs) → (o ≡ Some (TokenLexeme k) → Tells k b bs)
    → (if space then when nil Space else if comment then when line Comment else if local then when name (TokenLexeme token.Local) else if digit then when digits (TokenLexeme token.Number) else if start then w else o) ≡ Some (TokenLexeme k) → Tells k b bs
behind_tells b bs k true nil comment line local name digit digits start w o n d ds s f g e = absurd (let x : Space ≡ TokenLexeme k = no_token nil Space k e in cc x)
behind_tells b bs k false nil true line local name digit digits start w o n d ds s f g e = absurd (let x : Comment ≡ TokenLexeme k = no_token line Comment k e in cc x)
behind_tells b bs k false nil false line true name digit digits start w o n d ds s f g e = let x = when_is name (TokenLexeme token.Local) (TokenLexeme k) e in as_token b bs token.Local k x.1 (n ∙ x.0)
behind_tells b bs k false nil false line false name true digits start w o n d ds s f g e = let x = when_is digits (TokenLexeme token.Number) (TokenLexeme k) e in as_token b bs token.Number k x.1 (inl (d, ds ∙ x.0))
behind_tells b bs k false nil false line false name false digits true w o n d ds s f g e = f refl e
behind_tells b bs k false nil false line false name false digits false w o n d ds s f g e = g e

tells : (b : ℕ) (bs : List ℕ) (k : TokenKind) → lexeme_behind Ir b bs ≡ Some (TokenLexeme k) → Tells k b bs
unfolding lexeme_behind other_lexeme
tells b bs k e =
    behind_tells b bs k (is_space b) (is_nil bs) (is_comment_mark Ir b) (list_all is_line_byte bs) (b == 37) (name_lexeme bs) (digit_byte b) (list_all digit_byte bs) (is_word_start b) (word_lexeme Ir b bs) (other_lexeme Ir b bs) refl refl refl refl
    (λ start w. word_tells b bs k (list_all word_byte bs) (b == 99 && is_escaped bs) refl start w)
    (λ o. other_tells b bs k (b == 64) (b == 34) (b == 45) (name_lexeme bs) (ends_quoted is_text_byte bs) (some_all digit_byte bs) (is_ir_mark b && is_nil bs) refl refl o) e

-- Labels.

above : (b : ℕ) → 57 < b → is_digit b ≡ false
above b lt = let e : nat_le b 57 ≡ false = grind (arith, nat_tests, lt) in ap (λ v. nat_le 48 b && v) e ∙ and_false (nat_le 48 b)

below : (b : ℕ) → b < 48 → is_digit b ≡ false
below b lt = let e : nat_le 48 b ≡ false = grind (arith, nat_tests, lt) in ap (λ v. v && nat_le b 57) e

above_from : (low high b : ℕ) → 57 < low → is_within low high b ≡ true → is_digit b ≡ false
above_from low high b l h = let r = within_parts low high b h in let a : low ≤ b = r.0 in above b (omega (arith, a, l))

start_no_digit : (b : ℕ) → is_word_start b ≡ true → is_digit b ≡ false
start_no_digit b h =
    one_of_five (is_digit b ≡ false) (is_within 65 90 b) (is_within 97 122 b) (b == 36) (b == 46) (b == 95) h
    (above_from 65 90 b (omega arith)) (above_from 97 122 b (omega arith))
    (λ e. let s : b ≡ 36 = eqb-true b 36 e in below b (omega (arith, s)))
    (λ e. let s : b ≡ 46 = eqb-true b 46 e in below b (omega (arith, s)))
    (λ e. let s : b ≡ 95 = eqb-true b 95 e in above b (omega (arith, s)))

-- the bytes of a word are the same by both definitions
word_byte_is : (b : ℕ) → word_byte b ≡ true → is_word_byte b ≡ true
word_byte_is b h = same (is_within 65 90 b) (is_within 97 122 b) (b == 36) (b == 46) (b == 95) (digit_byte b) h
  where
    same : (x y p q r d : Bool) → ((x || y || p || q || r) || d) ≡ true → (x || y || d || (p || q || r)) ≡ true
    same true y p q r d h = refl
    same false true p q r d h = refl
    same false false p q r true h = refl
    same false false true q r false h = refl
    same false false false true r false h = refl
    same false false false false true false h = refl
    same false false false false false false h = absurd (cc h)

label_by : (a b c : Bool) → b ≡ false → c ≡ true → (a || not b && c) ≡ true
label_by true b c p q = refl
label_by false b c p q = rw (p, q) refl

word_label : (b : ℕ) (bs : List ℕ) → is_word_start b ≡ true → list_all word_byte bs ≡ true → is_label (b ∷ bs) ≡ true
word_label b bs start h =
    let first : word_byte b ≡ true = ap (λ v. v || digit_byte b) start in
    label_by (list_all is_digit (b ∷ bs)) (is_digit b) (list_all is_word_byte (b ∷ bs)) (start_no_digit b start) (all_from word_byte is_word_byte word_byte_is (b ∷ bs) (and_from (word_byte b) (list_all word_byte bs) first h))

digits_label : (b : ℕ) (bs : List ℕ) → digit_byte b ≡ true → list_all digit_byte bs ≡ true → is_label (b ∷ bs) ≡ true
digits_label b bs first h = ap (λ v. v || not (is_digit b) && list_all is_word_byte (b ∷ bs)) (and_from (is_digit b) (list_all is_digit bs) first h)

-- Tokens.

no_minus : (b : ℕ) (bs : List ℕ) → Tells token.Number b bs → (b == 45) ≡ false → is_label (b ∷ bs) ≡ true
no_minus b bs (inl (first, rest)) h = digits_label b bs first rest
no_minus b bs (inr e) h = absurd (true≢false (sym e ∙ h))

module _ (names : List (List ℕ)) where
  named_by : (k : TokenKind) (b : ℕ) (bs : List ℕ) (tok : Tok) → Tells k b bs → tok.kind ≡ kind_of k (b ∷ bs) → StandsFor names tok.name (said k (b ∷ bs)) → IsTokenNamed names tok
  named_by token.Local b bs tok h kind at = record {
    local = λ e. (name_said (b ∷ bs), at, name_is bs h);
    global = λ e. absurd (let x : kinds.Local ≡ kinds.Global = sym kind ∙ e in cc x);
    word = λ w e. absurd (let x : kinds.Local ≡ kinds.Word w = sym kind ∙ e in cc x);
    number = λ v e. absurd (let x : kinds.Local ≡ kinds.Number v false = sym kind ∙ e in cc x);
  }
  named_by token.Global b bs tok h kind at = record {
    local = λ e. absurd (let x : kinds.Global ≡ kinds.Local = sym kind ∙ e in cc x);
    global = λ e. (name_said (b ∷ bs), at, name_is bs h);
    word = λ w e. absurd (let x : kinds.Global ≡ kinds.Word w = sym kind ∙ e in cc x);
    number = λ v e. absurd (let x : kinds.Global ≡ kinds.Number v false = sym kind ∙ e in cc x);
  }
  named_by token.Word b bs tok h kind at = record {
    local = λ e. absurd (let x : kinds.Word (keyword_of (b ∷ bs)) ≡ kinds.Local = sym kind ∙ e in cc x);
    global = λ e. absurd (let x : kinds.Word (keyword_of (b ∷ bs)) ≡ kinds.Global = sym kind ∙ e in cc x);
    word = λ w e. (b ∷ bs, at, word_label b bs h.0 h.1);
    number = λ v e. absurd (let x : kinds.Word (keyword_of (b ∷ bs)) ≡ kinds.Number v false = sym kind ∙ e in cc x);
  }
  named_by token.Number b bs tok h kind at = record {
    local = λ e. absurd (let x : kinds.Number (value_of_number (b ∷ bs)) (has_minus (b ∷ bs)) ≡ kinds.Local = sym kind ∙ e in cc x);
    global = λ e. absurd (let x : kinds.Number (value_of_number (b ∷ bs)) (has_minus (b ∷ bs)) ≡ kinds.Global = sym kind ∙ e in cc x);
    word = λ w e. absurd (let x : kinds.Number (value_of_number (b ∷ bs)) (has_minus (b ∷ bs)) ≡ kinds.Word w = sym kind ∙ e in cc x);
    number = λ v e.
        let x : kinds.Number (value_of_number (b ∷ bs)) (has_minus (b ∷ bs)) ≡ kinds.Number v false = sym kind ∙ e in
        let plain : has_minus (b ∷ bs) ≡ false = cc x in
        (b ∷ bs, at, no_minus b bs h plain);
  }
  named_by token.Text b bs tok h kind at = record {
    local = λ e. absurd (let x : kinds.Text ≡ kinds.Local = sym kind ∙ e in cc x);
    global = λ e. absurd (let x : kinds.Text ≡ kinds.Global = sym kind ∙ e in cc x);
    word = λ w e. absurd (let x : kinds.Text ≡ kinds.Word w = sym kind ∙ e in cc x);
    number = λ v e. absurd (let x : kinds.Text ≡ kinds.Number v false = sym kind ∙ e in cc x);
  }
  named_by token.Bytes b bs tok h kind at = record {
    local = λ e. absurd (let x : kinds.Bytes ≡ kinds.Local = sym kind ∙ e in cc x);
    global = λ e. absurd (let x : kinds.Bytes ≡ kinds.Global = sym kind ∙ e in cc x);
    word = λ w e. absurd (let x : kinds.Bytes ≡ kinds.Word w = sym kind ∙ e in cc x);
    number = λ v e. absurd (let x : kinds.Bytes ≡ kinds.Number v false = sym kind ∙ e in cc x);
  }
  named_by token.Mark b bs tok h kind at = record {
    local = λ e. absurd (let x : kinds.Mark (mark_of (slice_index (b ∷ bs) 0)) ≡ kinds.Local = sym kind ∙ e in cc x);
    global = λ e. absurd (let x : kinds.Mark (mark_of (slice_index (b ∷ bs) 0)) ≡ kinds.Global = sym kind ∙ e in cc x);
    word = λ w e. absurd (let x : kinds.Mark (mark_of (slice_index (b ∷ bs) 0)) ≡ kinds.Word w = sym kind ∙ e in cc x);
    number = λ v e. absurd (let x : kinds.Mark (mark_of (slice_index (b ∷ bs) 0)) ≡ kinds.Number v false = sym kind ∙ e in cc x);
  }

  token_by : (k : TokenKind) (bs : List ℕ) (tok : Tok) → lexeme_of Ir bs ≡ Some (TokenLexeme k) → tok.kind ≡ kind_of k bs → StandsFor names tok.name (said k bs) → IsTokenNamed names tok
  token_by k [] tok e kind at = absurd (cc e)
  token_by k (b ∷ bs) tok e kind at = named_by k b bs tok (tells b bs k e) kind at

  tokens_by : (text : List ℕ) (ts : List Token) (toks : List Tok) → AllByRecursion (IsTokenOf Ir text) ts → AllZip (IsTokOf text names) ts toks → AllByRecursion (IsTokenNamed names) toks
  tokens_by text [] [] all zip = tt
  tokens_by text [] (tok ∷ toks) all zip = absurd zip
  tokens_by text (t ∷ ts) [] all zip = absurd zip
  tokens_by text (t ∷ ts) (tok ∷ toks) all zip = (token_by t.kind (bytes_of text t) tok all.0.is zip.0.kind zip.0.name, tokens_by text ts toks all.1 zip.1)

reached : (text : List ℕ) (tokens : List Token) (stop : Option Stop) → Scans Ir text tokens stop → (at : ℕ) × (line : ℕ) × (rest : List ℕ) × Reaches Ir text tokens at line rest
reached text tokens None h = (h.0, h.1, [], h.2)
reached text tokens (Some stop) h = (h.0, stop.line, stop.byte ∷ h.1, h.2)

kept : (P : Token → Type 0) (text : List ℕ) (tokens : List Token) → All P tokens → All P (kept_tokens text tokens)
unfolding kept_tokens
kept P text tokens h = All-filter (λ t. not (is_silent text (from_line t.line tokens))) P tokens h

pub tokens_are_named : (text : List ℕ) (ir : IrTokens) → ReadsAs text ir → AllByRecursion (IsTokenNamed ir.names) ir.toks
tokens_are_named text ir reads =
    let r = reached text reads.tokens ir.stop reads.scans in
    let all = kept (IsTokenOf Ir text) text reads.tokens (tokens_stand Ir text reads.tokens r.0 r.1 r.2 r.3) in
    let places : All (IsTokenOf Ir text) ir.places = subst (λ (ts : List Token). All (IsTokenOf Ir text) ts) (sym reads.places) all in
    tokens_by ir.names text ir.places ir.toks (recursion_from_All (IsTokenOf Ir text) ir.places places) reads.toks
