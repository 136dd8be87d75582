-- The line of a label says it.
use Rattle.std.proofs.Common.{◌≡◌, ◌⊎◌, inl, inr, ℕ, ◌<◌, List, [], ◌∷◌, ◌++◌, Bool, true, false, not, ◌&&◌, refl, sym, ap, ◌∙◌, subst, arith, true≢false, Some, slice_get}
use Rattle.std.specs.Prelude.{◌==◌, codes}
use Rattle.std.specs.List.{AllZip, list_all}
use Rattle.std.proofs.lemmas.Bool.{and_parts, and_from, or_cases, or_right, not-true}
use Rattle.std.proofs.lemmas.Bool.Decides.{nat_tests}
use Rattle.lx_words.specs.declared.token.TokenRule.TheVariants.{Ir}
use Rattle.lx_words.specs.declared.token.Lexeme.TheVariants.{Token}
use Rattle.lx_words.specs.declared.token.TokenKind.{TokenKind}
use Rattle.lx_words.specs.declared.token.TokenKind.TheVariants as kinds
use Rattle.lx_words.specs.Lexemes.{is_space, is_line_byte, is_digit, is_word_start, is_word_byte, lexeme_of, lexeme_behind, other_lexeme}
use Rattle.lx_words.specs.Cuts.{Piece}
use Rattle.lx_words.proofs.Lists.{all_joined}
use Rattle.lx_ir.specs.Lawful.{is_label, is_digit as is_lawful_digit, is_word_byte as is_lawful_word_byte}
use Rattle.lx_ir_tokens.specs.declared.token.Tok.{Tok}
use Rattle.lx_ir_tokens.specs.declared.token.Kind.{Kind}
use Rattle.lx_ir_tokens.specs.declared.token.Kind.TheVariants as kind
use Rattle.lx_ir_tokens.specs.declared.token.Mark.TheVariants.{Colon, OpenParenthesis}
use Rattle.lx_ir_tokens.specs.Said.{kind_of, said, value_of_number}
use Rattle.lx_ir_tokens.specs.Reading.{StandsFor}
use Rattle.lx_ir_terms.specs.Context.{Context}
use Rattle.lx_ir_terms.specs.Reading.{is_mark}
use Rattle.lx_ir_terms.specs.Grammar.{Part}
use Rattle.lx_ir_terms.specs.Types.{depth_limit}
use Rattle.lx_ir_constants.specs.Constants.{is_flag_word, is_element_word, element_behind, pointer_at}
use Rattle.lx_ir_constants.specs.Misplaced.{goes_astray}
use Rattle.lx_ir_complete.specs.Pieces.{is_closed, lex, lexes}
use Rattle.lx_ir_complete.specs.Printed.{IsSeen, is_loud, IsForeign, AreCalm}
use Rattle.lx_ir_complete.specs.Lines.{PrintsLines}
use Rattle.lx_ir_complete.proofs.Bytes.{byte_passes, all_pass}
use Rattle.lx_ir_complete.proofs.Elements.{shut}
use Rattle.lx_ir_complete.proofs.Joining.{second_false, calm_kind}
use Rattle.lx_ir_complete.proofs.Numbers.{digit, in_line, number_is}
use Rattle.lx_ir_statements.specs.Blocks.{may_be_label}
use Rattle.lx_ir_complete.proofs.StatementLines.{piece_line}

-- a text that is one token, which may be a label
pub record IsLabelText (name : List ℕ) : Type 0 where
  pub kind : TokenKind
  pub is : lexeme_of Ir name ≡ Some (Token kind)
  pub may : may_be_label (kind_of kind name) ≡ true
  pub says : said kind name ≡ Some name
  pub one_line : list_all is_line_byte name ≡ true

word_below : (b : ℕ) → is_lawful_word_byte b ≡ true → b < 128
word_below b h = grind (arith, nat_tests, h)

-- a byte of a word that does not begin it as a digit
abbrev begins_word : ℕ → Bool
begins_word b = not (is_lawful_digit b) && is_lawful_word_byte b

begins_below : (b : ℕ) → begins_word b ≡ true → b < 128
begins_below b h = word_below b (and_parts (not (is_lawful_digit b)) (is_lawful_word_byte b) h).1

-- what is known of the first byte of a word
abbrev word_first : ℕ → Bool
word_first b = not (is_space b) && (not (b == 59) && (not (b == 37) && (not (is_digit b) && is_word_start b)))

word_is : (b : ℕ) (bs : List ℕ) → word_first b ≡ true → list_all is_word_byte bs ≡ true → lexeme_of Ir (b ∷ bs) ≡ Some (Token kinds.Word)
unfolding lexeme_behind
word_is b bs h k =
    let one = and_parts (not (is_space b)) _ h in
    let two = and_parts (not (b == 59)) _ one.1 in
    let three = and_parts (not (b == 37)) _ two.1 in
    let four = and_parts (not (is_digit b)) (is_word_start b) three.1 in
    rw (not-true (is_space b) one.0, not-true (b == 59) two.0, not-true (b == 37) three.0, not-true (is_digit b) four.0, four.1, k) refl

word_label : (b : ℕ) (bs : List ℕ) → not (is_lawful_digit b) ≡ true → list_all is_lawful_word_byte (b ∷ bs) ≡ true → IsLabelText (b ∷ bs)
word_label b bs h k =
    let both = and_parts (is_lawful_word_byte b) (list_all is_lawful_word_byte bs) k in
    let begins : begins_word b ≡ true = and_from (not (is_lawful_digit b)) (is_lawful_word_byte b) h both.0 in
    record {
      kind = kinds.Word;
      is = word_is b bs (byte_passes begins_word word_first b refl (begins_below b begins) begins) (all_pass is_lawful_word_byte is_word_byte bs (λ c q. byte_passes is_lawful_word_byte is_word_byte c refl (word_below c q) q) both.1);
      may = refl;
      says = refl;
      one_line = all_pass is_lawful_word_byte is_line_byte (b ∷ bs) (λ c q. byte_passes is_lawful_word_byte is_line_byte c refl (word_below c q) q) k;
    }

number_label : (b : ℕ) (bs : List ℕ) → list_all is_digit (b ∷ bs) ≡ true → IsLabelText (b ∷ bs)
number_label b bs h =
    let first = digit b (and_parts (is_digit b) (list_all is_digit bs) h).0 in
    record {
      kind = kinds.Number;
      is = number_is b bs h;
      may = ap (λ minus. may_be_label (kind.Number (value_of_number (b ∷ bs)) minus)) first.minus;
      says = refl;
      one_line = in_line (b ∷ bs) h;
    }

a_label : (name : List ℕ) → is_label name ≡ true → IsLabelText name
a_label [] h = cc h
a_label (b ∷ bs) h = by (or_cases (list_all is_lawful_digit (b ∷ bs)) (not (is_lawful_digit b) && list_all is_lawful_word_byte (b ∷ bs)) h)
  where
    by : (list_all is_lawful_digit (b ∷ bs) ≡ true) ⊎ ((not (is_lawful_digit b) && list_all is_lawful_word_byte (b ∷ bs)) ≡ true) → IsLabelText (b ∷ bs)
    by (inl k) = number_label b bs k
    by (inr k) = let both = and_parts (not (is_lawful_digit b)) (list_all is_lawful_word_byte (b ∷ bs)) k in word_label b bs both.0 both.1

-- what may be a label is no name behind `@`
label_is_foreign : (names : List (List ℕ)) (k : Kind) (name : ℕ) → may_be_label k ≡ true → IsForeign names k name
label_is_foreign names kind.Global name h = absurd (true≢false (sym h))
label_is_foreign names (kind.Word w) name h = tt
label_is_foreign names kind.Local name h = tt
label_is_foreign names (kind.Number v minus) name h = tt
label_is_foreign names kind.Text name h = tt
label_is_foreign names kind.Bytes name h = tt
label_is_foreign names (kind.Mark m) name h = tt

-- `label:`
abbrev pub LabelLine : Context → List ℕ → Part
LabelLine context name ts = (l : Tok) × (c : Tok) × (may_be_label l.kind ≡ true) × (is_mark Colon c.kind ≡ true) × (slice_get context.names l.name ≡ Some name) × (ts ≡ l ∷ c ∷ [])

a_colon : lexeme_of Ir (58 ∷ []) ≡ Some (Token kinds.Mark)
unfolding lexeme_behind other_lexeme
a_colon = refl

module _ (context : Context) (name : List ℕ) (t : IsLabelText name) where
  abbrev pieces : List Piece
  pieces = record { lexeme = Token t.kind; bytes = name } ∷ record { lexeme = Token kinds.Mark; bytes = 58 ∷ [] } ∷ []

  label_said : (toks : List Tok) → AllZip (IsSeen context.names) (lexes pieces) toks → LabelLine context name toks
  label_said [] h = absurd h
  label_said (l ∷ []) h = absurd h.1
  label_said (l ∷ c ∷ []) h =
      (l, c, ap may_be_label h.0.kind ∙ t.may, ap (is_mark Colon) h.1.0.kind, subst (StandsFor context.names l.name) t.says h.0.name, refl)
  label_said (l ∷ c ∷ d ∷ toks) h = absurd h.1.1

  label_calm : (plain : Bool) (toks more : List Tok) → AllZip (IsSeen context.names) (lexes pieces) toks → AreCalm plain context.names more → AreCalm plain context.names (toks ++ more)
  label_calm plain [] more h k = absurd h
  label_calm plain (l ∷ []) more h k = absurd h.1
  label_calm plain (l ∷ c ∷ []) more h k = (
    record {
      foreign = λ p. label_is_foreign context.names l.kind l.name (ap may_be_label h.0.kind ∙ t.may);
      placed = λ there. second_false (is_element_word l.kind) (goes_astray there (element_behind there (pointer_at there depth_limit) (c ∷ more))) (shut c more (ap is_flag_word h.1.0.kind) (ap (is_mark OpenParenthesis) h.1.0.kind) there);
    },
    (calm_kind plain context.names (kind_of kinds.Mark (58 ∷ [])) c more h.1.0.kind refl, k),
  )
  label_calm plain (l ∷ c ∷ d ∷ toks) more h k = absurd h.1.1

  label_line : {plain : Bool} → PrintsLines plain context.names ((name ++ codes ":") ++ codes "\n") (LabelLine context name)
  label_line {plain} =
      piece_line pieces refl
      (record {
        laid = λ more. (t.is, or_right (is_closed (Token t.kind)) true refl, (a_colon, refl, tt));
        one_line = all_joined is_line_byte name (58 ∷ []) t.one_line refl;
        kept = or_right (is_loud (lex t.kind name)) true refl;
      })
      label_said (label_calm plain)

-- The line of a label says it.
pub label_prints : {plain : Bool} (context : Context) (name : List ℕ) → is_label name ≡ true → PrintsLines plain context.names ((name ++ codes ":") ++ codes "\n") (LabelLine context name)
label_prints context name h = label_line context name (a_label name h)
