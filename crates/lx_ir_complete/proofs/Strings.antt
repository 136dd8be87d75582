-- A printed byte string says its bytes.
use Rattle.std.proofs.Common.{◌≡◌, ℕ, ◌+◌, ◌*◌, ◌/◌, ◌%◌, ◌<◌, List, [], ◌∷◌, ◌++◌, Bool, true, false, not, ◌&&◌, refl, ap, ◌∙◌, subst, arith, Some, append_assoc}
use Rattle.std.specs.Prelude.{◌==◌, if◌then◌else◌, codes, nat_lt, flat_map}
use Rattle.std.specs.List.{list_all}
use Rattle.std.proofs.lemmas.Bool.{agree_below_at, and_parts, and_from, eqb-true, ltb-true, not-true}
use Rattle.lx_words.specs.declared.token.TokenRule.TheVariants.{Ir}
use Rattle.lx_words.specs.declared.token.Lexeme.TheVariants.{Token}
use Rattle.lx_words.specs.declared.token.TokenKind.TheVariants as kinds
use Rattle.lx_words.specs.Lexemes.{is_line_byte, is_hex, is_plain_byte, ends_escaped, lexeme_of, lexeme_behind}
use Rattle.lx_words.specs.Text.{digit_value}
use Rattle.lx_words.proofs.Lists.{all_joined}
use Rattle.lx_ir.specs.Text.{byte_text, stands_in_string, capital_digit}
use Rattle.lx_ir_tokens.specs.declared.token.Tok.{Tok}
use Rattle.lx_ir_tokens.specs.declared.token.Kind.TheVariants as kind
use Rattle.lx_ir_tokens.specs.Said.{unescaped, bytes_said}
use Rattle.lx_ir_tokens.specs.Reading.{StandsFor}
use Rattle.lx_ir_terms.specs.Grammar.{Part}
use Rattle.lx_ir_complete.specs.Printed.{Prints}
use Rattle.lx_ir_complete.proofs.Bytes.{always}
use Rattle.lx_ir_complete.proofs.Joining.{token}
use Rattle.lx_ir_complete.proofs.Names.{last_dropped}

-- what is known of the text of a byte: it stands for itself, or is a backslash and two digits of its value
abbrev is_good : ℕ → Bool
is_good b =
    if stands_in_string b then is_line_byte b && (is_plain_byte b && (not (b == 34) && not (b == 92)))
    else is_hex (capital_digit (b / 16)) && (is_hex (capital_digit (b % 16)) && ((digit_value (capital_digit (b / 16)) * 16 + digit_value (capital_digit (b % 16)) == b) && (is_line_byte (capital_digit (b / 16)) && is_line_byte (capital_digit (b % 16)))))

all_good : (b : ℕ) → b < 256 → is_good b ≡ true
all_good b lt = agree_below_at is_good always 256 b refl lt

pub record Step (t : List ℕ) (b : ℕ) : Type 0 where
  pub ends : (more : List ℕ) → ends_escaped 0 (t ++ more) ≡ ends_escaped 0 more
  pub says : (more : List ℕ) → unescaped (t ++ more) ≡ b ∷ unescaped more
  pub one_line : list_all is_line_byte t ≡ true

kept : (v w u : Bool) (x y : List ℕ) → v ≡ false → elim (v && w && u) [ true ↦ x | false ↦ y ] ≡ y
kept true w u x y e = cc e
kept false w u x y e = refl

taken : (v : Bool) (x y : List ℕ) → v ≡ true → elim v [ true ↦ x | false ↦ y ] ≡ x
taken true x y e = refl
taken false x y e = cc e

says_itself : (b : ℕ) (more : List ℕ) → (b == 92) ≡ false → unescaped (b ∷ more) ≡ b ∷ unescaped more
says_itself b [] e = refl
says_itself b (c ∷ []) e = refl
says_itself b (h ∷ l ∷ more) e = kept (b == 92) (is_hex h) (is_hex l) _ (b ∷ unescaped (h ∷ l ∷ more)) e

plain : (b : ℕ) → (is_line_byte b && (is_plain_byte b && (not (b == 34) && not (b == 92)))) ≡ true → Step (b ∷ []) b
plain b h =
    let one = and_parts (is_line_byte b) _ h in
    let two = and_parts (is_plain_byte b) _ one.1 in
    let three = and_parts (not (b == 34)) (not (b == 92)) two.1 in
    let quote = not-true (b == 34) three.0 in
    let slash = not-true (b == 92) three.1 in
    record {
      ends = λ more. rw (quote, slash, two.0) refl;
      says = λ more. says_itself b more slash;
      one_line = and_from (is_line_byte b) true one.0 refl;
    }

escaped : (b h l : ℕ) → (is_hex h && (is_hex l && ((digit_value h * 16 + digit_value l == b) && (is_line_byte h && is_line_byte l)))) ≡ true → Step (92 ∷ h ∷ l ∷ []) b
escaped b h l e =
    let one = and_parts (is_hex h) _ e in
    let two = and_parts (is_hex l) _ one.1 in
    let three = and_parts (digit_value h * 16 + digit_value l == b) _ two.1 in
    let four = and_parts (is_line_byte h) (is_line_byte l) three.1 in
    let value : (0 * 16 + digit_value h) * 16 + digit_value l ≡ b = omega (arith, eqb-true (digit_value h * 16 + digit_value l) b three.0) in
    record {
      ends = λ more. rw (one.0, two.0) refl;
      says = λ more. taken (92 == 92 && is_hex h && is_hex l) _ _ (rw (one.0, two.0) refl) ∙ ap (λ n. n ∷ unescaped more) value;
      one_line = rw (four.0, four.1) refl;
    }

by_test : (b h l : ℕ) (v x y : Bool) → (x ≡ true → Step (b ∷ []) b) → (y ≡ true → Step (92 ∷ h ∷ l ∷ []) b) → (if v then x else y) ≡ true → Step (if v then b ∷ [] else 92 ∷ h ∷ l ∷ []) b
by_test b h l true x y f g e = f e
by_test b h l false x y f g e = g e

step : (b : ℕ) → b < 256 → Step (byte_text b) b
step b lt =
    by_test b (capital_digit (b / 16)) (capital_digit (b % 16)) (stands_in_string b) _ _ (plain b) (escaped b (capital_digit (b / 16)) (capital_digit (b % 16))) (all_good b lt)

abbrev pub is_byte : ℕ → Bool
is_byte b = nat_lt b 256

pub record Steps (t bs : List ℕ) : Type 0 where
  pub ends : (more : List ℕ) → ends_escaped 0 (t ++ more) ≡ ends_escaped 0 more
  pub says : unescaped t ≡ bs
  pub one_line : list_all is_line_byte t ≡ true

steps : (bs : List ℕ) → list_all is_byte bs ≡ true → Steps (flat_map byte_text bs) bs
steps [] h = record { ends = λ more. refl; says = refl; one_line = refl }
steps (b ∷ bs) h =
    let both = and_parts (is_byte b) (list_all is_byte bs) h in
    let first = step b (ltb-true b 256 both.0) in
    let rest = steps bs both.1 in
    record {
      ends = λ more. ap (ends_escaped 0) (append_assoc (byte_text b) (flat_map byte_text bs) more) ∙ first.ends (flat_map byte_text bs ++ more) ∙ rest.ends more;
      says = first.says (flat_map byte_text bs) ∙ ap (λ t. b ∷ t) rest.says;
      one_line = all_joined is_line_byte (byte_text b) (flat_map byte_text bs) first.one_line rest.one_line;
    }

string_is : (t : List ℕ) → ends_escaped 0 (t ++ 34 ∷ []) ≡ true → lexeme_of Ir (99 ∷ 34 ∷ t ++ 34 ∷ []) ≡ Some (Token kinds.Bytes)
unfolding lexeme_behind
string_is t h = rw h refl

module _ {plain : Bool} {names : List (List ℕ)} where
  -- A printed byte string is a token that says its bytes.
  pub string : {p : Part} (bs : List ℕ) → list_all is_byte bs ≡ true → ((tok : Tok) → tok.kind ≡ kind.Bytes → StandsFor names tok.name (Some bs) → p (tok ∷ [])) → Prints plain names (codes "c\"" ++ flat_map byte_text bs ++ codes "\"") p
  string bs h f =
      let all = steps bs h in
      let t : List ℕ = flat_map byte_text bs in
      let says : bytes_said (99 ∷ 34 ∷ t ++ 34 ∷ []) ≡ bs = ap unescaped (last_dropped t 34) ∙ all.says in
      token kinds.Bytes (99 ∷ 34 ∷ t ++ 34 ∷ []) (string_is t (all.ends (34 ∷ []))) (all_joined is_line_byte t (34 ∷ []) all.one_line refl) refl refl
      (λ tok seen. f tok seen.kind (subst (λ n. StandsFor names tok.name (Some n)) says seen.name))
