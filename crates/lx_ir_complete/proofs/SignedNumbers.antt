-- The signed value of a word, as it is printed, says the word again.
use Rattle.std.proofs.Common.{◌≡◌, ℕ, ◌^◌, ◌<◌, List, [], ◌∷◌, Bool, true, refl, ap, ◌∙◌, arith, Option, Some, None}
use Rattle.std.specs.Prelude.{if◌then◌else◌}
use Rattle.std.proofs.lemmas.Bool.Decides.{nat_tests}
use Rattle.std.proofs.lemmas.Int.{ints}
use Rattle.lx_words.specs.declared.token.TokenKind.TheVariants as kinds
use Rattle.lx_words.specs.declared.word.Width.{Width}
use Rattle.lx_words.specs.declared.word.Width.TheVariants.{W1, W8, W16, W32, W64}
use Rattle.lx_words.specs.TextLaws.{NumberTexts}
use Rattle.lx_words.specs.Width.{modulus}
use Rattle.lx_words.specs.Word.{Word, signed, word_of_int}
use Rattle.lx_words.proofs.Masks.{make_word}
use Rattle.lx_ir.specs.Text.{number_text}
use Rattle.lx_ir_tokens.specs.declared.token.Tok.{Tok}
use Rattle.lx_ir_tokens.specs.declared.token.Kind.TheVariants as kind
use Rattle.lx_ir_tokens.specs.Said.{has_minus}
use Rattle.lx_ir_terms.specs.Grammar.{Part, Picks}
use Rattle.lx_ir_constants.specs.Constants.{is_in_range, number_in}
use Rattle.lx_ir_complete.specs.Printed.{Prints}
use Rattle.lx_ir_complete.proofs.Joining.{token}
use Rattle.lx_ir_complete.proofs.Numbers.{size, a_number}

pub record SaysWord (w : Width) (n : ℕ) : Type 0 where
  pub small : size (signed (make_word w n)) < 2 ^ 127
  pub in_range : is_in_range w (signed (make_word w n)) ≡ true
  pub bits : (word_of_int w (signed (make_word w n))).bits ≡ n

pub says_word : (w : Width) (n : ℕ) → n < modulus w → SaysWord w n
says_word W1 n h = record { small = grind (arith, ints, nat_tests); in_range = grind (arith, ints, nat_tests); bits = grind (arith, ints, nat_tests) }
says_word W8 n h = record { small = grind (arith, ints, nat_tests); in_range = grind (arith, ints, nat_tests); bits = grind (arith, ints, nat_tests) }
says_word W16 n h = record { small = grind (arith, ints, nat_tests); in_range = grind (arith, ints, nat_tests); bits = grind (arith, ints, nat_tests) }
says_word W32 n h = record { small = grind (arith, ints, nat_tests); in_range = grind (arith, ints, nat_tests); bits = grind (arith, ints, nat_tests) }
says_word W64 n h = record { small = grind (arith, ints, nat_tests); in_range = grind (arith, ints, nat_tests); bits = grind (arith, ints, nat_tests) }

abbrev some_word : Bool → Word → Option Word
some_word v x = if v then Some x else None

number_said : (w : Width) (n : ℕ) (minus : Bool) → SaysWord w n → number_in w (kind.Number (Some (signed (make_word w n))) minus) ≡ Some (make_word w n)
number_said w n minus s = ap (λ v. some_word v (word_of_int w (signed (make_word w n)))) s.in_range ∙ ap (λ b. Some (make_word w b)) s.bits

module _ {plain : Bool} {names : List (List ℕ)} (laws : NumberTexts) where
  -- A printed number of a width is a token that says the word.
  pub number : {p : Part} (w : Width) (n : ℕ) → n < modulus w
      → ((tok : Tok) (minus : Bool) → tok.kind ≡ kind.Number (Some (signed (make_word w n))) minus → number_in w (kind.Number (Some (signed (make_word w n))) minus) ≡ Some (make_word w n) → p (tok ∷ []))
      → Prints plain names (number_text w n) p
  number w n lt f =
      let s = says_word w n lt in
      let t = a_number laws (signed (make_word w n)) s.small in
      token kinds.Number (number_text w n) t.is t.one_line refl refl
      (λ tok seen. f tok (has_minus (number_text w n)) (seen.kind ∙ ap (λ v. kind.Number v (has_minus (number_text w n))) t.value) (number_said w n (has_minus (number_text w n)) s))

  -- The same, where the token is picked as a word of its width.
  pub word_number : (w : Width) (n : ℕ) → n < modulus w → Prints plain names (number_text w n) (Picks (λ t. number_in w t.kind) (make_word w n))
  word_number w n lt = number w n lt (λ tok minus e k. (tok, ap (number_in w) e ∙ k, refl))
