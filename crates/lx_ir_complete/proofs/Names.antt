-- A printed name says the name.
use Rattle.std.proofs.Common.{◌≡◌, ℕ, ◌-◌, ◌<◌, List, [], ◌∷◌, ◌++◌, length, take, Bool, true, false, not, ◌&&◌, refl, sym, ap, ◌∙◌, subst, arith, Some, length-append}
use Rattle.std.specs.Prelude.{slice_get, unwrap_or, ◌==◌, if◌then◌else◌, codes, nat_eq, nat_lt, nat_le}
use Rattle.std.specs.List.{list_all}
use Rattle.std.proofs.lemmas.Bool.{and_parts, and_from, eqb-true, ltb-true, not-true}
use Rattle.std.proofs.lemmas.List.{take_at}
use Rattle.lx_words.specs.declared.token.TokenRule.TheVariants.{Ir}
use Rattle.lx_words.specs.declared.token.Lexeme.TheVariants.{Token}
use Rattle.lx_words.specs.declared.token.TokenKind.TheVariants as kinds
use Rattle.lx_words.specs.Lexemes.{is_name_byte, is_quoted_name_byte, is_line_byte, is_nil, ends_quoted, ends_name, is_name, some_all, lexeme_of, lexeme_behind, other_lexeme}
use Rattle.lx_words.proofs.Lists.{all_joined}
use Rattle.lx_ir.specs.Text.{is_name_byte as needs_no_quotes, name_text, local_text, global_text}
use Rattle.lx_ir.specs.Lawful.{stands_in_name, is_name as is_lawful_name, is_own_name}
use Rattle.lx_ir_tokens.specs.declared.token.Tok.{Tok}
use Rattle.lx_ir_tokens.specs.declared.token.Kind.TheVariants as kind
use Rattle.lx_ir_tokens.specs.Said.{unquoted, all_but_last}
use Rattle.lx_ir_tokens.specs.Reading.{StandsFor}
use Rattle.lx_ir_terms.specs.Grammar.{Part}
use Rattle.lx_ir_terms.specs.Types.{depth_limit}
use Rattle.lx_ir_constants.specs.Constants.{is_element_word, element_behind, pointer_at}
use Rattle.lx_ir_constants.specs.Misplaced.{goes_astray}
use Rattle.lx_ir_complete.specs.Printed.{IsForeign, IsCalm, Prints}
use Rattle.lx_ir_complete.proofs.Bytes.{byte_passes, all_pass}
use Rattle.lx_ir_complete.proofs.Joining.{first_false, calm_token, token}

in_name_below : (b : ℕ) → stands_in_name b ≡ true → b < 128
in_name_below b h =
    let three = (and_parts (nat_le 32 b && nat_lt b 127 && not (nat_eq b 34)) (not (nat_eq b 92)) h).0 in
    let two = (and_parts (nat_le 32 b && nat_lt b 127) (not (nat_eq b 34)) three).0 in
    let lt : b < 127 = ltb-true b 127 (and_parts (nat_le 32 b) (nat_lt b 127) two).1 in
    omega arith

in_line : (b : ℕ) → stands_in_name b ≡ true → is_line_byte b ≡ true
in_line b h = byte_passes stands_in_name is_line_byte b refl (in_name_below b h) h

in_quotes : (b : ℕ) → stands_in_name b ≡ true → is_quoted_name_byte b ≡ true
in_quotes b h = byte_passes stands_in_name is_quoted_name_byte b refl (in_name_below b h) h

-- a name's byte that needs no quotes
abbrev plain_byte : ℕ → Bool
plain_byte b = stands_in_name b && needs_no_quotes b

plain_below : (b : ℕ) → plain_byte b ≡ true → b < 128
plain_below b h = in_name_below b (and_parts (stands_in_name b) (needs_no_quotes b) h).0

in_plain_name : (b : ℕ) → plain_byte b ≡ true → is_name_byte b ≡ true
in_plain_name b h = byte_passes plain_byte is_name_byte b refl (plain_below b h) h

no_quote : (b : ℕ) → plain_byte b ≡ true → not (b == 34) ≡ true
no_quote b h = byte_passes plain_byte (λ c. not (c == 34)) b refl (plain_below b h) h

quoted_no_quote : (b : ℕ) (v : Bool) → (b == 34) ≡ v → is_quoted_name_byte b ≡ true → v ≡ false
quoted_no_quote b false e h = refl
quoted_no_quote b true e h =
    let same : b ≡ 34 = eqb-true b 34 e in
    cc (sym (ap is_quoted_name_byte same) ∙ h)

all_of_both : (p q : ℕ → Bool) (bs : List ℕ) → list_all p bs ≡ true → list_all q bs ≡ true → list_all (λ b. p b && q b) bs ≡ true
all_of_both p q [] h k = refl
all_of_both p q (b ∷ bs) h k =
    let x = and_parts (p b) (list_all p bs) h in
    let y = and_parts (q b) (list_all q bs) k in
    and_from (p b && q b) (list_all (λ c. p c && q c) bs) (and_from (p b) (q b) x.0 y.0) (all_of_both p q bs x.1 y.1)

closes : (bs : List ℕ) → list_all is_quoted_name_byte bs ≡ true → ends_quoted is_quoted_name_byte (bs ++ 34 ∷ []) ≡ true
closes [] h = refl
closes (b ∷ bs) h =
    let both = and_parts (is_quoted_name_byte b) (list_all is_quoted_name_byte bs) h in
    ap (λ v. if v then is_nil (bs ++ 34 ∷ []) else is_quoted_name_byte b && ends_quoted is_quoted_name_byte (bs ++ 34 ∷ [])) (quoted_no_quote b (b == 34) refl both.0)
    ∙ ap (λ v. v && ends_quoted is_quoted_name_byte (bs ++ 34 ∷ [])) both.0
    ∙ closes bs both.1

-- what stands behind the sigil of a printed name
pub record IsNameText (text name : List ℕ) : Type 0 where
  pub is : is_name text ≡ true
  pub says : unquoted text ≡ name
  pub one_line : list_all is_line_byte text ≡ true

plain_text : (b : ℕ) (bs : List ℕ) → list_all stands_in_name (b ∷ bs) ≡ true → list_all needs_no_quotes (b ∷ bs) ≡ true → IsNameText (b ∷ bs) (b ∷ bs)
plain_text b bs h k =
    let all = all_of_both stands_in_name needs_no_quotes (b ∷ bs) h k in
    let first = (and_parts (plain_byte b) (list_all plain_byte bs) all).0 in
    let quote : (b == 34) ≡ false = not-true (b == 34) (no_quote b first) in
    record {
      is = ap (λ v. if v then ends_name bs else some_all is_name_byte (b ∷ bs)) quote ∙ all_pass plain_byte is_name_byte (b ∷ bs) in_plain_name all;
      says = ap (λ v. if v then all_but_last bs else b ∷ bs) quote;
      one_line = all_pass stands_in_name is_line_byte (b ∷ bs) in_line h;
    }

pub last_dropped : (bs : List ℕ) (b : ℕ) → all_but_last (bs ++ b ∷ []) ≡ bs
last_dropped bs b =
    let n : length (bs ++ b ∷ []) - 1 ≡ length bs = omega (arith, length-append bs (b ∷ [])) in
    ap (λ k. take k (bs ++ b ∷ [])) n ∙ take_at bs (b ∷ []) (length bs) refl

quoted_text : (b : ℕ) (bs : List ℕ) → list_all stands_in_name (b ∷ bs) ≡ true → IsNameText (34 ∷ b ∷ bs ++ 34 ∷ []) (b ∷ bs)
quoted_text b bs h =
    let all = all_pass stands_in_name is_quoted_name_byte (b ∷ bs) in_quotes h in
    let both = and_parts (is_quoted_name_byte b) (list_all is_quoted_name_byte bs) all in
    record {
      is = ap (λ v. v && ends_quoted is_quoted_name_byte (bs ++ 34 ∷ [])) both.0 ∙ closes bs both.1;
      says = last_dropped (b ∷ bs) 34;
      one_line = all_joined is_line_byte (b ∷ bs) (34 ∷ []) (all_pass stands_in_name is_line_byte (b ∷ bs) in_line h) refl;
    }

by_quotes : (b : ℕ) (bs : List ℕ) (v : Bool) → list_all needs_no_quotes (b ∷ bs) ≡ v → list_all stands_in_name (b ∷ bs) ≡ true
    → IsNameText (if v then b ∷ bs else codes "\"" ++ (b ∷ bs) ++ codes "\"") (b ∷ bs)
by_quotes b bs true e h = plain_text b bs h e
by_quotes b bs false e h = quoted_text b bs h

pub a_name : (name : List ℕ) → is_lawful_name name ≡ true → IsNameText (name_text name) name
unfolding name_text
a_name [] h = cc h
a_name (b ∷ bs) h = by_quotes b bs (list_all needs_no_quotes (b ∷ bs)) refl h

-- a name that needs no quotes
pub not_quoted : (name : List ℕ) → list_all needs_no_quotes name ≡ true → name_text name ≡ name
unfolding name_text
not_quoted name h = ap (λ v. if v then name else codes "\"" ++ name ++ codes "\"") h

-- Tokens.

local_is : (text name : List ℕ) → IsNameText text name → lexeme_of Ir (37 ∷ text) ≡ Some (Token kinds.Local)
unfolding lexeme_behind
local_is text name t = rw (t.is) refl

global_is : (text name : List ℕ) → IsNameText text name → lexeme_of Ir (64 ∷ text) ≡ Some (Token kinds.Global)
unfolding lexeme_behind other_lexeme
global_is text name t = rw (t.is) refl

global_calm : (plain : Bool) (names : List (List ℕ)) (name : List ℕ) (tok : Tok) (more : List Tok) → (plain ≡ true → is_own_name name ≡ false) → tok.kind ≡ kind.Global → slice_get names tok.name ≡ Some name → IsCalm plain names tok more
global_calm plain names name tok more own e at = record {
  foreign = λ p. subst (λ k. IsForeign names k tok.name) (sym e) (ap (λ o. is_own_name (unwrap_or o [])) at ∙ own p);
  placed = λ context. first_false (is_element_word tok.kind) (goes_astray context (element_behind context (pointer_at context depth_limit) more)) (ap is_element_word e);
}

module _ {plain : Bool} {names : List (List ℕ)} where
  -- A printed name of a type, a register or a label is a token that says it.
  pub local : {p : Part} (name : List ℕ) → is_lawful_name name ≡ true → ((tok : Tok) → tok.kind ≡ kind.Local → StandsFor names tok.name (Some name) → p (tok ∷ [])) → Prints plain names (local_text name) p
  local name h f =
      let t = a_name name h in
      token kinds.Local (37 ∷ name_text name) (local_is (name_text name) name t) t.one_line refl refl
      (λ tok seen. f tok seen.kind (subst (λ n. StandsFor names tok.name (Some n)) t.says seen.name))

  -- A printed name of a function or a global is a token that says it.
  pub global : {p : Part} (name : List ℕ) → is_lawful_name name ≡ true → (plain ≡ true → is_own_name name ≡ false) → ((tok : Tok) → tok.kind ≡ kind.Global → StandsFor names tok.name (Some name) → p (tok ∷ [])) → Prints plain names (global_text name) p
  global name h own f =
      let t = a_name name h in
      calm_token kinds.Global (64 ∷ name_text name) (global_is (name_text name) name t) t.one_line refl
      (λ tok more seen. global_calm plain names name tok more own seen.kind (subst (λ n. StandsFor names tok.name (Some n)) t.says seen.name))
      (λ tok seen. f tok seen.kind (subst (λ n. StandsFor names tok.name (Some n)) t.says seen.name))
