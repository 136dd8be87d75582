-- What names a fault at a name.
use Rattle.std.proofs.Common.{◌≡◌, ℕ, Bool, true, List, ◌∷◌, sym, ap, ◌∙◌}
use Rattle.std.specs.Prelude.{if◌then◌else◌}
use Rattle.lx_words.specs.Text.{decimal_text}
use Rattle.lx_ir_tokens.specs.declared.token.Tok.{Tok}
use Rattle.lx_ir_read.specs.Fault.{numbered_in, is_nameless, sigil, name_at, name_shown}

abbrev shown_by : Bool → List (List ℕ) → List Tok → Tok → List ℕ
shown_by b names before t = if b then 37 ∷ decimal_text (numbered_in names before) else sigil t.kind ∷ name_at names t.name

pub nameless_shown : (names : List (List ℕ)) (before toks : List Tok) (t : Tok) (ts : List Tok) (n : ℕ) (out : List ℕ) → toks ≡ t ∷ ts → is_nameless t.kind ts ≡ true → n ≡ numbered_in names before → out ≡ 37 ∷ decimal_text n → out ≡ name_shown names before toks
nameless_shown names before toks t ts n out whole test count is =
    is ∙ ap (λ m. 37 ∷ decimal_text m) count ∙ sym (ap (λ b. shown_by b names before t) test) ∙ ap (name_shown names before) (sym whole)
