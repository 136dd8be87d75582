-- How many tokens a text is cut into.
use Rattle.std.proofs.Common.{◌≡◌, ℕ, zero, suc, ◌≤◌, List, [], Some, arith, length, ◌+◌, ◌∷◌, ap, ◌∙◌}
use Rattle.lx_words.specs.declared.token.TokenRule.{TokenRule}
use Rattle.lx_words.specs.declared.token.Lexeme.{Lexeme}
use Rattle.lx_words.specs.Lexemes.{lexeme_of}
use Rattle.lx_words.specs.Longest.{Begins}
use Rattle.lx_words.specs.declared.token.Token.{Token}
use Rattle.lx_words.specs.Cuts.{token_at, Piece, Cuts, tokens_of, feeds}
use Rattle.std.proofs.lemmas.List.{length-append}
use Rattle.lx_words.specs.declared.token.Lexeme.TheVariants as lexemes

pub some_byte : (rule : TokenRule) (text : List ℕ) (lexeme : Lexeme) (n : ℕ) → Begins (lexeme_of rule) text lexeme n → 1 ≤ n
some_byte rule text lexeme zero b = let e : lexeme_of rule [] ≡ Some lexeme = b.is in cc
some_byte rule text lexeme (suc n) b = omega arith

pub one_token : (lexeme : Lexeme) (at end line : ℕ) → length (token_at lexeme at end line) ≤ 1
one_token lexemes.Space at end line = omega arith
one_token lexemes.Comment at end line = omega arith
one_token (lexemes.Token kind) at end line = omega arith

pub cut_few : (rule : TokenRule) (pieces : List Piece) (at line : ℕ) (text rest : List ℕ) → Cuts rule text pieces rest → length (tokens_of at line pieces) ≤ length text
cut_few rule [] at line text rest cut = omega arith
cut_few rule (p ∷ ps) at line text rest (after, e, begins, cut) =
    let one = one_token p.lexeme at (at + length p.bytes) line in
    let some = some_byte rule text p.lexeme (length p.bytes) begins in
    let more = cut_few rule ps (at + length p.bytes) (line + feeds p.bytes) after rest cut in
    let size : length text ≡ length p.bytes + length after = ap length e ∙ length-append p.bytes after in
    let all = length-append (token_at p.lexeme at (at + length p.bytes) line) (tokens_of (at + length p.bytes) (line + feeds p.bytes) ps) in
    omega (arith, one, some, more, size, all)
