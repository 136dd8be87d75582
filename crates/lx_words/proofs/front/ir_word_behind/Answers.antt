use Rattle.std.proofs.Common.{subst, sym}
use Rattle.lx_words.specs.declared.token.TokenRule.TheVariants.{Ir}
use Rattle.lx_words.specs.declared.token.Lexeme.TheVariants.{Token}
use Rattle.lx_words.specs.declared.token.TokenKind.TheVariants as kinds
use Rattle.lx_words.specs.Lexemes.{word_lexeme}
use Rattle.lx_words.specs.Longest.{Begins}
use Rattle.lx_words.proofs.Lexed.{bytes_begin, word_begins}
use Rattle.lx_words.proofs.front.ir_word_behind.Goals as goal

pub returns-in-Some : goal.returns-in-Some
returns-in-Some c = bytes_begin c.args.first c.args.rest.now c.in-Some.len c.in-Some.ensures

pub returns-in-None : goal.returns-in-None
returns-in-None c = subst (λ n. Begins (word_lexeme Ir c.args.first) c.args.rest.now (Token kinds.Word) n) (sym c.word_len.ensures) (word_begins c.args.first c.args.rest.now c.in-None.ensures)
