-- What the interface's text says.
use Rattle.std.proofs.Common.{◌≡◌, ◌∙◌, ℕ, List, [], map, true, Some, None, refl, sym, ap, subst}
use Rattle.lx_words.specs.declared.token.Token.{Token}
use Rattle.lx_words.specs.declared.token.TokenRule.TheVariants as rules
use Rattle.lx_words.specs.Lexemes.{lexeme_behind, other_lexeme}
use Rattle.lx_words.specs.Cuts.{Piece, Scans, tokens_of}
use Rattle.lx_annot_expressions.specs.Tokens.{toks_of}
use Rattle.lx_annot_expressions.specs.Reading.{steps_at}
use Rattle.lx_annot_expressions.specs.Exprs.{chain_at, level_at, operand_at, expr_at}
use Rattle.lx_annot_expressions.specs.Operators.{operator_of}
use Rattle.lx_annot_terms.specs.Actions.{deed_of, deed_at, action_within, action_at}
use Rattle.lx_annot_terms.specs.Signatures.{type_of, some_params_at, signature_at}
use Rattle.lx_annot_terms.specs.Lists.{list_at, item_list_at}
use Rattle.lx_annot_terms.specs.ItemReading.{item_at, items_at}
use Rattle.lx_annot_terms.specs.Clauses.{clause_at, written_at, clauses_at}
use Rattle.lx_annot_read.specs.Head.{head_at}
use Rattle.lx_annot_read.specs.Interfaces.{reftype_at, iterator_body_at, iterator_at, callable_at, slot_at, export_at, field_at, statement_at}
use Rattle.lx_annot_laws.specs.PieceLaws.{LaidAreScanned, PlacesDoNotCount}
use Rattle.lx_annot_laws.specs.Says.{AreLaid, text_of, toks}
use Rattle.lx_generate.specs.Interface.{interface_text}
use Rattle.lx_annot_read.specs.Texts.{SaysInterface}
use Rattle.lx_generated_laws.specs.Kernel.{interface}
use Rattle.lx_generated_laws.proofs.Pieces.{are_laid, chunks_of, laid, piece}
use Rattle.lx_generated_laws.proofs.Statements.{interface_by, interface_said}

chunks : List (List ℕ)
chunks = chunks_of 4096 interface_text

pieces : List Piece
pieces = map piece chunks

text_is : text_of pieces ≡ interface_text
unfolding interface_text chunks pieces lexeme_behind other_lexeme
text_is = refl

chunks_laid : are_laid chunks ≡ true
unfolding interface_text chunks lexeme_behind other_lexeme
chunks_laid = refl

pieces_laid : AreLaid pieces []
unfolding pieces
pieces_laid = laid chunks chunks_laid

tokens : List Token
tokens = tokens_of 0 1 pieces

said : interface_by tokens (toks pieces) ≡ Some interface
unfolding interface_text chunks pieces tokens lexeme_behind other_lexeme steps_at chain_at level_at operand_at expr_at operator_of deed_of deed_at action_within action_at type_of some_params_at signature_at list_at item_list_at item_at items_at clause_at written_at clauses_at head_at reftype_at iterator_body_at iterator_at callable_at slot_at export_at field_at statement_at
said = refl

pub interface_is_said : LaidAreScanned → PlacesDoNotCount → SaysInterface interface_text interface
unfolding tokens
interface_is_said scanned placed = (
  tokens,
  None,
  subst (λ t. Scans rules.Interface t tokens None) text_is (scanned pieces pieces_laid),
  interface_said interface_text tokens (toks pieces) interface (ap (λ t. toks_of t tokens) (sym text_is) ∙ placed pieces) said,
)
