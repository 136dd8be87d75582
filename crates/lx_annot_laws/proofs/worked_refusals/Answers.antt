use Rattle.std.proofs.Common.{None, List, [], ◌∷◌, refl, codes}
use Rattle.lx_words.specs.declared.token.TokenKind.TheVariants as kinds
use Rattle.lx_words.specs.declared.token.Lexeme.TheVariants.{Space, Token}
use Rattle.lx_words.specs.Lexemes.{lexeme_behind, other_lexeme}
use Rattle.lx_words.specs.Cuts.{Piece, tokens_of}
use Rattle.lx_annot_expressions.specs.Operators.{operator_of}
use Rattle.lx_annot_expressions.specs.Exprs.{chain_at, level_at, operand_at, expr_at}
use Rattle.lx_annot_terms.specs.Lists.{list_at}
use Rattle.lx_annot_read.specs.declared.fault.Kind.TheVariants.{Unknown}
use Rattle.lx_annot_read.specs.declared.fault.InterfaceFault.TheVariants as faults
use Rattle.lx_annot_read.specs.Faults.{met_as}
use Rattle.lx_annot_read.specs.Head.{head_at}
use Rattle.lx_annot_read.specs.Interfaces.{field_at, statement_at}
use Rattle.lx_annot_read.specs.Texts.{first_at, next_at, body_at, interface_at, FirstInterfaceFault}
use Rattle.lx_annot_laws.specs.Says.{AreLaid}
use Rattle.lx_annot_laws.proofs.Scanned.{scanned}
use Rattle.lx_annot_laws.proofs.worked_refusals.Goals as goal

abbrev pieces : List Piece
pieces =
    record { lexeme = Token kinds.Word; bytes = codes "interface" }
    ∷ record { lexeme = Space; bytes = codes " " }
    ∷ record { lexeme = Token kinds.Number; bytes = codes "2" }
    ∷ record { lexeme = Space; bytes = codes "\n" }
    ∷ record { lexeme = Token kinds.Word; bytes = codes "field" }
    ∷ record { lexeme = Space; bytes = codes " " }
    ∷ record { lexeme = Token kinds.Local; bytes = codes "%s" }
    ∷ record { lexeme = Space; bytes = codes " " }
    ∷ record { lexeme = Token kinds.Number; bytes = codes "0" }
    ∷ record { lexeme = Space; bytes = codes " " }
    ∷ record { lexeme = Token kinds.Mark; bytes = codes ":" }
    ∷ record { lexeme = Space; bytes = codes " " }
    ∷ record { lexeme = Token kinds.Word; bytes = codes "f" } ∷ []

laid : AreLaid pieces []
unfolding lexeme_behind other_lexeme
laid = (refl, refl, (refl, refl, (refl, refl, (refl, refl, (refl, refl, (refl, refl, (refl, refl, (refl, refl, (refl, refl, (refl, refl, (refl, refl, (refl, refl, (refl, refl, tt)))))))))))))

first_fault : FirstInterfaceFault (codes "interface 2\nfield %s 0 : f") (faults.Unknown 2 (codes "f"))
unfolding interface_at first_at head_at body_at next_at statement_at field_at
first_fault = (tokens_of 0 1 pieces, None, met_as Unknown 2 (codes "f"), scanned pieces laid, refl, refl)

pub returns : goal.returns
unfolding list_at expr_at level_at operand_at chain_at operator_of field_at
returns c =
    record {
      mark_is_refused = refl;
      text = first_fault;
      name_is_refused = refl;
      load_may_follow = refl;
      size_may_follow = refl;
      index_may_follow = refl;
      unknown = refl;
      unknown_call = refl;
      no_load = refl;
      load = refl;
      no_size = refl;
      size = refl;
      no_list = refl;
      same_field = refl;
      other_field = refl;
    }
