-- The words that are printed.
use Rattle.std.proofs.Common.{refl}
use Rattle.std.specs.Prelude.{codes}
use Rattle.lx_words.specs.declared.word.Width.TheVariants.{W1, W8, W16, W32, W64}
use Rattle.lx_words.specs.declared.word.BinOp.{BinOp}
use Rattle.lx_words.specs.declared.word.BinOp.TheVariants as binop
use Rattle.lx_words.specs.declared.word.Pred.{Pred}
use Rattle.lx_words.specs.declared.word.Pred.TheVariants as pred
use Rattle.lx_words.specs.Lexemes.{lexeme_behind}
use Rattle.lx_ir.specs.declared.types.Scalar.{Scalar}
use Rattle.lx_ir.specs.declared.types.Scalar.TheVariants.{Int, Ptr}
use Rattle.lx_ir.specs.declared.module.Blank.{Blank}
use Rattle.lx_ir.specs.declared.module.Blank.TheVariants.{Undef, Poison, Zero}
use Rattle.lx_ir.specs.declared.instr.Conversion.{Conversion}
use Rattle.lx_ir.specs.declared.instr.Conversion.TheVariants as conversion
use Rattle.lx_ir.specs.Text.{scalar_text, blank_text, operator_word, predicate_word, conversion_word}
use Rattle.lx_ir_tokens.specs.declared.keyword.ScalarWord.{ScalarWord}
use Rattle.lx_ir_tokens.specs.declared.keyword.ScalarWord.TheVariants as scalars
use Rattle.lx_ir_tokens.specs.declared.keyword.ConstantWord.{ConstantWord}
use Rattle.lx_ir_tokens.specs.declared.keyword.ConstantWord.TheVariants as constants
use Rattle.lx_ir_tokens.specs.declared.keyword.ConversionWord.{ConversionWord}
use Rattle.lx_ir_tokens.specs.declared.keyword.ConversionWord.TheVariants as conversions
use Rattle.lx_ir_tokens.specs.declared.keyword.InstructionWord.TheVariants as instructions
use Rattle.lx_ir_tokens.specs.declared.keyword.StatementWord.TheVariants as statements
use Rattle.lx_ir_tokens.specs.declared.keyword.Keyword.TheVariants as keyword
use Rattle.lx_ir_tokens.specs.Keywords.{keyword_of}
use Rattle.lx_ir_complete.proofs.Joining.{IsWord}

abbrev pub scalar_word : Scalar → ScalarWord
scalar_word (Int w) = scalars.Int w
scalar_word Ptr = scalars.Ptr

pub a_scalar : (s : Scalar) → IsWord (scalar_text s) (keyword.Scalar (scalar_word s))
unfolding keyword_of lexeme_behind
a_scalar (Int W1) = record { word = refl; one_line = refl; keyword = refl; loud = refl; calm = refl }
a_scalar (Int W8) = record { word = refl; one_line = refl; keyword = refl; loud = refl; calm = refl }
a_scalar (Int W16) = record { word = refl; one_line = refl; keyword = refl; loud = refl; calm = refl }
a_scalar (Int W32) = record { word = refl; one_line = refl; keyword = refl; loud = refl; calm = refl }
a_scalar (Int W64) = record { word = refl; one_line = refl; keyword = refl; loud = refl; calm = refl }
a_scalar Ptr = record { word = refl; one_line = refl; keyword = refl; loud = refl; calm = refl }

abbrev pub blank_word : Blank → ConstantWord
blank_word Undef = constants.Undef
blank_word Poison = constants.Poison
blank_word Zero = constants.Zero

pub a_blank : (b : Blank) → IsWord (blank_text b) (keyword.Constant (blank_word b))
unfolding keyword_of lexeme_behind
a_blank Undef = record { word = refl; one_line = refl; keyword = refl; loud = refl; calm = refl }
a_blank Poison = record { word = refl; one_line = refl; keyword = refl; loud = refl; calm = refl }
a_blank Zero = record { word = refl; one_line = refl; keyword = refl; loud = refl; calm = refl }

pub an_operator : (o : BinOp) → IsWord (operator_word o) (keyword.Instruction (instructions.Operator o))
unfolding keyword_of lexeme_behind
an_operator binop.Add = record { word = refl; one_line = refl; keyword = refl; loud = refl; calm = refl }
an_operator binop.Sub = record { word = refl; one_line = refl; keyword = refl; loud = refl; calm = refl }
an_operator binop.Mul = record { word = refl; one_line = refl; keyword = refl; loud = refl; calm = refl }
an_operator binop.UDiv = record { word = refl; one_line = refl; keyword = refl; loud = refl; calm = refl }
an_operator binop.SDiv = record { word = refl; one_line = refl; keyword = refl; loud = refl; calm = refl }
an_operator binop.URem = record { word = refl; one_line = refl; keyword = refl; loud = refl; calm = refl }
an_operator binop.SRem = record { word = refl; one_line = refl; keyword = refl; loud = refl; calm = refl }
an_operator binop.And = record { word = refl; one_line = refl; keyword = refl; loud = refl; calm = refl }
an_operator binop.Or = record { word = refl; one_line = refl; keyword = refl; loud = refl; calm = refl }
an_operator binop.Xor = record { word = refl; one_line = refl; keyword = refl; loud = refl; calm = refl }
an_operator binop.Shl = record { word = refl; one_line = refl; keyword = refl; loud = refl; calm = refl }
an_operator binop.LShr = record { word = refl; one_line = refl; keyword = refl; loud = refl; calm = refl }
an_operator binop.AShr = record { word = refl; one_line = refl; keyword = refl; loud = refl; calm = refl }

pub a_predicate : (p : Pred) → IsWord (predicate_word p) (keyword.Predicate p)
unfolding keyword_of lexeme_behind
a_predicate pred.Eq = record { word = refl; one_line = refl; keyword = refl; loud = refl; calm = refl }
a_predicate pred.Ne = record { word = refl; one_line = refl; keyword = refl; loud = refl; calm = refl }
a_predicate pred.Ugt = record { word = refl; one_line = refl; keyword = refl; loud = refl; calm = refl }
a_predicate pred.Uge = record { word = refl; one_line = refl; keyword = refl; loud = refl; calm = refl }
a_predicate pred.Ult = record { word = refl; one_line = refl; keyword = refl; loud = refl; calm = refl }
a_predicate pred.Ule = record { word = refl; one_line = refl; keyword = refl; loud = refl; calm = refl }
a_predicate pred.Sgt = record { word = refl; one_line = refl; keyword = refl; loud = refl; calm = refl }
a_predicate pred.Sge = record { word = refl; one_line = refl; keyword = refl; loud = refl; calm = refl }
a_predicate pred.Slt = record { word = refl; one_line = refl; keyword = refl; loud = refl; calm = refl }
a_predicate pred.Sle = record { word = refl; one_line = refl; keyword = refl; loud = refl; calm = refl }

abbrev pub the_conversion : Conversion → ConversionWord
the_conversion conversion.Trunc = conversions.Trunc
the_conversion conversion.ZExt = conversions.ZExt
the_conversion conversion.SExt = conversions.SExt
the_conversion conversion.PtrToInt = conversions.PtrToInt
the_conversion conversion.IntToPtr = conversions.IntToPtr

pub a_conversion : (c : Conversion) → IsWord (conversion_word c) (keyword.Instruction (instructions.Conversion (the_conversion c)))
unfolding keyword_of lexeme_behind
a_conversion conversion.Trunc = record { word = refl; one_line = refl; keyword = refl; loud = refl; calm = refl }
a_conversion conversion.ZExt = record { word = refl; one_line = refl; keyword = refl; loud = refl; calm = refl }
a_conversion conversion.SExt = record { word = refl; one_line = refl; keyword = refl; loud = refl; calm = refl }
a_conversion conversion.PtrToInt = record { word = refl; one_line = refl; keyword = refl; loud = refl; calm = refl }
a_conversion conversion.IntToPtr = record { word = refl; one_line = refl; keyword = refl; loud = refl; calm = refl }

pub a_void : IsWord (codes "void") (keyword.Void)
unfolding keyword_of lexeme_behind
a_void = record { word = refl; one_line = refl; keyword = refl; loud = refl; calm = refl }

pub times : IsWord (codes "x") (keyword.Times)
unfolding keyword_of lexeme_behind
times = record { word = refl; one_line = refl; keyword = refl; loud = refl; calm = refl }

pub to : IsWord (codes "to") (keyword.To)
unfolding keyword_of lexeme_behind
to = record { word = refl; one_line = refl; keyword = refl; loud = refl; calm = refl }

pub a_label : IsWord (codes "label") (keyword.Label)
unfolding keyword_of lexeme_behind
a_label = record { word = refl; one_line = refl; keyword = refl; loud = refl; calm = refl }

pub truth : IsWord (codes "true") (keyword.Constant constants.True)
unfolding keyword_of lexeme_behind
truth = record { word = refl; one_line = refl; keyword = refl; loud = refl; calm = refl }

pub falsehood : IsWord (codes "false") (keyword.Constant constants.False)
unfolding keyword_of lexeme_behind
falsehood = record { word = refl; one_line = refl; keyword = refl; loud = refl; calm = refl }

pub a_null : IsWord (codes "null") (keyword.Constant constants.Null)
unfolding keyword_of lexeme_behind
a_null = record { word = refl; one_line = refl; keyword = refl; loud = refl; calm = refl }

pub word_icmp : IsWord (codes "icmp") (keyword.Instruction instructions.Compare)
unfolding keyword_of lexeme_behind
word_icmp = record { word = refl; one_line = refl; keyword = refl; loud = refl; calm = refl }

pub word_select : IsWord (codes "select") (keyword.Instruction instructions.Select)
unfolding keyword_of lexeme_behind
word_select = record { word = refl; one_line = refl; keyword = refl; loud = refl; calm = refl }

pub word_phi : IsWord (codes "phi") (keyword.Instruction instructions.Phi)
unfolding keyword_of lexeme_behind
word_phi = record { word = refl; one_line = refl; keyword = refl; loud = refl; calm = refl }

pub word_alloca : IsWord (codes "alloca") (keyword.Instruction instructions.Alloca)
unfolding keyword_of lexeme_behind
word_alloca = record { word = refl; one_line = refl; keyword = refl; loud = refl; calm = refl }

pub word_load : IsWord (codes "load") (keyword.Instruction instructions.Load)
unfolding keyword_of lexeme_behind
word_load = record { word = refl; one_line = refl; keyword = refl; loud = refl; calm = refl }

pub word_store : IsWord (codes "store") (keyword.Instruction instructions.Store)
unfolding keyword_of lexeme_behind
word_store = record { word = refl; one_line = refl; keyword = refl; loud = refl; calm = refl }

pub word_call : IsWord (codes "call") (keyword.Instruction instructions.Call)
unfolding keyword_of lexeme_behind
word_call = record { word = refl; one_line = refl; keyword = refl; loud = refl; calm = refl }

pub word_ret : IsWord (codes "ret") (keyword.Instruction instructions.Ret)
unfolding keyword_of lexeme_behind
word_ret = record { word = refl; one_line = refl; keyword = refl; loud = refl; calm = refl }

pub word_br : IsWord (codes "br") (keyword.Instruction instructions.Br)
unfolding keyword_of lexeme_behind
word_br = record { word = refl; one_line = refl; keyword = refl; loud = refl; calm = refl }

pub word_switch : IsWord (codes "switch") (keyword.Instruction instructions.Switch)
unfolding keyword_of lexeme_behind
word_switch = record { word = refl; one_line = refl; keyword = refl; loud = refl; calm = refl }

pub word_unreachable : IsWord (codes "unreachable") (keyword.Instruction instructions.Unreachable)
unfolding keyword_of lexeme_behind
word_unreachable = record { word = refl; one_line = refl; keyword = refl; loud = refl; calm = refl }

pub word_type : IsWord (codes "type") (keyword.Statement statements.NamedType)
unfolding keyword_of lexeme_behind
word_type = record { word = refl; one_line = refl; keyword = refl; loud = refl; calm = refl }

pub word_global : IsWord (codes "global") (keyword.Statement statements.Global)
unfolding keyword_of lexeme_behind
word_global = record { word = refl; one_line = refl; keyword = refl; loud = refl; calm = refl }

pub word_constant : IsWord (codes "constant") (keyword.Statement statements.Constant)
unfolding keyword_of lexeme_behind
word_constant = record { word = refl; one_line = refl; keyword = refl; loud = refl; calm = refl }

pub word_declare : IsWord (codes "declare") (keyword.Statement statements.Declare)
unfolding keyword_of lexeme_behind
word_declare = record { word = refl; one_line = refl; keyword = refl; loud = refl; calm = refl }

pub word_define : IsWord (codes "define") (keyword.Statement statements.Define)
unfolding keyword_of lexeme_behind
word_define = record { word = refl; one_line = refl; keyword = refl; loud = refl; calm = refl }
