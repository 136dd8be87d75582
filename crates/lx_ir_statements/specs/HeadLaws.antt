-- Reading and the grammar of the heads of functions agree.
use Rattle.std.specs.Prelude.{true}
use Rattle.lx_ir_terms.specs.Context.{Context}
use Rattle.lx_ir_terms.specs.Words.{passed_result_at}
use Rattle.lx_ir_operands.specs.Grammar.{Repeated, IsAttribute}
use Rattle.lx_ir_operands.specs.Laws.{Agrees, AgreesBefore, BeginsNot}
use Rattle.lx_ir_statements.specs.Words.{has_import_attribute, import_attributes_at, has_function_attribute, function_attributes_at}
use Rattle.lx_ir_statements.specs.Parameters.{parameters_at}
use Rattle.lx_ir_statements.specs.Imports.{import_parameters_at}
use Rattle.lx_ir_statements.specs.HeadGrammar.{IsResult, IsHead, AreImportParameters}

-- parameters in their parentheses
pub record ParametersAgree : Type 0 where
  pub defined : (context : Context) → Agrees (parameters_at context) (IsHead context)
  pub imported : Agrees import_parameters_at AreImportParameters

-- results behind their words, and the words behind parentheses
pub record WordsAgree : Type 0 where
  pub results : Agrees (passed_result_at true) IsResult
  pub behind_imports : AgreesBefore (BeginsNot has_import_attribute) import_attributes_at (λ x. Repeated IsAttribute)
  pub behind_functions : AgreesBefore (BeginsNot has_function_attribute) function_attributes_at (λ x. Repeated IsAttribute)
