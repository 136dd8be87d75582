use Rattle.lx_ir_statements.proofs.WordLaws.{result_reads, result_finds, import_attributes_again, import_attributes_found, function_attributes_again, function_attributes_found}
use Rattle.lx_ir_statements.proofs.ParameterLaws.{heads_again}
use Rattle.lx_ir_statements.proofs.ParametersFound.{heads_found}
use Rattle.lx_ir_statements.proofs.ImportLaws.{import_parameters_read, import_parameters_found}
use Rattle.lx_ir_statements.proofs.head_laws.Goals as goal

pub returns-clause-parameters : goal.returns-clause-parameters
returns-clause-parameters c =
    record {
      defined = λ context. record { reads = heads_again context; finds = heads_found context };
      imported = record { reads = import_parameters_read; finds = import_parameters_found };
    }

pub returns-clause-words : goal.returns-clause-words
returns-clause-words c =
    record {
      results = record { reads = result_reads; finds = result_finds };
      behind_imports = record { reads = λ x ts us h. import_attributes_again x ts us h; finds = import_attributes_found };
      behind_functions = record { reads = λ x ts us h. function_attributes_again x ts us h; finds = function_attributes_found };
    }
