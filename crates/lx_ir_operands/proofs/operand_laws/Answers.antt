use Rattle.lx_ir_constants.proofs.PointerLaws.{flags_over, flags_found}
use Rattle.lx_ir_operands.proofs.AttributeLaws.{attributes_again, attributes_found}
use Rattle.lx_ir_operands.proofs.AttributeStops.{attributes_stop}
use Rattle.lx_ir_operands.proofs.FlagLaws.{flagged_scalar_reads, flagged_scalar_finds, flagged_type_reads, flagged_type_finds, flagged_truth_reads, flagged_truth_finds, typed_reads, typed_finds, flagged_typed_reads, flagged_typed_finds}
use Rattle.lx_ir_operands.proofs.ListedLaws.{edge_reads, edge_finds, edges_again, edges_found, indices_again, indices_found, case_reads, case_finds, cases_reads, cases_finds}
use Rattle.lx_ir_operands.proofs.OperandLaws.{second_reads, second_finds, address_reads, address_finds, again_reads, again_finds, local_reads, local_finds, label_reads, label_finds, next_label_reads, next_label_finds}
use Rattle.lx_ir_operands.proofs.PassedLaws.{metadata_again, metadata_found, align_again, align_found, passed_again, passed_found}
use Rattle.lx_ir_operands.proofs.ListedStops.{edges_stop, indices_stop, cases_stop, metadata_stops, align_stops, passed_stops}
use Rattle.lx_ir_operands.proofs.OperandStops.{flagged_scalar_stops, flagged_type_stops, flagged_truth_stops, typed_stops, flagged_typed_stops, second_stops, address_stops, again_stops, local_stops, label_stops, next_label_stops, edge_stops, case_stops}
use Rattle.lx_ir_operands.proofs.operand_laws.Goals as goal

pub returns-clause-operands : goal.returns-clause-operands
returns-clause-operands c =
    record {
      flagged_scalar = record { reads = flagged_scalar_reads; finds = flagged_scalar_finds };
      flagged_type = λ context. record { reads = flagged_type_reads context; finds = flagged_type_finds context };
      flagged_truth = record { reads = flagged_truth_reads; finds = flagged_truth_finds };
      typed = λ context. record { reads = typed_reads context; finds = typed_finds context };
      flagged_typed = λ context. record { reads = flagged_typed_reads context; finds = flagged_typed_finds context };
      second = λ context ty. record { reads = second_reads context ty; finds = second_finds context ty };
      address = λ context. record { reads = address_reads context; finds = address_finds context };
      again = λ context ty. record { reads = again_reads context ty; finds = again_finds context ty };
    }

pub returns-clause-labels : goal.returns-clause-labels
returns-clause-labels c =
    record {
      local = λ context. record { reads = local_reads context; finds = local_finds context };
      label = λ context. record { reads = label_reads context; finds = label_finds context };
      next_label = λ context. record { reads = next_label_reads context; finds = next_label_finds context };
      edge = λ context ty. record { reads = edge_reads context ty; finds = edge_finds context ty };
      case = λ context ty. record { reads = case_reads context ty; finds = case_finds context ty };
    }

pub returns-clause-lists : goal.returns-clause-lists
returns-clause-lists c =
    record {
      edges = λ context ty. record { reads = λ es ts us h q. edges_again context ty es ts us h q; finds = edges_found context ty };
      indices = λ context. record { reads = λ xs ts us h q. indices_again context xs ts us h q; finds = indices_found context };
      cases = λ context ty. record { reads = cases_reads context ty; finds = cases_finds context ty };
    }

pub returns-clause-passed_over : goal.returns-clause-passed_over
returns-clause-passed_over c =
    record {
      flags_skipped = flags_over;
      flags_found = flags_found;
      metadata = record { reads = metadata_again; finds = metadata_found };
      align = record { reads = align_again; finds = align_found };
      words = record { reads = passed_again; finds = passed_found };
      attributes = record { reads = attributes_again; finds = attributes_found };
    }

pub returns-clause-operands_refused : goal.returns-clause-operands_refused
returns-clause-operands_refused c =
    record {
      flagged_scalar = flagged_scalar_stops;
      flagged_type = flagged_type_stops;
      flagged_truth = flagged_truth_stops;
      typed = typed_stops;
      flagged_typed = flagged_typed_stops;
      second = second_stops;
      address = address_stops;
      again = again_stops;
      local = local_stops;
      label = label_stops;
      next_label = next_label_stops;
      edge = edge_stops;
      case = case_stops;
    }

pub returns-clause-lists_refused : goal.returns-clause-lists_refused
returns-clause-lists_refused c =
    record { edges = edges_stop; indices = indices_stop; cases = cases_stop; metadata = metadata_stops; align = align_stops; words = passed_stops }

pub returns-clause-attributes_refused : goal.returns-clause-attributes_refused
returns-clause-attributes_refused c = attributes_stop
