-- Each row computes.
use Rattle.std.proofs.Common.{refl}
use Rattle.lx_ir.specs.Fitting.{fitting_layouts}
use Rattle.lx_report.specs.Report.{number_text, address_text, signed_word_text}
use Rattle.lx_trace_text.proofs.worked_trace_texts.Goals as goal

pub returns : goal.returns
unfolding number_text address_text signed_word_text fitting_layouts
returns c =
    record {
      numbered = refl;
      nothing = refl;
      refused = refl;
      trapped = refl;
      native_at = refl;
      truth = refl;
      copy = refl;
      fill = refl;
      room = refl;
      left = refl;
      direct = refl;
      indirect = refl;
      through_slot = refl;
      no_slot = refl;
      native = refl;
      alias = refl;
      no_native = refl;
      in_global = refl;
      in_block = refl;
      given_anew = refl;
      in_stack = refl;
      at_end = refl;
      copied = refl;
      filled = refl;
      at_another_end = refl;
      locked = refl;
      before = refl;
      behind = refl;
      ends = refl;
      budget = refl;
    }
