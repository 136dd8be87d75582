-- Each row computes.
use Rattle.std.proofs.Common.{refl}
use Rattle.lx_report.specs.Report.{number_text, address_text, signed_word_text}
use Rattle.lx_report.proofs.worked_reports.Goals as goal

pub returns : goal.returns
unfolding number_text address_text signed_word_text
returns c =
    record {
      within = refl;
      past_the_end = refl;
      across = refl;
      racing = refl;
      another_annotation = refl;
      writer = refl;
      alias = refl;
      null_name = refl;
      reference = refl;
      beyond = refl;
      borrowed = refl;
      negative = refl;
      truth = refl;
      address = refl;
      not_live = refl;
      minus = refl;
    }
