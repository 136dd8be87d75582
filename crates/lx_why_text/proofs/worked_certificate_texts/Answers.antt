-- Each row computes.
use Rattle.std.proofs.Common.{refl}
use Rattle.lx_report.specs.Report.{number_text, address_text}
use Rattle.lx_why_text.proofs.worked_certificate_texts.Goals as goal

pub returns : goal.returns
unfolding number_text address_text
returns c =
    record {
      past_the_end = refl;
      in_order = refl;
      kept = refl;
      borrowed = refl;
      stripped = refl;
      loan = refl;
      lend = refl;
      shut = refl;
      of_kernel = refl;
      zeroed = refl;
    }
