use Rattle.std.proofs.Common.{refl}
use Rattle.lx_annot_laws.proofs.worked_pieces.Goals as goal

pub returns : goal.returns
returns c =
    record {
      word_ends = refl;
      word_goes_on = refl;
      name_goes_on = refl;
      number_ends = refl;
      number_goes_on = refl;
      bracket_ends = refl;
      mark_ends = refl;
      mark_goes_on = refl;
      long_mark_ends = refl;
      comment_goes_on = refl;
      expression_opens = refl;
      mark_opens_none = refl;
      text = refl;
      tokens = refl;
    }
