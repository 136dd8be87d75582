use Rattle.std.proofs.Common.{refl}
use Rattle.lx_ir_tokens.specs.Keywords.{keyword_of}
use Rattle.lx_ir_complete.proofs.worked_pieces.Goals as goal

pub returns : goal.returns
unfolding keyword_of
returns c =
    record {
      word_ends = refl;
      word_goes_on = refl;
      string_goes_on = refl;
      name_goes_on = refl;
      number_ends = refl;
      number_goes_on = refl;
      mark_ends = refl;
      comment_goes_on = refl;
      text = refl;
      tokens = refl;
      heading = refl;
      label = refl;
      dollar = refl;
      instruction = refl;
    }
