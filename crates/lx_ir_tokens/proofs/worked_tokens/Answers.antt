use Rattle.std.proofs.Common.{refl}
use Rattle.lx_ir_tokens.specs.Keywords.{keyword_of}
use Rattle.lx_ir_tokens.specs.Said.{value_of_number}
use Rattle.lx_ir_tokens.proofs.worked_tokens.Goals as goal

pub returns : goal.returns
unfolding keyword_of value_of_number
returns c =
    record {
      operator = refl;
      comparison = refl;
      two_places = refl;
      string_mark = refl;
      debug = refl;
      heading = refl;
      plain = refl;
      quoted = refl;
      escapes = refl;
      zeros = refl;
      least = refl;
      wide = refl;
    }
