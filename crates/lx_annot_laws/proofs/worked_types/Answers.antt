use Rattle.std.proofs.Common.{◌≡◌, refl}
use Rattle.lx_cproto.specs.Types.{word_type, unsigned_type, base_at, type_at}
use Rattle.lx_annot_laws.specs.TypeRows.{WorkedTypes}
use Rattle.lx_annot_laws.proofs.worked_types.Goals as goal

pub returns : goal.returns
unfolding type_at base_at word_type unsigned_type
returns c =
    record {
      void = (refl, refl);
      bool = (refl, refl);
      c_bool = (refl, refl);
      char = (refl, refl);
      signed_char = (refl, refl);
      unsigned_char = (refl, refl);
      short = (refl, refl);
      unsigned_short = (refl, refl);
      int = (refl, refl);
      unsigned = (refl, refl);
      unsigned_int = (refl, refl);
      long = (refl, refl);
      unsigned_long = (refl, refl);
      long_long = (refl, refl);
      unsigned_long_long = (refl, refl);
      size = (refl, refl);
      struct = refl;
      no_struct = refl;
      nameless_struct = refl;
      const_before = refl;
      const_inside = refl;
      const_pointer = refl;
      const_struct = refl;
      const_alone = refl;
      long_behind_int = refl;
      third_long = refl;
      int_behind_long = refl;
      word_behind_star = refl;
      signed_alone = refl;
      signed_int = refl;
      other_word = refl;
      nothing = refl;
      void_value = refl;
      void_pointer = refl;
    }
