-- Widths by their tests.
use Rattle.std.proofs.Common.{refl, true, ◌≡◌}
use Rattle.std.specs.Prelude.{nat_eq}
use Rattle.lx_words.proofs.Tests.{false_true}
use Rattle.lx_words.specs.Width.{bit_count, same_width}
use Rattle.lx_words.specs.declared.word.Width.{Width}
use Rattle.lx_words.specs.declared.word.Width.TheVariants.{W1, W16, W32, W64, W8}

pub width_is : (v w : Width) → same_width v w ≡ true → v ≡ w
width_is W1 W1 e = refl
width_is W8 W8 e = refl
width_is W16 W16 e = refl
width_is W32 W32 e = refl
width_is W64 W64 e = refl
width_is _ _ e = false_true e

pub width_itself : (v : Width) → same_width v v ≡ true
width_itself W1 = refl
width_itself W8 = refl
width_itself W16 = refl
width_itself W32 = refl
width_itself W64 = refl

pub width_of_bits : (v w : Width) → nat_eq (bit_count v) (bit_count w) ≡ true → v ≡ w
width_of_bits W1 W1 e = refl
width_of_bits W8 W8 e = refl
width_of_bits W16 W16 e = refl
width_of_bits W32 W32 e = refl
width_of_bits W64 W64 e = refl
width_of_bits _ _ e = false_true e
