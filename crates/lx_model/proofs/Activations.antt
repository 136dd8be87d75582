-- What stands behind an activation.
use Rattle.std.proofs.Common.{Option, [], ap, sym, ◌∙◌, ◌≡◌}
use Rattle.lx_words.specs.Word.{Word}
use Rattle.lx_model.specs.Thread.{Activation, activation_behind, behind_head, head_destination, with_register}

pub behind_none : (a : Activation) (w : Option Word) → a.code ≡ [] → a ≡ activation_behind w a
behind_none a w e = sym (λ j. record a { code = (ap behind_head e ∙ sym e) j; registers = with_register (head_destination (e j)) w a.registers })
