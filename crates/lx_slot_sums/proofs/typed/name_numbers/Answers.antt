use Rattle.std.proofs.Common.{bytes_eq}
use Rattle.lx_words.proofs.Lists.{first_all}
use Rattle.lx_annot.specs.declared.interface.Field.{Field}
use Rattle.lx_slot_sums.proofs.Numbering.{has_names}
use Rattle.lx_slot_sums.proofs.typed.name_numbers.Goals as goal

pub returns : goal.returns
returns c = has_names c.args.fields.now _ (λ name. first_all (λ (f : Field). bytes_eq f.name name) c.args.fields.now c.loop-left.left _ c.loop-left-test.false (c.loop-left.invariant.so_far name))
