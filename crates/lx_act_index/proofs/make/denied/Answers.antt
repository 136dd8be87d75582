-- The atom at the place is the first that nobody in reach owns.
use Rattle.std.proofs.Common.{◌∙◌, ap, sym, refl, not}
use Rattle.std.proofs.lemmas.Bool.{and_from}
use Rattle.lx_caps.specs.History.{reached}
use Rattle.lx_certificates.specs.Certificates.{is_first_lacking, is_kernel, same_number}
use Rattle.lx_certificates.proofs.Making.{first_unowned}
use Rattle.lx_act_index.proofs.make.denied.Goals as goal

pub returns : goal.returns
returns c = λ h stands.
    let need = c.args.need in
    let lack = c.requires.lack h stands in
    let x = c.in_ok-atom.atom in (
      (refl, refl),
      and_from (not (is_kernel need.who)) _ (ap not c.requires.of_module)
          (and_from (is_first_lacking (reached h need.who) need.cap x) _
          (first_unowned h need.who need.cap c.args.place x (c.in_ok-atom.ensures) lack.0 lack.1 lack.2)
          (sym (ap (same_number c.in_ok-strip.strip) (c.newest_strip.ensures h stands)) ∙ c.in_ok-strip.ensures)),
    )
