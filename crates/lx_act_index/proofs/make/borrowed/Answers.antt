-- The atom at the place is the first that nobody in reach keeps, and it was lent.
use Rattle.std.proofs.Common.{◌∙◌, ap, sym, refl, not, eq-eqb}
use Rattle.std.proofs.lemmas.Bool.{and_from}
use Rattle.lx_caps.specs.History.{holds_by_reach, kept_in_reach}
use Rattle.lx_certificates.specs.Certificates.{is_act, is_first_lacking, is_kernel}
use Rattle.lx_certificates.proofs.Making.{first_unkept}
use Rattle.lx_act_index.proofs.make.borrowed.Goals as goal

pub returns-in_ok-act-in-Some : goal.returns-in_ok-act-in-Some
returns-in_ok-act-in-Some c = λ h stands.
    let lack = c.requires.lack h stands in
    let x = c.in_ok-atom.atom in (
      (refl, refl, refl),
      and_from (not (is_kernel c.args.who)) _ (ap not c.requires.of_module)
          (and_from (holds_by_reach h c.args.who c.args.cap) _ (c.requires.held h stands)
          (and_from (is_first_lacking (kept_in_reach h c.args.who) c.args.cap x) _
          (first_unkept h c.args.who c.args.cap c.args.place x (c.in_ok-atom.ensures) lack.0 lack.1 lack.2)
          (ap (λ o. is_act o c.in_ok-act-in-Some.act) (sym (c.giver.ensures h stands) ∙ c.in-Some.is) ∙ eq-eqb c.in-Some.number c.in_ok-act-in-Some.act (sym (c.in_ok-act-in-Some.ensures))))),
    )
