use Rattle.std.proofs.Common.{◌∙◌, refl, subst, sym, ap}
use Rattle.lx_images.specs.Image.{Code}
use Rattle.lx_report.specs.Lawful.{HasLawfulModules}
use Rattle.lx_runs.specs.Runs.{images_of}
use Rattle.lx_runs.proofs.Formed.{lawful_modules}
use Rattle.lx_runs.proofs.Reported.{account_is}
use Rattle.lx_runs.proofs.report.report_of.Goals as goal

pub account-requires-clause-stands : goal.account-requires-clause-stands
account-requires-clause-stands g c = let given = c.requires in (given.0, given.1, given.2)

pub account-requires-clause-images : goal.account-requires-clause-images
account-requires-clause-images g c = let given = c.requires in given.4 ∙ ap (λ (d : Code). images_of d.program) (sym given.2.code)

pub report-requires : goal.report-requires
report-requires g c =
    let given = c.requires in
    subst HasLawfulModules (sym (c.program.ensures ∙ ap (λ (d : Code). d.program) given.2.code)) (lawful_modules given.0.program given.3)

pub returns : goal.returns
returns g c = (
  c.from_vec.result,
  c.all_returned-returned.result,
  refl,
  λ d v w stands same.
      let showing = c.simulation_laws.ensures.showing in
      account_is c.report_laws.ensures d.program w c.program.result.now c.in_ok-account.account c.schedule.result.now c.from_vec.result c.all_returned-returned.result
      (c.program.ensures ∙ ap (λ (e : Code). e.program) stands.code) (c.in_ok-account.ensures d v stands ∙ showing.accounts d w v same)
      (c.schedule.ensures d v stands ∙ showing.schedules d w v same) c.see_schedule.ensures
      (c.from_vec.ensures ∙ c.in_ok-text.ensures) (rw c.as_slice.ensures at c.all_returned-returned.ensures),
)
