use Rattle.std.proofs.Common.{◌∙◌, ap, subst, sym, List}
use Rattle.lx_model.specs.declared.account.Account.{Account}
use Rattle.lx_model.specs.declared.account.InstanceName.{InstanceName}
use Rattle.lx_model.specs.declared.program.Program.{Program}
use Rattle.lx_report.specs.Lawful.{HasLawfulModules}
use Rattle.lx_runs.proofs.Formed.{lawful_modules}
use Rattle.lx_trace_text.specs.Text.{trace_text}
use Rattle.lx_trace.proofs.input.text_of.Goals as goal

pub trace_text-text-requires : goal.trace_text-text-requires
trace_text-text-requires g c =
    let given = c.requires in
    subst HasLawfulModules (sym (c.program.ensures given.0 given.1 given.2 given.3)) (lawful_modules given.0 given.3.formed)

pub returns-in-Ok-clause-text : goal.returns-in-Ok-clause-text
returns-in-Ok-clause-text g c = λ p script s run.
    let names = c.as_slice-2.result.now in
    let events = c.args.events.now in
    c.from_vec.ensures ∙ c.in-Ok.ensures
    ∙ ap (λ (q : Program). trace_text q names events) (c.program.ensures p script s run)
    ∙ ap (λ (ns : List InstanceName). trace_text p ns events) (c.as_slice-2.ensures ∙ ap (λ (a : Account). a.names) (c.in_ok-account.ensures p script s run))
