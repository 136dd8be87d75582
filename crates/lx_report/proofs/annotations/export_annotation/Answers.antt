use Rattle.lx_report.proofs.Exports.{annotation_found, no_annotation_found}
use Rattle.lx_report.proofs.annotations.export_annotation.Goals as goal

pub returns-in-Some : goal.returns-in-Some
returns-in-Some c =
    let told = c.args.told.now in
    annotation_found told.interface told.teller.program.now.interface c.args.name.now c.in-Some.place _ told.same c.in-Some.ensures.place c.annotation_at.ensures

pub returns-in-None : goal.returns-in-None
returns-in-None c =
    let told = c.args.told.now in
    no_annotation_found told.interface told.teller.program.now.interface c.args.name.now told.same c.in-None.ensures.place
