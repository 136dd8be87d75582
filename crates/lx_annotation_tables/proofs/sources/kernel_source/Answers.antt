use Rattle.std.proofs.Common.{ap, ◌∙◌}
use Rattle.std.specs.Prelude.{bytes_eq, option_map, position}
use Rattle.lx_annot.specs.declared.interface.Interface.{Interface}
use Rattle.lx_serve.specs.declared.source.Source.TheVariants.{Export as AtExport}
use Rattle.lx_annotation_tables.proofs.Told.{kernel_told}
use Rattle.lx_annotation_tables.proofs.sources.kernel_source.Goals as goal

pub returns-in-Some : goal.returns-in-Some
returns-in-Some c =
    kernel_told c.args.program.now c.args.function c.in-Some.function.now c.export_source.result c.in-Some.ensures
    (c.export_source.ensures ∙ ap (λ (i : Interface). option_map AtExport (position (λ e. bytes_eq e.name c.in-Some.function.now.name) i.exports)) c.requires.same)
