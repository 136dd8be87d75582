use Rattle.lx_annot_read.specs.Texts.{SaysInterface}
use Rattle.lx_generate.specs.Interface.{interface_text}
use Rattle.lx_generated_laws.specs.Kernel.{interface}
use Rattle.lx_ir_calls.specs.declared.intrinsics.TextForm.TheVariants.{Program}
use Rattle.lx_generated_laws.proofs.Interfaces.{interface_is_said}
use Rattle.lx_generated_laws.proofs.Modules.{kernel_is_sound, module_is_sound}
use Rattle.lx_generated_laws.proofs.builtin_laws.Goals as goal

pub returns-clause-kernel : goal.returns-clause-kernel
returns-clause-kernel c = kernel_is_sound (c.round_trip_laws.ensures Program) c.every_text_laws.ensures.answered c.module_laws.ensures.found

pub returns-clause-interface : goal.returns-clause-interface
returns-clause-interface c =
    let says : SaysInterface interface_text interface = interface_is_said c.interface_lexeme_laws.ensures.scanned c.interface_lexeme_laws.ensures.placed in
    record { is = c.interface_laws.ensures.found interface_text interface says; says = says }

pub returns-clause-generated : goal.returns-clause-generated
returns-clause-generated c = module_is_sound c.lexeme_laws.ensures.scanned c.module_laws.ensures.found
