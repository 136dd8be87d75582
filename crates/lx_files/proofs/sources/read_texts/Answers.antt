use Rattle.std.proofs.Common.{◌∙◌, ℕ, ap, length, Option, Ok, Err}
use Rattle.std.proofs.lemmas.Result.{err_from_is_err_and}
use Rattle.lx_script.specs.Case.{Case}
use Rattle.lx_files.specs.Asked.{Asked, asked_by}
use Rattle.lx_files.specs.Inputs.{sources}
use Rattle.lx_files.proofs.Parts.{kernel_then, interface_then, modules_then, schedule_then, image_then, kernel_stop, interface_stop, modules_stop, schedule_stop, image_stop, same_number}
use Rattle.lx_files.proofs.sources.read_texts.Goals as goal

pub returns-in_err-kernel : goal.returns-in_err-kernel
returns-in_err-kernel g c =
    let p = err_from_is_err_and c.from_residual.result c.from_residual.ensures.1 in
    rw (p.1, p.2) (record { sound = tt; there = tt; turn = kernel_stop (asked_by c.args.asked) c.args.number c.args.case c.case.inside.kernel c.in_err-kernel.field-0.0 (ap (λ (x : Case). x.kernel) c.case.view_is) c.in_err-kernel.ensures.turn })

pub returns-in_err-interface : goal.returns-in_err-interface
returns-in_err-interface g c =
    let p = err_from_is_err_and c.from_residual-in_err-interface.result c.from_residual-in_err-interface.ensures.1 in
    rw (p.1, p.2) (record {
      sound = tt;
      there = tt;
      turn = kernel_then (asked_by c.args.asked) c.args.number c.args.case c.case.inside.kernel c.in_ok-kernel.kernel (Err c.in_err-interface.field-0.0) (ap (λ (x : Case). x.kernel) c.case.view_is) c.in_ok-kernel.ensures.turn
          (interface_stop (asked_by c.args.asked) c.args.number c.args.case c.in_ok-kernel.kernel c.case.inside.interface c.in_err-interface.field-0.0 (ap (λ (x : Case). x.interface) c.case.view_is) c.in_err-interface.ensures.turn);
    })

pub returns-in_err-modules : goal.returns-in_err-modules
returns-in_err-modules g c =
    let p = err_from_is_err_and c.from_residual-in_err-modules.result c.from_residual-in_err-modules.ensures.1 in
    rw (p.1, p.2) (record {
      sound = tt;
      there = tt;
      turn = kernel_then (asked_by c.args.asked) c.args.number c.args.case c.case.inside.kernel c.in_ok-kernel.kernel (Err c.in_err-modules.field-0.0) (ap (λ (x : Case). x.kernel) c.case.view_is) c.in_ok-kernel.ensures.turn
          (interface_then (asked_by c.args.asked) c.args.number c.args.case c.in_ok-kernel.kernel c.case.inside.interface c.in_ok-interface.interface (Err c.in_err-modules.field-0.0) (ap (λ (x : Case). x.interface) c.case.view_is) c.in_ok-interface.ensures.turn
          (modules_stop (asked_by c.args.asked) c.args.number c.args.case c.in_ok-kernel.kernel c.in_ok-interface.interface c.as_slice.result.now c.in_err-modules.field-0.0 (c.as_slice.ensures ∙ ap (λ (x : Case). x.modules) c.case.view_is) c.in_err-modules.ensures.turn));
    })

pub returns-in_err-schedule : goal.returns-in_err-schedule
returns-in_err-schedule g c =
    let p = err_from_is_err_and c.from_residual-in_err-schedule.result c.from_residual-in_err-schedule.ensures.1 in
    rw (p.1, p.2) (record {
      sound = tt;
      there = tt;
      turn = kernel_then (asked_by c.args.asked) c.args.number c.args.case c.case.inside.kernel c.in_ok-kernel.kernel (Err c.in_err-schedule.field-0.0) (ap (λ (x : Case). x.kernel) c.case.view_is) c.in_ok-kernel.ensures.turn
          (interface_then (asked_by c.args.asked) c.args.number c.args.case c.in_ok-kernel.kernel c.case.inside.interface c.in_ok-interface.interface (Err c.in_err-schedule.field-0.0) (ap (λ (x : Case). x.interface) c.case.view_is) c.in_ok-interface.ensures.turn
          (modules_then (asked_by c.args.asked) c.args.number c.args.case c.in_ok-kernel.kernel c.in_ok-interface.interface c.as_slice.result.now c.in_ok-modules.modules (Err c.in_err-schedule.field-0.0) (c.as_slice.ensures ∙ ap (λ (x : Case). x.modules) c.case.view_is) c.in_ok-modules.ensures.turn
          (schedule_stop (asked_by c.args.asked) c.args.number c.args.case c.in_ok-kernel.kernel c.in_ok-interface.interface c.in_ok-modules.modules c.in_err-schedule.field-0.0 c.in_err-schedule.ensures.turn)));
    })

pub returns-in_err-image : goal.returns-in_err-image
returns-in_err-image g c =
    let p = err_from_is_err_and c.from_residual-in_err-image.result c.from_residual-in_err-image.ensures.1 in
    rw (p.1, p.2) (record {
      sound = tt;
      there = tt;
      turn = kernel_then (asked_by c.args.asked) c.args.number c.args.case c.case.inside.kernel c.in_ok-kernel.kernel (Err c.in_err-image.field-0.0) (ap (λ (x : Case). x.kernel) c.case.view_is) c.in_ok-kernel.ensures.turn
          (interface_then (asked_by c.args.asked) c.args.number c.args.case c.in_ok-kernel.kernel c.case.inside.interface c.in_ok-interface.interface (Err c.in_err-image.field-0.0) (ap (λ (x : Case). x.interface) c.case.view_is) c.in_ok-interface.ensures.turn
          (modules_then (asked_by c.args.asked) c.args.number c.args.case c.in_ok-kernel.kernel c.in_ok-interface.interface c.as_slice.result.now c.in_ok-modules.modules (Err c.in_err-image.field-0.0) (c.as_slice.ensures ∙ ap (λ (x : Case). x.modules) c.case.view_is) c.in_ok-modules.ensures.turn
          (schedule_then (asked_by c.args.asked) c.args.number c.args.case c.in_ok-kernel.kernel c.in_ok-interface.interface c.in_ok-modules.modules c.in_ok-schedule.schedule (Err c.in_err-image.field-0.0) c.in_ok-schedule.ensures.turn
          (image_stop (asked_by c.args.asked) c.args.number c.args.case c.in_ok-kernel.kernel c.in_ok-interface.interface c.in_ok-modules.modules c.in_ok-schedule.schedule c.in_err-image.field-0.0 c.in_err-image.ensures.turn))));
    })

pub returns : goal.returns
returns g c =
    let as_many = c.in_ok-modules.ensures.as_many ∙ ap length (c.as_slice.ensures ∙ ap (λ (x : Case). x.modules) c.case.view_is) in
    record {
      turn = kernel_then (asked_by c.args.asked) c.args.number c.args.case c.case.inside.kernel c.in_ok-kernel.kernel (Ok (sources c.args.case c.in_ok-kernel.kernel c.in_ok-interface.interface c.in_ok-modules.modules c.args.number c.in_ok-schedule.schedule c.in_ok-image.image)) (ap (λ (x : Case). x.kernel) c.case.view_is) c.in_ok-kernel.ensures.turn
          (interface_then (asked_by c.args.asked) c.args.number c.args.case c.in_ok-kernel.kernel c.case.inside.interface c.in_ok-interface.interface (Ok (sources c.args.case c.in_ok-kernel.kernel c.in_ok-interface.interface c.in_ok-modules.modules c.args.number c.in_ok-schedule.schedule c.in_ok-image.image)) (ap (λ (x : Case). x.interface) c.case.view_is) c.in_ok-interface.ensures.turn
          (modules_then (asked_by c.args.asked) c.args.number c.args.case c.in_ok-kernel.kernel c.in_ok-interface.interface c.as_slice.result.now c.in_ok-modules.modules (Ok (sources c.args.case c.in_ok-kernel.kernel c.in_ok-interface.interface c.in_ok-modules.modules c.args.number c.in_ok-schedule.schedule c.in_ok-image.image)) (c.as_slice.ensures ∙ ap (λ (x : Case). x.modules) c.case.view_is) c.in_ok-modules.ensures.turn
          (schedule_then (asked_by c.args.asked) c.args.number c.args.case c.in_ok-kernel.kernel c.in_ok-interface.interface c.in_ok-modules.modules c.in_ok-schedule.schedule (Ok (sources c.args.case c.in_ok-kernel.kernel c.in_ok-interface.interface c.in_ok-modules.modules c.args.number c.in_ok-schedule.schedule c.in_ok-image.image)) c.in_ok-schedule.ensures.turn
          (image_then (asked_by c.args.asked) c.args.number c.args.case c.in_ok-kernel.kernel c.in_ok-interface.interface c.in_ok-modules.modules c.in_ok-schedule.schedule c.in_ok-image.image c.in_ok-image.ensures.turn))));
      there = record { number = c.requires.given; schedule = c.in_ok-schedule.ensures.given; image = c.in_ok-image.ensures.given };
      sound = record {
        kernel = c.in_ok-kernel.ensures.sound;
        interface = c.in_ok-interface.ensures.lawful;
        modules = c.in_ok-modules.ensures.sound;
        as_many = as_many;
        number = same_number c.args.case c.in_ok-modules.modules c.args.number as_many c.requires.number;
        image = c.in_ok-image.ensures.sound;
      };
    }
