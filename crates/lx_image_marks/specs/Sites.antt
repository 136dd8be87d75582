-- An instruction with its neighbours, in a function of an image.
use Rattle.std.specs.Prelude.{Bool, true, Option, option_copied, option_map}
use Rattle.lx_ir.specs.declared.module.Value.TheVariants as value
use Rattle.lx_ir.specs.declared.instr.Callee.{Callee}
use Rattle.lx_ir.specs.declared.instr.Callee.TheVariants as callee
use Rattle.lx_ir.specs.declared.instr.Op.{Op}
use Rattle.lx_ir.specs.declared.instr.Op.TheVariants as op
use Rattle.lx_image_texts.specs.ImageFaults.{Kind, ImageFault, fault_at, kind_at, same_mark}
use Rattle.lx_spared.specs.Rooms.{AreRoomsOf}
use Rattle.lx_image_marks.specs.declared.walk.Body.{Body}
use Rattle.lx_image_marks.specs.declared.walk.Site.{Site}

-- the rooms are those of the function
abbrev pub HasRooms : Body → Type 0
HasRooms b = AreRoomsOf b.text.now b.function.now b.rooms

abbrev pub kind_of_site : Body → Site → Option Kind
kind_of_site b s = kind_at b.text.now b.function.now (option_copied s.before) s.instr.now.op (option_copied s.next)

abbrev pub fault_of : Body → Site → Option ImageFault
fault_of b s = option_map (fault_at b.function.now s.place s.instr.now) (kind_of_site b s)

-- the mark is the one that a call of this wants, if it wants one
abbrev pub fits_called : Op → Callee → Bool
fits_called o (callee.Register r) = same_mark o (op.Check (value.Register r))
fits_called o (callee.Symbol s) = true
