-- A worked row: an interface with one of each kind, and its text.
use Rattle.std.specs.Prelude.{◌≡◌, Some, None, [], ◌∷◌, length, codes}
use Rattle.lx_annot.specs.declared.expr.Mark.TheVariants as mark
use Rattle.lx_annot.specs.declared.expr.Ty.TheVariants as ty
use Rattle.lx_annot.specs.declared.action.CapSpec.TheVariants as spec
use Rattle.lx_annot.specs.declared.action.Who.TheVariants as who
use Rattle.lx_annot.specs.declared.interface.Interface.{Interface}
use Rattle.lx_annot.specs.Action.{Copy, Transfer, If}
use Rattle.lx_annot.specs.Expr.{Number, Param, Return, Binary}
use Rattle.lx_cproto_print.specs.Printed.{interface_text}
use Rattle.lx_annot_laws.specs.RoundTripLaws.{lines_of}

abbrev pub of_each : Interface
of_each = record {
  reftypes = codes "device" ∷ [];
  iterators = record { name = codes "caps"; items = record { cond = Some (Param 0 ty.Ptr); cap = spec.Write (Param 0 ty.Ptr) (Number 8) } ∷ []; line = 0 } ∷ [];
  slots = record { name = codes "probe"; params = record { name = codes "dev"; ty = ty.Ptr } ∷ []; ret = ty.I32; annotation = record { principal = Some (who.Value (Param 0 ty.Ptr)); pre = Copy (spec.Ref 0 (Param 0 ty.Ptr)) ∷ []; post = [] }; line = 0 } ∷ [];
  fields = record { name = codes "dev ops"; index = 0; slot = 0; line = 0 } ∷ [];
  exports = record { name = codes "kmalloc"; params = record { name = codes "n"; ty = ty.I64 } ∷ []; ret = ty.Ptr; annotation = record { principal = None; pre = []; post = If (Binary mark.Differs (Return ty.Ptr) (Number 0)) (Transfer (spec.Write (Return ty.Ptr) (Param 0 ty.I64))) ∷ [] }; line = 0 } ∷ [];
}

pub record WorkedInterface : Type 0 where
  pub text : interface_text of_each ≡ codes "interface 2\nreftype device\niterator caps(p) { if (p) write p, 8 }\nslot probe : i32 (ptr dev) principal(dev) pre(copy(ref(device), dev))\nfield %\"dev ops\" 0 : probe\nexport kmalloc : ptr (i64 n) post(if ((return != 0)) transfer(write, return, n))\n"
  pub lines : length (lines_of of_each) ≡ 5
