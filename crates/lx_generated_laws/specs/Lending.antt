-- The built-in interface, but that a packet is lent to a driver for the time of one call.
use Rattle.std.specs.Prelude.{Some, [], ◌∷◌, codes}
use Rattle.lx_annot.specs.declared.expr.Ty.TheVariants as ty
use Rattle.lx_annot.specs.declared.action.CapSpec.TheVariants as spec
use Rattle.lx_annot.specs.declared.action.Who.TheVariants as who
use Rattle.lx_annot.specs.declared.interface.Interface.{Interface}
use Rattle.lx_annot.specs.Action as action
use Rattle.lx_annot.specs.Expr as expr
use Rattle.lx_annot.specs.declared.expr.Mark.TheVariants as mark
use Rattle.lx_generated_laws.specs.InterfaceTexts.{parameter, annotated, slot}
use Rattle.lx_generated_laws.specs.Kernel.{interface}

abbrev pub lending_interface : Interface
lending_interface =
    record interface {
      slots =
          slot (codes "probe") (parameter (codes "dev") ty.Ptr ∷ []) ty.I32
          (annotated (Some (who.Value (expr.Param 0 ty.Ptr))) (action.Copy (spec.Ref 0 (expr.Param 0 ty.Ptr)) ∷ [])
          (action.If (expr.Binary mark.Less (expr.Return ty.I32) (expr.Number 0)) (action.Transfer (spec.Ref 0 (expr.Param 0 ty.Ptr))) ∷ [])) 4
          ∷ slot (codes "xmit") (parameter (codes "skb") ty.Ptr ∷ parameter (codes "dev") ty.Ptr ∷ []) ty.I32
          (annotated (Some (who.Value (expr.Param 1 ty.Ptr))) (action.Lend (spec.Each 0 (expr.Param 0 ty.Ptr)) ∷ [])
          (action.with_end (action.Lend (spec.Each 0 (expr.Param 0 ty.Ptr)) ∷ []) [])) 5
          ∷ [];
    }
