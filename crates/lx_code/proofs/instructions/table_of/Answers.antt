use Rattle.std.proofs.Common.{◌≡◌, refl, sym, subst, ℕ, true, IsTrue, Some, IsSome, List}
use Rattle.std.specs.Prelude.{IfSome}
use Rattle.lx_ir.specs.declared.instr.Edge.{Edge}
use Rattle.lx_ir.specs.declared.instr.Op.{Op}
use Rattle.lx_ir.specs.declared.instr.Op.TheVariants as op
use Rattle.lx_ir.specs.declared.instr.SwitchCase.{SwitchCase}
use Rattle.lx_ir.specs.declared.module.Module.{Module}
use Rattle.lx_ir.specs.declared.module.Value.{Value}
use Rattle.lx_ir.specs.Layout.{is_lawful_type}
use Rattle.lx_code.specs.Sized.{is_sized}
use Rattle.lx_code.specs.Firsts.{Numbers}
use Rattle.lx_code.specs.Fits.{wants_table, FitsAt, FitsOp}
use Rattle.lx_code.proofs.Large.{wants_none}
use Rattle.lx_code.proofs.Placed.{switch_fits, phi_fits, room_fits, route_fits}
use Rattle.lx_code.proofs.instructions.table_of.Goals as goal

pub returns-in_ok-table-in-Switch-clause-fits : goal.returns-in_ok-table-in-Switch-clause-fits
returns-in_ok-table-in-Switch-clause-fits g c =
    let types = (g.C.PlacedText.has c.args.text.now).types in
    let numbers = g.C.PlacedText.comes_to c.args.text.now in
    let found = c.in_ok-table-in-Switch.table in
    subst (λ (o : Op). FitsAt types numbers (Some o) found) (sym c.in-Switch.is)
    (switch_fits types numbers c.in-Switch.ty c.in-Switch.value c.in-Switch.otherwise c.in-Switch.cases c.as_slice.result.now found c.as_slice.ensures c.in_ok-table-in-Switch.ensures.fits)

pub returns-in_ok-table-in-Phi-clause-fits : goal.returns-in_ok-table-in-Phi-clause-fits
returns-in_ok-table-in-Phi-clause-fits g c =
    let types = (g.C.PlacedText.has c.args.text.now).types in
    let numbers = g.C.PlacedText.comes_to c.args.text.now in
    let found = c.in_ok-table-in-Phi.table in
    subst (λ (o : Op). FitsAt types numbers (Some o) found) (sym c.in-Phi.is)
    (phi_fits types numbers c.in-Phi.to c.in-Phi.ty c.in-Phi.edges c.as_slice-in-Phi.result.now found c.as_slice-in-Phi.ensures c.in_ok-table-in-Phi.ensures.fits)

pub returns-in_ok-table-in-Switch-clause-large : goal.returns-in_ok-table-in-Switch-clause-large
returns-in_ok-table-in-Switch-clause-large g c =
    let found = c.in_ok-table-in-Switch.table in
    let s = c.in-Switch in
    subst (λ (o : Op). wants_table o ≡ true → IsSome found) (sym c.in-Switch.is)
    (subst (λ (l : List SwitchCase). wants_table (op.Switch s.ty s.value s.otherwise l) ≡ true → IsSome found) c.as_slice.ensures (c.in_ok-table-in-Switch.ensures.large s.ty s.value s.otherwise))

pub returns-in_ok-table-in-Phi-clause-large : goal.returns-in_ok-table-in-Phi-clause-large
returns-in_ok-table-in-Phi-clause-large g c =
    let found = c.in_ok-table-in-Phi.table in
    let s = c.in-Phi in
    subst (λ (o : Op). wants_table o ≡ true → IsSome found) (sym c.in-Phi.is)
    (subst (λ (l : List Edge). wants_table (op.Phi s.to s.ty l) ≡ true → IsSome found) c.as_slice-in-Phi.ensures (c.in_ok-table-in-Phi.ensures.large s.to s.ty))

pub returns-in-Alloca-clause-large : goal.returns-in-Alloca-clause-large
returns-in-Alloca-clause-large g c = wants_none c.args.op.now (op.Alloca c.in-Alloca.to c.in-Alloca.ty) c.table_of_room.result c.in-Alloca.is refl

pub returns-in_ok-table-in-GetElementPtr-clause-large : goal.returns-in_ok-table-in-GetElementPtr-clause-large
returns-in_ok-table-in-GetElementPtr-clause-large g c =
    let s = c.in-GetElementPtr in
    wants_none c.args.op.now (op.GetElementPtr s.to s.ty s.base s.indices) c.in_ok-table-in-GetElementPtr.table c.in-GetElementPtr.is refl

pub returns-in-Alloca-clause-fits : goal.returns-in-Alloca-clause-fits
returns-in-Alloca-clause-fits g c =
    let types = (g.C.PlacedText.has c.args.text.now).types in
    let numbers = g.C.PlacedText.comes_to c.args.text.now in
    let found = c.table_of_room.result in
    subst (λ (o : Op). FitsAt types numbers (Some o) found) (sym c.in-Alloca.is) (room_fits types numbers c.in-Alloca.to c.in-Alloca.ty found
    (subst (λ (m : Module). IfSome found (λ t. (numbers : Numbers) → (to : ℕ) → FitsOp m.types numbers (op.Alloca to c.in-Alloca.ty) t)) c.text.ensures c.table_of_room.ensures))

pub returns-in_ok-table-in-GetElementPtr-clause-fits : goal.returns-in_ok-table-in-GetElementPtr-clause-fits
returns-in_ok-table-in-GetElementPtr-clause-fits g c =
    let types = (g.C.PlacedText.has c.args.text.now).types in
    let numbers = g.C.PlacedText.comes_to c.args.text.now in
    let found = c.in_ok-table-in-GetElementPtr.table in
    subst (λ (o : Op). FitsAt types numbers (Some o) found) (sym c.in-GetElementPtr.is)
    (route_fits types numbers c.in-GetElementPtr.to c.in-GetElementPtr.ty c.in-GetElementPtr.base c.in-GetElementPtr.indices c.as_slice-in-GetElementPtr.result.now found
    c.as_slice-in-GetElementPtr.ensures
    (subst (λ (m : Module). IfSome found (λ t. (numbers : Numbers) → (to : ℕ) → (base : Value) → FitsOp m.types numbers (op.GetElementPtr to c.in-GetElementPtr.ty base c.as_slice-in-GetElementPtr.result.now) t))
    c.text-in-GetElementPtr.ensures c.in_ok-table-in-GetElementPtr.ensures))

pub table_of_room-requires : goal.table_of_room-requires
table_of_room-requires g c =
    let types = (g.C.PlacedText.has c.args.text.now).types in
    subst (λ (m : Module). IsTrue (is_lawful_type m.types c.in-Alloca.ty)) (sym c.text.ensures) (subst (λ (o : Op). IsTrue (is_sized types o)) c.in-Alloca.is c.requires)

pub table_of_route-requires : goal.table_of_route-requires
table_of_route-requires g c =
    let types = (g.C.PlacedText.has c.args.text.now).types in
    subst (λ (m : Module). IsTrue (is_lawful_type m.types c.in-GetElementPtr.ty)) (sym c.text-in-GetElementPtr.ensures)
    (subst (λ (o : Op). IsTrue (is_sized types o)) c.in-GetElementPtr.is c.requires)
