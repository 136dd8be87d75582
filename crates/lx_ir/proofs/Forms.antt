-- An instruction that has none of some forms has one of the others.
use Rattle.std.proofs.Common.{◌≡◌, ℕ, Bool, true, false, Option, List, refl}
use Rattle.lx_words.specs.declared.word.BinOp.{BinOp}
use Rattle.lx_words.specs.declared.word.Pred.{Pred}
use Rattle.lx_ir.specs.declared.types.Scalar.{Scalar}
use Rattle.lx_ir.specs.declared.module.Symbol.{Symbol}
use Rattle.lx_ir.specs.declared.module.Value.{Value}
use Rattle.lx_ir.specs.declared.instr.Argument.{Argument}
use Rattle.lx_ir.specs.declared.instr.Callee.{Callee}
use Rattle.lx_ir.specs.declared.instr.Conversion.{Conversion}
use Rattle.lx_ir.specs.declared.instr.Edge.{Edge}
use Rattle.lx_ir.specs.declared.instr.UnaryOp.{UnaryOp}
use Rattle.lx_ir.specs.declared.instr.Op.{Op}
use Rattle.lx_ir.specs.declared.instr.Op.TheVariants as op
use Rattle.lx_ir.specs.declared.instr.SwitchCase.{SwitchCase}
use Rattle.lx_ir.specs.IrType.{IrType}
use Rattle.lx_ir.specs.Forms.{is_value, is_end}

pub no_value : (x : Op) → ((to : ℕ) (o : BinOp) (ty : Scalar) (a : Value) (b : Value) → x ≡ op.Binary to o ty a b → ⊥) → ((to : ℕ) (p : Pred) (ty : Scalar) (a : Value) (b : Value) → x ≡ op.Compare to p ty a b → ⊥) → ((to : ℕ) (how : Conversion) (ty : Scalar) (a : Value) (into : Scalar) → x ≡ op.Convert to how ty a into → ⊥) → ((to : ℕ) (o : UnaryOp) (ty : Scalar) (a : Value) → x ≡ op.Unary to o ty a → ⊥) → ((to : ℕ) (v : Value) (ty : Scalar) (a : Value) (b : Value) → x ≡ op.Select to v ty a b → ⊥) → ((to : ℕ) (ty : Scalar) (edges : List Edge) → x ≡ op.Phi to ty edges → ⊥) → ((to : ℕ) (t : IrType) → x ≡ op.Alloca to t → ⊥) → is_value x ≡ false
no_value (op.Binary to o ty a b) nbinary ncompare nconvert nunary nselect nphi nalloca = absurd (nbinary to o ty a b refl)
no_value (op.Compare to p ty a b) nbinary ncompare nconvert nunary nselect nphi nalloca = absurd (ncompare to p ty a b refl)
no_value (op.Convert to how ty a into) nbinary ncompare nconvert nunary nselect nphi nalloca = absurd (nconvert to how ty a into refl)
no_value (op.Unary to o ty a) nbinary ncompare nconvert nunary nselect nphi nalloca = absurd (nunary to o ty a refl)
no_value (op.Select to v ty a b) nbinary ncompare nconvert nunary nselect nphi nalloca = absurd (nselect to v ty a b refl)
no_value (op.Phi to ty edges) nbinary ncompare nconvert nunary nselect nphi nalloca = absurd (nphi to ty edges refl)
no_value (op.Alloca to t) nbinary ncompare nconvert nunary nselect nphi nalloca = absurd (nalloca to t refl)
no_value (op.Load to ty at) nbinary ncompare nconvert nunary nselect nphi nalloca = refl
no_value (op.Store ty v at) nbinary ncompare nconvert nunary nselect nphi nalloca = refl
no_value (op.GetElementPtr to t base indices) nbinary ncompare nconvert nunary nselect nphi nalloca = refl
no_value (op.Call to ret callee args) nbinary ncompare nconvert nunary nselect nphi nalloca = refl
no_value (op.CopyBlock moves dest source len) nbinary ncompare nconvert nunary nselect nphi nalloca = refl
no_value (op.FillBlock dest byte len) nbinary ncompare nconvert nunary nselect nphi nalloca = refl
no_value (op.Ret v) nbinary ncompare nconvert nunary nselect nphi nalloca = refl
no_value (op.Jump label) nbinary ncompare nconvert nunary nselect nphi nalloca = refl
no_value (op.Branch v first second) nbinary ncompare nconvert nunary nselect nphi nalloca = refl
no_value (op.Switch ty v label cases) nbinary ncompare nconvert nunary nselect nphi nalloca = refl
no_value op.Unreachable nbinary ncompare nconvert nunary nselect nphi nalloca = refl
no_value (op.Guard at size narrow) nbinary ncompare nconvert nunary nselect nphi nalloca = refl
no_value (op.Check v) nbinary ncompare nconvert nunary nselect nphi nalloca = refl
no_value (op.Enter s) nbinary ncompare nconvert nunary nselect nphi nalloca = refl
no_value (op.Pre s k) nbinary ncompare nconvert nunary nselect nphi nalloca = refl
no_value (op.Post s k) nbinary ncompare nconvert nunary nselect nphi nalloca = refl
no_value (op.Leave s) nbinary ncompare nconvert nunary nselect nphi nalloca = refl

pub an_end : (x : Op) → is_value x ≡ false → ((to : ℕ) (ty : Scalar) (at : Value) → x ≡ op.Load to ty at → ⊥) → ((ty : Scalar) (v : Value) (at : Value) → x ≡ op.Store ty v at → ⊥) → ((to : ℕ) (t : IrType) (base : Value) (indices : List Argument) → x ≡ op.GetElementPtr to t base indices → ⊥) → ((to : Option ℕ) (ret : Option Scalar) (callee : Callee) (args : List Argument) → x ≡ op.Call to ret callee args → ⊥) → ((moves : Bool) (dest : Value) (source : Value) (len : Argument) → x ≡ op.CopyBlock moves dest source len → ⊥) → ((dest : Value) (byte : Value) (len : Argument) → x ≡ op.FillBlock dest byte len → ⊥) → is_end x ≡ true
an_end (op.Binary to o ty a b) h nload nstore ngetelementptr ncall ncopyblock nfillblock = cc
an_end (op.Compare to p ty a b) h nload nstore ngetelementptr ncall ncopyblock nfillblock = cc
an_end (op.Convert to how ty a into) h nload nstore ngetelementptr ncall ncopyblock nfillblock = cc
an_end (op.Unary to o ty a) h nload nstore ngetelementptr ncall ncopyblock nfillblock = cc
an_end (op.Select to v ty a b) h nload nstore ngetelementptr ncall ncopyblock nfillblock = cc
an_end (op.Phi to ty edges) h nload nstore ngetelementptr ncall ncopyblock nfillblock = cc
an_end (op.Alloca to t) h nload nstore ngetelementptr ncall ncopyblock nfillblock = cc
an_end (op.Load to ty at) h nload nstore ngetelementptr ncall ncopyblock nfillblock = absurd (nload to ty at refl)
an_end (op.Store ty v at) h nload nstore ngetelementptr ncall ncopyblock nfillblock = absurd (nstore ty v at refl)
an_end (op.GetElementPtr to t base indices) h nload nstore ngetelementptr ncall ncopyblock nfillblock = absurd (ngetelementptr to t base indices refl)
an_end (op.Call to ret callee args) h nload nstore ngetelementptr ncall ncopyblock nfillblock = absurd (ncall to ret callee args refl)
an_end (op.CopyBlock moves dest source len) h nload nstore ngetelementptr ncall ncopyblock nfillblock = absurd (ncopyblock moves dest source len refl)
an_end (op.FillBlock dest byte len) h nload nstore ngetelementptr ncall ncopyblock nfillblock = absurd (nfillblock dest byte len refl)
an_end (op.Ret v) h nload nstore ngetelementptr ncall ncopyblock nfillblock = refl
an_end (op.Jump label) h nload nstore ngetelementptr ncall ncopyblock nfillblock = refl
an_end (op.Branch v first second) h nload nstore ngetelementptr ncall ncopyblock nfillblock = refl
an_end (op.Switch ty v label cases) h nload nstore ngetelementptr ncall ncopyblock nfillblock = refl
an_end op.Unreachable h nload nstore ngetelementptr ncall ncopyblock nfillblock = refl
an_end (op.Guard at size narrow) h nload nstore ngetelementptr ncall ncopyblock nfillblock = refl
an_end (op.Check v) h nload nstore ngetelementptr ncall ncopyblock nfillblock = refl
an_end (op.Enter s) h nload nstore ngetelementptr ncall ncopyblock nfillblock = refl
an_end (op.Pre s k) h nload nstore ngetelementptr ncall ncopyblock nfillblock = refl
an_end (op.Post s k) h nload nstore ngetelementptr ncall ncopyblock nfillblock = refl
an_end (op.Leave s) h nload nstore ngetelementptr ncall ncopyblock nfillblock = refl

pub no_other : (x : Op) → is_end x ≡ true → ((v : Option Argument) → x ≡ op.Ret v → ⊥) → ((label : List ℕ) → x ≡ op.Jump label → ⊥) → ((v : Value) (first : List ℕ) (second : List ℕ) → x ≡ op.Branch v first second → ⊥) → ((ty : Scalar) (v : Value) (label : List ℕ) (cases : List SwitchCase) → x ≡ op.Switch ty v label cases → ⊥) → (x ≡ op.Unreachable → ⊥) → ((at : Value) (size : Value) (narrow : Bool) → x ≡ op.Guard at size narrow → ⊥) → ((v : Value) → x ≡ op.Check v → ⊥) → ((s : Symbol) → x ≡ op.Enter s → ⊥) → ((s : Symbol) (k : ℕ) → x ≡ op.Pre s k → ⊥) → ((s : Symbol) (k : ℕ) → x ≡ op.Post s k → ⊥) → ((s : Symbol) → x ≡ op.Leave s → ⊥) → ⊥
no_other (op.Binary to o ty a b) h nret njump nbranch nswitch nunreachable nguard ncheck nenter npre npost nleave = cc
no_other (op.Compare to p ty a b) h nret njump nbranch nswitch nunreachable nguard ncheck nenter npre npost nleave = cc
no_other (op.Convert to how ty a into) h nret njump nbranch nswitch nunreachable nguard ncheck nenter npre npost nleave = cc
no_other (op.Unary to o ty a) h nret njump nbranch nswitch nunreachable nguard ncheck nenter npre npost nleave = cc
no_other (op.Select to v ty a b) h nret njump nbranch nswitch nunreachable nguard ncheck nenter npre npost nleave = cc
no_other (op.Phi to ty edges) h nret njump nbranch nswitch nunreachable nguard ncheck nenter npre npost nleave = cc
no_other (op.Alloca to t) h nret njump nbranch nswitch nunreachable nguard ncheck nenter npre npost nleave = cc
no_other (op.Load to ty at) h nret njump nbranch nswitch nunreachable nguard ncheck nenter npre npost nleave = cc
no_other (op.Store ty v at) h nret njump nbranch nswitch nunreachable nguard ncheck nenter npre npost nleave = cc
no_other (op.GetElementPtr to t base indices) h nret njump nbranch nswitch nunreachable nguard ncheck nenter npre npost nleave = cc
no_other (op.Call to ret callee args) h nret njump nbranch nswitch nunreachable nguard ncheck nenter npre npost nleave = cc
no_other (op.CopyBlock moves dest source len) h nret njump nbranch nswitch nunreachable nguard ncheck nenter npre npost nleave = cc
no_other (op.FillBlock dest byte len) h nret njump nbranch nswitch nunreachable nguard ncheck nenter npre npost nleave = cc
no_other (op.Ret v) h nret njump nbranch nswitch nunreachable nguard ncheck nenter npre npost nleave = nret v refl
no_other (op.Jump label) h nret njump nbranch nswitch nunreachable nguard ncheck nenter npre npost nleave = njump label refl
no_other (op.Branch v first second) h nret njump nbranch nswitch nunreachable nguard ncheck nenter npre npost nleave = nbranch v first second refl
no_other (op.Switch ty v label cases) h nret njump nbranch nswitch nunreachable nguard ncheck nenter npre npost nleave = nswitch ty v label cases refl
no_other op.Unreachable h nret njump nbranch nswitch nunreachable nguard ncheck nenter npre npost nleave = nunreachable refl
no_other (op.Guard at size narrow) h nret njump nbranch nswitch nunreachable nguard ncheck nenter npre npost nleave = nguard at size narrow refl
no_other (op.Check v) h nret njump nbranch nswitch nunreachable nguard ncheck nenter npre npost nleave = ncheck v refl
no_other (op.Enter s) h nret njump nbranch nswitch nunreachable nguard ncheck nenter npre npost nleave = nenter s refl
no_other (op.Pre s k) h nret njump nbranch nswitch nunreachable nguard ncheck nenter npre npost nleave = npre s k refl
no_other (op.Post s k) h nret njump nbranch nswitch nunreachable nguard ncheck nenter npre npost nleave = npost s k refl
no_other (op.Leave s) h nret njump nbranch nswitch nunreachable nguard ncheck nenter npre npost nleave = nleave s refl
