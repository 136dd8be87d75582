-- Guards and checks are gone past: they set their mark, and the step is that of the instruction behind them.
use Rattle.std.proofs.Common.{◌≡◌, ◌∙◌, refl, sym, ap, ℕ, suc, Bool, true, false, cond, Some, None, List, ◌∷◌, drop, subst}
use Rattle.std.specs.Prelude.{IfSome, slice_get}
use Rattle.lx_ir.specs.declared.module.Value.{Value}
use Rattle.lx_ir.specs.declared.module.Value.TheVariants as value
use Rattle.lx_ir.specs.declared.instr.Op.{Op}
use Rattle.lx_ir.specs.declared.instr.Op.TheVariants as op
use Rattle.lx_model.specs.declared.program.Program.{Program}
use Rattle.lx_model.specs.Thread.{Activation}
use Rattle.lx_model.specs.Effect.{bits, is_phi}
use Rattle.lx_images.specs.Image.{Code, ImageFrame, ImageStep, ImageThread, Marks, instruction_step}
use Rattle.lx_image_steps.specs.Marks.{is_mark, marks_behind, marks_set}
use Rattle.lx_image_steps.specs.Standing.{behind_found, head_of, is_phi_in, rest_from}
use Rattle.lx_image_steps.proofs.Places.{drop_at, found_here, phi_passed}

-- an instruction that sets no mark
record IsOther (o : Op) : Type 0 where
  plain : is_mark o ≡ false
  sets : (p : Program) (a : Activation) (m : Marks) → marks_set p a m o ≡ None

-- a guard, a check, or another instruction
data Kind : Op → Type 0 where
  sets_guard : (at size : Value) (narrow : Bool) → Kind (op.Guard at size narrow)
  sets_check : (target : Value) → Kind (op.Check target)
  sets_none : {o : Op} → IsOther o → Kind o

kind_of : (o : Op) → Kind o
kind_of (op.Binary to x ty a b) = sets_none (record { plain = refl; sets = λ p a m. refl })
kind_of (op.Compare to x ty a b) = sets_none (record { plain = refl; sets = λ p a m. refl })
kind_of (op.Convert to how from a into) = sets_none (record { plain = refl; sets = λ p a m. refl })
kind_of (op.Unary to x ty a) = sets_none (record { plain = refl; sets = λ p a m. refl })
kind_of (op.Select to test ty a b) = sets_none (record { plain = refl; sets = λ p a m. refl })
kind_of (op.Phi to ty edges) = sets_none (record { plain = refl; sets = λ p a m. refl })
kind_of (op.Alloca to ty) = sets_none (record { plain = refl; sets = λ p a m. refl })
kind_of (op.Load to ty at) = sets_none (record { plain = refl; sets = λ p a m. refl })
kind_of (op.Store ty v at) = sets_none (record { plain = refl; sets = λ p a m. refl })
kind_of (op.GetElementPtr to ty base indices) = sets_none (record { plain = refl; sets = λ p a m. refl })
kind_of (op.Call to ret callee args) = sets_none (record { plain = refl; sets = λ p a m. refl })
kind_of (op.CopyBlock moves dest source len) = sets_none (record { plain = refl; sets = λ p a m. refl })
kind_of (op.FillBlock dest byte len) = sets_none (record { plain = refl; sets = λ p a m. refl })
kind_of (op.Ret v) = sets_none (record { plain = refl; sets = λ p a m. refl })
kind_of (op.Jump label) = sets_none (record { plain = refl; sets = λ p a m. refl })
kind_of (op.Branch test a b) = sets_none (record { plain = refl; sets = λ p a m. refl })
kind_of (op.Switch ty v otherwise cases) = sets_none (record { plain = refl; sets = λ p a m. refl })
kind_of op.Unreachable = sets_none (record { plain = refl; sets = λ p a m. refl })
kind_of (op.Guard at size narrow) = sets_guard at size narrow
kind_of (op.Check target) = sets_check target
kind_of (op.Enter f) = sets_none (record { plain = refl; sets = λ p a m. refl })
kind_of (op.Pre f k) = sets_none (record { plain = refl; sets = λ p a m. refl })
kind_of (op.Post f k) = sets_none (record { plain = refl; sets = λ p a m. refl })
kind_of (op.Leave f) = sets_none (record { plain = refl; sets = λ p a m. refl })

-- the activation, with these instructions left
abbrev with_code : Activation → List Op → Activation
with_code a os = record a { code = os }

-- an operand does not hang on where the function stands
same_operand : (p : Program) (a : Activation) (os : List Op) (v : Value) → bits p (with_code a os) v ≡ bits p a v
same_operand p a os (value.Register r) = refl
same_operand p a os (value.Constant k) = refl

set_by : (c : Code) (v : ImageThread) (fs : List ImageFrame) (a : Activation) (o : Op) (os : List Op) (m n : Marks) → Kind o → marks_set c.program a m o ≡ Some n →
    instruction_step c v fs (o ∷ os) m (with_code a (o ∷ os)) ≡ instruction_step c v fs os n (with_code a os)
set_by c v fs a o os m n (sets_guard at size narrow) e =
    let p = c.program in
    let go : Marks → ImageStep = λ x. instruction_step c v fs os x (with_code a os) in
    ap (λ (x : ℕ). go (record m { guarded = Some (x, bits p (with_code a (o ∷ os)) size) })) (same_operand p a (o ∷ os) at)
    ∙ ap (λ (x : ℕ). go (record m { guarded = Some (bits p a at, x) })) (same_operand p a (o ∷ os) size)
    ∙ ap go cc
set_by c v fs a o os m n (sets_check target) e =
    let p = c.program in
    let go : Marks → ImageStep = λ x. instruction_step c v fs os x (with_code a os) in
    ap (λ (x : ℕ). go (record m { checked = Some x })) (same_operand p a (o ∷ os) target) ∙ ap go cc
set_by c v fs a o os m n (sets_none is) e =
    let none = is.sets c.program a m in
    absurd (cc)

-- the step behind a mark is that before it
mark_passed : (c : Code) (v : ImageThread) (fs : List ImageFrame) (a : Activation) (o : Op) (os rest : List Op) (m n : Marks) → marks_set c.program a m o ≡ Some n → rest ≡ o ∷ os →
    instruction_step c v fs rest m (with_code a rest) ≡ instruction_step c v fs os n (with_code a os)
mark_passed c v fs a o os rest m n e is =
    ap (λ (xs : List Op). instruction_step c v fs xs m (with_code a xs)) is ∙ set_by c v fs a o os m n (kind_of o) e

-- where a jump led to the block: a phi leaves the marks
passed_if : (c : Code) (v : ImageThread) (fs : List ImageFrame) (a : Activation) (b : Bool) (o : Op) (code : List Op) (k : ℕ) (m n : Marks) → slice_get code k ≡ Some o → is_phi o ≡ b
    → cond b (Some m) (marks_set c.program a m o) ≡ Some n →
    instruction_step c v fs (rest_from true k code) m (with_code a (rest_from true k code)) ≡ instruction_step c v fs (rest_from true (suc k) code) n (with_code a (rest_from true (suc k) code))
passed_if c v fs a true o code k m n at phi e =
    let same : m ≡ n = cc in
    ap (λ (xs : List Op). instruction_step c v fs xs m (with_code a xs)) (phi_passed k code (ap is_phi_in at ∙ phi))
    ∙ ap (λ (x : Marks). instruction_step c v fs (rest_from true (suc k) code) x (with_code a (rest_from true (suc k) code))) same
passed_if c v fs a false o code k m n at phi e =
    mark_passed c v fs a o (rest_from true (suc k) code) (rest_from true k code) m n e
    (found_here k code (ap is_phi_in at ∙ phi) ∙ ap (behind_found true k code) at)

pub gone_past : (c : Code) (v : ImageThread) (fs : List ImageFrame) (a : Activation) (arrived : Bool) (o : Op) (code : List Op) (k : ℕ) (m n : Marks) → slice_get code k ≡ Some o
    → marks_behind c.program a arrived m o ≡ Some n →
    instruction_step c v fs (rest_from arrived k code) m (with_code a (rest_from arrived k code)) ≡ instruction_step c v fs (rest_from arrived (suc k) code) n (with_code a (rest_from arrived (suc k) code))
gone_past c v fs a true o code k m n at e = passed_if c v fs a (is_phi o) o code k m n at refl e
gone_past c v fs a false o code k m n at e = mark_passed c v fs a o (drop (suc k) code) (drop k code) m n e (drop_at code k o at)

-- where an instruction is not gone past, it stands next, and is no mark

stops_by : (p : Program) (a : Activation) (m : Marks) (o : Op) → Kind o → marks_set p a m o ≡ None → is_mark o ≡ false
stops_by p a m o (sets_guard at size narrow) e = absurd (cc)
stops_by p a m o (sets_check target) e = absurd (cc)
stops_by p a m o (sets_none is) e = is.plain

stands_at : (o : Op) (os rest : List Op) → rest ≡ o ∷ os → is_mark o ≡ false → IfSome (head_of rest) (λ x. is_mark x ≡ false)
stands_at o os rest is h = subst (λ (xs : List Op). IfSome (head_of xs) (λ x. is_mark x ≡ false)) (sym is) h

stops_if : (p : Program) (a : Activation) (b : Bool) (o : Op) (code : List Op) (k : ℕ) (m : Marks) → slice_get code k ≡ Some o → is_phi o ≡ b
    → cond b (Some m) (marks_set p a m o) ≡ None → IfSome (head_of (rest_from true k code)) (λ x. is_mark x ≡ false)
stops_if p a true o code k m at phi e = absurd (cc)
stops_if p a false o code k m at phi e =
    stands_at o (rest_from true (suc k) code) (rest_from true k code) (found_here k code (ap is_phi_in at ∙ phi) ∙ ap (behind_found true k code) at) (stops_by p a m o (kind_of o) e)

pub stops : (p : Program) (a : Activation) (arrived : Bool) (o : Op) (code : List Op) (k : ℕ) (m : Marks) → slice_get code k ≡ Some o
    → marks_behind p a arrived m o ≡ None → IfSome (head_of (rest_from arrived k code)) (λ x. is_mark x ≡ false)
stops p a true o code k m at e = stops_if p a (is_phi o) o code k m at refl e
stops p a false o code k m at e = stands_at o (drop (suc k) code) (drop k code) (drop_at code k o at) (stops_by p a m o (kind_of o) e)
