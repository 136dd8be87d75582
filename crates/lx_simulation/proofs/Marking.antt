-- An instruction of the top frame is one step of both machines, with the mark before it.
use Rattle.std.proofs.Common.{◌≡◌, ℕ, ◌+◌, Bool, true, false, List, [], ◌∷◌, ◌++◌, Some, None, refl, ◌∙◌, ap}
use Rattle.lx_words.specs.declared.word.Width.{Width}
use Rattle.lx_words.specs.declared.word.Width.TheVariants.{W64}
use Rattle.lx_words.specs.Word.{word}
use Rattle.lx_words.specs.declared.word.Width.TheVariants as width
use Rattle.lx_ir.specs.declared.types.Scalar.{Scalar}
use Rattle.lx_ir.specs.declared.module.Value.{Value as Operand}
use Rattle.lx_ir.specs.declared.module.Value.TheVariants as value
use Rattle.lx_caps.specs.declared.Principal.{Principal}
use Rattle.lx_model.specs.declared.program.Program.{Program}
use Rattle.lx_model.specs.Program.{Home}
use Rattle.lx_model.specs.Thread.{Activation}
use Rattle.lx_model.specs.Effect.{text_of}
use Rattle.lx_simulation.proofs.Counted.{Code, ImageFrame, ImageThread, top}
use Rattle.lx_images.specs.Guarded.{guarded_run, waiting_run}
use Rattle.std.specs.Prelude.{nat_le}
use Rattle.std.proofs.lemmas.Bool.{and_from}
use Rattle.lx_words.specs.Width.{byte_count}
use Rattle.lx_words.proofs.Tests.{le_self}
use Rattle.lx_ir.specs.declared.instr.Callee.TheVariants as callee
use Rattle.lx_ir.specs.declared.instr.Op.{Op}
use Rattle.lx_ir.specs.declared.instr.Op.TheVariants as op
use Rattle.lx_ir.specs.Layout.{width_of}
use Rattle.lx_model.specs.Effect.{bits}
use Rattle.lx_simulation.proofs.Counted.{ImageStep, Marks, no_marks, covered, principal_if, instruction_step, costly_step, wrapped_import}
use Rattle.lx_simulation.proofs.Counted.{if_paid as image_if_paid}
use Rattle.lx_image_texts.specs.Marks.{size_value}
use Rattle.lx_image_texts.specs.Instrumented.{unless_left}
use Rattle.lx_images.specs.ImageCode.{stores_in}
use Rattle.lx_images.specs.Guarded.{bare_of, guarded_op, guarded_ops}
use Rattle.lx_simulation.proofs.Guarding.{at_code}

-- what the marks before an instruction leave for it; a store may lack its guard

abbrev pub guard_mark : Bool → ℕ → ℕ → Marks
guard_mark true at size = no_marks
guard_mark false at size = record { guarded = Some (at, size); checked = None }

abbrev pub module_marks_for : Program → Activation → Bool → Op → Marks
module_marks_for p a bare (op.Store ty v at) = guard_mark bare (bits p a at) (bits p a (size_value ty))
module_marks_for p a bare (op.CopyBlock moves dest source len) = record { guarded = Some (bits p a dest, bits p a len.value); checked = None }
module_marks_for p a bare (op.FillBlock dest byte len) = record { guarded = Some (bits p a dest, bits p a len.value); checked = None }
module_marks_for p a bare (op.Call to ret (callee.Register r) args) = record { guarded = None; checked = Some (bits p a (value.Register r)) }
module_marks_for p a bare o = no_marks

abbrev pub marks_for : Program → Activation → Home → Bool → Op → Marks
marks_for p a None bare o = no_marks
marks_for p a (Some m) bare o = module_marks_for p a bare o

-- the step of an instruction, behind its mark
abbrev pub behind_mark : Code → ImageThread → List ImageFrame → Home → Activation → Bool → Op → List Op → ImageStep
behind_mark c v is h a bare o os =
    image_if_paid v (costly_step c (marks_for c.program a h bare o) (waiting_run c h (at_code a (o ∷ os))) is (guarded_op c h o) (wrapped_import c (text_of c.program a) (guarded_op c h o)))

stored : (c : Code) (v : ImageThread) (is : List ImageFrame) (m : ℕ) (a : Activation) (ty : Scalar) (x y : Operand) (os : List Op) (bare : Bool) (rest : List Op) →
    instruction_step c v is (unless_left bare (op.Guard y (size_value ty) false ∷ []) ++ (op.Store ty x y ∷ rest)) no_marks
    (record (waiting_run c (Some m) (at_code a (op.Store ty x y ∷ os))) { code = unless_left bare (op.Guard y (size_value ty) false ∷ []) ++ (op.Store ty x y ∷ rest) })
    ≡ image_if_paid v (costly_step c (marks_for c.program a (Some m) bare (op.Store ty x y)) (record (waiting_run c (Some m) (at_code a (op.Store ty x y ∷ os))) { code = op.Store ty x y ∷ rest }) is (op.Store ty x y) None)
stored c v is m a ty x y os true rest = refl
stored c v is m a ty x y os false rest = refl

pub marked : (c : Code) (v : ImageThread) (is : List ImageFrame) (h : Home) (a : Activation) (o : Op) (os : List Op) →
    instruction_step c v is (guarded_ops c h (bare_of c a.function a.label) (o ∷ os)) no_marks (guarded_run c h (at_code a (o ∷ os)))
    ≡ behind_mark c v is h a (bare_of c a.function a.label (stores_in os)) o os
marked c v is None a (op.Guard at size narrow) os = refl
marked c v is (Some m) a (op.Guard at size narrow) os = refl
marked c v is (Some m) a (op.Store ty x y) os =
    stored c v is m a ty x y os (bare_of c a.function a.label (stores_in os)) (guarded_ops c (Some m) (bare_of c a.function a.label) os)
marked c v is (Some m) a (op.Call to ret (callee.Register r) args) os = refl
marked c v is (Some m) a (op.Call to ret (callee.Symbol s) args) os = refl
marked c v is None a o os = refl
marked c v is (Some m) a o os = refl

-- who asks

pub covered_itself : (at size : ℕ) → covered (Some (at, size)) at size ≡ true
covered_itself at size = and_from (nat_le at at) (nat_le (at + size) (at + size)) (le_self at) (le_self (at + size))

pub top_if : (b : Bool) (shadow : List Principal) → b ≡ true → principal_if b shadow ≡ top shadow
top_if true shadow e = refl
top_if false shadow e = cc

-- the size that a guard of a store has
size_of_width : (w : Width) → (word W64 (byte_count w)).bits ≡ byte_count w
size_of_width width.W1 = refl
size_of_width w = refl

pub store_guarded : (p : Program) (a : Activation) (ty : Scalar) (at : ℕ) → covered (Some (at, bits p a (size_value ty))) at (byte_count (width_of ty)) ≡ true
store_guarded p a ty at = ap (λ (n : ℕ). covered (Some (at, n)) at (byte_count (width_of ty))) (size_of_width (width_of ty)) ∙ covered_itself at (byte_count (width_of ty))
