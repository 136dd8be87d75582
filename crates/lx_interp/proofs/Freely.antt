-- Where memory is not wanted.
use Rattle.std.proofs.Common.{◌≡◌, ℕ, ◌<◌, true, false, List, [], ◌∷◌, Option, Some, None, IsSome, refl, ap, ◌∙◌, subst, arith}
use Rattle.std.specs.Prelude.{bytes_eq, find}
use Rattle.lx_words.proofs.Lists.{bytes_itself}
use Rattle.lx_ir.specs.declared.instr.Op.TheVariants as op
use Rattle.lx_model.specs.declared.program.Program.{Program}
use Rattle.lx_model.specs.declared.request.Outcome.{Outcome}
use Rattle.lx_model.specs.Thread.{Activation, CodeBlock}
use Rattle.lx_model.specs.Effect.{code_block_named, is_phi}
use Rattle.lx_model.specs.Next.{has_action}
use Rattle.lx_images.specs.Image.{Code}
use Rattle.lx_image_code.specs.declared.line.Line.TheVariants as line
use Rattle.lx_image_steps.specs.declared.activation.Activation.{Activation as Running}
use Rattle.lx_frames.specs.declared.frame.Frame.{Frame as KeptFrame}
use Rattle.lx_frames.specs.declared.frame.Frame.TheVariants as kept
use Rattle.lx_interp.specs.declared.runner.Runner.{Runner}
use Rattle.lx_interp.specs.Lacks.{GoesToPhis, HasPhisIn, LineLacks, MayLack, OpLacks, TopLacks}

named_first : (b : CodeBlock) (bs : List CodeBlock) → bytes_eq b.label b.label ≡ true → code_block_named (b ∷ bs) b.label ≡ Some b
named_first b bs e = search

no_phis : (b : CodeBlock) → find is_phi b.code ≡ None → HasPhisIn (Some b) → ⊥
no_phis b e h = absurd (cc)

-- a jump to the only block, which has no phis
pub jump_lacks : (p : Program) (a : Activation) (b : CodeBlock) → a.blocks ≡ b ∷ [] → find is_phi b.code ≡ None → OpLacks p a (Some (op.Jump b.label)) → ⊥
jump_lacks p a b only e h =
    no_phis b e (subst HasPhisIn (ap (λ (bs : List CodeBlock). code_block_named bs b.label) only ∙ named_first b [] (bytes_itself b.label)) h)

pub acts_lack : (p : Program) (n at k : ℕ) → has_action p n false k ≡ false → LineLacks p n at (line.Pre k) → ⊥
acts_lack p n at k e h = absurd (cc)

pub acts_behind_lack : (p : Program) (n at k : ℕ) → has_action p n true k ≡ false → LineLacks p n at (line.Post k) → ⊥
acts_behind_lack p n at k e h = absurd (cc)

pub leaves_lack : (p : Program) (n at : ℕ) → at < 18446744073709551615 → LineLacks p n at line.Leave → ⊥
leaves_lack p n at lt h = absurd (omega (arith, lt, h))

pub unpaid_top : (c : Code) (fuel : ℕ) (top : Option KeptFrame) (run : Running) → top ≡ Some (kept.Runs run) → fuel ≡ 0 → TopLacks c fuel top → ⊥
unpaid_top c fuel None run e zero lacks = absurd (cc)
unpaid_top c fuel (Some (kept.Wraps n args wrapper at x)) run e zero lacks = absurd (cc)
unpaid_top c fuel (Some (kept.Runs other)) run e zero lacks = let paid = lacks.0 in omega (arith, paid, zero)

pub not_due : (c : Code) (r : Runner) (outcome : Outcome) → r.due ≡ Some outcome → MayLack c r → ⊥
not_due c r outcome e lacks = let none = lacks.undue in cc
