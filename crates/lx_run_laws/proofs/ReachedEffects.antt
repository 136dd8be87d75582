-- An instruction stays in its function's text, and asks as the principal that runs.
use Rattle.std.proofs.Common.{◌≡◌, ℕ, Option, Some, None, List, [], ◌∷◌, refl}
use Rattle.std.specs.Prelude.{⊤}
use Rattle.lx_words.specs.Word.{Word}
use Rattle.lx_ir.specs.declared.instr.Callee.{Callee}
use Rattle.lx_ir.specs.declared.instr.Callee.TheVariants as callee
use Rattle.lx_ir.specs.declared.instr.Op.{Op}
use Rattle.lx_ir.specs.declared.instr.Op.TheVariants as op
use Rattle.lx_ir.specs.declared.module.Symbol.TheVariants as symbol
use Rattle.lx_model.specs.declared.program.Program.{Program}
use Rattle.lx_model.specs.declared.request.What.{What}
use Rattle.lx_model.specs.Program.{Target, ToNative, ToSlot, ToImport, ToOwn, Nowhere, home_or_kernel, target}
use Rattle.lx_model.specs.Thread.{CodeBlock, Activation, Frame}
use Rattle.lx_model.specs.Effect.{Effect, Moves, Wants, Enters, Calls, Traps, arrival, call_effect, code_block_named, division, effect, jump_effect, slot_effect, target_effect, text_of}
use Rattle.lx_run_laws.specs.Texts.{asker, top_principal, IsBetween}
use Rattle.lx_run_laws.proofs.ReachedTargets.{IsOwn, target_own}

-- what is asked for as the principal that runs, and is no action
pub record IsOfRunning (w : What) : Type 0 where
  pub asked : (frames : List Frame) → asker frames w ≡ top_principal frames
  pub no_action : (frames : List Frame) → IsBetween frames w

-- the function is another one of the same text at most
abbrev pub StaysIn : Program → Activation → Effect → Type 0
StaysIn p a (Moves b) = b.function ≡ a.function
StaysIn p a (Wants w) = IsOfRunning w
StaysIn p a (Enters w) = IsOfRunning w
StaysIn p a (Calls n args) = home_or_kernel p n ≡ home_or_kernel p a.function
StaysIn p a (Traps trap) = ⊤

divided : (p : Program) (a : Activation) (w : Option Word) → StaysIn p a (division a w)
divided p a None = tt
divided p a (Some w) = refl

arrived : (p : Program) (a : Activation) (b : Option CodeBlock) → StaysIn p a (arrival p a b)
arrived p a None = tt
arrived p a (Some b) = refl

jumped : (p : Program) (a : Activation) (label : List ℕ) → StaysIn p a (jump_effect p a label)
jumped p a label = arrived p a (code_block_named a.blocks label)

slot_called : (p : Program) (a : Activation) (ty : ℕ) (args : List Word) → StaysIn p a (slot_effect ty args)
slot_called p a ty [] = tt
slot_called p a ty (s ∷ args) = record { asked = λ frames. refl; no_action = λ frames. tt }

target_called : (p : Program) (a : Activation) (x : Target) (args : List Word) → IsOwn p (text_of p a) x → StaysIn p a (target_effect x args)
target_called p a (ToNative k) args is = record { asked = λ frames. refl; no_action = λ frames. tt }
target_called p a (ToSlot s) args is = slot_called p a s args
target_called p a (ToImport n) args is = record { asked = λ frames. refl; no_action = λ frames. tt }
target_called p a (ToOwn n) args is = is
target_called p a Nowhere args is = tt

called : (p : Program) (a : Activation) (c : Callee) (args : List Word) → StaysIn p a (call_effect p a c args)
called p a (callee.Symbol (symbol.Function f)) args = target_called p a (target p (text_of p a) f) args (target_own p (text_of p a) f)
called p a (callee.Symbol (symbol.Global g)) args = tt
called p a (callee.Register r) args = record { asked = λ frames. refl; no_action = λ frames. tt }

pub effect_stays : (p : Program) (a : Activation) (o : Op) → StaysIn p a (effect p a o)
effect_stays p a (op.Binary to o ty x y) = divided p a _
effect_stays p a (op.Compare to pred ty x y) = refl
effect_stays p a (op.Convert to how from x into) = refl
effect_stays p a (op.Unary to o ty x) = refl
effect_stays p a (op.Select to test ty x y) = refl
effect_stays p a (op.Phi to ty edges) = tt
effect_stays p a (op.Alloca to ty) = record { asked = λ frames. refl; no_action = λ frames. tt }
effect_stays p a (op.Load to ty at) = record { asked = λ frames. refl; no_action = λ frames. tt }
effect_stays p a (op.Store ty v at) = record { asked = λ frames. refl; no_action = λ frames. tt }
effect_stays p a (op.GetElementPtr to ty base indices) = refl
effect_stays p a (op.Call to ret c args) = called p a c _
effect_stays p a (op.CopyBlock moves dest source len) = record { asked = λ frames. refl; no_action = λ frames. tt }
effect_stays p a (op.FillBlock dest byte len) = record { asked = λ frames. refl; no_action = λ frames. tt }
effect_stays p a (op.Ret v) = record { asked = λ frames. refl; no_action = λ frames. tt }
effect_stays p a (op.Jump label) = jumped p a label
effect_stays p a (op.Branch test first second) = jumped p a _
effect_stays p a (op.Switch ty v otherwise cases) = jumped p a _
effect_stays p a op.Unreachable = tt
effect_stays p a (op.Guard at size narrow) = tt
effect_stays p a (op.Check x) = tt
effect_stays p a (op.Enter g) = tt
effect_stays p a (op.Pre g k) = tt
effect_stays p a (op.Post g k) = tt
effect_stays p a (op.Leave g) = tt
