-- What an instruction asks of a function that keeps to its thread's stack.
use Rattle.std.proofs.Common.{◌≡◌, ℕ, ◌≤◌, true, Option, Some, None, List, [], ◌∷◌, refl, arith}
use Rattle.std.specs.Prelude.{⊤, nat_le}
use Rattle.std.specs.Int.{next_multiple_of}
use Rattle.std.proofs.lemmas.Bool.Decides.{nat_tests}
use Rattle.lx_words.specs.Word.{Word}
use Rattle.lx_words.proofs.Tests.{next_above}
use Rattle.lx_caps.specs.Regions.{stack_start}
use Rattle.lx_ir.specs.declared.instr.Callee.{Callee}
use Rattle.lx_ir.specs.declared.instr.Callee.TheVariants as callee
use Rattle.lx_ir.specs.declared.instr.Op.{Op}
use Rattle.lx_ir.specs.declared.instr.Op.TheVariants as op
use Rattle.lx_ir.specs.declared.module.Symbol.TheVariants as symbol
use Rattle.lx_ir.specs.Layout.{layout_of}
use Rattle.lx_model.specs.declared.program.Program.{Program}
use Rattle.lx_model.specs.declared.request.What.{What}
use Rattle.lx_model.specs.declared.request.What.TheVariants as what
use Rattle.lx_model.specs.Program.{Target, ToNative, ToSlot, ToImport, ToOwn, Nowhere, target}
use Rattle.lx_model.specs.Thread.{CodeBlock, Activation}
use Rattle.lx_model.specs.Effect.{Effect, Moves, Wants, Enters, Calls, Traps, arrival, call_effect, code_block_named, division, effect, jump_effect, slot_effect, target_effect, text_of, types_of}
use Rattle.lx_run_laws.specs.Servable.{is_on_stack, is_servable_what}
use Rattle.lx_run_laws.proofs.Targets.{IsKnown, target_known}

-- bytes of the stack are asked for at no address below this
abbrev pub IsAbove : ℕ → What → Type 0
IsAbove top (what.Alloca at size) = top ≤ at
IsAbove top _ = ⊤

-- the function keeps its part of the stack, or asks what may be served
abbrev pub KeepsPart : Program → ℕ → Activation → Effect → Type 0
KeepsPart p t a (Moves b) = (b.low ≡ a.low) × (b.high ≡ a.high)
KeepsPart p t a (Wants w) = (is_servable_what p t w ≡ true) × IsAbove a.high w
KeepsPart p t a (Enters w) = (is_servable_what p t w ≡ true) × IsAbove a.high w
KeepsPart p t a (Calls n args) = ⊤
KeepsPart p t a (Traps trap) = ⊤

from_start : (t low high at : ℕ) → is_on_stack t low high ≡ true → high ≤ at → nat_le (stack_start t) at ≡ true
from_start t low high at on above = grind (arith, nat_tests)

divided : (p : Program) (t : ℕ) (a : Activation) (w : Option Word) → KeepsPart p t a (division a w)
divided p t a None = tt
divided p t a (Some w) = (refl, refl)

arrived : (p : Program) (t : ℕ) (a : Activation) (b : Option CodeBlock) → KeepsPart p t a (arrival p a b)
arrived p t a None = tt
arrived p t a (Some b) = (refl, refl)

jumped : (p : Program) (t : ℕ) (a : Activation) (label : List ℕ) → KeepsPart p t a (jump_effect p a label)
jumped p t a label = arrived p t a (code_block_named a.blocks label)

slot_called : (p : Program) (t : ℕ) (a : Activation) (ty : ℕ) (args : List Word) → KeepsPart p t a (slot_effect ty args)
slot_called p t a ty [] = tt
slot_called p t a ty (s ∷ args) = (refl, tt)

target_called : (p : Program) (t : ℕ) (a : Activation) (x : Target) (args : List Word) → IsKnown p x → KeepsPart p t a (target_effect x args)
target_called p t a (ToNative k) args known = (refl, tt)
target_called p t a (ToSlot s) args known = slot_called p t a s args
target_called p t a (ToImport n) args known = (known, tt)
target_called p t a (ToOwn n) args known = tt
target_called p t a Nowhere args known = tt

called : (p : Program) (t : ℕ) (a : Activation) (c : Callee) (args : List Word) → KeepsPart p t a (call_effect p a c args)
called p t a (callee.Symbol (symbol.Function f)) args = target_called p t a (target p (text_of p a) f) args (target_known p (text_of p a) f)
called p t a (callee.Symbol (symbol.Global g)) args = tt
called p t a (callee.Register r) args = (refl, tt)

pub effect_keeps : (p : Program) (t : ℕ) (a : Activation) (o : Op) → is_on_stack t a.low a.high ≡ true → KeepsPart p t a (effect p a o)
effect_keeps p t a (op.Binary to o ty x y) on = divided p t a _
effect_keeps p t a (op.Compare to pred ty x y) on = (refl, refl)
effect_keeps p t a (op.Convert to how from x into) on = (refl, refl)
effect_keeps p t a (op.Unary to o ty x) on = (refl, refl)
effect_keeps p t a (op.Select to test ty x y) on = (refl, refl)
effect_keeps p t a (op.Phi to ty edges) on = tt
effect_keeps p t a (op.Alloca to ty) on =
    let above = next_above a.high (layout_of (types_of p a) ty).align in
    (from_start t a.low a.high (next_multiple_of a.high (layout_of (types_of p a) ty).align) on above, above)
effect_keeps p t a (op.Load to ty at) on = (refl, tt)
effect_keeps p t a (op.Store ty v at) on = (refl, tt)
effect_keeps p t a (op.GetElementPtr to ty base indices) on = (refl, refl)
effect_keeps p t a (op.Call to ret c args) on = called p t a c _
effect_keeps p t a (op.CopyBlock moves dest source len) on = (refl, tt)
effect_keeps p t a (op.FillBlock dest byte len) on = (refl, tt)
effect_keeps p t a (op.Ret v) on = (on, tt)
effect_keeps p t a (op.Jump label) on = jumped p t a label
effect_keeps p t a (op.Branch test first second) on = jumped p t a _
effect_keeps p t a (op.Switch ty v otherwise cases) on = jumped p t a _
effect_keeps p t a op.Unreachable on = tt
effect_keeps p t a (op.Guard at size narrow) on = tt
effect_keeps p t a (op.Check x) on = tt
effect_keeps p t a (op.Enter g) on = tt
effect_keeps p t a (op.Pre g k) on = tt
effect_keeps p t a (op.Post g k) on = tt
effect_keeps p t a (op.Leave g) on = tt
