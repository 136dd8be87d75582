-- What an instruction asks for is allowed to the module whose text it stands in.
use Rattle.std.proofs.Common.{◌≡◌, ℕ, Option, Some, None, List, [], ◌∷◌, refl, sym, ap, ◌∙◌}
use Rattle.std.specs.Prelude.{⊤, Bool, true, false}
use Rattle.lx_words.specs.Word.{Word}
use Rattle.lx_caps.specs.declared.Principal.{Principal}
use Rattle.lx_ir.specs.declared.instr.Callee.{Callee}
use Rattle.lx_ir.specs.declared.instr.Callee.TheVariants as callee
use Rattle.lx_ir.specs.declared.instr.Op.{Op}
use Rattle.lx_ir.specs.declared.instr.Op.TheVariants as op
use Rattle.lx_ir.specs.declared.module.Symbol.TheVariants as symbol
use Rattle.lx_model.specs.declared.program.Program.{Program}
use Rattle.lx_model.specs.declared.request.Way.{Way}
use Rattle.lx_model.specs.declared.request.Way.TheVariants.{Script, Direct, Indirect, Slot}
use Rattle.lx_model.specs.declared.request.What.{What}
use Rattle.lx_model.specs.declared.request.What.TheVariants as what
use Rattle.lx_model.specs.Enter.{text_of_principal}
use Rattle.lx_model.specs.Program.{Home, Target, ToNative, ToSlot, ToImport, ToOwn, Nowhere, home_or_kernel, target}
use Rattle.lx_model.specs.Thread.{CodeBlock, Activation}
use Rattle.lx_model.specs.Effect.{Effect, Moves, Wants, Enters, Calls, Traps, arrival, call_effect, code_block_named, division, effect, jump_effect, slot_effect, target_effect, text_of}
use Rattle.lx_surface.specs.declared.Thing.TheVariants.{Function}
use Rattle.lx_surface.specs.Reach.{Can, declares}
use Rattle.lx_surface.proofs.Targets.{FitsText, target_fits}

-- the principal is the kernel, or its module can hold the function
abbrev pub CanCall : Program → Principal → ℕ → Type 0
CanCall p q n = (m : ℕ) → text_of_principal q ≡ Some m → Can p m (Function n)

-- who may enter a function so: the script and calls through slots are the kernel's
abbrev pub IsAllowedWay : Program → Principal → Way → Type 0
IsAllowedWay p who (Script n) = text_of_principal who ≡ None
IsAllowedWay p who (Direct n) = CanCall p who n
IsAllowedWay p who (Indirect a) = ⊤
IsAllowedWay p who (Slot at ty) = text_of_principal who ≡ None

-- an action before the body goes to the text of the function, and one behind it from there to somebody who can call it
abbrev pub IsAllowedAction : Program → ℕ → Bool → Principal → Principal → Type 0
IsAllowedAction p n false source dest = text_of_principal dest ≡ home_or_kernel p n
IsAllowedAction p n true source dest = (text_of_principal source ≡ home_or_kernel p n) × CanCall p dest n

abbrev pub IsAllowed : Program → Principal → What → Type 0
IsAllowed p who (what.Enter way args) = IsAllowedWay p who way
IsAllowed p who (what.Perform n post k env source dest) = IsAllowedAction p n post source dest
IsAllowed p who (what.Load at width) = ⊤
IsAllowed p who (what.Store at w) = ⊤
IsAllowed p who (what.Copy to from len) = ⊤
IsAllowed p who (what.Fill to byte len) = ⊤
IsAllowed p who (what.Alloca at size) = ⊤
IsAllowed p who (what.Return low high) = ⊤
IsAllowed p who (what.Native k args) = ⊤
IsAllowed p who (what.Finish o) = ⊤

-- whoever runs the function may ask so
abbrev pub AllowsAs : Program → Activation → What → Type 0
AllowsAs p a w = (q : Principal) → text_of_principal q ≡ text_of p a → IsAllowed p q w

abbrev pub IsAllowedEffect : Program → Activation → Effect → Type 0
IsAllowedEffect p a (Moves b) = b.function ≡ a.function
IsAllowedEffect p a (Wants w) = AllowsAs p a w
IsAllowedEffect p a (Enters w) = AllowsAs p a w
IsAllowedEffect p a (Calls n args) = home_or_kernel p n ≡ home_or_kernel p a.function
IsAllowedEffect p a (Traps trap) = ⊤

divided : (p : Program) (a : Activation) (w : Option Word) → IsAllowedEffect p a (division a w)
divided p a None = tt
divided p a (Some w) = refl

arrived : (p : Program) (a : Activation) (b : Option CodeBlock) → IsAllowedEffect p a (arrival p a b)
arrived p a None = tt
arrived p a (Some b) = refl

jumped : (p : Program) (a : Activation) (label : List ℕ) → IsAllowedEffect p a (jump_effect p a label)
jumped p a label = arrived p a (code_block_named a.blocks label)

slot_called : (p : Program) (a : Activation) (ty : ℕ) (args : List Word) → text_of p a ≡ None → IsAllowedEffect p a (slot_effect ty args)
slot_called p a ty [] is = tt
slot_called p a ty (s ∷ args) is = λ q text. text ∙ is

-- the kernel's function that a module declares
imported : (p : Program) (home : Home) (f n : ℕ) → target p home f ≡ ToImport n → (q : Principal) → text_of_principal q ≡ home → CanCall p q n
imported p home f n is q text m of =
    let there : home ≡ Some m = sym text ∙ of in
    declares m f n (ap (λ h. target p h f) (sym there) ∙ is)

target_called : (p : Program) (a : Activation) (f : ℕ) (x : Target) (args : List Word) → target p (text_of p a) f ≡ x → FitsText p (text_of p a) x → IsAllowedEffect p a (target_effect x args)
target_called p a f (ToNative k) args is fits = λ q text. tt
target_called p a f (ToSlot s) args is fits = slot_called p a s args fits
target_called p a f (ToImport n) args is fits = λ q text. imported p (text_of p a) f n is q text
target_called p a f (ToOwn n) args is fits = fits
target_called p a f Nowhere args is fits = tt

called : (p : Program) (a : Activation) (c : Callee) (args : List Word) → IsAllowedEffect p a (call_effect p a c args)
called p a (callee.Symbol (symbol.Function f)) args = target_called p a f (target p (text_of p a) f) args refl (target_fits p (text_of p a) f)
called p a (callee.Symbol (symbol.Global g)) args = tt
called p a (callee.Register r) args = λ q text. tt

pub effect_allowed : (p : Program) (a : Activation) (o : Op) → IsAllowedEffect p a (effect p a o)
effect_allowed p a (op.Binary to o ty x y) = divided p a _
effect_allowed p a (op.Compare to pred ty x y) = refl
effect_allowed p a (op.Convert to how from x into) = refl
effect_allowed p a (op.Unary to o ty x) = refl
effect_allowed p a (op.Select to test ty x y) = refl
effect_allowed p a (op.Phi to ty edges) = tt
effect_allowed p a (op.Alloca to ty) = λ q text. tt
effect_allowed p a (op.Load to ty at) = λ q text. tt
effect_allowed p a (op.Store ty v at) = λ q text. tt
effect_allowed p a (op.GetElementPtr to ty base indices) = refl
effect_allowed p a (op.Call to ret c args) = called p a c _
effect_allowed p a (op.CopyBlock moves dest source len) = λ q text. tt
effect_allowed p a (op.FillBlock dest byte len) = λ q text. tt
effect_allowed p a (op.Ret v) = λ q text. tt
effect_allowed p a (op.Jump label) = jumped p a label
effect_allowed p a (op.Branch test first second) = jumped p a _
effect_allowed p a (op.Switch ty v otherwise cases) = jumped p a _
effect_allowed p a op.Unreachable = tt
effect_allowed p a (op.Guard at size narrow) = tt
effect_allowed p a (op.Check x) = tt
effect_allowed p a (op.Enter g) = tt
effect_allowed p a (op.Pre g k) = tt
effect_allowed p a (op.Post g k) = tt
effect_allowed p a (op.Leave g) = tt
