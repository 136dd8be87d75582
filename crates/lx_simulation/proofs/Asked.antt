-- What an instruction's effect asks for, and for whom.
use Rattle.std.proofs.Common.{◌≡◌, ℕ, Bool, true, false, List, ◌∷◌, Option, Some, None, ◌⊎◌, inl, inr, refl, sym, ◌∙◌}
use Rattle.lx_words.specs.Word.{Word, word}
use Rattle.lx_ir.specs.declared.types.Scalar.{Scalar}
use Rattle.lx_ir.specs.declared.module.Value.{Value as Operand}
use Rattle.lx_ir.specs.Layout.{width_of}
use Rattle.lx_images.specs.ImageCode.{stores_in}
use Rattle.lx_images.specs.Guarded.{bare_of}
use Rattle.lx_caps.specs.declared.Principal.{Principal}
use Rattle.lx_caps.specs.declared.Principal.TheVariants.{Kernel}
use Rattle.lx_ir.specs.declared.instr.Op.{Op}
use Rattle.lx_ir.specs.declared.instr.Op.TheVariants as op
use Rattle.lx_model.specs.declared.request.Way.TheVariants.{Indirect, Slot}
use Rattle.lx_model.specs.declared.request.What.{What}
use Rattle.lx_model.specs.declared.request.What.TheVariants as what
use Rattle.lx_model.specs.Program.{Home, home_or_kernel}
use Rattle.lx_model.specs.Thread.{CodeBlock, Activation}
use Rattle.lx_model.specs.Effect.{Effect, Moves, Wants, Enters, Calls, Traps, effect, division, arrival, bits}
use Rattle.lx_simulation.proofs.Counted.{Code, Marks, asker, top}
use Rattle.lx_simulation.proofs.CountedStands.{RunsAs}
use Rattle.lx_simulation.proofs.Guarding.{IsCall}
use Rattle.lx_simulation.proofs.Replies.{IsSimple}
use Rattle.lx_simulation.proofs.Marking.{marks_for, covered_itself, top_if, store_guarded}

-- an entering that the machine itself asks for: the slots are the kernel's
abbrev pub IsEntering : Principal → What → Type 0
IsEntering q (what.Enter (Indirect a) args) = Unit {0}
IsEntering q (what.Enter (Slot s ty) args) = q ≡ Kernel
IsEntering q _ = ⊥

-- a store that lacks its guard, and that the image asks for the kernel
pub record BareStore (c : Code) (a : Activation) (h : Home) (m : Marks) (shadow : List Principal) (w : What) : Type 0 where
  pub «module» : ℕ
  pub text : h ≡ Some «module»
  pub ty : Scalar
  pub stored : Operand
  pub at : Operand
  pub behind : List Op
  pub code : a.code ≡ op.Store ty stored at ∷ behind
  pub bare : bare_of c a.function a.label (stores_in behind) ≡ true
  pub asked : w ≡ what.Store (bits c.program a at) (word (width_of ty) (bits c.program a stored))
  pub by_kernel : asker h m shadow w ≡ Kernel

abbrev pub AskedFor : Code → Activation → Home → Marks → List Principal → Principal → What → Type 0
AskedFor c a h m shadow q w = (asker h m shadow w ≡ q) ⊎ BareStore c a h m shadow w

-- what is known of an effect of a function that runs as this principal, on top of this shadow stack
abbrev pub IsLawful : Code → Activation → Home → Marks → List Principal → Principal → Effect → Type 0
IsLawful c a h m shadow q (Moves b) = b.function ≡ a.function
IsLawful c a h m shadow q (Wants w) = IsSimple w × AskedFor c a h m shadow q w
IsLawful c a h m shadow q (Enters w) = IsEntering q w × (asker h m shadow w ≡ q)
IsLawful c a h m shadow q (Calls n args) = home_or_kernel c.program n ≡ home_or_kernel c.program a.function
IsLawful c a h m shadow q (Traps trap) = Unit {0}

divided : (c : Code) (a : Activation) (h : Home) (m : Marks) (shadow : List Principal) (q : Principal) (w : Option Word) → IsLawful c a h m shadow q (division a w)
divided c a h m shadow q None = tt
divided c a h m shadow q (Some w) = refl

arrived : (c : Code) (a : Activation) (h : Home) (m : Marks) (shadow : List Principal) (q : Principal) (b : Option CodeBlock) → IsLawful c a h m shadow q (arrival c.program a b)
arrived c a h m shadow q None = tt
arrived c a h m shadow q (Some b) = refl

-- a store of a module, with its guard or without
store_asked : (c : Code) (a : Activation) (m : ℕ) (shadow : List Principal) (q : Principal) (ty : Scalar) (v at : Operand) (os : List Op) (bare : Bool) → top shadow ≡ q →
    a.code ≡ op.Store ty v at ∷ os → bare_of c a.function a.label (stores_in os) ≡ bare →
    AskedFor c a (Some m) (marks_for c.program a (Some m) bare (op.Store ty v at)) shadow q (what.Store (bits c.program a at) (word (width_of ty) (bits c.program a v)))
store_asked c a m shadow q ty v at os false e ec eb = inl (top_if _ shadow (store_guarded c.program a ty (bits c.program a at)) ∙ e)
store_asked c a m shadow q ty v at os true e ec eb =
    inr (record { «module» = m; text = refl; ty = ty; stored = v; at = at; behind = os; code = ec; bare = eb; asked = refl; by_kernel = refl })

-- an instruction that is no call
pub lawful : (c : Code) (a : Activation) (h : Home) (shadow : List Principal) (q : Principal) (o : Op) (os : List Op) → RunsAs h q → top shadow ≡ q → (IsCall o → ⊥) → a.code ≡ o ∷ os →
    IsLawful c a h (marks_for c.program a h (bare_of c a.function a.label (stores_in os)) o) shadow q (effect c.program a o)
lawful c a h shadow q (op.Call to ret x args) os kern e n ec = absurd (n tt)
lawful c a None shadow q (op.Store ty v at) os kern e n ec = (tt, inl (sym kern))
lawful c a None shadow q (op.CopyBlock moves dest source len) os kern e n ec = (tt, inl (sym kern))
lawful c a None shadow q (op.FillBlock dest byte len) os kern e n ec = (tt, inl (sym kern))
lawful c a (Some m) shadow q (op.Store ty v at) os kern e n ec = (tt, store_asked c a m shadow q ty v at os (bare_of c a.function a.label (stores_in os)) e ec refl)
lawful c a (Some m) shadow q (op.CopyBlock moves dest source len) os kern e n ec = (tt, inl (top_if _ shadow (covered_itself (bits c.program a dest) (bits c.program a len.value)) ∙ e))
lawful c a (Some m) shadow q (op.FillBlock dest byte len) os kern e n ec = (tt, inl (top_if _ shadow (covered_itself (bits c.program a dest) (bits c.program a len.value)) ∙ e))
lawful c a h shadow q (op.Binary to b ty x y) os kern e n ec = divided c a h (marks_for c.program a h (bare_of c a.function a.label (stores_in os)) (op.Binary to b ty x y)) shadow q _
lawful c a h shadow q (op.Jump label) os kern e n ec = arrived c a h (marks_for c.program a h (bare_of c a.function a.label (stores_in os)) (op.Jump label)) shadow q _
lawful c a h shadow q (op.Branch test x y) os kern e n ec = arrived c a h (marks_for c.program a h (bare_of c a.function a.label (stores_in os)) (op.Branch test x y)) shadow q _
lawful c a h shadow q (op.Switch ty v otherwise cases) os kern e n ec = arrived c a h (marks_for c.program a h (bare_of c a.function a.label (stores_in os)) (op.Switch ty v otherwise cases)) shadow q _
lawful c a None shadow q (op.Alloca to ty) os kern e n ec = (tt, inl (sym kern))
lawful c a (Some m) shadow q (op.Alloca to ty) os kern e n ec = (tt, inl e)
lawful c a None shadow q (op.Load to ty at) os kern e n ec = (tt, inl (sym kern))
lawful c a (Some m) shadow q (op.Load to ty at) os kern e n ec = (tt, inl e)
lawful c a None shadow q (op.Ret v) os kern e n ec = (tt, inl (sym kern))
lawful c a (Some m) shadow q (op.Ret v) os kern e n ec = (tt, inl e)
lawful c a h shadow q (op.Compare to pred ty x y) os kern e n ec = refl
lawful c a h shadow q (op.Convert to how from x into) os kern e n ec = refl
lawful c a h shadow q (op.Unary to o ty x) os kern e n ec = refl
lawful c a h shadow q (op.Select to test ty x y) os kern e n ec = refl
lawful c a h shadow q (op.GetElementPtr to ty base indices) os kern e n ec = refl
lawful c a h shadow q _ os kern e n ec = tt
