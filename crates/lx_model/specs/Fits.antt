-- The requests that a lawful caller makes.
use Rattle.std.specs.Prelude.{◌≡◌, ℕ, ◌<◌, ◌≤◌, Bool, true, false, Option, Some, None, IsTrue, List, [], ◌∷◌, map, length, slice_get, option_map, option_and_then, ⊤}
use Rattle.lx_words.specs.declared.word.Width.{Width}
use Rattle.lx_words.specs.declared.word.Width.TheVariants.{W64}
use Rattle.lx_words.specs.Word.{Word}
use Rattle.lx_caps.specs.declared.Principal.{Principal}
use Rattle.lx_caps.specs.declared.Principal.TheVariants.{Kernel, Shared, Global, Inst}
use Rattle.lx_caps.specs.Regions.{stack_start, stack_end}
use Rattle.lx_ir.specs.declared.module.Function.{Function}
use Rattle.lx_annot.specs.declared.interface.Slot.{Slot as SlotType}
use Rattle.lx_model.specs.declared.program.Program.{Program}
use Rattle.lx_model.specs.declared.request.Way.{Way}
use Rattle.lx_model.specs.declared.request.Way.TheVariants.{Script, Direct, Indirect, Slot}
use Rattle.lx_model.specs.declared.request.What.{What}
use Rattle.lx_model.specs.declared.request.What.TheVariants as what
use Rattle.lx_model.specs.declared.request.Request.{Request}
use Rattle.lx_model.specs.Program.{NativeCall, Alloc, Free, ZeroBytes, TryLock, NoteValue, AliasPrincipal, native_call, same_result, result_width, function_of, is_in, param_widths, same_widths, are_declared}
use Rattle.lx_model.specs.Next.{actions_of}
use Rattle.lx_model.specs.Authority.{is_module}

abbrev pub widths : List Word → List Width
widths args = map (λ w. w.width) args

-- the arguments are as many and as wide as the function's parameters
abbrev pub FitsFunction : Program → ℕ → List Word → Type 0
FitsFunction p n args = (f : Function) × (function_of p n ≡ Some f) × IsTrue (same_widths (widths args) (param_widths f))

abbrev pub FitsSlot : Program → ℕ → List Word → Type 0
FitsSlot p s args = (t : SlotType) × (slice_get p.interface.slots s ≡ Some t) × IsTrue (are_declared t.params (widths args))

abbrev pub FitsWay : Program → Way → List Word → Type 0
FitsWay p (Script n) args = FitsFunction p n args
FitsWay p (Direct n) args = IsTrue (is_in p None n) × FitsFunction p n args
FitsWay p (Indirect a) args = ⊤
FitsWay p (Slot slot ty) args = FitsSlot p ty args

-- the widths of a native's arguments
abbrev pub native_widths : NativeCall → List Width
native_widths Alloc = W64 ∷ []
native_widths Free = W64 ∷ []
native_widths ZeroBytes = W64 ∷ W64 ∷ []
native_widths TryLock = W64 ∷ []
native_widths NoteValue = W64 ∷ []
native_widths AliasPrincipal = W64 ∷ W64 ∷ []

-- who may call a native: the alias is for modules alone
abbrev pub MayCall : Principal → NativeCall → Type 0
MayCall who AliasPrincipal = IsTrue (is_module who)
MayCall who _ = ⊤

-- there is such a native, and the arguments are as many and as wide as its parameters
abbrev pub FitsNative : Principal → ℕ → List Word → Type 0
FitsNative who k args = (k < 6) × IsTrue (same_widths (widths args) (native_widths (native_call k))) × MayCall who (native_call k)

-- an action before the body is given no result, and one behind it a result of the function's type
abbrev pub FitsResult : Program → ℕ → Bool → Option Word → Type 0
FitsResult p n false ret = ret ≡ None
FitsResult p n true ret = IsTrue (same_result (option_map (λ w. w.width) ret) (option_and_then result_width (function_of p n)))

-- the principal is the kernel, or of a module of the program
abbrev pub FitsPrincipal : Program → Principal → Type 0
FitsPrincipal p Kernel = ⊤
FitsPrincipal p (Shared m) = m < length p.modules
FitsPrincipal p (Global m) = m < length p.modules
FitsPrincipal p (Inst m k) = m < length p.modules

-- a part of the thread's stack, or its end
abbrev pub FitsStack : ℕ → ℕ → ℕ → Type 0
FitsStack t low high = (stack_start t ≤ low) × (low ≤ high) × (high ≤ stack_end t)

abbrev pub FitsWhat : Program → ℕ → Principal → What → Type 0
FitsWhat p t who (what.Alloca at size) = (stack_start t ≤ at) × (at ≤ stack_end t)
FitsWhat p t who (what.Return low high) = FitsStack t low high
FitsWhat p t who (what.Enter way args) = FitsWay p way args
FitsWhat p t who (what.Perform n post k env source dest) =
    (k < length (actions_of p n post)) × FitsFunction p n env.args × FitsResult p n post env.ret × FitsPrincipal p source × FitsPrincipal p dest
FitsWhat p t who (what.Native k args) = FitsNative who k args
FitsWhat p t who _ = ⊤

abbrev pub Fits : Program → ℕ → Request → Type 0
Fits p t r = (t < 16) × FitsPrincipal p r.who × FitsWhat p t r.who r.what
