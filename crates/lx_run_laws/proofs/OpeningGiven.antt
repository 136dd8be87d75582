-- What is given before the first call is given to modules of the program.
use Rattle.std.proofs.Common.{ℕ, zero, suc, ◌<◌, ◌≤◌, Bool, true, false, Option, Some, None, List, [], ◌∷◌, ◌++◌, length, arith}
use Rattle.std.specs.Prelude.{⊤, if◌then◌else◌}
use Rattle.lx_caps.specs.declared.Cap.TheVariants.{Write}
use Rattle.lx_caps.specs.declared.Principal.{Principal}
use Rattle.lx_caps.specs.declared.Principal.TheVariants.{Shared}
use Rattle.lx_caps.specs.declared.Act.TheVariants.{Grant, Strip}
use Rattle.lx_caps.specs.History.{History}
use Rattle.lx_ir.specs.declared.module.GlobalVar.{GlobalVar}
use Rattle.lx_slot_types.specs.Gets.{below}
use Rattle.lx_model.specs.declared.program.Program.{Program}
use Rattle.lx_model.specs.declared.program.ProgramGlobal.{ProgramGlobal}
use Rattle.lx_model.specs.Opening.{call_granted, calls_granted, global_granted, global_of, globals_granted, is_global_of, module_opened, modules_opened, opening_history}
use Rattle.lx_model.specs.Program.{Target, ToNative, ToSlot, ToImport, ToOwn, Nowhere, module_of, target}
use Rattle.lx_run_laws.proofs.Given.{AllGiven, IsCounted}

-- it holds of each element
abbrev pub Each : {A : Type 0} → (A → Type 0) → List A → Type 0
Each P [] = ⊤
Each P (x ∷ xs) = P x × Each P xs

each_join : {A : Type 0} (P : A → Type 0) (xs ys : List A) → Each P xs → Each P ys → Each P (xs ++ ys)
each_join P [] ys each more = more
each_join P (x ∷ xs) ys each more = (each.0, each_join P xs ys each.1 more)

each_below : (n limit : ℕ) → n ≤ limit → Each (λ m. m < limit) (below n)
each_below zero limit most = tt
each_below (suc n) limit most = each_join (λ m. m < limit) (below n) (n ∷ []) (each_below n limit (omega arith)) (omega arith, tt)

-- grants are to the shared principal

one_global : (G : Principal → Type 0) (m : ℕ) (x : ProgramGlobal) (constant : Bool) (size : ℕ) (h : History) → G (Shared m) → AllGiven G h
    → AllGiven G (if constant then Strip (Write x.at size) ∷ Grant (Shared m) (Write x.at size) ∷ h else Grant (Shared m) (Write x.at size) ∷ h)
one_global G m x true size h is all = (is, all)
one_global G m x false size h is all = (is, all)

global_given : (G : Principal → Type 0) (p : Program) (m : ℕ) (x : ProgramGlobal) (g : Option GlobalVar) (h : History) → G (Shared m) → AllGiven G h → AllGiven G (global_granted p m x g h)
global_given G p m x None h is all = all
global_given G p m x (Some g) h is all = one_global G m x g.constant _ h is all

either : (G : Principal → Type 0) (b : Bool) (new old : History) → AllGiven G new → AllGiven G old → AllGiven G (if b then new else old)
either G true new old fresh all = fresh
either G false new old fresh all = all

globals_given : (G : Principal → Type 0) (p : Program) (m : ℕ) (xs : List ProgramGlobal) (h : History) → G (Shared m) → AllGiven G h → AllGiven G (globals_granted p m xs h)
globals_given G p m [] h is all = all
globals_given G p m (x ∷ xs) h is all =
    globals_given G p m xs _ is (either G (is_global_of m x) (global_granted p m x (global_of p x) h) h (global_given G p m x (global_of p x) h is all) all)

call_given : (G : Principal → Type 0) (m : ℕ) (x : Target) (h : History) → G (Shared m) → AllGiven G h → AllGiven G (call_granted m x h)
call_given G m (ToNative k) h is all = all
call_given G m (ToSlot s) h is all = all
call_given G m (ToImport n) h is all = (is, all)
call_given G m (ToOwn n) h is all = (is, all)
call_given G m Nowhere h is all = all

calls_given : (G : Principal → Type 0) (p : Program) (m : ℕ) (fs : List ℕ) (h : History) → G (Shared m) → AllGiven G h → AllGiven G (calls_granted p m fs h)
calls_given G p m [] h is all = all
calls_given G p m (f ∷ fs) h is all = calls_given G p m fs _ is (call_given G m (target p (Some m) f) h is all)

modules_given : (G : Principal → Type 0) (p : Program) (ms : List ℕ) (h : History) → Each (λ m. G (Shared m)) ms → AllGiven G h → AllGiven G (modules_opened p ms h)
modules_given G p [] h each all = all
modules_given G p (m ∷ ms) h each all =
    modules_given G p ms (module_opened p m h) each.1
    (calls_given G p m (below (length (module_of p (Some m)).functions)) _ each.0 (globals_given G p m p.globals h each.0 all))

-- what holds of the shared principals of the program's modules holds of all to whom something is given
pub opening_given_to : (G : Principal → Type 0) (p : Program) → ((m : ℕ) → m < length p.modules → G (Shared m)) → AllGiven G (opening_history p)
opening_given_to G p is =
    modules_given G p (below (length p.modules)) [] (each_more (below (length p.modules)) (each_below (length p.modules) (length p.modules) (omega arith))) tt where
      each_more : (ms : List ℕ) → Each (λ m. m < length p.modules) ms → Each (λ m. G (Shared m)) ms
      each_more [] each = tt
      each_more (m ∷ ms) each = (is m each.0, each_more ms each.1)

pub opening_given : (p : Program) → AllGiven (IsCounted p []) (opening_history p)
opening_given p = opening_given_to (IsCounted p []) p (λ m less. less)
