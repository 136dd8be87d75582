-- One more module, or one more of its functions, is opened behind the others.
use Rattle.std.proofs.Common.{◌≡◌, ℕ, ◌+◌, Bool, true, false, Some, None, List, [], ◌∷◌, ◌++◌, refl, sym, ap, subst, ◌∙◌, add-one, arith}
use Rattle.std.proofs.lemmas.Bool.Decides.{nat_tests}
use Rattle.std.specs.Prelude.{if◌then◌else◌}
use Rattle.lx_caps.specs.declared.Principal.TheVariants.{Shared}
use Rattle.lx_caps.specs.declared.Cap.TheVariants.{Write}
use Rattle.lx_caps.specs.declared.Act.TheVariants.{Grant, Strip}
use Rattle.lx_caps.specs.History.{History}
use Rattle.lx_ir.specs.Layout.{size_of}
use Rattle.lx_ir.specs.declared.module.GlobalVar.{GlobalVar}
use Rattle.lx_model.specs.declared.program.ProgramGlobal.{ProgramGlobal}
use Rattle.lx_model.specs.declared.program.Program.{Program}
use Rattle.lx_model.specs.Program.{Home, Target, module_of, same_home, target}
use Rattle.lx_model.specs.Opening.{is_global_of, global_of, global_granted, call_granted, calls_granted, module_opened, modules_opened}
use Rattle.lx_slot_types.specs.Gets.{below}

calls_push : (p : Program) (m : ℕ) (fs : List ℕ) (f : ℕ) (h : History) → calls_granted p m (fs ++ f ∷ []) h ≡ call_granted m (target p (Some m) f) (calls_granted p m fs h)
calls_push p m [] f h = refl
calls_push p m (x ∷ xs) f h = calls_push p m xs f (call_granted m (target p (Some m) x) h)

pub calls_more : (p : Program) (m n : ℕ) (h : History) → calls_granted p m (below (n + 1)) h ≡ call_granted m (target p (Some m) n) (calls_granted p m (below n) h)
calls_more p m n h = ap (λ k. calls_granted p m (below k) h) (add-one n) ∙ calls_push p m (below n) n h

-- what one more of its functions names is given
pub call_given : {C : Type 0} (stands : C → History → Type 0) (caps : C) (p : Program) (m n : ℕ) (t : Target) (h : History) → t ≡ target p (Some m) n
    → stands caps (call_granted m t (calls_granted p m (below n) h)) → stands caps (calls_granted p m (below (n + 1)) h)
call_given stands caps p m n t h is stood =
    subst (stands caps) (sym (calls_more p m n h)) (subst (λ x. stands caps (call_granted m x (calls_granted p m (below n) h))) is stood)

modules_push : (p : Program) (ms : List ℕ) (m : ℕ) (h : History) → modules_opened p (ms ++ m ∷ []) h ≡ module_opened p m (modules_opened p ms h)
modules_push p [] m h = refl
modules_push p (x ∷ xs) m h = modules_push p xs m (module_opened p x h)

pub modules_more : (p : Program) (n : ℕ) (h : History) → modules_opened p (below (n + 1)) h ≡ module_opened p n (modules_opened p (below n) h)
modules_more p n h = ap (λ k. modules_opened p (below k) h) (add-one n) ∙ modules_push p (below n) n h

-- what a global's range is given as, however large its type is laid out
abbrev given : ℕ → ℕ → Bool → History → ℕ → History
given at m constant h size =
    let c = Write at size in
    if constant then Strip c ∷ Grant (Shared m) c ∷ h else Grant (Shared m) c ∷ h

given_is : (p : Program) (m : ℕ) (x : ProgramGlobal) (g : GlobalVar) (h : History)
    → global_granted p m x (Some g) h ≡ given x.at m g.constant h (size_of (module_of p (Some m)).types g.ty)
given_is p m x g h = refl

-- a constant global is given and taken again
pub constant_given : {C : Type 0} (stands : C → History → Type 0) (caps : C) (p : Program) (m : ℕ) (x : ProgramGlobal) (g : GlobalVar) (size : ℕ) (h : History)
    → global_of p x ≡ Some g → g.constant ≡ true → size ≡ size_of (module_of p (Some m)).types g.ty
    → stands caps (Strip (Write x.at size) ∷ Grant (Shared m) (Write x.at size) ∷ h) → stands caps (global_granted p m x (global_of p x) h)
constant_given stands caps p m x g size h is constant sized stood =
    subst (λ o. stands caps (global_granted p m x o h)) (sym is)
    (subst (stands caps) (sym (given_is p m x g h))
    (subst (λ n. stands caps (given x.at m g.constant h n)) sized
    (subst (λ b. stands caps (given x.at m b h size)) (sym constant) stood)))

-- any other global is given
pub variable_given : {C : Type 0} (stands : C → History → Type 0) (caps : C) (p : Program) (m : ℕ) (x : ProgramGlobal) (g : GlobalVar) (size : ℕ) (h : History)
    → global_of p x ≡ Some g → g.constant ≡ false → size ≡ size_of (module_of p (Some m)).types g.ty
    → stands caps (Grant (Shared m) (Write x.at size) ∷ h) → stands caps (global_granted p m x (global_of p x) h)
variable_given stands caps p m x g size h is constant sized stood =
    subst (λ o. stands caps (global_granted p m x o h)) (sym is)
    (subst (stands caps) (sym (given_is p m x g h))
    (subst (λ n. stands caps (given x.at m g.constant h n)) sized
    (subst (λ b. stands caps (given x.at m b h size)) (sym constant) stood)))

same_number : (home : Home) (m : ℕ) → same_home home (Some m) ≡ true → home ≡ Some m
same_number None m h = absurd (cc)
same_number (Some n) m h = let e : n ≡ m = grind (arith, nat_tests, h) in ap Some e

-- the types of a module's own global are the module's
pub own_size : (p : Program) (m : ℕ) (x : ProgramGlobal) (g : GlobalVar) (size : ℕ) → is_global_of m x ≡ true → size ≡ size_of (module_of p x.«module»).types g.ty → size ≡ size_of (module_of p (Some m)).types g.ty
own_size p m x g size own is = is ∙ ap (λ home. size_of (module_of p home).types g.ty) (same_number x.«module» m own)
