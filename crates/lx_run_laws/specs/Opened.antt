-- Who owns what before the first call.
use Rattle.std.specs.Prelude.{◌≡◌, ℕ, Bool, true, false, not, ◌&&◌, ◌||◌, Option, Some, None, List, [], ◌∷◌, filter, length, nat_eq, nat_lt}
use Rattle.std.specs.List.{flat_map, list_any}
use Rattle.lx_caps.specs.declared.Atom.{Atom}
use Rattle.lx_caps.specs.declared.Atom.TheVariants.{Byte, Call, Ref}
use Rattle.lx_caps.specs.declared.Principal.{Principal}
use Rattle.lx_caps.specs.declared.Principal.TheVariants.{Shared}
use Rattle.lx_caps.specs.History.{owns}
use Rattle.lx_caps.specs.Regions.{covers}
use Rattle.lx_ir.specs.declared.module.GlobalVar.{GlobalVar}
use Rattle.lx_ir.specs.Layout.{size_of}
use Rattle.lx_slot_types.specs.Gets.{below}
use Rattle.lx_model.specs.declared.program.Program.{Program}
use Rattle.lx_model.specs.declared.program.ProgramGlobal.{ProgramGlobal}
use Rattle.lx_model.specs.Opening.{global_of, is_global_of, opening_history}
use Rattle.lx_model.specs.Program.{Target, ToImport, ToOwn, address_of, module_of, target}

-- the byte is one of the global's
abbrev pub global_has : Program → ℕ → ProgramGlobal → GlobalVar → Bool
global_has p b x g = covers x.at (size_of (module_of p x.«module»).types g.ty) b

-- a global that is not constant has the byte
abbrev pub is_variable : Program → ℕ → ProgramGlobal → Option GlobalVar → Bool
is_variable p b x None = false
is_variable p b x (Some g) = not g.constant && global_has p b x g

abbrev pub is_variable_with : Program → ℕ → ProgramGlobal → Bool
is_variable_with p b x = is_variable p b x (global_of p x)

-- a constant global has it
abbrev pub is_constant : Program → ℕ → ProgramGlobal → Option GlobalVar → Bool
is_constant p b x None = false
is_constant p b x (Some g) = g.constant && global_has p b x g

abbrev pub is_constant_with : Program → ℕ → ProgramGlobal → Bool
is_constant_with p b x = is_constant p b x (global_of p x)

-- a variable of the module has the byte
abbrev pub gives_byte : Program → ℕ → ℕ → ProgramGlobal → Bool
gives_byte p m b x = is_global_of m x && is_variable_with p b x

-- the globals of modules in the order in which they are granted
abbrev pub module_globals : Program → List ProgramGlobal
module_globals p = flat_map (λ m. filter (is_global_of m) p.globals) (below (length p.modules))

-- one of them gives, and none behind it takes
abbrev pub stays : (ProgramGlobal → Bool) → (ProgramGlobal → Bool) → List ProgramGlobal → Bool
stays gives takes [] = false
stays gives takes (x ∷ xs) = (gives x && not (list_any takes xs)) || stays gives takes xs

-- the address is that of a function that a module may call: one that it defines, or the kernel's that it declares
abbrev pub is_call_of : ℕ → Target → Bool
is_call_of a (ToImport n) = nat_eq (address_of n) a
is_call_of a (ToOwn n) = nat_eq (address_of n) a
is_call_of a _ = false

abbrev pub calls_of : Program → ℕ → ℕ → Bool
calls_of p a m = list_any (λ f. is_call_of a (target p (Some m) f)) (below (length (module_of p (Some m)).functions))

-- no byte of a variable is a constant's: linking places one global behind another
abbrev pub StandApart : Program → Type 0
StandApart p = (b : ℕ) → list_any (is_variable_with p b) p.globals ≡ true → list_any (is_constant_with p b) p.globals ≡ false

abbrev pub is_shared : Principal → Bool
is_shared (Shared m) = true
is_shared _ = false

pub record FirstOwned (p : Program) : Type 0 where
  -- a module's shared principal owns the bytes of its variables that are no later constant's
  pub bytes : (m b : ℕ) → owns (opening_history p) (Shared m) (Byte b) ≡ stays (gives_byte p m b) (is_constant_with p b) (module_globals p)
  -- so the bytes of its variables, where globals stand apart
  pub apart : StandApart p → (m b : ℕ) → owns (opening_history p) (Shared m) (Byte b) ≡ (nat_lt m (length p.modules) && list_any (gives_byte p m b) p.globals)
  -- the calls of the functions that it defines, and of the kernel's that it declares
  pub calls : (m a : ℕ) → owns (opening_history p) (Shared m) (Call a) ≡ (nat_lt m (length p.modules) && calls_of p a m)
  -- and no references
  pub refs : (q : Principal) (ty a : ℕ) → owns (opening_history p) q (Ref ty a) ≡ false
  -- nobody else owns anything
  pub others : (q : Principal) (x : Atom) → is_shared q ≡ false → owns (opening_history p) q x ≡ false
