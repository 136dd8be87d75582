-- Principals that a program lists.
use Rattle.std.specs.Prelude.{◌≡◌, ℕ, ◌<◌, ◌≤◌, Bool, true, false, ◌&&◌, ◌||◌, Some, None, List, [], ◌∷◌, ◌++◌, length, nat_lt, slice_get}
use Rattle.std.specs.List.{list_all, list_any}
use Rattle.lx_words.specs.Word.{Word}
use Rattle.lx_caps.specs.declared.Atom.{Atom}
use Rattle.lx_caps.specs.declared.Atom.TheVariants as atom
use Rattle.lx_caps.specs.declared.Cap.TheVariants.{Call}
use Rattle.lx_caps.specs.declared.Principal.{Principal}
use Rattle.lx_caps.specs.declared.Principal.TheVariants.{Kernel, Shared, Global, Inst}
use Rattle.lx_caps.specs.declared.Act.TheVariants.{Grant, Strip, Zero, Loan, Lend, Shut, ShutAll}
use Rattle.lx_caps.specs.History.{History, has, holds, owns, same_principal}
use Rattle.lx_caps.specs.Memory.{number_at}
use Rattle.lx_caps.specs.Names.{Namings, named, instance_count}
use Rattle.lx_caps.specs.Writers.{is_slot_writer}
use Rattle.lx_model.specs.declared.program.Program.{Program}
use Rattle.lx_model.specs.declared.program.ProgramFunction.{ProgramFunction}
use Rattle.lx_model.specs.declared.program.ProgramFunction.TheVariants.{Native, Of}
use Rattle.lx_model.specs.declared.account.Owned.{Owned}
use Rattle.lx_model.specs.declared.request.Reply.TheVariants.{Entered}
use Rattle.lx_model.specs.declared.request.Way.TheVariants.{Slot}
use Rattle.lx_model.specs.declared.request.What.TheVariants.{Enter}
use Rattle.lx_model.specs.Account.{account, owned_by}
use Rattle.lx_model.specs.Enter.{slot_writers}
use Rattle.lx_model.specs.Next.{next}
use Rattle.lx_model.specs.Serve.{serve}
use Rattle.lx_model.specs.State.{principals}
use Rattle.lx_model.specs.Thread.{Thread, has_work}
use Rattle.lx_model.specs.World.{World, event}

-- the function is a native, the kernel's, or of a module of the program
abbrev pub is_of_program : Program → ProgramFunction → Bool
is_of_program p (Native k) = true
is_of_program p (Of None f) = true
is_of_program p (Of (Some m) f) = nat_lt m (length p.modules)

-- each function is: linking numbers those of the kernel and of the modules, and no others
abbrev pub has_homes : Program → Bool
has_homes p = list_all (is_of_program p) p.functions

-- the principal is among those that are listed
abbrev pub is_listed : Program → Namings → Principal → Bool
is_listed p names q = list_any (same_principal q) (principals p names)

-- the module is one of the program's, and has such an instance
abbrev pub is_there : Program → Namings → Principal → Bool
is_there p names Kernel = false
is_there p names (Shared m) = nat_lt m (length p.modules)
is_there p names (Global m) = nat_lt m (length p.modules)
is_there p names (Inst m k) = nat_lt m (length p.modules) && nat_lt k (instance_count names m)

-- to whom the acts of a history give
abbrev pub receivers : History → List Principal
receivers [] = []
receivers (Grant q c ∷ h) = q ∷ receivers h
receivers (Strip c ∷ h) = receivers h
receivers (Zero at size ∷ h) = receivers h
receivers (Loan t ∷ h) = receivers h
receivers (Lend t q c ∷ h) = q ∷ receivers h
receivers (Shut t n ∷ h) = receivers h
receivers (ShutAll t ∷ h) = receivers h

-- the principal is the kernel, or listed
abbrev pub is_kernel_or_listed : Program → Namings → Principal → Bool
is_kernel_or_listed p names q = same_principal Kernel q || is_listed p names q

-- the atom is a byte, a call, or a reference of one of so many types
abbrev pub is_reported : ℕ → Atom → Bool
is_reported types (atom.Byte b) = true
is_reported types (atom.Call a) = true
is_reported types (atom.Ref ty a) = nat_lt ty types

-- these are a part of what is reported
pub record IsPart (part whole : List Owned) : Type 0 where
  pub before : List Owned
  pub after : List Owned
  pub stands : whole ≡ before ++ part ++ after

-- every principal of a world is listed
pub record ListsPrincipals (p : Program) (w : World) : Type 0 where
  -- whoever owns an atom
  pub owners : (q : Principal) (x : Atom) → owns w.state.history q x ≡ true → is_listed p w.state.names q ≡ true
  -- whoever a grant or a lend names
  pub receivers : list_all (is_listed p w.state.names) (receivers w.state.history) ≡ true
  -- whoever a function runs as, but the kernel
  pub frames : (t : ℕ) (x : Thread) → slice_get w.threads t ≡ Some x → list_all (λ f. is_kernel_or_listed p w.state.names f.principal) x.frames ≡ true
  -- so whoever is a writer of a slot is asked for its target's call
  pub writers : (slot : ℕ) (q : Principal) → is_slot_writer w.state.history slot q ≡ true → list_any (same_principal q) (slot_writers p w.state slot) ≡ true
  -- and what an account reports has all that is owned by whoever owns anything
  pub accounted : (q : Principal) (x : Atom) → owns w.state.history q x ≡ true → IsPart (owned_by p w.state q) (account p w).owners
  -- so each atom that a principal owns is reported of it, but references of types that the interface has not
  pub reported : (q : Principal) (x : Atom) → owns w.state.history q x ≡ true → is_reported (length p.interface.reftypes) x ≡ true
      → list_any (λ o. same_principal q o.who && has o.cap x) (account p w).owners ≡ true

-- a name is of an instance that its module has, and an event adds names and takes none
pub record NumbersInstances (p : Program) (w : World) : Type 0 where
  pub named : (m v k : ℕ) → named w.state.names m v ≡ Some k → k < instance_count w.state.names m
  pub added : (t : ℕ) → (more : Namings) × ((event p t w).state.names ≡ more ++ w.state.names)
  pub counts : (t m : ℕ) → instance_count w.state.names m ≤ instance_count (event p t w).state.names m

-- behind a call through a slot that entered a function, whoever is a writer of the slot held the call of what stood in it
abbrev pub WritersHold : Program → ℕ → World → Type 0
WritersHold p t w =
    (x : Thread) (slot ty : ℕ) (args : List Word) (n : ℕ) (entered : Principal) (crosses : Bool) → slice_get w.threads t ≡ Some x → has_work x ≡ true
    → (next p t x).request.what ≡ Enter (Slot slot ty) args → (serve p w.state t (next p t x).request).reply ≡ Entered n entered crosses
    → (q : Principal) → is_slot_writer w.state.history slot q ≡ true → holds w.state.history q (Call (number_at w.state.memory slot 8)) ≡ true
