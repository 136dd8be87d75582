-- Who holds what: by owner, and the kernel by the bounds of memory.
use Rattle.std.specs.Prelude.{◌≡◌, ◌↔◌, ◌⊎◌, ℕ, ◌+◌, ◌<◌, ◌≤◌, Bool, true}
use Rattle.lx_caps.specs.declared.Principal.{Principal}
use Rattle.lx_caps.specs.declared.Principal.TheVariants.{Kernel, Shared, Global, Inst}
use Rattle.lx_caps.specs.declared.Cap.{Cap}
use Rattle.lx_caps.specs.declared.Cap.TheVariants.{Write, Call, Ref}
use Rattle.lx_caps.specs.declared.Atom.{Atom}
use Rattle.lx_caps.specs.History.{History, has, holds, keeps, keeps_all, owns}
use Rattle.lx_caps.specs.RegionLaws.{LiesInMemory}

-- a principal of the module: the shared one, the global one, or an instance
abbrev pub BelongsTo : ℕ → Principal → Type 0
BelongsTo m q = (q ≡ Shared m) ⊎ ((q ≡ Global m) ⊎ ((k : ℕ) × (q ≡ Inst m k)))

-- who counts for a principal of a module: itself, for an instance the shared principal too, and for the global one everybody of the module
abbrev pub CountsFor : Principal → Principal → Type 0
CountsFor Kernel q = q ≡ Kernel
CountsFor (Shared m) q = q ≡ Shared m
CountsFor (Global m) q = BelongsTo m q
CountsFor (Inst m k) q = (q ≡ Inst m k) ⊎ (q ≡ Shared m)

-- somebody that counts for the principal has each atom of the capability
abbrev pub HasEach : (Principal → Atom → Bool) → Principal → Cap → Type 0
HasEach has_it who c = (x : Atom) → has c x ≡ true → (q : Principal) × CountsFor who q × (has_it q x ≡ true)

-- each of the bytes lies in some region of memory
abbrev pub LieInMemory : ℕ → ℕ → Type 0
LieInMemory at size = (b : ℕ) → at ≤ b → b < at + size → LiesInMemory b

-- what is held, and what is kept, by a test of owners
pub record IsHeldBy (test : History → Principal → Cap → Bool) (has_it : History → Principal → Atom → Bool) : Type 0 where
  -- the kernel holds a range exactly where each of its bytes lies in memory, and each call and reference
  pub kernel_range : (h : History) (at size : ℕ) → (test h Kernel (Write at size) ≡ true) ↔ LieInMemory at size
  pub kernel_call : (h : History) (at : ℕ) → test h Kernel (Call at) ≡ true
  pub kernel_ref : (h : History) (ty at : ℕ) → test h Kernel (Ref ty at) ≡ true
  -- a shared principal, a global one and an instance hold what those own, atom by atom, that count for them
  pub shared : (h : History) (m : ℕ) (c : Cap) → (test h (Shared m) c ≡ true) ↔ HasEach (has_it h) (Shared m) c
  pub global : (h : History) (m : ℕ) (c : Cap) → (test h (Global m) c ≡ true) ↔ HasEach (has_it h) (Global m) c
  pub instance : (h : History) (m k : ℕ) (c : Cap) → (test h (Inst m k) c ≡ true) ↔ HasEach (has_it h) (Inst m k) c

pub record HoldingLaws : Type 0 where
  -- what is held is owned
  pub holding : IsHeldBy holds owns
  -- and what is kept was granted
  pub keeping : IsHeldBy keeps_all keeps
