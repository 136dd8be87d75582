-- The history that an index stands for.
use Rattle.std.specs.Prelude.{◌≡◌, ℕ, ◌+◌, ◌%◌, ◌^◌, ◌<◌, ◌≤◌, length, Option, Some, None, ⊤}
use Rattle.lx_caps.specs.declared.Atom.{Atom}
use Rattle.lx_caps.specs.declared.Atom.TheVariants as atom
use Rattle.lx_caps.specs.declared.Cap.{Cap}
use Rattle.lx_caps.specs.History.{History}
use Rattle.lx_certificates.specs.Givers.{nth_atom}
use Rattle.lx_act_index.specs.declared.index.ActIndex.{ActIndex}
use Rattle.lx_act_index.specs.Index.{Shows}

-- the index stands for the history
pub record StandsForActs (i : ActIndex) (h : History) : Type 0 where
  pub count : i.count ≡ length h
  pub shows : Shows i.table i.threads.items h

-- a place that was gone on to lies behind, and is a place of so many or their end
abbrev pub MovesOn : ℕ → ℕ → Option ℕ → Type 0
MovesOn from count None = ⊤
MovesOn from count (Some end) = (from < end) × (end ≤ count)

-- the atom lies outside of the address space
abbrev pub IsFar : Atom → Type 0
IsFar (atom.Byte b) = 2 ^ 64 ≤ b
IsFar (atom.Call a) = ⊥
IsFar (atom.Ref t a) = ⊥

-- the atom at a place, or none outside of the address space
abbrev pub IsAtom : Cap → ℕ → Option Atom → Type 0
IsAtom c k None = IsFar (nth_atom c k)
IsAtom c k (Some x) = x ≡ nth_atom c k

-- the atom lies so many bytes behind another one, in the same part; a call or a reference lies behind itself alone
abbrev pub IsFrom : Atom → ℕ → Atom → Type 0
IsFrom (atom.Byte b) k x = (x ≡ atom.Byte (b + k)) × (b % 64 + k < 64)
IsFrom (atom.Call a) k x = (x ≡ atom.Call a) × (k ≡ 0)
IsFrom (atom.Ref t a) k x = (x ≡ atom.Ref t a) × (k ≡ 0)
