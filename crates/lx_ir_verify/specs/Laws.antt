-- Laws of the faults.
use Rattle.std.specs.Prelude.{◌≡◌, ℕ, ◌<◌, ◌⊎◌, true, Option, None, List, Contains, length, take}
use Rattle.lx_ir.specs.declared.module.Function.{Function}
use Rattle.lx_ir.specs.declared.module.Module.{Module}
use Rattle.lx_ir.specs.Faults.{Fault, FirstFault, Read, reads_of, Walk, walk_assigns, assigns, instrs_at}

-- a module has one first fault, or none
abbrev pub OneFirstFault : Type 0
OneFirstFault = (m : Module) (r s : Option Fault) → FirstFault m r → FirstFault m s → r ≡ s

-- a walk comes to a read of a parameter, or of a register that one of its blocks or the read's own block assigned before
abbrev pub IsAssigned : Function → List ℕ → Read → Type 0
IsAssigned f walk x =
    (x.register < length f.params) ⊎ ((walk_assigns f walk x.register ≡ true) ⊎ (assigns (take x.place (instrs_at f x.block)) x.register ≡ true))

-- in a module without a fault every walk to a read assigned its register
abbrev pub ReadsAreAssigned : Type 0
ReadsAreAssigned =
    (m : Module) (f : Function) (x : Read) (walk : List ℕ) → FirstFault m None → Contains m.functions f → Contains (reads_of f) x → Walk f walk x.block → IsAssigned f walk x
