-- Proofs of the laws.
use Rattle.std.proofs.Common.{◌≡◌, ℕ, zero, suc, ◌<◌, Bool, true, false, Option, Some, None, List, [], ◌∷◌, length, get_or, take, refl, sym, ◌∙◌, subst, arith, inl, inr}
use Rattle.std.specs.Prelude.{IsSome}
use Rattle.std.proofs.lemmas.Bool.Decides.{leb_tells}
use Rattle.lx_ir.specs.declared.module.Function.{Function}
use Rattle.lx_ir.specs.declared.module.Module.{Module}
use Rattle.lx_ir.specs.Faults.{Fault, Read, reads_of, IsUnassigned, FirstUnassigned, FirstOrUnassigned, FunctionFault, FirstOfFunctions, FirstBehind, earlier_fault, first_some, global_fault, Walk, walk_assigns, assigns, instrs_at}
use Rattle.lx_ir_verify.specs.Laws.{OneFirstFault, IsAssigned, ReadsAreAssigned}

-- One first fault.

one_read : (f : Function) (xs : List Read) (r s : Option Fault) → FirstUnassigned f xs r → FirstUnassigned f xs s → r ≡ s
one_read f [] r s a b = a ∙ sym b
one_read f (x ∷ xs) r s a b = elim a [
  | inl p ↦ elim b [ inl q ↦ p.1 ∙ sym q.1 | inr q ↦ absurd (q.0 p.0) ]
  | inr p ↦ elim b [ inl q ↦ absurd (p.0 q.0) | inr q ↦ one_read f xs r s p.1 q.1 ]
]

one_behind : (f : Function) (x r s : Option Fault) → FirstOrUnassigned x f r → FirstOrUnassigned x f s → r ≡ s
one_behind f None r s a b = one_read f (reads_of f) r s a b
one_behind f (Some x) r s a b = a ∙ sym b

one_of_function : (m : Module) (f : Function) (r s : Option Fault) → FunctionFault m f r → FunctionFault m f s → r ≡ s
one_of_function m f r s a b = one_behind f (earlier_fault m f) r s a b

not_none : (r : Option Fault) → IsSome r → r ≡ None → ⊥
not_none None i e = cc
not_none (Some x) i e = cc

one_of_functions : (m : Module) (fs : List Function) (r s : Option Fault) → FirstOfFunctions m fs r → FirstOfFunctions m fs s → r ≡ s
one_of_functions m [] r s a b = a ∙ sym b
one_of_functions m (f ∷ fs) r s a b = elim a [
  | inl p ↦ elim b [ inl q ↦ one_of_function m f r s p.0 q.0 | inr q ↦ absurd (not_none r p.1 (one_of_function m f r None p.0 q.0)) ]
  | inr p ↦ elim b [ inl q ↦ absurd (not_none s q.1 (one_of_function m f s None q.0 p.0)) | inr q ↦ one_of_functions m fs r s p.1 q.1 ]
]

one_by : (m : Module) (x r s : Option Fault) → FirstBehind x m r → FirstBehind x m s → r ≡ s
one_by m None r s a b = one_of_functions m m.functions r s a b
one_by m (Some x) r s a b = a ∙ sym b

pub one_first_fault : OneFirstFault
one_first_fault m r s a b = one_by m (first_some (global_fault m) m.globals) r s a b

-- Reads are assigned.

not_some : (y : Fault) → None ≡ Some y → ⊥
not_some y e = cc

no_read : (f : Function) (xs : List Read) (k : ℕ) (d : Read) → FirstUnassigned f xs None → k < length xs → IsUnassigned f (get_or xs k d) → ⊥
no_read f [] k d a h u = absurd (omega arith)
no_read f (x ∷ xs) zero d a h u = elim a [ inl p ↦ not_some _ p.1 | inr p ↦ p.0 u ]
no_read f (x ∷ xs) (suc k) d a h u = elim a [ inl p ↦ not_some _ p.1 | inr p ↦ no_read f xs k d p.1 (omega arith) u ]

none_behind : (f : Function) (x : Option Fault) → FirstOrUnassigned x f None → FirstUnassigned f (reads_of f) None
none_behind f None a = a
none_behind f (Some x) a = cc

no_fault_at : (m : Module) (fs : List Function) (k : ℕ) (d : Function) → FirstOfFunctions m fs None → k < length fs → FunctionFault m (get_or fs k d) None
no_fault_at m [] k d a h = absurd (omega arith)
no_fault_at m (f ∷ fs) zero d a h = elim a [ inl p ↦ p.0 | inr p ↦ p.0 ]
no_fault_at m (f ∷ fs) (suc k) d a h = elim a [ inl p ↦ absurd (not_none None p.1 refl) | inr p ↦ no_fault_at m fs k d p.1 (omega arith) ]

none_of_functions : (m : Module) (x : Option Fault) → FirstBehind x m None → FirstOfFunctions m m.functions None
none_of_functions m None a = a
none_of_functions m (Some x) a = cc

assigned_by : (a b : Bool) (f : Function) (walk : List ℕ) (x : Read) → (IsUnassigned f x → ⊥) → Walk f walk x.block → walk_assigns f walk x.register ≡ a → assigns (take x.place (instrs_at f x.block)) x.register ≡ b → IsAssigned f walk x
assigned_by true b f walk x n w p q = inr (inl p)
assigned_by false true f walk x n w p q = inr (inr q)
assigned_by false false f walk x n w p q = elim (leb_tells (length f.params) x.register) [
  | inl l ↦ absurd (n record { no_parameter = l.1; walk = walk; comes = w; not_before = p; not_here = q })
  | inr l ↦ inl l.1
]

pub reads_are_assigned : ReadsAreAssigned
reads_are_assigned m f x walk a c d w =
    let g : FunctionFault m f None =
    subst (λ h. FunctionFault m h None) c.2 (no_fault_at m m.functions c.0 f (none_of_functions m (first_some (global_fault m) m.globals) a) c.1) in
    let n : IsUnassigned f x → ⊥ =
    λ u. no_read f (reads_of f) d.0 x (none_behind f (earlier_fault m f) g) d.1 (subst (IsUnassigned f) (sym d.2) u) in
    assigned_by (walk_assigns f walk x.register) (assigns (take x.place (instrs_at f x.block)) x.register) f walk x n w refl refl
