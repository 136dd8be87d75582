-- Lines that are there or not.
use Rattle.std.proofs.Common.{◌≡◌, ℕ, Bool, true, false, Option, Some, None, List, [], ◌++◌, slice_get, sym, ap, ◌∙◌}
use Rattle.lx_words.proofs.Lists.{nothing_behind}
use Rattle.lx_ir.specs.declared.module.Function.{Function as TextFunction}
use Rattle.lx_model.specs.declared.program.Program.{Program}
use Rattle.lx_model.specs.declared.program.ProgramFunction.{ProgramFunction}
use Rattle.lx_model.specs.declared.program.ProgramFunction.TheVariants.{Native, Of}
use Rattle.lx_surface.specs.declared.Thing.TheVariants.{RefType, Function}
use Rattle.lx_surface.specs.declared.limits.Bound.{Bound}
use Rattle.lx_surface.specs.Bound.{allows}
use Rattle.lx_surface.specs.Text.{call_line, entry_line, line_if, named_line}

pub line : (b : Bool) (old new text : List ℕ) → b ≡ true → new ≡ old ++ text → new ≡ old ++ line_if b text
line b old new text is put = put ∙ ap (λ c. old ++ line_if c text) (sym is)

pub no_line : (b : Bool) (old text : List ℕ) → b ≡ false → old ≡ old ++ line_if b text
no_line b old text is = nothing_behind old ∙ ap (λ c. old ++ line_if c text) (sym is)

pub named : (b : Bound) (m : ℕ) (name : List ℕ) (n : ℕ) (o : Option TextFunction) (f : TextFunction) (old new : List ℕ) → o ≡ Some f → new ≡ old ++ line_if (allows b m (Function n)) (call_line name f.name)
    → new ≡ old ++ named_line b m name n o
named b m name n o f old new is put = put ∙ ap (λ u. old ++ named_line b m name n u) (sym is)

pub unnamed : (b : Bound) (m : ℕ) (name : List ℕ) (n : ℕ) (o : Option TextFunction) (old : List ℕ) → o ≡ None → old ≡ old ++ named_line b m name n o
unnamed b m name n o old is = nothing_behind old ∙ ap (λ u. old ++ named_line b m name n u) (sym is)

pub kernels : (p : Program) (b : Bound) (m : ℕ) (name : List ℕ) (n f : ℕ) (e : ProgramFunction) (o : Option TextFunction) (old new : List ℕ) → e ≡ Of None f → o ≡ slice_get p.kernel.functions f
    → new ≡ old ++ named_line b m name n o → new ≡ old ++ entry_line p b m name n e
kernels p b m name n f e o old new is found put = put ∙ (ap (λ u. old ++ named_line b m name n u) found ∙ ap (λ u. old ++ entry_line p b m name n u) (sym is))

-- a native, or a function of a module
abbrev pub IsOther : ProgramFunction → Type 0
IsOther (Native k) = Unit {0}
IsOther (Of None f) = ⊥
IsOther (Of (Some m) f) = Unit {0}

pub others : (p : Program) (b : Bound) (m : ℕ) (name : List ℕ) (n : ℕ) (e : ProgramFunction) (old : List ℕ) → IsOther e → old ≡ old ++ entry_line p b m name n e
others p b m name n (Native k) old is = nothing_behind old
others p b m name n (Of None f) old is = absurd is
others p b m name n (Of (Some k) f) old is = nothing_behind old
