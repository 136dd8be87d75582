-- The layouts that are kept are those of the definition.
use Rattle.std.specs.Prelude.{◌≡◌, ℕ, Some}
use Rattle.lx_ir.specs.IrType.{IrType}
use Rattle.lx_ir.specs.Layout.{Layout, layout_in}
use Rattle.lx_ir.specs.Fitting.{Layouts, named_layout, fit_type}

-- the layouts that are known of named types are these
abbrev pub AreThese : Layouts → (ℕ → Layout) → Type 0
AreThese layouts named = (k : ℕ) (l : Layout) → named_layout layouts k ≡ Some l → l ≡ named k

-- where a type is within the limits, its layout is that of the definition
abbrev pub FitsAreLayouts : Type 0
FitsAreLayouts = (layouts : Layouts) (named : ℕ → Layout) → AreThese layouts named → (t : IrType) (l : Layout) → fit_type layouts t ≡ Some l → l ≡ layout_in named t
