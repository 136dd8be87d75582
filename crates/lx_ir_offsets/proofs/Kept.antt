-- The layouts that are kept of named types.
use Rattle.std.proofs.Common.{◌≡◌, ℕ, zero, suc, Option, Some, None, List, sym, ap, ◌∙◌, slice_get, option_map}
use Rattle.std.specs.Option.{option_flatten}
use Rattle.std.proofs.lemmas.Option.{slice_get-map}
use Rattle.lx_ir.specs.declared.types.NamedType.{NamedType}
use Rattle.lx_ir.specs.Layout.{Layout, layout_of_entry, named_layouts}
use Rattle.lx_ir.specs.Fitting.{Layouts, fit_type, layouts_through, fitting_layouts}
use Rattle.lx_ir_offsets.specs.Laws.{AreThese, FitsAreLayouts}

none_kept : (o : Option NamedType) (l m : Layout) → option_flatten (option_map (λ e. None) o) ≡ Some l → l ≡ m
none_kept None l m e = cc
none_kept (Some t) l m e = cc

entry_kept : FitsAreLayouts → (layouts : Layouts) (named : ℕ → Layout) → AreThese layouts named → (o : Option NamedType) (l : Layout)
    → option_flatten (option_map (λ e. fit_type layouts e.ty) o) ≡ Some l → l ≡ layout_of_entry named o
entry_kept laws layouts named h None l e = cc
entry_kept laws layouts named h (Some t) l e = laws layouts named h t.ty l e

through : FitsAreLayouts → (types : List NamedType) (n : ℕ) → AreThese (layouts_through types n) (named_layouts types n)
through laws types zero k l e = none_kept (slice_get types k) l (named_layouts types zero k) (ap option_flatten (sym (slice_get-map (λ e. None) types k)) ∙ e)
through laws types (suc n) k l e =
    entry_kept laws (layouts_through types n) (named_layouts types n) (through laws types n) (slice_get types k) l
    (ap option_flatten (sym (slice_get-map (λ e. fit_type (layouts_through types n) e.ty) types k)) ∙ e)

-- and so are those through as many names as a type within the limits goes through
pub kept : FitsAreLayouts → (types : List NamedType) → AreThese (fitting_layouts types) (named_layouts types 64)
unfolding fitting_layouts
kept laws types = through laws types 64
