-- What a pass over the named types leaves as it was, all further ones do.
use Rattle.std.proofs.Common.{◌≡◌, ℕ, zero, suc, ◌+◌, ◌-◌, ◌<◌, ◌∙◌, refl, sym, ap, arith, map, List}
use Rattle.lx_ir.specs.declared.types.NamedType.{NamedType}
use Rattle.lx_ir.specs.Fitting.{Layouts, fit_type, layouts_through}

further : (types : List NamedType) (n more : ℕ) → layouts_through types (suc n) ≡ layouts_through types n → layouts_through types (n + more) ≡ layouts_through types n
further types n zero e =
    let none : n + 0 ≡ n = omega arith in
    ap (layouts_through types) none
further types n (suc more) e =
    let one : n + suc more ≡ suc (n + more) = omega arith in
    ap (layouts_through types) one ∙ ap (λ layouts. map (λ (t : NamedType). fit_type layouts t.ty) types) (further types n more e) ∙ e

pub settled : (types : List NamedType) (n : ℕ) (layouts next : Layouts) → layouts ≡ layouts_through types n → next ≡ map (λ (t : NamedType). fit_type layouts t.ty) types → next ≡ layouts → n < 64 → next ≡ layouts_through types 64
settled types n layouts next passed pass same few =
    let fixed : layouts_through types (suc n) ≡ layouts_through types n = sym (ap (λ ls. map (λ (t : NamedType). fit_type ls t.ty) types) passed) ∙ sym pass ∙ same ∙ passed in
    let whole : n + (64 - n) ≡ 64 = omega (arith, few) in
    same ∙ passed ∙ sym (further types n (64 - n) fixed) ∙ ap (layouts_through types) whole
