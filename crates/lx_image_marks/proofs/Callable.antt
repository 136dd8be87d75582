-- Which functions may be called, by their numbers.
use Rattle.std.proofs.Common.{◌≡◌, ◌∙◌, ℕ, Bool, false, Option, Some, None, List, refl, ap}
use Rattle.std.specs.Prelude.{option_map, slice_get}
use Rattle.std.proofs.lemmas.Option.{slice_get-map}
use Rattle.lx_ir.specs.declared.module.Function.{Function}
use Rattle.lx_ir.specs.declared.module.Module.{Module}
use Rattle.lx_image_texts.specs.ImageFaults.{may_call_function}
use Rattle.lx_image_marks.specs.Named.{callable_of}

at_some : (x : Module) (o : Option Function) (may : Bool) → Some may ≡ option_map (λ f. may_call_function x (Some f)) o → may ≡ may_call_function x o
at_some x None may h = absurd (cc)
at_some x (Some f) may h = cc

at_none : (x : Module) (o : Option Function) → None ≡ option_map (λ f. may_call_function x (Some f)) o → false ≡ may_call_function x o
at_none x None h = refl
at_none x (Some f) h = absurd (cc)

listed : (x : Module) (table : List Bool) (n : ℕ) → table ≡ callable_of x → slice_get table n ≡ option_map (λ f. may_call_function x (Some f)) (slice_get x.functions n)
listed x table n h = ap (λ (t : List Bool). slice_get t n) h ∙ slice_get-map (λ (f : Function). may_call_function x (Some f)) x.functions n

pub may_call_at : (x : Module) (table : List Bool) (n : ℕ) (may : Bool) → table ≡ callable_of x → Some may ≡ slice_get table n → may ≡ may_call_function x (slice_get x.functions n)
may_call_at x table n may h e = at_some x (slice_get x.functions n) may (e ∙ listed x table n h)

pub may_call_past : (x : Module) (table : List Bool) (n : ℕ) → table ≡ callable_of x → None ≡ slice_get table n → false ≡ may_call_function x (slice_get x.functions n)
may_call_past x table n h e = at_none x (slice_get x.functions n) (e ∙ listed x table n h)
