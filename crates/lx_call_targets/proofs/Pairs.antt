-- Lists of widths that are compared place by place.
use Rattle.std.proofs.Common.{◌≡◌, ◌≢◌, ℕ, suc, ◌+◌, ◌<◌, ◌≤◌, true, false, ◌&&◌, List, [], ◌∷◌, length, get_or, drop, map, refl, ap, ◌∙◌}
use Rattle.std.proofs.lemmas.List.{drop_all}
use Rattle.lx_words.specs.declared.word.Width.{Width}
use Rattle.lx_words.specs.Width.{same_width}
use Rattle.lx_words.proofs.Tests.{and_false}
use Rattle.lx_words.proofs.Lists.{rest_at}
use Rattle.lx_ir.specs.declared.module.Parameter.{Parameter}
use Rattle.lx_ir.specs.Layout.{width_of}
use Rattle.lx_annot.specs.declared.interface.Parameter.{Parameter as DeclaredParameter}
use Rattle.lx_model.specs.Program.{are_declared, declared_width, is_of_width, same_widths}

pub widths_step : {A B : Type 0} (f : A → Width) (g : B → Width) (xs : List A) (ys : List B) (i : ℕ) (x : A) (y : B) → i < length xs → i < length ys → x ≡ get_or xs i x → y ≡ get_or ys i y
    → same_widths (map f (drop i xs)) (map g (drop i ys)) ≡ (same_width (f x) (g y) && same_widths (map f (drop (i + 1) xs)) (map g (drop (i + 1) ys)))
widths_step f g xs ys i x y h k d e =
    let a = rest_at xs i x h d in
    let b = rest_at ys i y k e in
    λ j. same_widths (map f (a j)) (map g (b j))

pub widths_end : {A B : Type 0} (f : A → Width) (g : B → Width) (xs : List A) (ys : List B) (i : ℕ) → length xs ≤ i → length ys ≤ i → same_widths (map f (drop i xs)) (map g (drop i ys)) ≡ true
widths_end f g xs ys i h k =
    let a = drop_all i xs h in
    let b = drop_all i ys k in
    λ j. same_widths (map f (a j)) (map g (b j))

pub widths_length : {A B : Type 0} (f : A → Width) (g : B → Width) (xs : List A) (ys : List B) → length xs ≢ length ys → same_widths (map f xs) (map g ys) ≡ false
widths_length f g [] [] h = absurd (h refl)
widths_length f g [] (y ∷ ys) h = refl
widths_length f g (x ∷ xs) [] h = refl
widths_length f g (x ∷ xs) (y ∷ ys) h = ap (λ b. same_width (f x) (g y) && b) (widths_length f g xs ys (λ e. h (ap suc e))) ∙ and_false (same_width (f x) (g y))

-- the same where widths themselves are compared

pub bare_step : {B : Type 0} (g : B → Width) (ws : List Width) (ys : List B) (i : ℕ) (w : Width) (y : B) → i < length ws → i < length ys → w ≡ get_or ws i w → y ≡ get_or ys i y
    → same_widths (drop i ws) (map g (drop i ys)) ≡ (same_width w (g y) && same_widths (drop (i + 1) ws) (map g (drop (i + 1) ys)))
bare_step g ws ys i w y h k d e =
    let a = rest_at ws i w h d in
    let b = rest_at ys i y k e in
    λ j. same_widths (a j) (map g (b j))

pub bare_end : {B : Type 0} (g : B → Width) (ws : List Width) (ys : List B) (i : ℕ) → length ws ≤ i → length ys ≤ i → same_widths (drop i ws) (map g (drop i ys)) ≡ true
bare_end g ws ys i h k =
    let a = drop_all i ws h in
    let b = drop_all i ys k in
    λ j. same_widths (a j) (map g (b j))

pub bare_length : {B : Type 0} (g : B → Width) (ws : List Width) (ys : List B) → length ws ≢ length ys → same_widths ws (map g ys) ≡ false
bare_length g [] [] h = absurd (h refl)
bare_length g [] (y ∷ ys) h = refl
bare_length g (w ∷ ws) [] h = refl
bare_length g (w ∷ ws) (y ∷ ys) h = ap (λ b. same_width w (g y) && b) (bare_length g ws ys (λ e. h (ap suc e))) ∙ and_false (same_width w (g y))

-- the same for parameters and what is declared

pub declared_step : (ds : List DeclaredParameter) (xs : List Parameter) (i : ℕ) (d : DeclaredParameter) (x : Parameter) → i < length ds → i < length xs → d ≡ get_or ds i d → x ≡ get_or xs i x
    → are_declared (drop i ds) (map (λ y. width_of y.ty) (drop i xs)) ≡ (is_of_width (declared_width d.ty) (width_of x.ty) && are_declared (drop (i + 1) ds) (map (λ y. width_of y.ty) (drop (i + 1) xs)))
declared_step ds xs i d x h k e is =
    let a = rest_at ds i d h e in
    let b = rest_at xs i x k is in
    λ j. are_declared (a j) (map (λ y. width_of y.ty) (b j))

pub declared_end : (ds : List DeclaredParameter) (xs : List Parameter) (i : ℕ) → length ds ≤ i → length xs ≤ i → are_declared (drop i ds) (map (λ y. width_of y.ty) (drop i xs)) ≡ true
declared_end ds xs i h k =
    let a = drop_all i ds h in
    let b = drop_all i xs k in
    λ j. are_declared (a j) (map (λ y. width_of y.ty) (b j))

pub declared_length : (ds : List DeclaredParameter) (xs : List Parameter) → length ds ≢ length xs → are_declared ds (map (λ y. width_of y.ty) xs) ≡ false
declared_length [] [] h = absurd (h refl)
declared_length [] (x ∷ xs) h = refl
declared_length (d ∷ ds) [] h = refl
declared_length (d ∷ ds) (x ∷ xs) h = ap (λ b. is_of_width (declared_width d.ty) (width_of x.ty) && b) (declared_length ds xs (λ e. h (ap suc e))) ∙ and_false (is_of_width (declared_width d.ty) (width_of x.ty))
