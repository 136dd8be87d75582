-- A list in which one thread is replaced.
use Rattle.std.proofs.Common.{◌≡◌, ℕ, zero, suc, Some, List, [], ◌∷◌, length, slice_get, slice_set, refl, sym, ap, subst, ◌∙◌}
use Rattle.std.proofs.lemmas.Option.{same_Some}
use Rattle.lx_model.specs.Thread.{Thread}

-- what holds of each thread holds behind it, where it holds of the new one
pub set_all : (P : ℕ → Thread → Type 0) (xs : List Thread) (t : ℕ) (y : Thread) → ((u : ℕ) (x : Thread) → slice_get xs u ≡ Some x → P u x) → P t y
    → (u : ℕ) (x : Thread) → slice_get (slice_set xs t y) u ≡ Some x → P u x
set_all P [] t y all new u x e = absurd (cc)
set_all P (z ∷ zs) zero y all new zero x e = subst (P zero) (same_Some y x e) new
set_all P (z ∷ zs) zero y all new (suc u) x e = all (suc u) x e
set_all P (z ∷ zs) (suc t) y all new zero x e = all zero x e
set_all P (z ∷ zs) (suc t) y all new (suc u) x e = set_all (λ n. P (suc n)) zs t y (λ n v at. all (suc n) v at) new u x e

-- what holds of each thread behind it held before, where it did of the old one
pub set_back : (P : Thread → Type 0) (xs : List Thread) (t : ℕ) (x y : Thread) → slice_get xs t ≡ Some x → (P y → P x)
    → ((u : ℕ) (z : Thread) → slice_get (slice_set xs t y) u ≡ Some z → P z) → (u : ℕ) (z : Thread) → slice_get xs u ≡ Some z → P z
set_back P [] t x y at back all u z e = absurd (cc)
set_back P (w ∷ ws) zero x y at back all zero z e = subst P (same_Some x z (sym at ∙ e)) (back (all zero y refl))
set_back P (w ∷ ws) zero x y at back all (suc u) z e = all (suc u) z e
set_back P (w ∷ ws) (suc t) x y at back all zero z e = all zero z e
set_back P (w ∷ ws) (suc t) x y at back all (suc u) z e = set_back P ws t x y at back (λ v q is. all (suc v) q is) u z e

pub set_length : (xs : List Thread) (t : ℕ) (y : Thread) → length (slice_set xs t y) ≡ length xs
set_length [] t y = refl
set_length (x ∷ xs) zero y = refl
set_length (x ∷ xs) (suc t) y = ap suc (set_length xs t y)
