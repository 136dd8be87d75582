-- A thread in the list of threads.
use Rattle.std.proofs.Common.{List, Some, [], refl, slice_get, slice_set, suc, zero, ℕ, ◌∷◌, ◌≡◌, ap, map, ◌++◌, subst}
use Rattle.std.proofs.lemmas.Option.{same_Some}
use Rattle.lx_model.specs.Thread.{Thread}
use Rattle.lx_model.specs.declared.request.Entry.{Entry}

pub set_here : (xs : List Thread) (t : ℕ) (x y : Thread) → slice_get xs t ≡ Some x → slice_get (slice_set xs t y) t ≡ Some y
set_here [] t x y at = absurd (cc)
set_here (w ∷ ws) zero x y at = refl
set_here (w ∷ ws) (suc t) x y at = set_here ws t x y at

pub threads_push : (es : List Entry) (e : Entry) → map (λ x. x.thread) (es ++ e ∷ []) ≡ map (λ x. x.thread) es ++ e.thread ∷ []
threads_push [] e = refl
threads_push (x ∷ xs) e = ap (λ l. x.thread ∷ l) (threads_push xs e)

pub set_all : (P : Thread → Type 0) (xs : List Thread) (t : ℕ) (y : Thread) → ((u : ℕ) (x : Thread) → slice_get xs u ≡ Some x → P x) → P y
    → (u : ℕ) (x : Thread) → slice_get (slice_set xs t y) u ≡ Some x → P x
set_all P [] t y all new u x e = absurd (cc)
set_all P (z ∷ zs) zero y all new zero x e = subst P (same_Some y x e) new
set_all P (z ∷ zs) zero y all new (suc u) x e = all (suc u) x e
set_all P (z ∷ zs) (suc t) y all new zero x e = all zero x e
set_all P (z ∷ zs) (suc t) y all new (suc u) x e = set_all P zs t y (λ n v at. all (suc n) v at) new u x e
