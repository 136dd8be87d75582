-- A stack from its other end.
use Rattle.std.proofs.Common.{◌≡◌, ℕ, suc, ◌-◌, ◌<◌, List, [], ◌∷◌, length, reverse, get_or, refl, sym, ap, ◌∙◌, subst, arith}
use Rattle.std.proofs.lemmas.List.{get_or-reverse, length-reverse}
use Rattle.lx_caps.specs.declared.Principal.{Principal}
use Rattle.lx_images.specs.Image.{below_top}

second : (qs : List Principal) (d : Principal) → 1 < length qs → get_or qs 1 d ≡ below_top qs
second [] d h = absurd (omega (arith, h))
second (p ∷ []) d h = absurd (omega (arith, h))
second (p ∷ q ∷ qs) d h = refl

-- the last but one of a list is the one below the top of the list read from its end
pub last_but_one : (qs : List Principal) (n : ℕ) (d : Principal) → n ≡ length qs → 1 < n → get_or qs (n - 2) d ≡ below_top (reverse qs)
last_but_one qs n d e h =
    let within : 1 < length qs = omega (arith, e, h) in
    let place : n - 2 ≡ length qs - 1 - 1 = omega (arith, e, h) in
    ap (λ k. get_or qs k d) place
    ∙ sym (get_or-reverse qs 1 d within)
    ∙ second (reverse qs) d (subst (λ k. 1 < k) (sym (length-reverse qs)) within)
