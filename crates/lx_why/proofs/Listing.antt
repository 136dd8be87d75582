-- The needs so far, one more listed.
use Rattle.std.proofs.Common.{◌≡◌, ◌∙◌, refl, sym, ap, subst, ℕ, ◌+◌, ◌<◌, true, false, List, [], ◌∷◌, ◌++◌, map, take, get_or, length}
use Rattle.std.proofs.lemmas.List.{take_more}
use Rattle.std.proofs.lemmas.List.Elements.{filter_passes}
use Rattle.lx_words.proofs.Lists.{map_append}
use Rattle.lx_caps.specs.declared.Principal.{Principal}
use Rattle.lx_caps.specs.declared.Principal.TheVariants.{Kernel, Shared, Global, Inst}
use Rattle.lx_certificates.specs.declared.Need.{Need}
use Rattle.lx_certificates.specs.Certificates.{is_kernel}
use Rattle.lx_model.specs.Authority.{is_module}
use Rattle.lx_why.specs.ListedNeeds.{AreOfModules, of_modules}
use Rattle.lx_why.proofs.Writing.{both}

-- one thing's need more
pub need_more : {A : Type 0} (f : A → Need) (xs : List A) (i : ℕ) (x : A) (old now new : List Need) → i < length xs → x ≡ get_or xs i x → now ≡ old ++ of_modules (map f (take i xs)) → new ≡ now ++ of_modules (f x ∷ [])
    → new ≡ old ++ of_modules (map f (take (i + 1) xs))
need_more f xs i x old now new low at is more =
    both (λ n. is_module n.who) (map f (take i xs)) (f x ∷ []) old now new is more
    ∙ ap (λ ns. old ++ of_modules ns)
    (ap (λ y. map f (take i xs) ++ f y ∷ []) at ∙ sym (map_append f (take i xs) (get_or xs i x ∷ [])) ∙ ap (map f) (sym (take_more xs i x low)))

not_kernel : (who : Principal) → is_module who ≡ true → is_kernel who ≡ false
not_kernel Kernel is = absurd cc
not_kernel (Shared m) is = refl
not_kernel (Global m) is = refl
not_kernel (Inst m k) is = refl

all_of_modules : (ns : List Need) → AreOfModules (of_modules ns)
all_of_modules ns = λ k d low. not_kernel _ (filter_passes (λ n. is_module n.who) ns k d low)

-- those of modules are none of the kernel
pub are_of_modules : (ns xs : List Need) → ns ≡ of_modules xs → AreOfModules ns
are_of_modules ns xs is = subst AreOfModules (sym is) (all_of_modules xs)
