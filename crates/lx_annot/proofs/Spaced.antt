-- Parts that are put behind one another stand with one space between.
use Rattle.std.proofs.Common.{◌≡◌, Option, Some, None, List, [], ◌∷◌, ◌++◌, map, ap, sym, ◌∙◌, refl, append_assoc, codes, ℕ}
use Rattle.lx_annot.specs.Canonical.{Text, call_text, action_text, principal_texts, spaced}
use Rattle.lx_annot.specs.declared.action.Who.{Who}
use Rattle.lx_annot.specs.declared.interface.Interface.{Interface}
use Rattle.lx_annot.specs.Action.{Action}
use Rattle.lx_annot.specs.Parts.{with_part, joined}

pub joined-append : (text : Text) (ts us : List Text) → joined text (ts ++ us) ≡ joined (joined text ts) us
joined-append text [] us = refl
joined-append text (t ∷ ts) us = joined-append (with_part text t) ts us

-- a first part that takes in the second one
spaced-cons : (t u : Text) (us : List Text) → spaced ((t ++ (32 ∷ []) ++ u) ∷ us) ≡ t ++ (32 ∷ []) ++ spaced (u ∷ us)
spaced-cons t u [] = refl
spaced-cons t u (w ∷ ws) =
    ap (λ x. x ++ spaced (w ∷ ws)) (append_assoc (t ++ (32 ∷ [])) u (32 ∷ [])) ∙ append_assoc (t ++ (32 ∷ [])) (u ++ (32 ∷ [])) (spaced (w ∷ ws))

pub joined-spaced : (b : ℕ) (bs : Text) (ts : List Text) → joined (b ∷ bs) ts ≡ spaced ((b ∷ bs) ∷ ts)
joined-spaced b bs [] = refl
joined-spaced b bs (t ∷ ts) = joined-spaced b (bs ++ (32 ∷ []) ++ t) ts ∙ spaced-cons (b ∷ bs) t ts

joined-thrice : (ps xs ys : List Text) → joined (joined (joined [] ps) xs) ys ≡ joined [] (ps ++ xs ++ ys)
joined-thrice ps xs ys =
    ap (λ t. joined t ys) (sym (joined-append [] ps xs)) ∙ sym (joined-append [] (ps ++ xs) ys)

module _ (i : Interface) where
  abbrev pre_texts : List Action → List Text
  pre_texts xs = map (λ x. call_text (codes "pre") (action_text i x)) xs

  abbrev post_texts : List Action → List Text
  post_texts ys = map (λ x. call_text (codes "post") (action_text i x)) ys

  in_order : (who : Option Who) (xs ys : List Action) → joined [] (principal_texts who ++ pre_texts xs ++ post_texts ys) ≡ spaced (principal_texts who ++ pre_texts xs ++ post_texts ys)
  in_order (Some w) xs ys = joined-spaced _ _ _
  in_order None (x ∷ xs) ys = joined-spaced _ _ _
  in_order None [] (y ∷ ys) = joined-spaced _ _ _
  in_order None [] [] = refl

  pub joined_parts : (who : Option Who) (xs ys : List Action) → joined (joined (joined [] (principal_texts who)) (pre_texts xs)) (post_texts ys) ≡ spaced (principal_texts who ++ pre_texts xs ++ post_texts ys)
  joined_parts who xs ys = joined-thrice (principal_texts who) (pre_texts xs) (post_texts ys) ∙ in_order who xs ys

  -- the text after each of its three steps
  pub joined_from : (who : Option Who) (xs ys pre post : List Action) (a b c : Text) → a ≡ joined [] (principal_texts who) → pre ≡ xs → b ≡ joined a (pre_texts pre) → post ≡ ys → c ≡ joined b (post_texts post)
      → c ≡ spaced (principal_texts who ++ pre_texts xs ++ post_texts ys)
  joined_from who xs ys pre post a b c p q r s t =
      t
      ∙ ap (λ x. joined x (post_texts post)) (r ∙ ap (λ x. joined x (pre_texts pre)) p)
      ∙ ap (λ x. joined (joined (joined [] (principal_texts who)) (pre_texts x)) (post_texts post)) q
      ∙ ap (λ y. joined (joined (joined [] (principal_texts who)) (pre_texts xs)) (post_texts y)) s
      ∙ joined_parts who xs ys
