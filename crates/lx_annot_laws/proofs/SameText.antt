-- What of an interface the canonical text has.
use Rattle.std.proofs.Common.{◌≡◌, ◌++◌, map, codes, ap}
use Rattle.lx_annot.specs.declared.action.Annotation.{Annotation}
use Rattle.lx_annot.specs.declared.interface.Interface.{Interface}
use Rattle.lx_annot.specs.Action.{Action}
use Rattle.lx_annot.specs.Canonical.{Text, call_text, principal_texts, spaced, canonical}
use Rattle.lx_annot_read.specs.Interfaces.{iterator_names}
use Rattle.lx_annot_laws.proofs.GrammarActions.{action_same}

module _ (i j : Interface) (reftypes : j.reftypes ≡ i.reftypes) (iterators : iterator_names j ≡ iterator_names i) where
  pub text_same : (a : Annotation) → canonical j a ≡ canonical i a
  text_same a =
      ap (λ (f : Action → Text). spaced (principal_texts a.principal ++ map (λ x. call_text (codes "pre") (f x)) a.pre ++ map (λ x. call_text (codes "post") (f x)) a.post))
      (λ k x. action_same i j reftypes iterators x k)
