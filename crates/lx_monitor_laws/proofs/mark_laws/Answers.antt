-- The laws are lemmas.
use Rattle.std.proofs.Common.{◌∙◌, refl, ap}
use Rattle.lx_words.specs.Width.{byte_count}
use Rattle.lx_model.specs.declared.request.What.TheVariants.{Store, Copy, Fill}
use Rattle.lx_images.specs.Image.{is_checked, principal_if}
use Rattle.lx_monitor_laws.proofs.MarkAsking.{by_guard, checked, unchecked}
use Rattle.lx_monitor_laws.proofs.mark_laws.Goals as goal

pub returns : goal.returns
returns c = record {
  store = λ at w. by_guard (Store at w) at (byte_count w.width) (λ m shadow. refl);
  copy = λ to from len. by_guard (Copy to from len) to len (λ m shadow. refl);
  fill = λ to byte len. by_guard (Fill to byte len) to len (λ m shadow. refl);
  checked_call = λ m shadow a args is. ap (λ x. principal_if x shadow) (ap (λ o. is_checked o a) is ∙ checked a);
  unchecked_call = λ m shadow a args other. ap (λ x. principal_if x shadow) (unchecked m.checked a other);
  kernel_text = λ m shadow what. refl;
}
