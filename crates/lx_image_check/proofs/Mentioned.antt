-- Items of a group, one after the other.
use Rattle.std.proofs.Common.{◌≡◌, ℕ, ◌+◌, ◌<◌, ◌≤◌, false, ◌||◌, List, length, get_or, drop, ap}
use Rattle.std.proofs.lemmas.List.{drop_all}
use Rattle.lx_words.proofs.Lists.{rest_at}
use Rattle.lx_ir.specs.declared.module.Module.{Module}
use Rattle.lx_ir.specs.Init.{Init}
use Rattle.lx_ir.specs.InitNodes.{inits_of_list}
use Rattle.lx_image_texts.specs.ImageFaults.{init_mentions, inits_mention}

pub inits_step : (m : Module) (xs : List Init) (i : ℕ) (x : Init) → i < length xs → x ≡ get_or xs i x → inits_mention m (inits_of_list (drop i xs)) ≡ (init_mentions m x || inits_mention m (inits_of_list (drop (i + 1) xs)))
inits_step m xs i x h e = ap (λ ys. inits_mention m (inits_of_list ys)) (rest_at xs i x h e)

pub inits_end : (m : Module) (xs : List Init) (i : ℕ) → length xs ≤ i → inits_mention m (inits_of_list (drop i xs)) ≡ false
inits_end m xs i h = ap (λ ys. inits_mention m (inits_of_list ys)) (drop_all i xs h)
