-- Where a schedule is not whole for a world of images.
use Rattle.std.proofs.Common.{◌≡◌, ◌∙◌, ap, subst, refl, ℕ, ◌+◌, ◌<◌, ◌≤◌, Bool, true, false, List, [], ◌∷◌, length, drop, get_or, Option, Some, None, option_map, arith}
use Rattle.std.proofs.lemmas.List.{drop_all, drop_more}
use Rattle.lx_model.specs.World.{can_act, is_done}
use Rattle.lx_images.specs.Image.{Code}
use Rattle.lx_images.specs.ImageWorld.{ImageWorld, image_event, image_run}
use Rattle.lx_images.specs.Shown.{shown}
use Rattle.lx_runs.specs.Replays.{image_broken_at}
use Rattle.lx_runs.proofs.Wholes.{entry_if, end_if}

-- the first entries of a schedule are done, and the others are left

pub record IsLeft (c : Code) (s : List ℕ) (v : ImageWorld) (n : ℕ) (rest : List ℕ) (u : ImageWorld) : Type 0 where
  pub ran : image_run c rest u ≡ image_run c s v
  pub broken : image_broken_at c s v ≡ option_map (λ k. n + k) (image_broken_at c rest u)

pub all_left : (c : Code) (s : List ℕ) (v : ImageWorld) → IsLeft c s v 0 s v
all_left c s v = record { ran = refl; broken = same (image_broken_at c s v) } where
  same : (o : Option ℕ) → o ≡ option_map (λ k. 0 + k) o
  same None = refl
  same (Some k) = ap Some (omega arith)

pub more : (b : Bool) (n : ℕ) (rest : Option ℕ) → b ≡ true → option_map (λ k. n + k) (entry_if b rest) ≡ option_map (λ k. n + 1 + k) rest
more true n None is = refl
more true n (Some k) is = ap Some (omega arith)
more false n rest is = absurd cc

pub one_less : (c : Code) (s : List ℕ) (v : ImageWorld) (n t : ℕ) (ts : List ℕ) (u : ImageWorld) → IsLeft c s v n (t ∷ ts) u → can_act (shown u) t ≡ true
    → IsLeft c s v (n + 1) ts (image_event c t u)
one_less c s v n t ts u left works =
    record { ran = left.ran; broken = left.broken ∙ more (can_act (shown u) t) n (image_broken_at c ts (image_event c t u)) works }

pub here : (b : Bool) (n : ℕ) (rest : Option ℕ) → b ≡ false → option_map (λ k. n + k) (entry_if b rest) ≡ Some n
here true n rest is = absurd cc
here false n rest is = ap Some (omega arith)

pub broken_here : (c : Code) (s : List ℕ) (v : ImageWorld) (n t : ℕ) (ts : List ℕ) (u : ImageWorld) → IsLeft c s v n (t ∷ ts) u → can_act (shown u) t ≡ false
    → image_broken_at c s v ≡ Some n
broken_here c s v n t ts u left idle = left.broken ∙ here (can_act (shown u) t) n (image_broken_at c ts (image_event c t u)) idle

pub at_end : (b : Bool) (n : ℕ) → b ≡ false → option_map (λ k. n + k) (end_if b) ≡ Some n
at_end true n is = absurd cc
at_end false n is = ap Some (omega arith)

pub done_end : (b : Bool) (n : ℕ) → b ≡ true → option_map (λ k. n + k) (end_if b) ≡ None
done_end true n is = refl
done_end false n is = absurd cc

pub broken_at_end : (c : Code) (s : List ℕ) (v : ImageWorld) (n : ℕ) (u : ImageWorld) → IsLeft c s v n [] u → is_done (shown u) ≡ false → image_broken_at c s v ≡ Some n
broken_at_end c s v n u left work = left.broken ∙ at_end (is_done (shown u)) n work

pub broken_nowhere : (c : Code) (s : List ℕ) (v : ImageWorld) (n : ℕ) (u : ImageWorld) → IsLeft c s v n [] u → is_done (shown u) ≡ true → image_broken_at c s v ≡ None
broken_nowhere c s v n u left done = left.broken ∙ done_end (is_done (shown u)) n done

-- a loop over a schedule stands before an entry, or at its end

pub at_entry : (c : Code) (s : List ℕ) (v : ImageWorld) (n : ℕ) (u : ImageWorld) → n < length s → IsLeft c s v n (drop n s) u
    → IsLeft c s v n (get_or s n 0 ∷ drop (n + 1) s) u
at_entry c s v n u below left = subst (λ (rest : List ℕ). IsLeft c s v n rest u) (drop_more s n 0 below) left

pub at_last : (c : Code) (s : List ℕ) (v : ImageWorld) (n : ℕ) (u : ImageWorld) → length s ≤ n → IsLeft c s v n (drop n s) u → IsLeft c s v n [] u
at_last c s v n u past left = subst (λ (rest : List ℕ). IsLeft c s v n rest u) (drop_all n s past) left
