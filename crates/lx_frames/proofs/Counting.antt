-- Functions that run among frames, and where their stack ends.
use Rattle.std.proofs.Common.{◌≡◌, ℕ, suc, ◌+◌, ◌≤◌, Option, Some, None, IsSome, List, [], ◌∷◌, ◌++◌, length, map, reverse, refl, sym, ap, ◌∙◌, arith}
use Rattle.std.specs.Prelude.{nat_lt, unwrap_or}
use Rattle.std.proofs.lemmas.Bool.Decides.{nat_tests}
use mathlib.Core.List.{reverse_aux}
use Rattle.lx_words.proofs.Tests.{more_onto}
use Rattle.lx_caps.specs.Regions.{stack_start}
use Rattle.lx_images.specs.Image.{Code, has_room, running, stack_top}
use Rattle.lx_frames.specs.declared.frame.Frame.{Frame as KeptFrame}
use Rattle.lx_frames.specs.declared.frame.Frame.TheVariants as kept
use Rattle.lx_frames.specs.Frames.{Stack, frame_of, frames_of, high_in, high_on, running_in, running_on}

counted_onto : (xs acc : List KeptFrame) → running_in (reverse_aux xs acc) ≡ running_in xs + running_in acc
counted_onto [] acc = omega arith
counted_onto (kept.Runs run ∷ xs) acc = counted_onto xs (kept.Runs run ∷ acc) ∙ more_onto (running_in xs) (running_in acc)
counted_onto (kept.Wraps n args wrapper at x ∷ xs) acc = counted_onto xs (kept.Wraps n args wrapper at x ∷ acc)

-- as many run, whichever way the frames are read
pub counted_reverse : (xs : List KeptFrame) → running_in (reverse xs) ≡ running_in xs
counted_reverse xs = omega (arith, counted_onto xs [])

-- one frame more
pub counted_with : (xs : List KeptFrame) (f : KeptFrame) → running_in (xs ++ f ∷ []) ≡ running_in xs + running_in (f ∷ [])
counted_with [] f = omega arith
counted_with (kept.Runs run ∷ xs) f = omega (arith, counted_with xs f)
counted_with (kept.Wraps n args wrapper at x ∷ xs) f = counted_with xs f

pub counted_within : (xs : List KeptFrame) → running_in xs ≤ length xs
counted_within [] = omega arith
counted_within (kept.Runs run ∷ xs) = omega (arith, counted_within xs)
counted_within (kept.Wraps n args wrapper at x ∷ xs) = omega (arith, counted_within xs)

-- the definitions see as many
running_same : (c : Code) (fs : List KeptFrame) → running (map (frame_of c) fs) ≡ running_in fs
running_same c [] = refl
running_same c (kept.Runs run ∷ fs) = ap suc (running_same c fs)
running_same c (kept.Wraps n args wrapper at x ∷ fs) = running_same c fs

less_by_one : (n : ℕ) → nat_lt n 255 ≡ nat_lt (suc n) 256
less_by_one n = grind (arith, nat_tests)

pub room_above : (c : Code) (top : Option KeptFrame) (below : Stack) → IsSome (running_on top) → nat_lt (running_in below.frames) 255 ≡ has_room (frames_of c top below)
room_above c None below h = absurd (cc)
room_above c (Some (kept.Runs run)) below h = less_by_one (running_in below.frames) ∙ ap (λ n. nat_lt (suc n) 256) (sym (running_same c below.frames))
room_above c (Some (kept.Wraps n args wrapper at x)) below h = absurd (cc)

-- where the stack of the newest function ends, the next one's begins
top_by_high : (c : Code) (t : ℕ) (fs : List KeptFrame) → stack_top t (map (frame_of c) fs) ≡ unwrap_or (high_in fs) (stack_start t)
top_by_high c t [] = refl
top_by_high c t (kept.Runs run ∷ fs) = refl
top_by_high c t (kept.Wraps n args wrapper at x ∷ fs) = top_by_high c t fs

stack_top_is : (c : Code) (t : ℕ) (top : Option KeptFrame) (below : Stack) → stack_top t (frames_of c top below) ≡ unwrap_or (high_on top below) (stack_start t)
stack_top_is c t None below = refl
stack_top_is c t (Some f) below = top_by_high c t (f ∷ below.frames)

pub high_found : (c : Code) (t : ℕ) (top : Option KeptFrame) (below : Stack) (high : ℕ) → Some high ≡ high_on top below → high ≡ stack_top t (frames_of c top below)
high_found c t top below high e = ap (λ o. unwrap_or o (stack_start t)) e ∙ sym (stack_top_is c t top below)

pub high_missing : (c : Code) (t : ℕ) (top : Option KeptFrame) (below : Stack) → None ≡ high_on top below → stack_start t ≡ stack_top t (frames_of c top below)
high_missing c t top below e = ap (λ o. unwrap_or o (stack_start t)) e ∙ sym (stack_top_is c t top below)
