-- What is entered on a stack of frames.
use Rattle.std.proofs.Common.{◌≡◌, ℕ, ◌+◌, ◌<◌, ◌≤◌, true, Option, Some, None, List, [], ◌∷◌, drop, length, map, refl, sym, ap, ◌∙◌, subst, arith}
use Rattle.std.specs.Prelude.{vec_capacity}
use Rattle.lx_words.specs.Word.{Word}
use Rattle.lx_caps.specs.declared.Principal.{Principal}
use Rattle.lx_model.specs.declared.request.Way.{Way}
use Rattle.lx_model.specs.declared.request.What.TheVariants as what
use Rattle.lx_ir.specs.declared.instr.Op.{Op}
use Rattle.lx_model.specs.Thread.{behind_head}
use Rattle.lx_images.specs.Image.{Code, Wraps, at_lines, behind_line, entered_frames}
use Rattle.lx_images.specs.Wrappers.{in_lines}
use Rattle.lx_image_code.specs.declared.wrappers.Wrapper.{Wrapper}
use Rattle.lx_image_code.specs.Wrappers.{wrapper_lines}
use Rattle.lx_frames.specs.declared.frame.Frame.{Frame as KeptFrame}
use Rattle.lx_frames.specs.declared.frame.Frame.TheVariants as kept
use Rattle.lx_frames.specs.declared.stack.FrameStack.{FrameStack}
use Rattle.lx_frames.specs.Frames.{CountsOn, Stack, frame_of, frames_of, past_line_on}
use Rattle.lx_frames.specs.Stack.{CanEnter, CanGoIn, CanGoOn, HasRoomFor, IsPrepared, Shows, arrived}
use Rattle.lx_frames.proofs.Arriving.{counts_here, line_more}

pub fits_in : (c : Code) (s : FrameStack) (count m n : ℕ) → n ≤ m → CanEnter c s count m → CanEnter c s count n
fits_in c s count m n le h = (h.0, omega (arith, h.1, le))

enters_same : (c : Code) (old new : FrameStack) (count frames : ℕ) → new.below ≡ old.below → new.registers ≡ old.registers → CanEnter c old count frames → CanEnter c new count frames
enters_same c old new count frames below registers h =
    (subst (λ v. IsPrepared c count v.items (vec_capacity v)) (sym registers) h.0, subst (λ (s : Stack). frames ≤ s.room) (sym below) h.1)

goes_in_same : (c : Code) (old new : FrameStack) (top : Option KeptFrame) → new.below ≡ old.below → new.registers ≡ old.registers → CanGoIn c old top → CanGoIn c new top
goes_in_same c old new None below registers h = tt
goes_in_same c old new (Some (kept.Runs run)) below registers h = tt
goes_in_same c old new (Some (kept.Wraps n args wrapper at x)) below registers h = (enters_same c old new (length args) 1 below registers h.0, h.1)

pub goes_on_same : (c : Code) (old new : FrameStack) (top : Option KeptFrame) → new.below ≡ old.below → new.registers ≡ old.registers → CanGoOn c old top → CanGoOn c new top
goes_on_same c old new top below registers h = goes_in_same c old new (past_line_on top) below registers h

behind_same : (c : Code) (t : ℕ) (top : Option KeptFrame) (below : Stack) → arrived c t (frames_of c (past_line_on top) below) ≡ behind_line c t (frames_of c top below)
behind_same c t None below = refl
behind_same c t (Some (kept.Runs run)) below = refl
behind_same c t (Some (kept.Wraps n args wrapper at x)) below = ap (at_lines c t n args x (map (frame_of c) below.frames)) (line_more (wrapper_lines c wrapper) at)

-- behind a line, and arrived at the next
pub ends_line : (c : Code) (t : ℕ) (old passed new : FrameStack) → CanGoOn c old old.top → (CountsOn old.top → passed.top ≡ past_line_on old.top) → passed.below ≡ old.below → passed.registers ≡ old.registers →
    (CanGoIn c passed passed.top → frames_of c new.top new.below ≡ arrived c t (frames_of c passed.top passed.below)) →
    frames_of c new.top new.below ≡ behind_line c t (frames_of c old.top old.below)
ends_line c t old passed new able passes below registers arrives =
    let top = passes (counts_here c old old.top able) in
    arrives (subst (CanGoIn c passed) (sym top) (goes_on_same c old passed old.top below registers able))
    ∙ ap (λ (o : Option KeptFrame). arrived c t (frames_of c o passed.below)) top
    ∙ ap (λ (s : Stack). arrived c t (frames_of c (past_line_on old.top) s)) below
    ∙ behind_same c t old.top old.below

-- a wrapper at its first line has room for what its reply enters
pub wrapper_ready : (c : Code) (old new : FrameStack) (n : ℕ) (args : List Word) (wrapper : Wrapper) (way : Way) → CanEnter c old (length args) 3 → 0 < old.shadow.room →
    new.top ≡ Some (kept.Wraps n args wrapper 0 None) → old.below.room ≤ new.below.room + 1 → new.registers ≡ old.registers → new.shadow ≡ old.shadow → HasRoomFor c new (what.Enter way args)
wrapper_ready c old new n args wrapper way enter room top takes registers shadow =
    let prepared = subst (λ v. IsPrepared c (length args) v.items (vec_capacity v)) (sym registers) enter.0 in
    let body : CanGoOn c new (Some (kept.Wraps n args wrapper 0 None)) = ((prepared, omega (arith, enter.1, takes)), omega arith) in
    ((prepared, omega (arith, enter.1, takes)), subst (CanGoOn c new) (sym top) body, subst (λ s. 0 < s.room) (sym shadow) room)

first_behind : (os : List Op) → drop 1 os ≡ behind_head os
first_behind [] = refl
first_behind (o ∷ os) = refl

-- a wrapper that a call crosses into
pub crosses_into : (c : Code) (t : ℕ) (old crossed pushed new : FrameStack) (n : ℕ) (args : List Word) (wrapper : Wrapper) (q : Principal) → CanEnter c old (length args) 2 → wrapper_lines c wrapper ≡ in_lines c n →
    crossed.shadow.principals ≡ q ∷ old.shadow.principals → crossed.top ≡ old.top → crossed.below ≡ old.below → crossed.registers ≡ old.registers →
    (0 < crossed.below.room → frames_of c pushed.top pushed.below ≡ Wraps n args (drop 1 (wrapper_lines c wrapper)) None ∷ frames_of c crossed.top crossed.below) →
    (0 < crossed.below.room → pushed.top ≡ Some (kept.Wraps n args wrapper 1 None)) →
    crossed.below.room ≤ pushed.below.room + 1 → pushed.registers ≡ crossed.registers → pushed.shadow ≡ crossed.shadow →
    (CanGoIn c pushed pushed.top → frames_of c new.top new.below ≡ arrived c t (frames_of c pushed.top pushed.below)) → new.shadow ≡ pushed.shadow →
    Shows c new (entered_frames c t true n args (frames_of c old.top old.below)) (q ∷ old.shadow.principals)
crosses_into c t old crossed pushed new n args wrapper q enter lines principals top below registers frames on_top takes same shadow arrives still =
    let two = subst (λ (s : Stack). 2 ≤ s.room) (sym below) enter.1 in
    let room : 0 < crossed.below.room = omega (arith, two) in
    let body : CanGoIn c pushed (Some (kept.Wraps n args wrapper 1 None)) =
    ((subst (λ v. IsPrepared c (length args) v.items (vec_capacity v)) (sym (same ∙ registers)) enter.0, omega (arith, two, takes)), omega arith) in
    record {
      frames =
          arrives (subst (CanGoIn c pushed) (sym (on_top room)) body)
          ∙ ap (arrived c t) (frames room)
          ∙ ap (λ (o : Option KeptFrame). at_lines c t n args None (frames_of c o crossed.below) (drop 1 (wrapper_lines c wrapper))) top
          ∙ ap (λ (s : Stack). at_lines c t n args None (frames_of c old.top s) (drop 1 (wrapper_lines c wrapper))) below
          ∙ ap (at_lines c t n args None (frames_of c old.top old.below)) (first_behind (wrapper_lines c wrapper) ∙ ap behind_head lines);
      principals = ap (λ s. s.principals) (still ∙ shadow) ∙ principals;
    }
