-- What stands on the stack of frames of a thread, for what it has room, and what is entered on it.
use Rattle.std.specs.Prelude.{◌≡◌, ℕ, ◌+◌, ◌≤◌, ◌<◌, Bool, true, false, Option, Some, None, List, [], ◌∷◌, length, vec_capacity, ⊤}
use Rattle.lx_words.specs.Word.{Word}
use Rattle.lx_caps.specs.declared.Principal.{Principal}
use Rattle.lx_model.specs.declared.request.Request.{Request}
use Rattle.lx_model.specs.declared.request.What.{What}
use Rattle.lx_model.specs.declared.request.What.TheVariants as what
use Rattle.lx_model.specs.Thread.{behind_head, start_of}
use Rattle.lx_model.specs.Effect.{returned_value}
use Rattle.lx_images.specs.Image.{Code, ImageFrame, Runs, Wraps, at_lines, image_routine, stack_top}
use Rattle.lx_image_code.specs.Tables.{HasLocals}
use Rattle.lx_frames.specs.declared.frame.Frame.{Frame as KeptFrame}
use Rattle.lx_frames.specs.declared.frame.Frame.TheVariants as kept
use Rattle.lx_frames.specs.declared.stack.FrameStack.{FrameStack}
use Rattle.lx_frames.specs.Frames.{Counts, HasSpaceOn, frames_of, past_line_on}

-- room for what a reply needs

-- no registers yet, and room for those of whatever function is entered with so many arguments
abbrev pub IsPrepared : Code → ℕ → List Word → ℕ → Type 0
IsPrepared c count registers room = (most : ℕ) × (registers ≡ []) × (count + most ≤ room) × HasLocals c most

-- a function may be entered with so many arguments, and so many frames may stand on the others
abbrev pub CanEnter : Code → FrameStack → ℕ → ℕ → Type 0
CanEnter c s count frames = IsPrepared c count s.registers.items (vec_capacity s.registers) × (frames ≤ s.below.room)

-- a wrapper on top may go into its body
abbrev pub CanGoIn : Code → FrameStack → Option KeptFrame → Type 0
CanGoIn c s (Some (kept.Wraps n args wrapper at x)) = CanEnter c s (length args) 1 × Counts (kept.Wraps n args wrapper at x)
CanGoIn c s _ = ⊤

-- a wrapper on top may go on behind the line that it asks by, and from there perhaps into its body
abbrev pub CanGoOn : Code → FrameStack → Option KeptFrame → Type 0
CanGoOn c s top = CanGoIn c s (past_line_on top)

-- there is what the reply needs: room for the registers, the frames and the principal of what is entered, and a place for the bytes
-- that a function is given
abbrev pub HasRoomFor : Code → FrameStack → What → Type 0
HasRoomFor c s (what.Perform n post k env source dest) = CanGoOn c s s.top
HasRoomFor c s (what.Enter way args) = CanEnter c s (length args) 2 × CanGoOn c s s.top × (0 < s.shadow.room)
HasRoomFor c s (what.Alloca at size) = HasSpaceOn s.top
HasRoomFor c s w = ⊤

-- what asks for room before it is asked: an entry, and bytes of the stack
abbrev pub takes_room : What → Bool
takes_room (what.Enter way args) = true
takes_room (what.Alloca at size) = true
takes_room w = false

-- and whatever is asked, if anything
abbrev pub IsReadyIf : Code → FrameStack → Option Request → Type 0
IsReadyIf c s None = ⊤
IsReadyIf c s (Some q) = HasRoomFor c s q.what

-- what stands on top

-- what a function returns, where one runs there
abbrev pub returned_on : Code → List ImageFrame → Option (Option Word)
returned_on c (Runs a ∷ fs) = Some (returned_value c.program a)
returned_on c fs = None

-- a wrapper that has come to its line: in its body, where that is the call
abbrev pub arrived : Code → ℕ → List ImageFrame → List ImageFrame
arrived c t (Wraps n args lines x ∷ fs) = at_lines c t n args x fs lines
arrived c t fs = fs

-- a wrapper in its body, behind the line of the call
abbrev pub body_behind : Code → ℕ → List ImageFrame → List ImageFrame
body_behind c t (Wraps n args lines x ∷ fs) = Runs (start_of n (image_routine c n) args (stack_top t fs)) ∷ Wraps n args (behind_head lines) x ∷ fs
body_behind c t fs = fs

-- what has become of a stack

-- nothing but room has changed
pub record IsRoomier (c : Code) (old new : FrameStack) : Type 0 where
  pub frames : frames_of c new.top new.below ≡ frames_of c old.top old.below
  pub shadow : new.shadow.principals ≡ old.shadow.principals

-- the frames, the top one first, and the principals, the innermost first, are these
pub record Shows (c : Code) (s : FrameStack) (fs : List ImageFrame) (qs : List Principal) : Type 0 where
  pub frames : frames_of c s.top s.below ≡ fs
  pub principals : s.shadow.principals ≡ qs
