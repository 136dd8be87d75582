-- Replies that may be given to a request.
use Rattle.std.specs.Prelude.{◌≡◌, ℕ, ◌+◌, ◌≤◌, true, Some, None, List, ⊤}
use Rattle.lx_words.specs.Word.{Word}
use Rattle.lx_caps.specs.declared.Principal.{Principal}
use Rattle.lx_caps.specs.Regions.{stack_end}
use Rattle.lx_model.specs.declared.program.Program.{Program}
use Rattle.lx_model.specs.declared.request.Way.{Way}
use Rattle.lx_model.specs.declared.request.Way.TheVariants.{Direct, Slot}
use Rattle.lx_model.specs.declared.request.What.{What}
use Rattle.lx_model.specs.declared.request.What.TheVariants as what
use Rattle.lx_model.specs.declared.request.Reply.{Reply}
use Rattle.lx_model.specs.declared.request.Reply.TheVariants.{Value, Done, Entered, Ended}
use Rattle.lx_model.specs.Program.{home_or_kernel, native_call}
use Rattle.lx_model.specs.Enter.{has_signature, text_of_principal}
use Rattle.lx_model.specs.Fits.{FitsFunction}
use Rattle.lx_link_texts.specs.Signatures.{native_result}

-- the function that a way leads to: that which is named, or one of the slot's signature
abbrev pub LeadsTo : Program → Way → ℕ → Type 0
LeadsTo p (Direct f) n = n ≡ f
LeadsTo p (Slot at ty) n = has_signature p ty n ≡ true
LeadsTo p _ n = ⊤

-- a function that takes the arguments is entered as a principal of its text
abbrev pub EnteredWell : Program → Way → List Word → ℕ → Principal → Type 0
EnteredWell p way args n q = FitsFunction p n args × (text_of_principal q ≡ home_or_kernel p n) × LeadsTo p way n

-- a call may be ended by each reply. Else what is loaded is as wide as it was asked for, a native's result as its signature says, bytes of
-- the stack lie in it, and a function is entered where one is asked for
abbrev pub ReplyFits : Program → ℕ → What → Reply → Type 0
ReplyFits p t w (Ended o) = ⊤
ReplyFits p t (what.Load at width) (Value v) = v.width ≡ width
ReplyFits p t (what.Native k args) (Value v) = native_result (native_call k) ≡ Some v.width
ReplyFits p t (what.Enter way args) (Entered n q crosses) = EnteredWell p way args n q
ReplyFits p t (what.Store at v) Done = ⊤
ReplyFits p t (what.Copy to from len) Done = ⊤
ReplyFits p t (what.Fill to byte len) Done = ⊤
ReplyFits p t (what.Alloca at size) Done = at + size ≤ stack_end t
ReplyFits p t (what.Perform n post k env source dest) Done = ⊤
ReplyFits p t (what.Return low high) Done = ⊤
ReplyFits p t (what.Native k args) Done = native_result (native_call k) ≡ None
ReplyFits p t w reply = ⊥
