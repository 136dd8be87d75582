-- The text of the events of a run: one line for each, in their order.
use Rattle.std.specs.Prelude.{ℕ, ◌+◌, ◌-◌, Bool, true, false, Option, Some, None, List, [], ◌∷◌, ◌++◌, codes, flat_map, slice_get, slice_index_or}
use Rattle.lx_words.specs.declared.word.Width.{Width}
use Rattle.lx_words.specs.declared.word.Width.TheVariants.{W1, W64}
use Rattle.lx_words.specs.Word.{Word}
use Rattle.lx_caps.specs.declared.Principal.{Principal}
use Rattle.lx_ir.specs.declared.module.GlobalVar.{GlobalVar}
use Rattle.lx_ir.specs.Text.{width_text}
use Rattle.lx_annot.specs.declared.interface.Slot.{Slot as SlotType}
use Rattle.lx_annot.specs.Canonical.{Text}
use Rattle.lx_model.specs.declared.program.Program.{Program}
use Rattle.lx_model.specs.declared.account.CallOutcome.{CallOutcome}
use Rattle.lx_model.specs.declared.account.InstanceName.{InstanceName}
use Rattle.lx_model.specs.declared.request.Outcome.{Outcome}
use Rattle.lx_model.specs.declared.request.Outcome.TheVariants.{Refused, Trapped}
use Rattle.lx_model.specs.declared.request.Reply.{Reply}
use Rattle.lx_model.specs.declared.request.Reply.TheVariants.{Value, Done, Entered, Ended}
use Rattle.lx_model.specs.declared.request.Way.{Way}
use Rattle.lx_model.specs.declared.request.Way.TheVariants.{Script, Direct, Indirect, Slot}
use Rattle.lx_model.specs.declared.request.What.{What}
use Rattle.lx_model.specs.declared.request.What.TheVariants as what
use Rattle.lx_model.specs.Program.{function_at, native_names}
use Rattle.lx_report.specs.Report.{number_text, address_text, signed_word_text, home_text, called_text, principal_text, outcome_text, line}
use Rattle.lx_trace_text.specs.declared.Site.{Site}
use Rattle.lx_trace_text.specs.declared.Traced.{Traced}
use Rattle.lx_trace_text.specs.declared.blocks.Block.{Block}
use Rattle.lx_trace_text.specs.declared.blocks.Giver.{Giver}
use Rattle.lx_trace_text.specs.declared.blocks.Giver.TheVariants.{Global, Event}
use Rattle.lx_trace_text.specs.declared.blocks.Near.{Near}
use Rattle.lx_trace_text.specs.declared.pieces.Spot.{Spot}
use Rattle.lx_trace_text.specs.Blocks.{known_after, known_first, near_of, variable_of}

-- how an event came out

-- the word for an event that ends its call
abbrev pub end_word : Outcome → Text
end_word (Refused r) = codes "refused"
end_word (Trapped t) = codes "trap"
end_word o = codes "ends"

-- the first word of an event's line, by the reply
abbrev pub kind_text : Reply → Text
kind_text (Ended o) = end_word o
kind_text r = codes "done"

-- places

-- a function and a line of its text; a script has no text
abbrev pub site_text : Program → Option Site → Text
site_text p None = codes "script"
site_text p (Some s) = called_text p s.function ++ codes ":" ++ number_text s.line

-- a function in brackets, where there is one
abbrev pub bracketed : Program → Option ℕ → Text
bracketed p None = []
bracketed p (Some n) = codes " (" ++ called_text p n ++ codes ")"

-- an address, and the function whose address it is
abbrev pub function_spot_text : Program → ℕ → Text
function_spot_text p a = address_text a ++ bracketed p (function_at p a)

-- the name of a global, if there is one
abbrev pub variable_name : Option GlobalVar → Text
variable_name None = []
variable_name (Some g) = g.name

-- what gave a block: a global by the text that defines it and its name there, or an event by its number
abbrev pub giver_text : Program → Giver → Text
giver_text p (Global home number) = home_text p home ++ codes ":@" ++ variable_name (variable_of p home number)
giver_text p (Event n) = codes "event " ++ number_text n

-- a block in brackets, and how far behind its start an address lies in it
abbrev pub block_text : Program → ℕ → Option Block → Text
block_text p a None = []
block_text p a (Some b) = codes " (" ++ giver_text p b.giver ++ codes "+" ++ number_text (a - b.start) ++ codes ")"

-- an address, and the function whose address it is or the block in which it lies
abbrev pub spot_text : Program → Spot → Text
spot_text p s = function_spot_text p s.at ++ block_text p s.at s.block

abbrev pub spot : ℕ → Option Block → Spot
spot at block = record { at = at; block = block }

-- words

-- a word of 64 bits as an address, a truth value as 0 or 1, and any other word as a signed number
abbrev pub word_text_of : Width → Word → Text
word_text_of W64 w = address_text w.bits
word_text_of W1 w = number_text w.bits
word_text_of width w = signed_word_text w

-- a word, by its width
abbrev pub word_text : Word → Text
word_text w = word_text_of w.width w

-- an argument behind another one
abbrev pub further_text : Word → Text
further_text w = codes ", " ++ word_text w

-- arguments, with a comma and a space between
abbrev pub list_text : List Word → Text
list_text [] = []
list_text (w ∷ ws) = word_text w ++ flat_map further_text ws

-- arguments in round brackets
abbrev pub args_text : List Word → Text
args_text ws = codes "(" ++ list_text ws ++ codes ")"

-- what is asked

-- of which width a word is read, and where
abbrev pub load_text : Program → Spot → Width → Text
load_text p at width = codes "load " ++ width_text width ++ codes " at " ++ spot_text p at

-- the width and the value of a word
abbrev pub typed_text : Word → Text
typed_text w = width_text w.width ++ codes " " ++ word_text w

-- which word is written, and where
abbrev pub store_text : Program → Spot → Word → Text
store_text p at w = codes "store " ++ typed_text w ++ codes " at " ++ spot_text p at

-- how many bytes are copied, and their two places
abbrev pub copy_text : Program → Spot → Spot → ℕ → Text
copy_text p to from len =
    codes "copy " ++ number_text len ++ codes " from " ++ spot_text p from ++ codes " to " ++ spot_text p to

-- how many bytes are set to which one, and where
abbrev pub fill_text : Program → Spot → ℕ → ℕ → Text
fill_text p to byte len =
    codes "fill " ++ number_text len ++ codes " with " ++ number_text byte ++ codes " at " ++ spot_text p to

-- so many bytes from an address on
abbrev pub room_text : Text → ℕ → ℕ → Text
room_text word size at = word ++ number_text size ++ codes " at " ++ address_text at

-- the name of a slot type, where there is one
abbrev pub slot_name_of : Option SlotType → Text
slot_name_of None = []
slot_name_of (Some s) = s.name

-- the name of the slot type with this number
abbrev pub slot_name : Program → ℕ → Text
slot_name p ty = slot_name_of (slice_get p.interface.slots ty)

-- the function that is called, by its number or its address, or a slot through which it is
abbrev pub way_text : Program → Way → Text
way_text p (Script n) = called_text p n
way_text p (Direct n) = called_text p n
way_text p (Indirect a) = function_spot_text p a
way_text p (Slot slot ty) = codes "slot " ++ slot_name p ty ++ codes " at " ++ address_text slot

-- a function is called with arguments
abbrev pub enter_text : Program → Way → List Word → Text
enter_text p way args = codes "calls " ++ way_text p way ++ args_text args

-- the name of the native with this number
abbrev pub native_name : ℕ → Text
native_name k = slice_index_or native_names k []

-- a native is called with arguments
abbrev pub native_text : ℕ → List Word → Text
native_text k args = codes "calls " ++ native_name k ++ args_text args

-- whether actions stand before a function's body or behind it
abbrev pub side_word : Bool → Text
side_word false = codes "pre "
side_word true = codes "post "

-- an action of a function's annotation, by its number among those on its side of the body
abbrev pub action_text : Program → ℕ → Bool → ℕ → Text
action_text p function post index = side_word post ++ number_text index ++ codes " of " ++ called_text p function

-- who gives, and who gets
abbrev pub between_text : Program → List InstanceName → Principal → Principal → Text
between_text p names source dest =
    codes " from " ++ principal_text p names source ++ codes " to " ++ principal_text p names dest

-- what is asked, by the blocks in which it reads and writes memory
abbrev pub what_text : Program → List InstanceName → Near → What → Text
what_text p names near (what.Load at width) = load_text p (spot at near.to) width
what_text p names near (what.Store at w) = store_text p (spot at near.to) w
what_text p names near (what.Copy to from len) = copy_text p (spot to near.to) (spot from near.from) len
what_text p names near (what.Fill to byte len) = fill_text p (spot to near.to) byte len
what_text p names near (what.Alloca at size) = room_text (codes "alloca ") size at
what_text p names near (what.Enter way args) = enter_text p way args
what_text p names near (what.Perform function post index env source dest) =
    action_text p function post index ++ between_text p names source dest
what_text p names near (what.Return low high) = room_text (codes "leaves ") (high - low) low
what_text p names near (what.Native k args) = native_text k args
what_text p names near (what.Finish o) = codes "ends"

-- what is answered

-- the function that is entered, and for whom it runs
abbrev pub entered_text : Program → List InstanceName → ℕ → Principal → Text
entered_text p names n who = codes " enters " ++ called_text p n ++ codes " as " ++ principal_text p names who

-- what is answered in a call of this function
abbrev pub reply_text : Program → List InstanceName → ℕ → Reply → Text
reply_text p names function (Value w) = codes " = " ++ word_text w
reply_text p names function Done = []
reply_text p names function (Entered n who crosses) = entered_text p names n who
reply_text p names function (Ended o) = codes ": " ++ outcome_text p names function o

-- events

-- a thread, and the number of a call among the thread's own, counted from 0
abbrev pub call_text : ℕ → ℕ → Text
call_text thread call = number_text thread ++ codes "." ++ number_text call

-- how an event came out, its number, and its call
abbrev pub event_opening : ℕ → Traced → Text
event_opening n e =
    kind_text e.reply ++ codes " " ++ number_text n ++ codes " " ++ call_text e.thread e.call ++ codes " "

-- for whom and where it is asked
abbrev pub asker_text : Program → List InstanceName → Traced → Text
asker_text p names e = principal_text p names e.request.who ++ codes " " ++ site_text p e.site ++ codes ": "

-- what is asked, and what is answered
abbrev pub exchange_text : Program → List InstanceName → Near → Traced → Text
exchange_text p names near e = what_text p names near e.request.what ++ reply_text p names e.function e.reply

-- the event with this number
abbrev pub event_line_of : Program → List InstanceName → Near → ℕ → Traced → Text
event_line_of p names near n e = line (event_opening n e ++ asker_text p names e ++ exchange_text p names near e)

-- the event with this number, by the blocks that are known before it
abbrev pub event_line : Program → List InstanceName → List Block → ℕ → Traced → Text
event_line p names bs n e = event_line_of p names (near_of bs e.request.what) n e

-- events, with their numbers from `n` on, by the blocks that are known before them
abbrev pub event_lines : Program → List InstanceName → List Block → ℕ → List Traced → Text
event_lines p names bs n [] = []
event_lines p names bs n (e ∷ es) = event_line p names bs n e ++ event_lines p names (known_after bs n e) (n + 1) es

-- the events, with their numbers from 0
abbrev pub trace_text : Program → List InstanceName → List Traced → Text
trace_text p names events = event_lines p names (known_first p) 0 events

-- how a thread's call of a function ends, where this reply ends it
abbrev pub end_by : ℕ → ℕ → Reply → List CallOutcome
end_by thread function (Ended o) = record { thread = thread; function = function; outcome = o } ∷ []
end_by thread function r = []

-- the same of an event
abbrev pub end_of : Traced → List CallOutcome
end_of e = end_by e.thread e.function e.reply
