-- Which bytes a trace has names for: those of a program's globals, and blocks that events gave and none took back yet.
use Rattle.std.specs.Prelude.{◌≡◌, ℕ, ◌-◌, ◌&&◌, not, nat_eq, nat_le, nat_lt, if◌then◌else◌, Option, Some, None, List, [], ◌∷◌, filter, find, slice_get}
use Rattle.std.specs.Ordering.{nat_cmp}
use Rattle.std.specs.BTreeMap.{BTreeMap, get}
use Rattle.lx_words.specs.Word.{Word}
use Rattle.lx_caps.specs.Regions.{covers, stack_start, stack_end}
use Rattle.lx_ir.specs.declared.module.GlobalVar.{GlobalVar}
use Rattle.lx_ir.specs.declared.types.NamedType.{NamedType}
use Rattle.lx_ir.specs.Fitting.{fit_type, fitting_layouts}
use Rattle.lx_ir.specs.Layout.{Layout}
use Rattle.lx_model.specs.declared.program.Program.{Program}
use Rattle.lx_model.specs.declared.program.ProgramGlobal.{ProgramGlobal}
use Rattle.lx_model.specs.declared.request.Reply.{Reply}
use Rattle.lx_model.specs.declared.request.Reply.TheVariants.{Value, Done, Entered, Ended}
use Rattle.lx_model.specs.declared.request.What.{What}
use Rattle.lx_model.specs.declared.request.What.TheVariants as what
use Rattle.lx_model.specs.Program.{Home, module_of}
use Rattle.lx_trace_text.specs.declared.blocks.Block.{Block}
use Rattle.lx_trace_text.specs.declared.blocks.Giver.TheVariants.{Global, Event}
use Rattle.lx_trace_text.specs.declared.blocks.Change.{Change}
use Rattle.lx_trace_text.specs.declared.blocks.Change.TheVariants.{Nothing, Gives, Takes}
use Rattle.lx_trace_text.specs.declared.blocks.Near.{Near}
use Rattle.lx_trace_text.specs.declared.Traced.{Traced}

-- the block of an address, of known ones from the newest on

-- of a block and another one, the one that starts last up to an address; where both start alike the first
abbrev pub nearer : ℕ → Block → Option Block → Option Block
nearer a b None = if nat_le b.start a then Some b else None
nearer a b (Some c) = if nat_le b.start a && nat_le c.start b.start then Some b else Some c

-- the block that starts last up to an address, the newest of those that start alike
abbrev pub nearest : List Block → ℕ → Option Block
nearest [] a = None
nearest (b ∷ bs) a = nearer a b (nearest bs a)

-- a block, if the address lies in it
abbrev pub around : ℕ → Option Block → Option Block
around a None = None
around a (Some b) = if covers b.start b.size a then Some b else None

-- the block of an address: the nearest one, if the address lies in it
abbrev pub block_at : List Block → ℕ → Option Block
block_at bs a = around a (nearest bs a)

-- globals

-- how many bytes a layout takes; a type outside the limits has none
abbrev pub fitting_size : Option Layout → ℕ
fitting_size None = 0
fitting_size (Some l) = l.size

-- how many bytes a global of a text with these types takes, if there is one
abbrev pub variable_size : List NamedType → Option GlobalVar → ℕ
variable_size types None = 0
variable_size types (Some g) = fitting_size (fit_type (fitting_layouts types) g.ty)

-- the global of a text with this number
abbrev pub variable_of : Program → Home → ℕ → Option GlobalVar
variable_of p home number = slice_get (module_of p home).globals number

-- a global's block
abbrev pub global_block : Program → ProgramGlobal → Block
global_block p x =
    record {
      start = x.at;
      size = variable_size (module_of p x.«module»).types (variable_of p x.«module» x.global);
      giver = Global x.«module» x.global;
    }

-- known blocks, and those of further globals
abbrev pub with_globals : Program → List ProgramGlobal → List Block → List Block
with_globals p [] bs = bs
with_globals p (x ∷ xs) bs = with_globals p xs (global_block p x ∷ bs)

-- the blocks that are known before all events
abbrev pub known_first : Program → List Block
known_first p = with_globals p p.globals []

-- events

-- the first argument's value
abbrev pub first_value : List Word → ℕ
first_value [] = 0
first_value (w ∷ ws) = w.bits

-- the event with this number gives so many bytes from an address on
abbrev pub gives : ℕ → ℕ → ℕ → Change
gives n at size = Gives (record { start = at; size = size; giver = Event n })

-- the same, unless the address is 0
abbrev pub allocates : ℕ → ℕ → ℕ → Change
allocates n at size = if nat_eq at 0 then Nothing else gives n at size

-- blocks are taken back that start from an address on up to before another one
abbrev pub takes_between : ℕ → ℕ → Change
takes_between low high = if nat_lt low high then Takes low (high - 1) else Nothing

-- what an event with this number changes that answers a value: `k.alloc` gives its first argument's bytes
abbrev pub change_by_value : ℕ → What → Word → Change
change_by_value n (what.Native k args) w = if nat_eq k 0 then allocates n w.bits (first_value args) else Nothing
change_by_value n w v = Nothing

-- what one changes that answers none: bytes of a stack are given, and taken back by the return; `k.free` takes back the block that
-- starts at its argument
abbrev pub change_by_done : ℕ → What → Change
change_by_done n (what.Alloca at size) = gives n at size
change_by_done n (what.Return low high) = takes_between low high
change_by_done n (what.Native k args) = if nat_eq k 1 then Takes (first_value args) (first_value args) else Nothing
change_by_done n w = Nothing

-- what a thread's event with this number changes; one that ends its call takes back what starts within the thread's stack
abbrev pub change_by : ℕ → ℕ → What → Reply → Change
change_by n thread w (Value v) = change_by_value n w v
change_by n thread w Done = change_by_done n w
change_by n thread w (Entered function who crosses) = Nothing
change_by n thread w (Ended o) = takes_between (stack_start thread) (stack_end thread)

-- the known blocks without those that start from `first` up to `last`
abbrev pub without : ℕ → ℕ → List Block → List Block
without first last bs = filter (λ b. not (nat_le first b.start && nat_le b.start last)) bs

-- the known blocks behind a change
abbrev pub changed : Change → List Block → List Block
changed Nothing bs = bs
changed (Gives b) bs = b ∷ bs
changed (Takes first last) bs = without first last bs

-- the known blocks behind the event with this number
abbrev pub known_after : List Block → ℕ → Traced → List Block
known_after bs n e = changed (change_by n e.thread e.request.what e.reply) bs

-- the blocks of two addresses
abbrev pub near : Option Block → Option Block → Near
near to from = record { to = to; from = from }

-- the blocks in which a request reads and writes memory
abbrev pub near_of : List Block → What → Near
near_of bs (what.Load at width) = near (block_at bs at) None
near_of bs (what.Store at w) = near (block_at bs at) None
near_of bs (what.Copy to from len) = near (block_at bs to) (block_at bs from)
near_of bs (what.Fill to byte len) = near (block_at bs to) None
near_of bs w = near None None

-- known blocks in a map by their starts

-- the newest block with this start
abbrev pub newest : List Block → ℕ → Option Block
newest bs start = find (λ b. nat_eq b.start start) bs

-- a map has the newest block of each start
unfoldable pub Holds : List Block → BTreeMap ℕ Block → Type 0
Holds bs m = (start : ℕ) → get nat_cmp m start ≡ newest bs start
