-- The text of a report: one line for each fact of an account, in the account's order.
use Rattle.std.specs.Prelude.{ℕ, Option, Some, None, List, [], ◌++◌, ◌&&◌, nat_eq, codes, find, take, count_by, flat_map, slice_get, slice_index_or, option_map, option_and_then, unwrap_or}
use Rattle.std.specs.List.{enumerate_from}
use Rattle.lx_words.specs.declared.word.Width.TheVariants.{W1, W64}
use Rattle.lx_words.specs.Word.{Word, word, signed}
use Rattle.lx_words.specs.Text.{decimal_text, signed_text, hex_text}
use Rattle.lx_caps.specs.declared.Principal.{Principal}
use Rattle.lx_caps.specs.declared.Principal.TheVariants.{Kernel, Shared, Global, Inst}
use Rattle.lx_caps.specs.declared.Cap.{Cap}
use Rattle.lx_caps.specs.declared.Cap.TheVariants as cap
use Rattle.lx_ir.specs.declared.types.Scalar.{Scalar}
use Rattle.lx_ir.specs.declared.types.Scalar.TheVariants.{Int, Ptr}
use Rattle.lx_ir.specs.declared.module.Function.{Function}
use Rattle.lx_annot.specs.declared.interface.Interface.{Interface}
use Rattle.lx_annot.specs.Canonical.{Text, canonical}
use Rattle.lx_model.specs.declared.program.Program.{Program}
use Rattle.lx_model.specs.declared.program.ProgramModule.{ProgramModule}
use Rattle.lx_model.specs.declared.request.Refusal.{Refusal}
use Rattle.lx_model.specs.declared.request.Refusal.TheVariants as refusal
use Rattle.lx_model.specs.declared.request.Trap.{Trap}
use Rattle.lx_model.specs.declared.request.Trap.TheVariants.{Unmapped, Division, Unreachable, StackFull, TooDeep, Signature, NotLive}
use Rattle.lx_model.specs.declared.request.Outcome.{Outcome}
use Rattle.lx_model.specs.declared.request.Outcome.TheVariants.{Returned, Refused, Trapped, Budget}
use Rattle.lx_model.specs.declared.account.Account.{Account}
use Rattle.lx_model.specs.declared.account.CallOutcome.{CallOutcome}
use Rattle.lx_model.specs.declared.account.Note.{Note}
use Rattle.lx_model.specs.declared.account.ImageCount.{ImageCount}
use Rattle.lx_model.specs.declared.account.Owned.{Owned}
use Rattle.lx_model.specs.declared.account.InstanceName.{InstanceName}
use Rattle.lx_model.specs.Program.{Home, home_or_kernel, function_of, no_annotation, slot_annotation, annotation_or_none}
use Rattle.lx_report.specs.Runs.{Run, runs}

-- numbers

unfoldable pub number_text : ℕ → Text
number_text n = decimal_text n

-- `0x` and hexadecimal digits without padding
unfoldable pub address_text : ℕ → Text
address_text at = hex_text at

-- a word as a signed number
unfoldable pub signed_word_text : Word → Text
signed_word_text w = signed_text (signed w)

-- names

abbrev pub name_or_empty : Option ProgramModule → Text
name_or_empty None = []
name_or_empty (Some m) = m.name

abbrev pub module_name : Program → ℕ → Text
module_name p m = name_or_empty (slice_get p.modules m)

-- whose text a function stands in
abbrev pub home_text : Program → Home → Text
home_text p None = codes "kernel"
home_text p (Some m) = module_name p m

abbrev pub function_name : Option Function → Text
function_name None = []
function_name (Some f) = f.name

-- a function by the text that defines it and its name there
abbrev pub called_text : Program → ℕ → Text
called_text p n = home_text p (home_or_kernel p n) ++ codes ":" ++ function_name (function_of p n)

-- the value by which an instance was named first
abbrev pub given_name : List InstanceName → ℕ → ℕ → ℕ
given_name names m k =
    unwrap_or (option_map (λ n. n.value) (find (λ n. nat_eq n.module m && nat_eq n.instance k) names)) 0

abbrev pub given_text : List InstanceName → ℕ → ℕ → Text
given_text names m k = codes "[" ++ address_text (given_name names m k) ++ codes "]"

abbrev pub principal_text : Program → List InstanceName → Principal → Text
principal_text p names Kernel = codes "kernel"
principal_text p names (Shared m) = module_name p m ++ codes ".shared"
principal_text p names (Global m) = module_name p m ++ codes ".global"
principal_text p names (Inst m k) = module_name p m ++ given_text names m k

-- capabilities

-- `size` bytes from an address on
abbrev pub write_text : ℕ → ℕ → Text
write_text at size = codes "write " ++ address_text at ++ codes "+" ++ number_text size

abbrev pub call_text : ℕ → Text
call_text at = codes "call " ++ address_text at

abbrev pub ref_text : Interface → ℕ → ℕ → Text
ref_text i ty at = codes "ref " ++ slice_index_or i.reftypes ty [] ++ codes " " ++ address_text at

abbrev pub cap_text : Interface → Cap → Text
cap_text i (cap.Write at size) = write_text at size
cap_text i (cap.Call at) = call_text at
cap_text i (cap.Ref ty at) = ref_text i ty at

-- replies

-- the number of a refusal, and the principal that it meets
abbrev pub refused : Program → List InstanceName → ℕ → Principal → Text
refused p names number who =
    codes "refused " ++ number_text number ++ codes " " ++ principal_text p names who ++ codes " "

-- the annotation of a slot, and the one of a function
abbrev pub slot_annotation_text : Program → ℕ → Text
slot_annotation_text p slot = canonical p.interface (unwrap_or (slot_annotation p.interface slot) no_annotation)

abbrev pub annotation_text : Program → ℕ → Text
annotation_text p function = canonical p.interface (annotation_or_none p function)

-- the function that a slot holds, and the two annotations, which differ
abbrev pub other_text : Program → ℕ → ℕ → ℕ → Text
other_text p at slot function =
    call_text at ++ codes ": " ++ slot_annotation_text p slot ++ codes " | " ++ annotation_text p function

-- what a slot holds
abbrev pub slot_text : ℕ → ℕ → Text
slot_text at slot = call_text at ++ codes " slot " ++ address_text slot

-- a name, and the further one that was asked for
abbrev pub alias_text : ℕ → ℕ → Text
alias_text known further = codes "alias " ++ address_text known ++ codes " " ++ address_text further

-- the capability that is lacking, or what else stands in the way
abbrev pub refusal_text : Program → List InstanceName → Refusal → Text
refusal_text p names (refusal.Write who at size) = refused p names 1 who ++ write_text at size
refusal_text p names (refusal.Call who at) = refused p names 2 who ++ call_text at
refusal_text p names (refusal.Ref who ty at) = refused p names 3 who ++ ref_text p.interface ty at
refusal_text p names (refusal.NotAnnotated who at) = refused p names 4 who ++ call_text at
refusal_text p names (refusal.OtherAnnotation who at slot function) = refused p names 5 who ++ other_text p at slot function
refusal_text p names (refusal.Writer who at slot) = refused p names 6 who ++ slot_text at slot
refusal_text p names (refusal.OnStack who at size) = refused p names 7 who ++ write_text at size
refusal_text p names (refusal.Outside who at size) = refused p names 8 who ++ write_text at size
refusal_text p names (refusal.Alias who known further) = refused p names 9 who ++ alias_text known further
refusal_text p names (refusal.Borrowed who c) = refused p names 10 who ++ cap_text p.interface c

abbrev pub trap_text : Trap → Text
trap_text (Unmapped at) = codes "trap 1 " ++ address_text at
trap_text Division = codes "trap 2"
trap_text Unreachable = codes "trap 3"
trap_text StackFull = codes "trap 4"
trap_text TooDeep = codes "trap 5"
trap_text (Signature at) = codes "trap 6 " ++ address_text at
trap_text (NotLive at) = codes "trap 7 " ++ address_text at

-- a word of the result's type: an address, a truth value as 0 or 1, or a signed number
abbrev pub value_text : Option Scalar → Word → Text
value_text (Some Ptr) w = address_text w.bits
value_text (Some (Int W1)) w = number_text w.bits
value_text ty w = signed_word_text w

abbrev pub returned_text : Option Scalar → Option Word → Text
returned_text ty None = codes "returned"
returned_text ty (Some w) = codes "returned " ++ value_text ty w

abbrev pub result_type : Program → ℕ → Option Scalar
result_type p n = option_and_then (λ f. f.ret) (function_of p n)

-- how a call of a function ended
abbrev pub outcome_text : Program → List InstanceName → ℕ → Outcome → Text
outcome_text p names n (Returned v) = returned_text (result_type p n) v
outcome_text p names n (Refused r) = refusal_text p names r
outcome_text p names n (Trapped t) = trap_text t
outcome_text p names n Budget = codes "budget"

-- lines

abbrev pub line : Text → Text
line t = t ++ codes "\n"

abbrev pub run_text : Run → Text
run_text r = codes " " ++ number_text r.thread ++ codes "*" ++ number_text r.count

abbrev pub schedule_line : List ℕ → Text
schedule_line s = line (codes "schedule" ++ flat_map run_text (runs s))

-- how many calls of a thread stand among the first ones
abbrev pub calls_before : List CallOutcome → ℕ → ℕ → ℕ
calls_before calls k thread = count_by (λ c. nat_eq c.thread thread) (take k calls)

-- the thread of a call at its place among all calls, and its number among the thread's own, counted from 0
abbrev pub call_number_text : List CallOutcome → ℕ → ℕ → Text
call_number_text calls k thread = codes "call " ++ number_text thread ++ codes "." ++ number_text (calls_before calls k thread)

-- a call at its place among calls, where instances have these names
abbrev pub call_line_of : Program → List CallOutcome → List InstanceName → ℕ × CallOutcome → Text
call_line_of p calls names x =
    line
    (call_number_text calls x.0 x.1.thread ++ codes " " ++ called_text p x.1.function ++ codes " "
    ++ outcome_text p names x.1.function x.1.outcome)

abbrev pub call_line : Program → Account → ℕ × CallOutcome → Text
call_line p a x = call_line_of p a.outcomes a.names x

abbrev pub note_line : Note → Text
note_line n = line (codes "note " ++ number_text n.thread ++ codes " " ++ signed_word_text (word W64 n.value))

-- what an image has beyond its module
abbrev pub counts_text : ImageCount → Text
counts_text image =
    codes " guards " ++ number_text image.guards ++ codes " checks " ++ number_text image.checks ++ codes " wrappers "
    ++ number_text image.wrappers

-- the image of the module with this number
abbrev pub image_line : Program → ℕ × ImageCount → Text
image_line p x = line (codes "image " ++ module_name p x.0 ++ counts_text x.1)

abbrev pub owner_line : Program → List InstanceName → Owned → Text
owner_line p names o = line (codes "owns " ++ principal_text p names o.who ++ codes " " ++ cap_text p.interface o.cap)

-- the schedule, the calls, the notes, the images, and what each principal owns
abbrev pub report_text : Program → Account → Text
report_text p a =
    schedule_line a.schedule
    ++ flat_map (call_line p a) (enumerate_from 0 a.outcomes)
    ++ flat_map note_line a.notes
    ++ flat_map (image_line p) (enumerate_from 0 a.images)
    ++ flat_map (owner_line p a.names) a.owners
