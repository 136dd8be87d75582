-- The calls of a script, over a program.
use Rattle.std.specs.Prelude.{ℕ, ◌/◌, Bool, ◌&&◌, Option, Some, None, List, [], map, nat_eq, nat_lt, option_map, option_and_then, position, unwrap_or, bytes_eq, is_some, length, zip, if◌then◌else◌, ℤ, pos, negsuc}
use Rattle.std.specs.List.{list_all}
use Rattle.std.specs.Option.{option_or}
use Rattle.lx_words.specs.declared.word.Width.{Width}
use Rattle.lx_words.specs.Width.{modulus}
use Rattle.lx_words.specs.Word.{Word, word, word_of_int}
use Rattle.lx_ir.specs.declared.module.Parameter.{Parameter}
use Rattle.lx_ir.specs.declared.module.Function.{Function}
use Rattle.lx_ir.specs.Faults.{first_some}
use Rattle.lx_ir.specs.Layout.{width_of}
use Rattle.lx_model.specs.declared.program.Program.{Program}
use Rattle.lx_model.specs.declared.program.ScriptCall.{ScriptCall}
use Rattle.lx_model.specs.Program.{Home, module_of, address_of, number_of, function_of, global_address}
use Rattle.lx_script.specs.declared.case.CaseArg.{CaseArg}
use Rattle.lx_script.specs.declared.case.CaseArg.TheVariants.{Number, Address}
use Rattle.lx_script.specs.declared.case.CaseCall.{CaseCall}
use Rattle.lx_link_texts.specs.declared.fault.FaultKind.TheVariants.{Missing, SignatureDiffers}
use Rattle.lx_link_texts.specs.declared.fault.Source.TheVariants as source
use Rattle.lx_link_texts.specs.Faults.{Fault, fault, fault_unless, defines}

-- Names of a text.

-- the number of the function of that name that a text defines
abbrev pub function_named : Program → Home → List ℕ → Option ℕ
function_named p home name = option_and_then (number_of p home) (position (defines name) (module_of p home).functions)

-- the address of the global of that name
abbrev pub global_named : Program → Home → List ℕ → Option ℕ
global_named p home name = option_map (global_address p home) (position (λ g. bytes_eq g.name name) (module_of p home).globals)

-- the address of the global or the defined function of that name
unfoldable pub named_address : Program → Home → List ℕ → Option ℕ
named_address p home name = option_or (global_named p home name) (option_map address_of (function_named p home name))

-- Arguments.

-- the value of an argument, if its name names something
abbrev pub argument_value : Program → CaseArg → Option ℤ
argument_value p (Number n) = Some n
argument_value p (Address home name) = option_map pos (named_address p home name)

abbrev pub value_or_zero : Option ℤ → ℤ
value_or_zero z = unwrap_or z (pos 0)

-- a value of N bits, with a sign or without: from -2^(N-1) to 2^N - 1
abbrev pub is_in_range : Width → ℤ → Bool
is_in_range w (pos n) = nat_lt n (modulus w)
is_in_range w (negsuc n) = nat_lt n (modulus w / 2)

-- the word of a value at a width, if it is in its range
abbrev pub word_in : Width → ℤ → Option Word
word_in w z = if is_in_range w z then Some (word_of_int w z) else None

abbrev pub word_of_argument : Program → Parameter → CaseArg → Option Word
word_of_argument p x a = word_in (width_of x.ty) (value_or_zero (argument_value p a))

-- parameters beside the arguments at their places
abbrev pub are_in_range : Program → List Parameter → List CaseArg → Bool
are_in_range p xs args = list_all (λ z. is_some (word_of_argument p z.0 z.1)) (zip xs args)

-- the arguments are as many as the parameters, and each is in its parameter's range
abbrev pub all_fit : Program → List Parameter → List CaseArg → Bool
all_fit p xs args = nat_eq (length xs) (length args) && are_in_range p xs args

-- what is out of range has no word, and is a fault: 0 stands for it
abbrev pub argument_word : Program → Parameter → CaseArg → Word
argument_word p x a = unwrap_or (word_of_argument p x a) (word (width_of x.ty) 0)

-- the arguments as words of the parameters' widths
abbrev pub argument_words : Program → List Parameter → List CaseArg → List Word
argument_words p xs args = map (λ z. argument_word p z.0 z.1) (zip xs args)

-- Calls.

abbrev pub params_of : Option Function → List Parameter
params_of None = []
params_of (Some f) = f.params

abbrev pub parameters : Program → ℕ → List Parameter
parameters p n = params_of (function_of p n)

abbrev pub target : Program → CaseCall → Option ℕ
target p c = function_named p c.target.«module» c.target.function

-- an argument that names nothing
abbrev pub fault_unless_some : Option ℕ → Fault → Option Fault
fault_unless_some None x = Some x
fault_unless_some (Some n) x = None

abbrev pub argument_fault : Program → ℕ → CaseArg → Option Fault
argument_fault p line (Number n) = None
argument_fault p line (Address home name) = fault_unless_some (named_address p home name) (fault Missing source.Case line name)

abbrev pub call_fault_by : Program → CaseCall → Option ℕ → Option Fault
call_fault_by p c None = Some (fault Missing source.Case c.line c.target.function)
call_fault_by p c (Some n) =
    option_or (first_some (argument_fault p c.line) c.args)
    (fault_unless (all_fit p (parameters p n) c.args) (fault SignatureDiffers source.Case c.line c.target.function))

-- what is missing, the target first and then the names of arguments; else arguments that do not fit
abbrev pub call_fault : Program → CaseCall → Option Fault
call_fault p c = call_fault_by p c (target p c)

abbrev pub thread_fault : Program → List CaseCall → Option Fault
thread_fault p calls = first_some (call_fault p) calls

-- the first fault of a script: thread by thread, and call by call
abbrev pub script_fault : Program → List (List CaseCall) → Option Fault
script_fault p threads = first_some (thread_fault p) threads

abbrev pub call_to : Program → CaseCall → ℕ → ScriptCall
call_to p c n = record { function = n; args = argument_words p (parameters p n) c.args; fuel = c.fuel }

-- a call by numbers: which function, and the arguments as words
abbrev pub resolved : Program → CaseCall → ScriptCall
resolved p c = call_to p c (unwrap_or (target p c) 0)

-- the calls of each thread
abbrev pub calls_of : Program → List (List CaseCall) → List (List ScriptCall)
calls_of p threads = map (λ calls. map (resolved p) calls) threads
