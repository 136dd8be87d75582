-- What a text says, and its first fault.
use Rattle.std.specs.Prelude.{◌≡◌, ℕ, zero, suc, ◌-◌, ◌+◌, Bool, true, false, ◌||◌, ◌==◌, Option, Some, None, List, [], ◌∷◌, length, take, codes, nat_eq, Result, Ok, Err, if◌then◌else◌}
use Rattle.std.specs.List.{starts_with}
use Rattle.std.specs.Option.{option_map_or}
use Rattle.lx_words.specs.declared.token.Stop.{Stop}
use Rattle.lx_ir_tokens.specs.declared.token.Tok.{Tok}
use Rattle.lx_ir_tokens.specs.declared.token.Kind.{Kind}
use Rattle.lx_ir_tokens.specs.declared.token.Kind.TheVariants as kinds
use Rattle.lx_ir_tokens.specs.declared.read.IrTokens.{IrTokens}
use Rattle.lx_ir_tokens.specs.Reading.{ReadsAs}
use Rattle.lx_ir.specs.declared.module.Module.{Module}
use Rattle.lx_ir.specs.declared.types.NamedType.{NamedType}
use Rattle.lx_ir.specs.declared.module.Symbol.{Symbol}
use Rattle.lx_ir.specs.Lawful.{is_own_name}
use Rattle.lx_ir.specs.Fitting.{fitting_layouts}
use Rattle.lx_ir_offsets.specs.Shapes.{named_shapes}
use Rattle.lx_ir_terms.specs.declared.fault.Fault.{Fault}
use Rattle.lx_ir_terms.specs.declared.fault.FaultKind.TheVariants.{OutOfProfile}
use Rattle.lx_ir_terms.specs.Context.{Context}
use Rattle.lx_ir_constants.specs.Misplaced.{is_misplaced}
use Rattle.lx_ir_calls.specs.declared.intrinsics.TextForm.{TextForm}
use Rattle.lx_ir_calls.specs.declared.intrinsics.TextForm.TheVariants as forms
use Rattle.lx_ir_tables.specs.Numbering.{table_of}
use Rattle.lx_ir_read.specs.declared.first.Found.{Found}
use Rattle.lx_ir_read.specs.declared.first.FirstReading.{FirstReading}
use Rattle.lx_ir_read.specs.declared.draft.Draft.{Draft}
use Rattle.lx_ir_read.specs.declared.reading.Tables.{Tables}
use Rattle.lx_ir_read.specs.declared.reading.Types.{Types}
use Rattle.lx_ir_read.specs.declared.fault.TextFault.{TextFault}
use Rattle.lx_ir_read.specs.declared.fault.TextFault.TheVariants as texts
use Rattle.lx_ir_read.specs.declared.fault.ReadFault.{ReadFault}
use Rattle.lx_ir_read.specs.declared.fault.ReadFault.TheVariants as reads
use Rattle.lx_ir_read.specs.First.{unknown_context, first_reading}
use Rattle.lx_ir_read.specs.Tables.{types_of, symbols_of, naming_types, named_types}
use Rattle.lx_ir_read.specs.Again.{no_draft, all_again, module_of}
use Rattle.lx_ir_read.specs.Fault.{name_at, shown}

-- Faults before the one at which the first reading stops.

-- a name of an image's own, which a program's text may not have
abbrev pub is_own : TextForm → List (List ℕ) → Kind → ℕ → Bool
is_own forms.Program names kinds.Global name = is_own_name (name_at names name)
is_own form names kind name = false

-- such a name, or a constant `getelementptr` whose indices name no part, stands first
abbrev pub is_early : TextForm → Context → List Tok → Bool
is_early form context [] = false
is_early form context (t ∷ ts) = is_own form context.names t.kind t.name || is_misplaced context (t ∷ ts)

-- how many tokens are left with the first such before the last so many, which are not looked at
abbrev pub first_early : TextForm → Context → ℕ → List Tok → Option ℕ
first_early form context stop [] = None
first_early form context stop (t ∷ ts) =
    if is_early form context (take (suc (length ts) - stop) (t ∷ ts)) then Some (suc (length ts)) else first_early form context stop ts

-- The first fault but those of unknown names and of types that are outside the limits.

-- how many tokens are left where the first reading stops
abbrev pub left_at : Option Fault → ℕ
left_at fault = option_map_or (λ f. f.left) fault 0

abbrev pub or_byte : Fault → Option Stop → TextFault
or_byte f None = texts.Token f
or_byte f (Some stop) = if f.left == 0 then texts.Byte stop else texts.Token f

-- the fault before the stop, the fault at the stop, and the first byte that begins no token, which stands behind all tokens
abbrev pub first_of : Option ℕ → Option Fault → Option Stop → Option TextFault
first_of (Some left) fault stop = Some (texts.Token (record { kind = OutOfProfile; left = left }))
first_of None (Some f) stop = Some (or_byte f stop)
first_of None None (Some stop) = Some (texts.Byte stop)
first_of None None None = None

abbrev pub early_context : TextForm → IrTokens → List Found → Context
early_context form ir found =
    naming_types ir.names (table_of (types_of (length ir.names) found)) (named_types form ir.names ir.places ir.toks found)

abbrev pub front_fault : TextForm → IrTokens → FirstReading → Option TextFault
front_fault form ir r =
    first_of (first_early form (early_context form ir r.statements) (left_at r.fault) ir.toks) r.fault ir.stop

-- The module.

-- the types that statements define, and the numbers of their names
abbrev pub types_in : TextForm → IrTokens → List Found → Types
types_in form ir found = record {
  numbers = table_of (types_of (length ir.names) found);
  named = named_types form ir.names ir.places ir.toks found;
}

-- what each name behind `@` names
abbrev pub symbols_in : IrTokens → List Found → List (Option Symbol)
symbols_in ir found = symbols_of (unknown_context ir.names) (length ir.names) found

-- what the statements of a text define, by number, and what is reckoned of its types
abbrev pub tables_of : TextForm → IrTokens → List Found → Tables
tables_of form ir found =
    let named = named_types form ir.names ir.places ir.toks found in
    record {
      types = table_of (types_of (length ir.names) found);
      symbols = symbols_of (unknown_context ir.names) (length ir.names) found;
      named = named;
      shapes = named_shapes named;
    }

-- a context that knows all names of the text, and perhaps the limits on types
abbrev pub full_context : IrTokens → Tables → Bool → Context
full_context ir t limited = record {
  types = t.types;
  symbols = t.symbols;
  registers = [];
  named = t.named;
  layouts = fitting_layouts t.named;
  limits = (if limited then Some t.shapes else None);
  names = ir.names;
  complete = true;
}

abbrev pub told : {A : Type 0} → Result A Fault → Result A TextFault
told (Ok x) = Ok x
told (Err f) = Err (texts.Token f)

infixl 10 ◌and_then◌
abbrev pub ◌and_then◌ : {A B : Type 0} → Result A TextFault → (A → Result B TextFault) → Result B TextFault
(Ok x) and_then f = f x
(Err e) and_then f = Err e

-- The statements are read by a context that knows all names, and once more within the limits on types.
abbrev pub module_by_tables : TextForm → IrTokens → List Found → Tables → Result Module TextFault
module_by_tables form ir found t =
    told (all_again (full_context ir t false) form ir.places ir.toks no_draft found)
    and_then λ d. told (all_again (full_context ir t true) form ir.places ir.toks no_draft found)
    and_then λ e. Ok (module_of e)

-- the module that statements say which were found
abbrev pub module_found : TextForm → IrTokens → List Found → Result Module TextFault
module_found form ir found = module_by_tables form ir found (tables_of form ir found)

abbrev pub unless_faulty : Option TextFault → Result Module TextFault → Result Module TextFault
unless_faulty None read = read
unless_faulty (Some f) read = Err f

abbrev pub module_by : TextForm → IrTokens → FirstReading → Result Module TextFault
module_by form ir r = unless_faulty (front_fault form ir r) (module_found form ir r.statements)

-- the module that the tokens of a text say, or the first fault
abbrev pub module_at : TextForm → IrTokens → Result Module TextFault
module_at form ir = module_by form ir (first_reading form ir.names ir.places ir.toks)

-- The text says this module.
abbrev pub SaysModule : TextForm → List ℕ → Module → Type 0
SaysModule form text m = (ir : IrTokens) × ReadsAs text ir × (module_at form ir ≡ Ok m)

-- The first fault of the text is this one.
abbrev pub FirstFault : TextForm → List ℕ → ReadFault → Type 0
FirstFault form text fault = (ir : IrTokens) × (f : TextFault) × ReadsAs text ir × (module_at form ir ≡ Err f) × (fault ≡ shown text ir f)

-- The text has this first fault, or memory ran out.
abbrev pub ModuleFails : TextForm → List ℕ → ReadFault → Type 0
ModuleFails form text reads.Memory = Unit {0}
ModuleFails form text fault = FirstFault form text fault
