-- What is kept of statements.
use Rattle.std.proofs.Common.{◌≡◌, ℕ, Bool, true, false, Option, Some, None, List, [], ◌∷◌, length, Result, refl, sym, ap, ◌∙◌}
use Rattle.std.specs.Prelude.{fold, if◌then◌else◌}
use Rattle.lx_ir_tokens.specs.declared.token.Tok.{Tok}
use Rattle.lx_ir_tokens.specs.declared.read.IrTokens.{IrTokens}
use Rattle.lx_ir.specs.declared.types.Scalar.{Scalar}
use Rattle.lx_ir.specs.declared.types.NamedType.{NamedType}
use Rattle.lx_ir.specs.declared.module.Symbol.{Symbol}
use Rattle.lx_ir.specs.declared.module.Parameter.{Parameter}
use Rattle.lx_ir.specs.declared.module.Block.{Block}
use Rattle.lx_ir.specs.declared.module.Value.{Value}
use Rattle.lx_ir.specs.declared.module.Value.TheVariants as values
use Rattle.lx_ir.specs.declared.module.Function.{Function}
use Rattle.lx_ir.specs.declared.module.Module.{Module}
use Rattle.lx_ir.specs.declared.instr.Instr.{Instr}
use Rattle.lx_ir.specs.declared.instr.Argument.{Argument}
use Rattle.lx_ir.specs.Operands.{given_by, operands_where}
use Rattle.lx_ir_offsets.specs.Shapes.{Shape, named_shapes}
use Rattle.lx_ir_terms.specs.Context.{Context, bytes_of}
use Rattle.lx_ir_calls.specs.declared.intrinsics.TextForm.{TextForm}
use Rattle.lx_ir_statements.specs.declared.form.Statement.{Statement}
use Rattle.lx_ir_statements.specs.declared.form.Statement.TheVariants as statements
use Rattle.lx_ir_tokens.specs.Names.{number_of}
use Rattle.lx_ir_tables.specs.Numbering.{Numbering, numbering, with_thing, is_new, table_of}
use Rattle.lx_ir_tables.specs.Registers.{with_given, with_given_by, with_all_given, with_read, with_operands, with_read_by, with_all_read, with_parameters, registers_of}
use Rattle.lx_ir_read.specs.declared.first.Found.{Found}
use Rattle.lx_ir_read.specs.declared.first.FirstReading.{FirstReading}
use Rattle.lx_ir_read.specs.declared.fault.TextFault.{TextFault}
use Rattle.lx_ir_read.specs.declared.module_error.ModuleError.{ModuleError}
use Rattle.lx_ir_read.specs.declared.module_error.ModuleError.TheVariants as errors
use Rattle.lx_ir_read.specs.declared.draft.Draft.{Draft}
use Rattle.lx_ir_read.specs.declared.reading.Tables.{Tables}
use Rattle.lx_ir_read.specs.declared.reading.Types.{Types}
use Rattle.lx_ir_read.specs.First.{first_reading}
use Rattle.lx_ir_read.specs.Tables.{types_of, naming_types, named_types}
use Rattle.lx_ir_read.specs.Again.{registers_in, local_names, with_body, kept}
use Rattle.lx_ir_read.specs.Reading.{first_early, left_at, first_of, early_context, front_fault, types_in, symbols_in, tables_of, module_found, unless_faulty, module_by, module_at}
use Rattle.lx_ir_read.specs.Says.{FailsIn}

-- Functions.

abbrev made : Option Scalar → List Parameter → List Block → ℕ → List ℕ → List (List ℕ) → Function
made ret params blocks line name locals = record { name = name; params = params; locals = locals; ret = ret; blocks = Some blocks; line = line }

pub function_kept : (context : Context) (registers : Numbering) (line : ℕ) (d : Draft) (name : ℕ) (ret : Option Scalar) (params : List Parameter) (blocks : List Block) (bytes text : List ℕ) (names : List (List ℕ)) (n : ℕ) (locals : List (List ℕ)) (new : Draft)
    → names ≡ context.names → n ≡ length params → bytes ≡ bytes_of context name → text ≡ bytes → locals ≡ local_names names n registers
    → new ≡ with_body d (made ret params blocks line text locals) → new ≡ kept context registers line d (statements.Function name ret params blocks)
function_kept context registers line d name ret params blocks bytes text names n locals new known count said same listed is =
    is
    ∙ ap (λ t. with_body d (made ret params blocks line t locals)) (same ∙ said)
    ∙ ap (λ ls. with_body d (made ret params blocks line (bytes_of context name) ls)) (listed ∙ ap (λ ns. local_names ns n registers) known ∙ ap (λ m. local_names context.names m registers) count)

-- The table of names stays.

fold_keeps : {A : Type 0} (f : Numbering → A → Numbering) → ((t : Numbering) (x : A) → (f t x).count ≡ t.count) → (xs : List A) (t : Numbering) → (fold f t xs).count ≡ t.count
fold_keeps f h [] t = refl
fold_keeps f h (x ∷ xs) t = fold_keeps f h xs (f t x) ∙ h t x

given_keeps : (t : Numbering) (n : Option ℕ) → (with_given t n).count ≡ t.count
given_keeps t None = refl
given_keeps t (Some n) = refl

read_by : (b : Bool) (t : Numbering) (n : ℕ) → (if b then with_thing t (Some n) else t).count ≡ t.count
read_by true t n = refl
read_by false t n = refl

read_keeps : (t : Numbering) (v : Value) → (with_read t v).count ≡ t.count
read_keeps t (values.Register n) = read_by (is_new t n) t n
read_keeps t (values.Constant c) = refl

reads_keep : (lines : Bool) (blocks : List Block) (t : Numbering) → (with_all_read lines t blocks).count ≡ t.count
reads_keep lines blocks t =
    fold_keeps (λ s (b : Block). with_read_by lines s b.instrs) (λ s b. fold_keeps (λ r (i : Instr). with_operands r (operands_where lines i.op)) (λ r i. fold_keeps (λ q (a : Argument). with_read q a.value) (λ q a. read_keeps q a.value) (operands_where lines i.op) r) b.instrs s) blocks t

registers_keep : (names : List (List ℕ)) (t : Numbering) (params : List Parameter) (blocks : List Block) → (registers_of names t params blocks).count ≡ t.count
registers_keep names t params blocks =
    reads_keep true blocks (with_all_read false (with_all_given (with_parameters names t params) blocks) blocks)
    ∙ reads_keep false blocks (with_all_given (with_parameters names t params) blocks)
    ∙ fold_keeps (λ s (b : Block). with_given_by s b.instrs) (λ s b. fold_keeps (λ r (i : Instr). with_given r (given_by i.op)) (λ r i. given_keeps r (given_by i.op)) b.instrs s) blocks (with_parameters names t params)
    ∙ fold_keeps (λ s (p : Parameter). with_thing s (number_of names p.name)) (λ s p. refl) params t

registers_count : (names : List (List ℕ)) (s : Statement) → (registers_in names s).count ≡ length names
registers_count names (statements.Function name ret params blocks) = registers_keep names (numbering (length names) []) params blocks
registers_count names (statements.Type name ty) = refl
registers_count names (statements.Global name constant ty init) = refl
registers_count names (statements.Import name ret params) = refl

-- the table is as it was before the registers of a statement
pub cleared : (names known : List (List ℕ)) (s : Statement) (registers new : Numbering) → registers ≡ registers_in names s → new ≡ numbering registers.count [] → names ≡ known → new ≡ numbering (length known) []
cleared names known s registers new are is same =
    is ∙ ap (λ (t : Numbering). numbering t.count []) are ∙ ap (λ n. numbering n []) (registers_count names s) ∙ ap (λ (ns : List (List ℕ)). numbering (length ns) []) same

-- Tables.

abbrev types_with : List (Option ℕ) → List NamedType → Types
types_with numbers named = record { numbers = numbers; named = named }

pub types_are : (form : TextForm) (ir : IrTokens) (found : List Found) (count : ℕ) (types : Numbering) (numbers : List (Option ℕ)) (named : List NamedType)
    → count ≡ length ir.names → types ≡ types_of count found → numbers ≡ table_of types → named ≡ named_types form ir.names ir.places ir.toks found
    → types_with numbers named ≡ types_in form ir found
types_are form ir found count types numbers named is numbered table read =
    let t : numbers ≡ table_of (types_of (length ir.names) found) = table ∙ ap table_of (numbered ∙ ap (λ n. types_of n found) is) in
    (λ j. types_with (t j) (read j))

abbrev tables_with : Types → List (Option Symbol) → List Shape → Tables
tables_with t symbols shapes = record { types = t.numbers; symbols = symbols; named = t.named; shapes = shapes }

pub tables_are : (form : TextForm) (ir : IrTokens) (found : List Found) (types : Types) (named : List NamedType) (symbols : List (Option Symbol)) (shapes : List Shape)
    → types ≡ types_in form ir found → named ≡ types.named → shapes ≡ named_shapes named → symbols ≡ symbols_in ir found
    → tables_with types symbols shapes ≡ tables_of form ir found
tables_are form ir found types named symbols shapes is same shaped listed =
    let k : shapes ≡ named_shapes (types_in form ir found).named = shaped ∙ ap named_shapes (same ∙ ap (λ (t : Types). t.named) is) in
    (λ j. tables_with (is j) (listed j) (k j))

-- The first fault, and the module.

pub front_is : (form : TextForm) (ir : IrTokens) (r : FirstReading) (found : List Found) (count : ℕ) (numbers : Numbering) (table : List (Option ℕ)) (named shown : List NamedType) (context : Context) (stop : ℕ) (toks : List Tok) (early : Option ℕ) (out : Option TextFault)
    → found ≡ r.statements → count ≡ length ir.names → numbers ≡ types_of count found → table ≡ table_of numbers
    → named ≡ named_types form ir.names ir.places ir.toks found → shown ≡ named → context ≡ naming_types ir.names table shown
    → stop ≡ left_at r.fault → toks ≡ ir.toks → early ≡ first_early form context stop toks → out ≡ first_of early r.fault ir.stop
    → out ≡ front_fault form ir r
front_is form ir r found count numbers table named shown context stop toks early out listed is numbered tabled read same knows stops all first answered =
    let k : context ≡ early_context form ir r.statements =
    knows
    ∙ ap (λ t. naming_types ir.names t shown) (tabled ∙ ap table_of (numbered ∙ ap (λ n. types_of n found) is))
    ∙ ap (λ s. naming_types ir.names (table_of (types_of (length ir.names) found)) s) (same ∙ read)
    ∙ ap (early_context form ir) listed in
    answered
    ∙ ap (λ e. first_of e r.fault ir.stop) (first ∙ ap (λ ts. first_early form context stop ts) all ∙ ap (λ n. first_early form context n ir.toks) stops ∙ ap (λ c. first_early form c (left_at r.fault) ir.toks) k)

pub module_is : (form : TextForm) (ir : IrTokens) (r : FirstReading) (found : List Found) (f : Option TextFault) → found ≡ r.statements → r ≡ first_reading form ir.names ir.places ir.toks → f ≡ front_fault form ir r → unless_faulty f (module_found form ir found) ≡ module_at form ir
module_is form ir r found f listed read fault =
    ap (λ fs. unless_faulty f (module_found form ir fs)) listed ∙ ap (λ g. unless_faulty g (module_found form ir r.statements)) fault ∙ ap (module_by form ir) read

pub module_fails : (e : ModuleError) (a b : Result Module TextFault) → a ≡ b → FailsIn e a → FailsIn e b
module_fails errors.Memory a b same h = tt
module_fails (errors.Fault f) a b same h = sym same ∙ h
