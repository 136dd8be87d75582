-- The functions of a module that is read are lawful.
use Rattle.std.proofs.Common.{◌≡◌, ℕ, ◌+◌, ◌<◌, Bool, true, false, not, ◌&&◌, ◌||◌, List, [], ◌∷◌, length, map, refl, sym, ◌∙◌, subst}
use Rattle.std.specs.Prelude.{◌^◌, flat_map, if◌then◌else◌}
use Rattle.std.specs.List.{list_all}
use Rattle.std.proofs.lemmas.Bool.{and_parts, and_from}
use Rattle.std.proofs.lemmas.List.Folds.{list_all-append}
use Rattle.lx_ir.specs.declared.module.Function.{Function}
use Rattle.lx_ir.specs.declared.module.Module.{Module}
use Rattle.lx_ir.specs.Operands.{is_image_line}
use Rattle.lx_ir.specs.Lookup.{instrs_of, all_instrs, is_defined}
use Rattle.lx_ir.specs.Lawful.{is_name, is_lawful_body, is_lawful_import, is_lawful_function}
use Rattle.lx_ir_terms.specs.Context.{Context}
use Rattle.lx_ir_calls.specs.declared.intrinsics.TextForm.{TextForm}
use Rattle.lx_ir_calls.specs.declared.intrinsics.TextForm.TheVariants.{Program}
use Rattle.lx_ir_tables.specs.Numbering.{table_of}
use Rattle.lx_ir_read.specs.Again.{registers_in, with_registers}
use Rattle.lx_ir_read.specs.Grammar.{IsModule}
use Rattle.lx_ir_lawful.specs.Tells.{Tells}
use Rattle.lx_ir_lawful.specs.Said.{Names}
use Rattle.lx_ir_lawful.specs.NamedThings.{AreOnce}
use Rattle.lx_ir_lawful.proofs.NamesOnce.{names_once}
use Rattle.lx_ir_lawful.proofs.TokenNames.{tokens_are_named}
use Rattle.lx_ir_lawful.proofs.FewNames.{names_are_few}
use Rattle.lx_ir_lawful.proofs.Sizes.{body_all}
use Rattle.lx_ir_lawful.specs.OnceLaws.{is_first_or_defined, has_plain_name}
use Rattle.lx_ir_lawful.proofs.SymbolsOnce.{symbols_are_once}
use Rattle.lx_ir_lawful.proofs.Imports.{imports_are_first}
use Rattle.lx_ir_lawful.specs.FunctionLaws.{last_context}
use Rattle.lx_ir_lawful.proofs.ImageLines.{form_no_line}
use Rattle.lx_ir_lawful.proofs.ReadBodies.{body_of}
use Rattle.lx_ir_lawful.proofs.FunctionWalk.{functions_pass}

-- Functions are lawful.

-- an import, or a function with a lawful body
abbrev has_body : Module → Function → Bool
has_body m f = not (is_defined f) || is_lawful_body m f

defined_or_import : (defined body imported : Bool) → (not defined || body) ≡ true → (defined || imported) ≡ true → (if defined then body else imported) ≡ true
defined_or_import true body imported h g = h
defined_or_import false body imported h g = g

all_lawful : (m : Module) (fs : List Function) → list_all is_name (map (λ f. f.name) fs) ≡ true → list_all (has_body m) fs ≡ true → list_all is_first_or_defined fs ≡ true → list_all has_plain_name fs ≡ true → list_all (is_lawful_function m) fs ≡ true
all_lawful m [] named bodies imports plain = refl
all_lawful m (f ∷ fs) named bodies imports plain =
    let name = and_parts (is_name f.name) (list_all is_name (map (λ f. f.name) fs)) named in
    let body = and_parts (has_body m f) (list_all (has_body m) fs) bodies in
    let first = and_parts (is_first_or_defined f) (list_all is_first_or_defined fs) imports in
    let own = and_parts (has_plain_name f) (list_all has_plain_name fs) plain in
    and_from (is_lawful_function m f) (list_all (is_lawful_function m) fs)
    (and_from (is_name f.name && has_plain_name f) (if is_defined f then is_lawful_body m f else is_lawful_import f) (and_from (is_name f.name) (has_plain_name f) name.0 own.0)
    (defined_or_import (is_defined f) (is_lawful_body m f) (is_lawful_import f) body.0 first.0))
    (all_lawful m fs name.1 body.1 first.1 own.1)

pub functions_are_lawful : (form : TextForm) (text : List ℕ) (m : Module) (is : IsModule form text m) → Tells m (last_context form text m is) → Names form m (last_context form text m is) → length is.ir.toks + 1 < 2 ^ 32 → list_all (is_lawful_function m) m.functions ≡ true
functions_are_lawful form text m is tells known few =
    let full : Context = last_context form text m is in
    let once : AreOnce is.ir.names = subst AreOnce (sym is.reads.names) (names_once text is.ir.places) in
    let counted = names_are_few text is.ir is.reads in
    let bodies : list_all (has_body m) m.functions ≡ true =
    functions_pass form text m is (has_body m) (λ name ret params line. refl)
    (λ t name ret params blocks line said.
    body_of m full form is.ir.places is.ir.toks tells known once (tokens_are_named text is.ir is.reads) counted few t said.left line name ret params blocks said.ts said.us said.front said.back said.defined said.plain said.is said.there said.first said.here) in
    let names = and_parts (list_all is_name (map (λ g. g.name) m.globals)) (list_all is_name (map (λ f. f.name) m.functions))
    (sym (list_all-append is_name (map (λ g. g.name) m.globals) (map (λ f. f.name) m.functions)) ∙ (symbols_are_once form text m is).names) in
    let imports = imports_are_first form text m is in
    all_lawful m m.functions names.1 bodies imports.imports imports.plain

-- Programs have no lines of images.

all_of_all : {X Y : Type 0} (p : Y → Bool) (g : X → List Y) (xs : List X) → list_all (λ x. list_all p (g x)) xs ≡ true → list_all p (flat_map g xs) ≡ true
all_of_all p g [] h = refl
all_of_all p g (x ∷ xs) h =
    let both = and_parts (list_all p (g x)) (list_all (λ y. list_all p (g y)) xs) h in
    list_all-append p (g x) (flat_map g xs) ∙ and_from (list_all p (g x)) (list_all p (flat_map g xs)) both.0 (all_of_all p g xs both.1)

-- no instruction of the function is such a line
abbrev has_no_line : Function → Bool
has_no_line f = list_all (λ i. not (is_image_line i.op)) (instrs_of f)

pub programs_have_no_lines : (text : List ℕ) (m : Module) → IsModule Program text m → list_all (λ i. not (is_image_line i.op)) (all_instrs m) ≡ true
programs_have_no_lines text m is =
    let full : Context = last_context Program text m is in
    all_of_all (λ i. not (is_image_line i.op)) instrs_of m.functions
    (functions_pass Program text m is has_no_line (λ name ret params line. refl)
    (λ t name ret params blocks line said.
    all_of_all (λ i. not (is_image_line i.op)) (λ b. b.instrs) blocks
    (body_all (with_registers full (table_of (registers_in full.names t))) Program is.ir.places (λ o. not (is_image_line o)) (form_no_line (with_registers full (table_of (registers_in full.names t)))) said.is.0.numbered said.is.0.registers blocks said.is.2 said.us said.is.4)))
