-- The imports of a module that is read stand first, and keep no names; no function has the name of a block write.
use Rattle.std.proofs.Common.{◌≡◌, ℕ, Bool, true, false, not, ◌&&◌, ◌||◌, Option, Some, None, is_some, List, [], ◌∷◌, ◌++◌, length, map, bytes_eq, nat_eq, refl, ap, ◌∙◌, subst}
use Rattle.std.specs.Prelude.{if◌then◌else◌, codes}
use Rattle.std.specs.List.{list_all}
use Rattle.std.proofs.lemmas.Bool.{and_parts, and_from}
use Rattle.std.proofs.lemmas.List.Folds.{list_all-append}
use Rattle.lx_words.specs.declared.word.Width.TheVariants.{W32, W64}
use Rattle.lx_words.specs.declared.token.Token.{Token}
use Rattle.lx_ir.specs.declared.types.Scalar.{Scalar}
use Rattle.lx_ir.specs.declared.module.Function.{Function}
use Rattle.lx_ir.specs.declared.module.Module.{Module}
use Rattle.lx_ir.specs.Lookup.{is_defined}
use Rattle.lx_ir.specs.Lawful.{is_block_write as is_written, is_lawful_import, imports_first}
use Rattle.lx_ir_tokens.specs.declared.token.Tok.{Tok}
use Rattle.lx_ir.proofs.ImportsFirst.{defined_first}
use Rattle.lx_ir_terms.specs.Context.{Context, bytes_of}
use Rattle.lx_ir_calls.specs.declared.writes.BlockWrite.{BlockWrite}
use Rattle.lx_ir_calls.specs.declared.writes.BlockWrite.TheVariants as writes
use Rattle.lx_ir_calls.specs.declared.intrinsics.TextForm.{TextForm}
use Rattle.lx_ir_calls.specs.Writes.{block_write_named}
use Rattle.lx_ir_statements.specs.declared.form.Statement.{Statement}
use Rattle.lx_ir_statements.specs.declared.form.Statement.TheVariants as statements
use Rattle.lx_ir_statements.specs.Defined.{is_block_write}
use Rattle.lx_ir_statements.specs.Grammar.{IsStatement}
use Rattle.lx_ir_tables.specs.Numbering.{Numbering, table_of}
use Rattle.lx_ir_read.specs.declared.first.Found.{Found}
use Rattle.lx_ir_read.specs.declared.draft.Draft.{Draft}
use Rattle.lx_ir_read.specs.Again.{no_draft, registers_in, with_registers, with_defined, with_declared, nameless, import_of, local_names, kept}
use Rattle.lx_ir_read.specs.Fault.{line_shown}
use Rattle.lx_ir_read.specs.Reading.{tables_of, full_context}
use Rattle.lx_ir_read.specs.Grammar.{AddAll, IsModule}
use Rattle.lx_ir_lawful.specs.OnceLaws.{HasLawfulImports, is_first_or_defined, has_plain_name}
use Rattle.lx_ir_lawful.proofs.FunctionWalk.{one_more}

-- Names of block writes.

abbrev six : Bool → Bool → Bool → Bool → Bool → Bool → Option BlockWrite
six a b c d e f =
    if a then Some (writes.Copy false W32)
    else if b then Some (writes.Copy false W64)
    else if c then Some (writes.Copy true W32)
    else if d then Some (writes.Copy true W64)
    else if e then Some (writes.Fill W32)
    else if f then Some (writes.Fill W64)
    else None

none_of_six : (a b c d e f : Bool) → is_some (six a b c d e f) ≡ false → (a || (b || (c || (d || (e || (f || false)))))) ≡ false
none_of_six true b c d e f h = absurd (cc h)
none_of_six false true c d e f h = absurd (cc h)
none_of_six false false true d e f h = absurd (cc h)
none_of_six false false false true e f h = absurd (cc h)
none_of_six false false false false true f h = absurd (cc h)
none_of_six false false false false false true h = absurd (cc h)
none_of_six false false false false false false h = refl

no_write : (name : List ℕ) → is_some (block_write_named name) ≡ false → is_written name ≡ false
no_write name h =
    none_of_six (bytes_eq name (codes "llvm.memcpy.p0.p0.i32")) (bytes_eq name (codes "llvm.memcpy.p0.p0.i64")) (bytes_eq name (codes "llvm.memmove.p0.p0.i32"))
    (bytes_eq name (codes "llvm.memmove.p0.p0.i64")) (bytes_eq name (codes "llvm.memset.p0.i32")) (bytes_eq name (codes "llvm.memset.p0.i64")) h

nameless_all : (ps : List Scalar) → list_all (λ p. nat_eq (length p.name) 0) (map nameless ps) ≡ true
nameless_all [] = refl
nameless_all (p ∷ ps) = and_from true (list_all (λ q. nat_eq (length q.name) 0) (map nameless ps)) refl (nameless_all ps)

-- Imports and functions apart.

abbrev is_import : Function → Bool
is_import f = not (is_defined f) && is_lawful_import f

import_is : (name : List ℕ) (ret : Option Scalar) (params : List Scalar) (line : ℕ) → is_import (import_of name ret params line) ≡ true
import_is name ret params line =
    and_from true (is_lawful_import (import_of name ret params line)) refl
    (and_from (list_all (λ p. nat_eq (length p.name) 0) (map nameless params)) true (nameless_all params) refl)

record Apart (d : Draft) : Type 0 where
  imports : list_all is_import d.imports ≡ true
  functions : list_all is_defined d.functions ≡ true
  plain_imports : list_all has_plain_name d.imports ≡ true
  plain : list_all has_plain_name d.functions ≡ true

import_apart : (b : Bool) (d : Draft) (f : Function) → is_import f ≡ true → (b ≡ false → has_plain_name f ≡ true) → Apart d → Apart (if b then d else with_declared d f)
import_apart true d f i h g = g
import_apart false d f i h g = record {
  imports = one_more is_import d.imports f g.imports i;
  functions = g.functions;
  plain_imports = one_more has_plain_name d.imports f g.plain_imports (h refl);
  plain = g.plain;
}

same_functions : (d e : Draft) → d.imports ≡ e.imports → d.functions ≡ e.functions → Apart d → Apart e
same_functions d e i f g = record {
  imports = subst (λ v. list_all is_import v ≡ true) i g.imports;
  functions = subst (λ v. list_all is_defined v ≡ true) f g.functions;
  plain_imports = subst (λ v. list_all has_plain_name v ≡ true) i g.plain_imports;
  plain = subst (λ v. list_all has_plain_name v ≡ true) f g.plain;
}

plain_name : (full : Context) (name : ℕ) → is_block_write full name ≡ false → not (is_written (bytes_of full name)) ≡ true
plain_name full name h = ap not (no_write (bytes_of full name) h)

kept_apart : (full : Context) (form : TextForm) (places : List Token) (d : Draft) (s : Statement) (registers : Numbering) (line : ℕ) (front back : List Tok) → IsStatement (with_registers full (table_of registers)) form places d.defined s front back → Apart d → Apart (kept full registers line (with_defined full d s) s)
kept_apart full form places d (statements.Type name ty) registers line front back is g = same_functions d _ refl refl g
kept_apart full form places d (statements.Global name constant ty init) registers line front back is g = same_functions d _ refl refl g
kept_apart full form places d (statements.Import name ret params) registers line front back is g =
    import_apart (is_block_write full name) (with_defined full d (statements.Import name ret params)) (import_of (bytes_of full name) ret params line) (import_is (bytes_of full name) ret params line) (plain_name full name)
    (same_functions d (with_defined full d (statements.Import name ret params)) refl refl g)
kept_apart full form places d (statements.Function name ret params blocks) registers line front back (fresh, plain, is) g =
    let f : Function = record { name = bytes_of full name; params = params; locals = local_names full.names (length params) registers; ret = ret; blocks = Some blocks; line = line } in
    record {
      imports = g.imports;
      functions = one_more is_defined d.functions f g.functions refl;
      plain_imports = g.plain_imports;
      plain = one_more has_plain_name d.functions f g.plain (plain_name full name plain);
    }

all_apart : (form : TextForm) (places : List Token) (full : Context) (toks : List Tok) (fs : List Found) (d e : Draft) → AddAll full form places toks d fs e → Apart d → Apart e
all_apart form places full toks [] d e says g = subst Apart says g
all_apart form places full toks (f ∷ fs) d e (m, (s, front, back, is, w, k), rest) g =
    all_apart form places full toks fs m e rest (subst Apart k (kept_apart full form places d s (registers_in full.names f.statement) (line_shown places f.left) front back is g))

-- The functions of the module.

first_imports : (is fs : List Function) → list_all is_import is ≡ true → list_all is_defined fs ≡ true → imports_first (is ++ fs) ≡ true
first_imports [] fs h g = defined_first fs g
first_imports (i ∷ is) fs h g =
    let both = and_parts (is_import i) (list_all is_import is) h in
    let one = and_parts (not (is_defined i)) (is_lawful_import i) both.0 in
    and_from (not (is_defined i) || list_all is_defined (is ++ fs)) (imports_first (is ++ fs)) (ap (λ b. b || list_all is_defined (is ++ fs)) one.0) (first_imports is fs both.1 g)

defined_or_lawful : (fs : List Function) → list_all is_defined fs ≡ true → list_all is_first_or_defined fs ≡ true
defined_or_lawful [] h = refl
defined_or_lawful (f ∷ fs) h =
    let both = and_parts (is_defined f) (list_all is_defined fs) h in
    and_from (is_first_or_defined f) (list_all is_first_or_defined fs) (ap (λ b. b || is_lawful_import f) both.0) (defined_or_lawful fs both.1)

all_or_lawful : (is fs : List Function) → list_all is_import is ≡ true → list_all is_defined fs ≡ true → list_all is_first_or_defined (is ++ fs) ≡ true
all_or_lawful [] fs h g = defined_or_lawful fs g
all_or_lawful (i ∷ is) fs h g =
    let both = and_parts (is_import i) (list_all is_import is) h in
    let one = and_parts (not (is_defined i)) (is_lawful_import i) both.0 in
    and_from (is_first_or_defined i) (list_all is_first_or_defined (is ++ fs)) (or_right (is_defined i) (is_lawful_import i) one.1) (all_or_lawful is fs both.1 g)
  where
    or_right : (a b : Bool) → b ≡ true → (a || b) ≡ true
    or_right true b e = refl
    or_right false b e = e

pub imports_are_first : (form : TextForm) (text : List ℕ) (m : Module) → IsModule form text m → HasLawfulImports m
imports_are_first form text m is =
    let g = all_apart form is.ir.places (full_context is.ir (tables_of form is.ir is.statements) true) is.ir.toks is.statements no_draft is.draft is.says (record { imports = refl; functions = refl; plain_imports = refl; plain = refl }) in
    subst HasLawfulImports is.is (record {
      first = first_imports is.draft.imports is.draft.functions g.imports g.functions;
      imports = all_or_lawful is.draft.imports is.draft.functions g.imports g.functions;
      plain = list_all-append has_plain_name is.draft.imports is.draft.functions ∙ and_from (list_all has_plain_name is.draft.imports) (list_all has_plain_name is.draft.functions) g.plain_imports g.plain;
    })
