-- What the statements of a text add to the names of a module, in order.
use Rattle.std.proofs.Common.{◌≡◌, ℕ, Bool, true, false, ◌&&◌, List, [], ◌∷◌, ◌++◌, length, map, fold, Some, refl, sym, ap, ◌∙◌, subst, append_assoc}
use Rattle.std.specs.Prelude.{if◌then◌else◌}
use Rattle.std.specs.List.{list_all, AllByRecursion}
use Rattle.std.proofs.lemmas.List.{map-append}
use Rattle.std.proofs.lemmas.List.Folds.{list_all-append}
use Rattle.lx_words.specs.declared.token.Token.{Token}
use Rattle.lx_ir.specs.declared.module.GlobalVar.{GlobalVar}
use Rattle.lx_ir.specs.declared.module.Function.{Function}
use Rattle.lx_ir_tokens.specs.declared.token.Tok.{Tok}
use Rattle.lx_ir_terms.specs.Context.{Context, bytes_of}
use Rattle.lx_ir_calls.specs.declared.intrinsics.TextForm.{TextForm}
use Rattle.lx_ir_statements.specs.declared.form.Statement.{Statement}
use Rattle.lx_ir_statements.specs.declared.form.Statement.TheVariants as statements
use Rattle.lx_ir_statements.specs.declared.defined.Defined.{Defined}
use Rattle.lx_ir_statements.specs.Defined.{is_block_write}
use Rattle.lx_ir_tables.specs.Numbering.{Numbering, table_of}
use Rattle.lx_ir_read.specs.declared.first.Found.{Found}
use Rattle.lx_ir_read.specs.declared.draft.Draft.{Draft}
use Rattle.lx_ir_read.specs.First.{unknown_context}
use Rattle.lx_ir_read.specs.Tables.{tokens_left}
use Rattle.lx_ir_read.specs.Again.{registers_in, with_registers, with_defined, with_declared, import_of, local_names, kept}
use Rattle.lx_ir_read.specs.Fault.{line_shown}
use Rattle.lx_ir_read.specs.Grammar.{AreStatements, AddAll}
use Rattle.lx_ir_lawful.proofs.Sizes.{left_there}
use Rattle.lx_ir_lawful.proofs.SymbolThings.{Thing, Other, Global, Import, Function as AFunction, thing_of, thing_at, is_global, told_by_tokens, OfThing, AllGlobals, holds_at}

-- the names of a module's globals, imports and functions
pub record Parts : Type 0 where
  pub globals : List (List ℕ)
  pub imports : List (List ℕ)
  pub functions : List (List ℕ)

abbrev pub parts : List (List ℕ) → List (List ℕ) → List (List ℕ) → Parts
parts gs is fs = record { globals = gs; imports = is; functions = fs }

abbrev names_in : List Function → List (List ℕ)
names_in fs = map (λ f. f.name) fs

abbrev pub parts_of : Draft → Parts
parts_of d = parts (map (λ g. g.name) d.globals) (names_in d.imports) (names_in d.functions)

-- the names with that of one thing more. The import of a block write is none
abbrev pub with_part : Context → Parts → Thing → Parts
with_part c p Other = p
with_part c p (Global n) = parts (p.globals ++ bytes_of c n ∷ []) p.imports p.functions
with_part c p (Import n) = if is_block_write c n then p else parts p.globals (p.imports ++ bytes_of c n ∷ []) p.functions
with_part c p (AFunction n) = parts p.globals p.imports (p.functions ++ bytes_of c n ∷ [])

import_kept : (b : Bool) (d : Draft) (f : Function) → parts_of (if b then d else with_declared d f) ≡ (if b then parts_of d else parts (map (λ g. g.name) d.globals) (names_in d.imports ++ f.name ∷ []) (names_in d.functions))
import_kept true d f = refl
import_kept false d f = ap (λ is. parts (map (λ g. g.name) d.globals) is (names_in d.functions)) (map-append (λ (x : Function). x.name) d.imports (f ∷ []))

-- what a statement adds to a module
kept_parts : (c : Context) (registers : Numbering) (line : ℕ) (d : Draft) (s : Statement) → parts_of (kept c registers line (with_defined c d s) s) ≡ with_part c (parts_of d) (thing_of s)
kept_parts c registers line d (statements.Type name ty) = refl
kept_parts c registers line d (statements.Global name constant ty init) =
    let g : GlobalVar = record { name = bytes_of c name; constant = constant; ty = ty; init = init; line = line } in
    ap (λ gs. parts gs (names_in d.imports) (names_in d.functions)) (map-append (λ (x : GlobalVar). x.name) d.globals (g ∷ []))
kept_parts c registers line d (statements.Import name ret params) =
    import_kept (is_block_write c name) (with_defined c d (statements.Import name ret params)) (import_of (bytes_of c name) ret params line)
kept_parts c registers line d (statements.Function name ret params blocks) =
    let f : Function = record { name = bytes_of c name; params = params; locals = local_names c.names (length params) registers; ret = ret; blocks = Some blocks; line = line } in
    ap (λ fs. parts (map (λ g. g.name) d.globals) (names_in d.imports) fs) (map-append (λ (x : Function). x.name) d.functions (f ∷ []))

behind : (Q : Tok → Type 0) (f b : List Tok) → AllByRecursion Q (f ++ b) → AllByRecursion Q b
behind Q [] b h = h
behind Q (t ∷ f) b h = behind Q f b h.1

abbrev pub things_of : List Found → List Thing
things_of fs = map (λ f. thing_of f.statement) fs

-- the names that statements add to those of an empty module
abbrev pub all_parts : Context → List Found → Parts
all_parts c fs = fold (with_part c) (parts [] [] []) (things_of fs)

-- Each statement of the first reading is one of the last that defines the same thing.
module _ (form : TextForm) (places : List Token) (c : Context) (toks : List Tok) (P : ℕ → Type 0) (all : AllGlobals P toks) where
  abbrev HasWalked : List Found → Draft → Draft → Type 0
  HasWalked fs d e = (parts_of e ≡ fold (with_part c) (parts_of d) (things_of fs)) × AllByRecursion (OfThing P) (things_of fs)

  pub walked : (fs : List Found) (defined : Defined) (before ts : List Tok) (d e : Draft) → AreStatements (unknown_context c.names) form places defined fs ts → toks ≡ before ++ ts → AddAll c form places toks d fs e → HasWalked fs d e
  walked [] defined before ts d e falls place says = (ap parts_of (sym says), tt)
  walked (f ∷ fs) defined before ts d e (front, back, left, is, more, w) place (m, (s, front2, back2, is2, w2, k), rest) =
      let registers : Numbering = registers_in c.names f.statement in
      let there : tokens_left f.left toks ≡ ts = left_there before ts toks f.left left place in
      let one : thing_at ts ≡ thing_of f.statement = ap thing_at w ∙ told_by_tokens (unknown_context c.names) form places defined f.statement front back back is in
      let two : thing_at ts ≡ thing_of s = ap thing_at (sym there ∙ w2) ∙ told_by_tokens (with_registers c (table_of registers)) form places d.defined s front2 back2 back2 is2 in
      let step : parts_of m ≡ with_part c (parts_of d) (thing_of f.statement) =
      ap parts_of (sym k) ∙ kept_parts c registers (line_shown places f.left) d s ∙ ap (with_part c (parts_of d)) (sym two ∙ one) in
      let good : OfThing P (thing_of f.statement) = subst (OfThing P) one (holds_at P ts (behind (λ t. is_global t.kind ≡ true → P t.name) before ts (subst (AllGlobals P) place all))) in
      let next : toks ≡ (before ++ front) ++ back = place ∙ ap (λ v. before ++ v) w ∙ sym (append_assoc before front back) in
      let r = walked fs _ (before ++ front) back m e more next rest in
      (r.0 ∙ ap (λ p. fold (with_part c) p (things_of fs)) step, (good, r.1))

-- What holds of each name that is added holds of all.

module _ (c : Context) (q : List ℕ → Bool) where
  pub record Each (p : Parts) : Type 0 where
    pub globals : list_all q p.globals ≡ true
    pub imports : list_all q p.imports ≡ true
    pub functions : list_all q p.functions ≡ true

  both_true : (a b : Bool) → a ≡ true → b ≡ true → (a && b) ≡ true
  both_true a b h g = rw (h, g) refl

  one_more : (xs : List (List ℕ)) (x : List ℕ) → list_all q xs ≡ true → q x ≡ true → list_all q (xs ++ x ∷ []) ≡ true
  one_more xs x h g = list_all-append q xs (x ∷ []) ∙ both_true (list_all q xs) (q x && true) h (both_true (q x) true g refl)

  each_import : (b : Bool) (p : Parts) (x : List ℕ) → q x ≡ true → Each p → Each (if b then p else parts p.globals (p.imports ++ x ∷ []) p.functions)
  each_import true p x h e = e
  each_import false p x h e = record { globals = e.globals; imports = one_more p.imports x e.imports h; functions = e.functions }

  each_step : (p : Parts) (x : Thing) → OfThing (λ n. q (bytes_of c n) ≡ true) x → Each p → Each (with_part c p x)
  each_step p Other h e = e
  each_step p (Global n) h e = record { globals = one_more p.globals (bytes_of c n) e.globals h; imports = e.imports; functions = e.functions }
  each_step p (Import n) h e = each_import (is_block_write c n) p (bytes_of c n) h e
  each_step p (AFunction n) h e = record { globals = e.globals; imports = e.imports; functions = one_more p.functions (bytes_of c n) e.functions h }

  pub each_walked : (xs : List Thing) (p : Parts) → AllByRecursion (OfThing (λ n. q (bytes_of c n) ≡ true)) xs → Each p → Each (fold (with_part c) p xs)
  each_walked [] p all e = e
  each_walked (x ∷ xs) p all e = each_walked xs (with_part c p x) all.1 (each_step p x all.0 e)
