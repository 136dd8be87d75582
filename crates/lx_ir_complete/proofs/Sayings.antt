-- What is given where the text of a module is read: the names that it writes are lawful, and are known.
use Rattle.std.proofs.Common.{◌≡◌, ℕ, zero, suc, ◌<◌, List, [], ◌∷◌, ◌++◌, Bool, true, false, not, ◌&&◌, length, map, refl, sym, ap, ◌∙◌, arith}
use Rattle.std.specs.Prelude.{if◌then◌else◌}
use Rattle.std.specs.List.{list_all}
use Rattle.std.proofs.lemmas.Bool.{and_parts, not-true, ltb-true}
use Rattle.std.proofs.lemmas.List.{length-map, length-append}
use Rattle.std.proofs.lemmas.List.Folds.{list_all-append}
use Rattle.lx_words.specs.TextLaws.{NumberTexts}
use Rattle.lx_ir.specs.declared.types.NamedType.{NamedType}
use Rattle.lx_ir.specs.declared.module.Symbol.{Symbol}
use Rattle.lx_ir.specs.declared.module.Symbol.TheVariants as symbol
use Rattle.lx_ir.specs.declared.module.GlobalVar.{GlobalVar}
use Rattle.lx_ir.specs.declared.module.Function.{Function}
use Rattle.lx_ir.specs.declared.module.Module.{Module}
use Rattle.lx_ir.specs.Lookup.{is_defined}
use Rattle.lx_ir.specs.Layout.{is_struct, is_lawful_type}
use Rattle.lx_ir.specs.Operands.{register_count}
use Rattle.lx_ir.specs.Text.{name_at, type_name, symbol_name, register_names, register_name}
use Rattle.lx_ir.specs.Lawful.{is_name, is_lawful_symbol, is_lawful_named, is_lawful_global, is_lawful_init, is_block_write, is_lawful_body, is_lawful_import, is_lawful_function, is_own_name, symbol_names, IsLawful}
use Rattle.lx_ir_terms.specs.Context.{Context}
use Rattle.lx_ir_complete.specs.Knows.{Knows, KnowsRegisters, HasNoOwnNames}

pub record Saying (plain : Bool) (m : Module) (context : Context) : Type 0 where
  pub laws : NumberTexts
  pub type_named : (k : ℕ) → k < length m.types → is_name (type_name m.types k) ≡ true
  pub symbol_named : (s : Symbol) → is_lawful_symbol m s ≡ true → is_name (symbol_name m s) ≡ true
  pub symbol_foreign : (s : Symbol) → is_lawful_symbol m s ≡ true → plain ≡ true → is_own_name (symbol_name m s) ≡ false
  pub knows : Knows m context

pub record Registers (f : Function) (context : Context) : Type 0 where
  pub register_named : (r : ℕ) → r < register_count f → is_name (register_name f r) ≡ true
  pub knows : KnowsRegisters f context

-- a name at a place of lawful names
name_of : (names : List (List ℕ)) (k : ℕ) → list_all is_name names ≡ true → k < length names → is_name (name_at names k) ≡ true
name_of [] k h lt = absurd (omega arith)
name_of (n ∷ ns) zero h lt = (and_parts (is_name n) (list_all is_name ns) h).0
name_of (n ∷ ns) (suc k) h lt = name_of ns k (and_parts (is_name n) (list_all is_name ns) h).1 (omega arith)

-- names of things that are lawful with their names
names_of : {A : Type 0} (name : A → List ℕ) (p : A → Bool) (xs : List A) → ((x : A) → p x ≡ true → is_name (name x) ≡ true) → list_all p xs ≡ true → list_all is_name (map name xs) ≡ true
names_of name p [] f h = refl
names_of name p (x ∷ xs) f h =
    let both = and_parts (p x) (list_all p xs) h in
    ap (λ v. v && list_all is_name (map name xs)) (f x both.0) ∙ names_of name p xs f both.1

type_is : (m : Module) (t : NamedType) → is_lawful_named m t ≡ true → is_name t.name ≡ true
type_is m t h = (and_parts (is_name t.name) (is_struct t.ty) (and_parts (is_name t.name && is_struct t.ty) (is_lawful_type m.types t.ty) h).0).0

global_is : (m : Module) (g : GlobalVar) → is_lawful_global m g ≡ true → is_name g.name ≡ true
global_is m g h =
    let three = and_parts (is_name g.name && is_lawful_type m.types g.ty && is_lawful_init m g.ty g.init) _ h in
    let two = and_parts (is_name g.name && is_lawful_type m.types g.ty) (is_lawful_init m g.ty g.init) three.0 in
    (and_parts (is_name g.name) (is_lawful_type m.types g.ty) two.0).0

-- a lawful function, part by part
pub function_parts : (m : Module) (f : Function) → is_lawful_function m f ≡ true → (is_name f.name ≡ true) × (is_block_write f.name ≡ false) × ((if is_defined f then is_lawful_body m f else is_lawful_import f) ≡ true)
function_parts m f h =
    let all = and_parts (is_name f.name && not (is_block_write f.name)) (if is_defined f then is_lawful_body m f else is_lawful_import f) h in
    let two = and_parts (is_name f.name) (not (is_block_write f.name)) all.0 in
    (two.0, not-true (is_block_write f.name) two.1, all.1)

function_is : (m : Module) (f : Function) → is_lawful_function m f ≡ true → is_name f.name ≡ true
function_is m f h = (function_parts m f h).0

symbol_is : (m : Module) → IsLawful m → (s : Symbol) → is_lawful_symbol m s ≡ true → is_name (symbol_name m s) ≡ true
symbol_is m lawful (symbol.Function k) h =
    let lt : k < length m.functions = ltb-true k (length m.functions) h in
    name_of (map (λ f. f.name) m.functions) k (names_of (λ f. f.name) (is_lawful_function m) m.functions (function_is m) lawful.functions) (omega (arith, lt, length-map m.functions (λ f. f.name)))
symbol_is m lawful (symbol.Global k) h =
    let lt : k < length m.globals = ltb-true k (length m.globals) h in
    name_of (map (λ g. g.name) m.globals) k (names_of (λ g. g.name) (is_lawful_global m) m.globals (global_is m) lawful.globals) (omega (arith, lt, length-map m.globals (λ g. g.name)))

-- a name at a place of names that are no image's own
foreign_of : (names : List (List ℕ)) (k : ℕ) → list_all (λ n. not (is_own_name n)) names ≡ true → k < length names → is_own_name (name_at names k) ≡ false
foreign_of [] k h lt = absurd (omega arith)
foreign_of (n ∷ ns) zero h lt = not_true (is_own_name n) (and_parts (not (is_own_name n)) (list_all (λ x. not (is_own_name x)) ns) h).0
  where
    not_true : (v : Bool) → not v ≡ true → v ≡ false
    not_true true e = cc e
    not_true false e = refl
foreign_of (n ∷ ns) (suc k) h lt = foreign_of ns k (and_parts (not (is_own_name n)) (list_all (λ x. not (is_own_name x)) ns) h).1 (omega arith)

symbol_is_foreign : (m : Module) → list_all (λ n. not (is_own_name n)) (symbol_names m) ≡ true → (s : Symbol) → is_lawful_symbol m s ≡ true → is_own_name (symbol_name m s) ≡ false
symbol_is_foreign m own s h =
    let both = and_parts _ _ (sym (list_all-append (λ n. not (is_own_name n)) (map (λ g. g.name) m.globals) (map (λ f. f.name) m.functions)) ∙ own) in
    by s h both.0 both.1
  where
    by : (s : Symbol) → is_lawful_symbol m s ≡ true → list_all (λ n. not (is_own_name n)) (map (λ g. g.name) m.globals) ≡ true → list_all (λ n. not (is_own_name n)) (map (λ f. f.name) m.functions) ≡ true → is_own_name (symbol_name m s) ≡ false
    by (symbol.Function k) h gs fs =
        let lt : k < length m.functions = ltb-true k (length m.functions) h in
        foreign_of (map (λ f. f.name) m.functions) k fs (omega (arith, lt, length-map m.functions (λ f. f.name)))
    by (symbol.Global k) h gs fs =
        let lt : k < length m.globals = ltb-true k (length m.globals) h in
        foreign_of (map (λ g. g.name) m.globals) k gs (omega (arith, lt, length-map m.globals (λ g. g.name)))

pub saying : (plain : Bool) (m : Module) (context : Context) → NumberTexts → IsLawful m → Knows m context → (plain ≡ true → HasNoOwnNames m) → Saying plain m context
saying plain m context laws lawful knows own = record {
  laws = laws;
  type_named = λ k lt. name_of (map (λ t. t.name) m.types) k (names_of (λ t. t.name) (is_lawful_named m) m.types (type_is m) lawful.types) (omega (arith, lt, length-map m.types (λ t. t.name)));
  symbol_named = symbol_is m lawful;
  symbol_foreign = λ s h p. symbol_is_foreign m (own p) s h;
  knows = knows;
}

pub registers : (f : Function) (context : Context) → list_all is_name (register_names f) ≡ true → KnowsRegisters f context → Registers f context
registers f context named knows = record {
  register_named = λ r lt. name_of (register_names f) r named (omega (arith, lt, length-append (map (λ p. p.name) f.params) f.locals, length-map f.params (λ p. p.name)));
  knows = knows;
}
