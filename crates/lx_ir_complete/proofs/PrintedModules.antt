-- The text of a module says it, the lines of its instructions aside.
use Rattle.std.proofs.Common.{◌≡◌, ℕ, ◌<◌, List, [], ◌∷◌, ◌++◌, map, length, Bool, true, false, not, ◌&&◌, refl, sym, ap, ◌∙◌, subst, arith, Option, Some, None, is_some, append_assoc, length-append, slice_get}
use Rattle.std.specs.Prelude.{flat_map, nat_le, if◌then◌else◌}
use Rattle.std.specs.List.{AllByRecursion, list_all}
use Rattle.std.proofs.lemmas.Bool.{and_parts}
use Rattle.std.proofs.lemmas.List.Folds.{list_all-append}
use Rattle.lx_words.specs.TextLaws.{NumberTexts}
use Rattle.lx_words.specs.declared.token.TokenRule.TheVariants.{Ir}
use Rattle.lx_words.specs.Cuts.{OneWay}
use Rattle.lx_ir.specs.declared.types.NamedType.{NamedType}
use Rattle.lx_ir.specs.declared.module.GlobalVar.{GlobalVar}
use Rattle.lx_ir.specs.declared.module.Block.{Block}
use Rattle.lx_ir.specs.declared.module.Function.{Function}
use Rattle.lx_ir.specs.declared.module.Module.{Module}
use Rattle.lx_ir.specs.Layout.{is_struct, is_lawful_type}
use Rattle.lx_ir.specs.Lookup.{is_defined, blocks_of_option, instrs_of}
use Rattle.lx_ir.specs.Text.{name_at, type_name, register_names, named_type_text, global_var_text, function_text, body_text, module_text}
use Rattle.lx_ir.specs.Lawful.{is_name, is_distinct, is_lawful_named, is_lawful_global, is_lawful_init, nesting_of_init, is_lawful_body, is_lawful_import, is_lawful_function, is_own_name, parameter_names}
use Rattle.lx_ir_tokens.specs.declared.read.IrTokens.{IrTokens}
use Rattle.lx_ir_tokens.specs.Reading.{ReadsAs}
use Rattle.lx_ir_terms.specs.Context.{Context}
use Rattle.lx_ir_terms.specs.Grammar.{Part, ◌then◌}
use Rattle.lx_ir_calls.specs.declared.intrinsics.TextForm.{TextForm}
use Rattle.lx_ir_complete.specs.Kept.{is_kept_type, is_kept_init}
use Rattle.lx_ir_complete.specs.Printed.{AreCalm}
use Rattle.lx_ir_complete.specs.Lines.{PrintsLines}
use Rattle.lx_ir_complete.proofs.ReadLines.{lines_read, lines_calm}
use Rattle.lx_ir_complete.proofs.Sayings.{Saying, saying, registers, function_parts}
use Rattle.lx_ir_complete.specs.Said.{SaysType, SaysGlobal, SaysFunction, SaysModule, InRow, is_kept_global, are_kept_instrs}
use Rattle.lx_ir_complete.specs.StatementLaws.{IsOwn, IsGiven}
use Rattle.lx_ir_complete.proofs.PrintedFunctions.{body_says}
use Rattle.lx_ir_complete.proofs.PrintedHeads.{type_prints, global_prints, import_prints}
use Rattle.lx_ir_complete.proofs.StatementLines.{lines, no_lines, same_lines}

rows : {A : Type 0} {plain : Bool} {names : List (List ℕ)} (text : A → List ℕ) (item : A → Part) (xs : List A) → AllByRecursion (λ x. PrintsLines plain names (text x) (item x)) xs → PrintsLines plain names (flat_map text xs) (InRow item xs)
rows text item [] h = no_lines
rows text item (x ∷ xs) h = lines h.0 (rows text item xs h.1)

name_there : (front : List NamedType) (t : NamedType) (back : List NamedType) → name_at (map (λ x. x.name) (front ++ t ∷ back)) (length front) ≡ t.name
name_there [] t back = refl
name_there (x ∷ front) t back = name_there front t back

type_there : (front : List NamedType) (t : NamedType) (back : List NamedType) → slice_get (front ++ t ∷ back) (length front) ≡ Some t
type_there [] t back = refl
type_there (x ∷ front) t back = type_there front t back

module _ (plain : Bool) (form : TextForm) (laws : NumberTexts) (m : Module) (context : Context) (own : Function → Context) (given : IsGiven plain form m context own) where
  sayings : Saying plain m context
  sayings = saying plain m context laws given.lawful given.knows given.foreign

  -- none of these names is an image's own
  abbrev AreForeign : List (List ℕ) → Type 0
  AreForeign names = plain ≡ true → list_all (λ n. not (is_own_name n)) names ≡ true

  first_foreign : (name : List ℕ) (names : List (List ℕ)) → AreForeign (name ∷ names) → (plain ≡ true → is_own_name name ≡ false) × AreForeign names
  first_foreign name names h = (λ p. not_true (is_own_name name) (and_parts (not (is_own_name name)) (list_all (λ n. not (is_own_name n)) names) (h p)).0, λ p. (and_parts (not (is_own_name name)) (list_all (λ n. not (is_own_name n)) names) (h p)).1)
    where
      not_true : (v : Bool) → not v ≡ true → v ≡ false
      not_true true e = cc e
      not_true false e = refl

  all_foreign : AreForeign (map (λ g. g.name) m.globals) × AreForeign (map (λ f. f.name) m.functions)
  all_foreign = (λ p. (both p).0, λ p. (both p).1)
    where
      both : plain ≡ true → (list_all (λ n. not (is_own_name n)) (map (λ g. g.name) m.globals) ≡ true) × (list_all (λ n. not (is_own_name n)) (map (λ f. f.name) m.functions) ≡ true)
      both p =
          and_parts (list_all (λ n. not (is_own_name n)) (map (λ g. g.name) m.globals)) (list_all (λ n. not (is_own_name n)) (map (λ f. f.name) m.functions))
          (sym (list_all-append (λ n. not (is_own_name n)) (map (λ g. g.name) m.globals) (map (λ f. f.name) m.functions)) ∙ given.foreign p)

  types_print : (front ts : List NamedType) → m.types ≡ front ++ ts → list_all (is_lawful_named m) ts ≡ true → list_all (λ t. is_kept_type t.ty) ts ≡ true → AllByRecursion (λ t. PrintsLines plain context.names (named_type_text m t) (SaysType context t)) ts
  types_print front [] e h k = tt
  types_print front (t ∷ ts) e h k =
      let lawful = and_parts (is_lawful_named m t) (list_all (is_lawful_named m) ts) h in
      let two = and_parts (is_name t.name && is_struct t.ty) (is_lawful_type m.types t.ty) lawful.0 in
      let one = and_parts (is_name t.name) (is_struct t.ty) two.0 in
      let kept = and_parts (is_kept_type t.ty) (list_all (λ x. is_kept_type x.ty) ts) k in
      let within : length front < length m.types = omega (arith, ap length e, length-append front (t ∷ ts)) in
      let named : type_name m.types (length front) ≡ t.name = ap (λ xs. type_name xs (length front)) e ∙ name_there front t ts in
      let there : slice_get m.types (length front) ≡ Some t = ap (λ xs. slice_get xs (length front)) e ∙ type_there front t ts in
      let next : m.types ≡ (front ++ t ∷ []) ++ ts = e ∙ sym (append_assoc front (t ∷ []) ts) in
      (type_prints sayings (length front) t within there named one.1 two.1 kept.0, types_print (front ++ t ∷ []) ts next lawful.1 kept.1)

  globals_print : (gs : List GlobalVar) → AreForeign (map (λ g. g.name) gs) → list_all (is_lawful_global m) gs ≡ true → list_all is_kept_global gs ≡ true → AllByRecursion (λ g. PrintsLines plain context.names (global_var_text m g) (SaysGlobal context g)) gs
  globals_print [] own h k = tt
  globals_print (g ∷ gs) own h k =
      let foreign = first_foreign g.name (map (λ x. x.name) gs) own in
      let lawful = and_parts (is_lawful_global m g) (list_all (is_lawful_global m) gs) h in
      let three = and_parts (is_name g.name && is_lawful_type m.types g.ty && is_lawful_init m g.ty g.init) (nat_le (nesting_of_init g.init) 64) lawful.0 in
      let two = and_parts (is_name g.name && is_lawful_type m.types g.ty) (is_lawful_init m g.ty g.init) three.0 in
      let one = and_parts (is_name g.name) (is_lawful_type m.types g.ty) two.0 in
      let kept = and_parts (is_kept_global g) (list_all is_kept_global gs) k in
      let both = and_parts (is_kept_type g.ty) (is_kept_init g.init) kept.0 in
      (global_prints sayings g foreign.0 one.0 one.1 both.0 two.1 both.1 three.1, globals_print gs foreign.1 lawful.1 kept.1)

  -- a function by its own context
  one_function : (f : Function) (blocks : Option (List Block)) → f.blocks ≡ blocks → (plain ≡ true → is_own_name f.name ≡ false) → is_name f.name ≡ true → (if is_some blocks then is_lawful_body m f else is_lawful_import f) ≡ true → are_kept_instrs form (instrs_of f) ≡ true → IsOwn m context own f
      → PrintsLines plain (own f).names (body_text m f blocks) (SaysFunction (own f) form f blocks)
  one_function f None e foreign name h k is = import_prints (saying plain m (own f) laws given.lawful is.knows given.foreign) f foreign name
  one_function f (Some bs) e foreign name h k is =
      let defined : is_defined f ≡ true = ap is_some e in
      let instrs : are_kept_instrs form (flat_map (λ b. b.instrs) bs) ≡ true = ap (λ o. are_kept_instrs form (flat_map (λ b. b.instrs) (blocks_of_option o))) (sym e) ∙ k in
      body_says (saying plain m (own f) laws given.lawful is.knows given.foreign) (registers f (own f) (names_in f h) (is.registers defined)) form given.program bs e foreign name h instrs
    where
      names_in : (g : Function) → is_lawful_body m g ≡ true → list_all is_name (register_names g) ≡ true
      names_in g q =
          let six = and_parts _ _ q in
          let five = and_parts _ _ six.0 in
          let four = and_parts _ _ five.0 in
          let three = and_parts _ _ four.0 in
          let two = and_parts _ _ three.0 in
          (and_parts (list_all is_name (parameter_names g ++ g.locals)) (is_distinct (parameter_names g ++ g.locals)) two.0).0

  functions_print : (fs : List Function) → AreForeign (map (λ f. f.name) fs) → list_all (is_lawful_function m) fs ≡ true → list_all (λ f. are_kept_instrs form (instrs_of f)) fs ≡ true → AllByRecursion (IsOwn m context own) fs
      → AllByRecursion (λ f. PrintsLines plain context.names (function_text m f) (SaysFunction (own f) form f f.blocks)) fs
  functions_print [] own_names h k is = tt
  functions_print (f ∷ fs) own_names h k is =
      let foreign = first_foreign f.name (map (λ x. x.name) fs) own_names in
      let lawful = and_parts (is_lawful_function m f) (list_all (is_lawful_function m) fs) h in
      let one = function_parts m f lawful.0 in
      let kept = and_parts (are_kept_instrs form (instrs_of f)) (list_all (λ g. are_kept_instrs form (instrs_of g)) fs) k in (
        subst (λ names. PrintsLines plain names (function_text m f) (SaysFunction (own f) form f f.blocks)) is.0.names (one_function f f.blocks refl foreign.0 one.0 one.2 kept.0 is.0),
        functions_print fs foreign.1 lawful.1 kept.1 is.1,
      )

  -- The text of a module says it.
  pub module_prints : PrintsLines plain context.names (module_text m) (SaysModule context own form m)
  module_prints =
      let two = and_parts (list_all (λ t. is_kept_type t.ty) m.types && list_all is_kept_global m.globals) (list_all (λ f. are_kept_instrs form (instrs_of f)) m.functions) given.kept in
      let one = and_parts (list_all (λ t. is_kept_type t.ty) m.types) (list_all is_kept_global m.globals) two.0 in
      same_lines (sym (append_assoc (flat_map (named_type_text m) m.types) (flat_map (global_var_text m) m.globals) (flat_map (function_text m) m.functions)))
      (lines (rows (named_type_text m) (SaysType context) m.types (types_print [] m.types refl given.lawful.types one.0))
      (lines (rows (global_var_text m) (SaysGlobal context) m.globals (globals_print m.globals all_foreign.0 given.lawful.globals one.1))
      (rows (function_text m) (λ f. SaysFunction (own f) form f f.blocks) m.functions (functions_print m.functions all_foreign.1 given.lawful.functions two.1 given.own))))

  -- The text of a module is read to its end, as tokens that say it.
  pub module_read : (ir : IrTokens) → OneWay Ir (module_text m) → ReadsAs (module_text m) ir → ir.names ≡ context.names → SaysModule context own form m ir.toks × (ir.stop ≡ None)
  module_read ir way reads same =
      lines_read (module_text m) (SaysModule context own form m) ir way (subst (λ names. PrintsLines plain names (module_text m) (SaysModule context own form m)) (sym same) module_prints) reads

  -- Its tokens are calm.
  pub module_calm : (ir : IrTokens) → OneWay Ir (module_text m) → ReadsAs (module_text m) ir → ir.names ≡ context.names → AreCalm plain ir.names ir.toks
  module_calm ir way reads same =
      lines_calm (module_text m) (SaysModule context own form m) ir way (subst (λ names. PrintsLines plain names (module_text m) (SaysModule context own form m)) (sym same) module_prints) reads
