-- An image of a lawful, verified module has no fault, and is lawful where there is room for its wrappers.
use Rattle.std.proofs.Common.{◌≡◌, ℕ, ◌+◌, ◌<◌, Bool, true, false, not, ◌&&◌, ◌||◌, List, [], ◌∷◌, ◌++◌, map, length, take, drop, None, refl, sym, subst, ◌∙◌, ap, arith, length-append}
use Rattle.std.specs.Prelude.{bytes_eq}
use Rattle.std.specs.List.{list_all, list_any}
use Rattle.std.proofs.lemmas.Bool.{and_from, not-true}
use Rattle.lx_words.proofs.Lists.{map_length, same_bytes, split_at}
use Rattle.lx_words.proofs.Tests.{false_true, first_of, second_of}
use Rattle.lx_ir.specs.declared.types.NamedType.{NamedType}
use Rattle.lx_ir.specs.declared.module.GlobalVar.{GlobalVar}
use Rattle.lx_ir.specs.declared.module.Function.{Function}
use Rattle.lx_ir.specs.declared.module.Module.{Module}
use Rattle.lx_ir.specs.Layout.{is_struct, is_lawful_type}
use Rattle.lx_ir.specs.Lookup.{is_defined}
use Rattle.lx_ir.specs.Lawful.{IsPlain, is_name, is_distinct, is_lawful_function, imports_first, symbol_names}
use Rattle.lx_ir.specs.Faults.{first_some, global_fault, FirstFault}
use Rattle.lx_ir.specs.Verified.{IsVerified}
use Rattle.lx_ir.proofs.DistinctNames.{distinct_behind}
use Rattle.lx_ir.proofs.ImportsFirst.{defined_first}
use Rattle.lx_annot.specs.declared.interface.Interface.{Interface}
use Rattle.lx_propagate.specs.Slots.{conflict_of}
use Rattle.lx_image_texts.specs.WrapperText.{wrappers_of}
use Rattle.lx_image_texts.specs.Guards.{function_text, Guards}
use Rattle.lx_image_texts.specs.Instrumented.{leaves_none, leaves_spared, GuardsBut}
use Rattle.lx_image_texts.proofs.Distinct.{Each, distinct_wrappers}
use Rattle.lx_image_texts.proofs.Erasing.{names_of, names_append, is_program_name, guarded_names, drop_names, all_own}
use Rattle.lx_image_texts.proofs.Images.{full_guards, spared_guards}
use Rattle.lx_image_texts.proofs.Wrapping.{each_joined}
use Rattle.lx_image_texts.specs.ProgramLaws.{IsWell, HasRoom}
use Rattle.lx_image_texts.proofs.Faultless.{globals_fit}
use Rattle.lx_image_texts.proofs.FunctionsOfImages.{functions_well}
use Rattle.lx_image_texts.proofs.LawfulImages.{globals_more}
use Rattle.lx_image_texts.proofs.LawfulPrograms.{many_globals_same, defined_same}
use Rattle.lx_image_texts.proofs.Paired.{BesideFunctions, no_functions, functions, image_functions, as_many}
use Rattle.lx_image_texts.proofs.Programs.{all_of_each, Faultless, faultless_each, behind_globals, before_functions, either, append_assoc}
use Rattle.lx_image_texts.proofs.Unassigned.{each_map}
use Rattle.lx_image_texts.proofs.WrapperCode.{from_text}
use Rattle.lx_image_texts.proofs.Wrappers.{IsWrapper, each_wrapper, HasText, each_text, wrappers_faultless, wrappers_lawful}
use Rattle.lx_image_texts.proofs.Complete.{names_same}

-- the functions of the module, and the wrappers behind them

both_parts : (P : Function → Type 0) (n : ℕ) (fs : List Function) → Each P (take n fs) → Each P (drop n fs) → Each P fs
both_parts P n fs h k = subst (Each P) (split_at n fs) (each_joined P (take n fs) (drop n fs) h k)

pub faultless : (i : Interface) (m x : Module) → IsVerified m → Guards i m x → FirstFault x None
faultless i m x v g =
    let n : ℕ = length m.functions in
    before_functions x (first_some (global_fault x) x.globals)
    (globals_fit m x m.globals x.globals (sym g.types) (sym g.globals) (behind_globals m (first_some (global_fault m) m.globals) v.no_fault).0)
    (faultless_each x x.functions
    (both_parts (Faultless x) n x.functions (each_map (IsWell x) (Faultless x) (λ f w. w.no_fault) (take n x.functions) (functions_well i m x v g)) (wrappers_faultless i m x g)))

-- names

none_of : (p : List ℕ → Bool) (name : List ℕ) (ns : List (List ℕ)) → p name ≡ true → list_all (λ n. not (p n)) ns ≡ true → list_any (bytes_eq name) ns ≡ false
none_of p name [] e a = refl
none_of p name (n ∷ ns) e a =
    λ t. differs (bytes_eq name n) refl t || none_of p name ns e (second_of (not (p n)) (list_all (λ n. not (p n)) ns) a) t
  where
    differs : (b : Bool) → bytes_eq name n ≡ b → b ≡ false
    differs true h = false_true (sym (not-true (p n) (first_of (not (p n)) (list_all (λ n. not (p n)) ns) a)) ∙ ap p (sym (same_bytes name n h)) ∙ e)
    differs false h = refl

either_false : (a b c : Bool) → (a || b) ≡ false → (b ≡ false → c ≡ false) → (a || c) ≡ false
either_false true b c e k = e
either_false false b c e k = k e

none_joined : (name : List ℕ) (ns ms : List (List ℕ)) → list_any (bytes_eq name) ns ≡ false → list_any (bytes_eq name) ms ≡ false → list_any (bytes_eq name) (ns ++ ms) ≡ false
none_joined name [] ms e h = h
none_joined name (n ∷ ns) ms e h = either_false (bytes_eq name n) (list_any (bytes_eq name) ns) (list_any (bytes_eq name) (ns ++ ms)) e (λ r. none_joined name ns ms r h)

distinct_joined : (p : List ℕ → Bool) (ns ms : List (List ℕ)) → is_distinct ns ≡ true → is_distinct ms ≡ true → list_all p ns ≡ true → list_all (λ n. not (p n)) ms ≡ true → is_distinct (ns ++ ms) ≡ true
distinct_joined p [] ms d e a b = e
distinct_joined p (n ∷ ns) ms d e a b =
    and_from (not (list_any (bytes_eq n) (ns ++ ms))) (is_distinct (ns ++ ms))
    (ap not (none_joined n ns ms (not-true (list_any (bytes_eq n) ns) (first_of (not (list_any (bytes_eq n) ns)) (is_distinct ns) d)) (none_of p n ms (first_of (p n) (list_all p ns) a) b)))
    (distinct_joined p ns ms (second_of (not (list_any (bytes_eq n) ns)) (is_distinct ns) d) e (second_of (p n) (list_all p ns) a) b)

-- imports stand first

all_defined : (m : Module) (fs gs : List Function) → BesideFunctions m fs gs → list_all is_defined fs ≡ true → list_all is_defined gs ≡ true
all_defined m _ _ no_functions l = refl
all_defined m _ _ (functions f g fs gs b rest) l =
    and_from (is_defined g) (list_all is_defined gs) (sym (defined_same m f g b) ∙ first_of (is_defined f) (list_all is_defined fs) l) (all_defined m fs gs rest (second_of (is_defined f) (list_all is_defined fs) l))

first_more : (m : Module) (fs gs : List Function) → BesideFunctions m fs gs → imports_first fs ≡ true → imports_first gs ≡ true
first_more m _ _ no_functions l = refl
first_more m _ _ (functions f g fs gs b rest) l =
    and_from (not (is_defined g) || list_all is_defined gs) (imports_first gs)
    (either (is_defined g) (is_defined f) (list_all is_defined fs) (list_all is_defined gs) (sym (defined_same m f g b)) (all_defined m fs gs rest) (first_of (not (is_defined f) || list_all is_defined fs) (imports_first fs) l))
    (first_more m fs gs rest (second_of (not (is_defined f) || list_all is_defined fs) (imports_first fs) l))

all_behind : (fs ws : List Function) → list_all is_defined ws ≡ true → list_all is_defined fs ≡ true → list_all is_defined (fs ++ ws) ≡ true
all_behind [] ws w a = w
all_behind (f ∷ fs) ws w a = and_from (is_defined f) (list_all is_defined (fs ++ ws)) (first_of (is_defined f) (list_all is_defined fs) a) (all_behind fs ws w (second_of (is_defined f) (list_all is_defined fs) a))

first_joined : (fs ws : List Function) → list_all is_defined ws ≡ true → imports_first fs ≡ true → imports_first (fs ++ ws) ≡ true
first_joined [] ws w l = defined_first ws w
first_joined (f ∷ fs) ws w l =
    and_from (not (is_defined f) || list_all is_defined (fs ++ ws)) (imports_first (fs ++ ws))
    (either (is_defined f) (is_defined f) (list_all is_defined fs) (list_all is_defined (fs ++ ws)) refl (all_behind fs ws w) (first_of (not (is_defined f) || list_all is_defined fs) (imports_first fs) l))
    (first_joined fs ws w (second_of (not (is_defined f) || list_all is_defined fs) (imports_first fs) l))

text_defined : (m : Module) (h : Function) → HasText (IsWrapper m) h → is_defined h ≡ true
text_defined m h t =
    let w = t.is in
    let made = from_text w.function w.number w.annotation w.side h (t.text ∙ ap function_text w.is) in
    sym (ap is_defined made.is)

pub many_texts : (hs ws : List Function) → map function_text hs ≡ map function_text ws → length hs ≡ length ws
many_texts hs ws e = sym (map_length function_text hs) ∙ ap length e ∙ map_length function_text ws

module _ (i : Interface) (m x : Module) (v : IsVerified m) (room : HasRoom i m) (g : Guards i m x) where
  abbrev front : List Function
  front = take (length m.functions) x.functions

  abbrev behind : List Function
  behind = drop (length m.functions) x.functions

  names : symbol_names x ≡ symbol_names m ++ names_of (wrappers_of i m)
  names =
      let of_functions : names_of x.functions ≡ names_of m.functions ++ names_of (wrappers_of i m) =
      ap names_of (sym (split_at (length m.functions) x.functions)) ∙ names_append front behind ∙ (λ t. guarded_names m m.functions front g.functions t ++ drop_names i m x g t) in
      (λ t. names_same x.globals m.globals g.globals t ++ of_functions t) ∙ append_assoc (map (λ (w : GlobalVar). w.name) m.globals) (names_of m.functions) (names_of (wrappers_of i m))

  names_once : is_distinct (symbol_names x) ≡ true
  names_once =
      ap is_distinct names
      ∙ distinct_joined is_program_name (symbol_names m) (names_of (wrappers_of i m)) v.lawful.symbols_once (wrappers_once v.lawful.symbols_once) g.plain.names (all_own i m)
    where
      wrappers_once : is_distinct (symbol_names m) ≡ true → is_distinct (names_of (wrappers_of i m)) ≡ true
      wrappers_once d = distinct_wrappers i m (distinct_behind (map (λ (w : GlobalVar). w.name) m.globals) (names_of m.functions) d)

  all_lawful : list_all (is_lawful_function x) x.functions ≡ true
  all_lawful =
      all_of_each (is_lawful_function x) x.functions
      (both_parts (λ h. is_lawful_function x h ≡ true) (length m.functions) x.functions
      (each_map (IsWell x) (λ h. is_lawful_function x h ≡ true) (λ f w. w.lawful) front (functions_well i m x v g)) (wrappers_lawful i m x g v.lawful.functions room))

  in_order : imports_first x.functions ≡ true
  in_order =
      ap imports_first (sym (split_at (length m.functions) x.functions))
      ∙ first_joined front behind
      (all_of_each is_defined behind (each_map (HasText (IsWrapper m)) (λ h. is_defined h ≡ true) (text_defined m) behind (each_text (IsWrapper m) behind (wrappers_of i m) g.wrappers (each_wrapper i m))))
      (first_more m m.functions front (image_functions i m x g) v.lawful.imports_first)

  few : length x.functions < 4294967295
  few =
      let parts : length x.functions ≡ length front + length behind = ap length (sym (split_at (length m.functions) x.functions)) ∙ length-append front behind in
      let first : length m.functions ≡ length front = as_many m m.functions front (image_functions i m x g) in
      let second : length behind ≡ length (wrappers_of i m) = many_texts behind (wrappers_of i m) g.wrappers in
      let limit : length m.functions + length (wrappers_of i m) < 4294967295 = room.few_functions in
      omega (arith, parts, first, second, limit)

  types_lawful : (ns : List NamedType) → ns ≡ m.types → list_all (λ (t : NamedType). is_name t.name && is_struct t.ty && is_lawful_type ns t.ty) ns ≡ true
  types_lawful ns e = ap (λ (ts : List NamedType). list_all (λ (t : NamedType). is_name t.name && is_struct t.ty && is_lawful_type ts t.ty) ts) e ∙ v.lawful.types

  image_verified : IsVerified x
  image_verified =
      record {
        lawful = record {
          types_once = ap (λ (ns : List NamedType). is_distinct (map (λ t. t.name) ns)) g.types ∙ v.lawful.types_once;
          symbols_once = names_once;
          types = types_lawful x.types g.types;
          globals = globals_more i m x g x.globals m.globals g.globals v.lawful.globals;
          functions = all_lawful;
          imports_first = in_order;
          few_types = subst (λ (ns : List NamedType). length ns < 4294967295) (sym g.types) v.lawful.few_types;
          few_globals = subst (λ (n : ℕ). n < 4294967295) (sym (many_globals_same x.globals m.globals g.globals)) v.lawful.few_globals;
          few_functions = few;
        };
        no_fault = faultless i m x v g;
      }

pub images : (i : Interface) (m x : Module) → IsVerified m → HasRoom i m → Guards i m x → IsVerified x
images i m x v room g = image_verified i m x v room g

pub full : (i : Interface) (m x : Module) → IsVerified m → IsPlain m → conflict_of i m ≡ None → HasRoom i m → GuardsBut leaves_none i m x → IsVerified x
full i m x v p c room g = images i m x v room (full_guards i m x p c g)

pub spared : (i : Interface) (m x : Module) → IsVerified m → IsPlain m → conflict_of i m ≡ None → HasRoom i m → GuardsBut (leaves_spared m) i m x → IsVerified x
spared i m x v p c room g = images i m x v room (spared_guards i m x p c g)
