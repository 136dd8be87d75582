-- The program of an image that is lawful and verified is so, if its text names nothing but its own.
use Rattle.std.proofs.Common.{◌≡◌, ℕ, zero, suc, ◌<◌, ◌≤◌, Bool, true, false, not, ◌&&◌, ◌||◌, List, [], ◌∷◌, ◌++◌, map, filter, length, take, Option, Some, None, inl, inr, refl, sym, subst, ◌∙◌, ap, arith}
use Rattle.std.specs.Prelude.{flat_map}
use Rattle.std.specs.List.{list_all}
use Rattle.std.proofs.lemmas.Bool.{and_from}
use Rattle.lx_words.proofs.Tests.{true_false, first_of, second_of}
use Rattle.lx_words.proofs.Options.{none_some}
use Rattle.lx_ir.specs.declared.types.NamedType.{NamedType}
use Rattle.lx_ir.specs.declared.module.GlobalVar.{GlobalVar}
use Rattle.lx_ir.specs.declared.module.Function.{Function}
use Rattle.lx_ir.specs.declared.module.Module.{Module}
use Rattle.lx_ir.specs.declared.instr.Instr.{Instr}
use Rattle.lx_ir.specs.Lookup.{instrs_of, is_defined}
use Rattle.lx_ir.specs.Layout.{is_struct, is_lawful_type}
use Rattle.lx_ir.specs.Lawful.{IsLawful, is_name, is_distinct, is_lawful_named, is_lawful_function, imports_first, symbol_names}
use Rattle.lx_ir.specs.Faults.{Fault, first_some, global_fault, FunctionFault, FirstOfFunctions, FirstBehind, FirstFault}
use Rattle.lx_ir.specs.Verified.{IsVerified}
use Rattle.lx_annot.specs.declared.interface.Interface.{Interface}
use Rattle.lx_image_texts.specs.Marks.{is_wrapped}
use Rattle.lx_image_texts.specs.Guards.{Guards}
use Rattle.lx_image_texts.specs.WrapperText.{in_wrappers}
use Rattle.lx_image_texts.specs.ImageFaults.{first_image_fault}
use Rattle.lx_image_texts.specs.Programs.{program_of, op_within, IsClosed}
use Rattle.lx_image_texts.specs.Laws.{IsProgramOf}
use Rattle.lx_image_texts.proofs.Distinct.{Each}
use Rattle.lx_image_texts.proofs.Erasing.{names_of, out_prefix, all_first, all_second}
use Rattle.lx_image_texts.proofs.Calling.{image_names, distinct_first}
use Rattle.lx_image_texts.proofs.Exact.{is_exact}
use Rattle.lx_image_texts.proofs.Faultless.{parts, whole, parts_program, globals_fit}
use Rattle.lx_image_texts.proofs.LawfulPrograms.{globals_left, many_globals_same, defined_same, lawful_left}
use Rattle.lx_image_texts.proofs.Paired.{BesideFunctions, no_functions, functions, image_functions, as_many, each_of_program}
use Rattle.lx_image_texts.proofs.Typed.{types_program}
use Rattle.lx_image_texts.proofs.Complete.{names_same}

-- lists of tests, and facts of each

pub each_of_all : {A : Type 0} (p : A → Bool) (xs : List A) → list_all p xs ≡ true → Each (λ x. p x ≡ true) xs
each_of_all p [] a = tt
each_of_all p (x ∷ xs) a = (first_of (p x) (list_all p xs) a, each_of_all p xs (second_of (p x) (list_all p xs) a))

pub all_of_each : {A : Type 0} (p : A → Bool) (xs : List A) → Each (λ x. p x ≡ true) xs → list_all p xs ≡ true
all_of_each p [] h = refl
all_of_each p (x ∷ xs) h = and_from (p x) (list_all p xs) h.0 (all_of_each p xs h.1)

pub each_taken : {A : Type 0} (P : A → Type 0) (n : ℕ) (xs : List A) → Each P xs → Each P (take n xs)
each_taken P zero xs h = tt
each_taken P (suc n) [] h = tt
each_taken P (suc n) (x ∷ xs) h = (h.0, each_taken P n xs h.1)

-- the functions without a fault

abbrev pub Faultless : Module → Function → Type 0
Faultless m f = FunctionFault m f None

pub each_faultless : (m : Module) (fs : List Function) → FirstOfFunctions m fs None → Each (Faultless m) fs
each_faultless m [] h = tt
each_faultless m (f ∷ fs) (inl h) = true_false (sym h.1)
each_faultless m (f ∷ fs) (inr h) = (h.0, each_faultless m fs h.1)

pub faultless_each : (m : Module) (fs : List Function) → Each (Faultless m) fs → FirstOfFunctions m fs None
faultless_each m [] h = refl
faultless_each m (f ∷ fs) h = inr (h.0, faultless_each m fs h.1)

pub behind_globals : (m : Module) (o : Option Fault) → FirstBehind o m None → (o ≡ None) × FirstOfFunctions m m.functions None
behind_globals m None h = (refl, h)
behind_globals m (Some x) h = none_some h

pub before_functions : (m : Module) (o : Option Fault) → o ≡ None → FirstOfFunctions m m.functions None → FirstBehind o m None
before_functions m o e h = subst (λ (p : Option Fault). FirstBehind p m None) (sym e) h

-- what the text of each function names is the module's

abbrev Within : Module → Function → Type 0
Within m f = list_all (λ (j : Instr). op_within m j.op) (instrs_of f) ≡ true

each_within : (m : Module) (fs : List Function) → list_all (λ (j : Instr). op_within m j.op) (flat_map instrs_of fs) ≡ true → Each (Within m) fs
each_within m [] w = tt
each_within m (f ∷ fs) w = (all_first (λ (j : Instr). op_within m j.op) (instrs_of f) (flat_map instrs_of fs) w, each_within m fs (all_second (λ (j : Instr). op_within m j.op) (instrs_of f) (flat_map instrs_of fs) w))

each_given : {A : Type 0} (P Q : A → Type 0) (xs : List A) → Each P xs → Each (λ x. P x → Q x) xs → Each Q xs
each_given P Q [] h k = tt
each_given P Q (x ∷ xs) h k = (k.0 h.0, each_given P Q xs h.1 k.1)

-- imports stand first

all_defined : (m : Module) (fs gs : List Function) → BesideFunctions m fs gs → list_all is_defined gs ≡ true → list_all is_defined fs ≡ true
all_defined m _ _ no_functions l = refl
all_defined m _ _ (functions f g fs gs b rest) l =
    and_from (is_defined f) (list_all is_defined fs) (defined_same m f g b ∙ first_of (is_defined g) (list_all is_defined gs) l) (all_defined m fs gs rest (second_of (is_defined g) (list_all is_defined gs) l))

pub either : (a b c d : Bool) → a ≡ b → (c ≡ true → d ≡ true) → (not b || c) ≡ true → (not a || d) ≡ true
either true true c d e k h = k h
either true false c d e k h = true_false e
either false b c d e k h = refl

first_left : (m : Module) (fs gs : List Function) → BesideFunctions m fs gs → imports_first gs ≡ true → imports_first fs ≡ true
first_left m _ _ no_functions l = refl
first_left m _ _ (functions f g fs gs b rest) l =
    and_from (not (is_defined f) || list_all is_defined fs) (imports_first fs)
    (either (is_defined f) (is_defined g) (list_all is_defined gs) (list_all is_defined fs) (defined_same m f g b) (all_defined m fs gs rest) (first_of (not (is_defined g) || list_all is_defined gs) (imports_first gs) l))
    (first_left m fs gs rest (second_of (not (is_defined g) || list_all is_defined gs) (imports_first gs) l))

all_taken : {A : Type 0} (p : A → Bool) (n : ℕ) (xs : List A) → list_all p xs ≡ true → list_all p (take n xs) ≡ true
all_taken p zero xs a = refl
all_taken p (suc n) [] a = refl
all_taken p (suc n) (x ∷ xs) a = and_from (p x) (list_all p (take n xs)) (first_of (p x) (list_all p xs) a) (all_taken p n xs (second_of (p x) (list_all p xs) a))

first_taken : (n : ℕ) (fs : List Function) → imports_first fs ≡ true → imports_first (take n fs) ≡ true
first_taken zero fs l = refl
first_taken (suc n) [] l = refl
first_taken (suc n) (f ∷ fs) l =
    and_from (not (is_defined f) || list_all is_defined (take n fs)) (imports_first (take n fs))
    (either (is_defined f) (is_defined f) (list_all is_defined fs) (list_all is_defined (take n fs)) refl (all_taken is_defined n fs) (first_of (not (is_defined f) || list_all is_defined fs) (imports_first fs) l))
    (first_taken n fs (second_of (not (is_defined f) || list_all is_defined fs) (imports_first fs) l))

pub taken_many : {A : Type 0} (n : ℕ) (xs : List A) → length (take n xs) ≤ length xs
taken_many zero xs = omega arith
taken_many (suc n) [] = omega arith
taken_many (suc n) (x ∷ xs) = let h : length (take n xs) ≤ length xs = taken_many n xs in omega (arith, h)

pub append_assoc : (xs ys zs : List (List ℕ)) → xs ++ (ys ++ zs) ≡ (xs ++ ys) ++ zs
append_assoc [] ys zs = refl
append_assoc (x ∷ xs) ys zs = ap (λ ns. x ∷ ns) (append_assoc xs ys zs)

module _ (i : Interface) (m x : Module) (g : Guards i m x) (closed : IsClosed m) (v : IsVerified x) where
  pairs : BesideFunctions m m.functions (take (length m.functions) x.functions)
  pairs = image_functions i m x g

  lawful_functions : list_all (is_lawful_function m) m.functions ≡ true
  lawful_functions =
      all_of_each (is_lawful_function m) m.functions
      (each_given (Within m) (λ f. is_lawful_function m f ≡ true) m.functions (each_within m m.functions closed.lines)
      (each_of_program (λ f. Within m f → is_lawful_function m f ≡ true) (λ h. is_lawful_function x h ≡ true) m (λ f h b l w. lawful_left i m x g v.lawful.functions f h b w l) m.functions (take (length m.functions) x.functions) pairs
      (each_taken (λ h. is_lawful_function x h ≡ true) (length m.functions) x.functions (each_of_all (is_lawful_function x) x.functions v.lawful.functions))))

  names : symbol_names x ≡ (map (λ (w : GlobalVar). w.name) m.globals ++ names_of m.functions) ++ (map (λ (f : Function). out_prefix ++ f.name) (filter is_wrapped m.functions) ++ names_of (in_wrappers i m))
  names =
      (λ t. names_same x.globals m.globals g.globals t ++ image_names i m x g t)
      ∙ append_assoc (map (λ (w : GlobalVar). w.name) m.globals) (names_of m.functions) (map (λ (f : Function). out_prefix ++ f.name) (filter is_wrapped m.functions) ++ names_of (in_wrappers i m))

  few : length m.functions < 4294967295
  few =
      let pairing : length m.functions ≡ length (take (length m.functions) x.functions) = as_many m m.functions (take (length m.functions) x.functions) pairs in
      let most : length (take (length m.functions) x.functions) ≤ length x.functions = taken_many (length m.functions) x.functions in
      let limit : length x.functions < 4294967295 = v.lawful.few_functions in
      omega (arith, pairing, most, limit)

  lawful : IsLawful m
  lawful =
      record {
        types_once = ap (λ (ns : List NamedType). is_distinct (map (λ t. t.name) ns)) (sym g.types) ∙ v.lawful.types_once;
        symbols_once = distinct_first (symbol_names m) (map (λ (f : Function). out_prefix ++ f.name) (filter is_wrapped m.functions) ++ names_of (in_wrappers i m)) (ap is_distinct (sym names) ∙ v.lawful.symbols_once);
        types = types_lawful (sym g.types) v.lawful.types;
        globals = globals_left m x x.globals m.globals g.types g.globals closed.globals v.lawful.globals;
        functions = lawful_functions;
        imports_first = first_left m m.functions (take (length m.functions) x.functions) pairs (first_taken (length m.functions) x.functions v.lawful.imports_first);
        few_types = subst (λ (ns : List NamedType). length ns < 4294967295) g.types v.lawful.few_types;
        few_globals = subst (λ (n : ℕ). n < 4294967295) (many_globals_same x.globals m.globals g.globals) v.lawful.few_globals;
        few_functions = few;
      }
    where
      types_lawful : m.types ≡ x.types → list_all (is_lawful_named x) x.types ≡ true → list_all (is_lawful_named m) m.types ≡ true
      types_lawful e l = ap (λ (ns : List NamedType). list_all (λ (t : NamedType). is_name t.name && is_struct t.ty && is_lawful_type ns t.ty) ns) e ∙ l

  no_fault : FirstFault m None
  no_fault =
      let parts_of = behind_globals x (first_some (global_fault x) x.globals) v.no_fault in
      before_functions m (first_some (global_fault m) m.globals) (globals_fit x m x.globals m.globals g.types g.globals parts_of.0)
      (faultless_each m m.functions
      (each_given (Within m) (Faultless m) m.functions (each_within m m.functions closed.lines)
      (each_of_program (λ f. Within m f → Faultless m f) (Faultless x) m
      (λ f h b q w. let p = parts x h q in whole m f (parts_program m x f h b (types_program i m x g f h b w p.typed) p))
      m.functions (take (length m.functions) x.functions) pairs
      (each_taken (Faultless x) (length m.functions) x.functions (each_faultless x x.functions parts_of.1)))))

  program_verified : IsVerified m
  program_verified = record { lawful = lawful; no_fault = no_fault }

pub programs : (i : Interface) (m x : Module) → IsVerified x → IsProgramOf i m x → IsVerified m
programs i m x v p = program_verified i m x p.image p.closed v

pub erased : (i : Interface) (x : Module) → IsVerified x → first_image_fault i x ≡ None → IsVerified (program_of x)
erased i x v e = programs i (program_of x) x v ((is_exact i x v.lawful v.no_fault).yes e).0
