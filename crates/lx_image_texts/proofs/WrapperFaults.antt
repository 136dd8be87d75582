-- A fault of the whole text is where it is said to be.
use Rattle.std.proofs.Common.{◌≡◌, ◌⊎◌, inl, inr, refl, ap, sym, ◌∙◌, arith, ℕ, zero, suc, ◌+◌, ◌<◌, Bool, true, false, not, ◌&&◌, ◌||◌, List, [], ◌∷◌, ◌++◌, length, map, Option, Some, None, slice_get}
use Rattle.std.specs.Prelude.{bytes_eq, cond, filter, find, option_map, is_some}
use Rattle.std.specs.List.{list_all}
use Rattle.std.specs.Option.{option_or}
use Rattle.std.proofs.lemmas.Bool.{and_from, or_left, or_right}
use Rattle.std.proofs.lemmas.List.Folds.{find-append}
use Rattle.lx_words.proofs.Lists.{same_bytes, bytes_itself, map_append, found_is}
use Rattle.lx_words.proofs.Options.{some_none, none_some, some_same, map_some, map_none, neither_some, failed}
use Rattle.lx_words.proofs.Tests.{clash, first_of, second_of, true_false, false_true, zero_more, more_onto, below_next}
use Rattle.lx_ir.specs.declared.module.Symbol.{Symbol}
use Rattle.lx_ir.specs.declared.module.Pointer.TheVariants as pointer
use Rattle.lx_ir.specs.declared.module.Constant.{Constant}
use Rattle.lx_ir.specs.declared.module.Constant.TheVariants as constant
use Rattle.lx_ir.specs.declared.module.GlobalVar.{GlobalVar}
use Rattle.lx_ir.specs.declared.module.Block.{Block}
use Rattle.lx_ir.specs.declared.module.Function.{Function}
use Rattle.lx_ir.specs.declared.module.Module.{Module}
use Rattle.lx_ir.specs.declared.instr.Instr.{Instr}
use Rattle.lx_ir.specs.declared.instr.Op.{Op}
use Rattle.lx_ir.specs.Init.{Init, Plain, Empty, Bytes, Group, Inits, no_more, more}
use Rattle.lx_ir.specs.Faults.{first_some}
use Rattle.lx_ir.specs.Lawful.{is_own_name}
use Rattle.lx_ir.specs.Lookup.{instrs_of, is_defined}
use Rattle.lx_ir.specs.Text.{symbol_name}
use Rattle.lx_annot.specs.declared.interface.Interface.{Interface}
use Rattle.lx_slot_types.specs.Gets.{below, gets, slot_of}
use Rattle.lx_slot_types.specs.Texts.{differ, slot_text}
use Rattle.lx_propagate.specs.Slots.{Conflict, conflict, conflict_with, conflict_at, conflict_from, conflict_of, other_slot}
use Rattle.lx_image_texts.specs.ImageFaults.{ImageFault, constant_mentions, init_mentions, inits_mention, is_wrapper, fault_in_function, wrapper_fault, global_fault, import_fault, same_line, different_from, same_head, difference, compared, missing_fault, misplaced, defined_names, conflict_fault, without_body, without_wrappers, not_own, right_wrappers, whole_fault}
use Rattle.lx_image_texts.specs.Named.{AllAre, IsFirstBad, IsRightCode}
use Rattle.lx_image_texts.specs.Watched.{op_at}
use Rattle.lx_image_texts.specs.WrapperText.{wrappers_of}
use Rattle.lx_image_texts.specs.WrapperFaults.{Tells, Holds, Mentions, SomeMentions, IsOwnGlobal, NoOwnGlobal, IsGlobalFault, IsOwnImport, NoOwnImport, IsImportFault, IsNamedAs, StandsFor, IsThere, IsMissing, HasOther, IsSameHead, HasOtherHead, IsOther, AllThere, IsLackedWrapper, order_of, IsInPlace, IsPlaceFault, GetsTwo, IsConflictFault, IsWrapperFault}
use Rattle.lx_image_texts.proofs.First.{or_some}
use Rattle.lx_image_texts.proofs.RightCode.{right_code}
use Rattle.lx_image_texts.proofs.FirstBad.{all_none, all_more, bad_here, bad_more, first_found, none_found, passed, none_passed}
use Rattle.lx_image_texts.proofs.Comparing.{ops, line_is, differ_by, same_text, heads_same}
use Rattle.lx_image_texts.proofs.Ordering.{placed_by}
use Rattle.lx_image_texts.proofs.Whole.{IsWrapper, are_wrappers, selves}
use Rattle.lx_image_texts.proofs.Wrapping.{each_filter, each_at}
use Rattle.lx_image_texts.proofs.Sound.{not_both}

told : (line : ℕ) (name : List ℕ) (place : ℕ) (e : ImageFault) → ◌≡◌ {A = Option ImageFault} (Some (wrapper_fault line name place)) (Some e) → Tells e line name place
told line name place e h =
    let s = sym (some_same h) in
    record { kind = ap (λ (f : ImageFault). f.kind) s; line = ap (λ (f : ImageFault). f.line) s; function = ap (λ (f : ImageFault). f.function) s; place = ap (λ (f : ImageFault). f.place) s }

-- a fault where a test passes

if_fault : (b : Bool) (f e : ImageFault) → cond b (Some f) None ≡ Some e → (b ≡ true) × (◌≡◌ {A = Option ImageFault} (Some f) (Some e))
if_fault true f e h = (refl, h)
if_fault false f e h = none_some h

-- code without a fault

right_all : (x : Module) → first_some (fault_in_function x) x.functions ≡ None → AllAre (λ n f. IsRightCode x f) x.functions
right_all x h = none_found (λ n f. IsRightCode x f) (fault_in_function x) x.functions (λ n f at none. right_code x f none) h

-- globals

or_case : (a b : Bool) → (a || b) ≡ true → (a ≡ true) ⊎ (b ≡ true)
or_case true b h = inl refl
or_case false b h = inr h

holds : (x : Module) (c : Constant) → constant_mentions x c ≡ true → (s : Symbol) × Holds s c × (is_own_name (symbol_name x s) ≡ true)
holds x (constant.Pointer (pointer.Symbol s n)) h = (s, refl, h)
holds x (constant.Cast (pointer.Symbol s n) w) h = (s, refl, h)
holds x _ h = false_true h

held : (x : Module) (s : Symbol) (c : Constant) → Holds s c → is_own_name (symbol_name x s) ≡ true → constant_mentions x c ≡ true
held x s (constant.Pointer (pointer.Symbol t n)) h own = ap (λ (u : Symbol). is_own_name (symbol_name x u)) h ∙ own
held x s (constant.Cast (pointer.Symbol t n) w) h own = ap (λ (u : Symbol). is_own_name (symbol_name x u)) h ∙ own
held x s _ h own = absurd h

mention_by : (x : Module) (v : Init) (is : Inits) → (init_mentions x v ≡ true) ⊎ (inits_mention x is ≡ true) → (init_mentions x v ≡ true → (s : Symbol) × Mentions s v × (is_own_name (symbol_name x s) ≡ true)) → (inits_mention x is ≡ true → (s : Symbol) × SomeMentions s is × (is_own_name (symbol_name x s) ≡ true)) → (s : Symbol) × SomeMentions s (more v is) × (is_own_name (symbol_name x s) ≡ true)
mention_by x v is (inl h) here there = let r = here h in (r.0, inl r.1, r.2)
mention_by x v is (inr h) here there = let r = there h in (r.0, inr r.1, r.2)

mutual
  mentions : (x : Module) (v : Init) → init_mentions x v ≡ true → (s : Symbol) × Mentions s v × (is_own_name (symbol_name x s) ≡ true)
  mentions x (Plain c) h = holds x c h
  mentions x (Empty b) h = false_true h
  mentions x (Bytes bs) h = false_true h
  mentions x (Group k ts is) h = some_mention x is h

  some_mention : (x : Module) (is : Inits) → inits_mention x is ≡ true → (s : Symbol) × SomeMentions s is × (is_own_name (symbol_name x s) ≡ true)
  some_mention x no_more h = false_true h
  some_mention x (more v is) h = mention_by x v is (or_case (init_mentions x v) (inits_mention x is) h) (mentions x v) (some_mention x is)

mutual
  mentioned : (x : Module) (s : Symbol) (v : Init) → Mentions s v → is_own_name (symbol_name x s) ≡ true → init_mentions x v ≡ true
  mentioned x s (Plain c) h own = held x s c h own
  mentioned x s (Empty b) h own = absurd h
  mentioned x s (Bytes bs) h own = absurd h
  mentioned x s (Group k ts is) h own = some_mentioned x s is h own

  some_mentioned : (x : Module) (s : Symbol) (is : Inits) → SomeMentions s is → is_own_name (symbol_name x s) ≡ true → inits_mention x is ≡ true
  some_mentioned x s no_more h own = absurd h
  some_mentioned x s (more v is) (inl h) own = or_left (init_mentions x v) (inits_mention x is) (mentioned x s v h own)
  some_mentioned x s (more v is) (inr h) own = or_right (init_mentions x v) (inits_mention x is) (some_mentioned x s is h own)

own_by : (x : Module) (g : GlobalVar) → (is_own_name g.name ≡ true) ⊎ (init_mentions x g.init ≡ true) → IsOwnGlobal x g
own_by x g (inl h) = inl h
own_by x g (inr h) = inr (mentions x g.init h)

own_global : (x : Module) (g : GlobalVar) → (is_own_name g.name || init_mentions x g.init) ≡ true → IsOwnGlobal x g
own_global x g h = own_by x g (or_case (is_own_name g.name) (init_mentions x g.init) h)

global_owned : (x : Module) (g : GlobalVar) → IsOwnGlobal x g → (is_own_name g.name || init_mentions x g.init) ≡ true
global_owned x g (inl h) = or_left (is_own_name g.name) (init_mentions x g.init) h
global_owned x g (inr h) = or_right (is_own_name g.name) (init_mentions x g.init) (mentioned x h.0 g.init h.1 h.2)

good_global : (x : Module) (g : GlobalVar) → global_fault x g ≡ None → IsOwnGlobal x g → ⊥
good_global x g h own = clash (is_own_name g.name || init_mentions x g.init) (global_owned x g own) (not_both (is_own_name g.name || init_mentions x g.init) (wrapper_fault g.line g.name 0) h)

no_global : (x : Module) → first_some (global_fault x) x.globals ≡ None → NoOwnGlobal x
no_global x h = none_found (λ n g. IsOwnGlobal x g → ⊥) (global_fault x) x.globals (λ n g at none. good_global x g none) h

of_global : (x : Module) (e : ImageFault) → first_some (global_fault x) x.globals ≡ Some e → IsGlobalFault x e
of_global x e h =
    let r = first_found (λ n g. IsOwnGlobal x g → ⊥) (λ n g. IsOwnGlobal x g) (global_fault x) x.globals e (λ n g at none. good_global x g none)
    (λ n g at some. own_global x g (if_fault (is_own_name g.name || init_mentions x g.init) (wrapper_fault g.line g.name 0) e some).0) h in
    record { global = r.it; first = r.first; tells = told r.it.line r.it.name 0 e (if_fault (is_own_name r.it.name || init_mentions x r.it.init) (wrapper_fault r.it.line r.it.name 0) e r.is).1 }

-- imports

no_body : (o : Option (List Block)) → not (is_some o) ≡ true → o ≡ None
no_body None h = refl
no_body (Some bs) h = false_true h

own_import : (f : Function) → (not (is_defined f) && is_own_name f.name) ≡ true → IsOwnImport f
own_import f h = (no_body f.blocks (first_of (not (is_defined f)) (is_own_name f.name) h), second_of (not (is_defined f)) (is_own_name f.name) h)

good_import : (f : Function) → import_fault f ≡ None → IsOwnImport f → ⊥
good_import f h own =
    clash (not (is_defined f) && is_own_name f.name) (and_from (not (is_defined f)) (is_own_name f.name) (ap (λ (o : Option (List Block)). not (is_some o)) own.0) own.1)
    (not_both (not (is_defined f) && is_own_name f.name) (wrapper_fault f.line f.name 0) h)

no_import : (x : Module) → first_some import_fault x.functions ≡ None → NoOwnImport x
no_import x h = none_found (λ n f. IsOwnImport f → ⊥) import_fault x.functions (λ n f at none. good_import f none) h

of_import : (x : Module) (e : ImageFault) → NoOwnGlobal x → first_some import_fault x.functions ≡ Some e → IsImportFault x e
of_import x e globals h =
    let r = first_found (λ n f. IsOwnImport f → ⊥) (λ n f. IsOwnImport f) import_fault x.functions e (λ n f at none. good_import f none)
    (λ n f at some. own_import f (if_fault (not (is_defined f) && is_own_name f.name) (wrapper_fault f.line f.name 0) e some).0) h in
    record { globals = globals; import = r.it; first = r.first; tells = told r.it.line r.it.name 0 e (if_fault (not (is_defined r.it) && is_own_name r.it.name) (wrapper_fault r.it.line r.it.name 0) e r.is).1 }

-- the lines of a wrapper

record Differs (ws is : List Instr) (k : ℕ) (d : ℕ × ℕ) : Type 0 where
  instr : Instr
  first : IsFirstBad (λ n i. op_at ws n ≡ Some i.op) (λ n i. (op_at ws n ≡ Some i.op → ⊥) × (d.0 ≡ n + k) × (d.1 ≡ i.line)) is instr

counted : (k a n : ℕ) → a ≡ n + suc k → a ≡ suc n + k
counted k a n e = omega (arith, e)

next_differs : (w i : Instr) (ws is : List Instr) (k : ℕ) (d : ℕ × ℕ) → w.op ≡ i.op → Differs ws is (suc k) d → Differs (w ∷ ws) (i ∷ is) k d
next_differs w i ws is k d same r =
    let bad = r.first.bad in
    record {
      instr = r.instr;
      first = bad_more (λ n j. op_at (w ∷ ws) n ≡ Some j.op) (λ n j. (op_at (w ∷ ws) n ≡ Some j.op → ⊥) × (d.0 ≡ n + k) × (d.1 ≡ j.line)) i r.instr is (ap (λ (o : Op). Some o) same) (record {
        place = r.first.place;
        at = r.first.at;
        bad = (bad.0, counted k d.0 r.first.place bad.1, bad.2);
        before = r.first.before;
      });
    }

differs_by : (w i : Instr) (ws is : List Instr) (k : ℕ) (d : ℕ × ℕ) (b : Bool) → same_line w.op i.op ≡ b → same_line w.op w.op ≡ true → cond b (different_from (suc k) ws is) (Some (k, i.line)) ≡ Some d → (different_from (suc k) ws is ≡ Some d → Differs ws is (suc k) d) → Differs (w ∷ ws) (i ∷ is) k d
differs_by w i ws is k d true same self h later = next_differs w i ws is k d (line_is w.op i.op same) (later h)
differs_by w i ws is k d false same self h later =
    let s = sym (some_same h) in
    record {
      instr = i;
      first = bad_here (λ n j. op_at (w ∷ ws) n ≡ Some j.op) (λ n j. (op_at (w ∷ ws) n ≡ Some j.op → ⊥) × (d.0 ≡ n + k) × (d.1 ≡ j.line)) i is (
        λ e. clash (same_line w.op i.op) (ap (same_line w.op) (sym (some_same e)) ∙ self) same,
        ap (λ (p : ℕ × ℕ). p.0) s ∙ zero_more k,
        ap (λ (p : ℕ × ℕ). p.1) s,
      );
    }

differs_at : (ws is : List Instr) (k : ℕ) (d : ℕ × ℕ) → list_all (λ (o : Op). same_line o o) (ops ws) ≡ true → different_from k ws is ≡ Some d → Differs ws is k d
differs_at ws [] k d a h = none_some h
differs_at [] (i ∷ is) k d a h =
    let s = sym (some_same h) in
    record {
      instr = i;
      first = bad_here (λ n j. op_at [] n ≡ Some j.op) (λ n j. (op_at [] n ≡ Some j.op → ⊥) × (d.0 ≡ n + k) × (d.1 ≡ j.line)) i is (λ e. none_some e, ap (λ (p : ℕ × ℕ). p.0) s ∙ zero_more k, ap (λ (p : ℕ × ℕ). p.1) s);
    }
differs_at (w ∷ ws) (i ∷ is) k d a h =
    differs_by w i ws is k d (same_line w.op i.op) refl (first_of (same_line w.op w.op) (list_all (λ (o : Op). same_line o o) (ops ws)) a) h
    (differs_at ws is (suc k) d (second_of (same_line w.op w.op) (list_all (λ (o : Op). same_line o o) (ops ws)) a))

agree : (ws is : List Instr) (k : ℕ) → different_from k ws is ≡ None → AllAre (λ n (j : Instr). op_at ws n ≡ Some j.op) is
agree ws [] k h = all_none (λ n (j : Instr). op_at ws n ≡ Some j.op)
agree [] (i ∷ is) k h = some_none h
agree (w ∷ ws) (i ∷ is) k h =
    let d = differ_by w i ws is k (same_line w.op i.op) refl h in
    all_more (λ n (j : Instr). op_at (w ∷ ws) n ≡ Some j.op) i is (ap (λ (o : Op). Some o) d.0) (agree ws is (suc k) d.1)

-- a wrapper

named_as : (w f : Function) → (is_defined f && bytes_eq f.name w.name) ≡ true → IsNamedAs w f
named_as w f h = (first_of (is_defined f) (bytes_eq f.name w.name) h, same_bytes f.name w.name (second_of (is_defined f) (bytes_eq f.name w.name) h))

not_named : (w f : Function) → (is_defined f && bytes_eq f.name w.name) ≡ false → IsNamedAs w f → ⊥
not_named w f h is = clash (is_defined f && bytes_eq f.name w.name) (and_from (is_defined f) (bytes_eq f.name w.name) is.0 (ap (bytes_eq f.name) (sym is.1) ∙ bytes_itself f.name)) h

stands_for : (x : Module) (w f : Function) → find (λ g. is_defined g && bytes_eq g.name w.name) x.functions ≡ Some f → StandsFor x w f
stands_for x w f h = passed (IsNamedAs w) (λ g. is_defined g && bytes_eq g.name w.name) x.functions f (named_as w) (not_named w) h

head_by : (w f : Function) (b : Bool) (e : ImageFault) → same_head w f ≡ b → cond b None (Some (wrapper_fault f.line f.name 0)) ≡ Some e → (IsSameHead w f → ⊥) × Tells e f.line f.name 0
head_by w f true e is h = none_some h
head_by w f false e is h = (λ same. clash (same_head w f) (heads_same w f same) is, told f.line f.name 0 e h)

moved : (e : ImageFault) (line place m n : ℕ) (name : List ℕ) → Tells e line name place → line ≡ m → place ≡ n → Tells e m name n
moved e line place m n name t l p = record { kind = t.kind; line = t.line ∙ l; function = t.function; place = t.place ∙ p }

plain_number : (a n : ℕ) → a ≡ n + 0 → a ≡ n
plain_number a n e = omega (arith, e)

other_by : (w f : Function) (e : ImageFault) (d : Option (ℕ × ℕ)) → IsWrapper w → different_from 0 (instrs_of w) (instrs_of f) ≡ d → difference w f d ≡ Some e → HasOther w f e ⊎ HasOtherHead w f e
other_by w f e (Some d) wraps is h =
    let r = differs_at (instrs_of w) (instrs_of f) 0 d (selves w wraps) is in
    let bad = r.first.bad in
    inl (record {
      instr = r.instr;
      first = record {
        place = r.first.place;
        at = r.first.at;
        bad = (bad.0, moved e d.1 d.0 r.instr.line r.first.place f.name (told d.1 f.name d.0 e h) bad.2 (plain_number d.0 r.first.place bad.1));
        before = r.first.before;
      };
    })
other_by w f e None wraps is h = let p = head_by w f (same_head w f) e refl h in inr (record { code = agree (instrs_of w) (instrs_of f) 0 is; head = p.0; tells = p.1 })

lacked_by : (x : Module) (w : Function) (e : ImageFault) (o : Option Function) → IsWrapper w → find (λ g. is_defined g && bytes_eq g.name w.name) x.functions ≡ o → compared w o ≡ Some e → IsMissing x w e ⊎ IsOther x w e
lacked_by x w e None wraps is h = inl (record { none = none_passed (IsNamedAs w) (λ g. is_defined g && bytes_eq g.name w.name) x.functions (not_named w) is; tells = told 1 w.name 0 e h })
lacked_by x w e (Some f) wraps is h = inr (f, stands_for x w f is, other_by w f e (different_from 0 (instrs_of w) (instrs_of f)) wraps refl h)

lacked : (x : Module) (w : Function) (e : ImageFault) → IsWrapper w → missing_fault x w ≡ Some e → IsMissing x w e ⊎ IsOther x w e
lacked x w e wraps h = lacked_by x w e (find (λ g. is_defined g && bytes_eq g.name w.name) x.functions) wraps refl h

there_by : (x : Module) (w : Function) (o : Option Function) → IsWrapper w → find (λ g. is_defined g && bytes_eq g.name w.name) x.functions ≡ o → compared w o ≡ None → IsThere x w
there_by x w None wraps is h = some_none h
there_by x w (Some f) wraps is h =
    let s = stands_for x w f is in
    record { function = f; stands = s; same = same_text _ w f (ap (λ (g : Function). g.blocks) wraps.is) s.bad.0 (sym s.bad.1) h }

there : (x : Module) (w : Function) → IsWrapper w → missing_fault x w ≡ None → IsThere x w
there x w wraps h = there_by x w (find (λ g. is_defined g && bytes_eq g.name w.name) x.functions) wraps refl h

wraps_at : (i : Interface) (x : Module) (n : ℕ) (w : Function) → slice_get (right_wrappers i x) n ≡ Some w → IsWrapper w
wraps_at i x n w at = each_at IsWrapper (right_wrappers i x) n w (each_filter IsWrapper not_own (wrappers_of i (without_wrappers x)) (are_wrappers i (without_wrappers x))) at

all_there : (i : Interface) (x : Module) → first_some (missing_fault x) (right_wrappers i x) ≡ None → AllThere i x
all_there i x h = none_found (λ n w. IsThere x w) (missing_fault x) (right_wrappers i x) (λ n w at none. there x w (wraps_at i x n w at) none) h

of_wrapper : (i : Interface) (x : Module) (e : ImageFault) → NoOwnGlobal x → NoOwnImport x → first_some (missing_fault x) (right_wrappers i x) ≡ Some e → IsLackedWrapper i x e
of_wrapper i x e globals imports h =
    let r = first_found (λ n w. IsThere x w) (λ n w. IsMissing x w e ⊎ IsOther x w e) (missing_fault x) (right_wrappers i x) e (λ n w at none. there x w (wraps_at i x n w at) none)
    (λ n w at some. lacked x w e (wraps_at i x n w at) some) h in
    record { globals = globals; imports = imports; wrapper = r.it; first = r.first }

-- places

record Misplaced (names : List (List ℕ)) (fs : List Function) (e : ImageFault) : Type 0 where
  function : Function
  first : IsFirstBad (λ n f. slice_get names n ≡ Some f.name) (λ n f. slice_get names n ≡ Some f.name → ⊥) fs function
  tells : Tells e function.line function.name 0

misplaced_by : (n : List ℕ) (ns : List (List ℕ)) (f : Function) (fs : List Function) (e : ImageFault) (b : Bool) → bytes_eq n f.name ≡ b → cond b (misplaced ns fs) (Some (wrapper_fault f.line f.name 0)) ≡ Some e → (misplaced ns fs ≡ Some e → Misplaced ns fs e) → Misplaced (n ∷ ns) (f ∷ fs) e
misplaced_by n ns f fs e true is h later =
    let r = later h in
    record {
      function = r.function;
      first = bad_more (λ k g. slice_get (n ∷ ns) k ≡ Some g.name) (λ k g. slice_get (n ∷ ns) k ≡ Some g.name → ⊥) f r.function fs (ap (λ (m : List ℕ). Some m) (same_bytes n f.name is)) r.first;
      tells = r.tells;
    }
misplaced_by n ns f fs e false is h later = record {
  function = f;
  first = bad_here (λ k g. slice_get (n ∷ ns) k ≡ Some g.name) (λ k g. slice_get (n ∷ ns) k ≡ Some g.name → ⊥) f fs (λ s. clash (bytes_eq n f.name) (ap (bytes_eq n) (sym (some_same s)) ∙ bytes_itself n) is);
  tells = told f.line f.name 0 e h;
}

is_misplaced : (names : List (List ℕ)) (fs : List Function) (e : ImageFault) → misplaced names fs ≡ Some e → Misplaced names fs e
is_misplaced names [] e h = none_some h
is_misplaced [] (f ∷ fs) e h = record { function = f; first = bad_here (λ k g. slice_get [] k ≡ Some g.name) (λ k g. slice_get [] k ≡ Some g.name → ⊥) f fs (λ s. none_some s); tells = told f.line f.name 0 e h }
is_misplaced (n ∷ ns) (f ∷ fs) e h = misplaced_by n ns f fs e (bytes_eq n f.name) refl h (is_misplaced ns fs e)

are_placed : (names : List (List ℕ)) (fs : List Function) → misplaced names fs ≡ None → AllAre (λ k (g : Function). slice_get names k ≡ Some g.name) fs
are_placed names [] h = all_none (λ k (g : Function). slice_get names k ≡ Some g.name)
are_placed [] (f ∷ fs) h = some_none h
are_placed (n ∷ ns) (f ∷ fs) h =
    let p = placed_by n ns f fs (bytes_eq n f.name) refl h in
    all_more (λ k (g : Function). slice_get (n ∷ ns) k ≡ Some g.name) f fs (ap (λ (m : List ℕ). Some m) p.0) (are_placed ns fs p.1)

ordered : (i : Interface) (x : Module) → order_of i x ≡ defined_names x.functions ++ map (λ w. w.name) (right_wrappers i x)
ordered i x = map_append (λ (f : Function). f.name) (filter (λ f. is_defined f && not (is_wrapper f)) x.functions) (right_wrappers i x)

all_placed : (i : Interface) (x : Module) → misplaced (defined_names x.functions ++ map (λ w. w.name) (right_wrappers i x)) (filter is_defined x.functions) ≡ None → AllAre (IsInPlace i x) (filter is_defined x.functions)
all_placed i x h = are_placed (order_of i x) (filter is_defined x.functions) (ap (λ (ns : List (List ℕ)). misplaced ns (filter is_defined x.functions)) (ordered i x) ∙ h)

of_place : (i : Interface) (x : Module) (e : ImageFault) → NoOwnGlobal x → NoOwnImport x → AllThere i x → misplaced (defined_names x.functions ++ map (λ w. w.name) (right_wrappers i x)) (filter is_defined x.functions) ≡ Some e → IsPlaceFault i x e
of_place i x e globals imports wrappers h =
    let r = is_misplaced (order_of i x) (filter is_defined x.functions) e (ap (λ (ns : List (List ℕ)). misplaced ns (filter is_defined x.functions)) (ordered i x) ∙ h) in
    record { globals = globals; imports = imports; wrappers = wrappers; function = r.function; first = r.first; tells = r.tells }

-- conflicts

below_found : (p : ℕ → Bool) (n k : ℕ) → find p (below n) ≡ Some k → k < n
below_found p zero k h = none_some h
below_found p (suc n) k h = by (or_some (find p (below n)) (find p (n ∷ [])) k (sym (find-append p (below n) (n ∷ [])) ∙ h)) (below_found p n k)
  where
    last : (b : Bool) → cond b (Some n) None ≡ Some k → k < suc n
    last true s = let same : n ≡ k = some_same s in omega (arith, same)
    last false s = none_some s

    by : (find p (below n) ≡ Some k) ⊎ ((find p (below n) ≡ None) × (find p (n ∷ []) ≡ Some k)) → (find p (below n) ≡ Some k → k < n) → k < suc n
    by (inl s) later = let less : k < n = later s in omega (arith, less)
    by (inr (none, s)) later = last (p n) s

below_none : (p : ℕ → Bool) (n k : ℕ) → find p (below n) ≡ None → k < n → p k ≡ false
below_none p zero k h less = absurd (omega (arith, less))
below_none p (suc n) k h less =
    let o = neither_some (find p (below n)) (find p (n ∷ [])) (sym (find-append p (below n) (n ∷ [])) ∙ h) in
    by (below_next k n (omega (arith, less))) (below_none p n k o.0) (failed (p n) n o.1)
  where
    by : (k < n) ⊎ (k ≡ n) → (k < n → p k ≡ false) → p n ≡ false → p k ≡ false
    by (inl l) later last = later l
    by (inr e) later last = ap p e ∙ last

body_by : (i : Interface) (y : Module) (n : ℕ) (f : Function) (w : Bool) (c : Conflict) → is_wrapper f ≡ w → conflict_at i y n (cond w (record f { blocks = None }) f) ≡ Some c → (is_wrapper f ≡ false) × (conflict_at i y n f ≡ Some c)
body_by i y n f true c is h = none_some h
body_by i y n f false c is h = (is, h)

defined_by : (b : Bool) (o : Option Conflict) (c : Conflict) → cond b o None ≡ Some c → (b ≡ true) × (o ≡ Some c)
defined_by true o c h = (refl, h)
defined_by false o c h = none_some h

record Two (i : Interface) (y : Module) (n : ℕ) (f : Function) (c : Conflict) : Type 0 where
  one : ℕ
  other : ℕ
  one_within : one < length i.slots
  other_within : other < length i.slots
  one_got : gets i y n one ≡ true
  other_got : gets i y n other ≡ true
  apart : slot_text i one ≡ slot_text i other → ⊥
  is : conflict i f one other ≡ c

texts_apart : (i : Interface) (s t : ℕ) → differ i s t ≡ true → slot_text i s ≡ slot_text i t → ⊥
texts_apart i s t d e = clash (differ i s t) d (ap not (ap (bytes_eq (slot_text i s)) (sym e) ∙ bytes_itself (slot_text i s)))

two_by : (i : Interface) (y : Module) (n : ℕ) (f : Function) (o : Option ℕ) (c : Conflict) → slot_of i y n ≡ o → conflict_with i y n f o ≡ Some c → Two i y n f c
two_by i y n f None c is h = none_some h
two_by i y n f (Some s) c is h =
    let m = map_some (λ t. conflict i f s t) (other_slot i y n s) c h in
    let both = found_is (λ t. gets i y n t && differ i s t) (below (length i.slots)) m.0 m.1 in
    record {
      one = s;
      other = m.0;
      one_within = below_found (gets i y n) (length i.slots) s is;
      other_within = below_found (λ t. gets i y n t && differ i s t) (length i.slots) m.0 m.1;
      one_got = found_is (gets i y n) (below (length i.slots)) s is;
      other_got = first_of (gets i y n m.0) (differ i s m.0) both;
      apart = texts_apart i s m.0 (second_of (gets i y n m.0) (differ i s m.0) both);
      is = m.2;
    }

-- what a conflict found tells
record Told (i : Interface) (x : Module) (n : ℕ) (f : Function) (c : Conflict) : Type 0 where
  two : GetsTwo i x n f
  line : c.line ≡ f.line
  name : c.function ≡ f.name

conflict_told : (i : Interface) (x : Module) (n : ℕ) (f : Function) (c : Conflict) → conflict_at i (without_wrappers x) n (without_body f) ≡ Some c → Told i x n f c
conflict_told i x n f c h =
    let b = body_by i (without_wrappers x) n f (is_wrapper f) c refl h in
    let d = defined_by (is_defined f) (conflict_with i (without_wrappers x) n f (slot_of i (without_wrappers x) n)) c b.1 in
    let t = two_by i (without_wrappers x) n f (slot_of i (without_wrappers x) n) c refl d.1 in
    record {
      two = record { defined = d.0; program = b.0; one = t.one; other = t.other; one_within = t.one_within; other_within = t.other_within; one_got = t.one_got; other_got = t.other_got; differ = t.apart };
      line = ap (λ (a : Conflict). a.line) (sym t.is);
      name = ap (λ (a : Conflict). a.function) (sym t.is);
    }

and_second : (a b : Bool) → (a && b) ≡ false → a ≡ true → b ≡ false
and_second true b h e = h
and_second false b h e = false_true e

not_apart : (i : Interface) (s t : ℕ) → differ i s t ≡ false → slot_text i s ≡ slot_text i t
not_apart i s t d = by (bytes_eq (slot_text i s) (slot_text i t)) refl d
  where
    by : (b : Bool) → bytes_eq (slot_text i s) (slot_text i t) ≡ b → not b ≡ false → slot_text i s ≡ slot_text i t
    by true e n = same_bytes (slot_text i s) (slot_text i t) e
    by false e n = true_false n

agreed_by : (i : Interface) (x : Module) (n : ℕ) (f : Function) (o : Option ℕ) → slot_of i (without_wrappers x) n ≡ o → conflict_with i (without_wrappers x) n f o ≡ None → GetsTwo i x n f → ⊥
agreed_by i x n f None is h g = clash (gets i (without_wrappers x) n g.one) g.one_got (below_none (gets i (without_wrappers x) n) (length i.slots) g.one is g.one_within)
agreed_by i x n f (Some s) is h g =
    let none = map_none (λ t. conflict i f s t) (other_slot i (without_wrappers x) n s) h in
    let one = and_second (gets i (without_wrappers x) n g.one) (differ i s g.one) (below_none (λ t. gets i (without_wrappers x) n t && differ i s t) (length i.slots) g.one none g.one_within) g.one_got in
    let other = and_second (gets i (without_wrappers x) n g.other) (differ i s g.other) (below_none (λ t. gets i (without_wrappers x) n t && differ i s t) (length i.slots) g.other none g.other_within) g.other_got in
    g.differ (sym (not_apart i s g.one one) ∙ not_apart i s g.other other)

agreed : (i : Interface) (x : Module) (n : ℕ) (f : Function) → conflict_at i (without_wrappers x) n (without_body f) ≡ None → GetsTwo i x n f → ⊥
agreed i x n f h g =
    let plain = sym (ap (λ (b : Bool). conflict_at i (without_wrappers x) n (cond b (record f { blocks = None }) f)) g.program) ∙ h in
    let inside = sym (ap (λ (b : Bool). cond b (conflict_with i (without_wrappers x) n f (slot_of i (without_wrappers x) n)) None) g.defined) ∙ plain in
    agreed_by i x n f (slot_of i (without_wrappers x) n) refl inside g

first_conflict : (i : Interface) (y : Module) (Good Bad : ℕ → Function → Type 0) (k : ℕ) (fs : List Function) (c : Conflict)
    → AllAre (λ n f. conflict_at i y (k + n) (without_body f) ≡ None → Good n f) fs → AllAre (λ n f. conflict_at i y (k + n) (without_body f) ≡ Some c → Bad n f) fs
    → conflict_from i y k (map without_body fs) ≡ Some c → (f : Function) × IsFirstBad Good Bad fs f
first_conflict i y Good Bad k [] c good bad h = none_some h
first_conflict i y Good Bad k (f ∷ fs) c good bad h =
    by (or_some (conflict_at i y k (without_body f)) (conflict_from i y (suc k) (map without_body fs)) c h)
    (first_conflict i y (λ n. Good (suc n)) (λ n. Bad (suc n)) (suc k) fs c (λ n g at none. good (suc n) g at (ap (λ (m : ℕ). conflict_at i y m (without_body g)) (more_onto k n) ∙ none)) (λ n g at some. bad (suc n) g at (ap (λ (m : ℕ). conflict_at i y m (without_body g)) (more_onto k n) ∙ some)))
  where
    here : k + 0 ≡ k
    here = omega arith

    by : (conflict_at i y k (without_body f) ≡ Some c) ⊎ ((conflict_at i y k (without_body f) ≡ None) × (conflict_from i y (suc k) (map without_body fs) ≡ Some c)) → (conflict_from i y (suc k) (map without_body fs) ≡ Some c → (g : Function) × IsFirstBad (λ n. Good (suc n)) (λ n. Bad (suc n)) fs g) → (g : Function) × IsFirstBad Good Bad (f ∷ fs) g
    by (inl s) later = (f, bad_here Good Bad f fs (bad 0 f refl (ap (λ (m : ℕ). conflict_at i y m (without_body f)) here ∙ s)))
    by (inr (none, s)) later = let r = later s in (r.0, bad_more Good Bad f r.0 fs (good 0 f refl (ap (λ (m : ℕ). conflict_at i y m (without_body f)) here ∙ none)) r.1)

of_conflict : (i : Interface) (x : Module) (e : ImageFault) → NoOwnGlobal x → NoOwnImport x → AllThere i x → AllAre (IsInPlace i x) (filter is_defined x.functions) → option_map conflict_fault (conflict_of i (without_wrappers x)) ≡ Some e → IsConflictFault i x e
of_conflict i x e globals imports wrappers places h =
    let m = map_some conflict_fault (conflict_of i (without_wrappers x)) e h in
    let r = first_conflict i (without_wrappers x) (λ n f. GetsTwo i x n f → ⊥) (λ n f. Told i x n f m.0) 0 x.functions m.0
    (λ n f at none. agreed i x n f (ap (λ (k : ℕ). conflict_at i (without_wrappers x) k (without_body f)) (zero_more n) ∙ none))
    (λ n f at some. conflict_told i x n f m.0 (ap (λ (k : ℕ). conflict_at i (without_wrappers x) k (without_body f)) (zero_more n) ∙ some)) m.1 in
    let t = told m.0.line m.0.function 0 e (ap (λ (f : ImageFault). Some f) m.2) in
    let b = r.1.bad in
    record {
      globals = globals;
      imports = imports;
      wrappers = wrappers;
      places = places;
      function = r.0;
      first = record { place = r.1.place; at = r.1.at; bad = b.two; before = r.1.before };
      tells = record { kind = t.kind; line = t.line ∙ b.line; function = t.function ∙ b.name; place = t.place };
    }

-- the whole

pub is_wrapper_fault : (i : Interface) (x : Module) (e : ImageFault) → first_some (fault_in_function x) x.functions ≡ None → whole_fault i x ≡ Some e → IsWrapperFault i x e
is_wrapper_fault i x e code h = record { code = right_all x code; first = one (or_some (first_some (global_fault x) x.globals) _ e h) }
  where
    five : NoOwnGlobal x → NoOwnImport x → AllThere i x → (misplaced (defined_names x.functions ++ map (λ w. w.name) (right_wrappers i x)) (filter is_defined x.functions) ≡ Some e) ⊎ ((misplaced (defined_names x.functions ++ map (λ w. w.name) (right_wrappers i x)) (filter is_defined x.functions) ≡ None) × (option_map conflict_fault (conflict_of i (without_wrappers x)) ≡ Some e)) → IsGlobalFault x e ⊎ IsImportFault x e ⊎ IsLackedWrapper i x e ⊎ IsPlaceFault i x e ⊎ IsConflictFault i x e
    five g m w (inl s) = inr (inr (inr (inl (of_place i x e g m w s))))
    five g m w (inr (none, s)) = inr (inr (inr (inr (of_conflict i x e g m w (all_placed i x none) s))))

    three : NoOwnGlobal x → NoOwnImport x → (first_some (missing_fault x) (right_wrappers i x) ≡ Some e) ⊎ ((first_some (missing_fault x) (right_wrappers i x) ≡ None) × (option_or (misplaced (defined_names x.functions ++ map (λ w. w.name) (right_wrappers i x)) (filter is_defined x.functions)) (option_map conflict_fault (conflict_of i (without_wrappers x))) ≡ Some e)) → IsGlobalFault x e ⊎ IsImportFault x e ⊎ IsLackedWrapper i x e ⊎ IsPlaceFault i x e ⊎ IsConflictFault i x e
    three g m (inl s) = inr (inr (inl (of_wrapper i x e g m s)))
    three g m (inr (none, s)) = five g m (all_there i x none) (or_some (misplaced (defined_names x.functions ++ map (λ w. w.name) (right_wrappers i x)) (filter is_defined x.functions)) (option_map conflict_fault (conflict_of i (without_wrappers x))) e s)

    two : NoOwnGlobal x → (first_some import_fault x.functions ≡ Some e) ⊎ ((first_some import_fault x.functions ≡ None) × (option_or (first_some (missing_fault x) (right_wrappers i x)) (option_or (misplaced (defined_names x.functions ++ map (λ w. w.name) (right_wrappers i x)) (filter is_defined x.functions)) (option_map conflict_fault (conflict_of i (without_wrappers x)))) ≡ Some e)) → IsGlobalFault x e ⊎ IsImportFault x e ⊎ IsLackedWrapper i x e ⊎ IsPlaceFault i x e ⊎ IsConflictFault i x e
    two g (inl s) = inr (inl (of_import x e g s))
    two g (inr (none, s)) = three g (no_import x none) (or_some (first_some (missing_fault x) (right_wrappers i x)) (option_or (misplaced (defined_names x.functions ++ map (λ w. w.name) (right_wrappers i x)) (filter is_defined x.functions)) (option_map conflict_fault (conflict_of i (without_wrappers x)))) e s)

    one : (first_some (global_fault x) x.globals ≡ Some e) ⊎ ((first_some (global_fault x) x.globals ≡ None) × (option_or (first_some import_fault x.functions) (option_or (first_some (missing_fault x) (right_wrappers i x)) (option_or (misplaced (defined_names x.functions ++ map (λ w. w.name) (right_wrappers i x)) (filter is_defined x.functions)) (option_map conflict_fault (conflict_of i (without_wrappers x))))) ≡ Some e)) → IsGlobalFault x e ⊎ IsImportFault x e ⊎ IsLackedWrapper i x e ⊎ IsPlaceFault i x e ⊎ IsConflictFault i x e
    one (inl s) = inl (of_global x e s)
    one (inr (none, s)) = two (no_global x none) (or_some (first_some import_fault x.functions) (option_or (first_some (missing_fault x) (right_wrappers i x)) (option_or (misplaced (defined_names x.functions ++ map (λ w. w.name) (right_wrappers i x)) (filter is_defined x.functions)) (option_map conflict_fault (conflict_of i (without_wrappers x))))) e s)
