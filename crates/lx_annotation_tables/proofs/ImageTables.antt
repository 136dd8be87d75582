-- What images have, counted.
use Rattle.std.proofs.Common.{◌≡◌, ℕ, zero, suc, ◌+◌, ◌<◌, ◌≤◌, Bool, true, false, cond, not, ◌&&◌, ◌||◌, Option, Some, None, List, [], ◌∷◌, ◌++◌, length, get_or, take, fold, map, count_by, if◌then◌else◌, refl, ap, sym, ◌∙◌, arith, add-one, zero-add, find}
use Rattle.std.specs.Prelude.{slice_get, is_some, bytes_eq, codes, option_map}
use Rattle.std.specs.List.{enumerate_from, list_any}
use Rattle.std.proofs.lemmas.List.{take_more, take_all}
use Rattle.std.proofs.lemmas.List.FromFn.{length-enumerate_from, get_or-enumerate_from}
use Rattle.std.proofs.lemmas.List.Sums.{sum_by-append}
use Rattle.lx_words.proofs.Lists.{map_length, map_append}
use Rattle.lx_ir.specs.declared.module.Function.{Function}
use Rattle.lx_ir.specs.declared.module.Module.{Module}
use Rattle.lx_ir.specs.declared.instr.Instr.{Instr}
use Rattle.lx_ir.specs.Lookup.{all_instrs, is_defined, is_write, is_indirect_call}
use Rattle.lx_annot.specs.declared.interface.Interface.{Interface}
use Rattle.lx_slot_types.specs.declared.Marked.{Marked}
use Rattle.lx_slot_types.specs.Gets.{below, slot_of}
use Rattle.lx_model.specs.declared.account.ImageCount.{ImageCount}
use Rattle.lx_model.specs.declared.program.Program.{Program}
use Rattle.lx_model.specs.declared.program.ProgramModule.{ProgramModule}
use Rattle.lx_model.specs.Account.{image_count}
use Rattle.lx_model.specs.Program.{module_or_empty}
use Rattle.lx_propagate.specs.Slots.{annotated_of, marked}
use Rattle.lx_annotation_tables.specs.Entries.{all_annotated}
use Rattle.lx_model.specs.Account.{has_wrapper}
use Rattle.lx_annotation_tables.specs.Images.{image_of, inserted_in, is_behind, is_wrapped}
use Rattle.lx_annotation_tables.specs.declared.images.Inserted.TheVariants.{Guard, Check}
use Rattle.lx_annotation_tables.proofs.Texts.{first_there, goes_on}
use Rattle.lx_annotation_tables.proofs.Told.{is_of, found_marked}

-- one function more

module _ (list : List Marked) (xs : List Function) where
  abbrev numbered : List (ℕ × Function)
  numbered = enumerate_from 0 xs

  taken : (k : ℕ) (x : Function) → k < length xs → x ≡ get_or xs k x → take (k + 1) numbered ≡ take k numbered ++ (k, x) ∷ []
  taken k x h e =
      let n = length-enumerate_from 0 xs in
      take_more numbered k (0, x) (omega arith)
      ∙ ap (λ y. take k numbered ++ y ∷ []) (get_or-enumerate_from 0 xs k (0, x) h ∙ ap (λ i. (i, get_or xs k x)) (zero-add k) ∙ ap (λ y. (k, y)) (sym e))

  pub wrapped_more : (k : ℕ) (x : Function) (count next : ℕ) → k < length xs → x ≡ get_or xs k x → count ≡ count_by (is_wrapped list) (take k numbered) → next ≡ count + cond (is_wrapped list (k, x)) 1 0
      → next ≡ count_by (is_wrapped list) (take (k + 1) numbered)
  wrapped_more k x count next h e c n =
      n ∙ ap (λ z. z + cond (is_wrapped list (k, x)) 1 0) c
      ∙ sym (ap (count_by (is_wrapped list)) (taken k x h e) ∙ sum_by-append (λ y. cond (is_wrapped list y) 1 0) (take k numbered) ((k, x) ∷ []) ∙ ap (λ z. count_by (is_wrapped list) (take k numbered) + z) (zero-add (cond (is_wrapped list (k, x)) 1 0)))

  pub wrapped_all : (k count : ℕ) → length xs ≤ k → count ≡ count_by (is_wrapped list) (take k numbered) → count ≡ count_by (is_wrapped list) numbered
  wrapped_all k count h c =
      let n = length-enumerate_from 0 xs in c ∙ ap (count_by (is_wrapped list)) (take_all k numbered (omega arith))

-- the annotated functions are those that get a slot type

by_first : {A : Type 0} (b : Bool) (x : A) (o : Option A) (r : Bool) → r ≡ is_some o → (b || r) ≡ is_some (cond b (Some x) o)
by_first true x o r h = refl
by_first false x o r h = h

pub any_found : {A : Type 0} (p : A → Bool) (xs : List A) → list_any p xs ≡ is_some (find p xs)
any_found p [] = refl
any_found p (x ∷ xs) = by_first (p x) x (find p xs) (list_any p xs) (any_found p xs)

some_marked : (k : ℕ) (o : Option ℕ) → is_some (option_map (marked k) o) ≡ is_some o
some_marked k None = refl
some_marked k (Some s) = refl

wrapped_by : (d a s b : Bool) → (d ≡ true → a ≡ s) → (if d then a else not b) ≡ ((not d && not b) || (d && s))
wrapped_by true a s b h = h refl
wrapped_by false a s true h = refl
wrapped_by false a s false h = refl

same_wrapped : (i : Interface) (m : Module) (k : ℕ) (f : Function) → slice_get m.functions k ≡ Some f → is_wrapped (annotated_of i m) (k, f) ≡ has_wrapper i m (k, f)
unfolding is_wrapped
same_wrapped i m k f there =
    wrapped_by (is_defined f) (list_any (is_of k) (annotated_of i m)) (is_some (slot_of i m k)) (bytes_eq f.name (codes "lxfi_princ_alias"))
    (λ d. any_found (is_of k) (annotated_of i m) ∙ (ap is_some (found_marked i m k (record { function = f; there = there; defined = d })) ∙ some_marked k (slot_of i m k)))

wrapped_from : (i : Interface) (m : Module) (n : ℕ) (fs : List Function) (sum : ℕ) → ((j : ℕ) → slice_get m.functions (n + j) ≡ slice_get fs j)
    → fold (λ a x. a + cond (is_wrapped (annotated_of i m) x) 1 0) sum (enumerate_from n fs) ≡ fold (λ a x. a + cond (has_wrapper i m x) 1 0) sum (enumerate_from n fs)
wrapped_from i m n [] sum there = refl
wrapped_from i m n (f ∷ fs) sum there =
    let same : is_wrapped (annotated_of i m) (n, f) ≡ has_wrapper i m (n, f) = same_wrapped i m n f (first_there m.functions n f fs there) in
    ap (λ b. fold (λ a x. a + cond (is_wrapped (annotated_of i m) x) 1 0) (sum + cond b 1 0) (enumerate_from (n + 1) fs)) same
    ∙ wrapped_from i m (n + 1) fs (sum + cond (has_wrapper i m (n, f)) 1 0) (goes_on m.functions n f fs there)

wrapped_are : (i : Interface) (m : Module) → count_by (is_wrapped (annotated_of i m)) (enumerate_from 0 m.functions) ≡ count_by (has_wrapper i m) (enumerate_from 0 m.functions)
wrapped_are i m = wrapped_from i m 0 m.functions 0 (λ j. ap (slice_get m.functions) (zero-add j))

guards_are : (i : Instr) → is_behind Guard i ≡ is_write i.op
unfolding is_behind
guards_are i = refl

checks_are : (i : Instr) → is_behind Check i ≡ is_indirect_call i.op
unfolding is_behind
checks_are i = refl

-- the image of a module by what was counted
pub image_by : (i : Interface) (m : Module) (list : List Marked) (guards checks wrappers : ℕ) → list ≡ annotated_of i m → guards ≡ inserted_in Guard m.functions → checks ≡ inserted_in Check m.functions
    → wrappers ≡ count_by (is_wrapped list) (enumerate_from 0 m.functions) → record { guards = guards; checks = checks; wrappers = wrappers } ≡ image_of i m
unfolding image_of
image_by i m list guards checks wrappers l g c w =
    let gs : guards ≡ count_by (λ (x : Instr). is_write x.op) (all_instrs m) = g ∙ (λ j. count_by (λ (x : Instr). guards_are x j) (all_instrs m)) in
    let cs : checks ≡ count_by (λ (x : Instr). is_indirect_call x.op) (all_instrs m) = c ∙ (λ j. count_by (λ (x : Instr). checks_are x j) (all_instrs m)) in
    let ws : wrappers ≡ count_by (has_wrapper i m) (enumerate_from 0 m.functions) = w ∙ (ap (λ xs. count_by (is_wrapped xs) (enumerate_from 0 m.functions)) l ∙ wrapped_are i m) in
    λ j. record { guards = gs j; checks = cs j; wrappers = ws j }

-- one module more

image_is : (p : Program) (k : ℕ) (m : ProgramModule) → slice_get p.modules k ≡ Some m → image_count p k ≡ image_of p.interface m.«module»
unfolding image_of
image_is p k m e = ap (λ o. image_of p.interface (module_or_empty o)) e

mapped_at : {A B : Type 0} (f : A → B) (xs : List A) (k : ℕ) (x : A) → k < length xs → x ≡ get_or xs k x → (y : B) → y ≡ get_or (map f xs) k y → y ≡ f x
mapped_at f [] k x h e y d = absurd (omega (arith, h))
mapped_at f (z ∷ zs) zero x h e y d = d ∙ ap f (sym e)
mapped_at f (z ∷ zs) (suc k) x h e y d = mapped_at f zs k x (omega (arith, h)) e y d

there_at : {A : Type 0} (xs : List A) (k : ℕ) (x : A) → k < length xs → x ≡ get_or xs k x → slice_get xs k ≡ Some x
there_at [] k x h e = absurd (omega (arith, h))
there_at (y ∷ ys) zero x h e = ap Some (sym e)
there_at (y ∷ ys) (suc k) x h e = there_at ys k x (omega (arith, h)) e

-- the annotated functions of a module by its number
pub annotated_at : (p : Program) (all : List (List Marked)) (k : ℕ) (m : ProgramModule) (list : List Marked) → all ≡ all_annotated p → k < length p.modules → m ≡ get_or p.modules k m → list ≡ get_or all k list → list ≡ annotated_of p.interface m.«module»
annotated_at p all k m list is h e d =
    mapped_at (λ (x : ProgramModule). annotated_of p.interface x.«module») p.modules k m h e list (d ∙ ap (λ xs. get_or xs k list) is)

pub annotated_long : (p : Program) (all : List (List Marked)) (k : ℕ) → all ≡ all_annotated p → k < length p.modules → k < length all
annotated_long p all k is h =
    let e : length all ≡ length p.modules = ap length is ∙ map_length (λ (x : ProgramModule). annotated_of p.interface x.«module») p.modules in omega (arith, e, h)

pub images_more : (p : Program) (k : ℕ) (m : ProgramModule) (c : ImageCount) (old new : List ImageCount) → k < length p.modules → m ≡ get_or p.modules k m → c ≡ image_of p.interface m.«module»
    → old ≡ map (image_count p) (below k) → new ≡ old ++ c ∷ [] → new ≡ map (image_count p) (below (k + 1))
images_more p k m c old new h e is was n =
    n ∙ ((λ j. was j ++ (is ∙ sym (image_is p k m (there_at p.modules k m h e))) j ∷ [])
    ∙ sym (ap (λ i. map (image_count p) (below i)) (add-one k) ∙ map_append (image_count p) (below k) (k ∷ [])))
