-- A program with the images of its modules is accepted.
use Rattle.std.proofs.Common.{◌≡◌, ℕ, zero, suc, ◌+◌, ◌<◌, ◌≤◌, Bool, true, false, not, List, [], ◌∷◌, ◌++◌, length, map, take, drop, Option, Some, None, inl, inr, refl, sym, ◌∙◌, ap}
use Rattle.std.specs.Prelude.{slice_get, option_map, option_and_then, filter, cond, nat_eq, unwrap_or, codes}
use Rattle.std.specs.List.{list_all, starts_with}
use Rattle.std.proofs.lemmas.Option.{slice_get-map, slice_get_past}
use Rattle.std.proofs.lemmas.Bool.{cases_lt, and_from}
use Rattle.lx_words.proofs.Tests.{true_false}
use Rattle.lx_words.proofs.Options.{none_some, some_same}
use Rattle.lx_words.proofs.Lists.{all_at, there_is, got_past, got_take, got_first, split_at}
use Rattle.lx_ir.specs.declared.module.Block.{Block}
use Rattle.lx_ir.specs.declared.module.Function.{Function}
use Rattle.lx_ir.specs.declared.module.GlobalVar.{GlobalVar}
use Rattle.lx_ir.specs.declared.module.Module.{Module}
use Rattle.lx_ir.specs.declared.instr.Instr.{Instr}
use Rattle.lx_ir.specs.declared.instr.Op.{Op}
use Rattle.lx_ir.specs.declared.instr.Op.TheVariants as op
use Rattle.lx_ir.specs.Lookup.{blocks_of, instrs_of, all_instrs}
use Rattle.lx_ir.specs.Lawful.{IsPlain, is_own_name, symbol_names}
use Rattle.lx_ir.specs.Operands.{is_image_line}
use Rattle.lx_annot.specs.declared.interface.Interface.{Interface}
use Rattle.lx_image_texts.specs.Marks.{is_wrapped, one_if, wrapped_before, wrapper_number}
use Rattle.lx_images.specs.ImageCode.{text_op, image_ops, Bare}
use Rattle.lx_image_texts.specs.Guards.{FunctionText, function_text, Guards}
use Rattle.lx_image_texts.specs.WrapperText.{out_if, out_wrappers, in_wrappers, wrappers_of}
use Rattle.lx_image_texts.proofs.Calling.{wrapped_at, guarded_at}
use Rattle.lx_model.specs.declared.program.Program.{Program}
use Rattle.lx_model.specs.declared.program.ProgramModule.{ProgramModule}
use Rattle.lx_model.specs.declared.program.ProgramFunction.{ProgramFunction}
use Rattle.lx_model.specs.declared.program.ProgramFunction.TheVariants.{Of, Native}
use Rattle.lx_model.specs.Program.{home_of_entry, function_of_entry, kernel_function, module_of, module_or_empty}
use Rattle.lx_model.specs.Thread.{code_block_of, routine_of, routine_or_none}
use Rattle.lx_images.specs.Code.{Code, image_routine, image_of_entry, wrapped_name, out_import}
use Rattle.lx_simulation.proofs.Wrapping.{images_wrap, guarded_names, front}
use Rattle.lx_images.specs.Guarded.{bare_of, bare_among, image_block, routine_in_image, guarded_routine, function_spares_well, CallsOutIf, CallsOut, Accepted}
use Rattle.lx_images.specs.HasImages.{HasImages}
use Rattle.lx_images.specs.Places.{IsIn}
use Rattle.lx_simulation.proofs.Elements.{all_in, in_flat, in_got, in_map, in_second}
use Rattle.lx_simulation.proofs.Verifying.{sound}
use Rattle.lx_simulation.proofs.Imaging.{function_shown}

-- the names of the image's functions

abbrev out_prefix : List ℕ
out_prefix = codes "lxfi.out."

abbrev names_of : List Function → List (List ℕ)
names_of fs = map (λ f. f.name) fs

-- the names of the wrappers of imports, in order
abbrev out_names : List Function → List (List ℕ)
out_names fs = map (λ f. out_prefix ++ f.name) (filter is_wrapped fs)

abbrev has_plain_name : Function → Bool
has_plain_name f = not (starts_with nat_eq f.name out_prefix)

record IsImage (m i : Module) : Type 0 where
  others : List (List ℕ)
  names : names_of i.functions ≡ names_of m.functions ++ (out_names m.functions ++ others)
  plain : list_all has_plain_name m.functions ≡ true

-- lists

-- an import's wrapper stands behind as many as there_is are before it
wrapped_cases : (y : Function) (ys : List Function) (k : ℕ) (x : Function) (b : Bool) → is_wrapped y ≡ b →
    slice_get (filter is_wrapped ys) (wrapped_before ys k) ≡ Some x → slice_get (cond b (y ∷ filter is_wrapped ys) (filter is_wrapped ys)) (one_if b (wrapped_before ys k)) ≡ Some x
wrapped_cases y ys k x true e h = h
wrapped_cases y ys k x false e h = h

-- names of the parts

names_append : (xs ys : List Function) → names_of (xs ++ ys) ≡ names_of xs ++ names_of ys
names_append [] ys = refl
names_append (x ∷ xs) ys = ap (λ (ns : List (List ℕ)). x.name ∷ ns) (names_append xs ys)

text_names : (xs : List Function) → map (λ (t : FunctionText). t.name) (map function_text xs) ≡ names_of xs
text_names [] = refl
text_names (x ∷ xs) = ap (λ (ns : List (List ℕ)). x.name ∷ ns) (text_names xs)

out_one : (i : Interface) (n : ℕ) (f : Function) (fs : List Function) (b : Bool) → is_wrapped f ≡ b → names_of (out_wrappers i (suc n) fs) ≡ out_names fs → names_of (out_if b i n f ++ out_wrappers i (suc n) fs) ≡ map (λ (g : Function). out_prefix ++ g.name) (cond b (f ∷ filter is_wrapped fs) (filter is_wrapped fs))
out_one i n f fs true e ih = ap (λ (ns : List (List ℕ)). (out_prefix ++ f.name) ∷ ns) ih
out_one i n f fs false e ih = ih

out_wrapper_names : (i : Interface) (n : ℕ) (fs : List Function) → names_of (out_wrappers i n fs) ≡ out_names fs
out_wrapper_names i n [] = refl
out_wrapper_names i n (f ∷ fs) = out_one i n f fs (is_wrapped f) refl (out_wrapper_names i (suc n) fs)

wrapper_names : (i : Interface) (m x : Module) → Guards i m x → names_of (drop (length m.functions) x.functions) ≡ out_names m.functions ++ names_of (in_wrappers i m)
wrapper_names i m x g =
    sym (text_names (drop (length m.functions) x.functions)) ∙ (ap (map (λ (t : FunctionText). t.name)) g.wrappers ∙ (text_names (wrappers_of i m)
    ∙ (names_append (out_wrappers i 0 m.functions) (in_wrappers i m) ∙ ap (λ (ns : List (List ℕ)). ns ++ names_of (in_wrappers i m)) (out_wrapper_names i 0 m.functions))))

image_names : (i : Interface) (m x : Module) → Guards i m x → names_of x.functions ≡ names_of m.functions ++ (out_names m.functions ++ names_of (in_wrappers i m))
image_names i m x g =
    ap names_of (sym (split_at (length m.functions) x.functions)) ∙ (names_append (take (length m.functions) x.functions) (drop (length m.functions) x.functions)
    ∙ (λ j. guarded_names m m.functions (take (length m.functions) x.functions) g.functions j ++ wrapper_names i m x g j))

-- a plain name is no wrapper's

not_longer : (name : List ℕ) (b : Bool) → starts_with nat_eq name (codes "lxfi.out.") ≡ b → not (is_own_name name) ≡ true → not b ≡ true
not_longer name true e h = ap not (sym (front (codes "lxfi.") (codes "out.") name e)) ∙ h
not_longer name false e h = refl

all_of : {A : Type 0} (p : A → Bool) (xs : List A) → ((x : A) → IsIn x xs → p x ≡ true) → list_all p xs ≡ true
all_of p [] h = refl
all_of p (x ∷ xs) h = and_from (p x) (list_all p xs) (h x (inl refl)) (all_of p xs (λ y i. h y (inr i)))

plain_names : (m : Module) → IsPlain m → list_all has_plain_name m.functions ≡ true
plain_names m p =
    all_of has_plain_name m.functions (λ f i. not_longer f.name (starts_with nat_eq f.name (codes "lxfi.out.")) refl
    (all_in (λ (n : List ℕ). not (is_own_name n)) (symbol_names m) f.name p.names (in_second f.name (map (λ (g : GlobalVar). g.name) m.globals) (map (λ (g : Function). g.name) m.functions) (in_map (λ (g : Function). g.name) f m.functions i))))

image_of_guards : (i : Interface) (m x : Module) → Guards i m x → IsImage m x
image_of_guards i m x g = record { others = names_of (in_wrappers i m); names = image_names i m x g; plain = plain_names m g.plain }

-- wrappers

pub image_got : (c : Code) (m : ℕ) (i : Module) (f : ℕ) → slice_get c.images m ≡ Some i → option_and_then (λ (x : Module). slice_get x.functions f) (slice_get c.images m) ≡ slice_get i.functions f
image_got c m i f e = ap (λ (x : Option Module). option_and_then (λ (y : Module). slice_get y.functions f) x) e

named_at : (fs : List Function) (k : ℕ) (x : List ℕ) → slice_get (names_of fs) k ≡ Some x → (f : Function) × (slice_get fs k ≡ Some f) × (f.name ≡ x)
named_at [] k x e = cc
named_at (f ∷ fs) zero x e = (f, refl, some_same e)
named_at (f ∷ fs) (suc k) x e = named_at fs k x e

out_named : (fs : List Function) (k : ℕ) (g : Function) → slice_get fs k ≡ Some g → is_wrapped g ≡ true → slice_get (out_names fs) (wrapped_before fs k) ≡ Some (out_prefix ++ g.name)
out_named fs k g e t =
    slice_get-map (λ f. out_prefix ++ f.name) (filter is_wrapped fs) (wrapped_before fs k) ∙ ap (option_map (λ f. out_prefix ++ f.name)) (wrapped_at fs k g e t)

prefixed : (x : List ℕ) → cond (starts_with nat_eq (out_prefix ++ x) out_prefix) (Some (drop 9 (out_prefix ++ x))) None ≡ Some x
prefixed x = refl

unprefixed : (b : Bool) (x : Option (List ℕ)) → not b ≡ true → cond b x None ≡ None
unprefixed true x e = cc
unprefixed false x e = refl

wraps_name : (f : Function) (x : List ℕ) → f.name ≡ out_prefix ++ x → wrapped_name (Some f) ≡ Some x
wraps_name f x e = ap (λ (n : List ℕ). cond (starts_with nat_eq n out_prefix) (Some (drop 9 n)) None) e ∙ prefixed x

wraps_none : (f : Function) (g : Function) → f.name ≡ g.name → has_plain_name g ≡ true → wrapped_name (Some f) ≡ None
wraps_none f g e t = ap (λ (n : List ℕ). cond (starts_with nat_eq n out_prefix) (Some (drop 9 n)) None) e ∙ unprefixed (starts_with nat_eq g.name out_prefix) (Some (drop 9 g.name)) t

-- the name of a function of the image
same_name : (m i : Module) → IsImage m i → (f : ℕ) (g : Function) → slice_get m.functions f ≡ Some g → (x : Function) × (slice_get i.functions f ≡ Some x) × (x.name ≡ g.name)
same_name m i is f g e =
    named_at i.functions f g.name
    (ap (λ (ns : List (List ℕ)). slice_get ns f) is.names
    ∙ got_first (names_of m.functions) (out_names m.functions ++ is.others) f g.name (slice_get-map (λ h. h.name) m.functions f ∙ ap (option_map (λ h. h.name)) e))

length_names : (fs : List Function) → length (names_of fs) ≡ length fs
length_names [] = refl
length_names (f ∷ fs) = ap suc (length_names fs)

wrapper_name : (m i : Module) → IsImage m i → (f : ℕ) (g : Function) → slice_get m.functions f ≡ Some g → is_wrapped g ≡ true →
    (x : Function) × (slice_get i.functions (wrapper_number m f) ≡ Some x) × (x.name ≡ out_prefix ++ g.name)
wrapper_name m i is f g e t =
    named_at i.functions (wrapper_number m f) (out_prefix ++ g.name)
    (ap (λ (ns : List (List ℕ)). slice_get ns (wrapper_number m f)) is.names
    ∙ ap (λ (n : ℕ). slice_get (names_of m.functions ++ (out_names m.functions ++ is.others)) (n + wrapped_before m.functions f)) (sym (length_names m.functions))
    ∙ got_past (names_of m.functions) (out_names m.functions ++ is.others) (wrapped_before m.functions f)
    ∙ got_first (out_names m.functions) is.others (wrapped_before m.functions f) (out_prefix ++ g.name) (out_named m.functions f g e t))

out_import_at : (c : Code) (m : ℕ) (i : Module) (f : ℕ) (x : Function) → slice_get c.images m ≡ Some i → slice_get i.functions f ≡ Some x →
    out_import c (Some m) f ≡ option_and_then (kernel_function c.program) (wrapped_name (Some x))
out_import_at c m i f x ei ex = ap (λ (y : Option Function). option_and_then (kernel_function c.program) (wrapped_name y)) (image_got c m i f ei ∙ ex)

calls_out : (c : Code) → HasImages c → (m f : ℕ) (g : Function) (b : Bool) → is_wrapped g ≡ b → m < length c.program.modules →
    slice_get (module_of c.program (Some m)).functions f ≡ Some g → CallsOutIf b c m f g
calls_out c h m f g true t less e =
    let im = h.images m less in
    let w = wrapper_name (module_of c.program (Some m)) im.0 (image_of_guards c.program.interface (module_of c.program (Some m)) im.0 im.2) f g e t in
    out_import_at c m im.0 (wrapper_number (module_of c.program (Some m)) f) w.0 im.1 w.1
    ∙ ap (option_and_then (kernel_function c.program)) (wraps_name w.0 g.name w.2)
calls_out c h m f g false t less e =
    let im = h.images m less in
    let w = same_name (module_of c.program (Some m)) im.0 (image_of_guards c.program.interface (module_of c.program (Some m)) im.0 im.2) f g e in
    out_import_at c m im.0 f w.0 im.1 w.1
    ∙ ap (option_and_then (kernel_function c.program)) (wraps_none w.0 g w.2 (all_at has_plain_name (module_of c.program (Some m)).functions f g (plain_names (module_of c.program (Some m)) im.2.plain) e))

pub no_module : (p : Program) (m f : ℕ) (g : Function) → length p.modules ≤ m → slice_get (module_of p (Some m)).functions f ≡ Some g → ⊥
no_module p m f g l e = none_some (sym (ap (λ (x : Option ProgramModule). slice_get (module_or_empty x).functions f) (slice_get_past p.modules m l)) ∙ e)

calls_out_at : (c : Code) → HasImages c → (m f : ℕ) (g : Option Function) → slice_get (module_of c.program (Some m)).functions f ≡ g → CallsOut c m f g
calls_out_at c h m f None e = tt
calls_out_at c h m f (Some g) e =
    elim (cases_lt m (length c.program.modules)) [
      | inl less ↦ calls_out c h m f g (is_wrapped g) refl less e
      | inr past ↦ absurd (no_module c.program m f g past e)
    ]

-- what runs of a module's function

-- the image function that runs, and what is shown of it
record Runs (c : Code) (n m : ℕ) (f : Function) : Type 0 where
  image : Function
  is : image_routine c n ≡ routine_of image
  routine : image_routine c n ≡ routine_in_image (Some (module_of c.program (Some m))) (bare_of c n) (routine_of f)
  spares : function_spares_well (module_of c.program (Some m)) f (bare_of c n) ≡ true

runs : (c : Code) → HasImages c → (n m k : ℕ) (f : Function) → slice_get c.program.functions n ≡ Some (Of (Some m) k) → slice_get (module_of c.program (Some m)).functions k ≡ Some f → Runs c n m f
runs c h n m k f en ef =
    let lies = h.linked.table n m k en in
    let im = h.images m lies.0 in
    let g = guarded_at (module_of c.program (Some m)) (module_of c.program (Some m)).functions (take (length (module_of c.program (Some m)).functions) im.0.functions) k f im.2.functions ef in
    let got : slice_get im.0.functions k ≡ Some g.0 = sym (got_take im.0.functions (length (module_of c.program (Some m)).functions) k lies.1) ∙ g.1 in
    let is : image_routine c n ≡ routine_of g.0
    = ap (λ (e : Option ProgramFunction). routine_or_none (image_of_entry c e)) en ∙ ap routine_or_none (image_got c m im.0 k im.1 ∙ got) in
    let shown = function_shown (module_of c.program (Some m)) f g.0 g.2 (sound (module_of c.program (Some m)) f (h.linked.verified (Some m)) (in_got (module_of c.program (Some m)).functions k f ef)).names in
    let bare : bare_of c n ≡ bare_among (routine_of g.0).blocks = λ j label i. bare_among (is j).blocks label i in
    record {
      image = g.0;
      is = is;
      routine = is ∙ (shown.0 ∙ ap (λ (b : List ℕ → Bare). routine_in_image (Some (module_of c.program (Some m))) b (routine_of f)) (sym bare));
      spares = ap (function_spares_well (module_of c.program (Some m)) f) bare ∙ shown.1;
    }

-- the kernel's text has no marks

plain_op : (o : Op) → not (is_image_line o) ≡ true → text_op None o ≡ o
plain_op (op.Guard at size narrow) e = true_false (sym e)
plain_op (op.Check target) e = true_false (sym e)
plain_op (op.Call to ret x args) e = refl
plain_op o e = refl

plain_ops : (bare : Bare) (is : List Instr) → ((i : Instr) → IsIn i is → not (is_image_line i.op) ≡ true) → image_ops None bare (map (λ (i : Instr). i.op) is) ≡ map (λ (i : Instr). i.op) is
plain_ops bare [] h = refl
plain_ops bare (i ∷ is) h = λ j. plain_op i.op (h i (inl refl)) j ∷ plain_ops bare is (λ x a. h x (inr a)) j

plain_blocks : (bare : List ℕ → Bare) (bs : List Block) → ((i : Instr) → (b : Block) → IsIn b bs → IsIn i b.instrs → not (is_image_line i.op) ≡ true) → map (image_block None bare) (map code_block_of bs) ≡ map code_block_of bs
plain_blocks bare [] h = refl
plain_blocks bare (b ∷ bs) h =
    λ j. record { label = b.name; code = plain_ops (bare b.name) b.instrs (λ i a. h i b (inl refl) a) j } ∷ plain_blocks bare bs (λ i x a e. h i x (inr a) e) j

plain_routine : (m : Module) → IsPlain m → (f : Function) (bare : List ℕ → Bare) → IsIn f m.functions → routine_in_image None bare (routine_of f) ≡ routine_of f
plain_routine m p f bare a =
    λ j. record {
      blocks = plain_blocks bare (blocks_of f) (λ i b ib ii. all_in (λ (x : Instr). not (is_image_line x.op)) (all_instrs m) i p.lines (in_flat instrs_of f i m.functions a (in_flat (λ (x : Block). x.instrs) b i (blocks_of f) ib ii))) j;
      locals = length f.locals;
    }

kernel_routine : (m : Module) → IsPlain m → (bare : List ℕ → Bare) (k : ℕ) (f : Option Function) → slice_get m.functions k ≡ f → routine_or_none f ≡ routine_in_image None bare (routine_or_none f)
kernel_routine m p bare k None e = refl
kernel_routine m p bare k (Some f) e = sym (plain_routine m p f bare (in_got m.functions k f e))

module_routine : (c : Code) → HasImages c → (n m k : ℕ) (f : Option Function) → slice_get c.program.functions n ≡ Some (Of (Some m) k) → slice_get (module_of c.program (Some m)).functions k ≡ f →
    image_routine c n ≡ routine_in_image (Some (module_of c.program (Some m))) (bare_of c n) (routine_or_none f)
module_routine c h n m k (Some f) en ef = (runs c h n m k f en ef).routine
module_routine c h n m k None en ef =
    let lies = h.linked.table n m k en in
    none_some (sym ef ∙ (there_is (module_of c.program (Some m)).functions k lies.1).1)

entry_routine : (c : Code) → HasImages c → (n : ℕ) (e : Option ProgramFunction) → slice_get c.program.functions n ≡ e →
    image_routine c n ≡ guarded_routine c (unwrap_or (home_of_entry e) None) n (routine_or_none (function_of_entry c.program e))
entry_routine c h n None en = ap (λ (x : Option ProgramFunction). routine_or_none (image_of_entry c x)) en
entry_routine c h n (Some (Native k)) en = ap (λ (x : Option ProgramFunction). routine_or_none (image_of_entry c x)) en
entry_routine c h n (Some (Of None k)) en =
    ap (λ (x : Option ProgramFunction). routine_or_none (image_of_entry c x)) en ∙ kernel_routine c.program.kernel h.linked.kernel_plain (bare_of c n) k (slice_get c.program.kernel.functions k) refl
entry_routine c h n (Some (Of (Some m) k)) en = module_routine c h n m k (slice_get (module_of c.program (Some m)).functions k) en refl

pub images_accepted : (c : Code) → HasImages c → Accepted c
images_accepted c h =
    record {
      routines = λ n. entry_routine c h n (slice_get c.program.functions n) refl;
      wraps = images_wrap c h;
      wrappers = λ m f. calls_out_at c h m f (slice_get (module_of c.program (Some m)).functions f) refl;
      verified = h.linked.verified;
      slots = h.linked.slots;
      spared = λ n m k f en ef. (runs c h n m k f en ef).spares;
    }
