-- The functions of an image that are named as wrappers have the form of wrappers.
use Rattle.std.proofs.Common.{◌≡◌, ℕ, zero, suc, ◌<◌, Bool, true, false, not, List, [], ◌∷◌, ◌++◌, length, map, take, drop, Option, Some, None, inl, inr, refl, sym, subst, ◌∙◌, ap}
use Rattle.std.specs.Prelude.{slice_get, option_map, option_and_then, position, filter_map, cond, nat_eq, bytes_eq, codes}
use Rattle.std.specs.List.{list_all, starts_with, cons_option}
use Rattle.std.proofs.lemmas.Option.{slice_get-map, slice_get_within}
use Rattle.std.proofs.lemmas.Bool.{and_from}
use Rattle.lx_words.proofs.Tests.{first_of, second_of}
use Rattle.lx_words.proofs.Options.{none_some, some_same}
use Rattle.lx_words.proofs.Lists.{bytes_itself, split_at}
use Rattle.lx_ir.specs.declared.module.Block.{Block}
use Rattle.lx_ir.specs.declared.module.Function.{Function}
use Rattle.lx_ir.specs.declared.module.Module.{Module}
use Rattle.lx_ir.specs.Lawful.{is_own_name}
use Rattle.lx_annot.specs.declared.action.Annotation.{Annotation}
use Rattle.lx_annot.specs.declared.interface.Interface.{Interface}
use Rattle.lx_slot_types.specs.declared.Marked.{Marked}
use Rattle.lx_propagate.specs.Slots.{annotated_of}
use Rattle.lx_image_texts.specs.Marks.{is_wrapped}
use Rattle.lx_image_texts.specs.Guards.{BlockText, block_text, FunctionText, function_text, Guards}
use Rattle.lx_image_texts.specs.WrapperText.{Side, In, Out, wrapper_prefix, wrapper_code, wrapper_of, import_annotation, slot_annotation, out_if, out_wrappers, in_wrapper, in_wrappers, wrappers_of}
use Rattle.lx_image_texts.proofs.Calling.{same_at, all_at}
use Rattle.lx_image_texts.proofs.Sound.{unlined_ops}
use Rattle.lx_image_texts.proofs.WrapperValues.{many_params}
use Rattle.lx_model.specs.declared.program.Program.{Program}
use Rattle.lx_model.specs.Program.{module_of}
use Rattle.lx_images.specs.Wrappers.{lines_of}
use Rattle.lx_images.specs.WrapperForm.{is_one_block, is_wrapper, wraps_named, has_name, first_named, is_formed_by, is_formed_as, is_formed, has_formed_wrappers, have_formed_wrappers, unformed_in, first_unformed}
use Rattle.lx_simulation.specs.Images.{AreImages}
use Rattle.lx_simulation.proofs.Formed.{wrapper_formed}
use Rattle.lx_simulation.proofs.Wrapping.{is_not, each_joined, positioned, front_or_behind, text_lines, lines_of_text, Each, each_at, front_names, front, From, next_from, first_from, from_start, name_got}

-- it is one block, by its text
abbrev one_text : Option (List BlockText) → Bool
one_text (Some (b ∷ [])) = true
one_text _ = false

one_by : (bs : Option (List Block)) → is_one_block bs ≡ one_text (option_map (map block_text) bs)
one_by None = refl
one_by (Some []) = refl
one_by (Some (b ∷ [])) = refl
one_by (Some (a ∷ b ∷ bs)) = refl

-- the text of a wrapper of a function of the module
record Wraps (m : Module) (t : FunctionText) : Type 0 where
  it : Function
  number : ℕ
  annotation : Annotation
  side : Side
  got : slice_get m.functions number ≡ Some it
  name : t.name ≡ wrapper_prefix side ++ it.name
  lines : text_lines t ≡ wrapper_code it number annotation
  params : length t.params ≡ length it.params
  one : one_text t.blocks ≡ true

one_wraps : (m : Module) (f : Function) (n : ℕ) (an : Annotation) (side : Side) → slice_get m.functions n ≡ Some f → Wraps m (function_text (wrapper_of f n an side))
one_wraps m f n an side e = record { it = f; number = n; annotation = an; side = side; got = e; name = refl; lines = unlined_ops (wrapper_code f n an); params = many_params 0 f.params; one = refl }

out_wraps_if : (i : Interface) (m : Module) (n : ℕ) (f : Function) (ws : List Function) (b : Bool) → slice_get m.functions n ≡ Some f → Each (Wraps m) (map function_text ws) → Each (Wraps m) (map function_text (out_if b i n f ++ ws))
out_wraps_if i m n f ws true e h = (one_wraps m f n (import_annotation i f.name) Out e, h)
out_wraps_if i m n f ws false e h = h

outs_wrap : (i : Interface) (m : Module) (n : ℕ) (fs : List Function) → From m n fs → Each (Wraps m) (map function_text (out_wrappers i n fs))
outs_wrap i m n [] h = tt
outs_wrap i m n (f ∷ fs) h = out_wraps_if i m n f (out_wrappers i (suc n) fs) (is_wrapped f) (first_from m n f fs h) (outs_wrap i m (suc n) fs (next_from m n f fs h))

in_wraps_one : (i : Interface) (m : Module) (k : Marked) (o : Option Function) (ws : List Function) → slice_get m.functions k.function ≡ o → Each (Wraps m) (map function_text ws) → Each (Wraps m) (map function_text (cons_option (option_map (λ g. wrapper_of g k.function (slot_annotation i k.slot) In) o) ws))
in_wraps_one i m k None ws e h = h
in_wraps_one i m k (Some f) ws e h = (one_wraps m f k.function (slot_annotation i k.slot) In e, h)

ins_wrap : (i : Interface) (m : Module) (ks : List Marked) → Each (Wraps m) (map function_text (filter_map (in_wrapper i m) ks))
ins_wrap i m [] = tt
ins_wrap i m (k ∷ ks) = in_wraps_one i m k (slice_get m.functions k.function) (filter_map (in_wrapper i m) ks) refl (ins_wrap i m ks)

all_wrap : (i : Interface) (m : Module) → Each (Wraps m) (map function_text (wrappers_of i m))
all_wrap i m = each_joined (Wraps m) (out_wrappers i 0 m.functions) (in_wrappers i m) (outs_wrap i m 0 m.functions (from_start m)) (ins_wrap i m (annotated_of i m))

-- names

named_for : (side : Side) (name : List ℕ) → wraps_named (wrapper_prefix side ++ name) ≡ Some name
named_for Out name = refl
named_for In name = refl

not_front : (name xs : List ℕ) (b : Bool) → starts_with nat_eq name (codes "lxfi." ++ xs) ≡ b → not (is_own_name name) ≡ true → b ≡ false
not_front name xs true e h = is_not (is_own_name name) (front (codes "lxfi.") xs name e) h
not_front name xs false e h = refl

unnamed_by : (name : List ℕ) (a b : Bool) (x y : Option (List ℕ)) → a ≡ false → b ≡ false → cond a x (cond b y None) ≡ None
unnamed_by name false false x y ea eb = refl
unnamed_by name true b x y ea eb = cc
unnamed_by name false true x y ea eb = cc

unnamed : (name : List ℕ) → not (is_own_name name) ≡ true → wraps_named name ≡ None
unnamed name h =
    unnamed_by name (starts_with nat_eq name (wrapper_prefix Out)) (starts_with nat_eq name (wrapper_prefix In)) (Some (drop 9 name)) (Some (drop 8 name))
    (not_front name (codes "out.") (starts_with nat_eq name (wrapper_prefix Out)) refl h) (not_front name (codes "in.") (starts_with nat_eq name (wrapper_prefix In)) refl h)

got_front : (xs ys : List Function) (k : ℕ) (x : List ℕ) → slice_get (map (λ (f : Function). f.name) xs) k ≡ Some x → (g : Function) × (slice_get (xs ++ ys) k ≡ Some g) × (g.name ≡ x)
got_front [] ys k x e = none_some e
got_front (y ∷ xs) ys zero x e = (y, refl, some_same e)
got_front (y ∷ xs) ys (suc k) x e = got_front xs ys k x e

wrapper_is_formed : (i : Interface) (m x : Module) → Guards i m x → (g : Function) → Wraps m (function_text g) → is_formed x g ≡ true
wrapper_is_formed i m x h g w =
    let lines : lines_of (Some g) ≡ wrapper_code w.it w.number w.annotation = lines_of_text g ∙ w.lines in
    let at = same_at i m x h w.number w.it w.got in
    ap (is_formed_as x g) (ap wraps_named w.name ∙ named_for w.side w.it.name)
    ∙ and_from (is_one_block g.blocks) (is_formed_by x g w.it.name (first_named (lines_of (Some g)))) (one_by g.blocks ∙ w.one)
    (ap (is_formed_by x g w.it.name) (ap first_named lines)
    ∙ and_from (has_name (slice_get x.functions w.number) w.it.name) (is_wrapper w.number (length g.params) (lines_of (Some g)))
    (ap (λ (o : Option Function). has_name o w.it.name) at.1 ∙ (ap (λ (n : List ℕ). bytes_eq n w.it.name) at.2 ∙ bytes_itself w.it.name))
    (ap (is_wrapper w.number (length g.params)) lines ∙ (ap (λ (n : ℕ). is_wrapper w.number n (wrapper_code w.it w.number w.annotation)) w.params ∙ wrapper_formed w.it w.number w.annotation)))

one_is_formed : (i : Interface) (m x : Module) → Guards i m x → (k : ℕ) (g : Function) → slice_get x.functions k ≡ Some g → is_formed x g ≡ true
one_is_formed i m x h k g e =
    elim (front_or_behind (take (length m.functions) x.functions) (drop (length m.functions) x.functions) k g (ap (λ (fs : List Function). slice_get fs k) (split_at (length m.functions) x.functions) ∙ e)) [
      | inl a ↦ ap (is_formed_as x g) (unnamed g.name (all_at (λ n. not (is_own_name n)) (map (λ (f : Function). f.name) (take (length m.functions) x.functions)) k g.name (front_names i m x h) (name_got (take (length m.functions) x.functions) k g a)))
      | inr b ↦ wrapper_is_formed i m x h g (each_at (Wraps m) (map function_text (wrappers_of i m)) b.0 (function_text g) (all_wrap i m)
          (ap (λ (ts : List FunctionText). slice_get ts b.0) (sym h.wrappers) ∙ (slice_get-map function_text (drop (length m.functions) x.functions) b.0 ∙ ap (option_map function_text) b.1)))
    ]

all_by : (p : Function → Bool) (fs : List Function) → ((k : ℕ) (g : Function) → slice_get fs k ≡ Some g → p g ≡ true) → list_all p fs ≡ true
all_by p [] h = refl
all_by p (f ∷ fs) h = and_from (p f) (list_all p fs) (h 0 f refl) (all_by p fs (λ k g e. h (suc k) g e))

-- the wrappers of each image have the form of wrappers
pub images_formed : (i : Interface) (m x : Module) → Guards i m x → has_formed_wrappers x ≡ true
images_formed i m x h = all_by (is_formed x) x.functions (one_is_formed i m x h)

-- and so it is of each image of a program

each_image : (images : List Module) → ((k : ℕ) (x : Module) → slice_get images k ≡ Some x → has_formed_wrappers x ≡ true) → have_formed_wrappers images ≡ true
each_image [] h = refl
each_image (x ∷ xs) h = and_from (has_formed_wrappers x) (have_formed_wrappers xs) (h 0 x refl) (each_image xs (λ k y e. h (suc k) y e))

pub all_images_formed : (p : Program) (images : List Module) → AreImages p images → length images ≡ length p.modules → have_formed_wrappers images ≡ true
all_images_formed p images are many =
    each_image images (λ k x e.
    let im = are k (subst (λ (n : ℕ). k < n) many (slice_get_within images k x e)) in
    ap has_formed_wrappers (some_same (sym e ∙ im.1)) ∙ images_formed p.interface (module_of p (Some k)) im.0 im.2)

formed_at : (images : List Module) (k : ℕ) (x : Module) → have_formed_wrappers images ≡ true → slice_get images k ≡ Some x → has_formed_wrappers x ≡ true
formed_at [] k x h e = none_some e
formed_at (y ∷ ys) zero x h e = ap has_formed_wrappers (sym (some_same e)) ∙ first_of (has_formed_wrappers y) (have_formed_wrappers ys) h
formed_at (y ∷ ys) (suc k) x h e = formed_at ys k x (second_of (has_formed_wrappers y) (have_formed_wrappers ys) h) e

unformed_none : (images : List Module) → have_formed_wrappers images ≡ true → (o : Option ℕ) → position (λ (x : Module). not (has_formed_wrappers x)) images ≡ o → o ≡ None
unformed_none images h None e = refl
unformed_none images h (Some k) e =
    let x = positioned (λ (y : Module). not (has_formed_wrappers y)) images k e in
    is_not (has_formed_wrappers x.it) (formed_at images k x.it h x.got) x.passes

-- where all have the form, none is the first without it
pub none_unformed : (images : List Module) → have_formed_wrappers images ≡ true → first_unformed images ≡ None
none_unformed images h =
    ap (λ (o : Option ℕ). option_and_then (λ (m : ℕ). option_map (λ (f : ℕ). (m, f)) (option_and_then unformed_in (slice_get images m))) o)
    (unformed_none images h (position (λ (x : Module). not (has_formed_wrappers x)) images) refl)
