-- Modules of one text have the same wrappers, where the same functions are annotated.
use Rattle.std.proofs.Common.{◌≡◌, ℕ, suc, Bool, true, false, List, [], ◌∷◌, ◌++◌, Option, Some, None, refl, sym, ◌∙◌, ap}
use Rattle.std.specs.Prelude.{filter_map, option_map, slice_get}
use Rattle.lx_words.proofs.Options.{some_same, none_some}
use Rattle.lx_words.proofs.Lists.{no_list, heads, tails}
use Rattle.lx_ir.specs.declared.module.Function.{Function}
use Rattle.lx_ir.specs.declared.module.Module.{Module}
use Rattle.lx_annot.specs.declared.action.Annotation.{Annotation}
use Rattle.lx_annot.specs.declared.interface.Interface.{Interface}
use Rattle.lx_slot_types.specs.declared.Marked.{Marked}
use Rattle.lx_propagate.specs.Slots.{annotated_of}
use Rattle.lx_image_texts.specs.Marks.{is_wrapped}
use Rattle.lx_image_texts.specs.Guards.{FunctionText, function_text}
use Rattle.lx_image_texts.specs.WrapperText.{In, Out, wrapper_of, import_annotation, slot_annotation, out_if, out_wrappers, wrappers_of}
use Rattle.lx_simulation.proofs.Alike.{Alike, AreAlike, same_got, same_wrapped}

-- what a wrapper takes of the function that it wraps
abbrev head_of : FunctionText → Function
head_of t = record { name = t.name; params = t.params; locals = []; ret = t.ret; blocks = None; line = 0 }

out_same : (i : Interface) (n : ℕ) (f g : Function) → Alike f g → (w : Bool) → out_if w i n f ≡ out_if w i n g
out_same i n f g e true = ap (λ (t : FunctionText). wrapper_of (head_of t) n (import_annotation i t.name) Out ∷ []) e
out_same i n f g e false = refl

outs_same : (i : Interface) (n : ℕ) (fs gs : List Function) → AreAlike fs gs → out_wrappers i n fs ≡ out_wrappers i n gs
outs_same i n [] [] e = refl
outs_same i n (f ∷ fs) (g ∷ gs) e =
    λ j. (ap (λ (w : Bool). out_if w i n f) (same_wrapped f g (heads e)) ∙ out_same i n f g (heads e) (is_wrapped g)) j ++ outs_same i (suc n) fs gs (tails e) j
outs_same i n [] (g ∷ gs) e = no_list e
outs_same i n (f ∷ fs) [] e = no_list (sym e)

in_same : (n : ℕ) (a : Annotation) (o q : Option Function) → option_map function_text o ≡ option_map function_text q → option_map (λ f. wrapper_of f n a In) o ≡ option_map (λ f. wrapper_of f n a In) q
in_same n a None None e = refl
in_same n a (Some f) (Some g) e = ap (λ (t : FunctionText). Some (wrapper_of (head_of t) n a In)) (some_same e)
in_same n a None (Some g) e = none_some e
in_same n a (Some f) None e = none_some (sym e)

pub same_wrappers : (i : Interface) (a b : Module) → AreAlike a.functions b.functions → annotated_of i a ≡ annotated_of i b → wrappers_of i a ≡ wrappers_of i b
same_wrappers i a b e t =
    λ j. outs_same i 0 a.functions b.functions e j
    ++ filter_map (λ (k : Marked). in_same k.function (slot_annotation i k.slot) (slice_get a.functions k.function) (slice_get b.functions k.function) (same_got a.functions b.functions e k.function) j) (t j)
