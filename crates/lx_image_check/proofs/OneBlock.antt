-- A wrapper as it ought to be, beside a function.
use Rattle.std.proofs.Common.{◌≡◌, ◌∙◌, ℕ, Bool, true, false, Option, Some, None, List, [], ◌∷◌, suc, refl, sym, ap, arith}
use Rattle.std.specs.Prelude.{filter, filter_map, flat_map, option_map, slice_get}
use Rattle.std.specs.Option.{option_or}
use Rattle.std.specs.List.{list_all, cons_option}
use Rattle.std.proofs.lemmas.List.{append-nil}
use Rattle.std.proofs.lemmas.Bool.{and_from}
use Rattle.std.proofs.lemmas.Bool.Decides.{nat_tests}
use Rattle.lx_words.proofs.Lists.{all_joined, all_filter}
use Rattle.lx_ir.specs.Lookup.{blocks_of, blocks_of_option, instrs_of}
use Rattle.lx_ir.specs.declared.module.Block.{Block}
use Rattle.lx_ir.specs.declared.module.Function.{Function}
use Rattle.lx_ir.specs.declared.module.Module.{Module}
use Rattle.lx_annot.specs.declared.interface.Interface.{Interface}
use Rattle.lx_slot_types.specs.declared.Marked.{Marked}
use Rattle.lx_propagate.specs.Slots.{annotated_of}
use Rattle.lx_image_texts.specs.Marks.{is_wrapped}
use Rattle.lx_image_texts.specs.ImageFaults.{difference, head_fault, not_own, wrapper_fault}
use Rattle.lx_image_texts.specs.WrapperText.{In, in_wrapper, in_wrappers, out_if, out_wrappers, slot_annotation, wrapper_of, wrappers_of}
use Rattle.lx_image_check.specs.Compared.{has_one_block, is_one_block}

pub difference_is : (w f : Function) (d : Option (ℕ × ℕ)) → difference w f d ≡ option_or (option_map (λ (x : ℕ × ℕ). wrapper_fault x.1 f.name x.0) d) (head_fault w f)
difference_is w f None = refl
difference_is w f (Some d) = refl

-- the lines of one block

one_of : (o : Option (List Block)) (b : Block) → is_one_block o ≡ true → Some b ≡ slice_get (blocks_of_option o) 0 → b.instrs ≡ flat_map (λ c. c.instrs) (blocks_of_option o)
one_of None b h e = absurd (cc)
one_of (Some []) b h e = absurd (cc)
one_of (Some (c ∷ [])) b h e =
    let q : b ≡ c = cc in
    ap (λ (x : Block). x.instrs) q ∙ sym (append-nil c.instrs)
one_of (Some (c ∷ d ∷ bs)) b h e = absurd (grind (arith, nat_tests, h))

none_of : (o : Option (List Block)) → is_one_block o ≡ true → None ≡ slice_get (blocks_of_option o) 0 → [] ≡ flat_map (λ c. c.instrs) (blocks_of_option o)
none_of None h e = absurd (cc)
none_of (Some []) h e = absurd (grind (arith, nat_tests, h))
none_of (Some (c ∷ bs)) h e = absurd (cc)

pub one_some : (w : Function) (b : Block) → has_one_block w ≡ true → Some b ≡ slice_get (blocks_of w) 0 → b.instrs ≡ instrs_of w
one_some w b h e = one_of w.blocks b h e

pub one_none : (w : Function) → has_one_block w ≡ true → None ≡ slice_get (blocks_of w) 0 → [] ≡ instrs_of w
one_none w h e = none_of w.blocks h e

-- each wrapper is one block

out_one : (b : Bool) (i : Interface) (n : ℕ) (f : Function) → list_all has_one_block (out_if b i n f) ≡ true
out_one true i n f = refl
out_one false i n f = refl

out_ones : (i : Interface) (n : ℕ) (fs : List Function) → list_all has_one_block (out_wrappers i n fs) ≡ true
out_ones i n [] = refl
out_ones i n (f ∷ fs) = all_joined has_one_block (out_if (is_wrapped f) i n f) (out_wrappers i (suc n) fs) (out_one (is_wrapped f) i n f) (out_ones i (suc n) fs)

in_one : (i : Interface) (k : Marked) (o : Option Function) (ws : List Function) → list_all has_one_block ws ≡ true → list_all has_one_block (cons_option (option_map (λ f. wrapper_of f k.function (slot_annotation i k.slot) In) o) ws) ≡ true
in_one i k None ws h = h
in_one i k (Some f) ws h = and_from true (list_all has_one_block ws) refl h

in_ones : (i : Interface) (m : Module) (ks : List Marked) → list_all has_one_block (filter_map (in_wrapper i m) ks) ≡ true
in_ones i m [] = refl
in_ones i m (k ∷ ks) = in_one i k (slice_get m.functions k.function) (filter_map (in_wrapper i m) ks) (in_ones i m ks)

pub one_blocks : (i : Interface) (m : Module) → list_all has_one_block (filter not_own (wrappers_of i m)) ≡ true
one_blocks i m = all_filter has_one_block not_own (wrappers_of i m) (all_joined has_one_block (out_wrappers i 0 m.functions) (in_wrappers i m) (out_ones i 0 m.functions) (in_ones i m (annotated_of i m)))
