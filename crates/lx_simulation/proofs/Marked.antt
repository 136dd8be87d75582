-- The functions of an image are the functions of each module of the same text, with their marks.
use Rattle.std.proofs.Common.{◌≡◌, List, [], ◌∷◌, ◌++◌, map, take, length, Option, Some, None, inl, inr, sym, subst, ◌∙◌, ap}
use Rattle.std.specs.Prelude.{option_map}
use Rattle.lx_words.proofs.Options.{some_same, none_some}
use Rattle.lx_words.proofs.Lists.{no_list, heads, tails}
use Rattle.lx_ir.specs.declared.module.Block.{Block}
use Rattle.lx_ir.specs.declared.module.Function.{Function}
use Rattle.lx_ir.specs.declared.module.Module.{Module}
use Rattle.lx_ir.specs.declared.instr.Op.{Op}
use Rattle.lx_image_texts.specs.Marks.{mark_of}
use Rattle.lx_image_texts.specs.Guards.{ops_of, BlockText, block_text, FunctionText, StandsAt, IsMarked, AreMarked, HasMarks, IsGuarded, AreGuarded}
use Rattle.lx_same_texts.specs.SameText.{SameText}
use Rattle.lx_simulation.proofs.Alike.{Alike, AreAlike, same_length, same_image_op, same_spared}

module _ (a b : Module) (s : SameText a b) where
  module _ (f g : Function) (e : Alike f g) where
    stands : (o : Op) (is rest : List Op) → StandsAt a f o is rest → StandsAt b g o is rest
    stands o is rest (inl h) = inl (h ∙ ap (λ (w : Op). mark_of o ++ (w ∷ rest)) (same_image_op a b s.functions o))
    stands o is rest (inr (h, k)) = inr (sym (same_spared a b f g s.types e o) ∙ h, k ∙ ap (λ (w : Op). w ∷ rest) (same_image_op a b s.functions o))

    marked : (os is : List Op) → IsMarked a f os is → IsMarked b g os is
    marked [] is h = h
    marked (o ∷ os) is (rest, h, k) = (rest, stands o is rest h, marked os rest k)

    blocks : (bs ds cs : List Block) → map block_text bs ≡ map block_text ds → AreMarked a f bs cs → AreMarked b g ds cs
    blocks [] [] [] t h = tt
    blocks [] [] (c ∷ cs) t h = absurd h
    blocks (x ∷ bs) (d ∷ ds) [] t h = absurd h
    blocks (x ∷ bs) (d ∷ ds) (c ∷ cs) t h = (
      h.0 ∙ ap (λ (y : BlockText). y.name) (heads t),
      subst (λ (os : List Op). IsMarked b g os (ops_of c)) (ap (λ (y : BlockText). y.code) (heads t)) (marked (ops_of x) (ops_of c) h.1),
      blocks bs ds cs (tails t) h.2,
    )
    blocks [] (d ∷ ds) cs t h = no_list t
    blocks (x ∷ bs) [] cs t h = no_list (sym t)

    body : (bs ds cs : Option (List Block)) → option_map (map block_text) bs ≡ option_map (map block_text) ds → HasMarks a f bs cs → HasMarks b g ds cs
    body None None None t h = tt
    body None None (Some cs) t h = absurd h
    body (Some bs) (Some ds) None t h = absurd h
    body (Some bs) (Some ds) (Some cs) t h = blocks bs ds cs (some_same t) h
    body None (Some ds) cs t h = none_some t
    body (Some bs) None cs t h = none_some (sym t)

    guarded : (h : Function) → IsGuarded a f h → IsGuarded b g h
    guarded h k =
        record {
          name = k.name ∙ ap (λ (t : FunctionText). t.name) e;
          params = k.params ∙ ap (λ (t : FunctionText). t.params) e;
          locals = k.locals ∙ ap (λ (t : FunctionText). t.locals) e;
          ret = k.ret ∙ ap (λ (t : FunctionText). t.ret) e;
          body = body f.blocks g.blocks h.blocks (ap (λ (t : FunctionText). t.blocks) e) k.body;
        }

  functions : (fs gs hs : List Function) → AreAlike fs gs → AreGuarded a fs hs → AreGuarded b gs hs
  functions [] [] hs e k = k
  functions (f ∷ fs) (g ∷ gs) [] e k = absurd k
  functions (f ∷ fs) (g ∷ gs) (h ∷ hs) e k = (guarded f g (heads e) h k.0, functions fs gs hs (tails e) k.1)
  functions [] (g ∷ gs) hs e k = no_list e
  functions (f ∷ fs) [] hs e k = no_list (sym e)

  pub all_guarded : (xs : List Function) → AreGuarded a a.functions (take (length a.functions) xs) → AreGuarded b b.functions (take (length b.functions) xs)
  all_guarded xs k =
      functions a.functions b.functions (take (length b.functions) xs) s.functions
      (subst (λ n. AreGuarded a a.functions (take n xs)) (same_length a.functions b.functions s.functions) k)
