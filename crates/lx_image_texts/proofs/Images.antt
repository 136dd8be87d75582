-- An image in which only spared stores lack their guards is one.
use Rattle.std.proofs.Common.{◌≡◌, Bool, true, false, List, [], ◌∷◌, ◌++◌, map, take, length, Option, Some, None, inl, inr, refl, sym, subst, ap}
use Rattle.std.specs.Prelude.{option_map}
use Rattle.lx_words.proofs.Lists.{heads, tails, no_list}
use Rattle.lx_words.proofs.Options.{some_same, none_some}
use Rattle.lx_words.proofs.Tests.{true_false}
use Rattle.lx_ir.specs.declared.module.Block.{Block}
use Rattle.lx_ir.specs.declared.module.Function.{Function}
use Rattle.lx_ir.specs.declared.module.Module.{Module}
use Rattle.lx_ir.specs.declared.instr.Op.{Op}
use Rattle.lx_ir.specs.Lawful.{IsPlain}
use Rattle.lx_annot.specs.declared.interface.Interface.{Interface}
use Rattle.lx_propagate.specs.Slots.{conflict_of}
use Rattle.lx_image_texts.specs.Marks.{mark_of, image_op}
use Rattle.lx_image_texts.specs.Spared.{is_spared}
use Rattle.lx_image_texts.specs.Guards.{ops_of, BlockText, block_text, FunctionText, function_text, StandsAt, IsMarked, AreMarked, HasMarks, IsGuarded, AreGuarded, Guards}
use Rattle.lx_image_texts.specs.Instrumented.{Leaves, unless_left, leaves_none, leaves_spared, image_code, image_block_text, image_function_text, GuardsBut}

-- what is left out is spared
abbrev Sparing : Leaves → Module → Type 0
Sparing leaves m = (f : Function) (o : Op) → leaves f o ≡ true → is_spared m f o ≡ true

stands_by : (m : Module) (f : Function) (o : Op) (rest : List Op) (b : Bool) → (b ≡ true → is_spared m f o ≡ true) → StandsAt m f o (unless_left b (mark_of o) ++ (image_op m o ∷ rest)) rest
stands_by m f o rest true s = inr (s refl, refl)
stands_by m f o rest false s = inl refl

code_marked : (leaves : Leaves) (m : Module) → Sparing leaves m → (f : Function) (os : List Op) → IsMarked m f os (image_code (leaves f) m os)
code_marked leaves m s f [] = refl
code_marked leaves m s f (o ∷ os) = (image_code (leaves f) m os, stands_by m f o (image_code (leaves f) m os) (leaves f o) (s f o), code_marked leaves m s f os)

blocks_marked : (leaves : Leaves) (m : Module) → Sparing leaves m → (f : Function) (bs cs : List Block) → map block_text cs ≡ map (image_block_text (leaves f) m) bs → AreMarked m f bs cs
blocks_marked leaves m s f [] [] e = tt
blocks_marked leaves m s f (b ∷ bs) (c ∷ cs) e = (
  ap (λ (t : BlockText). t.name) (heads e),
  subst (λ (is : List Op). IsMarked m f (ops_of b) is) (sym (ap (λ (t : BlockText). t.code) (heads e))) (code_marked leaves m s f (ops_of b)),
  blocks_marked leaves m s f bs cs (tails e),
)
blocks_marked leaves m s f [] (c ∷ cs) e = no_list (sym e)
blocks_marked leaves m s f (b ∷ bs) [] e = no_list e

body_marked : (leaves : Leaves) (m : Module) → Sparing leaves m → (f : Function) (bs cs : Option (List Block)) → option_map (map block_text) cs ≡ option_map (map (image_block_text (leaves f) m)) bs → HasMarks m f bs cs
body_marked leaves m s f None None e = tt
body_marked leaves m s f (Some bs) (Some cs) e = blocks_marked leaves m s f bs cs (some_same e)
body_marked leaves m s f None (Some cs) e = none_some (sym e)
body_marked leaves m s f (Some bs) None e = none_some e

function_guarded : (leaves : Leaves) (m : Module) → Sparing leaves m → (f g : Function) → function_text g ≡ image_function_text leaves m f → IsGuarded m f g
function_guarded leaves m s f g e =
    record {
      name = ap (λ (t : FunctionText). t.name) e;
      params = ap (λ (t : FunctionText). t.params) e;
      locals = ap (λ (t : FunctionText). t.locals) e;
      ret = ap (λ (t : FunctionText). t.ret) e;
      body = body_marked leaves m s f f.blocks g.blocks (ap (λ (t : FunctionText). t.blocks) e);
    }

nothing : (gs : List Function) → ◌≡◌ {A = List FunctionText} (map function_text gs) [] → gs ≡ []
nothing [] e = refl
nothing (g ∷ gs) e = no_list (sym e)

functions_guarded : (leaves : Leaves) (m : Module) → Sparing leaves m → (fs gs : List Function) → map function_text gs ≡ map (image_function_text leaves m) fs → AreGuarded m fs gs
functions_guarded leaves m s [] gs e = nothing gs e
functions_guarded leaves m s (f ∷ fs) [] e = no_list e
functions_guarded leaves m s (f ∷ fs) (g ∷ gs) e = (function_guarded leaves m s f g (heads e), functions_guarded leaves m s fs gs (tails e))

guards_but : (leaves : Leaves) (i : Interface) (m x : Module) → Sparing leaves m → IsPlain m → conflict_of i m ≡ None → GuardsBut leaves i m x → Guards i m x
guards_but leaves i m x s p c g =
    record { plain = p; agrees = c; types = g.types; globals = g.globals; functions = functions_guarded leaves m s m.functions (take (length m.functions) x.functions) g.functions; wrappers = g.wrappers }

pub full_guards : (i : Interface) (m x : Module) → IsPlain m → conflict_of i m ≡ None → GuardsBut leaves_none i m x → Guards i m x
full_guards i m x p c g = guards_but leaves_none i m x (λ f o e. true_false (sym e)) p c g

pub spared_guards : (i : Interface) (m x : Module) → IsPlain m → conflict_of i m ≡ None → GuardsBut (leaves_spared m) i m x → Guards i m x
spared_guards i m x p c g = guards_but (leaves_spared m) i m x (λ f o e. e) p c g
