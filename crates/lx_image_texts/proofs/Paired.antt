-- The functions of a module stand beside those of its image.
use Rattle.std.proofs.Common.{◌≡◌, ℕ, zero, suc, Bool, true, not, List, [], ◌∷◌, ◌++◌, map, length, take, Option, Some, None, inl, inr, refl, sym, subst, ◌∙◌, ap}
use Rattle.std.specs.Prelude.{◌⊎◌, flat_map, slice_get}
use Rattle.std.specs.List.{list_all}
use Rattle.lx_words.proofs.Lists.{no_list, heads, tails}
use Rattle.lx_words.proofs.Options.{none_some, some_same}
use Rattle.lx_words.proofs.Tests.{first_of, second_of}
use Rattle.lx_ir.specs.declared.module.Block.{Block}
use Rattle.lx_ir.specs.declared.module.Function.{Function}
use Rattle.lx_ir.specs.declared.module.Module.{Module}
use Rattle.lx_ir.specs.declared.instr.Callee.TheVariants as callee
use Rattle.lx_ir.specs.declared.instr.Instr.{Instr}
use Rattle.lx_ir.specs.declared.instr.Op.{Op}
use Rattle.lx_ir.specs.declared.instr.Op.TheVariants as op
use Rattle.lx_ir.specs.Lookup.{blocks_of_option, instrs_of}
use Rattle.lx_ir.specs.Operands.{is_image_line}
use Rattle.lx_annot.specs.declared.interface.Interface.{Interface}
use Rattle.lx_image_texts.specs.Marks.{mark_of, image_op}
use Rattle.lx_image_texts.specs.Guards.{IsMarked, AreMarked, HasMarks, IsGuarded, AreGuarded, Guards}
use Rattle.lx_image_texts.proofs.Distinct.{Each}
use Rattle.lx_image_texts.proofs.Erasing.{all_first, all_second}
use Rattle.lx_image_texts.proofs.Beside.{Beside, ends, bare, marked, BesideBlocks, no_blocks, blocks, BesideBody, no_body, body, BesideFunction, flat}

-- an instruction has one mark, or none

some_mark : (o : Op) → (mark_of o ≡ []) ⊎ ((k : Op) × (mark_of o ≡ k ∷ []))
some_mark (op.Store ty v at) = inr (_, refl)
some_mark (op.CopyBlock moves dest source len) = inr (_, refl)
some_mark (op.FillBlock dest byte len) = inr (_, refl)
some_mark (op.Call to ret (callee.Register r) args) = inr (_, refl)
some_mark (op.Call to ret (callee.Symbol s) args) = inl refl
some_mark o = inl refl

abbrev pub op_of : Instr → Op
op_of i = i.op

abbrev ops : List Instr → List Op
ops is = map op_of is

-- the first of some code whose operations are known
record Begins (js : List Instr) (o : Op) (rest : List Op) : Type 0 where
  first : Instr
  others : List Instr
  parts : first ∷ others ≡ js
  op : op_of first ≡ o
  ops : map op_of others ≡ rest

begins : (js : List Instr) (o : Op) (rest : List Op) → ops js ≡ o ∷ rest → Begins js o rest
begins [] o rest e = no_list e
begins (j ∷ js) o rest e = record { first = j; others = js; parts = refl; op = heads e; ops = tails e }

no_ops : (js : List Instr) → ops js ≡ [] → [] ≡ js
no_ops [] e = refl
no_ops (j ∷ js) e = no_list (sym e)

abbrev plain_instr : Instr → Bool
plain_instr i = not (is_image_line i.op)

module _ (m : Module) (f : Function) where
  -- without its mark
  without : (i : Instr) (is js : List Instr) (rest : List Op) → plain_instr i ≡ true → ops js ≡ image_op m i.op ∷ rest → ((ks : List Instr) → ops ks ≡ rest → Beside m is ks) → Beside m (i ∷ is) js
  without i is js rest p e ih =
      let b = begins js (image_op m i.op) rest e in
      subst (Beside m (i ∷ is)) b.parts (bare i b.first is b.others (record { plain = p; is = sym b.op }) (ih b.others b.ops))

  with_mark : (i : Instr) (is js : List Instr) (rest : List Op) → (mark_of i.op ≡ []) ⊎ ((k : Op) × (mark_of i.op ≡ k ∷ [])) → plain_instr i ≡ true → ops js ≡ mark_of i.op ++ (image_op m i.op ∷ rest) → ((ks : List Instr) → ops ks ≡ rest → Beside m is ks) → Beside m (i ∷ is) js
  with_mark i is js rest (inl n) p e ih = without i is js rest p (e ∙ ap (λ (ms : List Op). ms ++ (image_op m i.op ∷ rest)) n) ih
  with_mark i is js rest (inr k) p e ih =
      let a = begins js k.0 (image_op m i.op ∷ rest) (e ∙ ap (λ (ms : List Op). ms ++ (image_op m i.op ∷ rest)) k.1) in
      let b = begins a.others (image_op m i.op) rest a.ops in
      subst (Beside m (i ∷ is)) (ap (λ (ks : List Instr). a.first ∷ ks) b.parts ∙ a.parts)
      (marked i a.first b.first is b.others (k.1 ∙ ap (λ (o : Op). o ∷ []) (sym a.op)) (record { plain = p; is = sym b.op }) (ih b.others b.ops))

  code : (is js : List Instr) → list_all plain_instr is ≡ true → IsMarked m f (ops is) (ops js) → Beside m is js
  code [] js p h = subst (Beside m []) (no_ops js h) ends
  code (i ∷ is) js p (rest, inl e, h) =
      with_mark i is js rest (some_mark i.op) (first_of (plain_instr i) (list_all plain_instr is) p) e
      (λ ks s. code is ks (second_of (plain_instr i) (list_all plain_instr is) p) (subst (IsMarked m f (ops is)) (sym s) h))
  code (i ∷ is) js p (rest, inr e, h) =
      without i is js rest (first_of (plain_instr i) (list_all plain_instr is) p) e.1
      (λ ks s. code is ks (second_of (plain_instr i) (list_all plain_instr is) p) (subst (IsMarked m f (ops is)) (sym s) h))

  all_blocks : (bs cs : List Block) → list_all plain_instr (flat bs) ≡ true → AreMarked m f bs cs → BesideBlocks m bs cs
  all_blocks [] [] p h = no_blocks
  all_blocks [] (c ∷ cs) p h = absurd h
  all_blocks (b ∷ bs) [] p h = absurd h
  all_blocks (b ∷ bs) (c ∷ cs) p h =
      blocks b c bs cs (record { name = sym h.0; code = code b.instrs c.instrs (all_first plain_instr b.instrs (flat bs) p) h.1 }) (all_blocks bs cs (all_second plain_instr b.instrs (flat bs) p) h.2)

  some_body : (bs cs : Option (List Block)) → list_all plain_instr (flat (blocks_of_option bs)) ≡ true → HasMarks m f bs cs → BesideBody m bs cs
  some_body None None p h = no_body
  some_body (Some bs) (Some cs) p h = body bs cs (all_blocks bs cs p h)
  some_body None (Some cs) p h = absurd h
  some_body (Some bs) None p h = absurd h

beside : (m : Module) (f g : Function) → list_all plain_instr (instrs_of f) ≡ true → IsGuarded m f g → BesideFunction m f g
beside m f g p h = record { name = sym h.name; params = sym h.params; locals = sym h.locals; ret = sym h.ret; body = some_body m f f.blocks g.blocks p h.body }

-- the functions of a module, and the first of its image

pub data BesideFunctions (m : Module) : List Function → List Function → Type 0 where
  no_functions : BesideFunctions m [] []
  functions : (f g : Function) (fs gs : List Function) → BesideFunction m f g → BesideFunctions m fs gs → BesideFunctions m (f ∷ fs) (g ∷ gs)

all_functions : (m : Module) (fs gs : List Function) → list_all plain_instr (flat_map instrs_of fs) ≡ true → AreGuarded m fs gs → BesideFunctions m fs gs
all_functions m [] gs p h = subst (BesideFunctions m []) (sym h) no_functions
all_functions m (f ∷ fs) [] p h = absurd h
all_functions m (f ∷ fs) (g ∷ gs) p h =
    functions f g fs gs (beside m f g (all_first plain_instr (instrs_of f) (flat_map instrs_of fs) p) h.0) (all_functions m fs gs (all_second plain_instr (instrs_of f) (flat_map instrs_of fs) p) h.1)

pub image_functions : (i : Interface) (m x : Module) → Guards i m x → BesideFunctions m m.functions (take (length m.functions) x.functions)
image_functions i m x g = all_functions m m.functions (take (length m.functions) x.functions) g.plain.lines g.functions

pub as_many : (m : Module) (fs gs : List Function) → BesideFunctions m fs gs → length fs ≡ length gs
as_many m _ _ no_functions = refl
as_many m _ _ (functions f g fs gs h rest) = ap suc (as_many m fs gs rest)

-- what is so of each function

pub each_of_program : (P Q : Function → Type 0) (m : Module) → ((f g : Function) → BesideFunction m f g → Q g → P f) → (fs gs : List Function) → BesideFunctions m fs gs → Each Q gs → Each P fs
each_of_program P Q m s _ _ no_functions h = tt
each_of_program P Q m s _ _ (functions f g fs gs b rest) h = (s f g b h.0, each_of_program P Q m s fs gs rest h.1)

pub each_of_image : (P Q : Function → Type 0) (m : Module) → ((f g : Function) → BesideFunction m f g → P f → Q g) → (fs gs : List Function) → BesideFunctions m fs gs → Each P fs → Each Q gs
each_of_image P Q m s _ _ no_functions h = tt
each_of_image P Q m s _ _ (functions f g fs gs b rest) h = (s f g b h.0, each_of_image P Q m s fs gs rest h.1)

-- the function of the image that has a function's number

pub record There (m : Module) (fs : List Function) (k : ℕ) (f : Function) : Type 0 where
  pub it : Function
  pub at : slice_get fs k ≡ Some it
  pub beside : BesideFunction m f it

there_by : (m : Module) (k : ℕ) (f : Function) (fs gs : List Function) → BesideFunctions m fs gs → slice_get fs k ≡ Some f → There m gs k f
there_by m k f _ _ no_functions e = none_some e
there_by m zero f _ _ (functions f2 g fs gs b rest) e = record { it = g; at = refl; beside = subst (λ (y : Function). BesideFunction m y g) (some_same e) b }
there_by m (suc k) f _ _ (functions f2 g fs gs b rest) e =
    let t = there_by m k f fs gs rest e in record { it = t.it; at = t.at; beside = t.beside }

get_take : {A : Type 0} (n k : ℕ) (xs : List A) (x : A) → slice_get (take n xs) k ≡ Some x → slice_get xs k ≡ Some x
get_take zero k xs x e = none_some e
get_take (suc n) k [] x e = none_some e
get_take (suc n) zero (y ∷ xs) x e = e
get_take (suc n) (suc k) (y ∷ xs) x e = get_take n k xs x e

pub there : (i : Interface) (m x : Module) → Guards i m x → (k : ℕ) (f : Function) → slice_get m.functions k ≡ Some f → There m x.functions k f
there i m x g k f e =
    let t = there_by m k f m.functions (take (length m.functions) x.functions) (image_functions i m x g) e in
    record { it = t.it; at = get_take (length m.functions) k x.functions t.it t.at; beside = t.beside }
