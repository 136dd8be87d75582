-- The functions of a lawful, verified module are lawful and without fault in its image.
use Rattle.std.proofs.Common.{◌≡◌, ℕ, ◌<◌, true, List, [], ◌∷◌, length, take, Option, Some, None, refl, ◌∙◌}
use Rattle.std.specs.Prelude.{slice_get}
use Rattle.std.specs.List.{list_all}
use Rattle.lx_words.proofs.Lists.{got_take, all_joined}
use Rattle.lx_words.proofs.Tests.{first_of, second_of}
use Rattle.lx_ir.specs.declared.module.Block.{Block}
use Rattle.lx_ir.specs.declared.module.Function.{Function}
use Rattle.lx_ir.specs.declared.module.Module.{Module}
use Rattle.lx_ir.specs.declared.instr.Instr.{Instr}
use Rattle.lx_ir.specs.Lookup.{blocks_of_option}
use Rattle.lx_ir.specs.Lawful.{is_lawful_op, is_lawful_block, is_lawful_function}
use Rattle.lx_ir.specs.Faults.{first_some, global_fault}
use Rattle.lx_ir.specs.Verified.{IsVerified}
use Rattle.lx_annot.specs.declared.interface.Interface.{Interface}
use Rattle.lx_image_texts.specs.Guards.{Guards}
use Rattle.lx_image_texts.proofs.Distinct.{Each}
use Rattle.lx_image_texts.proofs.Erasing.{lawful_blocks}
use Rattle.lx_image_texts.proofs.Wrapping.{each_at}
use Rattle.lx_image_texts.specs.ProgramLaws.{IsWell}
use Rattle.lx_image_texts.proofs.Beside.{BesideFunction, flat}
use Rattle.lx_image_texts.proofs.Faultless.{parts, whole, parts_image}
use Rattle.lx_image_texts.proofs.LawfulImages.{lawful_more}
use Rattle.lx_image_texts.proofs.Paired.{image_functions, each_of_image}
use Rattle.lx_image_texts.proofs.Programs.{each_of_all, behind_globals, Faultless, each_faultless}
use Rattle.lx_image_texts.proofs.Typed.{types_image}

-- the code of a lawful function

blocks_code : (m : Module) (f : Function) (bs : List Block) → list_all (is_lawful_block m f) bs ≡ true → list_all (λ (j : Instr). is_lawful_op m f j.op) (flat bs) ≡ true
blocks_code m f [] l = refl
blocks_code m f (b ∷ bs) l =
    all_joined (λ (j : Instr). is_lawful_op m f j.op) b.instrs (flat bs) (second_of _ (list_all (λ (j : Instr). is_lawful_op m f j.op) b.instrs) (first_of (is_lawful_block m f b) (list_all (is_lawful_block m f) bs) l))
    (blocks_code m f bs (second_of (is_lawful_block m f b) (list_all (is_lawful_block m f) bs) l))

code_by : (m : Module) (f : Function) (bs : Option (List Block)) → f.blocks ≡ bs → is_lawful_function m f ≡ true → list_all (λ (j : Instr). is_lawful_op m f j.op) (flat (blocks_of_option bs)) ≡ true
code_by m f None e l = refl
code_by m f (Some bs) e l = blocks_code m f bs (lawful_blocks m f bs e l)

pub each_and : (m : Module) (fs : List Function) → Each (λ f. is_lawful_function m f ≡ true) fs → Each (Faultless m) fs → Each (IsWell m) fs
each_and m [] l h = tt
each_and m (f ∷ fs) l h = (record { lawful = l.0; no_fault = h.0 }, each_and m fs l.1 h.1)

pub each_well : (m : Module) → IsVerified m → Each (IsWell m) m.functions
each_well m v =
    each_and m m.functions (each_of_all (is_lawful_function m) m.functions v.lawful.functions)
    (each_faultless m m.functions (behind_globals m (first_some (global_fault m) m.globals) v.no_fault).1)

function_well : (i : Interface) (m x : Module) → Guards i m x → (f h : Function) → BesideFunction m f h → IsWell m f → IsWell x h
function_well i m x g f h b w =
    let p = parts m f w.no_fault in
    record { lawful = lawful_more i m x g f h b w.lawful; no_fault = whole x h (parts_image m x f h b (types_image i m x g f h b (code_by m f f.blocks refl w.lawful) p.typed) p) }

pub functions_well : (i : Interface) (m x : Module) → IsVerified m → Guards i m x → Each (IsWell x) (take (length m.functions) x.functions)
functions_well i m x v g =
    each_of_image (IsWell m) (IsWell x) m (function_well i m x g) m.functions (take (length m.functions) x.functions) (image_functions i m x g) (each_well m v)

pub functions : (i : Interface) (m x : Module) → IsVerified m → Guards i m x → (k : ℕ) (f : Function) → k < length m.functions → slice_get x.functions k ≡ Some f → IsWell x f
functions i m x v g k f l e =
    each_at (IsWell x) (take (length m.functions) x.functions) k f (functions_well i m x v g) (got_take x.functions (length m.functions) k l ∙ e)
