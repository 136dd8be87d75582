-- In images that are made with all guards each store has its guard.
use Rattle.std.proofs.Common.{◌≡◌, ℕ, ◌<◌, Bool, true, false, List, [], ◌∷◌, length, map, take, Option, Some, None, inl, inr, refl, sym, ◌∙◌, ap}
use Rattle.std.specs.Prelude.{slice_get, option_map, bytes_eq, nat_eq}
use Rattle.std.proofs.lemmas.Option.{slice_get-map, slice_get_within}
use Rattle.std.proofs.lemmas.Bool.{cases_lt}
use Rattle.lx_words.proofs.Options.{some_none, none_some, some_same}
use Rattle.lx_words.proofs.Lists.{got_take}
use Rattle.lx_ir.specs.declared.module.Block.{Block}
use Rattle.lx_ir.specs.declared.module.Function.{Function}
use Rattle.lx_ir.specs.declared.module.Module.{Module}
use Rattle.lx_ir.specs.declared.instr.Op.{Op}
use Rattle.lx_ir.specs.declared.instr.Op.TheVariants as op
use Rattle.lx_ir.specs.Lookup.{blocks_of_option}
use Rattle.lx_image_texts.specs.Guards.{ops_of, BlockText, block_text, FunctionText, function_text}
use Rattle.lx_image_texts.specs.Instrumented.{leaves_none, image_code, image_block_text, image_function_text}
use Rattle.lx_model.specs.declared.program.Program.{Program}
use Rattle.lx_model.specs.declared.program.ProgramFunction.{ProgramFunction}
use Rattle.lx_model.specs.Program.{module_of}
use Rattle.lx_model.specs.Thread.{CodeBlock, Routine, code_block_of, routine_of, routine_or_none}
use Rattle.lx_images.specs.Code.{image_routine, image_of_entry}
use Rattle.lx_images.specs.ImageCode.{stores_in, bare_here, bare_in}
use Rattle.lx_images.specs.Guarded.{code_or_none, bare_among}
use Rattle.lx_simulation.specs.Images.{code_of, AreFullImages}
use Rattle.lx_simulation.specs.Simulation.{AllGuarded}
use Rattle.lx_simulation.proofs.Imaging.{other_bare, found_here, found_later}
use Rattle.lx_simulation.proofs.Accepting.{image_got, no_module}

-- a block

cons_same : {A : Type 0} {x y : A} {xs ys : List A} → ◌≡◌ {A = List A} (x ∷ xs) (y ∷ ys) → (x ≡ y) × (xs ≡ ys)
cons_same e = (cc, cc)

guarded_here : (b further : Bool) → further ≡ false → bare_here b true further ≡ false
guarded_here true further e = refl
guarded_here false further e = e

-- no store of a block's code lacks its guard where none is left out
full_code : (f : Function) (m : Module) (os : List Op) (k : ℕ) → bare_in false (image_code (leaves_none f) m os) k ≡ false
full_code f m [] k = refl
full_code f m (op.Store ty v at ∷ os) k =
    guarded_here (nat_eq (stores_in (image_code (leaves_none f) m os)) k) (bare_in false (image_code (leaves_none f) m os) k) (full_code f m os k)
full_code f m (o ∷ os) k = other_bare m o (image_code (leaves_none f) m os) k tt ∙ full_code f m os k

-- the blocks of a function

blocks_found : (cs : List Block) (c : Block) (label : List ℕ) (k : ℕ) (b : Bool) → bytes_eq c.name label ≡ b → bare_in false (ops_of c) k ≡ false → bare_among (map code_block_of cs) label k ≡ false →
    bare_among (map code_block_of (c ∷ cs)) label k ≡ false
blocks_found cs c label k true e here behind = ap (λ (x : Option CodeBlock). bare_in false (code_or_none x) k) (found_here c cs label (bytes_eq c.name label) refl e) ∙ here
blocks_found cs c label k false e here behind = ap (λ (x : Option CodeBlock). bare_in false (code_or_none x) k) (found_later c cs label e) ∙ behind

full_blocks : (f : Function) (m : Module) (bs cs : List Block) → map block_text cs ≡ map (image_block_text (leaves_none f) m) bs → (label : List ℕ) (k : ℕ) → bare_among (map code_block_of cs) label k ≡ false
full_blocks f m bs [] e label k = refl
full_blocks f m [] (c ∷ cs) e label k = cc
full_blocks f m (b ∷ bs) (c ∷ cs) e label k =
    let same = cons_same e in
    blocks_found cs c label k (bytes_eq c.name label) refl (ap (λ (t : BlockText). bare_in false t.code k) same.0 ∙ full_code f m (ops_of b) k) (full_blocks f m bs cs same.1 label k)

full_body : (f : Function) (m : Module) (bs cs : Option (List Block)) → option_map (map block_text) cs ≡ option_map (map (image_block_text (leaves_none f) m)) bs → (label : List ℕ) (k : ℕ) →
    bare_among (map code_block_of (blocks_of_option cs)) label k ≡ false
full_body f m bs None e label k = refl
full_body f m None (Some cs) e label k = some_none e
full_body f m (Some bs) (Some cs) e label k = full_blocks f m bs cs (some_same e) label k

-- a function

full_function : (m : Module) (f g : Function) → function_text g ≡ image_function_text leaves_none m f → (label : List ℕ) (k : ℕ) → bare_among (routine_of g).blocks label k ≡ false
full_function m f g e label k = full_body f m f.blocks g.blocks (ap (λ (t : FunctionText). t.blocks) e) label k

same_text : (m : Module) (f : Function) (found : Option Function) → option_map function_text found ≡ Some (image_function_text leaves_none m f) → (g : Function) × (found ≡ Some g) × (function_text g ≡ image_function_text leaves_none m f)
same_text m f None e = none_some e
same_text m f (Some g) e = (g, refl, some_same e)

-- the function of the image for one of its module
text_at : (m : Module) (gs : List Function) (k : ℕ) (f : Function) → map function_text gs ≡ map (image_function_text leaves_none m) m.functions → slice_get m.functions k ≡ Some f →
    (g : Function) × (slice_get gs k ≡ Some g) × (function_text g ≡ image_function_text leaves_none m f)
text_at m gs k f e ef =
    same_text m f (slice_get gs k)
    (sym (slice_get-map function_text gs k) ∙ (ap (λ (ts : List FunctionText). slice_get ts k) e ∙ (slice_get-map (image_function_text leaves_none m) m.functions k ∙ ap (option_map (image_function_text leaves_none m)) ef)))

module_there : (p : Program) (m k : ℕ) (f : Function) → slice_get (module_of p (Some m)).functions k ≡ Some f → m < length p.modules
module_there p m k f ef =
    elim (cases_lt m (length p.modules)) [
      | inl less ↦ less
      | inr past ↦ absurd (no_module p m k f past ef)
    ]

pub all_guarded : (p : Program) (images : List Module) → AreFullImages p images → AllGuarded (code_of p images)
all_guarded p images are n m k f en ef label j =
    let im = are m (module_there p m k f ef) in
    let g = text_at (module_of p (Some m)) (take (length (module_of p (Some m)).functions) im.0.functions) k f im.2.functions ef in
    let got : slice_get im.0.functions k ≡ Some g.0 = sym (got_take im.0.functions (length (module_of p (Some m)).functions) k (slice_get_within (module_of p (Some m)).functions k f ef)) ∙ g.1 in
    let is : image_routine (code_of p images) n ≡ routine_of g.0
    = ap (λ (e : Option ProgramFunction). routine_or_none (image_of_entry (code_of p images) e)) en ∙ ap routine_or_none (image_got (code_of p images) m im.0 k im.1 ∙ got) in
    ap (λ (r : Routine). bare_among r.blocks label j) is ∙ full_function (module_of p (Some m)) f g.0 g.2 label j
