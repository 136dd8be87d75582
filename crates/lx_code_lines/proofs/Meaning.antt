-- The place at which a thread asks means the instruction that runs.
use Rattle.std.proofs.Common.{◌≡◌, ◌≢◌, ℕ, zero, suc, ◌-◌, ◌<◌, ◌≤◌, Bool, true, false, not, List, [], ◌∷◌, length, map, drop, Option, Some, None, refl, sym, subst, ◌∙◌, ap, arith}
use Rattle.std.specs.Prelude.{bytes_eq, option_map, option_and_then, slice_get, if◌then◌else◌}
use Rattle.std.specs.List.{list_any}
use Rattle.std.proofs.lemmas.Bool.{le-leb}
use Rattle.std.proofs.lemmas.List.{length-drop}
use Rattle.std.proofs.lemmas.Option.{slice_get_within}
use Rattle.lx_words.proofs.Lists.{map_length, bytes_itself}
use Rattle.lx_words.proofs.Options.{some_same, none_some}
use Rattle.lx_words.proofs.Tests.{second_of}
use Rattle.lx_ir.specs.declared.module.Block.{Block}
use Rattle.lx_ir.specs.declared.module.Function.{Function}
use Rattle.lx_ir.specs.declared.instr.Instr.{Instr}
use Rattle.lx_ir.specs.declared.instr.Op.{Op}
use Rattle.lx_ir.specs.Faults.{instrs_at, no_instrs}
use Rattle.lx_ir.specs.Lawful.{is_distinct}
use Rattle.lx_ir.specs.Lookup.{blocks_of, block_named}
use Rattle.lx_model.specs.declared.program.Program.{Program}
use Rattle.lx_model.specs.Program.{function_of, module_of}
use Rattle.lx_model.specs.Thread.{Activation, Stage, Pre, Body, Post, Crossing, Frame, Thread}
use Rattle.lx_model.specs.Effect.{text_of, types_of}
use Rattle.lx_model.specs.declared.request.Outcome.{Outcome}
use Rattle.lx_model.specs.declared.request.Outcome.TheVariants.{Trapped, Budget}
use Rattle.lx_model.specs.declared.request.Trap.TheVariants.{Unreachable}
use Rattle.lx_model.specs.declared.request.Request.{Request}
use Rattle.lx_model.specs.Next.{Step, Goes, Asks, comes_to, due_or, finish, frame_step, if_paid, instruction_step, stage_step, step, undue_step}
use Rattle.lx_images.specs.Guarded.{SlotCalls}
use Rattle.lx_simulation.proofs.Elements.{in_got, in_map}
use Rattle.lx_simulation.proofs.Frames.{AllVerified, PassesCode, sound_at, StoodBy, StoodIn, StageStood, TopStood, WaitStood, FramesStood, ThreadStood, StepStood, step_stood}
use Rattle.lx_simulation.proofs.Imaging.{other_name}
use Rattle.lx_simulation.proofs.Verifying.{op_of, name_of_block, Sound}
use Rattle.lx_simulation.proofs.Walking.{Here, here, name_of, no_ops}
use Rattle.lx_simulation.proofs.Jumping.{got_body}
use Rattle.lx_code_lines.specs.Place.{Place, place_of, first_run, acting_at, acting_in, acting, asker_within, with_left, instr_at}
use Rattle.lx_code_lines.specs.PlaceLaws.{Means}

-- the function for which frames act is at a place of its text

first_stood : (p : Program) (fs : List Frame) (a : Activation) → WaitStood p fs → first_run fs ≡ Some a → StoodIn p a
first_stood p [] a w e = none_some e
first_stood p (f ∷ fs) a w e = subst (StoodIn p) (some_same e) w.0

stage_stood : (p : Program) (s : Stage) (f : Frame) (fs : List Frame) (a : Activation) → StageStood p f.run s → WaitStood p fs → acting_at s f fs ≡ Some a → StoodIn p a
stage_stood p (Pre k) f fs a st w e = first_stood p fs a w e
stage_stood p Body f fs a st w e = subst (StoodIn p) (some_same e) st
stage_stood p (Post k v) f fs a st w e = first_stood p fs a w e

top_stood : (p : Program) (x : Option Crossing) (f : Frame) (fs : List Frame) (a : Activation) → TopStood p f.run x → WaitStood p fs → acting_in x f fs ≡ Some a → StoodIn p a
top_stood p None f fs a st w e = subst (StoodIn p) (some_same e) st
top_stood p (Some x) f fs a st w e = stage_stood p x.stage f fs a st w e

acting_stood : (p : Program) (fs : List Frame) (a : Activation) → FramesStood p fs → acting fs ≡ Some a → StoodIn p a
acting_stood p [] a st e = none_some e
acting_stood p (f ∷ fs) a st e = top_stood p f.crossing f fs a st.0 st.1 e

stood_by : (p : Program) (t n : ℕ) (thread : Thread) (s : Step) → ThreadStood p thread → StepStood p s → ((w : Thread) → ThreadStood p w → ThreadStood p (asker_within n p t w)) →
    ThreadStood p (elim s [ Goes further ↦ asker_within n p t further | Asks further r ↦ thread ])
stood_by p t n thread (Goes w) st h ih = ih w h
stood_by p t n thread (Asks w r) st h ih = st

pub asker_stood : (p : Program) → AllVerified p → SlotCalls p → (t n : ℕ) (thread : Thread) → ThreadStood p thread → ThreadStood p (asker_within n p t thread)
asker_stood p ver slots t zero thread st = st
asker_stood p ver slots t (suc n) thread st = stood_by p t n thread (step p t thread) st (step_stood p ver slots t thread st) (asker_stood p ver slots t n)

-- the first block of a name is the one that has it

found_here : (b : Block) (bs : List Block) → block_named (b ∷ bs) b.name ≡ Some b
found_here b bs = let e : bytes_eq b.name b.name ≡ true = bytes_itself b.name in grind (arith, e)

found_later : (c : Block) (bs : List Block) (label : List ℕ) → bytes_eq c.name label ≡ false → block_named (c ∷ bs) label ≡ block_named bs label
found_later c bs label e = grind (arith, e)

found : (bs : List Block) (k : ℕ) (b : Block) → is_distinct (map name_of_block bs) ≡ true → slice_get bs k ≡ Some b → block_named bs b.name ≡ Some b
found [] k b d e = none_some e
found (c ∷ bs) zero b d e = subst (λ (x : Block). block_named (c ∷ bs) x.name ≡ Some x) (some_same e) (found_here c bs)
found (c ∷ bs) (suc k) b d e =
    found_later c bs b.name (other_name (map name_of_block bs) b.name c.name d (in_map name_of_block b bs (in_got bs k b e)))
    ∙ found bs k b (second_of (not (list_any (bytes_eq c.name) (map name_of_block bs))) (is_distinct (map name_of_block bs)) d) e

-- the instruction at a place is the one from which on as many are left

left_there : (is : List Instr) (k left : ℕ) (i : Instr) → slice_get is k ≡ Some i → left ≡ length is - k → with_left left is ≡ Some i
left_there is k left i got e =
    let within : k < length is = slice_get_within is k i got in
    let fits : left ≤ length is = omega (arith, e) in
    let back : length is - left ≡ k = omega (arith, e, within) in
    ap (λ (b : Bool). if b then slice_get is (length is - left) else None) (le-leb left (length is) fits) ∙ (ap (slice_get is) back ∙ got)

means_by : (p : Program) → AllVerified p → (a : Activation) (o : Op) (os : List Op) (f : Option Function) → function_of p a.function ≡ f → StoodBy (text_of p a) (types_of p a) f a → a.code ≡ o ∷ os → Means p (place_of a) o
means_by p ver a o os None ef st ec = no_ops (sym st ∙ ec)
means_by p ver a o os (Some g) ef st ec =
    let s : Sound (module_of p (text_of p a)) g = sound_at p ver a.function g ef in
    let h : Here (instrs_at g st.block) st.place o os = here (instrs_at g st.block) st.place o os (sym st.code ∙ ec) in
    let b = got_body (blocks_of g) st.block st.place h.instr h.got in
    let same : instrs_at g st.block ≡ b.0.instrs = ap no_instrs b.1 in
    let named : block_named (blocks_of g) a.label ≡ Some b.0 = ap (block_named (blocks_of g)) (st.label ∙ ap name_of b.1) ∙ found (blocks_of g) st.block b.0 s.names b.1 in
    let many : length a.code ≡ length (instrs_at g st.block) - st.place
    = ap length st.code ∙ (map_length op_of (drop st.place (instrs_at g st.block)) ∙ length-drop st.place (instrs_at g st.block)) in
    let at : instr_at g (place_of a) ≡ Some h.instr
    = ap (λ (x : Option Block). option_and_then (λ b. with_left (length a.code) b.instrs) x) named
    ∙ (ap (with_left (length a.code)) (sym same) ∙ left_there (instrs_at g st.block) st.place (length a.code) h.instr h.got many) in
    record {
      function = g;
      instr = h.instr;
      defined = ef;
      stands = at;
      does = h.same;
      line =
          ap (λ (x : Option Function). option_map (λ (i : Instr). i.line) (option_and_then (λ y. instr_at y (place_of a)) x)) ef
          ∙ ap (λ (x : Option Instr). option_map (λ (i : Instr). i.line) x) at;
    }

pub frames_mean : (p : Program) → AllVerified p → (fs : List Frame) → FramesStood p fs → (a : Activation) (o : Op) (os : List Op) → acting fs ≡ Some a → a.code ≡ o ∷ os → Means p (place_of a) o
frames_mean p ver fs st a o os e ec = means_by p ver a o os (function_of p a.function) refl (acting_stood p fs a st e) ec

-- a request that is no end of a call is asked at an instruction

abbrev HasCode : Activation → Type 0
HasCode a = (o : Op) × (os : List Op) × (a.code ≡ o ∷ os)

abbrev pub NoEnd : Request → Type 0
NoEnd r = (e : Outcome) → r ≢ finish e

same_request : {x y : Thread} {r q : Request} → ◌≡◌ {A = Step} (Asks x r) (Asks y q) → q ≡ r
same_request e = cc

has_code : (a : Activation) (code : List Op) → a.code ≡ code → PassesCode code → HasCode a
has_code a [] ec passes = absurd passes
has_code a (o ∷ os) ec passes = (o, os, ec)

below_code : (p : Program) (fs : List Frame) (a : Activation) → WaitStood p fs → first_run fs ≡ Some a → HasCode a
below_code p [] a w e = none_some e
below_code p (f ∷ fs) a w e = subst HasCode (some_same e) (has_code f.run f.run.code refl w.1)

-- a step without code ends the call, whether it is paid or not
no_code : (p : Program) (t : ℕ) (f : Frame) (fs : List Frame) (thread w : Thread) (r : Request) (fuel : ℕ) → NoEnd r →
    elim fuel [ zero ↦ comes_to Budget thread | suc n ↦ instruction_step p t f fs [] (record thread { fuel = n }) ] ≡ Asks w r → ⊥
no_code p t f fs thread w r zero more e = more Budget (same_request e)
no_code p t f fs thread w r (suc n) more e = more (Trapped Unreachable) (same_request e)

own_code : (p : Program) (t : ℕ) (f : Frame) (fs : List Frame) (thread w : Thread) (r : Request) (code : List Op) → NoEnd r → f.run.code ≡ code → if_paid thread (instruction_step p t f fs code) ≡ Asks w r → HasCode f.run
own_code p t f fs thread w r [] more ec e = absurd (no_code p t f fs thread w r thread.fuel more e)
own_code p t f fs thread w r (o ∷ os) more ec e = (o, os, ec)

stage_code : (p : Program) (t : ℕ) (f : Frame) (fs : List Frame) (x : Crossing) (s : Stage) (thread w : Thread) (r : Request) (a : Activation) → WaitStood p fs → NoEnd r → stage_step p t f fs x s thread ≡ Asks w r → acting_at s f fs ≡ Some a → HasCode a
stage_code p t f fs x (Pre k) thread w r a below more e ea = below_code p fs a below ea
stage_code p t f fs x Body thread w r a below more e ea = subst HasCode (some_same ea) (own_code p t f fs thread w r f.run.code more refl e)
stage_code p t f fs x (Post k v) thread w r a below more e ea = below_code p fs a below ea

frame_code : (p : Program) (t : ℕ) (f : Frame) (fs : List Frame) (x : Option Crossing) (thread w : Thread) (r : Request) (a : Activation) → WaitStood p fs → NoEnd r → frame_step p t f fs x thread ≡ Asks w r → acting_in x f fs ≡ Some a → HasCode a
frame_code p t f fs None thread w r a below more e ea = subst HasCode (some_same ea) (own_code p t f fs thread w r f.run.code more refl e)
frame_code p t f fs (Some x) thread w r a below more e ea = stage_code p t f fs x x.stage thread w r a below more e ea

undue_code : (p : Program) (t : ℕ) (fs : List Frame) (due : Option Outcome) (thread w : Thread) (r : Request) (a : Activation) → FramesStood p fs → NoEnd r → due_or due thread (undue_step p t fs thread) ≡ Asks w r → acting fs ≡ Some a → HasCode a
undue_code p t fs (Some o) thread w r a st more e ea = absurd (more o (same_request e))
undue_code p t [] None thread w r a st more e ea = none_some ea
undue_code p t (f ∷ fs) None thread w r a st more e ea = frame_code p t f fs f.crossing thread w r a st.1 more e ea

place_found : (o : Option Activation) (x : Place) → option_map place_of o ≡ Some x → (a : Activation) × (o ≡ Some a) × (place_of a ≡ x)
place_found None x e = none_some e
place_found (Some a) x e = (a, refl, some_same e)

-- the thread at whose step it is asked
pub asked_line : (p : Program) → AllVerified p → (t : ℕ) (thread w : Thread) (r : Request) → FramesStood p thread.frames → step p t thread ≡ Asks w r → NoEnd r → (x : Place) → option_map place_of (acting thread.frames) ≡ Some x → (o : Op) × Means p x o
asked_line p ver t thread w r st e more x ex =
    let at = place_found (acting thread.frames) x ex in
    let code : HasCode at.0 = undue_code p t thread.frames thread.due thread w r at.0 st more e at.1 in
    (code.0, subst (λ (y : Place). Means p y code.0) at.2 (frames_mean p ver thread.frames st at.0 code.0 code.1 at.1 code.2))
