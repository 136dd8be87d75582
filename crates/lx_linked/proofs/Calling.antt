-- What an instruction asks for fits: a function that is entered has its arguments, and whoever waits for a result gets one.
use Rattle.std.proofs.Common.{◌≡◌, ℕ, Bool, true, false, ◌&&◌, ◌||◌, ◌⊎◌, List, [], ◌∷◌, ◌++◌, length, Option, Some, None, inl, inr, refl, sym, subst, ◌∙◌, ap}
use Rattle.std.specs.Prelude.{slice_get, is_some, is_none, option_map, cond, flat_map}
use Rattle.std.specs.List.{list_all}
use Rattle.lx_words.specs.Word.{Word}
use Rattle.lx_words.proofs.Tests.{true_false, first_of, second_of, suc_same}
use Rattle.lx_words.proofs.Options.{none_some, some_same}
use Rattle.lx_words.proofs.Lists.{map_length}
use Rattle.lx_ir.specs.declared.types.Scalar.{Scalar}
use Rattle.lx_ir.specs.declared.module.Symbol.TheVariants as symbol
use Rattle.lx_ir.specs.declared.module.Block.{Block}
use Rattle.lx_ir.specs.declared.module.Function.{Function}
use Rattle.lx_ir.specs.declared.module.Module.{Module}
use Rattle.lx_ir.specs.declared.instr.Argument.{Argument}
use Rattle.lx_ir.specs.declared.instr.Callee.{Callee}
use Rattle.lx_ir.specs.declared.instr.Callee.TheVariants as callee
use Rattle.lx_ir.specs.declared.instr.Instr.{Instr}
use Rattle.lx_ir.specs.declared.instr.Op.{Op}
use Rattle.lx_ir.specs.declared.instr.Op.TheVariants as op
use Rattle.lx_ir.specs.Lookup.{blocks_of, instrs_of, is_defined}
use Rattle.lx_ir.specs.Lawful.{is_lawful_value, is_label, ends_once, has_form, is_lawful_op, is_lawful_block, is_lawful_body, is_lawful_function, is_lawful_import, numbers_registers}
use Rattle.lx_ir.specs.Operands.{operands_of, register_types}
use Rattle.lx_ir.specs.Faults.{instrs_at, value_fits, form_fits, has_signature, are_arguments}
use Rattle.lx_ir.specs.Faults.{same_result as same_scalars}
use Rattle.lx_ir.specs.Verified.{IsVerified}
use Rattle.lx_model.specs.declared.program.Program.{Program}
use Rattle.lx_model.specs.declared.request.Way.{Way}
use Rattle.lx_model.specs.declared.request.Way.TheVariants.{Script, Direct, Indirect, Slot}
use Rattle.lx_model.specs.declared.request.What.{What}
use Rattle.lx_model.specs.declared.request.What.TheVariants as what
use Rattle.lx_annot.specs.declared.interface.Slot.{Slot as SlotType}
use Rattle.lx_model.specs.Program.{Home, home_or_kernel, module_of, function_of, declared_width, Target, ToNative, ToSlot, ToImport, ToOwn, Nowhere, target}
use Rattle.lx_model.specs.Thread.{Activation, head_destination}
use Rattle.lx_model.specs.Effect.{Effect, Wants, Enters, Calls, effect, division, arrival, target_effect, slot_effect, call_effect, text_of, argument_words, call_result, returned_by, returned_at, returned_value}
use Rattle.lx_images.specs.Places.{IsIn}
use Rattle.lx_simulation.proofs.Elements.{all_in}
use Rattle.lx_simulation.proofs.Walking.{here, no_ops, instr_in}
use Rattle.lx_simulation.proofs.Counting.{signature_counts}
use Rattle.lx_simulation.proofs.Targets.{TargetFits, target_fits}
use Rattle.lx_simulation.proofs.Frames.{sound_at, entry_function}
use Rattle.lx_linked.proofs.AssignedEffects.{StandsBy, StandsIn}
use Rattle.lx_linked.proofs.Signatures.{Linked, Takes, TakesSlot, NativeGives, TargetTakes, target_takes, width_there}
use Rattle.lx_simulation.proofs.Verifying.{import_blocks}
use Rattle.lx_simulation.proofs.Table.{in_either}

-- instructions of a lawful function have their form

flat_in : {A B : Type 0} (f : A → List B) (y : B) (xs : List A) → IsIn y (flat_map f xs) → (x : A) × IsIn x xs × IsIn y (f x)
flat_in f y [] i = absurd i
flat_in f y (x ∷ xs) i =
    elim (in_either y (f x) (flat_map f xs) i) [
      | inl a ↦ (x, inl refl, a)
      | inr b ↦ (let r = flat_in f y xs b in (r.0, inr r.1, r.2))
    ]

pub block_formed : (m : Module) (f : Function) (b : Block) (i : Instr) → is_lawful_block m f b ≡ true → IsIn i b.instrs → has_form m i.op ≡ true
block_formed m f b i e a =
    let ops = second_of (is_label b.name && ends_once b.instrs) (list_all (λ (x : Instr). is_lawful_op m f x.op) b.instrs) e in
    let one = all_in (λ (x : Instr). is_lawful_op m f x.op) b.instrs i ops a in
    first_of (has_form m i.op) _ (first_of (has_form m i.op && list_all (λ a. is_lawful_value m f a.ty a.value) (operands_of i.op)) _ one)

body_formed : (m : Module) (f : Function) (i : Instr) → is_lawful_body m f ≡ true → IsIn i (instrs_of f) → has_form m i.op ≡ true
body_formed m f i e a =
    let b = flat_in (λ (b : Block). b.instrs) i (blocks_of f) a in
    let blocks = second_of _ (list_all (is_lawful_block m f) (blocks_of f)) (first_of _ (numbers_registers f) e) in
    block_formed m f b.0 i (all_in (is_lawful_block m f) (blocks_of f) b.0 blocks b.1) b.2

pub formed_by : (m : Module) (f : Function) (i : Instr) (b : Bool) → is_defined f ≡ b → cond b (is_lawful_body m f) (is_lawful_import f) ≡ true → IsIn i (instrs_of f) → has_form m i.op ≡ true
formed_by m f i true d e a = body_formed m f i e a
formed_by m f i false d e a = absurd (subst (λ (bs : List Block). IsIn i (flat_map (λ (b : Block). b.instrs) bs)) (import_blocks f false d refl) a)

formed : (m : Module) (f : Function) (i : Instr) → IsVerified m → IsIn f m.functions → IsIn i (instrs_of f) → has_form m i.op ≡ true
formed m f i v j a = formed_by m f i (is_defined f) refl (second_of _ _ (all_in (is_lawful_function m) m.functions f v.lawful.functions j)) a

-- what is known of the instruction at which a function stands
record Founded (p : Program) (a : Activation) (o : Op) : Type 0 where
  function : Function
  is : function_of p a.function ≡ Some function
  form : form_fits (module_of p (text_of p a)) function o ≡ true
  shape : has_form (module_of p (text_of p a)) o ≡ true

founded_by : (p : Program) → Linked p → (a : Activation) (qs : List Word) (o : Op) (os : List Op) (f : Option Function) → function_of p a.function ≡ f → a.code ≡ o ∷ os → StandsBy f a qs → Founded p a o
founded_by p l a qs o os None ef ec st = no_ops (sym st.0 ∙ ec)
founded_by p l a qs o os (Some g) ef ec st =
    let m : Module = module_of p (text_of p a) in
    let h = here (instrs_at g st.block) st.place o os (sym st.code ∙ ec) in
    let at = instr_in g st.block st.place h.instr h.got in
    let typed = (sound_at p l.verified a.function g ef).typed h.instr at in
    record {
      function = g;
      is = ef;
      form = ap (form_fits m g) (sym h.same) ∙ second_of (list_all (λ (x : Argument). value_fits (register_types g) x.ty x.value) (operands_of h.instr.op)) (form_fits m g h.instr.op) typed;
      shape = ap (has_form m) (sym h.same) ∙ formed m g h.instr (l.verified (text_of p a)) (entry_function p (slice_get p.functions a.function) g ef) at;
    }

founded : (p : Program) → Linked p → (a : Activation) (qs : List Word) (o : Op) (os : List Op) → a.code ≡ o ∷ os → StandsIn p a qs → Founded p a o
founded p l a qs o os ec st = founded_by p l a qs o os (function_of p a.function) refl ec st

-- who waits for a result

-- the instruction at which the function stands gives a register
abbrev pub needs : List Op → Bool
needs code = is_some (head_destination code)

-- how a function may be entered from such a site
abbrev pub WayFits : Program → List Op → Way → List Word → Type 0
WayFits p code (Script n) args = Takes p false (length args) n × (needs code ≡ false)
WayFits p code (Direct n) args = Takes p (needs code) (length args) n × (home_or_kernel p n ≡ None)
WayFits p code (Indirect a) args = needs code ≡ true → is_some (call_result code) ≡ true
WayFits p code (Slot at ty) args = (st : SlotType) → slice_get p.interface.slots ty ≡ Some st → (length args ≡ length st.params) × (needs code ≡ true → is_some (declared_width st.ret) ≡ true)

abbrev pub IsReturn : List Op → Type 0
IsReturn (op.Ret v ∷ os) = Unit {0}
IsReturn _ = ⊥

-- what may be asked from such a site
abbrev pub AskFits : Program → List Op → What → Type 0
AskFits p code (what.Enter way args) = WayFits p code way args
AskFits p code (what.Native k args) = NativeGives (needs code) k
AskFits p code (what.Load at w) = Unit {0}
AskFits p code (what.Alloca at size) = Unit {0}
AskFits p code (what.Return low high) = IsReturn code
AskFits p code (what.Perform n post k env source dest) = Unit {0}
AskFits p code (what.Finish o) = Unit {0}
AskFits p code w = needs code ≡ false

abbrev pub EffectFits : Program → List Op → Effect → Type 0
EffectFits p code (Wants w) = AskFits p code w
EffectFits p code (Enters w) = AskFits p code w
EffectFits p code (Calls n args) = Takes p (needs code) (length args) n
EffectFits p code e = Unit {0}

division_fits : (p : Program) (code : List Op) (a : Activation) (w : Option Word) → EffectFits p code (division a w)
division_fits p code a None = tt
division_fits p code a (Some w) = tt

arrival_fits : (p : Program) (code : List Op) (a : Activation) (b : Option _) → EffectFits p code (arrival p a b)
arrival_fits p code a None = tt
arrival_fits p code a (Some b) = tt

slot_fits : (p : Program) (code : List Op) (s : ℕ) (args : List Word) → TakesSlot p (needs code) (length args) s → EffectFits p code (slot_effect s args)
slot_fits p code s [] takes = tt
slot_fits p code s (x ∷ args) takes = λ st e. (let h = takes st e in (suc_same (length args) (length st.params) h.0, h.1))

target_asks : (p : Program) (code : List Op) (h : Home) (t : Target) (args : List Word) → TargetTakes p (needs code) (length args) t → TargetFits p h t → EffectFits p code (target_effect t args)
target_asks p code h (ToNative k) args takes fits = takes
target_asks p code h (ToSlot s) args takes fits = slot_fits p code s args takes
target_asks p code None (ToImport n) args takes fits = absurd fits
target_asks p code (Some m) (ToImport n) args takes fits = (takes, fits)
target_asks p code h (ToOwn n) args takes fits = takes
target_asks p code h Nowhere args takes fits = tt

call_needs : (to : Option ℕ) (ret : Option Scalar) → (is_none to || is_some ret) ≡ true → is_some to ≡ true → is_some ret ≡ true
call_needs None ret e h = true_false (sym h)
call_needs (Some k) ret e h = e

result_given : (ret fr : Option Scalar) → same_scalars ret fr ≡ true → is_some ret ≡ true → is_some fr ≡ true
result_given None fr e h = true_false (sym h)
result_given (Some s) None e h = e
result_given (Some s) (Some t) e h = refl

signature_result : (ret : Option Scalar) (args : List Argument) (o : Option Function) (g : Function) → has_signature ret args o ≡ true → o ≡ Some g → same_scalars ret g.ret ≡ true
signature_result ret args None g e eg = none_some eg
signature_result ret args (Some f) g e eg = ap (λ (x : Function). same_scalars ret x.ret) (sym (some_same eg)) ∙ first_of (same_scalars ret f.ret) (are_arguments args f.params) e

call_fits : (p : Program) → Linked p → (a : Activation) (to : Option ℕ) (ret : Option Scalar) (y : Callee) (args : List Argument) (os : List Op) (words : List Word) → length words ≡ length args → Founded p a (op.Call to ret y args) →
    EffectFits p (op.Call to ret y args ∷ os) (call_effect p a y words)
call_fits p l a to ret (callee.Symbol (symbol.Function k)) args os words many f =
    let m : Module = module_of p (text_of p a) in
    let sig = signature_counts ret args (slice_get m.functions k) f.form in
    let res : is_some to ≡ true → is_some sig.0.ret ≡ true = λ h. result_given ret sig.0.ret (signature_result ret args (slice_get m.functions k) sig.0 f.form sig.1) (call_needs to ret (first_of (is_none to || is_some ret) _ f.shape) h) in
    target_asks p (op.Call to ret (callee.Symbol (symbol.Function k)) args ∷ os) (text_of p a) (target p (text_of p a) k) words
    (subst (λ (n : ℕ). TargetTakes p (is_some to) n (target p (text_of p a) k)) (sym (many ∙ sig.2)) (target_takes p l (is_some to) (text_of p a) k sig.0 sig.1 res)) (target_fits p (text_of p a) k)
call_fits p l a to ret (callee.Symbol (symbol.Global k)) args os words many f = tt
call_fits p l a to ret (callee.Register r) args os words many f = λ h. width_there ret (call_needs to ret (first_of (is_none to || is_some ret) _ f.shape) h)

fits_by : (p : Program) → Linked p → (a : Activation) (o : Op) (os : List Op) → Founded p a o → EffectFits p (o ∷ os) (effect p a o)
fits_by p l a (op.Binary to b ty x y) os f = division_fits p (op.Binary to b ty x y ∷ os) a _
fits_by p l a (op.Alloca to ty) os f = tt
fits_by p l a (op.Load to ty at) os f = tt
fits_by p l a (op.Store ty v at) os f = refl
fits_by p l a (op.CopyBlock moves dest source len) os f = refl
fits_by p l a (op.FillBlock dest byte len) os f = refl
fits_by p l a (op.Call to ret y args) os f = call_fits p l a to ret y args os (argument_words p a args) (map_length _ args) f
fits_by p l a (op.Jump label) os f = arrival_fits p (op.Jump label ∷ os) a _
fits_by p l a (op.Branch test x y) os f = arrival_fits p (op.Branch test x y ∷ os) a _
fits_by p l a (op.Switch ty v otherwise cases) os f = arrival_fits p (op.Switch ty v otherwise cases ∷ os) a _
fits_by p l a o os f = tt

pub effect_fits : (p : Program) → Linked p → (a : Activation) (qs : List Word) (o : Op) (os : List Op) → a.code ≡ o ∷ os → StandsIn p a qs → EffectFits p a.code (effect p a o)
effect_fits p l a qs o os ec st = subst (λ (code : List Op). EffectFits p code (effect p a o)) (sym ec) (fits_by p l a o os (founded p l a qs o os ec st))

-- a function that gives a result returns one

-- the function gives a result
abbrev pub HasResult : Program → ℕ → Type 0
HasResult p n = (g : Function) → function_of p n ≡ Some g → is_some g.ret ≡ true

returns_some : (v : Option Argument) (g : Function) → same_scalars (option_map (λ (x : Argument). x.ty) v) g.ret ≡ true → is_some g.ret ≡ true → is_some v ≡ true
returns_some (Some x) g e h = refl
returns_some None g e h = absurd (no_result g.ret e h)
  where
    no_result : (o : Option Scalar) → same_scalars None o ≡ true → is_some o ≡ true → ⊥
    no_result None e h = true_false (sym h)
    no_result (Some t) e h = true_false (sym e)

some_returned : (p : Program) (a : Activation) (v : Option Argument) → is_some v ≡ true → is_some (returned_by p a (op.Ret v)) ≡ true
some_returned p a None h = h
some_returned p a (Some x) h = refl

ret_result : (p : Program) → Linked p → (a : Activation) (qs : List Word) (v : Option Argument) (os : List Op) → a.code ≡ op.Ret v ∷ os → StandsIn p a qs → HasResult p a.function → is_some (returned_value p a) ≡ true
ret_result p l a qs v os ec st has =
    let f = founded p l a qs (op.Ret v) os ec st in
    ap (λ (code : List Op). is_some (returned_at p a code)) ec ∙ some_returned p a v (returns_some v f.function f.form (has f.function f.is))

result_by : (p : Program) → Linked p → (a : Activation) (qs : List Word) (code : List Op) → a.code ≡ code → IsReturn code → StandsIn p a qs → HasResult p a.function → is_some (returned_value p a) ≡ true
result_by p l a qs [] ec r st has = absurd r
result_by p l a qs (op.Ret v ∷ os) ec r st has = ret_result p l a qs v os ec st has
result_by p l a qs (o ∷ os) ec r st has = absurd r

pub returns_result : (p : Program) → Linked p → (a : Activation) (qs : List Word) → IsReturn a.code → StandsIn p a qs → HasResult p a.function → is_some (returned_value p a) ≡ true
returns_result p l a qs r st has = result_by p l a qs a.code refl r st has
