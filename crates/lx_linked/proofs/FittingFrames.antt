-- A function that runs is at a place of its text, and its registers are as wide as their types.
use Rattle.std.proofs.Common.{◌≡◌, ℕ, zero, suc, ◌+◌, ◌<◌, Bool, true, false, ◌||◌, List, [], ◌∷◌, ◌++◌, length, map, replicate, Option, Some, refl, sym, subst, ◌∙◌, ap, arith, ltb-true}
use Rattle.std.specs.Prelude.{slice_get, slice_index_or, nat_lt, filter_map}
use Rattle.std.specs.List.{list_all}
use Rattle.lx_words.specs.declared.word.Width.{Width}
use Rattle.lx_words.specs.Word.{Word}
use Rattle.lx_words.proofs.Tests.{first_of, second_of, or_false, less_most}
use Rattle.lx_words.proofs.Options.{some_same}
use Rattle.lx_words.proofs.Lists.{map_length}
use Rattle.lx_ir.specs.declared.types.Scalar.{Scalar}
use Rattle.lx_ir.specs.declared.module.Value.{Value}
use Rattle.lx_ir.specs.declared.module.Value.TheVariants as value
use Rattle.lx_ir.specs.declared.module.Block.{Block}
use Rattle.lx_ir.specs.declared.module.Function.{Function}
use Rattle.lx_ir.specs.declared.module.Module.{Module}
use Rattle.lx_ir.specs.declared.module.Parameter.{Parameter}
use Rattle.lx_ir.specs.declared.instr.Argument.{Argument}
use Rattle.lx_ir.specs.declared.instr.Instr.{Instr}
use Rattle.lx_ir.specs.declared.instr.Op.{Op}
use Rattle.lx_ir.specs.Layout.{width_of}
use Rattle.lx_ir.specs.Lookup.{blocks_of, instrs_of}
use Rattle.lx_ir.specs.Lawful.{has_form}
use Rattle.lx_ir.specs.Operands.{given_by, is_phi, operands_of, result_of, register_count, register_types}
use Rattle.lx_ir.specs.Faults.{instrs_at, is_given, value_fits, fits_if_typed, type_of_constant, form_fits}
use Rattle.lx_model.specs.declared.program.Program.{Program}
use Rattle.lx_model.specs.Program.{same_widths, param_widths}
use Rattle.lx_model.specs.Fits.{widths}
use Rattle.lx_model.specs.Thread.{Activation, zero_word, routine_of, start_of, code_block_of, with_register, head_destination, behind_head, activation_behind, first_label}
use Rattle.lx_model.specs.Effect.{operand, text_of}
use Rattle.lx_images.specs.Places.{IsIn}
use Rattle.lx_simulation.proofs.Elements.{all_in, in_got}
use Rattle.lx_simulation.proofs.Verifying.{gives_known}
use Rattle.lx_simulation.proofs.Walking.{is_assigned, register_here, untouched, with_length, gives_it, Here, here, assigned_more, grows, start_code, enough}
use Rattle.lx_linked.specs.Threads.{has_value, name_of_block, RunsAt}
use Rattle.lx_linked.proofs.Functions.{Known, given_type}
use Rattle.lx_linked.proofs.FittingReads.{operand_valued, valued_type}
use Rattle.lx_linked.proofs.Widths.{scalar_is, widths_are, constant_width, parameter_width}
use Rattle.lx_linked.proofs.AssignedReads.{block_instr}

-- registers with values are as wide as their types
abbrev pub Wide : Function → List ℕ → ℕ → ℕ → List Word → Type 0
Wide g walk block place rs = (r : ℕ) (ty : Scalar) → slice_get (register_types g) r ≡ Some ty → has_value g walk block place r ≡ true → (slice_index_or rs r zero_word).width ≡ width_of ty

-- operands

pub operand_wide : (p : Program) (m : Module) (g : Function) → Known m g → (a : Activation) (walk : List ℕ) (block place : ℕ) → Wide g walk block place a.registers → (v : Value) (ty : Scalar) → value_fits (register_types g) ty v ≡ true →
    ((r : ℕ) → v ≡ value.Register r → has_value g walk block place r ≡ true) → (operand p a v).width ≡ width_of ty
operand_wide p m g kn a walk block place wide (value.Register r) ty fits valued =
    let there = valued r refl in
    let t = valued_type m g kn walk block place r there in
    wide r t.0 t.1 there ∙ scalar_is t.0 ty (sym (ap (fits_if_typed ty) t.1) ∙ fits)
operand_wide p m g kn a walk block place wide (value.Constant c) ty fits valued = constant_width p (text_of p a) c ∙ scalar_is (type_of_constant c) ty fits

-- what is known of the instruction at the place where a function is
pub record Stands (m : Module) (g : Function) (a : Activation) (st : RunsAt g a) (o : Op) (os : List Op) : Type 0 where
  pub at : Here (instrs_at g st.block) st.place o os
  pub member : IsIn at.instr (instrs_of g)
  pub fits : list_all (λ (x : Argument). value_fits (register_types g) x.ty x.value) (operands_of o) ≡ true
  pub form : form_fits m g o ≡ true
  pub shape : has_form m o ≡ true

pub stands : (m : Module) (g : Function) → Known m g → (a : Activation) (st : RunsAt g a) (o : Op) (os : List Op) → a.code ≡ o ∷ os → Stands m g a st o os
stands m g kn a st o os ec =
    let h = here (instrs_at g st.block) st.place o os (sym st.code ∙ ec) in
    let j = block_instr g st.block h.instr (in_got (instrs_at g st.block) st.place h.instr h.got) in
    let typed = kn.is_sound.typed h.instr j in
    record {
      at = h;
      member = j;
      fits = sym (ap (λ (x : Op). list_all (λ (y : Argument). value_fits (register_types g) y.ty y.value) (operands_of x)) h.same)
          ∙ first_of (list_all (λ (y : Argument). value_fits (register_types g) y.ty y.value) (operands_of h.instr.op)) (form_fits m g h.instr.op) typed;
      form = sym (ap (form_fits m g) h.same) ∙ second_of (list_all (λ (y : Argument). value_fits (register_types g) y.ty y.value) (operands_of h.instr.op)) (form_fits m g h.instr.op) typed;
      shape = sym (ap (has_form m) h.same) ∙ kn.form h.instr j;
    }

pub operands_wide : (p : Program) (m : Module) (g : Function) → Known m g → (a : Activation) (st : RunsAt g a) (o : Op) (os : List Op) → Stands m g a st o os → is_phi o ≡ false → (x : Argument) → IsIn x (operands_of o) →
    (operand p a x.value).width ≡ width_of x.ty
operands_wide p m g kn a st o os s plain x i =
    operand_wide p m g kn a st.walk st.block st.place st.widths x.value x.ty (all_in (λ (y : Argument). value_fits (register_types g) y.ty y.value) (operands_of o) x s.fits i)
    (λ r v. operand_valued m g kn.is_sound st.walk st.block st.place s.at.instr x r st.comes s.at.got (ap is_phi s.at.same ∙ plain) (subst (λ (y : Op). IsIn x (operands_of y)) (sym s.at.same) i) v)

-- past an instruction

-- a register that the instruction gives is given a word as wide as the result
abbrev pub GivesWide : Op → Option Word → Type 0
GivesWide o w = (r : ℕ) → given_by o ≡ Some r → (x : Word) × (w ≡ Some x) × ((ty : Scalar) → result_of o ≡ Some ty → x.width ≡ width_of ty)

past_cases : (m : Module) (g : Function) → Known m g → (a : Activation) (st : RunsAt g a) (o : Op) (os : List Op) (w : Option Word) (s : Stands m g a st o os) → a.code ≡ o ∷ os → GivesWide o w →
    (r : ℕ) (ty : Scalar) (b : Bool) → is_given r (given_by o) ≡ b → slice_get (register_types g) r ≡ Some ty → (nat_lt r (length g.params) || (is_assigned g st.walk st.block st.place r || b)) ≡ true →
    (slice_index_or (with_register (head_destination a.code) w a.registers) r zero_word).width ≡ width_of ty
past_cases m g kn a st o os w s ec gives r ty true eb et hv =
    let to = gives_it r (given_by o) eb in
    let x = gives r to in
    let given : given_by s.at.instr.op ≡ Some r = ap given_by s.at.same ∙ to in
    let within : r < length a.registers = less_most r (length g.params + length g.locals) (length a.registers) (gives_known m g kn.is_sound s.at.instr r s.member given) st.many in
    let put : slice_index_or (with_register (head_destination a.code) w a.registers) r zero_word ≡ x.0
    = ap (λ (xs : List Op). slice_index_or (with_register (head_destination xs) w a.registers) r zero_word) ec
    ∙ (ap (λ (k : Option ℕ). slice_index_or (with_register k w a.registers) r zero_word) to
    ∙ (ap (λ (y : Option Word). slice_index_or (with_register (Some r) y a.registers) r zero_word) x.1 ∙ register_here a.registers r x.0 within)) in
    ap (λ (y : Word). y.width) put ∙ x.2 ty (sym (ap result_of s.at.same) ∙ (sym (given_type m g kn s.at.instr r s.member given) ∙ et))
past_cases m g kn a st o os w s ec gives r ty false eb et hv =
    ap (λ (y : Word). y.width) (untouched (head_destination a.code) w a.registers r (ap (λ (xs : List Op). is_given r (head_destination xs)) ec ∙ eb))
    ∙ st.widths r ty et (ap (λ (b : Bool). nat_lt r (length g.params) || b) (sym (or_false (is_assigned g st.walk st.block st.place r))) ∙ hv)

pub past_runs : (m : Module) (g : Function) → Known m g → (a : Activation) (st : RunsAt g a) (o : Op) (os : List Op) (w : Option Word) → Stands m g a st o os → a.code ≡ o ∷ os → GivesWide o w → RunsAt g (activation_behind w a)
past_runs m g kn a st o os w s ec gives =
    record {
      block = st.block;
      place = suc st.place;
      walk = st.walk;
      comes = st.comes;
      blocks = st.blocks;
      label = st.label;
      code = ap behind_head ec ∙ sym s.at.behind;
      many = grows (register_count g) a.registers (with_register (head_destination a.code) w a.registers) (with_length (head_destination a.code) w a.registers) st.many;
      widths = λ r ty et hv.
          past_cases m g kn a st o os w s ec gives r ty (is_given r (given_by o)) refl et
          (ap (λ (b : Bool). nat_lt r (length g.params) || b) (sym (assigned_more g st.walk st.block st.place r o os s.at)) ∙ hv);
    }

-- the start

start_label : (bs : List Block) → first_label (map code_block_of bs) ≡ name_of_block (slice_get bs 0)
start_label [] = refl
start_label (b ∷ bs) = refl

abbrev width_of_word : Word → Width
width_of_word w = w.width

first_width : {v w : Width} {vs ws : List Width} → ◌≡◌ {A = List Width} (v ∷ vs) (w ∷ ws) → v ≡ w
first_width e = cc

rest_widths : {v w : Width} {vs ws : List Width} → ◌≡◌ {A = List Width} (v ∷ vs) (w ∷ ws) → vs ≡ ws
rest_widths e = cc

no_widths : {A : Type 0} {w : Width} {ws : List Width} → ◌≡◌ {A = List Width} [] (w ∷ ws) → A
no_widths e = cc

counts : (args : List Word) (ps : List Parameter) → map width_of_word args ≡ map parameter_width ps → length args ≡ length ps
counts args ps e = sym (map_length width_of_word args) ∙ (ap length e ∙ map_length parameter_width ps)

param_wide : (args : List Word) (ps : List Parameter) (ts : List Scalar) (n r : ℕ) (ty : Scalar) → map width_of_word args ≡ map parameter_width ps → r < length ps → slice_get (map (λ (q : Parameter). q.ty) ps ++ ts) r ≡ Some ty →
    (slice_index_or (args ++ replicate n zero_word) r zero_word).width ≡ width_of ty
param_wide args [] ts n r ty e h et = absurd (omega (arith, h))
param_wide [] (q ∷ ps) ts n r ty e h et = no_widths e
param_wide (x ∷ args) (q ∷ ps) ts n zero ty e h et = first_width e ∙ ap width_of (some_same et)
param_wide (x ∷ args) (q ∷ ps) ts n (suc r) ty e h et = param_wide args ps ts n r ty (rest_widths e) (omega (arith, h)) et

none_given : (b : Bool) → (b || false) ≡ true → b ≡ true
none_given b e = sym (or_false b) ∙ e

pub starts : (g : Function) (n : ℕ) (args : List Word) (low : ℕ) → same_widths (widths args) (param_widths g) ≡ true → RunsAt g (start_of n (routine_of g) args low)
starts g n args low e =
    let same : map width_of_word args ≡ map parameter_width g.params = widths_are (widths args) (param_widths g) e in
    record {
      block = 0;
      place = 0;
      walk = [];
      comes = refl;
      blocks = refl;
      label = start_label (blocks_of g);
      code = start_code (blocks_of g);
      many = enough (length g.locals) args (length g.params) (counts args g.params same);
      widths = λ r ty et hv.
          param_wide args g.params (filter_map (λ (i : Instr). result_of i.op) (instrs_of g)) (length g.locals) r ty same (ltb-true r (length g.params) (none_given (nat_lt r (length g.params)) hv)) et;
    }
