-- Each function behind those of the module is a wrapper, and is lawful and without fault.
use Rattle.std.proofs.Common.{◌≡◌, ℕ, suc, ◌<◌, Bool, true, false, not, ◌&&◌, List, [], ◌∷◌, ◌++◌, map, length, drop, Option, Some, refl, sym, subst, ◌∙◌, ap, arith}
use Rattle.std.specs.Prelude.{filter_map, option_map, slice_get, nat_lt}
use Rattle.std.specs.List.{list_all, cons_option}
use Rattle.std.proofs.lemmas.Option.{slice_get_within}
use Rattle.std.proofs.lemmas.Bool.{and_from}
use Rattle.lx_words.proofs.Lists.{no_list, heads, tails}
use Rattle.lx_words.proofs.Tests.{first_of}
use Rattle.lx_ir.specs.declared.module.Symbol.TheVariants as symbol
use Rattle.lx_ir.specs.declared.module.Function.{Function}
use Rattle.lx_ir.specs.declared.module.Module.{Module}
use Rattle.lx_ir.specs.declared.instr.Callee.TheVariants as callee
use Rattle.lx_ir.specs.Lawful.{is_name, is_block_write, is_image_name, is_lawful_symbol, is_lawful_callee, is_lawful_function}
use Rattle.lx_ir.specs.Operands.{register_count}
use Rattle.lx_ir.specs.Text.{symbol_name}
use Rattle.lx_annot.specs.declared.action.Annotation.{Annotation}
use Rattle.lx_annot.specs.declared.interface.Interface.{Interface}
use Rattle.lx_slot_types.specs.declared.Marked.{Marked}
use Rattle.lx_propagate.specs.Slots.{annotated_of}
use Rattle.lx_image_texts.specs.Marks.{is_wrapped}
use Rattle.lx_image_texts.specs.WrapperText.{Side, In, Out, import_annotation, slot_annotation, wrapper_of, out_if, out_wrappers, in_wrapper, in_wrappers, wrappers_of}
use Rattle.lx_image_texts.specs.Guards.{function_text, Guards}
use Rattle.lx_image_texts.proofs.Calling.{program_name}
use Rattle.lx_image_texts.proofs.Distinct.{Each, From, from_here, from_next, from_start, each_annotated}
use Rattle.lx_image_texts.proofs.Sound.{named as name_found}
use Rattle.lx_image_texts.proofs.Wrapping.{each_joined}
use Rattle.lx_image_texts.specs.ProgramLaws.{HasRoom}
use Rattle.lx_image_texts.proofs.Faultless.{whole}
use Rattle.lx_image_texts.proofs.FaultlessWrappers.{wrapper_parts}
use Rattle.lx_image_texts.proofs.LawfulImages.{callee_by}
use Rattle.lx_image_texts.proofs.LawfulPrograms.{all_get, plain_name, no_image_name}
use Rattle.lx_image_texts.proofs.LawfulWrappers.{wrapper_lawful}
use Rattle.lx_image_texts.proofs.Paired.{there}
use Rattle.lx_image_texts.proofs.Programs.{Faultless, each_of_all}
use Rattle.lx_image_texts.proofs.Signatures.{signature_there}
use Rattle.lx_image_texts.proofs.Unassigned.{each_map}
use Rattle.lx_image_texts.proofs.WrapperCode.{from_text}

-- a wrapper of a function of the module
pub record IsWrapper (m : Module) (w : Function) : Type 0 where
  pub number : ℕ
  pub function : Function
  pub annotation : Annotation
  pub side : Side
  pub at : slice_get m.functions number ≡ Some function
  pub is : w ≡ wrapper_of function number annotation side

module _ (i : Interface) (m : Module) where
  out_by : (n : ℕ) (f : Function) (ws : List Function) (b : Bool) → slice_get m.functions n ≡ Some f → Each (IsWrapper m) ws → Each (IsWrapper m) (out_if b i n f ++ ws)
  out_by n f ws true at h = (record { number = n; function = f; annotation = import_annotation i f.name; side = Out; at = at; is = refl }, h)
  out_by n f ws false at h = h

  outs : (n : ℕ) (fs : List Function) → From m.functions n fs → Each (IsWrapper m) (out_wrappers i n fs)
  outs n [] from = tt
  outs n (f ∷ fs) from = out_by n f (out_wrappers i (suc n) fs) (is_wrapped f) (from_here m.functions n f fs from) (outs (suc n) fs (from_next m.functions n f fs from))

  record StandsAt (k : Marked) : Type 0 where
    function : Function
    at : slice_get m.functions k.function ≡ Some function

  ins : (ks : List Marked) → Each StandsAt ks → Each (IsWrapper m) (filter_map (in_wrapper i m) ks)
  ins [] h = tt
  ins (k ∷ ks) h =
      subst (λ (o : Option Function). Each (IsWrapper m) (cons_option (option_map (λ f. wrapper_of f k.function (slot_annotation i k.slot) In) o) (filter_map (in_wrapper i m) ks))) (sym h.0.at)
      (record { number = k.function; function = h.0.function; annotation = slot_annotation i k.slot; side = In; at = h.0.at; is = refl }, ins ks h.1)

-- all of them

pub each_wrapper : (i : Interface) (m : Module) → Each (IsWrapper m) (wrappers_of i m)
each_wrapper i m =
    each_joined (IsWrapper m) (out_wrappers i 0 m.functions) (in_wrappers i m) (outs i m 0 m.functions (from_start m.functions))
    (ins i m (annotated_of i m) (each_annotated i m (StandsAt i m) (λ k s f e. record { function = f; at = e })))

each_two : {A : Type 0} (P Q : A → Type 0) (xs : List A) → Each P xs → Each Q xs → Each (λ x. P x × Q x) xs
each_two P Q [] h k = tt
each_two P Q (x ∷ xs) h k = ((h.0, k.0), each_two P Q xs h.1 k.1)

-- with their texts, in the image

pub record HasText (P : Function → Type 0) (h : Function) : Type 0 where
  pub wrapper : Function
  pub is : P wrapper
  pub text : function_text h ≡ function_text wrapper

pub each_text : (P : Function → Type 0) (hs ws : List Function) → map function_text hs ≡ map function_text ws → Each P ws → Each (HasText P) hs
each_text P [] ws e p = tt
each_text P (h ∷ hs) [] e p = no_list (sym e)
each_text P (h ∷ hs) (w ∷ ws) e p = (record { wrapper = w; is = p.0; text = heads e }, each_text P hs ws (tails e) p.1)

module _ (i : Interface) (m x : Module) (g : Guards i m x) where
  text_faultless : (h : Function) → HasText (IsWrapper m) h → Faultless x h
  text_faultless h t =
      let w = t.is in
      let made = from_text w.function w.number w.annotation w.side h (t.text ∙ ap function_text w.is) in
      subst (Faultless x) made.is
      (whole x _ (wrapper_parts x w.function w.number w.annotation w.side made.instrs h.line made.code (λ args. signature_there i m x g w.function.ret args w.number w.function (there i m x g w.number w.function w.at))))

  pub wrappers_faultless : Each (Faultless x) (drop (length m.functions) x.functions)
  wrappers_faultless =
      each_map (HasText (IsWrapper m)) (Faultless x) text_faultless (drop (length m.functions) x.functions)
      (each_text (IsWrapper m) (drop (length m.functions) x.functions) (wrappers_of i m) g.wrappers (each_wrapper i m))

  abbrev Fitting : Function → Type 0
  Fitting w = IsWrapper m w × (nat_lt (register_count w) 4294967295 ≡ true)

  module _ (law : list_all (is_lawful_function m) m.functions ≡ true) where
    text_lawful : (h : Function) → HasText Fitting h → is_lawful_function x h ≡ true
    text_lawful h t =
        let w = t.is.0 in
        let made = from_text w.function w.number w.annotation w.side h (t.text ∙ ap function_text w.is) in
        let lawful = all_get (is_lawful_function m) m.functions w.number w.function law w.at in
        let at = there i m x g w.number w.function w.at in
        let within : is_lawful_symbol x (symbol.Function w.number) ≡ true = less_than w.number (length x.functions) (slice_get_within x.functions w.number at.it at.at) in
        let name : symbol_name x (symbol.Function w.number) ≡ w.function.name = name_found x.functions w.number at.it at.at ∙ sym at.beside.name in
        let callable : is_lawful_callee x (callee.Symbol (symbol.Function w.number)) ≡ true =
        callee_by i m x g x (symbol.Function w.number) within
        (ap (λ (n : List ℕ). not (is_block_write n) && not (is_image_name n)) name
        ∙ and_from (not (is_block_write w.function.name)) (not (is_image_name w.function.name)) (plain_name m w.function lawful) (ap not (no_image_name w.function.name (program_name m i x g w.number w.function w.at)))) in
        subst (λ (y : Function). is_lawful_function x y ≡ true) made.is
        (wrapper_lawful x w.function w.number w.annotation w.side made.instrs h.line made.code within callable
        (first_of (is_name w.function.name) (not (is_block_write w.function.name)) (first_of (is_name w.function.name && not (is_block_write w.function.name)) _ lawful))
        (ap (λ (y : Function). nat_lt (register_count y) 4294967295) (sym w.is) ∙ t.is.1))
      where
        less_than : (j k : ℕ) → j < k → nat_lt j k ≡ true
        less_than j k l = grind (arith, l)

    pub wrappers_lawful : HasRoom i m → Each (λ h. is_lawful_function x h ≡ true) (drop (length m.functions) x.functions)
    wrappers_lawful room =
        each_map (HasText Fitting) (λ h. is_lawful_function x h ≡ true) text_lawful (drop (length m.functions) x.functions)
        (each_text Fitting (drop (length m.functions) x.functions) (wrappers_of i m) g.wrappers
        (each_two (IsWrapper m) (λ w. nat_lt (register_count w) 4294967295 ≡ true) (wrappers_of i m) (each_wrapper i m) (each_of_all (λ w. nat_lt (register_count w) 4294967295) (wrappers_of i m) room.few_registers)))
