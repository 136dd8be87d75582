-- A call in the image fits what it calls exactly where the call in the module does: a wrapper has the signature of what it wraps.
use Rattle.std.proofs.Common.{◌≡◌, ℕ, zero, suc, ◌+◌, Bool, true, false, ◌&&◌, List, [], ◌∷◌, ◌++◌, length, drop, Option, Some, None, refl, sym, ◌∙◌, ap, arith}
use Rattle.std.specs.Prelude.{slice_get, option_map}
use Rattle.std.proofs.lemmas.Option.{slice_get-map}
use Rattle.lx_words.proofs.Options.{some_same, none_some}
use Rattle.lx_words.proofs.Lists.{got_first, there_is}
use Rattle.lx_words.proofs.Tests.{true_less}
use Rattle.lx_ir.specs.declared.types.Scalar.{Scalar}
use Rattle.lx_ir.specs.declared.module.Parameter.{Parameter}
use Rattle.lx_ir.specs.declared.module.Symbol.TheVariants as symbol
use Rattle.lx_ir.specs.declared.module.Function.{Function}
use Rattle.lx_ir.specs.declared.module.Module.{Module}
use Rattle.lx_ir.specs.declared.instr.Argument.{Argument}
use Rattle.lx_ir.specs.declared.instr.Callee.{Callee}
use Rattle.lx_ir.specs.declared.instr.Callee.TheVariants as callee
use Rattle.lx_ir.specs.Lawful.{same_scalar}
use Rattle.lx_ir.specs.Faults.{same_result, are_arguments, has_signature, calls_well}
use Rattle.lx_annot.specs.declared.interface.Interface.{Interface}
use Rattle.lx_image_texts.specs.Marks.{is_wrapped, one_if, wrapped_before, wrapper_number, callee_if, callee_for, image_callee}
use Rattle.lx_image_texts.specs.WrapperText.{Out, wrapper_params, wrapper_of, import_annotation, out_if, out_wrappers, in_wrappers, wrappers_of}
use Rattle.lx_image_texts.specs.Guards.{FunctionText, function_text, Guards}
use Rattle.lx_image_texts.specs.Programs.{callee_within}
use Rattle.lx_image_texts.proofs.Paired.{There, there}

-- where the wrapper of an import stands

abbrev wrapper : Interface → ℕ → Function → Function
wrapper i k f = wrapper_of f k (import_annotation i f.name) Out

later : (i : Interface) (n : ℕ) (y : Function) (ws : List Function) (k : ℕ) (w : Function) (b : Bool) → slice_get ws k ≡ Some w → slice_get (out_if b i n y ++ ws) (one_if b k) ≡ Some w
later i n y ws k w true e = e
later i n y ws k w false e = e

out_at : (i : Interface) (n : ℕ) (fs : List Function) (k : ℕ) (f : Function) → slice_get fs k ≡ Some f → is_wrapped f ≡ true → slice_get (out_wrappers i n fs) (wrapped_before fs k) ≡ Some (wrapper i (n + k) f)
out_at i n [] k f e t = none_some e
out_at i n (y ∷ fs) zero f e t =
    let none : n ≡ n + 0 = omega arith in
    ap (λ (b : Bool). slice_get (out_if b i n y ++ out_wrappers i (suc n) fs) 0) (ap is_wrapped (some_same e) ∙ t) ∙ (λ j. Some (wrapper i (none j) (some_same e j)))
out_at i n (y ∷ fs) (suc k) f e t =
    let more : suc n + k ≡ n + suc k = omega arith in
    later i n y (out_wrappers i (suc n) fs) (wrapped_before fs k) (wrapper i (suc n + k) f) (is_wrapped y) (out_at i (suc n) fs k f e t) ∙ ap (λ (p : ℕ). Some (wrapper i p f)) more

pub got_behind : {A : Type 0} (n : ℕ) (xs : List A) (k : ℕ) → slice_get (drop n xs) k ≡ slice_get xs (n + k)
got_behind zero xs k = let e : k ≡ 0 + k = omega arith in ap (slice_get xs) e
got_behind (suc n) [] k = refl
got_behind (suc n) (x ∷ xs) k = let e : suc (n + k) ≡ suc n + k = omega arith in got_behind n xs k ∙ ap (slice_get (x ∷ xs)) e

-- a function with this text
pub record WithText (fs : List Function) (k : ℕ) (w : Function) : Type 0 where
  pub it : Function
  pub at : slice_get fs k ≡ Some it
  pub text : function_text it ≡ function_text w

with_text : (fs : List Function) (k : ℕ) (w : Function) (o : Option Function) → slice_get fs k ≡ o → option_map function_text o ≡ Some (function_text w) → WithText fs k w
with_text fs k w None e t = none_some t
with_text fs k w (Some f) e t = record { it = f; at = e; text = some_same t }

pub wrapper_there : (i : Interface) (m x : Module) → Guards i m x → (k : ℕ) (w : Function) → slice_get (wrappers_of i m) k ≡ Some w → WithText x.functions (length m.functions + k) w
wrapper_there i m x g k w e =
    with_text x.functions (length m.functions + k) w (slice_get x.functions (length m.functions + k)) refl
    (ap (option_map function_text) (sym (got_behind (length m.functions) x.functions k))
    ∙ sym (slice_get-map function_text (drop (length m.functions) x.functions) k)
    ∙ ap (λ (ts : List FunctionText). slice_get ts k) g.wrappers
    ∙ slice_get-map function_text (wrappers_of i m) k
    ∙ ap (option_map function_text) e)

pub out_there : (i : Interface) (m x : Module) → Guards i m x → (k : ℕ) (f : Function) → slice_get m.functions k ≡ Some f → is_wrapped f ≡ true → WithText x.functions (wrapper_number m k) (wrapper_of f k (import_annotation i f.name) Out)
out_there i m x g k f e t =
    let none : 0 + k ≡ k = omega arith in
    wrapper_there i m x g (wrapped_before m.functions k) (wrapper i k f)
    (got_first (out_wrappers i 0 m.functions) (in_wrappers i m) (wrapped_before m.functions k) (wrapper i k f) (out_at i 0 m.functions k f e t ∙ ap (λ (p : ℕ). Some (wrapper i p f)) none))

-- signatures

arguments_same : (args : List Argument) (n : ℕ) (ps : List Parameter) → are_arguments args (wrapper_params n ps) ≡ are_arguments args ps
arguments_same [] n [] = refl
arguments_same [] n (p ∷ ps) = refl
arguments_same (a ∷ args) n [] = refl
arguments_same (a ∷ args) n (p ∷ ps) = ap (λ (b : Bool). same_scalar a.ty p.ty && b) (arguments_same args (suc n) ps)

module _ (i : Interface) (m x : Module) (g : Guards i m x) (ret : Option Scalar) (args : List Argument) where
  signature_wrapped : (k : ℕ) (f : Function) → WithText x.functions (wrapper_number m k) (wrapper i k f) → has_signature ret args (slice_get x.functions (wrapper_number m k)) ≡ has_signature ret args (Some f)
  signature_wrapped k f w =
      ap (has_signature ret args) w.at
      ∙ (λ t. same_result ret (ap (λ (y : FunctionText). y.ret) w.text t) && are_arguments args (ap (λ (y : FunctionText). y.params) w.text t))
      ∙ ap (λ (b : Bool). same_result ret f.ret && b) (arguments_same args 0 f.params)

  pub signature_there : (k : ℕ) (f : Function) → There m x.functions k f → has_signature ret args (slice_get x.functions k) ≡ has_signature ret args (Some f)
  signature_there k f h = ap (has_signature ret args) h.at ∙ (λ t. same_result ret (sym h.beside.ret t) && are_arguments args (sym h.beside.params t))

  calls_by : (k : ℕ) (f : Function) (b : Bool) → slice_get m.functions k ≡ Some f → is_wrapped f ≡ b → calls_well x ret args (callee_if b m k) ≡ has_signature ret args (Some f)
  calls_by k f true e t = signature_wrapped k f (out_there i m x g k f e t)
  calls_by k f false e t = signature_there k f (there i m x g k f e)

  pub calls_same : (c : Callee) → callee_within m c ≡ true → calls_well x ret args (image_callee m c) ≡ calls_well m ret args c
  calls_same (callee.Register r) l = refl
  calls_same (callee.Symbol (symbol.Global k)) l = refl
  calls_same (callee.Symbol (symbol.Function k)) l =
      let f = there_is m.functions k (true_less k (length m.functions) l) in
      ap (λ (o : Option Function). calls_well x ret args (callee_for m k o)) f.1
      ∙ calls_by k f.0 (is_wrapped f.0) f.1 refl
      ∙ ap (has_signature ret args) (sym f.1)
