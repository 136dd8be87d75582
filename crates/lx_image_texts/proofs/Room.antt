-- An image is lawful only where there is room for its wrappers.
use Rattle.std.proofs.Common.{◌≡◌, ℕ, ◌+◌, ◌<◌, true, ◌&&◌, List, [], ◌∷◌, ◌++◌, map, length, take, drop, sym, subst, ◌∙◌, ap, arith, length-append}
use Rattle.std.specs.Prelude.{nat_lt}
use Rattle.std.specs.List.{list_all}
use Rattle.lx_words.proofs.Lists.{no_list, split_at, heads, tails}
use Rattle.lx_words.proofs.Tests.{first_of, second_of}
use Rattle.lx_ir.specs.declared.module.Function.{Function}
use Rattle.lx_ir.specs.declared.module.Module.{Module}
use Rattle.lx_ir.specs.declared.instr.Instr.{Instr}
use Rattle.lx_ir.specs.Lookup.{blocks_of}
use Rattle.lx_ir.specs.Lawful.{is_lawful_block, is_lawful_body, is_lawful_function, numbers_registers}
use Rattle.lx_ir.specs.Operands.{register_count}
use Rattle.lx_ir.specs.Verified.{IsVerified}
use Rattle.lx_annot.specs.declared.interface.Interface.{Interface}
use Rattle.lx_image_texts.specs.WrapperText.{Side, wrappers_of}
use Rattle.lx_image_texts.specs.Guards.{FunctionText, function_text, Guards}
use Rattle.lx_image_texts.proofs.Distinct.{Each}
use Rattle.lx_image_texts.specs.ProgramLaws.{HasRoom}
use Rattle.lx_image_texts.proofs.LawfulPrograms.{head_of}
use Rattle.lx_image_texts.proofs.Paired.{there, image_functions, as_many}
use Rattle.lx_image_texts.proofs.Programs.{each_of_all, all_of_each}
use Rattle.lx_image_texts.proofs.Unassigned.{each_map}
use Rattle.lx_image_texts.proofs.WholeImages.{many_texts}
use Rattle.lx_image_texts.proofs.WrapperCode.{made, from_text}
use Rattle.lx_image_texts.proofs.Wrappers.{IsWrapper, each_wrapper}

-- a function of the image that is lawful, and has the text of the wrapper
record Written (x : Module) (w : Function) : Type 0 where
  it : Function
  lawful : is_lawful_function x it ≡ true
  text : function_text it ≡ function_text w

each_back : (x : Module) (hs ws : List Function) → map function_text hs ≡ map function_text ws → Each (λ h. is_lawful_function x h ≡ true) hs → Each (Written x) ws
each_back x [] [] e h = tt
each_back x [] (w ∷ ws) e h = no_list e
each_back x (h ∷ hs) [] e l = tt
each_back x (h ∷ hs) (w ∷ ws) e l = (record { it = h; lawful = l.0; text = heads e }, each_back x hs ws (tails e) l.1)

each_second : {A : Type 0} (P : A → Type 0) (xs ys : List A) → Each P (xs ++ ys) → Each P ys
each_second P [] ys h = h
each_second P (x ∷ xs) ys h = each_second P xs ys h.1

-- what a lawful wrapper tells

same_count : (h w : Function) → function_text h ≡ function_text w → register_count h ≡ register_count w
same_count h w e = λ t. length (ap (λ (y : FunctionText). y.params) e t) + length (ap (λ (y : FunctionText). y.locals) e t)

module _ (x : Module) (f : Function) (side : Side) (js : List Instr) (line : ℕ) (l : is_lawful_function x (made f side js line) ≡ true) where
  abbrev it : Function
  it = made f side js line

  body : is_lawful_body x it ≡ true
  body = second_of _ (is_lawful_body x it) l

  front : (head_of it && list_all (is_lawful_block x it) (blocks_of it)) ≡ true
  front = first_of (head_of it && list_all (is_lawful_block x it) (blocks_of it)) (numbers_registers it) body

  few : nat_lt (register_count it) 4294967295 ≡ true
  few =
      second_of _ (nat_lt (register_count it) 4294967295)
      (first_of (_ && nat_lt (register_count it) 4294967295) true (first_of (_ && nat_lt (register_count it) 4294967295 && true) true (first_of (head_of it) (list_all (is_lawful_block x it) (blocks_of it)) front)))

module _ (i : Interface) (m x : Module) (v : IsVerified x) (g : Guards i m x) where
  written : Each (Written x) (wrappers_of i m)
  written =
      each_back x (drop (length m.functions) x.functions) (wrappers_of i m) g.wrappers
      (each_second (λ h. is_lawful_function x h ≡ true) (take (length m.functions) x.functions) (drop (length m.functions) x.functions)
      (subst (Each (λ h. is_lawful_function x h ≡ true)) (sym (split_at (length m.functions) x.functions)) (each_of_all (is_lawful_function x) x.functions v.lawful.functions)))

  each_two : {A : Type 0} (P Q : A → Type 0) (xs : List A) → Each P xs → Each Q xs → Each (λ y. P y × Q y) xs
  each_two P Q [] h k = tt
  each_two P Q (y ∷ xs) h k = ((h.0, k.0), each_two P Q xs h.1 k.1)

  few_by : (w : Function) → IsWrapper m w × Written x w → nat_lt (register_count w) 4294967295 ≡ true
  few_by w h =
      let y = h.0 in
      let made = from_text y.function y.number y.annotation y.side h.1.it (h.1.text ∙ ap function_text y.is) in
      ap (λ (k : ℕ). nat_lt k 4294967295) (sym (ap register_count made.is ∙ same_count h.1.it w h.1.text))
      ∙ few x y.function y.side made.instrs h.1.it.line (ap (is_lawful_function x) made.is ∙ h.1.lawful)

  few_registers : list_all (λ w. nat_lt (register_count w) 4294967295) (wrappers_of i m) ≡ true
  few_registers =
      all_of_each (λ w. nat_lt (register_count w) 4294967295) (wrappers_of i m)
      (each_map (λ w. IsWrapper m w × Written x w) (λ w. nat_lt (register_count w) 4294967295 ≡ true) few_by (wrappers_of i m) (each_two (IsWrapper m) (Written x) (wrappers_of i m) (each_wrapper i m) written))

  room_is : HasRoom i m
  room_is =
      let front : List Function = take (length m.functions) x.functions in
      let behind : List Function = drop (length m.functions) x.functions in
      let parts : length x.functions ≡ length front + length behind = ap length (sym (split_at (length m.functions) x.functions)) ∙ length-append front behind in
      let first : length m.functions ≡ length front = as_many m m.functions front (image_functions i m x g) in
      let second : length behind ≡ length (wrappers_of i m) = many_texts behind (wrappers_of i m) g.wrappers in
      let limit : length x.functions < 4294967295 = v.lawful.few_functions in
      record {
        few_functions = omega (arith, parts, first, second, limit);
        few_registers = few_registers;
      }

pub room : (i : Interface) (m x : Module) → IsVerified x → Guards i m x → HasRoom i m
room i m x v g = room_is i m x v g
