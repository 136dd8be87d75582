-- The wrappers that images have for their functions, by names.
use Rattle.std.proofs.Common.{◌≡◌, ◌∙◌, refl, sym, ap, ℕ, ◌<◌, Bool, true, false, ◌&&◌, cond, Option, Some, None, List, [], ◌∷◌, length, get_or, arith}
use Rattle.std.specs.Prelude.{bytes_eq, find, is_some, option_and_then, position, slice_get}
use Rattle.std.specs.List.{list_all}
use Rattle.std.proofs.lemmas.Bool.{and_parts}
use Rattle.std.proofs.lemmas.Option.{slice_get-get_or, slice_get_past}
use Rattle.std.proofs.lemmas.Slice.Eq.{bytes_eq-Decides}
use Rattle.lx_words.proofs.Lists.{none_found, there_is, none_past}
use Rattle.lx_ir.specs.declared.module.Block.{Block}
use Rattle.lx_ir.specs.declared.module.Function.{Function}
use Rattle.lx_ir.specs.declared.module.Module.{Module}
use Rattle.lx_ir.specs.Lookup.{is_defined}
use Rattle.lx_image_texts.specs.WrapperText.{In, wrapper_name}
use Rattle.lx_model.specs.declared.program.ProgramFunction.{ProgramFunction}
use Rattle.lx_model.specs.Program.{function_of_entry}
use Rattle.lx_images.specs.Code.{Code}
use Rattle.lx_images.specs.Wrappers.{in_lines, in_lines_of, in_named, lines_of, lines_or_plain, plain_lines}
use Rattle.lx_images.specs.WrapperForm.{first_named, has_formed_wrappers, is_formed, is_formed_as, is_formed_by, is_one_block, wraps_named}
use Rattle.lx_image_code.specs.declared.wrappers.Wrapper.{Wrapper}
use Rattle.lx_image_code.specs.Wrappers.{wrapper_lines, HasEntered}
use Rattle.lx_name_tables.specs.Places.{defines}
use Rattle.lx_name_tables.proofs.Firsts.{found_at, is_within}

-- a function with the name of a wrapper is defined, where it has the form of one

has_blocks : (blocks : Option (List Block)) (b : Bool) → (is_one_block blocks && b) ≡ true → true ≡ is_some blocks
has_blocks None b e = absurd (cc)
has_blocks (Some bs) b e = refl

formed_defined : (x : Module) (f : Function) (name : List ℕ) → is_formed_as x f (wraps_named f.name) ≡ true → f.name ≡ wrapper_name In name → true ≡ is_defined f
formed_defined x f name formed e =
    has_blocks f.blocks (is_formed_by x f name (first_named (lines_of (Some f)))) (sym (ap (λ n. is_formed_as x f (wraps_named n)) e) ∙ formed)

defined_and : (b : Bool) (d : Bool) → (b ≡ true → true ≡ d) → b ≡ (d && b)
defined_and true d h = h refl ∙ with_true d
  where
    with_true : (d : Bool) → d ≡ (d && true)
    with_true true = refl
    with_true false = refl
defined_and false true h = refl
defined_and false false h = refl

same_test : (x : Module) (f : Function) (name : List ℕ) → is_formed x f ≡ true → bytes_eq f.name (wrapper_name In name) ≡ defines (wrapper_name In name) f
same_test x f name formed =
    defined_and (bytes_eq f.name (wrapper_name In name)) (is_defined f) (λ h. formed_defined x f name formed ((bytes_eq-Decides f.name (wrapper_name In name)).0 h))

same_found : (x : Module) (name : List ℕ) (fs : List Function) → list_all (is_formed x) fs ≡ true → in_named name fs ≡ find (defines (wrapper_name In name)) fs
same_found x name [] formed = refl
same_found x name (f ∷ fs) formed =
    let both = and_parts (is_formed x f) (list_all (is_formed x) fs) formed in
    let test = same_test x f name both.0 in
    let rest = same_found x name fs both.1 in
    λ j. cond (test j) (Some f) (rest j)

found_lines : (x : Module) (name : List ℕ) (k : ℕ) → has_formed_wrappers x ≡ true → position (defines (wrapper_name In name)) x.functions ≡ Some k
    → lines_of (slice_get x.functions k) ≡ lines_or_plain (in_named name x.functions)
found_lines x name k formed first =
    let here = there_is x.functions k (is_within (defines (wrapper_name In name)) x.functions k (sym first)) in
    let found : Some here.0 ≡ in_named name x.functions =
    found_at (defines (wrapper_name In name)) x.functions k (Some here.0) first (sym here.1) ∙ sym (same_found x name x.functions formed) in
    ap lines_of here.1 ∙ ap lines_or_plain found

-- the wrapper that an image has for a name
pub image_lines : (c : Code) (m : ℕ) (x : Module) (name named : List ℕ) (k : ℕ) → has_formed_wrappers x ≡ true → named ≡ wrapper_name In name → Some k ≡ position (defines named) x.functions
    → slice_get c.images m ≡ Some x → lines_of (option_and_then (λ i. slice_get i.functions k) (slice_get c.images m)) ≡ lines_or_plain (in_named name x.functions)
image_lines c m x name named k formed is first at =
    ap (λ o. lines_of (option_and_then (λ i. slice_get i.functions k) o)) at
    ∙ found_lines x name k formed (sym (first ∙ ap (λ n. position (defines n) x.functions) is))

pub no_image_lines : (x : Module) (name named : List ℕ) → has_formed_wrappers x ≡ true → named ≡ wrapper_name In name → None ≡ position (defines named) x.functions
    → plain_lines ≡ lines_or_plain (in_named name x.functions)
no_image_lines x name named formed is first =
    ap lines_or_plain (none_found (defines (wrapper_name In name)) x.functions (sym (first ∙ ap (λ n. position (defines n) x.functions) is)) ∙ sym (same_found x name x.functions formed))

-- the wrapper of an entry is that of the function with its number
pub entered_here : (c : Code) (xs : List ProgramFunction) (n : ℕ) (d : ProgramFunction) (w : Wrapper) → xs ≡ c.program.functions → n < length xs
    → wrapper_lines c w ≡ in_lines_of c (Some (get_or xs n d)) (function_of_entry c.program (Some (get_or xs n d))) → wrapper_lines c w ≡ in_lines c n
entered_here c xs n d w is below lines =
    let at : slice_get c.program.functions n ≡ Some (get_or xs n d) = sym (ap (λ (l : List ProgramFunction). slice_get l n) is) ∙ slice_get-get_or xs n d below in
    lines ∙ sym (ap (λ (e : Option ProgramFunction). in_lines_of c e (function_of_entry c.program e)) at)

-- beyond the functions of the program there_is is a wrapper without actions
pub not_entered : (c : Code) (entered : List Wrapper) (n : ℕ) → HasEntered c entered → None ≡ slice_get entered n → plain_lines ≡ in_lines c n
not_entered c entered n has none =
    let far = none_past entered n (sym none) in
    let nothing : slice_get c.program.functions n ≡ None = slice_get_past c.program.functions n (omega (arith, far, has.count)) in
    sym (ap (λ (e : Option ProgramFunction). in_lines_of c e (function_of_entry c.program e)) nothing)
