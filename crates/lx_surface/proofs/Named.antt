-- What an action's list comes to is what it names.
use Rattle.std.proofs.Common.{◌≡◌, ℕ, zero, suc, ◌/◌, ◌%◌, ◌-◌, Bool, true, false, Option, Some, None, Ok, Err, List, [], ◌∷◌, ◌++◌, refl, sym, subst}
use Rattle.std.specs.Prelude.{⊤, ◌&&◌, nat_eq, nat_le, is_some, if◌then◌else◌}
use Rattle.std.specs.List.{list_any}
use Rattle.std.proofs.lemmas.Bool.{eq-eqb, or_left, or_right}
use Rattle.lx_words.specs.declared.word.Width.TheVariants.{W64}
use Rattle.lx_words.specs.Word.{word}
use Rattle.lx_caps.specs.declared.Cap.{Cap}
use Rattle.lx_caps.specs.declared.Cap.TheVariants as cap
use Rattle.lx_annot.specs.declared.action.CapSpec.{CapSpec}
use Rattle.lx_annot.specs.declared.action.CapSpec.TheVariants as spec
use Rattle.lx_annot.specs.declared.expr.Env.{Env}
use Rattle.lx_annot.specs.declared.interface.Item.{Item}
use Rattle.lx_annot.specs.Expr.{Expr, Number, Param, Return, Load64, Unary, Binary}
use Rattle.lx_annot.specs.Items.{cap_of, caps_of, condition_value, item_cap, item_caps, kept, list_items, range}
use Rattle.lx_annot.specs.Value.{Found, Look, and_then, value}
use Rattle.lx_model.specs.declared.program.Program.{Program}
use Rattle.lx_model.specs.Program.{function_at, home_of, numbered}
use Rattle.lx_surface.specs.declared.Thing.{Thing}
use Rattle.lx_surface.specs.declared.Thing.TheVariants as thing
use Rattle.lx_surface.specs.Names.{is_number, item_names, list_names, names_function}

-- it holds of each element
abbrev pub Each : {A : Type 0} → (A → Type 0) → List A → Type 0
Each P [] = ⊤
Each P (x ∷ xs) = P x × Each P xs

pub each_join : {A : Type 0} (P : A → Type 0) (xs ys : List A) → Each P xs → Each P ys → Each P (xs ++ ys)
each_join P [] ys each more = more
each_join P (x ∷ xs) ys each more = (each.0, each_join P xs ys each.1 more)

-- the capability is one of the thing
abbrev pub IsOf : Program → Cap → Thing → Type 0
IsOf p (cap.Write at size) x = ⊥
IsOf p (cap.Call a) (thing.Function g) = function_at p a ≡ Some g
IsOf p (cap.Call a) (thing.RefType u) = ⊥
IsOf p (cap.Ref t a) (thing.Function g) = ⊥
IsOf p (cap.Ref t a) (thing.RefType u) = t ≡ u

-- things of which the capability is are named
abbrev pub IsNamed : Program → (Thing → Bool) → Cap → Type 0
IsNamed p names c = (x : Thing) → IsOf p c x → names x ≡ true

abbrev pub AreNamed : Program → (Thing → Bool) → Found (List Cap) → Type 0
AreNamed p names (Err at) = ⊤
AreNamed p names (Ok cs) = Each (IsNamed p names) cs

then_named : {A : Type 0} (p : Program) (names : Thing → Bool) (found : Found A) (go : A → Found (List Cap)) → ((x : A) → found ≡ Ok x → AreNamed p names (go x)) → AreNamed p names (and_then found go)
then_named p names (Err at) go h = tt
then_named p names (Ok x) go h = h x refl

-- the function at an address is defined

numbered_is : (o : Option (Option ℕ)) (n g : ℕ) → (if is_some o then Some n else None) ≡ Some g → (n ≡ g) × (is_some o ≡ true)
numbered_is None n g is = absurd (cc)
numbered_is (Some home) n g is = (cc, refl)

at_defined : (p : Program) (b : Bool) (n g : ℕ) → (if b then numbered p n else None) ≡ Some g → is_some (home_of p g) ≡ true
at_defined p false n g is = absurd (cc)
at_defined p true n g is = let both = numbered_is (home_of p n) n g is in subst (λ k. is_some (home_of p k) ≡ true) both.0 both.1

pub is_defined_at : (p : Program) (a g : ℕ) → function_at p a ≡ Some g → is_some (home_of p g) ≡ true
is_defined_at p a g is = at_defined p (nat_le 0x10000 a && nat_eq (a % 16) 0) ((a - 0x10000) / 16) g is

-- an address that an expression comes to

by_number : (g : ℕ) (o : Option ℕ) → o ≡ Some g → is_number g o ≡ true
by_number g None is = absurd (cc)
by_number g (Some n) is = eq-eqb g n (sym (same n g is)) where
  same : (a b : ℕ) → Some a ≡ Some b → a ≡ b
  same a b e = cc

-- a number comes to itself
expression_names : (p : Program) (look : Look) (env : Env) (at : Expr) (a g : ℕ) → value look env at ≡ Ok a → function_at p a ≡ Some g → names_function p at g ≡ true
expression_names p look env (Number n) a g is there = by_number g (function_at p n) (subst (λ k. function_at p k ≡ Some g) (sym (same n a is)) there) where
  same : (n a : ℕ) → value look env (Number n) ≡ Ok a → n ≡ a
  same n a e = cc
expression_names p look env (Param k ty) a g is there = is_defined_at p a g there
expression_names p look env (Return ty) a g is there = is_defined_at p a g there
expression_names p look env (Load64 e) a g is there = is_defined_at p a g there
expression_names p look env (Unary m e) a g is there = is_defined_at p a g there
expression_names p look env (Binary m b c) a g is there = is_defined_at p a g there

-- items without an iterator

write_named : (p : Program) (names : Thing → Bool) (at size : ℕ) → IsNamed p names (cap.Write at size)
write_named p names at size x is = absurd is

call_named : (p : Program) (look : Look) (env : Env) (at : Expr) (a : ℕ) → value look env at ≡ Ok a → IsNamed p (item_names p (spec.Call at)) (cap.Call a)
call_named p look env at a is (thing.Function g) there = expression_names p look env at a g is there
call_named p look env at a is (thing.RefType u) there = absurd there

ref_named : (p : Program) (t : ℕ) (at : Expr) (a : ℕ) → IsNamed p (item_names p (spec.Ref t at)) (cap.Ref t a)
ref_named p t at a (thing.Function g) is = absurd is
ref_named p t at a (thing.RefType u) is = eq-eqb u t (sym is)

item_is_named : (p : Program) (look : Look) (env : Env) (c : CapSpec) → AreNamed p (item_names p c) (cap_of look env c)
item_is_named p look env (spec.Write at size) =
    then_named p _ (range look env at size) (λ r. Ok (cap.Write r.0 r.1 ∷ [])) (λ r is. (write_named p _ r.0 r.1, tt))
item_is_named p look env (spec.Call at) =
    then_named p _ (value look env at) (λ a. Ok (cap.Call a ∷ [])) (λ a is. (call_named p look env at a is, tt))
item_is_named p look env (spec.Ref t at) =
    then_named p _ (value look env at) (λ a. Ok (cap.Ref t a ∷ [])) (λ a is. (ref_named p t at a, tt))
item_is_named p look env (spec.Each k at) = tt

-- the items of an iterator

abbrev some_item : Program → List Item → Thing → Bool
some_item p items x = list_any (λ (i : Item). item_names p i.cap x) items

named_more : (p : Program) (some more : Thing → Bool) (cs : List Cap) → ((x : Thing) → some x ≡ true → more x ≡ true) → Each (IsNamed p some) cs → Each (IsNamed p more) cs
named_more p some more [] all each = tt
named_more p some more (c ∷ cs) all each = (λ x is. all x (each.0 x is), named_more p some more cs all each.1)

kept_named : (p : Program) (names : Thing → Bool) (n : ℕ) (cs : List Cap) → Each (IsNamed p names) cs → Each (IsNamed p names) (kept n cs)
kept_named p names zero cs each = tt
kept_named p names (suc n) cs each = each

there : (p : Program) (names : Thing → Bool) (found : Found (List Cap)) (cs : List Cap) → AreNamed p names found → found ≡ Ok cs → Each (IsNamed p names) cs
there p names found cs named is = subst (AreNamed p names) is named

one_item : (p : Program) (look : Look) (env : Env) (i : Item) → AreNamed p (item_names p i.cap) (item_cap look env i)
one_item p look env i =
    then_named p _ (condition_value look env i.cond) (λ c. and_then (cap_of look env i.cap) (λ caps. Ok (kept c caps))) (λ c is.
    then_named p _ (cap_of look env i.cap) (λ caps. Ok (kept c caps)) (λ caps found.
    kept_named p _ c caps (there p _ (cap_of look env i.cap) caps (item_is_named p look env i.cap) found)))

all_items : (p : Program) (look : Look) (env : Env) (items : List Item) → AreNamed p (some_item p items) (item_caps look env items)
all_items p look env [] = tt
all_items p look env (i ∷ items) =
    then_named p _ (item_cap look env i) (λ caps. and_then (item_caps look env items) (λ more. Ok (caps ++ more))) (λ caps found.
    then_named p _ (item_caps look env items) (λ more. Ok (caps ++ more)) (λ more rest.
    each_join (IsNamed p (some_item p (i ∷ items))) caps more
    (named_more p (item_names p i.cap) (some_item p (i ∷ items)) caps (λ x is. or_left (item_names p i.cap x) (some_item p items x) is)
    (there p _ (item_cap look env i) caps (one_item p look env i) found))
    (named_more p (some_item p items) (some_item p (i ∷ items)) more (λ x is. or_right (item_names p i.cap x) (some_item p items x) is)
    (there p _ (item_caps look env items) more (all_items p look env items) rest))))

-- what a list comes to is what it names
pub caps_named : (p : Program) (look : Look) (env : Env) (list : CapSpec) → AreNamed p (list_names p list) (caps_of p.interface look env list)
caps_named p look env (spec.Write at size) = item_is_named p look env (spec.Write at size)
caps_named p look env (spec.Call at) = item_is_named p look env (spec.Call at)
caps_named p look env (spec.Ref t at) = item_is_named p look env (spec.Ref t at)
caps_named p look env (spec.Each k at) =
    then_named p _ (value look env at) (λ a. item_caps look (record { args = word W64 a ∷ []; ret = None }) (list_items p.interface (spec.Each k at)))
    (λ a is. all_items p look (record { args = word W64 a ∷ []; ret = None }) (list_items p.interface (spec.Each k at)))
