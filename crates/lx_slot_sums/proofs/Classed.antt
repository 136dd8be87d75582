-- Texts are the same exactly where their first places are.
use Rattle.std.proofs.Common.{◌≡◌, ◌∙◌, refl, sym, ap, ℕ, zero, suc, ◌<◌, Bool, true, false, not, cond, Option, Some, None, List, [], ◌∷◌, length, map, bytes_eq, nat_eq, arith, option_map}
use Rattle.std.specs.Prelude.{position, find, slice_get}
use Rattle.std.specs.Borrow.{Bor}
use Rattle.std.proofs.lemmas.Option.{slice_get-map}
use Rattle.lx_words.proofs.Lists.{found_place, none_found, same_bytes, bytes_itself}
use Rattle.lx_words.proofs.Tests.{eq_true, true_eq}
use Rattle.lx_annot.specs.Canonical.{Text, canonical}
use Rattle.lx_annot.specs.declared.interface.Interface.{Interface}
use Rattle.lx_annot.specs.declared.interface.Slot.{Slot}
use Rattle.lx_slot_types.specs.Texts.{slot_text, text_of_slot}
use Rattle.lx_slot_sums.specs.Classes.{HasTexts, IsClassed, at_text, class_among, place_or_none}

-- a text of a list is found there

found_by : (b : Bool) (x t : Text) (rest : Option Text) → (b ≡ true → x ≡ t) → rest ≡ Some t → cond b (Some x) rest ≡ Some t
found_by true x t rest same h = ap Some (same refl)
found_by false x t rest same h = h

some_same : (x y : Text) → Some x ≡ Some y → x ≡ y
some_same x y e = cc

finds_text : (xs : List Text) (s : ℕ) (t : Text) → slice_get xs s ≡ Some t → find (λ u. bytes_eq u t) xs ≡ Some t
finds_text [] s t e = absurd (cc)
finds_text (x ∷ xs) zero t e =
    let q : x ≡ t = some_same x t e in
    ap (λ b. cond b (Some x) (find (λ u. bytes_eq u t) xs)) (ap (λ y. bytes_eq y t) q ∙ bytes_itself t) ∙ ap Some q
finds_text (x ∷ xs) (suc s) t e = found_by (bytes_eq x t) x t (find (λ u. bytes_eq u t) xs) (same_bytes x t) (finds_text xs s t e)

-- the text at its first place is the text
stands_by : (xs : List Text) (t : Text) (o : Option ℕ) → position (λ u. bytes_eq u t) xs ≡ o → find (λ u. bytes_eq u t) xs ≡ Some t → slice_get xs (place_or_none o) ≡ Some t
stands_by xs t None p f = let n : None ≡ find (λ u. bytes_eq u t) xs = none_found (λ u. bytes_eq u t) xs p in absurd (cc (n, f))
stands_by xs t (Some k) p f = found_place (λ u. bytes_eq u t) xs k p ∙ f

pub stands : (xs : List Text) (s : ℕ) (t : Text) → slice_get xs s ≡ Some t → slice_get xs (place_or_none (position (λ u. bytes_eq u t) xs)) ≡ Some t
stands xs s t e = stands_by xs t (position (λ u. bytes_eq u t) xs) refl (finds_text xs s t e)

-- the classes of an interface

slot_there : (i : Interface) (ss : List Slot) (s : ℕ) → s < length ss → slice_get (map (λ (x : Slot). canonical i x.annotation) ss) s ≡ Some (text_of_slot i (slice_get ss s))
slot_there i [] s h = absurd (omega (arith, h))
slot_there i (x ∷ xs) zero h = refl
slot_there i (x ∷ xs) (suc s) h = slot_there i xs s (omega (arith, h))

class_there : (texts : List Text) (s : ℕ) (t : Text) → slice_get texts s ≡ Some t → class_among (map (λ t. place_or_none (position (λ u. bytes_eq u t) texts)) texts) s ≡ place_or_none (position (λ u. bytes_eq u t) texts)
class_there texts s t e =
    ap place_or_none (slice_get-map (λ t. place_or_none (position (λ u. bytes_eq u t) texts)) texts s ∙ ap (option_map (λ t. place_or_none (position (λ u. bytes_eq u t) texts))) e)

pub first_among : (texts : List Text) (table : List (Bor (List ℕ) × ℕ)) (classes : List ℕ) → HasTexts texts table → classes ≡ map (λ t. place_or_none (at_text table t)) texts → classes ≡ map (λ t. place_or_none (position (λ u. bytes_eq u t) texts)) texts
unfolding HasTexts
first_among texts table classes has e = e ∙ (λ j. map (λ t. place_or_none (has t j)) texts)

decided : (b c : Bool) → (b ≡ true → c ≡ true) → (c ≡ true → b ≡ true) → not b ≡ not c
decided true c h k = ap not (sym (h refl))
decided false true h k = let e : false ≡ true = k refl in absurd (cc)
decided false false h k = refl

pub classed : (i : Interface) (texts : List Text) (classes : List ℕ) → texts ≡ map (λ (x : Slot). canonical i x.annotation) i.slots → classes ≡ map (λ t. place_or_none (position (λ u. bytes_eq u t) texts)) texts → IsClassed i classes
unfolding IsClassed
classed i texts classes e c s t hs ht =
    let a : slice_get texts s ≡ Some (slot_text i s) = ap (λ xs. slice_get xs s) e ∙ slot_there i i.slots s hs in
    let b : slice_get texts t ≡ Some (slot_text i t) = ap (λ xs. slice_get xs t) e ∙ slot_there i i.slots t ht in
    let p : class_among classes s ≡ place_or_none (position (λ u. bytes_eq u (slot_text i s)) texts) = ap (λ l. class_among l s) c ∙ class_there texts s (slot_text i s) a in
    let q : class_among classes t ≡ place_or_none (position (λ u. bytes_eq u (slot_text i t)) texts) = ap (λ l. class_among l t) c ∙ class_there texts t (slot_text i t) b in
    let x : slice_get texts (class_among classes s) ≡ Some (slot_text i s) = ap (slice_get texts) p ∙ stands texts s (slot_text i s) a in
    let y : slice_get texts (class_among classes t) ≡ Some (slot_text i t) = ap (slice_get texts) q ∙ stands texts t (slot_text i t) b in
    decided (nat_eq (class_among classes s) (class_among classes t)) (bytes_eq (slot_text i s) (slot_text i t))
    (λ h.
    let same : slot_text i s ≡ slot_text i t = some_same (slot_text i s) (slot_text i t) (sym x ∙ ap (slice_get texts) (true_eq (class_among classes s) (class_among classes t) h) ∙ y) in
    ap (bytes_eq (slot_text i s)) (sym same) ∙ bytes_itself (slot_text i s))
    (λ h.
    let same : slot_text i s ≡ slot_text i t = same_bytes (slot_text i s) (slot_text i t) h in
    eq_true (class_among classes s) (class_among classes t) (p ∙ ap (λ u. place_or_none (position (λ v. bytes_eq v u) texts)) same ∙ sym q))

pub has_texts : (texts : List Text) (table : List (Bor (List ℕ) × ℕ)) → ((bytes : List ℕ) → at_text table bytes ≡ position (λ t. bytes_eq t bytes) texts) → HasTexts texts table
unfolding HasTexts
has_texts texts table h = h
