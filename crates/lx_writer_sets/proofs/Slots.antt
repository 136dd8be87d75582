-- The eight bytes of a slot, one after the other.
use Rattle.std.proofs.Common.{◌≡◌, ◌∙◌, refl, sym, ap, subst, ℕ, ◌+◌, ◌/◌, ◌%◌, ◌<◌, Bool, true, false, ◌&&◌, ◌||◌, nat_eq, List, [], ◌∷◌, Option, Some, None, arith, eqb-true}
use Rattle.std.specs.List.{list_any}
use Rattle.std.proofs.lemmas.Bool.{both_ways}
use Rattle.std.proofs.lemmas.Bool.Decides.{nat_tests}
use Rattle.lx_words.proofs.Tests.{and_false, or_false}
use Rattle.lx_caps.specs.declared.Principal.{Principal}
use Rattle.lx_caps.specs.History.{History, same_principal}
use Rattle.lx_caps.specs.Precedence.{IsFirstPrincipal}
use Rattle.lx_caps.specs.Writers.{is_writer, is_slot_writer}
use Rattle.lx_cap_nodes.specs.Words.{nodes_at}
use Rattle.lx_cap_nodes.specs.Bits.{is_set}
use Rattle.lx_writer_sets.specs.Sets.{eight, has_byte, touches, is_given, is_given_at, is_recorded, Records, writes_in, writes_part, IsNobody, IsFirstWriter}
use Rattle.lx_cap_nodes.specs.Pieces.{part_list}
use Rattle.lx_writer_sets.specs.declared.entry.Entry.{Entry}
use Rattle.lx_writer_sets.proofs.GivenLemmas.{or_rest}
use Rattle.lx_writer_sets.proofs.Lists.{and_or}
use Rattle.lx_caps.proofs.PrincipalOrder.{same_first}

none_of : (ks : List ℕ) → list_any (λ k. false) ks ≡ false
none_of [] = refl
none_of (k ∷ ks) = none_of ks

or_parts : (s a h x y : Bool) → ((s && (a || x)) || (h || y)) ≡ (((s && a) || h) || ((s && x) || y))
or_parts false a h x y = grind arith
or_parts true true h x y = refl
or_parts true false true true y = refl
or_parts true false true false y = refl
or_parts true false false true y = refl
or_parts true false false false y = refl

or_all : (s : Bool) (a h : ℕ → Bool) (ks : List ℕ) → ((s && list_any a ks) || list_any h ks) ≡ list_any (λ k. (s && a k) || h k) ks
or_all true a h [] = refl
or_all false a h [] = refl
or_all s a h (k ∷ ks) =
    or_parts s (a k) (h k) (list_any a ks) (list_any h ks) ∙ ap (λ (t : Bool). ((s && a k) || h k) || t) (or_all s a h ks)

-- some node has some place, where at some place some node has it
any_swap : (f : ℕ × Entry → Bool) (g : ℕ × Entry → ℕ → Bool) (es : List (ℕ × Entry)) (ks : List ℕ)
    → list_any (λ e. f e && list_any (g e) ks) es ≡ list_any (λ k. list_any (λ e. f e && g e k) es) ks
any_swap f g [] ks = sym (none_of ks)
any_swap f g (e ∷ es) ks =
    ap (λ (t : Bool). (f e && list_any (g e) ks) || t) (any_swap f g es ks)
    ∙ or_all (f e) (g e) (λ k. list_any (λ x. f x && g x k) es) ks

out_step : (s t m r : Bool) → ((s && (t && m)) || (t && r)) ≡ (t && ((s && m) || r))
out_step true true m r = refl
out_step false true m r = refl
out_step true false m r = refl
out_step false false m r = refl

-- the part stands for all nodes
part_out : (t : Bool) (k : ℕ) (q : Principal) (es : List (ℕ × Entry)) → list_any (λ e. same_principal q e.1.writer && (t && is_set e.1.mask k)) es ≡ (t && is_given es k q)
part_out t k q [] = sym (and_false t)
part_out t k q (e ∷ es) =
    ap (λ (r : Bool). (same_principal q e.1.writer && (t && is_set e.1.mask k)) || r) (part_out t k q es)
    ∙ out_step (same_principal q e.1.writer) t (is_set e.1.mask k) (is_given es k q)

-- what a part's list says of a slot
pub in_part : (lists : List (List (ℕ × Entry))) (part list slot : ℕ) → part_list part ≡ Some list → (q : Principal) → writes_in part (nodes_at lists list) slot q ≡ writes_part lists part slot q
unfolding touches writes_part
in_part lists part list slot at q =
    let es = nodes_at lists list in
    let same : (λ (k : ℕ). list_any (λ (e : ℕ × Entry). same_principal q e.1.writer && has_byte part e.1 (slot + k)) es) ≡ (λ (k : ℕ). nat_eq part ((slot + k) / 64) && is_given_at lists (part_list part) ((slot + k) % 64) q) =
    λ j k. (part_out (nat_eq part ((slot + k) / 64)) ((slot + k) % 64) q es ∙ ap (λ (o : Option ℕ). nat_eq part ((slot + k) / 64) && is_given_at lists o ((slot + k) % 64) q) (sym at)) j in
    any_swap (λ e. same_principal q e.1.writer) (λ e k. has_byte part e.1 (slot + k)) es eight
    ∙ ap (λ (p : ℕ → Bool). list_any p eight) same

pub out_of_part : (lists : List (List (ℕ × Entry))) (part slot : ℕ) → ((k : ℕ) (q : Principal) → is_given_at lists (part_list part) k q ≡ false) → (q : Principal) → writes_part lists part slot q ≡ false
unfolding writes_part
out_of_part lists part slot none q =
    let same : (λ (k : ℕ). nat_eq part ((slot + k) / 64) && is_given_at lists (part_list part) ((slot + k) % 64) q) ≡ (λ (k : ℕ). false) =
    λ j k. (ap (λ (t : Bool). nat_eq part ((slot + k) / 64) && t) (none ((slot + k) % 64) q) ∙ and_false (nat_eq part ((slot + k) / 64))) j in
    ap (λ (p : ℕ → Bool). list_any p eight) same ∙ none_of eight

-- tests that are the same of each of the eight
same_eight : (p r : ℕ → Bool) → ((k : ℕ) → k < 8 → p k ≡ r k) → list_any p eight ≡ list_any r eight
same_eight p r same =
    ap (λ (t : Bool). t || (p 1 || (p 2 || (p 3 || (p 4 || (p 5 || (p 6 || (p 7 || false)))))))) (same 0 (omega arith))
    ∙ (ap (λ (t : Bool). r 0 || (t || (p 2 || (p 3 || (p 4 || (p 5 || (p 6 || (p 7 || false)))))))) (same 1 (omega arith))
    ∙ (ap (λ (t : Bool). r 0 || (r 1 || (t || (p 3 || (p 4 || (p 5 || (p 6 || (p 7 || false)))))))) (same 2 (omega arith))
    ∙ (ap (λ (t : Bool). r 0 || (r 1 || (r 2 || (t || (p 4 || (p 5 || (p 6 || (p 7 || false)))))))) (same 3 (omega arith))
    ∙ (ap (λ (t : Bool). r 0 || (r 1 || (r 2 || (r 3 || (t || (p 5 || (p 6 || (p 7 || false)))))))) (same 4 (omega arith))
    ∙ (ap (λ (t : Bool). r 0 || (r 1 || (r 2 || (r 3 || (r 4 || (t || (p 6 || (p 7 || false)))))))) (same 5 (omega arith))
    ∙ (ap (λ (t : Bool). r 0 || (r 1 || (r 2 || (r 3 || (r 4 || (r 5 || (t || (p 7 || false)))))))) (same 6 (omega arith))
    ∙ ap (λ (t : Bool). r 0 || (r 1 || (r 2 || (r 3 || (r 4 || (r 5 || (r 6 || (t || false)))))))) (same 7 (omega arith))))))))

or_itself : (b : Bool) → (b || b) ≡ b
or_itself true = refl
or_itself false = refl

-- a byte of one of two parts
one_of : (a b r s t : Bool) → (a ≡ true → r ≡ t) → (b ≡ true → s ≡ t) → (a ≡ false → b ≡ true) → ((true && (a && r)) || (b && s)) ≡ t
one_of true true r s t f g h = ap (λ (x : Bool). r || x) (g refl ∙ sym (f refl)) ∙ (or_itself r ∙ f refl)
one_of true false r s t f g h = or_false r ∙ f refl
one_of false true r s t f g h = g refl
one_of false false r s t f g h = absurd (let e = h refl in cc)

-- the first part of a slot and the last one have all its bytes
pub both_parts : (lists : List (List (ℕ × Entry))) (h : History) (slot : ℕ) → Records lists h → (q : Principal) → (writes_part lists (slot / 64) slot q || writes_part lists ((slot + 7) / 64) slot q) ≡ is_slot_writer h slot q
unfolding Records is_recorded writes_part
both_parts lists h slot stands q =
    let given : ℕ → ℕ → Bool = λ part k. is_given_at lists (part_list part) ((slot + k) % 64) q in
    let a : ℕ → Bool = λ k. nat_eq (slot / 64) ((slot + k) / 64) && given (slot / 64) k in
    let b : ℕ → Bool = λ k. nat_eq ((slot + 7) / 64) ((slot + k) / 64) && given ((slot + 7) / 64) k in
    or_all true a b eight
    ∙ same_eight (λ k. (true && a k) || b k) (λ k. is_writer h (slot + k) q)
    (λ k below.
    one_of (nat_eq (slot / 64) ((slot + k) / 64)) (nat_eq ((slot + 7) / 64) ((slot + k) / 64)) (given (slot / 64) k) (given ((slot + 7) / 64) k) (is_writer h (slot + k) q)
    (λ e. ap (λ part. given part k) (eqb-true (slot / 64) ((slot + k) / 64) e) ∙ stands (slot + k) q)
    (λ e. ap (λ part. given part k) (eqb-true ((slot + 7) / 64) ((slot + k) / 64) e) ∙ stands (slot + k) q)
    (λ e. last_one slot k below e))
  where
    last_one : (n k : ℕ) → k < 8 → nat_eq (n / 64) ((n + k) / 64) ≡ false → nat_eq ((n + 7) / 64) ((n + k) / 64) ≡ true
    last_one n k below e = let ne : n / 64 ≡ (n + k) / 64 → ⊥ = λ same. grind (arith, nat_tests, e, same) in let is : (n + 7) / 64 ≡ (n + k) / 64 = omega (arith, ne, below) in grind (arith, nat_tests, is)

-- one part alone, where it is both
pub one_alone : (lists : List (List (ℕ × Entry))) (h : History) (slot : ℕ) → Records lists h → slot / 64 ≡ (slot + 7) / 64 → (q : Principal) → writes_part lists (slot / 64) slot q ≡ is_slot_writer h slot q
one_alone lists h slot stands same q =
    sym (or_itself (writes_part lists (slot / 64) slot q)) ∙ (ap (λ part. writes_part lists (slot / 64) slot q || writes_part lists part slot q) same ∙ both_parts lists h slot stands q)

first_of_all : IsFirstPrincipal (λ q. false) None
first_of_all q = refl

-- the first writer that passes, by one part
pub first_by_one : (lists : List (List (ℕ × Entry))) (h : History) (slot : ℕ) (t : Principal → Bool) (first : Option Principal) → Records lists h → slot / 64 ≡ (slot + 7) / 64
    → ((p : Principal → Bool) → IsFirstPrincipal p None → IsFirstPrincipal (λ q. p q || (t q && writes_part lists (slot / 64) slot q)) first) → IsFirstWriter h slot t first
first_by_one lists h slot t first stands same is =
    same_first (λ q. false || (t q && writes_part lists (slot / 64) slot q)) (λ q. t q && is_slot_writer h slot q)
    (λ q. ap (λ (b : Bool). t q && b) (one_alone lists h slot stands same q)) first (is (λ q. false) first_of_all)

-- and by two
pub first_by_two : (lists : List (List (ℕ × Entry))) (h : History) (slot : ℕ) (t : Principal → Bool) (found first : Option Principal) → Records lists h
    → ((p : Principal → Bool) → IsFirstPrincipal p None → IsFirstPrincipal (λ q. p q || (t q && writes_part lists (slot / 64) slot q)) found)
    → ((p : Principal → Bool) → IsFirstPrincipal p found → IsFirstPrincipal (λ q. p q || (t q && writes_part lists ((slot + 7) / 64) slot q)) first) → IsFirstWriter h slot t first
first_by_two lists h slot t found first stands one two =
    same_first (λ q. (false || (t q && writes_part lists (slot / 64) slot q)) || (t q && writes_part lists ((slot + 7) / 64) slot q)) (λ q. t q && is_slot_writer h slot q)
    (λ q. and_or (t q) (writes_part lists (slot / 64) slot q) (writes_part lists ((slot + 7) / 64) slot q) ∙ ap (λ (b : Bool). t q && b) (both_parts lists h slot stands q)) first
    (two (λ q. false || (t q && writes_part lists (slot / 64) slot q)) (one (λ q. false) first_of_all))

-- somebody in a part is a writer
pub someone : (p s : Principal → Bool) → ((q : Principal) → p q ≡ true → s q ≡ true) → IsNobody false p → ((q : Principal) → s q ≡ false) → ⊥
someone p s to found none = both_ways (s found.0) (none found.0) (to found.0 found.1)

either : (a b s : Bool) → (a || b) ≡ s → a ≡ false → b ≡ false → s ≡ false
either false b s is e f = sym is ∙ f
either true b s is e f = absurd (cc)

pub nobody_in_both : (lists : List (List (ℕ × Entry))) (h : History) (slot : ℕ) → Records lists h → ((q : Principal) → writes_part lists (slot / 64) slot q ≡ false) → ((q : Principal) → writes_part lists ((slot + 7) / 64) slot q ≡ false)
    → (q : Principal) → is_slot_writer h slot q ≡ false
nobody_in_both lists h slot stands a b q = either (writes_part lists (slot / 64) slot q) (writes_part lists ((slot + 7) / 64) slot q) (is_slot_writer h slot q) (both_parts lists h slot stands q) (a q) (b q)

or_one : (a b s : Bool) → (a || b) ≡ s → a ≡ true → s ≡ true
or_one true b s is e = sym is
or_one false b s is e = absurd (cc)

or_two : (a b s : Bool) → (a || b) ≡ s → b ≡ true → s ≡ true
or_two true b s is e = sym is
or_two false b s is e = sym is ∙ e

pub writer_in_first : (lists : List (List (ℕ × Entry))) (h : History) (slot : ℕ) → Records lists h → (q : Principal) → writes_part lists (slot / 64) slot q ≡ true → is_slot_writer h slot q ≡ true
writer_in_first lists h slot stands q is = or_one (writes_part lists (slot / 64) slot q) (writes_part lists ((slot + 7) / 64) slot q) (is_slot_writer h slot q) (both_parts lists h slot stands q) is

pub writer_in_last : (lists : List (List (ℕ × Entry))) (h : History) (slot : ℕ) → Records lists h → (q : Principal) → writes_part lists ((slot + 7) / 64) slot q ≡ true → is_slot_writer h slot q ≡ true
writer_in_last lists h slot stands q is = or_two (writes_part lists (slot / 64) slot q) (writes_part lists ((slot + 7) / 64) slot q) (is_slot_writer h slot q) (both_parts lists h slot stands q) is

pub same_nobody : (answer : Bool) (p s : Principal → Bool) → ((q : Principal) → p q ≡ s q) → IsNobody answer p → IsNobody answer s
same_nobody true p s same is = λ q. sym (same q) ∙ is q
same_nobody false p s same is = (is.0, sym (same is.0) ∙ is.1)

pub nobody_of : (answer : Bool) (p : Principal → Bool) → IsNobody answer p → answer ≡ true → (q : Principal) → p q ≡ false
nobody_of true p is e = is
nobody_of false p is e = absurd (cc)

pub somebody_of : (answer : Bool) (p : Principal → Bool) → IsNobody answer p → answer ≡ false → (q : Principal) × (p q ≡ true)
somebody_of false p is e = is
somebody_of true p is e = absurd (cc)

pub at_slot : (lists : List (List (ℕ × Entry))) (answer : Bool) (part s slot place : ℕ) → s ≡ slot → part ≡ place → IsNobody answer (writes_part lists part s) → IsNobody answer (writes_part lists place slot)
at_slot lists answer part s slot place same at is = subst (λ n. IsNobody answer (writes_part lists place n)) same (subst (λ n. IsNobody answer (writes_part lists n s)) at is)

pub writes_by_first : (lists : List (List (ℕ × Entry))) (h : History) (slot : ℕ) (answer : Bool) (q : Principal) → Records lists h → answer ≡ writes_part lists (slot / 64) slot q → answer ≡ true → answer ≡ is_slot_writer h slot q
writes_by_first lists h slot answer q stands is e = e ∙ sym (writer_in_first lists h slot stands q (sym is ∙ e))

pub writes_by_last : (lists : List (List (ℕ × Entry))) (h : History) (slot : ℕ) (first last : Bool) (q : Principal) → Records lists h → first ≡ writes_part lists (slot / 64) slot q → first ≡ false → last ≡ writes_part lists ((slot + 7) / 64) slot q → last ≡ is_slot_writer h slot q
writes_by_last lists h slot first last q stands a out b =
    b ∙ (or_rest (writes_part lists (slot / 64) slot q) (writes_part lists ((slot + 7) / 64) slot q) (sym a ∙ out) ∙ both_parts lists h slot stands q)
