-- What spreads give for offsets: with a further spread, and as it is looked up.
use Rattle.std.proofs.Common.{◌≡◌, ◌∙◌, refl, sym, ap, subst, ℕ, zero, suc, ◌+◌, ◌<◌, ◌≤◌, Option, Some, None, List, [], ◌∷◌, ◌++◌, length, take, Bool, true, false, ◌&&◌, nat_eq, nat_lt, if◌then◌else◌, arith, slice_get}
use Rattle.std.specs.Option.{option_flatten}
use Rattle.std.proofs.lemmas.Bool.Decides.{nat_tests}
use Rattle.std.proofs.lemmas.List.{length_push, take-append-le, take_all}
use Rattle.std.proofs.lemmas.Option.{slice_get_past, slice_get_within}
use Rattle.lx_words.proofs.Tests.{true_eq}
use Rattle.lx_slot_types.specs.Sites.{FieldName, fields_of_global, global_fields_at}
use Rattle.lx_slot_sums.specs.declared.spread.Said.{Said}
use Rattle.lx_slot_sums.specs.declared.spread.Said.TheVariants as saying
use Rattle.lx_slot_sums.specs.declared.spread.Spread.{Spread}
use Rattle.lx_slot_sums.specs.declared.sums.SlotSum.{SlotSum}
use Rattle.lx_slot_sums.specs.Known.{AreGlobals, AreNamed, IsMade, Joins, known, named_fields}
use Rattle.lx_slot_sums.specs.Spreads.{Answers, nothing, told, inside, Follows, HasAnswer, IsOrdered, IsSpread, Keeps, Says, said}
use Rattle.lx_slot_sums.specs.Sums.{Typing, no_sum, sum_in}
use Rattle.lx_slot_sums.proofs.Joining.{no_list}

-- a spread more

get_more : (xs ys : List Spread) (k : ℕ) (x : Spread) → slice_get xs k ≡ Some x → slice_get (xs ++ ys) k ≡ Some x
get_more [] ys k x h = absurd (cc)
get_more (y ∷ xs) ys zero x h = h
get_more (y ∷ xs) ys (suc k) x h = get_more xs ys k x h

get_last : (xs : List Spread) (x : Spread) → slice_get (xs ++ x ∷ []) (length xs) ≡ Some x
get_last [] x = refl
get_last (y ∷ xs) x = get_last xs x

front_same : (xs ys : List Spread) (k : ℕ) → k ≤ length xs → take k xs ≡ take k (xs ++ ys)
front_same xs ys k h = sym (take-append-le k xs ys h)

more : (xs : List Spread) (x : Spread) (w : Option ℕ) (o : ℕ) (s : SlotSum) → Answers xs w o s → Answers (xs ++ x ∷ []) w o s
more xs x _ o _ (nothing _ _) = nothing (xs ++ x ∷ []) o
more xs x _ o s (told _ k _ y _ g i e) = told (xs ++ x ∷ []) k o y s (get_more xs (x ∷ []) k y g) i e
more xs x _ o s (inside _ k _ y w p _ g i e a) =
    let l : k < length xs = slice_get_within xs k y g in
    inside (xs ++ x ∷ []) k o y w p s (get_more xs (x ∷ []) k y g) i e (subst (λ zs. Answers zs w p s) (front_same xs (x ∷ []) k (omega (arith, l))) a)

pub keeps_more : (xs : List Spread) (x : Spread) → Keeps xs (xs ++ x ∷ [])
unfolding Keeps
keeps_more xs x w o s a = more xs x w o s a

pub keeps_same : (xs : List Spread) → Keeps xs xs
unfolding Keeps
keeps_same xs w o s a = a

pub keeps_both : (xs ys zs : List Spread) → Keeps xs ys → Keeps ys zs → Keeps xs zs
unfolding Keeps
keeps_both xs ys zs h k w o s a = k w o s (h w o s a)

pub spread_kept : (t : Typing) (xs ys : List Spread) (w : Option ℕ) (fields : ℕ → List FieldName) → Keeps xs ys → IsSpread t xs w fields → IsSpread t ys w fields
unfolding Keeps IsSpread
spread_kept t xs ys w fields k h o = k w o (sum_in t (fields o)) (h o)

pub follows_kept : (xs ys : List Spread) (r : Said) (s : SlotSum) → Keeps xs ys → Follows xs r s → Follows ys r s
unfolding Keeps
follows_kept xs ys (saying.Sum u) s k h = h
follows_kept xs ys (saying.Inside w p) s k h = k w p s h

-- the last spread

said_last : (xs : List Spread) (x : Spread) (o : ℕ) (s : SlotSum) (r : Said) → IsOrdered x → said x o ≡ r → Follows xs r s → Answers (xs ++ x ∷ []) (Some (length xs)) o s
said_last xs x o s (saying.Sum u) i e f = told (xs ++ x ∷ []) (length xs) o x s (get_last xs x) i (e ∙ ap saying.Sum f)
said_last xs x o s (saying.Inside w p) i e f =
    inside (xs ++ x ∷ []) (length xs) o x w p s (get_last xs x) i e
    (subst (λ zs. Answers zs w p s) (sym (take_all (length xs) xs (omega arith)) ∙ front_same xs (x ∷ []) (length xs) (omega arith)) f)

last_spread : (t : Typing) (xs : List Spread) (x : Spread) (fields : ℕ → List FieldName) → Says t xs x fields → IsSpread t (xs ++ x ∷ []) (Some (length xs)) fields
unfolding IsSpread
last_spread t xs x fields h o = said_last xs x o (sum_in t (fields o)) (said x o) h.ordered refl (h.right o)

pub named_kept : (t : Typing) (xs ys : List Spread) (named : List (Option ℕ)) → Keeps xs ys → AreNamed t xs named → AreNamed t ys named
unfolding AreNamed
named_kept t xs ys named k h n m e = spread_kept t xs ys (Some m) _ k (h n m e)

pub joins : (old new : List Spread) (named : List (Option ℕ)) (x : Spread) (n : ℕ) → n ≡ length old → new ≡ old ++ x ∷ [] → Joins old new named named x n
unfolding Joins
joins old new named x n p q t fields h k =
    subst (λ ys. IsMade t old ys named (Some n) fields) (sym q)
    (subst (λ m. IsMade t old (old ++ x ∷ []) named (Some m) fields) (sym p)
    (record {
      kept = keeps_more old x;
      right = named_kept t old (old ++ x ∷ []) named (keeps_more old x) k;
      made = last_spread t old x fields h;
    }))

-- no spread

pub none_is : (xs : List Spread) (o : ℕ) (s : SlotSum) → Answers xs None o s → no_sum ≡ s
none_is xs o s (nothing _ _) = refl

pub none_has : (xs : List Spread) (o : ℕ) (s : SlotSum) → no_sum ≡ s → Answers xs None o s
none_has xs o s e = subst (λ r. Answers xs None o r) e (nothing xs o)

-- a spread that is looked up

pub record Found (xs : List Spread) (k o : ℕ) (x : Spread) (s : SlotSum) : Type 0 where
  pub ordered : IsOrdered x
  pub follows : Follows (take k xs) (said x o) s

some_same : (x y : Spread) → Some x ≡ Some y → x ≡ y
some_same x y e = cc

pub found : (xs : List Spread) (k o : ℕ) (x : Spread) (s : SlotSum) → Some x ≡ slice_get xs k → Answers xs (Some k) o s → Found xs k o x s
found xs k o x s q (told _ _ _ y _ g i e) =
    let z : y ≡ x = some_same y x (sym g ∙ sym q) in
    subst (λ u. Found xs k o u s) z (record { ordered = i; follows = subst (λ r. Follows (take k xs) r s) (sym e) refl })
found xs k o x s q (inside _ _ _ y w p _ g i e a) =
    let z : y ≡ x = some_same y x (sym g ∙ sym q) in
    subst (λ u. Found xs k o u s) z (record { ordered = i; follows = subst (λ r. Follows (take k xs) r s) (sym e) a })

pub lost : (xs : List Spread) (k o : ℕ) (s r : SlotSum) → None ≡ slice_get xs k → Answers xs (Some k) o s → r ≡ s
lost xs k o s r q (told _ _ _ y _ g i e) = absurd (cc (q, g))
lost xs k o s r q (inside _ _ _ y w p _ g i e a) = absurd (cc (q, g))

pub said_sum : (xs : List Spread) (k o : ℕ) (x : Spread) (s u : SlotSum) → Some x ≡ slice_get xs k → saying.Sum u ≡ said x o → Answers xs (Some k) o s → u ≡ s
said_sum xs k o x s u q e a = let f = found xs k o x s q a in subst (λ r. Follows (take k xs) r s) (sym e) f.follows

pub said_inside : (xs : List Spread) (k o : ℕ) (x : Spread) (s : SlotSum) (w : Option ℕ) (p : ℕ) → Some x ≡ slice_get xs k → saying.Inside w p ≡ said x o → Answers xs (Some k) o s → Answers (take k xs) w p s
said_inside xs k o x s w p q e a = let f = found xs k o x s q a in subst (λ r. Follows (take k xs) r s) (sym e) f.follows

pub has_answer : (t : Typing) (xs : List Spread) (w : Option ℕ) (fields : ℕ → List FieldName) → IsSpread t xs w fields → (o : ℕ) → HasAnswer xs w o
unfolding IsSpread
has_answer t xs w fields h o = record { sum = sum_in t (fields o); is = h o }

pub global_spread : (t : Typing) (xs ys : List Spread) (globals gs : List (Option ℕ)) (n : ℕ) (w : Option ℕ) → AreGlobals t xs globals → ys ≡ xs → gs ≡ globals → w ≡ known gs n → IsSpread t ys w (global_fields_at t.text n)
unfolding AreGlobals
global_spread t xs ys globals gs n w h e q is =
    subst (λ zs. IsSpread t zs w (global_fields_at t.text n)) (sym e)
    (subst (λ u. IsSpread t xs u (global_fields_at t.text n)) (sym (is ∙ ap (λ l. known l n) q)) (h n))

-- spreads that are made

none_spread : (t : Typing) (xs : List Spread) (fields : ℕ → List FieldName) → ((o : ℕ) → fields o ≡ []) → IsSpread t xs None fields
unfolding IsSpread
none_spread t xs fields e o = none_has xs o (sum_in t (fields o)) (no_list t.interface t.text ∙ ap (sum_in t) (sym (e o)))

pub none_made : (t : Typing) (xs : List Spread) (named : List (Option ℕ)) (fields : ℕ → List FieldName) → ((o : ℕ) → fields o ≡ []) → AreNamed t xs named → IsMade t xs xs named None fields
none_made t xs named fields e h = record { kept = keeps_same xs; right = h; made = none_spread t xs fields e }

pub made_more : (t : Typing) (old mid new : List Spread) (named names : List (Option ℕ)) (x : Spread) (n : ℕ) (fields : ℕ → List FieldName) → Keeps old mid → AreNamed t mid named → Says t mid x fields → Joins mid new named names x n → IsMade t old new names (Some n) fields
unfolding Joins
made_more t old mid new named names x n fields k h s j =
    let m = j t fields s h in
    record { kept = keeps_both old mid new k m.kept; right = m.right; made = m.made }

pub known_made : (t : Typing) (xs : List Spread) (named ns : List (Option ℕ)) (n k : ℕ) → ns ≡ named → Some k ≡ known ns n → AreNamed t xs named → IsMade t xs xs named (Some k) (named_fields t.text n)
unfolding AreNamed
known_made t xs named ns n k q e h = record { kept = keeps_same xs; right = h; made = h n k (ap (λ l. known l n) (sym q) ∙ sym e) }

-- what is kept is the spread of its own type
kept_by : (P : ℕ → Option ℕ → Type 0) (n k : ℕ) (w : Option ℕ) (m : ℕ) (b c : Bool) (old : Option ℕ) → P n w → nat_eq n k ≡ b → (if b && c then w else old) ≡ Some m → (old ≡ Some m → P k (Some m)) → P k (Some m)
kept_by P n k w m true true old p e h rest = subst (λ v. P k v) h (subst (λ l. P l w) (true_eq n k e) p)
kept_by P n k w m true false old p e h rest = rest h
kept_by P n k w m false c old p e h rest = rest h

abbrev SetAt : ℕ → Option ℕ → List (Option ℕ) → List (Option ℕ) → Type 0
SetAt n w old new = (k : ℕ) → known new k ≡ (if nat_eq n k && nat_lt k (length old) then w else known old k)

set_named : (t : Typing) (xs : List Spread) (named new : List (Option ℕ)) (n : ℕ) (w : Option ℕ) → AreNamed t xs named → IsSpread t xs w (named_fields t.text n) → SetAt n w named new → AreNamed t xs new
unfolding AreNamed
set_named t xs named new n w h s put k m e =
    kept_by (λ l v. IsSpread t xs v (named_fields t.text l)) n k w m (nat_eq n k) (nat_lt k (length named)) (known named k) s refl (sym (put k) ∙ e) (h k m)

pub named_made : (t : Typing) (old new : List Spread) (named names : List (Option ℕ)) (n : ℕ) (w : Option ℕ) (fields : ℕ → List FieldName) → IsMade t old new named w fields → ((o : ℕ) → fields o ≡ named_fields t.text n o) → SetAt n w named names → IsMade t old new names w (named_fields t.text n)
named_made t old new named names n w fields h same put =
    let s : IsSpread t new w (named_fields t.text n) = subst (IsSpread t new w) (λ j o. same o j) h.made in
    record { kept = h.kept; right = set_named t new named names n w h.right s put; made = s }

pub made_is : (t : Typing) (old new : List Spread) (named : List (Option ℕ)) (w : Option ℕ) (fields more : ℕ → List FieldName) → fields ≡ more → IsMade t old new named w fields → IsMade t old new named w more
made_is t old new named w fields more e h = subst (IsMade t old new named w) e h

-- the spreads of globals, one after the other

-- the first globals have the spreads of their types
pub record GlobalsTo (t : Typing) (xs : List Spread) (globals : List (Option ℕ)) (k : ℕ) : Type 0 where
  pub count : length globals ≡ k
  pub each : (n : ℕ) → n < k → IsSpread t xs (known globals n) (global_fields_at t.text n)

known_front : (gs : List (Option ℕ)) (w : Option ℕ) (n : ℕ) → n < length gs → known gs n ≡ known (gs ++ w ∷ []) n
known_front [] w n h = absurd (omega (arith, h))
known_front (g ∷ gs) w zero h = refl
known_front (g ∷ gs) w (suc n) h = known_front gs w n (omega (arith, h))

known_last : (gs : List (Option ℕ)) (w : Option ℕ) → w ≡ known (gs ++ w ∷ []) (length gs)
known_last [] w = refl
known_last (g ∷ gs) w = known_last gs w

pub none_named : (t : Typing) (xs : List Spread) (named : List (Option ℕ)) → ((n : ℕ) → known named n ≡ None) → AreNamed t xs named
unfolding AreNamed
none_named t xs named h n k e = let z : known named n ≡ None = h n in absurd (cc (z, e))

pub no_globals : (t : Typing) (xs : List Spread) (gs : List (Option ℕ)) → gs ≡ [] → GlobalsTo t xs gs 0
no_globals t xs gs e = record { count = ap (λ l. length l) e; each = λ n h. absurd (omega (arith, h)) }

pub globals_more : (t : Typing) (xs ys : List Spread) (gs : List (Option ℕ)) (w : Option ℕ) (k : ℕ) → GlobalsTo t xs gs k → Keeps xs ys → IsSpread t ys w (global_fields_at t.text k) → GlobalsTo t ys (gs ++ w ∷ []) (k + 1)
globals_more t xs ys gs w k h keep s = record { count = length_push gs w ∙ ap (λ n. n + 1) h.count; each = λ n l. by n l (nat_lt n k) refl }
  where
    front : (n : ℕ) → n < k → n < length gs
    front n l = omega (arith, l, h.count)

    is_less : (n : ℕ) → nat_lt n k ≡ true → n < k
    is_less n e = grind (arith, nat_tests, e)

    is_last : (n : ℕ) → n < k + 1 → nat_lt n k ≡ false → k ≡ n
    is_last n l e = grind (arith, nat_tests, l, e)

    by : (n : ℕ) → n < k + 1 → (b : Bool) → nat_lt n k ≡ b → IsSpread t ys (known (gs ++ w ∷ []) n) (global_fields_at t.text n)
    by n l true e =
        let f = is_less n e in
        subst (λ v. IsSpread t ys v (global_fields_at t.text n)) (known_front gs w n (front n f)) (spread_kept t xs ys (known gs n) (global_fields_at t.text n) keep (h.each n f))
    by n l false e =
        let z : k ≡ n = is_last n l e in
        subst (λ i. IsSpread t ys (known (gs ++ w ∷ []) i) (global_fields_at t.text i)) z
        (subst (λ v. IsSpread t ys v (global_fields_at t.text k)) (known_last gs w ∙ ap (known (gs ++ w ∷ [])) h.count) s)

past_none : (t : Typing) (n : ℕ) → length t.text.globals ≤ n → (o : ℕ) → global_fields_at t.text n o ≡ []
past_none t n h o = ap (λ g. fields_of_global t.text g o) (slice_get_past t.text.globals n h)

pub globals_all : (t : Typing) (xs : List Spread) (gs : List (Option ℕ)) (k : ℕ) → GlobalsTo t xs gs k → length t.text.globals ≤ k → AreGlobals t xs gs
unfolding AreGlobals
globals_all t xs gs k h l n = by (nat_lt n k) refl
  where
    is_less : nat_lt n k ≡ true → n < k
    is_less e = grind (arith, nat_tests, e)

    is_past : nat_lt n k ≡ false → k ≤ n
    is_past e = grind (arith, nat_tests, e)

    by : (b : Bool) → nat_lt n k ≡ b → IsSpread t xs (known gs n) (global_fields_at t.text n)
    by true e = h.each n (is_less e)
    by false e =
        let q : k ≤ n = is_past e in
        let z : None ≡ known gs n = sym (ap option_flatten (slice_get_past gs n (omega (arith, q, h.count)))) in
        subst (λ v. IsSpread t xs v (global_fields_at t.text n)) z (none_spread t xs (global_fields_at t.text n) (past_none t n (omega (arith, q, l))))
