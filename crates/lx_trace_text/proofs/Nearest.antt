-- The block that starts last up to an address, by the newest block of each start.
use Rattle.std.proofs.Common.{◌≡◌, ◌∙◌, ℕ, ◌≤◌, Bool, true, false, ◌&&◌, Option, Some, None, List, [], ◌∷◌, cond, refl, sym, ap, subst, nat_eq, nat_le, nat_lt, arith, if◌then◌else◌}
use Rattle.std.specs.Option.{IsSome}
use Rattle.std.specs.Ordering.{is_gt, nat_cmp}
use Rattle.std.specs.declared.cmp.Ordering.TheVariants.{Less, Equal, Greater}
use Rattle.std.proofs.lemmas.Bool.Decides.{nat_tests}
use Rattle.lx_words.proofs.Tests.{eq_self, true_eq, true_le}
use Rattle.lx_trace_text.specs.declared.blocks.Block.{Block}
use Rattle.lx_trace_text.specs.Blocks.{nearer, nearest, newest}

-- the newest block with a start starts there
pub newest_starts : (bs : List Block) (k : ℕ) (b : Block) → newest bs k ≡ Some b → b.start ≡ k
newest_starts [] k b h = absurd (cc h)
newest_starts (c ∷ bs) k b h = by (newest_starts bs k b) (nat_eq c.start k) refl h
  where
    by : (newest bs k ≡ Some b → b.start ≡ k) → (t : Bool) → nat_eq c.start k ≡ t → cond t (Some c) (newest bs k) ≡ Some b → b.start ≡ k
    by rest true e g = let s : c ≡ b = cc g in ap (λ (x : Block). x.start) (sym s) ∙ true_eq c.start k e
    by rest false e g = rest g

-- a block in front has its start
pub front_has : (b : Block) (bs : List Block) → newest (b ∷ bs) b.start ≡ Some b
front_has b bs = by (nat_eq b.start b.start) (eq_self b.start)
  where
    by : (t : Bool) → t ≡ true → cond t (Some b) (newest bs b.start) ≡ Some b
    by true e = refl
    by false e = absurd (cc e)

front_some : (b : Block) (bs : List Block) → IsSome (newest (b ∷ bs) b.start)
front_some b bs = subst IsSome (sym (front_has b bs)) refl

-- what has a start has it behind a further block
pub more_some : (b : Block) (bs : List Block) (k : ℕ) → IsSome (newest bs k) → IsSome (newest (b ∷ bs) k)
more_some b bs k h = by (nat_eq b.start k)
  where
    by : (t : Bool) → IsSome (cond t (Some b) (newest bs k))
    by true = refl
    by false = h

-- the nearest block starts up to the address
pub nearest_up_to : (bs : List Block) (a : ℕ) (b : Block) → nearest bs a ≡ Some b → b.start ≤ a
nearest_up_to [] a b h = absurd (cc h)
nearest_up_to (c ∷ bs) a b h = by (nearest_up_to bs a b) (nearest bs a) refl h
  where
    alone : (t : Bool) → nat_le c.start a ≡ t → (if t then Some c else None) ≡ Some b → b.start ≤ a
    alone true f g = let s : c ≡ b = cc g in subst (λ (x : Block). x.start ≤ a) s (true_le c.start a f)
    alone false f g = absurd (cc g)

    two : (d : Block) → (Some d ≡ Some b → b.start ≤ a) → (t : Bool) → nat_le c.start a ≡ t → (u : Bool) → (if t && u then Some c else Some d) ≡ Some b → b.start ≤ a
    two d rest true f true g = let s : c ≡ b = cc g in subst (λ (x : Block). x.start ≤ a) s (true_le c.start a f)
    two d rest true f false g = rest g
    two d rest false f u g = rest g

    by : (nearest bs a ≡ Some b → b.start ≤ a) → (o : Option Block) → nearest bs a ≡ o → nearer a c o ≡ Some b → b.start ≤ a
    by rest None e g = alone (nat_le c.start a) refl g
    by rest (Some d) e g = two d (λ g. rest (e ∙ g)) (nat_le c.start a) refl (nat_le d.start c.start) g

-- and has its start
pub nearest_some : (bs : List Block) (a : ℕ) (b : Block) → nearest bs a ≡ Some b → IsSome (newest bs b.start)
nearest_some [] a b h = absurd (cc h)
nearest_some (c ∷ bs) a b h = by (λ g. more_some c bs b.start (nearest_some bs a b g)) (nearest bs a) refl h
  where
    first : c ≡ b → IsSome (newest (c ∷ bs) b.start)
    first s = subst (λ (x : Block). IsSome (newest (c ∷ bs) x.start)) s (front_some c bs)

    alone : (t : Bool) → (if t then Some c else None) ≡ Some b → IsSome (newest (c ∷ bs) b.start)
    alone true g = first (cc g)
    alone false g = absurd (cc g)

    two : (d : Block) → (Some d ≡ Some b → IsSome (newest (c ∷ bs) b.start)) → (t u : Bool) → (if t && u then Some c else Some d) ≡ Some b → IsSome (newest (c ∷ bs) b.start)
    two d rest true true g = first (cc g)
    two d rest true false g = rest g
    two d rest false u g = rest g

    by : (nearest bs a ≡ Some b → IsSome (newest (c ∷ bs) b.start)) → (o : Option Block) → nearest bs a ≡ o → nearer a c o ≡ Some b → IsSome (newest (c ∷ bs) b.start)
    by rest None e g = alone (nat_le c.start a) g
    by rest (Some d) e g = two d (λ g. rest (e ∙ g)) (nat_le c.start a) (nat_le d.start c.start) g

-- where no block starts up to the address, none is nearest
pub nearest_none : (bs : List Block) (a : ℕ) → ((k : ℕ) → k ≤ a → newest bs k ≡ None) → nearest bs a ≡ None
nearest_none [] a h = refl
nearest_none (b ∷ bs) a h = ap (nearer a b) (nearest_none bs a (λ k l. behind k (nat_eq b.start k) (h k l))) ∙ by (nat_le b.start a) refl
  where
    behind : (k : ℕ) (t : Bool) → cond t (Some b) (newest bs k) ≡ None → newest bs k ≡ None
    behind k true g = absurd (cc g)
    behind k false g = g

    by : (t : Bool) → nat_le b.start a ≡ t → (if t then Some b else None) ≡ None
    by true e = absurd (cc (sym (front_has b bs) ∙ h b.start (true_le b.start a e)))
    by false e = refl

-- the newest block of the last start up to the address is the nearest one
pub nearest_is : (bs : List Block) (a k : ℕ) (b : Block) → newest bs k ≡ Some b → k ≤ a → ((q : ℕ) → q ≤ a → IsSome (newest bs q) → q ≤ k) → nearest bs a ≡ Some b
nearest_is [] a k b h l last = absurd (cc h)
nearest_is (c ∷ bs) a k b h l last =
    by (λ g. nearest_is bs a k b g l (λ q m i. last q m (more_some c bs q i))) (nat_eq c.start k) refl h
  where
    one : (t : Bool) → t ≡ true → c ≡ b → (if t then Some c else None) ≡ Some b
    one true f s = ap Some s
    one false f s = absurd (cc f)

    both : (d : Block) (t u : Bool) → t ≡ true → u ≡ true → c ≡ b → (if t && u then Some c else Some d) ≡ Some b
    both d true true f g s = ap Some s
    both d true false f g s = absurd (cc g)
    both d false u f g s = absurd (cc f)

    here : c.start ≡ k → c ≡ b → (o : Option Block) → nearest bs a ≡ o → nearer a c o ≡ Some b
    here e s None f = one (nat_le c.start a) (grind (arith, nat_tests, e, l)) s
    here e s (Some d) f =
        let near : d.start ≤ k = last d.start (nearest_up_to bs a d f) (more_some c bs d.start (nearest_some bs a d f)) in
        both d (nat_le c.start a) (nat_le d.start c.start) (grind (arith, nat_tests, e, l)) (grind (arith, nat_tests, e, near)) s

    two : nat_eq c.start k ≡ false → b.start ≡ k → (t : Bool) → nat_le c.start a ≡ t → (u : Bool) → nat_le b.start c.start ≡ u → (if t && u then Some c else Some b) ≡ Some b
    two e starts true f true i =
        let up : c.start ≤ k = last c.start (true_le c.start a f) (front_some c bs) in
        absurd (grind (arith, nat_tests, e, i, starts, up))
    two e starts true f false i = refl
    two e starts false f u i = refl

    behind : nat_eq c.start k ≡ false → newest bs k ≡ Some b → nearest bs a ≡ Some b → nearest (c ∷ bs) a ≡ Some b
    behind e g rest = ap (nearer a c) rest ∙ two e (newest_starts bs k b g) (nat_le c.start a) refl (nat_le b.start c.start) refl

    by : (newest bs k ≡ Some b → nearest bs a ≡ Some b) → (t : Bool) → nat_eq c.start k ≡ t → cond t (Some c) (newest bs k) ≡ Some b → nearest (c ∷ bs) a ≡ Some b
    by rest true e g = here (true_eq c.start k e) (cc g) (nearest bs a) refl
    by rest false e g = behind e g (rest g)

-- a number up to another one is not greater
pub not_greater : (a b : ℕ) → a ≤ b → is_gt (nat_cmp a b) ≡ false
not_greater a b l = by (nat_lt a b) refl (nat_eq a b) refl
  where
    by : (t : Bool) → nat_lt a b ≡ t → (u : Bool) → nat_eq a b ≡ u → is_gt (cond t Less (cond u Equal Greater)) ≡ false
    by true e u f = refl
    by false e true f = refl
    by false e false f = absurd (grind (arith, nat_tests, l, e, f))
