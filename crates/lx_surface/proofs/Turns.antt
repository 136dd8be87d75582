-- Each pair has its turn.
use Rattle.std.proofs.Common.{◌≡◌, ℕ, zero, suc, ◌+◌, ◌<◌, ◌≤◌, Bool, true, false, Option, Some, None, inl, inr, List, length, slice_get, refl, sym, ap, subst, ◌∙◌, arith}
use Rattle.std.specs.Prelude.{◌⊎◌}
use Rattle.lx_words.proofs.Tests.{below_next}
use Rattle.lx_model.specs.declared.program.Program.{Program}
use Rattle.lx_model.specs.Program.{Home, home_of}
use Rattle.lx_surface.specs.declared.Thing.{Thing}
use Rattle.lx_surface.specs.declared.Thing.TheVariants.{RefType, Function}
use Rattle.lx_surface.specs.Names.{gives_behind}
use Rattle.lx_surface.specs.declared.work.Work.{Work}
use Rattle.lx_surface.specs.Bound.{allows}
use Rattle.lx_surface.specs.Given.{Closes, Followed, FollowedAll, IsFollowed, Passed, PassedAll, comes_of}
use Rattle.lx_surface.specs.Pairs.{Pair, has_pair}
use Rattle.lx_surface.specs.Right.{IsDone, IsRight}
use Rattle.lx_surface.specs.Waits.{waits}
use Rattle.lx_surface.specs.Work.{Grows, is_given}
use Rattle.lx_surface.proofs.Places.{at_end, earlier, first_is, past, place_of, second_is, stands, within}
use Rattle.lx_surface.proofs.Rights.{given_more, grows_on, same_grows}
use Rattle.lx_surface.proofs.Sets.{allows_more}

one_more : (n l : ℕ) → n < l → n + 1 ≤ l
one_more n l h = omega (arith, h)

-- what stood at a place when the turn came stands there behind it
still : (xs ys : List Pair) (place : ℕ) (k g b h : ℕ) → slice_get ys place ≡ slice_get xs place → slice_get xs place ≡ Some (k, g) → slice_get ys place ≡ Some (b, h) → (k ≡ b) × (g ≡ h)
still xs ys place k g b h same at there = let e = sym at ∙ (sym same ∙ there) in (first_is k g b h e, second_is k g b h e)

-- the turn of a function
function_right : (p : Program) (a c : Work) (i j k g : ℕ) → IsRight p i j a → slice_get a.bound.functions i ≡ Some (k, g) → Passed p a c k (Function g) → IsRight p (i + 1) j c
function_right p a c i j k g before at passed = record {
  functions_within = one_more i (length c.bound.functions) (within c.bound.functions i (k, g) (stays ∙ at));
  references_within = right.references_within;
  sound = right.sound;
  waits_soundly = right.waits_soundly;
  known = right.known;
  whole = right.whole;
  passed_on = on;
} where
  right : IsRight p i j c
  right = passed.right i j before (stands a.bound.functions i k g at)

  stays : slice_get c.bound.functions i ≡ slice_get a.bound.functions i
  stays = earlier a.bound.functions c.bound.functions i passed.grows.bound.functions (within a.bound.functions i (k, g) at)

  this : (b h m : ℕ) → (k ≡ b) × (g ≡ h) → waits c.waits m b (Function h) ≡ true → allows c.bound m (Function h) ≡ true
  this b h m same waiting =
      let mine = subst (λ n. waits c.waits m n (Function g) ≡ true) (sym same.0) (subst (λ n. waits c.waits m b (Function n) ≡ true) (sym same.1) waiting) in
      subst (λ n. allows c.bound m (Function n) ≡ true) same.1 (passed.has m mine (right.known m k (Function g) mine))

  on : (b : ℕ) (x : Thing) (m : ℕ) → IsDone (i + 1) j c.bound b x → waits c.waits m b x ≡ true → allows c.bound m x ≡ true
  on b (RefType t) m done waiting = right.passed_on b (RefType t) m done waiting
  on b (Function h) m done waiting = elim (below_next done.0 i done.1) [
    | inl lower ↦ right.passed_on b (Function h) m (done.0, lower, done.2) waiting
    | inr here ↦ this b h m (still a.bound.functions c.bound.functions i k g b h stays at (ap (slice_get c.bound.functions) (sym here) ∙ done.2)) waiting
  ]

-- the turn of a reference
reference_right : (p : Program) (a c : Work) (i j k t : ℕ) → IsRight p i j a → slice_get a.bound.references j ≡ Some (k, t) → Passed p a c k (RefType t) → IsRight p i (j + 1) c
reference_right p a c i j k t before at passed = record {
  functions_within = right.functions_within;
  references_within = one_more j (length c.bound.references) (within c.bound.references j (k, t) (stays ∙ at));
  sound = right.sound;
  waits_soundly = right.waits_soundly;
  known = right.known;
  whole = right.whole;
  passed_on = on;
} where
  right : IsRight p i j c
  right = passed.right i j before (stands a.bound.references j k t at)

  stays : slice_get c.bound.references j ≡ slice_get a.bound.references j
  stays = earlier a.bound.references c.bound.references j passed.grows.bound.references (within a.bound.references j (k, t) at)

  this : (b u m : ℕ) → (k ≡ b) × (t ≡ u) → waits c.waits m b (RefType u) ≡ true → allows c.bound m (RefType u) ≡ true
  this b u m same waiting =
      let mine = subst (λ n. waits c.waits m n (RefType t) ≡ true) (sym same.0) (subst (λ n. waits c.waits m b (RefType n) ≡ true) (sym same.1) waiting) in
      subst (λ n. allows c.bound m (RefType n) ≡ true) same.1 (passed.has m mine (right.known m k (RefType t) mine))

  on : (b : ℕ) (x : Thing) (m : ℕ) → IsDone i (j + 1) c.bound b x → waits c.waits m b x ≡ true → allows c.bound m x ≡ true
  on b (Function h) m done waiting = right.passed_on b (Function h) m done waiting
  on b (RefType u) m done waiting = elim (below_next done.0 j done.1) [
    | inl lower ↦ right.passed_on b (RefType u) m (done.0, lower, done.2) waiting
    | inr here ↦ this b u m (still a.bound.references c.bound.references j k t b u stays at (ap (slice_get c.bound.references) (sym here) ∙ done.2)) waiting
  ]

-- functions, up to a place
pub record FollowedBelow (p : Program) (old new : Work) (place : ℕ) : Type 0 where
  pub grows : Grows old new
  pub right : IsRight p 0 0 old → IsRight p place 0 new
  pub followed : IsRight p 0 0 old → (n m f : ℕ) → n < place → slice_get new.bound.functions n ≡ Some (m, f) → IsFollowed p new m f

pub none_followed : (p : Program) (w : Work) → FollowedBelow p w w 0
none_followed p w = record { grows = same_grows w; right = λ right. right; followed = λ right n m f less at. absurd (omega (arith, less)) }

followed_more : (p : Program) (a b : Work) (m f : ℕ) → Grows a b → IsFollowed p a m f → IsFollowed p b m f
followed_more p a b m f grows followed from x home gives = given_more a b m from x grows (followed from x home gives)

pub next_followed : (p : Program) (o a b c : Work) (place m f : ℕ) → FollowedBelow p o a place → slice_get a.bound.functions place ≡ Some (m, f) → Followed p a b m f → Passed p b c m (Function f) → FollowedBelow p o c (place + 1)
next_followed p o a b c place m f first at next passed = record {
  grows = grows_on o a c first.grows more;
  right = λ right. function_right p b c place 0 m f (mid right) there passed;
  followed = λ right n k g less stood. elim (below_next n place less) [
    | inl lower ↦ followed_more p a c k g more (first.followed right n k g lower (sym (kept n (before right n lower)) ∙ stood))
    | inr here ↦ this right k g (still a.bound.functions c.bound.functions place m f k g (kept place inside) at (ap (slice_get c.bound.functions) (sym here) ∙ stood))
  ];
} where
  more : Grows a c
  more = grows_on a b c next.grows passed.grows

  inside : place < length a.bound.functions
  inside = within a.bound.functions place (m, f) at

  before : IsRight p 0 0 o → (n : ℕ) → n < place → n < length a.bound.functions
  before right n lower = omega (arith, lower, inside)

  kept : (n : ℕ) → n < length a.bound.functions → slice_get c.bound.functions n ≡ slice_get a.bound.functions n
  kept n less = earlier a.bound.functions c.bound.functions n more.bound.functions less

  there : slice_get b.bound.functions place ≡ Some (m, f)
  there = earlier a.bound.functions b.bound.functions place next.grows.bound.functions inside ∙ at

  mid : IsRight p 0 0 o → IsRight p place 0 b
  mid right = let now = first.right right in next.right place 0 now (now.sound m (Function f) (stands a.bound.functions place m f at))

  this : IsRight p 0 0 o → (k g : ℕ) → (m ≡ k) × (f ≡ g) → IsFollowed p c k g
  this right k g same =
      let now = first.right right in
      let done = next.has place 0 now (now.sound m (Function f) (stands a.bound.functions place m f at)) in
      subst (λ n. IsFollowed p c n g) same.0 (subst (λ n. IsFollowed p c m n) same.1 (followed_more p b c m f passed.grows done))

pub all_followed : (p : Program) (o w : Work) (place : ℕ) → FollowedBelow p o w place → slice_get w.bound.functions place ≡ None → FollowedAll p o w
all_followed p o w place followed none = record {
  grows = followed.grows;
  right = λ right. let now = followed.right right in subst (λ n. IsRight p n 0 w) (at_end w.bound.functions place none now.functions_within) now;
  followed = λ right m f held. let there = place_of w.bound.functions m f held in followed.followed right there.0 m f (past w.bound.functions place there.0 (m, f) none there.1) there.1;
}

-- references, up to a place
pub record PassedReferences (p : Program) (old new : Work) (place : ℕ) : Type 0 where
  pub grows : Grows old new
  pub functions : new.bound.functions ≡ old.bound.functions
  pub right : (i : ℕ) → IsRight p i 0 old → IsRight p i place new

pub no_reference : (p : Program) (w : Work) → PassedReferences p w w 0
no_reference p w = record { grows = same_grows w; functions = refl; right = λ i right. right }

pub next_reference : (p : Program) (o a b : Work) (place m t : ℕ) → PassedReferences p o a place → slice_get a.bound.references place ≡ Some (m, t) → Passed p a b m (RefType t) → PassedReferences p o b (place + 1)
next_reference p o a b place m t first at passed = record {
  grows = grows_on o a b first.grows passed.grows;
  functions = passed.functions t refl ∙ first.functions;
  right = λ i right. reference_right p a b i place m t (first.right i right) at passed;
}

pub all_references : (p : Program) (o w : Work) (place : ℕ) → PassedReferences p o w place → slice_get w.bound.references place ≡ None → PassedAll p o w
all_references p o w place passed none = record {
  grows = passed.grows;
  functions = passed.functions;
  right = λ i right. let now = passed.right i right in subst (λ n. IsRight p i n w) (at_end w.bound.references place none now.references_within) now;
}

-- nothing more follows
pub closes : (p : Program) (o a b : Work) → FollowedAll p o a → PassedAll p a b → Closes p o b
closes p o a b followed passed = record {
  grows = grows_on o a b followed.grows passed.grows;
  sound = λ right. (last right).sound;
  closed = λ right m f x held gives come. by right m f x (home_of p f) refl (followed.followed right m f (ap (λ l. has_pair l m f) (sym passed.functions) ∙ held)) gives come;
} where
  last : IsRight p 0 0 o → IsRight p (length a.bound.functions) (length b.bound.references) b
  last right = passed.right (length a.bound.functions) (followed.right right)

  turned : (k : ℕ) (x : Thing) → allows b.bound k x ≡ true → IsDone (length a.bound.functions) (length b.bound.references) b.bound k x
  turned k (RefType t) held = let there = place_of b.bound.references k t held in (there.0, within b.bound.references there.0 (k, t) there.1, there.1)
  turned k (Function g) held =
      let there = place_of b.bound.functions k g held in
      (there.0, within a.bound.functions there.0 (k, g) (ap (λ l. slice_get l there.0) (sym passed.functions) ∙ there.1), there.1)

  by : IsRight p 0 0 o → (m f : ℕ) (x : Thing) (home : Option Home) → home_of p f ≡ home → IsFollowed p a m f → gives_behind p f x ≡ true → comes_of b.bound home x ≡ true → allows b.bound m x ≡ true
  by right m f x None at done gives come = absurd (cc)
  by right m f x (Some None) at done gives come = allows_more a.bound b.bound m x passed.grows.bound (done None x at gives)
  by right m f x (Some (Some k)) at done gives come = (last right).passed_on k x m (turned k x come) (passed.grows.waiting m k x (done (Some k) x at gives))
