-- Who is found, and who is the first of them.
use Rattle.std.proofs.Common.{◌≡◌, ◌∙◌, refl, ap, ℕ, Bool, true, false, ◌&&◌, ◌||◌, Some, None}
use Rattle.lx_words.proofs.Tests.{and_false}
use Rattle.lx_caps.specs.declared.Principal.{Principal}
use Rattle.lx_caps.specs.History.{same_principal}
use Rattle.lx_caps.specs.Precedence.{is_found}
use Rattle.lx_writer_sets.specs.Sets.{touches}
use Rattle.lx_writer_sets.specs.declared.entry.Entry.{Entry}
use Rattle.lx_caps.proofs.Principals.{same_principal_is}

pub and_or : (f a x : Bool) → ((f && a) || (f && x)) ≡ (f && (a || x))
and_or true a x = refl
and_or false a x = refl

found_if : (s : Bool) (t : Principal → Bool) (q w : Principal) → same_principal q w ≡ s → t w ≡ true → (t q && (s && true)) ≡ s
found_if false t q w same is = and_false (t q)
found_if true t q w same is = let e = same_principal_is q w same in ap (λ (r : Principal). t r && true) e ∙ ap (λ (b : Bool). b && true) is

-- the entry's writer is the one found
pub found_here : (t : Principal → Bool) (e : Entry) (part slot : ℕ) → t e.writer ≡ true → touches part e slot ≡ true
    → (q : Principal) → (t q && (same_principal q e.writer && touches part e slot)) ≡ is_found (Some e.writer) q
found_here t e part slot is has q =
    ap (λ (b : Bool). t q && (same_principal q e.writer && b)) has
    ∙ found_if (same_principal q e.writer) t q e.writer refl is

and_three : (f s t : Bool) → t ≡ false → (f && (s && t)) ≡ false
and_three true true t is = is
and_three true false t is = refl
and_three false s t is = refl

-- an entry of other bytes
pub none_touched : (t : Principal → Bool) (e : Entry) (part slot : ℕ) → touches part e slot ≡ false
    → (q : Principal) → (t q && (same_principal q e.writer && touches part e slot)) ≡ is_found None q
none_touched t e part slot out q = and_three (t q) (same_principal q e.writer) (touches part e slot) out

fails_if : (s b : Bool) (t : Principal → Bool) (q w : Principal) → same_principal q w ≡ s → t w ≡ false → (t q && (s && b)) ≡ false
fails_if false b t q w same out = and_false (t q)
fails_if true b t q w same out = let e = same_principal_is q w same in ap (λ (r : Principal). t r && b) e ∙ ap (λ (x : Bool). x && b) out

-- an entry whose writer does not pass
pub none_passes : (t : Principal → Bool) (e : Entry) (part slot : ℕ) → t e.writer ≡ false
    → (q : Principal) → (t q && (same_principal q e.writer && touches part e slot)) ≡ is_found None q
none_passes t e part slot out q = fails_if (same_principal q e.writer) (touches part e slot) t q e.writer refl out
