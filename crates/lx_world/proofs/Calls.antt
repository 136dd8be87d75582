-- The calls of a thread of images that have not ended, and what their ends take of the store.
use Rattle.std.proofs.Common.{◌≡◌, ℕ, ◌+◌, ◌*◌, ◌≤◌, Bool, true, false, Option, List, [], ◌∷◌, length, refl, ap, ◌∙◌, arith}
use Rattle.lx_words.specs.Word.{Word}
use Rattle.lx_caps.specs.declared.Principal.{Principal}
use Rattle.lx_model.specs.declared.program.ScriptCall.{ScriptCall}
use Rattle.lx_model.specs.declared.request.Reply.{Reply}
use Rattle.lx_model.specs.declared.request.Reply.TheVariants.{Value, Done, Entered, Ended}
use Rattle.lx_model.specs.declared.request.Request.{Request}
use Rattle.lx_model.specs.declared.request.Way.{Way}
use Rattle.lx_model.specs.declared.request.Way.TheVariants.{Script, Direct, Indirect, Slot}
use Rattle.lx_model.specs.declared.request.What.{What}
use Rattle.lx_model.specs.declared.request.What.TheVariants as what
use Rattle.lx_model.specs.Effect.{returned_value}
use Rattle.lx_model.specs.Next.{other_calls}
use Rattle.lx_model.specs.Thread.{has_call}
use Rattle.lx_images.specs.Image.{Code, ImageFrame, Runs, Wraps, ImageThread, after_entry, after_leaving, after_reply, after_ret, fits_site, image_absorb}
use Rattle.lx_serve.specs.Room.{taken_by}

-- a reply that ends no call leaves the calls

entry_keeps : (c : Code) (t : ℕ) (b : Bool) (way : Way) (args : List Word) (n : ℕ) (q : Principal) (crosses : Bool) (v : ImageThread) → (after_entry c t b way args n q crosses v).calls ≡ v.calls
entry_keeps c t true way args n q crosses v = refl
entry_keeps c t false way args n q crosses v = refl

leaving_keeps : (x : Option Word) (fs : List ImageFrame) (v : ImageThread) → (after_leaving x fs v).calls ≡ v.calls
leaving_keeps x [] v = refl
leaving_keeps x (Runs a ∷ fs) v = refl
leaving_keeps x (Wraps n args lines old ∷ fs) v = refl

ret_keeps : (c : Code) (fs : List ImageFrame) (v : ImageThread) → (after_ret c fs v).calls ≡ v.calls
ret_keeps c [] v = refl
ret_keeps c (Runs a ∷ fs) v = leaving_keeps (returned_value c.program a) fs v
ret_keeps c (Wraps n args lines x ∷ fs) v = refl

value_keeps : (c : Code) (t : ℕ) (v : ImageThread) (w : What) (x : Word) → (after_reply c t v w (Value x)).calls ≡ v.calls
value_keeps c t v (what.Load at width) x = refl
value_keeps c t v (what.Store at y) x = refl
value_keeps c t v (what.Copy to from len) x = refl
value_keeps c t v (what.Fill to byte len) x = refl
value_keeps c t v (what.Alloca at size) x = refl
value_keeps c t v (what.Enter (Script f) args) x = refl
value_keeps c t v (what.Enter (Direct f) args) x = refl
value_keeps c t v (what.Enter (Indirect a) args) x = refl
value_keeps c t v (what.Enter (Slot slot ty) args) x = refl
value_keeps c t v (what.Perform n post k env source dest) x = refl
value_keeps c t v (what.Return low high) x = ret_keeps c v.frames v
value_keeps c t v (what.Native k args) x = refl
value_keeps c t v (what.Finish o) x = refl

done_keeps : (c : Code) (t : ℕ) (v : ImageThread) (w : What) → (after_reply c t v w Done).calls ≡ v.calls
done_keeps c t v (what.Load at width) = refl
done_keeps c t v (what.Store at y) = refl
done_keeps c t v (what.Copy to from len) = refl
done_keeps c t v (what.Fill to byte len) = refl
done_keeps c t v (what.Alloca at size) = refl
done_keeps c t v (what.Enter (Script f) args) = refl
done_keeps c t v (what.Enter (Direct f) args) = refl
done_keeps c t v (what.Enter (Indirect a) args) = refl
done_keeps c t v (what.Enter (Slot slot ty) args) = refl
done_keeps c t v (what.Perform n post k env source dest) = refl
done_keeps c t v (what.Return low high) = ret_keeps c v.frames v
done_keeps c t v (what.Native k args) = refl
done_keeps c t v (what.Finish o) = refl

entered_keeps : (c : Code) (t : ℕ) (v : ImageThread) (w : What) (n : ℕ) (q : Principal) (crosses : Bool) → (after_reply c t v w (Entered n q crosses)).calls ≡ v.calls
entered_keeps c t v (what.Load at width) n q crosses = refl
entered_keeps c t v (what.Store at y) n q crosses = refl
entered_keeps c t v (what.Copy to from len) n q crosses = refl
entered_keeps c t v (what.Fill to byte len) n q crosses = refl
entered_keeps c t v (what.Alloca at size) n q crosses = refl
entered_keeps c t v (what.Enter (Script f) args) n q crosses = entry_keeps c t (fits_site c (Script f) v.frames n) (Script f) args n q crosses v
entered_keeps c t v (what.Enter (Direct f) args) n q crosses = refl
entered_keeps c t v (what.Enter (Indirect a) args) n q crosses = entry_keeps c t (fits_site c (Indirect a) v.frames n) (Indirect a) args n q crosses v
entered_keeps c t v (what.Enter (Slot slot ty) args) n q crosses = entry_keeps c t (fits_site c (Slot slot ty) v.frames n) (Slot slot ty) args n q crosses v
entered_keeps c t v (what.Perform m post k env source dest) n q crosses = refl
entered_keeps c t v (what.Return low high) n q crosses = ret_keeps c v.frames v
entered_keeps c t v (what.Native k args) n q crosses = refl
entered_keeps c t v (what.Finish o) n q crosses = refl

fewer : (cs : List ScriptCall) → has_call cs ≡ true → 2 * length (other_calls cs) + 2 ≤ 2 * length cs
fewer [] work = absurd (cc)
fewer (c ∷ cs) work = omega arith

same_many : (xs ys : List ScriptCall) → xs ≡ ys → 2 * length xs + 0 ≤ 2 * length ys
same_many xs ys is = let e = ap length is in omega (arith, e)

-- the end of a call takes two acts, and there is a call less; no other reply takes any
pub ends_take : (c : Code) (t : ℕ) (v : ImageThread) (r : Request) (reply : Reply) → has_call v.calls ≡ true → 2 * length (image_absorb c t v r reply).calls + taken_by reply ≤ 2 * length v.calls
ends_take c t v r (Value x) work = same_many _ _ (value_keeps c t v r.what x)
ends_take c t v r Done work = same_many _ _ (done_keeps c t v r.what)
ends_take c t v r (Entered n q crosses) work = same_many _ _ (entered_keeps c t v r.what n q crosses)
ends_take c t v r (Ended o) work = fewer v.calls work

-- what a thread's event leaves of the room for the ends of calls
pub room_of_ends : (c : Code) (t : ℕ) (v : ImageThread) (r : Request) (reply answer : Reply) (before left after : List ScriptCall) (old new : ℕ)
    → has_call before ≡ true → left ≡ before → v.calls ≡ left → after ≡ (image_absorb c t v r reply).calls → answer ≡ reply → old ≤ new + taken_by answer
    → 2 * length after + old ≤ 2 * length before + new
room_of_ends c t v r reply answer before left after old new work same calls is told leaves =
    let all : v.calls ≡ before = calls ∙ same in
    let takes = ends_take c t v r reply (ap has_call all ∙ work) in
    let a = ap length is in
    let b = ap length all in
    let d = ap taken_by told in
    omega (arith, takes, a, b, d, leaves)
