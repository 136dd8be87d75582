-- What holds along code, and along the code of its image.
use Rattle.std.proofs.Common.{◌≡◌, suc, ◌-◌, Bool, false, not, ◌&&◌, ◌||◌, List, [], ◌∷◌, ◌++◌, length, Option, Some, None, refl, sym, ◌∙◌, ap, arith}
use Rattle.std.specs.Prelude.{filter_map, flat_map, slice_get, ⊤}
use Rattle.std.specs.List.{list_any, cons_option}
use Rattle.lx_ir.specs.declared.module.Module.{Module}
use Rattle.lx_ir.specs.declared.instr.Instr.{Instr}
use Rattle.lx_ir.specs.declared.instr.Op.{Op}
use Rattle.lx_ir.specs.Lawful.{ends_once}
use Rattle.lx_ir.specs.Faults.{last_of, is_end, exits_by}
use Rattle.lx_image_texts.proofs.Distinct.{Each}
use Rattle.lx_image_texts.proofs.Beside.{Alike, IsMarkOf, Beside, ends, bare, marked, same_ends, same_targets, mark_facts}

abbrev pub Same : {B : Type 0} → Module → (Op → B) → Type 0
Same m h = (o p : Op) → Alike m o p → h o ≡ h p

-- lists that instructions add to

pub flat_same : {B : Type 0} (h : Op → List B) (m : Module) → Same m h → ((k o : Op) → IsMarkOf k o → h k ≡ []) → (is js : List Instr) → Beside m is js → flat_map (λ i. h i.op) is ≡ flat_map (λ i. h i.op) js
flat_same h m s n _ _ ends = refl
flat_same h m s n _ _ (bare i j is js a b) = λ t. s i.op j.op a t ++ flat_same h m s n is js b t
flat_same h m s n _ _ (marked i k j is js e a b) =
    (λ t. s i.op j.op a t ++ flat_same h m s n is js b t) ∙ (λ t. sym (n k.op i.op e) t ++ (h j.op ++ flat_map (λ i. h i.op) js))

pub filter_same : {B : Type 0} (h : Op → Option B) (m : Module) → Same m h → ((k o : Op) → IsMarkOf k o → h k ≡ None) → (is js : List Instr) → Beside m is js → filter_map (λ i. h i.op) is ≡ filter_map (λ i. h i.op) js
filter_same h m s n _ _ ends = refl
filter_same h m s n _ _ (bare i j is js a b) = λ t. cons_option (s i.op j.op a t) (filter_same h m s n is js b t)
filter_same h m s n _ _ (marked i k j is js e a b) =
    (λ t. cons_option (s i.op j.op a t) (filter_same h m s n is js b t)) ∙ (λ t. cons_option (sym (n k.op i.op e) t) (cons_option (h j.op) (filter_map (λ i. h i.op) js)))

pub any_same : (h : Op → Bool) (m : Module) → Same m h → ((k o : Op) → IsMarkOf k o → h k ≡ false) → (is js : List Instr) → Beside m is js → list_any (λ i. h i.op) is ≡ list_any (λ i. h i.op) js
any_same h m s n _ _ ends = refl
any_same h m s n _ _ (bare i j is js a b) = λ t. s i.op j.op a t || any_same h m s n is js b t
any_same h m s n _ _ (marked i k j is js e a b) =
    (λ t. s i.op j.op a t || any_same h m s n is js b t) ∙ (λ t. sym (n k.op i.op e) t || (h j.op || list_any (λ i. h i.op) js))

-- what is so of each instruction

pub each_program : (P Q : Instr → Type 0) (m : Module) → ((i j : Instr) → Alike m i.op j.op → Q j → P i) → (is js : List Instr) → Beside m is js → Each Q js → Each P is
each_program P Q m s _ _ ends h = tt
each_program P Q m s _ _ (bare i j is js a b) h = (s i j a h.0, each_program P Q m s is js b h.1)
each_program P Q m s _ _ (marked i k j is js e a b) h = (s i j a h.1.0, each_program P Q m s is js b h.1.1)

pub each_image : (P Q : Instr → Type 0) (m : Module) → ((i j : Instr) → Alike m i.op j.op → P i → Q j) → ((i k : Instr) → IsMarkOf k.op i.op → P i → Q k) → (is js : List Instr) → Beside m is js → Each P is → Each Q js
each_image P Q m s n _ _ ends h = tt
each_image P Q m s n _ _ (bare i j is js a b) h = (s i j a h.0, each_image P Q m s n is js b h.1)
each_image P Q m s n _ _ (marked i k j is js e a b) h = (n i k e h.0, (s i j a h.0, each_image P Q m s n is js b h.1))

-- only the last instruction ends a block

once_step : (m : Module) (i j : Instr) (is js : List Instr) → Alike m i.op j.op → Beside m is js → ends_once is ≡ ends_once js → ends_once (i ∷ is) ≡ ends_once (j ∷ js)
once_step m i j _ _ a ends h = refl
once_step m i j _ _ a (bare i2 j2 is js a2 b) h = λ t. not (same_ends m i.op j.op a t) && h t
once_step m i j _ _ a (marked i2 k2 j2 is js e2 a2 b) h = λ t. not (same_ends m i.op j.op a t) && h t

pub once_same : (m : Module) (is js : List Instr) → Beside m is js → ends_once is ≡ ends_once js
once_same m _ _ ends = refl
once_same m _ _ (bare i j is js a b) = once_step m i j is js a b (once_same m is js b)
once_same m _ _ (marked i k j is js e a b) =
    once_step m i j is js a b (once_same m is js b) ∙ (λ t. not (sym (mark_facts k.op i.op e).ends t) && ends_once (j ∷ js))

-- the last instruction

abbrev pub end_of : List Instr → Option Instr
end_of [] = None
end_of (i ∷ []) = Some i
end_of (i ∷ j ∷ is) = end_of (j ∷ is)

pub end_is : (is : List Instr) → last_of is ≡ end_of is
end_is [] = refl
end_is (i ∷ []) = refl
end_is (i ∷ j ∷ is) =
    let one : suc (suc (length is)) - 1 ≡ suc (length is) = omega arith in
    let two : suc (length is) - 1 ≡ length is = omega arith in
    ap (slice_get (i ∷ j ∷ is)) one ∙ ap (slice_get (j ∷ is)) (sym two) ∙ end_is (j ∷ is)

abbrev BothEnd : Module → Option Instr → Option Instr → Type 0
BothEnd m None None = ⊤
BothEnd m (Some i) (Some j) = Alike m i.op j.op
BothEnd m _ _ = ⊥

end_step : (m : Module) (i j : Instr) (is js : List Instr) → Alike m i.op j.op → Beside m is js → BothEnd m (end_of is) (end_of js) → BothEnd m (end_of (i ∷ is)) (end_of (j ∷ js))
end_step m i j _ _ a ends h = a
end_step m i j _ _ a (bare i2 j2 is js a2 b) h = h
end_step m i j _ _ a (marked i2 k2 j2 is js e2 a2 b) h = h

both_end : (m : Module) (is js : List Instr) → Beside m is js → BothEnd m (end_of is) (end_of js)
both_end m _ _ ends = tt
both_end m _ _ (bare i j is js a b) = end_step m i j is js a b (both_end m is js b)
both_end m _ _ (marked i k j is js e a b) = end_step m i j is js a b (both_end m is js b)

end_by : (m : Module) (i j : Option Instr) → BothEnd m i j → is_end i ≡ is_end j
end_by m None None h = refl
end_by m (Some i) (Some j) h = same_ends m i.op j.op h
end_by m None (Some j) h = absurd h
end_by m (Some i) None h = absurd h

exits_same_by : (m : Module) (i j : Option Instr) → BothEnd m i j → exits_by i ≡ exits_by j
exits_same_by m None None h = refl
exits_same_by m (Some i) (Some j) h = same_targets m i.op j.op h
exits_same_by m None (Some j) h = absurd h
exits_same_by m (Some i) None h = absurd h

-- it ends the block in both, or in neither
pub end_same : (m : Module) (is js : List Instr) → Beside m is js → is_end (last_of is) ≡ is_end (last_of js)
end_same m is js b = ap is_end (end_is is) ∙ end_by m (end_of is) (end_of js) (both_end m is js b) ∙ ap is_end (sym (end_is js))

-- and control goes on to the same blocks
pub exits_same : (m : Module) (is js : List Instr) → Beside m is js → exits_by (last_of is) ≡ exits_by (last_of js)
exits_same m is js b = ap exits_by (end_is is) ∙ exits_same_by m (end_of is) (end_of js) (both_end m is js b) ∙ ap exits_by (sym (end_is js))
