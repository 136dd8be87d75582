-- Histories, their beginnings, and the entries of one number.
use Rattle.std.proofs.Common.{◌≡◌, ◌≢◌, ◌⊎◌, inl, inr, ⊎_elim, ℕ, List, [], ◌∷◌, ◌++◌, eqb, eq-eqb, ne_eqb, Bool, true, false, sym, refl, ap, ◌∙◌, subst, append_assoc, append-nil}
use Rattle.std.specs.Prelude.{if◌then◌else◌, Option, Some, None}
use Rattle.lx_caplock.specs.declared.knowledge.Entry.{Entry}
use Rattle.lx_model.specs.declared.program.Program.{Program}
use Rattle.lx_model.specs.declared.request.Request.{Request}
use Rattle.lx_model.specs.State.{State}
use Rattle.lx_caplock.specs.History.{entries_of, Begins, In}
use Rattle.lx_caplock.specs.Serving.{IsServed, served_by, state_after, IsLegal, LegalFrom, Leaves, MayAsk}

chosen : (n : ℕ) (e : Entry) (xs ys : List Entry) (b : Bool) → (if b then e ∷ (xs ++ ys) else xs ++ ys) ≡ (if b then e ∷ xs else xs) ++ ys
chosen n e xs ys true = refl
chosen n e xs ys false = refl

pub entries_of-append : (n : ℕ) (xs ys : List Entry) → entries_of n (xs ++ ys) ≡ entries_of n xs ++ entries_of n ys
entries_of-append n [] ys = refl
entries_of-append n (x ∷ xs) ys = ap (λ zs. if eqb n x.seat then x ∷ zs else zs) (entries_of-append n xs ys) ∙ chosen n x (entries_of n xs) (entries_of n ys) (eqb n x.seat)

pub entries_of-own : (n : ℕ) (e : Entry) → n ≡ e.seat → entries_of n (e ∷ []) ≡ e ∷ []
entries_of-own n e is = ap (λ b. if b then e ∷ [] else []) (eq-eqb n e.seat is)

pub entries_of-other : (n : ℕ) (e : Entry) → n ≢ e.seat → entries_of n (e ∷ []) ≡ []
entries_of-other n e not = ap (λ b. if b then e ∷ [] else []) (ne_eqb n e.seat not)

pub begins_refl : (xs : List Entry) → Begins xs xs
begins_refl xs = ([], sym (append-nil xs))

pub begins_more : (xs ys zs : List Entry) → Begins xs ys → Begins xs (ys ++ zs)
begins_more xs ys zs b = (b.0 ++ zs, ap (λ l. l ++ zs) b.1 ∙ append_assoc xs b.0 zs)

pub state_after-append : (p : Program) (s : State) (xs : List Entry) (e : Entry) → state_after p s (xs ++ e ∷ []) ≡ (served_by p (state_after p s xs) e).state
state_after-append p s [] e = refl
state_after-append p s (x ∷ xs) e = state_after-append p (served_by p s x).state xs e

pub legal_append : (p : Program) (s : State) (xs : List Entry) (e : Entry) → IsLegal p s xs → e.reply ≡ (served_by p (state_after p s xs) e).reply → IsLegal p s (xs ++ e ∷ [])
legal_append p s [] e l is = (is, tt)
legal_append p s (x ∷ xs) e l is = (l.0, legal_append p (served_by p s x).state xs e l.1 is)

pub quiet_entries : (k : ℕ) (history es : List Entry) → entries_of k es ≡ [] → entries_of k (history ++ es) ≡ entries_of k history
quiet_entries k history es none = entries_of-append k history es ∙ (ap (λ l. entries_of k history ++ l) none ∙ append-nil (entries_of k history))

none_before : (xs ys : List Entry) → xs ++ ys ≡ [] → xs ≡ []
none_before [] ys e = refl
none_before (x ∷ xs) ys e = absurd cc

-- a number with no entry has none in a beginning
pub entries_of-none : (k : ℕ) (xs history : List Entry) → Begins xs history → entries_of k history ≡ [] → entries_of k xs ≡ []
entries_of-none k xs history b none = none_before (entries_of k xs) (entries_of k b.0) (sym (entries_of-append k xs b.0) ∙ (sym (ap (entries_of k) b.1) ∙ none))

pub in_either : (k : ℕ) (xs ys : List ℕ) → In k (xs ++ ys) → In k xs ⊎ In k ys
in_either k [] ys h = inr h
in_either k (x ∷ xs) ys h = ⊎_elim (λ t. inl (inl t)) (λ t. ⊎_elim (λ u. inl (inr u)) (λ u. inr u) (in_either k xs ys t)) h

pub in_left : (k : ℕ) (xs ys : List ℕ) → In k xs → In k (xs ++ ys)
in_left k [] ys h = absurd h
in_left k (x ∷ xs) ys h = ⊎_elim (λ t. inl t) (λ t. inr (in_left k xs ys t)) h

pub in_right : (k : ℕ) (xs ys : List ℕ) → In k ys → In k (xs ++ ys)
in_right k [] ys h = h
in_right k (x ∷ xs) ys h = inr (in_right k xs ys h)

module _ {T : Type 0} (program : T → Program) (stands : T → State → Type 0) where
  -- the part has served an entry in each state that it stood for
  abbrev pub HasServed : T → T → Entry → Type 0
  HasServed x y e = (s : State) → stands x s → IsServed stands y e.reply (served_by (program x) s e)

  turned : (p q : Program) (s : State) (y : T) (e : Entry) → p ≡ q → IsServed stands y e.reply (served_by p s e) → IsServed stands y e.reply (served_by q s e)
  turned p q s y e is h = subst (λ (r : Program). IsServed stands y e.reply (served_by r s e)) is h

  pub leaves_one : (q : Option T) (x y : T) (history : List Entry) (e : Entry) → program y ≡ program x → HasServed x y e → Leaves program stands q x history → Leaves program stands q y (history ++ e ∷ [])
  leaves_one None x y history e same go l = tt
  leaves_one (Some o) x y history e same go l =
      (same ∙ l.0, λ s h. subst (stands y) (sym (state_after-append (program o) s history e)) (turned (program x) (program o) (state_after (program o) s history) y e l.0 (go (state_after (program o) s history) (l.1 s h))).state)

  pub leaves_none : (q : Option T) (x y : T) (history : List Entry) → program y ≡ program x → ((s : State) → stands x s → stands y s) → Leaves program stands q x history → Leaves program stands q y history
  leaves_none None x y history same go l = tt
  leaves_none (Some o) x y history same go l = (same ∙ l.0, λ s h. go (state_after (program o) s history) (l.1 s h))

  pub legal_one : (q : Option T) (x y : T) (history : List Entry) (e : Entry) → HasServed x y e → Leaves program stands q x history → LegalFrom program stands q history → LegalFrom program stands q (history ++ e ∷ [])
  legal_one None x y history e go l k = tt
  legal_one (Some o) x y history e go l k =
      λ s h. legal_append (program o) s history e (k s h) (turned (program x) (program o) (state_after (program o) s history) y e l.0 (go (state_after (program o) s history) (l.1 s h))).reply

  -- what may be asked of the first part may be asked of what is left of it
  pub takes_left : (takes : Program → ℕ → Request → Type 0) (q : Option T) (x : T) (history : List Entry) (t : ℕ) (r : Request) → MayAsk program takes q t r → Leaves program stands q x history → takes (program x) t r
  takes_left takes None x history t r may l = absurd may
  takes_left takes (Some o) x history t r may l = subst (λ (p : Program). takes p t r) (sym l.0) may
