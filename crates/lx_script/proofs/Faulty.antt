-- Where a text has its first fault.
use Rattle.std.proofs.Common.{◌≡◌, ℕ, List, [], ◌∷◌, ◌++◌, None, Result, Ok, Err, ◌⊎◌, inl, inr, refl, sym, ap, ◌∙◌, subst, arith, append_assoc}
use Rattle.std.specs.Prelude.{codes}
use Rattle.std.proofs.lemmas.List.{append-nil}
use Rattle.lx_script.specs.declared.case.Origin.{Origin}
use Rattle.lx_script.specs.declared.case.Origin.TheVariants as origins
use Rattle.lx_script.specs.declared.fault.Fault.{Fault}
use Rattle.lx_script.specs.declared.fault.CaseFault.{CaseFault}
use Rattle.lx_script.specs.Case.{Case}
use Rattle.lx_script.specs.Lines.{Statement, statements_of}
use Rattle.lx_script.specs.Reading.{◌>>=◌, left, version_at, origin_at, statement_at, body_at, next_at, case_at, Draft}
use Rattle.lx_script.specs.Grammar.{Has, origin_words, StandAll, IsCase, BeginsCase, HasWrongStatement, HasTooFew, FirstCaseFault}
use Rattle.lx_script.proofs.Counts.{bind_ok, same_ok}
use Rattle.lx_script.proofs.Law.{version_is, origin_is, stands}
use Rattle.lx_script.proofs.Again.{is_read, body_read, ok_or_err}

-- what was met, here or where reading goes on
bind_err : {A B : Type 0} (r : Result A Fault) (g : A → Result B Fault) (f : Fault) → (r >>= g) ≡ Err f → (r ≡ Err f) ⊎ ((x : A) × (r ≡ Ok x) × (g x ≡ Err f))
bind_err (Ok x) g f e = inr (x, refl, e)
bind_err (Err d) g f e = inl (cc (e))

abbrev nothing_said : Draft
nothing_said = record { modules = []; threads = [] }

abbrev kernel_words : Origin → List (List ℕ)
kernel_words o = codes "kernel" ∷ origin_words o

abbrev interface_words : Origin → List (List ℕ)
interface_words o = codes "interface" ∷ origin_words o

-- statements that stand
abbrev version_line : Statement
version_line = left 1 None (codes "lxfi" ∷ codes "case" ∷ codes "1" ∷ [])

abbrev kernel_line : Statement
kernel_line = left 1 None (kernel_words origins.None)

abbrev interface_line : Statement
interface_line = left 1 None (interface_words origins.None)

abbrev made : Origin → Origin → Draft → Case
made kernel interface d = record { kernel = kernel; interface = interface; modules = d.modules; threads = d.threads }

is_case : (v k i : Statement) (body : List Statement) (o p : Origin) (d : Draft) → Has v (codes "lxfi" ∷ codes "case" ∷ codes "1" ∷ []) → Has k (kernel_words o) → Has i (interface_words p) → StandAll nothing_said body d → IsCase (v ∷ k ∷ i ∷ body) (made o p d)
is_case v k i body o p d a b c h = record { version = v; kernel = k; interface = i; body = body; whole = refl; version_has = a; kernel_has = b; interface_has = c; body_stands = h }

begins_none : BeginsCase []
begins_none = (version_line ∷ kernel_line ∷ interface_line ∷ [], made origins.None origins.None nothing_said, is_case version_line kernel_line interface_line [] origins.None origins.None nothing_said (refl, refl) (refl, refl) (refl, refl) refl)

begins_version : (v : Statement) → Has v (codes "lxfi" ∷ codes "case" ∷ codes "1" ∷ []) → BeginsCase (v ∷ [])
begins_version v a = (kernel_line ∷ interface_line ∷ [], made origins.None origins.None nothing_said, is_case v kernel_line interface_line [] origins.None origins.None nothing_said a (refl, refl) (refl, refl) refl)

begins_kernel : (v k : Statement) (o : Origin) → Has v (codes "lxfi" ∷ codes "case" ∷ codes "1" ∷ []) → Has k (kernel_words o) → BeginsCase (v ∷ k ∷ [])
begins_kernel v k o a b = (interface_line ∷ [], made o origins.None nothing_said, is_case v k interface_line [] o origins.None nothing_said a b (refl, refl) refl)

begins_body : (v k i : Statement) (body : List Statement) (o p : Origin) (d : Draft) → Has v (codes "lxfi" ∷ codes "case" ∷ codes "1" ∷ []) → Has k (kernel_words o) → Has i (interface_words p) → StandAll nothing_said body d → BeginsCase (v ∷ k ∷ i ∷ body)
begins_body v k i body o p d a b c h = ([], made o p d, subst (λ ss. IsCase ss (made o p d)) (sym (append-nil (v ∷ k ∷ i ∷ body))) (is_case v k i body o p d a b c h))

-- no case begins with statements that are at fault, whatever follows
never_begins : (ss : List Statement) (f : Fault) → ((more : List Statement) → case_at (ss ++ more) ≡ Err f) → BeginsCase ss → ⊥
never_begins ss f h b = ok_or_err b.1 f (case_at (ss ++ b.0)) (is_read (ss ++ b.0) b.1 b.2) (h b.0)

-- a fault stays, whatever follows
version_fails : (v : Statement) (f : Fault) → version_at v ≡ Err f → (more : List Statement) → case_at (v ∷ more) ≡ Err f
unfolding case_at next_at
version_fails v f a more = rw a refl

kernel_fails : (v k : Statement) (u : Unit {0}) (f : Fault) → version_at v ≡ Ok u → origin_at (codes "kernel") k ≡ Err f → (more : List Statement) → case_at (v ∷ k ∷ more) ≡ Err f
unfolding case_at next_at
kernel_fails v k u f a b more = rw (a, b) refl

interface_fails : (v k i : Statement) (u : Unit {0}) (o : Origin) (f : Fault) → version_at v ≡ Ok u → origin_at (codes "kernel") k ≡ Ok o → origin_at (codes "interface") i ≡ Err f → (more : List Statement) → case_at (v ∷ k ∷ i ∷ more) ≡ Err f
unfolding case_at next_at
interface_fails v k i u o f a b c more = rw (a, b, c) refl

body_fails : (v k i : Statement) (body : List Statement) (u : Unit {0}) (o p : Origin) (f : Fault) → version_at v ≡ Ok u → origin_at (codes "kernel") k ≡ Ok o → origin_at (codes "interface") i ≡ Ok p → body_at nothing_said body ≡ Err f → case_at (v ∷ k ∷ i ∷ body) ≡ Err f
unfolding case_at next_at
body_fails v k i body u o p f a b c d = rw (a, b, c, d) refl

-- the first statement behind the first three that is refused
record Refused (d : Draft) (ss : List Statement) (f : Fault) : Type 0 where
  before : List Statement
  wrong : Statement
  behind : List Statement
  so_far : Draft
  whole : ss ≡ before ++ wrong ∷ behind
  stand : StandAll d before so_far
  refuses : statement_at so_far wrong ≡ Err f

refused_by : (d : Draft) (s : Statement) (ss : List Statement) (f : Fault) → (statement_at d s ≡ Err f) ⊎ ((e : Draft) × (statement_at d s ≡ Ok e) × (body_at e ss ≡ Err f)) → ((e : Draft) → body_at e ss ≡ Err f → Refused e ss f) → Refused d (s ∷ ss) f
refused_by d s ss f (inl x) rest = record { before = []; wrong = s; behind = ss; so_far = d; whole = refl; stand = refl; refuses = x }
refused_by d s ss f (inr x) rest =
    let r = rest x.0 x.2 in
    record { before = s ∷ r.before; wrong = r.wrong; behind = r.behind; so_far = r.so_far; whole = ap (λ t. s ∷ t) r.whole; stand = (x.0, stands d s x.0 x.1, r.stand); refuses = r.refuses }

refused : (d : Draft) (ss : List Statement) (f : Fault) → body_at d ss ≡ Err f → Refused d ss f
unfolding body_at
refused d [] f e = cc
refused d (s ∷ ss) f e = refused_by d s ss f (bind_err (statement_at d s) _ f e) (λ n h. refused n ss f h)

body_at_fault : (d : Draft) (before : List Statement) (s : Statement) (e : Draft) (f : Fault) (more : List Statement) → body_at d before ≡ Ok e → statement_at e s ≡ Err f → body_at d (before ++ s ∷ more) ≡ Err f
unfolding body_at
body_at_fault d [] s e f more h x = let same : d ≡ e = same_ok d e _ refl h in ap (λ n. statement_at n s >>= λ m. body_at m more) same ∙ ap (λ r. r >>= λ m. body_at m more) x
body_at_fault d (t ∷ before) s e f more h x =
    let n = bind_ok (statement_at d t) _ e h in
    ap (λ r. r >>= λ m. body_at m (before ++ s ∷ more)) n.1 ∙ body_at_fault n.0 before s e f more n.2 x

wrong_statement : (v k i : Statement) (body : List Statement) (u : Unit {0}) (o p : Origin) (f : Fault) → version_at v ≡ Ok u → origin_at (codes "kernel") k ≡ Ok o → origin_at (codes "interface") i ≡ Ok p → Refused nothing_said body f → HasWrongStatement (v ∷ k ∷ i ∷ body)
wrong_statement v k i body u o p f a b c r = record {
  before = v ∷ k ∷ i ∷ r.before;
  wrong = r.wrong;
  behind = r.behind;
  whole = ap (λ t. v ∷ k ∷ i ∷ t) r.whole;
  begins = begins_body v k i r.before o p r.so_far (version_is v u a) (origin_is (codes "kernel") k o b) (origin_is (codes "interface") i p c) r.stand;
  never = never_begins (v ∷ k ∷ i ∷ (r.before ++ r.wrong ∷ [])) f (λ more. ap (λ t. case_at (v ∷ k ∷ i ∷ t)) (append_assoc r.before (r.wrong ∷ []) more) ∙ body_fails v k i (r.before ++ r.wrong ∷ more) u o p f a b c (body_at_fault nothing_said r.before r.wrong r.so_far f more (body_read nothing_said r.before r.so_far r.stand) r.refuses));
}

abbrev Placed : List Statement → Type 0
Placed ss = HasTooFew ss ⊎ HasWrongStatement ss

at_version : (v : Statement) (rest : List Statement) (f : Fault) → version_at v ≡ Err f → Placed (v ∷ rest)
at_version v rest f a = inr (record { before = []; wrong = v; behind = rest; whole = refl; begins = begins_none; never = never_begins (v ∷ []) f (version_fails v f a) })

at_kernel : (v k : Statement) (rest : List Statement) (u : Unit {0}) (f : Fault) → version_at v ≡ Ok u → origin_at (codes "kernel") k ≡ Err f → Placed (v ∷ k ∷ rest)
at_kernel v k rest u f a b = inr (record { before = v ∷ []; wrong = k; behind = rest; whole = refl; begins = begins_version v (version_is v u a); never = never_begins (v ∷ k ∷ []) f (kernel_fails v k u f a b) })

at_interface : (v k i : Statement) (rest : List Statement) (u : Unit {0}) (o : Origin) (f : Fault) → version_at v ≡ Ok u → origin_at (codes "kernel") k ≡ Ok o → origin_at (codes "interface") i ≡ Err f → Placed (v ∷ k ∷ i ∷ rest)
at_interface v k i rest u o f a b c = inr (record { before = v ∷ k ∷ []; wrong = i; behind = rest; whole = refl; begins = begins_kernel v k o (version_is v u a) (origin_is (codes "kernel") k o b); never = never_begins (v ∷ k ∷ i ∷ []) f (interface_fails v k i u o f a b c) })

-- what is read behind each of the first three statements
abbrev behind_third : Origin → Origin → List Statement → Result Case Fault
behind_third o p body = body_at nothing_said body >>= λ d. Ok (made o p d)

abbrev behind_second : Origin → ℕ → List Statement → Result Case Fault
behind_second o row rest = next_at row rest >>= λ third. origin_at (codes "interface") third.0 >>= λ p. behind_third o p third.1

abbrev behind_first : ℕ → List Statement → Result Case Fault
behind_first row rest = next_at row rest >>= λ second. origin_at (codes "kernel") second.0 >>= λ o. behind_second o second.0.row second.1

-- met here, or behind what was read
abbrev Here : {A : Type 0} → Result A Fault → (A → Result Case Fault) → Fault → Type 0
Here {A} r g f = (r ≡ Err f) ⊎ ((x : A) × (r ≡ Ok x) × (g x ≡ Err f))

after_body : (v k i : Statement) (body : List Statement) (u : Unit {0}) (o p : Origin) (f : Fault) → version_at v ≡ Ok u → origin_at (codes "kernel") k ≡ Ok o → origin_at (codes "interface") i ≡ Ok p → Here (body_at nothing_said body) (λ d. Ok (made o p d)) f → Placed (v ∷ k ∷ i ∷ body)
after_body v k i body u o p f a b c (inl x) = inr (wrong_statement v k i body u o p f a b c (refused nothing_said body f x))
after_body v k i body u o p f a b c (inr x) = cc (x.2)

after_interface : (v k i : Statement) (body : List Statement) (u : Unit {0}) (o : Origin) (f : Fault) → version_at v ≡ Ok u → origin_at (codes "kernel") k ≡ Ok o → Here (origin_at (codes "interface") i) (λ p. behind_third o p body) f → Placed (v ∷ k ∷ i ∷ body)
after_interface v k i body u o f a b (inl x) = at_interface v k i body u o f a b x
after_interface v k i body u o f a b (inr x) = after_body v k i body u o x.0 f a b x.1 (bind_err (body_at nothing_said body) _ f x.2)

after_kernel : (v k : Statement) (rest : List Statement) (u : Unit {0}) (f : Fault) → version_at v ≡ Ok u → Here (origin_at (codes "kernel") k) (λ o. behind_second o k.row rest) f → Placed (v ∷ k ∷ rest)
unfolding next_at
after_kernel v k rest u f a (inl x) = at_kernel v k rest u f a x
after_kernel v k [] u f a (inr x) = inl (record { few = omega arith; begins = begins_kernel v k x.0 (version_is v u a) (origin_is (codes "kernel") k x.0 x.1) })
after_kernel v k (i ∷ body) u f a (inr x) = after_interface v k i body u x.0 f a x.1 (bind_err (origin_at (codes "interface") i) _ f x.2)

after_version : (v : Statement) (rest : List Statement) (f : Fault) → Here (version_at v) (λ u. behind_first v.row rest) f → Placed (v ∷ rest)
unfolding next_at
after_version v rest f (inl x) = at_version v rest f x
after_version v [] f (inr x) = inl (record { few = omega arith; begins = begins_version v (version_is v x.0 x.1) })
after_version v (k ∷ rest) f (inr x) = after_kernel v k rest x.0 f x.1 (bind_err (origin_at (codes "kernel") k) _ f x.2)

placed : (ss : List Statement) (f : Fault) → case_at ss ≡ Err f → Placed ss
unfolding case_at next_at
placed [] f e = inl (record { few = omega arith; begins = begins_none })
placed (v ∷ rest) f e = after_version v rest f (bind_err (version_at v) (λ u. behind_first v.row rest) f e)

pub has_place : (text : List ℕ) (fault : CaseFault) → FirstCaseFault text fault → HasTooFew (statements_of text) ⊎ HasWrongStatement (statements_of text)
has_place text fault h = placed (statements_of text) h.0 h.1
