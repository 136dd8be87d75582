-- Where a schedule is broken, entry by entry of it.
use Rattle.std.proofs.Common.{◌≡◌, ◌∙◌, sym, ap, refl, ℕ, ◌+◌, ◌<◌, ◌≤◌, true, false, List, length, drop, take, get_or, Option, Some, None, option_map, arith}
use Rattle.std.proofs.lemmas.List.{drop_all, drop_more, take_more}
use Rattle.lx_model.specs.declared.program.Program.{Program}
use Rattle.lx_model.specs.declared.program.ScriptCall.{ScriptCall}
use Rattle.lx_model.specs.World.{World, can_act, event, is_done, opening}
use Rattle.lx_model.proofs.Turns.{run_more}
use Rattle.lx_why.specs.Why.{behind}
use Rattle.lx_runs.specs.Reports.{broken_at}
use Rattle.lx_runs.proofs.Wholes.{entry_if, end_if}
use Rattle.lx_runs.proofs.Replays.{at_end, done_end, here, more}

-- it is broken where those of its entries are that are left behind the first ones, which are done
abbrev pub IsBrokenBehind : Program → List (List ScriptCall) → List ℕ → ℕ → Type 0
IsBrokenBehind p script s n = broken_at p s (opening p script) ≡ option_map (λ k. n + k) (broken_at p (drop n s) (behind p script (take n s)))

-- none is done
pub none_done : (p : Program) (script : List (List ScriptCall)) (s : List ℕ) → IsBrokenBehind p script s 0
none_done p script s = none_added (broken_at p s (opening p script)) where
  none_added : (o : Option ℕ) → o ≡ option_map (λ k. 0 + k) o
  none_added None = refl
  none_added (Some k) = ap Some (omega arith)

-- at the entry that comes, or behind it
at_next : (p : Program) (script : List (List ScriptCall)) (s : List ℕ) (n : ℕ) → n < length s → IsBrokenBehind p script s n
    → broken_at p s (opening p script) ≡ option_map (λ k. n + k) (entry_if (can_act (behind p script (take n s)) (get_or s n 0)) (broken_at p (drop (n + 1) s) (event p (get_or s n 0) (behind p script (take n s)))))
at_next p script s n below broken =
    broken ∙ ap (λ (ts : List ℕ). option_map (λ k. n + k) (broken_at p ts (behind p script (take n s)))) (drop_more s n 0 below)

-- the world behind the entry that comes
behind_more : (p : Program) (script : List (List ScriptCall)) (s : List ℕ) (n : ℕ) → n < length s → behind p script (take (n + 1) s) ≡ event p (get_or s n 0) (behind p script (take n s))
behind_more p script s n below = ap (behind p script) (take_more s n 0 below) ∙ run_more p (take n s) (get_or s n 0) (opening p script)

-- one more is done
pub one_done : (p : Program) (script : List (List ScriptCall)) (s : List ℕ) (n : ℕ) → n < length s → IsBrokenBehind p script s n → can_act (behind p script (take n s)) (get_or s n 0) ≡ true → IsBrokenBehind p script s (n + 1)
one_done p script s n below broken works =
    let t = get_or s n 0 in
    let left = drop (n + 1) s in
    at_next p script s n below broken
    ∙ more (can_act (behind p script (take n s)) t) n (broken_at p left (event p t (behind p script (take n s)))) works
    ∙ sym (ap (λ (w : World). option_map (λ k. n + 1 + k) (broken_at p left w)) (behind_more p script s n below))

-- one whose thread has no work breaks it
pub broken_here : (p : Program) (script : List (List ScriptCall)) (s : List ℕ) (n : ℕ) → n < length s → IsBrokenBehind p script s n → can_act (behind p script (take n s)) (get_or s n 0) ≡ false
    → broken_at p s (opening p script) ≡ Some n
broken_here p script s n below broken idle =
    let t = get_or s n 0 in
    at_next p script s n below broken ∙ here (can_act (behind p script (take n s)) t) n (broken_at p (drop (n + 1) s) (event p t (behind p script (take n s)))) idle

-- behind the last entry

at_last : (p : Program) (script : List (List ScriptCall)) (s : List ℕ) (n : ℕ) → length s ≤ n → IsBrokenBehind p script s n
    → broken_at p s (opening p script) ≡ option_map (λ k. n + k) (end_if (is_done (behind p script (take n s))))
at_last p script s n past broken = broken ∙ ap (λ (ts : List ℕ). option_map (λ k. n + k) (broken_at p ts (behind p script (take n s)))) (drop_all n s past)

pub work_left : (p : Program) (script : List (List ScriptCall)) (s : List ℕ) (n : ℕ) → length s ≤ n → IsBrokenBehind p script s n → is_done (behind p script (take n s)) ≡ false → broken_at p s (opening p script) ≡ Some n
work_left p script s n past broken work = at_last p script s n past broken ∙ at_end (is_done (behind p script (take n s))) n work

pub none_left : (p : Program) (script : List (List ScriptCall)) (s : List ℕ) (n : ℕ) → length s ≤ n → IsBrokenBehind p script s n → is_done (behind p script (take n s)) ≡ true → broken_at p s (opening p script) ≡ None
none_left p script s n past broken done = at_last p script s n past broken ∙ done_end (is_done (behind p script (take n s))) n done
