-- The capabilities of items, from one item to the next.
use Rattle.std.proofs.Common.{◌≡◌, refl, sym, ap, ℕ, suc, ◌+◌, ◌<◌, List, [], ◌++◌, length, drop, get_or, Ok, Err, append_assoc}
use Rattle.std.proofs.Math.Seq.{drop-cons}
use Rattle.lx_caps.specs.declared.Cap.{Cap}
use Rattle.lx_caps.proofs.Tests.{one_more}
use Rattle.lx_annot.specs.declared.expr.Env.{Env}
use Rattle.lx_annot.specs.declared.interface.Item.{Item}
use Rattle.lx_annot.specs.Value.{Found, Look, and_then}
use Rattle.lx_annot.specs.Items.{item_cap, item_caps}

abbrev pub behind : List Cap → Found (List Cap) → Found (List Cap)
behind caps f = and_then f (λ more. Ok (caps ++ more))

joined : (f : Found (List Cap)) (caps c : List Cap) → behind caps (behind c f) ≡ behind (caps ++ c) f
joined (Ok more) caps c = ap Ok (sym (append_assoc caps c more))
joined (Err at) caps c = refl

pub behind-nothing : (f : Found (List Cap)) → behind [] f ≡ f
behind-nothing (Ok more) = refl
behind-nothing (Err at) = refl

pub next-item : (look : Look) (env : Env) (items : List Item) (i : ℕ) (d : Item) (caps c : List Cap) → i < length items → item_cap look env (get_or items i d) ≡ Ok c → behind (caps ++ c) (item_caps look env (drop (i + 1) items)) ≡ behind caps (item_caps look env (drop i items))
next-item look env items i d caps c within is = rw (drop-cons items i d within, is, one_more i) (sym (joined (item_caps look env (drop (suc i) items)) caps c))

pub failed-item : (look : Look) (env : Env) (items : List Item) (i : ℕ) (d : Item) (caps : List Cap) (at : ℕ) → i < length items → item_cap look env (get_or items i d) ≡ Err at → behind caps (item_caps look env (drop i items)) ≡ Err at
failed-item look env items i d caps at within is = rw (drop-cons items i d within, is) refl
