-- What an index finds is what the history says.
use Rattle.std.proofs.Common.{◌≡◌, ◌∙◌, refl, sym, ap, ℕ, ◌+◌, ◌-◌, ◌/◌, ◌%◌, ◌≤◌, Bool, true, false, ◌&&◌, nat_le, nat_lt, cond, Some, None, List, arith}
use Rattle.std.proofs.lemmas.Bool.Decides.{nat_tests}
use Rattle.lx_caps.specs.declared.Principal.{Principal}
use Rattle.lx_caps.specs.declared.Atom.{Atom}
use Rattle.lx_caps.specs.declared.Atom.TheVariants as atom
use Rattle.lx_caps.specs.Loans.{none_end}
use Rattle.lx_caps.specs.History.{History, reaches}
use Rattle.lx_certificates.specs.declared.givers.Gifts.{Gifts}
use Rattle.lx_certificates.specs.Givers.{giver}
use Rattle.lx_cap_nodes.specs.Pieces.{part_list}
use Rattle.lx_act_index.specs.declared.table.Table.{Table}
use Rattle.lx_act_index.specs.declared.threads.Thread.{Thread}
use Rattle.lx_act_index.specs.Lines.{line_giver}
use Rattle.lx_act_index.specs.Threads.{is_open}
use Rattle.lx_act_index.specs.Table.{shown}
use Rattle.lx_act_index.specs.Index.{Shows}
use Rattle.lx_act_index.specs.Standing.{IsFar}

nowhere : (p : ℕ) → 0x100000 ≤ p → part_list p ≡ None
nowhere p far =
    let a : (nat_le 0x40000 p && nat_lt p 0x44000) ≡ false = grind (arith, nat_tests, far) in
    let b : (nat_le 0x80000 p && nat_lt p 0x84000) ≡ false = grind (arith, nat_tests, far) in
    let c : (nat_le 0xc0000 p && nat_lt p 0xc4000) ≡ false = grind (arith, nat_tests, far) in
    by (nat_le 0x40000 p && nat_lt p 0x44000) (nat_le 0x80000 p && nat_lt p 0x84000) (nat_le 0xc0000 p && nat_lt p 0xc4000) a b c
  where
    by : (x y z : Bool) → x ≡ false → y ≡ false → z ≡ false → cond x (Some (p - 0x40000)) (cond y (Some (p - 0x80000 + 0x4000)) (cond z (Some (p - 0xc0000 + 0x8000)) None)) ≡ None
    by true y z ex ey ez = absurd cc
    by false true z ex ey ez = absurd cc
    by false false true ex ey ez = absurd cc
    by false false false ex ey ez = refl

-- nobody gives what lies outside of the address space
pub far_none : (h : History) (t : Table) (threads : List Thread) (gifts : Gifts) (who : Principal) (x : Atom) → Shows t threads h → IsFar x → giver gifts h who x ≡ None
far_none h t threads gifts who (atom.Byte b) shows far =
    sym ((shows.lines (atom.Byte b)).giver gifts (reaches who) none_end)
    ∙ ap (λ o. line_giver gifts (reaches who) (is_open none_end threads) (b % 64) (shown t.lines.items o)) (nowhere (b / 64) (omega (arith, far)))
far_none h t threads gifts who (atom.Call a) shows far = absurd far
far_none h t threads gifts who (atom.Ref u a) shows far = absurd far
