-- Worked rows: images, changed in one place, and the first fault of each.
use Rattle.std.specs.Prelude.{◌≡◌, ℕ, true, Option, Some, None, List, [], ◌∷◌, ◌++◌, codes}
use Rattle.std.specs.List.{list_all}
use Rattle.lx_ir.specs.declared.types.Scalar.TheVariants.{Ptr}
use Rattle.lx_ir.specs.declared.module.Symbol.TheVariants as symbol
use Rattle.lx_ir.specs.declared.module.Function.{Function}
use Rattle.lx_ir.specs.declared.module.Module.{Module}
use Rattle.lx_ir.specs.declared.instr.Op.TheVariants as op
use Rattle.lx_ir.specs.Lawful.{IsLawful, numbers_registers}
use Rattle.lx_ir.specs.Faults.{FirstFault}
use Rattle.lx_generated_laws.specs.RowTexts.{i64, reg, n64, block, no_interface}
use Rattle.lx_image_texts.specs.ImageFaults.{Kind, BareStore, GuardDiffers, BareIndirect, WrapperDiffers, BodyReached, StrayGuard, ImageFault, first_image_fault}
use Rattle.lx_image_texts.specs.Programs.{program_of}
use Rattle.lx_generated_laws.specs.ImageTexts.{at, main, one_with, guard_of, store, load_and_ret, one_image, hook_interface, hook_with, check, post, leave_at, hook_image, quiet_with, quiet_store, quiet_module, quiet_guard, quiet_guarded, unreached}

-- the first fault of a text without an interface, and of one with the interface of the hook
abbrev pub first : Module → Option ImageFault
first x = first_image_fault no_interface x

abbrev pub hooked_first : Module → Option ImageFault
hooked_first x = first_image_fault hook_interface x

-- a fault of this kind at a line, in a function, at the instruction with this number
abbrev pub fault : Kind → ℕ → List ℕ → ℕ → Option ImageFault
fault k line name place = Some (record { kind = k; line = line; function = name; place = place })

-- a wrapper that wraps nothing
abbrev pub further_wrapper : Function
further_wrapper = record { name = codes "lxfi.out.main"; params = []; locals = []; ret = None; blocks = Some (block (codes "0") (at 11 (op.Ret None) ∷ []) ∷ []); line = 9 }

pub record WorkedImageFaults : Type 0 where
  -- a store with its guard, with a guard of another size, without, behind two guards, before its guard, and behind an enter
  pub stored : first one_image ≡ None
  pub other_size : first (one_with (at 4 (guard_of 2) ∷ at 5 store ∷ load_and_ret 6) []) ≡ fault GuardDiffers 4 main 0
  pub bare : first (one_with (at 4 store ∷ load_and_ret 5) []) ≡ fault BareStore 4 main 0
  pub twice : first (one_with (at 4 (guard_of 4) ∷ at 5 (guard_of 4) ∷ at 6 store ∷ load_and_ret 7) []) ≡ fault StrayGuard 4 main 0
  pub behind : first (one_with (at 4 store ∷ at 5 (guard_of 4) ∷ load_and_ret 6) []) ≡ fault BareStore 4 main 0
  pub entered : first (one_with (at 4 (op.Enter (symbol.Function 0)) ∷ at 5 (guard_of 4) ∷ at 6 store ∷ load_and_ret 7) []) ≡ fault StrayGuard 4 main 0
  pub further : first (one_with (at 4 (guard_of 4) ∷ at 5 store ∷ load_and_ret 6) (further_wrapper ∷ [])) ≡ fault WrapperDiffers 9 (codes "lxfi.out.main") 0
  -- an indirect call with its check and without (the other lines keep their numbers), a call past the wrapper, a wrapper without its action
  pub hooked : hooked_first hook_image ≡ None
  pub unchecked : hooked_first (hook_with 3 [] (post ++ leave_at 21)) ≡ fault BareIndirect 6 main 1
  pub reached : hooked_first (hook_with 0 check (post ++ leave_at 21)) ≡ fault BodyReached 4 main 0
  pub no_post : hooked_first (hook_with 3 check (leave_at 20)) ≡ fault WrapperDiffers 20 (codes "lxfi.out.hook_get") 2
  -- a spared store without its guard and with it, one that is too wide, and one to an `alloca` whose register is also stored
  pub spared : first quiet_module ≡ None
  pub guarded : first quiet_guarded ≡ None
  pub too_wide : first (quiet_with [] (op.Store i64 (n64 1) (reg 1))) ≡ fault BareStore 4 (codes "f") 1
  pub let_go : first (quiet_with (quiet_guard 8 ∷ at 4 (op.Store Ptr (reg 1) (reg 1)) ∷ []) quiet_store) ≡ fault BareStore 4 (codes "f") 3
  -- in a block that no walk reaches, where a guard reads an address before its store reads the value: the text numbers its registers as
  -- the program does that erasing gives
  pub unreached_lawful : IsLawful unreached
  pub unreached_verifies : FirstFault unreached None
  pub unreached_image : first unreached ≡ None
  pub unreached_numbers : list_all numbers_registers unreached.functions ≡ true
  pub unreached_program : list_all numbers_registers (program_of unreached).functions ≡ true
