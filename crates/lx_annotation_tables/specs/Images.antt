-- What the image of a module has beyond the module.
use Rattle.std.specs.Prelude.{ℕ, Bool, not, ◌&&◌, ◌||◌, List, count_by, bytes_eq, codes, is_some, if◌then◌else◌, nat_eq}
use Rattle.std.specs.List.{enumerate_from, flat_map, list_any}
use Rattle.lx_ir.specs.declared.module.Function.{Function}
use Rattle.lx_ir.specs.declared.module.Module.{Module}
use Rattle.lx_ir.specs.declared.instr.Instr.{Instr}
use Rattle.lx_ir.specs.Lookup.{all_instrs, instrs_of, is_write, is_indirect_call, is_defined}
use Rattle.lx_annot.specs.declared.interface.Interface.{Interface}
use Rattle.lx_slot_types.specs.declared.Marked.{Marked}
use Rattle.lx_slot_types.specs.Gets.{slot_of}
use Rattle.lx_model.specs.declared.account.ImageCount.{ImageCount}
use Rattle.lx_model.specs.Account.{has_wrapper}
use Rattle.lx_annotation_tables.specs.declared.images.Inserted.{Inserted}
use Rattle.lx_annotation_tables.specs.declared.images.Inserted.TheVariants.{Guard, Check}

-- a guard stands before a store and a block write, and a check before an indirect call
unfoldable pub is_behind : Inserted → Instr → Bool
is_behind Guard i = is_write i.op
is_behind Check i = is_indirect_call i.op

-- how many of them the functions' instructions ask for
abbrev pub inserted_in : Inserted → List Function → ℕ
inserted_in what fs = count_by (is_behind what) (flat_map instrs_of fs)

-- the function with this number is an import that is called through a wrapper, or an annotated one that the module defines
unfoldable pub is_wrapped : List Marked → ℕ × Function → Bool
is_wrapped annotated x =
    if is_defined x.1 then list_any (λ y. nat_eq y.function x.0) annotated else not (bytes_eq x.1.name (codes "lxfi_princ_alias"))

unfoldable pub image_of : Interface → Module → ImageCount
image_of i m =
    record {
      guards = count_by (λ x. is_write x.op) (all_instrs m);
      checks = count_by (λ x. is_indirect_call x.op) (all_instrs m);
      wrappers = count_by (has_wrapper i m) (enumerate_from 0 m.functions);
    }
