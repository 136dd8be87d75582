-- What a function's annotation says, and what actions name.
use Rattle.std.proofs.Common.{◌≡◌, ap, ℕ, ◌≤◌, Bool, true, false, Option, Some, None, length, arith}
use Rattle.std.specs.Prelude.{slice_get, unwrap_or}
use Rattle.lx_annot.specs.declared.action.Annotation.{Annotation}
use Rattle.lx_annot.specs.declared.action.CapSpec.{CapSpec}
use Rattle.lx_annot.specs.declared.action.CapSpec.TheVariants as spec
use Rattle.lx_annot.specs.Action.{Action}
use Rattle.lx_annot.specs.Items.{list_items, list_of_action}
use Rattle.lx_model.specs.declared.program.Program.{Program}
use Rattle.lx_model.specs.Program.{annotation_of, no_annotation}
use Rattle.lx_model.specs.Next.{actions_of}
use Rattle.lx_serve.specs.Sources.{IsLinked}

pub no_action : (p : Program) (n : ℕ) (post : Bool) (k : ℕ) → None ≡ annotation_of p n → None ≡ slice_get (actions_of p n post) k
no_action p n true k is = ap (λ (a : Option Annotation). slice_get (unwrap_or a no_annotation).post k) is
no_action p n false k is = ap (λ (a : Option Annotation). slice_get (unwrap_or a no_annotation).pre k) is

pub action_behind : (p : Program) (n : ℕ) (a : Annotation) (k : ℕ) → Some a ≡ annotation_of p n → slice_get a.post k ≡ slice_get (actions_of p n true) k
action_behind p n a k is = ap (λ (x : Option Annotation). slice_get (unwrap_or x no_annotation).post k) is

pub action_before : (p : Program) (n : ℕ) (a : Annotation) (k : ℕ) → Some a ≡ annotation_of p n → slice_get a.pre k ≡ slice_get (actions_of p n false) k
action_before p n a k is = ap (λ (x : Option Annotation). slice_get (unwrap_or x no_annotation).pre k) is

short_list : (p : Program) (list : CapSpec) → IsLinked p → length (list_items p.interface list) ≤ 16
short_list p (spec.Write at size) linked = omega arith
short_list p (spec.Call at) linked = omega arith
short_list p (spec.Ref t at) linked = omega arith
short_list p (spec.Each k at) linked = linked.iterators k

-- an action names at most 16 items
pub short_action : (p : Program) (a : Action) → IsLinked p → length (list_items p.interface (list_of_action a)) ≤ 16
short_action p a linked = short_list p (list_of_action a) linked
