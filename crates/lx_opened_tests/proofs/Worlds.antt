-- Worlds that are opened, that go on, and that are put together of their parts.
use Rattle.std.proofs.Common.{◌≡◌, ◌∙◌, ap, subst, sym, ℕ, List, length, map}
use Rattle.lx_caps.specs.History.{History}
use Rattle.lx_slot_types.specs.Gets.{below}
use Rattle.lx_model.specs.declared.account.ImageCount.{ImageCount}
use Rattle.lx_model.specs.declared.program.Program.{Program}
use Rattle.lx_model.specs.declared.program.ScriptCall.{ScriptCall}
use Rattle.lx_model.specs.Account.{image_count}
use Rattle.lx_link_texts.specs.WellFormed.{IsWellFormed}
use Rattle.lx_report.specs.Lawful.{HasLawfulModules}
use Rattle.lx_images.specs.Image.{Code}
use Rattle.lx_images.specs.ImageWorld.{ImageWorld, image_event, image_opening}
use Rattle.lx_serve.specs.declared.shared.SharedPart.{SharedPart}
use Rattle.lx_world.specs.declared.runners.Runners.{Runners}
use Rattle.lx_world.specs.declared.world.World.{World}
use Rattle.lx_world.specs.Parts.{AreParts}
use Rattle.lx_world.specs.Worlds.{StandsForWorld}
use Rattle.lx_opened_tests.specs.Opened.{IsOpened}

-- a world that is opened over code
pub opened : {C : Type 0} (stands : C → History → Type 0) (c : Code) (script : List (List ScriptCall)) (world : World C) (counts : List ImageCount)
    → StandsForWorld stands c world (image_opening c script) → IsWellFormed c.program → counts ≡ map (image_count c.program) (below (length c.program.modules))
    → IsOpened stands world counts
opened stands c script world counts stands_for formed counted =
    record { code = c; meaning = image_opening c script; stands_for = stands_for; formed = formed; counted = counted }

-- behind an event, and where none came
pub acted : {C : Type 0} (stands : C → History → Type 0) (old new : World C) (thread : ℕ)
    → ((c : Code) (v : ImageWorld) → StandsForWorld stands c old v → StandsForWorld stands c new (image_event c thread v))
    → (counts : List ImageCount) → IsOpened stands old counts → IsOpened stands new counts
acted stands old new thread event counts is =
    record { code = is.code; meaning = image_event is.code thread is.meaning; stands_for = event is.code is.meaning is.stands_for; formed = is.formed; counted = is.counted }

pub stayed : {C : Type 0} (stands : C → History → Type 0) (old new : World C)
    → ((c : Code) (v : ImageWorld) → StandsForWorld stands c old v → StandsForWorld stands c new v)
    → (counts : List ImageCount) → IsOpened stands old counts → IsOpened stands new counts
stayed stands old new fault counts is =
    record { code = is.code; meaning = is.meaning; stands_for = fault is.code is.meaning is.stands_for; formed = is.formed; counted = is.counted }

-- what an account asks of such a world
pub counted : {C : Type 0} (stands : C → History → Type 0) (world : World C) (counts : List ImageCount) → IsOpened stands world counts
    → counts ≡ map (image_count world.code.program) (below (length world.code.program.modules))
counted stands world counts is = is.counted ∙ ap (λ (c : Code). map (image_count c.program) (below (length c.program.modules))) (sym is.stands_for.code)

lawful_modules : (p : Program) → IsWellFormed p → HasLawfulModules p
lawful_modules p formed = λ k d within. (formed.modules k d within).verified.lawful

pub lawful : {C : Type 0} (stands : C → History → Type 0) (world : World C) (counts : List ImageCount) (p : Program) → IsOpened stands world counts → p ≡ world.code.program → HasLawfulModules p
lawful stands world counts p is same =
    subst HasLawfulModules (sym (same ∙ ap (λ (c : Code). c.program) is.stands_for.code)) (lawful_modules is.code.program is.formed)

-- two worlds of the same parts are the same
pub same_world : {C : Type 0} (one other : World C) (part : SharedPart C) (list : Runners) (c : Code) → AreParts one part list c → AreParts other part list c → other ≡ one
same_world one other part list c a b = λ k. record {
  shared = (b.shared ∙ sym a.shared) k;
  runners = (b.runners ∙ sym a.runners) k;
  code = (b.code ∙ sym a.code) k;
}
