use Rattle.std.proofs.Common.{◌∙◌, ap}
use Rattle.std.specs.List.{list_all}
use Rattle.lx_world.specs.Worlds.{is_idle}
use Rattle.lx_world.proofs.Threads.{all_idle}
use Rattle.lx_world.proofs.world.World.done.Goals as goal

pub returns : goal.returns
returns g c = λ p w st. c.are_done.ensures ∙ ap (list_all is_idle) c.as_slice.ensures.value ∙ all_idle p 0 c.args.self.now.runners.list.items w.threads st.threads
