-- Why an action is not done, as a request is not.
use Rattle.lx_actions.specs.declared.fault.ActFault.{ActFault}
use Rattle.lx_actions.specs.declared.fault.ActFault.TheVariants as fault
use Rattle.lx_model.specs.declared.request.Outcome.TheVariants.{Refused, Trapped}
use Rattle.lx_model.specs.declared.request.Trap.TheVariants.{Unmapped}
use Rattle.lx_serve.specs.declared.halt.Halt.{Halt}
use Rattle.lx_serve.specs.declared.halt.Halt.TheVariants.{Ended, Memory}

abbrev pub halt_of : ActFault → Halt
halt_of (fault.Refused why) = Ended (Refused why)
halt_of (fault.Unmapped at) = Ended (Trapped (Unmapped at))
halt_of fault.Memory = Memory
