use Rattle.std.proofs.Common.{refl}
use Rattle.stn_device.specs.Callers.{callers_of}
use Rattle.stn_device.proofs.callers.MemoryCallersCallers.accept.Goals as goal

pub returns-in-Some-clause-came : goal.returns-in-Some-clause-came
returns-in-Some-clause-came c =
    let items = rw c.in-Some.is at c.pop_front.ensures.items in
    let later = (callers_of (record { alloc = c.args.self.now.alloc; coming = c.pop_front.new.self; gone = c.reserve.new.self })).coming in
    (later, rw items (cc), rw c.reserve.ensures.items refl)
