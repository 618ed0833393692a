-- What is printed where the replies of another site were not taken.
use Rattle.stn_refusal.specs.declared.code.Code.TheVariants as code
use Rattle.stn_refusal.specs.{declared.failure.Failure.{Failure, TheVariants.Failed}, Refusals.{refused, refused_with, out_of_memory}}
use Rattle.stn_refusal.specs.declared.failure.Fault.TheVariants as device
use Rattle.stn_wire.specs.Stream.Failures.{frame_failure}
use Rattle.stn_site.specs.Failures.{replica_failure}
use Rattle.stn_session.specs.declared.exchange.ReplyFault.{ReplyFault}
use Rattle.stn_session.specs.declared.exchange.ReplyFault.TheVariants as reply

abbrev pub reply_failure : ReplyFault → Failure
reply_failure (reply.Refused number) = refused_with number
reply_failure (reply.Frame fault) = frame_failure fault
reply_failure reply.Reply = refused code.Reply
reply_failure (reply.Replica fault) = replica_failure fault
reply_failure reply.Read = Failed device.Read
reply_failure reply.Bound = Failed device.Bound
reply_failure reply.Memory = out_of_memory
