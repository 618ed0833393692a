-- What can be explained, and its name.
use Rattle.std.specs.Prelude.{ℕ, List, [], ◌∷◌, ◌++◌, codes, decimal, map}
use Rattle.stn_refusal.specs.{Codes.number_of, declared.failure.Fault.Fault}
use Rattle.stn_refusal.specs.declared.code.Code.TheVariants as code
use Rattle.stn_refusal.specs.declared.failure.Fault.TheVariants as fault
use Rattle.stn_line.specs.declared.explanations.subject.Subject.{Subject}
use Rattle.stn_line.specs.declared.explanations.subject.Subject.TheVariants as subject

-- the word of a fault, as it is printed after `fault`
abbrev pub word_of_fault : Fault → List ℕ
word_of_fault fault.Read = codes "read"
word_of_fault fault.Write = codes "write"
word_of_fault fault.Bound = codes "bound"
word_of_fault fault.Memory = codes "memory"
word_of_fault fault.File = codes "file"
word_of_fault fault.Net = codes "net"

-- the word by which one asks: the number of a refusal, or the word of a fault
abbrev pub subject_word : Subject → List ℕ
subject_word (subject.Refusal cause) = decimal (number_of cause)
subject_word (subject.Fault cause) = word_of_fault cause

-- how the line begins that is printed for it
abbrev pub subject_name : Subject → List ℕ
subject_name (subject.Refusal cause) = codes "refused " ++ decimal (number_of cause)
subject_name (subject.Fault cause) = codes "fault " ++ word_of_fault cause

-- all refusals, in the order of their numbers, and then all faults
abbrev pub subjects : List Subject
subjects = map (λ cause. subject.Refusal cause) (code.Malformed ∷ code.TooFine ∷ code.OutOfRange ∷ code.NoEvent ∷ code.SameEvent ∷ code.Crossed ∷ code.Overdue
    ∷ code.DomainTooLong ∷ code.DomainSyntax ∷ code.DomainTooDeep ∷ code.DomainUnsupported ∷ code.DomainNumber ∷ code.DomainTwice ∷ code.DomainVariable
    ∷ code.PlanTooLong ∷ code.PlanSyntax ∷ code.PlanNumber ∷ code.PlanNegative ∷ code.PlanTooManySteps
    ∷ code.UnknownAction ∷ code.Arity ∷ code.DurationDiffers ∷ code.PastHorizon ∷ code.BareTooManySteps
    ∷ code.Clash ∷ code.Full ∷ code.Unknown ∷ code.CounterSpent ∷ code.SelfReplace ∷ code.NotRobust
    ∷ code.FrameLength ∷ code.FrameKind ∷ code.FrameBody ∷ code.OldFrame
    ∷ code.OtherPlan ∷ code.Unexpected ∷ code.LogForm ∷ code.Reply ∷ code.LogThere ∷ code.OldVersion
    ∷ code.Line ∷ code.NoSite ∷ code.NoPacket ∷ code.TooManyPackets ∷ [])
    ++ map (λ cause. subject.Fault cause) (fault.File ∷ fault.Net ∷ fault.Read ∷ fault.Write ∷ fault.Bound ∷ fault.Memory ∷ [])
