-- The table of codes: the number that is printed for each cause of a refusal.
use Rattle.std.specs.Prelude.{ℕ}
use Rattle.stn_refusal.specs.declared.code.Code.{Code, TheVariants.{Malformed, TooFine, OutOfRange, NoEvent, SameEvent, Crossed, Overdue, DomainTooLong, DomainSyntax, DomainTooDeep, DomainUnsupported, DomainNumber, DomainTwice, DomainVariable, PlanTooLong, PlanSyntax, PlanNumber, PlanNegative, PlanTooManySteps, UnknownAction, Arity, DurationDiffers, PastHorizon, BareTooManySteps, Clash, Full, Unknown, CounterSpent, SelfReplace, NotRobust, FrameLength, FrameKind, FrameBody, OldFrame, OtherPlan, Unexpected, LogForm, Reply, LogThere, OldVersion, Line, NoSite, NoPacket, TooManyPackets}}

abbrev pub number_of : Code → ℕ
number_of Malformed = 1
number_of TooFine = 2
number_of OutOfRange = 3
number_of NoEvent = 4
number_of SameEvent = 5
number_of Crossed = 6
number_of Overdue = 7
number_of DomainTooLong = 10
number_of DomainSyntax = 11
number_of DomainTooDeep = 12
number_of DomainUnsupported = 13
number_of DomainNumber = 14
number_of DomainTwice = 15
number_of DomainVariable = 16
number_of PlanTooLong = 20
number_of PlanSyntax = 21
number_of PlanNumber = 22
number_of PlanNegative = 23
number_of PlanTooManySteps = 24
number_of UnknownAction = 30
number_of Arity = 31
number_of DurationDiffers = 32
number_of PastHorizon = 33
number_of BareTooManySteps = 34
number_of Clash = 40
number_of Full = 41
number_of Unknown = 42
number_of CounterSpent = 43
number_of SelfReplace = 44
number_of NotRobust = 45
number_of FrameLength = 50
number_of FrameKind = 51
number_of FrameBody = 52
number_of OldFrame = 53
number_of OtherPlan = 60
number_of Unexpected = 61
number_of LogForm = 62
number_of Reply = 63
number_of LogThere = 64
number_of OldVersion = 65
number_of Line = 70
number_of NoSite = 71
number_of NoPacket = 72
number_of TooManyPackets = 73
