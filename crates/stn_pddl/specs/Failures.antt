-- What is printed for a fault of a domain.
use Rattle.stn_refusal.specs.declared.code.Code.TheVariants as code
use Rattle.stn_refusal.specs.{declared.failure.Failure.Failure, Refusals.{refused, refused_at, out_of_memory}}
use Rattle.stn_pddl.specs.declared.fault.DomainFault.{DomainFault}
use Rattle.stn_pddl.specs.declared.fault.DomainFault.TheVariants as domain

abbrev pub domain_failure : DomainFault → Failure
domain_failure domain.TooLong = refused code.DomainTooLong
domain_failure (domain.Syntax line) = refused_at code.DomainSyntax line
domain_failure (domain.TooDeep line) = refused_at code.DomainTooDeep line
domain_failure (domain.Unsupported line) = refused_at code.DomainUnsupported line
domain_failure (domain.Number line) = refused_at code.DomainNumber line
domain_failure (domain.Twice line) = refused_at code.DomainTwice line
domain_failure (domain.Variable line) = refused_at code.DomainVariable line
domain_failure domain.Memory = out_of_memory
