use Rattle.std.{proofs.{lemmas.Int.{ints, by_lt_z}, Common.{rules, ◌≡◌, ℕ, ℤ, ◌+◌, ◌<◌, ◌≤◌, ◌↔◌, Bool, true, List, length, Option, arith}}, specs.Prelude.{is_none, IfSome, IfNone}}
use Rattle.stn_net.{specs.{Difference.Difference, Matrix.{Table.{Table, far_of}, Tightest.IsExact}, Windows.{Dispatch.{IsLeft, IsFirstReady, ComesFirst}, Leading.{earliest, MayLead, NonePast, CanLead, IsFirstPast, IsLeastLeader, IsEarliestBelow, IsEarliestSoFar, earlier_of}}}, proofs.{Tightest.shortest_from_exact, Readiness.{left_within, ready_now, ready_can_lead}}}

-- a look for the first event whose latest time has passed finds none exactly where none has
pub past_told : (latest : ℕ → ℤ) (done : List Bool) (time : ℤ) (found : Option ℕ) → IfSome found (IsFirstPast latest done time) → IfNone found (NonePast latest done time)
    → (is_none found ≡ true) ↔ NonePast latest done time
past_told latest done time found past none = search rules

-- the least event that can lead runs first, now
pub leader_is_first : (bounds : List Difference) (table : Table) (done : List Bool) (now : ℤ) (run : ℤ × ℕ) → IsExact bounds table → length done ≡ table.events + 1
    → NonePast (far_of table 0) done now → IsLeastLeader (far_of table) done now run → IsFirstReady bounds done now run.0 run.1
leader_is_first bounds table done now run exact one_each none leader =
    let at = leader.at in
    rw at (record {
      ready = ready_now bounds table done run.1 now exact one_each leader.leads none;
      later = omega (arith, ints);
      first = λ time other later ready. (later, λ same. leader.first other (rw same (ready_can_lead bounds table done other time exact one_each ready)));
    })

-- where no event can lead now, the first by earliest time runs first, at its earliest time
pub earliest_is_first : (bounds : List Difference) (table : Table) (done : List Bool) (now : ℤ) (run : ℤ × ℕ) → IsExact bounds table → length done ≡ table.events + 1
    → ((event : ℕ) → ¬ CanLead (far_of table) done now event) → IsEarliestBelow (earliest (far_of table)) done (length done) run → IsFirstReady bounds done now run.0 run.1
earliest_is_first bounds table done now run exact one_each none first =
    let event = run.1 in
    let within : event ≤ table.events = omega (arith, left_within done event first.left) in
    let shortest = shortest_from_exact bounds table exact in
    let itself = shortest.itself 0 (omega arith) in
    let leads : MayLead (far_of table) done event = λ other left.
    let others = left_within done other left in
    let sooner = (first.first other others left).0 in
    let round = shortest.triangle event other 0 within (omega arith) (omega arith) in
    omega (arith, ints) in
    let can : CanLead (far_of table) done run.0 event = record { left = first.left; come = omega (arith, ints); leads = leads } in
    let in_time : NonePast (far_of table 0) done run.0 = λ other left.
    let others = left_within done other left in
    let sooner = (first.first other others left).0 in
    let round = shortest.triangle 0 other 0 (omega arith) (omega arith) (omega arith) in
    omega (arith, ints) in
    record {
      ready = ready_now bounds table done event run.0 exact one_each can in_time;
      later = by_lt_z run.0 now (λ come. absurd (none event (record { left = first.left; come = omega (arith, ints); leads = leads })))
          (λ later. later);
      first = λ time other from ready.
          let sooner = first.first other (left_within done other ready.left) ready.left in
          let come = (ready_can_lead bounds table done other time exact one_each ready).come in
          (omega (arith, ints, sooner.0), λ same. sooner.1 (omega (arith, ints, sooner.0)));
    }

-- a run that is the first below a number is the first below the next, where it comes before an event of that number that is left
one_further : (times : ℕ → ℤ) (done : List Bool) (number : ℕ) (run : ℤ × ℕ) → IsEarliestBelow times done number run
    → (IsLeft done number → ComesFirst run.0 run.1 (times number) number) → IsEarliestBelow times done (number + 1) run
one_further times done number run first next = grind (arith)

-- a look at one more event that is left: the earlier of the two runs comes first among those so far
pub one_more_run : (times : ℕ → ℤ) (done : List Bool) (number event : ℕ) (first : Option (ℤ × ℕ)) (time : ℤ) → event ≡ number → IsLeft done event → time ≡ times event
    → IsEarliestSoFar times done number first → IsEarliestBelow times done (number + 1) (earlier_of first (time, event))
one_more_run times done number event first time same left at none = search rules

-- a look at one more event that is not left changes nothing
pub same_first : (times : ℕ → ℤ) (done : List Bool) (number event : ℕ) (first : Option (ℤ × ℕ)) → event ≡ number → ¬ IsLeft done event
    → IsEarliestSoFar times done number first → IsEarliestSoFar times done (number + 1) first
same_first times done number event first same not_left none = search rules

-- no event below the next number can lead, where none below the number can and that of the number can't
pub one_more_behind : (far : ℕ → ℕ → ℤ) (done : List Bool) (now : ℤ) (number event : ℕ) → event ≡ number → ¬ CanLead far done now event
    → ((other : ℕ) → other < number → ¬ CanLead far done now other) → (other : ℕ) → other < number + 1 → ¬ CanLead far done now other
one_more_behind far done now number event same cannot none = search rules
