use Rattle.std.{proofs.{Common.{rules, ◌≡◌, ℕ, ℤ, ◌+◌, ◌<◌, ◌≤◌, ◌+ℤ◌, ◌-ℤ◌, Bool, List, length, arith}, lemmas.{Int.{ints, clamps}, Bool.cases_lt, List.get_or_past}}, specs.Int.int_min}
use Rattle.stn_net.{specs.{Difference.Difference, Matrix.{Table.{Table, far_of}, Tightest.IsExact}, Windows.{Dispatch.{IsLeft, IsReady}, Leading.{NonePast, CanLead}}}, proofs.{Tightest.{exact_row, shortest_from_exact}, WindowEnds.lesser_schedule}}

-- an event that is left has a test in the list
pub left_within : (done : List Bool) (event : ℕ) → IsLeft done event → event < length done
left_within done event left = search (rules, cases_lt, get_or_past)

-- an event that is left, whose earliest time has come, that leads, and before which no other has to run, is ready
pub ready_now : (bounds : List Difference) (table : Table) (done : List Bool) (event : ℕ) (time : ℤ) → IsExact bounds table → length done ≡ table.events + 1
    → CanLead (far_of table) done time event → NonePast (far_of table 0) done time → IsReady bounds done event time
ready_now bounds table done event time exact one_each can none =
    let within : event ≤ table.events = omega (arith, left_within done event can.left) in
    let shortest = shortest_from_exact bounds table exact in
    let itself = shortest.itself event within in
    let origin = shortest.itself 0 (omega arith) in
    let in_time = none event can.left in
    record {
      left = can.left;
      possible = (
        (λ y. int_min (far_of table 0 y -ℤ far_of table 0 0) ((far_of table event y -ℤ far_of table event 0) +ℤ (time +ℤ far_of table event 0))),
        lesser_schedule bounds (λ z. far_of table 0 z -ℤ far_of table 0 0) (λ z. far_of table event z -ℤ far_of table event 0) (time +ℤ far_of table event 0)
            (exact_row bounds table 0 exact (omega arith)) (exact_row bounds table event exact within) (omega (arith, ints)),
        omega (arith, ints, clamps),
        λ other left. let leads = can.leads other left in let late = none other left in omega (arith, ints, clamps),
      );
    }

-- a ready event's earliest time has come
pub ready_can_lead : (bounds : List Difference) (table : Table) (done : List Bool) (event : ℕ) (time : ℤ) → IsExact bounds table → length done ≡ table.events + 1
    → IsReady bounds done event time → CanLead (far_of table) done time event
ready_can_lead bounds table done event time exact one_each ready =
    let within : event ≤ table.events = omega (arith, left_within done event ready.left) in
    let times = ready.possible.0 in
    let schedule = ready.possible.1 in
    let early = (exact.far event 0 within (omega arith)).bound times schedule in
    record {
      left = ready.left;
      come = omega (arith, ints);
      leads = λ other left.
          let others : other ≤ table.events = omega (arith, left_within done other left) in
          let after = ready.possible.3 other left in
          let far = (exact.far event other within others).bound times schedule in
          omega (arith, ints);
    }

-- and no event that is left has to run before its time
pub ready_none_past : (bounds : List Difference) (table : Table) (done : List Bool) (event : ℕ) (time : ℤ) → IsExact bounds table → length done ≡ table.events + 1
    → IsReady bounds done event time → NonePast (far_of table 0) done time
ready_none_past bounds table done event time exact one_each ready = λ other left.
    let others : other ≤ table.events = omega (arith, left_within done other left) in
    let after = ready.possible.3 other left in
    let late = (exact.far 0 other (omega arith) others).bound ready.possible.0 ready.possible.1 in
    omega (arith, ints)
