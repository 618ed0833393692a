use Rattle.std.proofs.{Common.{Some, inl, inr, ◌++◌, length, drop, take, ap, ◌∙◌, rules, arith}, lemmas.{List.take_rest, Result.err_from_is_err_and, Grind.common_steps}}
use Rattle.stn_loosen.{specs.{Slack.IsSlack, Robust.HasPromise, Making.Loosening}, proofs.{Robustness.keeps_promise, MadeRobust.{AreParted, IsMadeRobust, are_steps, bounds_named, made_robust, made_promise, cause_after, records_named}, promise.make_robust.{Given.Over, Goals.{After-deref-2, In_ok-records}}}}
use Rattle.stn_loosen.proofs.promise.make_robust.Goals as goal

pub slice_bounds-from_slice-end : goal.slice_bounds-from_slice-end
slice_bounds-from_slice-end g c = grind (arith, common_steps)

pub slice_bounds-from_slice-count : goal.slice_bounds-from_slice-count
slice_bounds-from_slice-count g c = grind (arith, common_steps)

-- the copies are the parts of the loosened plan
parted : (g : Over) (c : After-deref-2 g) → AreParted c.args.base.now c.args.tolerance c.in_ok-moving.moving c.deref.result.now c.deref-2.result.now
parted g c =
    let records = c.args.making.records in
    let steps = length c.durations_of-steps.result.now in
    rw c.in_ok-moving.ensures (record {
      sound = c.requires.sound;
      slack_is = search rules;
      are = c.requires.loosened;
      same = c.requires.events;
      steps = steps;
      count = ap length c.durations_of-steps.ensures.value;
      durations_are = c.deref.ensures.value ∙ c.in_ok-durations.ensures.items ∙ ap (take steps) c.records-loosened.ensures.value;
      bounds_are = c.deref-2.ensures.value ∙ c.in_ok-extend_from_slice.ensures.items
          ∙ ap (λ l. l ++ c.horizon_of.result.now) (c.in_ok-bounds.ensures.items ∙ take_rest c.records-loosened.result.now steps ∙ ap (drop steps) c.records-loosened.ensures.value)
          ∙ ap (λ l. drop steps records ++ l) c.horizon_of.ensures;
    })

pub slice_bounds-from_slice-start : goal.slice_bounds-from_slice-start
slice_bounds-from_slice-start g c = grind (arith, common_steps)

pub after-requires : goal.after-requires
after-requires g c = cc

pub with_moved-requires-clause-steps : goal.with_moved-requires-clause-steps
with_moved-requires-clause-steps g c = are_steps (parted g c)

pub with_moved-requires-clause-named : goal.with_moved-requires-clause-named
with_moved-requires-clause-named g c = bounds_named (parted g c)

-- the records are those of the robust plan, and there is a promise
made : (g : Over) (c : In_ok-records g) → AreParted c.args.base.now c.args.tolerance c.in_ok-moving.moving c.deref.result.now c.deref-2.result.now
    → IsMadeRobust c.args.base.now c.args.tolerance c.args.making.records c.in_ok-records.records.items × HasPromise c.args.base.now c.args.tolerance
made g c parts =
    let is = c.in_ok-records.ensures in
    let new : Loosening = record c.in_ok-moving.moving { records = c.in_ok-records.records.items } in
    rw (← c.in_ok-moving.ensures) (made_robust parts new is.made, made_promise parts new is.possible is.made)

pub returns-in_err-records-clause-refused : goal.returns-in_err-records-clause-refused
returns-in_err-records-clause-refused g c =
    let few = rw c.records-loosened.ensures.value at c.records-loosened.ensures.few in
    let returned = err_from_is_err_and c.from_residual-in_err-records.result c.from_residual-in_err-records.ensures.1 in
    rw (returned.1, returned.2)
    (cause_after (parted g (goal.at.returns-in_err-records-clause-refused g c).After-deref-2) (rw (← c.in_ok-moving.ensures) at few) c.in_err-records.field-0.0 c.in_err-records.ensures.fault)

pub returns-then-len-gt-MOST_KNOWN-clause-refused : goal.returns-then-len-gt-MOST_KNOWN-clause-refused
returns-then-len-gt-MOST_KNOWN-clause-refused g c =
    let few = rw c.records-loosened.ensures.value at c.records-loosened.ensures.few in
    let at = goal.at.returns-then-len-gt-MOST_KNOWN-clause-refused g c in
    let is = made g at.In_ok-records (parted g at.After-deref-2) in
    inr (inr (inr (inl (
      is.1,
      record {
        records = c.in_ok-records.records.items;
        are_robust = is.0.are_robust;
        few_loosened = omega (arith, ap length is.0.behind, few);
        many = omega (arith, c.if-len-gt-MOST_KNOWN.true, c.len.ensures, c.in_ok-records.records.ok.0);
      },
      ap Some c.refused.ensures,
    ))))

pub returns : goal.returns
returns g c =
    let slack : IsSlack c.args.tolerance = search rules in
    let source = c.args.base.now in
    let records = c.in_ok-records.records.items in
    let at = goal.at.returns g c in
    let is = made g at.In_ok-records (parted g at.After-deref-2) in
    let before = rw (c.records-loosened.ensures.value, c.requires.events) at c.records-loosened.ensures.named in
    record {
      records = is.0.are_robust;
      few = omega (arith, c.if-len-gt-MOST_KNOWN.false, c.len.ensures, c.in_ok-records.records.ok.0);
      named = records_named source c.args.tolerance c.requires.sound c.args.making.records records is.0.are_robust is.0.behind before;
      keep = keeps_promise source c.requires.sound c.args.tolerance slack records is.0.are_robust is.1;
      refused = tt;
    }
