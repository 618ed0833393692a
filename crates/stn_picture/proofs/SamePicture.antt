-- States with the same live records have the same picture.
use Rattle.std.{proofs.Common.{rules, ◌≡◌, inl, inr, ℕ, ℤ, ◌+◌, List, ◌++◌, map, ap, subst, ◌∙◌, ⊎_elim}, specs.Prelude.Option}
use Rattle.stn_net.specs.{Difference.Difference}
use Rattle.stn_lift.specs.PlanSource.{PlanSource, base_bounds, events_of}
use Rattle.stn_records.specs.{Id.SiteCounter, declared.record.Record.Record, Content.{Content, live_of}}
use Rattle.stn_conflict.specs.{Arcs.IsNegativeCycle, Named.IsNamedCycle}
use Rattle.stn_site.specs.{Bounds.{all_bounds, bounds_of}, Report.{is_done, says_done}}
use Rattle.stn_repairs.specs.Repairs.{AreRepairs}
use Rattle.stn_chart.specs.{Chart.{Look, floors, overdue_event, AreDrawn, chart_of}, Frame.plan_text, Drawn.IsPlanPicture}
use Rattle.stn_walk.specs.{Walk.{walk_of, walk_text}, Conflict.IsWalkPicture}
use Rattle.stn_picture.specs.Picture.{IsPicture}

abbrev Records : Type 0
Records = List (SiteCounter × Record)

module _ (source : PlanSource) (s t : Content) (live : live_of s ≡ live_of t) where
  same_bounds : all_bounds source s ≡ all_bounds source t
  same_bounds = cc

  same_done : is_done s ≡ is_done t
  same_done = ap says_done live

  same_floors : (now : Option ℤ) → floors s (events_of source) now ≡ floors t (events_of source) now
  same_floors now = search rules

  same_overdue : (windows : List (ℤ × ℤ)) (now : Option ℤ) → overdue_event s windows (events_of source) now ≡ overdue_event t windows (events_of source) now
  same_overdue windows now = search rules

  same_waiting : (now : Option ℤ) → all_bounds source s ++ floors s (events_of source) now ≡ all_bounds source t ++ floors t (events_of source) now
  same_waiting now = λ i. same_bounds i ++ same_floors now i

  same_drawn : (now : Option ℤ) (windows : List (ℤ × ℤ)) (late : Option ℕ) → AreDrawn source s now windows late → AreDrawn source t now windows late
  same_drawn now windows late drawn = search (rules, same_waiting, same_overdue)

  same_chart : (look : Look) (names : List (List ℕ)) (windows : List (ℤ × ℤ)) (late : Option ℕ) → chart_of look names source s windows late ≡ chart_of look names source t windows late
  same_chart look names windows late = search (rules, same_done, same_bounds)

  pub counted_picture : (look : Look) (names : List (List ℕ)) (text : List ℕ) → IsPicture look names source s text → IsPicture look names source t text
  counted_picture look names text p = ⊎_elim
      (λ (drawn : IsPlanPicture look names source s text). inl (record {
        windows = drawn.windows;
        overdue = drawn.overdue;
        drawn = same_drawn look.present drawn.windows drawn.overdue drawn.drawn;
        whole = drawn.whole ∙ ap plan_text (same_chart look names drawn.windows drawn.overdue);
      }))
      (λ (drawn : IsWalkPicture look.title names source s text). inr (record {
        links = drawn.links;
        named = subst (λ (bounds : List Difference). IsNamedCycle bounds drawn.links) same_bounds drawn.named;
        negative = subst (λ (bounds : List Difference). IsNegativeCycle bounds drawn.links) same_bounds drawn.negative;
        repairs = drawn.repairs;
        are = subst (λ (records : Records). AreRepairs (base_bounds source) records records drawn.repairs) live drawn.are;
        whole = drawn.whole ∙ ap (λ (records : Records). walk_text (walk_of look.title names (base_bounds source) (map (λ entry. entry.0) records) (bounds_of records) drawn.links drawn.repairs)) live;
      }))
      p
