use Rattle.std.{proofs.Common.{◌≡◌, ◌++◌, ◌∷◌, [], ℕ, List, codes, append_assoc, arith}, specs.Fmt.decimal}
use Rattle.stn_site.proofs.site_plan.SitePlan.append_heading.Goals as goal

-- the pieces of the heading, and its two lines
pieced : (plan steps are events all records live some replaced gone feed : List ℕ)
    → plan ++ (steps ++ (are ++ (events ++ ((all ++ feed) ++ (records ++ (live ++ (some ++ (replaced ++ (gone ++ feed)))))))))
    ≡ ((plan ++ steps ++ are ++ events ++ all) ++ feed) ++ ((records ++ live ++ some ++ replaced ++ gone) ++ feed)
pieced plan steps are events all records live some replaced gone feed = simp append_assoc

pub returns-clause-text : goal.returns-clause-text
returns-clause-text g c =
    let lines = pieced (codes "plan ") (decimal c.steps-steps.result) (codes " steps ") (decimal c.events-events.result) (codes " events") (codes "records ") (decimal c.live_count-live.result)
    (codes " live ") (decimal c.replaced_count-replaced.result) (codes " withdrawn") (10 ∷ []) in
    grind (arith, lines)
