-- Sessions with the sites that come, one after the other.
use Rattle.std.{proofs.{Common.{rules, ◌≡◌, ℕ, zero, suc, ◌+◌, ◌-◌, ◌<◌, List, ◌∷◌, ◌++◌, length, Option, Result, Ok, Err, refl, sym, ap, subst, inl, inr, arith, append_assoc}, KnownBytes.Appends-trans}, specs.Prelude.flat_map}
use Rattle.stn_device.{proofs.Known.not_err, specs.{Partner.PartnerState, Callers.{CallersState, Comes, gone_too}}}
use Rattle.stn_effects.specs.{Effects.{Effect, Times, stopped, went}, Printing.{Device, Prints}}
use Rattle.stn_exchanges.specs.{Connections.{Meeting, session_text, ServesSite, ServesSites}, Visits.{Visit, AreVisits, ComeAndGo}}
use Rattle.stn_lift.specs.PlanSource.{PlanSource}
use Rattle.stn_line.specs.declared.words.SiteLog.{SiteLog}
use Rattle.stn_refusal.specs.declared.failure.{Failure.Failure, Fault.Fault}
use Rattle.stn_session.specs.declared.session.{Served.Served, ServeFault.ServeFault}

same_err : {X : Type 0} {failure other : Failure} → (let none : Result X Failure = Err failure in none) ≡ Err other → other ≡ failure
same_err is = cc

-- ---- so many times
module _ {World X : Type 0} (Does : Effect World X) where
  -- what comes of the rest comes of the whole
  abbrev pub LeadsOn : ℕ → World → World → Type 0
  LeadsOn done first now = (rest : ℕ) (last : World) (ended : Result (Unit {0}) Failure) → Times rest Does now last ended → Times (done + rest) Does first last ended

  pub leads_more : (done : ℕ) (first : World) {now next : World} {value : X} → LeadsOn done first now → Does now next (Ok value) → LeadsOn (done + 1) first next
  leads_more done first {next} {value} leads does rest last ended times =
      let all : done + suc rest ≡ (done + 1) + rest = omega arith in
      subst (λ n. Times n Does first last ended) all (leads (suc rest) last ended (went value next does times))

  pub leads_all : {done count : ℕ} (first : World) {now : World} → LeadsOn done first now → done ≡ count → Times count Does first now (Ok tt)
  leads_all {done} {count} first {now} leads all =
      let same : done + 0 ≡ count = omega (arith, all) in
      subst (λ n. Times n Does first now (Ok tt)) same (leads 0 now (Ok tt) (refl, refl))

  pub leads_out : {done count : ℕ} (first : World) {now last : World} {failure : Failure} → LeadsOn done first now → done < count → Does now last (Err failure)
      → Times count Does first last (Err failure)
  leads_out {done} {count} first {last} {failure} leads few does =
      let left = count - done - 1 in
      let same : done + suc left ≡ count = omega (arith, few) in
      subst (λ n. Times n Does first last (Err failure)) same (leads (suc left) last (Err failure) (stopped failure does refl))

  -- if it stops, fewer times were done
  pub times_stop : (count : ℕ) {old new : World} {failure : Failure} → Times count Does old new (Err failure)
      → (done : ℕ) × (between : World) × (done < count) × Times done Does old between (Ok tt) × Does between new (Err failure)
  times_stop zero {failure} none = absurd (not_err tt failure (sym none.1))
  times_stop (suc count) (stopped why does is) = search rules
  times_stop (suc count) {new} {failure} (went value between does later) =
      let all = times_stop count later in
      (suc all.0, all.1, omega (arith, all.2), went value between does all.3, all.4)

-- ---- visits
same_ok : {X : Type 0} {value other : X} → (let given : Result X Failure = Ok value in given) ≡ Ok other → other ≡ value
same_ok is = cc

prints_more : (a b c : Device) (text more : List ℕ) → Prints a b text → Prints b c more → Prints a c (text ++ more)
prints_more a b c text more one two = search (rules, Appends-trans)

-- the next site came and went
come_first : (came left : Option CallersState) {since : Option CallersState} (after : Option CallersState) (visit : Visit) (visits : List Visit) → Comes came left visit.met → since ≡ gone_too left visit.gone
    → ComeAndGo since after visits → ComeAndGo came after (visit ∷ visits)
come_first came left after visit visits none gone later = search (rules, append_assoc)

-- the line of a visit
abbrev pub visit_text : Visit → List ℕ
visit_text visit = session_text visit.answer

module _ (Fails : Fault → Type 0) (log : SiteLog) (source : PlanSource) where
  -- the line of a session is printed of it, and nothing else
  site_printed : {old new : Meeting PartnerState} {answer : Result Served ServeFault} → ServesSite Fails log source old new (Ok answer) → Prints old.out new.out (session_text answer)
  site_printed h = search rules

  pub visits_of : (count : ℕ) {old new : Meeting (Option CallersState)} → ServesSites Fails log source count old new (Ok tt)
      → (visits : List Visit) × (length visits ≡ count) × AreVisits Fails log source visits old new × ComeAndGo old.others new.others visits × Prints old.out new.out (flat_map visit_text visits)
  visits_of zero none = search rules
  visits_of (suc count) (stopped why first is) = absurd (not_err tt why is)
  visits_of (suc count) (went answer between (inr alone) later) = absurd (not_err answer alone.0 alone.2)
  visits_of (suc count) {old} {new} (went answer between (inl comes) later) =
      let all = visits_of count later in
      let visit : Visit = record { met = comes.0; gone = comes.1; answer = answer } in (
        visit ∷ all.0,
        ap (λ n. suc n) all.1,
        (between, comes.5, all.2),
        come_first old.others comes.2 new.others visit all.0 comes.3 comes.4 all.3,
        prints_more old.out between.out new.out (visit_text visit) (flat_map visit_text all.0)
            (site_printed comes.5) all.4,
      )
