-- What serving other sites, and sending to one, does step by step, and what is printed of it.
use Rattle.std.specs.Prelude.{◌≡◌, ◌⊎◌, ℕ, List, [], ◌∷◌, ◌++◌, codes, decimal, Option, Result, Ok, Err}
use Rattle.stn_device.specs.{Partner.{PartnerState, PartsWays}, Callers.{CallersState, Comes, gone_too}}
use Rattle.stn_effects.specs.{Effects.{Effect, IsLack, Then, Times, failing}, Printing.{Device, Writes}}
use Rattle.stn_lift.specs.PlanSource.{PlanSource}
use Rattle.stn_session.specs.{Exchange.{request_bytes, Receives}, Failures.reply_failure, Serving.{Talk, talk, Serves}, declared.{exchange.ReplyFault.ReplyFault, session.{End.{End, TheVariants.{Closed, Cut, Refused}}, Served.Served, ServeFault.{ServeFault, TheVariants.{Read, Write, Bound, Memory}}}}}
use Rattle.stn_store.specs.Steps.{Entries}
use Rattle.stn_exchanges.specs.Joining.{Shared, TakesLog, SavesJoin, KeepsIn}
use Rattle.stn_line.specs.declared.words.SiteLog.{SiteLog}
use Rattle.stn_refusal.specs.declared.failure.{Failure.{Failure, TheVariants.Failed}, Fault.Fault}
use Rattle.stn_refusal.specs.declared.failure.Fault.TheVariants as fault

-- ---- the line that is printed of a session
abbrev pub ended_text : End → List ℕ
ended_text Closed = codes "closed"
ended_text Cut = codes "cut"
ended_text (Refused code) = codes "refused " ++ decimal code

-- what broke a session off; none of it stops the serving
abbrev pub fault_word : ServeFault → List ℕ
fault_word Read = codes "read"
fault_word Write = codes "write"
fault_word Bound = codes "bound"
fault_word Memory = codes "memory"

abbrev pub session_text : Result Served ServeFault → List ℕ
session_text (Ok served) = codes "session " ++ (decimal served.frames ++ (codes " " ++ (ended_text served.end ++ 10 ∷ [])))
session_text (Err fault) = codes "session " ++ (fault_word fault ++ 10 ∷ [])

-- ---- another site
-- what serving and sending may change: another site, or those that come and go; what this site holds, and a store; and what was printed
pub record Meeting (Others : Type 0) : Type 0 where
  pub others : Others
  pub shared : Shared
  pub out : Device

abbrev pub meeting : {Others : Type 0} → Others → Shared → Device → Meeting Others
meeting others shared out = record { others = others; shared = shared; out = out }

-- an effect on what this site holds and on the store alone
abbrev pub InShared : {Others X : Type 0} → Effect Shared X → Effect (Meeting Others) X
InShared Does old new ended = Does old.shared new.shared ended × (new.others ≡ old.others) × (new.out ≡ old.out)

-- on what is printed alone
abbrev pub OnPrinted : {Others X : Type 0} → Effect Device X → Effect (Meeting Others) X
OnPrinted Does old new ended = Does old.out new.out ended × (new.others ≡ old.others) × (new.shared ≡ old.shared)

-- what another site has left to say, and what it was told
abbrev pub unheard_of : PartnerState → Device
unheard_of site = record { bytes = site.unheard; failures = site.failed_reads }

abbrev pub told_of : PartnerState → Device
told_of site = record { bytes = site.told; failures = site.failed_writes }

-- a session or an exchange of a plan, and what is kept meanwhile; nothing is printed
abbrev pub talk_in : Meeting PartnerState → Talk Entries
talk_in old = talk (unheard_of old.others) (told_of old.others) old.shared.state old.shared.entries

abbrev pub InTalk : {X : Type 0} → Effect (Talk Entries) X → Effect (Meeting PartnerState) X
InTalk Does old new ended = Does (talk_in old) (talk_in new) ended × (new.out ≡ old.out)

-- ---- serving
-- a site that was refused is parted from, and no other one
abbrev pub PartsAt : End → PartnerState → PartnerState → Type 0
PartsAt (Refused code) heard gone = PartsWays heard gone
PartsAt Closed heard gone = gone ≡ heard
PartsAt Cut heard gone = gone ≡ heard

abbrev pub PartsAfter : Result Served ServeFault → PartnerState → PartnerState → Type 0
PartsAfter (Ok served) heard gone = PartsAt served.end heard gone
PartsAfter (Err fault) heard gone = gone ≡ heard

abbrev pub LetsGo : Result Served ServeFault → Effect (Meeting PartnerState) (Result Served ServeFault)
LetsGo answer old new ended = PartsAfter answer old.others new.others × (new.shared ≡ old.shared) × (new.out ≡ old.out) × (ended ≡ Ok answer)

-- what the log says is taken in, a session is served, in which each state is kept in the log before the other site is told of it, what
-- the log says by then is taken in and saved, and the session's line printed
abbrev pub ServesSite : (Fault → Type 0) → SiteLog → PlanSource → Effect (Meeting PartnerState) (Result Served ServeFault)
ServesSite Fails log source =
    Then (InShared (TakesLog Fails log source)) (λ _.
    Then (InTalk (Serves (KeepsIn Fails log source) source)) (λ answer.
    Then (InShared (SavesJoin Fails log source)) (λ _.
    Then (OnPrinted (Writes (session_text answer))) (λ _.
    LetsGo answer))))

-- the next of the sites comes in, this is done with it, and it goes, whatever came of that; or nobody came, and nothing is done
abbrev pub WithNext : {X : Type 0} → Effect (Meeting PartnerState) X → Effect (Meeting (Option CallersState)) X
WithNext Does old new ended =
    ((met : PartnerState) × (gone : PartnerState) × (left : Option CallersState) × Comes old.others left met × (new.others ≡ gone_too left gone)
    × Does (meeting met old.shared old.out) (meeting gone new.shared new.out) ended)
    ⊎ ((failure : Failure) × IsLack (λ failed. failed ≡ fault.Net) failure × (ended ≡ Err failure) × (new ≡ old))

abbrev pub ServesSites : (Fault → Type 0) → SiteLog → PlanSource → ℕ → Effect (Meeting (Option CallersState)) (Unit {0})
ServesSites Fails log source count = Times count (WithNext (ServesSite Fails log source))

-- ---- sending
-- the requests are told; of a site that was told nothing, nothing changes
abbrev pub Asks : PlanSource → Effect (Meeting PartnerState) (Unit {0})
Asks source old new ended = Writes (request_bytes source old.shared.state) (told_of old.others) (told_of new.others) ended
    × (ended ≡ Err (Failed fault.Memory) → new.others ≡ old.others) × (unheard_of new.others ≡ unheard_of old.others)
    × (new.shared ≡ old.shared) × (new.out ≡ old.out)

-- the replies are received: their text
abbrev pub Hears : {P : Type 0} → PlanSource → Effect (Talk P) (List ℕ)
Hears source old new ended = ((answer : Result (List ℕ) ReplyFault) × (ended ≡ failing reply_failure answer)
    × Receives source old.state new.state old.unheard new.unheard answer) × (new.told ≡ old.told) × (new.place ≡ old.place)

-- a site is asked, its replies are received, what the log says by then is taken in and saved, and the text of the replies is printed
abbrev pub SendsTo : (Fault → Type 0) → SiteLog → PlanSource → Effect (Meeting PartnerState) (Unit {0})
SendsTo Fails log source =
    Then (Asks source) (λ _.
    Then (InTalk (Hears source)) (λ text.
    Then (InShared (SavesJoin Fails log source)) (λ _.
    OnPrinted (Writes text))))
