-- What each command line does, over a store of logs and texts, and its status.
use Rattle.std.specs.Prelude.{◌≡◌, ℕ, ◌==◌, if◌then◌else◌, [], ◌∷◌, ◌++◌, codes, Ok, Err, ⊤}
use Rattle.stn_device.specs.Partner.{PartnerState, stranger}
use Rattle.stn_effects.specs.{Effects.{Effect, Then, Finds, Gives}, Printing.Writes}
use Rattle.stn_records.specs.Content.{Content}
use Rattle.stn_site.specs.Held.{Held}
use Rattle.stn_exec.specs.Runs.{RunsScript}
use Rattle.stn_logs.specs.{Commands.DoesLine, Hints.IsHinted}
use Rattle.stn_reasons.specs.Waiting.{TellsWaiting}
use Rattle.stn_exchanges.specs.{Connections.{meeting, ServesSites, SendsTo}, Joining.shared, Peer.strangers}
use Rattle.stn_shell.specs.{Coprocess.RunsShell, Outside.{Outside, InStore, InStreams, OnStandardOutput, Mentions}}
use Rattle.stn_store.specs.Steps.{LoadsLog}
use Rattle.stn_line.specs.declared.words.{SiteLog.SiteLog, Line.{Line, TheVariants.{Run, Make, Change, Ask, Explain, Shell, Serve, Send}}}
use Rattle.stn_refusal.specs.declared.failure.{Failure.TheVariants.{Failed}, Fault.{Fault, TheVariants.Net}}

-- ---- a script
-- the input is run as a script; the status is 0 exactly where none of its lines is refused
abbrev pub RunsInput : Effect Outside ℕ
RunsInput =
    Then (InStreams RunsScript) (λ ran.
    Gives (if ran.refused == 0 then 0 else 1))

-- ---- other sites
-- an address is bound, or reached
abbrev pub Connects : Effect Outside (Unit {0})
Connects old new (Ok done) = new ≡ old
Connects old new (Err failure) = (new ≡ old) × (failure ≡ Failed Net)

-- so many sites of which no clause knows what they say are served, by what a log was found to say
abbrev pub ServesSessions : (Fault → Type 0) → SiteLog → ℕ → Held → Effect Outside (Unit {0})
ServesSessions Fails log count found old new ended = ((left : Content) × ServesSites Fails log found.source count
    (meeting strangers (shared found.state old.entries) old.out) (meeting strangers (shared left new.entries) new.out) ended)
    × (new.unread ≡ old.unread) × (new.err ≡ old.err)

-- an exchange with such a site
abbrev pub SendsHeld : (Fault → Type 0) → SiteLog → Held → Effect Outside (Unit {0})
SendsHeld Fails log found old new ended = ((left : Content) × (gone : PartnerState) × SendsTo Fails log found.source
    (meeting stranger (shared found.state old.entries) old.out) (meeting gone (shared left new.entries) new.out) ended)
    × (new.unread ≡ old.unread) × (new.err ≡ old.err)

-- an address is bound, and that is told
abbrev pub Listens : Effect Outside (Unit {0})
Listens =
    Then Connects (λ _.
    OnStandardOutput (Writes (codes "listening" ++ 10 ∷ [])))

-- what a log says is served. Before that a store may find that it can't save the log; if it finds no such fault, a save may still fail
abbrev pub ServesLog : (Fault → Type 0) → SiteLog → ℕ → Effect Outside (Unit {0})
ServesLog Fails log count =
    Then (InStore (LoadsLog Fails log.name.now log.site)) (λ found.
    Then (InStore (Finds Fails (λ _ (saved : Unit {0}). ⊤) (λ _ _. ⊥))) (λ _.
    Then Listens (λ _.
    ServesSessions Fails log count found)))

-- what a log says is exchanged with the site at an address
abbrev pub SendsLog : (Fault → Type 0) → SiteLog → Effect Outside (Unit {0})
SendsLog Fails log =
    Then (InStore (LoadsLog Fails log.name.now log.site)) (λ found.
    Then Connects (λ _.
    SendsHeld Fails log found))

-- ---- a command line
-- a command on a log is done, and its answer printed. Before it is done, what it waits for is told; after its answer, what people may
-- not expect
abbrev pub Answers : (Fault → Type 0) → Line → Effect Outside (Unit {0})
Answers Fails line =
    Then (Mentions (λ _. TellsWaiting line)) (λ _.
    Then (InStore (DoesLine Fails line)) (λ text.
    Then (OnStandardOutput (Writes text)) (λ _.
    Mentions (λ entries. IsHinted entries line))))

-- what is done has the status 0
abbrev pub Succeeds : Effect Outside (Unit {0}) → Effect Outside ℕ
Succeeds Does = Then Does (λ _. Gives 0)

-- the whole of a command line: what it does, and its status
abbrev pub Does : (Fault → Type 0) → Line → Effect Outside ℕ
Does Fails Run = RunsInput
Does Fails (Make log made) = Succeeds (Answers Fails (Make log made))
Does Fails (Change log made) = Succeeds (Answers Fails (Change log made))
Does Fails (Ask log asked names) = Succeeds (Answers Fails (Ask log asked names))
Does Fails (Explain code) = Succeeds (Answers Fails (Explain code))
Does Fails (Shell log) = RunsShell Fails log
Does Fails (Serve log address count seconds) = Succeeds (ServesLog Fails log count)
Does Fails (Send log address seconds) = Succeeds (SendsLog Fails log)
