use Rattle.std.proofs.Common.{rules, ◌≡◌, ℕ, ◌≤◌, List, Option, Some, IfSome}
use Rattle.stn_net.specs.Event.{most_events, event_text}
use Rattle.stn_command.{specs.Words.event_of, proofs.Events.{event_below-some, event_below-none}}
use Rattle.stn_command.proofs.words.read_event.Goals as goal

-- what a reader answers is the event that the word names
is_named : (word : List ℕ) (result : Option ℕ) → IfSome result (λ event. word ≡ event_text event) → IfSome result (λ event. event ≤ most_events)
    → ((event : ℕ) → event ≤ most_events → word ≡ event_text event → result ≡ Some event) → result ≡ event_of word
is_named word result found within all = search (rules, event_below-none, event_below-some)

pub returns : goal.returns
returns c = is_named c.args.word.now c.read.result c.read.ensures.found c.read.ensures.within c.read.ensures.all
