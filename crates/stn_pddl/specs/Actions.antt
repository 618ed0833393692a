-- A durative action.
use Rattle.std.specs.{Prelude.{ℕ, Bool, List, [], Option, Some, None, Result, Ok, Err, if◌then◌else◌}, List.list_any}
use Rattle.stn_pddl.specs.{Tree.{Names.is_same_word, Trees.{Trees, End, Word, Group}}, declared.{fault.DomainFault.{DomainFault, TheVariants.{Syntax, Twice}}, action.{Side.{Side, TheVariants.{Condition, Effect}}, Form.TheVariants.Timed}}, Words.is_name, Schemas.{ActionSchema, bare_action}, Conditions.tree, Fields.{Listing, Values, no_values, parameters, duration, fields}}
use Rattle.stn_text.specs.Faults.{◌>>=◌}

-- a value of `:condition` or `:effect`; one that is missing is empty
unfoldable pub timed_value : Side → Option Listing → ActionSchema → Result ActionSchema DomainFault
timed_value side None action = Ok action
timed_value side (Some listing) action = tree (Timed side) listing.line listing.children action

-- the values in their order: parameters, duration, condition, effect
unfoldable pub action_of_lists : List ℕ → Listing → Listing → Values → Result ActionSchema DomainFault
action_of_lists name listed timed values =
    parameters listed.children [] >>= λ names.
    duration timed.line timed.children >>= λ millis.
    timed_value Condition values.condition (bare_action name names millis) >>= λ action.
    timed_value Effect values.effect action

-- `:parameters` and `:duration` must be there
abbrev pub action_of_values : ℕ → List ℕ → Values → Option Listing → Option Listing → Result ActionSchema DomainFault
action_of_values line name values None timed = Err (Syntax line)
action_of_values line name values (Some listed) None = Err (Syntax line)
action_of_values line name values (Some listed) (Some timed) = action_of_lists name listed timed values

-- an action of this name on a line, from its fields
unfoldable pub named_action : ℕ → List ℕ → Trees → Result ActionSchema DomainFault
named_action line name rest = fields rest no_values >>= λ values. action_of_values line name values values.parameters values.duration

-- the name is that of an action
unfoldable pub is_taken : List ℕ → List ActionSchema → Bool
is_taken name actions = list_any (λ action. is_same_word name action.name) actions

-- an action on a line, from what stands after its head: a name that no earlier action has, and fields
unfoldable pub action : ℕ → Trees → List ActionSchema → Result ActionSchema DomainFault
action line End earlier = Err (Syntax line)
action line (Group at children next) earlier = Err (Syntax line)
action line (Word at name rest) earlier =
    if is_name name then (if is_taken name earlier then Err (Twice at) else named_action line name rest) else Err (Syntax line)
