use Rattle.std.{proofs.Common.{◌≡◌, List, [], ◌∷◌, None, codes, inl, inr, sym, subst, rules}, specs.{Option.IsSome, List.AllByRecursion}}
use Rattle.clap.specs.Words.{Row, Text, found_of, rows_of}
use Rattle.stn_records.specs.Id.{most_sites}
use Rattle.stn_questions.specs.Words.{lone_query, outlook_of}
use Rattle.stn_line.specs.Given.{asked_names, HasWords, HasValue, IsNumberThere, IsOneOf}
use Rattle.stn_line.proofs.reading.asking.Goals as goal

each_named : (P : Text → Type 0) (names : List Text) → AllByRecursion P names → (name : Text) → IsOneOf name names → P name
each_named P [] all name is = absurd is
each_named P (n ∷ names) all name (inl is) = subst P (sym is) all.0
each_named P (n ∷ names) all name (inr is) = each_named P names all.1 name is

-- the log and its site are given, and if the name asks nothing alone, it asks of the events that are left, and the time now is given
abbrev AreGiven : Text → Type 0
AreGiven name = (rows : List Row) → HasWords name rows → HasValue (codes "LOG") rows × (IsNumberThere (codes "SITE") 1 most_sites rows
    × (lone_query name ≡ None → IsSome (outlook_of name) × HasValue (codes "NOW") rows))

given : (name : Text) → IsOneOf name asked_names → AreGiven name
given = each_named AreGiven asked_names (search rules)

pub unwrap-requires : goal.unwrap-requires
unwrap-requires c =
    let none = rw (c.in-None.is, c.as_bytes.ensures.value) at (sym c.lone_query.ensures) in
    rw (c.read_outlook.ensures, c.as_bytes-in-None.ensures.value) ((given c.args.name.now c.requires.named (rows_of (found_of c.args.words.now)) c.requires.words).1.1 none).0

pub word-requires : goal.word-requires
word-requires c =
    let none = rw (c.in-None.is, c.as_bytes.ensures.value) at (sym c.lone_query.ensures) in
    ((given c.args.name.now c.requires.named (rows_of (found_of c.args.words.now)) c.requires.words).1.1 none).1

pub site_log-requires-clause-log : goal.site_log-requires-clause-log
site_log-requires-clause-log c = (given c.args.name.now c.requires.named (rows_of (found_of c.args.words.now)) c.requires.words).0

pub site_log-requires-clause-site : goal.site_log-requires-clause-site
site_log-requires-clause-site c = (given c.args.name.now c.requires.named (rows_of (found_of c.args.words.now)) c.requires.words).1.0
