-- What the words of queries ask.
use Rattle.std.specs.Prelude.{ℕ, List, bytes_eq, codes, if◌then◌else◌, Option, Some, None}
use Rattle.stn_questions.specs.declared.{asked.Question.TheVariants.{Records, Steps, Bounds}, words.{Outlook.Outlook, LoneQuery.{LoneQuery, TheVariants.{Report, Ask, Repairs}}}}
use Rattle.stn_questions.specs.declared.words.Outlook.TheVariants as outlook

-- what a word asks of the events that are left, from a time on
abbrev pub outlook_of : List ℕ → Option Outlook
outlook_of word =
    if bytes_eq word (codes "next") then Some outlook.Next else
    (if bytes_eq word (codes "ready") then Some outlook.Ready else
    (if bytes_eq word (codes "rehearse") then Some outlook.Rehearse else None))

-- the query that a word asks alone
abbrev pub lone_query : List ℕ → Option LoneQuery
lone_query word =
    if bytes_eq word (codes "report") then Some Report else
    (if bytes_eq word (codes "repairs") then Some Repairs else
    (if bytes_eq word (codes "records") then Some (Ask Records) else
    (if bytes_eq word (codes "steps") then Some (Ask Steps) else
    (if bytes_eq word (codes "bounds") then Some (Ask Bounds) else None))))
