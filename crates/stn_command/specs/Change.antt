-- What a change makes, and what is printed of it.
use Rattle.std.specs.Prelude.{ℕ, List, ◌++◌, codes}
use Rattle.stn_records.specs.Id.{SiteCounter, id_text}
use Rattle.stn_site.specs.{Lines.line, declared.change.Change.{Change, TheVariants.{Add, Amend, Withdraw, Done}}}
use Rattle.stn_command.specs.declared.changes.Made.{Made, TheVariants.{Added, Amended, Withdrawn}}

-- what a change makes, where this is the id of the record that it adds
abbrev pub made_by : Change → SiteCounter → Made
made_by (Add bound) id = Added id
made_by (Amend old bound) id = Amended id
made_by (Withdraw gone) id = Withdrawn gone
made_by (Done event time) id = Added id

-- the line that is printed of what was made
abbrev pub made_text : Made → List ℕ
made_text (Added id) = line (codes "added " ++ id_text id)
made_text (Amended id) = line (codes "amended " ++ id_text id)
made_text (Withdrawn id) = line (codes "withdrawn " ++ id_text id)
