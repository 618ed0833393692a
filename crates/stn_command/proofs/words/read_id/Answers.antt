use Rattle.std.proofs.Common.{rules, ◌≡◌, List, ℕ, Option, Some, IfSome}
use Rattle.stn_records.specs.Id.{SiteCounter, IsId, id_text}
use Rattle.stn_command.{specs.Words.id_of, proofs.Ids.{id_of-some, id_of-none}}
use Rattle.stn_command.proofs.words.read_id.Goals as goal

-- what a reader answers is the id that the word names
is_named : (word : List ℕ) (result : Option SiteCounter) → IfSome result (λ id. word ≡ id_text id) → IfSome result IsId
    → ((id : SiteCounter) → IsId id → word ≡ id_text id → result ≡ Some id) → result ≡ id_of word
is_named word result found within all = search (rules, id_of-none, id_of-some)

pub returns : goal.returns
returns c = is_named c.args.word.now c.read.result c.read.ensures.found c.read.ensures.within c.read.ensures.all
