-- For proofs alone: no public clause cites these words.
-- What the code has read of a heading.
use Rattle.std.specs.Prelude.{◌≡◌, ◌⊎◌, ◌∷◌, Result, Ok, Err}
use Rattle.stn_refusal.specs.{declared.failure.Failure.Failure, Refusals.out_of_memory}
use Rattle.stn_lift.specs.PlanSource.{PlanSource}
use Rattle.stn_text.specs.Lines.{lines_of, words_of}
use Rattle.stn_world.specs.World.{World, opening_world}
use Rattle.stn_exec.specs.{declared.heading.{FoundLine.FoundLine, Rest.Rest, HeadingBlock.HeadingBlock}, Blocks.Block, Script.{Found, Based, Start}}

-- the line that was found
abbrev pub seen_found : FoundLine → Found
seen_found found = record { number = found.number; words = found.word.now ∷ words_of found.rest.now; behind = lines_of found.behind.now }

-- the block that was read
abbrev pub seen_block : HeadingBlock → Block
seen_block block = record { text = block.text.now; number = block.behind.number; behind = lines_of block.behind.text.now }

-- what the first part gives
abbrev pub seen_base : PlanSource → Rest → Based
seen_base source rest = record { source = source; number = rest.number; lines = lines_of rest.text.now }

-- the world and the commands are those that the heading gives
pub record IsOpened (heading : Result Start Failure) (world : World) (rest : Rest) : Type 0 where
  pub start : Start
  pub read : heading ≡ Ok start
  pub opening : world ≡ opening_world start.source start.sites
  pub number : start.number ≡ rest.number
  pub lines : start.lines ≡ lines_of rest.text.now

-- memory ran out, or the failure is the one wanted
abbrev pub IsHeadingFailure : {T : Type 0} → Result T Failure → Failure → Type 0
IsHeadingFailure wanted failure = (failure ≡ out_of_memory) ⊎ (wanted ≡ Err failure)

-- the base that was made is the one wanted, or the failure is
abbrev pub IsMade : Result PlanSource Failure → Result PlanSource Failure → Type 0
IsMade wanted (Ok base) = wanted ≡ Ok base
IsMade wanted (Err failure) = IsHeadingFailure wanted failure

-- so of a base with what stands after its part of the heading
abbrev pub IsRead : Result Based Failure → Result (PlanSource × Rest) Failure → Type 0
IsRead wanted (Ok read) = wanted ≡ Ok (seen_base read.0 read.1)
IsRead wanted (Err failure) = IsHeadingFailure wanted failure
