-- What a frame says, and its one spelling: a table by kinds.
use Rattle.std.specs.{Prelude.{◌≡◌, ℕ, ◌<◌, ◌≤◌, ◌^◌, List, [], ◌∷◌, ◌++◌, length, ⊤}, FinMap.entries}
use Rattle.stn_lift.specs.PlanSource.{PlanSource, bare, files, plan_source}
use Rattle.stn_records.specs.{Id.SiteCounter, Content.{Content, IsSound}}
use Rattle.stn_wire.specs.{Spelling.{two, measured, counted, AreCounted, entry_bytes, IsEntry, tomb_bytes, IsTomb, amendments_bytes, AreIds}, declared.{layout.Layout.{Layout, TheVariants.{Old, New}}, frame.{Frame.{Frame, TheVariants.{OldHello, OldRecords, Hello, Records, Ask, Text, Refused, Same}}, Said.Said}}}
use Rattle.stn_wire.specs.declared.frame.Said.TheVariants as said

-- the most bytes that a body has
abbrev pub most_body : ℕ
most_body = 262144

-- what a frame says; the first two kinds are those of the old version
pub data FrameContent : Type 0 where
  old_hello : PlanSource → FrameContent
  old_records : Content → FrameContent
  hello : PlanSource → FrameContent
  records : Content → FrameContent
  ask : FrameContent
  text : List ℕ → FrameContent
  refused : ℕ → FrameContent
  same : FrameContent

-- what a frame of the program says
abbrev pub content : {A : Type 0} → Frame A → FrameContent
content (OldHello source) = old_hello (plan_source source)
content (OldRecords state) = old_records state
content (Hello source) = hello (plan_source source)
content (Records state) = records state
content Ask = ask
content (Text bytes) = text bytes.items
content (Refused code) = refused code
content Same = same

abbrev pub said_content : {A : Type 0} → Said A → FrameContent
said_content (said.Hello source) = hello (plan_source source.now)
said_content (said.Records state) = records state.now
said_content said.Ask = ask
said_content (said.Text bytes) = text bytes.now
said_content (said.Refused code) = refused code
said_content said.Same = same

-- a source: its form, and its steps or its two texts
abbrev pub source_bytes : PlanSource → List ℕ
source_bytes (bare steps) = 0 ∷ two steps
source_bytes (files domain plan) = 1 ∷ (measured domain ++ measured plan)

abbrev pub IsSaidSource : PlanSource → Type 0
IsSaidSource (bare steps) = steps < 2 ^ 16
IsSaidSource (files domain plan) = (length domain < 2 ^ 32) × (length plan < 2 ^ 32)

-- a state: its additions, its withdrawals, and the entries of its amendments, where there are any, each in order of id
abbrev pub state_bytes : Layout → Content → List ℕ
state_bytes layout state = counted (entry_bytes layout) (entries state.additions)
    ++ (counted tomb_bytes (entries state.tombstones) ++ amendments_bytes (entries state.replacements))

pub record IsState (layout : Layout) (state : Content) : Type 0 where
  pub sound : IsSound state
  pub additions : AreCounted (IsEntry layout) (entries state.additions)
  pub tombstones : AreCounted IsTomb (entries state.tombstones)
  pub replacements : AreCounted AreIds (entries state.replacements)

-- a state of the old version, which knows no amendments
pub record IsOldState (state : Content) : Type 0 where
  pub said : IsState Old state
  pub plain : entries state.replacements ≡ []

-- the kind of the records of a state, by its entries
abbrev pub records_kind : List (SiteCounter × SiteCounter) → ℕ
records_kind [] = 8
records_kind (entry ∷ rest) = 16

-- the kind of a frame, the first byte of its body
abbrev pub kind_of : FrameContent → ℕ
kind_of (old_hello source) = 1
kind_of (old_records state) = 2
kind_of ask = 3
kind_of (text bytes) = 4
kind_of (refused code) = 5
kind_of same = 6
kind_of (hello source) = 7
kind_of (records state) = records_kind (entries state.replacements)

-- what stands after the kind
abbrev pub rest_of : FrameContent → List ℕ
rest_of (old_hello source) = source_bytes source
rest_of (old_records state) = state_bytes Old state
rest_of ask = []
rest_of (text bytes) = bytes
rest_of (refused code) = code ∷ []
rest_of same = []
rest_of (hello source) = source_bytes source
rest_of (records state) = state_bytes New state

-- what has a spelling
abbrev pub HasSpelling : FrameContent → Type 0
HasSpelling (old_hello source) = IsSaidSource source
HasSpelling (old_records state) = IsOldState state
HasSpelling ask = Unit {0}
HasSpelling (text bytes) = Unit {0}
HasSpelling (refused code) = code < 256
HasSpelling same = Unit {0}
HasSpelling (hello source) = IsSaidSource source
HasSpelling (records state) = IsState New state

abbrev pub body_of : FrameContent → List ℕ
body_of frame = kind_of frame ∷ rest_of frame

-- how long the body is, in four bytes, and the body
abbrev pub spelling : FrameContent → List ℕ
spelling frame = measured (body_of frame)

-- a frame of the old version, which no site sends any more
abbrev pub IsOld : FrameContent → Type 0
IsOld (old_hello source) = ⊤
IsOld (old_records state) = ⊤
IsOld frame = ⊥

-- a frame: it has a spelling, and its body is not too long
pub record IsFrame (frame : FrameContent) : Type 0 where
  pub said : HasSpelling frame
  pub fits : length (body_of frame) ≤ most_body
