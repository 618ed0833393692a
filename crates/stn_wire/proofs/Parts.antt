-- Fields that are read and written one after the other.
use Rattle.std.{proofs.Common.{rules, ◌≡◌, ℕ, ℤ, ◌≤◌, List, ◌++◌, take, drop, Option, Result, OnOk, IfOk, IfErr, append_assoc, take-append-drop}, specs.Result.result_ok}
use Rattle.stn_net.specs.{Event.most_events, Difference.{Difference, IsBoundWithin, IsFaultOf}, declared.bound.BoundFault.BoundFault}
use Rattle.stn_records.specs.declared.record.Mark.{Mark}
use Rattle.stn_wire.specs.{declared.layout.Layout.Layout, Reading.IsReadFrom, Spelling.{two, side_bytes, IsLow, IsHigh, bound_bytes, IsBound}}

-- what is appended after a first part
pub append_then : {T E : Type 0} (r : Result T E) (old mid new a b : List ℕ) → mid ≡ old ++ a → OnOk r (new ≡ mid ++ b) → OnOk r (new ≡ old ++ (a ++ b))
append_then r old mid new a b first second = search (rules, append_assoc)

-- a text that is split
pub split : (n : ℕ) (bytes front back : List ℕ) → front ≡ take n bytes → back ≡ drop n bytes → bytes ≡ front ++ back
split n bytes front back p q = search (rules, take-append-drop)

module _ (layout : Layout) (mark : Mark) (bytes first second third fourth : List ℕ) (cut : bytes ≡ first ++ (second ++ (third ++ fourth)))
    (from to : ℕ) (lo hi : ℤ) (from_known : from ≤ most_events) (to_known : to ≤ most_events) (lo_known : IsLow layout mark lo) (hi_known : IsHigh layout mark hi)
    (from_is : first ≡ two from) (to_is : second ≡ two to) (lo_is : third ≡ side_bytes layout lo) (hi_is : fourth ≡ side_bytes layout hi) where
  abbrev pub made : Difference
  made = record { from = from; to = to; lo = lo; hi = hi }

  spelled : bytes ≡ bound_bytes layout made
  spelled = cc

  -- a bound is read from its four fields
  pub bound_read : (r : Result Difference BoundFault) (o : Option Difference) → IfOk r (λ bound. bound ≡ made) → IfOk r (λ bound. IsBoundWithin most_events bound) → IfErr r (λ fault. IsFaultOf most_events made fault) → o ≡ result_ok r
      → IsReadFrom (IsBound layout mark) (bound_bytes layout) bytes o
  bound_read r o is sound fault e = search rules
