-- The windows of the first events, the origin first, one after another.
use Rattle.std.proofs.{lemmas.{Grind.common_steps, List.get_or_append_left}, Common.{rules, ◌≡◌, ℕ, ℤ, ◌+◌, ◌<◌, List, [], ◌∷◌, ◌++◌, length, length-append, arith}}
use Rattle.stn_net.specs.{Difference.Difference, Schedule.HasSchedule, Windows.Window.IsWindow}
use Rattle.stn_site.specs.Windows.{window_at, AreWindows}

pub record AreFirst (bounds : List Difference) (count : ℕ) (windows : List (ℤ × ℤ)) : Type 0 where
  pub counted : length windows ≡ count
  pub each : (event : ℕ) → event < count → IsWindow bounds event (window_at windows event).0 (window_at windows event).1

pub none_yet : (bounds : List Difference) → AreFirst bounds 0 []
none_yet bounds = search rules

module _ (bounds : List Difference) (count event : ℕ) (windows : List (ℤ × ℤ)) (one : ℤ × ℤ) (before : AreFirst bounds count windows) (is : event ≡ count) (window : IsWindow bounds event one.0 one.1) where
  earlier : (e : ℕ) → e < count → window_at (windows ++ one ∷ []) e ≡ window_at windows e
  earlier e below = search (rules, get_or_append_left)

  last : (e : ℕ) → e ≡ count → window_at (windows ++ one ∷ []) e ≡ one
  last e here = grind (arith, common_steps)

  pub one_more_window : AreFirst bounds (count + 1) (windows ++ one ∷ [])
  one_more_window = search (rules, length-append, earlier, last)

pub all_windows : (bounds : List Difference) (events count : ℕ) (windows : List (ℤ × ℤ)) → HasSchedule bounds → AreFirst bounds count windows → count ≡ events + 1 → AreWindows bounds events windows
all_windows bounds events count windows possible first all = search rules
