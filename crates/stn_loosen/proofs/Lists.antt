-- Parts of lists, and the key that a closure gives.
use Rattle.std.{proofs.{Common.{rules, ◌≡◌, List, ◌++◌, All}, lemmas.Fn.always_returns_same}, specs.Fn.{Called, ComputesKey}}
use Rattle.stn_time.proofs.Each.{All-left, All-right}
use denote.{Param.Members.Mut, Ref.Bor}

-- what holds of all elements of three lists
module _ {X : Type 0} (xs ys zs : List X) (P : X → Type 0) (all : All P (xs ++ (ys ++ zs))) where
  pub in_first : All P xs
  in_first = All-left P xs (ys ++ zs) all

  pub in_second : All P ys
  in_second = All-left P ys zs (All-right P xs (ys ++ zs) all)

  pub in_third : All P zs
  in_third = All-right P ys zs (All-right P xs (ys ++ zs) all)

-- a key that the calls of a closure give
pub key_given : {X K F : Type 0} {g : Mut F (Bor X × Unit {0}) K} {f : F} (key : X → K) (Q : (X → K) → Type 0) → ((other : X → K) → ComputesKey g other f → Q other)
    → ((a : Bor X × Unit {0}) (r : K) (f' : F) → Called g f a r f' → (r ≡ key a.0.now) × (f' ≡ f)) → Q key
key_given {g = g} {f = f} key Q clause calls = search (rules, always_returns_same)
