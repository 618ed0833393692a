use Rattle.std.specs.{Prelude.{◌≡◌, ◌≢◌, ℕ, ◌≤◌, Bool, List, ◌∷◌, ◌++◌, All, Option, Some, None, if◌then◌else◌, refl}, Coded.{Coded, code_by, coded×, coded_ℕ}, declared.cmp.Ordering.Ordering, Ordering.{nat_cmp, ordering_then, eq_by_cmp, is_lt}}
pub use Rattle.stn_text.specs.Names.{SiteCounter, id_text}

-- sites are numbered from 1 to this
abbrev pub most_sites : ℕ
most_sites = 64

-- and the records of each are counted from 1 to this
abbrev pub most_counter : ℕ
most_counter = 65535

-- the number of a site lies from 1 to the most sites
pub record IsSite (number : ℕ) : Type 0 where
  pub least : 1 ≤ number
  pub most : number ≤ most_sites

-- both numbers lie in their ranges
pub record IsId (id : SiteCounter) : Type 0 where
  pub site : IsSite id.site
  pub least : 1 ≤ id.counter
  pub most : id.counter ≤ most_counter

-- by site, and then by counter
abbrev pub id_cmp : SiteCounter → SiteCounter → Ordering
id_cmp a b = ordering_then (nat_cmp a.site b.site) (nat_cmp a.counter b.counter)

-- two ids are the same
abbrev pub same_ids : SiteCounter → SiteCounter → Bool
same_ids = eq_by_cmp id_cmp

-- the lesser of two ids, or the one that is there
abbrev pub lesser_of : Option SiteCounter → Option SiteCounter → Option SiteCounter
lesser_of None b = b
lesser_of (Some x) None = Some x
lesser_of (Some x) (Some y) = if is_lt (id_cmp y x) then Some y else Some x

-- as a pair of numbers
abbrev pub coded_id : Coded SiteCounter
coded_id = code_by (ℕ × ℕ) (coded× coded_ℕ coded_ℕ) (λ id. (id.site, id.counter)) (λ p. record { site = p.0; counter = p.1 }) (λ _. refl)

-- the text is what stands before its first dot, the dot, and what stands after it
pub record SplitsAtDot (text before behind : List ℕ) : Type 0 where
  pub parts : text ≡ before ++ (46 ∷ behind)
  pub first : All (λ byte. byte ≢ 46) before
