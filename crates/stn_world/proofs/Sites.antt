-- The replicas of a world, as they are made and as one of them changes.
use Rattle.std.{proofs.{lemmas.{Grind.common_steps, List.{get_or_default, map-append, map-set, length-append, get_or-map, length-map, replicate_more, get_or-replicate, FromFn.get_or-range_with_len}}, Common.{rules, ◌≡◌, Some, ℕ, zero, suc, ◌+◌, ◌-◌, ◌<◌, ◌≤◌, List, [], ◌∷◌, ◌++◌, length, map, replicate, set, get_or, ap, sym, ◌∙◌, arith, subst, add-one}, Math.Seq.map-set_same}, specs.List.range_with_len}
use Rattle.stn_lift.specs.PlanSource.{PlanSource}
use Rattle.stn_records.specs.{Content.{Content, IsPart, no_content, join_contents, joined_contents}, ContentLaws.contents_repeat, Id.most_sites}
use Rattle.stn_site.specs.{Held.{Held, next_id}, Refusals.take_refusal}
use Rattle.stn_world.{specs.{World.{World, HasSite, HasPacket, content_at, packet_at, held_at, next_id_at, with_content}, Whole.{IsSites, IsCoherent, IsSoundWorld}, Sites.{site_contents, world_of}}, proofs.Whole.coherent_at_first}

-- one number more
pub range_more : (a n : ℕ) → range_with_len a (suc n) ≡ range_with_len a n ++ (a + n) ∷ []
range_more a zero = ap (λ k. k ∷ []) (omega arith)
range_more a (suc n) = ap (λ ks. a ∷ ks) (range_more (a + 1) n ∙ ap (λ k. range_with_len (a + 1) n ++ k ∷ []) (omega arith))

-- so many replicas of one plan, in order of site from 1 on, that hold nothing
pub record IsStarted (source : PlanSource) (count : ℕ) (replicas : List Held) : Type 0 where
  pub counted : length replicas ≡ count
  pub numbers : map (λ replica. replica.site) replicas ≡ range_with_len 1 count
  pub sources : map (λ replica. replica.source) replicas ≡ replicate count source
  pub nothing : site_contents replicas ≡ replicate count no_content

-- the first is of their plan
pub started_source : {source : PlanSource} {count : ℕ} {replicas : List Held} {first : Held} → IsStarted source count replicas → 1 ≤ count → first ≡ get_or replicas 0 first → first.source ≡ source
started_source all least is = grind (arith, common_steps, get_or-map)

-- one replica more
pub started_more : {source : PlanSource} {count : ℕ} {replicas : List Held} (one : Held) → IsStarted source count replicas
    → one.site ≡ suc count → one.source ≡ source → one.state ≡ no_content → IsStarted source (suc count) (replicas ++ one ∷ [])
started_more {source} {count} {replicas} one so_far site src state = let site_is : one.site ≡ 1 + count = omega arith in record {
  counted = length-append replicas (one ∷ []) ∙ omega (arith, so_far.counted);
  numbers = map-append (λ (r : Held). r.site) replicas (one ∷ []) ∙ (ap (λ ks. ks ++ one.site ∷ []) so_far.numbers ∙ (ap (λ k. range_with_len 1 count ++ k ∷ []) site_is ∙ sym (range_more 1 count)));
  sources = map-append (λ (r : Held). r.source) replicas (one ∷ []) ∙ (ap (λ ks. ks ++ one.source ∷ []) so_far.sources ∙ (ap (λ k. replicate count source ++ k ∷ []) src ∙ (replicate_more count source ∙ ap (λ (n : ℕ). replicate n source) (add-one count))));
  nothing = map-append (λ (r : Held). r.state) replicas (one ∷ []) ∙ (ap (λ ks. ks ++ one.state ∷ []) so_far.nothing ∙ (ap (λ k. replicate count no_content ++ k ∷ []) state ∙ (replicate_more count no_content ∙ ap (λ (n : ℕ). replicate n no_content) (add-one count))));
}

-- and they are a world's
pub started_sound : {source : PlanSource} {count : ℕ} {replicas : List Held} → IsStarted source count replicas → 1 ≤ count → count ≤ most_sites → IsSoundWorld source replicas []
started_sound {source} {count} all least most = record {
  sites = record {
    least = omega (arith, all.counted);
    most = omega (arith, all.counted);
    numbers = all.numbers ∙ ap (range_with_len 1) (sym all.counted);
    sources = all.sources ∙ ap (λ (n : ℕ). replicate n source) (sym all.counted);
  };
  few = omega arith;
  coherent = subst IsCoherent (ap (λ (l : List Content). record { source = source; sites = l; packets = [] }) (sym all.nothing)) (coherent_at_first source count);
}

-- a replica's site is its place and one
pub site_at : {source : PlanSource} {replicas : List Held} {place : ℕ} (d : Held) → IsSites source replicas → place < length replicas
    → (get_or replicas place d).site ≡ suc place
site_at {replicas} {place} d sites there =
    sym (get_or-map (λ (r : Held). r.site) replicas place d 0 there) ∙ (ap (λ ks. get_or ks place 0) sites.numbers ∙ (get_or-range_with_len 1 (length replicas) place 0 there ∙ omega arith))

-- a replica is of the world's plan
pub source_at : {source : PlanSource} {replicas : List Held} {place : ℕ} (d : Held) → IsSites source replicas → place < length replicas
    → (get_or replicas place d).source ≡ source
source_at {source} {replicas} {place} d sites there =
    cc (get_or-map (λ (r : Held). r.source) replicas place d source there, get_or-replicate (length replicas) place source source there)

-- a replica changes, and its site and its plan stay
pub sites_set : {source : PlanSource} {replicas : List Held} (place : ℕ) (one d : Held) → IsSites source replicas
    → one.site ≡ (get_or replicas place d).site → one.source ≡ (get_or replicas place d).source → IsSites source (set replicas place one)
sites_set place one d sites site src = search (rules, map-set_same)

-- a place of the world's sites is one of its replicas
pub place_within : {packets : List Content} {world : World} {source : PlanSource} (replicas : List Held) {place : ℕ} → world_of source replicas packets ≡ world → place < length world.sites → place < length replicas
place_within replicas is within = search (rules, length-map)

-- the replica of a site, as the world has it
pub record IsHeldAt (world : World) (site : ℕ) (one : Held) : Type 0 where
  pub number : one.site ≡ site
  pub source : one.source ≡ world.source
  pub state : one.state ≡ content_at world site

-- the world where a site's replica has become another
pub world_set : {packets : List Content} {world : World} {source : PlanSource} (replicas : List Held) {place : ℕ} (site : ℕ) (one : Held) {content : Content}
    → world ≡ world_of source replicas packets → place ≡ site - 1 → one.state ≡ content
    → world_of source (set replicas place one) packets ≡ with_content world site content
world_set {packets = packets} replicas site one is at holds = search (rules, map-set)

-- a replica as the world has it, but for the work that it has done
pub held_is : {world : World} {site : ℕ} {one : Held} → IsHeldAt world site one → one ≡ record (held_at world site) { steps = one.steps }
held_is held = search rules

pub next_id_at-held : {world : World} {site : ℕ} {one : Held} → IsHeldAt world site one → next_id one ≡ next_id_at world site
next_id_at-held {world} {site} {one} held = ap next_id (held_is held)

-- what refuses what the replica takes in refuses it at the site
pub take_refusal_at : {world : World} {site : ℕ} {one : Held} {theirs other : Content} → IsHeldAt world site one → theirs ≡ other → take_refusal one theirs ≡ take_refusal (held_at world site) other
take_refusal_at held is = cc

-- what is part of what the site holds is part of what its replica holds
pub part_there : {world : World} {site : ℕ} {one : Held} {theirs other : Content} → IsHeldAt world site one → theirs ≡ other → IsPart other (content_at world site) → IsPart theirs one.state
part_there held is inside = search rules

-- a join that is there is the union of both
pub join_is_joined : (a b : Content) {c : Content} → join_contents a b ≡ Some c → c ≡ joined_contents a b
join_is_joined a b there = search rules

-- a content joined with itself
pub joined_itself : {a : Content} → joined_contents a a ≡ a
joined_itself {a} = sym (join_is_joined a a (contents_repeat a))

pub held_there : {packets : List Content} (world : World) (source : PlanSource) (replicas : List Held) (place site : ℕ) (one : Held)
    → world_of source replicas packets ≡ world → IsSites source replicas → place ≡ site - 1 → HasSite world site
    → one ≡ get_or replicas place one → IsHeldAt world site one
held_there world source replicas place site one is sites at there same = search (rules, length-map, site_at, source_at, get_or-map)

-- the packet at a number's place is the number's
pub packet_there : {packets : List Content} {world : World} {source : PlanSource} (replicas : List Held) {place number : ℕ} {one : Content}
    → world_of source replicas packets ≡ world → place ≡ number - 1 → HasPacket world number → one ≡ get_or packets place one → one ≡ packet_at world number
packet_there {packets = packets} replicas is at there same = search (rules, get_or_default)
