-- One list has the known ids, each once and in order.
use Rattle.std.{proofs.{Common.{◌≡◌, true, List}, lemmas.{Bool.Decides.same_from_decides, Map.{Lookups.btree_set_from_contains, Views.{Contains-from_any, list_any-from_Contains}}}}, specs.{Set.is_member, Bool.Decides}}
use Rattle.stn_records.specs.{Id.SiteCounter, Content.{Content, is_known, same_ids}, ContentLaws.{ids_total, ids_exact}}
use Rattle.stn_questions.{specs.Records.AreKnown, proofs.KnownOnce.{laws, same_is}}
use Rattle.stn_laws.proofs.One.{IsOne}

-- whether the list has an id tells whether it is known
known : (state : Content) (ids : List SiteCounter) → AreKnown state ids → (id : SiteCounter) → Decides (is_member same_ids ids id) (is_known state id ≡ true)
known state ids are id = (λ m. (are.known id).0 (Contains-from_any same_is id ids m), λ known. list_any-from_Contains laws id ids ((are.known id).1 known))

-- there is one such list
pub one_known : (state : Content) → IsOne (AreKnown state)
one_known state xs ys p q =
    btree_set_from_contains ids_total (record { keys = xs }) (record { keys = ys }) p.order q.order
    (λ id. same_from_decides _ _ (known state xs p id) (known state ys q id)) ids_exact
