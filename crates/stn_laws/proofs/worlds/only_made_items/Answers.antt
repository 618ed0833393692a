use Rattle.stn_laws.proofs.worlds.Lawful.{lawful_run}
use Rattle.stn_laws.proofs.worlds.only_made_items.Goals as goal

pub returns-clause-held : goal.returns-clause-held
returns-clause-held c = λ source sites steps. (lawful_run source sites steps).held

pub returns-clause-at_sites : goal.returns-clause-at_sites
returns-clause-at_sites c = λ source sites steps site item h. let now = lawful_run source sites steps in now.made item (now.whole.sites site item h)

pub returns-clause-in_packets : goal.returns-clause-in_packets
returns-clause-in_packets c = λ source sites steps number item h. let now = lawful_run source sites steps in now.made item (now.whole.packets number item h)
