use Rattle.stn_store.proofs.files.FileStoreStoreGlobal.save.Goals as goal

pub returns-clause-spelled : goal.returns-clause-spelled
returns-clause-spelled g c = rw c.in_ok-text.ensures.text c.in_ok-text.ensures.loaded
