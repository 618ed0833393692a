use Rattle.stn_logs.proofs.commands.find_names.Goals as goal

pub returns-in-Some-false : goal.returns-in-Some-false
returns-in-Some-false g c = rw (c.in-Some-false.is-0, c.in-Some-false.is-1) c.text_of_file.ensures
