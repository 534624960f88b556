use Rattle.cmd_paths.proofs.command.run_request.Given as goal

abbrev pub ghosts-run_links-G-Ledger : goal.ghosts-run_links-G-Ledger
ghosts-run_links-G-Ledger g a = record { name = a.blank.name; parts = a.blank.parts }

abbrev pub ghosts-run_links-G-Road : goal.ghosts-run_links-G-Road
ghosts-run_links-G-Road g a = record { window = a.request.now.window; reach = a.request.now.reach; first = a.request.now.first; frames = a.request.now.frames }
