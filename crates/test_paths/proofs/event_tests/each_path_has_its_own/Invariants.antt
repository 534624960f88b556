use Rattle.std.proofs.Common.{Some}
use Rattle.test_paths.proofs.event_tests.each_path_has_its_own.Given as goal

abbrev pub ghosts-both_take_it-G-Ledger : goal.ghosts-both_take_it-G-Ledger
ghosts-both_take_it-G-Ledger g a = record { name = a.blank.name; parts = a.blank.parts }

abbrev pub ghosts-both_take_it-G-Road : goal.ghosts-both_take_it-G-Road
ghosts-both_take_it-G-Road g a = record { window = 8; reach = 32767; first = Some 0; frames = Some 3 }
