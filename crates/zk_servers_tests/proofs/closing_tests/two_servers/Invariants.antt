use Rattle.zk_servers_tests.proofs.closing_tests.two_servers.Given as goal

abbrev pub ghosts-run_two-L-CallLedger : goal.ghosts-run_two-L-CallLedger
ghosts-run_two-L-CallLedger g a = record { servers = 2 }

abbrev pub ghosts-run_two-L-Ledger : goal.ghosts-run_two-L-Ledger
ghosts-run_two-L-Ledger g a = record { name = a.blank.name; parts = a.blank.parts }
