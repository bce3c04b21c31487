use Rattle.zk_servers_tests.proofs.route_tests.misrouted.Given as goal

abbrev pub ghosts-run-L-CallLedger : goal.ghosts-run-L-CallLedger
ghosts-run-L-CallLedger g a = record { servers = 3 }

abbrev pub ghosts-run-L-Ledger : goal.ghosts-run-L-Ledger
ghosts-run-L-Ledger g a = record { name = a.blank.name; parts = a.blank.parts }
