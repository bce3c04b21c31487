use Rattle.zk_alloc_failure_tests.proofs.servers.serve.Given as goal

abbrev pub ghosts-run-L-CallLedger : goal.ghosts-run-L-CallLedger
ghosts-run-L-CallLedger g a = record { servers = 2 }

abbrev pub ghosts-run-L-Ledger : goal.ghosts-run-L-Ledger
ghosts-run-L-Ledger g a = record { name = a.blank.name; parts = a.blank.parts }
