-- The ledger is the blank's.
use Rattle.zk_serve.proofs.servers.serve_clients.Given as goal

abbrev pub ghosts-serve_over-L-CallLedger : goal.ghosts-serve_over-L-CallLedger
ghosts-serve_over-L-CallLedger g a = record { servers = a.servers }

abbrev pub ghosts-serve_over-L-Ledger : goal.ghosts-serve_over-L-Ledger
ghosts-serve_over-L-Ledger g a = record { name = a.blank.name; parts = a.blank.parts }
