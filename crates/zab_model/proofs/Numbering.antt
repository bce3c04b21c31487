-- Servers, one more.
use Rattle.std.proofs.Common.{◌≡◌, ℕ, ◌+◌, [], ◌∷◌, ◌++◌, ap, sym, ◌∙◌, add-one}
use Rattle.zab_model.specs.ProcessStates.{new_server, new_servers}

pub new_servers_more : (servers before : ℕ) → new_servers servers (before + 1) ≡ new_servers servers before ++ new_server servers (before + 1) ∷ []
new_servers_more servers before =
    ap (new_servers servers) (add-one before)
    ∙ ap (λ number. new_servers servers before ++ new_server servers number ∷ []) (sym (add-one before))
