-- The logs of a folder, one after another.
use Rattle.std.proofs.Common.{◌≡◌, ℕ, ℤ, ◌+◌, ◌<◌, List, [], ◌∷◌, ◌++◌, length, take, get_or, Option, sym, subst}
use Rattle.std.proofs.lemmas.List.{take_more}
use Rattle.zk_verification.specs.declared.log_bytes.LogBytes.{LogBytes}
use Rattle.zk_verification.specs.Verifications.{AreLoaded, IsLoaded}

loaded_more : (bytes_in : List ℕ → Option (List ℕ)) (zxids : List ℤ) (logs : List LogBytes) (zxid : ℤ) (log : LogBytes) → AreLoaded bytes_in zxids logs → IsLoaded bytes_in zxid log → AreLoaded bytes_in (zxids ++ zxid ∷ []) (logs ++ log ∷ [])
loaded_more bytes_in [] [] zxid log are one = (one, tt)
loaded_more bytes_in [] (other ∷ logs) zxid log are one = absurd are
loaded_more bytes_in (other ∷ zxids) [] zxid log are one = absurd are
loaded_more bytes_in (other ∷ zxids) (more ∷ logs) zxid log are one = (are.0, loaded_more bytes_in zxids logs zxid log are.1 one)

pub loaded_on : (bytes_in : List ℕ → Option (List ℕ)) (zxids : List ℤ) (i : ℕ) (old new : List LogBytes) (zxid : ℤ) (log : LogBytes) → i < length zxids → AreLoaded bytes_in (take i zxids) old → IsLoaded bytes_in zxid log → zxid ≡ get_or zxids i zxid → new ≡ old ++ log ∷ [] → AreLoaded bytes_in (take (i + 1) zxids) new
loaded_on bytes_in zxids i old new zxid log lt so_far one is e =
    subst (AreLoaded bytes_in (take (i + 1) zxids)) (sym e) (subst (λ l. AreLoaded bytes_in l (old ++ log ∷ [])) (sym (take_more zxids i zxid lt)) (loaded_more bytes_in (take i zxids) old (get_or zxids i zxid) log so_far (subst (λ z. IsLoaded bytes_in z log) is one)))
