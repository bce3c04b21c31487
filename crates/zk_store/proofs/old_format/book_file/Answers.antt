use Rattle.std.proofs.Common.{◌≡◌, ◌∙◌, ◌++◌, ◌∷◌, [], List, ℕ, ap, refl}
use Rattle.zk_store.proofs.OldFiles.{whole_book}
use Rattle.zk_store.proofs.old_format.book_file.Goals as goal

pub returns : goal.returns
returns c =
    let block = c.in_ok-block.block.items in
    let a = c.in_ok-put_sector.ensures in
    let b = c.in_ok-put_sector-2.ensures in
    let first : c.put_sector.new.bytes.items ≡ block ++ a.0 = a.1.1 ∙ ap (λ (l : List ℕ). l ++ (c.as_slice.result.now ++ a.0)) c.new-bytes.ensures.items ∙ ap (λ (l : List ℕ). l ++ a.0) c.as_slice.ensures.value in
    let both = b.1.1 ∙ ap (λ (l : List ℕ). l ++ (c.as_slice-2.result.now ++ b.0)) first ∙ ap (λ (l : List ℕ). (block ++ a.0) ++ (l ++ b.0)) c.as_slice-2.ensures.value in
    whole_book c.args.book.now block a.0 b.0 (0 ∷ 0 ∷ 0 ∷ []) c.extend_from_slice.new.self.items c.in_ok-block.ensures c.block_is_read_back.ensures a.1.0 b.1.0 refl
    (c.in_ok-extend_from_slice.ensures.items ∙ ap (λ (l : List ℕ). l ++ 0 ∷ 0 ∷ 0 ∷ []) both)
