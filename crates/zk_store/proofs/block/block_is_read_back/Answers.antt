use Rattle.zk_store.proofs.Blocks.{block_again}
use Rattle.zk_store.proofs.block.block_is_read_back.Goals as goal

pub returns : goal.returns
returns c =
    block_again c.args.book.now (record {
      promised = c.fits_32.ensures;
      current = c.fits_32-2.ensures;
      boots = c.fits_32-3.ensures;
      entries = c.fits_64.ensures;
      join = c.join_fits.ensures;
    })
