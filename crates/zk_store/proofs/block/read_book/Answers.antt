use Rattle.zk_store.proofs.Blocks.{rest_length}
use Rattle.zk_store.proofs.block.read_book.Goals as goal

pub read_join-requires : goal.read_join-requires
read_join-requires c =
    rest_length c.args.bytes.now c.get_u32-promised.new.self.now c.get_u32-current.new.self.now c.get_u32-boots.new.self.now c.get_u64-entries.new.self.now c.requires c.get_u32-promised.ensures.rest c.get_u32-current.ensures.rest
    c.get_u32-boots.ensures.rest c.get_u64-entries.ensures.rest
