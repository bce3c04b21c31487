use Rattle.zk_views.proofs.Steps.{admits}
use Rattle.zk_views.proofs.publisher.readers_of.Goals as goal

pub reader-requires : goal.reader-requires
reader-requires c = admits
