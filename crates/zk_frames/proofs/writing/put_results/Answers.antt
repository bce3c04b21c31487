use Rattle.zk_frames.specs.Replies.{result_of}
use Rattle.zk_frames.proofs.Lengths.{element_short}
use Rattle.zk_frames.proofs.writing.put_results.Goals as goal

pub put_result-requires : goal.put_result-requires
put_result-requires c = element_short result_of c.args.results.now c.as_slice-part-items.result.now c.loop-part.part-index c.part-item.result c.requires c.as_slice-part-items.ensures c.loop-part-test.true c.part-item.is
