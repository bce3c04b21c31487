use Rattle.zk_records.specs.Records.{ustring}
use Rattle.zk_records.proofs.Lengths.{vector_count, vector_element}
use Rattle.zk_frames.proofs.Lengths.{text_filled, text_short}
use Rattle.zk_frames.proofs.field_writers.put_names.Goals as goal

pub put_count-requires : goal.put_count-requires
put_count-requires c = vector_count ustring text_filled c.args.names.now c.as_slice.result.now c.requires c.as_slice.ensures

pub put_text-requires : goal.put_text-requires
put_text-requires c =
    let short = vector_element ustring c.args.names.now c.as_slice-name-items.result.now c.loop-name.name-index c.name-item.result c.requires c.as_slice-name-items.ensures c.loop-name-test.true c.name-item.is in
    text_short _ _ short c.as_str.ensures
