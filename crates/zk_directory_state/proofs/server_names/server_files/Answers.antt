use Rattle.std.proofs.Common.{[]}
use Rattle.zk_directory_state.proofs.Told.{all_files, files_more}
use Rattle.zk_directory_state.specs.ServerFiles.{with_files}
use Rattle.zk_directory_state.proofs.server_names.server_files.Goals as goal

pub loop-name-preserved : goal.loop-name-preserved
loop-name-preserved c =
    let names = c.args.names.now in
    let i = c.loop-name.name-index in
    let name = c.name-item.result in
    files_more names i name c.loop-name.files.items c.push_read.new.files.items (with_files [] names) c.loop-name-test.true c.name-item.is c.loop-name.invariant c.in_ok-push_read.ensures

pub returns : goal.returns
returns c = all_files c.args.names.now c.loop-name.name-index c.loop-name.files.items c.loop-name-test.false c.loop-name.invariant
