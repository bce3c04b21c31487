use Rattle.zk_commands.proofs.log_folder.first_zxid.Goals as goal

pub returns : goal.returns
returns c = (c.in_ok-file.file, c.in_ok-file.ensures, c.first_by.ensures)
