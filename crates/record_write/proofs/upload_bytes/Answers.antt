use Rattle.std.proofs.Common.{rules}
use Rattle.record_write.proofs.Parts.{upload_written}
use Rattle.record_write.proofs.upload_bytes.Goals as goal

pub returns-in-Upload : goal.returns-in-Upload
returns-in-Upload c =
    upload_written c.args.phase _ _ _ _ _ _ _ _ _ _ _ _ _ _ _ _ c.in-Upload.is (search rules) (search rules) (search rules) (search rules) (search rules) (search rules) (search rules) (search rules) (search rules)
