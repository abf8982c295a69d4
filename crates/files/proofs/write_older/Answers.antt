use Rattle.files.specs.Files.{record_bytes}
use Rattle.files.proofs.Writes.{low_byte}
use Rattle.files.proofs.write_older.Goals as goal

pub returns : goal.returns
unfolding record_bytes
returns c = rw (c.requires.1, ← low_byte c.args.number, ← low_byte c.args.size) (rw (c.to_le_bytes.ensures, c.to_le_bytes-2.ensures) at c.put.ensures)
