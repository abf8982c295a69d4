-- A walk over the records of a directory.
-- Assumes nothing.
use Rattle.std.specs.Prelude.{◌≡◌, ◌≢◌, ◌<◌, Option, MatchOption, ◌+◌}
use Rattle.directory.specs.declared.Record.{Record}
use Rattle.directory.specs.declared.Records.{Records}
use Rattle.directory.specs.Directory.{step_at, entry_at}

-- a step from w that gave x and left t: the record where the walk stands, if there is one, and the walk stands behind it
abbrev pub goes_on : Records → Option Record → Records → Type 0
goes_on w x t =
    MatchOption x (step_at w.store.now w.at ≡ 0)
    (λ r. (step_at w.store.now w.at ≢ 0) × (r.at ≡ w.at) × (r.behind ≡ w.at + step_at w.store.now w.at) × (r.entry ≡ entry_at w.store.now w.at) × (r.entry.size < 4294967296)
    × (t.store.now ≡ w.store.now) × (t.at ≡ r.behind))
