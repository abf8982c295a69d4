-- When a stored file stays, and which commands take one out.
-- Assumes nothing.
use Rattle.std.specs.Prelude.{◌≡◌, true, false, ◌&&◌, List, ℕ, ◌+◌, eqb}
use Rattle.directory.specs.Directory.{entries, has_file}
use Rattle.file_laws.specs.Layout.{file_of}
use Rattle.state.specs.declared.Command.{Command}
use Rattle.state.specs.declared.Command.TheVariants.{DeleteFile, Purge}
use Rattle.state.specs.declared.Phase.TheVariants.{Gathering}
use Rattle.state.specs.Commands.{command_of, arguments_of}
use Rattle.rules.specs.World.{World, edition, port, arg}
use Rattle.rules.specs.Numbers.{number_at}
use Rattle.rules.specs.Step.{gathered, Input, byte, time}

-- from store s to store t: the same records, and every file's bytes
pub record Spared (s t : List ℕ) : Type 0 where
  pub records : entries t ≡ entries s
  pub files : (k n : ℕ) → file_of t k n ≡ file_of s k n

-- file n of sort k is there, with the bytes that it had
pub record Stays (s t : List ℕ) (k n : ℕ) : Type 0 where
  pub there : has_file (entries t) k n ≡ true
  pub bytes : file_of t k n ≡ file_of s k n

-- in edition e a command with these arguments is no purge, and no delete of file n of sort k
pub record Harmless (e : ℕ) (c : Command) (a : List ℕ) (k n : ℕ) : Type 0 where
  pub no_purge : c ≡ Purge → (eqb (arg a 0) 89 && eqb (arg a 1) 33) ≡ false
  pub no_delete : c ≡ DeleteFile → (eqb (arg a 0 + 1) k && eqb (number_at e a 1) n) ≡ false

-- a byte does not end such a command, and time ends none
abbrev pub Spares : World → Input → ℕ → ℕ → Type 0
Spares w (byte b) k n =
    (c g : ℕ) → (port w).line.phase ≡ Gathering c g → g + 1 ≡ arguments_of (edition w) (command_of c) → Harmless (edition w) (command_of c) (gathered w g b) k n
Spares w (time ms) k n = Unit {0}
