-- The font of a number: the built-in one, or a file that is checked whole.
-- Assumes nothing.
use Rattle.std.specs.Prelude.{Option, Some, None, List, cond, ℕ, eqb, take, drop}
use Rattle.directory.specs.declared.Location.{Location}
use Rattle.directory.specs.Directory.{find_of, found_number}
use Rattle.fonts.specs.Checks.{malformed, check_number}
use Rattle.fonts.specs.Fonts.{is_font}
use Rattle.builtin_font.specs.Table.{table}

-- a font's bytes, or the refusal's number
pub data Opened : Type 0 where
  opened : List ℕ → Opened
  shut : ℕ → Opened

-- 22 no such file, 23 malformed; h the rows of the framebuffer
unfoldable pub opened_at : ℕ → Option Location → List ℕ → Opened
opened_at h None s = shut (found_number None)
opened_at h (Some f) s = cond (is_font h (take f.size (drop f.start s))) (opened (take f.size (drop f.start s))) (shut (check_number malformed))

unfoldable pub open_font : ℕ → List ℕ → ℕ → Opened
open_font h s n = cond (eqb n 1) (opened table) (opened_at h (find_of s 1 n) s)
