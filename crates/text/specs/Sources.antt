-- Where the font of a number lies, and the font that lies there.
-- What the contract of a lookup cites, and no rule.
-- Assumes nothing.
use Rattle.std.specs.Prelude.{List, Option, None, Some, Result, Ok, Err, cond, ℕ, eqb, take, drop}
use Rattle.refusals.specs.declared.Refusal.{Refusal}
use Rattle.refusals.specs.declared.Refusal.TheVariants.{NoSuchFile, MalformedFile}
use Rattle.refusals.specs.Refusals.{number_of}
use Rattle.directory.specs.declared.Location.{Location}
use Rattle.directory.specs.Directory.{find_of}
use Rattle.fonts.specs.Fonts.{is_font}
use Rattle.builtin_font.specs.Table.{table}
use Rattle.rules.specs.Fonts.{Opened, opened, shut}
use Rattle.text.specs.declared.Source.{Source}
use Rattle.text.specs.declared.Source.TheVariants.{BuiltIn, Stored}

-- 22 no such file, 23 malformed; h the rows of the framebuffer
unfoldable pub source_at : ℕ → Option Location → List ℕ → Result Source Refusal
source_at h None s = Err NoSuchFile
source_at h (Some f) s = cond (is_font h (take f.size (drop f.start s))) (Ok (Stored f.start f.size)) (Err MalformedFile)

unfoldable pub source_of : ℕ → List ℕ → ℕ → Result Source Refusal
source_of h s n = cond (eqb n 1) (Ok BuiltIn) (source_at h (find_of s 1 n) s)

unfoldable pub opened_by : List ℕ → Result Source Refusal → Opened
opened_by s (Ok BuiltIn) = opened table
opened_by s (Ok (Stored start size)) = opened (take size (drop start s))
opened_by s (Err refusal) = shut (number_of refusal)
