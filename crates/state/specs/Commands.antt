-- The commands: the code behind 254 of each, and how many fixed arguments it has in each edition.
-- Assumes nothing.
use Rattle.std.specs.Prelude.{cond, List, [], ◌∷◌, ℕ, eqb}
use Rattle.state.specs.declared.Counts.{Counts}
use Rattle.state.specs.Editions.{newer}
use Rattle.state.specs.declared.Command.{Command}
use Rattle.state.specs.declared.Command.TheVariants.{Unknown, Clear, Home, SetPoint, SetPlace, WrapOn, WrapOff, ScrollOn, ScrollOff, ChooseFont, SetMetrics, SetColour, DrawPixel, DrawLine, ContinueLine, DrawFrame, FillRectangle, SetUpBar, WriteBar, SetUpStrip, ShiftStrip, ShowBitmap, DrawInline, UploadFont, UploadBitmap, DeleteFile, Purge, FlowOn, FlowOff, SetContrast, BacklightOn, BacklightOff, SetSerial}

-- data in line and an upload's bytes come behind the arguments
pub record Row : Type 0 where
  pub code : ℕ
  pub counts : Counts

abbrev pub counts : ℕ → ℕ → Counts
counts n m = record { older = n; newer = m }

-- alike in both editions
abbrev row : ℕ → ℕ → Row
row c n = record { code = c; counts = counts n n }

-- in the newer one byte more of a file's number, and two more of a size
abbrev numbered : ℕ → ℕ → ℕ → Row
numbered c n m = record { code = c; counts = counts n m }

abbrev pub row_of : Command → Row
row_of Unknown = row 0 0
row_of Clear = row 88 0
row_of Home = row 72 0
row_of SetPoint = row 121 2
row_of SetPlace = row 71 2
row_of WrapOn = row 67 0
row_of WrapOff = row 68 0
row_of ScrollOn = row 81 0
row_of ScrollOff = row 82 0
row_of ChooseFont = numbered 49 1 2
row_of SetMetrics = row 50 5
row_of SetColour = row 99 1
row_of DrawPixel = row 112 2
row_of DrawLine = row 108 4
row_of ContinueLine = row 101 2
row_of DrawFrame = row 114 5
row_of FillRectangle = row 120 5
row_of SetUpBar = row 103 6
row_of WriteBar = row 105 2
row_of SetUpStrip = row 106 5
row_of ShiftStrip = row 107 1
row_of ShowBitmap = numbered 98 3 4
row_of DrawInline = row 100 4
row_of UploadFont = numbered 36 3 6
row_of UploadBitmap = numbered 94 3 6
row_of DeleteFile = numbered 173 2 3
row_of Purge = row 33 2
row_of FlowOn = row 58 2
row_of FlowOff = row 59 0
row_of SetContrast = row 80 1
row_of BacklightOn = row 66 1
row_of BacklightOff = row 70 0
row_of SetSerial = row 52 2

abbrev pub code_of : Command → ℕ
code_of c = (row_of c).code

-- in edition e
abbrev pub arguments_of : ℕ → Command → ℕ
arguments_of e c = cond (eqb e newer) (row_of c).counts.newer (row_of c).counts.older

-- those that a code names; any other code is unknown
abbrev pub known : List Command
known =
    Purge ∷ UploadFont ∷ ChooseFont ∷ SetMetrics ∷ SetSerial ∷ FlowOn ∷ FlowOff ∷ BacklightOn ∷ WrapOn ∷ WrapOff ∷ BacklightOff ∷ SetPlace ∷ Home ∷
    SetContrast ∷ ScrollOn ∷ ScrollOff ∷ Clear ∷ UploadBitmap ∷ ShowBitmap ∷ SetColour ∷ DrawInline ∷ ContinueLine ∷ SetUpBar ∷ WriteBar ∷ SetUpStrip ∷
    ShiftStrip ∷ DrawLine ∷ DrawPixel ∷ DrawFrame ∷ FillRectangle ∷ SetPoint ∷ DeleteFile ∷ []

-- the first of them with that code
abbrev pub coded : ℕ → List Command → Command
coded n [] = Unknown
coded n (c ∷ l) = cond (eqb n (code_of c)) c (coded n l)

unfoldable pub command_of : ℕ → Command
command_of n = coded n known
