-- The record of a state, 209 bytes: what is written of it, and which records are accepted.
-- Assumes nothing.
use Rattle.std.specs.Prelude.{Bool, true, false, ◌&&◌, List, [], ◌∷◌, ◌++◌, ℕ, eqb, length, take, drop}
use Rattle.canvas.specs.Sizes.{is_height}
use Rattle.state.specs.declared.State.{State}
use Rattle.state.specs.Soundness.{sound_state, thresholds_fit}
use Rattle.state.specs.Canonical.{canonical_state}
use Rattle.record.specs.Layout.{record_size}
use Rattle.record.specs.Reading.{height_in, decode_of}
use Rattle.record.specs.Writing.{encode_of}

-- written over the first bytes of g, as far as g goes; the bytes of g behind the record stay
unfoldable pub encoded_in : State → List ℕ → List ℕ
encoded_in s g = take (length g) (encode_of s) ++ drop record_size g

unfoldable pub same_bytes : List ℕ → List ℕ → Bool
same_bytes [] [] = true
same_bytes [] (b ∷ m) = false
same_bytes (a ∷ l) [] = false
same_bytes (a ∷ l) (b ∷ m) = eqb a b && same_bytes l m

-- what is looked at before all else: of the right length, with a height that there is
unfoldable pub recognised : List ℕ → Bool
recognised r = eqb (length r) record_size && is_height (height_in r)

-- what is not refused with 3: of the right length, its state sound, with flow thresholds below 80; and what the layout adds: its state canonical, and written as
-- that state is written (tags and flags have one byte for each meaning)
unfoldable pub sound_record : List ℕ → Bool
sound_record r =
    eqb (length r) record_size
    && sound_state (decode_of r)
    && thresholds_fit (decode_of r).port.flow
    && canonical_state (decode_of r)
    && same_bytes (encode_of (decode_of r)) r
