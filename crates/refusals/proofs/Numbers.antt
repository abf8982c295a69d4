-- THE NUMBERS, from 16 on without a gap, in the order of the rules' list.
-- Assumes nothing.
use mathlib.Core.Path.{◌≡◌, refl}
use mathlib.Core.List.{List, [], ◌∷◌}
use Prim.Native.Nat.{ℕ}
use Rattle.refusals.specs.Refusals.{unknown_command, out_of_bounds, corners_out_of_order, number_out_of_range, unknown_type, not_set_up, no_such_file, malformed_file, no_space, number_in_use, upload_aborted, bad_watermarks, no_glyph, glyph_does_not_fit}

pub numbers : ◌≡◌ {A = List ℕ} (unknown_command ∷ out_of_bounds ∷ corners_out_of_order ∷ number_out_of_range ∷ unknown_type ∷ not_set_up ∷ no_such_file ∷ malformed_file
    ∷ no_space ∷ number_in_use ∷ upload_aborted ∷ bad_watermarks ∷ no_glyph ∷ glyph_does_not_fit ∷ [])
    (16 ∷ 17 ∷ 18 ∷ 19 ∷ 20 ∷ 21 ∷ 22 ∷ 23 ∷ 24 ∷ 25 ∷ 26 ∷ 27 ∷ 28 ∷ 29 ∷ [])
numbers = refl
