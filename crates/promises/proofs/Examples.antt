-- The marked examples hold, all of them: one claim.
-- Assumes nothing.
use mathlib.Core.Path.{◌≡◌, ◌∙◌, refl, sym, ap, subst}
use mathlib.Core.Bool.{Bool, true, false, cond, ◌||◌, beq}
use mathlib.Core.List.{List, [], ◌∷◌}
use native.Mathlib.Omega.{arith}
use Prim.Native.Nat.{ℕ, ◌%◌}
use lib.ListN.{length, length-replicate, get_or-replicate, replicate}
use borrow.Author.Tests.{eq-eqb}
use Rattle.pixels.specs.Framebuffer.{Region, Picture, width, plain, pixel, put, fill, repaint, picture, bytes_of, byte_of, digit, bit_of, cell}
use Rattle.pixels.specs.Regions.{within, some, point, rectangle, box}
use Rattle.pixels.proofs.Bits.{bit_zero}
use Rattle.pixels.proofs.Tests.{all, all_at, same}
use Rattle.pixels.proofs.Painting.{pixel_put, length-repaint}
use Rattle.canvas.specs.Sizes.{low_height, tall_height, is_height, length_for}
use Rattle.canvas.proofs.Heights.{at_heights, height_most}
use Rattle.line.specs.Line.{line, towards, rise, line_x, line_y}
use Rattle.bar_graph.specs.Bars.{depth, length_of, held_to, stripe, write_of}
use Rattle.spans.specs.Bits.{packed_bit}
use Rattle.bitmap.specs.Bitmaps.{packed, inline_pixels, inline_bits}
use Rattle.directory.specs.Directory as directory
use Rattle.files.specs.Files.{appended, record_bytes}
use Rattle.fonts.specs.Checks.{between}
use Rattle.fonts.specs.Bitmaps.{packed_bytes, is_bitmap}
use Rattle.fonts.specs.Fonts.{is_font, are_entries, is_entry, offset_at, width_at}
use Rattle.opened_font.specs.Glyphs.{glyph_of, glyph_in}
use Rattle.state.specs.State.{config, bar_of}
use Rattle.state.specs.declared.Config.{Config}
use Rattle.state.specs.Editions.{older, is_edition}
use Rattle.state.specs.Commands.{command_of}
use Rattle.record.specs.Reading.{decode_of, port_of, phase_of}
use Rattle.record.specs.Writing.{encode_of, port_bytes, phase_bytes, panel_bytes, many_bytes}
use Rattle.rules.specs.World.{World}
use Rattle.rules.specs.Fonts.{open_font, opened_at}
use Rattle.rules.specs.Text.{font_chosen, choose_font, wrapped, fitted, drawn_by, drawn_at, drawn_on, character_in, character}
use Rattle.rules.specs.Drawing.{draw_pixel, draw_line}
use Rattle.rules.specs.Bars.{set_up_bar, write_bar}
use Rattle.rules.specs.Pictures.{bitmap_in, bitmap_at, show_bitmap, begin_inline, inline_data}
use Rattle.rules.specs.Files.{lacks_space, begin_upload, upload_data}
use Rattle.rules.specs.Settings.{flow_on}
use Rattle.rules.specs.Step.{obey, code, argument, alone, by_phase, refuse, after, step, replies}
use Rattle.rules.specs.Calls.{bytes, run, said, taken}
use Rattle.rules.proofs.GoodLists.{bytes_zeros}
use Rattle.calls.specs.Memory.{Kept}
use Rattle.calls.specs.Start.{start_checked, start_of, start_world}
use Rattle.calls.specs.Feed.{Fed, fed_inputs, feed_of}
use Rattle.calls.specs.List.{Board}
use Rattle.calls.proofs.Demands.{start_kept, start_left, fed_kept}
use Rattle.promises.specs.Examples.{Row, given, begun, fed_to, Shows, Gives, Holds, AllHold, HasAll, byte, nothing, table, corner_pixels, pixel_out_of_bounds, line_down, line_back, one_pixel, bar_from_bottom, bar_from_left, bar_from_right, letter_t, saved_picture, picture_in_line, flow_refused, flow_accepted, upload_fits, upload_too_large}

-- ---- the start

abbrev store : List ℕ
store = replicate 1024 0

abbrev white : ℕ → List ℕ
white h = replicate (length_for h) 0

-- the older edition
abbrev chosen : ℕ → Config
chosen h = config h older

passes : (h : ℕ) → is_height h ≡ true → start_checked (chosen h) (given h) (replicate 85 7) ≡ 0
unfolding start_checked is_edition directory.valid_of directory.entries_from directory.read_from directory.step_at directory.length_of directory.bytes_in directory.sizes_in directory.zeros_from directory.zeros directory.keep_rules
passes h e = rw (e, eq-eqb (length (replicate (length_for h) 255)) (length_for h) (length-replicate {A = ℕ} (length_for h) 255))

module _ (h : ℕ) (e : is_height h ≡ true) where
  abbrev begins : World
  begins = start_world (chosen h) store

  kept : Kept begins
  kept = start_kept (chosen h) (given h) (replicate 85 7) (bytes_zeros 1024) (passes h e)

  started : (begun h).answer ≡ 0
  unfolding start_of
  started = rw (passes h e)

  fed_is : (l : List ℕ) → fed_to h l ≡ fed_inputs begins (bytes l) (taken begins 64 (bytes l))
  fed_is l = ap (λ (b : Board). feed_of b.memory (bytes l) 64) (sym (start_left (chosen h) (given h) (replicate 85 7) (passes h e))) ∙ fed_kept begins (bytes l) 64 kept

  holds : (r : Row) → Gives h (fed_inputs begins (bytes r.stream) (taken begins 64 (bytes r.stream))) r → Holds h r
  holds r g = (started, subst (λ (f : Fed). Gives h f r) (sym (fed_is r.stream)) g)

-- ---- what a painted framebuffer shows

white_shows : {h : ℕ} → Shows h (white h) nothing
unfolding pixel
white_shows {h} =
    record {
      size = length-replicate {A = ℕ} (length_for h) 0;
      at = λ x y hx hy. ap (λ (b : ℕ). bit_of b (x % 8)) (get_or-replicate {A = ℕ} (length_for h) (cell x y) 0 0 (omega arith)) ∙ bit_zero (x % 8);
    }

layer : (s : Region) (p : Picture) {h : ℕ} {g : List ℕ} {q : Picture} → Shows h g q → Shows h (put s p g) (λ x y. cond (s x y) (p x y) (q x y))
layer s p {g = g} {q = q} k =
    record {
      size = length-repaint _ g ∙ k.size;
      at = λ x y hx hy. pixel_put s p g x y (hx, omega (arith, k.size)) ∙ ap (cond (s x y) (p x y)) (k.at x y hx hy);
    }

-- the same picture in other words
worded : {h : ℕ} {g : List ℕ} {p : Picture} (q : Picture) → Shows h g p → ((x y : ℕ) → p x y ≡ q x y) → Shows h g q
worded q k f = record { size = k.size; at = λ x y hx hy. k.at x y hx hy ∙ f x y }

black_there : (a : Bool) → cond a true false ≡ a
black_there true = refl
black_there false = refl

black_at_both : (a b : Bool) → cond b true (cond a true false) ≡ (a || b)
black_at_both true true = refl
black_at_both true false = refl
black_at_both false true = refl
black_at_both false false = refl

abbrev alike : Picture → Picture → Bool
alike p q = all width (λ x. all tall_height (λ y. beq (p x y) (q x y)))

-- compared at every pixel of the tall framebuffer, and so of the low one
exactly : {h : ℕ} (e : is_height h ≡ true) {g : List ℕ} {p : Picture} (q : Picture) → Shows h g p → alike p q ≡ true → Shows h g q
exactly {h} e {p = p} q k a =
    record {
      size = k.size;
      at = λ x y hx hy.
          k.at x y hx hy
          ∙ same (p x y) (q x y)
          (all_at tall_height (λ y. beq (p x y) (q x y)) (all_at width (λ x. all tall_height (λ y. beq (p x y) (q x y))) a x hx) y (omega (arith, height_most h e)));
    }

-- ---- the rows

low : is_height low_height ≡ true
unfolding is_height
low = refl

tall : is_height tall_height ≡ true
unfolding is_height
tall = refl

corner_bytes : (h : ℕ) → is_height h ≡ true → HasAll (fill (point 239 63) true (fill (point 0 0) true (white h))) (byte 0 128 ∷ byte 1919 1 ∷ [])
unfolding repaint picture bytes_of byte_of digit pixel bit_of within
corner_bytes h e =
    at_heights (λ (n : ℕ). HasAll (fill (point 239 63) true (fill (point 0 0) true (white n))) (byte 0 128 ∷ byte 1919 1 ∷ [])) (refl, (refl, tt)) (refl, (refl, tt)) h e

corner_pixels_lem : (h : ℕ) → is_height h ≡ true → Holds h corner_pixels
unfolding bytes run said taken step replies after by_phase alone code argument obey command_of decode_of port_of phase_of encode_of port_bytes phase_bytes panel_bytes many_bytes within draw_pixel
corner_pixels_lem h e =
    holds h e corner_pixels (record { answered = refl; consumed = refl; shows = worded corner_pixels.black (layer (point 239 63) (plain true) (layer (point 0 0) (plain true) white_shows)) (λ x y. black_at_both (point 0 0 x y) (point 239 63 x y)); has = corner_bytes h e; replies = refl; refused = refl; reason = refl; flows = refl })

pixel_out_of_bounds_lem : (h : ℕ) → is_height h ≡ true → Holds h pixel_out_of_bounds
unfolding bytes run said taken step replies after by_phase alone code argument obey command_of decode_of port_of phase_of encode_of port_bytes phase_bytes panel_bytes many_bytes within draw_pixel
pixel_out_of_bounds_lem h e =
    holds h e pixel_out_of_bounds (record { answered = refl; consumed = refl; shows = exactly e _ (layer (point 240 0) (plain true) white_shows) refl; has = tt; replies = refl; refused = refl; reason = refl; flows = refl })

line_down_lem : (h : ℕ) → is_height h ≡ true → Holds h line_down
unfolding bytes run said taken step replies after by_phase alone code argument obey command_of decode_of port_of phase_of encode_of port_bytes phase_bytes panel_bytes many_bytes within draw_line some towards rise line_x line_y
line_down_lem h e =
    holds h e line_down (record { answered = refl; consumed = refl; shows = worded line_down.black (layer (line 0 0 2 1) (plain true) white_shows) (λ x y. black_there (line 0 0 2 1 x y)); has = tt; replies = refl; refused = refl; reason = refl; flows = refl })

line_back_lem : (h : ℕ) → is_height h ≡ true → Holds h line_back
unfolding bytes run said taken step replies after by_phase alone code argument obey command_of decode_of port_of phase_of encode_of port_bytes phase_bytes panel_bytes many_bytes within draw_line some towards rise line_x line_y
line_back_lem h e =
    holds h e line_back (record { answered = refl; consumed = refl; shows = worded line_back.black (layer (line 2 1 0 0) (plain true) white_shows) (λ x y. black_there (line 2 1 0 0 x y)); has = tt; replies = refl; refused = refl; reason = refl; flows = refl })

one_pixel_lem : (h : ℕ) → is_height h ≡ true → Holds h one_pixel
unfolding bytes run said taken step replies after by_phase alone code argument obey command_of decode_of port_of phase_of encode_of port_bytes phase_bytes panel_bytes many_bytes within draw_line some towards rise line_x line_y
one_pixel_lem h e =
    holds h e one_pixel (record { answered = refl; consumed = refl; shows = exactly e _ (layer (line 7 7 7 7) (plain true) white_shows) refl; has = tt; replies = refl; refused = refl; reason = refl; flows = refl })

bottom_black : {h : ℕ} → is_height h ≡ true → Shows h (put (stripe (bar_of 0 10 10 12 19 0) 0 10) (plain true) (white h)) bar_from_bottom.black
unfolding within depth stripe
bottom_black e = exactly e _ (layer (stripe (bar_of 0 10 10 12 19 0) 0 10) (plain true) white_shows) refl

bar_from_bottom_lem : (h : ℕ) → is_height h ≡ true → Holds h bar_from_bottom
unfolding bytes run said taken step replies after by_phase alone code argument obey command_of decode_of port_of phase_of encode_of port_bytes phase_bytes panel_bytes many_bytes within set_up_bar write_bar depth length_of held_to stripe write_of
bar_from_bottom_lem h e =
    at_heights (λ (n : ℕ). Holds n bar_from_bottom)
    (holds low_height low bar_from_bottom (record { answered = refl; consumed = refl; shows = bottom_black low; has = tt; replies = refl; refused = refl; reason = refl; flows = refl }))
    (holds tall_height tall bar_from_bottom (record { answered = refl; consumed = refl; shows = bottom_black tall; has = tt; replies = refl; refused = refl; reason = refl; flows = refl })) h e

left_black : {h : ℕ} → is_height h ≡ true → Shows h (put (stripe (bar_of 1 0 0 9 1 0) 0 3) (plain true) (put (rectangle 0 0 9 1) (plain false) (white h))) bar_from_left.black
unfolding within depth stripe
left_black e = exactly e _ (layer (stripe (bar_of 1 0 0 9 1 0) 0 3) (plain true) (layer (rectangle 0 0 9 1) (plain false) white_shows)) refl

bar_from_left_lem : (h : ℕ) → is_height h ≡ true → Holds h bar_from_left
unfolding bytes run said taken step replies after by_phase alone code argument obey command_of decode_of port_of phase_of encode_of port_bytes phase_bytes panel_bytes many_bytes within set_up_bar write_bar depth length_of held_to stripe write_of
bar_from_left_lem h e =
    at_heights (λ (n : ℕ). Holds n bar_from_left)
    (holds low_height low bar_from_left (record { answered = refl; consumed = refl; shows = left_black low; has = tt; replies = refl; refused = refl; reason = refl; flows = refl }))
    (holds tall_height tall bar_from_left (record { answered = refl; consumed = refl; shows = left_black tall; has = tt; replies = refl; refused = refl; reason = refl; flows = refl })) h e

right_black : {h : ℕ} → is_height h ≡ true → Shows h (put (stripe (bar_of 3 0 0 9 1 0) 0 3) (plain true) (put (rectangle 0 0 9 1) (plain false) (white h))) bar_from_right.black
unfolding within depth stripe
right_black e = exactly e _ (layer (stripe (bar_of 3 0 0 9 1 0) 0 3) (plain true) (layer (rectangle 0 0 9 1) (plain false) white_shows)) refl

bar_from_right_lem : (h : ℕ) → is_height h ≡ true → Holds h bar_from_right
unfolding bytes run said taken step replies after by_phase alone code argument obey command_of decode_of port_of phase_of encode_of port_bytes phase_bytes panel_bytes many_bytes within set_up_bar write_bar depth length_of held_to stripe write_of
bar_from_right_lem h e =
    at_heights (λ (n : ℕ). Holds n bar_from_right)
    (holds low_height low bar_from_right (record { answered = refl; consumed = refl; shows = right_black low; has = tt; replies = refl; refused = refl; reason = refl; flows = refl }))
    (holds tall_height tall bar_from_right (record { answered = refl; consumed = refl; shows = right_black tall; has = tt; replies = refl; refused = refl; reason = refl; flows = refl })) h e

letter_black : {h : ℕ} → is_height h ≡ true → Shows h (put (box 0 3 0 5) (packed 0 0 3 (233 ∷ 36 ∷ [])) (white h)) letter_t.black
unfolding within bit_of packed_bit packed
letter_black e = exactly e _ (layer (box 0 3 0 5) (packed 0 0 3 (233 ∷ 36 ∷ [])) white_shows) refl

letter_t_lem : (h : ℕ) → is_height h ≡ true → Holds h letter_t
unfolding bytes run said taken step replies after by_phase alone code argument obey command_of decode_of port_of phase_of encode_of port_bytes phase_bytes panel_bytes many_bytes within lacks_space begin_upload upload_data appended record_bytes directory.sort_of directory.entries_from directory.read_from directory.step_at directory.entry_at directory.length_of directory.has_file directory.find_in directory.bytes_in directory.sizes_in font_chosen choose_font open_font opened_at is_font are_entries is_entry offset_at width_at between packed_bytes character character_in drawn_by drawn_on drawn_at glyph_of glyph_in wrapped fitted bit_of packed_bit packed
letter_t_lem h e =
    at_heights (λ (n : ℕ). Holds n letter_t)
    (holds low_height low letter_t (record { answered = refl; consumed = refl; shows = letter_black low; has = tt; replies = refl; refused = refl; reason = refl; flows = refl }))
    (holds tall_height tall letter_t (record { answered = refl; consumed = refl; shows = letter_black tall; has = tt; replies = refl; refused = refl; reason = refl; flows = refl })) h e

saved_picture_lem : (h : ℕ) → is_height h ≡ true → Holds h saved_picture
unfolding bytes run said taken step replies after by_phase alone code argument obey command_of decode_of port_of phase_of encode_of port_bytes phase_bytes panel_bytes many_bytes within lacks_space begin_upload upload_data appended record_bytes directory.sort_of directory.entries_from directory.read_from directory.step_at directory.entry_at directory.length_of directory.has_file directory.find_in directory.bytes_in directory.sizes_in bitmap_in bitmap_at show_bitmap is_bitmap packed_bytes bit_of packed_bit packed
saved_picture_lem h e =
    holds h e saved_picture (record { answered = refl; consumed = refl; shows = exactly e _ (layer (box 0 5 0 4) (packed 0 0 5 (170 ∷ 184 ∷ 48 ∷ [])) white_shows) refl; has = tt; replies = refl; refused = refl; reason = refl; flows = refl })

-- a byte of data in line
data_layer : (k b : ℕ) {h : ℕ} {g : List ℕ} {q : Picture} → Shows h g q → Shows h (put (inline_pixels 0 0 4 3 k) (inline_bits 0 4 k b) g) (λ x y. cond (inline_pixels 0 0 4 3 k x y) (inline_bits 0 4 k b x y) (q x y))
data_layer k b s = layer (inline_pixels 0 0 4 3 k) (inline_bits 0 4 k b) s

picture_in_line_lem : (h : ℕ) → is_height h ≡ true → Holds h picture_in_line
unfolding bytes run said taken step replies after by_phase alone code argument obey command_of decode_of port_of phase_of encode_of port_bytes phase_bytes panel_bytes many_bytes within begin_inline inline_data draw_pixel inline_pixels inline_bits bit_of
picture_in_line_lem h e =
    holds h e picture_in_line (record { answered = refl; consumed = refl; shows = exactly e _ (layer (point 239 63) (plain true) (data_layer 3 24 (data_layer 2 224 (data_layer 1 80 (data_layer 0 168 white_shows))))) refl; has = tt; replies = refl; refused = refl; reason = refl; flows = refl })

flow_refused_lem : (h : ℕ) → is_height h ≡ true → Holds h flow_refused
unfolding bytes run said taken step replies after by_phase alone code argument obey command_of decode_of port_of phase_of encode_of port_bytes phase_bytes panel_bytes many_bytes within flow_on refuse
flow_refused_lem h e =
    holds h e flow_refused (record { answered = refl; consumed = refl; shows = white_shows; has = tt; replies = refl; refused = refl; reason = refl; flows = refl })

flow_accepted_lem : (h : ℕ) → is_height h ≡ true → Holds h flow_accepted
unfolding bytes run said taken step replies after by_phase alone code argument obey command_of decode_of port_of phase_of encode_of port_bytes phase_bytes panel_bytes many_bytes within flow_on
flow_accepted_lem h e =
    holds h e flow_accepted (record { answered = refl; consumed = refl; shows = white_shows; has = tt; replies = refl; refused = refl; reason = refl; flows = refl })

upload_fits_lem : (h : ℕ) → is_height h ≡ true → Holds h upload_fits
unfolding bytes run said taken step replies after by_phase alone code argument obey command_of decode_of port_of phase_of encode_of port_bytes phase_bytes panel_bytes many_bytes within lacks_space begin_upload upload_data appended record_bytes directory.sort_of directory.entries_from directory.read_from directory.step_at directory.entry_at directory.length_of directory.has_file directory.find_in directory.bytes_in directory.sizes_in
upload_fits_lem h e =
    holds h e upload_fits (record { answered = refl; consumed = refl; shows = white_shows; has = tt; replies = refl; refused = refl; reason = refl; flows = refl })

upload_too_large_lem : (h : ℕ) → is_height h ≡ true → Holds h upload_too_large
unfolding bytes run said taken step replies after by_phase alone code argument obey command_of decode_of port_of phase_of encode_of port_bytes phase_bytes panel_bytes many_bytes within lacks_space begin_upload upload_data appended record_bytes directory.sort_of directory.entries_from directory.read_from directory.step_at directory.entry_at directory.length_of directory.has_file directory.find_in directory.bytes_in directory.sizes_in refuse
upload_too_large_lem h e =
    holds h e upload_too_large (record { answered = refl; consumed = refl; shows = white_shows; has = tt; replies = refl; refused = refl; reason = refl; flows = refl })

-- ALL OF THEM, at either height
pub examples : (h : ℕ) → is_height h ≡ true → AllHold h table
examples h e =
    (corner_pixels_lem h e, (pixel_out_of_bounds_lem h e, (line_down_lem h e, (line_back_lem h e, (one_pixel_lem h e, (bar_from_bottom_lem h e, (bar_from_left_lem h e, (bar_from_right_lem h e, (letter_t_lem h e, (saved_picture_lem h e, (picture_in_line_lem h e, (flow_refused_lem h e, (flow_accepted_lem h e, (upload_fits_lem h e, (upload_too_large_lem h e, tt)))))))))))))))
