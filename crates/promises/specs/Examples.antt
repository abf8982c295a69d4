-- THE MARKED EXAMPLES, one table. Each row is a stream: it is fed, in one piece, to a display of h rows and the older edition that was started on a store of 1,024 zeros.
-- Assumes nothing.
use Rattle.std.specs.Prelude.{◌≡◌, List, [], ◌∷◌, true, false, ◌||◌, ℕ, ◌<◌, length, get_or, replicate}
use Rattle.pixels.specs.Framebuffer.{Picture, width, pixel}
use Rattle.pixels.specs.Regions.{point, box}
use Rattle.canvas.specs.Sizes.{length_for}
use Rattle.queue.specs.declared.Flow.{Flow}
use Rattle.state.specs.Editions.{older}
use Rattle.state.specs.State.{config}
use Rattle.rules.specs.Settings.{flow}
use Rattle.record.specs.Layout.{record_size}
use Rattle.record.specs.Reading.{decode_of}
use Rattle.calls.specs.Memory.{Memory, memory}
use Rattle.calls.specs.Start.{Started, start_of}
use Rattle.calls.specs.Feed.{Fed, piece_of}

pub record Byte : Type 0 where
  pub at : ℕ
  pub is : ℕ

-- a stream, exactly the pixels that are black after it, some bytes of the framebuffer, the replies, the refusal count, the last refusal, and flow control
pub record Row : Type 0 where
  pub stream : List ℕ
  pub black : Picture
  pub bytes : List Byte
  pub sent : List ℕ
  pub count : ℕ
  pub last : ℕ
  pub flow : Flow

abbrev pub row : List ℕ → Picture → List Byte → List ℕ → ℕ → ℕ → Flow → Row
row l p bytes sent count last f = record { stream = l; black = p; bytes = bytes; sent = sent; count = count; last = last; flow = f }

-- ---- the calls

-- memory of another use: all pixels black, records of any bytes
abbrev pub given : ℕ → Memory
given h = memory (replicate (length_for h) 255) (replicate 1024 0) (replicate record_size 7)

abbrev pub begun : ℕ → Started
begun h = start_of (config h older) (given h) (replicate 85 7)

-- with room for 64 reply bytes
abbrev pub fed_to : ℕ → List ℕ → Fed
fed_to h l = piece_of (begun h).left l 64

-- ---- what a row says

-- a framebuffer of 240 by h shows exactly this
pub record Shows (h : ℕ) (g : List ℕ) (p : Picture) : Type 0 where
  pub size : length g ≡ length_for h
  pub at : (x y : ℕ) → x < width → y < h → pixel g x y ≡ p x y

abbrev pub HasAll : List ℕ → List Byte → Type 0
HasAll g [] = Unit {0}
HasAll g (b ∷ l) = (get_or g b.at 0 ≡ b.is) × HasAll g l

-- start and feed answer 0, the whole stream is consumed, and this is what it leaves and sends
pub record Gives (h : ℕ) (f : Fed) (r : Row) : Type 0 where
  pub answered : f.answer ≡ 0
  pub consumed : f.consumed ≡ length r.stream
  pub shows : Shows h f.left.framebuffer r.black
  pub has : HasAll f.left.framebuffer r.bytes
  pub replies : f.sent ≡ r.sent
  pub refused : (decode_of f.left.state).port.refusals.count ≡ r.count
  pub reason : (decode_of f.left.state).port.refusals.last ≡ r.last
  pub flows : (decode_of f.left.state).port.flow ≡ r.flow

abbrev pub Holds : ℕ → Row → Type 0
Holds h r = ((begun h).answer ≡ 0) × Gives h (fed_to h r.stream) r

abbrev pub AllHold : ℕ → List Row → Type 0
AllHold h [] = Unit {0}
AllHold h (r ∷ l) = Holds h r × AllHold h l

abbrev pub nothing : Picture
nothing x y = false

abbrev pub byte : ℕ → ℕ → Byte
byte k b = record { at = k; is = b }

abbrev pub off : Flow
off = flow false 0 0

-- ---- the rows

abbrev pub corner_pixels : Row
corner_pixels = row (254 ∷ 112 ∷ 0 ∷ 0 ∷ 254 ∷ 112 ∷ 239 ∷ 63 ∷ []) (λ x y. point 0 0 x y || point 239 63 x y) (byte 0 128 ∷ byte 1919 1 ∷ []) [] 0 0 off

abbrev pub pixel_out_of_bounds : Row
pixel_out_of_bounds = row (254 ∷ 112 ∷ 240 ∷ 0 ∷ []) nothing [] [] 0 0 off

abbrev pub line_down : Row
line_down = row (254 ∷ 108 ∷ 0 ∷ 0 ∷ 2 ∷ 1 ∷ []) (λ x y. point 0 0 x y || point 1 1 x y || point 2 1 x y) [] [] 0 0 off

abbrev pub line_back : Row
line_back = row (254 ∷ 108 ∷ 2 ∷ 1 ∷ 0 ∷ 0 ∷ []) (λ x y. point 2 1 x y || point 1 0 x y || point 0 0 x y) [] [] 0 0 off

abbrev pub one_pixel : Row
one_pixel = row (254 ∷ 108 ∷ 7 ∷ 7 ∷ 7 ∷ 7 ∷ []) (point 7 7) [] [] 0 0 off

abbrev pub bar_from_bottom : Row
bar_from_bottom = row (254 ∷ 103 ∷ 0 ∷ 0 ∷ 10 ∷ 10 ∷ 12 ∷ 19 ∷ 254 ∷ 105 ∷ 0 ∷ 255 ∷ []) (box 10 13 10 20) [] [] 0 0 off

abbrev pub bar_from_left : Row
bar_from_left = row (254 ∷ 103 ∷ 0 ∷ 1 ∷ 0 ∷ 0 ∷ 9 ∷ 1 ∷ 254 ∷ 105 ∷ 0 ∷ 0 ∷ 254 ∷ 105 ∷ 0 ∷ 3 ∷ []) (box 0 3 0 2) [] [] 0 0 off

abbrev pub bar_from_right : Row
bar_from_right = row (254 ∷ 103 ∷ 0 ∷ 3 ∷ 0 ∷ 0 ∷ 9 ∷ 1 ∷ 254 ∷ 105 ∷ 0 ∷ 0 ∷ 254 ∷ 105 ∷ 0 ∷ 3 ∷ []) (box 7 10 0 2) [] [] 0 0 off

-- font 2 is uploaded, each byte followed by its confirmation: 3 by 5, character 84 alone, its rows E9 24 (hex) at byte 7; then it is chosen, and 84 drawn
abbrev pub letter_t : Row
letter_t =
    row
    (254 ∷ 36 ∷ 2 ∷ 9 ∷ 0
    ∷ 3 ∷ 1 ∷ 5 ∷ 1 ∷ 84 ∷ 1 ∷ 84 ∷ 1 ∷ 0 ∷ 1 ∷ 7 ∷ 1 ∷ 3 ∷ 1 ∷ 233 ∷ 1 ∷ 36 ∷ 1
    ∷ 254 ∷ 49 ∷ 2 ∷ 84 ∷ [])
    (λ x y. box 0 3 0 1 x y || box 1 2 1 5 x y) [] (1 ∷ 3 ∷ 5 ∷ 84 ∷ 84 ∷ 0 ∷ 7 ∷ 3 ∷ 233 ∷ 36 ∷ []) 0 0 off

-- a picture, 5 by 4
abbrev pub five_by_four : Picture
five_by_four x y =
    point 0 0 x y || point 2 0 x y || point 4 0 x y || point 1 1 x y || point 3 1 x y || box 0 3 2 3 x y || box 3 5 3 4 x y

-- saved it is three bytes behind width and height
abbrev pub saved_picture : Row
saved_picture =
    row (254 ∷ 94 ∷ 1 ∷ 5 ∷ 0 ∷ 5 ∷ 1 ∷ 4 ∷ 1 ∷ 170 ∷ 1 ∷ 184 ∷ 1 ∷ 48 ∷ 1 ∷ 254 ∷ 98 ∷ 1 ∷ 0 ∷ 0 ∷ []) five_by_four [] (1 ∷ 5 ∷ 4 ∷ 170 ∷ 184 ∷ 48 ∷ []) 0 0 off

-- in line it is four, and the byte behind them begins a command again
abbrev pub picture_in_line : Row
picture_in_line =
    row (254 ∷ 100 ∷ 0 ∷ 0 ∷ 4 ∷ 3 ∷ 168 ∷ 80 ∷ 224 ∷ 24 ∷ 254 ∷ 112 ∷ 239 ∷ 63 ∷ []) (λ x y. five_by_four x y || point 239 63 x y) [] [] 0 0 off

abbrev pub flow_refused : Row
flow_refused = row (254 ∷ 58 ∷ 40 ∷ 40 ∷ []) nothing [] [] 1 27 off

abbrev pub flow_accepted : Row
flow_accepted = row (254 ∷ 58 ∷ 40 ∷ 39 ∷ []) nothing [] [] 0 0 (flow true 40 39)

abbrev pub upload_fits : Row
upload_fits = row (254 ∷ 94 ∷ 1 ∷ 0 ∷ 3 ∷ []) nothing [] (1 ∷ []) 0 0 off

abbrev pub upload_too_large : Row
upload_too_large = row (254 ∷ 94 ∷ 1 ∷ 1 ∷ 3 ∷ []) nothing [] (8 ∷ []) 1 24 off

-- THE TABLE
abbrev pub table : List Row
table = corner_pixels ∷ pixel_out_of_bounds ∷ line_down ∷ line_back ∷ one_pixel ∷ bar_from_bottom ∷ bar_from_left ∷ bar_from_right ∷ letter_t ∷ saved_picture ∷ picture_in_line ∷ flow_refused ∷ flow_accepted ∷ upload_fits ∷ upload_too_large ∷ []
