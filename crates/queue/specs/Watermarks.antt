-- Flow control by watermarks: which signal a change sends, and where it leaves the mark. `held` is the count after the change.
-- Assumes nothing.
use Rattle.std.specs.Prelude.{ℕ, ◌-◌, Bool, true, false, cond, not, ◌&&◌, nat_le}
use Rattle.queue.specs.declared.Flow.{Flow}
use Rattle.queue.specs.declared.Crossing.{Crossing}
use Rattle.queue.specs.Numbers.{signal_number}

-- the signal that a change sends, 0 for none, and the mark after it
pub record Watermark : Type 0 where
  pub signal : ℕ
  pub mark : Bool

abbrev pub watermark : ℕ → Bool → Watermark
watermark signal mark = record { signal = signal; mark = mark }

abbrev pub crossing : Crossing → Watermark
crossing c = watermark (signal_number c.signal) c.mark

-- an accepted byte: with the mark down and at most `full` bytes free, 254 goes out and the mark goes up
unfoldable pub high_water : ℕ → Bool → ℕ → Watermark
high_water full mark held = cond (not mark && nat_le (80 - held) full) (watermark 254 true) (watermark 0 mark)

-- a byte taken: with the mark up and at most `empty` bytes held, 255 goes out and the mark goes down
unfoldable pub low_water : ℕ → Bool → ℕ → Watermark
low_water empty mark held = cond (mark && nat_le held empty) (watermark 255 false) (watermark 0 mark)

-- with flow control off nothing is sent, and the mark goes down
unfoldable pub while_on : Flow → Watermark → Watermark
while_on f w = cond f.on w (watermark 0 false)

abbrev pub after_arrival : Flow → Bool → ℕ → Watermark
after_arrival f mark held = while_on f (high_water f.full mark held)

abbrev pub after_take : Flow → Bool → ℕ → Watermark
after_take f mark held = while_on f (low_water f.empty mark held)
