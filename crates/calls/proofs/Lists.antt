-- Lists of calls are streams of the inputs consumed, whatever the pieces and their reply room.
-- Assumes nothing.
use mathlib.Core.Path.{◌≡◌, refl, sym, ap, ◌∙◌, subst}
use mathlib.Core.Bool.{Bool, true, ◌&&◌}
use mathlib.Core.List.{List, [], ◌∷◌, ◌++◌}
use Prim.Native.Nat.{ℕ}
use native.Mathlib.Omega.{arith}
use lib.ListN.{length, take}
use lib.Seq.{take_all}
use Rattle.record.specs.Reading.{decode_of}
use Rattle.record.specs.Writing.{encode_of}
use Rattle.record.specs.Record.{sound_record}
use Rattle.queue.specs.Record as queue-record
use Rattle.rules.specs.World.{World}
use Rattle.rules.specs.Step.{Input, step}
use Rattle.rules.specs.Calls.{run, said, taken}
use Rattle.rules.specs.Chunks.{joined, EnoughAll}
use Rattle.rules.specs.Sound.{Comes, ComesAll}
use Rattle.rules.proofs.GoodByte.{take_comes}
use Rattle.rules.proofs.Streams.{run_append, said_append, taken_whole}
use Rattle.calls.specs.Memory.{checked, loaded, saved}
use Rattle.calls.specs.Feed.{Fed, fed_inputs, feed_of}
use Rattle.calls.specs.Line.{both_sound, arrive_call, take_call}
use Rattle.calls.specs.List.{board, Call, feeds, arrives, takes, after_all, consumed_all, sent_all, chunks_in}
use Rattle.calls.specs.Bytes.{BytesInAll}
use Rattle.calls.proofs.LineCalls.{arrive_again, take_again}

pub both_true : (a b : Bool) → a ≡ true → b ≡ true → (a && b) ≡ true
both_true a b e f = rw (e, f)

-- what is kept by every input, is written and read back, and passes the checks
module _ (Good : World → Type 0) (good : (w : World) (i : Input) → Good w → Comes i → Good (step w i))
    (back : (w : World) → Good w → decode_of (encode_of w.state) ≡ w.state) (pass : (w : World) → Good w → checked (saved w) ≡ 0)
    (sound : (w : World) → Good w → sound_record (encode_of w.state) ≡ true) where
  pub good_run : (w : World) (l : List Input) → Good w → ComesAll l → Good (run w l)
  unfolding run
  good_run w [] g h = g
  good_run w (i ∷ l) g h = good_run (step w i) l (good w i g h.0) h.1

  read_back : (w : World) → Good w → loaded (saved w) ≡ w
  read_back w g = rw (back w g)

  -- a piece handed to memory that a world was written to
  pub fed_saved : (w : World) (p : List Input) (room : ℕ) → Good w → feed_of (saved w) p room ≡ fed_inputs w p (taken w room p)
  unfolding feed_of
  fed_saved w p room g = rw (pass w g, read_back w g)

  line_sound : (w : World) (q : List ℕ) → Good w → queue-record.sound_record q ≡ true → both_sound (encode_of w.state) q ≡ true
  line_sound w q g s = both_true (sound_record (encode_of w.state)) (queue-record.sound_record q) (sound w g) s

  -- what a list of calls leaves and sends is what the stream of the inputs consumed leaves and sends
  pub record Streamed (w : World) (q : List ℕ) (cs : List Call) : Type 0 where
    pub left : (after_all (board (saved w) q) cs).memory ≡ saved (run w (consumed_all (board (saved w) q) cs))
    pub sent : sent_all (board (saved w) q) cs ≡ said w (consumed_all (board (saved w) q) cs)
    pub kept : Good (run w (consumed_all (board (saved w) q) cs))
    pub queue_kept : queue-record.sound_record q ≡ true → queue-record.sound_record (after_all (board (saved w) q) cs).queue ≡ true

  -- one piece, and then the rest
  record Pieced (w : World) (p : List Input) (q : List ℕ) (cs : List Call) (f : Fed) : Type 0 where
    pub left : (after_all (board f.left q) cs).memory ≡ saved (run w (take f.consumed p ++ consumed_all (board f.left q) cs))
    pub sent : f.sent ++ sent_all (board f.left q) cs ≡ said w (take f.consumed p ++ consumed_all (board f.left q) cs)
    pub kept : Good (run w (take f.consumed p ++ consumed_all (board f.left q) cs))
    pub queue_kept : queue-record.sound_record q ≡ true → queue-record.sound_record (after_all (board f.left q) cs).queue ≡ true

  pieced : (w : World) (p : List Input) (q : List ℕ) (n : ℕ) (cs : List Call) → Streamed (run w (take n p)) q cs → Pieced w p q cs (fed_inputs w p n)
  pieced w p q n cs i =
      let t = take n p in
      let r = consumed_all (board (saved (run w t)) q) cs in
      let a = run_append w t r in
      record {
        left = i.left ∙ ap saved (sym a);
        sent = ap (λ (l : List ℕ). said w t ++ l) i.sent ∙ sym (said_append w t r);
        kept = rw a i.kept;
        queue_kept = i.queue_kept;
      }

  pub streamed : (w : World) (q : List ℕ) (cs : List Call) → Good w → BytesInAll cs → Streamed w q cs
  unfolding after_all consumed_all sent_all run said
  streamed w q [] g h = record { left = refl; sent = refl; kept = g; queue_kept = λ s. s }
  streamed w q (arrives x ∷ cs) g h =
      let i = streamed w (arrive_call (encode_of w.state) q x).queue cs g h.1 in
      record { left = i.left; sent = i.sent; kept = i.kept; queue_kept = λ s. i.queue_kept (arrive_again (encode_of w.state) q x (line_sound w q g s)) }
  streamed w q (takes ∷ cs) g h =
      let i = streamed w (take_call (encode_of w.state) q).queue cs g h.1 in
      record { left = i.left; sent = i.sent; kept = i.kept; queue_kept = λ s. i.queue_kept (take_again (encode_of w.state) q (line_sound w q g s)) }
  streamed w q (feeds p room ∷ cs) g h =
      let n = taken w room p in
      let i = streamed (run w (take n p)) q cs (good_run w (take n p) g (take_comes n p h.0)) h.1 in
      let t = subst (λ (f : Fed). Pieced w p q cs f) (sym (fed_saved w p room g)) (pieced w p q n cs i) in
      record { left = t.left; sent = t.sent; kept = t.kept; queue_kept = t.queue_kept }

  -- pieces with two free reply bytes before each input are consumed whole
  whole_then : (w : World) (p : List Input) (q : List ℕ) (n : ℕ) (cs : List Call) (f : Fed) → f ≡ fed_inputs w p n → take n p ≡ p
      → consumed_all (board (saved (run w p)) q) cs ≡ joined (chunks_in cs) → take f.consumed p ++ consumed_all (board f.left q) cs ≡ p ++ joined (chunks_in cs)
  whole_then w p q n cs f e t i = rw (e, t) (ap (λ (l : List Input). p ++ l) i)

  pub consumed_whole : (w : World) (q : List ℕ) (cs : List Call) → Good w → BytesInAll cs → EnoughAll w (chunks_in cs)
      → consumed_all (board (saved w) q) cs ≡ joined (chunks_in cs)
  unfolding chunks_in joined EnoughAll consumed_all
  consumed_whole w q [] g h e = refl
  consumed_whole w q (arrives x ∷ cs) g h e = consumed_whole w (arrive_call (encode_of w.state) q x).queue cs g h.1 e
  consumed_whole w q (takes ∷ cs) g h e = consumed_whole w (take_call (encode_of w.state) q).queue cs g h.1 e
  consumed_whole w q (feeds p room ∷ cs) g h e =
      let n = taken w room p in
      let t : take n p ≡ p = ap (λ (k : ℕ). take k p) (taken_whole w room p e.0) ∙ take_all (length p) p (omega arith) in
      let i = consumed_whole (run w p) q cs (good_run w p g h.0) h.1 e.1 in
      whole_then w p q n cs (feed_of (saved w) p room) (fed_saved w p room g) t i
