-- THE ANSWERS of calls that were made, by the rules' table.
-- Assumes nothing.
use Rattle.std.specs.Prelude.{◌≡◌, List, [], ◌∷◌, cond, eqb, ltb, length}
use Rattle.queue.specs.Record.{sound_record, decode_of}
use Rattle.rules.specs.Calls.{bytes}
use Rattle.rules.specs.Chunks.{GoesTo}
use Rattle.calls.specs.Memory.{checked, loaded}
use Rattle.calls.specs.Start.{start_checked}
use Rattle.calls.specs.List.{Board}
use Rattle.promises.specs.Made.{Made, fed, timed, arrived, handed, refused_feed, refused_time, refused_arrive, refused_take, refused_start, lent, lent_memory, left}

-- a piece: 5 where a byte is left and fewer than two reply bytes are free, else 0. Time: 5 with fewer than two, whatever is under way, else 0. The line: 3 where the queue record is not sound; 7 at a full
-- queue, 6 from an empty one. What is refused with 1 to 4: the first of the checks that fails
abbrev pub Answers : Board → Made → Type 0
Answers b (fed p r c) = GoesTo (loaded b.memory) (length r) (bytes p) c.consumed × (c.answer ≡ cond (ltb c.consumed (length p)) 5 0)
Answers b (timed ms r c) = c.answer ≡ cond (ltb (length r) 2) 5 0
Answers b (arrived x s) = s.answer ≡ cond (sound_record b.queue) (cond (ltb (decode_of b.queue).held 80) 0 7) 3
Answers b (handed s) = s.answer ≡ cond (sound_record b.queue) (cond (eqb (decode_of b.queue).held 0) 6 0) 3
Answers b (refused_feed z p r c) = c.answer ≡ checked (lent_memory z b.memory)
Answers b (refused_time z ms r c) = c.answer ≡ checked (lent_memory z b.memory)
Answers b (refused_arrive t k x s) = s.answer ≡ 3
Answers b (refused_take t k s) = s.answer ≡ 3
Answers b (refused_start d z k s) = s.answer ≡ start_checked d (lent_memory z b.memory) (lent k b.queue)

unfoldable pub AnswersAll : Board → List Made → Type 0
AnswersAll b [] = Unit {0}
AnswersAll b (c ∷ l) = Answers b c × AnswersAll (left b c) l
