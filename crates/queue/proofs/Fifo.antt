-- First in, first out, over any list of operations.
-- Assumes nothing.
use Rattle.std.proofs.Common.{◌≡◌, ℕ, cond, eqb, List, [], ◌∷◌, ◌++◌, sym, ap, ◌∙◌, append_assoc, append-nil}
use Rattle.queue.specs.Queue.{Queue, Sound, contents}
use Rattle.queue.specs.History.{Op, arrives, takes, after, handed, accepted, after_all, handed_all, accepted_all}
use Rattle.queue.proofs.Cases.{arrive_cases, take_cases}
use Rattle.queue.proofs.Contents.{contents_arrived, contents_left, contents_counted, arrival_sound, take_sound}

pub sound_after : (q : Queue) (o : Op) → Sound q → Sound (after q o)
sound_after q (arrives f b) s = arrival_sound q f b s
sound_after q (takes f) s = take_sound q f s

pub sound_all : (q : Queue) (l : List Op) → Sound q → Sound (after_all q l)
unfolding after_all
sound_all q [] s = s
sound_all q (o ∷ l) s = sound_all (after q o) l (sound_after q o s)

-- one operation
pub fifo_step : (q : Queue) (o : Op) → Sound q → handed q o ++ contents (after q o) ≡ contents q ++ accepted q o
fifo_step q (arrives f b) s =
    arrive_cases q f b (λ a. contents a.queue ≡ contents q ++ cond (eqb a.answer 0) (b ∷ []) [])
    (λ h. contents_arrived q f b s h)
    (λ h. contents_counted q ∙ sym (append-nil (contents q)))
fifo_step q (takes f) s =
    take_cases q f (λ t. cond (eqb t.answer 0) (t.byte ∷ []) [] ++ contents t.queue ≡ contents q ++ [])
    (λ h. sym (append-nil (contents q)))
    (λ h. sym (contents_left q f h) ∙ sym (append-nil (contents q)))

-- WHAT WAS HANDED OUT, AND THEN WHAT IS HELD, IS WHAT WAS HELD, AND THEN WHAT WAS ACCEPTED
pub fifo : (q : Queue) (l : List Op) → Sound q → handed_all q l ++ contents (after_all q l) ≡ contents q ++ accepted_all q l
unfolding handed_all accepted_all after_all
fifo q [] s = sym (append-nil (contents q))
fifo q (o ∷ l) s =
    append_assoc (handed q o) (handed_all (after q o) l) (contents (after_all (after q o) l))
    ∙ ap (λ (x : List ℕ). handed q o ++ x) (fifo (after q o) l (sound_after q o s))
    ∙ sym (append_assoc (handed q o) (contents (after q o)) (accepted_all (after q o) l))
    ∙ ap (λ (x : List ℕ). x ++ accepted_all (after q o) l) (fifo_step q o s)
    ∙ append_assoc (contents q) (accepted q o) (accepted_all (after q o) l)
