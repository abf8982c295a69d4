-- What one operation does to the contents: an accepted byte comes last, a byte handed out was first, a refusal changes none.
-- Assumes nothing.
use Rattle.std.proofs.Common.{◌≡◌, ℕ, zero, suc, ◌+◌, ◌-◌, ◌%◌, ◌<◌, ◌≤◌, ◌≢◌, List, [], ◌∷◌, ◌++◌, get_or, set, sym, refl, ap, ◌∙◌, add-one, arith, length-set, get_or-set_other, get_or-set_same}
use Rattle.queue.specs.declared.Flow.{Flow}
use Rattle.queue.specs.Queue.{Queue, Arrival, Taken, stored, counted, arrive_of, oldest, advanced, take_of, Sound, around, contents}
use Rattle.queue.proofs.Cases.{arrived, left, arrive_cases, take_cases}

-- ---- around the ring

around_mod : (r : List ℕ) (p n : ℕ) → around r (p % 80) n ≡ around r p n
unfolding around
around_mod r p zero = refl
around_mod r p (suc n) =
    let e : p % 80 % 80 ≡ p % 80 = omega arith in
    let d : (p % 80 + 1) % 80 ≡ (p + 1) % 80 = omega arith in
    let t : around r (p % 80 + 1) n ≡ around r (p + 1) n = sym (around_mod r (p % 80 + 1) n) ∙ ap (λ (k : ℕ). around r k n) d ∙ around_mod r (p + 1) n in
    rw (e, t)

around_first : (r : List ℕ) (p n m : ℕ) → n ≡ suc m → around r p n ≡ get_or r (p % 80) 0 ∷ around r ((p + 1) % 80) m
unfolding around
around_first r p n m e = rw (e, around_mod r (p + 1) m)

around_more : (r : List ℕ) (p n : ℕ) → around r p (suc n) ≡ around r p n ++ (get_or r ((p + n) % 80) 0 ∷ [])
unfolding around
around_more r p zero = let e : p ≡ p + 0 = omega arith in ap (λ (k : ℕ). get_or r (k % 80) 0 ∷ []) e
around_more r p (suc n) =
    let e : p + 1 + n ≡ p + suc n = omega arith in
    ap (λ (l : List ℕ). get_or r (p % 80) 0 ∷ l) (around_more r (p + 1) n ∙ rw e)

-- a write behind n bytes leaves them
around_set : (r : List ℕ) (p n h b : ℕ) → n ≤ h → h < 80 → around (set r ((p + h) % 80) b) p n ≡ around r p n
unfolding around
around_set r p zero h b l k = refl
around_set r p (suc n) h b l k =
    let d : p % 80 ≢ (p + h) % 80 = omega arith in
    let e : p + h ≡ p + 1 + (h - 1) = omega arith in
    let t : around (set r ((p + h) % 80) b) (p + 1) n ≡ around r (p + 1) n = rw e (around_set r (p + 1) n (h - 1) b (omega arith) (omega arith)) in
    rw (get_or-set_other r ((p + h) % 80) (p % 80) b 0 d, t)

-- ---- the two changes

module _ (q : Queue) (f : Flow) where
  pub contents_arrived : (b : ℕ) → Sound q → q.held < 80 → contents (arrived q f b) ≡ contents q ++ (b ∷ [])
  unfolding contents stored
  contents_arrived b s h =
      rw add-one (around_more (set q.ring ((q.place + q.held) % 80) b) q.place q.held
      ∙ rw (
        around_set q.ring q.place q.held q.held b (omega arith) h,
        get_or-set_same q.ring ((q.place + q.held) % 80) b 0 (omega (arith, s.size)),
      ))

  pub contents_left : 0 < q.held → contents q ≡ oldest q ∷ contents (left q f)
  unfolding contents advanced oldest
  contents_left h = around_first q.ring q.place q.held (q.held - 1) (omega arith)

pub contents_counted : (q : Queue) → contents (counted q) ≡ contents q
unfolding contents counted
contents_counted q = refl

-- ---- by the answers

pub record Answered (q : Queue) (b : ℕ) (a : Arrival) : Type 0 where
  pub yes_bytes : a.answer ≡ 0 → contents a.queue ≡ contents q ++ (b ∷ [])
  pub no_bytes : a.answer ≡ 7 → contents a.queue ≡ contents q

pub arrival_contents : (q : Queue) (f : Flow) (b : ℕ) → Sound q → Answered q b (arrive_of q f b)
arrival_contents q f b s =
    arrive_cases q f b (Answered q b)
    (λ h. record { yes_bytes = λ e. contents_arrived q f b s h; no_bytes = λ e. absurd (omega arith) })
    (λ h. record { yes_bytes = λ e. absurd (omega arith); no_bytes = λ e. contents_counted q })

pub record HandedOut (q : Queue) (t : Taken) : Type 0 where
  pub yes_byte : t.answer ≡ 0 → contents q ≡ t.byte ∷ contents t.queue
  pub no_byte : t.answer ≡ 6 → contents t.queue ≡ contents q

pub take_contents : (q : Queue) (f : Flow) → HandedOut q (take_of q f)
take_contents q f =
    take_cases q f (HandedOut q)
    (λ h. record { yes_byte = λ e. absurd (omega arith); no_byte = λ e. refl })
    (λ h. record { yes_byte = λ e. contents_left q f h; no_byte = λ e. absurd (omega arith) })

-- ---- soundness is kept

pub arrival_sound : (q : Queue) (f : Flow) (b : ℕ) → Sound q → Sound (arrive_of q f b).queue
unfolding stored counted
arrival_sound q f b s =
    arrive_cases q f b (λ a. Sound a.queue)
    (λ h. record { size = length-set q.ring ((q.place + q.held) % 80) b ∙ s.size; below = s.below; most = omega arith })
    (λ h. record { size = s.size; below = s.below; most = s.most })

pub take_sound : (q : Queue) (f : Flow) → Sound q → Sound (take_of q f).queue
unfolding advanced
take_sound q f s =
    take_cases q f (λ t. Sound t.queue) (λ h. s)
    (λ h. record { size = s.size; below = omega arith; most = omega (arith, s.most) })
