-- From an equation of a rule to what its function promises.
-- Assumes nothing.
use Rattle.std.proofs.Common.{◌≡◌, ℕ, ◌+◌, ◌%◌, List, [], ◌∷◌, sym, refl, ap, ◌∙◌, subst}
use Rattle.state.specs.declared.Phase.TheVariants.{Idle}
use Rattle.state.specs.declared.Config.{Config}
use Rattle.state.specs.declared.Port.{Port}
use Rattle.state.specs.declared.Panel.{Panel}
use Rattle.state.specs.declared.Text.{Text}
use Rattle.state.specs.State.{state, with_text, with_refusals}
use Rattle.record.specs.Reading.{panel_of}
use Rattle.panel.specs.Revised.{revised}
use Rattle.panel.proofs.Laws.{revised_same}
use Rattle.rules.specs.World.{World, world, done, quietly, refused, Outcome as Ruled}
use Rattle.rules.specs.Step.{refusals, after, sent, refuse}
use Rattle.outcome.specs.declared.Outcome.{Outcome}
use Rattle.outcome.specs.declared.Reply.{Reply}
use Rattle.outcome.specs.Outcome.{sent_by, in_phase_of, refused_port, refused_of, done_of, sending_of, one_byte, two_bytes}
use Rattle.outcome.specs.Contract.{Loan, found, left, Told, config_by, Held, held, held_by, Came, Obeys}

pub refuse_is : (p t : Port) (n c : ℕ) → t ≡ in_phase_of p Idle → c ≡ (p.refusals.count + 1) % 65536 → with_refusals t (refusals c n) ≡ refused_port p n
unfolding refused_port
refuse_is p t n c e f = rw (e, f)

-- ---- one memory

came_refused : (m n : Held) (o : Ruled) (k : ℕ) (l : List ℕ) → n ≡ held m.config m.framebuffer m.store m.panel_bytes (refused_port m.port k) → o ≡ refused k l → Came m o n l
unfolding refuse refused_port after
came_refused m n o k l e f =
    record {
      next = e ∙ rw (f, revised_same m.panel_bytes) refl;
      sends = ap sent (sym f);
    }

came_done : (m n : Held) (o : Ruled) (v : World) (l : List ℕ) → n ≡ held_by m.panel_bytes v → o ≡ done v l → Came m o n l
unfolding after
came_done m n o v l e f = record { next = e ∙ rw f refl; sends = ap sent (sym f) }

-- ---- every memory that a function may stand in

-- the panel stays
stays : (P : Loan) → ((p : List ℕ) → left P p ≡ found P p) → (p : List ℕ) → left P p ≡ revised (found P p) (panel_of (found P p))
stays P u p = u p ∙ sym (revised_same (found P p))

module _ {t : Told} {rule : World → Ruled} {pt : Port} {G S P : Loan} {r : Outcome} where
  by_refused : (n : ℕ) (rp : Reply) → r ≡ sending_of (refused_port pt n) rp
      → ((c : Config) (g s p : List ℕ) → held c (left G g) (left S s) (left P p) pt ≡ held c (found G g) (found S s) (found P p) pt)
      → ((c : Config) (g s p : List ℕ) → rule (world (found G g) (found S s) (state (config_by t c) pt (panel_of (found P p)))) ≡ refused n (sent_by rp)) → Obeys t rule pt G S P r
  by_refused n rp f u e =
      record {
        came = λ c g s p.
            rw f (came_refused (held (config_by t c) (found G g) (found S s) (found P p) pt) _ _ n _
            (ap (λ (m : Held). held m.config m.framebuffer m.store m.panel_bytes (refused_port pt n)) (u (config_by t c) g s p)) (e c g s p));
      }

  by_done : (pt' : Port) (rp : Reply) (q : List ℕ → Panel) → r ≡ sending_of pt' rp → ((p : List ℕ) → left P p ≡ revised (found P p) (q p))
      → ((c : Config) (g s p : List ℕ)
      → rule (world (found G g) (found S s) (state (config_by t c) pt (panel_of (found P p)))) ≡ done (world (left G g) (left S s) (state (config_by t c) pt' (q p))) (sent_by rp))
      → Obeys t rule pt G S P r
  by_done pt' rp q f u e =
      record {
        came = λ c g s p.
            rw f (came_done (held (config_by t c) (found G g) (found S s) (found P p) pt) _ _ (world (left G g) (left S s) (state (config_by t c) pt' (q p))) _
            (ap (λ (l : List ℕ). held (config_by t c) (left G g) (left S s) l pt') (u p)) (e c g s p));
      }

  -- by a refusal whose number is k, whatever type names it
  pub obeys_refused : (k : ℕ) → ((n : ℕ) × (n ≡ k) × (r ≡ refused_of pt n))
      → ((c : Config) (g s p : List ℕ) → held c (left G g) (left S s) (left P p) pt ≡ held c (found G g) (found S s) (found P p) pt)
      → ((c : Config) (g s p : List ℕ) → rule (world (found G g) (found S s) (state (config_by t c) pt (panel_of (found P p)))) ≡ refused k []) → Obeys t rule pt G S P r
  unfolding sent_by
  obeys_refused k (n, d, f) u e = by_refused k _ (f ∙ ap (refused_of pt) d) u e

  -- with one byte sent
  pub obeys_telling : (n b : ℕ) → r ≡ sending_of (refused_port pt n) (one_byte b)
      → ((c : Config) (g s p : List ℕ) → held c (left G g) (left S s) (left P p) pt ≡ held c (found G g) (found S s) (found P p) pt)
      → ((c : Config) (g s p : List ℕ) → rule (world (found G g) (found S s) (state (config_by t c) pt (panel_of (found P p)))) ≡ refused n (b ∷ []))
      → Obeys t rule pt G S P r
  unfolding sent_by
  obeys_telling n b f u e = by_refused n _ f u e

  -- with two
  pub obeys_telling_two : (n a b : ℕ) → r ≡ sending_of (refused_port pt n) (two_bytes a b)
      → ((c : Config) (g s p : List ℕ) → held c (left G g) (left S s) (left P p) pt ≡ held c (found G g) (found S s) (found P p) pt)
      → ((c : Config) (g s p : List ℕ) → rule (world (found G g) (found S s) (state (config_by t c) pt (panel_of (found P p)))) ≡ refused n (a ∷ b ∷ []))
      → Obeys t rule pt G S P r
  unfolding sent_by
  obeys_telling_two n a b f u e = by_refused n _ f u e

  pub obeys_done : (pt' : Port) → r ≡ done_of pt' → ((p : List ℕ) → left P p ≡ found P p)
      → ((c : Config) (g s p : List ℕ)
      → rule (world (found G g) (found S s) (state (config_by t c) pt (panel_of (found P p)))) ≡ quietly (world (left G g) (left S s) (state (config_by t c) pt' (panel_of (found P p)))))
      → Obeys t rule pt G S P r
  unfolding sent_by
  obeys_done pt' f u e = by_done pt' _ (λ p. panel_of (found P p)) f (stays P u) e

  pub obeys_one : (pt' : Port) (b : ℕ) → r ≡ sending_of pt' (one_byte b) → ((p : List ℕ) → left P p ≡ found P p)
      → ((c : Config) (g s p : List ℕ)
      → rule (world (found G g) (found S s) (state (config_by t c) pt (panel_of (found P p)))) ≡ done (world (left G g) (left S s) (state (config_by t c) pt' (panel_of (found P p)))) (b ∷ []))
      → Obeys t rule pt G S P r
  unfolding sent_by
  obeys_one pt' b f u e = by_done pt' _ (λ p. panel_of (found P p)) f (stays P u) e

  pub obeys_two : (pt' : Port) (a b : ℕ) → r ≡ sending_of pt' (two_bytes a b) → ((p : List ℕ) → left P p ≡ found P p)
      → ((c : Config) (g s p : List ℕ)
      → rule (world (found G g) (found S s) (state (config_by t c) pt (panel_of (found P p)))) ≡ done (world (left G g) (left S s) (state (config_by t c) pt' (panel_of (found P p)))) (a ∷ b ∷ []))
      → Obeys t rule pt G S P r
  unfolding sent_by
  obeys_two pt' a b f u e = by_done pt' _ (λ p. panel_of (found P p)) f (stays P u) e

  -- the panel becomes q
  pub obeys_set : (pt' : Port) (q : Panel) → r ≡ done_of pt' → ((p : List ℕ) → left P p ≡ revised (found P p) q)
      → ((c : Config) (g s p : List ℕ)
      → rule (world (found G g) (found S s) (state (config_by t c) pt (panel_of (found P p)))) ≡ quietly (world (left G g) (left S s) (state (config_by t c) pt' q))) → Obeys t rule pt G S P r
  unfolding sent_by
  obeys_set pt' q f u e = by_done pt' _ (λ p. q) f u e

  pub obeys_set_two : (pt' : Port) (q : Panel) (a b : ℕ) → r ≡ sending_of pt' (two_bytes a b) → ((p : List ℕ) → left P p ≡ revised (found P p) q)
      → ((c : Config) (g s p : List ℕ)
      → rule (world (found G g) (found S s) (state (config_by t c) pt (panel_of (found P p)))) ≡ done (world (left G g) (left S s) (state (config_by t c) pt' q)) (a ∷ b ∷ [])) → Obeys t rule pt G S P r
  unfolding sent_by
  obeys_set_two pt' q a b f u e = by_done pt' _ (λ p. q) f u e

-- ---- from a function to one that is lent more, and to another rule that says the same

pub record Moved : Type 0 where
  pub config : Config
  pub from_framebuffer : List ℕ
  pub from_store : List ℕ
  pub from_panel : List ℕ
  pub to_framebuffer : List ℕ
  pub to_store : List ℕ
  pub to_panel : List ℕ

abbrev pub moved : Told → Loan → Loan → Loan → Config → List ℕ → List ℕ → List ℕ → Moved
moved t G S P c g s p =
    record {
      config = config_by t c;
      from_framebuffer = found G g;
      from_store = found S s;
      from_panel = found P p;
      to_framebuffer = left G g;
      to_store = left S s;
      to_panel = left P p;
    }

pub obeys_as : {t t' : Told} {of rule : World → Ruled} {pt : Port} {G S P G' S' P' : Loan} {r : Outcome} → Obeys t rule pt G S P r
    → ((c : Config) (g s p : List ℕ) → moved t G S P (config_by t' c) (found G' g) (found S' s) (found P' p) ≡ moved t' G' S' P' c g s p)
    → ((c : Config) (g s p : List ℕ)
    → of (world (found G' g) (found S' s) (state (config_by t' c) pt (panel_of (found P' p)))) ≡ rule (world (found G' g) (found S' s) (state (config_by t' c) pt (panel_of (found P' p)))))
    → Obeys t' of pt G' S' P' r
obeys_as {t' = t'} {rule = rule} {pt = pt} {G' = G'} {S' = S'} {P' = P'} {r = r} o u e =
    record {
      came = λ c g s p.
          rw (e c g s p)
          (subst
          (λ (m : Moved). Came (held m.config m.from_framebuffer m.from_store m.from_panel pt)
          (rule (world m.from_framebuffer m.from_store (state m.config pt (panel_of m.from_panel))))
          (held m.config m.to_framebuffer m.to_store m.to_panel r.port) (sent_by r.reply))
          (u c g s p) (o.came (config_by t' c) (found G' g) (found S' s) (found P' p)));
    }

-- ---- an outcome made of a port that a call made

pub done_with : {n p : Port} {r : Outcome} → n ≡ p → r ≡ done_of n → r ≡ done_of p
done_with e f = f ∙ ap done_of e

pub sending_with : {n p : Port} {q u : Reply} {r : Outcome} → n ≡ p → q ≡ u → r ≡ sending_of n q → r ≡ sending_of p u
sending_with e d f = f ∙ rw (e, d)

pub put_with : (p : Port) {n : Port} {t u : Text} → t ≡ u → n ≡ with_text p t → n ≡ with_text p u
put_with p e f = f ∙ ap (with_text p) e
